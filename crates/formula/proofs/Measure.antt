-- How many bytes a formula has: at least one, and at most two for each operator. So what reading accepts has 1 to 96. Assumes nothing.
use Rattle.std.proofs.Common.{◌≡◌, ap, List, ℕ, ◌*◌, ◌≤◌, ◌<◌, arith, length, length-append}
use Rattle.formula.specs.Formula.{Leaf, Formula, size}
use Rattle.formula.specs.Reading.{Reading, parse}
use Rattle.formula.specs.Ways.{spelled}
use Rattle.formula.proofs.Spelling.{parse-spelled}
use Rattle.formula.proofs.Limits.{parse-limited}

-- an operator has one byte or two
pub spelled-length : (f : Formula) → (0 < length (spelled f)) × (length (spelled f) ≤ 2 * size f)
spelled-length (Formula.leaf (Leaf.constant b)) = (omega arith, omega arith)
spelled-length (Formula.leaf (Leaf.signal present s)) = (omega arith, omega arith)
spelled-length (Formula.variable d) = (omega arith, omega arith)
spelled-length (Formula.pair o a b) =
    (omega arith, omega (arith, (spelled-length a).1, (spelled-length b).1, length-append (spelled a) (spelled b)))
spelled-length (Formula.next a) = (omega arith, omega (arith, (spelled-length a).1))
spelled-length (Formula.fix g a) = (omega arith, omega (arith, (spelled-length a).1))

-- and at most 48 are accepted
pub accepted-length : (b : List ℕ) {f : Formula} → parse b ≡ Reading.accepted f → (0 < length b) × (length b ≤ 96)
accepted-length b {f} e =
    let n = spelled-length f in
    let same = ap length (parse-spelled b f e) in
    (omega (arith, n.0, same), omega (arith, n.1, same, (parse-limited b f e).commands))
