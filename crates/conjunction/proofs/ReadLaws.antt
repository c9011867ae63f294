-- Reading a conjunction of accepted formulas. Its bytes spell it, it is closed, guarded and in range as each of them is, so reading gives
-- acceptance, 3 or 4, and nothing else. A part of it has at most as many operators of each kind: where the whole is accepted, so is the
-- part. Assumes nothing.
use mathlib.Core.Path.{◌≡◌, sym, ap, subst, subst⁻¹, ◌∙◌}
use mathlib.Core.Bool.{Bool, false}
use mathlib.Core.List.{List, [], ◌∷◌, ◌++◌}
use Prim.Native.Nat.{ℕ, ◌≤◌}
use native.Mathlib.Omega.{arith}
use Rattle.formula.specs.Formula.{Formula}
use Rattle.formula.specs.Reading.{Opcode, byte_of, Reading, parse}
use Rattle.formula.specs.Occurrence.{Guarded, Ranged}
use Rattle.formula.specs.Ways.{spelled}
use Rattle.formula.proofs.Commands.{or_command, next-command, fix-command}
use Rattle.formula.proofs.Limits.{tally, any, size_tally, size-some, WithinLimits, parse-limited}
use Rattle.formula.proofs.Guarded.{parse-guarded}
use Rattle.formula.proofs.Spelling.{parse-spelled}
use Rattle.formula.proofs.Reread.{Reread, spelled_read, limited_read}
use Rattle.conjunction.specs.Conjunction.{conjoined, conjunction, Accepted, Part}
use Rattle.conjunction.proofs.PartLaws.{part-accepted, accepted-same}

pub conjoined-spelled : {b : List ℕ} {f : Formula} {bs : List (List ℕ)} {fs : List Formula} → Accepted (b ∷ bs) (f ∷ fs)
    → conjoined (b ∷ bs) ≡ spelled (conjunction (f ∷ fs))
conjoined-spelled {b} {f} (Accepted.more e Accepted.none) = parse-spelled b f e
conjoined-spelled {b} {f} (Accepted.more e (Accepted.more d a)) =
    let first = parse-spelled b f e in
    let rest = conjoined-spelled (Accepted.more d a) in
    λ i. byte_of (Opcode.pair false) ∷ (first i ++ rest i)

-- what is so of true, of each accepted formula, and of an and where it is of its operands, is so of the conjunction
of_conjunction : (P : Formula → Type 0) → P (conjunction []) → ((b : List ℕ) (f : Formula) → parse b ≡ Reading.accepted f → P f)
    → ((f g : Formula) → P f → P g → P (Formula.pair false f g)) → {bs : List (List ℕ)} {fs : List Formula} → Accepted bs fs
    → P (conjunction fs)
of_conjunction P of-true of-read of_and Accepted.none = of-true
of_conjunction P of-true of-read of_and (Accepted.more {b} {f} e Accepted.none) = of-read b f e
of_conjunction P of-true of-read of_and (Accepted.more {b} {f} e (Accepted.more d a)) =
    of_and f _ (of-read b f e) (of_conjunction P of-true of-read of_and (Accepted.more d a))

conjunction-guarded : {bs : List (List ℕ)} {fs : List Formula} → Accepted bs fs → Guarded [] (conjunction fs)
conjunction-guarded = of_conjunction (Guarded []) tt parse-guarded (λ f g p q. (p, q))

conjunction-ranged : {bs : List (List ℕ)} {fs : List Formula} → Accepted bs fs → Ranged (conjunction fs)
conjunction-ranged = of_conjunction Ranged tt (λ b f e. (parse-limited b f e).signals) (λ f g p q. (p, q))

-- acceptance, 3 or 4, and nothing else
pub conjunction_read : {b : List ℕ} {f : Formula} {bs : List (List ℕ)} {fs : List Formula} → Accepted (b ∷ bs) (f ∷ fs)
    → Reread (conjunction (f ∷ fs)) (parse (conjoined (b ∷ bs)))
conjunction_read {f = f} {fs = fs} a =
    let g = conjunction (f ∷ fs) in
    subst⁻¹ (λ (l : List ℕ). Reread g (parse l)) (conjoined-spelled a) (spelled_read g (conjunction-guarded a) (conjunction-ranged a))

reread_accepted : {f g : Formula} {x : Reading Formula} → Reread f x → x ≡ Reading.accepted g → g ≡ f
reread_accepted Reread.accepted e = accepted-same (sym e)
reread_accepted (Reread.too_large code place c large) e = absurd (let z : ◌≡◌ {A = ℕ} 0 1 = cc in omega arith)

-- what is accepted is the conjunction
pub conjunction-accepted : {b : List ℕ} {f : Formula} {bs : List (List ℕ)} {fs : List Formula} → Accepted (b ∷ bs) (f ∷ fs)
    → {g : Formula} → parse (conjoined (b ∷ bs)) ≡ Reading.accepted g → g ≡ conjunction (f ∷ fs)
conjunction-accepted a e = reread_accepted (conjunction_read a) e

-- How many operators pass a test. (`least`: true has no more of them than any formula.)
module _ (test : Opcode → Bool) (least : (f : Formula) → tally test (conjunction []) ≤ tally test f) where
  part_tally : {gs fs : List Formula} → Part gs fs → tally test (conjunction gs) ≤ tally test (conjunction fs)
  part_tally Part.none = omega arith
  part_tally (Part.skip {x} {ys = []} Part.none) = least x
  part_tally (Part.skip {x} {ys = y ∷ ys} p) = omega (arith, part_tally p)
  part_tally (Part.keep {x} {xs = []} {ys = []} p) = omega arith
  part_tally (Part.keep {x} {xs = []} {ys = y ∷ ys} p) = omega arith
  part_tally (Part.keep {x} {xs = z ∷ xs} {ys = y ∷ ys} p) = omega (arith, part_tally p)
  part_tally (Part.keep {x} {xs = z ∷ xs} {ys = []} p) = elim p [ ]

part-limits : {gs fs : List Formula} → Part gs fs → WithinLimits (conjunction fs) → Ranged (conjunction gs)
    → WithinLimits (conjunction gs)
part-limits {gs} {fs} p l r =
    record {
      some = size-some (conjunction gs);
      commands = omega (
        arith,
        part_tally any (λ f. omega (arith, size_tally f, size-some f)) p,
        size_tally (conjunction gs),
        size_tally (conjunction fs),
        l.commands,
      );
      ors = omega (arith, part_tally or_command (λ f. omega arith) p, l.ors);
      nexts = omega (arith, part_tally next-command (λ f. omega arith) p, l.nexts);
      fixpoints = omega (arith, part_tally fix-command (λ f. omega arith) p, l.fixpoints);
      signals = r;
    }

part-accepts : {c : List ℕ} {cs : List (List ℕ)} {gs fs : List Formula} → Accepted (c ∷ cs) gs → Part gs fs
    → WithinLimits (conjunction fs) → (g : Formula) × (parse (conjoined (c ∷ cs)) ≡ Reading.accepted g)
part-accepts {gs = gs} (Accepted.more d a) p l =
    let b = Accepted.more d a in
    let limits = part-limits p l (conjunction-ranged b) in
    (conjunction gs, ap parse (conjoined-spelled b) ∙ limited_read (conjunction gs) (conjunction-guarded b) limits)

-- a part of an accepted conjunction is accepted
pub part_read : {c : List ℕ} {cs bs : List (List ℕ)} {fs : List Formula} → Part (c ∷ cs) bs → Accepted bs fs → {h : Formula}
    → parse (conjoined bs) ≡ Reading.accepted h → (g : Formula) × (parse (conjoined (c ∷ cs)) ≡ Reading.accepted g)
part_read {bs = bs} p (Accepted.more d a) {h} e =
    let r = part-accepted p (Accepted.more d a) in
    part-accepts r.1 r.2 (subst WithinLimits (conjunction-accepted (Accepted.more d a) e) (parse-limited (conjoined bs) h e))
part_read p Accepted.none e = elim p [ ]
