-- How large the numbers of a verdict are: K is at most N where one is given, stem and cycle have together at most K letters, and at least
-- one of them is the cycle's; the place of 43 is at most 96, as a formula has at most 48 operators of two bytes; the places of a refusal of
-- reading are at most 97; and a question that is answered by no is one of 11 to 14, so that there is neither 15 nor 36. Assumes nothing.
use mathlib.Core.Path.{◌≡◌, refl, subst⁻¹}
use mathlib.Core.List.{List, [], ◌∷◌}
use mathlib.Core.Bool.{cond}
use Rattle.std.specs.Prelude.{Some, Ok, Err}
use Prim.Native.Nat.{ℕ, ◌+◌, ◌*◌, ◌≤◌, ◌<◌}
use native.Mathlib.Omega.{arith}
use lib.ListN.{length}
use Rattle.base.proofs.AskLaws.{Asked, every_outcome}
use Rattle.base.proofs.BoolLaws.{by_test}
use Rattle.formula.specs.Formula.{Leaf, Formula}
use Rattle.formula.specs.Table.{Operator, Table, table, width}
use Rattle.formula.specs.Refusal.{PlacesWithin}
use Rattle.formula.specs.Reading.{Reading, parse}
use Rattle.formula.proofs.Early.{parse-early}
use Rattle.formula.proofs.Limits.{parse-limited}
use Rattle.formula.proofs.WellFormed.{table-size}
use Rattle.profile.specs.Profiles.{is_least}
use Rattle.construction.specs.Construction.{max_nodes, node_count}
use Rattle.safety.specs.Safety.{Verdict, first_least, verdict}
use Rattle.safety.specs.Contract.{Answer, says, Decided}
use Rattle.construction.specs.declared.Question.{Question}
use Rattle.safety.specs.declared.Verdict.TheVariants.{Satisfiable, Unsatisfiable}
use Rattle.safety.specs.declared.Refusal.TheVariants.{LeastAt, No, Unread}
use Rattle.safety.proofs.VerdictLaws.{Concluded, VerdictCases, verdict-answered}
use Rattle.safety.proofs.Demands.{OfRoom}

-- the numbers of an answer with at most N nodes
pub record Sized (N stem cycle K : ℕ) : Type 0 where
  pub nodes-few : K ≤ N
  pub together : stem + cycle ≤ K
  pub cycle-some : 0 < cycle

abbrev pub Bounded : (N : ℕ) → Answer → Type 0
Bounded N (Ok (Satisfiable stem cycle K)) = Sized max_nodes stem cycle K × (K ≤ N)
Bounded N (Ok (Unsatisfiable K)) = (K ≤ max_nodes) × (K ≤ N)
Bounded N (Err (No q)) = OfRoom q
Bounded N (Err (LeastAt place)) = place ≤ 96
Bounded N (Err (Unread why)) = PlacesWithin 97 why

-- a place of 43 has at most two bytes for each operator before it
width_small : (o : Operator) → width o ≤ 2
width_small (Operator.leaf (Leaf.constant b)) = omega arith
width_small (Operator.leaf (Leaf.signal q j)) = omega arith
width_small (Operator.variable m) = omega arith
width_small (Operator.pair o l r) = omega arith
width_small (Operator.next g) = omega arith
width_small (Operator.fix g l) = omega arith

least-early : (p : ℕ) (t : Table) {place : ℕ} → first_least p t ≡ Some place → place ≤ p + 2 * length t
least-early p [] e = absurd (let z : ◌≡◌ {A = ℕ} 0 1 = cc in omega arith)
least-early p (o ∷ t) {place} e =
    by_test (is_least o) (λ b. cond b (Some p) (first_least (p + width o) t) ≡ Some place → place ≤ p + 2 * length (o ∷ t))
    (λ h q. let i : p ≡ place = cc in omega arith)
    (λ h q. omega (arith, least-early (p + width o) t q, width_small o))
    e

concluded_bounded : (N : ℕ) (t : Table) → N ≤ max_nodes → node_count t ≤ N → (o : Verdict) → Concluded t o → Bounded N (says o)
concluded_bounded N t h k o (Concluded.met c) =
    let around = c.foremost.is_one.counts in
    (record { nodes-few = omega arith; together = c.short; cycle-some = omega (arith, c.cycle_is, around.some_step) }, k)
concluded_bounded N t h k o (Concluded.unmet n) = (omega arith, k)

-- Theorem: the numbers of every verdict are so.
pub verdict_bounded : (N workspace buffer : ℕ) (bytes : List ℕ) → Bounded N (says (verdict N workspace buffer bytes))
verdict_bounded N workspace buffer bytes = by refl (verdict-answered N workspace buffer bytes)
  where
    asked_bounded : {Asks : Type 0} {q : Question} {After : Verdict → Type 0} → OfRoom q
        → (Asks → (o : Verdict) → After o → Bounded N (says o))
        → (o : Verdict) → Asked Asks (Verdict.refused q) After o → Bounded N (says o)
    asked_bounded of f = every_outcome (λ (o : Verdict). Bounded N (says o)) of f

    by : {r : Reading Formula} {o : Verdict} → parse bytes ≡ r → VerdictCases N workspace buffer r o → Bounded N (says o)
    by e (VerdictCases.unread {why}) = parse-early bytes why e
    by e (VerdictCases.least {f} {place} q) =
        omega (arith, least-early 0 (table f) q, table-size f, (parse-limited bytes f e).commands)
    by e (VerdictCases.read {f} {o} q d) =
        asked_bounded (omega arith, omega arith) (λ r. asked_bounded (omega arith, omega arith) (λ _.
        asked_bounded (omega arith, omega arith) (λ _. asked_bounded (omega arith, omega arith) (λ k o c.
        concluded_bounded N (table f) r.1 k o c)))) o d

pub decided_bounded : {bytes : List ℕ} {N : ℕ} {w w' b b' : List ℕ} {v : Answer} → Decided bytes N w w' b b' v → Bounded N v
decided_bounded {bytes} {N} {w} {b = b} d = subst⁻¹ (Bounded N) d.answered (verdict_bounded N (length w) (length b) bytes)
