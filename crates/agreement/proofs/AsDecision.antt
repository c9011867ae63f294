-- Where the decision and the decision with greatest fixpoints alone both answer, they answer the same: MET with the same stem, cycle, K and
-- letters, or NOT with the same K. With greatest fixpoints alone the accepting cycles are the closed runs, so that both witnesses are the
-- first of the same runs, and there is one first (`as_decision`). Of a formula with greatest fixpoints alone the other answers wherever the
-- decision does, with the same N and with areas of 8 N bytes and N letters or more (`answers_too`), so with the decision's own areas
-- (`answers-there`); and then it answers the same (`same-verdict`, `same-there`). It answers too where the decision gives 15
-- (`answers_for_15`). Assumes nothing.
use mathlib.Core.Path.{◌≡◌, sym, ap, subst, subst⁻¹, ◌∙◌}
use mathlib.Core.Bool.{true}
use mathlib.Core.List.{List, ◌++◌, map}
use Prim.Native.Nat.{ℕ, ◌*◌, ◌≤◌, ◌<◌}
use native.Mathlib.Omega.{arith}
use lib.ListN.{length}
use Rattle.formula.specs.Formula.{Formula}
use Rattle.formula.specs.Table.{Table, table}
use Rattle.formula.specs.Reading.{Reading, parse}
use Rattle.lasso.specs.Lasso.{Lasso, over_alphabet, meets}
use Rattle.tableau.specs.Transition.{letter}
use Rattle.tableau.specs.Foremost.{Foremost}
use Rattle.tableau.proofs.ForemostLaws.{one-foremost, foremost_by}
use Rattle.profile.specs.Cycle.{AcceptingCycle}
use Rattle.construction.specs.Construction.{node_count}
use Rattle.construction.specs.declared.Question.TheVariants.{Profiles}
use Rattle.decision.specs.Verdict as decision
use Rattle.decision.specs.Contract.{Witness}
use Rattle.decision.proofs.Answer as whole
use Rattle.decision.proofs.Demands as demands
use Rattle.safety.specs.Safety.{Verdict, verdict}
use Rattle.safety.specs.Closed.{ClosedRun}
use Rattle.safety.proofs.EveryCycle.{Greatest, closed-accepting, accepting-closed}
use Rattle.safety.proofs.VerdictLaws.{Course}
use Rattle.safety.proofs.Demands.{IsAnswer, NoLasso, Says, one-formula, verdict-says, answers_where_nodes_fit}

-- the answer of the decision as that of the other
abbrev pub Same : decision.Verdict → Verdict → Type 0
Same (decision.Verdict.unread why) o = Unit {0}
Same (decision.Verdict.refused q) o = Unit {0}
Same (decision.Verdict.satisfiable stem cycle K c letters) o = o ≡ Verdict.satisfiable stem cycle K letters
Same (decision.Verdict.unsatisfiable K P) o = o ≡ Verdict.unsatisfiable K

-- the two witnesses
one-course : {t : Table} → Greatest t → {a b c d : ℕ} {xs ys : List ℕ} → Course t a b xs → Witness t c d ys
    → (a ≡ c) × (b ≡ d) × (xs ≡ ys)
one-course {t} g u w =
    let first : Foremost t (ClosedRun t) w.there w.around =
    foremost_by t (AcceptingCycle t) (ClosedRun t) (λ v ss. accepting-closed) (λ v ss. closed-accepting t g) w.foremost in
    let (p, q) = one-foremost t (ClosedRun t) (λ v ss c. c.back) u.foremost first in (
      u.stem_is ∙ ap length p ∙ sym w.stem_is,
      u.cycle_is ∙ ap length q ∙ sym w.cycle_is,
      u.letters_are ∙ (λ i. map letter (p i ++ q i)) ∙ sym w.letters_are,
    )

-- NOT of the one and MET of the other
not_both : (bytes : List ℕ) {f g : Formula} → parse bytes ≡ Reading.accepted f → parse bytes ≡ Reading.accepted g → NoLasso f
    → (c : Lasso) → over_alphabet c ≡ true → meets c g ≡ true → ⊥
not_both bytes p q n c s h = n c s (subst⁻¹ (λ (f : Formula). meets c f ≡ true) (one-formula (sym p ∙ q)) h)

agree : (bytes : List ℕ) (d : decision.Verdict) (o : Verdict) → whole.Says bytes d → Says bytes o → IsAnswer o → Same d o
agree bytes d (Verdict.unread why) m n h = absurd h
agree bytes d (Verdict.least_at place) m n h = absurd h
agree bytes d (Verdict.refused s) m n h = absurd h
agree bytes (decision.Verdict.unread why) (Verdict.satisfiable stem cycle K letters) m n h = tt
agree bytes (decision.Verdict.refused q) (Verdict.satisfiable stem cycle K letters) m n h = tt
agree bytes (decision.Verdict.satisfiable stem' cycle' K' c letters') (Verdict.satisfiable stem cycle K letters) m n h =
    let f = one-formula (sym n.reads ∙ m.reads) in
    let (p, q, r) =
    one-course (subst (λ (f : Formula). Greatest (table f)) f n.greatest)
    (subst (λ (f : Formula). Course (table f) stem cycle letters) f n.course) m.witness in
    let k = n.nodes_counted ∙ ap (λ (f : Formula). node_count (table f)) f ∙ sym m.nodes_counted in
    λ i. Verdict.satisfiable (p i) (q i) (k i) (r i)
agree bytes (decision.Verdict.unsatisfiable K' P) (Verdict.satisfiable stem cycle K letters) m n h =
    absurd (not_both bytes m.reads n.reads m.none_holds (whole.lasso letters stem) n.such n.holds)
agree bytes (decision.Verdict.unread why) (Verdict.unsatisfiable K) m n h = tt
agree bytes (decision.Verdict.refused q) (Verdict.unsatisfiable K) m n h = tt
agree bytes (decision.Verdict.satisfiable stem cycle K' c letters) (Verdict.unsatisfiable K) m n h =
    absurd (not_both bytes n.reads m.reads n.none_holds (whole.lasso letters stem) m.such m.holds)
agree bytes (decision.Verdict.unsatisfiable K' P) (Verdict.unsatisfiable K) m n h =
    let f = one-formula (sym n.reads ∙ m.reads) in
    ap Verdict.unsatisfiable (n.nodes_counted ∙ ap (λ (f : Formula). node_count (table f)) f ∙ sym m.nodes_counted)

-- Theorem: whatever the capacities and the sizes of the areas of each, where both answer, they answer the same.
pub as_decision : (N M w b N' w' b' : ℕ) (bytes : List ℕ) → IsAnswer (verdict N' w' b' bytes)
    → Same (decision.verdict N M w b bytes) (verdict N' w' b' bytes)
as_decision N M w b N' w' b' bytes h =
    agree bytes (decision.verdict N M w b bytes) (verdict N' w' b' bytes) (whole.verdict-says N M w b bytes) (verdict-says N' w' b' bytes) h

-- MET,
pub as_decision_met : (N M w b N' w' b' : ℕ) (bytes : List ℕ) → IsAnswer (verdict N' w' b' bytes)
    → (stem cycle K c : ℕ) (letters : List ℕ) → decision.verdict N M w b bytes ≡ decision.Verdict.satisfiable stem cycle K c letters
    → verdict N' w' b' bytes ≡ Verdict.satisfiable stem cycle K letters
as_decision_met N M w b N' w' b' bytes h stem cycle K c letters e =
    subst (λ (d : decision.Verdict). Same d (verdict N' w' b' bytes)) e (as_decision N M w b N' w' b' bytes h)

-- and NOT.
pub as_decision_not : (N M w b N' w' b' : ℕ) (bytes : List ℕ) → IsAnswer (verdict N' w' b' bytes)
    → (K P : ℕ) → decision.verdict N M w b bytes ≡ decision.Verdict.unsatisfiable K P → verdict N' w' b' bytes ≡ Verdict.unsatisfiable K
as_decision_not N M w b N' w' b' bytes h K P e =
    subst (λ (d : decision.Verdict). Same d (verdict N' w' b' bytes)) e (as_decision N M w b N' w' b' bytes h)

-- A formula with greatest fixpoints alone.
module _ (N M w b : ℕ) (bytes : List ℕ) (f : Formula) (reads : parse bytes ≡ Reading.accepted f) (greatest : Greatest (table f)) where
  -- where the decision comes past 14, the other answers: it asks nothing that the decision has not asked
  past_14 : demands.Granted N M w b bytes f → node_count (table f) ≤ N
      → (w' b' : ℕ) → 8 * N ≤ w' → N ≤ b' → IsAnswer (verdict N w' b' bytes)
  past_14 g k w' b' p q =
      let c = g.lends.capacity in
      answers_where_nodes_fit N w' b' bytes f reads greatest c.some_nodes c.few_nodes p q k

  -- the decision's formula is this one
  this : {g : Formula} → demands.Granted N M w b bytes g → g ≡ f
  this h = one-formula (sym h.reads ∙ reads)

  -- Theorem: where the decision gives 15, the other answers.
  pub answers_for_15 : decision.verdict N M w b bytes ≡ decision.Verdict.refused Profiles
      → (w' b' : ℕ) → 8 * N ≤ w' → N ≤ b' → IsAnswer (verdict N w' b' bytes)
  answers_for_15 e =
      let (g, h, k, p, c) = (demands.refused_15_exactly N M w b bytes).0 e in
      past_14 (subst (demands.Granted N M w b bytes) (this h) h) (subst (λ (g : Formula). node_count (table g) ≤ N) (this h) k)

  module _ (answers : demands.IsAnswer (decision.verdict N M w b bytes)) where
    granted : demands.Granted N M w b bytes f
    granted =
        let (g, h) = (demands.granted_exactly N M w b bytes).0 (demands.answer-past (decision.verdict N M w b bytes) answers) in
        subst (demands.Granted N M w b bytes) (this h) h

    nodes_fit : node_count (table f) ≤ N
    nodes_fit =
        not_above (λ l. subst demands.IsAnswer ((demands.refused_14_exactly N M w b bytes).1 (f, granted, l)) answers)
      where
        not_above : {k : ℕ} → (N < k → ⊥) → k ≤ N
        not_above n = omega arith

    -- Theorem: where the decision answers, the other answers with the same N and areas of 8 N bytes and N letters or more,
    pub answers_too : (w' b' : ℕ) → 8 * N ≤ w' → N ≤ b' → IsAnswer (verdict N w' b' bytes)
    answers_too = past_14 granted nodes_fit

    -- and so the same;
    pub same-verdict : (w' b' : ℕ) → 8 * N ≤ w' → N ≤ b' → Same (decision.verdict N M w b bytes) (verdict N w' b' bytes)
    same-verdict w' b' p q = as_decision N M w b N w' b' bytes (answers_too w' b' p q)

    -- the decision's own areas are as large,
    areas_fit : (8 * N ≤ w) × (N ≤ b)
    areas_fit = (omega (arith, granted.lends.workspace_fits), omega (arith, granted.lends.buffer_fits))

    -- and so with them it answers,
    pub answers-there : IsAnswer (verdict N w b bytes)
    answers-there = answers_too w b areas_fit.0 areas_fit.1

    -- and the same.
    pub same-there : Same (decision.verdict N M w b bytes) (verdict N w b bytes)
    same-there = same-verdict w b areas_fit.0 areas_fit.1
