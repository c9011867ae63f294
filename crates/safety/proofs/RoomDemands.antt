-- What is asked of N and of the two areas, each demand as one theorem, for any bytes. Nothing of 1 to 9, 43 and 11 to 13 refuses exactly if
-- the bytes are a formula with greatest fixpoints alone, N is from 1 to 1024, and 8 N bytes and N letters are lent (`granted_exactly`). The
-- verdict is 14 exactly if then K is above N (`refused_14_exactly`). More room never alters MET or NOT (`more_room`). The inputs settle
-- what a call answers and what it leaves in both areas (`decided-settled`). Assumes nothing.
use mathlib.Core.Path.{◌≡◌, refl, sym, subst, subst⁻¹, ◌∙◌}
use mathlib.Core.Logic.{◌↔◌}
use Rattle.std.specs.Prelude.{Option, None, Some}
use mathlib.Core.List.{List}
use Prim.Native.Nat.{ℕ, ◌*◌, ◌≤◌, ◌<◌}
use native.Mathlib.Omega.{arith}
use Rattle.base.proofs.AskLaws.{Asked, first_refusal, passed, settled}
use Rattle.formula.specs.Formula.{Formula}
use Rattle.formula.specs.Table.{Table, table}
use Rattle.formula.specs.Reading.{Reading, parse}
use Rattle.construction.specs.Construction.{node_count}
use Rattle.construction.specs.declared.Question.{Question}
use Rattle.construction.specs.declared.Question.TheVariants.{Nodes}
use Rattle.safety.specs.Safety.{Verdict, first_least, decide, ask_greatest, after_reading, verdict}
use Rattle.construction.specs.Questions.{question_code}
use Rattle.safety.specs.Contract.{Answer, Decided}
use Rattle.safety.specs.Inner.{Lent, concluded}
use Rattle.safety.proofs.EveryCycle.{Greatest, none-least}
use Rattle.safety.proofs.VerdictLaws.{Concluded, From11, From14, past_13, questions, asked-all, VerdictCases, verdict-answered}
use Rattle.safety.proofs.Demands.{IsAnswer, concluded-answer, from_11}

-- the verdict is no refusal from 1 to 9, 43, or from 11 to 13
abbrev pub Past13 : Verdict → Type 0
Past13 (Verdict.unread why) = ⊥
Past13 (Verdict.least_at place) = ⊥
Past13 (Verdict.refused q) = 14 ≤ question_code q
Past13 (Verdict.satisfiable stem cycle K letters) = Unit {0}
Past13 (Verdict.unsatisfiable K) = Unit {0}

-- The questions 1 to 9, 43 and 11 to 13 are answered by yes: the bytes are a formula, its fixpoints are greatest, N is in range, both
-- areas are large enough.
pub record Granted (N workspace buffer : ℕ) (bytes : List ℕ) (f : Formula) : Type 0 where
  pub reads : parse bytes ≡ Reading.accepted f
  pub greatest : Greatest (table f)
  pub lent : Lent N workspace buffer

-- a question before 14 was answered by yes
yes-before : {Asks : Type 0} {q : Question} {After : Verdict → Type 0} {o : Verdict} → Asked Asks (Verdict.refused q) After o
    → question_code q < 14 → Past13 o → Asks × After o
yes-before a l p = settled a (λ e. before l (subst Past13 e p))
  where
    before : {code : ℕ} → code < 14 → 14 ≤ code → ⊥
    before l k = omega arith

-- an answer has passed a question
yes-answered : {Asks : Type 0} {q : Question} {After : Verdict → Type 0} {o : Verdict} → Asked Asks (Verdict.refused q) After o
    → IsAnswer o → Asks × After o
yes-answered a h = settled a (λ e. subst IsAnswer e h)

past_14 : {N : ℕ} {t : Table} {o : Verdict} → From14 N t (Concluded t) o → Past13 o
past_14 (Asked.answered-no n) = omega arith
past_14 (Asked.answered-yes q (Concluded.met c)) = tt
past_14 (Asked.answered-yes q (Concluded.unmet n)) = tt

only_14 : {N : ℕ} {t : Table} {o : Verdict} → From14 N t (Concluded t) o → o ≡ Verdict.refused Nodes → N < node_count t
only_14 (Asked.answered-no n) e = omega arith
only_14 (Asked.answered-yes q c) e = absurd (subst IsAnswer e (concluded-answer c))

module _ (N workspace buffer : ℕ) (bytes : List ℕ) where
  from_14 : {f : Formula} → Granted N workspace buffer bytes f → From14 N (table f) (Concluded (table f)) (verdict N workspace buffer bytes)
  from_14 {f} g = past_13 (from_11 N workspace buffer bytes f g.reads g.greatest) g.lent

  answered-granted : {r : Reading Formula} {o : Verdict} → parse bytes ≡ r → VerdictCases N workspace buffer r o → Past13 o
      → (f : Formula) × Granted N workspace buffer bytes f
  answered-granted e VerdictCases.unread p = absurd p
  answered-granted e (VerdictCases.least q) p = absurd p
  answered-granted e (VerdictCases.read {f} q d) p =
      let (c, d12) = yes-before d (omega arith) p in
      let (w, d13) = yes-before d12 (omega arith) p in
      let (b, d14) = yes-before d13 (omega arith) p in (
        f,
        record {
          reads = e;
          greatest = none-least 0 (table f) q;
          lent = record { some_nodes = c.0; few_nodes = c.1; workspace_fits = w; buffer_fits = b };
        },
      )

  -- Theorem: nothing of 1 to 9, 43 and 11 to 13 refuses exactly if the bytes are a formula with greatest fixpoints alone, and N and the
  -- areas are as asked.
  pub granted_exactly : Past13 (verdict N workspace buffer bytes) ↔ ((f : Formula) × Granted N workspace buffer bytes f)
  granted_exactly = (λ p. answered-granted refl (verdict-answered N workspace buffer bytes) p, λ h. past_14 (from_14 h.1))

  -- Theorem: the verdict is 14 exactly if nothing of these refuses and K is above N.
  pub refused_14_exactly : (verdict N workspace buffer bytes ≡ Verdict.refused Nodes)
      ↔ ((f : Formula) × Granted N workspace buffer bytes f × (N < node_count (table f)))
  refused_14_exactly = (
    λ e. let (f, g) = granted_exactly.0 (subst⁻¹ Past13 e (omega arith)) in (f, g, only_14 (from_14 g) e),
    λ h. first_refusal (from_14 h.1) (λ k. omega (arith, h.2)),
  )

-- the questions with the answer that the definition has behind them
to-concluded : (N workspace buffer : ℕ) (t : Table)
    → From11 N workspace buffer (From14 N t (λ o. o ≡ concluded t)) (questions N workspace buffer t)
to-concluded N workspace buffer t = asked-all N workspace buffer t {After = λ o. o ≡ concluded t} refl

-- More room: N may grow, and the areas with it.
module _ (N w b N' w' b' : ℕ) (more : N ≤ N') (few : N' ≤ 1024) (bytes-lent : 8 * N' ≤ w') (letters-lent : N' ≤ b') where
  more-asked : (t : Table) → IsAnswer (questions N w b t) → questions N' w' b' t ≡ questions N w b t
  more-asked t h =
      let (c, a12) = yes-answered (to-concluded N w b t) h in
      let (d, a13) = yes-answered a12 h in
      let (e, a14) = yes-answered a13 h in
      let (k, o) = yes-answered a14 h in
      passed (past_13 (to-concluded N' w' b' t) (enough c.0)) (omega arith) ∙ sym o
    where
      enough : 1 ≤ N → Lent N' w' b'
      enough l = record { some_nodes = omega arith; few_nodes = few; workspace_fits = bytes-lent; buffer_fits = letters-lent }

  more-greatest : (o : Option ℕ) (t : Table) → IsAnswer (ask_greatest o (questions N w b t))
      → ask_greatest o (questions N' w' b' t) ≡ ask_greatest o (questions N w b t)
  more-greatest None t h = more-asked t h
  more-greatest (Some place) t h = absurd h

  more_read : (r : Reading Formula) → IsAnswer (after_reading N w b r) → after_reading N' w' b' r ≡ after_reading N w b r
  unfolding table decide
  more_read (Reading.refused why) h = absurd h
  more_read (Reading.accepted f) h = more-greatest (first_least 0 (table f)) (table f) h

  -- Theorem: a MET or NOT that is given is given with more room too, with the same numbers.
  pub more_room : (bytes : List ℕ) → IsAnswer (verdict N w b bytes) → verdict N' w' b' bytes ≡ verdict N w b bytes
  unfolding verdict
  more_room bytes h = more_read (parse bytes) h

-- Theorem: two calls with the same inputs answer the same, and leave the same in both areas.
pub decided-settled : {bytes : List ℕ} {N : ℕ} {w w₁ w₂ b b₁ b₂ : List ℕ} {r s : Answer} → Decided bytes N w w₁ b b₁ r
    → Decided bytes N w w₂ b b₂ s → (r ≡ s) × (b₁ ≡ b₂) × (w₁ ≡ w₂)
decided-settled d e = (d.answered ∙ sym e.answered, d.buffered ∙ sym e.buffered, d.worked ∙ sym e.worked)
