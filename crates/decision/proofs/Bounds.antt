-- How large the numbers of a verdict are. Where one is given N bounds K and M bounds the profiles that it counts, a witness has fewer than
-- K positions before its cycle and at most as many in it as these profiles are, and its letters have sixteen bits; a refusal's number is
-- at most 15, and the places of a refusal of reading at most 97. Assumes nothing.
use Rattle.std.proofs.Common.{◌≡◌, refl, sym, ◌∙◌, inl, inr, List, [], ◌∷◌, ◌++◌, map, ℕ, ◌≤◌, ◌<◌, Ok, Err, arith, length}
use Rattle.std.proofs.Math.ListN.{length-map}
use Rattle.std.proofs.Math.Path.{subst⁻¹}
use mathlib.Core.List.{Memᴰ}
use Rattle.std.proofs.lemmas.List.{map-append}
use mathlib.Core.List.Memᴰ
use Rattle.base.proofs.AskLaws.{Asked, every_outcome}
use Rattle.formula.specs.Formula.{Formula}
use Rattle.formula.specs.Table.{Table}
use Rattle.formula.specs.Refusal.{code_of, PlacesWithin}
use Rattle.formula.specs.Reading.{Reading, parse}
use Rattle.formula.proofs.Fuel.{parse_stopped}
use Rattle.formula.proofs.Early.{parse-early}
use Rattle.tableau.specs.Saturation.{Subset}
use Rattle.tableau.specs.Transition.{Transition, letter}
use Rattle.tableau.specs.Run.{Along}
use Rattle.tableau.proofs.TransitionLaws.{letter_bound}
use Rattle.profile.proofs.CycleLaws.{run_along}
use Rattle.decision.specs.Verdict.{Verdict, verdict}
use Rattle.construction.specs.Construction.{node_count}
use Rattle.construction.specs.Questions.{question_code}
use Rattle.construction.specs.declared.Question.{Question}
use Rattle.construction.specs.declared.Refusal.TheVariants.{Unread, No}
use Rattle.decision.specs.Contract.{Answer, says, Witness, Decided}
use Rattle.decision.specs.declared.Verdict.TheVariants.{Satisfiable, Unsatisfiable}
use Rattle.decision.specs.Lends.{Capacity}
use Rattle.decision.proofs.VerdictLaws.{ProfilesFit, Concluded, witness-shortest, fit-met, fit-unmet, VerdictCases}
use Rattle.decision.proofs.VerdictLaws.{verdict-answered}

pub record AnswerSized (N M stem cycle K P : ℕ) : Type 0 where
  pub capacity : Capacity N M
  pub stem-few : stem < N
  pub cycle-few : cycle ≤ M
  pub nodes-few : K ≤ N
  pub profiles-few : P ≤ M

abbrev pub Bounded : (N M : ℕ) → Answer → Type 0
Bounded N M (Ok (Satisfiable stem cycle K P)) = AnswerSized N M stem cycle K P
Bounded N M (Ok (Unsatisfiable K P)) = AnswerSized N M 0 0 K P
Bounded N M (Err (No q)) = question_code q ≤ 15
Bounded N M (Err (Unread why)) = (code_of why ≤ 9) × PlacesWithin 97 why

module _ {N M : ℕ} where
  asked_bounded : {Yes : Type 0} {q : Question} {After : Verdict → Type 0} → question_code q ≤ 15
      → (Yes → (o : Verdict) → After o → Bounded N M (says o))
      → (o : Verdict) → Asked Yes (Verdict.refused q) After o → Bounded N M (says o)
  asked_bounded h s = every_outcome (λ o. Bounded N M (says o)) h s

  concluded_bounded : (t : Table) → Capacity N M → node_count t ≤ N → ProfilesFit t M → (o : Verdict) → Concluded t o
      → Bounded N M (says o)
  concluded_bounded t c n p o (Concluded.met w) =
      let few = fit-met p (witness-shortest w) in
      record {
        capacity = c;
        stem-few = omega (arith, w.stem_short);
        cycle-few = omega (arith, w.cycle_short, few);
        nodes-few = n;
        profiles-few = few;
      }
  concluded_bounded t c n p o (Concluded.unmet u) =
      record {
        capacity = c;
        stem-few = omega (arith, c.some_nodes);
        cycle-few = omega arith;
        nodes-few = n;
        profiles-few = fit-unmet p u;
      }

  answered_bounded : {workspace buffer : ℕ} (bytes : List ℕ) {r : Reading Formula} → parse bytes ≡ r → (o : Verdict)
      → VerdictCases N M workspace buffer r o
      → Bounded N M (says o)
  answered_bounded bytes e o (VerdictCases.unread {why}) = ((parse_stopped bytes e).known, parse-early bytes why e)
  answered_bounded bytes e o (VerdictCases.read d) =
      asked_bounded (omega arith)
      (λ c. asked_bounded (omega arith)
      (λ _. asked_bounded (omega arith)
      (λ _. asked_bounded (omega arith) (λ n. asked_bounded (omega arith) (λ p. concluded_bounded _ c n p))))) o d

-- Theorem: the verdict's numbers are bounded,
pub verdict_bounded : (N M workspace buffer : ℕ) (bytes : List ℕ) → Bounded N M (says (verdict N M workspace buffer bytes))
verdict_bounded N M workspace buffer bytes =
    answered_bounded bytes refl (verdict N M workspace buffer bytes) (verdict-answered N M workspace buffer bytes)

-- and so is what the decision answers.
pub decided_bounded : {bytes : List ℕ} {N M : ℕ} {w w' b b' : List ℕ} {v : Answer} → Decided bytes N M w w' b b' v → Bounded N M v
decided_bounded {bytes} {N} {M} {w} {b} d =
    subst⁻¹ (Bounded N M) d.answered (verdict_bounded N M (length w) (length b) bytes)

-- letters of sixteen bits
abbrev pub LettersSmall : List ℕ → Type 0
LettersSmall xs = (x : ℕ) → Memᴰ x xs → x < 65536

one-small : {x : ℕ} → x < 65536 → LettersSmall (x ∷ [])
one-small h y i = subst⁻¹ (λ (z : ℕ). z < 65536) (Memᴰ.eq_of_singleton i) h

more-small : (xs : List ℕ) (x : ℕ) → LettersSmall xs → x < 65536 → LettersSmall (xs ++ (x ∷ []))
more-small xs x k h y i =
    elim (Memᴰ.append_cases xs i) [
      | inl a ↦ k y a
      | inr b ↦ one-small h y b
    ]

-- one transition more
step_small : (ss : List Transition) (s : Transition) → LettersSmall (map letter ss) → letter s < 65536
    → LettersSmall (map letter (ss ++ (s ∷ [])))
step_small ss s k h = subst⁻¹ LettersSmall (map-append letter ss (s ∷ [])) (more-small (map letter ss) (letter s) k h)

module _ (t : Table) where
  along_small : {v u : Subset} {ss : List Transition} → Along t v ss u → LettersSmall (map letter ss)
  along_small Along.stay = λ x i. absurd (Memᴰ.not-nil i)
  along_small (Along.on {u} {ss} {s} a m) = step_small ss s (along_small a) (letter_bound t u m)

-- the letters of a witness: those before the cycle, and its own
pub record LettersParted (stem cycle : ℕ) (letters : List ℕ) : Type 0 where
  pub before : List ℕ
  pub around : List ℕ
  pub parts : letters ≡ before ++ around
  pub stem_is : stem ≡ length before
  pub cycle_is : cycle ≡ length around
  pub before_small : LettersSmall before
  pub around-small : LettersSmall around

pub witness_parted : {t : Table} {stem cycle : ℕ} {letters : List ℕ} → Witness t stem cycle letters → LettersParted stem cycle letters
witness_parted {t} w =
    record {
      before = map letter w.there;
      around = map letter w.around;
      parts = w.letters_are ∙ map-append letter w.there w.around;
      stem_is = w.stem_is ∙ sym (length-map w.there letter);
      cycle_is = w.cycle_is ∙ sym (length-map w.around letter);
      before_small = along_small t w.foremost.is_one.leads;
      around-small = along_small t (run_along t w.foremost.is_one.counts.run);
    }
