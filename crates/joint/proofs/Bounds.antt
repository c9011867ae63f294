-- How large the numbers of an answer are: those of MET and NOT are the decision's, a refused formula is at one of eight positions and its
-- refusal is early, and a subset has eight bits. Assumes nothing.
use mathlib.Core.Path.{◌≡◌, refl, subst, subst⁻¹, ◌∙◌}
use mathlib.Core.List.{List, []}
use Prim.Native.Nat.{ℕ, ◌<◌, ◌≤◌}
use native.Mathlib.Omega.{arith}
use lib.ListN.{length, get_or}
use Rattle.base.specs.Bits.{word}
use Rattle.formula.specs.Refusal.{code_of, PlacesWithin}
use Rattle.formula.proofs.Fuel.{parse_stopped}
use Rattle.formula.proofs.Early.{parse-early}
use Rattle.decision.specs.Verdict.{Verdict}
use Rattle.decision.specs.Contract as decision
use Rattle.decision.specs.Lends.{Lends}
use Rattle.decision.proofs.Bounds.{AnswerSized, verdict_bounded}
use Rattle.decision.proofs.Bounds as decision-bounds
use Rattle.conjunction.specs.Conjunction.{conjoined}
use Rattle.joint.specs.Joint.{Subset, max_formulas, everything, chosen, decided, Attempt, attempted, Shrunk, shrink, Joint, with_core}
use Rattle.joint.specs.Joint.{settled}
use Rattle.joint.specs.Contract.{Answer, says, Jointly}
use Rattle.construction.specs.Questions.{question_code}
use Rattle.joint.specs.declared.Verdict.TheVariants.{Satisfiable, Unsatisfiable}
use Rattle.joint.specs.declared.Refusal.TheVariants.{Damaged, Miscounted, Unread, No, Untried}
use Rattle.std.specs.Prelude.{Ok, Err}
use Rattle.joint.specs.Meaning.{Within}
use Rattle.joint.proofs.SubsetLaws.{everything-length, within-length}
use Rattle.joint.proofs.WordingLaws.{eight-bits}
use Rattle.joint.proofs.ShrinkLaws.{lends-decided}
use Rattle.joint.proofs.ShrinkMeaning.{shrink-stuck, shrink-within}
use Rattle.joint.proofs.Cases.{Cases, joint_cases}

abbrev pub Bounded : (N M : ℕ) → Answer → Type 0
Bounded N M (Err (Damaged place)) = Unit {0}
Bounded N M (Err Miscounted) = Unit {0}
Bounded N M (Err (Unread position why)) = (position < max_formulas) × (code_of why ≤ 9) × PlacesWithin 97 why
Bounded N M (Err (No q)) = question_code q ≤ 13
Bounded N M (Err (Untried s)) = s < 256
Bounded N M (Ok (Satisfiable stem cycle K c)) = AnswerSized N M stem cycle K c
Bounded N M (Ok (Unsatisfiable K P core)) = AnswerSized N M 0 0 K P × (core < 256)

-- a subset of all positions has eight bits
small : {n : ℕ} {s : Subset} → n ≤ max_formulas → Within s (everything n) → word s < 256
small {n} {s} few w = eight-bits s (within-length w ∙ everything-length n few)

module _ (N M w b : ℕ) (bs : List (List ℕ)) (few : length bs ≤ max_formulas) (l : Lends N M w b) where
  verdict-sized : {v : Verdict} → decided N M (conjoined bs) ≡ v → decision-bounds.Bounded N M (decision.says v)
  verdict-sized e =
      subst (λ (v : Verdict). decision-bounds.Bounded N M (decision.says v)) (lends-decided N M (conjoined bs) l ∙ e)
      (verdict_bounded N M w b (conjoined bs))

  abbrev try : Subset → Attempt
  try s = attempted N M (chosen s bs)

  shrunk_bounded : {K P : ℕ} → AnswerSized N M 0 0 K P → (x : Shrunk) → shrink try (length bs) (everything (length bs)) ≡ x
      → Bounded N M (says (with_core K P x))
  shrunk_bounded z (Shrunk.stuck t why) e = small few (shrink-stuck try (length bs) (everything (length bs)) e).within
  shrunk_bounded z (Shrunk.core s) e = (z, small few (shrink-within try (length bs) (everything (length bs)) e))

  settled_bounded : (v : Verdict) → decided N M (conjoined bs) ≡ v → Bounded N M (says (settled N M bs v))
  settled_bounded (Verdict.unread why) e = eight-bits (everything (length bs)) (everything-length (length bs) few)
  settled_bounded (Verdict.refused q) e = eight-bits (everything (length bs)) (everything-length (length bs) few)
  settled_bounded (Verdict.satisfiable stem cycle K c letters) e = verdict-sized e
  settled_bounded (Verdict.unsatisfiable K P) e =
      shrunk_bounded (verdict-sized e) (shrink try (length bs) (everything (length bs))) refl

cases_bounded : {N M w b : ℕ} {catalogue : List ℕ} {o : Joint} → Cases N M w b catalogue o → Bounded N M (says o)
cases_bounded (Cases.damaged e) = tt
cases_bounded (Cases.miscounted m) = tt
cases_bounded (Cases.unread {bs} {i} {why} h f) = (
  omega (arith, f.there, h.few),
  (parse_stopped (get_or bs i []) f.refuses).known,
  parse-early (get_or bs i []) why f.refuses,
)
cases_bounded (Cases.refused h a x y) = y
cases_bounded {N} {M} {w} {b} (Cases.settled bs h a l) = settled_bounded N M w b bs h.few l (decided N M (conjoined bs)) refl

pub jointly_bounded : (bytes : List ℕ) (N M : ℕ) {w w' b b' : List ℕ} {r : Answer}
    → Jointly bytes N M w w' b b' r → Bounded N M r
jointly_bounded bytes N M {w} {b = b} j =
    subst⁻¹ (Bounded N M) j.answered (cases_bounded (joint_cases N M (length w) (length b) bytes))
