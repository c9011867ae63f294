-- The outcome of some formulas that reading accepts, by what the code's decisions answer. The verdict on the conjunction of all settles
-- it, but where it is NOT: then leaving out goes on, over a workspace that is cleared. A part of an accepted conjunction is accepted
-- (`stuck-part`), so where leaving out is stuck, 14 or 15 refused, and the workspace is as the decision leaves it then (`unmet-leaves`).
-- Assumes nothing.
use mathlib.Core.Path.{◌≡◌, refl, sym, ap, subst, ◌∙◌}
use mathlib.Core.List.{List, [], ◌∷◌}
use Prim.Native.Nat.{ℕ}
use lib.ListN.{length}
use Rattle.base.specs.Bits.{word}
use Rattle.formula.specs.Formula.{Formula}
use Rattle.formula.specs.Table.{table}
use Rattle.formula.specs.Reading.{Reading, parse}
use Rattle.formula.specs.declared.Refusal.{Refusal}
use Rattle.decision.specs.Verdict.{Verdict, decide, after_reading, verdict}
use Rattle.decision.specs.Lends.{Lends}
use Rattle.decision.specs.Contract.{zeroed, Decided}
use Rattle.decision.specs.Contract as decision
use Rattle.construction.specs.declared.Question.{Question}
use Rattle.construction.specs.declared.Refusal as answered
use Rattle.construction.specs.declared.Refusal.TheVariants as answer
use Rattle.decision.specs.declared.Verdict.TheVariants as met
use Rattle.decision.proofs.SettleLaws.{decided_clears}
use Rattle.conjunction.specs.Conjunction.{conjoined, Accepted, Part}
use Rattle.conjunction.proofs.ReadLaws.{part_read}
use Rattle.joint.specs.Joint.{Subset, chosen, everything, decided, Attempt, attempt_of, attempted, Shrunk, shrink, with_core}
use Rattle.joint.specs.Joint.{settled, concluded}
use Rattle.joint.specs.Contract.{Answer, Leaves}
use Rattle.joint.specs.Inner.{Readable, shrunk_told}
use Rattle.joint.specs.declared.Verdict.TheVariants.{Satisfiable, Unsatisfiable}
use Rattle.joint.specs.declared.Refusal as joint
use Rattle.joint.specs.declared.Refusal.TheVariants.{Untried}
use Rattle.std.specs.Prelude.{Result, Ok, Err}
use Rattle.joint.proofs.SubsetLaws.{everything-chosen, within-part}
use Rattle.joint.proofs.ShrinkLaws.{lends-decided}
use Rattle.joint.proofs.ShrinkMeaning.{StuckAt, shrink-stuck}

-- ---- what was read
-- a verdict that is not about reading comes after it
pub unsat_read : (N M : ℕ) (bytes : List ℕ) {K P : ℕ} → decided N M bytes ≡ Verdict.unsatisfiable K P
    → (f : Formula) × (parse bytes ≡ Reading.accepted f)
unsat_read N M bytes {K} {P} e = by (parse bytes) refl e
  where
    by : (r : Reading Formula) → parse bytes ≡ r → after_reading (decide N M) r ≡ Verdict.unsatisfiable K P
        → (f : Formula) × (parse bytes ≡ Reading.accepted f)
    by (Reading.refused why) q e = cc
    by (Reading.accepted f) q e = (f, q)

read_clears : (N M : ℕ) (bytes : List ℕ) {f : Formula} → parse bytes ≡ Reading.accepted f → (w : List ℕ)
    → decision.cleared N M (decided N M bytes) w ≡ zeroed N M w
read_clears N M bytes {f} e w =
    ap (λ (r : Reading Formula). decision.cleared N M (after_reading (decide N M) r) w) e ∙ decided_clears N M (table f) w

-- the answer by what leaving out comes to
abbrev pub core_said : (K P : ℕ) → Result ℕ joint.Refusal → Answer
core_said K P (Err why) = Err why
core_said K P (Ok s) = Ok (Unsatisfiable K P s)

-- ---- where leaving out is stuck
-- a verdict that is no answer
abbrev pub Refusing : Verdict → Type 0
Refusing (Verdict.unread why) = Unit {0}
Refusing (Verdict.refused q) = Unit {0}
Refusing (Verdict.satisfiable stem cycle K c letters) = ⊥
Refusing (Verdict.unsatisfiable K P) = ⊥

unknown-is : (v : Verdict) {why : Verdict} → attempt_of v ≡ Attempt.unknown why → (v ≡ why) × Refusing v
unknown-is (Verdict.unread w) e = (cc, tt)
unknown-is (Verdict.refused q) e = (cc, tt)
unknown-is (Verdict.satisfiable stem cycle K c letters) e = cc
unknown-is (Verdict.unsatisfiable K P) e = cc

-- The conjunction of some formulas is read, and the verdict on it is a refusal.
pub record RefusedPart (N M : ℕ) (cs : List (List ℕ)) (why : Verdict) : Type 0 where
  pub formula : Formula
  pub reads : parse (conjoined cs) ≡ Reading.accepted formula
  pub verdict-is : decided N M (conjoined cs) ≡ why
  pub refuses : Refusing why

module _ (N M : ℕ) (bs : List (List ℕ)) {fs : List Formula} (accepted : Accepted bs fs) {h : Formula}
    (read : parse (conjoined bs) ≡ Reading.accepted h) where
  abbrev try : Subset → Attempt
  try s = attempted N M (chosen s bs)

  pub stuck-part : {t : Subset} {why : Verdict} → StuckAt try (everything (length bs)) t why → RefusedPart N M (chosen t bs) why
  stuck-part {t} {why} s =
      by (chosen t bs) (subst (Part (chosen t bs)) (everything-chosen bs) (within-part s.within bs)) s.tried
    where
      by : (cs : List (List ℕ)) → Part cs bs → attempted N M cs ≡ Attempt.unknown why → RefusedPart N M cs why
      by [] p e = cc
      by (c ∷ cs) p e =
          let (f, r) = part_read p accepted read in
          let (is, no_answer) = unknown-is (decided N M (conjoined (c ∷ cs))) e in
          record { formula = f; reads = r; verdict-is = is; refuses = subst Refusing is no_answer }

  -- the outcome where no lasso meets all, and what it leaves: a cleared workspace, and the buffer as it was
  unmet-leaves : (K P : ℕ) {w b : List ℕ} (x : Shrunk) → shrink try (length bs) (everything (length bs)) ≡ x
      → Leaves N M (with_core K P x) w (zeroed N M w) b b (core_said K P (shrunk_told x))
  unmet-leaves K P {w} (Shrunk.stuck t why) e =
      let r = stuck-part (shrink-stuck try (length bs) (everything (length bs)) e) in
      record {
        answered = refl;
        buffered = refl;
        worked =
            sym (read_clears N M (conjoined (chosen t bs)) r.reads w)
            ∙ ap (λ (v : Verdict). decision.cleared N M v w) r.verdict-is;
      }
  unmet-leaves K P (Shrunk.core s) e = record { answered = refl; buffered = refl; worked = refl }

-- ---- the verdict behind an answer
says-unread : (v : Verdict) {why : Refusal} → decision.says v ≡ Err (answer.Unread why) → v ≡ Verdict.unread why
says-unread (Verdict.unread w) e = cc
says-unread (Verdict.refused q) e = cc
says-unread (Verdict.satisfiable stem cycle K c letters) e = cc
says-unread (Verdict.unsatisfiable K P) e = cc

says-refused : (v : Verdict) {q : Question} → decision.says v ≡ Err (answer.No q) → v ≡ Verdict.refused q
says-refused (Verdict.unread w) e = cc
says-refused (Verdict.refused q) e = cc
says-refused (Verdict.satisfiable stem cycle K c letters) e = cc
says-refused (Verdict.unsatisfiable K P) e = cc

says_sat : (v : Verdict) {stem cycle K c : ℕ} → decision.says v ≡ Ok (met.Satisfiable stem cycle K c)
    → (letters : List ℕ) × (v ≡ Verdict.satisfiable stem cycle K c letters)
says_sat (Verdict.unread w) e = cc
says_sat (Verdict.refused q) e = cc
says_sat (Verdict.satisfiable stem cycle K c letters) e = (letters, cc)
says_sat (Verdict.unsatisfiable K P) e = cc

says_unsat : (v : Verdict) {K P : ℕ} → decision.says v ≡ Ok (met.Unsatisfiable K P) → v ≡ Verdict.unsatisfiable K P
says_unsat (Verdict.unread w) e = cc
says_unsat (Verdict.refused q) e = cc
says_unsat (Verdict.satisfiable stem cycle K c letters) e = cc
says_unsat (Verdict.unsatisfiable K P) e = cc

-- ---- the outcome by the answer on all
-- The conjunction of all formulas was decided, with this answer, from these areas to those.
pub record AllDecided (bs : List (List ℕ)) (N M : ℕ) (w w' b b' : List ℕ) (v : decision.Answer) (s : Subset) : Type 0 where
  pub readable : Readable bs
  pub lends : Lends N M (length w) (length b)
  pub all : s ≡ everything (length bs)
  pub decides : Decided (conjoined (chosen s bs)) N M w w' b b' v

-- in the code there are n of them
pub all-decided : {bs : List (List ℕ)} {n N M : ℕ} {w w' b b' : List ℕ} {v : decision.Answer} {s : Subset} → n ≡ length bs
    → Readable bs → Lends N M (length w) (length b) → s ≡ everything n → Decided (conjoined (chosen s bs)) N M w w' b b' v
    → AllDecided bs N M w w' b b' v s
all-decided c r l e d = record { readable = r; lends = l; all = e ∙ ap everything c; decides = d }

module _ {bs : List (List ℕ)} {N M : ℕ} {w w' b b' : List ℕ} {v : decision.Answer} {s : Subset}
    (h : AllDecided bs N M w w' b b' v s) where
  abbrev whole : Verdict
  whole = decided N M (conjoined bs)

  given : verdict N M (length w) (length b) (conjoined (chosen s bs)) ≡ whole
  given =
      lends-decided N M (conjoined (chosen s bs)) h.lends
      ∙ ap (λ (t : Subset). decided N M (conjoined (chosen t bs))) h.all
      ∙ ap (λ (cs : List (List ℕ)). decided N M (conjoined cs)) (everything-chosen bs)

  answer-is : decision.says whole ≡ v
  answer-is = sym (h.decides.answered ∙ ap decision.says given)

  buffer_is : {x : Verdict} → whole ≡ x → b' ≡ decision.leaves x b
  buffer_is e = h.decides.buffered ∙ ap (λ (x : Verdict). decision.leaves x b) (given ∙ e)

  workspace_is : {x : Verdict} → whole ≡ x → w' ≡ decision.cleared N M x w
  workspace_is e = h.decides.worked ∙ ap (λ (x : Verdict). decision.cleared N M x w) (given ∙ e)

  by_verdict : {x : Verdict} {w₂ : List ℕ} {r : Answer} → whole ≡ x → Leaves N M (settled N M bs x) w w₂ b b' r
      → Leaves N M (concluded N M bs) w w₂ b b' r
  by_verdict {w₂ = w₂} {r} e q = subst (λ (x : Verdict). Leaves N M (settled N M bs x) w w₂ b b' r) (sym e) q

  pub conclude-refusal : {why : answered.Refusal} {x : ℕ} → v ≡ Err why → x ≡ word s
      → Leaves N M (concluded N M bs) w w' b b' (Err (Untried x))
  conclude-refusal {why} {x} e q = by why (answer-is ∙ e)
    where
      by : (why : answered.Refusal) → decision.says whole ≡ Err why → Leaves N M (concluded N M bs) w w' b b' (Err (Untried x))
      by (answer.Unread why) e =
          let is = says-unread whole e in
          by_verdict is (record {
            answered = ap (λ (n : ℕ). Err (Untried n)) (q ∙ ap word h.all);
            buffered = buffer_is is;
            worked = workspace_is is;
          })
      by (answer.No c) e =
          let is = says-refused whole e in
          by_verdict is (record {
            answered = ap (λ (n : ℕ). Err (Untried n)) (q ∙ ap word h.all);
            buffered = buffer_is is;
            worked = workspace_is is;
          })

  pub conclude-met : {stem cycle K c : ℕ} → v ≡ Ok (met.Satisfiable stem cycle K c)
      → Leaves N M (concluded N M bs) w w' b b' (Ok (Satisfiable stem cycle K c))
  conclude-met e =
      let (letters, is) = says_sat whole (answer-is ∙ e) in
      by_verdict is (record { answered = refl; buffered = buffer_is is; worked = workspace_is is })

  -- before leaving out the workspace is cleared
  pub unmet_workspace : {K P : ℕ} → v ≡ Ok (met.Unsatisfiable K P) → w' ≡ zeroed N M w
  unmet_workspace e = workspace_is (says_unsat whole (answer-is ∙ e))

  pub conclude-unmet : {n K P : ℕ} {w₂ : List ℕ} {x : Result ℕ joint.Refusal} {r : Answer} → n ≡ length bs → v ≡ Ok (met.Unsatisfiable K P)
      → w₂ ≡ w' → x ≡ shrunk_told (shrink (λ t. attempted N M (chosen t bs)) n (everything n)) → r ≡ core_said K P x
      → Leaves N M (concluded N M bs) w w₂ b b' r
  conclude-unmet {K = K} {P} {w₂} {x} {r} counts e kept shrunk said =
      let is = says_unsat whole (answer-is ∙ e) in
      let read = (unsat_read N M (conjoined bs) is).1 in
      let try : Subset → Attempt = λ t. attempted N M (chosen t bs) in
      let left = unmet-leaves N M bs h.readable.accepted read K P {w = w} {b = b} (shrink try (length bs) (everything (length bs)))
      refl in
      by_verdict is (record {
        answered =
            said ∙ ap (core_said K P) (shrunk ∙ ap (λ (k : ℕ). shrunk_told (shrink try k (everything k))) counts)
            ∙ left.answered;
        buffered = buffer_is is ∙ left.buffered;
        worked = kept ∙ workspace_is is ∙ left.worked;
      })
