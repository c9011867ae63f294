-- The outcome by the questions, each with what its answer says of the catalogue: which one refuses, or that all formulas are accepted and
-- the areas are large enough, and then the decision settles it. What the outcomes mean (Meaning) and how large their numbers are (Bounds)
-- go by these cases. Assumes nothing.
use mathlib.Core.Path.{◌≡◌, refl, ap, subst, subst⁻¹, ◌∙◌}
use mathlib.Core.Logic.{◌⊎◌, inl, inr}
use mathlib.Core.List.{List, [], ◌∷◌}
use Prim.Native.Nat.{ℕ, zero, suc, ◌+◌, ◌≤◌, ◌<◌}
use native.Mathlib.Omega.{arith}
use lib.Dec.{T, leb, leb→le, le→leb}
use lib.ListN.{length, get_or, length-map}
use Rattle.base.specs.Ask.{ask}
use Rattle.base.proofs.BoolLaws.{by_test, and_left, and_right, and_both}
use Rattle.base.proofs.AskLaws.{Asked}
use Rattle.formula.specs.Formula.{Formula}
use Rattle.formula.specs.Reading.{Reading, parse}
use Rattle.formula.specs.declared.Refusal.{Refusal}
use Rattle.construction.specs.Construction.{between}
use Rattle.decision.specs.Verdict.{Verdict, ask_room}
use Rattle.decision.specs.Lends.{Lends}
use Rattle.decision.proofs.VerdictLaws.{From11}
use Rattle.decision.proofs.SettleLaws.{asked_of}
use Rattle.catalogue.specs.Records.{Records, records}
use Rattle.conjunction.specs.Conjunction.{Accepted}
use Rattle.joint.specs.Joint.{Joint, max_formulas, concluded, ask_read, bytes_of, formulas, of_records, joint}
use Rattle.joint.specs.Meaning.{Miscounted, HasFormulas, FirstRefused}
use Rattle.joint.specs.Inner.{check_on, checked}
use Rattle.std.specs.Prelude.{Result, Ok, Err}
use Rattle.construction.specs.Questions.{question_code}
use Rattle.construction.specs.declared.Question.{Question}
use Rattle.construction.specs.declared.Question.TheVariants.{Capacity, Workspace, Buffer}
use Rattle.joint.specs.declared.Refusal as joint
use Rattle.joint.specs.declared.Refusal.TheVariants.{Unread}
use Rattle.joint.proofs.CheckLaws.{checked_unread, checked-all, read_yes, read_no}
use Rattle.joint.proofs.AskedLaws.{joint_of, granted, room-joint}

pub data Cases (N M w b : ℕ) (catalogue : List ℕ) : Joint → Type 0 where
  damaged : {place : ℕ} → records catalogue ≡ Records.damaged place → Cases N M w b catalogue (Joint.damaged place)
  miscounted : Miscounted catalogue → Cases N M w b catalogue Joint.miscounted
  unread : {bs : List (List ℕ)} {i : ℕ} {why : Refusal} → HasFormulas catalogue bs → FirstRefused bs i why
      → Cases N M w b catalogue (Joint.unread i why)
  refused : {bs : List (List ℕ)} {fs : List Formula} {q : Question} → HasFormulas catalogue bs → Accepted bs fs → 11 ≤ question_code q
      → question_code q ≤ 13 → Cases N M w b catalogue (Joint.refused q)
  settled : (bs : List (List ℕ)) {fs : List Formula} → HasFormulas catalogue bs → Accepted bs fs → Lends N M w b
      → Cases N M w b catalogue (concluded N M bs)

-- ---- reading
-- counted from another position
record RefusedFrom (k : ℕ) (bs : List (List ℕ)) (i : ℕ) (why : Refusal) : Type 0 where
  number : ℕ
  at : i ≡ k + number
  first : FirstRefused bs number why

refused-here : {k : ℕ} {b : List ℕ} {bs : List (List ℕ)} {why : Refusal} → parse b ≡ Reading.refused why → RefusedFrom k (b ∷ bs) k why
refused-here e = record {
  number = 0;
  at = omega arith;
  first = record { there = omega arith; refuses = e; earlier = λ j l. absurd (omega arith) };
}

refused-later : {k i : ℕ} {b : List ℕ} {bs : List (List ℕ)} {f : Formula} {why : Refusal} → parse b ≡ Reading.accepted f
    → RefusedFrom (k + 1) bs i why → RefusedFrom k (b ∷ bs) i why
refused-later {k} {i} {b} {bs} {f} {why} e r =
    let h = r.first in
    record {
      number = suc r.number;
      at = omega (arith, r.at);
      first = record {
        there = omega (arith, h.there);
        refuses = h.refuses;
        earlier = before h.earlier;
      };
    }
  where
    before : {n : ℕ} → ((j : ℕ) → j < n → (g : Formula) × (parse (get_or bs j []) ≡ Reading.accepted g))
        → (j : ℕ) → j < suc n → (g : Formula) × (parse (get_or (b ∷ bs) j []) ≡ Reading.accepted g)
    before h zero l = (f, e)
    before h (suc j) l = h j (omega arith)

checked_not : (k : ℕ) (bs : List (List ℕ)) {i : ℕ} {why : Refusal} → checked k bs ≡ Err (Unread i why) → RefusedFrom k bs i why
checked_not k [] e = absurd (let z : ◌≡◌ {A = ℕ} 0 1 = cc in omega arith)
checked_not k (b ∷ bs) {i} {why} e = by (parse b) refl e (checked_not (k + 1) bs)
  where
    by : (r : Reading Formula) → parse b ≡ r → check_on k r (checked (k + 1) bs) ≡ Err (Unread i why)
        → (checked (k + 1) bs ≡ Err (Unread i why) → RefusedFrom (k + 1) bs i why) → RefusedFrom k (b ∷ bs) i why
    by (Reading.refused w) q e rest =
        let same : k ≡ i = cc in
        let told : w ≡ why = cc in
        subst (λ (j : ℕ). RefusedFrom k (b ∷ bs) j why) same (refused-here (q ∙ ap Reading.refused told))
    by (Reading.accepted f) q e rest = refused-later q (rest e)

first_of : {bs : List (List ℕ)} {i : ℕ} {why : Refusal} → RefusedFrom 0 bs i why → FirstRefused bs i why
first_of {bs} {i} {why} r = subst (λ (j : ℕ). FirstRefused bs j why) {x = r.number} {y = i} (omega (arith, r.at)) r.first

-- ---- question 34
in_range : (n : ℕ) → T (between 1 max_formulas n) → (1 ≤ n) × (n ≤ max_formulas)
in_range n t =
    (leb→le 1 n (and_left (leb 1 n) (leb n max_formulas) t), leb→le n max_formulas (and_right (leb 1 n) (leb n max_formulas) t))

out_of_range : (n : ℕ) → (T (between 1 max_formulas n) → ⊥) → (n ≡ 0) ⊎ (max_formulas < n)
out_of_range zero h = inl refl
out_of_range (suc n) h =
    inr (not_below (λ (l : suc n ≤ max_formulas).
    h (and_both (leb 1 (suc n)) (leb (suc n) max_formulas) (le→leb 1 (suc n) (omega arith)) (le→leb (suc n) max_formulas l))))
  where
    not_below : {m : ℕ} → (m ≤ max_formulas → ⊥) → max_formulas < m
    not_below f = omega arith

-- ---- all of them
module _ (N M w b : ℕ) (catalogue : List ℕ) where
  abbrev Case : Joint → Type 0
  Case = Cases N M w b catalogue

  module _ {bs : List (List ℕ)} (h : HasFormulas catalogue bs) where
    room_cases : {fs : List Formula} → Accepted bs fs → Case (ask_room Joint.refused N M w b (concluded N M bs))
    room_cases a = subst⁻¹ Case (room-joint N M w b (concluded N M bs)) (by (asked_of N M w b granted))
      where
        by : {o : Verdict} → From11 N M w b (λ o. o ≡ granted) o → Case (joint_of (concluded N M bs) o)
        by (Asked.answered-no n) = Cases.refused {q = Capacity} h a (omega arith) (omega arith)
        by (Asked.answered-yes c (Asked.answered-no n)) = Cases.refused {q = Workspace} h a (omega arith) (omega arith)
        by (Asked.answered-yes c (Asked.answered-yes x (Asked.answered-no n))) =
            Cases.refused {q = Buffer} h a (omega arith) (omega arith)
        by (Asked.answered-yes c (Asked.answered-yes x (Asked.answered-yes y e))) =
            subst⁻¹ (λ (o : Verdict). Case (joint_of (concluded N M bs) o)) e
            (Cases.settled bs h a (record { capacity = c; workspace_fits = x; buffer_fits = y }))

    read_cases : Case (ask_read 0 bs (ask_room Joint.refused N M w b (concluded N M bs)))
    read_cases = by (checked 0 bs) refl
      where
        after : Joint
        after = ask_room Joint.refused N M w b (concluded N M bs)

        by : (c : Result (Unit {0}) joint.Refusal) → checked 0 bs ≡ c → Case (ask_read 0 bs after)
        by (Ok u) e = subst⁻¹ Case (read_yes 0 bs after e) (room_cases (checked-all 0 bs e).1)
        by (Err why) e = let (i, w, q) = checked_unread 0 bs e in
            subst⁻¹ Case (read_no 0 bs after (e ∙ ap Err q)) (Cases.unread h (first_of (checked_not 0 bs (e ∙ ap Err q))))

  -- Theorem: every outcome is one of these.
  pub joint_cases : Cases N M w b catalogue (joint N M w b catalogue)
  unfolding joint
  joint_cases = by (records catalogue) refl
    where
      by : (rs : Records) → records catalogue ≡ rs → Cases N M w b catalogue (of_records N M w b catalogue rs)
      by (Records.damaged place) e = Cases.damaged e
      by (Records.whole rs) e =
          let bs = formulas catalogue rs in
          let same = length-map rs (bytes_of catalogue) in
          by_test (between 1 max_formulas (length bs))
          (λ x. Cases N M w b catalogue
          (ask x Joint.miscounted (ask_read 0 bs (ask_room Joint.refused N M w b (concluded N M bs)))))
          (λ t. let (some, few) = in_range (length bs) t in
          read_cases (record { records_are = rs; whole = e; bytes_are = refl; some = some; few = few }))
          (λ n. Cases.miscounted (record {
            records_are = rs;
            whole = e;
            wrong = subst (λ (n : ℕ). (n ≡ 0) ⊎ (max_formulas < n)) same (out_of_range (length bs) n);
          }))
