-- The questions before the decisions, as the code asks them over the parts that the formulas are: each answer settles the outcome that the
-- definition gives for the catalogue. Assumes nothing.
use mathlib.Core.Path.{◌≡◌, refl, sym, ap, subst, ◌∙◌}
use mathlib.Core.Bool.{Bool, true, false}
use mathlib.Core.List.{List}
use Prim.Native.Nat.{ℕ, ◌≤◌}
use lib.Dec.{leb}
use lib.ListN.{length}
use Rattle.base.specs.Ask.{ask}
use Rattle.formula.specs.declared.Refusal.{Refusal}
use Rattle.construction.specs.Construction.{between}
use Rattle.decision.specs.Verdict.{Verdict, within_capacity, workspace_size, witness_size, ask_room}
use Rattle.decision.specs.Inner.{RefusedBy}
use Rattle.decision.specs.Lends.{Lends}
use Rattle.construction.specs.declared.Question.{Question}
use Rattle.construction.specs.declared.Question.TheVariants.{Capacity, Workspace, Buffer}
use Rattle.decision.proofs.Answer.{past_13}
use Rattle.decision.proofs.SettleLaws.{asked_of}
use Rattle.catalogue.specs.Records.{Records, records}
use Rattle.joint.specs.Joint.{Joint, max_formulas, concluded, asked, bytes_of, of_records, joint}
use Rattle.joint.specs.Contract.{Answer, Leaves}
use Rattle.joint.specs.Inner.{Collects, Holds, held, checked, Readable, asked_on}
use Rattle.joint.specs.declared.Formulas.{Formulas}
use Rattle.joint.specs.declared.Refusal as joint
use Rattle.joint.specs.declared.Refusal.TheVariants.{Unread}
use Rattle.std.specs.Prelude.{map, take, Ok, Err}
use Rattle.joint.proofs.CheckLaws.{checked_unread, checked-all, read_yes, read_no}

-- ---- the questions 11 to 13 of another outcome than a verdict
-- what is made of what the questions come to
module _ {A B : Type 0} (h : A → B) where
  ask_made : (b : Bool) (refusal after : A) → h (ask b refusal after) ≡ ask b (h refusal) (h after)
  ask_made true refusal after = refl
  ask_made false refusal after = refl

  room_made : (refusal : Question → A) (N M w b : ℕ) (after : A)
      → h (ask_room refusal N M w b after) ≡ ask_room (λ c. h (refusal c)) N M w b (h after)
  room_made refusal N M w b after =
      let third = ask (leb (witness_size N M) b) (refusal Buffer) after in
      let second = ask (leb (workspace_size N M) w) (refusal Workspace) third in
      ask_made (within_capacity N M) (refusal Capacity) second
      ∙ ap (ask (within_capacity N M) (h (refusal Capacity))) (ask_made (leb (workspace_size N M) w) (refusal Workspace) third
      ∙ ap (ask (leb (workspace_size N M) w) (h (refusal Workspace))) (ask_made (leb (witness_size N M) b) (refusal Buffer) after))

-- a refusal's question, and anything else stands for the outcome that comes after
abbrev pub joint_of : Joint → Verdict → Joint
joint_of after (Verdict.unread why) = after
joint_of after (Verdict.refused q) = Joint.refused q
joint_of after (Verdict.satisfiable stem cycle K c letters) = after
joint_of after (Verdict.unsatisfiable K P) = after

abbrev pub granted : Verdict
granted = Verdict.unsatisfiable 0 0

pub room-joint : (N M w b : ℕ) (after : Joint)
    → ask_room Joint.refused N M w b after ≡ joint_of after (ask_room Verdict.refused N M w b granted)
room-joint N M w b after = sym (room_made (joint_of after) Verdict.refused N M w b granted)

module _ {N M w b : ℕ} (after : Joint) where
  room-refused : {q : Question} → RefusedBy N M w b q → ask_room Joint.refused N M w b after ≡ Joint.refused q
  room-refused g = room-joint N M w b after ∙ ap (joint_of after) (g.refuses granted)

  room-granted : Lends N M w b → ask_room Joint.refused N M w b after ≡ after
  room-granted l = room-joint N M w b after ∙ ap (joint_of after) (past_13 (asked_of N M w b granted) l)

-- what is left after an outcome, by another name
pub joint-leaves : {N M : ℕ} {o v : Joint} {w w' b b' : List ℕ} {r : Answer} → v ≡ o → Leaves N M o w w' b b' r
    → Leaves N M v w w' b b' r
joint-leaves {N} {M} {w = w} {w'} {b} {b'} {r} e h = subst (λ (x : Joint). Leaves N M x w w' b b' r) (sym e) h

-- ---- the questions of reading, and 11 to 13
module _ (N M w b : ℕ) (bs : List (List ℕ)) where
  abbrev pub questions : Joint
  questions = asked_on N M w b bs

  pub joint-unread : {i : ℕ} {why : Refusal} → checked 0 bs ≡ Err (Unread i why) → questions ≡ Joint.unread i why
  joint-unread h = read_no 0 bs _ h

  -- a refusal of reading is handed on, and nothing is changed
  pub unread-leaves : {why : joint.Refusal} → checked 0 bs ≡ Err why → {area buffer : List ℕ}
      → Leaves N M questions area area buffer buffer (Err why)
  unread-leaves {why} e {area} {buffer} =
      let (i, unread, is) = checked_unread 0 bs e in
      subst (λ (x : joint.Refusal). Leaves N M questions area area buffer buffer (Err x)) (sym is)
      (joint-leaves (joint-unread (e ∙ ap Err is)) (record { answered = refl; buffered = refl; worked = refl }))

  module _ (r : checked 0 bs ≡ Ok tt) where
    pub range_readable : length bs ≤ max_formulas → Readable bs
    range_readable few = let (gs, a) = checked-all 0 bs r in record { few = few; formulas = gs; accepted = a }

    pub joint-refused : {q : Question} → RefusedBy N M w b q → questions ≡ Joint.refused q
    joint-refused g = read_yes 0 bs _ r ∙ room-refused (concluded N M bs) g

    pub joint-concluded : Lends N M w b → questions ≡ concluded N M bs
    joint-concluded l = read_yes 0 bs _ r ∙ room-granted (concluded N M bs) l

-- ---- questions 30 and 34
module _ (N M w b : ℕ) (catalogue : List ℕ) where
  pub joint-damaged : {place : ℕ} → Collects catalogue (records catalogue) (Err place) → joint N M w b catalogue ≡ Joint.damaged place
  unfolding joint
  joint-damaged {place} h = by (records catalogue) h
    where
      by : (rs : Records) → Collects catalogue rs (Err place) → of_records N M w b catalogue rs ≡ Joint.damaged place
      by (Records.damaged p) e = ap Joint.damaged (sym e)
      by (Records.whole rs) e = absurd e

  -- the formulas that were found, as question 34 asks of them
  record Whole (f : Formulas) : Type 0 where
    fs : List (List ℕ)
    holds : Holds f fs
    is : joint N M w b catalogue ≡ asked N M w b fs

  whole : (f : Formulas) → Collects catalogue (records catalogue) (Ok f) → Whole f
  unfolding joint
  whole f h = by (records catalogue) refl h
    where
      by : (rs : Records) → records catalogue ≡ rs → Collects catalogue rs (Ok f) → Whole f
      by (Records.damaged p) e k = absurd k
      by (Records.whole rs) e k =
          record { fs = map (bytes_of catalogue) rs; holds = k; is = ap (of_records N M w b catalogue) e }

  module _ (f : Formulas) (h : Collects catalogue (records catalogue) (Ok f)) where
    range-is : {x : Bool} → between 1 max_formulas f.count ≡ x → between 1 max_formulas (length (whole f h).fs) ≡ x
    range-is e = ap (between 1 max_formulas) (sym (whole f h).holds.counted) ∙ e

    pub joint-miscounted : between 1 max_formulas f.count ≡ false → joint N M w b catalogue ≡ Joint.miscounted
    joint-miscounted e =
        (whole f h).is ∙ ap (λ x. ask x Joint.miscounted (asked_on N M w b (whole f h).fs)) (range-is e)

    pub joint-asked : between 1 max_formulas f.count ≡ true → f.count ≤ max_formulas
        → joint N M w b catalogue ≡ asked_on N M w b (held (take f.count f.parts))
    joint-asked e few =
        (whole f h).is ∙ ap (λ x. ask x Joint.miscounted (asked_on N M w b (whole f h).fs)) (range-is e)
        ∙ ap (asked_on N M w b) (sym ((whole f h).holds.are few))
