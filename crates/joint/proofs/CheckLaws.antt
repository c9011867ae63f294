-- Reading one formula after another: the outcome from a position on is that from the first (`Checking`). Where none is refused, all are
-- formulas (`checked-all`), and the questions of reading are answered by yes; else the first that is refused answers them (`read_yes`,
-- `read_no`). Assumes nothing.
use Rattle.std.proofs.Common.{◌≡◌, refl, sym, ap, ◌∙◌, ℕ, suc, ◌+◌, ◌<◌, arith}
use Rattle.std.proofs.Common.{List, [], ◌∷◌, length, get_or, drop, drop-cons, Ok, Err}
use Rattle.std.specs.Borrow.{Bor}
use Rattle.std.proofs.lemmas.List.{length-map, get_or-map}
use Rattle.formula.specs.Formula.{Formula}
use Rattle.formula.specs.Reading.{Reading, parse}
use Rattle.formula.specs.declared.Refusal.{Refusal}
use Rattle.conjunction.specs.Conjunction.{Accepted}
use Rattle.joint.specs.Joint.{Joint, read_on, ask_read}
use Rattle.joint.specs.Inner.{held, check_on, checked}
use Rattle.joint.specs.declared.Refusal as joint
use Rattle.joint.specs.declared.Refusal.TheVariants.{Unread}

-- how many several parts are, and the bytes of one
pub held-length : (parts : List (Bor (List ℕ))) → length (held parts) ≡ length parts
held-length parts = length-map parts (λ (part : Bor (List ℕ)). part.now)

pub held-at : (parts : List (Bor (List ℕ))) (i : ℕ) (d : Bor (List ℕ)) → i < length parts
    → (get_or parts i d).now ≡ get_or (held parts) i []
held-at parts i d l = sym (get_or-map (λ (part : Bor (List ℕ)). part.now) parts i d [] l)

module _ (bs : List (List ℕ)) where
  -- What is known between two formulas.
  pub record Checking (i : ℕ) : Type 0 where
    pub is : checked i (drop i bs) ≡ checked 0 bs

  -- what the bytes here are read as
  turn : {i : ℕ} {b : List ℕ} {r : Reading Formula} → Checking i → i < length bs → b ≡ get_or bs i [] → parse b ≡ r
      → check_on i r (checked (i + 1) (drop (i + 1) bs)) ≡ checked 0 bs
  turn {i} {b} {r} c l q e =
      ap (λ (k : ℕ). check_on i r (checked (i + 1) (drop k bs))) {x = i + 1} {y = suc i} (omega arith)
      ∙ ap (λ (x : Reading Formula). check_on i x (checked (i + 1) (drop (suc i) bs))) (sym e ∙ ap parse q)
      ∙ sym (ap (checked i) (drop-cons bs i [] l)) ∙ c.is

  pub check_refused : {i : ℕ} {b : List ℕ} {why : Refusal} → Checking i → i < length bs → b ≡ get_or bs i []
      → parse b ≡ Reading.refused why → Err (Unread i why) ≡ checked 0 bs
  check_refused = turn

  pub check_next : {i : ℕ} {b : List ℕ} {f : Formula} → Checking i → i < length bs → b ≡ get_or bs i []
      → parse b ≡ Reading.accepted f → Checking (i + 1)
  check_next c l q e = record { is = turn c l q e }

-- ---- what the outcome says
pub checked-all : (i : ℕ) (bs : List (List ℕ)) → checked i bs ≡ Ok tt → (fs : List Formula) × Accepted bs fs
checked-all i [] e = ([], Accepted.none)
checked-all i (b ∷ bs) e = by (parse b) refl e (checked-all (i + 1) bs)
  where
    by : (r : Reading Formula) → parse b ≡ r → check_on i r (checked (i + 1) bs) ≡ Ok tt
        → (checked (i + 1) bs ≡ Ok tt → (fs : List Formula) × Accepted bs fs) → (fs : List Formula) × Accepted (b ∷ bs) fs
    by (Reading.refused why) q e rest = cc
    by (Reading.accepted f) q e rest = let (fs, a) = rest e in (f ∷ fs, Accepted.more q a)

pub read_yes : (i : ℕ) (bs : List (List ℕ)) (after : Joint) → checked i bs ≡ Ok tt → ask_read i bs after ≡ after
read_yes i [] after e = refl
read_yes i (b ∷ bs) after e = by (parse b) e (read_yes (i + 1) bs after)
  where
    by : (r : Reading Formula) → check_on i r (checked (i + 1) bs) ≡ Ok tt
        → (checked (i + 1) bs ≡ Ok tt → ask_read (i + 1) bs after ≡ after) → read_on i r (ask_read (i + 1) bs after) ≡ after
    by (Reading.refused why) e rest = cc
    by (Reading.accepted f) e rest = rest e

pub read_no : (i : ℕ) (bs : List (List ℕ)) (after : Joint) {j : ℕ} {why : Refusal} → checked i bs ≡ Err (Unread j why)
    → ask_read i bs after ≡ Joint.unread j why
read_no i [] after e = cc
read_no i (b ∷ bs) after {j} {why} e = by (parse b) e (read_no (i + 1) bs after)
  where
    by : (r : Reading Formula) → check_on i r (checked (i + 1) bs) ≡ Err (Unread j why)
        → (checked (i + 1) bs ≡ Err (Unread j why) → ask_read (i + 1) bs after ≡ Joint.unread j why)
        → read_on i r (ask_read (i + 1) bs after) ≡ Joint.unread j why
    by (Reading.refused w) e rest = let k : i ≡ j = cc in let q : w ≡ why = cc in cc
    by (Reading.accepted f) e rest = rest e

-- nothing else comes of reading
pub checked_unread : (k : ℕ) (bs : List (List ℕ)) {why : joint.Refusal} → checked k bs ≡ Err why
    → (i : ℕ) × (w : Refusal) × (why ≡ Unread i w)
checked_unread k [] e = cc
checked_unread k (b ∷ bs) {why} e = by (parse b) e (checked_unread (k + 1) bs)
  where
    by : (r : Reading Formula) → check_on k r (checked (k + 1) bs) ≡ Err why
        → (checked (k + 1) bs ≡ Err why → (i : ℕ) × (w : Refusal) × (why ≡ Unread i w)) → (i : ℕ) × (w : Refusal) × (why ≡ Unread i w)
    by (Reading.refused w) e rest = (k, w, cc)
    by (Reading.accepted f) e rest = rest e
