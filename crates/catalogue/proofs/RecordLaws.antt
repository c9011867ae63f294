-- What stands where a record is due, by the questions in their order: which answers lead to which outcome (for the code), and what each
-- outcome says of the bytes (`record_stands`, for all laws above). Assumes nothing.
use mathlib.Core.Path.{◌≡◌, refl, sym, ap, subst, ◌∙◌}
use mathlib.Core.Bool.{true, cond, ◌||◌}
use mathlib.Core.List.{List}
use mathlib.Core.Logic.{⊎_elim}
use Prim.Native.Nat.{ℕ, ◌+◌, ◌≤◌, ◌<◌}
use native.Mathlib.Omega.{arith}
use lib.Dec.{T, eqb, leb, leb→le, eqb→eq}
use lib.ListN.{length}
use borrow.Author.Tests.{leb-false, le-leb, lt-leb, eq-eqb, ne_eqb}
use Rattle.base.specs.Ask.{ask}
use Rattle.base.proofs.BoolLaws.{by_test, or_cases, or_left, or_right}
use Rattle.base.proofs.TestLaws.{not_of_T}
use Rattle.catalogue.specs.Catalogue.{mark}
use Rattle.catalogue.specs.Records.{Due, byte, number_of, size_of, end_of, record_of, may_be, record_at}
use Rattle.catalogue.specs.Faults.{WholeAt, FaultAt}
use Rattle.catalogue.specs.declared.Record.{Record}
use Rattle.std.specs.Prelude.{Some, None, Ok, Err}

-- a test of two numbers that fails
not_leb : (a b : ℕ) → (T (leb a b) → ⊥) → b < a
not_leb a b n = leb-false a b (not_of_T (leb a b) n)

-- a number is asked once both its bytes are there
pub may_be_of : (bytes : List ℕ) (at least : ℕ) → (at + 2 < length bytes → least ≤ number_of bytes at) → may_be bytes at least ≡ true
may_be_of bytes at least r =
    by_test (leb (length bytes) (at + 2)) (λ b. (b || leb least (number_of bytes at)) ≡ true) (λ h. refl)
    (λ n. le-leb least (number_of bytes at) (r (not_leb (length bytes) (at + 2) n)))

pub may_be_means : (bytes : List ℕ) (at least : ℕ) → T (may_be bytes at least) → at + 2 < length bytes → least ≤ number_of bytes at
may_be_means bytes at least t h =
    ⊎_elim (λ (u : T (leb (length bytes) (at + 2))). let l = leb→le (length bytes) (at + 2) u in absurd (omega arith))
    (λ (u : T (leb least (number_of bytes at))). leb→le least (number_of bytes at) u)
    (or_cases (leb (length bytes) (at + 2)) (leb least (number_of bytes at)) t)

pub may_not_be : (bytes : List ℕ) (at least : ℕ) → (T (may_be bytes at least) → ⊥) → (at + 2 < length bytes) × (number_of bytes at < least)
may_not_be bytes at least n = (
  not_leb (length bytes) (at + 2) (λ t. n (or_left (leb (length bytes) (at + 2)) (leb least (number_of bytes at)) t)),
  not_leb least (number_of bytes at) (λ t. n (or_right (leb (length bytes) (at + 2)) (leb least (number_of bytes at)) t)),
)

-- ---- which outcome the answers lead to
module _ (bytes : List ℕ) (at least : ℕ) where
  pub at_end : length bytes ≤ at → record_at bytes at least ≡ Ok None
  at_end h = simp (le-leb (length bytes) at h)

  pub at-unmarked : at < length bytes → (byte bytes at ≡ mark → ⊥) → record_at bytes at least ≡ Err at
  at-unmarked h n = simp (lt-leb (length bytes) at h, ne_eqb (byte bytes at) mark n)

  pub at-unrisen : byte bytes at ≡ mark → at + 2 < length bytes → number_of bytes at < least → record_at bytes at least ≡ Err (at + 1)
  at-unrisen m h l = simp (
    lt-leb (length bytes) at (omega arith),
    eq-eqb (byte bytes at) mark m,
    lt-leb (length bytes) (at + 2) h,
    lt-leb least (number_of bytes at) l,
  )

  pub at-cut_short : at < length bytes → byte bytes at ≡ mark → (at + 2 < length bytes → least ≤ number_of bytes at)
      → length bytes < end_of bytes at → record_at bytes at least ≡ Err (length bytes)
  at-cut_short h m r c = simp (
    lt-leb (length bytes) at h,
    eq-eqb (byte bytes at) mark m,
    may_be_of bytes at least r,
    lt-leb (end_of bytes at) (length bytes) c,
  )

  pub at-whole : WholeAt bytes at → least ≤ number_of bytes at → record_at bytes at least ≡ Ok (Some (record_of bytes at))
  at-whole w l = simp (
    lt-leb (length bytes) at (whole_before w),
    eq-eqb (byte bytes at) mark w.marked,
    may_be_of bytes at least (λ h. l),
    le-leb (end_of bytes at) (length bytes) w.ended,
  )
    where
      whole_before : WholeAt bytes at → at < length bytes
      whole_before w = let e = w.ended in omega arith

  -- the same of a number and a size that were read
  pub as_whole : {n z : ℕ} → n ≡ number_of bytes at → z ≡ size_of bytes at → byte bytes at ≡ mark → least ≤ n → at + 4 + z ≤ length bytes
      → Ok (Some (record { number = n; start = at + 4; size = z })) ≡ record_at bytes at least
  as_whole {n} {z} p q m l e =
      ap (λ (k : ℕ). Ok (Some (record { number = k; start = at + 4; size = z }))) p
      ∙ ap (λ (k : ℕ). Ok (Some (record { number = number_of bytes at; start = at + 4; size = k }))) q
      ∙ sym (at-whole (record { marked = m; ended = omega arith }) (omega arith))

-- ---- what each outcome says
-- What stands at a place: nothing, behind the last byte; a fault, of which none there has a smaller place; or a whole record.
pub data Stands (bytes : List ℕ) (at least : ℕ) : Due → Type 0 where
  ended : length bytes ≤ at → Stands bytes at least (Ok None)
  faulty : {p : ℕ} → FaultAt bytes at least p → ((q : ℕ) → FaultAt bytes at least q → p ≤ q) → Stands bytes at least (Err p)
  whole : WholeAt bytes at → least ≤ number_of bytes at → Stands bytes at least (Ok (Some (record_of bytes at)))

module _ (bytes : List ℕ) (at least : ℕ) where
  -- a whole record with a number that may be has no fault
  pub whole_faultless : WholeAt bytes at → least ≤ number_of bytes at → (q : ℕ) → FaultAt bytes at least q → ⊥
  whole_faultless w l _ (FaultAt.unmarked h n) = n w.marked
  whole_faultless w l _ (FaultAt.unrisen m h u) = omega arith
  whole_faultless w l _ (FaultAt.cut_short h m c) = let e = w.ended in omega arith

  -- without the mark there is no other fault
  unmarked-least : (byte bytes at ≡ mark → ⊥) → (q : ℕ) → FaultAt bytes at least q → at ≤ q
  unmarked-least n _ (FaultAt.unmarked h k) = omega arith
  unmarked-least n _ (FaultAt.unrisen m h u) = absurd (n m)
  unmarked-least n _ (FaultAt.cut_short h m c) = absurd (n m)

  -- a number that is too small comes before the end of the bytes
  unrisen-least : byte bytes at ≡ mark → at + 2 < length bytes → (q : ℕ) → FaultAt bytes at least q → at + 1 ≤ q
  unrisen-least m h _ (FaultAt.unmarked k n) = absurd (n m)
  unrisen-least m h _ (FaultAt.unrisen k g u) = omega arith
  unrisen-least m h _ (FaultAt.cut_short k g c) = omega arith

  -- with a number that may be, only the end is left
  cut_least : byte bytes at ≡ mark → (at + 2 < length bytes → least ≤ number_of bytes at)
      → (q : ℕ) → FaultAt bytes at least q → length bytes ≤ q
  cut_least m r _ (FaultAt.unmarked k n) = absurd (n m)
  cut_least m r _ (FaultAt.unrisen k g u) = let l = r g in absurd (omega arith)
  cut_least m r _ (FaultAt.cut_short k g c) = omega arith

  abbrev sized : Due
  sized = ask (leb (end_of bytes at) (length bytes)) (Err (length bytes)) (Ok (Some (record_of bytes at)))

  sized-stands : at < length bytes → byte bytes at ≡ mark → (at + 2 < length bytes → least ≤ number_of bytes at)
      → Stands bytes at least sized
  sized-stands h m r =
      by_test (leb (end_of bytes at) (length bytes))
      (λ b. Stands bytes at least (ask b (Err (length bytes)) (Ok (Some (record_of bytes at)))))
      (λ t. let e = leb→le (end_of bytes at) (length bytes) t in
      Stands.whole (record { marked = m; ended = e }) (r (omega arith)))
      (λ n. Stands.faulty (FaultAt.cut_short h m (not_leb (end_of bytes at) (length bytes) n)) (cut_least m r))

  abbrev asked : Due
  asked = ask (may_be bytes at least) (Err (at + 1)) sized

  asked-stands : at < length bytes → byte bytes at ≡ mark → Stands bytes at least asked
  asked-stands h m =
      by_test (may_be bytes at least) (λ b. Stands bytes at least (ask b (Err (at + 1)) sized))
      (λ t. sized-stands h m (may_be_means bytes at least t))
      (λ n. let (r, u) = may_not_be bytes at least n in Stands.faulty (FaultAt.unrisen m r u) (unrisen-least m r))

  abbrev marked : Due
  marked = ask (eqb (byte bytes at) mark) (Err at) asked

  marked-stands : at < length bytes → Stands bytes at least marked
  marked-stands h =
      by_test (eqb (byte bytes at) mark) (λ b. Stands bytes at least (ask b (Err at) asked))
      (λ t. asked-stands h (eqb→eq (byte bytes at) mark t))
      (λ n. let k = unequal n in Stands.faulty (FaultAt.unmarked h k) (unmarked-least k))
    where
      unequal : (T (eqb (byte bytes at) mark) → ⊥) → byte bytes at ≡ mark → ⊥
      unequal n e = n (subst T (sym (eq-eqb (byte bytes at) mark e)) tt)

  pub record_stands : Stands bytes at least (record_at bytes at least)
  record_stands =
      by_test (leb (length bytes) at) (λ b. Stands bytes at least (cond b (Ok None) marked))
      (λ t. Stands.ended (leb→le (length bytes) at t))
      (λ n. marked-stands (not_leb (length bytes) at n))

-- A record lies behind the place where it is due, and within the bytes.
abbrev pub Ahead : List ℕ → (at : ℕ) → Due → Type 0
Ahead bytes at (Ok None) = Unit {0}
Ahead bytes at (Err p) = Unit {0}
Ahead bytes at (Ok (Some r)) = (r.start ≡ at + 4) × (r.start + r.size ≤ length bytes)

stands_ahead : {bytes : List ℕ} {at least : ℕ} {d : Due} → Stands bytes at least d → Ahead bytes at d
stands_ahead (Stands.ended h) = tt
stands_ahead (Stands.faulty f l) = tt
stands_ahead (Stands.whole w l) = (refl, w.ended)

pub record_ahead : (bytes : List ℕ) (at least : ℕ) {r : Record} → record_at bytes at least ≡ Ok (Some r)
    → (r.start ≡ at + 4) × (r.start + r.size ≤ length bytes)
record_ahead bytes at least e = subst (Ahead bytes at) e (stands_ahead (record_stands bytes at least))
