-- The records of a byte string without a bound on how many are looked for: what stands at a place, with the records behind it
-- (`records_unfold`). Assumes nothing.
use mathlib.Core.Path.{◌≡◌, refl, sym, ap, ◌∙◌}
use mathlib.Core.List.{List, []}
use Prim.Native.Nat.{ℕ, zero, suc, ◌+◌, ◌≤◌}
use native.Mathlib.Omega.{arith}
use lib.ListN.{length}
use Rattle.catalogue.specs.Records.{Due, record_at, Records, behind, onward, number_of, end_of, record_of, records_within, records_from}
use Rattle.catalogue.specs.declared.Record.{Record}
use Rattle.std.specs.Prelude.{Some, None, Ok, Err}
use Rattle.catalogue.proofs.RecordLaws.{at_end, Stands, record_stands}

-- Two ways to go on that agree behind a record that may stand here come to the same.
onward-same : {bytes : List ℕ} {at least : ℕ} (f g : (at least : ℕ) → Records) {d : Due} → Stands bytes at least d
    → ((j l : ℕ) → at + 4 ≤ j → f j l ≡ g j l) → onward f d ≡ onward g d
onward-same f g (Stands.ended h) same = refl
onward-same f g (Stands.faulty a l) same = refl
onward-same {bytes} {at} f g (Stands.whole w l) same =
    ap (behind (record_of bytes at)) (same (end_of bytes at) (number_of bytes at + 1) (omega arith))

-- Any bound that reaches the end is as good as another.
within_same : (n m : ℕ) (bytes : List ℕ) (at least : ℕ) → length bytes ≤ at + n → length bytes ≤ at + m
    → records_within n bytes at least ≡ records_within m bytes at least
within_same zero zero bytes at least h k = refl
within_same zero (suc m) bytes at least h k = sym (ap (onward (records_within m bytes)) (at_end bytes at least (omega arith)))
within_same (suc n) zero bytes at least h k = ap (onward (records_within n bytes)) (at_end bytes at least (omega arith))
within_same (suc n) (suc m) bytes at least h k =
    onward-same (records_within n bytes) (records_within m bytes) (record_stands bytes at least)
    (λ j l b. within_same n m bytes j l (omega arith) (omega arith))

pub records_unfold : (bytes : List ℕ) (at least : ℕ) → records_from bytes at least ≡ onward (records_from bytes) (record_at bytes at least)
unfolding records_from
records_unfold bytes at least = within_same (length bytes) (suc (length bytes)) bytes at least (omega arith) (omega arith)

-- and by what stands there
module _ (bytes : List ℕ) (at least : ℕ) where
  pub records_end : record_at bytes at least ≡ Ok None → records_from bytes at least ≡ Records.whole []
  records_end e = records_unfold bytes at least ∙ ap (onward (records_from bytes)) e

  pub records_fault : {p : ℕ} → record_at bytes at least ≡ Err p → records_from bytes at least ≡ Records.damaged p
  records_fault e = records_unfold bytes at least ∙ ap (onward (records_from bytes)) e

  pub records-whole : {r : Record} → record_at bytes at least ≡ Ok (Some r)
      → records_from bytes at least ≡ behind r (records_from bytes (r.start + r.size) (r.number + 1))
  records-whole e = records_unfold bytes at least ∙ ap (onward (records_from bytes)) e
