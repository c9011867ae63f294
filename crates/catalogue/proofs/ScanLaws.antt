-- One pass over a catalogue: as long as no record had the number, the records from here on come to what the whole catalogue comes to
-- (`scan_on`); behind the record that has it only a fault counts (`scan_found`). Assumes nothing.
use Rattle.std.proofs.Common.{◌≡◌, refl, sym, ap, ◌∙◌, cond, List, ℕ, ◌+◌, Some, None, Ok, Err}
use borrow.Author.Tests.{eq-eqb, ne_eqb}
use Rattle.catalogue.specs.Records.{Records, record_at, behind, records_from, records}
use Rattle.catalogue.specs.Location.{numbered}
use Rattle.catalogue.specs.Inner.{scanned, undamaged}
use Rattle.catalogue.specs.declared.Record.{Record}
use Rattle.catalogue.proofs.RecordsLaws.{records_end, records_fault, records-whole}

-- ---- a record before others
module _ (n : ℕ) (r : Record) where
  -- one with another number changes nothing
  scanned-other : (r.number ≡ n → ⊥) → (rest : Records) → scanned n (behind r rest) ≡ scanned n rest
  scanned-other e (Records.damaged place) = refl
  scanned-other e (Records.whole rs) = ap (λ b. Ok (cond b (Some r) (numbered n rs))) (ne_eqb r.number n e)

  -- a fault behind one is told
  scanned-broken : {p : ℕ} (rest : Records) → Err p ≡ undamaged rest → Err p ≡ scanned n (behind r rest)
  scanned-broken (Records.damaged place) e = cc
  scanned-broken (Records.whole rs) e = cc

  -- one with the number is what is found, if what comes behind it is whole
  scanned-found : r.number ≡ n → (rest : Records) → Ok tt ≡ undamaged rest → Ok (Some r) ≡ scanned n (behind r rest)
  scanned-found e (Records.damaged place) h = cc
  scanned-found e (Records.whole rs) h = sym (ap (λ b. Ok (cond b (Some r) (numbered n rs))) (eq-eqb r.number n e))

-- ---- between two records
-- No record before this place had the number.
pub record Scanning (bytes : List ℕ) (n at least : ℕ) : Type 0 where
  pub is : scanned n (records_from bytes at least) ≡ scanned n (records bytes)

module _ (bytes : List ℕ) (n : ℕ) {at least : ℕ} (s : Scanning bytes n at least) where
  pub scan_end : record_at bytes at least ≡ Ok None → Ok None ≡ scanned n (records bytes)
  scan_end e = sym (ap (scanned n) (records_end bytes at least e)) ∙ s.is

  pub scan_fault : {p : ℕ} → record_at bytes at least ≡ Err p → Err p ≡ scanned n (records bytes)
  scan_fault e = sym (ap (scanned n) (records_fault bytes at least e)) ∙ s.is

  module _ {r : Record} (e : record_at bytes at least ≡ Ok (Some r)) where
    abbrev rest : Records
    rest = records_from bytes (r.start + r.size) (r.number + 1)

    from-here : scanned n (behind r rest) ≡ scanned n (records bytes)
    from-here = sym (ap (scanned n) (records-whole bytes at least e)) ∙ s.is

    pub scan_on : (r.number ≡ n → ⊥) → Scanning bytes n (r.start + r.size) (r.number + 1)
    scan_on k = record { is = sym (scanned-other n r k rest) ∙ from-here }

    pub scan_broken : {p : ℕ} → Err p ≡ undamaged rest → Err p ≡ scanned n (records bytes)
    scan_broken k = scanned-broken n r rest k ∙ from-here

    pub scan_found : r.number ≡ n → Ok tt ≡ undamaged rest → Ok (Some r) ≡ scanned n (records bytes)
    scan_found k h = scanned-found n r k rest h ∙ from-here

-- ---- the pass behind the record that was found
-- The records from here on are damaged as those from where it began, and at the same place.
pub record Passing (bytes : List ℕ) (from first at least : ℕ) : Type 0 where
  pub is : undamaged (records_from bytes at least) ≡ undamaged (records_from bytes from first)

undamaged-behind : (r : Record) (rest : Records) → undamaged (behind r rest) ≡ undamaged rest
undamaged-behind r (Records.damaged place) = refl
undamaged-behind r (Records.whole rs) = refl

module _ (bytes : List ℕ) {from first at least : ℕ} (s : Passing bytes from first at least) where
  pub pass_end : record_at bytes at least ≡ Ok None → Ok tt ≡ undamaged (records_from bytes from first)
  pass_end e = sym (ap undamaged (records_end bytes at least e)) ∙ s.is

  pub pass_fault : {p : ℕ} → record_at bytes at least ≡ Err p → Err p ≡ undamaged (records_from bytes from first)
  pass_fault e = sym (ap undamaged (records_fault bytes at least e)) ∙ s.is

  pub pass_on : {r : Record} → record_at bytes at least ≡ Ok (Some r) → Passing bytes from first (r.start + r.size) (r.number + 1)
  pass_on {r} e = record {
    is =
        sym (undamaged-behind r (records_from bytes (r.start + r.size) (r.number + 1)))
        ∙ sym (ap undamaged (records-whole bytes at least e)) ∙ s.is;
  }
