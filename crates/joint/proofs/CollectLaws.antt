-- Going through a catalogue: the records that were passed, with those from here on, are the whole catalogue's (`Collecting`), and of as
-- many as there is room for the parts are kept. Assumes nothing.
use Rattle.std.proofs.Common.{◌≡◌, refl, sym, ap, subst, ◌∙◌, ℕ, ◌+◌, ◌-◌, ◌≤◌, ◌<◌, arith}
use Rattle.std.proofs.Common.{List, [], ◌∷◌, ◌++◌, map, length, take, drop, set, length-append, Some, None, Ok, Err}
use Rattle.std.specs.Borrow.{Bor}
use Rattle.std.proofs.lemmas.List.{take_more_set, map-append, length-map}
use Rattle.catalogue.specs.Records.{Records, record_at, behind, records_from, records}
use Rattle.catalogue.specs.declared.Record.{Record}
use Rattle.catalogue.proofs.RecordLaws.{record_ahead}
use Rattle.catalogue.proofs.RecordsLaws.{records_end, records_fault, records-whole}
use Rattle.joint.specs.Joint.{max_formulas, bytes_of}
use Rattle.joint.specs.Inner.{held, Collects}

-- ---- records before others
abbrev ahead : List Record → Records → Records
ahead [] rest = rest
ahead (r ∷ rs) rest = behind r (ahead rs rest)

ahead-one : (rs : List Record) (r : Record) (rest : Records) → ahead (rs ++ r ∷ []) rest ≡ ahead rs (behind r rest)
ahead-one [] r rest = refl
ahead-one (q ∷ rs) r rest = ap (behind q) (ahead-one rs r rest)

ahead-end : (rs : List Record) → ahead rs (Records.whole []) ≡ Records.whole rs
ahead-end [] = refl
ahead-end (r ∷ rs) = ap (behind r) (ahead-end rs)

ahead-damaged : (rs : List Record) (place : ℕ) → ahead rs (Records.damaged place) ≡ Records.damaged place
ahead-damaged [] place = refl
ahead-damaged (r ∷ rs) place = ap (behind r) (ahead-damaged rs place)

-- the part of a record's formula, as the code takes it
pub part-is : (bytes : List ℕ) (r : Record) → take (r.start + r.size - r.start) (drop r.start bytes) ≡ bytes_of bytes r
part-is bytes r = ap (λ (n : ℕ). take n (drop r.start bytes)) {x = r.start + r.size - r.start} {y = r.size} (omega arith)

-- What is known between two records. Each has four bytes or more, so there are no more of them than bytes.
pub record Collecting (bytes : List ℕ) (at least : ℕ) (parts : List (Bor (List ℕ))) (count : ℕ) : Type 0 where
  pub seen : List Record
  pub is : ahead seen (records_from bytes at least) ≡ records bytes
  pub counted : count ≡ length seen
  pub within : (count ≤ at) × (at ≤ length bytes)
  pub long : length parts ≡ max_formulas
  pub are : count ≤ max_formulas → held (take count parts) ≡ map (bytes_of bytes) seen

module _ (bytes : List ℕ) where
  module _ {at least : ℕ} {parts : List (Bor (List ℕ))} {count : ℕ} (h : Collecting bytes at least parts count) where
    pub collect_end : record_at bytes at least ≡ Ok None → Collects bytes (records bytes) (Ok (record { parts = parts; count = count }))
    collect_end e =
        subst (λ (rs : Records). Collects bytes rs (Ok (record { parts = parts; count = count })))
        (sym (ahead-end h.seen) ∙ sym (ap (ahead h.seen) (records_end bytes at least e)) ∙ h.is)
        (record { counted = h.counted ∙ sym (length-map h.seen (bytes_of bytes)); are = h.are })

    pub collect_fault : {place : ℕ} → record_at bytes at least ≡ Err place → Collects bytes (records bytes) (Err place)
    collect_fault {place} e =
        subst (λ (rs : Records). Collects bytes rs (Err place))
        (sym (ahead-damaged h.seen place) ∙ sym (ap (ahead h.seen) (records_fault bytes at least e)) ∙ h.is) refl

    module _ {r : Record} (e : record_at bytes at least ≡ Ok (Some r)) {now : List (Bor (List ℕ))} (long : length now ≡ max_formulas) where
      -- the next, where its part is kept if there is room
      pub collect_on : (part : Bor (List ℕ)) → part.now ≡ bytes_of bytes r → (count < max_formulas → now ≡ set parts count part)
          → Collecting bytes (r.start + r.size) (r.number + 1) now (count + 1)
      collect_on part is kept =
          let a = record_ahead bytes at least e in
          record {
            seen = h.seen ++ r ∷ [];
            is =
                ahead-one h.seen r (records_from bytes (r.start + r.size) (r.number + 1))
                ∙ sym (ap (ahead h.seen) (records-whole bytes at least e)) ∙ h.is;
            counted = omega (arith, h.counted, length-append h.seen (r ∷ []));
            within = (omega (arith, h.within, a), a.1);
            long = long;
            are = λ few.
                ap (λ (ps : List (Bor (List ℕ))). held (take (count + 1) ps)) (kept (omega arith))
                ∙ ap held (take_more_set parts count part (omega (arith, h.long)))
                ∙ map-append (λ (b : Bor (List ℕ)). b.now) (take count parts) (part ∷ [])
                ∙ ap (λ (l : List (List ℕ)). l ++ part.now ∷ []) (h.are (omega arith))
                ∙ ap (λ (b : List ℕ). map (bytes_of bytes) h.seen ++ b ∷ []) is
                ∙ sym (map-append (bytes_of bytes) h.seen (r ∷ []));
          }
