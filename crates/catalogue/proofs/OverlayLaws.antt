-- A location is what specs/Overlay.antt says of catalogues, their entries and faults (`location_means`), and nothing else is that
-- (`location_exactly`). Assumes nothing.
use mathlib.Core.Path.{◌≡◌, refl, sym, ap, subst, ◌∙◌}
use mathlib.Core.List.{List, Memᴰ}
use Rattle.std.specs.Prelude.{Some, None}
use Prim.Native.Nat.{ℕ}
use Rattle.catalogue.specs.Catalogue.{placed}
use Rattle.catalogue.specs.Records.{Records, records}
use Rattle.catalogue.specs.Location.{Location, numbered, chosen, location}
use Rattle.catalogue.specs.declared.Record.{Record}
use Rattle.catalogue.specs.Overlay.{IsCatalogue, Entered, Lacking, Means}
use Rattle.catalogue.proofs.FaultLaws.{least_fault, damaged_exactly}
use Rattle.catalogue.proofs.CatalogueLaws.{catalogue-records, records-catalogue, entry_of, placed_in}
use Rattle.catalogue.proofs.LocationLaws.{Listed, Unlisted, listed-numbered, unlisted_numbered, Located, location_cases}
use Rattle.catalogue.proofs.LocationLaws.{location_by, damaged_overlay, damaged_base}

-- ---- from what is found to what it means
module _ (bytes : List ℕ) {rs : List Record} (e : records bytes ≡ Records.whole rs) where
  whole-catalogue : IsCatalogue bytes
  whole-catalogue = let t = records-catalogue bytes e in record { entries = t.entries; catalogue = t.catalogue }

  listed-entered : {n : ℕ} {r : Record} → Listed rs n r → Entered bytes n r.start r.size
  listed-entered {n} {r} l =
      let t = records-catalogue bytes e in
      let m = subst (Memᴰ r) t.laid l.present in
      let o = entry_of t.catalogue r m in
      record {
        entries = t.entries;
        catalogue = t.catalogue;
        stands = subst (λ (k : ℕ). Memᴰ (record { number = k; start = r.start; size = r.size }) (placed 0 t.entries)) l.has m;
        entry = o.entry;
        present = o.present;
        has = sym o.numbers ∙ l.has;
        formula = o.formula;
      }

  unlisted_lacking : {n : ℕ} → Unlisted rs n → Lacking bytes n
  unlisted_lacking u =
      let t = records-catalogue bytes e in
      record {
        entries = t.entries;
        catalogue = t.catalogue;
        lacks = λ d m h. let (r, k, q) = placed_in 0 t.entries d m in u r (subst (Memᴰ r) (sym t.laid) k) (q ∙ h);
      }

located_means : {overlay base : List ℕ} {n : ℕ} {l : Location} → Located overlay base n l → Means overlay base n l
located_means {overlay} (Located.damaged_over p) = Means.damaged_over (least_fault overlay p)
located_means {overlay} {base} (Located.damaged_under p q) = Means.damaged_under (whole-catalogue overlay p) (least_fault base q)
located_means {overlay} {base} (Located.found_over p q l) = Means.found_over (listed-entered overlay p l) (whole-catalogue base q)
located_means {overlay} {base} (Located.found_under p q u l) = Means.found_under (unlisted_lacking overlay p u) (listed-entered base q l)
located_means {overlay} {base} (Located.missing p q u v) = Means.missing (unlisted_lacking overlay p u) (unlisted_lacking base q v)

pub location_means : (overlay base : List ℕ) (n : ℕ) → Means overlay base n (location overlay base n)
location_means overlay base n = located_means (location_cases overlay base n)

-- ---- and back
module _ {bytes : List ℕ} {n : ℕ} where
  entered-numbered : {start size : ℕ} (i : Entered bytes n start size)
      → numbered n (placed 0 i.entries) ≡ Some (record { number = n; start = start; size = size })
  entered-numbered i = listed-numbered bytes (catalogue-records i.catalogue) n (record { present = i.stands; has = refl })

  lacking_numbered : (i : Lacking bytes n) → numbered n (placed 0 i.entries) ≡ None
  lacking_numbered i =
      unlisted_numbered bytes (catalogue-records i.catalogue) n
      (λ r m h. let o = entry_of i.catalogue r m in i.lacks o.entry o.present (sym o.numbers ∙ h))

pub location_exactly : {overlay base : List ℕ} {n : ℕ} {l : Location} → Means overlay base n l → location overlay base n ≡ l
location_exactly {overlay} {base} {n} (Means.damaged_over {p} f) = damaged_overlay overlay (damaged_exactly overlay p f) base n
location_exactly {overlay} {base} {n} (Means.damaged_under {p} c f) =
    damaged_base overlay base (catalogue-records c.catalogue) (damaged_exactly base p f) n
location_exactly {overlay} {base} {n} (Means.found_over i c) =
    location_by overlay base n (catalogue-records i.catalogue) (catalogue-records c.catalogue)
    ∙ ap (λ o. chosen o (numbered n (placed 0 c.entries))) (entered-numbered i)
location_exactly {overlay} {base} {n} (Means.found_under k i) =
    location_by overlay base n (catalogue-records k.catalogue) (catalogue-records i.catalogue)
    ∙ ap (λ o. chosen o (numbered n (placed 0 i.entries))) (lacking_numbered k) ∙ ap (chosen None) (entered-numbered i)
location_exactly {overlay} {base} {n} (Means.missing k i) =
    location_by overlay base n (catalogue-records k.catalogue) (catalogue-records i.catalogue)
    ∙ ap (λ o. chosen o (numbered n (placed 0 i.entries))) (lacking_numbered k) ∙ ap (chosen None) (lacking_numbered i)
