-- Going through a byte string finds whole records to the end exactly if it is a catalogue, and then the records of its entries, in order
-- (`catalogue-records`, `records-catalogue`). Assumes nothing.
use mathlib.Core.Path.{◌≡◌, refl, sym, ap, subst, ◌∙◌}
use mathlib.Core.Logic.{inl, inr}
use mathlib.Core.List.Memᴰ
use mathlib.Core.List.{List, [], ◌∷◌, ◌++◌, Memᴰ}
use Prim.Native.Nat.{ℕ, suc, ◌+◌, ◌*◌, ◌-◌, ◌≤◌, ◌<◌}
use native.Mathlib.Omega.{arith}
use lib.ListN.{length, get_or, take, drop, length-append, length-drop, take-append-drop, drop_of_length-le}
use lib.Seq.{length-take-le, drop-cons, drop-drop, get_or-drop, take-append_seam, drop-append_seam}
use Rattle.catalogue.specs.Catalogue.{mark, Entry, number, spelled, written, Rising, Catalogue, placed}
use Rattle.catalogue.specs.Records.{byte, number_of, size_of, end_of, record_of, Records, behind, records_from, records}
use Rattle.catalogue.specs.Faults.{WholeAt}
use Rattle.catalogue.specs.declared.Record.{Record}
use Rattle.catalogue.proofs.RecordLaws.{at_end, at-whole}
use Rattle.catalogue.proofs.RecordsLaws.{records_end, records-whole}
use Rattle.catalogue.proofs.RunLaws.{WholeRun, whole_run}

-- the two bytes of a number
two_bytes : (bytes : List ℕ) (at : ℕ) → number_of bytes at ≡ byte bytes (at + 1) + 256 * byte bytes (at + 2)
two_bytes bytes at =
    let e : byte bytes (suc (at + 1)) ≡ byte bytes (at + 2) = ap (byte bytes) {x = suc (at + 1)} {y = at + 2} (omega arith) in
    omega (arith, e)

-- A run is what is found.
pub run-records : {bytes : List ℕ} {at least : ℕ} {rs : List Record} → WholeRun bytes at least rs
    → records_from bytes at least ≡ Records.whole rs
run-records {bytes} {at} {least} (WholeRun.ends h) = records_end bytes at least (at_end bytes at least h)
run-records {bytes} {at} {least} (WholeRun.goes w l run) =
    records-whole bytes at least (at-whole bytes at least w l) ∙ ap (behind (record_of bytes at)) (run-records run)

-- ---- from entries to records
-- a record by its number and its size
abbrev Goes : List ℕ → (at least : ℕ) → List Record → (n z : ℕ) → Type 0
Goes bytes at least rs n z =
    least ≤ n → WholeRun bytes (at + 4 + z) (n + 1) rs → WholeRun bytes at least (record { number = n; start = at + 4; size = z } ∷ rs)

goes_as : (bytes : List ℕ) (at least : ℕ) (rs : List Record) {n z : ℕ} → WholeAt bytes at → number_of bytes at ≡ n → size_of bytes at ≡ z
    → Goes bytes at least rs n z
goes_as bytes at least rs {n} {z} w p q =
    subst (λ (n : ℕ). Goes bytes at least rs n z) p
    (subst (λ (z : ℕ). Goes bytes at least rs (number_of bytes at) z) q (λ l run. WholeRun.goes w l run))

-- What the bytes from a place on say, if an entry is written there and others behind it.
record WrittenAt (bytes : List ℕ) (at : ℕ) (e : Entry) (rest : List ℕ) : Type 0 where
  whole : WholeAt bytes at
  numbers : number_of bytes at ≡ number e
  sizes : size_of bytes at ≡ length e.formula
  left : drop (at + 4 + length e.formula) bytes ≡ rest

module _ (bytes : List ℕ) (at : ℕ) (e : Entry) (rest : List ℕ) where
  written_at : at ≤ length bytes → drop at bytes ≡ spelled e ++ rest → WrittenAt bytes at e rest
  written_at b d = record {
    whole = record { marked = byte-is 0 at (omega arith); ended = omega (arith, sizes, long) };
    numbers = omega (arith, two_bytes bytes at, byte-is 1 (at + 1) (omega arith), byte-is 2 (at + 2) (omega arith));
    sizes = sizes;
    left =
        ap (λ (k : ℕ). drop k bytes) {x = at + 4 + length e.formula} {y = at + length (spelled e)} (omega arith)
        ∙ sym (drop-drop (length (spelled e)) at bytes) ∙ ap (drop (length (spelled e))) d ∙ drop-append_seam (spelled e) rest;
  }
    where
      byte-is : (i k : ℕ) → k ≡ at + i → byte bytes k ≡ get_or (spelled e ++ rest) i 0
      byte-is i k h = ap (byte bytes) h ∙ sym (get_or-drop at bytes i 0) ∙ ap (λ (l : List ℕ). get_or l i 0) d

      sizes : size_of bytes at ≡ length e.formula
      sizes = byte-is 3 (at + 3) refl

      long : length bytes - at ≡ 4 + (length e.formula + length rest)
      long = omega (arith, length-drop at bytes, ap (λ (l : List ℕ). length l) d, length-append e.formula rest)

written-run : (bytes : List ℕ) (at least : ℕ) (es : List Entry) → at ≤ length bytes → drop at bytes ≡ written es → Rising least es
    → WholeRun bytes at least (placed at es)
written-run bytes at least [] b d r = WholeRun.ends {at = at} (omega (arith, length-drop at bytes, ap (λ (l : List ℕ). length l) d))
written-run bytes at least (e ∷ es) b d r =
    let w = written_at bytes at e (written es) b d in
    goes_as bytes at least (placed (at + 4 + length e.formula) es) w.whole w.numbers w.sizes r.0
    (written-run bytes (at + 4 + length e.formula) (number e + 1) es (omega (arith, w.whole.ended, w.sizes)) w.left r.1)

-- Of a catalogue the records of its entries are found, each where it is written.
pub catalogue-records : {bytes : List ℕ} {es : List Entry} → Catalogue bytes es → records bytes ≡ Records.whole (placed 0 es)
catalogue-records {bytes} {es} c = run-records (written-run bytes 0 0 es (omega arith) (sym c.is) c.rising)

-- ---- from records to entries
-- the entry whose record stands at a place
abbrev entry_at : List ℕ → (at : ℕ) → Entry
entry_at bytes at =
    record { low = byte bytes (at + 1); high = byte bytes (at + 2); formula = take (size_of bytes at) (drop (at + 4) bytes) }

drop-next : (bytes : List ℕ) (k j : ℕ) → k < length bytes → j ≡ suc k → drop k bytes ≡ byte bytes k ∷ drop j bytes
drop-next bytes k j h e = drop-cons bytes k 0 h ∙ ap (λ (i : ℕ). byte bytes k ∷ drop i bytes) (sym e)

module _ (bytes : List ℕ) (at : ℕ) (w : WholeAt bytes at) where
  pub entry-size : size_of bytes at ≡ length (entry_at bytes at).formula
  entry-size = sym (length-take-le (size_of bytes at) (drop (at + 4) bytes) (omega (arith, w.ended, length-drop (at + 4) bytes)))

  opened : drop at bytes ≡ byte bytes at ∷ byte bytes (at + 1) ∷ byte bytes (at + 2) ∷ byte bytes (at + 3) ∷ drop (at + 4) bytes
  opened =
      let h = w.ended in
      drop-next bytes at (at + 1) (omega arith) (omega arith)
      ∙ ap (λ l. byte bytes at ∷ l) (drop-next bytes (at + 1) (at + 2) (omega arith) (omega arith)
      ∙ ap (λ l. byte bytes (at + 1) ∷ l) (drop-next bytes (at + 2) (at + 3) (omega arith) (omega arith)
      ∙ ap (λ l. byte bytes (at + 2) ∷ l) (drop-next bytes (at + 3) (at + 4) (omega arith) (omega arith))))

  parted : drop (at + 4) bytes ≡ (entry_at bytes at).formula ++ drop (end_of bytes at) bytes
  parted =
      sym (take-append-drop (size_of bytes at) (drop (at + 4) bytes))
      ∙ ap (λ l. (entry_at bytes at).formula ++ l) (drop-drop (size_of bytes at) (at + 4) bytes)

  entry-spelled : spelled (entry_at bytes at) ++ drop (end_of bytes at) bytes ≡ drop at bytes
  entry-spelled =
      let low = byte bytes (at + 1) in
      let high = byte bytes (at + 2) in
      sym (opened
      ∙ ap (λ m. m ∷ low ∷ high ∷ size_of bytes at ∷ drop (at + 4) bytes) w.marked
      ∙ ap (λ z. mark ∷ low ∷ high ∷ z ∷ drop (at + 4) bytes) entry-size
      ∙ ap (λ l. mark ∷ low ∷ high ∷ length (entry_at bytes at).formula ∷ l) parted)

  placed_as : {rs : List Record} (es : List Entry) {n z : ℕ} → number_of bytes at ≡ n → size_of bytes at ≡ z
      → rs ≡ placed (end_of bytes at) es
      → record_of bytes at ∷ rs ≡ record { number = n; start = at + 4; size = z } ∷ placed (at + 4 + z) es
  placed_as es {n} p q r =
      ap (λ l. record_of bytes at ∷ l) r
      ∙ ap (λ (n : ℕ). record { number = n; start = at + 4; size = size_of bytes at } ∷ placed (end_of bytes at) es) p
      ∙ ap (λ (z : ℕ). record { number = n; start = at + 4; size = z } ∷ placed (at + 4 + z) es) q

-- The entries of a run, with what they are.
record Entries (bytes : List ℕ) (at least : ℕ) (rs : List Record) : Type 0 where
  entries : List Entry
  rising : Rising least entries
  is : written entries ≡ drop at bytes
  laid : rs ≡ placed at entries

run-entries : {bytes : List ℕ} {at least : ℕ} {rs : List Record} → WholeRun bytes at least rs → Entries bytes at least rs
run-entries {bytes} (WholeRun.ends h) = record { entries = []; rising = tt; is = sym (drop_of_length-le bytes h); laid = refl }
run-entries {bytes} {at} {least} (WholeRun.goes w l run) =
    let t = run-entries run in
    let n = two_bytes bytes at in
    record {
      entries = entry_at bytes at ∷ t.entries;
      rising = (omega (arith, n), subst (λ (k : ℕ). Rising (k + 1) t.entries) n t.rising);
      is = ap (λ r. spelled (entry_at bytes at) ++ r) t.is ∙ entry-spelled bytes at w;
      laid = placed_as bytes at w t.entries n (entry-size bytes at w) t.laid;
    }

-- A byte string in which whole records are found to the end is a catalogue, and they are the records of its entries.
pub record Catalogued (bytes : List ℕ) (rs : List Record) : Type 0 where
  pub entries : List Entry
  pub catalogue : Catalogue bytes entries
  pub laid : rs ≡ placed 0 entries

pub records-catalogue : (bytes : List ℕ) {rs : List Record} → records bytes ≡ Records.whole rs → Catalogued bytes rs
records-catalogue bytes e =
    let t = run-entries (whole_run bytes e) in
    record { entries = t.entries; catalogue = record { rising = t.rising; is = t.is }; laid = t.laid }

-- ---- entries and where they stand
-- the formula of a record is the entry's, and the numbers are the same
pub record OfEntry (bytes : List ℕ) (es : List Entry) (r : Record) : Type 0 where
  pub entry : Entry
  pub present : Memᴰ entry es
  pub numbers : r.number ≡ number entry
  pub formula : take r.size (drop r.start bytes) ≡ entry.formula

first_entry : (bytes : List ℕ) (at : ℕ) (e : Entry) (es : List Entry) → drop at bytes ≡ written (e ∷ es) → (r : Record)
    → r ≡ record { number = number e; start = at + 4; size = length e.formula } → OfEntry bytes (e ∷ es) r
first_entry bytes at e es d r i = record {
  entry = e;
  present = Memᴰ.head refl;
  numbers = ap (λ (r : Record). r.number) i;
  formula =
      ap (λ (r : Record). take r.size (drop r.start bytes)) i
      ∙ ap (take (length e.formula)) (sym (drop-drop 4 at bytes) ∙ ap (drop 4) d)
      ∙ take-append_seam e.formula (written es);
}

placed_of : (bytes : List ℕ) (at : ℕ) (es : List Entry) → at ≤ length bytes → drop at bytes ≡ written es
    → (r : Record) → Memᴰ r (placed at es) → OfEntry bytes es r
placed_of bytes at [] b d r m = absurd (Memᴰ.not-nil m)
placed_of bytes at (e ∷ es) b d r m =
    let w = written_at bytes at e (written es) b d in
    elim (Memᴰ.cases_cons m) [
      | inl i ↦ first_entry bytes at e es d r i
      | inr k ↦ behind-first (placed_of bytes (at + 4 + length e.formula) es (omega (arith, w.whole.ended, w.sizes)) w.left r k)
    ]
  where
    behind-first : OfEntry bytes es r → OfEntry bytes (e ∷ es) r
    behind-first o =
        record { entry = o.entry; present = Memᴰ.tail o.present; numbers = o.numbers; formula = o.formula }

-- every record of a catalogue is an entry's, and every entry has one
pub entry_of : {bytes : List ℕ} {es : List Entry} → Catalogue bytes es → (r : Record) → Memᴰ r (placed 0 es) → OfEntry bytes es r
entry_of {bytes} {es} c = placed_of bytes 0 es (omega arith) (sym c.is)

pub placed_in : (at : ℕ) (es : List Entry) (e : Entry) → Memᴰ e es → (r : Record) × Memᴰ r (placed at es) × (r.number ≡ number e)
placed_in at [] e m = absurd (Memᴰ.not-nil m)
placed_in at (d ∷ es) e m =
    elim (Memᴰ.cases_cons m) [
      | inl i ↦ (_, Memᴰ.head refl, ap number (sym i))
      | inr k ↦ let (r, l, h) = placed_in (at + 4 + length d.formula) es e k in (r, Memᴰ.tail l, h)
    ]
