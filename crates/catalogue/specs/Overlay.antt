-- What a location means (MEANING 9.3), said of catalogues, their entries and faults alone, without going through bytes: damage comes first,
-- that of the overlay before that of the base catalogue; then an entry of the overlay, then one of the base catalogue. That `location` is
-- this and nothing else is a theorem: proofs/OverlayLaws.antt. Assumes nothing.
use Rattle.std.specs.Prelude.{◌≡◌, ℕ, take, drop, Err}
use mathlib.Core.List.{List, Memᴰ}
use Rattle.catalogue.specs.Catalogue.{Entry, number, Catalogue, placed}
use Rattle.catalogue.specs.Faults.{LeastFault}
use Rattle.catalogue.specs.Location.{Location, found}
use Rattle.catalogue.specs.declared.Layer.TheVariants.{Overlay, Base}
use Rattle.catalogue.specs.declared.Refusal.TheVariants.{Damaged, Missing}

-- The bytes are a catalogue.
pub record IsCatalogue (bytes : List ℕ) : Type 0 where
  pub entries : List Entry
  pub catalogue : Catalogue bytes entries

-- They are one with an entry of number n, and its formula is these bytes of it.
pub record Entered (bytes : List ℕ) (n start size : ℕ) : Type 0 where
  pub entries : List Entry
  pub catalogue : Catalogue bytes entries
  pub stands : Memᴰ (record { number = n; start = start; size = size }) (placed 0 entries)
  pub entry : Entry
  pub present : Memᴰ entry entries
  pub has : number entry ≡ n
  pub formula : take size (drop start bytes) ≡ entry.formula

-- They are one without such an entry.
pub record Lacking (bytes : List ℕ) (n : ℕ) : Type 0 where
  pub entries : List Entry
  pub catalogue : Catalogue bytes entries
  pub lacks : (e : Entry) → Memᴰ e entries → number e ≡ n → ⊥

-- the cases of a location
pub data Means (overlay base : List ℕ) (n : ℕ) : Location → Type 0 where
  damaged_over : {p : ℕ} → LeastFault overlay p → Means overlay base n (Err (Damaged Overlay p))
  damaged_under : {p : ℕ} → IsCatalogue overlay → LeastFault base p → Means overlay base n (Err (Damaged Base p))
  found_over : {start size : ℕ} → Entered overlay n start size → IsCatalogue base → Means overlay base n (found Overlay start size)
  found_under : {start size : ℕ} → Lacking overlay n → Entered base n start size → Means overlay base n (found Base start size)
  missing : Lacking overlay n → Lacking base n → Means overlay base n (Err Missing)
