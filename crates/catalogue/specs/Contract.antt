-- What callers get of a location (MEANING 9.3, 9.4): its number with what it carries, and the part of a catalogue that it is. A reference
-- is seen as where it points and what stands there, so that a part is told from a copy of its bytes. Assumes nothing.
use Rattle.std.specs.Prelude.{List, ℕ, ◌+◌, take, drop, Ok, Err}
use Rattle.std.specs.Borrow.{Bor}
use Rattle.catalogue.specs.Location.{Location}
use Rattle.catalogue.specs.declared.Layer.{Layer}
use Rattle.catalogue.specs.declared.Layer.TheVariants.{Overlay, Base}
use Rattle.catalogue.specs.declared.Refusal.TheVariants.{Damaged, Missing}

-- the number of the question that is answered by no, or 0
abbrev pub code : Location → ℕ
code (Ok f) = 0
code (Err (Damaged layer place)) = 30
code (Err Missing) = 31

-- which catalogue: 0 for the overlay, 1 for the base catalogue
abbrev pub layer_number : Layer → ℕ
layer_number Overlay = 0
layer_number Base = 1

-- of two things, one for each catalogue, that of one of them
abbrev pub of_layer : {A : Type 0} → Layer → (overlay base : A) → A
of_layer Overlay overlay base = overlay
of_layer Base overlay base = base

-- the catalogue of which the location tells; 31 is about both, and has 0
abbrev pub layer_told : Location → ℕ
layer_told (Ok f) = layer_number f.layer
layer_told (Err (Damaged layer place)) = layer_number layer
layer_told (Err Missing) = 0

-- where the formula begins, or where the fault is; 0 for 31
abbrev pub place_told : Location → ℕ
place_told (Ok f) = f.start
place_told (Err (Damaged layer place)) = place
place_told (Err Missing) = 0

-- how many bytes the part has: none, where it is refused
abbrev pub size_told : Location → ℕ
size_told (Ok f) = f.size
size_told (Err why) = 0

-- A slice: the block of memory that it is in, the place there where it begins, and its bytes.
pub record View : Type 0 where
  pub block : ℕ
  pub offset : ℕ
  pub bytes : List ℕ

abbrev pub view : Bor (List ℕ) → View
view s = record { block = s.ref_ptr.0; offset = s.ref_ptr.1; bytes = s.now }

-- so many elements of it from one on: in the same block, and so far from its beginning
abbrev pub part : View → (start size : ℕ) → View
part v start size = record { block = v.block; offset = v.offset + start; bytes = take size (drop start v.bytes) }

-- the part of one of two catalogues that is handed back; where it is refused, the empty one at the beginning of the overlay
abbrev pub handed : Location → (overlay base : View) → View
handed (Ok f) overlay base = part (of_layer f.layer overlay base) f.start f.size
handed (Err why) overlay base = part overlay 0 0
