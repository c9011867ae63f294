-- Where the formula of a number is, by an overlay and a base catalogue (MEANING 9.3). Assumes nothing.
use Rattle.std.specs.Prelude.{List, ℕ, ◌==◌, Option, Some, None, find, Result, Ok, Err}
use Rattle.catalogue.specs.Records.{Records, records}
use Rattle.catalogue.specs.declared.Record.{Record}
use Rattle.catalogue.specs.declared.Layer.{Layer}
use Rattle.catalogue.specs.declared.Layer.TheVariants.{Overlay, Base}
use Rattle.catalogue.specs.declared.Found.{Found}
use Rattle.catalogue.specs.declared.Refusal.{Refusal}
use Rattle.catalogue.specs.declared.Refusal.TheVariants.{Damaged, Missing}

-- where the formula of a number is: in one of the catalogues, so many bytes from a place on; or a refusal
abbrev pub Location : Type 0
Location = Result Found Refusal

abbrev pub found : Layer → (start size : ℕ) → Location
found layer start size = Ok (record { layer = layer; start = start; size = size })

-- the record with this number; there is one at most (`one_record`, proofs/LocationLaws.antt)
abbrev pub numbered : ℕ → List Record → Option Record
numbered n rs = find (λ r. r.number == n) rs

-- question 30, of one catalogue: is it one? What comes after it has its records.
abbrev pub ask_whole : Layer → Records → (List Record → Location) → Location
ask_whole layer (Records.damaged place) next = Err (Damaged layer place)
ask_whole layer (Records.whole rs) next = next rs

-- the overlay's record before that of the base catalogue; question 31: is there either?
abbrev pub chosen : Option Record → Option Record → Location
chosen (Some r) under = found Overlay r.start r.size
chosen None (Some r) = found Base r.start r.size
chosen None None = Err Missing

-- the questions in their order: 30 of the overlay, 30 of the base catalogue, 31
abbrev pub asked : (overlay base : Records) (number : ℕ) → Location
asked overlay base number =
    ask_whole Overlay overlay (λ os.
    ask_whole Base base (λ bs.
    chosen (numbered number os) (numbered number bs)))

abbrev pub location : (overlay base : List ℕ) (number : ℕ) → Location
location overlay base number = asked (records overlay) (records base) number
