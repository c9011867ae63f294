-- What the inner functions promise each other. Assumes nothing.
use Rattle.std.specs.Prelude.{ℕ, ◌<◌, Option, Some, None, Result, Ok, Err}
use Rattle.catalogue.specs.Records.{Due, Records}
use Rattle.catalogue.specs.Location.{numbered}
use Rattle.catalogue.specs.declared.Record.{Record}

-- a record's number has two bytes
abbrev pub Small : Due → Type 0
Small (Ok None) = Unit {0}
Small (Ok (Some r)) = r.number < 65536
Small (Err place) = Unit {0}

-- what one catalogue has for a number: its record, if there is one; or the fault
abbrev pub scanned : ℕ → Records → Result (Option Record) ℕ
scanned n (Records.damaged place) = Err place
scanned n (Records.whole rs) = Ok (numbered n rs)

-- whether the records come to an end; or the fault
abbrev pub undamaged : Records → Result (Unit {0}) ℕ
undamaged (Records.damaged place) = Err place
undamaged (Records.whole rs) = Ok tt
