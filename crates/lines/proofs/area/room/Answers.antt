-- `lines::area::room` meets its contract. Assumes nothing.
use mathlib.Core.Path.{sym}
use Prim.Native.Nat.{ℕ}
use lib.ListN.{length-replicate}
use Rattle.lines.proofs.area.room.Goals as goal

pub returns : goal.returns
returns c = sym (length-replicate {A = ℕ} 800000 165)
