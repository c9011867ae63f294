-- `lasso::listed`: every number listed is a bit of the mask, whatever the keys are. Assumes nothing.
use Rattle.std.proofs.Common.{◌≡◌, true, List, ℕ, ◌≤◌, ◌<◌, length, get_or}
use Rattle.base.specs.Bits.{bit}
use Rattle.lasso.proofs.listed.Given as goal

-- some keys are looked at, and so many numbers listed
pub record Invariant (mask : ℕ) (list : List ℕ) (count looked : ℕ) : Type 0 where
  pub few : count ≤ looked
  pub long : length list ≡ 48
  pub all : (i : ℕ) → i < count → bit mask (get_or list i 0) ≡ true

abbrev pub invariant-loop-key : goal.invariant-loop-key
invariant-loop-key l = Invariant l.mask l.list l.count l.key-index
