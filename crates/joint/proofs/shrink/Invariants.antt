-- `joint::shrink`: what is left, with the positions still to come, comes to what the whole comes to; the workspace stays as it is.
use Rattle.std.proofs.Common.{◌≡◌, List, ℕ, ◌≤◌, length}
use Rattle.joint.specs.Joint.{Subset, chosen, Attempt, attempted}
use Rattle.joint.specs.Inner.{held}
use Rattle.joint.proofs.ShrinkLaws.{Shrinking}
use Rattle.joint.proofs.shrink.Given as goal

abbrev pub try : List (List ℕ) → (N M : ℕ) → Subset → Attempt
try bs N M s = attempted N M (chosen s bs)

-- what the loop keeps
pub record Going (bs : List (List ℕ)) (n N M : ℕ) (workspace₀ workspace letters : List ℕ) (s : Subset) (i : ℕ) : Type 0 where
  pub going : Shrinking (try bs N M) n i s
  pub below : i ≤ n
  pub same : workspace ≡ workspace₀
  pub long : length letters ≡ 5120

abbrev pub invariant-loop-i : goal.invariant-loop-i
invariant-loop-i l =
    Going (held l.formulas) (length l.formulas) l.node_capacity l.profile_capacity l.initial.workspace l.workspace l.letters l.left l.i
