-- The members of a list that stands only where a test holds. Assumes nothing.
use Rattle.std.proofs.Common.{Bool, true, false, cond, List, [], T}
use mathlib.Core.List.{Memᴰ}
use mathlib.Core.List.Memᴰ

module _ {A : Type 0} where
  pub cond_of : (b : Bool) (xs : List A) {a : A} → Memᴰ a (cond b xs []) → T b × Memᴰ a xs
  cond_of true xs m = (tt, m)
  cond_of false xs m = absurd (Memᴰ.not-nil m)

  pub cond_in : (b : Bool) {xs : List A} {a : A} → T b → Memᴰ a xs → Memᴰ a (cond b xs [])
  cond_in true h m = m
  cond_in false h m = absurd h
