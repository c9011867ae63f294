-- Sets that leave a value, position by position: from one Bool to another the value g is only left, and a set lies toward another if it
-- does at each position. Said once for least and greatest fixpoints, over the Bool g that their rounds start from. Assumes nothing.
use Rattle.std.proofs.Common.{◌≡◌, refl, sym, subst, Bool, true, false, not, true≢false, ℕ, ◌<◌, arith, length, get_or}
use Rattle.base.specs.Sets.{Below, Toward}
use Rattle.base.proofs.Inside.{below_true, below_of, below-least, below-greatest, inside_of}
use Rattle.lasso.specs.Lasso.{Positions, joined}
use Rattle.lasso.specs.Inner.{Moves}
use Rattle.lasso.proofs.Monotone.{below-joined}

pub moves_refl : (g a : Bool) → Moves g a a
moves_refl false a = Below.same
moves_refl true a = Below.same

pub moves-same : (g a b : Bool) → a ≡ b → Moves g a b
moves-same g a b q = subst (Moves g a) q (moves_refl g a)

-- it moves if the second has left g wherever the first has
pub moves_of : (g a b : Bool) → (a ≡ not g → b ≡ not g) → Moves g a b
moves_of false a b h = below_of a b h
moves_of true true b h = below-greatest b
moves_of true false true h = absurd (true≢false (h refl))
moves_of true false false h = Below.same

pub of_moves : (g a b : Bool) → Moves g a b → a ≡ not g → b ≡ not g
of_moves false a b h q = below_true h q
of_moves true a false h q = refl
of_moves true true true h q = q
of_moves true false true h q = absurd (true≢false (sym (below_true h refl)))

pub moves_trans : (g a b c : Bool) → Moves g a b → Moves g b c → Moves g a c
moves_trans g a b c h k = moves_of g a c (λ q. of_moves g b c k (of_moves g a b h q))

-- from g everything is a move
pub moves-start : (g b : Bool) → Moves g g b
moves-start false b = below-least b
moves-start true b = below-greatest b

pub moves-joined : (g o a b c d : Bool) → Moves g a b → Moves g c d → Moves g (joined o a c) (joined o b d)
moves-joined false o a b c d h k = below-joined o h k
moves-joined true o a b c d h k = below-joined o h k

-- to leave g where either does: it moves on, and no further than both
pub moves-on : (g a b : Bool) → Moves g a (joined (not g) a b)
moves-on false true b = Below.same
moves-on false false b = below-least b
moves-on true true b = below-greatest b
moves-on true false b = Below.same

pub moves_both : (g a b c : Bool) → Moves g a c → Moves g b c → Moves g (joined (not g) a b) c
moves_both false true b c h k = h
moves_both false false b c h k = k
moves_both true true b c h k = k
moves_both true false b c h k = h

pub toward_of : (g : Bool) (s t : Positions) → length s ≡ length t
    → ((i : ℕ) → i < length s → Moves g (get_or s i false) (get_or t i false)) → Toward g s t
toward_of false s t l f = inside_of s t l (λ i h. below_true (f i h))
toward_of true s t l f = inside_of t s (sym l) (λ i h. below_true (f i (omega arith)))
