-- Sets of triples as tables of bits. The operands of next and the fixpoints go by their rank from the left, which keeps their order;
-- the priority none is 7, above the at most seven fixpoints. Assumes nothing.
use Rattle.std.specs.Prelude.{Bool, false, ◌&&◌, ◌||◌, List, [], map, ℕ, zero, suc, ◌*◌, min, eqb, get_or}
use Rattle.base.specs.Lists.{range, iterate, alike, same_bit}

-- some number below n
abbrev pub some : ℕ → (ℕ → Bool) → Bool
some zero q = false
some (suc n) q = let r = some n q in r || q n

-- k is the smaller of a priority of one and a priority of the other
unfoldable pub smaller : (ℕ → Bool) → (ℕ → Bool) → ℕ → Bool
smaller a b k = some 8 (λ y. a y && some 8 (λ z. b z && eqb (min y z) k))

-- bit x of row f at g: the triple (f, x, g)
abbrev pub Triples : Type 0
Triples = List (List (List Bool))

-- whether the triple (f, x, g) is in a set
unfoldable pub holds : Triples → (f x g : ℕ) → Bool
holds s f x g = get_or (get_or (get_or s f []) g []) x false

-- whether two sets are equal
abbrev pub same_triples : Triples → Triples → Bool
same_triples a b = alike (alike (alike same_bit)) a b

-- the triples of n operands that a test holds
unfoldable pub those : ℕ → (ℕ → ℕ → ℕ → Bool) → Triples
those n q = map (λ f. map (λ g. map (λ x. q f x g) (range 0 8)) (range 0 n)) (range 0 n)

-- end to end: the priority is the smaller
unfoldable pub join : ℕ → Triples → Triples → Triples
unfolding those holds smaller
join n a b = those n (λ f x g. some n (λ m. smaller (λ y. holds a f y m) (λ z. holds b m z g) x))

-- the union
unfoldable pub either : ℕ → Triples → Triples → Triples
unfolding those holds
either n a b = those n (λ f x g. holds a f x g || holds b f x g)

-- one lap more
unfoldable pub lap : ℕ → Triples → Triples → Triples
unfolding join either
lap n a s = either n s (join n s a)

-- joined any number of times: each lap that changes something adds one of the 8 n n triples
unfoldable pub laps : ℕ → Triples → Triples
unfolding lap
laps n a = iterate (8 * (n * n)) (lap n a) a

-- some f back to f whose priority is a least fixpoint
unfoldable pub rejecting : (ℕ → Bool) → ℕ → Triples → Bool
unfolding laps holds
rejecting least n a = let s = laps n a in some n (λ f. some 8 (λ x. least x && holds s f x f))
