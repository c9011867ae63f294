-- Sets of triples. Such a set is kept as a part of the list of all triples of the table, so that equal sets are equal lists; here is what
-- that list and its parts hold, and that a join holds exactly the pairs that meet, joined end to end. Assumes nothing.
use mathlib.Core.Path.{◌≡◌, refl, subst}
use mathlib.Core.Logic.{inl, inr}
use mathlib.Core.Bool.{Bool, true, false, cond, ◌&&◌}
use mathlib.Core.List.Memᴰ
use mathlib.Core.List.{List, [], ◌∷◌, map, Memᴰ}
use Prim.Native.Nat.{ℕ, zero, suc, ◌+◌, ◌*◌, ◌≤◌, min}
use native.Mathlib.Omega.{arith}
use native.Mathlib.Nat.{add-zero}
use native.Mathlib.Decide.{dec_le}
use lib.Dec.{T, eqb, eqb→eq, eqb_refl}
use lib.ListN.{length, length-map}
use Rattle.base.specs.Lists.{flat_map, any}
use Rattle.base.proofs.BoolLaws.{and_left, and_right, and_both}
use Rattle.base.proofs.MemberLaws.{flat_map_of, flat_map_in, length-flat_map, any_of, any_in, filter_of, filter_in}
use Rattle.base.proofs.CondLaws.{cond_of, cond_in}
use Rattle.formula.specs.Table.{Table, operator, is_fix}
use Rattle.tableau.specs.Nodes.{operands}
use Rattle.profile.specs.Traces.{Triple, same_triple, priorities_from, all_triples, set_of, meet, join, joined}

-- the test on triples
pub triple-sound : (a b : Triple) → T (same_triple a b) → a ≡ b
triple-sound a b h =
    let p = eqb a.from b.from in
    let q = eqb a.priority b.priority in
    let r = eqb a.to b.to in
    let x = eqb→eq a.from b.from (and_left p q (and_left (p && q) r h)) in
    let y = eqb→eq a.priority b.priority (and_right p q (and_left (p && q) r h)) in
    let z = eqb→eq a.to b.to (and_right (p && q) r h) in
    λ i. record { from = x i; priority = y i; to = z i }

pub triple_refl : (a : Triple) → T (same_triple a a)
triple_refl a =
    let p = eqb a.from a.from in
    let q = eqb a.priority a.priority in
    and_both (p && q) (eqb a.to a.to) (and_both p q (eqb_refl a.from) (eqb_refl a.priority)) (eqb_refl a.to)

-- All triples with parts from three lists: they hold just these, so many.
abbrev pub cube : List ℕ → List ℕ → List ℕ → List Triple
cube fs xs gs = flat_map (λ (f : ℕ). flat_map (λ (x : ℕ). map (λ (g : ℕ). record { from = f; priority = x; to = g }) gs) xs) fs

pub record Parts (fs xs gs : List ℕ) (a : Triple) : Type 0 where
  pub from_in : Memᴰ a.from fs
  pub priority_in : Memᴰ a.priority xs
  pub to_in : Memᴰ a.to gs

module _ (fs xs gs : List ℕ) where
  abbrev row : ℕ → ℕ → List Triple
  row f x = map (λ (g : ℕ). record { from = f; priority = x; to = g }) gs

  pub cube_in : (a : Triple) → Parts fs xs gs a → Memᴰ a (cube fs xs gs)
  cube_in a p =
      flat_map_in (λ f. flat_map (row f) xs) p.from_in
      (flat_map_in (row a.from) p.priority_in
      (Memᴰ.map (λ (g : ℕ). record { from = a.from; priority = a.priority; to = g }) p.to_in))

  pub cube_of : (a : Triple) → Memᴰ a (cube fs xs gs) → Parts fs xs gs a
  cube_of a m =
      let (f, p, q) = flat_map_of (λ f. flat_map (row f) xs) fs m in
      let (x, r, s) = flat_map_of (row f) xs q in
      let (g, u, e) = Memᴰ.of_map (λ (g : ℕ). record { from = f; priority = x; to = g }) gs s in
      subst (Parts fs xs gs) e (record { from_in = p; priority_in = r; to_in = u })

  pub cube_length : length (cube fs xs gs) ≡ length fs * (length xs * length gs)
  cube_length =
      length-flat_map (λ f. flat_map (row f) xs) (length xs * length gs) fs
      (λ f. length-flat_map (row f) (length gs) xs (λ x. length-map gs (λ (g : ℕ). record { from = f; priority = x; to = g })))

-- The priorities are the numbers of the fixpoints, and none, which is the number of subformulas and the largest.
cond_more : (b : Bool) (e : ℕ) {k : ℕ} (xs : List ℕ) → Memᴰ k xs → Memᴰ k (cond b (e ∷ xs) xs)
cond_more true e xs m = Memᴰ.tail m
cond_more false e xs m = m

none_from : (t : Table) (e : ℕ) → Memᴰ (e + length t) (priorities_from e t)
none_from [] e = Memᴰ.head (add-zero e)
none_from (o ∷ t) e = cond_more (is_fix o) e (priorities_from (suc e) t) (Memᴰ.cast (omega arith) (none_from t (suc e)))

fix-from : (t : Table) (e i : ℕ) → T (is_fix (operator t i)) → Memᴰ (e + i) (priorities_from e t)
fix-from [] e i h = absurd h
fix-from (o ∷ t) e zero h = Memᴰ.cast (add-zero e) (this (is_fix o) h)
  where
    this : (b : Bool) → T b → Memᴰ e (cond b (e ∷ priorities_from (suc e) t) (priorities_from (suc e) t))
    this true h = Memᴰ.head refl
    this false h = absurd h
fix-from (o ∷ t) e (suc i) h = cond_more (is_fix o) e (priorities_from (suc e) t) (Memᴰ.cast (omega arith) (fix-from t (suc e) i h))

from_le : (t : Table) (e x : ℕ) → Memᴰ x (priorities_from e t) → x ≤ e + length t
from_le [] e x m = omega (arith, Memᴰ.eq_of_singleton m)
from_le (o ∷ t) e x m = split (is_fix o) m (from_le t (suc e) x)
  where
    split : (b : Bool) → Memᴰ x (cond b (e ∷ priorities_from (suc e) t) (priorities_from (suc e) t))
        → (Memᴰ x (priorities_from (suc e) t) → x ≤ suc e + length t) → x ≤ e + suc (length t)
    split true m f = elim (Memᴰ.cases_cons m) [ inl d ↦ omega arith | inr r ↦ omega (arith, f r) ]
    split false m f = omega (arith, f m)

abbrev pub Priority : Table → ℕ → Type 0
Priority t x = Memᴰ x (priorities_from 0 t)

pub none-priority : (t : Table) → Priority t (length t)
none-priority t = Memᴰ.cast (omega arith) (none_from t 0)

pub fix-priority : (t : Table) (m : ℕ) → T (is_fix (operator t m)) → Priority t m
fix-priority t m h = Memᴰ.cast (omega arith) (fix-from t 0 m h)

pub priority_le : (t : Table) (x : ℕ) → Priority t x → x ≤ length t
priority_le t x m = omega (arith, from_le t 0 x m)

pub min_in : (xs : List ℕ) (x y : ℕ) → Memᴰ x xs → Memᴰ y xs → Memᴰ (min x y) xs
min_in xs x y p q = elim (dec_le x y) [ yes h ↦ Memᴰ.cast (omega arith) p | no h ↦ Memᴰ.cast (omega arith) q ]

-- Triples of the table, and lists of them: a set has what the list has that it was made of, as far as it is of the table.
abbrev pub TripleFits : Table → Triple → Type 0
TripleFits t a = Parts (operands t) (priorities_from 0 t) (operands t) a

abbrev pub TriplesKnown : Table → List Triple → Type 0
TriplesKnown t xs = (a : Triple) → Memᴰ a xs → TripleFits t a

pub set_of_of : (t : Table) (xs : List Triple) (a : Triple) → Memᴰ a (set_of t xs) → TripleFits t a × Memᴰ a xs
set_of_of t xs a m =
    let (r, h) = filter_of (λ x. any (same_triple x) xs) (all_triples t) m in
    let (b, q, s) = any_of (same_triple a) xs h in
    (cube_of (operands t) (priorities_from 0 t) (operands t) a r, Memᴰ.cast (triple-sound a b s) q)

pub set_of_in : (t : Table) (xs : List Triple) (a : Triple) → TripleFits t a → Memᴰ a xs → Memᴰ a (set_of t xs)
set_of_in t xs a f m =
    filter_in (λ x. any (same_triple x) xs) (cube_in (operands t) (priorities_from 0 t) (operands t) a f)
    (any_in (same_triple a) m (triple_refl a))

-- MEANING 4.2: the priority of two traces joined is above neither of theirs.
pub joined_lower : (a b : Triple) → ((joined a b).priority ≤ a.priority) × ((joined a b).priority ≤ b.priority)
joined_lower a b = (omega arith, omega arith)

pub meet_of : (a b c : Triple) → Memᴰ c (meet a b) → (a.to ≡ b.from) × (c ≡ joined a b)
meet_of a b c m =
    let (h, r) = cond_of (eqb a.to b.from) (joined a b ∷ []) m in
    (eqb→eq a.to b.from h, Memᴰ.eq_of_singleton r)

pub meet_in : (a b : Triple) → a.to ≡ b.from → Memᴰ (joined a b) (meet a b)
meet_in a b e =
    cond_in (eqb a.to b.from) (subst (λ (n : ℕ). T (eqb a.to n)) e (eqb_refl a.to)) (Memᴰ.head refl)

-- Theorem: a join holds exactly the triples of the two sets that meet, joined end to end.
pub record Joined (xs ys : List Triple) (c : Triple) : Type 0 where
  pub left : Triple
  pub right : Triple
  pub left_in : Memᴰ left xs
  pub right_in : Memᴰ right ys
  pub meets : left.to ≡ right.from
  pub is : c ≡ joined left right

pub join_of : (t : Table) (xs ys : List Triple) (c : Triple) → Memᴰ c (join t xs ys) → Joined xs ys c
unfolding join
join_of t xs ys c m =
    let (k, r) = set_of_of t (flat_map (λ a. flat_map (meet a) ys) xs) c m in
    let (a, p, q) = flat_map_of (λ a. flat_map (meet a) ys) xs r in
    let (b, u, v) = flat_map_of (meet a) ys q in
    record { left = a; right = b; left_in = p; right_in = u; meets = (meet_of a b c v).0; is = (meet_of a b c v).1 }

pub join_in : (t : Table) (xs ys : List Triple) → TriplesKnown t xs → TriplesKnown t ys → (a b : Triple) → Memᴰ a xs → Memᴰ b ys
    → a.to ≡ b.from
    → Memᴰ (joined a b) (join t xs ys)
unfolding join
join_in t xs ys k l a b m n e =
    let p = k a m in
    let q = l b n in
    set_of_in t (flat_map (λ a. flat_map (meet a) ys) xs) (joined a b)
    (record {
      from_in = p.from_in;
      priority_in = min_in (priorities_from 0 t) a.priority b.priority p.priority_in q.priority_in;
      to_in = q.to_in;
    })
    (flat_map_in (λ a. flat_map (meet a) ys) m (flat_map_in (meet a) n (meet_in a b e)))

pub join-known : (t : Table) (xs ys : List Triple) → TriplesKnown t (join t xs ys)
unfolding join
join-known t xs ys a m = (set_of_of t (flat_map (λ a. flat_map (meet a) ys) xs) a m).0
