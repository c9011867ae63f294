-- The saturation of a node is what MEANING 3.3 says, the smallest set around the node that no move leaves: it holds the node
-- (`saturate-holds`), is closed under the moves of the choice (`saturate-closed`), and is inside every set that does both
-- (`saturate-least`). A pass only adds what a move leads to, so it stays inside every closed set; passes that only add come to rest
-- once there have been as many as subformulas; and where a pass adds nothing, every move stays in the set. Assumes nothing.
use Rattle.std.proofs.Common.{◌≡◌, refl, sym, ap, subst, ◌∙◌, ◌⊎◌, inl, inr, Bool, true, false, cond, List, [], ◌∷◌, ℕ, zero, suc, ◌+◌}
use Rattle.std.proofs.Common.{◌<◌, arith, add-zero, zero-add, suc-add, add-suc, T, length, set}
use Rattle.std.proofs.Math.Path.{subst⁻¹}
use mathlib.Core.List.{Memᴰ}
use mathlib.Core.List.Memᴰ
use Rattle.base.specs.Lists.{same_bit}
use Rattle.base.specs.Sets.{Below, Inside}
use Rattle.base.proofs.BoolLaws.{by_test, of_T, to_T, same_bit-sound, same_bit_refl}
use Rattle.base.proofs.MemberLaws.{alike-sound, alike_refl}
use Rattle.base.proofs.ListLaws.{iterate-keeps}
use Rattle.base.proofs.Inside.{below-greatest, inside-at, inside_of, inside_length, inside_refl, inside_trans, inside_both, waiting_le}
use Rattle.base.proofs.Inside.{rests}
use Rattle.formula.specs.Table.{Operator, Table, operator}
use Rattle.tableau.specs.Saturation.{Subset, has, same_subset, nothing, add, moves, sweep, saturate}
use Rattle.tableau.specs.Fringe.{FollowsMoves}

-- the test of subsets
pub subset_sound : (v u : Subset) → T (same_subset v u) → v ≡ u
subset_sound = alike-sound same_bit same_bit-sound

pub subset_refl : (v : Subset) → T (same_subset v v)
subset_refl = alike_refl same_bit same_bit_refl

-- a subset inside another has no subformula that the other lacks
below_T : {a b : Bool} → Below a b → T a → T b
below_T Below.same h = h
below_T Below.more h = tt

pub inside-has : {v u : Subset} → Inside v u → (e : ℕ) → T (has v e) → T (has u e)
inside-has i e = below_T (inside-at i e)

pub inside_by : (v u : Subset) → length v ≡ length u → ((e : ℕ) → T (has v e) → T (has u e)) → Inside v u
inside_by v u len f = inside_of v u len (λ e l q. of_T (has u e) (f e (to_T (has v e) q)))

-- two subsets of one length that have the same subformulas are equal
pub subset_ext : (v u : Subset) → length v ≡ length u → ((e : ℕ) → T (has v e) → T (has u e)) → ((e : ℕ) → T (has u e) → T (has v e))
    → v ≡ u
subset_ext v u len f g = inside_both (inside_by v u len f) (inside_by u v (sym len) g)

pub has_lt : (v : Subset) (e : ℕ) → T (has v e) → e < length v
has_lt [] e h = absurd h
has_lt (b ∷ v) zero h = omega arith
has_lt (b ∷ v) (suc e) h = omega (arith, has_lt v e h)

pub nothing-has : (t : Table) (e : ℕ) → T (has (nothing t) e) → ⊥
nothing-has [] e h = h
nothing-has (o ∷ t) zero h = h
nothing-has (o ∷ t) (suc e) h = nothing-has t e h

-- one subformula more
pub set_has : (v : Subset) (m : ℕ) → m < length v → T (has (set v m true) m)
set_has [] m h = absurd (omega arith)
set_has (b ∷ v) zero h = tt
set_has (b ∷ v) (suc m) h = set_has v m (omega arith)

pub set_of : (v : Subset) (m e : ℕ) → T (has (set v m true) e) → ((e ≡ m) × (m < length v)) ⊎ T (has v e)
set_of [] m e h = inr h
set_of (b ∷ v) zero zero h = inl (refl, omega arith)
set_of (b ∷ v) zero (suc e) h = inr h
set_of (b ∷ v) (suc m) zero h = inr h
set_of (b ∷ v) (suc m) (suc e) h = elim (set_of v m e h) [ inl p ↦ inl (ap suc p.0, omega (arith, p.1)) | inr q ↦ inr q ]

set_inside : (v : Subset) (m : ℕ) → Inside v (set v m true)
set_inside [] m = Inside.none
set_inside (b ∷ v) zero = Inside.put (below-greatest b) (inside_refl v)
set_inside (b ∷ v) (suc m) = Inside.put Below.same (set_inside v m)

set_mono : {v u : Subset} (m : ℕ) → Inside v u → Inside (set v m true) (set u m true)
set_mono m Inside.none = Inside.none
set_mono zero (Inside.put p i) = Inside.put Below.same i
set_mono (suc m) (Inside.put p i) = Inside.put p (set_mono m i)

-- several more
pub add-inside : (ms : List ℕ) (v : Subset) → Inside v (add ms v)
add-inside [] v = inside_refl v
add-inside (m ∷ ms) v = inside_trans (set_inside v m) (add-inside ms (set v m true))

add_mono : (ms : List ℕ) {v u : Subset} → Inside v u → Inside (add ms v) (add ms u)
add_mono [] i = i
add_mono (m ∷ ms) i = add_mono ms (set_mono m i)

pub add-has : (ms : List ℕ) {m : ℕ} → Memᴰ m ms → (v : Subset) → m < length v → T (has (add ms v) m)
add-has [] r v h = absurd (Memᴰ.not-nil r)
add-has (x ∷ ms) {m} r v h =
    elim (Memᴰ.cases_cons r) [
      | inl e ↦ inside-has (add-inside ms (set v x true)) m (subst (λ (k : ℕ). T (has (set v k true) m)) e (set_has v m h))
      | inr q ↦ add-has ms q (set v x true) (omega (arith, inside_length (set_inside v x)))
    ]

pub add_of : (ms : List ℕ) (v : Subset) (e : ℕ) → T (has (add ms v) e) → (Memᴰ e ms × (e < length v)) ⊎ T (has v e)
add_of [] v e h = inr h
add_of (m ∷ ms) v e h =
    elim (add_of ms (set v m true) e h) [
      | inl p ↦ inl (Memᴰ.tail p.0, omega (arith, p.1, inside_length (set_inside v m)))
      | inr r ↦ elim (set_of v m e r) [ inl p ↦ inl (Memᴰ.head p.0, omega (arith, p.0, p.1)) | inr q ↦ inr q ]
    ]

pub add-least : (ms : List ℕ) {v u : Subset} → Inside v u → ((m : ℕ) → Memᴰ m ms → m < length u → T (has u m)) → Inside (add ms v) u
add-least ms {v} {u} i f =
    inside_by (add ms v) u (sym (inside_length (add-inside ms v)) ∙ inside_length i)
    (λ k q. elim (add_of ms v k q) [ inl p ↦ f k p.0 (omega (arith, p.1, inside_length i)) | inr r ↦ inside-has i k r ])

-- what the operator of subformula e adds in a pass
abbrev added : Operator → Subset → ℕ → Subset → Subset
added o w e v = cond (has v e) (add (moves o (has w e)) v) v

added_inside : (o : Operator) (w : Subset) (e : ℕ) (v : Subset) → Inside v (added o w e v)
added_inside o w e v =
    by_test (has v e) (λ b. Inside v (cond b (add (moves o (has w e)) v) v))
    (λ h. add-inside (moves o (has w e)) v)
    (λ h. inside_refl v)

added_mono : (o : Operator) (w : Subset) (e : ℕ) {v u : Subset} → Inside v u → Inside (added o w e v) (added o w e u)
added_mono o w e {v} {u} i =
    by_test (has v e) (λ b. Inside (cond b (add (moves o (has w e)) v) v) (added o w e u))
    (λ h.
    subst⁻¹ (λ (b : Bool). Inside (add (moves o (has w e)) v) (cond b (add (moves o (has w e)) u) u)) (of_T (has u e) (inside-has i e h))
    (add_mono (moves o (has w e)) i))
    (λ h. inside_trans i (added_inside o w e u))

added_has : (o : Operator) (w : Subset) (e : ℕ) (v : Subset) (m : ℕ) → T (has v e) → Memᴰ m (moves o (has w e)) → m < length v
    → T (has (added o w e v) m)
added_has o w e v m h r l =
    subst⁻¹ (λ (b : Bool). T (has (cond b (add (moves o (has w e)) v) v) m)) (of_T (has v e) h) (add-has (moves o (has w e)) r v l)

sweep-inside : (t : Table) (w : Subset) (e : ℕ) (v : Subset) → Inside v (sweep t w e v)
sweep-inside [] w e v = inside_refl v
sweep-inside (o ∷ t) w e v = inside_trans (added_inside o w e v) (sweep-inside t w (suc e) (added o w e v))

sweep_mono : (t : Table) (w : Subset) (e : ℕ) {v u : Subset} → Inside v u → Inside (sweep t w e v) (sweep t w e u)
sweep_mono [] w e i = i
sweep_mono (o ∷ t) w e i = sweep_mono t w (suc e) (added_mono o w e i)

-- a move from a subformula of the set to one of the table stays in the set
abbrev pub ClosedUnder : Table → (choice : Subset) → Subset → Type 0
ClosedUnder t w v = FollowsMoves (λ e. moves (operator t e) (has w e)) v

-- the same for a part of a table, whose first subformula is e
abbrev ClosedFrom : Table → (choice : Subset) → ℕ → Subset → Type 0
ClosedFrom t w e v = (i m : ℕ) → T (has v (e + i)) → Memᴰ m (moves (operator t i) (has w (e + i))) → m < length v → T (has v m)

-- a pass adds what a move from the set leads to
sweep-closed : (t : Table) (w : Subset) (e : ℕ) (v u : Subset) → Inside (sweep t w e v) u
    → (i m : ℕ) → T (has v (e + i)) → Memᴰ m (moves (operator t i) (has w (e + i))) → m < length v → T (has u m)
sweep-closed [] w e v u s i m h r l = absurd (Memᴰ.not-nil r)
sweep-closed (o ∷ t) w e v u s zero m h r l =
    inside-has s m (inside-has (sweep-inside t w (suc e) (added o w e v)) m (added_has o w e v m (rw add-zero at h) (rw add-zero at r) l))
sweep-closed (o ∷ t) w e v u s (suc i) m h r l =
    let g = added_inside o w e v in
    sweep-closed t w (suc e) (added o w e v) u s i m
    (inside-has g (suc e + i) (rw (add-suc, ← suc-add) at h)) (rw (add-suc, ← suc-add) at r) (omega (arith, inside_length g))

-- a pass stays inside a closed set
added_least : (o : Operator) (w : Subset) (e : ℕ) {v u : Subset} → Inside v u
    → ((m : ℕ) → T (has u e) → Memᴰ m (moves o (has w e)) → m < length u → T (has u m)) → Inside (added o w e v) u
added_least o w e {v} {u} i f =
    by_test (has v e) (λ b. Inside (cond b (add (moves o (has w e)) v) v) u)
    (λ h. add-least (moves o (has w e)) i (λ m r l. f m (inside-has i e h) r l))
    (λ h. i)

sweep-least : (t : Table) (w : Subset) (e : ℕ) {v u : Subset} → Inside v u → ClosedFrom t w e u → Inside (sweep t w e v) u
sweep-least [] w e i c = i
sweep-least (o ∷ t) w e i c =
    sweep-least t w (suc e)
    (added_least o w e i (λ m h r l. c 0 m (rw add-zero h) (rw add-zero r) l))
    (λ j m h r l. c (suc j) m (rw (add-suc, ← suc-add) h) (rw (add-suc, ← suc-add) r) l)

module _ (t : Table) (w : Subset) where
  -- the saturation holds the node,
  pub saturate-holds : (v : Subset) → Inside v (saturate t w v)
  saturate-holds v = iterate-keeps (Inside v) (length t) (sweep t w 0) (λ u i. inside_trans i (sweep-inside t w 0 u)) v (inside_refl v)

  pub saturate-length : (v : Subset) → length (saturate t w v) ≡ length v
  saturate-length v = sym (inside_length (saturate-holds v))

  -- follows the moves,
  pub saturate-closed : (v : Subset) → length v ≡ length t → ClosedUnder t w (saturate t w v)
  saturate-closed v len e m h r l =
      let s = saturate t w v in
      let rest : sweep t w 0 s ≡ s =
      rests false (sweep t w 0) (λ a b i. sweep_mono t w 0 i) (length t) v (sweep-inside t w 0 v) (omega (arith, waiting_le false v)) in
      sweep-closed t w 0 s s (subst⁻¹ (λ (u : Subset). Inside u s) rest (inside_refl s)) e m (rw zero-add h) (rw zero-add r) l

  -- and is inside every set that does both
  pub saturate-least : {v u : Subset} → Inside v u → ClosedUnder t w u → Inside (saturate t w v) u
  saturate-least {v} {u} i c =
      iterate-keeps (λ (x : Subset). Inside x u) (length t) (sweep t w 0)
      (λ x p. sweep-least t w 0 p (λ e m h r l. c e m (rw zero-add at h) (rw zero-add at r) l)) v i
