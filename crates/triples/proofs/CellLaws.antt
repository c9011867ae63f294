-- Sets of triples in bytes: copied, compared row by row, and asked which operands lead back. Assumes nothing.
use Rattle.std.proofs.Common.{◌≡◌, ◌↔◌, ℕ, suc, zero, ◌+◌, ◌*◌, ◌≤◌, ◌<◌, Bool, true, false, ◌&&◌, ◌||◌, List, length, get_or, refl, sym}
use Rattle.std.proofs.Common.{ap, subst, ◌∙◌, IsTrue, arith}
use Rattle.std.proofs.Common.{set}
use Rattle.std.proofs.Math.Decide.{ℕ_discrete}
use Rattle.std.proofs.Math.Seq.{get_or-set_same, get_or-set_other}
use Rattle.std.proofs.Common.{bit_or, eqb-true}
use Rattle.std.proofs.lemmas.Bool.{eq-eqb}
use borrow.Author.Count.{below_more}
use lib.Bits.{bit_xor, and_le_l, and_le_r, or_add_and, or_zero_l, xor_add_and, xor_self}
use Rattle.std.proofs.Math.Bool.{or-false, or_assoc}
use Rattle.std.proofs.Math.Dec.{eqb}
use Rattle.std.proofs.lemmas.Bool.Decides.{Decides-eqb}
use Rattle.std.proofs.lemmas.Grind.{same_number_lists}
use Rattle.std.proofs.lemmas.List.Edits.{length-between, get_or-between}
use Rattle.std.proofs.lemmas.List.FromFn.{length-range_with_len, get_or-range_with_len}
use Rattle.std.proofs.lemmas.Slice.Eq.{slice_eq-Decides}
use Rattle.std.specs.Bool.{Decides, MatchBool}
use Rattle.std.specs.Cmp.Lexicographic.{pointwise}
use Rattle.std.specs.List.{AllWithin, HoldsAt, between, list_any, range_with_len}
use Rattle.base.specs.Bits.{bit}
use Rattle.base.proofs.ShiftLaws.{same_low_bits}
use Rattle.profile_tables.specs.Triples.{some, those, holds, same_triples}
use Rattle.profile_tables.proofs.TriplesLaws.{Test, some_same, holds-those, those-same, same-those, other_those}
use Rattle.triples.specs.Inner.{bytes, bytes_from, bits, triples_in, triples_at, SameRow, comes_back, leads_back}
use Rattle.triples.proofs.ByteLaws.{met}

-- bytes copied from a place
pub triples_copied : (n : ℕ) (l t : List ℕ) (at : ℕ) → n ≤ 12 → ((i : ℕ) → i < 144 → get_or t i 0 ≡ get_or l (at + i) 0)
    → triples_in n t ≡ triples_at n l at
triples_copied n l t at k h =
    those-same n (bits (bytes t)) (bits (bytes_from l at)) (λ f x g hf hx hg. ap (λ (w : ℕ). bit w x) (h (f * 12 + g) (omega arith)))

-- one byte more of a copy
pub copied_more : (l t : List ℕ) (at i v : ℕ) → i < length t → ((j : ℕ) → j < i → get_or t j 0 ≡ get_or l (at + j) 0)
    → v ≡ get_or l (at + i) 0 → (j : ℕ) → j < i + 1 → get_or (set t i v) j 0 ≡ get_or l (at + j) 0
copied_more l t at i v h r e j k = go (ℕ_discrete j i)
  where
    go : Dec (j ≡ i) → get_or (set t i v) j 0 ≡ get_or l (at + j) 0
    go (yes q) = subst (λ (k : ℕ). get_or (set t i v) k 0 ≡ get_or l (at + k) 0) (sym q) (get_or-set_same t i v 0 h ∙ e)
    go (no q) = get_or-set_other t i j v 0 q ∙ r j (omega arith)

-- two parts of lists are equal exactly if they are at each place
pub parts_same : (xs ys : List ℕ) (a b n : ℕ) → a + n ≤ length xs → b + n ≤ length ys → (r : Bool)
    → r ≡ pointwise eqb (between a (a + n) xs) (between b (b + n) ys)
    → IsTrue r ↔ ((g : ℕ) → g < n → get_or xs (a + g) 0 ≡ get_or ys (b + g) 0)
parts_same xs ys a b n i j r e = (λ t g h. sym (left g h) ∙ ap (λ (l : List ℕ). get_or l g 0) (d.0 t) ∙ right g h, λ h. d.1 (whole h))
  where
    d : Decides r (between a (a + n) xs ≡ between b (b + n) ys)
    d = slice_eq-Decides Decides-eqb (between a (a + n) xs) (between b (b + n) ys) r e

    left : (g : ℕ) → g < n → get_or (between a (a + n) xs) g 0 ≡ get_or xs (a + g) 0
    left g h = get_or-between xs a (a + n) g 0 (omega arith)

    right : (g : ℕ) → g < n → get_or (between b (b + n) ys) g 0 ≡ get_or ys (b + g) 0
    right g h = get_or-between ys b (b + n) g 0 (omega arith)

    length_left : length (between a (a + n) xs) ≡ n
    length_left = length-between xs a (a + n) (omega arith) ∙ omega arith

    length_right : length (between b (b + n) ys) ≡ n
    length_right = length-between ys b (b + n) (omega arith) ∙ omega arith

    whole : ((g : ℕ) → g < n → get_or xs (a + g) 0 ≡ get_or ys (b + g) 0) → between a (a + n) xs ≡ between b (b + n) ys
    whole h =
        same_number_lists _ _ (length_left ∙ sym length_right)
        (λ k l. let m : k < n = omega (arith, length_left) in left k m ∙ h k m ∙ sym (right k m))

-- sets of triples are the same exactly if the rows are
module _ (n : ℕ) (l : List ℕ) (at : ℕ) (t : List ℕ) (hl : (i : ℕ) → get_or l i 0 < 256) (ht : (i : ℕ) → get_or t i 0 < 256) where
  all_same : ((f : ℕ) → f < n → SameRow l at t f n) → true ≡ same_triples (triples_at n l at) (triples_in n t)
  all_same h =
      sym (same-those n (bits (bytes_from l at)) (bits (bytes t)) (λ f x g hf hx hg. ap (λ (w : ℕ). bit w x) (h f hf g hg)))

  not_same : (f : ℕ) → f < n → (SameRow l at t f n → ⊥) → false ≡ same_triples (triples_at n l at) (triples_in n t)
  not_same f hf d =
      sym
      (other_those n (bits (bytes_from l at)) (bits (bytes t))
      (λ h. d (λ g hg. same_low_bits 8 _ _ (hl (at + (f * 12 + g))) (ht (f * 12 + g)) (λ x hx. h f x g hf hx hg))))

  pub rows_same : (r : Bool)
      → MatchBool r (AllWithin (λ f. SameRow l at t f n) (range_with_len 0 n) 0 (length (range_with_len 0 n)))
      ((k : ℕ) × (k < length (range_with_len 0 n)) × HoldsAt (λ f. SameRow l at t f n → ⊥) (range_with_len 0 n) k)
      → r ≡ same_triples (triples_at n l at) (triples_in n t)
  rows_same true h =
      all_same
      (λ f hf.
      subst (λ (k : ℕ). SameRow l at t k n) (at_place f hf)
      (h f 0 (omega arith) (omega (arith, length-range_with_len 0 n))))
    where
      at_place : (f : ℕ) → f < n → get_or (range_with_len 0 n) f 0 ≡ f
      at_place f hf = get_or-range_with_len 0 n f 0 hf ∙ omega arith
  rows_same false (k, hk, d) =
      let h : k < n = omega (arith, length-range_with_len 0 n) in
      not_same k h
      (λ s. d 0 (subst (λ (f : ℕ). SameRow l at t f n) {x = k} {y = get_or (range_with_len 0 n) k 0} (omega (arith, get_or-range_with_len 0 n k 0 h)) s))

-- the first k bytes are the same
abbrev pub SameBelow : (x y : List ℕ) (k : ℕ) → Type 0
SameBelow x y k = (g : ℕ) → g < k → get_or x g 0 ≡ get_or y g 0

or_none : (a b : ℕ) → bit_or a b ≡ 0 → (a ≡ 0) × (b ≡ 0)
or_none a b e =
    let s = or_add_and a b in
    let l = and_le_l a b in
    let r = and_le_r a b in
    (omega arith, omega arith)

xor_none : (a b : ℕ) → bit_xor a b ≡ 0 → a ≡ b
xor_none a b e = omega (arith, xor_add_and a b, and_le_l a b, and_le_r a b)

-- one column more, with the bits that differ there
pub differ_more : (x y : List ℕ) (d g : ℕ) → IsTrue (eqb d 0) ↔ SameBelow x y g
    → IsTrue (eqb (bit_or d (bit_xor (get_or x g 0) (get_or y g 0))) 0) ↔ SameBelow x y (g + 1)
differ_more x y d g h = (more, fewer)
  where
    apart : ℕ
    apart = bit_xor (get_or x g 0) (get_or y g 0)

    both : d ≡ 0 → get_or x g 0 ≡ get_or y g 0 → bit_or d apart ≡ 0
    both z q = ap (λ (w : ℕ). bit_or w apart) z ∙ or_zero_l apart ∙ ap (λ (w : ℕ). bit_xor w (get_or y g 0)) q ∙ xor_self (get_or y g 0)

    more : IsTrue (eqb (bit_or d apart) 0) → SameBelow x y (g + 1)
    more e =
        let (p, q) = or_none d apart (eqb-true (bit_or d apart) 0 e) in
        below_more (λ i. get_or x i 0 ≡ get_or y i 0) g (h.0 (eq-eqb d 0 p)) (xor_none (get_or x g 0) (get_or y g 0) q)

    fewer : SameBelow x y (g + 1) → IsTrue (eqb (bit_or d apart) 0)
    fewer k = eq-eqb (bit_or d apart) 0 (both (eqb-true d 0 (h.1 (λ i l. k i (omega arith)))) (k g (omega arith)))

-- some number below n, from the first one on
some-first : (n : ℕ) (q : ℕ → Bool) → some (suc n) q ≡ (q 0 || some n (λ i. q (suc i)))
some-first zero q = sym (or-false (q 0))
some-first (suc n) q = ap (λ (t : Bool). t || q (suc n)) (some-first n q) ∙ or_assoc (q 0) (some n (λ i. q (suc i))) (q (suc n))

any_from : (a n : ℕ) (q : ℕ → Bool) → list_any q (range_with_len a n) ≡ some n (λ i. q (a + i))
any_from a zero q = refl
any_from a (suc n) q =
    ap (λ (t : Bool). q a || t)
    (any_from (a + 1) n q ∙ some_same n (λ i. q (a + 1 + i)) (λ i. q (a + suc i)) (λ i h. ap q (omega arith)))
    ∙ ap (λ (k : ℕ). q k || some n (λ i. q (a + suc i))) {x = a} {y = a + 0} (omega arith)
    ∙ sym (some-first n (λ i. q (a + i)))

-- whether a number of a range passes a test
pub any-range : (n : ℕ) (q : ℕ → Bool) → list_any q (range_with_len 0 n) ≡ some n q
any-range n q = any_from 0 n q ∙ some_same n (λ i. q (0 + i)) q (λ i h. ap q (omega arith))

-- an operand leads back in a table exactly if it does by the test that the table was made by
pub comes_those : (least : ℕ → Bool) (n : ℕ) (q : Test) (f : ℕ) → f < n
    → comes_back least (those n q) f ≡ some 8 (λ x. least x && q f x f)
comes_those least n q f h =
    some_same 8 (λ x. least x && holds (those n q) f x f) (λ x. least x && q f x f)
    (λ x hx. ap (λ (t : Bool). least x && t) (holds-those n q f x f h hx h))

-- leading back, by the bytes of the diagonal
abbrev pub diagonal : List ℕ → (mask : ℕ) → ℕ → Bool
diagonal s mask f = met (bytes s (f * 12 + f)) mask

module _ (n mask : ℕ) (s : List ℕ) where
  pub back_diagonal : leads_back (bit mask) n (triples_in n s) ≡ some n (diagonal s mask)
  back_diagonal =
      some_same n (comes_back (bit mask) (triples_in n s)) (diagonal s mask) (λ f hf. comes_those (bit mask) n (bits (bytes s)) f hf)
