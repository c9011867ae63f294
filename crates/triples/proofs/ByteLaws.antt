-- The priorities in a byte. To or a byte with itself shifted by 1, 2 and 4 puts under each priority all smaller ones; the smaller ones of
-- two sets of priorities are those of each that the other has one at least as large as. Assumes nothing.
use Rattle.std.proofs.Common.{◌≡◌, refl, sym, ap, subst, ◌∙◌, inl, inr, Bool, true, false, not, ◌&&◌, ◌||◌, ℕ, ◌+◌, ◌-◌, ◌/◌, ◌^◌, ◌≤◌}
use Rattle.std.proofs.Common.{◌<◌, min, arith, eqb-true, T, eqb, leb, leb→le, le→leb, bit_and, bit_or}
use Rattle.std.proofs.Math.Decide.{dec_lt}
use Rattle.std.proofs.Math.Path.{subst⁻¹}
use Rattle.std.proofs.lemmas.Bool.{eqb-false}
use lib.Bits.{and_le_r}
use Rattle.base.specs.Bits.{bit}
use Rattle.base.proofs.BoolLaws.{and_left, and_right, and_both, or_cases, or_left, or_right}
use Rattle.base.proofs.TestLaws.{not_of_T, same_truth}
use Rattle.base.proofs.BitLaws.{bit-or, bit-and}
use Rattle.base.proofs.WordLaws.{no-bit}
use Rattle.base.proofs.ShiftLaws.{bit_shift, bit_high, same_low_bits}
use Rattle.profile_tables.specs.Triples.{some, smaller}
use Rattle.profile_tables.proofs.TriplesLaws.{some_of, some_in, smaller_in, smaller_of}
use Rattle.triples.specs.Inner.{Bits, above}

-- v has k exactly if u has k or a number less than s above it
record Near (u v : ℕ → Bool) (s : ℕ) : Type 0 where
  of : (k : ℕ) → T (v k) → (i : ℕ) × (i < s) × T (u (i + k))
  into : (k i : ℕ) → i < s → T (u (i + k)) → T (v k)

near-one : (u : ℕ → Bool) → Near u u 1
near-one u =
    record {
      of = λ k h. (0, omega arith, subst (λ (n : ℕ). T (u n)) {x = k} {y = 0 + k} (omega arith) h);
      into = λ k i l h. subst (λ (n : ℕ). T (u n)) {x = i + k} {y = k} (omega arith) h;
    }

-- to or with the shift by s doubles the reach
near_twice : (u : ℕ → Bool) (w s : ℕ) → Near u (bit w) s → Near u (bit (bit_or w (w / 2 ^ s))) (s + s)
near_twice u w s n =
    record {
      of = λ k h.
          elim (or_cases (bit w k) (bit w (s + k)) (subst T (here k) h)) [
            | inl p ↦ let (i, l, q) = n.of k p in (i, omega arith, q)
            | inr p ↦
                let (i, l, q) = n.of (s + k) p in
                (s + i, omega arith, subst (λ (m : ℕ). T (u m)) {x = i + (s + k)} {y = s + i + k} (omega arith) q)
          ];
      into = λ k i l h. subst⁻¹ T (here k) (at k i l h (dec_lt i s));
    }
  where
    here : (k : ℕ) → bit (bit_or w (w / 2 ^ s)) k ≡ (bit w k || bit w (s + k))
    here k = bit-or w (w / 2 ^ s) k ∙ ap (λ (t : Bool). bit w k || t) (bit_shift w s k)

    at : (k i : ℕ) → i < s + s → T (u (i + k)) → Dec (i < s) → T (bit w k || bit w (s + k))
    at k i l h (yes p) = or_left (bit w k) (bit w (s + k)) (n.into k i p h)
    at k i l h (no p) =
        or_right (bit w k) (bit w (s + k))
        (n.into (s + k) (i - s) (omega arith) (subst (λ (m : ℕ). T (u m)) {x = i + k} {y = i - s + (s + k)} (omega arith) h))

near-above : (u v : ℕ → Bool) → Near u v 8 → ((j : ℕ) → 8 ≤ j → u j ≡ false) → (k : ℕ) → v k ≡ above u k
near-above u v n top k =
    same_truth (v k) (above u k)
    (λ h. let (i, l, p) = n.of k h in there i p (dec_lt (i + k) 8))
    (λ h.
    let (j, l, p) = some_of 8 (λ j. leb k j && u j) h in
    let le = leb→le k j (and_left (leb k j) (u j) p) in
    n.into k (j - k) (omega arith) (subst (λ (m : ℕ). T (u m)) {x = j} {y = j - k + k} (omega arith) (and_right (leb k j) (u j) p)))
  where
    there : (i : ℕ) → T (u (i + k)) → Dec (i + k < 8) → T (above u k)
    there i p (yes l) =
        some_in 8 (λ j. leb k j && u j) (i + k) l (and_both (leb k (i + k)) (u (i + k)) (le→leb k (i + k) (omega arith)) p)
    there i p (no l) = absurd (subst T (top (i + k) (omega arith)) p)

-- what `down` computes
pub down_bits : (w : ℕ) → w < 2 ^ 8 → (a b : ℕ) → a ≡ bit_or w (w / 2 ^ 1) → b ≡ bit_or a (a / 2 ^ 2)
    → Bits (bit_or b (b / 2 ^ 4)) (above (bit w))
down_bits w h a b p q k l =
    near-above (bit w) (bit (bit_or b (b / 2 ^ 4)))
    (near_twice (bit w) b 4
    (subst⁻¹ (λ (n : ℕ). Near (bit w) (bit n) 4) q
    (near_twice (bit w) a 2 (subst⁻¹ (λ (n : ℕ). Near (bit w) (bit n) 2) p (near_twice (bit w) w 1 (near-one (bit w)))))))
    (λ j l. bit_high 8 w j h l)
    k

-- k is the smaller of two: it is one's, and the other has one at least as large
module _ (a b : ℕ → Bool) (k : ℕ) (l : k < 8) where
  abbrev one : Bool
  one = a k && above b k

  abbrev other : Bool
  other = b k && above a k

  to : (y z : ℕ) → y < 8 → z < 8 → T (a y) → T (b z) → min y z ≡ k → Dec (y < z) → T (one || other)
  to y z i j p q e (yes h) =
      let f : y ≡ k = omega arith in
      or_left one other
      (and_both (a k) (above b k) (subst (λ (n : ℕ). T (a n)) f p)
      (some_in 8 (λ j. leb k j && b j) z j (and_both (leb k z) (b z) (le→leb k z (omega arith)) q)))
  to y z i j p q e (no h) =
      let f : z ≡ k = omega arith in
      or_right one other
      (and_both (b k) (above a k) (subst (λ (n : ℕ). T (b n)) f q)
      (some_in 8 (λ j. leb k j && a j) y i (and_both (leb k y) (a y) (le→leb k y (omega arith)) p)))

  larger : (c : ℕ → Bool) → T (above c k) → (j : ℕ) × (j < 8) × (k ≤ j) × T (c j)
  larger c t =
      let (j, i, w) = some_of 8 (λ j. leb k j && c j) t in
      (j, i, leb→le k j (and_left (leb k j) (c j) w), and_right (leb k j) (c j) w)

  smaller-above : smaller a b k ≡ (one || other)
  smaller-above =
      same_truth (smaller a b k) (one || other)
      (λ t. let (y, z, i, j, p, q, e) = smaller_of a b k t in to y z i j p q e (dec_lt y z))
      (λ t.
      elim (or_cases one other t) [
        | inl h ↦
            let (z, j, le, q) = larger b (and_right (a k) (above b k) h) in
            smaller_in a b k z k l j (and_left (a k) (above b k) h) q (omega arith)
        | inr h ↦
            let (y, j, le, p) = larger a (and_right (b k) (above a k) h) in
            smaller_in a b y k k j l p (and_left (b k) (above a k) h) (omega arith)
      ])

-- what `minima` computes
pub minima_bits : (a b c d : ℕ) → Bits c (above (bit b)) → Bits d (above (bit a))
    → Bits (bit_or (bit_and a c) (bit_and b d)) (smaller (bit a) (bit b))
minima_bits a b c d p q k h =
    bit-or (bit_and a c) (bit_and b d) k
    ∙ ap (λ (t : Bool). t || bit (bit_and b d) k) (bit-and a c k ∙ ap (λ (t : Bool). bit a k && t) (p k h))
    ∙ ap (λ (t : Bool). (bit a k && above (bit b) k) || t) (bit-and b d k ∙ ap (λ (t : Bool). bit b k && t) (q k h))
    ∙ sym (smaller-above (bit a) (bit b) k h)

-- the empty byte has no smaller one
pub none-smaller : (w : ℕ) (q : ℕ → Bool) (k : ℕ) → w ≡ 0 → smaller (bit w) q k ≡ false
none-smaller w q k e =
    not_of_T (smaller (bit w) q k)
    (λ t. let (y, z, i, j, p, o, m) = smaller_of (bit w) q k t in subst T (ap (λ (v : ℕ). bit v y) e ∙ no-bit y) p)

-- a byte with the priorities of another
pub or_bits : (s m : ℕ) (q : ℕ → Bool) → Bits m q → Bits (bit_or s m) (λ k. bit s k || q k)
or_bits s m q p k h = bit-or s m k ∙ ap (λ (t : Bool). bit s k || t) (p k h)

-- whether a byte and a mask have a priority in common
abbrev pub met : (w mask : ℕ) → Bool
met w mask = some 8 (λ x. bit mask x && bit w x)

met_and : (w mask x : ℕ) → bit (bit_and w mask) x ≡ (bit mask x && bit w x)
met_and w mask x = bit-and w mask x ∙ swap (bit w x) (bit mask x)
  where
    swap : (a b : Bool) → (a && b) ≡ (b && a)
    swap true true = refl
    swap true false = refl
    swap false true = refl
    swap false false = refl

pub met-none : (w mask : ℕ) → bit_and w mask ≡ 0 → met w mask ≡ false
met-none w mask e =
    not_of_T (met w mask)
    (λ h.
    let (x, l, p) = some_of 8 (λ x. bit mask x && bit w x) h in
    subst T (sym (met_and w mask x) ∙ ap (λ (v : ℕ). bit v x) e ∙ no-bit x) p)

pub met_some : (w mask : ℕ) → mask < 2 ^ 8 → (bit_and w mask ≡ 0 → ⊥) → met w mask ≡ true
met_some w mask h d = go (met w mask) refl
  where
    go : (t : Bool) → met w mask ≡ t → t ≡ true
    go true e = refl
    go false e =
        absurd
        (d
        (same_low_bits 8 (bit_and w mask) 0 (omega (arith, and_le_r w mask)) (omega arith)
        (λ k l.
        not_of_T (bit (bit_and w mask) k)
        (λ p. subst T e (some_in 8 (λ x. bit mask x && bit w x) k l (subst T (met_and w mask k) p)))
        ∙ sym (no-bit k))))

-- what the test for one gives
pub met_test : (w mask : ℕ) → mask < 2 ^ 8 → not (eqb (bit_and w mask) 0) ≡ met w mask
met_test w mask h = go (eqb (bit_and w mask) 0) refl
  where
    go : (t : Bool) → eqb (bit_and w mask) 0 ≡ t → not t ≡ met w mask
    go true e = sym (met-none w mask (eqb-true (bit_and w mask) 0 e))
    go false e = sym (met_some w mask h (eqb-false (bit_and w mask) 0 e))
