-- Comparing sequences of numbers one after another is an order: transitive, and no sequence comes before itself, so that two of which
-- neither comes after the other are one. What stands behind a difference does not matter, nor what stands in front of both.
-- Assumes nothing.
use Rattle.std.proofs.Common.{◌≡◌, refl, sym, subst, ◌∙◌, inl, inr, List, [], ◌∷◌, ◌++◌, ℕ, ◌≤◌, arith}
use Rattle.std.proofs.Math.Decide.{dec_le}
use Rattle.std.proofs.Math.Path.{subst⁻¹}
use Rattle.base.specs.Order.{Before, NoLater}

pub before_trans : (xs ys zs : List ℕ) → Before xs ys → Before ys zs → Before xs zs
before_trans [] ys zs h k = absurd h
before_trans (x ∷ xs) [] zs h k = absurd h
before_trans (x ∷ xs) (y ∷ ys) [] h k = absurd k
before_trans (x ∷ xs) (y ∷ ys) (z ∷ zs) (inl l) (inl m) = inl (omega arith)
before_trans (x ∷ xs) (y ∷ ys) (z ∷ zs) (inl l) (inr (e, k)) = inl (omega arith)
before_trans (x ∷ xs) (y ∷ ys) (z ∷ zs) (inr (e, h)) (inl m) = inl (omega arith)
before_trans (x ∷ xs) (y ∷ ys) (z ∷ zs) (inr (e, h)) (inr (d, k)) = inr (e ∙ d, before_trans xs ys zs h k)

before_itself : (xs : List ℕ) → Before xs xs → ⊥
before_itself [] h = h
before_itself (x ∷ xs) (inl l) = omega arith
before_itself (x ∷ xs) (inr (e, h)) = before_itself xs h

-- what stands behind a difference
pub before_front : (xs ys us vs : List ℕ) → Before xs ys → Before (xs ++ us) (ys ++ vs)
before_front [] ys us vs h = absurd h
before_front (x ∷ xs) [] us vs h = absurd h
before_front (x ∷ xs) (y ∷ ys) us vs (inl l) = inl l
before_front (x ∷ xs) (y ∷ ys) us vs (inr (e, h)) = inr (e, before_front xs ys us vs h)

-- what stands in front of both
pub before-behind : (xs us vs : List ℕ) → Before us vs → Before (xs ++ us) (xs ++ vs)
before-behind [] us vs h = h
before-behind (x ∷ xs) us vs h = inr (refl, before-behind xs us vs h)

pub no_later_trans : (xs ys zs : List ℕ) → NoLater xs ys → NoLater ys zs → NoLater xs zs
no_later_trans xs ys zs (inl e) k = subst⁻¹ (λ (l : List ℕ). NoLater l zs) e k
no_later_trans xs ys zs (inr h) (inl e) = inr (subst (Before xs) e h)
no_later_trans xs ys zs (inr h) (inr k) = inr (before_trans xs ys zs h k)

-- Theorem: two sequences neither of which comes later are the same.
pub no_later_both : (xs ys : List ℕ) → NoLater xs ys → NoLater ys xs → xs ≡ ys
no_later_both xs ys (inl e) k = e
no_later_both xs ys (inr h) (inl e) = sym e
no_later_both xs ys (inr h) (inr k) = absurd (before_itself xs (before_trans xs ys xs h k))

-- Of two sequences of which one does not come later, its first number is no larger, and where it is the same, its rest does not come later;
pub no_later_first : (x y : ℕ) (xs ys : List ℕ) → NoLater (x ∷ xs) (y ∷ ys) → x ≤ y
no_later_first x y xs ys (inl e) = let q : x ≡ y = cc in omega arith
no_later_first x y xs ys (inr (inl l)) = omega arith
no_later_first x y xs ys (inr (inr (e, h))) = omega arith

pub no_later_rest : (x y : ℕ) (xs ys : List ℕ) → NoLater (x ∷ xs) (y ∷ ys) → y ≡ x → NoLater xs ys
no_later_rest x y xs ys (inl e) q = inl cc
no_later_rest x y xs ys (inr (inl l)) q = absurd (omega arith)
no_later_rest x y xs ys (inr (inr (e, h))) q = inr h

-- and that is all it takes.
pub no_later_by : (x y : ℕ) (xs ys : List ℕ) → x ≤ y → (y ≡ x → NoLater xs ys) → NoLater (x ∷ xs) (y ∷ ys)
no_later_by x y xs ys h f =
    elim (dec_le y x) [
      | yes k ↦
          let e : x ≡ y = omega arith in
          elim (f (sym e)) [ inl q ↦ inl (λ i. e i ∷ q i) | inr b ↦ inr (inr (e, b)) ]
      | no n ↦ inr (inl (omega arith))
    ]
