-- Truth grows with the sets, so that after as many rounds as positions a greatest fixpoint's set lies inside its body's: each round
-- that changes it takes a position away. Assumes nothing.
use mathlib.Core.Path.{◌≡◌, refl, sym, ap, ◌∙◌}
use mathlib.Core.Bool.{Bool, true, false, cond, true≢false, false≢true}
use mathlib.Core.Logic.{◌⊎◌, inl, inr, ⊎_elim}
use Prim.Native.Nat.{ℕ, zero, suc, ◌+◌, ◌≤◌, ◌<◌}
use native.Mathlib.Omega.{arith}
use native.Mathlib.Decide.{ℕ_discrete, dec_le}
use lib.Dec.{eqb}
use Rattle.formula.specs.Table.{Table}
use Rattle.lasso.specs.Lasso.{joined}
use Rattle.theory.proofs.Semantics.{LassoPositions, PositionSet, Sets, put, approximant, Part, holds}

-- below n, s is inside t
abbrev pub Sub : ℕ → PositionSet → PositionSet → Type 0
Sub n s t = (p : ℕ) → p < n → s p ≡ true → t p ≡ true

-- how many of the first k positions a set has
tally : ℕ → PositionSet → ℕ
tally zero s = zero
tally (suc k) s = cond (s k) (suc (tally k s)) (tally k s)

tally_le : (k : ℕ) (s : PositionSet) → tally k s ≤ k
unfolding tally
tally_le zero s = omega arith
tally_le (suc k) s = go (s k) (tally_le k s)
  where
    go : (b : Bool) → tally k s ≤ k → cond b (suc (tally k s)) (tally k s) ≤ suc k
    go true h = omega arith
    go false h = omega arith

tally_pos : (k : ℕ) (s : PositionSet) (p : ℕ) → p < k → s p ≡ true → 0 < tally k s
unfolding tally
tally_pos zero s p h e = omega arith
tally_pos (suc k) s p h e = go (s k) refl (λ l. tally_pos k s p l e)
  where
    go : (b : Bool) → s k ≡ b → (p < k → 0 < tally k s) → 0 < cond b (suc (tally k s)) (tally k s)
    go true q r = omega arith
    go false q r = elim (ℕ_discrete p k) [ yes d ↦ absurd (true≢false (sym e ∙ ap s d ∙ q)) | no d ↦ r (omega arith) ]

module _ (s t : PositionSet) where
  tally_sub : (k : ℕ) → Sub k s t → tally k s ≤ tally k t
  unfolding tally
  tally_sub zero h = omega arith
  tally_sub (suc k) h = go (s k) (t k) (h k (omega arith)) (tally_sub k (λ p l. h p (omega arith)))
    where
      go : (a b : Bool) → (a ≡ true → b ≡ true) → tally k s ≤ tally k t
          → cond a (suc (tally k s)) (tally k s) ≤ cond b (suc (tally k t)) (tally k t)
      go true true f r = omega arith
      go true false f r = absurd (false≢true (f refl))
      go false true f r = omega arith
      go false false f r = omega arith

  -- a part of a set that has as many is all of it
  tally_all : (k : ℕ) → Sub k s t → tally k t ≤ tally k s → Sub k t s
  unfolding tally
  tally_all zero h l p g = absurd (omega arith)
  tally_all (suc k) h l p g =
      go (s k) (t k) refl refl l (tally_sub k (λ i j. h i (omega arith))) (λ c j. tally_all k (λ i j. h i (omega arith)) c p j)
      (ℕ_discrete p k)
    where
      go : (a b : Bool) → s k ≡ a → t k ≡ b → cond b (suc (tally k t)) (tally k t) ≤ cond a (suc (tally k s)) (tally k s)
          → tally k s ≤ tally k t → (tally k t ≤ tally k s → p < k → t p ≡ true → s p ≡ true) → Dec (p ≡ k) → t p ≡ true → s p ≡ true
      go true true u v c d r (yes e) z = ap s e ∙ u
      go true true u v c d r (no e) z = r (omega arith) (omega arith) z
      go true false u v c d r e z = absurd (false≢true (sym v ∙ h k (omega arith) u))
      go false true u v c d r e z = absurd (omega arith)
      go false false u v c d r (yes e) z = absurd (true≢false (sym z ∙ ap t e ∙ v))
      go false false u v c d r (no e) z = r (omega arith) (omega arith) z

module _ (n : ℕ) (f : PositionSet → PositionSet) (mono : (s t : PositionSet) → Sub n s t → Sub n (f s) (f t)) where
  abbrev R : ℕ → PositionSet
  R k = approximant k f (λ i. true)

  falls : (k : ℕ) → Sub n (f (R k)) (R k)
  unfolding approximant
  falls zero = λ p h e. refl
  falls (suc k) = mono (f (R k)) (R k) (falls k)

  settles : (k : ℕ) → Sub n (R k) (f (R k)) ⊎ (tally n (R k) + k ≤ n)
  unfolding approximant
  settles zero = inr (omega (arith, tally_le n (R zero)))
  settles (suc k) = go (settles k) (dec_le (tally n (R k)) (tally n (f (R k))))
    where
      go : Sub n (R k) (f (R k)) ⊎ (tally n (R k) + k ≤ n) → Dec (tally n (R k) ≤ tally n (f (R k)))
          → Sub n (f (R k)) (f (f (R k))) ⊎ (tally n (f (R k)) + suc k ≤ n)
      go (inl h) d = inl (mono (R k) (f (R k)) h)
      go (inr h) (yes d) = inl (mono (R k) (f (R k)) (tally_all (f (R k)) (R k) n (falls k) d))
      go (inr h) (no d) = inr (omega arith)

  pub settled : Sub n (R n) (f (R n))
  settled p h e =
      ⊎_elim (λ (s : Sub n (R n) (f (R n))). s p h e) (λ (c : tally n (R n) + n ≤ n). absurd (omega (arith, tally_pos n (R n) p h e)))
      (settles n)

approximant_mono : (n : ℕ) (f g : PositionSet → PositionSet) → ((s t : PositionSet) → Sub n s t → Sub n (f s) (g t))
    → (s t : PositionSet) → Sub n s t → (k : ℕ) → Sub n (approximant k f s) (approximant k g t)
unfolding approximant
approximant_mono n f g m s t h zero = h
approximant_mono n f g m s t h (suc k) = m (approximant k f s) (approximant k g t) (approximant_mono n f g m s t h k)

pub put_mono : (n : ℕ) (σ τ : Sets) (e : ℕ) (s t : PositionSet)
    → ((m : ℕ) → Sub n (σ m) (τ m)) → Sub n s t → (m : ℕ) → Sub n (put σ e s m) (put τ e t m)
put_mono n σ τ e s t h k m p l = go (eqb m e)
  where
    go : (b : Bool) → cond b (s p) (σ m p) ≡ true → cond b (t p) (τ m p) ≡ true
    go true = k p l
    go false = h m p l

joined_mono : (o a b c d : Bool) → (a ≡ true → c ≡ true) → (b ≡ true → d ≡ true) → joined o a b ≡ true → joined o c d ≡ true
joined_mono true true b c d f g e = rw (f refl) refl
joined_mono true false b true d f g e = refl
joined_mono true false b false d f g e = g e
joined_mono false true b c d f g e = rw (f refl) (g e)
joined_mono false false b c d f g e = absurd (false≢true e)

module _ (t : Table) (c : LassoPositions) where
  pub mono : {e : ℕ} (a : Part t e) (σ τ : Sets) → ((m : ℕ) → Sub c.count (σ m) (τ m)) → Sub c.count (holds t c a σ) (holds t c a τ)
  unfolding holds
  mono (Part.leaf l q) σ τ h = λ p l e. e
  mono (Part.variable m q) σ τ h = λ p l e. h m p l e
  mono (Part.pair o q k k' a b) σ τ h = λ p l. joined_mono o _ _ _ _ (mono a σ τ h p l) (mono b σ τ h p l)
  mono (Part.next q k a) σ τ h = λ p l e. mono a σ τ h (c.after p) (c.after_lt p l) e
  mono (Part.fix e g q k a) σ τ h =
      approximant_mono c.count (λ s. holds t c a (put σ e s)) (λ s. holds t c a (put τ e s))
      (λ s u d. mono a (put σ e s) (put τ e u) (put_mono c.count σ τ e s u h d)) (λ j. g) (λ j. g) (λ p l e. e) c.count
