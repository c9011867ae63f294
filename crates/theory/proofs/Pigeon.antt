-- Of more numbers than there are values two have the same value. Assumes nothing.
use mathlib.Core.Path.{◌≡◌, refl, sym, ap, ◌∙◌}
use mathlib.Core.Bool.{Bool, true, false, cond}
use mathlib.Core.Logic.{◌⊎◌, inl, inr}
use Prim.Native.Nat.{ℕ, zero, suc, ◌≤◌, ◌<◌}
use native.Mathlib.Omega.{arith}
use native.Mathlib.Decide.{ℕ_discrete}
use lib.Dec.{eqb}
use borrow.Author.Tests.{eqb-true, eqb-false}

pub record Twice (n : ℕ) (f : ℕ → ℕ) : Type 0 where
  pub a : ℕ
  pub b : ℕ
  pub before : a < b
  pub last : b ≤ n
  pub same : f a ≡ f b

abbrev swap : ℕ → ℕ → ℕ → ℕ
swap n v x = cond (eqb x n) v x

swap_inj : (n v x y : ℕ) → (x ≡ v → ⊥) → (y ≡ v → ⊥) → swap n v x ≡ swap n v y → x ≡ y
swap_inj n v x y h k e = go (eqb x n) (eqb y n) refl refl e
  where
    go : (s t : Bool) → eqb x n ≡ s → eqb y n ≡ t → cond s v x ≡ cond t v y → x ≡ y
    go true true p q r = eqb-true x n p ∙ sym (eqb-true y n q)
    go true false p q r = absurd (k (sym r))
    go false true p q r = absurd (h r)
    go false false p q r = r

swap_lt : (n v x : ℕ) → x < suc n → v < suc n → (x ≡ v → ⊥) → swap n v x < n
swap_lt n v x h k d = go (eqb x n) refl
  where
    go : (s : Bool) → eqb x n ≡ s → cond s v x < n
    go true p =
        let q : x ≡ n = eqb-true x n p in
        let d' : (v ≡ n → ⊥) = λ r. d (q ∙ sym r) in
        omega arith
    go false p = let d' : (x ≡ n → ⊥) = eqb-false x n p in omega arith

find : (f : ℕ → ℕ) (v k : ℕ) → ((a : ℕ) × (a < k) × (f a ≡ v)) ⊎ ((a : ℕ) → a < k → f a ≡ v → ⊥)
find f v zero = inr (λ a h. omega arith)
find f v (suc k) = go (find f v k) (ℕ_discrete (f k) v)
  where
    go : ((a : ℕ) × (a < k) × (f a ≡ v)) ⊎ ((a : ℕ) → a < k → f a ≡ v → ⊥) → Dec (f k ≡ v)
        → ((a : ℕ) × (a < suc k) × (f a ≡ v)) ⊎ ((a : ℕ) → a < suc k → f a ≡ v → ⊥)
    go (inl r) d = inl (r.0, omega arith, r.2)
    go (inr r) (yes d) = inl (k, omega arith, d)
    go (inr r) (no d) = inr (λ a h q. more a h q (ℕ_discrete a k))
      where
        more : (a : ℕ) → a < suc k → f a ≡ v → Dec (a ≡ k) → ⊥
        more a h q (yes e) = d (ap f (sym e) ∙ q)
        more a h q (no e) = r a (omega arith) q

pub pigeon : (n : ℕ) (f : ℕ → ℕ) → ((i : ℕ) → i ≤ n → f i < n) → Twice n f
pigeon zero f h = absurd (let z : f 0 < 0 = h 0 (omega arith) in omega arith)
pigeon (suc n) f h = go (find f v (suc n)) (λ k. pigeon n (λ a. swap n v (f a)) k)
  where
    v : ℕ
    v = f (suc n)

    go : ((a : ℕ) × (a < suc n) × (f a ≡ v)) ⊎ ((a : ℕ) → a < suc n → f a ≡ v → ⊥)
        → (((i : ℕ) → i ≤ n → swap n v (f i) < n) → Twice n (λ a. swap n v (f a)))
        → Twice (suc n) f
    go (inl r) k = record { a = r.0; b = suc n; before = r.1; last = omega arith; same = r.2 }
    go (inr r) k =
        let t : Twice n (λ a. swap n v (f a)) =
        k (λ i l. swap_lt n v (f i) (h i (omega arith)) (h (suc n) (omega arith)) (r i (omega arith))) in
        record {
          a = t.a;
          b = t.b;
          before = t.before;
          last = omega arith;
          same = swap_inj n v (f t.a) (f t.b) (r t.a (omega arith)) (r t.b (omega arith)) t.same;
        }
