-- The laws of the operators on bits: or, and, xor go bit by bit, and a power of two has one bit. Assumes nothing.
use Rattle.std.proofs.Common.{◌≡◌, refl, ap, ◌∙◌, Bool, true, false, cond, not, ◌||◌, ◌&&◌, ℕ, zero, suc, ◌+◌, ◌%◌, ◌^◌, ◌<◌, min, max}
use Rattle.std.proofs.Common.{eqb, bit_and, bit_or, bit_xor, arith, eqb-true}
use Rattle.std.proofs.Math.Bool.{or-true, or-false}
use Rattle.std.proofs.lemmas.Bool.{eqb-false}
use Rattle.std.proofs.lemmas.Nat.Bits.{bit_at-lt, bit_at_and, bit_at_or, bit_at_xor, bit_at-pow_same, bit_at-pow_other}
use Rattle.std.specs.Int.{bit_at}
use Rattle.base.specs.Bits.{bit}

-- a fact of any two digits
two : (P : ℕ → Type 0) → P 0 → P 1 → (x : ℕ) → x < 2 → P x
two P a b zero h = a
two P a b (suc zero) h = b
two P a b (suc (suc x)) h = absurd (omega arith)

digits : (a b e : ℕ) (P : ℕ → ℕ → Type 0) → P 0 0 → P 0 1 → P 1 0 → P 1 1 → P (bit_at a e) (bit_at b e)
digits a b e P p q r s =
    let P_of : (x : ℕ) → P x 0 → P x 1 → P x (bit_at b e) = λ x l m. two (P x) l m (bit_at b e) (bit_at-lt b e) in
    two (λ x. P x (bit_at b e)) (P_of 0 p q) (P_of 1 r s) (bit_at a e) (bit_at-lt a e)

pub bit-or : (a b e : ℕ) → bit (bit_or a b) e ≡ (bit a e || bit b e)
bit-or a b e =
    ap (λ (x : ℕ). eqb x 1) (bit_at_or a b e)
    ∙ digits a b e (λ x y. eqb (max x y) 1 ≡ (eqb x 1 || eqb y 1)) refl refl refl refl

pub bit-and : (a b e : ℕ) → bit (bit_and a b) e ≡ (bit a e && bit b e)
bit-and a b e =
    ap (λ (x : ℕ). eqb x 1) (bit_at_and a b e)
    ∙ digits a b e (λ x y. eqb (min x y) 1 ≡ (eqb x 1 && eqb y 1)) refl refl refl refl

pub bit-xor : (a b e : ℕ) → bit (bit_xor a b) e ≡ cond (bit a e) (not (bit b e)) (bit b e)
bit-xor a b e =
    ap (λ (x : ℕ). eqb x 1) (bit_at_xor a b e)
    ∙ digits a b e (λ x y. eqb ((x + y) % 2) 1 ≡ cond (eqb x 1) (not (eqb y 1)) (eqb y 1)) refl refl refl refl

-- one bit alone
pub bit-same : (e : ℕ) → bit (2 ^ e) e ≡ true
bit-same e = ap (λ (x : ℕ). eqb x 1) (bit_at-pow_same e)

pub bit_other : (e k : ℕ) → (k ≡ e → ⊥) → bit (2 ^ e) k ≡ false
bit_other e k h = ap (λ (x : ℕ). eqb x 1) (bit_at-pow_other e k h)

-- what a word with one bit changed has
module _ (P : ℕ → Bool) (w e : ℕ) (on : Bool) (at : P e ≡ on) (else : (k : ℕ) → (k ≡ e → ⊥) → P k ≡ bit w k) where
  pub changed : (k : ℕ) → P k ≡ cond (eqb k e) on (bit w k)
  changed k = by (eqb k e) refl
    where
      by : (t : Bool) → eqb k e ≡ t → P k ≡ cond t on (bit w k)
      by true q = ap P (eqb-true k e q) ∙ at
      by false q = else k (eqb-false k e q)

pub set_on : (w e k : ℕ) → bit (bit_or w (2 ^ e)) k ≡ cond (eqb k e) true (bit w k)
set_on w e = changed (λ (k : ℕ). bit (bit_or w (2 ^ e)) k) w e true
    (bit-or w (2 ^ e) e ∙ ap (λ (t : Bool). bit w e || t) (bit-same e) ∙ or-true (bit w e))
    (λ k q. bit-or w (2 ^ e) k ∙ ap (λ (t : Bool). bit w k || t) (bit_other e k q) ∙ or-false (bit w k))

pub set_off : (w e : ℕ) → bit w e ≡ true → (k : ℕ) → bit (bit_xor w (2 ^ e)) k ≡ cond (eqb k e) false (bit w k)
set_off w e h = changed (λ (k : ℕ). bit (bit_xor w (2 ^ e)) k) w e false
    (bit-xor w (2 ^ e) e ∙ simp (h, bit-same e))
    (λ k q. bit-xor w (2 ^ e) k ∙ ap (λ (t : Bool). cond (bit w k) (not t) t) (bit_other e k q) ∙ same (bit w k))
  where
    same : (t : Bool) → cond t true false ≡ t
    same true = refl
    same false = refl

pub set_none : (w e : ℕ) → bit w e ≡ false → (k : ℕ) → bit w k ≡ cond (eqb k e) false (bit w k)
set_none w e h = changed (λ (k : ℕ). bit w k) w e false h (λ k q. refl)
