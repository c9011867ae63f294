-- The word of a subset, put together from the highest position down: what is there is the word of the positions from here on, and one more
-- doubles it (`Wording`). Assumes nothing.
use mathlib.Core.Path.{◌≡◌, refl, sym, ap, subst, ◌∙◌}
use mathlib.Core.Bool.{Bool, true, false, cond}
use mathlib.Core.List.{[], ◌∷◌}
use Prim.Native.Nat.{ℕ, zero, suc, ◌+◌, ◌-◌, ◌*◌, ◌^◌, ◌≤◌, ◌<◌}
use native.Mathlib.Omega.{arith}
use lib.ListN.{length, get_or, drop}
use lib.Seq.{drop-cons}
use Rattle.std.specs.Int.{from_bool}
use Rattle.base.specs.Bits.{word}
use Rattle.base.proofs.WordLaws.{word_lt}
use Rattle.joint.specs.Joint.{Subset, max_formulas}

pub record Wording (s : Subset) (x i : ℕ) : Type 0 where
  pub is : x ≡ word (drop i s)
  pub long : length s ≡ max_formulas
  pub below : i ≤ max_formulas

-- what the byte of a bit is
pub bit-byte : (b : Bool) → from_bool b ≡ cond b 1 0
bit-byte true = refl
bit-byte false = refl

pub wording_more : {s : Subset} {x y i : ℕ} → Wording s x i → 0 < i → y ≡ cond (get_or s (i - 1) false) 1 0
    → Wording s (y + 2 * x) (i - 1)
wording_more {s} {x} {y} {i} h z e = record {
  is =
      ap (λ (k : ℕ). k + 2 * x) e ∙ ap (λ (k : ℕ). cond (get_or s (i - 1) false) 1 0 + 2 * k) h.is
      ∙ ap (λ (k : ℕ). word (get_or s (i - 1) false ∷ drop k s)) {x = i} {y = suc (i - 1)} (omega arith)
      ∙ sym (ap word (drop-cons s (i - 1) false (omega (arith, h.below, h.long))));
  long = h.long;
  below = omega (arith, h.below);
}

-- fewer positions have no greater word
word-drop : (i : ℕ) (s : Subset) → word (drop i s) ≤ word s
word-drop zero s = omega arith
word-drop (suc i) [] = omega arith
word-drop (suc i) (b ∷ s) = omega (arith, word-drop i s)

pub eight-bits : (s : Subset) → length s ≡ max_formulas → word s < 256
eight-bits s e = subst (λ (n : ℕ). word s < 2 ^ n) e (word_lt s)

pub wording_small : {s : Subset} {x i : ℕ} → Wording s x i → x < 256
wording_small {s} {i = i} h = omega (arith, h.is, word-drop i s, eight-bits s h.long)
