-- Which core it is, whatever trying a subset is: of all subsets that are no part of one that was met, the one with the least word
-- (`shrink-least`). Take another one, and the highest position at which the two differ. If the core had it and the other not, the other
-- would be a part of what was tried when this position was: the core's positions above it and all below. That was met. So the other has
-- it, and the greater word. Assumes nothing.
use mathlib.Core.Path.{◌≡◌, refl, sym, ap, subst, ◌∙◌}
use mathlib.Core.Bool.{Bool, true, false, cond}
use mathlib.Core.List.{[], ◌∷◌, ◌++◌}
use Prim.Native.Nat.{ℕ, zero, suc, ◌-◌, ◌≤◌, ◌<◌}
use native.Mathlib.Omega.{arith}
use lib.ListN.{length, get_or, drop, replicate, length-set, length-drop}
use lib.Seq.{drop-cons, drop-set-lt}
use Rattle.base.specs.Bits.{word}
use Rattle.joint.specs.Joint.{Subset, max_formulas, everything, without, Attempt, Shrunk, gone_on, shrink}
use Rattle.joint.specs.Meaning.{Within}
use Rattle.joint.proofs.SubsetLaws.{within_self, within-length}
use Rattle.joint.proofs.ShrinkMeaning.{core-same, stuck_not_core, left_out}

-- ---- words
digit : (b : Bool) → cond b 1 0 ≤ 1
digit true = omega arith
digit false = omega arith

-- the highest position that differs decides
word-less : (i : ℕ) (t u : Subset) → i < length t → i < length u → drop (suc i) t ≡ drop (suc i) u → get_or t i false ≡ false
    → get_or u i false ≡ true → word t < word u
word-less i [] u l m e p q = absurd (omega arith)
word-less i (x ∷ t) [] l m e p q = absurd (omega arith)
word-less zero (x ∷ t) (y ∷ u) l m e p q =
    let low : ◌≡◌ {A = ℕ} (cond x 1 0) 0 = ap {B = ℕ} (λ (b : Bool). cond b 1 0) p in
    let high : ◌≡◌ {A = ℕ} (cond y 1 0) 1 = ap {B = ℕ} (λ (b : Bool). cond b 1 0) q in
    omega (arith, ap word e)
word-less (suc i) (x ∷ t) (y ∷ u) l m e p q = omega (arith, word-less i t u (omega arith) (omega arith) e p q, digit x)

-- ---- positions from one on
drop_more : (i : ℕ) (s t : Subset) → drop i s ≡ drop i t → drop (suc i) s ≡ drop (suc i) t
drop_more i s t e = sym (drop-next i s) ∙ ap (drop 1) e ∙ drop-next i t
  where
    drop-next : (i : ℕ) (s : Subset) → drop 1 (drop i s) ≡ drop (suc i) s
    drop-next zero s = refl
    drop-next (suc i) [] = refl
    drop-next (suc i) (b ∷ s) = drop-next i s

get_drop : (i : ℕ) (s t : Subset) → drop i s ≡ drop i t → get_or s i false ≡ get_or t i false
get_drop i s t e = sym (first i s) ∙ ap (λ (r : Subset). get_or r 0 false) e ∙ first i t
  where
    first : (i : ℕ) (s : Subset) → get_or (drop i s) 0 false ≡ get_or s i false
    first zero s = refl
    first (suc i) [] = refl
    first (suc i) (b ∷ s) = first i s

drop_with : (i : ℕ) (s t : Subset) → i < length s → i < length t → get_or s i false ≡ get_or t i false → drop (suc i) s ≡ drop (suc i) t
    → drop i s ≡ drop i t
drop_with i s t l m e q =
    drop-cons s i false l ∙ ap (λ (b : Bool). b ∷ drop (suc i) s) e ∙ ap (λ (r : Subset). get_or t i false ∷ r) q
    ∙ sym (drop-cons t i false m)

-- all positions below one are taken
abbrev Full : ℕ → Subset → Type 0
Full zero s = Unit {0}
Full (suc i) [] = ⊥
Full (suc i) (b ∷ s) = (b ≡ true) × Full i s

full-everything : (n : ℕ) (s : Subset) → Full n (replicate n true ++ s)
full-everything zero s = tt
full-everything (suc n) s = (refl, full-everything n s)

full-fewer : (i : ℕ) (s : Subset) → Full (suc i) s → Full i s
full-fewer zero s f = tt
full-fewer (suc i) [] f = absurd f
full-fewer (suc i) (b ∷ s) f = (f.0, full-fewer i s f.1)

full-without : (i : ℕ) (s : Subset) → Full (suc i) s → Full i (without s i)
full-without zero s f = tt
full-without (suc i) [] f = absurd f
full-without (suc i) (b ∷ s) f = (f.0, full-without i s f.1)

full-length : (i : ℕ) (s : Subset) → Full (suc i) s → i < length s
full-length i [] f = absurd f
full-length zero (b ∷ s) f = omega arith
full-length (suc i) (b ∷ s) f = omega (arith, full-length i s f.1)

full_at : (i : ℕ) (s : Subset) → Full (suc i) s → get_or s i false ≡ true
full_at i [] f = absurd f
full_at zero (b ∷ s) f = f.0
full_at (suc i) (b ∷ s) f = full_at i s f.1

-- what lacks a position and agrees above it is a part of all below
full-part : (i : ℕ) (s u : Subset) → Full (suc i) s → length u ≡ length s → drop (suc i) u ≡ drop (suc i) s → get_or u i false ≡ false
    → Within u (without s i)
full-part i [] u f l e p = absurd f
full-part i (b ∷ s) [] f l e p = absurd (omega arith)
full-part zero (b ∷ s) (c ∷ u) f l e p =
    subst (λ (x : Bool). Within (x ∷ u) (false ∷ s)) (sym p)
    (subst (λ (v : Subset). Within (false ∷ u) (false ∷ v)) e (within_self (false ∷ u)))
full-part (suc i) (b ∷ s) (c ∷ u) f l e p =
    subst (λ (x : Bool). Within (c ∷ u) (x ∷ without s i)) (sym f.0) (either c (full-part i s u f.1 (omega arith) e p))
  where
    either : {x y : Subset} (c : Bool) → Within x y → Within (c ∷ x) (true ∷ y)
    either true w = Within.both w
    either false w = Within.fewer w

-- ---- leaving out
module _ (try : Subset → Attempt) where
  -- no position from the first that was tried on has changed
  shrink-above : (i : ℕ) (s : Subset) {t : Subset} → shrink try i s ≡ Shrunk.core t → drop i t ≡ drop i s
  shrink-above zero s e = sym (core-same e)
  shrink-above (suc i) s {t} e = by (try (without s i)) e (shrink-above i s) (shrink-above i (without s i))
    where
      by : (a : Attempt) → gone_on (shrink try i) s (without s i) a ≡ Shrunk.core t
          → (shrink try i s ≡ Shrunk.core t → drop i t ≡ drop i s)
          → (shrink try i (without s i) ≡ Shrunk.core t → drop i t ≡ drop i (without s i)) → drop (suc i) t ≡ drop (suc i) s
      by Attempt.met e f g = drop_more i t s (f e)
      by Attempt.unmet e f g = drop_more i t (without s i) (g e) ∙ drop-set-lt (suc i) s i false (omega arith)
      by (Attempt.unknown why) e f g = absurd (stuck_not_core e)

  -- Bad: what no part of a subset that was met can be
  module _ (Bad : Subset → Type 0) (good : (u v : Subset) → try v ≡ Attempt.met → Within u v → Bad u → ⊥) where
    shrink-least : (i : ℕ) (s : Subset) {t : Subset} → shrink try i s ≡ Shrunk.core t → Full i s
        → (u : Subset) → length u ≡ length s → drop i u ≡ drop i s → Bad u → word t ≤ word u
    shrink-least zero s e f u l a bad = omega (arith, ap word (a ∙ core-same e))
    shrink-least (suc i) s {t} e f u l a bad =
        by (try (without s i)) refl (get_or u i false) refl e (λ k. shrink-least i s k (full-fewer i s f) u l)
        (λ k. shrink-least i (without s i) k (full-without i s f) u (l ∙ sym (length-set s i false)))
      where
        short : i < length s
        short = full-length i s f

        short_u : i < length u
        short_u = omega (arith, l, full-length i s f)

        less : {m n : ℕ} → m < n → m ≤ n
        less h = omega arith

        by : (x : Attempt) → try (without s i) ≡ x → (b : Bool) → get_or u i false ≡ b
            → gone_on (shrink try i) s (without s i) x ≡ Shrunk.core t
            → (shrink try i s ≡ Shrunk.core t → drop i u ≡ drop i s → Bad u → word t ≤ word u)
            → (shrink try i (without s i) ≡ Shrunk.core t → drop i u ≡ drop i (without s i) → Bad u → word t ≤ word u)
            → word t ≤ word u
        by Attempt.met q true p e g h = g e (drop_with i u s short_u short (p ∙ sym (full_at i s f)) a) bad
        by Attempt.met q false p e g h = absurd (good u (without s i) q (full-part i s u f l a p) bad)
        by Attempt.unmet q false p e g h =
            h e (drop_with i u (without s i) short_u (omega (arith, length-set s i false, full-length i s f)) (p ∙ sym (left_out s i))
            (a ∙ sym (drop-set-lt (suc i) s i false (omega arith)))) bad
        by Attempt.unmet q true p e g h =
            let above = shrink-above i (without s i) e in
            let long = ap length above in
            less (word-less i t u
            (omega (arith, long, length-drop i t, length-drop i (without s i), length-set s i false, full-length i s f)) short_u
            (drop_more i t (without s i) above ∙ drop-set-lt (suc i) s i false (omega arith) ∙ sym a)
            (get_drop i t (without s i) above ∙ left_out s i) p)
        by (Attempt.unknown why) q b p e g h = absurd (stuck_not_core e)

    -- from all n positions on, beside any of their subsets
    pub core-least : (n : ℕ) {t : Subset} → shrink try n (everything n) ≡ Shrunk.core t → (u : Subset) → Within u (everything n) → Bad u
        → word t ≤ word u
    core-least n e u w bad =
        shrink-least n (everything n) e (full-everything n (replicate (max_formulas - n) false)) u (within-length w) (beyond n u w) bad
      where
        nothing : (m : ℕ) {x : Subset} → Within x (replicate m false) → x ≡ replicate m false
        nothing zero Within.none = refl
        nothing (suc m) (Within.both v) = ap (λ (r : Subset). false ∷ r) (nothing m v)

        beyond-all : (n m : ℕ) (x : Subset) → Within x (replicate n true ++ replicate m false)
            → drop n x ≡ drop n (replicate n true ++ replicate m false)
        beyond-all zero m x v = nothing m v
        beyond-all (suc n) m [] v = elim v [ ]
        beyond-all (suc n) m (b ∷ x) (Within.both v) = beyond-all n m x v
        beyond-all (suc n) m (b ∷ x) (Within.fewer v) = beyond-all n m x v

        beyond : (n : ℕ) (x : Subset) → Within x (everything n) → drop n x ≡ drop n (everything n)
        beyond n x v = beyond-all n (max_formulas - n) x v
