-- Laws of columns, and of what a sweep does to them: it makes one column anew and keeps all others; and that a successor is a position.
-- Assumes nothing.
use Rattle.std.proofs.Common.{◌≡◌, refl, sym, ap, ◌∙◌, Bool, true, false, cond, List, [], ◌∷◌, map, ℕ, suc, ◌+◌, ◌≤◌, ◌<◌, arith, eqb}
use Rattle.std.proofs.Common.{length, get_or, take, drop, length-drop, ext_get_or, length-take-le, get_or-take, get_or-drop, eq-eqb, ne_eqb}
use lib.ListN.{length-map}
use borrow.Author.Tests.{eqb-false}
use Rattle.base.specs.Bits.{bit}
use Rattle.base.proofs.ListLaws.{get_d_map}
use Rattle.base.proofs.NumberLaws.{values_same}
use Rattle.lasso.specs.Lasso.{Positions}
use Rattle.lasso.specs.Inner.{after, Swept, column, columns, ColumnsKept}
use Rattle.lasso.proofs.Monotone.{SetsSized}
use Rattle.lasso.proofs.CodeSweep.{other_bit}

pub after-below : (n stem i : ℕ) → i < n → stem < n → after n stem i < n
after-below n stem i l h = by (eqb (i + 1) n) refl
  where
    by : (t : Bool) → eqb (i + 1) n ≡ t → cond t stem (i + 1) < n
    by true q = h
    by false q = let apart : (i + 1 ≡ n) → ⊥ = eqb-false (i + 1) n q in omega arith

module _ (n : ℕ) where
  module _ (e : ℕ) (w : List ℕ) (h : n ≤ length w) where
    pub column-length : length (column n w e) ≡ n
    column-length = length-map (take n w) (λ x. bit x e) ∙ length-take-le n w h

    pub column-at : (i : ℕ) → i < n → get_or (column n w e) i false ≡ bit (get_or w i 0) e
    column-at i l =
        get_d_map (λ x. bit x e) (take n w) i 0 false (omega (arith, length-take-le n w h)) ∙ ap (λ (x : ℕ). bit x e)
        (get_or-take n w i 0 l)

    pub column-is : (s : Positions) → length s ≡ n → ((i : ℕ) → i < n → bit (get_or w i 0) e ≡ get_or s i false) → column n w e ≡ s
    column-is s l f =
        ext_get_or false (column n w e) s (column-length ∙ sym l)
        (λ i q. let k : i < n = omega (arith, column-length) in column-at i k ∙ f i k)

  -- the sets that words have for some subformulas
  pub columns-sized : (w : List ℕ) → n ≤ length w → (es : List ℕ) → SetsSized n (map (column n w) es)
  columns-sized w h [] = tt
  columns-sized w h (e ∷ es) = (column-length e w h, columns-sized w h es)

  pub kept_refl : (lo hi : ℕ) (w : List ℕ) → ColumnsKept n lo hi w w
  kept_refl lo hi w = record { long = refl; below = λ k h. refl; above = λ k h. refl; rest = refl }

  module _ {lo hi lo₁ hi₁ lo₂ hi₂ : ℕ} {w v x : List ℕ} where
    pub kept_then : ColumnsKept n lo₁ hi₁ w v → ColumnsKept n lo₂ hi₂ v x → lo ≤ lo₁ → lo ≤ lo₂ → hi₁ ≤ hi → hi₂ ≤ hi
        → ColumnsKept n lo hi w x
    kept_then p q a b c d = record {
      long = q.long ∙ p.long;
      below = λ k h. q.below k (omega arith) ∙ p.below k (omega arith);
      above = λ k h. q.above k (omega arith) ∙ p.above k (omega arith);
      rest = q.rest ∙ p.rest;
    }

  pub kept-both : {lo hi : ℕ} {w v x : List ℕ} → ColumnsKept n lo hi w v → ColumnsKept n lo hi v x → ColumnsKept n lo hi w x
  kept-both p q = kept_then p q (omega arith) (omega arith) (omega arith) (omega arith)

  pub kept-wide : {lo hi lo₁ hi₁ : ℕ} {w v : List ℕ} → ColumnsKept n lo₁ hi₁ w v → lo ≤ lo₁ → hi₁ ≤ hi → ColumnsKept n lo hi w v
  kept-wide p a b = record {
    long = p.long;
    below = λ k h. p.below k (omega arith);
    above = λ k h. p.above k (omega arith);
    rest = p.rest;
  }

  module _ {lo hi : ℕ} {w v : List ℕ} (kept : ColumnsKept n lo hi w v) where
    -- the sets of enclosing fixpoints are kept
    pub outer-kept : (bs : List ℕ) → ((d : ℕ) → d < length bs → get_or bs d 0 < lo) → map (column n v) bs ≡ map (column n w) bs
    outer-kept [] f = refl
    outer-kept (b ∷ bs) f =
        let q : column n v b ≡ column n w b = kept.below b (f 0 (omega arith)) in
        let r : map (column n v) bs ≡ map (column n w) bs = outer-kept bs (λ d h. f (suc d) (omega arith)) in
        cc

    pub columns-below : (e k : ℕ) → e + k ≤ lo → columns n v e k ≡ columns n w e k
    columns-below e k h = values_same (column n v) (column n w) e k (λ j l m. kept.below j (omega arith))

    pub columns-above : (e k : ℕ) → hi ≤ e → columns n v e k ≡ columns n w e k
    columns-above e k h = values_same (column n v) (column n w) e k (λ j l m. kept.above j (omega arith))

  -- words of which some bits are as they were
  module _ (w v : List ℕ) (words : n ≤ length w) (long : length v ≡ length w) where
    pub same-column : (k : ℕ) → ((i : ℕ) → i < n → bit (get_or v i 0) k ≡ bit (get_or w i 0) k) → column n v k ≡ column n w k
    same-column k same =
        column-is k v (omega arith) (column n w k) (column-length k w words) (λ i l. same i l ∙ sym (column-at k w words i l))

    pub kept-bits : (lo hi : ℕ) → ((i : ℕ) → n ≤ i → get_or v i 0 ≡ get_or w i 0)
        → ((k : ℕ) → ((lo ≤ k) × (k < hi) → ⊥) → (i : ℕ) → i < n → bit (get_or v i 0) k ≡ bit (get_or w i 0) k) → ColumnsKept n lo hi w v
    kept-bits lo hi rest same = record {
      long = long;
      below = λ k l. same-column k (same k (λ q. omega (arith, q.0)));
      above = λ k l. same-column k (same k (λ q. omega (arith, q.1)));
      rest = ext_get_or 0 (drop n v) (drop n w) (length-drop n v ∙ omega arith ∙ sym (length-drop n w))
          (λ i l. get_or-drop n v i 0 ∙ rest (n + i) (omega arith) ∙ sym (get_or-drop n w i 0));
    }

  -- a sweep, by columns
  module _ (e : ℕ) (f : ℕ → Bool) (w v : List ℕ) (s : Swept n e f w v) (h : n ≤ length w) where
    pub swept_kept : ColumnsKept n e (e + 1) w v
    swept_kept =
        kept-bits w v h s.long e (e + 1) s.rest
        (λ k out i l. other_bit (λ k. eqb k e) f w n v s k (ne_eqb k e (λ q. out (omega arith, omega arith))) i)

    pub swept-is : (t : Positions) → length t ≡ n → ((i : ℕ) → i < n → f i ≡ get_or t i false) → column n v e ≡ t
    swept-is t l q =
        column-is e v (omega (arith, s.long)) t l
        (λ i m. s.bits i m e ∙ ap (λ (b : Bool). cond b (f i) (bit (get_or w i 0) e)) (eq-eqb e e refl) ∙ q i m)
