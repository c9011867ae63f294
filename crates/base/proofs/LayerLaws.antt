-- The layers of a breadth-first search over one list: the items with ways of at most l labels stand first (`Parted`). Those that the first
-- k turns find are the starts and what goes on from the first k items, so where these are the ones with ways of at most l labels, all that
-- is then found are the ones with ways of at most l + 1 (`parted_next`). Assumes nothing.
use Rattle.std.proofs.Common.{◌≡◌, sym, ap, subst, ◌∙◌, inl, inr, Bool, true, false, cond, List, [], ◌∷◌, ℕ, zero, suc, ◌+◌, ◌≤◌, ◌<◌}
use Rattle.std.proofs.Common.{arith, leb, le→leb, leb→le, length, length-append}
use Rattle.std.proofs.Math.ListN.{length-map}
use mathlib.Core.List.{Memᴰ}
use Rattle.base.specs.Lists.{filter}
use Rattle.base.specs.Search.{Item, within}
use Rattle.base.specs.Spread.{Numbered, spread, each_label}
use Rattle.base.proofs.BoolLaws.{of_T}
use Rattle.base.proofs.TestLaws.{not_of_T}
use Rattle.base.proofs.At.{At, here, there, at_lt, at_before}
use Rattle.base.proofs.SpreadLaws.{spread-add, spread_at, spread-begins}
use Rattle.base.proofs.MatchLaws.{Before, start, item, Follows, Matches, matches_at}

-- a test that the first k elements pass, and no others, leaves k of them
filter-first : {A : Type 0} (q : A → Bool) (xs : List A) (k : ℕ) → k ≤ length xs → ((i : ℕ) (x : A) → At xs i x → i < k → q x ≡ true)
    → ((i : ℕ) (x : A) → At xs i x → k ≤ i → q x ≡ false) → length (filter q xs) ≡ k
filter-first q [] k h f g = omega arith
filter-first {A} q (x ∷ xs) zero h f g =
    ap (λ (b : Bool). length (cond b (x ∷ filter q xs) (filter q xs))) (g 0 x here (omega arith))
    ∙ filter-first q xs zero (omega arith) (λ i y a l. absurd (omega arith)) (λ i y a l. g (suc i) y (there a) (omega arith))
filter-first {A} q (x ∷ xs) (suc k) h f g =
    ap (λ (b : Bool). length (cond b (x ∷ filter q xs) (filter q xs))) (f 0 x here (omega arith))
    ∙ ap suc
    (filter-first q xs k (omega arith) (λ i y a l. f (suc i) y (there a) (omega arith)) (λ i y a l. g (suc i) y (there a) (omega arith)))

module _ {L K : Type 0} where
  -- The first k items are those with ways of at most l labels.
  pub record Parted (ys : List (Item L K)) (k l : ℕ) : Type 0 where
    pub low : (i : ℕ) (y : Item L K) → At ys i y → i < k → length y.way ≤ l
    pub high : (i : ℕ) (y : Item L K) → At ys i y → k ≤ i → l < length y.way

  pub parted_count : {ys : List (Item L K)} {k l : ℕ} → Parted ys k l → k ≤ length ys → length (within l ys) ≡ k
  parted_count {ys} {k} {l} p h =
      filter-first (λ y. leb (length y.way) l) ys k h
      (λ i y a m. of_T (leb (length y.way) l) (le→leb (length y.way) l (p.low i y a m)))
      (λ i y a m. not_of_T (leb (length y.way) l) (λ t. omega (arith, p.high i y a m, leb→le (length y.way) l t)))

module _ {L K M J : Type 0} (letter : L → M) (Codes : J → K → Type 0) {xs : List (Numbered M J)} {ys : List (Item L K)}
    (matched : Matches letter each_label Codes xs ys)
  where
    -- an item's way is longer by one than that of its parent
    one_more : (y : Item L K) {x : Numbered M J} (f : Follows letter each_label Codes ys x y)
        → length y.way ≡ length f.before + 1
    one_more y {x} f =
        sym (length-map y.way letter) ∙ ap length f.way ∙ length-append f.before (x.label ∷ [])

    pub parted_none : Parted ys 0 0
    parted_none = record {
      low = λ i y a h. absurd (omega arith);
      high = λ i y a h. let (x, b, f, l) = matches_at letter each_label Codes matched a in omega (arith, one_more y f);
    }

    module _ {k l : ℕ} (p : Parted ys k l) where
      -- a parent among the first k has a way of at most l labels, and a start none
      parent-low : {n : ℕ} {before : List M} → Before letter each_label Codes ys n before → n ≤ k → length before ≤ l
      parent-low start h = omega arith
      parent-low (item {i} {y} a) h = omega (arith, p.low i y a (omega arith), length-map y.way letter)

      parent-high : {n : ℕ} {before : List M} → Before letter each_label Codes ys n before → k < n → l < length before
      parent-high start h = absurd (omega arith)
      parent-high (item {i} {y} a) h = omega (arith, p.high i y a (omega arith), length-map y.way letter)

      parted_parents : (m : ℕ) → ((i : ℕ) (x : Numbered M J) → At xs i x → i < m → x.parent ≤ k)
          → ((i : ℕ) (x : Numbered M J) → At xs i x → m ≤ i → k < x.parent) → Parted ys m (suc l)
      parted_parents m f g = record {
        low = λ i y a h.
            let (x, b, w, n) = matches_at letter each_label Codes matched a in
            omega (arith, one_more y w, parent-low w.parent (f i x b h));
        high = λ i y a h.
            let (x, b, w, n) = matches_at letter each_label Codes matched a in
            omega (arith, one_more y w, parent-high w.parent (g i x b h));
      }

      -- The list is what the search finds, and it begins with what k turns find.
      module _ (same : J → J → Bool) (onward : ℕ → Numbered M J → List (Numbered M J))
          (by : (p : ℕ) (x y : Numbered M J) → Memᴰ y (onward p x) → y.parent ≡ suc p)
          (starts : List (Numbered M J)) (begun : (i : ℕ) (x : Numbered M J) → At starts i x → x.parent ≡ 0)
          (fuel : ℕ) (all : xs ≡ spread same onward (k + fuel) 0 starts)
        where
          abbrev found : List (Numbered M J)
          found = spread same onward k 0 starts

          rest : xs ≡ spread same onward fuel k found
          rest = all ∙ spread-add same onward k fuel 0 starts ∙ ap (λ (n : ℕ). spread same onward fuel n found) {x = 0 + k} {y = k}
              (omega arith)

          -- Theorem: with what k turns find the next layer is whole.
          pub parted_next : Parted ys (length found) (suc l)
          parted_next = parted_parents (length found) early late
            where
              early : (i : ℕ) (x : Numbered M J) → At xs i x → i < length found → x.parent ≤ k
              early i x a h =
                  let (more, e) = spread-begins same onward fuel k found in
                  elim (spread_at same onward by k 0 starts
                  (at_before found more (subst (λ (zs : List (Numbered M J)). At zs i x) (rest ∙ e) a) h))
                  [ inl b ↦ omega (arith, begun i x b) | inr r ↦ omega (arith, r.1) ]

              late : (i : ℕ) (x : Numbered M J) → At xs i x → length found ≤ i → k < x.parent
              late i x a h =
                  elim (spread_at same onward by fuel k found (subst (λ (zs : List (Numbered M J)). At zs i x) rest a))
                  [ inl b ↦ absurd (omega (arith, at_lt b)) | inr r ↦ r.0 ]
