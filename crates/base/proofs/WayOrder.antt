-- The search with shorter ways first, and of ways as long those whose numbers come first, compared one after another. Each edge adds a
-- number to those of a way; in front of them may stand what belongs to the start. Where the starts have ways of one length and stand in
-- this order, and so do the edges of each vertex, what is found stands in it, and each vertex is found by the first of all ways to it:
-- `SearchOrder` for this order. Assumes nothing.
use Rattle.std.proofs.Common.{◌≡◌, sym, ◌∙◌, inl, inr, Bool, List, [], ◌∷◌, ◌++◌, ℕ, ◌+◌, ◌≤◌, ◌<◌, arith, T, length, length-append}
use Rattle.std.proofs.Math.Path.{subst⁻¹}
use mathlib.Core.List.{Memᴰ}
use Rattle.base.specs.Order.{Before}
use Rattle.base.specs.Search.{Edge, Item, onward, search_from}
use Rattle.base.proofs.OrderLaws.{before_trans, before_front, before-behind}
use Rattle.base.proofs.SearchLaws.{onwards, ReachableBy}
use Rattle.base.proofs.SortedLaws.{Sorted, sorted_map}
use Rattle.base.proofs.SearchOrder.{Kept, Led, Tight, search_sorted, search_first_way}

module _ {L K : Type 0} (same : K → K → Bool) (edges : K → List (Edge L K)) (word : L → ℕ) (words : Item L K → List ℕ) where
  abbrev on : Item L K → Edge L K → Item L K
  on = onward same edges

  -- shorter, or as long and with numbers that come first
  abbrev pub Ahead : Item L K → Item L K → Type 0
  Ahead x y = Before (length x.way ∷ words x) (length y.way ∷ words y)

  abbrev pub Rising : Edge L K → Edge L K → Type 0
  Rising e f = word e.label < word f.label

  module _ (adds : (x : Item L K) (e : Edge L K) → Memᴰ e (edges x.at) → words (on x e) ≡ words x ++ (word e.label ∷ []))
      (rising : (k : K) → Sorted Rising (edges k))
    where
      longer : (x : Item L K) (e : Edge L K) → length (on x e).way ≡ length x.way + 1
      longer x e = length-append x.way (e.label ∷ [])

      -- one edge more on both
      on_both : (x y : Item L K) (e f : Edge L K) → Memᴰ e (edges x.at) → Memᴰ f (edges y.at)
          → Before (words x ++ (word e.label ∷ [])) (words y ++ (word f.label ∷ [])) → Before (words (on x e)) (words (on y f))
      on_both x y e f m n h =
          subst⁻¹ (λ (l : List ℕ). Before l (words (on y f))) (adds x e m)
          (subst⁻¹ (Before (words x ++ (word e.label ∷ []))) (adds y f n) h)

      keeps : (x y : Item L K) (e f : Edge L K) → Memᴰ e (edges x.at) → Memᴰ f (edges y.at) → Ahead x y
          → Ahead (on x e) (on y f)
      keeps x y e f m n (inl l) = inl (omega (arith, longer x e, longer y f))
      keeps x y e f m n (inr (q, h)) =
          inr (
            omega (arith, longer x e, longer y f),
            on_both x y e f m n (before_front (words x) (words y) (word e.label ∷ []) (word f.label ∷ []) h),
          )

      rises : (x : Item L K) → Sorted Ahead (onwards same edges x)
      rises x =
          sorted_map Rising Ahead (onward same edges x) (edges x.at) (rising x.at)
          (λ e f m n l.
          inr (
            longer x e ∙ sym (longer x f),
            on_both x x e f m n (before-behind (words x) (word e.label ∷ []) (word f.label ∷ []) (inl l)),
          ))

      kept : Kept same edges Ahead
      kept =
          record {
            trans = λ x y z. before_trans (length x.way ∷ words x) (length y.way ∷ words y) (length z.way ∷ words z);
            grows = λ x e m. inl (omega (arith, longer x e));
            keeps = keeps;
            rises = rises;
          }

      module _ (sound : (a b : K) → T (same a b) → a ≡ b) (starts : List (Item L K)) (begun : Sorted Ahead starts) (c : ℕ)
          (long : (y : Item L K) → Memᴰ y starts → length y.way ≡ c)
        where
          close : Tight same edges Ahead starts starts
          close y z p q e m = inl (omega (arith, long y p, long z q, longer y e))

          -- Theorem: what is found stands in that order,
          pub ways_sorted : (fuel : ℕ) → Sorted Ahead (search_from same edges fuel starts)
          ways_sorted fuel = search_sorted same edges Ahead sound kept starts begun close fuel

          -- and each vertex is found by the first of all ways to it.
          pub ways_first : (fuel : ℕ) → length (search_from same edges fuel starts) ≤ fuel → {x : Item L K}
              → ReachableBy same edges starts x → Led same edges Ahead (search_from same edges fuel starts) x
          ways_first fuel h r = search_first_way same edges Ahead sound kept starts begun close fuel h r
