-- Labels along a chain of parents. An item's are its parent's and then its own (`labels_at`); so whatever lists go on by these labels are
-- the labels (`labels_are`). They are counted from the last item to the first (`ChainCounted`). Assumes nothing.
use Rattle.std.proofs.Common.{◌≡◌, refl, sym, ap, subst, ◌∙◌, List, [], ◌∷◌, ◌++◌, ℕ, zero, suc, ◌+◌, ◌≤◌, ◌<◌, length, length-append}
use Rattle.std.proofs.Common.{◌-◌, arith}
use Rattle.base.specs.Spread.{Numbered, each_label, labels_up, Linked}
use Rattle.base.proofs.SpreadLaws.{labels_next}
use Rattle.witness.specs.Letters.{labels, plain}

module _ {K : Type 0} (of : ℕ → Numbered ℕ K) where
  up_short : (f k : ℕ) → length (labels_up each_label of f k) ≤ f
  up_short zero k = omega arith
  up_short (suc f) zero = omega arith
  up_short (suc f) (suc i) =
      let before = labels_up each_label of f (of i).parent in
      omega (arith, length-append before ((of i).label ∷ []), up_short f (of i).parent)

  -- at most as many labels as items up to there
  pub labels-short : (k : ℕ) → length (labels of k) ≤ k
  labels-short k = up_short k k

  module _ {n : ℕ} (linked : Linked of n) where
    -- an item's labels
    pub labels_at : (i : ℕ) → i < n → labels of (suc i) ≡ labels of (of i).parent ++ ((of i).label ∷ [])
    labels_at i h = labels_next each_label of linked i h

    pub length_at : (i : ℕ) → i < n → length (labels of (suc i)) ≡ length (labels of (of i).parent) + 1
    length_at i h = ap length (labels_at i h) ∙ length-append (labels of (of i).parent) ((of i).label ∷ [])

    -- Theorem: lists that go on along the chain by its labels are the labels.
    pub labels_are : (ws : ℕ → List ℕ) → ws 0 ≡ [] → ((i : ℕ) → i < n → ws (suc i) ≡ ws (of i).parent ++ ((of i).label ∷ []))
        → (bound k : ℕ) → k ≤ bound → k ≤ n → labels of k ≡ ws k
    labels_are ws none onward zero zero b l = sym none
    labels_are ws none onward zero (suc i) b l = absurd (omega arith)
    labels_are ws none onward (suc bound) zero b l = sym none
    labels_are ws none onward (suc bound) (suc i) b l =
        let low = linked i (omega arith) in
        labels_next each_label of linked i (omega arith)
        ∙ ap (λ (x : List ℕ). x ++ ((of i).label ∷ [])) (labels_are ws none onward bound (of i).parent (omega arith) (omega arith))
        ∙ sym (onward i (omega arith))

-- The labels up to item top - 1 are being counted: n so far, and those up to item at - 1 to go.
pub record ChainCounted {K : Type 0} (of : ℕ → Numbered ℕ K) (top n at : ℕ) : Type 0 where
  pub low : at ≤ top
  pub sum : n + length (labels of at) ≡ length (labels of top)

module _ {K : Type 0} (of : ℕ → Numbered ℕ K) {top n k : ℕ} (linked : Linked of top) (c : ChainCounted of top n k) (some : 0 < k) where
  here : ChainCounted of top n (suc (k - 1))
  here = subst (ChainCounted of top n) {x = k} {y = suc (k - 1)} (omega arith) c

  pub counted-low : k - 1 < top
  counted-low = omega (arith, here.low)

  -- there are more letters than those counted, and at most as many as items
  pub counted-few : n < top
  counted-few = omega (arith, here.sum, length_at of linked (k - 1) counted-low, labels-short of top)

  pub counted_next : (up : ℕ) → up ≡ (of (k - 1)).parent → ChainCounted of top (n + 1) up
  counted_next up e =
      record {
        low = omega (arith, e, linked (k - 1) counted-low, counted-low);
        sum = omega (arith, here.sum, length_at of linked (k - 1) counted-low, ap (λ (j : ℕ). length (labels of j)) e);
      }

-- the labels are those along the items with their numbers for vertices
up_plain : {K : Type 0} (of : ℕ → Numbered ℕ K) (f k : ℕ) → labels_up each_label (plain of) f k ≡ labels_up each_label of f k
up_plain of zero k = refl
up_plain of (suc f) zero = refl
up_plain of (suc f) (suc i) = ap (λ (l : List ℕ). l ++ ((of i).label ∷ [])) (up_plain of f (of i).parent)

pub labels-plain : {K : Type 0} (of : ℕ → Numbered ℕ K) (k : ℕ) → labels (plain of) k ≡ labels of k
labels-plain of k = up_plain of k k
