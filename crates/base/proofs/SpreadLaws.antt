-- The search over one list, turn by turn: what is added one after the other is added at once (`adds-append`), a list only grows at its end
-- (`adds-begins`, `spread-begins`), and an item of it stood there before or was added (`adds-at`). With n for fuel the search does n
-- turns: so many turns and then so many more are all of them (`spread-add`), and an item that is added names one of the items that these
-- turns went on from as its parent (`spread_at`). `AfterTurns` is what a loop keeps that goes on from one item after another
-- (`turns_next`); where no item is left, the list is what the search finds (`turns-done`), and before that it is how that begins
-- (`turns_begin`), so a loop may stop where there is no more room. The labels along the parents are those up to the parent, and the item's
-- own (`labels_next`). Assumes nothing.
use Rattle.std.proofs.Common.{◌≡◌, refl, sym, ap, ◌∙◌, ◌⊎◌, inl, inr, Bool, true, false, cond, List, [], ◌∷◌, ◌++◌, append-nil}
use Rattle.std.proofs.Common.{append_assoc, ℕ, zero, suc, ◌+◌, ◌-◌, ◌≤◌, ◌<◌, zero-add, arith, length, drop, length-append, length-drop}
use Rattle.std.proofs.Common.{drop_of_length-le}
use mathlib.Core.List.{Memᴰ}
use Rattle.base.specs.Spread.{Numbered, seen, add, adds, spread, spread_on, labels_up, labels_to, Linked}
use Rattle.base.proofs.At.{At, at_split, at_drop}

-- a list that begins with another is no shorter
begins-length : {A : Type 0} (xs more : List A) {ys : List A} → ys ≡ xs ++ more → length xs ≤ length ys
begins-length xs more e = omega (arith, ap length e, length-append xs more)

module _ {L K : Type 0} (same : K → K → Bool) where
  pub adds-append : (xs ys zs : List (Numbered L K)) → adds same xs (ys ++ zs) ≡ adds same (adds same xs ys) zs
  adds-append xs [] zs = refl
  adds-append xs (y ∷ ys) zs = adds-append (add same xs y) ys zs

  add-begins : (xs : List (Numbered L K)) (x : Numbered L K) → (more : List (Numbered L K)) × (add same xs x ≡ xs ++ more)
  add-begins xs x = by (seen same x.at xs)
    where
      by : (b : Bool) → (more : List (Numbered L K)) × (cond b xs (xs ++ (x ∷ [])) ≡ xs ++ more)
      by true = ([], sym (append-nil xs))
      by false = (x ∷ [], refl)

  pub adds-begins : (xs ys : List (Numbered L K)) → (more : List (Numbered L K)) × (adds same xs ys ≡ xs ++ more)
  adds-begins xs [] = ([], sym (append-nil xs))
  adds-begins xs (y ∷ ys) =
      let (a, p) = add-begins xs y in
      let (b, q) = adds-begins (add same xs y) ys in
      (a ++ b, q ∙ ap (λ (l : List (Numbered L K)). l ++ b) p ∙ append_assoc xs a b)

  pub adds-length : (xs ys : List (Numbered L K)) → length xs ≤ length (adds same xs ys)
  adds-length xs ys = let (more, e) = adds-begins xs ys in begins-length xs more e

  -- what stands in it stood there before, or was added
  add_at : (xs : List (Numbered L K)) (y : Numbered L K) {i : ℕ} {x : Numbered L K} → At (add same xs y) i x → At xs i x ⊎ (x ≡ y)
  add_at xs y {i} {x} = by (seen same y.at xs)
    where
      by : (b : Bool) → At (cond b xs (xs ++ (y ∷ []))) i x → At xs i x ⊎ (x ≡ y)
      by true a = inl a
      by false a = elim (at_split xs y a) [ inl b ↦ inl b | inr b ↦ inr b.1 ]

  pub adds-at : (xs ys : List (Numbered L K)) {i : ℕ} {x : Numbered L K} → At (adds same xs ys) i x → At xs i x ⊎ Memᴰ x ys
  adds-at xs [] a = inl a
  adds-at xs (y ∷ ys) a =
      elim (adds-at (add same xs y) ys a) [
        | inl b ↦ elim (add_at xs y b) [ inl c ↦ inl c | inr e ↦ inr (Memᴰ.head e) ]
        | inr m ↦ inr (Memᴰ.tail m)
      ]

  module _ (onward : ℕ → Numbered L K → List (Numbered L K)) where
    pub spread-begins : (fuel p : ℕ) (xs : List (Numbered L K))
        → (more : List (Numbered L K)) × (spread same onward fuel p xs ≡ xs ++ more)
    spread-begins zero p xs = ([], sym (append-nil xs))
    spread-begins (suc fuel) p xs = go (spread-begins fuel (suc p)) (drop p xs)
      where
        go : ((ys : List (Numbered L K)) → (more : List (Numbered L K)) × (spread same onward fuel (suc p) ys ≡ ys ++ more))
            → (r : List (Numbered L K))
            → (more : List (Numbered L K)) × (spread_on same onward (spread same onward fuel (suc p)) p xs r ≡ xs ++ more)
        go f [] = ([], sym (append-nil xs))
        go f (x ∷ r) =
            let (a, q) = adds-begins xs (onward p x) in
            let (b, e) = f (adds same xs (onward p x)) in
            (a ++ b, e ∙ ap (λ (l : List (Numbered L K)). l ++ b) q ∙ append_assoc xs a b)

    pub spread-done : (fuel p : ℕ) (xs : List (Numbered L K)) → length xs ≤ p → spread same onward fuel p xs ≡ xs
    spread-done zero p xs h = refl
    spread-done (suc fuel) p xs h = ap (spread_on same onward (spread same onward fuel (suc p)) p xs) (drop_of_length-le xs h)

    pub spread-step : (fuel p : ℕ) (xs : List (Numbered L K)) {x : Numbered L K} → At xs p x
        → spread same onward (suc fuel) p xs ≡ spread same onward fuel (suc p) (adds same xs (onward p x))
    spread-step fuel p xs a =
        let (rest, e) = at_drop a in
        ap (spread_on same onward (spread same onward fuel (suc p)) p xs) e

    -- i turns, and then j more from where these end
    pub spread-add : (i j p : ℕ) (xs : List (Numbered L K))
        → spread same onward (i + j) p xs ≡ spread same onward j (p + i) (spread same onward i p xs)
    spread-add zero j p xs =
        ap (λ (k : ℕ). spread same onward k p xs) (zero-add j)
        ∙ ap (λ (k : ℕ). spread same onward j k xs) {x = p} {y = p + 0} (omega arith)
    spread-add (suc i) j p xs =
        ap (λ (k : ℕ). spread same onward k p xs) {x = suc i + j} {y = suc (i + j)} (omega arith)
        ∙ go (spread-add i j (suc p)) (drop p xs) refl
      where
        go : ((ys : List (Numbered L K)) → spread same onward (i + j) (suc p) ys ≡ spread same onward j (suc p + i)
            (spread same onward i (suc p) ys)) → (r : List (Numbered L K)) → drop p xs ≡ r
            → spread_on same onward (spread same onward (i + j) (suc p)) p xs r
            ≡ spread same onward j (p + suc i) (spread_on same onward (spread same onward i (suc p)) p xs r)
        go f [] e = sym (spread-done j (p + suc i) xs (omega (arith, length-drop p xs, ap length e)))
        go f (x ∷ r) e =
            f (adds same xs (onward p x))
            ∙ ap (λ (k : ℕ). spread same onward j k (spread same onward i (suc p) (adds same xs (onward p x))))
            {x = suc p + i} {y = p + suc i} (omega arith)

    -- what a number of turns adds goes on from the items that they took
    pub spread_at : ((p : ℕ) (x y : Numbered L K) → Memᴰ y (onward p x) → y.parent ≡ suc p) → (k p : ℕ) (xs : List (Numbered L K))
        {i : ℕ} {y : Numbered L K} → At (spread same onward k p xs) i y → At xs i y ⊎ ((p < y.parent) × (y.parent ≤ p + k))
    spread_at by zero p xs a = inl a
    spread_at by (suc k) p xs {i} {y} a = go (λ ys b. spread_at by k (suc p) ys b) (drop p xs) a
      where
        go : ((ys : List (Numbered L K)) → At (spread same onward k (suc p) ys) i y
            → At ys i y ⊎ ((suc p < y.parent) × (y.parent ≤ suc p + k)))
            → (r : List (Numbered L K)) → At (spread_on same onward (spread same onward k (suc p)) p xs r) i y
            → At xs i y ⊎ ((p < y.parent) × (y.parent ≤ p + suc k))
        go f [] a = inl a
        go f (x ∷ r) a =
            elim (f (adds same xs (onward p x)) a) [
              | inl b ↦
                  elim (adds-at xs (onward p x) b)
                  [ inl c ↦ inl c | inr m ↦ let e = by p x y m in inr (omega arith, omega arith) ]
              | inr h ↦ inr (omega (arith, h.0), omega (arith, h.1))
            ]

    -- xs is the list of a loop that began at item `from` of the list `starts` and has come to item i
    pub record AfterTurns (from : ℕ) (starts : List (Numbered L K)) (i : ℕ) (xs : List (Numbered L K)) : Type 0 where
      pub begun : from ≤ i
      pub list_is : spread same onward (i - from) from starts ≡ xs

    pub turns-start : (from : ℕ) (starts : List (Numbered L K)) → AfterTurns from starts from starts
    turns-start from starts = record {
      begun = omega arith;
      list_is = ap (λ (k : ℕ). spread same onward k from starts) {x = from - from} {y = 0} (omega arith);
    }

    module _ {from i : ℕ} {starts xs : List (Numbered L K)} (s : AfterTurns from starts i xs) where
      from-here : (fuel : ℕ) → i ≤ from + fuel → spread same onward fuel from starts ≡ spread same onward (from + fuel - i) i xs
      from-here fuel h =
          let n : from ≤ i = s.begun in
          ap (λ (k : ℕ). spread same onward k from starts) {x = fuel} {y = (i - from) + (from + fuel - i)} (omega arith)
          ∙ spread-add (i - from) (from + fuel - i) from starts
          ∙ ap (λ (k : ℕ). spread same onward (from + fuel - i) k (spread same onward (i - from) from starts))
          {x = from + (i - from)} {y = i} (omega arith)
          ∙ ap (spread same onward (from + fuel - i) i) s.list_is

      pub turns_next : {x : Numbered L K} → At xs i x → AfterTurns from starts (i + 1) (adds same xs (onward i x))
      turns_next {x} a =
          let n : from ≤ i = s.begun in
          let more = i + 1 - from in
          record {
            begun = omega arith;
            list_is =
                from-here more (omega arith)
                ∙ ap (λ (k : ℕ). spread same onward k i xs) {x = from + more - i} {y = 1} (omega arith)
                ∙ spread-step 0 i xs a;
          }

      pub turns-done : (fuel : ℕ) → i ≤ from + fuel → length xs ≤ i → spread same onward fuel from starts ≡ xs
      turns-done fuel h l = from-here fuel h ∙ spread-done (from + fuel - i) i xs l

      pub turns_begin : (fuel : ℕ) → i ≤ from + fuel → (more : List (Numbered L K)) × (spread same onward fuel from starts ≡ xs ++ more)
      turns_begin fuel h =
          let (more, e) = spread-begins (from + fuel - i) i xs in
          (more, from-here fuel h ∙ e)

      pub turns-length : (fuel : ℕ) → i ≤ from + fuel → length xs ≤ length (spread same onward fuel from starts)
      turns-length fuel h = let (more, e) = turns_begin fuel h in begins-length xs more e

-- the labels along the parents
module _ {L K : Type 0} (own : Numbered L K → List L) (of : ℕ → Numbered L K) {n : ℕ} (linked : Linked of n) where
  -- more fuel changes nothing
  up_same : (f g k : ℕ) → k ≤ f → k ≤ g → k ≤ n → labels_up own of f k ≡ labels_up own of g k
  up_same zero zero k a b c = refl
  up_same zero (suc g) zero a b c = refl
  up_same zero (suc g) (suc i) a b c = absurd (omega arith)
  up_same (suc f) zero zero a b c = refl
  up_same (suc f) zero (suc i) a b c = absurd (omega arith)
  up_same (suc f) (suc g) zero a b c = refl
  up_same (suc f) (suc g) (suc i) a b c =
      let l = linked i (omega arith) in
      ap (λ (l : List L). l ++ own (of i)) (up_same f g (of i).parent (omega arith) (omega arith) (omega arith))

  pub labels_next : (i : ℕ) → i < n → labels_to own of (suc i) ≡ labels_to own of (of i).parent ++ own (of i)
  labels_next i h =
      let l = linked i h in
      ap (λ (l : List L). l ++ own (of i)) (up_same i (of i).parent (of i).parent l (omega arith) (omega arith))
