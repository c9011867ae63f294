-- A row through its laps. Row f of a lap needs row f of the set alone, so a row can go through the laps by itself: it stands for the table
-- that has it in every row, and a lap of that table has the row's next lap in every row. A row that a lap does not change never changes
-- again. Laps only add: an operand that leads back after some of them leads back after all. Assumes nothing.
use Rattle.std.proofs.Common.{◌≡◌, ℕ, zero, suc, ◌+◌, ◌*◌, ◌≤◌, ◌<◌, Bool, true, ◌&&◌, ◌||◌, List, get_or, refl, sym, ap, subst, ◌∙◌}
use Rattle.std.proofs.Common.{arith, mul-le-mul_right, T}
use Rattle.base.specs.Lists.{iterate}
use Rattle.base.specs.Bits.{bit}
use Rattle.base.proofs.BoolLaws.{of_T, to_T, and_left, and_right, and_both}
use Rattle.base.proofs.ListLaws.{iterate_stays}
use Rattle.profile_tables.specs.Triples.{Triples, some, those, holds, lap, laps, rejecting}
use Rattle.profile_tables.proofs.TriplesLaws.{Test, some_of, some_in, some_same, holds-those, those-same}
use Rattle.profile_tables.proofs.LapsLaws.{rounds_sub, rounds_row}
use Rattle.triples.specs.Inner.{bytes, bytes_from, bits, triples_in, triples_at, one_way, by_way, RowWith, comes_back, leads_back}
use Rattle.triples.proofs.ByteLaws.{met}
use Rattle.triples.proofs.CellLaws.{triples_copied, SameBelow, comes_those}
use Rattle.triples.proofs.JoinLaws.{either-join}

pub square : (n : ℕ) → n ≤ 12 → n * n ≤ 144
square n h = omega (arith, mul-le-mul_right n h)

-- whether a row holds x at g, whatever the operand that it is the row of
abbrev row-bits : List ℕ → Test
row-bits r f x g = bit (bytes r g) x

-- the table that has r in every row
abbrev each_row : ℕ → List ℕ → Triples
each_row n r = those n (row-bits r)

-- the row joined with a gives the lap of that table
row-lap : (n : ℕ) (a r t : List ℕ) → n ≤ 12 → RowWith r 12 (by_way (bytes_from r 0) a n) t
    → each_row n t ≡ lap n (triples_in n a) (each_row n r)
unfolding lap
row-lap n a r t h p =
    those-same n (row-bits t) (λ f x g. bit (bytes r g) x || by_way (bytes r) a n x g)
    (λ f x g hf hx hg.
    p.row x g hx (omega arith)
    ∙ ap (λ (v : Bool). bit (bytes r g) x || v)
    (some_same n (λ k. one_way (bytes_from r 0 k) a k x g) (λ k. one_way (bytes r k) a k x g)
    (λ k hk. ap (λ (i : ℕ). one_way (bytes r i) a k x g) {x = 0 + k} {y = k} (omega arith))))
    ∙ sym (either-join n (row-bits r) (row-bits r) (bits (bytes a)))

-- a copy of the bytes is rejecting exactly if they are
pub rejecting_copied : (least : ℕ → Bool) (n : ℕ) (l t : List ℕ) (at : ℕ) → n ≤ 12
    → ((i : ℕ) → i < 144 → get_or t i 0 ≡ get_or l (at + i) 0)
    → rejecting least n (triples_in n t) ≡ rejecting least n (triples_at n l at)
rejecting_copied least n l t at h e = ap (rejecting least n) (triples_copied n l t at h e)

-- an operand that leads back in a set leads back in a larger one
comes_more : (least : ℕ → Bool) (s t : Triples) (f : ℕ) → ((x : ℕ) → x < 8 → T (holds s f x f) → T (holds t f x f))
    → comes_back least s f ≡ true → comes_back least t f ≡ true
comes_more least s t f h e =
    let (x, hx, v) = some_of 8 (λ x. least x && holds s f x f) (to_T (comes_back least s f) e) in
    of_T (comes_back least t f)
    (some_in 8 (λ x. least x && holds t f x f) x hx
    (and_both (least x) (holds t f x f) (and_left (least x) (holds s f x f) v) (h x hx (and_right (least x) (holds s f x f) v))))

module _ (n : ℕ) (a : List ℕ) where
  abbrev base : Triples
  base = triples_in n a

  -- the set leads back before the first lap
  pub back_rejects : (least : ℕ → Bool) → leads_back least n base ≡ true → true ≡ rejecting least n base
  unfolding rejecting laps
  back_rejects least e =
      let (f, hf, u) = some_of n (comes_back least base) (to_T (leads_back least n base) e) in
      let back : comes_back least (laps n base) f ≡ true =
      comes_more least base (laps n base) f (λ x hx t. rounds_sub n base (8 * (n * n)) base f x f hf hx hf t)
      (of_T (comes_back least base f) u) in
      sym
      (of_T (leads_back least n (laps n base))
      (some_in n (comes_back least (laps n base)) f hf (to_T (comes_back least (laps n base) f) back)))

  -- some operand leads back after all laps
  pub rows_reject : (least : ℕ → Bool) → some n (comes_back least (laps n base)) ≡ rejecting least n base
  unfolding rejecting
  rows_reject least = refl

  module _ (f : ℕ) where
    -- with that many laps more the row r has at f what all laps have there
    abbrev pub OnWay : List ℕ → ℕ → Type 0
    OnWay r left = (x : ℕ) → x < 8 → holds (laps n base) f x f ≡ holds (iterate left (lap n base) (each_row n r)) f x f

    -- m is r with one lap more
    abbrev Lapped : List ℕ → List ℕ → Type 0
    Lapped r m = RowWith r 12 (by_way (bytes_from r 0) a n) m

    module _ (hn : n ≤ 12) (hf : f < n) where
      pub row-start : (r : List ℕ) (left : ℕ) → left ≡ 8 * (n * n) → ((g : ℕ) → g < 12 → get_or r g 0 ≡ get_or a (f * 12 + g) 0)
          → OnWay r left
      unfolding laps
      row-start r left all e x hx =
          rounds_row n base f hf (8 * (n * n)) base (each_row n r)
          (λ x g hx hg.
          holds-those n (bits (bytes a)) f x g hf hx hg
          ∙ ap (λ (w : ℕ). bit w x) (sym (e g (omega arith)))
          ∙ sym (holds-those n (row-bits r) f x g hf hx hg))
          x f hx hf
          ∙ ap (λ (k : ℕ). holds (iterate k (lap n base) (each_row n r)) f x f) (sym all)

      pub row_more : (r m : List ℕ) (left less : ℕ) → left ≡ less + 1 → OnWay r left → Lapped r m → OnWay m less
      row_more r m left less e w p x hx =
          w x hx
          ∙ ap (λ (k : ℕ). holds (iterate k (lap n base) (each_row n r)) f x f) {x = left} {y = suc less} (omega arith)
          ∙ ap (λ (s : Triples). holds (iterate less (lap n base) s) f x f) (sym (row-lap n a r m hn p))

      -- a row that a lap did not change has all laps
      pub row-still : (r m : List ℕ) (left : ℕ) → OnWay r left → Lapped r m → SameBelow r m 12 → OnWay m 0
      row-still r m left w p s x hx =
          let same : each_row n r ≡ each_row n m =
          those-same n (row-bits r) (row-bits m) (λ f x g hf hx hg. ap (λ (v : ℕ). bit v x) (s g (omega arith))) in
          w x hx
          ∙ ap (λ (t : Triples). holds t f x f)
          (iterate_stays left (lap n base) (each_row n r) (sym (row-lap n a r m hn p) ∙ sym same) ∙ same)

      pub row_end : (r : List ℕ) (left : ℕ) → left ≤ 0 → OnWay r left → OnWay r 0
      row_end r zero h w = w
      row_end r (suc left) h w = absurd (omega arith)

      -- once the row has all laps, its own answer counts
      pub row-answer : (r : List ℕ) (mask : ℕ) → OnWay r 0 → met (bytes r f) mask ≡ comes_back (bit mask) (laps n base) f
      row-answer r mask w =
          sym
          (some_same 8 (λ x. bit mask x && holds (laps n base) f x f) (λ x. bit mask x && holds (each_row n r) f x f)
          (λ x hx. ap (λ (t : Bool). bit mask x && t) (w x hx))
          ∙ comes_those (bit mask) n (row-bits r) f hf)

      -- what it has before is among all laps
      pub row-found : (r : List ℕ) (mask left : ℕ) → OnWay r left → met (bytes r f) mask ≡ true
          → true ≡ comes_back (bit mask) (laps n base) f
      row-found r mask left w e =
          sym
          (comes_more (bit mask) (each_row n r) (laps n base) f
          (λ x hx t. subst T (sym (w x hx)) (rounds_sub n base left (each_row n r) f x f hf hx hf t))
          (comes_those (bit mask) n (row-bits r) f hf ∙ e))
