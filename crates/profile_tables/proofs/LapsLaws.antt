-- The laps of a set of triples are what joining any number of times gives: each lap that changes the table fills one of its 8 n n bits, so
-- that after as many rounds a lap changes nothing. So a table is rejecting exactly if some lap leads back with the priority of a least
-- fixpoint. Assumes nothing.
use mathlib.Core.Path.{◌≡◌, refl, sym, ap, subst, subst⁻¹, ◌∙◌}
use mathlib.Core.Logic.{inl, inr}
use mathlib.Core.Bool.{Bool, true, false, cond, ◌&&◌, ◌||◌}
use Prim.Native.Nat.{ℕ, zero, suc, ◌+◌, ◌*◌, ◌≤◌, ◌<◌, min}
use native.Mathlib.Omega.{arith}
use native.Mathlib.Nat.{suc-mul, mul_assoc}
use native.Mathlib.Decide.{dec_lt, ℕ_discrete}
use lib.Dec.{T}
use Rattle.base.specs.Lists.{iterate}
use Rattle.base.proofs.BoolLaws.{and_left, and_right, and_both, or_cases, or_left, or_right}
use Rattle.base.proofs.TestLaws.{same_truth}
use Rattle.base.proofs.ListLaws.{iterate_stays}
use Rattle.profile_tables.specs.Triples.{some, smaller, Triples, holds, those, join, either, lap, laps, rejecting}
use Rattle.profile_tables.proofs.TriplesLaws.{Test, TablesAgree, some_of, some_in, some_same, smaller_in, smaller_of, smaller-same}
use Rattle.profile_tables.proofs.TriplesLaws.{holds-those, those-same, join-holds}

-- a triple of one lap, or of one lap more
pub data LapTable (n : ℕ) (a : Triples) : ℕ → ℕ → ℕ → Type 0 where
  once : {f x g : ℕ} → f < n → x < 8 → g < n → T (holds a f x g) → LapTable n a f x g
  again : {f x m y g : ℕ} → LapTable n a f x m → y < 8 → g < n → T (holds a m y g) → LapTable n a f (min x y) g

abbrev tally : ℕ → (ℕ → ℕ) → ℕ
tally zero h = 0
tally (suc n) h = tally n h + h n

tally_le : (n : ℕ) (h k : ℕ → ℕ) → ((i : ℕ) → i < n → h i ≤ k i) → tally n h ≤ tally n k
tally_le zero h k p = omega arith
tally_le (suc n) h k p = omega (arith, tally_le n h k (λ i l. p i (omega arith)), p n (omega arith))

tally_eq : (n : ℕ) (h k : ℕ → ℕ) → ((i : ℕ) → i < n → h i ≤ k i) → tally n k ≤ tally n h → (i : ℕ) → i < n → k i ≤ h i
tally_eq zero h k p q i l = absurd (omega arith)
tally_eq (suc n) h k p q i l =
    let a = tally_le n h k (λ i l. p i (omega arith)) in
    let b = p n (omega arith) in
    elim (ℕ_discrete i n) [
      | yes e ↦ subst⁻¹ (λ (j : ℕ). k j ≤ h j) e (omega arith)
      | no d ↦ tally_eq n h k (λ i l. p i (omega arith)) (omega arith) i (omega arith)
    ]

tally_top : (n m : ℕ) (h : ℕ → ℕ) → ((i : ℕ) → i < n → h i ≤ m) → tally n h ≤ n * m
tally_top zero m h p = omega arith
tally_top (suc n) m h p = omega (arith, tally_top n m h (λ i l. p i (omega arith)), p n (omega arith), suc-mul n m)

abbrev lack : Bool → ℕ
lack b = cond b 0 1

lack_le : (a b : Bool) → (T a → T b) → lack b ≤ lack a
lack_le true true f = omega arith
lack_le true false f = absurd (f tt)
lack_le false true f = omega arith
lack_le false false f = omega arith

lack_eq : (a b : Bool) → lack a ≤ lack b → T b → T a
lack_eq true b l t = tt
lack_eq false true l t = absurd (omega arith)
lack_eq false false l t = t

module _ (n : ℕ) where
  abbrev cell : Test → ℕ → ℕ → ℕ
  cell q f g = tally 8 (λ x. lack (q f x g))

  abbrev lacks : Test → ℕ
  lacks q = tally n (λ f. tally n (λ g. cell q f g))

  abbrev Sub : Test → Test → Type 0
  Sub q r = (f x g : ℕ) → f < n → x < 8 → g < n → T (q f x g) → T (r f x g)

  cell_le : (q r : ℕ → ℕ → ℕ → Bool) → Sub q r → (f g : ℕ) → f < n → g < n → cell r f g ≤ cell q f g
  cell_le q r s f g hf hg = tally_le 8 (λ x. lack (r f x g)) (λ x. lack (q f x g)) (λ x hx. lack_le (q f x g) (r f x g) (s f x g hf hx hg))

  row_le : (q r : ℕ → ℕ → ℕ → Bool) → Sub q r → (f : ℕ) → f < n → tally n (cell r f) ≤ tally n (cell q f)
  row_le q r s f hf = tally_le n (cell r f) (cell q f) (λ g hg. cell_le q r s f g hf hg)

  same_of : (q r : ℕ → ℕ → ℕ → Bool) → Sub q r → lacks q ≤ lacks r → Sub r q
  same_of q r s l f x g hf hx hg =
      let a = tally_eq n (λ f. tally n (cell r f)) (λ f. tally n (cell q f)) (λ f hf. row_le q r s f hf) l f hf in
      let b = tally_eq n (cell r f) (cell q f) (λ g hg. cell_le q r s f g hf hg) a g hg in
      let c = tally_eq 8 (λ x. lack (r f x g)) (λ x. lack (q f x g)) (λ x hx. lack_le (q f x g) (r f x g) (s f x g hf hx hg)) b x hx in
      lack_eq (q f x g) (r f x g) c

  lacks_top : (q : ℕ → ℕ → ℕ → Bool) → lacks q ≤ 8 * (n * n)
  lacks_top q =
      let one : (b : Bool) → lack b ≤ 1 = by in
      let c : (f g : ℕ) → cell q f g ≤ 8 * 1 = λ f g. tally_top 8 1 (λ x. lack (q f x g)) (λ x hx. one (q f x g)) in
      let r : (f : ℕ) → tally n (cell q f) ≤ n * 8 = λ f. tally_top n 8 (cell q f) (λ g hg. omega (arith, c f g)) in
      let t = tally_top n (n * 8) (λ f. tally n (cell q f)) (λ f hf. r f) in
      omega (arith, t, mul_assoc n n 8)
    where
      by : (b : Bool) → lack b ≤ 1
      by true = omega arith
      by false = omega arith

  module _ (a : Triples) where
    abbrev Tab : Triples → Type 0
    Tab s = s ≡ those n (holds s)

    tab_those : (q : ℕ → ℕ → ℕ → Bool) → Tab (those n q)
    tab_those q = those-same n q (holds (those n q)) (λ f x g hf hx hg. sym (holds-those n q f x g hf hx hg))

    lap-holds : (s : Triples) → TablesAgree n (holds (lap n a s)) (λ f x g. holds s f x g || holds (join n s a) f x g)
    unfolding lap either
    lap-holds s = holds-those n (λ f x g. holds s f x g || holds (join n s a) f x g)

    lap_tab : (s : Triples) → Tab (lap n a s)
    unfolding lap either
    lap_tab s = tab_those (λ f x g. holds s f x g || holds (join n s a) f x g)

    lap_sub : (s : Triples) → Sub (holds s) (holds (lap n a s))
    lap_sub s f x g hf hx hg t = subst⁻¹ T (lap-holds s f x g hf hx hg) (or_left (holds s f x g) (holds (join n s a) f x g) t)

    still : (s : Triples) → Tab s → lacks (holds s) ≤ lacks (holds (lap n a s)) → lap n a s ≡ s
    still s t l =
        lap_tab s
        ∙ those-same n (holds (lap n a s)) (holds s)
        (λ f x g hf hx hg. same_truth (holds (lap n a s) f x g) (holds s f x g)
        (same_of (holds s) (holds (lap n a s)) (lap_sub s) l f x g hf hx hg) (lap_sub s f x g hf hx hg))
        ∙ sym t

    -- rounds enough for what is lacking reach what a round no longer changes
    rounds : (k : ℕ) (s : Triples) → Tab s → lacks (holds s) ≤ k → lap n a (iterate k (lap n a) s) ≡ iterate k (lap n a) s
    rounds zero s t l = still s t (omega arith)
    rounds (suc k) s t l = go (dec_lt (lacks (holds (lap n a s))) (lacks (holds s))) (rounds k (lap n a s) (lap_tab s))
      where
        go : Dec (lacks (holds (lap n a s)) < lacks (holds s))
            → (lacks (holds (lap n a s)) ≤ k → lap n a (iterate k (lap n a) (lap n a s)) ≡ iterate k (lap n a) (lap n a s))
            → lap n a (iterate k (lap n a) (lap n a s)) ≡ iterate k (lap n a) (lap n a s)
        go (yes p) f = f (omega arith)
        go (no p) f =
            let e : lap n a s ≡ s = still s t (omega arith) in
            let r : iterate k (lap n a) (lap n a s) ≡ s = ap (iterate k (lap n a)) e ∙ iterate_stays k (lap n a) s e in
            ap (lap n a) r ∙ e ∙ sym r

    -- rounds only add
    pub rounds_sub : (k : ℕ) (s : Triples) → Sub (holds s) (holds (iterate k (lap n a) s))
    rounds_sub zero s f x g hf hx hg t = t
    rounds_sub (suc k) s f x g hf hx hg t = rounds_sub k (lap n a s) f x g hf hx hg (lap_sub s f x g hf hx hg t)

    -- row f of a round needs row f of the set alone
    module _ (f : ℕ) (hf : f < n) where
      abbrev RowAgree : Triples → Triples → Type 0
      RowAgree s t = (x g : ℕ) → x < 8 → g < n → holds s f x g ≡ holds t f x g

      lap-row : (s t : Triples) → RowAgree s t → RowAgree (lap n a s) (lap n a t)
      lap-row s t h x g hx hg =
          let joined : holds (join n s a) f x g ≡ holds (join n t a) f x g =
          join-holds n s a f x g hf hx hg
          ∙ some_same n (way s) (way t)
          (λ m hm. smaller-same (λ y. holds s f y m) (λ z. holds a m z g) (λ y. holds t f y m) (λ z. holds a m z g) x
          (λ y hy. h y m hy hm) (λ z hz. refl))
          ∙ sym (join-holds n t a f x g hf hx hg) in
          lap-holds s f x g hf hx hg ∙ cc (h x g hx hg, joined) ∙ sym (lap-holds t f x g hf hx hg)
        where
          way : Triples → ℕ → Bool
          way r m = smaller (λ y. holds r f y m) (λ z. holds a m z g) x

      pub rounds_row : (k : ℕ) (s t : Triples) → RowAgree s t → RowAgree (iterate k (lap n a) s) (iterate k (lap n a) t)
      rounds_row zero s t h = h
      rounds_row (suc k) s t h = rounds_row k (lap n a s) (lap n a t) (lap-row s t h)

    -- each lap's triples are laps
    abbrev Laps : Triples → Type 0
    Laps s = (f x g : ℕ) → f < n → x < 8 → g < n → T (holds s f x g) → LapTable n a f x g

    lap-laps : (s : Triples) → Laps s → Laps (lap n a s)
    lap-laps s k f x g hf hx hg t =
        elim (or_cases (holds s f x g) (holds (join n s a) f x g) (subst T (lap-holds s f x g hf hx hg) t)) [
          | inl p ↦ k f x g hf hx hg p
          | inr p ↦
              let (m, hm, u) = some_of n (λ m. smaller (λ y. holds s f y m) (λ z. holds a m z g) x)
              (subst T (join-holds n s a f x g hf hx hg) p) in
              let (y, z, hy, hz, i, j, e) = smaller_of (λ y. holds s f y m) (λ z. holds a m z g) x u in
              subst (λ (w : ℕ). LapTable n a f w g) e (again (k f y m hf hy hm i) hz hg j)
        ]

    rounds_laps : (r : ℕ) (s : Triples) → Laps s → Laps (iterate r (lap n a) s)
    rounds_laps zero s k = k
    rounds_laps (suc r) s k = rounds_laps r (lap n a s) (lap-laps s k)

    pub laps_of : Laps (laps n a)
    unfolding laps
    laps_of = rounds_laps (8 * (n * n)) a (λ f x g hf hx hg t. once hf hx hg t)

    lap-range : {f x g : ℕ} → LapTable n a f x g → (f < n) × ((x < 8) × (g < n))
    lap-range (once hf hx hg t) = (hf, (hx, hg))
    lap-range (again l hy hg t) = ((lap-range l).0, (omega (arith, (lap-range l).1.0), hg))

    module _ (tab : Tab a) where
      closed : lap n a (laps n a) ≡ laps n a
      unfolding laps
      closed = rounds (8 * (n * n)) a tab (lacks_top (holds a))

      start : Sub (holds a) (holds (laps n a))
      unfolding laps
      start = rounds_sub (8 * (n * n)) a

      -- and each lap is among them
      pub laps_in : {f x g : ℕ} → LapTable n a f x g → T (holds (laps n a) f x g)
      laps_in (once {f} {x} {g} hf hx hg t) = start f x g hf hx hg t
      laps_in (again {f} {x} {m} {y} {g} l hy hg t) =
          let (hf, (hx, hm)) = lap-range l in
          let hw : min x y < 8 = omega arith in
          subst (λ (s : Triples). T (holds s f (min x y) g)) closed
          (subst⁻¹ T (lap-holds (laps n a) f (min x y) g hf hw hg)
          (or_right (holds (laps n a) f (min x y) g) (holds (join n (laps n a) a) f (min x y) g)
          (subst⁻¹ T (join-holds n (laps n a) a f (min x y) g hf hw hg)
          (some_in n (λ m. smaller (λ y. holds (laps n a) f y m) (λ z. holds a m z g) (min x y)) m hm
          (smaller_in (λ y. holds (laps n a) f y m) (λ z. holds a m z g) x y (min x y) hx hy (laps_in l) t refl)))))

      -- rejecting: some lap leads back with the priority of a least fixpoint
      pub rejecting_in : (least : ℕ → Bool) (f x : ℕ) → LapTable n a f x f → T (least x) → T (rejecting least n a)
      unfolding rejecting
      rejecting_in least f x l t =
          let (hf, (hx, hg)) = lap-range l in
          some_in n (λ f. some 8 (λ x. least x && holds (laps n a) f x f)) f hf
          (some_in 8 (λ x. least x && holds (laps n a) f x f) x hx (and_both (least x) (holds (laps n a) f x f) t (laps_in l)))

    pub rejecting_of : (least : ℕ → Bool) → T (rejecting least n a) → (f : ℕ) × (x : ℕ) × LapTable n a f x f × T (least x)
    unfolding rejecting
    rejecting_of least t =
        let (f, hf, u) = some_of n (λ f. some 8 (λ x. least x && holds (laps n a) f x f)) t in
        let (x, hx, v) = some_of 8 (λ x. least x && holds (laps n a) f x f) u in
        (f, x, laps_of f x f hf hx hf (and_right (least x) (holds (laps n a) f x f) v), and_left (least x) (holds (laps n a) f x f) v)
