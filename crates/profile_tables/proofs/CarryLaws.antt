-- A table of bits carries a set of triples: at the ranks of its parts the bit of a triple says whether the set has it, and no other bit
-- is true. Then equal tables carry equal sets and equal sets have equal tables (`carries_set`, `carries_table`), joining tables joins the
-- sets (`carries_join`), and a table is rejecting exactly if its set is (`carries_rejecting`). Assumes nothing.
use mathlib.Core.Path.{◌≡◌, refl, sym, ap, subst, subst⁻¹, ◌∙◌}
use mathlib.Core.Bool.{Bool, false, cond}
use mathlib.Core.List.Memᴰ
use mathlib.Core.List.{List, [], ◌∷◌, Memᴰ}
use Prim.Native.Nat.{ℕ, ◌≤◌, ◌<◌, min}
use lib.Dec.{T}
use lib.ListN.{length, get_or}
use Rattle.base.specs.Lists.{any, filter, flat_map}
use Rattle.base.proofs.TestLaws.{same_truth}
use Rattle.base.proofs.MemberLaws.{any_of, any_in}
use Rattle.base.proofs.At.{At, at_lt, in_at, at_of}
use Rattle.formula.specs.Table.{Table}
use Rattle.tableau.specs.Nodes.{operands}
use Rattle.profile.specs.Traces.{Triple, same_triple, priorities_from, all_triples, set_of, meet}
use Rattle.profile.specs.Traces as literal
use Rattle.profile.specs.Profiles as literal-profiles
use Rattle.profile.proofs.TripleLaws.{triple-sound, triple_refl, cube_of, TripleFits, TriplesKnown, set_of_of, set_of_in, min_in, join_of}
use Rattle.profile.proofs.TripleLaws.{join_in}
use Rattle.profile.specs.Cycle as cycle
use Rattle.profile.proofs.RejectLaws as literal-laps
use Rattle.profile_tables.specs.Triples.{Triples, smaller, holds, those, join, rejecting}
use Rattle.profile_tables.specs.Marks.{leasts}
use Rattle.profile_tables.proofs.TriplesLaws.{Test, some_of, some_in, smaller_of, smaller_in, holds-those, those-same, joins}
use Rattle.profile_tables.proofs.TriplesLaws.{join-holds}
use Rattle.profile_tables.proofs.LapsLaws as coded-laps
use Rattle.profile_tables.proofs.RankLaws.{fixes-from, PriorityRank, priorities_of, priorities_lt, priorities_min, priorities-least}
use Rattle.profile_tables.proofs.RankLaws.{priorities-one, priorities_rank}

-- sets with the same triples are equal
filter_same : {A : Type 0} (q r : A → Bool) (xs : List A) → ((x : A) → Memᴰ x xs → q x ≡ r x) → filter q xs ≡ filter r xs
filter_same q r [] f = refl
filter_same {A} q r (x ∷ xs) f =
    ap (λ (b : Bool). cond b (x ∷ filter q xs) (filter q xs)) (f x (Memᴰ.head refl))
    ∙ ap (λ (l : List A). cond (r x) (x ∷ l) l) (filter_same q r xs (λ y m. f y (Memᴰ.tail m)))

has-triple : (a : Triple) (xs : List Triple) → T (any (same_triple a) xs) → Memᴰ a xs
has-triple a xs h = let (b, m, s) = any_of (same_triple a) xs h in Memᴰ.cast (triple-sound a b s) m

pub set_same : (t : Table) (xs ys : List Triple) → ((a : Triple) → TripleFits t a → Memᴰ a xs → Memᴰ a ys)
    → ((a : Triple) → TripleFits t a → Memᴰ a ys → Memᴰ a xs) → set_of t xs ≡ set_of t ys
set_same t xs ys f g =
    filter_same (λ a. any (same_triple a) xs) (λ a. any (same_triple a) ys) (all_triples t)
    (λ a m.
    let p = cube_of (operands t) (priorities_from 0 t) (operands t) a m in
    same_truth (any (same_triple a) xs) (any (same_triple a) ys)
    (λ h. any_in (same_triple a) (f a p (has-triple a xs h)) (triple_refl a))
    (λ h. any_in (same_triple a) (g a p (has-triple a ys h)) (triple_refl a)))

pub set_again : (t : Table) (xs : List Triple) → set_of t (set_of t xs) ≡ set_of t xs
set_again t xs = set_same t (set_of t xs) xs (λ a p m. (set_of_of t xs a m).1) (λ a p m. set_of_in t xs a p m)

abbrev pub triple : (f x g : ℕ) → Triple
triple f x g = record { from = f; priority = x; to = g }

pub table-those : (n : ℕ) (q : Test) → those n q ≡ those n (holds (those n q))
table-those n q = those-same n q (holds (those n q)) (λ f x g hf hx hg. sym (holds-those n q f x g hf hx hg))

module _ (t : Table) where
  abbrev pub count : ℕ
  count = length (operands t)

  -- the i-th operand of a next
  abbrev pub Operand : ℕ → ℕ → Type 0
  Operand i f = At (operands t) i f

  pub record Carries (s : Triples) (xs : List Triple) : Type 0 where
    pub table : s ≡ those count (holds s)
    pub only : (i k j : ℕ) → i < count → k < 8 → j < count → T (holds s i k j) → (x : ℕ) × PriorityRank t k x
    pub set : set_of t xs ≡ xs
    pub there : (i k j f x g : ℕ) → Operand i f → PriorityRank t k x → Operand j g → T (holds s i k j) → Memᴰ (triple f x g) xs
    pub back : (i k j f x g : ℕ) → Operand i f → PriorityRank t k x → Operand j g → Memᴰ (triple f x g) xs → T (holds s i k j)

  pub carries_known : {s : Triples} {xs : List Triple} → Carries s xs → TriplesKnown t xs
  carries_known {xs = xs} c a m = (set_of_of t xs a (subst⁻¹ (Memᴰ a) c.set m)).0

  module _ (few : length (fixes-from 0 t) ≤ 7) where
    -- equal tables, equal sets
    carries_part : (s : Triples) (xs ys : List Triple) → Carries s xs → Carries s ys → (a : Triple) → TripleFits t a → Memᴰ a xs
        → Memᴰ a ys
    carries_part s xs ys c d a p m =
        let (i, f) = in_at p.from_in in
        let (k, w) = priorities_of t p.priority_in in
        let (j, g) = in_at p.to_in in
        d.there i k j a.from a.priority a.to f w g (c.back i k j a.from a.priority a.to f w g m)

    pub carries_set : (s : Triples) (xs ys : List Triple) → Carries s xs → Carries s ys → xs ≡ ys
    carries_set s xs ys c d = sym c.set ∙ set_same t xs ys (carries_part s xs ys c d) (carries_part s ys xs d c) ∙ d.set

    -- equal sets, equal tables
    carries_bit : (s r : Triples) (xs : List Triple) → Carries s xs → Carries r xs → (i k j : ℕ) → i < count → k < 8 → j < count
        → T (holds s i k j) → T (holds r i k j)
    carries_bit s r xs c d i k j hi hk hj h =
        let (x, w) = c.only i k j hi hk hj h in
        let f = at_of (operands t) i 0 hi in
        let g = at_of (operands t) j 0 hj in
        d.back i k j (get_or (operands t) i 0) x (get_or (operands t) j 0) f w g
        (c.there i k j (get_or (operands t) i 0) x (get_or (operands t) j 0) f w g h)

    pub carries_table : (s r : Triples) (xs : List Triple) → Carries s xs → Carries r xs → s ≡ r
    carries_table s r xs c d =
        c.table
        ∙ those-same count (holds s) (holds r)
        (λ i k j hi hk hj.
        same_truth (holds s i k j) (holds r i k j) (carries_bit s r xs c d i k j hi hk hj) (carries_bit r s xs d c i k j hi hk hj))
        ∙ sym d.table

    -- the bits of a join, and the triples that meet for them
    module _ (a b : Triples) (xs ys : List Triple) (c : Carries a xs) (d : Carries b ys) where
      record Meets (i k j : ℕ) : Type 0 where
        middle : ℕ
        left : ℕ
        right : ℕ
        middle_lt : middle < count
        left_lt : left < 8
        right_lt : right < 8
        left-holds : T (holds a i left middle)
        right-holds : T (holds b middle right j)
        smaller-is : min left right ≡ k

      meets_of : (i k j : ℕ) → i < count → k < 8 → j < count → T (holds (join count a b) i k j) → Meets i k j
      meets_of i k j hi hk hj h =
          let (m, l, u) = some_of count (λ m. smaller (λ y. holds a i y m) (λ z. holds b m z j) k)
          (subst T (join-holds count a b i k j hi hk hj) h) in
          let (y, z, p, q, v, w, e) = smaller_of (λ y. holds a i y m) (λ z. holds b m z j) k u in
          record {
            middle = m;
            left = y;
            right = z;
            middle_lt = l;
            left_lt = p;
            right_lt = q;
            left-holds = v;
            right-holds = w;
            smaller-is = e;
          }

      join-priorities : (i k j : ℕ) → i < count → j < count → (m : Meets i k j)
          → (u v : ℕ) × PriorityRank t m.left u × PriorityRank t m.right v ×
          PriorityRank t k (min u v)
      join-priorities i k j hi hj m =
          let (u, p) = c.only i m.left m.middle hi m.left_lt m.middle_lt m.left-holds in
          let (v, q) = d.only m.middle m.right j m.middle_lt m.right_lt hj m.right-holds in
          (u, v, p, q, subst (λ (l : ℕ). PriorityRank t l (min u v)) m.smaller-is (priorities_min t few p q))

      join-there : (i k j f x g : ℕ) → Operand i f → PriorityRank t k x → Operand j g → T (holds (join count a b) i k j)
          → Memᴰ (triple f x g) (literal.join t xs ys)
      join-there i k j f x g p w q h =
          let m = meets_of i k j (at_lt p) (priorities_lt t few w) (at_lt q) h in
          let (u, v, y, z, n) = join-priorities i k j (at_lt p) (at_lt q) m in
          let o = at_of (operands t) m.middle 0 m.middle_lt in
          let e = get_or (operands t) m.middle 0 in
          Memᴰ.cast (ap (λ (l : ℕ). triple f l g) (priorities-one t few w n))
          (join_in t xs ys (carries_known c) (carries_known d) (triple f u e) (triple e v g)
          (c.there i m.left m.middle f u e p y o m.left-holds)
          (d.there m.middle m.right j e v g o z q m.right-holds) refl)

      join-back : (i k j f x g : ℕ) → Operand i f → PriorityRank t k x → Operand j g → Memᴰ (triple f x g) (literal.join t xs ys)
          → T (holds (join count a b) i k j)
      join-back i k j f x g p w q h =
          let r = join_of t xs ys (triple f x g) h in
          let left = carries_known c r.left r.left_in in
          let right = carries_known d r.right r.right_in in
          let (y, u) = priorities_of t left.priority_in in
          let (z, v) = priorities_of t right.priority_in in
          let (m, o) = in_at left.to_in in
          let e = r.left.to in
          let from : f ≡ r.left.from = ap (λ (s : Triple). s.from) r.is in
          let to : g ≡ r.right.to = ap (λ (s : Triple). s.to) r.is in
          let low : x ≡ min r.left.priority r.right.priority = ap (λ (s : Triple). s.priority) r.is in
          let rank : min y z ≡ k = priorities_rank t few (priorities_min t few u v) (subst (PriorityRank t k) low w) in
          let one : T (holds a i y m) =
          c.back i y m f r.left.priority e p u o (Memᴰ.cast (λ i. triple (from i) r.left.priority e) r.left_in) in
          let two : T (holds b m z j) =
          d.back m z j e r.right.priority g o v q (Memᴰ.cast (λ i. triple (r.meets i) r.right.priority (to i)) r.right_in) in
          subst⁻¹ T (join-holds count a b i k j (at_lt p) (priorities_lt t few w) (at_lt q))
          (some_in count (λ m. smaller (λ y. holds a i y m) (λ z. holds b m z j) k) m (at_lt o)
          (smaller_in (λ y. holds a i y m) (λ z. holds b m z j) y z k (priorities_lt t few u) (priorities_lt t few v) one two rank))

      pub carries_join : Carries (join count a b) (literal.join t xs ys)
      unfolding join literal.join
      carries_join =
          record {
            table = table-those count (joins count (holds a) (holds b));
            only = λ i k j hi hk hj h.
                let (u, v, y, z, n) = join-priorities i k j hi hj (meets_of i k j hi hk hj h) in
                (min u v, n);
            set = set_again t (flat_map (λ a. flat_map (meet a) ys) xs);
            there = join-there;
            back = join-back;
          }

    -- laps of the table are laps of the set, and back
    module _ (s : Triples) (xs : List Triple) (c : Carries s xs) where
      record Lapped (i k j : ℕ) : Type 0 where
        priority : ℕ
        priorities : PriorityRank t k priority
        end_lt : j < count
        lap : (f g : ℕ) → Operand i f → Operand j g → cycle.Lap xs (triple f priority g)

      lap-there : {i k j : ℕ} → coded-laps.LapTable count s i k j → Lapped i k j
      lap-there (coded-laps.LapTable.once {f = i} {x = k} {g = j} hi hk hj h) =
          let (x, w) = c.only i k j hi hk hj h in
          record { priority = x; priorities = w; end_lt = hj; lap = λ f g p q. cycle.Lap.once (c.there i k j f x g p w q h) }
      lap-there (coded-laps.LapTable.again {m} {y} {g = j} l hy hj h) =
          let r = lap-there l in
          let (v, w) = c.only m y j r.end_lt hy hj h in
          let o = at_of (operands t) m 0 r.end_lt in
          let e = get_or (operands t) m 0 in
          record {
            priority = min r.priority v;
            priorities = priorities_min t few r.priorities w;
            end_lt = hj;
            lap = λ f g p q. cycle.Lap.again {a = triple f r.priority e} {b = triple e v g} (r.lap f e p o)
                (c.there m y j e v g o w q h) refl;
          }

      lap-fits : {a : Triple} → cycle.Lap xs a → TripleFits t a
      lap-fits (cycle.Lap.once {a} m) = carries_known c a m
      lap-fits (cycle.Lap.again {a} {b} l m e) =
          let p = lap-fits l in
          let q = carries_known c b m in
          record {
            from_in = p.from_in;
            priority_in = min_in (priorities_from 0 t) a.priority b.priority p.priority_in q.priority_in;
            to_in = q.to_in;
          }

      lap-back : {a : Triple} → cycle.Lap xs a → (i k j : ℕ) → Operand i a.from → PriorityRank t k a.priority → Operand j a.to
          → coded-laps.LapTable count s i k j
      lap-back (cycle.Lap.once {a} m) i k j p w q =
          coded-laps.LapTable.once (at_lt p) (priorities_lt t few w) (at_lt q) (c.back i k j a.from a.priority a.to p w q m)
      lap-back (cycle.Lap.again {a} {b} l m e) i k j p w q =
          let f = lap-fits l in
          let g = carries_known c b m in
          let (x, u) = priorities_of t f.priority_in in
          let (y, v) = priorities_of t g.priority_in in
          let (h, o) = in_at f.to_in in
          subst (λ (l : ℕ). coded-laps.LapTable count s i l j) (priorities_rank t few (priorities_min t few u v) w)
          (coded-laps.LapTable.again (lap-back l i x h p u o) (priorities_lt t few v) (at_lt q)
          (c.back h y j b.from b.priority b.to (subst (Operand h) e o) v q m))

      abbrev least : ℕ → Bool
      least i = get_or (leasts t) i false

      pub carries_rejecting : rejecting least count s ≡ literal-profiles.rejecting t xs
      carries_rejecting =
          same_truth (rejecting least count s) (literal-profiles.rejecting t xs)
          (λ h.
          let (i, k, l, m) = coded-laps.rejecting_of count s least h in
          let r = lap-there l in
          let o = at_of (operands t) i 0 r.end_lt in
          literal-laps.rejecting_in t xs
          (record {
            triple = triple (get_or (operands t) i 0) r.priority (get_or (operands t) i 0);
            lap = r.lap (get_or (operands t) i 0) (get_or (operands t) i 0) o o;
            back = refl;
            least = subst T (priorities-least t few r.priorities) m;
          }))
          (λ h.
          let r = literal-laps.rejecting_of t xs h in
          let p = lap-fits r.lap in
          let (i, o) = in_at p.from_in in
          let (k, w) = priorities_of t p.priority_in in
          coded-laps.rejecting_in count s c.table least i k
          (lap-back r.lap i k i o w (subst (Operand i) r.back o)) (subst⁻¹ T (priorities-least t few w) r.least))
