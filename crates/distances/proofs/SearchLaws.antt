-- The search from a vertex, level by level. After `far` turns the level has the vertices at distance `far`, seen are those with a walk of
-- at most so many steps, there is no closed walk so short, and the smaller distances are noted (`Search`). A turn goes on from there: a
-- walk of one step more begins with a step to a vertex whose distance is `far`, unless the vertex that it begins at has a shorter walk
-- (`next_in`). So the next set has the searched vertex exactly if that has a closed walk of one step more (`found`, `still_open`), and what
-- of it was not seen is the next level (`search-next`). If all of it was seen, every vertex with a walk was, and the searched vertex has no
-- closed walk (`exhausted`). Assumes nothing.
use Rattle.std.proofs.Common.{None, Some}
use Rattle.std.proofs.Common.{◌≡◌, refl, sym, ap, subst, ◌∙◌, Bool, true, false, cond, not, ◌||◌, ◌⊎◌, inl, inr, ⊎_elim, List, ℕ, zero}
use Rattle.std.proofs.Common.{suc, ◌*◌, ◌/◌, ◌%◌, ◌^◌, ◌≤◌, ◌<◌, arith, T, T_not, eqb, eqb→eq, length, get_or, set, length-set}
use Rattle.std.proofs.Math.Dec.{not_T, eqb_refl}
use Rattle.std.proofs.Math.Decide.{dec_le}
use Rattle.base.proofs.BoolLaws.{by_test, to_T, and_left, and_right, and_both, or_cases}
use Rattle.relation.specs.Relation.{linked}
use Rattle.distances.specs.Walks.{Walk, Distance, Distances}
use Rattle.distances.specs.Inner.{has_vertex, Expanded, Parted, Unnoted, Closed, ShortestOf}
use Rattle.distances.proofs.SetLaws.{no-vertex, none-long, none_has, one_has}
use Rattle.distances.proofs.WalkLaws.{Rows, onward, at_rest, walk_covered, distance_one}

-- what is not below a number
at_least : (n m : ℕ) → (m < n → ⊥) → n ≤ m
at_least n m f = by (dec_le n m)
  where
    by : Dec (n ≤ m) → n ≤ m
    by (yes h) = h
    by (no h) = absurd (f (omega arith))

-- a walk of at most so many steps
pub record Near (r : List ℕ) (to far x : ℕ) : Type 0 where
  pub steps : ℕ
  pub short : steps ≤ far
  pub walk : Walk r to steps x

pub record Search (r : List ℕ) (to far : ℕ) (level seen steps : List ℕ) : Type 0 where
  pub level_of : (x : ℕ) → T (has_vertex level x) → Distance r to far x
  pub level_in : (x : ℕ) → Distance r to far x → T (has_vertex level x)
  pub seen_of : (x : ℕ) → T (has_vertex seen x) → Near r to far x
  pub seen_in : (x n : ℕ) → n ≤ far → Walk r to n x → T (has_vertex seen x)
  pub unclosed : (n : ℕ) → 0 < n → n ≤ far → Walk r to n to → ⊥
  pub held : (x : ℕ) → (get_or steps x 1024 < far) ⊎ (get_or steps x 1024 ≡ 1024)
  pub noted : Distances r to far steps
  pub long_level : length level ≡ 16
  pub long_seen : length seen ≡ 16
  pub long_steps : length steps ≡ 1024

-- at the beginning
search-start : {r : List ℕ} (to : ℕ) {level steps : List ℕ} → length level ≡ 16 → ((x : ℕ) → has_vertex level x ≡ eqb x to)
    → Unnoted steps → Search r to 0 level level steps
search-start {r} to {level} {steps} l one u =
    record {
      level_of = λ x t. subst (Distance r to 0) (sym (is x t)) (record { walk = Walk.stay; least = λ m w. omega arith });
      level_in = λ x d. has x d.walk;
      seen_of = λ x t. record { steps = 0; short = omega arith; walk = subst (Walk r to 0) (sym (is x t)) Walk.stay };
      seen_in = λ x n h w. has x (subst (λ (k : ℕ). Walk r to k x) {x = n} {y = 0} (omega arith) w);
      unclosed = λ n h k w. omega arith;
      held = λ x. inr (u.is x);
      noted = record { sound = λ a n h e. absurd (omega arith); complete = λ a n h d. absurd (omega arith) };
      long_level = l;
      long_seen = l;
      long_steps = u.long;
    }
  where
    is : (x : ℕ) → T (has_vertex level x) → x ≡ to
    is x t = eqb→eq x to (subst T (one x) t)

    has : (x : ℕ) → Walk r to 0 x → T (has_vertex level x)
    has x w = subst T (sym (one x)) (subst (λ (y : ℕ). T (eqb y to)) (sym (at_rest w)) (eqb_refl to))

pub search_from : {r : List ℕ} (to : ℕ) {word : ℕ} {steps : List ℕ} → to < 1024 → word ≡ 2 ^ (to % 64) → Unnoted steps
    → Search r to 0 (set no-vertex (to / 64) word) (set no-vertex (to / 64) word) steps
search_from {r} to {word} {steps} h q u =
    subst (λ (w : ℕ). Search r to 0 (set no-vertex (to / 64) w) (set no-vertex (to / 64) w) steps) (sym q)
    (search-start to (length-set no-vertex (to / 64) (2 ^ (to % 64)) ∙ none-long) (one_has to h) u)

-- a turn
module _ {r : List ℕ} {to far : ℕ} {level seen steps steps' next : List ℕ} (s : Search r to far level seen steps)
    (e : Expanded r (has_vertex level) far steps no-vertex steps' next) where
  -- what the next set has, and what it has to have
  next-walk : (x : ℕ) → T (has_vertex next x) → Walk r to (suc far) x
  next-walk x t =
      ⊎_elim (λ q. absurd (subst T (none_has x) q)) (λ l. Walk.step l.link (s.level_of l.next l.passes).walk) (e.only x t)

  next_in : (x : ℕ) → ((m : ℕ) → 0 < m → m ≤ far → Walk r to m x → ⊥) → Walk r to (suc far) x → T (has_vertex next x)
  next_in x none w =
      let o = onward w in
      e.gained x
      (record {
        next = o.next;
        passes = s.level_in o.next (record { walk = o.rest; least = least o.next o.link });
        link = o.link;
      })
    where
      least : (b : ℕ) → T (linked r b x) → (m : ℕ) → Walk r to m b → far ≤ m
      least b l m v = at_least far m (λ h. none (suc m) (omega arith) (omega arith) (Walk.step l v))

  -- a vertex that was not seen, with a walk of at most one step more
  fresh_in : (x n : ℕ) → (T (has_vertex seen x) → ⊥) → n ≤ suc far → Walk r to n x → T (has_vertex next x)
  fresh_in x n q h w = by (dec_le n far)
    where
      by : Dec (n ≤ far) → T (has_vertex next x)
      by (yes l) = absurd (q (s.seen_in x n l w))
      by (no l) =
          next_in x (λ m p k v. q (s.seen_in x m k v)) (subst (λ (k : ℕ). Walk r to k x) {x = n} {y = suc far} (omega arith) w)

  noted-next : far < 1024 → Distances r to (suc far) steps'
  noted-next small =
      record {
        sound = λ a n h q. sound a n h (has_vertex level a) refl q;
        complete = λ a n h d. complete a n h d (has_vertex level a) refl;
      }
    where
      now : (a : ℕ) (b : Bool) → has_vertex level a ≡ b → get_or steps' a 1024 ≡ cond b far (get_or steps a 1024)
      now a b p = e.noted a ∙ ap (λ (b : Bool). cond b far (get_or steps a 1024)) p

      sound : (a n : ℕ) → n < suc far → (b : Bool) → has_vertex level a ≡ b → get_or steps' a 1024 ≡ n → Distance r to n a
      sound a n h true p q = subst (λ (k : ℕ). Distance r to k a) (sym (now a true p) ∙ q) (s.level_of a (to_T (has_vertex level a) p))
      sound a n h false p q = ⊎_elim (λ l. s.noted.sound a n (omega (arith, was)) was) (λ l. absurd (omega (arith, was))) (s.held a)
        where
          was : get_or steps a 1024 ≡ n
          was = sym (now a false p) ∙ q

      complete : (a n : ℕ) → n < suc far → Distance r to n a → (b : Bool) → has_vertex level a ≡ b → get_or steps' a 1024 ≡ n
      complete a n h d true p = now a true p ∙ distance_one (s.level_of a (to_T (has_vertex level a) p)) d
      complete a n h d false p = now a false p ∙ s.noted.complete a n (at_least (suc n) far late) d
        where
          late : far < suc n → ⊥
          late l = subst T p (s.level_in a (subst (λ (k : ℕ). Distance r to k a) {x = n} {y = far} (omega arith) d))

  held_next : (x : ℕ) → (get_or steps' x 1024 < suc far) ⊎ (get_or steps' x 1024 ≡ 1024)
  held_next x = by (has_vertex level x) (e.noted x)
    where
      by : (b : Bool) → get_or steps' x 1024 ≡ cond b far (get_or steps x 1024) → (get_or steps' x 1024 < suc far) ⊎
          (get_or steps' x 1024 ≡ 1024)
      by true q = inl (omega arith)
      by false q = ⊎_elim (λ l. inl (omega arith)) (λ l. inr (q ∙ l)) (s.held x)

  -- the next set has the searched vertex
  pub found : {n bound : ℕ} → n ≡ suc far → n < bound → far < 1024 → T (has_vertex next to) → ShortestOf r to bound steps' (Some n)
  found {n} {bound} q h small t = (h, subst (λ (L : ℕ). Closed r to L steps') (sym q) closed)
    where
      closed : Closed r to (suc far) steps'
      closed = record {
        positive = omega arith;
        walk = next-walk to t;
        least = λ n p w. at_least (suc far) n (λ l. s.unclosed n p (omega arith) w);
        distances = noted-next small;
      }

  -- it has not
  module _ (out : T (has_vertex next to) → ⊥) where
    still_open : (n : ℕ) → 0 < n → n ≤ suc far → Walk r to n to → ⊥
    still_open n p h w = by (dec_le n far)
      where
        by : Dec (n ≤ far) → ⊥
        by (yes l) = s.unclosed n p l w
        by (no l) = out (next_in to s.unclosed (subst (λ (k : ℕ). Walk r to k to) {x = n} {y = suc far} (omega arith) w))

    -- all of the next set was seen
    exhausted : {bound : ℕ} → ((x : ℕ) → T (has_vertex next x) → T (has_vertex seen x)) → ShortestOf r to bound steps' None
    exhausted {bound} all n p w = absurd (never n p w)
      where
        next-seen : (x n : ℕ) → n ≤ suc far → Walk r to n x → T (has_vertex seen x)
        next-seen x n h w = by_test (has_vertex seen x) T (λ t. tt) (λ q. q (all x (fresh_in x n q h w)))

        every : {n x : ℕ} → Walk r to n x → T (has_vertex seen x)
        every Walk.stay = s.seen_in to 0 (omega arith) Walk.stay
        every (Walk.step {a = a} {b = b} l w) =
            let near = s.seen_of b (every w) in
            next-seen a (suc near.steps) (omega (arith, near.short)) (Walk.step l near.walk)

        never : (n : ℕ) → 0 < n → Walk r to n to → ⊥
        never zero p w = omega arith
        never (suc n) p w =
            let o = onward w in
            let near = s.seen_of o.next (every o.rest) in
            still_open (suc near.steps) (omega arith) (omega (arith, near.short)) (Walk.step o.link near.walk)

    -- The new level and what is seen then. The first words have all vertices.
    module _ {words : ℕ} {level' seen' : List ℕ} {any : Bool} (h : Rows r words) (below : to < 64 * words)
        (p : Parted words next level seen level' seen' any) where
      covered : (x n : ℕ) → Walk r to n x → x < 64 * words
      covered x n w = walk_covered h below w

      -- past the first words there is nothing
      level_covered : (x : ℕ) → T (has_vertex level' x) → x < 64 * words
      level_covered x t =
          at_least (suc x) (64 * words)
          (λ l. omega (arith, covered x far (s.level_of x (subst T (p.level_rest x (omega arith)) t)).walk))

      seen_covered : (x : ℕ) → T (has_vertex seen' x) → x < 64 * words
      seen_covered x t =
          at_least (suc x) (64 * words)
          (λ l. let near = s.seen_of x (subst T (p.seen_rest x (omega arith)) t) in omega (arith, covered x near.steps near.walk))

      -- what was not seen is in the new level
      level_put : (x : ℕ) → T (has_vertex next x) → (T (has_vertex seen x) → ⊥) → T (has_vertex level' x)
      level_put x t q =
          subst T (sym (p.level_is x (covered x (suc far) (next-walk x t))))
          (and_both (has_vertex next x) (not (has_vertex seen x)) t (not_T (has_vertex seen x) q))

      pub search-next : {n : ℕ} → n ≡ suc far → far < 1024 → Search r to n level' seen' steps'
      search-next q small =
          subst (λ (n : ℕ). Search r to n level' seen' steps') (sym q)
          (record {
            level_of = level_of;
            level_in = level_in;
            seen_of = seen_of;
            seen_in = seen_in;
            unclosed = still_open;
            held = held_next;
            noted = noted-next small;
            long_level = p.long_level;
            long_seen = p.long_seen;
            long_steps = e.long;
          })
        where
          level_of : (x : ℕ) → T (has_vertex level' x) → Distance r to (suc far) x
          level_of x t =
              let both = subst T (p.level_is x (level_covered x t)) t in
              let unseen = and_right (has_vertex next x) (not (has_vertex seen x)) both in
              record {
                walk = next-walk x (and_left (has_vertex next x) (not (has_vertex seen x)) both);
                least = λ m w. at_least (suc far) m (λ l. T_not (has_vertex seen x) unseen (s.seen_in x m (omega arith) w));
              }

          level_in : (x : ℕ) → Distance r to (suc far) x → T (has_vertex level' x)
          level_in x d = level_put x (fresh_in x (suc far) unseen (omega arith) d.walk) unseen
            where
              unseen : T (has_vertex seen x) → ⊥
              unseen t = let near = s.seen_of x t in omega (arith, near.short, d.least near.steps near.walk)

          seen_of : (x : ℕ) → T (has_vertex seen' x) → Near r to (suc far) x
          seen_of x t =
              ⊎_elim
              (λ q. let near = s.seen_of x q in record { steps = near.steps; short = omega (arith, near.short); walk = near.walk })
              (λ q. record { steps = suc far; short = omega arith; walk = next-walk x q })
              (or_cases (has_vertex seen x) (has_vertex next x) (subst T (p.seen_is x (seen_covered x t)) t))

          seen_in : (x n : ℕ) → n ≤ suc far → Walk r to n x → T (has_vertex seen' x)
          seen_in x n l w =
              subst T (sym (p.seen_is x (covered x n w)))
              (by_test (has_vertex seen x) (λ b. T (b || has_vertex next x)) (λ t. tt) (λ q. fresh_in x n q l w))

      -- the new level is empty
      all_seen : any ≡ false → (x : ℕ) → T (has_vertex next x) → T (has_vertex seen x)
      all_seen z x t =
          by_test (has_vertex seen x) T (λ q. tt) (λ q. p.nothing z x (covered x (suc far) (next-walk x t)) (level_put x t q))

      pub ends : {bound : ℕ} → any ≡ false → ShortestOf r to bound steps' None
      ends z = exhausted (all_seen z)
