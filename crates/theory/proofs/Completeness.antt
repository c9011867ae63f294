-- A lasso over the alphabet that meets the formula gives an accepting cycle. A strategy for the formula picks a transition at each
-- position of the lasso, from the root on: the nodes stay inside its region, so the lasso's letter, which is in the alphabet, allows the
-- transition, which therefore exists. There are finitely many pairs of a node and a position, so one comes again: a cycle of transitions.
-- Its traces are moves of the strategy; a lap back to its beginning with the priority of a least fixpoint would be a path on which that
-- fixpoint comes back to itself, and the strategy has none. Assumes nothing.
use mathlib.Core.Path.{◌≡◌, refl, sym, ap, ◌∙◌, subst, subst⁻¹}
use mathlib.Core.Bool.{Bool, true, false, cond, false≢true}
use mathlib.Core.Logic.{inl, inr, ⊎_elim}
use mathlib.Core.List.{List, [], ◌∷◌, ◌++◌, map, Memᴰ}
use Prim.Native.Nat.{ℕ, zero, suc, ◌+◌, ◌*◌, ◌^◌, ◌≤◌, ◌<◌, min}
use native.Mathlib.Omega.{arith}
use native.Mathlib.Decide.{dec_le, dec_lt, ℕ_discrete}
use native.Mathlib.Nat.{mul-le-mul_right}
use lib.ListN.{length, length-map}
use lib.Dec.{T}
use Rattle.base.specs.Lists.{range}
use Rattle.base.specs.Bits.{word}
use Rattle.base.proofs.BoolLaws.{of_T, to_T}
use Rattle.base.proofs.ListLaws.{get_d_map, getD_range, length-range}
use Rattle.base.proofs.WordLaws.{word_lt, word_inj}
use Rattle.letters.specs.Alphabet.{in_alphabet}
use Rattle.formula.specs.Table.{Operator, Table, operator, is_fix}
use Rattle.tableau.specs.Saturation.{Subset, has, nothing, moves, saturate}
use Rattle.tableau.specs.Transition.{Transition, transitions, next_of}
use Rattle.tableau.specs.Nodes.{root}
use Rattle.tableau.proofs.SaturationLaws.{inside-has, inside_by, has_lt, nothing-has, set_of, saturate-length}
use Rattle.tableau.proofs.TransitionLaws.{Facts, facts}
use Rattle.tableau.proofs.ChoiceLaws.{chosen, chosen-moves, chosen-inside, chosen_in}
use Rattle.tableau.proofs.NodeLaws.{at-root, by_transition, root-length}
use Rattle.profile.specs.Traces.{Triple, TraceState, triples, join}
use Rattle.profile.specs.Profiles.{is_least}
use Rattle.tableau.specs.Run.{Reachable}
use Rattle.profile.specs.Cycle.{Lap, Rejecting, Run, AcceptingCycle}
use Rattle.profile.proofs.TripleLaws.{join_of}
use Rattle.profile.proofs.TraceLaws.{Goes, triples_trace}
use Rattle.theory.proofs.Semantics.{LassoPositions, Part, holds, Move, Move.within, Move.across, Path, Path.here, Path.step}
use Rattle.theory.proofs.Pigeon.{Twice, pigeon}
use Rattle.theory.proofs.Strategy.{Strategy, win, move_lt, body-only}
use Rattle.theory.proofs.TreeLaws.{Lawful}
use Rattle.theory.proofs.LapLaws.{own, stand_priority}

-- pairs of a number below k and one below n as numbers
pair_lt : (n k e p : ℕ) → p < n → e < k → e * n + p < k * n
pair_lt n k e p h l = omega (arith, mul-le-mul_right n l)

pair_inj : (n e e' p p' : ℕ) → p < n → p' < n → e * n + p ≡ e' * n + p' → (e ≡ e') × (p ≡ p')
pair_inj n e e' p p' h h' q = by (dec_lt e e') (dec_lt e' e)
  where
    by : Dec (e < e') → Dec (e' < e) → (e ≡ e') × (p ≡ p')
    by (yes d) g = absurd (omega (arith, mul-le-mul_right n d))
    by (no d) (yes g) = absurd (omega (arith, mul-le-mul_right n g))
    by (no d) (no g) = let z : e ≡ e' = omega arith in (z, omega (arith, ap (λ (i : ℕ). i * n) z))

-- the subset of a function
subset_by : ℕ → (ℕ → Bool) → Subset
subset_by n f = map f (range 0 n)

subset_by_length : (n : ℕ) (f : ℕ → Bool) → length (subset_by n f) ≡ n
unfolding subset_by
subset_by_length n f = length-map (range 0 n) f ∙ length-range 0 n

subset_by_has : (n : ℕ) (f : ℕ → Bool) (i : ℕ) → i < n → has (subset_by n f) i ≡ f i
unfolding subset_by
subset_by_has n f i h = get_d_map f (range 0 n) i 0 false (omega (arith, length-range 0 n)) ∙ ap f (getD_range 0 n i 0 h ∙ omega arith)

least-is : (o : Operator) → T (is_least o) → (l : ℕ) × (o ≡ Operator.fix false l)
least-is (Operator.leaf l) h = absurd h
least-is (Operator.variable m) h = absurd h
least-is (Operator.pair o l r) h = absurd h
least-is (Operator.next l) h = absurd h
least-is (Operator.fix true l) h = absurd h
least-is (Operator.fix false l) h = (l, refl)

module _ (t : Table) (law : Lawful t) (c : LassoPositions) where
  module _ (ch : ℕ → ℕ → Bool) where
    -- moves from subformulas that are no fixpoint below m
    data Way (m : ℕ) : ℕ → ℕ → ℕ → ℕ → Type 0 where
      stay : {x p : ℕ} → Way m x p x p
      move : {x p y q z r : ℕ} → Move t c ch x p y q → m ≤ own t x → Way m y q z r → Way m x p z r

    way-join : {m x p y q z r : ℕ} → Way m x p y q → Way m y q z r → Way m x p z r
    way-join stay b = b
    way-join (move d h a) b = move d h (way-join a b)

    -- one that passes m itself
    record Through (m x p y q : ℕ) : Type 0 where
      at : ℕ
      z : ℕ
      k : ℕ
      before : Way m x p m at
      turn : Move t c ch m at z k
      after : Way m z k y q

    -- moves of priority u
    record Carries (x p u y q : ℕ) : Type 0 where
      heavy : (m : ℕ) → m ≤ u → Way m x p y q
      exact : (m : ℕ) → u ≡ m → m < length t → Through m x p y q

    carries_none : {x p : ℕ} → Carries x p (length t) x p
    carries_none = record { heavy = λ m h. stay; exact = λ m e h. absurd (omega arith) }

    own_is : (m x : ℕ) → own t x ≡ m → m < length t → x ≡ m
    own_is m x e h = by (is_fix (operator t x)) e
      where
        by : (b : Bool) → cond b x (length t) ≡ m → x ≡ m
        by true d = d
        by false d = absurd (omega arith)

    carries_move : {x p y q : ℕ} → Move t c ch x p y q → Carries x p (own t x) y q
    carries_move {x} {p} {y} {q} d =
        record {
          heavy = λ m h. move d h stay;
          exact = λ m e h.
              let z = own_is m x e h in
              record {
                at = p;
                z = y;
                k = q;
                before = subst (λ (i : ℕ). Way m x p i p) z stay;
                turn = subst (λ (i : ℕ). Move t c ch i p y q) z d;
                after = stay;
              };
        }

    carries_join : {x p y q z r u v : ℕ} → Carries x p u y q → Carries y q v z r → Carries x p (min u v) z r
    carries_join {x} {p} {y} {q} {z} {r} {u} {v} a b =
        record { heavy = λ m h. way-join (a.heavy m (omega arith)) (b.heavy m (omega arith)); exact = λ m e h. by m e h (dec_le u v) }
      where
        by : (m : ℕ) → min u v ≡ m → m < length t → Dec (u ≤ v) → Through m x p z r
        by m e h (yes d) =
            let s = a.exact m (omega arith) h in
            record {
              at = s.at;
              z = s.z;
              k = s.k;
              before = s.before;
              turn = s.turn;
              after = way-join s.after (b.heavy m (omega arith));
            }
        by m e h (no d) =
            let s = b.exact m (omega arith) h in
            record {
              at = s.at;
              z = s.z;
              k = s.k;
              before = way-join (a.heavy m (omega arith)) s.before;
              turn = s.turn;
              after = s.after;
            }

    -- Between numbers of at least m such a way never comes below m: operands come later, and variables lead to fixpoints.
    first_ok : {m y q z r : ℕ} → Way m y q z r → m ≤ z → T (is_fix (operator t y)) → m ≤ y
    first_ok stay h e = h
    first_ok {m} {y} (move d k a) h e = subst (λ (b : Bool). m ≤ cond b y (length t)) (of_T (is_fix (operator t y)) e) k

    lands : {m x p y q z r : ℕ} → m ≤ x → m ≤ z → Move t c ch x p y q → Way m y q z r → m ≤ y
    lands {x = x} {p} {y} h k (within d e) a =
        ⊎_elim (λ (f : x < y). omega arith) (λ (f : (operator t x ≡ Operator.variable y) × T (is_fix (operator t y))). first_ok a k f.1)
        (law.ordered x y (ch x p) d)
    lands {x = x} {y = y} h k (across d e) a = omega (arith, law.next-inside x y d)

    path_of : {m x p z r : ℕ} → Way m x p z r → m ≤ x → m ≤ z → Path t c ch m x p z r
    path_of stay h k = here
    path_of (move d g a) h k = let b = lands h k d a in step d b (path_of a b k)

  module _ (such : (p : ℕ) → p < c.count → T (in_alphabet (c.letter p)))
      (s : Strategy t c 0 (λ y q. false ≡ true)) (some : 0 < c.count) (begins : s.won 0 0 ≡ true) where
    abbrev ch : ℕ → ℕ → Bool
    ch = s.ch

    goes : {x p y q : ℕ} → p < c.count → s.won x p ≡ true → Move t c ch x p y q → s.won y q ≡ true
    goes {x} {p} {y} {q} l v m = ⊎_elim (λ (a : s.won y q ≡ true). a) (λ (o : false ≡ true). absurd (false≢true o)) (s.goes x p y q l v m)

    -- The positions that the lasso comes by, the nodes and the transitions between them.
    position : ℕ → ℕ
    position zero = zero
    position (suc i) = c.after (position i)

    position_lt : (i : ℕ) → position i < c.count
    unfolding position
    position_lt zero = some
    position_lt (suc i) = c.after_lt (position i) (position_lt i)

    node : ℕ → Subset
    node zero = root t
    node (suc i) = (chosen t (node i) (λ e. ch e (position i))).to

    abbrev turn : ℕ → Transition
    turn i = chosen t (node i) (λ e. ch e (position i))

    abbrev set : ℕ → Subset
    set i = saturate t (turn i).choice (node i)

    -- what is known of a node, before its transition is known to exist
    record Right (i : ℕ) : Type 0 where
      long : length (node i) ≡ length t
      won : (x : ℕ) → T (has (node i) x) → s.won x (position i) ≡ true

    module _ (i : ℕ) (h : Right i) where
      -- the saturated set is won
      set_won : (x : ℕ) → T (has (set i) x) → s.won x (position i) ≡ true
      set_won x k =
          of_won x
          (inside-has
          (chosen-inside t (node i) h.long (λ e. ch e (position i))
          (inside_by (node i) u (h.long ∙ sym u_length) (λ e a. in_won e (omega (arith, has_lt (node i) e a, h.long)) (h.won e a)))
          (λ e m a r l. in_won m (omega (arith, u_length)) (goes (position_lt i) (of_won e a) (within r refl))))
          x k)
        where
          u : Subset
          u = subset_by (length t) (λ x. s.won x (position i))

          u_length : length u ≡ length t
          u_length = subset_by_length (length t) (λ x. s.won x (position i))

          of_won : (x : ℕ) → T (has u x) → s.won x (position i) ≡ true
          of_won x a =
              sym (subset_by_has (length t) (λ x. s.won x (position i)) x (omega (arith, has_lt u x a, u_length))) ∙ of_T (has u x) a

          in_won : (x : ℕ) → x < length t → s.won x (position i) ≡ true → T (has u x)
          in_won x l e = to_T (has u x) (subset_by_has (length t) (λ x. s.won x (position i)) x l ∙ e)

      turn_in : Memᴰ (turn i) (transitions t (node i))
      turn_in =
          chosen_in t (node i) h.long (λ e. ch e (position i)) (c.letter (position i)) (such (position i) (position_lt i))
          (λ e k. s.fair e (position i) (position_lt i) (set_won e k))

      turn_facts : Facts t (node i) (turn i)
      turn_facts = facts t (node i) h.long (turn i) turn_in

      next_won : (y : ℕ) → T (has (turn i).to y) → s.won y (c.after (position i)) ≡ true
      next_won y k =
          let z = turn_facts.from_next y k in
          goes (position_lt i) (set_won z.0 z.1)
          (across (subst⁻¹ (λ (o : Operator). Memᴰ y (next_of o)) z.2 (mathlib.Core.List.Memᴰ.head refl)) refl)

    right : (i : ℕ) → Right i
    unfolding node position
    right zero =
        record {
          long = root-length t;
          won = λ x h.
              ⊎_elim (λ (d : (x ≡ 0) × (0 < length (nothing t))). subst⁻¹ (λ (k : ℕ). s.won k 0 ≡ true) d.0 begins)
              (λ (d : T (has (nothing t) x)). absurd (nothing-has t x d)) (set_of (nothing t) 0 x h);
        }
    right (suc i) = record { long = (turn_facts i (right i)).long; won = next_won i (right i) }

    reached : (i : ℕ) → Reachable t (node i)
    unfolding node
    reached zero = at-root t
    reached (suc i) = by_transition (reached i) (turn_in i (right i))

    -- A trace of a transition as moves on the lasso.
    record Stood (i f : ℕ) (z : TraceState) : Type 0 where
      u : ℕ
      carries : Carries ch f (position i) u z.subformula (position i)
      weighs : z.priority ≡ min u (own t z.subformula)
      light : u ≤ length t
      inside : T (has (set i) z.subformula)

    stood : (i : ℕ) {f : ℕ} {z : TraceState} → T (has (set i) f) → Goes t (turn i).choice f z → Stood i f z
    stood i {f} h Goes.begin =
        record {
          u = length t;
          carries = carries_none ch;
          weighs = stand_priority t (length t) f (omega arith);
          light = omega arith;
          inside = h;
        }
    stood i {f} h (Goes.move {s = z} {m = m} a k) =
        let r = stood i h a in
        let x = z.subformula in
        let d : Memᴰ m (moves (operator t x) (ch x (position i))) =
        subst (Memᴰ m) (chosen-moves t (node i) (right i).long (λ e. ch e (position i)) x r.inside) k in
        record {
          u = z.priority;
          carries = subst⁻¹ (λ (n : ℕ). Carries ch f (position i) n m (position i)) r.weighs
              (carries_join ch r.carries (carries_move ch (within d refl)));
          weighs = stand_priority t z.priority m (omega (arith, r.weighs, r.light));
          light = omega (arith, r.weighs, r.light);
          inside = (turn_facts i (right i)).follows x m r.inside k
              (omega (arith, (law.inside x m (has (turn i).choice x) k).1, saturate-length t (turn i).choice (node i), (right i).long));
        }

    triple_carries : (i : ℕ) (a : Triple) → Memᴰ a (triples t (node i) (turn i).choice)
        → Carries ch a.from (position i) a.priority a.to (position (suc i)) × T (has (node i) a.from)
    unfolding position
    triple_carries i a m =
        let (h, tr) = triples_trace t (node i) (turn i).choice a m in
        let r = stood i ((turn_facts i (right i)).enters a.from h) tr.goes in (
          subst⁻¹ (λ (n : ℕ). Carries ch a.from (position i) n a.to (c.after (position i))) (tr.carries ∙ r.weighs)
              (carries_join ch r.carries (carries_move ch (across tr.ends_at refl))),
          h,
        )

    -- The run from node a to node b, and what its triples carry.
    module _ (a : ℕ) where
      -- the triple is moves of the strategy, from a subformula of node a
      abbrev Carried : ℕ → Triple → Type 0
      Carried b z = Carries ch z.from (position a) z.priority z.to (position b) × T (has (node a) z.from)

      record Trip (b : ℕ) : Type 0 where
        xs : List Triple
        way : List Transition
        run : Run t (record { first = node a; last = node b; triple_set = xs }) way
        carries : (z : Triple) → Memᴰ z xs → Carried b z

      trip_one : Trip (suc a)
      unfolding node
      trip_one =
          record {
            xs = triples t (node a) (turn a).choice;
            way = turn a ∷ [];
            run = Run.one (turn_in a (right a));
            carries = triple_carries a;
          }

      trip_more : (b : ℕ) → Trip b → Trip (suc b)
      unfolding node
      trip_more b r =
          record {
            xs = join t r.xs (triples t (node b) (turn b).choice);
            way = r.way ++ (turn b ∷ []);
            run = Run.more r.run (turn_in b (right b));
            carries = λ z m.
                let j = join_of t r.xs (triples t (node b) (turn b).choice) z m in
                let y = j.right in
                let (u, v) = r.carries j.left j.left_in in
                let o = (triple_carries b y j.right_in).0 in
                let o' = subst⁻¹ (λ (g : ℕ). Carries ch g (position b) y.priority y.to (position (suc b))) j.meets o in
                subst⁻¹ (Carried (suc b)) j.is (carries_join ch u o', v);
          }

      trip : (b : ℕ) → a < b → Trip b
      trip zero h = absurd (omega arith)
      trip (suc b) h = by (ℕ_discrete a b) (trip b)
        where
          by : Dec (a ≡ b) → (a < b → Trip b) → Trip (suc b)
          by (yes e) f = subst (λ (k : ℕ). Trip (suc k)) e trip_one
          by (no d) f = trip_more b (f (omega arith))

      way_won : {m x p y q : ℕ} → p < c.count → s.won x p ≡ true → Way ch m x p y q → (q < c.count) × (s.won y q ≡ true)
      way_won l v stay = (l, v)
      way_won l v (move d h k) = way_won (move_lt t c l d) (goes l v d) k

      module _ (b : ℕ) (back : position b ≡ position a) (r : Trip b) where
        lap_carries : (z : Triple) → Lap r.xs z → Carried a z
        lap_carries z (Lap.once m) =
            subst (λ (k : ℕ). Carries ch z.from (position a) z.priority z.to k × T (has (node a) z.from)) back (r.carries z m)
        lap_carries z (Lap.again {a = x} {b = y} l m e) =
            let (u, v) = lap_carries x l in
            let o = subst (λ (k : ℕ). Carries ch y.from (position a) y.priority y.to k) back (r.carries y m).0 in
            (carries_join ch u (subst⁻¹ (λ (g : ℕ). Carries ch g (position a) y.priority y.to (position a)) e o), v)

        -- a lap from f back to f through the least fixpoint m, turned to begin at m
        comes_back : (m l f : ℕ) → operator t m ≡ Operator.fix false l → m < l → T (has (node a) f)
            → Through ch m f (position a) f (position a) → ⊥
        comes_back m l f e under h g =
            let k = way_won (position_lt a) ((right a).won f h) g.before in
            let d = body-only t c e g.turn in
            let round : Way ch m g.z g.k m g.at = way-join ch g.after g.before in
            s.good m l g.at k.0 e under k.1 (path_of ch (onto d.0 d.1 round) (omega arith) (omega arith))
          where
            onto : {z k q : ℕ} → z ≡ l → k ≡ q → Way ch m z k m q → Way ch m l q m q
            onto {z} {k} {q} i j w = subst (λ (n : ℕ). Way ch m l n m q) j (subst (λ (n : ℕ). Way ch m n k m q) i w)

        not_rejecting : Rejecting t r.xs → ⊥
        not_rejecting j =
            let z = j.triple in
            let (l, e) = least-is (operator t z.priority) j.least in
            let o : Memᴰ l (moves (operator t z.priority) true) =
            subst⁻¹ (λ (q : Operator). Memᴰ l (moves q true)) e (mathlib.Core.List.Memᴰ.head refl) in
            let (u, v) = lap_carries z j.lap in
            let g = u.exact z.priority refl (law.inside z.priority l true o).0 in
            comes_back z.priority l z.from e (under z.priority l e o) v
            (subst⁻¹ (λ (i : ℕ). Through ch z.priority z.from (position a) i (position a)) j.back g)
          where
            under : (m l : ℕ) → operator t m ≡ Operator.fix false l → Memᴰ l (moves (operator t m) true) → m < l
            under m l e o =
                elim (law.ordered m l true o) [ inl i ↦ i | inr i ↦ absurd (no-variable (sym e ∙ i.0)) ]
              where
                no-variable : Operator.fix false l ≡ Operator.variable l → ⊥
                no-variable e = let z : ◌≡◌ {A = ℕ} 0 1 = cc in omega arith

    -- A node comes again at the same position.
    code : ℕ → ℕ
    code i = word (node i) * c.count + position i

    abbrev bound : ℕ
    bound = 2 ^ length t * c.count

    code_lt : (i : ℕ) → code i < bound
    unfolding code
    code_lt i =
        pair_lt c.count (2 ^ length t) (word (node i)) (position i) (position_lt i)
        (subst (λ (n : ℕ). word (node i) < 2 ^ n) (right i).long (word_lt (node i)))

    abbrev twice : Twice bound code
    twice = pigeon bound code (λ i h. code_lt i)

    again : (word (node twice.a) ≡ word (node twice.b)) × (position twice.a ≡ position twice.b)
    unfolding code
    again = pair_inj c.count _ _ _ _ (position_lt twice.a) (position_lt twice.b) twice.same

    node-same : node twice.a ≡ node twice.b
    node-same = word_inj (node twice.a) (node twice.b) ((right twice.a).long ∙ sym (right twice.b).long) again.0

    found : (v : Subset) × (ss : List Transition) × AcceptingCycle t v ss
    found =
        let r = trip twice.a twice.b twice.before in (
          node twice.a,
          r.way,
          record {
            reachable = reached twice.a;
            triple_set = r.xs;
            run = subst⁻¹ (λ (v : Subset). Run t (record { first = node twice.a; last = v; triple_set = r.xs }) r.way) node-same
                r.run;
            accepts = not_rejecting twice.a twice.b (sym again.1) r;
          },
        )

  pub cycle-found : ((p : ℕ) → p < c.count → T (in_alphabet (c.letter p))) → (a : Part t 0) → 0 < c.count
      → holds t c a (λ m p. false) 0 ≡ true → (v : Subset) × (ss : List Transition) × AcceptingCycle t v ss
  cycle-found such a some h =
      let v = win t c a (λ m p. false) (λ y q e. absurd (false≢true e)) in
      found such v.plan some (v.root 0 some h)
