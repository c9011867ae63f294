-- The lasso of a walk to an accepting cycle makes the formula true. At each position stands the saturated set of its transition; these
-- sets are consistent in the sense of Refutation, so if subformula 0 were false at position 0, some least fixpoint m would come back to
-- itself at a position, by moves that pass no smaller number. Within one lap moves come to an end, so that path crosses from the last
-- position to the first of the cycle; turned to begin there, it is one or more laps with priority m, and the cycle is rejecting.
-- Assumes nothing.
use mathlib.Core.Path.{◌≡◌, refl, sym, ap, ◌∙◌, subst, subst⁻¹}
use mathlib.Core.Bool.{Bool, true, false, cond, true≢false}
use mathlib.Core.Logic.{◌⊎◌, inl, inr, ⊎_elim}
use mathlib.Core.List.{List, ◌∷◌, ◌++◌, map, Memᴰ}
use Prim.Native.Nat.{ℕ, suc, ◌≤◌, ◌<◌, min}
use native.Mathlib.Omega.{arith}
use lib.ListN.{length, drop, length-append, length-map}
use lib.Seq.{drop-cons, drop-append_seam, drop-length}
use lib.Dec.{T, ltb}
use borrow.Author.Tests.{ltb-true, ltb-false}
use Rattle.base.proofs.ListLaws.{get_d_map}
use Rattle.formula.specs.Table.{Operator, Table, operator, is_fix}
use Rattle.lasso.specs.Lasso.{Lasso}
use Rattle.tableau.specs.Saturation.{Subset, has, moves, saturate}
use Rattle.tableau.specs.Transition.{Transition, letter, next_of}
use Rattle.tableau.proofs.SaturationLaws.{saturate-length}
use Rattle.tableau.proofs.TransitionLaws.{asks, next_is, Facts, facts}
use Rattle.profile.specs.Cycle.{Rejecting}
use Rattle.profile.proofs.TraceLaws.{next-operand}
use Rattle.theory.proofs.Semantics.{LassoPositions, Part, holds, Move, Move.within, Move.across, Path, Path.here, Path.step}
use Rattle.theory.proofs.Refutation.{Consistent, Rejected, Escape, along, refutation}
use Rattle.theory.proofs.Agreement.{orbit}
use Rattle.theory.proofs.TreeLaws.{Lawful}
use Rattle.theory.proofs.Walks.{transition_at, no_transition, node_at, Walk, walk_step, walk_end, walk-join, walk_seam, walk-length}
use Rattle.theory.proofs.LapLaws.{own, own_le, Trail, trail_le, In, Trails, Trails.done, Trails.also}
use Rattle.theory.proofs.LapLaws.{Laps, cycle-triples, laps-lap}

-- the letters of a stem and a cycle
abbrev pub lasso_of : (stem cycle : List Transition) → Lasso
lasso_of stem cycle = record { letters = map letter (stem ++ cycle); stem = length stem }

pub stem_short : (stem : List Transition) (s : Transition) (ss : List Transition) → length stem < length (lasso_of stem (s ∷ ss)).letters
stem_short stem s ss = omega (arith, length-map (stem ++ (s ∷ ss)) letter, length-append stem (s ∷ ss))

module _ (t : Table) (law : Lawful t) (start hub : Subset) (fits : length start ≡ length t)
    (stem : List Transition) (s : Transition) (ss : List Transition) (lead : Walk t start stem hub) (circle : Walk t hub (s ∷ ss) hub)
    (first : T (has start 0))
    (accepts : Rejecting t (cycle-triples t law hub s ss) → ⊥) where
  abbrev all : List Transition
  all = stem ++ (s ∷ ss)

  abbrev c : LassoPositions
  c = orbit (lasso_of stem (s ∷ ss)) (stem_short stem s ss)

  abbrev total : ℕ
  total = c.count

  total_is : total ≡ length all
  total_is = length-map all letter

  abbrev node : ℕ → Subset
  node i = node_at start all i

  abbrev step-at : ℕ → Transition
  step-at i = transition_at all i

  abbrev ch : ℕ → ℕ → Bool
  ch x i = has (step-at i).choice x

  -- x is in the saturated set at position i
  record MetOn (x i : ℕ) : Type 0 where
    inside : i < total
    holds_it : T (has (saturate t (step-at i).choice (node i)) x)

  whole : Walk t start all hub
  whole = walk-join t lead circle

  node-length : (i : ℕ) → length (node i) ≡ length t
  node-length = walk-length t whole fits

  fact : (i : ℕ) → i < total → Facts t (node i) (step-at i)
  fact i h = facts t (node i) (node-length i) (step-at i) (walk_step t whole i (omega (arith, total_is))).0

  -- the successor of a position: the next one, or the first of the cycle
  data After (p : ℕ) : Type 0 where
    on : c.after p ≡ suc p → suc p < total → After p
    round : c.after p ≡ length stem → suc p ≡ total → After p

  after : (p : ℕ) → p < total → After p
  after p l = by (ltb (suc p) total) refl
    where
      by : (b : Bool) → ltb (suc p) total ≡ b → After p
      by true d = on (rw d refl) (ltb-true (suc p) total d)
      by false d = round (rw d refl) (omega (arith, ltb-false (suc p) total d))

  node-stem : node (length stem) ≡ hub
  node-stem = walk_seam t (s ∷ ss) lead

  node_suc : (p : ℕ) → p < total → node (suc p) ≡ (step-at p).to
  node_suc p h = (walk_step t whole p (omega (arith, total_is))).1

  -- the node at the successor is where the transition leads
  node-after : (p : ℕ) → p < total → node (c.after p) ≡ (step-at p).to
  node-after p h = by (after p h)
    where
      by : After p → node (c.after p) ≡ (step-at p).to
      by (on e l) = ap node e ∙ node_suc p h
      by (round e l) = ap node e ∙ node-stem ∙ sym (ap node (l ∙ total_is) ∙ walk_end t whole) ∙ node_suc p h

  follow : {x y i : ℕ} → MetOn x i → Memᴰ y (moves (operator t x) (ch x i)) → MetOn y i
  follow {x} {y} {i} h m =
      record {
        inside = h.inside;
        holds_it = (fact i h.inside).follows x y h.holds_it m
            (omega (arith, (law.inside x y (ch x i) m).1, saturate-length t (step-at i).choice (node i), node-length i));
      }

  next_in : {x y i : ℕ} → MetOn x i → Memᴰ y (next_of (operator t x)) → In t (node (c.after i)) y
  next_in {x} {y} {i} h m =
      let l = (law.next-inside x y m).1 in (
        subst⁻¹ (λ (v : Subset). T (has v y)) (node-after i h.inside)
            ((fact i h.inside).nexts x y h.holds_it (next_is (operator t x) y m) l),
        next-operand t x y m,
        l,
      )

  cross : {x y i : ℕ} → MetOn x i → Memᴰ y (next_of (operator t x)) → MetOn y (c.after i)
  cross {x} {y} {i} h m =
      let l = c.after_lt i h.inside in record { inside = l; holds_it = (fact (c.after i) l).enters y (next_in h m).0 }

  letter_at : (i : ℕ) → i < total → c.letter i ≡ letter (step-at i)
  letter_at i h = get_d_map letter all i no_transition 0 (omega (arith, total_is))

  consistent : Consistent t c ch MetOn
  consistent =
      record {
        inside = λ x p h. h.inside;
        fair = λ x p h. subst⁻¹ (λ (a : ℕ). T (asks (operator t x) a)) (letter_at p h.inside)
            ((fact p h.inside).allows x h.holds_it (law.signals x));
        goes = λ x p y q h m. goes h m;
      }
    where
      goes : {x p y q : ℕ} → MetOn x p → Move t c ch x p y q → MetOn y q
      goes {y = y} h (within m e) = subst⁻¹ (MetOn y) e (follow h m)
      goes {y = y} h (across m e) = subst⁻¹ (MetOn y) e (cross h m)

  -- From x at p along moves to the end of a lap: the operand g of a next at the last position. The priority is that of what is passed.
  data Line : ℕ → ℕ → ℕ → ℕ → Type 0 where
    end : {p x g : ℕ} → Memᴰ g (next_of (operator t x)) → suc p ≡ total → Line p x (length t) g
    next : {p x y u g : ℕ} → MetOn x p → Memᴰ y (next_of (operator t x)) → Line (c.after p) y u g → Line p x u g
    inner : {p x y u g : ℕ} → Memᴰ y (moves (operator t x) (ch x p)) → Line p y u g → Line p x (min (own t x) u) g

  -- Such a line, transition by transition: the rest of this one, the rest of the lap, and further laps.
  abbrev Rest : ℕ → ℕ → ℕ → ℕ → Type 0
  Rest i f u g = Trails t (node i) (drop i all) f u g

  data Parts : ℕ → ℕ → ℕ → ℕ → Type 0 where
    one : {p x y u v g : ℕ} → Trail t (step-at p).choice x u y → Rest (suc p) y v g → Parts p x (min u v) g
    more : {p x y a b g z h : ℕ} → Trail t (step-at p).choice x a y → Rest (suc p) y b g → Laps t law hub s ss g z h
        → Parts p x (min (min a b) z) h

  rest_also : (i : ℕ) {f g h a b : ℕ} → i < total → In t (node i) f → Trail t (step-at i).choice f a g → Rest (suc i) g b h
      → Rest i f (min a b) h
  rest_also i {f} {g} {h} {a} {b} l k tr r =
      subst⁻¹ (λ (ss : List Transition). Trails t (node i) ss f (min a b) h) (drop-cons all i no_transition (omega (arith, total_is)))
      (also k tr (subst (λ (v : Subset). Trails t v (drop (suc i) all) g b h) (node_suc i l) r))

  rest-done : (i f : ℕ) → i ≡ total → Rest i f (length t) f
  rest-done i f e =
      subst⁻¹ (λ (ss : List Transition). Trails t (node i) ss f (length t) f)
      (ap (λ (n : ℕ). drop n all) (e ∙ total_is) ∙ drop-length all) done

  lap_of : {f u g : ℕ} → Rest (length stem) f u g → Trails t hub (s ∷ ss) f u g
  lap_of {f} {u} {g} r =
      subst (λ (v : Subset). Trails t v (s ∷ ss) f u g) node-stem
      (subst (λ (ss : List Transition). Trails t (node (length stem)) ss f u g) (drop-append_seam stem (s ∷ ss)) r)

  laps_of : {f u g : ℕ} → In t (node (length stem)) f → Parts (length stem) f u g → Laps t law hub s ss f u g
  laps_of k (one tr r) = Laps.one (lap_of (rest_also (length stem) (stem_short stem s ss) k tr r))
  laps_of k (more tr r l) = Laps.more (lap_of (rest_also (length stem) (stem_short stem s ss) k tr r)) l

  parts_le : {p x u g : ℕ} → Parts p x u g → u ≤ own t x
  parts_le (one tr r) = omega (arith, trail_le t tr)
  parts_le (more tr r l) = omega (arith, trail_le t tr)

  parts_inner : {p x y u g : ℕ} → Memᴰ y (moves (operator t x) (ch x p)) → Parts p y u g → Parts p x (min (own t x) u) g
  parts_inner {p} {x} {g = g} m (one tr r) = subst (λ (n : ℕ). Parts p x n g) (omega arith) (one (Trail.move m tr) r)
  parts_inner {p} {x} {g = g} m (more tr r l) = subst (λ (n : ℕ). Parts p x n g) (omega arith) (more (Trail.move m tr) r l)

  parts_on : {p x y u g : ℕ} → Memᴰ y (next_of (operator t x)) → suc p < total → In t (node (suc p)) y → Parts (suc p) y u g
      → Parts p x u g
  parts_on {p} {x} {y} {g = g} m l k (one tr r) =
      subst (λ (n : ℕ). Parts p x n g) (omega (arith, trail_le t tr, own_le t y)) (one (Trail.last m) (rest_also (suc p) l k tr r))
  parts_on {p} {x} {y} {g = g} m l k (more tr r a) =
      subst (λ (n : ℕ). Parts p x n g) (omega (arith, trail_le t tr, own_le t y)) (more (Trail.last m) (rest_also (suc p) l k tr r) a)

  parts : {p x u g : ℕ} → Line p x u g → Parts p x u g
  parts {p} {x} {u} {g} (end m e) = subst (λ (n : ℕ). Parts p x n g) (omega arith) (one (Trail.last m) (rest-done (suc p) g e))
  parts (inner m a) = parts_inner m (parts a)
  parts {p} {x} {u} {g} (next {y = y} h m a) = by (after p h.inside) (parts a)
    where
      by : After p → Parts (c.after p) y u g → Parts p x u g
      by (on e l) z = parts_on m l (subst (λ (i : ℕ). In t (node i) y) e (next_in h m)) (subst (λ (i : ℕ). Parts i y u g) e z)
      by (round e l) z =
          subst (λ (n : ℕ). Parts p x n g) (omega (arith, parts_le z, own_le t y))
          (more (Trail.last m) (rest-done (suc p) y l)
          (laps_of (subst (λ (i : ℕ). In t (node i) y) e (next_in h m)) (subst (λ (i : ℕ). Parts i y u g) e z)))

  -- A path that comes to the end of a lap, cut there.
  record Cut (lo x p z k : ℕ) : Type 0 where
    x' : ℕ
    p' : ℕ
    g : ℕ
    before : Path t c ch lo x p x' p'
    is_next : Memᴰ g (next_of (operator t x'))
    last : suc p' ≡ total
    above : lo ≤ g
    rest : Path t c ch lo g (length stem) z k

  -- One that does not goes on to a later position, or to a smaller height at the same.
  abbrev Slow : ℕ → ℕ → ℕ → ℕ → Type 0
  Slow x p z k = (p < k) ⊎ ((p ≡ k) × (law.height z ≤ law.height x))

  longer : {lo x p y q z k : ℕ} → Move t c ch x p y q → lo ≤ y → Cut lo y q z k → Cut lo x p z k
  longer m l a =
      record {
        x' = a.x';
        p' = a.p';
        g = a.g;
        before = step m l a.before;
        is_next = a.is_next;
        last = a.last;
        above = a.above;
        rest = a.rest;
      }

  slow_within : {x p y q z k : ℕ} → Memᴰ y (moves (operator t x) (ch x p)) → q ≡ p → Slow y q z k → Slow x p z k
  slow_within m e (inl h) = inl (omega arith)
  slow_within {x} {p} {y} m e (inr h) = inr (omega arith, omega (arith, law.guarded x y (ch x p) m))

  slow_on : {x p y q z k : ℕ} → q ≡ suc p → Slow y q z k → Slow x p z k
  slow_on e (inl h) = inl (omega arith)
  slow_on e (inr h) = inl (omega arith)

  cut : {lo x p z k : ℕ} → MetOn x p → Path t c ch lo x p z k → Cut lo x p z k ⊎ Slow x p z k
  cut h here = inr (inr (refl, omega arith))
  cut {lo} {x} {p} {z} {k} h (step {y = y} {q = q} m b a) =
      ⊎_elim (λ r. inl (longer m b r)) (slow m (after p h.inside)) (cut (consistent.goes x p y q h m) a)
    where
      slow : Move t c ch x p y q → After p → Slow y q z k → Cut lo x p z k ⊎ Slow x p z k
      slow (within d e) o r = inr (slow_within d e r)
      slow (across d e) (on i l) r = inr (slow_on (e ∙ i) r)
      slow (across d e) (round i l) r =
          let onward = subst (λ (i : ℕ). Path t c ch lo y i z k) (e ∙ i) a in
          inl (record { x' = x; p' = p; g = y; before = here; is_next = d; last = l; above = b; rest = onward })

  own_above : (m x : ℕ) → m ≤ x → m ≤ length t → m ≤ own t x
  own_above m x h k = by (is_fix (operator t x))
    where
      by : (b : Bool) → m ≤ cond b x (length t)
      by true = h
      by false = k

  -- a path before a line
  module _ (lo : ℕ) (in_table : lo ≤ length t) (P : ℕ → Type 0) (keeps : (a u : ℕ) → lo ≤ a → P u → P (min a u)) where
    prepend : {x p z k u g : ℕ} → MetOn x p → lo ≤ x → Path t c ch lo x p z k → Line k z u g → P u → (v : ℕ) × Line p x v g × P v
    prepend {u = u} e h here a b = (u, a, b)
    prepend {x} {p} {z} {k} {u} {g} e h (step {y = y} {q = q} m b r) a d =
        go m (prepend {x = y} {p = q} (consistent.goes x p y q e m) b r a d)
      where
        go : Move t c ch x p y q → (v : ℕ) × Line q y v g × P v → (v : ℕ) × Line p x v g × P v
        go (within i j) f =
            let l = subst (λ (n : ℕ). Line n y f.0 g) j f.1 in
            (min (own t x) f.0, inner i l, keeps (own t x) f.0 (own_above lo x h in_table) f.2)
        go (across i j) f = (f.0, next e i (subst (λ (n : ℕ). Line n y f.0 g) j f.1), f.2)

  -- No least fixpoint m comes back to itself.
  module _ {m l j : ℕ} (is_least : operator t m ≡ Operator.fix false l) (under : m < l) (met : MetOn m j) where
    to-body : (a : Bool) → Memᴰ l (moves (operator t m) a)
    to-body a = subst⁻¹ (λ (o : Operator). Memᴰ l (moves o a)) is_least (Memᴰ.head refl)

    m_le : m ≤ length t
    m_le = omega (arith, law.inside m l true (to-body true))

    met-body : MetOn l j
    met-body = follow met (to-body (ch m j))

    -- from m to the end of the lap: nothing smaller than m is passed
    to_end : (a : Cut m l j m j) → Line j m m a.g
    to_end a = above (prepend m m_le (λ u. m ≤ u) (λ a u h k. omega arith) met-body (omega arith) a.before
        (end a.is_next a.last) m_le)
      where
        above : {g : ℕ} → (v : ℕ) × Line j l v g × (m ≤ v) → Line j m m g
        above {g} r =
            let o : own t m ≡ m = rw is_least refl in
            subst (λ (u : ℕ). Line j m u g) (omega (arith, r.2)) (inner (to-body (ch m j)) r.1)

    -- the whole path, turned to begin at the first position of the cycle
    turned : (a : Cut m l j m j) → MetOn a.g (length stem) → Line (length stem) a.g m a.g
    turned a h = same (prepend m m_le (λ u. u ≡ m) (λ a u h k. omega arith) h a.above a.rest (to_end a) refl)
      where
        same : {p x g : ℕ} → (v : ℕ) × Line p x v g × (v ≡ m) → Line p x m g
        same {p} {x} {g} r = subst (λ (u : ℕ). Line p x u g) r.2 r.1

    crosses : Cut m l j m j → ⊥
    crosses a =
        let met-x : MetOn a.x' a.p' = along t c ch MetOn consistent met-body a.before in
        let e : c.after a.p' ≡ length stem = ends a.last (after a.p' met-x.inside) in
        let in_g : In t (node (length stem)) a.g = subst (λ (i : ℕ). In t (node i) a.g) e (next_in met-x a.is_next) in
        accepts
        (record {
          triple = record { from = a.g; priority = m; to = a.g };
          lap = laps-lap t law hub s ss (laps_of in_g (parts (turned a (subst (MetOn a.g) e (cross met-x a.is_next)))));
          back = refl;
          least = rw is_least tt;
        })
      where
        ends : {p : ℕ} → suc p ≡ total → After p → c.after p ≡ length stem
        ends l (on e i) = absurd (omega arith)
        ends l (round e i) = e

    never_back : Path t c ch m l j m j → ⊥
    never_back w = ⊎_elim crosses stays (cut met-body w)
      where
        stays : Slow l j m j → ⊥
        stays (inl d) = omega arith
        stays (inr d) = omega (arith, law.guarded m l true (to-body true))

  pub cycle-holds : (a : Part t 0) → holds t c a (λ m p. true) 0 ≡ true
  cycle-holds a = by (holds t c a (λ m p. true) 0) refl
    where
      begins : MetOn 0 0
      begins = let l : 0 < total = omega (arith, (stem_short stem s ss)) in record { inside = l; holds_it = (fact 0 l).enters 0 first }

      by : (b : Bool) → holds t c a (λ m p. true) 0 ≡ b → b ≡ true
      by true e = refl
      by false e =
          absurd
          (⊎_elim (λ (x : Escape t c ch MetOn 0 (λ m p. true) 0). true≢false x.fails)
          (λ (x : Rejected t c ch MetOn). never_back x.is_least x.under x.is-met x.around)
          (refutation t c ch MetOn consistent a (λ m p. true) 0 begins e))
