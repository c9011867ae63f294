-- What a cycle of transitions carries. A run's triples are the traces over its transitions; moves along the cycle that come back with
-- the priority of a least fixpoint, after any number of laps, are a lap of these triples, so that the cycle is rejecting. Assumes nothing.
use mathlib.Core.Path.{◌≡◌, refl, subst, subst⁻¹}
use mathlib.Core.Bool.{Bool, true, false, cond}
use mathlib.Core.List.Memᴰ
use mathlib.Core.List.{List, [], ◌∷◌, Memᴰ}
use Prim.Native.Nat.{ℕ, ◌≤◌, ◌<◌, min}
use native.Mathlib.Omega.{arith}
use lib.ListN.{length}
use lib.Dec.{T}
use Rattle.formula.specs.Table.{Operator, Table, operator, is_fix}
use Rattle.tableau.specs.Saturation.{Subset, has, moves}
use Rattle.tableau.specs.Transition.{Transition, next_of}
use Rattle.tableau.specs.Nodes.{operands}
use Rattle.profile.specs.Traces.{Triple, TraceState, trace_state, triples, join, joined}
use Rattle.profile.specs.Cycle.{Lap}
use Rattle.profile.proofs.TripleLaws.{TriplesKnown, fix-priority, priority_le, join_in, join-known}
use Rattle.profile.proofs.TraceLaws.{Goes, Trace, trace_triples, triples-known}
use Rattle.theory.proofs.TreeLaws.{Lawful}
use Rattle.theory.proofs.Walks.{carry}

module _ (t : Table) where
  -- the priority of a subformula alone
  abbrev pub own : ℕ → ℕ
  own x = cond (is_fix (operator t x)) x (length t)

  -- A trace of a transition with choice w from x to the operand g of a next; the priority is the smallest of what is passed from x on.
  pub data Trail (w : Subset) : ℕ → ℕ → ℕ → Type 0 where
    last : {x g : ℕ} → Memᴰ g (next_of (operator t x)) → Trail w x (length t) g
    move : {x y u g : ℕ} → Memᴰ y (moves (operator t x) (has w x)) → Trail w y u g → Trail w x (min (own x) u) g

  -- an operand of a next, of a node
  abbrev pub In : Subset → ℕ → Type 0
  In v f = T (has v f) × Memᴰ f (operands t) × (f < length t)

  -- traces end to end over transitions from node v
  pub data Trails : Subset → List Transition → ℕ → ℕ → ℕ → Type 0 where
    done : {v : Subset} {f : ℕ} → Trails v [] f (length t) f
    also : {v : Subset} {s : Transition} {ss : List Transition} {f g h a b : ℕ} → In v f → Trail s.choice f a g → Trails s.to ss g b h
        → Trails v (s ∷ ss) f (min a b) h

  pub own_le : (x : ℕ) → own x ≤ length t
  own_le x = by (is_fix (operator t x)) (λ h. priority_le t x (fix-priority t x h))
    where
      by : (b : Bool) → (T b → x ≤ length t) → cond b x (length t) ≤ length t
      by true f = f tt
      by false f = omega arith

  pub stand_priority : (x e : ℕ) → x ≤ length t → (trace_state t x e).priority ≡ min x (own e)
  stand_priority x e h = by (is_fix (operator t e))
    where
      by : (b : Bool) → cond b (min x e) x ≡ min x (cond b e (length t))
      by true = refl
      by false = omega arith

  next_own : (x : ℕ) {g : ℕ} (o : Operator) → Memᴰ g (next_of o) → length t ≤ cond (is_fix o) x (length t)
  next_own x (Operator.fix b l) m = absurd (Memᴰ.not-nil m)
  next_own x (Operator.leaf l) m = omega arith
  next_own x (Operator.variable l) m = omega arith
  next_own x (Operator.pair o l r) m = omega arith
  next_own x (Operator.next l) m = omega arith

  pub trail_le : {w : Subset} {x u g : ℕ} → Trail w x u g → u ≤ own x
  trail_le {x = x} (last m) = next_own x (operator t x) m
  trail_le (move m a) = omega arith

  module _ (law : Lawful t) where
    -- a stand on its way, and what is left of the trace
    trail_trace : {w : Subset} {f x u g : ℕ} (s : TraceState) → Goes t w f s → s.subformula ≡ x → s.priority ≤ own x → Trail w x u g
        → Trace t w (record { from = f; priority = min s.priority u; to = g })
    trail_trace {w} {f} {x} {u} {g} s a e h (last m) =
        record {
          last = s;
          goes = a;
          carries = omega (arith, own_le x);
          ends_at = subst⁻¹ (λ (i : ℕ). Memᴰ g (next_of (operator t i))) e m;
        }
    trail_trace {w} {f} {x} {u} {g} s a e h (move {y = y} {u = v} m b) =
        let q = stand_priority s.priority y (omega (arith, own_le x)) in
        let k = trail_le b in
        subst (λ (i : ℕ). Trace t w (record { from = f; priority = i; to = g })) (omega arith)
        (trail_trace (trace_state t s.priority y)
        (Goes.move a (subst⁻¹ (λ (i : ℕ). Memᴰ y (moves (operator t i) (has w i))) e m)) refl (omega arith) b)

    trail_triple : (v : Subset) {w : Subset} {f u g : ℕ} → In v f → Trail w f u g
        → Memᴰ (record { from = f; priority = u; to = g }) (triples t v w)
    trail_triple v {w} {f} {u} {g} i a =
        let q = stand_priority (length t) f (omega arith) in
        let k = trail_le a in
        let l = own_le f in
        trace_triples t v w (λ e m p h. (law.inside e m p h).1) (record { from = f; priority = u; to = g }) i.2 i.1 i.0
        (subst (λ (n : ℕ). Trace t w (record { from = f; priority = n; to = g })) (omega arith)
        (trail_trace (trace_state t (length t) f) Goes.begin refl (omega arith) a))

    trails_carry : (v : Subset) (ss : List Transition) (xs : List Triple) (a : Triple) {u g : ℕ} → TriplesKnown t xs → Memᴰ a xs
        → Trails v ss a.to u g → Memᴰ (record { from = a.from; priority = min a.priority u; to = g }) (carry t v xs ss)
    trails_carry v ss xs a k m done =
        Memᴰ.cast (λ i. record { from = a.from; priority = same i; to = a.to }) m
      where
        same : min a.priority (length t) ≡ a.priority
        same = omega (arith, priority_le t a.priority (k a m).priority_in)
    trails_carry v ss xs a k m (also {s = s} {ss = ss'} {g = g} {h = h} {a = c} {b = d} i tr r) =
        Memᴰ.cast (λ j. record { from = a.from; priority = assoc j; to = h })
        (trails_carry s.to ss' (join t xs ys) (joined a b) (join-known t xs ys)
        (join_in t xs ys k (triples-known t v s.choice) a b m (trail_triple v i tr) refl) r)
      where
        ys : List Triple
        ys = triples t v s.choice

        b : Triple
        b = record { from = a.to; priority = c; to = g }

        assoc : min a.priority (min c d) ≡ min (min a.priority c) d
        assoc = omega arith

    -- A cycle from v: its first transition s, and the others.
    module _ (v : Subset) (s : Transition) (ss : List Transition) where
      abbrev pub cycle-triples : List Triple
      cycle-triples = carry t s.to (triples t v s.choice) ss

      once-around : {f u g : ℕ} → Trails v (s ∷ ss) f u g → Memᴰ (record { from = f; priority = u; to = g }) cycle-triples
      once-around (also {f = f} {g = g} {a = c} i tr r) =
          trails_carry s.to ss (triples t v s.choice) (record { from = f; priority = c; to = g }) (triples-known t v s.choice)
          (trail_triple v i tr) r

      -- one or more laps
      pub data Laps : ℕ → ℕ → ℕ → Type 0 where
        one : {f u g : ℕ} → Trails v (s ∷ ss) f u g → Laps f u g
        more : {f u g a h : ℕ} → Trails v (s ∷ ss) f u g → Laps g a h → Laps f (min u a) h

      laps-after : (a : Triple) {u g : ℕ} → Lap cycle-triples a → Laps a.to u g
          → Lap cycle-triples (record { from = a.from; priority = min a.priority u; to = g })
      laps-after a l (one r) = Lap.again l (once-around r) refl
      laps-after a l (more {u = u} {g = g} {a = c} {h = h} r q) =
          subst (λ (n : ℕ). Lap cycle-triples (record { from = a.from; priority = n; to = h })) (omega arith)
          (laps-after (joined a (record { from = a.to; priority = u; to = g })) (Lap.again l (once-around r) refl) q)

      pub laps-lap : {f u g : ℕ} → Laps f u g → Lap cycle-triples (record { from = f; priority = u; to = g })
      laps-lap (one r) = Lap.once (once-around r)
      laps-lap (more {f = f} {u = u} {g = g} r q) = laps-after (record { from = f; priority = u; to = g }) (Lap.once (once-around r)) q
