-- The triples of a transition are exactly its traces. `Goes` says without search and fuel where a trace from f may stand, `Trace` what a
-- whole trace is. A trace stands at one of the subformulas with one of so many priorities, so the search's fuel is enough.
-- Assumes nothing.
use mathlib.Core.Path.{◌≡◌, refl, ap, subst, subst⁻¹, ◌∙◌}
use mathlib.Core.Bool.{Bool, true, false, cond}
use mathlib.Core.List.{List, [], ◌∷◌, map, Memᴰ}
use Prim.Native.Nat.{ℕ, zero, suc, ◌+◌, ◌*◌, ◌≤◌, ◌<◌, min}
use native.Mathlib.Omega.{arith}
use lib.Dec.{T, eqb, eqb→eq, eqb_refl}
use lib.ListN.{length, length-map}
use Rattle.base.specs.Lists.{flat_map, range}
use Rattle.base.specs.Search.{Edge, Item}
use Rattle.base.proofs.BoolLaws.{and_left, and_right, and_both}
use Rattle.base.proofs.ListLaws.{length-range}
use Rattle.base.proofs.MemberLaws.{flat_map_of, flat_map_in, length-flat_map, range_in}
use Rattle.base.proofs.CondLaws.{cond_of, cond_in}
use Rattle.base.proofs.SearchLaws.{Visits, ReachableBy, search-found, search-few}
use Rattle.base.proofs.SearchOrder.{Reach, search-all}
use Rattle.formula.specs.Table.{Table, operator, is_fix}
use Rattle.tableau.specs.Saturation.{Subset, has, moves}
use Rattle.tableau.specs.Transition.{next_of}
use Rattle.tableau.specs.Nodes.{operands}
use Rattle.profile.specs.Traces.{Triple, TraceState, same_trace_state, trace_state, move_edges, trace_states, ends, triples}
use Rattle.profile.proofs.TripleLaws.{Priority, none-priority, fix-priority, min_in, TriplesKnown, set_of_of, set_of_in}

-- A trace from f, on its way (MEANING 4.1): what moves have come to, with the lowest fixpoint so far, f counted.
pub data Goes (t : Table) (w : Subset) (f : ℕ) : TraceState → Type 0 where
  begin : Goes t w f (trace_state t (length t) f)
  move : {s : TraceState} {m : ℕ} → Goes t w f s → Memᴰ m (moves (operator t s.subformula) (has w s.subformula))
      → Goes t w f (trace_state t s.priority m)

-- A trace of a transition with choice w: it has come to a next, and ends in its operand.
pub record Trace (t : Table) (w : Subset) (a : Triple) : Type 0 where
  pub last : TraceState
  pub goes : Goes t w a.from last
  pub carries : a.priority ≡ last.priority
  pub ends_at : Memᴰ a.to (next_of (operator t last.subformula))

-- all moves stay in the table
abbrev pub MovesInside : Table → Type 0
MovesInside t = (e m : ℕ) (p : Bool) → Memᴰ m (moves (operator t e) p) → m < length t

pub next-operand : (t : Table) (e g : ℕ) → Memᴰ g (next_of (operator t e)) → Memᴰ g (operands t)
next-operand [] e g m = absurd (mathlib.Core.List.Memᴰ.not-nil m)
next-operand (o ∷ t) zero g m = mathlib.Core.List.Memᴰ.append_left (operands t) m
next-operand (o ∷ t) (suc e) g m = mathlib.Core.List.Memᴰ.append_right (next_of o) (next-operand t e g m)

-- the test on stands
stand_sound : (a b : TraceState) → T (same_trace_state a b) → a ≡ b
stand_sound a b h =
    let p = eqb a.subformula b.subformula in
    let q = eqb a.priority b.priority in
    let x = eqb→eq a.subformula b.subformula (and_left p q h) in
    let y = eqb→eq a.priority b.priority (and_right p q h) in
    λ i. record { subformula = x i; priority = y i }

stand_refl : (a : TraceState) → T (same_trace_state a a)
stand_refl a =
    and_both (eqb a.subformula a.subformula) (eqb a.priority a.priority) (eqb_refl a.subformula) (eqb_refl a.priority)

-- Where a trace may stand: one of the subformulas, with a priority.
cond_min_le : (b : Bool) (x e n : ℕ) → x ≤ n → cond b (min x e) x ≤ n
cond_min_le true x e n h = omega arith
cond_min_le false x e n h = h

stand_priority : (t : Table) (x m : ℕ) → Priority t x → Priority t (trace_state t x m).priority
stand_priority t x m h = passed (is_fix (operator t m)) (fix-priority t m)
  where
    passed : (b : Bool) → (T b → Priority t m) → Priority t (cond b (min x m) x)
    passed true f = min_in _ x m h (f tt)
    passed false f = h

pub goes-priority : {t : Table} {w : Subset} {f : ℕ} {s : TraceState} → Goes t w f s → Priority t s.priority
goes-priority {t} {f = f} begin = stand_priority t (length t) f (none-priority t)
goes-priority {t} (move {s} {m} g r) = stand_priority t s.priority m (goes-priority g)

abbrev row : Table → ℕ → List TraceState
row t e = map (λ (x : ℕ). record { subformula = e; priority = x }) (range 0 (suc (length t)))

abbrev all-stands : Table → List TraceState
all-stands t = flat_map (row t) (range 0 (length t))

stands-length : (t : Table) → length (all-stands t) ≡ length t * suc (length t)
stands-length t =
    length-flat_map (row t) (suc (length t)) (range 0 (length t))
    (λ e. length-map (range 0 (suc (length t))) (λ (x : ℕ). record { subformula = e; priority = x }) ∙ length-range 0 (suc (length t)))
    ∙ ap (λ (n : ℕ). n * suc (length t)) (length-range 0 (length t))

stand_in : (t : Table) (s : TraceState) → s.subformula < length t → s.priority ≤ length t → Memᴰ s (all-stands t)
stand_in t s h k =
    flat_map_in (row t) (range_in 0 (length t) s.subformula (omega arith) (omega arith))
    (mathlib.Core.List.Memᴰ.map (λ (x : ℕ). record { subformula = s.subformula; priority = x })
    (range_in 0 (suc (length t)) s.priority (omega arith) (omega arith)))

-- The search finds exactly these.
module _ (t : Table) (w : Subset) (f : ℕ) where
  abbrev start : List (Item ℕ TraceState)
  start = record { way = []; at = trace_state t (length t) f } ∷ []

  abbrev to_stand : TraceState → ℕ → Edge ℕ TraceState
  to_stand s m = record { label = m; to = trace_state t s.priority m }

  found-goes : (x : Item ℕ TraceState) → ReachableBy same_trace_state (move_edges t w) start x → Goes t w f x.at
  found-goes x (ReachableBy.start m) = subst⁻¹ (λ (y : Item ℕ TraceState). Goes t w f y.at) (mathlib.Core.List.Memᴰ.eq_of_singleton m) begin
  found-goes y (ReachableBy.go {x} {e} g m) =
      let (k, r, q) = mathlib.Core.List.Memᴰ.of_map (to_stand x.at) (moves (operator t x.at.subformula) (has w x.at.subformula)) m in
      subst (λ (d : Edge ℕ TraceState). Goes t w f d.to) q (move (found-goes x g) r)

  goes_reach : (s : TraceState) → Goes t w f s → Reach same_trace_state (move_edges t w) start s
  goes_reach s begin = Reach.start (record { way = []; at = s }, mathlib.Core.List.Memᴰ.head refl, refl)
  goes_reach u (move {s} {m} g r) = Reach.go {e = to_stand s m} (goes_reach s g) (mathlib.Core.List.Memᴰ.map (to_stand s) r)

  pub stands_go : (x : Item ℕ TraceState) → Memᴰ x (trace_states t w f) → Goes t w f x.at
  stands_go x m = found-goes x (search-found same_trace_state (move_edges t w) (1 + length t * suc (length t)) start m)

  module _ (kept : MovesInside t) (inside : f < length t) where
    goes_in : (s : TraceState) → Goes t w f s → (s.subformula < length t) × (s.priority ≤ length t)
    goes_in s begin = (inside, cond_min_le (is_fix (operator t f)) (length t) f (length t) (omega arith))
    goes_in u (move {s} {m} g r) =
        (kept s.subformula m (has w s.subformula) r, cond_min_le (is_fix (operator t m)) s.priority m (length t) (goes_in s g).1)

    pub stands-all : (s : TraceState) → Goes t w f s → Visits s (trace_states t w f)
    stands-all s g =
        let room = 1 + length t * suc (length t) in
        let few =
        search-few same_trace_state (move_edges t w) stand_refl room start (all-stands t)
        (λ x r. let (i, j) = goes_in x.at (found-goes x r) in stand_in t x.at i j) in
        search-all same_trace_state (move_edges t w) stand_sound room start (omega (arith, few, stands-length t)) (goes_reach s g)

-- The triples of a transition.
module _ (t : Table) (v w : Subset) where
  abbrev triples_of : ℕ → List Triple
  triples_of f = flat_map (λ (x : Item ℕ TraceState). ends t f x.at) (trace_states t w f)

  abbrev with_traces : List Triple
  with_traces = flat_map (λ f. cond (has v f) (triples_of f) []) (operands t)

  made : (f : ℕ) (s : TraceState) (g : ℕ) (a : Triple) → T (has v f) → Goes t w f s → Memᴰ g (next_of (operator t s.subformula))
      → record { from = f; priority = s.priority; to = g } ≡ a → T (has v a.from) × Trace t w a
  made f s g a h goes k e =
      subst (λ (b : Triple). T (has v b.from) × Trace t w b) e (h, record { last = s; goes = goes; carries = refl; ends_at = k })

  -- Theorem: each triple of a transition from v is a trace from a subformula of v,
  pub triples_trace : (a : Triple) → Memᴰ a (triples t v w) → T (has v a.from) × Trace t w a
  unfolding triples
  triples_trace a m =
      let (f, p, q) = flat_map_of (λ f. cond (has v f) (triples_of f) []) (operands t) (set_of_of t with_traces a m).1 in
      let (h, o) = cond_of (has v f) (triples_of f) q in
      let (x, n, c) = flat_map_of (λ (x : Item ℕ TraceState). ends t f x.at) (trace_states t w f) o in
      let (g, k, e) = mathlib.Core.List.Memᴰ.of_map (λ (g : ℕ). record { from = f; priority = x.at.priority; to = g })
      (next_of (operator t x.at.subformula)) c in
      made f x.at g a h (stands_go t w f x n) k e

  -- and each trace from an operand of a next in v is among the triples.
  pub trace_triples : MovesInside t → (a : Triple) → a.from < length t → Memᴰ a.from (operands t) → T (has v a.from)
      → Trace t w a
      → Memᴰ a (triples t v w)
  unfolding triples
  trace_triples kept a inside p h tr =
      let f = a.from in
      let (x, n, c) = stands-all t w f kept inside tr.last tr.goes in
      let here : Memᴰ a (ends t f x.at) =
      subst (λ (s : TraceState). Memᴰ a (ends t f s)) c
      (mathlib.Core.List.Memᴰ.cast (λ i. record { from = f; priority = tr.carries i; to = a.to })
      (mathlib.Core.List.Memᴰ.map (λ (g : ℕ). record { from = f; priority = tr.last.priority; to = g }) tr.ends_at)) in
      set_of_in t with_traces a
      (record {
        from_in = p;
        priority_in = mathlib.Core.List.Memᴰ.cast tr.carries (goes-priority tr.goes);
        to_in = next-operand t tr.last.subformula a.to tr.ends_at;
      })
      (flat_map_in (λ f. cond (has v f) (triples_of f) []) p
      (cond_in (has v f) h (flat_map_in (λ (x : Item ℕ TraceState). ends t f x.at) n here)))

  pub triples-known : TriplesKnown t (triples t v w)
  unfolding triples
  triples-known a m = (set_of_of t with_traces a m).0
