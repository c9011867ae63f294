-- Stem and cycle of the first closed run have together at most K transitions. The nodes before each of their transitions are all
-- different: if one of them came again, the part between would be a closed run of a reachable node, so no shorter than the cycle. Were it
-- as long, it would need a stem as long as the given one, and no transition would be left behind it; were it longer, the given cycle would
-- have a shorter stem without it. Nodes that are all different and reachable are at most K. Assumes nothing.
use mathlib.Core.Path.{◌≡◌, refl, sym, ap, subst, subst⁻¹, ◌∙◌}
use mathlib.Core.Logic.{inl, inr}
use mathlib.Core.List.Memᴰ
use mathlib.Core.List.{List, [], ◌∷◌, ◌++◌, append_assoc, append-nil}
use Prim.Native.Nat.{ℕ, suc, ◌+◌, ◌≤◌, ◌<◌}
use native.Mathlib.Omega.{arith}
use native.Mathlib.Decide.{dec_le}
use lib.ListN.{length, length-append}
use Rattle.base.specs.Search.{Item}
use Rattle.base.proofs.SearchLaws.{Visits, visits_cons, Distinct}
use Rattle.formula.specs.Table.{Table}
use Rattle.tableau.specs.Saturation.{Subset}
use Rattle.tableau.specs.Transition.{Transition}
use Rattle.tableau.specs.Nodes.{root, nodes}
use Rattle.tableau.specs.Run.{Along, Reachable}
use Rattle.tableau.specs.Foremost.{LassoRun, Foremost}
use Rattle.tableau.proofs.NodeLaws.{nodes-most}
use Rattle.theory.proofs.Walks.{Walk, along_walk, walk-join}
use Rattle.safety.specs.Closed.{ClosedRun}

-- the nodes before each of the transitions
abbrev passed : Subset → List Transition → List (Item Transition Subset)
passed v [] = []
passed v (s ∷ ss) = record { way = []; at = v } ∷ passed s.to ss

passed_length : (v : Subset) (ss : List Transition) → length (passed v ss) ≡ length ss
passed_length v [] = refl
passed_length v (s ∷ ss) = ap suc (passed_length s.to ss)

module _ (t : Table) where
  walk-on : {v u w : Subset} {rs ss : List Transition} → Along t v rs u → Walk t u ss w → Along t v (rs ++ ss) w
  walk-on {v} {u} {rs = rs} a Walk.stop = subst⁻¹ (λ (l : List Transition). Along t v l u) (append-nil rs) a
  walk-on {v} {w = w} {rs} a (Walk.go {s = s} {ss} m b) =
      subst (λ (l : List Transition). Along t v l w) (append_assoc rs (s ∷ []) ss) (walk-on (Along.on a m) b)

  pub walk_along : {v u : Subset} {ss : List Transition} → Walk t v ss u → Along t v ss u
  walk_along a = walk-on Along.stay a

  -- A walk in two parts that meet in a node, the second not empty.
  record Parted (v : Subset) (ss : List Transition) (u w : Subset) : Type 0 where
    one : List Transition
    other : List Transition
    is : ss ≡ one ++ other
    there : Walk t v one w
    onward : Walk t w other u
    some_step : 0 < length other

  parted : {v u w : Subset} {ss : List Transition} → Walk t v ss u → Visits w (passed v ss) → Parted v ss u w
  parted Walk.stop h = absurd (Memᴰ.not-nil h.1)
  parted {v} {u} (Walk.go {s = s} {ss} m a) h =
      elim (visits_cons h) [
        | inl e ↦
            subst⁻¹ (Parted v (s ∷ ss) u) e
            (record { one = []; other = s ∷ ss; is = refl; there = Walk.stop; onward = Walk.go m a; some_step = omega arith })
        | inr r ↦
            let p = parted a r in
            record {
              one = s ∷ p.one;
              other = p.other;
              is = ap (λ (l : List Transition). s ∷ l) p.is;
              there = Walk.go m p.there;
              onward = p.onward;
              some_step = p.some_step;
            }
      ]

  -- A walk that comes to a node again: a part before, a closed part, and a part behind, the last two not empty.
  record Returns (v : Subset) (ss : List Transition) (u : Subset) : Type 0 where
    node : Subset
    before : List Transition
    between : List Transition
    after : List Transition
    is : ss ≡ before ++ (between ++ after)
    there : Walk t v before node
    round : Walk t node between node
    onward : Walk t node after u
    some_round : 0 < length between
    some_after : 0 < length after

  -- Theorem: on a walk that does not, the nodes before each of its transitions are all different.
  passed_distinct : {v u : Subset} {ss : List Transition} → Walk t v ss u → (Returns v ss u → ⊥) → Distinct (passed v ss)
  passed_distinct Walk.stop f = Distinct.none
  passed_distinct {v} {u} (Walk.go {s = s} {ss} m a) f =
      Distinct.more
      (λ h.
      let p = parted a h in
      f (record {
        node = v;
        before = [];
        between = s ∷ p.one;
        after = p.other;
        is = ap (λ (l : List Transition). s ∷ l) p.is;
        there = Walk.stop;
        round = Walk.go m p.there;
        onward = p.onward;
        some_round = omega arith;
        some_after = p.some_step;
      }))
      (passed_distinct a
      (λ r.
      f (record {
        node = r.node;
        before = s ∷ r.before;
        between = r.between;
        after = r.after;
        is = ap (λ (l : List Transition). s ∷ l) r.is;
        there = Walk.go m r.there;
        round = r.round;
        onward = r.onward;
        some_round = r.some_round;
        some_after = r.some_after;
      })))

  -- the nodes of a walk from the root are reachable
  passed-reachable : {u w : Subset} {ss : List Transition} → Walk t (root t) ss u → Visits w (passed (root t) ss) → Reachable t w
  passed-reachable a h = let p = parted a h in (p.one, walk_along p.there)

  -- the first closed run does not come to a node again
  module _ {stem cycle : List Transition} (f : Foremost t (ClosedRun t) stem cycle) where
    whole : Walk t (root t) (stem ++ cycle) f.is_one.node
    whole = walk-join t (along_walk t f.is_one.leads) (along_walk t f.is_one.counts.back)

    no_return : Returns (root t) (stem ++ cycle) f.is_one.node → ⊥
    no_return r =
        let leads = walk_along r.there in
        none_left r.before r.between r.after r.is r.some_after
        (record {
          node = r.node;
          leads = leads;
          counts = record { reachable = (r.before, leads); some_step = r.some_round; back = walk_along r.round };
        })
        (record { node = f.is_one.node; leads = walk-on leads r.onward; counts = f.is_one.counts })
      where
        none_left : (ps qs rs : List Transition) → stem ++ cycle ≡ ps ++ (qs ++ rs) → 0 < length rs → LassoRun t (ClosedRun t) ps qs
            → LassoRun t (ClosedRun t) (ps ++ rs) cycle → ⊥
        none_left ps qs rs e h run cut =
            let n : length stem + length cycle ≡ length ps + (length qs + length rs) =
            sym (length-append stem cycle) ∙ ap length e ∙ length-append ps (qs ++ rs)
            ∙ ap (λ (k : ℕ). length ps + k) (length-append qs rs) in
            let l : length cycle ≤ length qs = f.cycle_fewest ps qs run in
            elim (dec_le (length qs) (length cycle)) [
              | yes k ↦ omega (arith, n, l, f.stem_fewest ps qs run (omega (arith, l)))
              | no k ↦ omega (arith, n, f.stem_fewest (ps ++ rs) cycle cut refl, length-append ps rs)
            ]

    -- Theorem: stem and cycle of the first closed run have at most K transitions.
    pub foremost-short : length stem + length cycle ≤ length (nodes t)
    foremost-short =
        omega (
          arith,
          nodes-most t (passed (root t) (stem ++ cycle)) (passed_distinct whole no_return) (λ v h. passed-reachable whole h),
          passed_length (root t) (stem ++ cycle),
          length-append stem cycle,
        )
