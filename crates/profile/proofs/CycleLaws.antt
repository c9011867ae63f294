-- Accepting cycles, and that the accepting profiles are theirs: an accepting profile is that of a cycle, and an accepting cycle's profile
-- is found, with a run that does not stand behind the cycle in the order of MEANING 5.4. Assumes nothing.
use mathlib.Core.Path.{◌≡◌, sym, ap, subst}
use mathlib.Core.Logic.{inl, inr}
use mathlib.Core.Bool.{not, ◌&&◌}
use mathlib.Core.List.{List, [], ◌∷◌, Memᴰ}
use Prim.Native.Nat.{◌<◌}
use native.Mathlib.Omega.{arith}
use lib.Dec.{T, T_not, not_T}
use lib.ListN.{length, length-append}
use Rattle.base.specs.Order.{NoLater}
use Rattle.base.specs.Search.{Item}
use Rattle.base.proofs.BoolLaws.{and_left, and_right, and_both}
use Rattle.formula.specs.Table.{Table}
use Rattle.tableau.specs.Saturation.{Subset, same_subset}
use Rattle.tableau.specs.Transition.{Transition}
use Rattle.tableau.specs.Nodes.{root, nodes}
use Rattle.tableau.specs.Run.{Along}
use Rattle.tableau.specs.Foremost.{standing}
use Rattle.tableau.proofs.SaturationLaws.{subset_sound, subset_refl}
use Rattle.tableau.proofs.NodeLaws.{stem}
use Rattle.profile.specs.Traces.{Triple, triples, join}
use Rattle.profile.specs.Profiles.{Profile, profiles, rejecting, accepting}
use Rattle.profile.specs.Cycle.{AcceptingCycle, Run}
use Rattle.profile.proofs.RejectLaws.{rejecting_of, rejecting_in}
use Rattle.profile.proofs.ProfileLaws.{run-standing, profiles-run, profiles_led}

-- Theorem: an accepting profile is that of an accepting cycle,
pub accepting-cycle : (t : Table) {x : Item Transition Profile} → Memᴰ x (profiles t (nodes t)) → T (accepting t x)
    → AcceptingCycle t x.at.first x.way
unfolding rejecting
accepting-cycle t {x} m h =
    let p = x.at in
    let closed = same_subset p.first p.last in
    let fine = not (rejecting t p.triple_set) in
    let e : p.last ≡ p.first = sym (subset_sound p.first p.last (and_left closed fine h)) in
    let (r, b) = profiles-run t m in
    record {
      reachable = b.reachable;
      triple_set = p.triple_set;
      run = subst (λ (v : Subset). Run t (record { first = p.first; last = v; triple_set = p.triple_set }) x.way) e r;
      accepts = λ j. T_not (rejecting t p.triple_set) (and_right closed fine h) (rejecting_in t p.triple_set j);
    }

-- An accepting profile is listed, with a run that does not stand behind the cycle ss of node v.
pub record AcceptingListed (t : Table) (v : Subset) (ss : List Transition) : Type 0 where
  pub item : Item Transition Profile
  pub present : Memᴰ item (profiles t (nodes t))
  pub accepted : T (accepting t item)
  pub stands : NoLater (run-standing t item) (standing t (stem t v) ss)

-- and the profile of an accepting cycle elsewhere than at the root is listed, and accepting.
pub cycle-accepting : (t : Table) {v : Subset} {ss : List Transition} → AcceptingCycle t v ss → (v ≡ root t → ⊥) → AcceptingListed t v ss
unfolding rejecting
cycle-accepting t {v} c n =
    let xs = c.triple_set in
    let (x, m, e, l) = profiles_led t c.run (record { reachable = c.reachable; no-root = n }) in
    let good : T (same_subset v v && not (rejecting t xs)) =
    and_both (same_subset v v) (not (rejecting t xs)) (subset_refl v)
    (not_T (rejecting t xs) (λ b. c.accepts (rejecting_of t xs b))) in
    record {
      item = x;
      present = m;
      accepted = subst (λ (p : Profile). T (same_subset p.first p.last && not (rejecting t p.triple_set))) e good;
      stands = elim l [ inl q ↦ inl (ap (run-standing t) q) | inr h ↦ inr h ];
    }

-- a run leads from its first node to its last
pub run_along : (t : Table) {p : Profile} {ss : List Transition} → Run t p ss → Along t p.first ss p.last
run_along t (Run.one m) = Along.on Along.stay m
run_along t (Run.more r m) = Along.on (run_along t r) m

-- and transitions that lead from a node to a node, one or more, are a run with some triples
pub along_run : (t : Table) {v u : Subset} {ss : List Transition} → Along t v ss u → 0 < length ss
    → (xs : List Triple) × Run t (record { first = v; last = u; triple_set = xs }) ss
along_run t Along.stay h = absurd (omega arith)
along_run t {v} (Along.on {s = s} Along.stay m) h = (triples t v s.choice, Run.one m)
along_run t (Along.on {s = r} (Along.on {ss = ss} {s = s} a n) m) h =
    let (xs, q) = along_run t (Along.on a n) (omega (arith, length-append ss (s ∷ []))) in
    (join t xs (triples t s.to r.choice), Run.more q m)
