-- The witness is the first of all runs in the shape of a lasso whose cycle is accepting. The profiles stand in the order of MEANING 5.4,
-- each with the first of the runs that have it, and each node with the first of the runs to it. So the first accepting profile, with the
-- way to its first node, stands before every accepting cycle with whatever stem; and where no profile is accepting, there is no accepting
-- cycle. Assumes nothing.
use Rattle.std.proofs.Common.{◌≡◌, refl, ap, inl, inr, List, ◌++◌, map, length}
use Rattle.std.proofs.Math.Option.{none, some}
use mathlib.Core.List.{Memᴰ}
use Rattle.base.specs.Search.{Item}
use Rattle.base.proofs.FirstLaws.{first-none, Least, first_some}
use Rattle.base.proofs.OrderLaws.{no_later_trans}
use Rattle.formula.specs.Table.{Table}
use Rattle.tableau.specs.Saturation.{Subset}
use Rattle.tableau.specs.Transition.{Transition, letter, transitions}
use Rattle.tableau.specs.Nodes.{root, nodes}
use Rattle.tableau.specs.Foremost.{Foremost, standing}
use Rattle.tableau.proofs.NodeLaws.{stem, stem-leads, stem_short, stem-first}
use Rattle.tableau.proofs.ForemostLaws.{StandsFirst, foremost_of, standing_by_stem}
use Rattle.profile.specs.Profiles.{Profile, profiles, accepting}
use Rattle.profile.specs.Cycle.{Run, AcceptingCycle}
use Rattle.profile.proofs.ProfileLaws.{run-standing, Sooner, profiles_sorted, profiles-short}
use Rattle.profile.proofs.CycleLaws.{accepting-cycle, AcceptingListed, cycle-accepting}
use Rattle.decision.specs.Contract.{Witness}
use Rattle.decision.specs.Inner.{found_in}

module _ (t : Table) (apart : (v : Subset) (s : Transition) → Memᴰ s (transitions t v) → s.to ≡ root t → ⊥) where
  run-apart : {p : Profile} {ss : List Transition} → Run t p ss → p.last ≡ root t → ⊥
  run-apart (Run.one {v} {s} m) e = apart v s m e
  run-apart (Run.more {p} {s = s} r m) e = apart p.last s m e

  listed : {v : Subset} {ss : List Transition} → AcceptingCycle t v ss → AcceptingListed t v ss
  listed c = cycle-accepting t c (run-apart c.run)

  -- Theorem: where no profile is accepting, there is no accepting cycle.
  pub no-cycle : found_in t ≡ none → (v : Subset) (ss : List Transition) → AcceptingCycle t v ss → ⊥
  no-cycle e v ss c = let k = listed c in first-none (accepting t) (profiles t (nodes t)) e k.present k.accepted

  module _ {x : Item Transition Profile} (found : found_in t ≡ some x) where
    least : Least (accepting t) (Sooner t) (profiles t (nodes t)) x
    least = first_some (accepting t) (Sooner t) (profiles_sorted t) found

    cycle : AcceptingCycle t x.at.first x.way
    cycle = accepting-cycle t least.present least.passes

    -- it stands before the profile of a cycle, this before the cycle with the stem to its node, and that before the cycle with any stem
    stands-first : StandsFirst t (AcceptingCycle t) (stem t x.at.first) x.way
    stands-first rs ss r =
        let k = listed r.counts in
        no_later_trans (run-standing t x) (run-standing t k.item) (standing t rs ss)
        (elim (least.ahead k.item k.present k.accepted) [ inl e ↦ inl (ap (run-standing t) e) | inr h ↦ inr h ])
        (no_later_trans (run-standing t k.item) (standing t (stem t r.node) ss) (standing t rs ss) k.stands
        (standing_by_stem t (stem t r.node) rs ss (stem-first t r.leads)))

    -- Theorem: the first accepting profile gives the first run in the shape of a lasso,
    pub first-foremost : Foremost t (AcceptingCycle t) (stem t x.at.first) x.way
    first-foremost =
        foremost_of t (AcceptingCycle t)
        (record { node = x.at.first; leads = stem-leads t cycle.reachable; counts = cycle }) stands-first

    -- and so the witness.
    pub first-witness : let there = stem t x.at.first in
        Witness t (length there) (length x.way) (map letter (there ++ x.way))
    first-witness =
        record {
          there = stem t x.at.first;
          around = x.way;
          foremost = first-foremost;
          stem_is = refl;
          cycle_is = refl;
          letters_are = refl;
          stem_short = stem_short t cycle.reachable;
          cycle_short = profiles-short t least.present;
        }
