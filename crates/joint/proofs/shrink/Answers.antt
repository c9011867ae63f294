-- `joint::shrink`: what is left, with the positions still to come, comes to what the whole comes to; the workspace stays as it is.
use mathlib.Core.Path.{◌≡◌, refl, sym, ap, subst, ◌∙◌}
use mathlib.Core.List.{List}
use Prim.Native.Nat.{ℕ, ◌-◌}
use native.Mathlib.Omega.{arith}
use lib.ListN.{length}
use Rattle.joint.specs.Joint.{Subset}
use Rattle.joint.specs.Inner.{held, Clear}
use Rattle.joint.proofs.ShrinkLaws.{lends-same, Shrinking, shrinking_none, shrinking_met}
use Rattle.joint.proofs.ShrinkLaws.{shrinking_unmet, shrinking_stuck, shrinking_core}
use Rattle.joint.proofs.CheckLaws.{held-length}
use borrow.Author.Rules.{rules}
use Rattle.joint.proofs.shrink.Invariants.{try, Going}
use Rattle.joint.proofs.shrink.Goals as goal

-- one position on
onward : {bs : List (List ℕ)} {n N M : ℕ} {w₀ w w' l l' : List ℕ} {s t : Subset} {i : ℕ} → Going bs n N M w₀ w l s i
    → Shrinking (try bs N M) n (i - 1) t → w' ≡ w → length l' ≡ 5120 → Going bs n N M w₀ w' l' t (i - 1)
onward g h e long = record { going = h; below = omega (arith, g.below); same = e ∙ g.same; long = long }

pub everything-left-requires : goal.everything-left-requires
everything-left-requires c =
    omega (arith, held-length c.args.formulas.now, c.requires.readable.few)

pub loop-i-init : goal.loop-i-init
loop-i-init c =
    record {
      going = shrinking_none
          (try (held c.args.formulas.now) c.args.node_capacity c.args.profile_capacity)
          (length c.args.formulas.now)
          c.everything-left.ensures;
      below = omega arith;
      same = refl;
      long = search rules;
    }

pub without-fewer-requires : goal.without-fewer-requires
without-fewer-requires c =
    omega (arith, c.loop-i.invariant.below, held-length c.args.formulas.now, c.requires.readable.few)

pub slice_bounds-attempted-end : goal.slice_bounds-attempted-end
slice_bounds-attempted-end c =
    search (rules, c.loop-i.invariant.long)

pub attempted-requires : goal.attempted-requires
attempted-requires c =
    record {
      readable = c.requires.readable;
      lends = lends-same (ap length (sym c.loop-i.invariant.same)) (sym c.loop-i.invariant.long) c.requires.lends;
      clear = subst (Clear c.args.node_capacity c.args.profile_capacity) (sym c.loop-i.invariant.same) c.requires.clear;
    }

pub loop-i-preserved-in-Some-true : goal.loop-i-preserved-in-Some-true
loop-i-preserved-in-Some-true c =
    onward c.loop-i.invariant
    (shrinking_met (try (held c.args.formulas.now) c.args.node_capacity c.args.profile_capacity) (length c.args.formulas.now)
    c.loop-i.invariant.going (omega arith)
    c.without-fewer.ensures c.attempted.ensures.told (cc))
    c.attempted.ensures.kept (search (rules, c.loop-i.invariant.long))

pub loop-i-preserved : goal.loop-i-preserved
loop-i-preserved c =
    onward c.loop-i.invariant
    (shrinking_unmet (try (held c.args.formulas.now) c.args.node_capacity c.args.profile_capacity) (length c.args.formulas.now)
    c.loop-i.invariant.going (omega arith)
    c.without-fewer.ensures c.attempted.ensures.told (cc))
    c.attempted.ensures.kept (search (rules, c.loop-i.invariant.long))

pub shape_of-workspace-in-None : goal.shape_of-workspace-in-None
shape_of-workspace-in-None c =
    search (rules, ap length c.loop-i.invariant.same)

pub returns-in-None : goal.returns-in-None
returns-in-None c =
    record {
      told = shrinking_stuck (try (held c.args.formulas.now) c.args.node_capacity c.args.profile_capacity) (length c.args.formulas.now)
          c.loop-i.invariant.going (omega arith)
          c.without-fewer.ensures c.attempted.ensures.told c.in-None.is c.word_of.ensures;
      kept = c.attempted.ensures.kept ∙ c.loop-i.invariant.same;
    }

pub shape_of-workspace : goal.shape_of-workspace
shape_of-workspace c =
    search (rules, ap length c.loop-i.invariant.same)

pub returns : goal.returns
returns c =
    record {
      told = shrinking_core (try (held c.args.formulas.now) c.args.node_capacity c.args.profile_capacity) (length c.args.formulas.now)
          c.loop-i.invariant.going (omega arith)
          c.word_of-2.ensures;
      kept = c.loop-i.invariant.same;
    }
