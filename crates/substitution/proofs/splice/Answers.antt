-- `substitution::splice`: one byte after another over zeros. Assumes nothing.
use Rattle.std.proofs.Common.{◌≡◌, refl, ◌∙◌, ◌-◌, length, take, drop, length-drop, arith}
use Rattle.std.proofs.Math.Seq.{take_all}
use Rattle.std.proofs.lemmas.List.{length_push}
use Rattle.std.proofs.lemmas.Iterator.{YieldsList-from_slice, YieldsList-from_take}
use Rattle.std.proofs.lemmas.Iterator.Consumers.{YieldsList-from_chain, YieldsList-turn, YieldsList-end}
use Rattle.substitution.specs.Inner.{spliced_at}
use Rattle.substitution.proofs.SpliceLaws.{seen-length, written-next, written_all}
use Rattle.substitution.proofs.splice.Goals as goal

-- The iterator gives the three parts in their order, 97 bytes of them at most.
pub loop-byte-init : goal.loop-byte-init
loop-byte-init c =
    let old = c.args.old.now in
    let behind = drop c.args.span.to old in
    let rest : take (length old - c.args.span.to) behind ≡ behind =
    take_all (length old - c.args.span.to) behind (omega (arith, length-drop c.args.span.to old)) in
    record {
      counts = refl;
      is = refl;
      road = YieldsList-from_take 97
          (YieldsList-from_chain (YieldsList-from_slice (take c.args.span.from old) (cc))
          (YieldsList-from_chain (YieldsList-from_slice c.args.new.now (cc)) (YieldsList-from_slice behind (cc)) (cc) (cc))
          (cc) (cc)) (cc);
    }

pub bounds-bytes-count : goal.bounds-bytes-count
bounds-bytes-count c =
    let t = YieldsList-turn c.loop-byte.invariant.road c.loop-byte.yielded _ c.loop-byte.yielded_by _ _ c.in-Some.byte c.in-Some.is
    c.next.ensures.steps in
    omega (arith, c.loop-byte.invariant.counts, seen-length (spliced_at c.args.span c.args.old.now c.args.new.now), t.0)

pub loop-byte-preserved : goal.loop-byte-preserved
loop-byte-preserved c =
    let spliced = spliced_at c.args.span c.args.old.now c.args.new.now in
    let t = YieldsList-turn c.loop-byte.invariant.road c.loop-byte.yielded _ c.loop-byte.yielded_by _ _ c.in-Some.byte c.in-Some.is
    c.next.ensures.steps in
    let more = written-next spliced t in
    let n = length_push c.loop-byte.yielded c.in-Some.byte in
    record { counts = omega (arith, c.loop-byte.invariant.counts, n); is = cc; road = c.loop-byte.invariant.road }

pub returns : goal.returns
returns c =
    let spliced = spliced_at c.args.span c.args.old.now c.args.new.now in
    let t = YieldsList-end c.loop-byte.invariant.road c.loop-byte.yielded _ c.loop-byte.yielded_by _ _ c.in-None.is
    c.next.ensures.steps in
    record { count = c.loop-byte.invariant.counts ∙ t.1; is = c.loop-byte.invariant.is ∙ written_all spliced t.1 }
