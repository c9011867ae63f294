-- `joint::conjoin`: what is there is the conjunction of the formulas taken from this position on.
use Rattle.std.proofs.Common.{◌≡◌, refl, sym, ap, [], length, get_or, ◌-◌, arith, rules}
use Rattle.joint.specs.Inner.{held}
use Rattle.joint.proofs.CheckLaws.{held-length, held-at}
use Rattle.joint.proofs.ConjoinLaws.{accepted-sized, sized-at, grown_taken, grown_not, conjoining_none, conjoining_more}
use Rattle.joint.proofs.conjoin.Goals as goal

pub loop-i-init : goal.loop-i-init
loop-i-init c =
    let n = held-length c.args.formulas.now in
    let long : length c.args.taken ≡ 8 = search rules in
    conjoining_none c.args.taken (held c.args.formulas.now) (accepted-sized c.requires.readable.accepted)
    (omega (arith, c.requires.readable.few, long)) c.args.out.now (sym n) (omega (arith, n, c.requires.readable.few, c.requires.out_len))

pub put_before-at-requires : goal.put_before-at-requires
put_before-at-requires c =
    let n = held-length c.args.formulas.now in
    let below = c.loop-i.invariant.below in
    let i = c.loop-i.i - 1 in (
      omega (
        arith,
        ap length (held-at c.args.formulas.now i (record { ref_ptr = (0, 0); now = [] }) (omega (arith, n, below))),
        sized-at (held c.args.formulas.now) i (accepted-sized c.requires.readable.accepted) (omega (arith, below)),
      ),
      omega (arith, c.loop-i.invariant.room),
      c.loop-i.invariant.within,
    )

pub loop-i-preserved-then-taken-i : goal.loop-i-preserved-then-taken-i
loop-i-preserved-then-taken-i c =
    let n = held-length c.args.formulas.now in
    let long : length c.args.taken ≡ 8 = search rules in
    let below = c.loop-i.invariant.below in
    conjoining_more c.args.taken (held c.args.formulas.now) (accepted-sized c.requires.readable.accepted)
    (omega (arith, c.requires.readable.few, long)) c.args.out.now c.loop-i.invariant c.loop-i-test.true
    (sym (held-at c.args.formulas.now (c.loop-i.i - 1) _ (omega (arith, n, below))))
    (grown_taken c.if-taken-i.true refl c.put_before-at.ensures)

pub loop-i-preserved : goal.loop-i-preserved
loop-i-preserved c =
    let long : length c.args.taken ≡ 8 = search rules in
    conjoining_more c.args.taken (held c.args.formulas.now) (accepted-sized c.requires.readable.accepted)
    (omega (arith, c.requires.readable.few, long)) c.args.out.now c.loop-i.invariant c.loop-i-test.true refl
    (grown_not c.loop-i.at (get_or (held c.args.formulas.now) (c.loop-i.i - 1) []) c.loop-i.out c.if-taken-i.false)
