-- `traces::passing` marks the operands to which the moves of subformula s go. Without marks there is nothing to pass on (`pass_blank`);
-- else a look at each operator.
use Rattle.std.proofs.Common.{◌≡◌, ℕ, Bool, cond, [], ◌∷◌, get_or, sym, ap, subst, ◌∙◌}
use Rattle.std.proofs.lemmas.Nat.{one_shl}
use Rattle.base.specs.Bits.{bit}
use Rattle.formula.specs.Rows.{operator_at}
use Rattle.traces.specs.Inner.{PrioritiesMarked}
use Rattle.traces.proofs.MarkLaws.{pass_blank, pass_variable, pass_or, pass_and, found-fix, pass_fixpoint}
use Rattle.traces.proofs.passing.Goals as goal
use Rattle.traces.proofs.passing.Goals.{then-has, else-has}

pub returns-then-w-eq0 : goal.returns-then-w-eq0
returns-then-w-eq0 c =
    pass_blank (operator_at c.args.rows.now c.args.s.0) (bit c.args.choice c.args.s.0)
    c.args.s.0 (get_or c.args.fix.now c.args.s.0 0) c.args.marks.now c.if-w-eq0.true

pub returns-in-Variable : goal.returns-in-Variable
returns-in-Variable c =
    pass_variable c.operator_at.ensures _ c.args.s.0 _ c.args.marks.now c.mark.new.marks c.in-Variable.is
    c.mark.ensures

pub returns-in-Pair-false-default-default : goal.returns-in-Pair-false-default-default
returns-in-Pair-false-default-default c =
    let pair = c.in-Pair-false-default-default in
    pass_and c.operator_at.ensures _ c.args.s.0 _ c.args.marks.now c.mark-in-Pair-false-default-default-2.new.marks pair.is
    pair.either-test c.mark-in-Pair-false-default-default.new.marks c.mark-in-Pair-false-default-default.ensures
    c.mark-in-Pair-false-default-default-2.ensures

pub returns-after-has : goal.returns-after-has
returns-after-has c =
    let right = c.in-Pair.right.0 in
    let left = c.in-Pair.left.0 in
    let marked : c.if-has.mark.0 ≡ cond c.has.result right left =
    elim c.if-has.branch [
      | then-has w ↦ ap (λ m. m.0) w.mark-is ∙ sym (ap (λ (b : Bool). cond b right left) w.if-has.true)
      | else-has w ↦ ap (λ m. m.0) w.mark-is ∙ sym (ap (λ (b : Bool). cond b right left) w.if-has.false)
    ] in
    pass_or c.operator_at.ensures _ c.args.s.0 _ c.args.marks.now c.mark-in-Pair.new.marks c.in-Pair.is c.in-Pair.either-test
    c.has.result (sym c.has.ensures)
    (subst
    (λ (k : ℕ). PrioritiesMarked (k ∷ []) (get_or c.args.marks.now c.args.s.0 0) c.args.marks.now c.mark-in-Pair.new.marks)
    marked c.mark-in-Pair.ensures)

pub returns-in-Fixpoint : goal.returns-in-Fixpoint
returns-in-Fixpoint c =
    pass_fixpoint c.operator_at.ensures _ c.args.s.0 _ c.args.marks.now c.mark-in-Fixpoint.new.marks c.in-Fixpoint.is
    _ c.minima.result
    (one_shl (get_or c.args.fix.now c.args.s.0 0) 8 (c.requires.s_bound (found-fix c.operator_at.ensures c.in-Fixpoint.is)))
    c.minima.ensures c.mark-in-Fixpoint.ensures
