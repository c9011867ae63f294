-- `label`, `label_open`, `label_fixpoint`, `rounds` and `round` call each other. Each call for an operand has a smaller subformula, each
-- other call fewer rounds left. Each way through `label_open` is one law of its operator; the rounds are those of one half and, if the set
-- still moves, of the other. Assumes nothing.
use Rattle.std.proofs.Common.{ap, ◌∙◌, arith}
use Rattle.formula.specs.Access.{decoded}
use Rattle.lasso.proofs.CodeWritten.{held-placed, left-smaller, right-smaller, next-smaller, body-smaller}
use Rattle.lasso.proofs.CodeWritten.{operand_call, same_call, same-kind, room}
use Rattle.lasso.proofs.CodeClosed.{alone_evaluated, open_evaluated}
use Rattle.lasso.proofs.CodeOpen.{movable-few}
use Rattle.lasso.proofs.CodeLabel.{plain_evaluated, next_evaluated, pair_evaluated}
use Rattle.lasso.proofs.CodeRounds.{rounded_both, rounded_early, rounded_more, rounded_still}
use Rattle.lasso.proofs.CodeRounds.{fixpoint-settled, fixpoint-last}
use Rattle.lasso.proofs.labeller.Labeller.+labelling.Goals as goal

-- `label`

pub label-label_open-requires : goal.label-label_open-requires
label-label_open-requires t c = same_call c.args.self.now _ _ c.decreases _ (omega arith) c.requires

pub label-returns-then-not-closed : goal.label-returns-then-not-closed
label-returns-then-not-closed t c = open_evaluated _ _ _ _ _ c.label_open.ensures (c.closed.ensures.no c.if-not-closed.true)

pub label-returns-else-not-closed : goal.label-returns-else-not-closed
label-returns-else-not-closed t c = alone_evaluated _ _ _ _ (c.closed.ensures.yes c.if-not-closed.false)

-- `label_fixpoint`

pub label_fixpoint-rounds-requires : goal.label_fixpoint-rounds-requires
label_fixpoint-rounds-requires t c =
    same_call c.args.self.now _ _ c.decreases _ (omega arith)
    (record {
      held = c.requires.held;
      words = omega (arith, c.requires.words);
      fixes = same-kind c.begin-moving.ensures.kind c.requires.fixes;
      movable = c.begin-moving.ensures.begun.movable;
    })

pub label_fixpoint-label-requires : goal.label_fixpoint-label-requires
label_fixpoint-label-requires t c =
    operand_call c.args.self.now _ _ c.decreases _ (omega (arith, c.requires.words))
    (body-smaller _ _ c.requires.held c.requires.fixes)

pub label_fixpoint-returns-then-rounds : goal.label_fixpoint-returns-then-rounds
label_fixpoint-returns-then-rounds t c =
    fixpoint-last _ _ _ _ c.requires.held (same-kind c.begin-moving.ensures.kind c.requires.fixes) _ _ _ _
    (room c.args.self.now c.requires.words) c.begin-moving.ensures.begun _ c.if-rounds.true _ c.rounds.ensures c.label.ensures

pub label_fixpoint-returns-else-rounds : goal.label_fixpoint-returns-else-rounds
label_fixpoint-returns-else-rounds t c =
    fixpoint-settled _ _ _ _ c.requires.held (same-kind c.begin-moving.ensures.kind c.requires.fixes) _ _ _ _
    (room c.args.self.now c.requires.words) c.begin-moving.ensures.begun _ c.if-rounds.false c.rounds.ensures

-- `label_open`

pub label_open-operator_at-op-requires : goal.label_open-operator_at-op-requires
label_open-operator_at-op-requires t c = held-placed _ _ c.requires.held

pub label_open-label_fixpoint-requires : goal.label_open-label_fixpoint-requires
label_open-label_fixpoint-requires t c =
    same_call c.args.self.now _ _ c.decreases _ (omega arith)
    (record {
      held = c.requires.held;
      words = c.requires.words;
      fixes = record { body = _; is = c.operator_at-op.ensures ∙ ap decoded c.in-Fixpoint.is };
    })

pub label_open-label-requires : goal.label_open-label-requires
label_open-label-requires t c =
    operand_call c.args.self.now _ _ c.decreases _ (omega (arith, c.requires.words))
    (left-smaller _ _ c.requires.held (c.operator_at-op.ensures ∙ ap decoded c.in-Pair.is))

pub label_open-label-requires-in-Pair : goal.label_open-label-requires-in-Pair
label_open-label-requires-in-Pair t c =
    operand_call c.args.self.now _ _ c.decreases _ (omega (arith, c.requires.words))
    (right-smaller _ _ c.requires.held (c.operator_at-op.ensures ∙ ap decoded c.in-Pair.is))

pub label_open-label-requires-in-Next : goal.label_open-label-requires-in-Next
label_open-label-requires-in-Next t c =
    operand_call c.args.self.now _ _ c.decreases _ (omega (arith, c.requires.words))
    (next-smaller _ _ c.requires.held (c.operator_at-op.ensures ∙ ap decoded c.in-Next.is))

pub label_open-returns-in-Pair : goal.label_open-returns-in-Pair
label_open-returns-in-Pair t c =
    pair_evaluated _ _ _ _ (room c.args.self.now c.requires.words) c.requires.held _ _ _
    (c.operator_at-op.ensures ∙ ap decoded c.in-Pair.is) _ _ _ c.label.ensures c.label-in-Pair.ensures c.sweep.ensures.swept

pub label_open-returns-in-Next : goal.label_open-returns-in-Next
label_open-returns-in-Next t c =
    next_evaluated _ _ _ _ (room c.args.self.now c.requires.words) c.requires.held _
    (c.operator_at-op.ensures ∙ ap decoded c.in-Next.is) _ _ c.label-in-Next.ensures c.sweep-in-Next.ensures.swept

pub label_open-returns-in_default : goal.label_open-returns-in_default
label_open-returns-in_default t c =
    plain_evaluated _ _ _ _ (room c.args.self.now c.requires.words) c.requires.held _ c.sweep-in_default.ensures.swept
    c.operator_at-op.result (record { pair = c.in_default.not-Pair; next = c.in_default.not-Next; fix = c.in_default.not-Fixpoint })
    c.operator_at-op.ensures

-- `round`

pub round-label-requires : goal.round-label-requires
round-label-requires t c =
    operand_call c.args.self.now _ _ c.decreases _ (omega (arith, c.requires.words))
    (body-smaller _ _ c.requires.held c.requires.fixes)

pub round-passes-requires : goal.round-passes-requires
round-passes-requires t c =
    record {
      few = movable-few _ _ _ c.requires.held c.requires.movable;
      words = omega (arith, c.requires.words);
    }

pub round-returns-then-changed : goal.round-returns-then-changed
round-returns-then-changed t c =
    rw c.if-changed.true
    (rounded_more _ _ _ _ c.requires.held c.requires.fixes _ _ (room c.args.self.now c.requires.words) c.label.ensures _
    c.sweep-changed.ensures.swept _ _ c.requires.movable c.passes.ensures)

pub round-returns-else-changed : goal.round-returns-else-changed
round-returns-else-changed t c =
    rw c.if-changed.false
    (rounded_still _ _ _ _ c.requires.held c.requires.fixes _ _ (room c.args.self.now c.requires.words) c.label.ensures _
    c.sweep-changed.ensures.swept (c.sweep-changed.ensures.still c.if-changed.false))

-- `rounds`

pub rounds-round-requires : goal.rounds-round-requires
rounds-round-requires t c = same_call c.args.self.now _ _ c.decreases _ (omega arith) c.requires

pub rounds-rounds-requires : goal.rounds-rounds-requires
rounds-rounds-requires t c = same_call c.args.self.now _ _ c.decreases _ (omega arith) c.requires

pub rounds-rounds-requires-then-rounds : goal.rounds-rounds-requires-then-rounds
rounds-rounds-requires-then-rounds t c =
    same_call c.args.self.now _ _ c.decreases _ (omega arith)
    (record {
      held = c.requires.held;
      words = omega (arith, c.requires.words);
      fixes = c.requires.fixes;
      movable = c.requires.movable;
    })

pub rounds-returns-then-rounds : goal.rounds-returns-then-rounds
rounds-returns-then-rounds t c =
    rounded_both _ _ _ _ _ _ _ _ _ _ _ (omega arith) c.if-rounds.true c.rounds.ensures c.rounds-then-rounds.ensures

pub rounds-returns-else-rounds : goal.rounds-returns-else-rounds
rounds-returns-else-rounds t c =
    rounded_early _ _ _ _ _ _ _ _ _ (omega arith) c.if-rounds.false c.rounds.ensures
