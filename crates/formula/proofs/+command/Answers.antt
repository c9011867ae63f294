-- `formula::command` reads an operator with all its operands as the definition does. Each call has fewer bytes left. What each return
-- promises follows from the kind of the opcode that was found and from what was read behind it. Assumes nothing.
use Rattle.std.proofs.Common.{arith}
use Rattle.formula.specs.Inner.{Command}
use Rattle.formula.proofs.CodeFormula.{further_trans}
use Rattle.formula.proofs.CodeCommand.{still, ready_on, ready-inside, is-behind, command-further, exit, one_kind, constant_command}
use Rattle.formula.proofs.CodeCommand.{refused-signal, signal_command, refused-variable, variable_command, refused-body, unary_command}
use Rattle.formula.proofs.CodeCommand.{refused-left, pair-command}
use Rattle.formula.proofs.+command.Goals as goal
use Rattle.formula.proofs.+command.Goals.{in-True, in-Present+in_ok-signal_at-in-Present, in-Variable+in_ok-binder_at-in-Variable}
use Rattle.formula.proofs.+command.Goals.{in-Or+in_ok-left-in-Or+in_ok-command-in-Or, in-Next+in_ok-command-in-Next}

pub returns-in_err-signal_at-in-Present : goal.returns-in_err-signal_at-in-Present
returns-in_err-signal_at-in-Present t c =
    exit (Command _ _ _ _ _) c.from_residual-in_err-signal_at-in-Present.ensures.1
    (refused-signal c.args.rows.now c.args.scope c.in_ok-op.ensures c.in-Present.is c.in_err-signal_at-in-Present.ensures)

pub returns-in_err-binder_at-in-Variable : goal.returns-in_err-binder_at-in-Variable
returns-in_err-binder_at-in-Variable t c =
    exit (Command _ _ _ _ _) c.from_residual-in_err-binder_at-in-Variable.ensures.1
    (refused-variable c.args.rows.now c.args.scope c.in_ok-op.ensures c.in-Variable.is c.in_err-binder_at-in-Variable.ensures)

pub returns-in_err-left-in-Or : goal.returns-in_err-left-in-Or
returns-in_err-left-in-Or t c =
    exit (Command _ _ _ _ _) c.from_residual-in_err-left-in-Or.ensures.1
    (refused-left c.args.rows.now _ c.in_ok-op.ensures c.inside-inner.ensures c.in-Or.is c.in_err-left-in-Or.ensures)

pub command-requires-in-Or : goal.command-requires-in-Or
command-requires-in-Or t c =
    let o = c.in_ok-op.ensures in
    let f = command-further _ c.in_ok-left-in-Or.ensures in
    (omega (arith, c.decreases, o.inside, o.at, f.later), ready_on f (ready-inside o c.requires c.inside-inner.ensures))

pub returns-in_err-command-in-Next : goal.returns-in_err-command-in-Next
returns-in_err-command-in-Next t c =
    exit (Command _ _ _ _ _) c.from_residual-in_err-command-in-Next.ensures.1
    (refused-body c.args.rows.now _ c.in_ok-op.ensures c.inside-inner-in-Next.ensures (one_kind c.in-Next.is)
    c.in_err-command-in-Next.ensures)

pub written-requires : goal.written-requires
written-requires t c =
    let o = c.in_ok-op.ensures in
    is-behind o
    (elim c.match-op.branch [
      | in-True w ↦ rw w.operand-is (still o.further.limits)
      | in-Present+in_ok-signal_at-in-Present w ↦ rw w.operand-is w.in_ok-signal_at-in-Present.ensures.further
      | in-Variable+in_ok-binder_at-in-Variable w ↦ rw w.operand-is w.in_ok-binder_at-in-Variable.ensures.further
      | in-Or+in_ok-left-in-Or+in_ok-command-in-Or w ↦
          rw w.operand-is
          (further_trans (command-further _ w.in_ok-left-in-Or.ensures) (command-further _ w.in_ok-command-in-Or.ensures))
      | in-Next+in_ok-command-in-Next w ↦ rw w.operand-is (command-further _ w.in_ok-command-in-Next.ensures)
    ])

pub returns : goal.returns
returns t c =
    let o = c.in_ok-op.ensures in
    elim c.match-op.branch [
      | in-True w ↦ rw w.operand-is (constant_command _ _ o w.in-True.is (rw (w.operand-is, w.rows-is) at c.written.ensures))
      | in-Present+in_ok-signal_at-in-Present w ↦
          rw w.operand-is
          (signal_command _ _ o w.in-Present.is w.in_ok-signal_at-in-Present.ensures (rw (w.operand-is, w.rows-is) at c.written.ensures))
      | in-Variable+in_ok-binder_at-in-Variable w ↦
          rw w.operand-is
          (variable_command _ _ o w.in-Variable.is w.in_ok-binder_at-in-Variable.ensures
          (rw (w.operand-is, w.rows-is) at c.written.ensures))
      | in-Or+in_ok-left-in-Or+in_ok-command-in-Or w ↦
          rw w.operand-is
          (pair-command _ _ o w.inside-inner.ensures w.in-Or.is _ w.in_ok-left-in-Or.ensures w.in_ok-command-in-Or.ensures
          (rw (w.operand-is, w.rows-is) at c.written.ensures))
      | in-Next+in_ok-command-in-Next w ↦
          rw w.operand-is
          (unary_command _ _ o w.inside-inner-in-Next.ensures (one_kind w.in-Next.is) w.in_ok-command-in-Next.ensures
          (rw (w.operand-is, w.rows-is) at c.written.ensures))
    ]
