-- `formula::binder_at` answers the questions 5, 7 and 8: each return has the answer of one of them, or the number of the binder.
-- Assumes nothing.
use Rattle.std.proofs.Common.{arith}
use Rattle.formula.proofs.CodeQuestions.{no_binder, not_guarded, names_binder}
use Rattle.formula.proofs.binder_at.Goals as goal

pub returns-then-scope-up : goal.returns-then-scope-up
returns-then-scope-up c = λ self.
    rw c.at.ensures (no_binder c.args.s.now c.args.h c.args.scope c.in_ok-up.ensures self (omega (arith, c.from-up.ensures)))

pub returns-then-scope-outer : goal.returns-then-scope-outer
returns-then-scope-outer c = λ self.
    rw c.from-up.ensures
    (not_guarded c.args.s.now c.args.h c.args.scope c.in_ok-up.ensures (omega (arith, c.from-up.ensures)) self
    (omega (arith, c.from-up.ensures)))

pub returns : goal.returns
returns c =
    rw c.from-up.ensures
    (names_binder c.args.s.now c.args.h c.args.scope c.in_ok-up.ensures (omega (arith, c.from-up.ensures)) c.requires.limits
    (omega (arith, c.from-up.ensures)))
