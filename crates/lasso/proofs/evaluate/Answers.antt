-- `lasso::evaluate`: a refusal of reading is passed on; the rows of an accepted formula are judged. Assumes nothing.
use Rattle.std.proofs.Common.{ap, ◌∙◌, Err}
use Rattle.std.proofs.lemmas.Result.{err_from_is_err_and}
use Rattle.lasso.specs.Contract.{lasso}
use Rattle.lasso.proofs.CodeAsked.{read_held, truth-unread, truth_read}
use Rattle.lasso.proofs.evaluate.Goals as goal

pub judge-requires : goal.judge-requires
judge-requires c = read_held _ _ c.read.ensures.outcome c.in_ok-table.was

pub returns-in_err-table : goal.returns-in_err-table
returns-in_err-table c =
    let (why, is, same) = err_from_is_err_and c.from_residual.result c.from_residual.ensures.1 in
    let p = truth-unread c.args.s.now (lasso c.args.letters.now c.args.stem) c.args.words.now c.read.result c.read.ensures.outcome
    c.in_err-table.was in
    record { answered = is ∙ ap Err same ∙ p.answered; labelled = p.labelled }

pub returns : goal.returns
returns c =
    let p = truth_read c.args.s.now (lasso c.args.letters.now c.args.stem) c.args.words.now c.read.result c.read.ensures.outcome
    c.in_ok-table.was _ _ c.judge.ensures in
    record { answered = p.answered; labelled = p.labelled }
