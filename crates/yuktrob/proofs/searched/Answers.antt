-- `yuktrob::searched` does as the answer of building says: a refusal is handed on, and nodes are searched. So it answers as the decision.
use Rattle.std.proofs.lemmas.Result.{err_from_is_err_and}
use Rattle.yuktrob.specs.Printed.{nodes, profiles}
use Rattle.yuktrob.proofs.Pair.{pair-refused, pair-searched}
use Rattle.yuktrob.proofs.searched.Goals as goal

pub returns-in_err-count : goal.returns-in_err-count
returns-in_err-count c =
    let p = err_from_is_err_and c.from_residual.result c.from_residual.ensures.1 in
    rw (p.1, p.2)
    (pair-refused c.args.bytes.now nodes profiles c.args.workspace.now c.args.letters.now c.requires c.build.ensures
    c.in_err-count.was)

pub returns : goal.returns
returns c =
    pair-searched c.args.bytes.now nodes profiles c.args.workspace.now c.args.letters.now c.requires c.build.ensures
    c.in_ok-count.was c.search.ensures
