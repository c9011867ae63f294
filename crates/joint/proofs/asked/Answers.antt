-- `joint::asked`: each answer settles the outcome.
use Rattle.std.proofs.Common.{refl, sym, ◌∙◌, length, arith}
use Rattle.std.proofs.lemmas.Result.{err_from_is_err_and}
use Rattle.joint.specs.Inner.{held}
use Rattle.joint.proofs.CheckLaws.{held-length}
use Rattle.joint.proofs.AskedLaws.{unread-leaves, range_readable, joint-refused, joint-concluded, joint-leaves}
use Rattle.joint.proofs.asked.Goals as goal

pub returns-in_err-check : goal.returns-in_err-check
returns-in_err-check c =
    let p = err_from_is_err_and c.from_residual.result c.from_residual.ensures.1 in
    rw (p.1, p.2)
    (unread-leaves c.args.node_capacity c.args.profile_capacity (length c.args.workspace.now) (length c.args.witness.now)
    (held c.args.formulas.now) (sym c.check.ensures ∙ c.in_err-check.was))

pub returns-in_err-ask_capacities : goal.returns-in_err-ask_capacities
returns-in_err-ask_capacities c =
    let p = err_from_is_err_and c.from_residual-in_err-ask_capacities.result c.from_residual-in_err-ask_capacities.ensures.1 in
    rw (p.1, p.2)
    (joint-leaves
    (joint-refused c.args.node_capacity c.args.profile_capacity (length c.args.workspace.now) (length c.args.witness.now)
    (held c.args.formulas.now) (sym c.check.ensures ∙ c.in_ok-check.was) c.in_err-ask_capacities.ensures.err)
    (record { answered = refl; buffered = refl; worked = refl }))

pub concluded-requires-clause-readable : goal.concluded-requires-clause-readable
concluded-requires-clause-readable c =
    range_readable c.args.node_capacity c.args.profile_capacity (length c.args.workspace.now) (length c.args.witness.now)
    (held c.args.formulas.now) (sym c.check.ensures ∙ c.in_ok-check.was) (omega (arith, held-length c.args.formulas.now, c.requires))

pub returns : goal.returns
returns c =
    joint-leaves
    (joint-concluded c.args.node_capacity c.args.profile_capacity (length c.args.workspace.now) (length c.args.witness.now)
    (held c.args.formulas.now) (sym c.check.ensures ∙ c.in_ok-check.was) c.in_ok-ask_capacities.ensures.ok) c.concluded.ensures
