-- `joint::decide_all`: a fault or the number of formulas settles the outcome, or the questions behind these do.
use Rattle.std.proofs.Common.{refl, sym, ◌∙◌, length, rules}
use Rattle.joint.proofs.AskedLaws.{joint-damaged, joint-miscounted, joint-asked, joint-leaves}
use Rattle.joint.proofs.decide_all.Goals as goal

pub returns-in-Err : goal.returns-in-Err
returns-in-Err c =
    joint-leaves
    (joint-damaged c.args.node_capacity c.args.profile_capacity (length c.args.workspace.now) (length c.args.witness.now)
    c.args.catalogue.now c.in-Err.ensures)
    (record { answered = refl; buffered = refl; worked = refl })

pub returns-then-not-between : goal.returns-then-not-between
returns-then-not-between c =
    joint-leaves
    (joint-miscounted c.args.node_capacity c.args.profile_capacity (length c.args.workspace.now) (length c.args.witness.now)
    c.args.catalogue.now c.in-Ok.f c.in-Ok.ensures (sym c.between.ensures ∙ c.if-not-between.true))
    (record { answered = refl; buffered = refl; worked = refl })

pub returns : goal.returns
returns c =
    joint-leaves
    (joint-asked c.args.node_capacity c.args.profile_capacity (length c.args.workspace.now) (length c.args.witness.now)
    c.args.catalogue.now c.in-Ok.f c.in-Ok.ensures (sym c.between.ensures ∙ c.if-not-between.false) (search rules)) c.asked.ensures
