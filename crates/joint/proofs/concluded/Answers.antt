-- `joint::concluded`: the verdict on all settles the outcome, or leaving out does, over the cleared workspace.
use Rattle.std.proofs.Common.{refl, sym, ap, subst, ◌∙◌, Ok}
use Rattle.std.proofs.lemmas.Result.{err_from_is_err_and}
use native.Mathlib.Omega.{arith}
use lib.ListN.{length}
use Rattle.joint.specs.Inner.{Clear}
use Rattle.joint.proofs.ShrinkLaws.{lends-same, lends_own, zeroed-length, zeroed_clear}
use Rattle.joint.proofs.ConcludeLaws.{core_said, all-decided, conclude-refusal, conclude-met, unmet_workspace, conclude-unmet}
use Rattle.joint.proofs.CheckLaws.{held-length}
use borrow.Author.Rules.{rules}
use Rattle.joint.proofs.concluded.Goals as goal

pub everything-all-requires : goal.everything-all-requires
everything-all-requires c =
    omega (arith, held-length c.args.formulas.now, c.requires.readable.few)

pub decided_some-requires : goal.decided_some-requires
decided_some-requires c =
    record { readable = c.requires.readable; lends = search (rules, c.requires.lends) }

pub shrink-requires : goal.shrink-requires
shrink-requires c =
    let is = c.in-Ok.is ∙ ap Ok c.in-Unsatisfiable.is in
    let whole = all-decided (sym (held-length c.args.formulas.now)) c.requires.readable c.requires.lends c.everything-all.ensures
    c.decided_some.ensures in
    let cleared = unmet_workspace whole
    is in record {
      readable = c.requires.readable;
      lends = lends-same (sym (zeroed-length c.args.workspace.now c.requires.lends) ∙ ap length (sym cleared)) refl
          (lends_own c.requires.lends);
      clear = subst (Clear c.args.node_capacity c.args.profile_capacity) (sym cleared)
          (zeroed_clear c.args.node_capacity c.args.profile_capacity c.args.workspace.now);
    }

pub returns-in_default : goal.returns-in_default
returns-in_default c =
    let whole = all-decided (sym (held-length c.args.formulas.now)) c.requires.readable c.requires.lends c.everything-all.ensures
    c.decided_some.ensures in
    conclude-refusal whole c.in_default.is c.word_of.ensures

pub returns-in-Satisfiable : goal.returns-in-Satisfiable
returns-in-Satisfiable c =
    let is = c.in-Ok.is ∙ ap Ok c.in-Satisfiable.is in
    let whole = all-decided (sym (held-length c.args.formulas.now)) c.requires.readable c.requires.lends c.everything-all.ensures
    c.decided_some.ensures in
    conclude-met whole is

pub returns-in_ok-core-in-Unsatisfiable : goal.returns-in_ok-core-in-Unsatisfiable
returns-in_ok-core-in-Unsatisfiable c =
    let is = c.in-Ok.is ∙ ap Ok c.in-Unsatisfiable.is in
    let whole = all-decided (sym (held-length c.args.formulas.now)) c.requires.readable c.requires.lends c.everything-all.ensures
    c.decided_some.ensures in
    conclude-unmet whole (sym (held-length c.args.formulas.now)) is c.shrink.ensures.kept c.shrink.ensures.told
    (sym (ap (core_said _ _) c.in_ok-core-in-Unsatisfiable.was))

pub returns-in_err-core-in-Unsatisfiable : goal.returns-in_err-core-in-Unsatisfiable
returns-in_err-core-in-Unsatisfiable c =
    let is = c.in-Ok.is ∙ ap Ok c.in-Unsatisfiable.is in
    let whole = all-decided (sym (held-length c.args.formulas.now)) c.requires.readable c.requires.lends c.everything-all.ensures
    c.decided_some.ensures in
    let p = err_from_is_err_and c.from_residual.result c.from_residual.ensures.1 in
    rw (p.1, p.2)
    (conclude-unmet whole (sym (held-length c.args.formulas.now))
    is c.shrink.ensures.kept c.shrink.ensures.told
    (sym (ap (core_said _ _) c.in_err-core-in-Unsatisfiable.was)))
