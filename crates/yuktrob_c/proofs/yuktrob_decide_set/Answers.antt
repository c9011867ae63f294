-- `yuktrob_c::yuktrob_decide_set`: the answer becomes its number, the place of a fault goes into its word, and the areas are as they were
-- left. Assumes nothing.
use Rattle.std.proofs.Common.{ap, ◌∙◌}
use Rattle.joint.specs.Contract.{fault_told}
use Rattle.yuktrob_c.specs.Numbers.{joint_number}
use Rattle.yuktrob_c.proofs.JointFit.{jointly_fits}
use Rattle.yuktrob_c.proofs.yuktrob_decide_set.Goals as goal

pub joint_number-requires : goal.joint_number-requires
joint_number-requires c =
    jointly_fits c.args.sheet.now c.args.nodes c.args.profiles c.decide_all-j.ensures

pub returns : goal.returns
returns c =
    record {
      numbered = c.joint_number.ensures ∙ ap joint_number c.decide_all-j.ensures.answered;
      filled = c.decide_all-j.ensures.buffered;
      emptied = c.decide_all-j.ensures.worked;
      placed = c.fault_of.ensures ∙ ap fault_told c.decide_all-j.ensures.answered;
    }
