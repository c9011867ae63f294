-- `joint::decided` does as the answer of building says: a refusal is handed on, and nodes are searched; what is left in the workspace is
-- cleared. So it decides.
use Rattle.std.proofs.Common.{ap, ◌∙◌, ℕ, Err}
use Rattle.tableau.specs.Area.{cleared}
use Rattle.decision.proofs.PairLaws.{in_a_row}
use Rattle.joint.proofs.ShrinkLaws.{decided_with}
use borrow.Author.Rules.{rules}
use Rattle.joint.proofs.decided.Goals as goal

pub clear-requires : goal.clear-requires
clear-requires c =
    search (rules, c.requires.workspace_fits, c.workspace_size-asked.ensures.in_range c.requires.capacity)

pub overflow_mul-node_capacity : goal.overflow_mul-node_capacity
overflow_mul-node_capacity c =
    search (rules, c.requires.capacity.few_nodes)

pub clear-requires-in-Ok : goal.clear-requires-in-Ok
clear-requires-in-Ok c =
    search (rules, c.requires.workspace_fits)

pub returns-in-Err-Unread : goal.returns-in-Err-Unread
returns-in-Err-Unread c =
    in_a_row c.args.bytes.now c.args.node_capacity c.args.profile_capacity c.args.workspace.now c.args.witness.now c.requires
    c.build.ensures
    (c.in-Err-Unread.is ∙ ap Err c.in-Err-Unread.field-0-is)

pub returns-in-Err-No : goal.returns-in-Err-No
returns-in-Err-No c =
    decided_with
    (c.clear.ensures ∙ ap (λ (n : ℕ). cleared 0 n c.build.new.workspace) (c.workspace_size-asked.ensures.in_range c.requires.capacity))
    (in_a_row c.args.bytes.now c.args.node_capacity c.args.profile_capacity c.args.workspace.now c.args.witness.now c.requires
    c.build.ensures
    (c.in-Err-No.is ∙ ap Err c.in-Err-No.field-0-is))

pub returns-in-Ok : goal.returns-in-Ok
returns-in-Ok c =
    decided_with c.clear-in-Ok.ensures
    (in_a_row c.args.bytes.now c.args.node_capacity c.args.profile_capacity c.args.workspace.now c.args.witness.now c.requires
    c.build.ensures
    c.in-Ok.is _ _ _ c.search-v.ensures)
