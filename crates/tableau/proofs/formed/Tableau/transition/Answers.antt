-- `Tableau::transition` is the definition's transition: the choice is met, and what the saturated set requires can be. What is gathered of
-- the core and of the rest is what is gathered of the set.
use Rattle.std.proofs.Common.{sym, ◌∙◌}
use Rattle.tableau.proofs.TargetLaws.{target-unmet, target-dead, target-some}
use Rattle.tableau.proofs.CoreLaws.{gathered_on}
use Rattle.tableau.proofs.formed.Tableau.transition.Goals as goal

pub returns-then-choice-set : goal.returns-then-choice-set
returns-then-choice-set c = target-unmet c.saturated-set.ensures c.if-choice-set.true

pub returns-then-is_dead_end : goal.returns-then-is_dead_end
returns-then-is_dead_end c =
    let core = c.requires.core_of in
    let all = gathered_on core.grows core.requires c.saturated-set.ensures c.required_by.ensures c.joined-r.ensures in
    target-dead c.args.self.now.formed c.saturated-set.ensures all c.if-choice-set.false (sym c.is_dead_end.ensures ∙ c.if-is_dead_end.true)

pub returns : goal.returns
returns c =
    let core = c.requires.core_of in
    let all = gathered_on core.grows core.requires c.saturated-set.ensures c.required_by.ensures c.joined-r.ensures in
    target-some c.args.self.now.formed c.saturated-set.ensures all c.if-choice-set.false
    (sym c.is_dead_end.ensures ∙ c.if-is_dead_end.false)
