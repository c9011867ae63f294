-- `Tableau::expand` adds what the transitions of a node lead to, and notes them: after each turn, those of one choice word more. It ends
-- where there is no room for a node.
use Rattle.std.proofs.Common.{ℕ, ◌^◌, ap, ◌∙◌, inl, inr, arith, rules}
use Rattle.tableau.proofs.NodeLoop.{expand_turn, expand_end}
use Rattle.tableau.proofs.StepLaws.{noting_turn, noting_end}
use Rattle.tableau.proofs.formed.Tableau.expand.Goals as goal

pub returns-in_err-all-clause-expanded : goal.returns-in_err-all-clause-expanded
returns-in_err-all-clause-expanded c =
    let formed = c.args.self.now.formed in
    rw c.from_residual.ensures
    (expand_end (expand_turn c.loop-word.invariant.reached formed c.by_word-target.ensures c.in_err-all.ensures.followed) formed
    c.requires.growing.room.fits (c.core_of-core.ensures.1 ∙ c.node-from.ensures) c.ors.ensures
    (omega (arith, c.power-end.ensures)) (inl (omega arith)))

pub loop-word-preserved : goal.loop-word-preserved
loop-word-preserved c =
    let more = c.in_ok-all.ensures in
    record {
      low = omega (arith, more.bounds);
      high = more.bounds.1;
      same_area = search rules;
      same-notes = search rules;
      same_relation = search rules;
      marked = more.slots_marked;
      reached = expand_turn c.loop-word.invariant.reached c.args.self.now.formed c.by_word-target.ensures more.followed;
      noted = λ e.
          noting_turn (c.loop-word.invariant.noted e) c.loop-word.invariant.low more.bounds.0
          (omega (arith, (c.power-end.ensures ∙ ap (λ (n : ℕ). 2 ^ n) c.ors.ensures))) c.by_word-target.ensures
          (more.step_noted (omega (arith, c.loop-word.invariant.same_relation, e)));
    }

pub returns-clause-expanded : goal.returns-clause-expanded
returns-clause-expanded c =
    expand_end c.loop-word.invariant.reached c.args.self.now.formed c.requires.growing.room.fits
    (c.core_of-core.ensures.1 ∙ c.node-from.ensures) c.ors.ensures
    (omega (arith, c.power-end.ensures)) (inr (omega (arith, c.power-end.ensures, c.loop-word-test.false)))

pub returns-clause-steps_of : goal.returns-clause-steps_of
returns-clause-steps_of c = λ e.
    noting_end (c.loop-word.invariant.noted e) (c.core_of-core.ensures.1 ∙ c.node-from.ensures)
    (omega (arith, (c.power-end.ensures ∙ ap (λ (n : ℕ). 2 ^ n) c.ors.ensures), c.loop-word-test.false))
