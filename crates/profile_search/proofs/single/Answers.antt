-- `profile_search::single` adds the profile of the transition under one choice word, if there is one. A transition leads to a node of the
-- area, so that one is found.
use Rattle.std.proofs.Common.{◌≡◌, refl, sym, subst, List, Option, ℕ}
use Rattle.tableau.specs.Inner.{TargetBy, UnmetOrs}
use Rattle.tableau.specs.declared.Target.{Target}
use Rattle.tableau.proofs.TargetLaws.{target-nowhere}
use Rattle.profile_search.proofs.SingleLaws.{single-nowhere, single-there, single-last, single-some}
use Rattle.profile_search.proofs.single.Goals as goal

-- what was found of the step, of the source's node: the core is that node's
stepped : {rows : List ℕ} {count word n set : ℕ} {r target : Option Target} → n ≡ set → r ≡ target → TargetBy rows count word n r
    → TargetBy rows count word set target
stepped {rows} {count} {word} {set = set} {r = r} node is s =
    subst (TargetBy rows count word set) is (subst (λ (k : ℕ). TargetBy rows count word k r) node s)

pub by_word-requires-clause-unmet_ors : goal.by_word-requires-clause-unmet_ors
by_word-requires-clause-unmet_ors c =
    subst (λ (n : ℕ). UnmetOrs c.args.ranked.now.tableau.now.table.rows c.args.ranked.now.tableau.now.table.count n c.args.unmet.now)
    (sym c.requires.choice_ready.core_node)
    c.requires.choice_ready.unmet_is

pub returns-in_default : goal.returns-in_default
returns-in_default c = (
  c.requires.node_ready.room,
  single-nowhere c.requires.node_ready.given c.args.from.number.0 c.args.from.word c.requires.node_ready.node
      c.requires.choice_ready.set_is
      c.requires.node_ready.room c.requires.node_ready.chained
      (target-nowhere (stepped c.requires.choice_ready.core_node c.in_default.is c.by_word.ensures) refl),
)

pub returns-in_default-find : goal.returns-in_default-find
returns-in_default-find c =
    let target = stepped c.requires.choice_ready.core_node c.in-Some.is c.by_word.ensures in
    absurd (single-there c.requires.node_ready.given c.args.from.number.0 c.args.from.word c.requires.node_ready.node
    c.requires.choice_ready.below
    c.requires.choice_ready.set_is target c.find.ensures c.in_default-find.is)

pub returns : goal.returns
returns c =
    let target = stepped c.requires.choice_ready.core_node c.in-Some.is c.by_word.ensures in
    let there =
    single-last c.requires.node_ready.given c.args.from.number.0 c.args.from.word c.requires.node_ready.node c.requires.choice_ready.below
    c.requires.choice_ready.set_is target c.in-Some-find.last c.find.ensures
    c.in-Some-find.is in
    single-some c.requires.node_ready.given c.args.from.number.0 c.args.from.word c.requires.node_ready.node c.requires.choice_ready.below
    c.requires.choice_ready.set_is target c.args.count c.add.result c.add.new.area c.triples_of-t.result refl there
    c.letter_of.ensures c.choice_of-choice.ensures c.triples_of-t.ensures c.add.ensures
