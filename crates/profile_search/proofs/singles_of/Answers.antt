-- `profile_search::singles_of` adds the profiles of a node's transitions. The invariant: those of the choice words below `word` are done.
use Rattle.std.proofs.Common.{ℕ, ◌+◌, ◌^◌, ap, ◌∙◌, arith}
use Rattle.profile_search.proofs.GrowLaws.{grown-still}
use Rattle.profile_search.proofs.SingleLaws.{given-kept, from-kept, of_turn, of_stop, of_done}
use Rattle.profile_search.proofs.singles_of.Goals as goal

pub loop-word-init : goal.loop-word-init
loop-word-init c =
    record {
      room = c.requires.room;
      grown = grown-still c.args.store c.args.count c.args.area.now c.requires.room c.requires.chained;
    }

pub single-requires : goal.single-requires
single-requires c =
    let end_is = c.power-end.ensures ∙ ap (λ (n : ℕ). 2 ^ n) c.ors.ensures in record {
      node_ready = record {
        given = given-kept c.requires.given c.loop-word.invariant.grown.elsewhere (omega arith);
        node = c.requires.node;
        room = c.loop-word.invariant.room;
        chained = c.loop-word.invariant.grown.chained c.loop-word.invariant.room;
      };
      choice_ready = record {
        set_is = from-kept c.requires.given c.loop-word.invariant.grown.elsewhere (omega arith) c.args.number.0 c.requires.node
            c.node-set.ensures;
        unmet_is = c.unmet-unmet.ensures;
        core_is = c.core_of-core.ensures.0;
        core_node = c.core_of-core.ensures.1;
        below = omega (arith, c.loop-word-test.true, end_is);
      };
    }

pub loop-word-preserved : goal.loop-word-preserved
loop-word-preserved c =
    let told = c.in_ok-all.ensures in
    record {
      room = told.0;
      grown = of_turn c.requires.given c.args.number.0 c.args.count c.loop-word.word c.requires.node c.loop-word.invariant.room
          c.loop-word.invariant.grown told.1;
    }

pub returns-in_err-all : goal.returns-in_err-all
returns-in_err-all c =
    let end_is = c.power-end.ensures ∙ ap (λ (n : ℕ). 2 ^ n) c.ors.ensures in
    rw c.from_residual.ensures
    (of_stop c.requires.given c.args.number.0 c.args.count (c.loop-word.word + 1) c.power-end.result end_is (omega arith)
    (omega (arith, c.loop-word-test.true))
    (of_turn c.requires.given c.args.number.0 c.args.count c.loop-word.word c.requires.node c.loop-word.invariant.room
    c.loop-word.invariant.grown c.in_err-all.ensures))

pub returns : goal.returns
returns c =
    let end_is = c.power-end.ensures ∙ ap (λ (n : ℕ). 2 ^ n) c.ors.ensures in (
      c.loop-word.invariant.room,
      of_done c.requires.given c.args.number.0 c.args.count c.loop-word.word c.power-end.result end_is (omega arith)
          c.loop-word-test.false c.loop-word.invariant.grown,
    )
