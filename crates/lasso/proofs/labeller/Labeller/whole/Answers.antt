-- `whole`: the words are cleared, and closed subformulas labelled from the last to the first, which is the whole formula. Assumes nothing.
use Rattle.std.proofs.Common.{◌≡◌, List, ℕ, ◌++◌, length, drop, replicate, ap, ◌∙◌, length-append, arith, length-take-le}
use Rattle.lasso.proofs.CodeWritten.{held-inside, room}
use Rattle.lasso.proofs.CodeWords.{labelling-more, labelling-all, answered}
use Rattle.lasso.proofs.labeller.Labeller.whole.Goals as goal

pub close-requires : goal.close-requires
close-requires c =
    record {
      held = held-inside _ _ c.requires.held _ (omega arith) (omega (arith, c.loop-k.invariant.few));
      words = omega (
        arith,
        c.requires.words,
        c.loop-k.invariant.kept.long,
        c.fill.ensures.len,
        length-append c.fill.new.self (drop (length c.args.self.now.letters.now) c.args.words.now),
        length-take-le (length c.args.self.now.letters.now) c.args.words.now c.requires.words,
      );
    }

pub loop-k-preserved : goal.loop-k-preserved
loop-k-preserved c = labelling-more _ _ _ _ _ _ _ c.requires.held (omega arith) c.loop-k.invariant c.close.ensures

pub returns : goal.returns
returns c =
    let n = length c.args.self.now.letters.now in
    let cleared : c.fill.new.self ++ drop n c.args.words.now ≡ replicate n 0 ++ drop n c.args.words.now =
    ap (λ (l : List ℕ). l ++ drop n c.args.words.now)
    (c.fill.ensures.after (λ y q. q) ∙ ap (λ (k : ℕ). replicate k 0) (length-take-le n c.args.words.now c.requires.words)) in
    answered _ _ _ _ _ _ (room c.args.self.now c.requires.words) cleared
    (labelling-all _ _ _ _ _ c.loop-k-test.false c.loop-k.invariant) c.has.ensures
