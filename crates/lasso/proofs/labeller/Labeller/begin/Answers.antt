-- `begin`: the mask and the list that it makes are those that the rounds move, and the first pass follows the filling. Assumes nothing.
use Rattle.std.proofs.Common.{length, arith, sym, subst}
use Rattle.lasso.specs.Inner.{BitsFilled}
use Rattle.lasso.proofs.CodeWritten.{room}
use Rattle.lasso.proofs.CodeOpen.{movable, movable-few}
use Rattle.lasso.proofs.CodeRounds.{begun}
use Rattle.lasso.proofs.labeller.Labeller.begin.Goals as goal

pub passes-requires : goal.passes-requires
passes-requires c =
    record {
      few = movable-few _ _ _ c.requires.held (movable _ _ _ _ c.open_in-mask.ensures c.listed-moving.ensures.bits);
      words = omega (arith, c.requires.words, c.fill.ensures.long);
    }

pub returns-clause-begun : goal.returns-clause-begun
returns-clause-begun c =
    begun _ _ _ _ _ _ _ _ _ (room c.args.self.now c.requires.words) c.requires.held c.open_in-mask.ensures c.listed-moving.ensures.bits
    (subst (λ g. BitsFilled (length c.args.self.now.letters.now) c.open_in-mask.result g c.args.words.now c.fill.new.words)
    (sym c.listed-moving.ensures.kind) c.fill.ensures)
    c.passes.ensures
