-- `Tableau::widest` follows the moves under both choices, first those under the lower one.
use base.Fml.{Lft}
use contract.BorrowLft.{◌⊑◌, ⊑_meet, ⊑_static}
use Rattle.std.proofs.Common.{[], ◌++◌, refl, rules}
use Rattle.tableau.proofs.FringeLaws.{spread-start}
use Rattle.tableau.specs.Fringe.{moves_both}
use Rattle.tableau.proofs.WidestLaws.{moves_both_below, widest_rest}
use Rattle.tableau.proofs.RowLaws.{placed}
use Rattle.tableau.proofs.formed.Tableau.widest.Goals as goal

-- a lifetime that ends no later than those of the closure's captures
reach : (κ a r : Lft) → κ ⊑ a → κ ⊑ r → κ ⊑ ((a ++ []) ++ r)
reach κ a r p q = ⊑_meet κ (a ++ []) r (⊑_meet κ a [] p (⊑_static κ)) q

pub followed-requires : goal.followed-requires
followed-requires c κs within =
    let go = moves_both c.args.self.now.table.rows c.choice_of-lower.result c.choice_of-upper.result in (
      (let two = reach κs.0 κs.1.1.0 _ within.1.0 (reach κs.0 κs.1.1.1.0 [] within.1.1.0 (⊑_static κs.0)) in
          let three = reach κs.0 κs.1.0 _ within.0 two in
          ⊑_meet κs.0 _ _ three three),
      (
        (spread-start go c.args.node c.low.ensures).few,
        record {
          asks = λ s set h. let p = placed c.args.self.now.formed h in search rules;
          answers = λ s set r h p. search rules;
          below = λ e m h r. moves_both_below c.args.self.now.formed c.choice_of-lower.result c.choice_of-upper.result e h m r;
        },
      ),
    )

pub returns : goal.returns
returns c =
    let go = moves_both c.args.self.now.table.rows c.choice_of-lower.result c.choice_of-upper.result in
    widest_rest c.choice_of-lower.ensures c.choice_of-upper.ensures
    (c.followed.ensures c.args.node (spread-start go c.args.node c.low.ensures)) refl
