-- `Tableau::saturated` follows the moves of the choice from where the core leaves off.
use Rattle.std.proofs.Common.{refl, rules}
use Rattle.tableau.proofs.FringeLaws.{moves_at-below, saturated_rest}
use Rattle.tableau.proofs.RowLaws.{placed}
use Rattle.tableau.proofs.formed.Tableau.saturated.Goals as goal

pub followed-requires : goal.followed-requires
followed-requires c κs within = (
  search rules,
  (
    (c.requires.core_of.grows c.args.choice).few,
    record {
      asks = λ s set h. let p = placed c.args.self.now.formed h in search rules;
      answers = λ s set r h p. search rules;
      below = λ e m h r. moves_at-below c.args.self.now.formed c.args.choice e h m r;
    },
  ),
)

pub returns : goal.returns
returns c =
    saturated_rest (c.followed.ensures c.args.core.node (c.requires.core_of.grows c.args.choice)) refl
