-- `Tableau::unmet` has the bits of no pick in every entry, and then, or by or, those of its picks: each entry is right at every turn.
use Rattle.std.proofs.Common.{ℕ, ◌-◌, refl, ap, arith}
use Rattle.tableau.proofs.UnmetLaws.{unmet-start, unmet_turn}
use Rattle.tableau.proofs.formed.Tableau.unmet.Goals as goal
use Rattle.tableau.proofs.formed.Tableau.unmet.Goals.{else-not-has, then-not-has}

pub returns-then-n-lt7 : goal.returns-then-n-lt7
returns-then-n-lt7 c =
    let all = ap (λ (x : ℕ). x - 1) c.power-all.ensures in
    (unmet-start _ _ c.ors-n.ensures all c.unmet_between-never.ensures).right

pub loop-j-init : goal.loop-j-init
loop-j-init c =
    let all = ap (λ (x : ℕ). x - 1) c.power-all.ensures in
    unmet-start _ _ c.ors-n.ensures all c.unmet_between-never.ensures

pub loop-j-preserved : goal.loop-j-preserved
loop-j-preserved c =
    let all = ap (λ (x : ℕ). x - 1) c.power-all.ensures in
    elim c.if-not-has.branch [
      | then-not-has w ↦
          rw w.bits-is
          (unmet_turn _ _ c.ors-n.ensures all c.loop-j.j (omega (arith, c.ors-n.ensures, c.args.self.now.formed.few_ors)) refl refl
          w.with.ensures w.unmet_between.ensures w.power.ensures w.unmet_between-then-not-has.ensures c.loop-j.invariant)
      | else-not-has w ↦ rw w.bits-is c.loop-j.invariant
    ]
