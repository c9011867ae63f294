-- `triples::is_rejecting` asks all operands before the first lap, and then one after another whether its row comes back. A set that leads
-- back before the first lap does so after all.
use Rattle.std.proofs.Common.{refl, sym, ◌∙◌, rules, arith}
use Rattle.std.proofs.lemmas.Iterator.{YieldsList-from_range}
use Rattle.std.proofs.lemmas.Iterator.Search.{any_from_yields_List}
use Rattle.base.specs.Bits.{bit}
use Rattle.profile_tables.specs.Triples.{laps}
use Rattle.triples.specs.Inner.{triples_in, comes_back}
use Rattle.triples.proofs.CellLaws.{any-range}
use Rattle.triples.proofs.RowLaws.{rejecting_copied, back_rejects, rows_reject}
use Rattle.triples.proofs.is_rejecting.Goals as goal

pub returns-then-leads_back : goal.returns-then-leads_back
returns-then-leads_back c =
    c.if-leads_back.true
    ∙ back_rejects c.args.n c.copied-a.result (bit c.args.mask) (sym c.leads_back.ensures ∙ c.if-leads_back.true)
    ∙ rejecting_copied (bit c.args.mask) c.args.n c.args.area.now c.copied-a.result c.args.at (omega arith) c.copied-a.ensures

pub returns-else-leads_back : goal.returns-else-leads_back
returns-else-leads_back c =
    let all = comes_back (bit c.args.mask) (laps c.args.n (triples_in c.args.n c.copied-a.result)) in
    any_from_yields_List all _ _ c.any.result c.any.ensures.ran (YieldsList-from_range 0 c.args.n c.args.n refl (omega arith))
    (λ f b q k. search rules)
    ∙ any-range c.args.n all
    ∙ rows_reject c.args.n c.copied-a.result (bit c.args.mask)
    ∙ rejecting_copied (bit c.args.mask) c.args.n c.args.area.now c.copied-a.result c.args.at (omega arith) c.copied-a.ensures
