-- `tableau::find` tells where a word stands among the first `known`, by looking at one after the other.
use Rattle.std.proofs.Common.{ℕ, ◌*◌, eqb, refl, sym, ap, ◌∙◌, zero-add, arith, rules, tests}
use Rattle.std.proofs.lemmas.Iterator.{YieldsList-from_range, YieldsList-from_map}
use Rattle.std.proofs.lemmas.Iterator.Adapters.{option_map_id}
use Rattle.std.proofs.lemmas.Iterator.Consumers.{YieldsList-at}
use Rattle.std.proofs.lemmas.Iterator.Search.{find_from_yields_List}
use Rattle.tableau.specs.Area.{eight}
use Rattle.tableau.specs.declared.NodeNumber.{NodeNumber}
use Rattle.tableau.proofs.AreaLaws.{place, number_if, found_from}
use Rattle.tableau.proofs.find.Goals as goal

pub returns : goal.returns
returns c =
    sym (option_map_id c.find.result)
    ∙ find_from_yields_List (λ (n : NodeNumber). eqb (eight c.args.area.now (8 * n.0)) c.args.set) _ _ c.find.result c.find.ensures.ran
    (YieldsList-from_map _ (λ (i : ℕ). record { 0 = i }) (YieldsList-at c.map.ensures.source
    (YieldsList-from_range 0 c.args.known c.args.known refl (omega arith))) c.map.ensures.closure (λ x r q k. search (rules, tests)))
    (λ x b q k. search (rules, tests))
    ∙ found_from c.args.area.now c.args.set 0 c.args.known
    ∙ ap (λ (k : ℕ). number_if (place c.args.area.now c.args.known c.args.set) c.args.known k) (zero-add _)
