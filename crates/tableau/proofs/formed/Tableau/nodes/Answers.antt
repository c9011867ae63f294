-- `Tableau::nodes` is the search in one part, with no relation to note transitions in.
use Rattle.tableau.proofs.FoundLaws.{some_counted, gone_held, gone-origins}
use Rattle.tableau.proofs.formed.Tableau.nodes.Goals as goal

pub returns-clause-nodes_held : goal.returns-clause-nodes_held
returns-clause-nodes_held c =
    let s = c.search_from_root.ensures.searched in gone_held s.gone s.begun (λ h. h)

pub returns-clause-origins : goal.returns-clause-origins
returns-clause-origins c =
    let s = c.search_from_root.ensures.searched in
    some_counted _ c.args.capacity c.search_from_root.result c.search_from_root.ensures.fits (λ h. gone-origins s.gone s.begun h h)
