-- The stem that the notes give is the way by which the search comes to a node. Assumes nothing.
use Rattle.std.proofs.Common.{◌≡◌, ap, List, [], map, ℕ, suc, ◌*◌, ◌≤◌, ◌<◌, length, get_or, arith}
use Rattle.base.specs.Search.{Item}
use Rattle.base.specs.Spread.{Linked}
use Rattle.formula.specs.Table.{Table}
use Rattle.tableau.specs.Saturation.{Subset}
use Rattle.tableau.specs.Transition.{Transition, letter}
use Rattle.tableau.specs.Nodes.{nodes}
use Rattle.tableau.specs.Origins.{way_letters, Origins}
use Rattle.tableau.proofs.NodeLaws.{nodes-first}
use Rattle.witness.specs.Letters.{node_item, stem_letters, StemNoted}
use Rattle.witness.proofs.ChainLaws.{labels_are}

-- the way to the root is empty
way-root : (t : Table) → way_letters t 0 ≡ []
unfolding nodes
way-root t = ap (λ (l : List (Item Transition Subset)). map letter (get_or l 0 (record { way = []; at = [] })).way)
    (nodes-first t)

module _ {t : Table} {o : List ℕ} {n : ℕ} (origins : Origins t o n) (j : ℕ) (inside : j < n) where
  linked : Linked (node_item o) j
  linked i h = omega (arith, (origins.is (suc i) (omega arith) (omega arith)).before)

  -- notes with room for them lead to smaller numbers
  pub origins-noted : 2 * n ≤ length o → StemNoted o j
  origins-noted room = record { room = omega arith; linked = linked }

  -- Theorem: the letters along the notes are those of the way.
  pub stem_is : stem_letters o j ≡ way_letters t j
  stem_is =
      labels_are (node_item o) linked (way_letters t) (way-root t) (λ i h. (origins.is (suc i) (omega arith) (omega arith)).onward) j j
      (omega arith) (omega arith)
