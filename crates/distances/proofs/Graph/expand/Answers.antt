-- `Graph::expand` expands the vertices of one word after the other; past the first words the level has none.
use Rattle.std.proofs.Common.{◌+◌}
use Rattle.distances.proofs.ExpandLaws.{passed, passed-word}
use Rattle.distances.proofs.ExpandLaws.{expanded_both}
use Rattle.distances.proofs.Graph.expand.Goals as goal

pub loop-at-preserved : goal.loop-at-preserved
loop-at-preserved c =
    let level = c.args.level.now in
    let loop = c.loop-at in
    expanded_both (passed level (loop.at + 1)) loop.invariant c.expand_word.ensures (passed-word level loop.at)
