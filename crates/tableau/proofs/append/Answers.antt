-- `tableau::append` puts a word at the end of those known, marks it and notes where it was found from, unless there is no room.
use Rattle.std.proofs.Common.{ℕ, ◌+◌, subst, arith}
use Rattle.tableau.specs.Area.{NodeAdded}
use Rattle.tableau.proofs.KeepLaws.{add_new, add-full}
use Rattle.tableau.proofs.SlotLaws.{marked_more}
use Rattle.tableau.proofs.StepLaws.{came_last}
use Rattle.tableau.proofs.append.Goals as goal

pub returns-then-capacity-known-clause-node_added : goal.returns-then-capacity-known-clause-node_added
returns-then-capacity-known-clause-node_added c =
    let fits = c.requires.growing.room.fits in
    subst (λ (n : ℕ).
    NodeAdded c.args.known c.args.capacity c.args.new c.args.area.now c.args.origins.now c.args.area.now c.args.origins.now n)
    {x = c.args.known + 1} {y = c.args.capacity + 1} (omega (arith, fits))
    (add-full c.args.new _ fits c.requires.known_value c.if-capacity-known.true)

pub returns-clause-node_added : goal.returns-clause-node_added
returns-clause-node_added c =
    add_new c.args.new _ c.requires.growing.room.fits c.requires.known_value c.if-capacity-known.false c.requires.growing.notes
    c.put_number.ensures c.note.ensures

pub returns-clause-came_in : goal.returns-clause-came_in
returns-clause-came_in c =
    let last = came_last c.args.known c.args.new.set (omega arith) (omega arith) c.put_number.ensures in
    record {
      more = omega arith;
      most = omega arith;
      below = omega arith;
      stands = last.0;
      stay = last.1;
      marked = marked_more c.args.new.set _ c.requires.growing.marked (omega arith) (omega arith) c.slot-k.ensures (omega arith)
          c.put_number.ensures;
    }
