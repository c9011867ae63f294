-- `profile_search::put2` puts a number into two bytes of a record. What is read is what was put.
use Rattle.std.proofs.Common.{ap, ℕ, ◌+◌}
use Rattle.profile_search.proofs.RecordLaws.{put_two, put-changed}
use Rattle.profile_search.proofs.put2.Goals as goal

pub returns : goal.returns
returns c =
    let e = ap (λ (at : ℕ). at + c.args.offset) c.record_start.ensures in
    let two = put_two c.args.area.now c.args.x e c.requires.two_within.enough c.requires.x_bound in
    let changed = put-changed c.args.area.now c.args.x e c.requires.two_within.enough in
    rw c.put_number.ensures record { offset_after = two; bytes_between = changed }
