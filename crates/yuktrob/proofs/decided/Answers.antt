-- yuktrob::decided meets its contract: the text of what the decision answered is that of the verdict, whole where there is room.
-- Assumes nothing.
use Rattle.std.proofs.Common.{ℕ, zero-le}
use Rattle.std.proofs.Math.ListN.{length-replicate}
use Rattle.io.proofs.Counting.{prefix_len_of_le}
use Rattle.text.proofs.Writing.{place-within}
use Rattle.decision.specs.Verdict.{workspace_size, witness_size}
use Rattle.yuktrob.specs.Printed.{nodes, profiles}
use Rattle.yuktrob.proofs.Room.{enough, prints}
use Rattle.yuktrob.proofs.decided.Goals as goal

pub searched-answer-requires : goal.searched-answer-requires
searched-answer-requires c =
    enough (length-replicate {A = ℕ} (workspace_size nodes profiles) 0) (length-replicate {A = ℕ} (witness_size nodes profiles) 0)

pub returns : goal.returns
returns c =
    record {
      prefix_len = prefix_len_of_le _ _ (place-within c.program_text.ensures zero-le);
      printed = prints c.searched-answer.ensures
          (length-replicate {A = ℕ} (workspace_size nodes profiles) 0) (length-replicate {A = ℕ} (witness_size nodes profiles) 0)
          c.program_text.ensures;
    }
