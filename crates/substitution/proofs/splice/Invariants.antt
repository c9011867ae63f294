-- `substitution::splice`: one byte after another over zeros. Assumes nothing.
use Rattle.std.proofs.Common.{length}
use Rattle.substitution.specs.Inner.{spliced_at}
use Rattle.substitution.proofs.SpliceLaws.{Writing}
use Rattle.substitution.proofs.splice.Given as goal

abbrev pub invariant-loop-byte : goal.invariant-loop-byte
invariant-loop-byte l = Writing l.initial.byte-iterator (spliced_at l.fn.span l.old l.new) l.count l.bytes (length l.yielded)
