-- The questions after reading that an operation with lent room may answer by no, by the numbers of the papers. Assumes nothing.
use Rattle.std.specs.Prelude.{ℕ}
use Rattle.construction.specs.declared.Question.{Question}
use Rattle.construction.specs.declared.Question.TheVariants.{Capacity, Workspace, Buffer, Nodes, Profiles, Built}

-- The number of each question: MEANING 5.2 for 11 to 15, 5.12 for 36.
abbrev pub question_code : Question → ℕ
question_code Capacity = 11
question_code Workspace = 12
question_code Buffer = 13
question_code Nodes = 14
question_code Profiles = 15
question_code Built = 36
