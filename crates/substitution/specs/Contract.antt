-- What a substitution hands back, by the definition's outcome: every byte of it. Assumes nothing.
use Rattle.std.specs.Prelude.{List, [], ◌++◌, ℕ, ◌-◌, length, replicate, Result, Ok, Err}
use Rattle.formula.specs.Table.{Entries}
use Rattle.formula.specs.Rows.{encoded}
use Rattle.formula.specs.Refusal.{code_of}
use Rattle.formula.specs.Contract.{no_table}
use Rattle.formula.specs.declared.Table.{Table}
use Rattle.substitution.specs.Substitution.{Substitution}
use Rattle.substitution.specs.declared.Substitution as result
use Rattle.substitution.specs.declared.Refusal.{Refusal}
use Rattle.substitution.specs.declared.Refusal.TheVariants.{Unread, Missing}
use Rattle.substitution.specs.declared.Source.TheVariants.{Old, New, Spliced}

-- the table that holds these subformulas
abbrev pub table_of : Entries → Table
table_of x = record { count = length x.operators; rows = encoded x }

-- 97 bytes: the given ones, and zeros behind them
abbrev pub padded : List ℕ → List ℕ
padded bytes = bytes ++ replicate {A = ℕ} (97 - length bytes) 0

-- a refusal with a table, and no bytes
abbrev pub turned_away : Refusal → Table → result.Substitution
turned_away why t = record { answer = Err why; table = t; bytes = padded [] }

-- With a refusal comes the old formula's table, or none if that is refused itself (MEANING 11.3).
abbrev pub handed : Substitution → result.Substitution
handed (Substitution.old_unread why) = turned_away (Unread Old why) no_table
handed (Substitution.new_unread x why) = turned_away (Unread New why) (table_of x)
handed (Substitution.missing x) = turned_away Missing (table_of x)
handed (Substitution.spliced_unread x why) = turned_away (Unread Spliced why) (table_of x)
handed (Substitution.substituted x bytes) =
    record { answer = Ok (length bytes); table = table_of x; bytes = padded bytes }

-- the number of each answer, that of the question which is answered by no; 0 if the formula is substituted
abbrev pub number_of : Result ℕ Refusal → ℕ
number_of (Ok count) = 0
number_of (Err (Unread source why)) = code_of why
number_of (Err Missing) = 37
