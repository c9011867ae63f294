-- Another formula in place of a subformula (document 02: editing a rule): the questions in their order, each with its number. MEANING
-- 11.3. Assumes nothing.
use Rattle.std.specs.Prelude.{Bool, true, false, List, ℕ, ltb, length}
use Rattle.formula.specs.Table.{Entries}
use Rattle.formula.specs.declared.Refusal.{Refusal}
use Rattle.formula.specs.Reading.{Reading, reading}
use Rattle.context.specs.Bytes.{replaced}

-- What comes of it. All but the first have subformulas with them: those of the old formula, or, substituted, of the spliced bytes.
pub data Substitution : Type 0 where
  old_unread : Refusal → Substitution
  new_unread : Entries → Refusal → Substitution
  missing : Entries → Substitution
  spliced_unread : Entries → Refusal → Substitution
  substituted : Entries → List ℕ → Substitution

-- the last questions: what reading says of the spliced bytes
abbrev pub of_spliced : (x : Entries) (bytes : List ℕ) → Reading Entries → Substitution
of_spliced x bytes (Reading.refused why) = Substitution.spliced_unread x why
of_spliced x bytes (Reading.accepted y) = Substitution.substituted y bytes

-- question 37: whether there is a subformula e
abbrev pub of_number : (old : List ℕ) (x : Entries) (e : ℕ) (new : List ℕ) → Bool → Substitution
of_number old x e new false = Substitution.missing x
of_number old x e new true = of_spliced x (replaced old x e new) (reading (replaced old x e new))

-- what reading says of the new formula
abbrev pub of_new : (old : List ℕ) (x : Entries) (e : ℕ) (new : List ℕ) → Reading Entries → Substitution
of_new old x e new (Reading.refused why) = Substitution.new_unread x why
of_new old x e new (Reading.accepted y) = of_number old x e new (ltb e (length x.operators))

-- what it says of the old one
abbrev pub of_old : (old : List ℕ) (e : ℕ) (new : List ℕ) → Reading Entries → Substitution
of_old old e new (Reading.refused why) = Substitution.old_unread why
of_old old e new (Reading.accepted x) = of_new old x e new (reading new)

-- Substitution: MEANING 11.3.
unfoldable pub substitution : (old : List ℕ) (e : ℕ) (new : List ℕ) → Substitution
substitution old e new = of_old old e new (reading old)
