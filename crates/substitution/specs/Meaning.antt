-- What each outcome of a substitution says, without a reader of tables: of the formulas that the bytes are, of the context around the
-- subformula that gives place, and of the bytes before and behind it. MEANING 11.5. proofs/Meaning.antt has the theorems. Assumes nothing.
use Rattle.std.specs.Prelude.{◌≡◌, ◌⊎◌, List, ◌++◌, ℕ, ◌≤◌}
use Rattle.formula.specs.Formula.{Formula, size}
use Rattle.formula.specs.Table.{Entries, entries}
use Rattle.formula.specs.Refusal.{code_of}
use Rattle.formula.specs.Ways.{spelled}
use Rattle.formula.specs.Reading.{Reading, parse}
use Rattle.formula.specs.declared.Refusal.{Refusal}
use Rattle.context.specs.Context.{Context, plugged, number}
use Rattle.context.specs.Renumbered.{replaced_entries, Kept}
use Rattle.substitution.specs.Substitution.{Substitution}

-- Both are formulas, with x the subformulas of the old one, and subformula e of that is `part`, in the context `around`.
pub record Located (old : List ℕ) (e : ℕ) (new : List ℕ) (x : Entries) : Type 0 where
  pub around : Context
  pub part : Formula
  pub formula : Formula
  pub old_is : parse old ≡ Reading.accepted (plugged around part)
  pub rows : x ≡ entries (plugged around part)
  pub numbered : e ≡ number around
  pub new_is : parse new ≡ Reading.accepted formula
  -- the old bytes: those before the part, its own, those behind it
  pub before : List ℕ
  pub behind : List ℕ
  pub old_bytes : old ≡ before ++ (spelled part ++ behind)

-- the spliced bytes: the new formula's where the part's were, and all others as they were
abbrev pub exchanged : {old : List ℕ} {e : ℕ} {new : List ℕ} {x : Entries} → Located old e new x → List ℕ
exchanged {new = new} l = l.before ++ (new ++ l.behind)

-- the formula that they spell
abbrev pub formula_now : {old : List ℕ} {e : ℕ} {new : List ℕ} {x : Entries} → Located old e new x → Formula
formula_now l = plugged l.around l.formula

-- Reading refuses the spliced bytes, with 3 or 4.
pub record TooLarge (old : List ℕ) (e : ℕ) (new : List ℕ) (x : Entries) (why : Refusal) : Type 0 where
  pub located : Located old e new x
  pub refused : parse (exchanged located) ≡ Reading.refused why
  pub limit : (code_of why ≡ 3) ⊎ (code_of why ≡ 4)

-- Reading accepts them: y are the subformulas of the old formula with the new one in place of the part, and of each row `Kept` says what
-- has become of it.
pub record Replaced (old : List ℕ) (e : ℕ) (new : List ℕ) (y : Entries) (bytes : List ℕ) : Type 0 where
  pub x : Entries
  pub located : Located old e new x
  pub spliced : bytes ≡ exchanged located
  pub accepted : parse bytes ≡ Reading.accepted (formula_now located)
  pub rows : y ≡ entries (formula_now located)
  pub rows_by : y ≡ replaced_entries e x (entries located.formula)
  pub kept : Kept e x (entries located.formula) y

-- Reading accepts the old bytes, and x are their subformulas.
pub record OldRead (old : List ℕ) (x : Entries) : Type 0 where
  pub formula : Formula
  pub old_is : parse old ≡ Reading.accepted formula
  pub rows : x ≡ entries formula

-- The old formula has no subformula e.
pub record NotThere (old : List ℕ) (e : ℕ) (new : List ℕ) (x : Entries) : Type 0 where
  pub old_read : OldRead old x
  pub formula : Formula
  pub new_is : parse new ≡ Reading.accepted formula
  pub few : size old_read.formula ≤ e

-- what is so after each outcome
abbrev pub Tells : (old : List ℕ) (e : ℕ) (new : List ℕ) → Substitution → Type 0
Tells old e new (Substitution.old_unread why) = parse old ≡ Reading.refused why
Tells old e new (Substitution.new_unread x why) = OldRead old x × (parse new ≡ Reading.refused why)
Tells old e new (Substitution.missing x) = NotThere old e new x
Tells old e new (Substitution.spliced_unread x why) = TooLarge old e new x why
Tells old e new (Substitution.substituted y bytes) = Replaced old e new y bytes
