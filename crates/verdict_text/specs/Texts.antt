-- The texts of verdicts and refusals: MEANING 6.2. Assumes nothing.
use Rattle.std.specs.Prelude.{List, [], ◌∷◌, ◌++◌, ℕ, take, drop, Ok, Err}
use Rattle.std.proofs.Math.Option.{Option, none, some}
use Rattle.text.specs.Text.{number_text, each, letter_text}
use Rattle.formula.specs.Refusal.{code_of, place_of, binder_place_of}
use Rattle.formula.specs.declared.Refusal.{Refusal}
use Rattle.decision.specs.Verdict as meaning
use Rattle.decision.specs.Contract.{Answer, says, letters_of}
use Rattle.decision.specs.declared.Verdict.TheVariants.{Satisfiable, Unsatisfiable}
use Rattle.construction.specs.Questions.{question_code}
use Rattle.construction.specs.declared.Refusal.TheVariants.{No, Unread}

-- A word, and a number behind it.
abbrev pub worded_text : List ℕ → ℕ → List ℕ
worded_text word n = word ++ number_text n

-- The line of a verdict, without its end: that of MET, with the profiles that it counts last,
abbrev pub met_text : (stem cycle K c : ℕ) → List ℕ
met_text stem cycle K c = worded_text (77 ∷ 69 ∷ 84 ∷ []) stem ++ number_text cycle ++ number_text K ++ number_text c

-- that of NOT,
abbrev pub not_text : (K P : ℕ) → List ℕ
not_text K P = worded_text (78 ∷ 79 ∷ 84 ∷ []) K ++ number_text P

-- that of a refusal by its number alone,
abbrev pub refused_text : ℕ → List ℕ
refused_text code = worded_text (82 ∷ 69 ∷ 70 ∷ 85 ∷ 83 ∷ 69 ∷ 68 ∷ []) code

-- with its place,
abbrev pub placed_text : (code place : ℕ) → List ℕ
placed_text code place = refused_text code ++ worded_text (32 ∷ 97 ∷ 116 ∷ []) place

-- the place of a binder behind it, if there is one,
abbrev pub from_text : Option ℕ → List ℕ
from_text none = []
from_text (some binder-at) = worded_text (32 ∷ 102 ∷ 114 ∷ 111 ∷ 109 ∷ []) binder-at

-- and so that of a refusal of reading;
abbrev pub unread_text : Refusal → List ℕ
unread_text why = placed_text (code_of why) (place_of why) ++ from_text (binder_place_of why)

-- and which of them it is.
abbrev pub verdict_text : Answer → List ℕ
verdict_text (Ok (Satisfiable stem cycle K c)) = met_text stem cycle K c
verdict_text (Ok (Unsatisfiable K P)) = not_text K P
verdict_text (Err (No q)) = refused_text (question_code q)
verdict_text (Err (Unread why)) = unread_text why

-- The letters of the witness, which stand at the buffer's start: those of the stem behind one text, those of the cycle behind another,
-- and a third behind both.
abbrev pub lasso_text : Answer → (letters stem-front cycle-front back : List ℕ) → List ℕ
lasso_text (Ok (Satisfiable stem cycle K c)) letters stem-front cycle-front back =
    each (letter_text stem-front back) (take stem (drop 0 letters)) ++ each (letter_text cycle-front back) (take cycle (drop stem letters))
lasso_text (Ok (Unsatisfiable K P)) letters stem-front cycle-front back = []
lasso_text (Err why) letters stem-front cycle-front back = []

-- The line of a verdict, and one for each letter of a witness.
abbrev pub program_text : Answer → List ℕ → List ℕ
program_text r letters = verdict_text r ++ (10 ∷ []) ++ lasso_text r letters (83 ∷ 32 ∷ []) (76 ∷ 32 ∷ []) (10 ∷ [])

-- That of the verdict that the definition gives: all that the program prints.
abbrev pub shown_text : meaning.Verdict → List ℕ
shown_text v = program_text (says v) (letters_of v)
