-- What a substitution tells is small: a refusal of reading has a number up to 9 and places up to 97, there are at most 96 bytes, and at
-- most 48 subformulas. Assumes nothing.
use mathlib.Core.Path.{◌≡◌, refl, ap}
use mathlib.Core.Bool.{Bool, true, false}
use mathlib.Core.List.{List}
use Prim.Native.Nat.{ℕ, ◌≤◌}
use native.Mathlib.Omega.{arith}
use lib.Dec.{ltb}
use lib.ListN.{length}
use Rattle.formula.specs.Table.{Entries}
use Rattle.formula.specs.Refusal.{code_of, PlacesWithin}
use Rattle.formula.specs.Reading.{Reading, reading}
use Rattle.formula.specs.declared.Refusal.{Refusal}
use Rattle.formula.proofs.Limits.{parse-limited}
use Rattle.formula.proofs.Fuel.{parse_stopped}
use Rattle.formula.proofs.Early.{parse-early}
use Rattle.formula.proofs.RowLaws.{reading-parsed, reading-unread}
use Rattle.context.specs.Bytes.{replaced}
use Rattle.substitution.specs.Substitution.{of_spliced, of_number, of_new, of_old, substitution}
use Rattle.substitution.specs.Contract.{handed}
use Rattle.substitution.specs.declared.Refusal as answer
use Rattle.substitution.specs.declared.Refusal.TheVariants.{Unread, Missing}
use Rattle.std.specs.Prelude.{Result, Ok, Err}
use Rattle.substitution.specs.declared.Substitution as result
use Rattle.substitution.proofs.OutcomeLaws.{read_few, entries-size}

abbrev pub Small : Refusal → Type 0
Small why = (code_of why ≤ 9) × PlacesWithin 97 why

abbrev pub AnswerSmall : Result ℕ answer.Refusal → Type 0
AnswerSmall (Ok count) = count ≤ 96
AnswerSmall (Err (Unread source why)) = Small why
AnswerSmall (Err Missing) = Unit {0}

pub record Bounded (r : result.Substitution) : Type 0 where
  pub answered : AnswerSmall r.answer
  pub few : r.table.count ≤ 48

refused-small : (bytes : List ℕ) {why : Refusal} → reading bytes ≡ Reading.refused why → Small why
refused-small bytes {why} e =
    let p = reading-unread bytes e in
    ((parse_stopped bytes p).known, parse-early bytes why p)

read_rows : (bytes : List ℕ) {x : Entries} → reading bytes ≡ Reading.accepted x → length x.operators ≤ 48
read_rows bytes e =
    let p = reading-parsed bytes e in
    omega (arith, ap (λ (y : Entries). length y.operators) p.2, entries-size p.0, (parse-limited bytes p.0 p.1).commands)

pub substitution_bounded : (old : List ℕ) (e : ℕ) (new : List ℕ) → Bounded (handed (substitution old e new))
unfolding substitution
substitution_bounded old e new = by_old (reading old) refl
  where
    by_spliced : (x : Entries) (bytes : List ℕ) → length x.operators ≤ 48 → (r : Reading Entries) → reading bytes ≡ r
        → Bounded (handed (of_spliced x bytes r))
    by_spliced x bytes few (Reading.refused why) q = record { answered = refused-small bytes q; few = few }
    by_spliced x bytes few (Reading.accepted y) q = record { answered = read_few bytes q; few = read_rows bytes q }

    by_number : (x : Entries) → length x.operators ≤ 48 → (b : Bool) → Bounded (handed (of_number old x e new b))
    by_number x few false = record { answered = tt; few = few }
    by_number x few true = by_spliced x (replaced old x e new) few (reading (replaced old x e new)) refl

    by_new : (x : Entries) → length x.operators ≤ 48 → (r : Reading Entries) → reading new ≡ r → Bounded (handed (of_new old x e new r))
    by_new x few (Reading.refused why) q = record { answered = refused-small new q; few = few }
    by_new x few (Reading.accepted y) q = by_number x few (ltb e (length x.operators))

    by_old : (r : Reading Entries) → reading old ≡ r → Bounded (handed (of_old old e new r))
    by_old (Reading.refused why) q = record { answered = refused-small old q; few = omega arith }
    by_old (Reading.accepted x) q = by_new x (read_rows old q) (reading new) refl
