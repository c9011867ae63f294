-- What each step of a substitution says of the definition: a table that reading hands back is that of the bytes (`accepted_as`), a
-- subformula's bytes are among the formula's (`spans`), and what reading says of the prefix of the spliced bytes it says of all of them,
-- since it looks at no more (`seen-reading`). Assumes nothing.
use mathlib.Core.Path.{◌≡◌, refl, sym, ap, subst, ◌∙◌}
use mathlib.Core.Bool.{Bool, true}
use mathlib.Core.List.{List}
use Prim.Native.Nat.{ℕ, ◌-◌, ◌≤◌, ◌<◌}
use native.Mathlib.Omega.{arith}
use lib.Dec.{ltb}
use lib.ListN.{length, take, replicate, length-append}
use lib.Seq.{take_all, take_at}
use borrow.Author.Tests.{lt-ltb, le-ltb}
use Rattle.base.proofs.NumberLaws.{values_length}
use Rattle.formula.specs.Formula.{Formula, size}
use Rattle.formula.specs.Table.{Entries, entries, table}
use Rattle.formula.specs.Reading.{Reading, parse, reading}
use Rattle.formula.specs.Rows.{operator_at, entries_of, reading_of}
use Rattle.formula.specs.Access.{Readable}
use Rattle.formula.specs.Contract as formula
use Rattle.formula.specs.Contract.{no_table}
use Rattle.formula.specs.declared.Refusal as unread
use Rattle.formula.specs.declared.Table.{Table}
use Rattle.formula.proofs.RowLaws.{reading-parsed, outcome-told}
use Rattle.formula.proofs.FitLaws.{accepted_readable}
use Rattle.formula.proofs.WellFormed.{table-size}
use Rattle.formula.proofs.Prefix.{reading_prefix}
use Rattle.formula.proofs.Measure.{accepted-length}
use Rattle.context.specs.Bytes.{first_byte, last_byte, spliced, replaced}
use Rattle.context.specs.Context.{number}
use Rattle.context.proofs.Located.{located}
use Rattle.context.proofs.ReadLaws.{span-order}
use Rattle.substitution.specs.Substitution.{Substitution, of_spliced, of_number, of_new, of_old, substitution}
use Rattle.substitution.specs.Contract.{table_of, padded, turned_away, handed}
use Rattle.substitution.specs.Inner.{ReadAs, spliced_at, Spans, Splices}
use Rattle.substitution.specs.declared.Span.{Span}
use Rattle.substitution.specs.declared.Prefix.{Prefix}
use Rattle.substitution.specs.declared.Substitution as result
use Rattle.substitution.specs.declared.Refusal.{Refusal}
use Rattle.substitution.specs.declared.Refusal.TheVariants.{Unread, Missing}
use Rattle.std.specs.Prelude.{Result, Ok}
use Rattle.substitution.specs.declared.Source.TheVariants.{New, Spliced}

-- ---- after reading
pub accepted_as : (bytes : List ℕ) (r : Result Table unread.Refusal) {t : Table} → reading_of r ≡ reading bytes
    → r ≡ formula.stored (reading bytes) → r ≡ Ok t → ReadAs bytes t
accepted_as bytes r {t} is determined a =
    let e = outcome-told bytes r is a in
    let told : ◌≡◌ {A = Result Table unread.Refusal} (Ok t) (Ok (table_of (entries_of t))) =
    sym a ∙ determined ∙ ap formula.stored e in
    record { is = e; stored = cc }

pub as_readable : {bytes : List ℕ} {t : Table} → ReadAs bytes t → Readable t
as_readable {bytes} {t} h = accepted_readable bytes (Ok t) (sym h.is) refl

pub read_few : (bytes : List ℕ) {x : Entries} → reading bytes ≡ Reading.accepted x → length bytes ≤ 96
read_few bytes e = (accepted-length bytes (reading-parsed bytes e).1).1

-- ---- the spliced bytes, as far as reading looks at them
module _ {bytes : List ℕ} {p : Prefix} (h : Splices bytes p) where
  seen : take p.count p.bytes ≡ take 97 bytes
  seen =
      ap (take p.count) h.is
      ∙ take_at (take 97 bytes) (replicate {A = ℕ} (97 - length (take 97 bytes)) 0) p.count (sym h.count)

  pub prefix_fits : p.count ≤ length p.bytes
  prefix_fits =
      omega (
        arith,
        h.count,
        ap length h.is,
        length-append (take 97 bytes) (replicate {A = ℕ} (97 - length (take 97 bytes)) 0),
      )

  pub prefix_count : p.count ≡ length (take p.count p.bytes)
  prefix_count = h.count ∙ sym (ap length seen)

  seen-reading : reading (take p.count p.bytes) ≡ reading bytes
  seen-reading = ap reading seen ∙ reading_prefix bytes

  -- all of them, where reading accepts them
  seen_all : {x : Entries} {t : Table} → reading bytes ≡ Reading.accepted x → t ≡ table_of x
      → ◌≡◌ {A = result.Substitution} (record { answer = Ok p.count; table = t; bytes = p.bytes })
      (handed (Substitution.substituted x bytes))
  seen_all e f =
      let whole = take_all 97 bytes (omega (arith, read_few bytes e)) in
      let count : p.count ≡ length bytes = h.count ∙ ap length whole in
      let all : p.bytes ≡ padded bytes = h.is ∙ ap padded whole in
      λ i. record { answer = Ok (count i); table = f i; bytes = all i }

-- ---- where a subformula's bytes are
pub entries-size : (f : Formula) → length (entries f).operators ≡ size f
unfolding table
entries-size f = table-size f

-- they are among the formula's
abbrev Inside : (old : List ℕ) (x : Entries) (e : ℕ) → Type 0
Inside old x e = (first_byte x e ≤ last_byte x e) × (last_byte x e ≤ length old)

span-inside : (old : List ℕ) (f : Formula) (e : ℕ) → parse old ≡ Reading.accepted f → e < size f → Inside old (entries f) e
span-inside old f e q l =
    let (c, a, p, r) = located f e l in
    subst (λ (n : ℕ). Inside old (entries f) n) (sym r)
    (subst (λ (g : Formula). Inside old (entries g) (number c)) (sym p) (span-order old c a (q ∙ ap Reading.accepted p)))

-- ---- the questions
-- a refusal with the old table
with_table : {old : List ℕ} {t : Table} → ReadAs old t → (why : Refusal)
    → turned_away why t ≡ turned_away why (table_of (entries_of t))
with_table h why = ap (turned_away why) h.stored

module _ (old : List ℕ) (t : Table) (h : ReadAs old t) (e : ℕ) (new : List ℕ) where
  abbrev x : Entries
  x = entries_of t

  many : length x.operators ≡ t.count
  many = values_length (operator_at t.rows) 0 t.count

  module _ {span : Span} (s : (span.from ≡ first_byte x e) × (span.to ≡ last_byte x e)) where
    spliced-is : spliced_at span old new ≡ replaced old x e new
    spliced-is i = spliced (s.0 i) (s.1 i) old new

    pub spans : e < t.count → length new ≤ 96 → Spans span old new
    spans l few =
        let p = reading-parsed old h.is in
        let size : length x.operators ≡ size p.0 = ap (λ (y : Entries). length y.operators) (sym p.2) ∙ entries-size p.0 in
        let inside = subst (λ (y : Entries). Inside old y e) p.2 (span-inside old p.0 e p.1 (omega (arith, many, size))) in
        record {
          order = omega (arith, s.0, s.1, inside.0);
          inside = omega (arith, s.1, inside.1);
          old_few = read_few old h.is;
          new_few = few;
        }

    -- what reading says of the spliced bytes, by what it says of the prefix
    module _ {p : Prefix} (b : Splices (spliced_at span old new) p) where
      prefix_told : {r : Reading Entries} → reading (take p.count p.bytes) ≡ r
          → handed (of_spliced x (spliced_at span old new) r) ≡ handed (of_number old x e new true)
      prefix_told {r} q =
          ap (λ (l : List ℕ). handed (of_spliced x l r)) spliced-is
          ∙ sym (ap (λ (r : Reading Entries). handed (of_spliced x (replaced old x e new) r))
          (ap reading (sym spliced-is) ∙ sym (seen-reading b) ∙ q))

      pub prefix_refused : {why : unread.Refusal} → reading (take p.count p.bytes) ≡ Reading.refused why
          → turned_away (Unread Spliced why) t ≡ handed (of_number old x e new true)
      prefix_refused q = with_table h (Unread Spliced _) ∙ prefix_told q

      pub prefix_accepted : {u : Table} → ReadAs (take p.count p.bytes) u
          → record { answer = Ok p.count; table = u; bytes = p.bytes } ≡ handed (of_number old x e new true)
      prefix_accepted a = seen_all b (sym (seen-reading b) ∙ a.is) a.stored ∙ prefix_told a.is

  -- question 37
  number-told : {b : Bool} → ltb e (length x.operators) ≡ b
      → handed (of_number old x e new b) ≡ handed (of_number old x e new (ltb e (length x.operators)))
  number-told l = sym (ap (λ (b : Bool). handed (of_number old x e new b)) l)

  pub number-there : e < t.count → handed (of_number old x e new true) ≡ handed (of_number old x e new (ltb e (length x.operators)))
  number-there l = number-told (lt-ltb e (length x.operators) (omega (arith, many)))

  pub number-missing : t.count ≤ e → turned_away Missing t ≡ handed (of_number old x e new (ltb e (length x.operators)))
  number-missing l = with_table h Missing ∙ number-told (le-ltb e (length x.operators) (omega (arith, many)))

  -- what reading says of the new formula,
  pub new_told : {r : Reading Entries} → reading new ≡ r → handed (of_new old x e new r) ≡ handed (of_new old x e new (reading new))
  new_told q = sym (ap (λ (r : Reading Entries). handed (of_new old x e new r)) q)

  pub new_refused : {why : unread.Refusal} → reading new ≡ Reading.refused why
      → turned_away (Unread New why) t ≡ handed (of_new old x e new (reading new))
  new_refused q = with_table h (Unread New _) ∙ new_told q

-- and of the old one
pub old_told : (old : List ℕ) (e : ℕ) (new : List ℕ) {r : Reading Entries} → reading old ≡ r
    → handed (of_old old e new r) ≡ handed (substitution old e new)
unfolding substitution
old_told old e new q = sym (ap (λ (r : Reading Entries). handed (of_old old e new r)) q)
