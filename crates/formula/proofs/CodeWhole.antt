-- The whole formula: where the command that it begins with is read, the bytes have ended or not, and the table holds the entries of the
-- formula. Assumes nothing.
use Rattle.std.proofs.Common.{◌≡◌, refl, sym, ap, ◌∙◌, List, [], ℕ, ◌+◌, ◌≤◌, ◌<◌, arith, length, drop, replicate, length-drop}
use Rattle.std.proofs.Common.{drop_of_length-le, drop-cons}
use Rattle.std.specs.Prelude.{Result, Ok, Err, IfOk}
use Rattle.formula.specs.Formula.{Formula}
use Rattle.formula.specs.Table.{entries, table}
use Rattle.formula.specs.Refusal.{at_byte}
use Rattle.formula.specs.Reading.{Read, Reading, ended, whole, with_entries, reading, reading_from, formula}
use Rattle.formula.specs.Rows.{encoded, reading_of}
use Rattle.formula.specs.Contract.{Filled, stored}
use Rattle.formula.specs.declared.Fault.TheVariants.{BytesLeft}
use Rattle.formula.specs.declared.Table.{Table}
use Rattle.formula.specs.declared.Head.{Head}
use Rattle.formula.specs.declared.Refusal.{Refusal}
use Rattle.formula.specs.Inner.{point, Got, Agrees, ReadFrom}
use Rattle.formula.proofs.WellFormed.{table-size}
use Rattle.formula.proofs.EncodedLaws.{wrote-encoded, stored-reading, stored-holds}
use Rattle.formula.proofs.From.{start-at, reading_from-is, reading_from-start}

-- rows in which nothing is written yet
abbrev empty : List ℕ
empty = replicate {A = ℕ} 144 0

-- the whole formula, in the rows q, where reading stands at y behind it
module _ {s : List ℕ} {h y : Head} {q : List ℕ} {x : Read Formula} (g : Got s 0 h [] empty x q y) where
  -- the bytes have not ended,
  whole_extra : y.at < length s → whole x ≡ Reading.refused (at_byte BytesLeft y.at)
  whole_extra l = ap whole g.is ∙ ap (ended g.got (point s y)) (drop-cons s y.at 0 l)

  -- or they have, and the rows, empty before, hold the formula that was read
  whole-accepted : length s ≤ y.at → Ok (record { count = y.count; rows = q }) ≡ stored (with_entries (whole x))
  unfolding table
  whole-accepted l =
      let n : y.count ≡ length (table g.got) = g.count ∙ omega (arith, table-size g.got) in
      let full : q ≡ encoded (entries g.got) = wrote-encoded g.written in
      rw (g.is, drop_of_length-le s l, n, full)

-- where reading begins, at the byte of a place
abbrev begin : ℕ → Head
begin at = record { at = at; count = 0; ors = 0; nexts = 0; fixpoints = 0 }

-- the three answers, from the command there
module _ (s : List ℕ) (at : ℕ) where
  abbrev first : Read Formula
  first = formula (length (drop at s)) [] (start-at s at)

  abbrev Begun : List ℕ → Result Head Refusal → Type 0
  Begun q r = (k : ℕ) → length s ≤ at + k → Agrees s 0 (begin at) [] empty (formula k [] (start-at s at)) q r

  at_first : (q : List ℕ) (r : Result Head Refusal) → Begun q r → Agrees s 0 (begin at) [] empty first q r
  at_first q r begun = begun (length (drop at s)) (simp length-drop (omega arith))

  told : {o : Reading Formula} → whole first ≡ o → stored (with_entries o) ≡ stored (reading_from s at)
  told w = sym (ap stored (reading_from-is s at ∙ ap with_entries w))

  pub refused-reading : {why : Refusal} → Begun empty (Err why) → ReadFrom s at (Err why)
  refused-reading {why} begun = told (ap whole (at_first empty (Err why) begun))

  pub extra_reading : (q : List ℕ) (y : Head) → Begun q (Ok y) → y.at < length s → ReadFrom s at (Err (at_byte BytesLeft y.at))
  extra_reading q y begun l = told (whole_extra (at_first q (Ok y) begun) l)

  pub accepted-reading : (q : List ℕ) (y : Head) → Begun q (Ok y) → length s ≤ y.at →
      ReadFrom s at (Ok (record { count = y.count; rows = q }))
  accepted-reading q y begun l = whole-accepted (at_first q (Ok y) begun) l ∙ told refl

-- reading from byte 0, clause by clause
pub clauses_of : (s : List ℕ) (r : Result Table Refusal) → ReadFrom s 0 r →
    (reading_of r ≡ reading s) × IfOk r Filled × (r ≡ stored (reading s))
clauses_of s r a =
    let all : r ≡ stored (reading s) = a ∙ ap stored (reading_from-start s) in
    (rw all (stored-reading s), rw all (stored-holds s), all)
