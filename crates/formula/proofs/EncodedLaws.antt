-- The bytes of a table. Its rows are three columns (`encoded-command` and the two behind it), and two tables are the same where every
-- subformula has the same bytes. So rows that were empty before a list of subformulas was written hold its encoding (`wrote-encoded`);
-- and decoding the encoding of an accepted formula gives back its subformulas, for the operands' numbers that the decoding works out are
-- those of a well formed table (`encoded-entries`). Assumes nothing.
use Rattle.std.proofs.Common.{◌≡◌, refl, sym, ap, subst, ◌∙◌, Bool, true, false, List, ◌++◌, map, ℕ, ◌+◌, ◌-◌, ◌≤◌, ◌<◌, arith, length}
use Rattle.std.proofs.Common.{get_or, replicate, length-append, get_or-append-add, ext_get_or}
use Rattle.std.proofs.Math.Decide.{dec_lt}
use Rattle.std.proofs.Math.ListN.{length-replicate, get_or-replicate, get_or-append, get_or-eq_default}
use Rattle.std.specs.Prelude.{Result, IfOk}
use Rattle.base.specs.Lists.{range}
use Rattle.base.proofs.ListLaws.{get_d_map}
use Rattle.base.proofs.NumberLaws.{values_at, values_length}
use Rattle.formula.specs.Formula.{Leaf, Formula, size}
use Rattle.formula.specs.Table.{Operator, Table as Operators, Entries, entries, table, ends_from, lengths}
use Rattle.formula.specs.Reading.{opcode, Reading, parse, with_entries, reading}
use Rattle.formula.specs.Rows.{operator_of, opcode_at, operand_at, length_at, end_at, operator_at, operators_of}
use Rattle.formula.specs.Rows.{lengths_of, entries_of}
use Rattle.formula.specs.Rows.{opcode_byte, operand_of, column, encoded, reading_of}
use Rattle.formula.specs.Contract.{Filled, stored}
use Rattle.formula.specs.Inner.{RowKept, RowsWritten}
use Rattle.formula.specs.Occurrence.{nothing}
use Rattle.formula.specs.declared.Table.{Table}
use Rattle.formula.specs.declared.Refusal.{Refusal}
use Rattle.formula.proofs.Limits.{parse-limited}
use Rattle.formula.proofs.WellFormed.{Pair, Operands, table-size, length-lengths, end_by_length}
use Rattle.formula.proofs.WellFormed.{operator_in, end_in, parse_shaped}

length-column : (bytes : List ℕ) → length (column bytes) ≡ 48
unfolding column
length-column bytes = values_length (λ e. get_or bytes e 0) 0 48

column-at : (bytes : List ℕ) (e : ℕ) → e < 48 → get_or (column bytes) e 0 ≡ get_or bytes e 0
unfolding column
column-at bytes e l = values_at (λ i. get_or bytes i 0) 0 48 e 0 l ∙ ap (λ (i : ℕ). get_or bytes i 0) {x = 0 + e} {y = e} (omega arith)

-- an element of the second of two lists
second_at : (p q : List ℕ) (n i : ℕ) → length p ≡ n → get_or (p ++ q) (n + i) 0 ≡ get_or q i 0
second_at p q n i l = ap (λ (m : ℕ). get_or (p ++ q) (m + i) 0) (sym l) ∙ get_or-append-add p q i 0

module _ (x : Entries) where
  abbrev commands : List ℕ
  commands = map opcode_byte x.operators

  abbrev operands : List ℕ
  operands = map operand_of x.operators

  length-encoded : length (encoded x) ≡ 144
  unfolding encoded
  length-encoded = simp (length-append, length-column)

  encoded-command : (e : ℕ) → e < 48 → opcode_at (encoded x) e ≡ get_or commands e 0
  unfolding encoded
  encoded-command e l = get_or-append (column commands) _ 0 e (omega (arith, length-column commands)) ∙ column-at commands e l

  encoded-operand : (e : ℕ) → e < 48 → operand_at (encoded x) e ≡ get_or operands e 0
  unfolding encoded
  encoded-operand e l =
      second_at (column commands) _ 48 e (length-column commands)
      ∙ get_or-append (column operands) _ 0 e (omega (arith, length-column operands))
      ∙ column-at operands e l

  encoded-length : (e : ℕ) → e < 48 → length_at (encoded x) e ≡ get_or x.lengths e 0
  unfolding encoded
  encoded-length e l =
      ap (λ (i : ℕ). get_or (encoded x) i 0) {x = 96 + e} {y = 48 + (48 + e)} (omega arith)
      ∙ second_at (column commands) _ 48 (48 + e) (length-column commands)
      ∙ second_at (column operands) _ 48 e (length-column operands)
      ∙ column-at x.lengths e l

-- rows with the same bytes of every subformula
rows_same : (p q : List ℕ) → length p ≡ 144 → length q ≡ 144 → ((e : ℕ) → e < 48 → RowKept q p e) → p ≡ q
rows_same p q l m h = ext_get_or 0 p q (l ∙ sym m) (λ i k. by i k (dec_lt i 48) (dec_lt i 96))
  where
    -- byte i is byte i - n of the column that begins at n
    from : (n i : ℕ) → n ≤ i → get_or p (n + (i - n)) 0 ≡ get_or q (n + (i - n)) 0 → get_or p i 0 ≡ get_or q i 0
    from n i k = subst (λ (j : ℕ). get_or p j 0 ≡ get_or q j 0) {x = n + (i - n)} {y = i} (omega arith)

    by : (i : ℕ) → i < length p → Dec (i < 48) → Dec (i < 96) → get_or p i 0 ≡ get_or q i 0
    by i k (yes a) b = (h i a).command
    by i k (no a) (yes b) = from 48 i (omega arith) (h (i - 48) (omega arith)).operand
    by i k (no a) (no b) = from 96 i (omega arith) (h (i - 96) (omega arith)).sized

-- a column that has the bytes of a list, and zeros behind it
listed-column : (g : ℕ → ℕ) (bytes : List ℕ) (n e : ℕ) → map g (range 0 n) ≡ bytes → (n ≤ e → g e ≡ 0) → g e ≡ get_or bytes e 0
listed-column g bytes n e is zeros = by (dec_lt e n)
  where
    by : Dec (e < n) → g e ≡ get_or bytes e 0
    by (yes l) = ap g {x = e} {y = 0 + e} (omega arith) ∙ sym (values_at g 0 n e 0 l) ∙ ap (λ (b : List ℕ). get_or b e 0) is
    by (no l) = zeros (omega arith) ∙ sym (get_or-eq_default bytes 0 (omega (arith, values_length g 0 n, ap length is)))

-- what was written into empty rows
pub wrote-encoded : {n : ℕ} {xs : Operators} {ys rows : List ℕ} → RowsWritten 0 n xs ys (replicate {A = ℕ} 144 0) rows
    → rows ≡ encoded (record { operators = xs; lengths = ys })
wrote-encoded {n} {xs} {ys} {rows} w =
    let x : Entries = record { operators = xs; lengths = ys } in
    rows_same rows (encoded x) (w.long ∙ length-replicate {A = ℕ} 144 0) (length-encoded x) (λ e l.
    let none : n ≤ e → RowKept (replicate {A = ℕ} 144 0) rows e = λ m. w.behind e (omega arith) l in
    record {
      command =
          listed-column (opcode_at rows) (commands x) n e w.listed.commands (λ m. (none m).command ∙ empty e (omega arith))
          ∙ sym (encoded-command x e l);
      operand =
          listed-column (operand_at rows) (operands x) n e w.listed.operands (λ m. (none m).operand ∙ empty (48 + e) (omega arith))
          ∙ sym (encoded-operand x e l);
      sized =
          listed-column (length_at rows) ys n e w.listed.lengths (λ m. (none m).sized ∙ empty (96 + e) (omega arith))
          ∙ sym (encoded-length x e l);
    })
  where
    empty : (i : ℕ) → i < 144 → get_or (replicate {A = ℕ} 144 0) i 0 ≡ 0
    empty i l = get_or-replicate {A = ℕ} 144 i 0 0 l

-- the operator that is decoded from the bytes of a well formed one, where the number behind the operator ends
module _ (operator : ℕ → Operator) (end : ℕ → ℕ) (count e right : ℕ) (inside : end e ≤ count)
    (ends : e + 1 < count → right ≡ end (e + 1)) where
  pairs : (o : Bool) {l r : ℕ} → Pair operator end count e l r → Operator.pair o (e + 1) right ≡ Operator.pair o l r
  pairs o h =
      let last : right ≡ end (e + 1) = ends (omega (arith, h.first, h.order, h.inside)) in
      cc

  decodes : (o : Operator) → Operands operator end count e o → operator_of (opcode (opcode_byte o)) (operand_of o) right e ≡ o
  decodes (Operator.leaf (Leaf.constant true)) h = refl
  decodes (Operator.leaf (Leaf.constant false)) h = refl
  decodes (Operator.leaf (Leaf.signal true j)) h = refl
  decodes (Operator.leaf (Leaf.signal false j)) h = refl
  decodes (Operator.variable m) h = refl
  decodes (Operator.pair true l r) h = pairs true h
  decodes (Operator.pair false l r) h = pairs false h
  decodes (Operator.next g) h = rw h.first
  decodes (Operator.fix true b) h = rw h.first
  decodes (Operator.fix false b) h = rw h.first

-- the encoding of an accepted formula
module _ (bytes : List ℕ) (f : Formula) (accepted : parse bytes ≡ Reading.accepted f) where
  abbrev rows : List ℕ
  rows = encoded (entries f)

  abbrev n : ℕ
  n = length (table f)

  few : n ≤ 48
  few = omega (arith, table-size f, (parse-limited bytes f accepted).commands)

  end_back : (e : ℕ) → e < n → end_at rows e ≡ end_in (ends_from 0 f) e
  unfolding table
  end_back e l =
      let long : length_at rows e ≡ get_or (lengths f) e 0 = encoded-length (entries f) e (omega (arith, few)) in
      omega (arith, end_by_length 0 f e (omega (arith, table-size f)))

  operator-back : (e : ℕ) → e < n → operator_at rows e ≡ operator_in (table f) e
  unfolding table
  operator-back e l =
      let shaped = parse_shaped bytes f accepted e (omega (arith, table-size f)) in
      rw (
        encoded-command (entries f) e (omega (arith, few)),
        encoded-operand (entries f) e (omega (arith, few)),
        get_d_map opcode_byte (table f) e nothing 0 l,
        get_d_map operand_of (table f) e nothing 0 l,
      )
      (decodes (operator_in (table f)) (end_in (ends_from 0 f)) (size f) e (end_at rows (e + 1)) shaped.inside
      (λ m. end_back (e + 1) (omega (arith, table-size f))) (operator_in (table f) e) shaped.operands)

  -- a list of values by its elements
  back : {A : Type 0} (g : ℕ → A) (d : A) (xs : List A) → length xs ≡ n → ((e : ℕ) → e < n → g e ≡ get_or xs e d) → map g (range 0 n) ≡ xs
  back g d xs l h =
      ext_get_or d (map g (range 0 n)) xs (values_length g 0 n ∙ sym l) (λ e k.
      let i : e < n = omega (arith, values_length g 0 n) in
      values_at g 0 n e d i ∙ ap g {x = 0 + e} {y = e} (omega arith) ∙ h e i)

  pub encoded-entries : entries_of (record { count = n; rows = rows }) ≡ entries f
  unfolding table
  encoded-entries =
      let operators : operators_of rows 0 n ≡ table f = back (operator_at rows) nothing (table f) refl operator-back in
      let sizes : lengths_of rows 0 n ≡ lengths f =
      back (length_at rows) 0 (lengths f) (length-lengths f ∙ sym (table-size f))
      (λ e l. encoded-length (entries f) e (omega (arith, few))) in
      rw (operators, sizes)

-- what reading hands back decodes to the definition
pub stored-reading : (bytes : List ℕ) → reading_of (stored (reading bytes)) ≡ reading bytes
unfolding reading table
stored-reading bytes = by (parse bytes) refl
  where
    by : (x : Reading Formula) → parse bytes ≡ x → reading_of (stored (with_entries x)) ≡ with_entries x
    by (Reading.refused why) q = refl
    by (Reading.accepted f) q = ap Reading.accepted (encoded-entries bytes f q)

-- and its table has subformulas
pub stored-holds : (bytes : List ℕ) → IfOk (stored (reading bytes)) Filled
unfolding reading table
stored-holds bytes = by (parse bytes) refl
  where
    by : (x : Reading Formula) → parse bytes ≡ x → IfOk (stored (with_entries x)) Filled
    by (Reading.refused why) q = tt
    by (Reading.accepted f) q =
        record { some = omega (arith, table-size f, (parse-limited bytes f q).some); few = few bytes f q }

-- MEANING 1.5: what reading hands back is a function of the bytes
pub read_determined : (bytes : List ℕ) (r t : Result Table Refusal) → r ≡ stored (reading bytes) → t ≡ stored (reading bytes) → r ≡ t
read_determined bytes r t p q = p ∙ sym q
