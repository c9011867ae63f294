-- A table with subformula e replaced: which operators it has, by those of the old table and of the new formula's. MEANING 11.4. Assumes
-- nothing.
use Rattle.std.specs.Prelude.{◌≡◌, cond, List, ◌++◌, map, ℕ, ◌+◌, ◌-◌, ◌≤◌, ◌<◌, leb, ltb, length, get_or, take, drop}
use Rattle.base.specs.Lists.{range}
use Rattle.formula.specs.Table.{Operator, Table, Entries, operator}
use Rattle.formula.specs.Rows.{opcode_byte, operand_of}

-- an operator whose subformulas have other numbers
abbrev pub renumbered : (ℕ → ℕ) → Operator → Operator
renumbered to (Operator.leaf l) = Operator.leaf l
renumbered to (Operator.variable m) = Operator.variable (to m)
renumbered to (Operator.pair o l r) = Operator.pair o (to l) (to r)
renumbered to (Operator.next g) = Operator.next (to g)
renumbered to (Operator.fix g b) = Operator.fix g (to b)

-- Where a number comes to when n subformulas take the place of the m from e on: e itself and what is before it stay, what is behind moves.
abbrev pub past : (e m n : ℕ) → ℕ → ℕ
past e m n i = cond (leb i e) i (i - m + n)

-- the length of subformula i, which was k: it has e inside, or not
abbrev pub stretched : (e m n : ℕ) → (i k : ℕ) → ℕ
stretched e m n i k = cond (ltb e (i + k)) (k - m + n) k

-- The operators with e replaced: those before it and behind it, the new ones between them.
abbrev pub with_operators : (e m : ℕ) (old new : Table) → Table
with_operators e m old new =
    let there = past e m (length new) in
    map (renumbered there) (take e old) ++ (map (renumbered (◌+◌ e)) new ++ map (renumbered there) (drop (e + m) old))

-- The lengths: of those before e only the ones around it change, by as many as the new formula has more or fewer.
abbrev pub with_lengths : (e m : ℕ) (old new : List ℕ) → List ℕ
with_lengths e m old new =
    map (λ i. stretched e m (length new) i (get_or old i 0)) (range 0 e) ++ (new ++ drop (e + m) old)

-- both, m being the length of e
abbrev pub replaced_entries : (e : ℕ) (old new : Entries) → Entries
replaced_entries e old new =
    let m = get_or old.lengths e 0 in
    record {
      operators = with_operators e m old.operators new.operators;
      lengths = with_lengths e m old.lengths new.lengths;
    }

-- What that says of each row, if m subformulas from e on give place to the new formula's: z are the rows then.
pub record Kept (e : ℕ) (old new z : Entries) : Type 0 where
  pub many : length z.operators + get_or old.lengths e 0 ≡ length old.operators + length new.operators
  -- before e every opcode stays, and what its operand byte stands for;
  pub opcode_before : (i : ℕ) → i < e → opcode_byte (operator z.operators i) ≡ opcode_byte (operator old.operators i)
  pub operand_before : (i : ℕ) → i < e → operand_of (operator z.operators i) ≡ operand_of (operator old.operators i)
  -- so does the length, but where e is inside
  pub apart : (i : ℕ) → i < e → i + get_or old.lengths i 0 ≤ e → get_or z.lengths i 0 ≡ get_or old.lengths i 0
  pub around : (i : ℕ) → i < e → e < i + get_or old.lengths i 0
      → get_or z.lengths i 0 + get_or old.lengths e 0 ≡ get_or old.lengths i 0 + length new.operators
  -- the new ones are e numbers on,
  pub inside : (i : ℕ) → i < length new.operators → operator z.operators (e + i) ≡ renumbered (◌+◌ e) (operator new.operators i)
  pub inside_length : (i : ℕ) → i < length new.operators → get_or z.lengths (e + i) 0 ≡ get_or new.lengths i 0
  -- and those behind e follow them
  pub behind : (i : ℕ) → e + get_or old.lengths e 0 + i < length old.operators
      → operator z.operators (e + length new.operators + i)
      ≡ renumbered (past e (get_or old.lengths e 0) (length new.operators))
      (operator old.operators (e + get_or old.lengths e 0 + i))
  pub behind_length : (i : ℕ) → e + get_or old.lengths e 0 + i < length old.operators
      → get_or z.lengths (e + length new.operators + i) 0 ≡ get_or old.lengths (e + get_or old.lengths e 0 + i) 0
