-- Listing subformulas from the rows. A list of subformulas is the first one and the rest, or two lists end to end; and it depends on its
-- own rows alone, which writing another one leaves as they are. Assumes nothing.
use Rattle.std.proofs.Common.{◌≡◌, refl, sym, ◌∙◌, List, [], ◌∷◌, ◌++◌, map, ℕ, ◌+◌, ◌≤◌, ◌<◌, arith}
use mathlib.Core.List.{map-append}
use Rattle.base.specs.Lists.{range}
use Rattle.base.proofs.NumberLaws.{values_join, values_same, values_cons}
use Rattle.formula.specs.Table.{Operator, Table as Operators}
use Rattle.formula.specs.Rows.{opcode_at, operand_at, length_at, opcode_byte, operand_of}
use Rattle.formula.specs.Inner.{RowKept, RowPlaced, RowsList, RowsWritten}

alike_same : {p : List ℕ} {e : ℕ} → RowKept p p e
alike_same = record { command = refl; operand = refl; sized = refl }

alike_trans : {p q r : List ℕ} {e : ℕ} → RowKept p q e → RowKept q r e → RowKept p r e
alike_trans a b = record { command = b.command ∙ a.command; operand = b.operand ∙ a.operand; sized = b.sized ∙ a.sized }

-- the same subformulas from other rows
listed_same : {e n : ℕ} {xs : Operators} {ys p q : List ℕ} →
    ((k : ℕ) → e ≤ k → k < e + n → RowKept p q k) → RowsList e n xs ys p → RowsList e n xs ys q
listed_same {e} {n} {p = p} {q = q} h a = record {
  commands = values_same (opcode_at q) (opcode_at p) e n (λ k l m. (h k l m).command) ∙ a.commands;
  operands = values_same (operand_at q) (operand_at p) e n (λ k l m. (h k l m).operand) ∙ a.operands;
  lengths = values_same (length_at q) (length_at p) e n (λ k l m. (h k l m).sized) ∙ a.lengths;
}

-- a column of two lists end to end
column-both : {A : Type 0} (f : A → ℕ) (g : ℕ → ℕ) (e n m : ℕ) (xs us : List A) → map g (range e n) ≡ map f xs
    → map g (range (e + n) m) ≡ map f us → map g (range e (n + m)) ≡ map f (xs ++ us)
column-both f g e n m xs us p q = values_join g e n m (map f xs) (map f us) p q ∙ sym (map-append f xs us)

listed-both : {e n m : ℕ} {xs us : Operators} {ys vs rows : List ℕ} →
    RowsList e n xs ys rows → RowsList (e + n) m us vs rows → RowsList e (n + m) (xs ++ us) (ys ++ vs) rows
listed-both {e} {n} {m} {xs} {us} {ys} {vs} {rows} a b = record {
  commands = column-both opcode_byte (opcode_at rows) e n m xs us a.commands b.commands;
  operands = column-both operand_of (operand_at rows) e n m xs us a.operands b.operands;
  lengths = values_join (length_at rows) e n m ys vs a.lengths b.lengths;
}

pub wrote_none : (e : ℕ) (rows : List ℕ) → RowsWritten e 0 [] [] rows rows
wrote_none e rows = record {
  listed = record { commands = refl; operands = refl; lengths = refl };
  before = λ k l. alike_same;
  behind = λ k l m. alike_same;
  long = refl;
}

-- two lists end to end, the second written after the first
pub wrote-both : {e n m : ℕ} {xs us : Operators} {ys vs p q r : List ℕ} →
    RowsWritten e n xs ys p q → RowsWritten (e + n) m us vs q r → RowsWritten e (n + m) (xs ++ us) (ys ++ vs) p r
wrote-both a b = record {
  listed = listed-both (listed_same (λ k l m. b.before k m) a.listed) b.listed;
  before = λ k l. alike_trans (a.before k l) (b.before k (omega arith));
  behind = λ k l m. alike_trans (a.behind k (omega arith) m) (b.behind k (omega arith) m);
  long = b.long ∙ a.long;
}

-- subformula e, written after the n behind it
pub wrote-first : {e n op argument z y : ℕ} {xs : Operators} {ys p q r : List ℕ} (x : Operator) → e + n < 48
    → opcode_byte x ≡ op → operand_of x ≡ argument → z ≡ y → RowPlaced q e op argument z r → RowsWritten (e + 1) n xs ys p q
    → RowsWritten e (1 + n) (x ∷ xs) (y ∷ ys) p r
wrote-first {e} {n} {xs = xs} {ys = ys} {q = q} {r = r} x few c o is w a =
    let rest : RowsList (e + 1) n xs ys r = listed_same (λ k l m. w.others k (omega arith) (λ u. omega arith)) a.listed in
    record {
      listed = record {
        commands = values_cons (opcode_at r) e n (opcode_byte x) (map opcode_byte xs) (cc w.command) rest.commands;
        operands = values_cons (operand_at r) e n (operand_of x) (map operand_of xs) (cc w.operand) rest.operands;
        lengths = values_cons (length_at r) e n _ ys (w.sized ∙ is) rest.lengths;
      };
      before = λ k l. alike_trans (a.before k (omega arith)) (w.others k (omega arith) (λ u. omega arith));
      behind = λ k l m. alike_trans (a.behind k (omega arith) m) (w.others k m (λ u. omega arith));
      long = w.long ∙ a.long;
    }
