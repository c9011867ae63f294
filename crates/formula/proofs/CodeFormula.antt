-- From the operands to the formula. A subformula is written once its operands are, so its rows are its own, and behind it those of its
-- operands, which writing it leaves alone; and reading stands where the last operand left it. So a command's answer agrees with the
-- definition's where the answers for its operands do. Assumes nothing.
use Rattle.std.proofs.Common.{◌≡◌, refl, sym, ap, subst, ◌∙◌, Bool, List, [], ◌∷◌, ℕ, ◌+◌, ◌-◌, ◌≤◌, arith}
use Rattle.formula.specs.Formula.{Formula, size}
use Rattle.formula.specs.Table.{Operator, Table as Operators, table_from, lengths}
use Rattle.formula.specs.Reading.{Opcode, byte_of, Head as Point, Read, Reader, Scope as Enclosing, and_then, done, operands}
use Rattle.formula.specs.Rows.{opcode_byte, operand_of}
use Rattle.formula.specs.declared.Opcode as code
use Rattle.formula.specs.declared.Head.{Head}
use Rattle.formula.specs.Inner.{named, point, Further, RowsWritten, Got, Written, within_operator, numbers_within}
use Rattle.formula.proofs.CodeRows.{wrote_none, wrote-both, wrote-first}

pub further_trans : {a b c : Head} → Further a b → Further b c → Further a c
further_trans f g = record {
  later = omega (arith, f.later, g.later);
  grown = omega (arith, f.grown, g.grown);
  more = omega (arith, f.more, g.more);
  limits = g.limits;
}

-- The subformulas of f are subformula e, with this opcode and argument, and then n others: xs are their operators, ys their lengths.
pub record Shape (e : ℕ) (binders : List ℕ) (op : Opcode) (argument : ℕ) (f : Formula) (n : ℕ) (xs : Operators) (ys : List ℕ) : Type 0
  where
    pub rows : size f ≡ 1 + n
    pub operator : Operator
    pub command : opcode_byte operator ≡ byte_of op
    pub operand : operand_of operator ≡ argument
    pub operators : table_from e binders f ≡ operator ∷ xs
    pub lengths : lengths f ≡ size f ∷ ys

-- Such an opcode has one operand formula, of which the formula is made.
pub record One (op : Opcode) : Type 0 where
  pub make : Formula → Formula
  pub leads : (self : Enclosing → Reader Formula) (scope : Enclosing) (y : Point) →
      operands self scope op y ≡ and_then (λ a. done (make a)) (self (within_operator op (y.at - 1) scope) y)
  pub shape : (e : ℕ) (binders : List ℕ) (a : Formula) →
      Shape e binders op 0 (make a) (size a) (table_from (e + 1) (numbers_within op e binders) a) (lengths a)

pub one-next : One Opcode.next
one-next = record {
  make = Formula.next;
  leads = λ self scope y. refl;
  shape = λ e binders a. record {
    rows = refl;
    operator = Operator.next (e + 1);
    command = refl;
    operand = refl;
    operators = refl;
    lengths = refl;
  };
}

pub one-fixpoint : (greatest : Bool) → One (Opcode.fix greatest)
one-fixpoint greatest = record {
  make = Formula.fix greatest;
  leads = λ self scope y. refl;
  shape = λ e binders a. record {
    rows = refl;
    operator = Operator.fix greatest (e + 1);
    command = refl;
    operand = refl;
    operators = refl;
    lengths = refl;
  };
}

module _ {s : List ℕ} {e : ℕ} {from : Head} {bs rows : List ℕ} {op : code.Opcode} {argument : ℕ} {answer : Read Formula} where
  -- the operands, read up to h, are in the rows p, and with the subformula they are q
  got : {f : Formula} {n : ℕ} {xs : Operators} {ys p q : List ℕ} {h : Head} → answer ≡ Read.got f (point s h) →
      Shape e bs (named op) argument f n xs ys → RowsWritten (e + 1) n xs ys rows p → h.count ≡ e + size f → Further from h →
      Written h p e op argument q → Got s e from bs rows answer q h
  got {f} {n} {xs} {ys} {q = q} {h} is shape wrote count further written =
      let few : h.count ≤ 48 = further.limits.commands in
      let long : size f ≡ 1 + n = shape.rows in
      let all : RowsWritten e (1 + n) (shape.operator ∷ xs) (size f ∷ ys) rows q =
      wrote-first shape.operator (omega arith) shape.command shape.operand (omega arith) written.placed wrote in
      record {
        got = f;
        is = is;
        count = count;
        further = further;
        written =
            rw (shape.operators, shape.lengths)
            (subst (λ (k : ℕ). RowsWritten e k (shape.operator ∷ xs) (size f ∷ ys) rows q) (sym long) all);
      }

  -- a leaf or a variable
  pub alone : {f : Formula} {q : List ℕ} {h : Head} → answer ≡ Read.got f (point s h) → Shape e bs (named op) argument f 0 [] [] →
      h.count ≡ e + 1 → Further from h → Written h rows e op argument q → Got s e from bs rows answer q h
  alone is shape count further written =
      got is shape (wrote_none (e + 1) rows) (count ∙ ap (λ (n : ℕ). e + n) (sym shape.rows)) further written

-- a formula of one operand
pub unary : {s : List ℕ} {e : ℕ} {from h x : Head} {bs rows p q : List ℕ} {op : code.Opcode} {answer : Read Formula}
    (w : One (named op)) → Further from h → Got s (e + 1) h (numbers_within (named op) e bs) rows answer p x →
    Written x p e op 0 q → Got s e from bs rows (and_then (λ a. done (w.make a)) answer) q x
unary {e = e} {bs = bs} w f g written =
    let shape = w.shape e bs g.got in
    got (ap (and_then (λ a. done (w.make a))) g.is) shape g.written (g.count ∙ omega (arith, shape.rows)) (further_trans f g.further)
    written

-- a formula of two: the second operand is read from y, where the first one ended
pub binary : {s : List ℕ} {e : ℕ} {from h y x : Head} {bs rows p q r : List ℕ} {op : code.Opcode} {answer : Read Formula}
    (either : Bool) (next : Reader Formula) → named op ≡ Opcode.pair either → Further from h → Got s (e + 1) h bs rows answer p y →
    Got s y.count y bs p (next (point s y)) q x → Written x q e op 0 r →
    Got s e from bs rows (and_then (λ a h. and_then (λ b. done (Formula.pair either a b)) (next h)) answer) r x
binary {s} {e} {bs = bs} {p = p} {q} either next is f g k written =
    let a = g.got in
    let b = k.got in
    let second = subst (λ (i : ℕ). RowsWritten i (size b) (table_from i bs b) (lengths b) p q) g.count k.written in
    got
    (ap (and_then (λ a h. and_then (λ b. done (Formula.pair either a b)) (next h))) g.is
    ∙ ap (and_then (λ b. done (Formula.pair either a b))) k.is)
    (record {
      rows = refl;
      operator = Operator.pair either (e + 1) (e + 1 + size a);
      command = ap byte_of (sym is);
      operand = refl;
      operators = refl;
      lengths = refl;
    })
    (wrote-both g.written second)
    (k.count ∙ omega (arith, g.count))
    (further_trans f (further_trans g.further k.further))
    written
