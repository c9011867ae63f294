-- An accepted formula is within the limits of MEANING 1.4: 48 operators, 12 or, 12 next, 7 fixpoints, signal 15. Each counter of the
-- head starts at 0, grows by the operators that it counts and never passes its limit, so at the end it is the formula's own number; one
-- law says so of any counter (`Counter`, `counted_up`). The table has the same numbers (`table_tally`). Assumes nothing.
use Rattle.std.proofs.Common.{◌≡◌, refl, ap, ◌∙◌, Bool, true, false, cond, List, [], ◌∷◌, ◌++◌, ℕ, ◌+◌, ◌≤◌, ◌<◌, arith, T, ltb→lt}
use Rattle.std.proofs.Common.{length, get_or}
use Rattle.base.specs.Lists.{filter}
use Rattle.formula.specs.Formula.{Leaf, Formula, size}
use Rattle.formula.specs.Table.{Operator, Table, table_from, table, is_or, is_next, is_fix}
use Rattle.formula.specs.Reading.{Opcode, Head, Scope, within, counted, Reading, parse}
use Rattle.formula.specs.Occurrence.{Ranged}
use Rattle.formula.proofs.Commands.{Sort, sort, or_command, next-command, fix-command, one_if, counted_is, behind}
use Rattle.formula.proofs.Derivation.{Byte, Begins, Reads, parse-reads}

abbrev pub leaf-opcode : Leaf → Opcode
leaf-opcode (Leaf.constant b) = Opcode.constant b
leaf-opcode (Leaf.signal present s) = Opcode.signal present

-- how many commands of a formula pass a test
abbrev pub tally : (Opcode → Bool) → Formula → ℕ
tally test (Formula.leaf l) = one_if (test (leaf-opcode l))
tally test (Formula.variable d) = one_if (test Opcode.variable)
tally test (Formula.pair o a b) = one_if (test (Opcode.pair o)) + (tally test a + tally test b)
tally test (Formula.next a) = one_if (test Opcode.next) + tally test a
tally test (Formula.fix g a) = one_if (test (Opcode.fix g)) + tally test a

-- how many or, next, fixpoints a formula has
abbrev pub ors : Formula → ℕ
ors f = tally or_command f

abbrev pub nexts : Formula → ℕ
nexts f = tally next-command f

abbrev pub fixpoints : Formula → ℕ
fixpoints f = tally fix-command f

abbrev pub any : Opcode → Bool
any op = true

pub size_tally : (f : Formula) → tally any f ≡ size f
size_tally (Formula.leaf l) = refl
size_tally (Formula.variable d) = refl
size_tally (Formula.pair o a b) = omega (arith, size_tally a, size_tally b)
size_tally (Formula.next a) = omega (arith, size_tally a)
size_tally (Formula.fix g a) = omega (arith, size_tally a)

pub size-some : (f : Formula) → 0 < size f
size-some (Formula.leaf l) = omega arith
size-some (Formula.variable d) = omega arith
size-some (Formula.pair o a b) = omega arith
size-some (Formula.next a) = omega arith
size-some (Formula.fix g a) = omega arith

-- what the question about the limits leaves room for
record LeavesRoom (s : Sort) (h : Head) : Type 0 where
  ors : h.ors ≤ 12 → h.ors + one_if s.or ≤ 12
  nexts : h.nexts ≤ 12 → h.nexts + one_if s.next ≤ 12
  fixpoints : h.fixpoints ≤ 7 → h.fixpoints + one_if s.fix ≤ 7

light : (h : Head) → LeavesRoom (sort Opcode.unknown) h
light h = record { ors = λ i. omega arith; nexts = λ i. omega arith; fixpoints = λ i. omega arith }

within-fits : (op : Opcode) (h : Head) → T (within op h) → LeavesRoom (sort op) h
within-fits Opcode.unknown h w = light h
within-fits (Opcode.constant b) h w = light h
within-fits (Opcode.signal b) h w = light h
within-fits Opcode.variable h w = light h
within-fits (Opcode.pair true) h w =
    record { ors = λ i. omega (arith, ltb→lt h.ors 12 w); nexts = λ i. omega arith; fixpoints = λ i. omega arith }
within-fits (Opcode.pair false) h w = light h
within-fits Opcode.next h w =
    record { ors = λ i. omega arith; nexts = λ i. omega (arith, ltb→lt h.nexts 12 w); fixpoints = λ i. omega arith }
within-fits (Opcode.fix g) h w =
    record { ors = λ i. omega arith; nexts = λ i. omega arith; fixpoints = λ i. omega (arith, ltb→lt h.fixpoints 7 w) }

-- A counter of the head: only commands that pass its test change it, by one, and it stays within its limit.
record Counter (count : Head → ℕ) (test : Opcode → Bool) (limit : ℕ) : Type 0 where
  kept : (h : Head) (rest : List ℕ) → count (behind h rest) ≡ count h
  grows : (op : Opcode) (h : Head) → count (counted op h) ≡ count h + one_if (test op)
  stays : (op : Opcode) (h : Head) → h.commands < 48 → T (within op h) → count h ≤ limit → count h + one_if (test op) ≤ limit

module _ {count : Head → ℕ} {test : Opcode → Bool} {limit : ℕ} (c : Counter count test limit) where
  -- from h to k it grew by n, within the limit
  record Grew (h k : Head) (n : ℕ) : Type 0 where
    by : count k ≡ count h + n
    within : count h ≤ limit → count k ≤ limit

  begun : {op : Opcode} {h k : Head} → Begins op h k → Grew h k (one_if (test op))
  begun {op} {h} {k} b =
      let g : Head = behind h b.rest in
      let e : count k ≡ count h + one_if (test op) = ap count b.moved ∙ c.grows op g
      ∙ ap (λ (n : ℕ). n + one_if (test op)) (c.kept h b.rest) in
      record {
        by = e;
        within = λ i. omega (
          arith,
          c.stays op g b.few b.within (omega (arith, c.kept h b.rest)),
          c.kept h b.rest,
        );
      }

  join : {h j k : Head} {n m : ℕ} → Grew h j n → Grew j k m → Grew h k (n + m)
  join a b = record { by = omega (arith, a.by, b.by); within = λ i. b.within (a.within i) }

  -- an operand byte changes nothing
  with_byte : {x n : ℕ} {h j k : Head} → Grew h j n → Byte x j k → Grew h k n
  with_byte {j = j} {k = k} a b =
      let e : count k ≡ count j = ap count b.moved ∙ c.kept j b.rest in
      record { by = e ∙ a.by; within = λ i. omega (arith, a.within i) }

  counted_up : {scope : Scope} {h k : Head} (f : Formula) → Reads scope h f k → Grew h k (tally test f)
  counted_up f (Reads.constant b) = begun b
  counted_up f (Reads.signal b s i) = with_byte (begun b) s
  counted_up f (Reads.variable b d i g) = with_byte (begun b) d
  counted_up f (Reads.pair {a = x} {b = y} b p q) = join (begun b) (join (counted_up x p) (counted_up y q))
  counted_up f (Reads.next {a = x} b p) = join (begun b) (counted_up x p)
  counted_up f (Reads.fix {a = x} b p) = join (begun b) (counted_up x p)

  -- a counter that starts at 0
  at_most : {scope : Scope} {h k : Head} (f : Formula) → count h ≡ 0 → Reads scope h f k → tally test f ≤ limit
  at_most f z r = let g = counted_up f r in omega (arith, g.by, g.within (omega arith))

count-commands : Counter (λ (h : Head). h.commands) any 48
count-commands =
    record { kept = λ h rest. refl; grows = λ op h. ap (λ (k : Head). k.commands) (counted_is op h); stays = λ op h i w l. omega arith }

count-ors : Counter (λ (h : Head). h.ors) or_command 12
count-ors =
    record {
      kept = λ h rest. refl;
      grows = λ op h. ap (λ (k : Head). k.ors) (counted_is op h);
      stays = λ op h i w l. (within-fits op h w).ors l;
    }

count-nexts : Counter (λ (h : Head). h.nexts) next-command 12
count-nexts =
    record {
      kept = λ h rest. refl;
      grows = λ op h. ap (λ (k : Head). k.nexts) (counted_is op h);
      stays = λ op h i w l. (within-fits op h w).nexts l;
    }

count-fixpoints : Counter (λ (h : Head). h.fixpoints) fix-command 7
count-fixpoints =
    record {
      kept = λ h rest. refl;
      grows = λ op h. ap (λ (k : Head). k.fixpoints) (counted_is op h);
      stays = λ op h i w l. (within-fits op h w).fixpoints l;
    }

reads-ranged : {scope : Scope} {h k : Head} (f : Formula) → Reads scope h f k → Ranged f
reads-ranged f (Reads.constant b) = tt
reads-ranged f (Reads.signal b s i) = i
reads-ranged f (Reads.variable b d i g) = tt
reads-ranged f (Reads.pair {a = x} {b = y} b p q) = (reads-ranged x p, reads-ranged y q)
reads-ranged f (Reads.next {a = x} b p) = reads-ranged x p
reads-ranged f (Reads.fix {a = x} b p) = reads-ranged x p

-- the limits
pub record WithinLimits (f : Formula) : Type 0 where
  pub some : 0 < size f
  pub commands : size f ≤ 48
  pub ors : ors f ≤ 12
  pub nexts : nexts f ≤ 12
  pub fixpoints : fixpoints f ≤ 7
  pub signals : Ranged f

pub parse-limited : (bytes : List ℕ) (f : Formula) → parse bytes ≡ Reading.accepted f → WithinLimits f
parse-limited bytes f e =
    let (k, r, l) = parse-reads bytes f e in
    record {
      some = size-some f;
      commands = omega (arith, size_tally f, at_most count-commands f refl r);
      ors = at_most count-ors f refl r;
      nexts = at_most count-nexts f refl r;
      fixpoints = at_most count-fixpoints f refl r;
      signals = reads-ranged f r;
    }

-- The same numbers in the table.
abbrev pub opcode_of : Operator → Opcode
opcode_of (Operator.leaf l) = leaf-opcode l
opcode_of (Operator.variable m) = Opcode.variable
opcode_of (Operator.pair o l r) = Opcode.pair o
opcode_of (Operator.next g) = Opcode.next
opcode_of (Operator.fix g b) = Opcode.fix g

abbrev pub how_many : (Operator → Bool) → Table → ℕ
how_many q t = length (filter q t)

module _ (q : Operator → Bool) (test : Opcode → Bool) (same : (o : Operator) → q o ≡ test (opcode_of o)) where
  one_more : (o : Operator) (t : Table) → how_many q (o ∷ t) ≡ one_if (test (opcode_of o)) + how_many q t
  one_more o t = rw (← same o) (by (q o))
    where
      by : (b : Bool) → length (cond b (o ∷ filter q t) (filter q t)) ≡ one_if b + how_many q t
      by true = omega arith
      by false = omega arith

  both_parts : (s t : Table) → how_many q (s ++ t) ≡ how_many q s + how_many q t
  both_parts [] t = omega arith
  both_parts (o ∷ s) t = omega (arith, one_more o (s ++ t), one_more o s, both_parts s t)

  from_tally : (e : ℕ) (binders : List ℕ) (f : Formula) → how_many q (table_from e binders f) ≡ tally test f
  from_tally e binders (Formula.leaf l) = omega (arith, one_more (Operator.leaf l) [])
  from_tally e binders (Formula.variable d) = omega (arith, one_more (Operator.variable (get_or binders d 0)) [])
  from_tally e binders (Formula.pair o a b) =
      let s = table_from (e + 1) binders a in
      let t = table_from (e + 1 + size a) binders b in
      omega (
        arith,
        one_more (Operator.pair o (e + 1) (e + 1 + size a)) (s ++ t),
        both_parts s t,
        from_tally (e + 1) binders a,
        from_tally (e + 1 + size a) binders b,
      )
  from_tally e binders (Formula.next a) =
      omega (arith, one_more (Operator.next (e + 1)) (table_from (e + 1) binders a), from_tally (e + 1) binders a)
  from_tally e binders (Formula.fix g a) =
      omega (arith, one_more (Operator.fix g (e + 1)) (table_from (e + 1) (e ∷ binders) a), from_tally (e + 1) (e ∷ binders) a)

  pub table_tally : (f : Formula) → how_many q (table f) ≡ tally test f
  unfolding table
  table_tally f = from_tally 0 [] f

-- an operator is an or, a next, a fixpoint by its opcode
tests_same : (o : Operator) → (is_or o ≡ or_command (opcode_of o)) × (is_next o ≡ next-command (opcode_of o)) ×
    (is_fix o ≡ fix-command (opcode_of o))
tests_same (Operator.leaf (Leaf.constant b)) = (refl, refl, refl)
tests_same (Operator.leaf (Leaf.signal present s)) = (refl, refl, refl)
tests_same (Operator.variable m) = (refl, refl, refl)
tests_same (Operator.pair true l r) = (refl, refl, refl)
tests_same (Operator.pair false l r) = (refl, refl, refl)
tests_same (Operator.next g) = (refl, refl, refl)
tests_same (Operator.fix g b) = (refl, refl, refl)

pub table-ors : (f : Formula) → how_many is_or (table f) ≡ ors f
table-ors = table_tally is_or or_command (λ o. (tests_same o).0)

pub table-nexts : (f : Formula) → how_many is_next (table f) ≡ nexts f
table-nexts = table_tally is_next next-command (λ o. (tests_same o).1)

pub table-fixpoints : (f : Formula) → how_many is_fix (table f) ≡ fixpoints f
table-fixpoints = table_tally is_fix fix-command (λ o. (tests_same o).2)
