-- The table of a formula in which a closed formula has taken the place of subformula e. By induction on what stands around: the operators
-- before e and behind it are the same but for the numbers in them, and of the lengths only those change that have e inside. Before e an
-- operator is either around e, and then has no operand byte, or it stands in a formula that ends before e, and then does not change at
-- all; so opcodes and operand bytes stay. The definition (`replaced-table`) and what it says of each row (`replaced-kept`) are both read
-- off. Assumes nothing.
use mathlib.Core.Path.{◌≡◌, refl, sym, ap, ◌∙◌}
use mathlib.Core.Bool.{Bool, cond}
use mathlib.Core.List.{List, [], ◌∷◌, map, map-id}
use Prim.Native.Nat.{ℕ, zero, suc, ◌+◌, ◌-◌, ◌≤◌, ◌<◌}
use native.Mathlib.Nat.{zero-add}
use native.Mathlib.Omega.{arith}
use lib.Dec.{leb, ltb, leb→le, le→leb, ltb→lt, lt→ltb}
use lib.ListN.{length, get_or, take, length-map, get_or-map}
use lib.Seq.{length-take-le, get_or-take}
use Rattle.base.specs.Lists.{range}
use Rattle.base.proofs.BoolLaws.{by_test, of_T}
use Rattle.base.proofs.TestLaws.{not_of_T}
use Rattle.base.proofs.ListLaws.{Each, each_append, each_of}
use Rattle.base.proofs.NumberLaws.{values_length, values_at}
use Rattle.formula.specs.Formula.{Formula, size}
use Rattle.formula.specs.Table.{Operator, Table, table_from, table, lengths, entries}
use Rattle.formula.specs.Occurrence.{nothing, Closed}
use Rattle.formula.specs.Rows.{opcode_byte, operand_of}
use Rattle.formula.proofs.Limits.{size-some}
use Rattle.formula.proofs.WellFormed.{length-table, length-lengths, table-size}
use Rattle.context.specs.Context.{Context, plugged, number}
use Rattle.context.specs.Renumbered.{renumbered, past, stretched, with_operators, with_lengths, replaced_entries, Kept}
use Rattle.context.proofs.Located.{size-plugged, plugged-inside}
use Rattle.context.proofs.Renumber.{table-renumbered}
use Rattle.context.proofs.Exchanged as lists
use Rattle.context.proofs.Exchanged.{Exchanged}

past-before : (e m n i : ℕ) → i ≤ e → past e m n i ≡ i
past-before e m n i h = ap (λ (b : Bool). cond b i (i - m + n)) (of_T (leb i e) (le→leb i e h))

past-behind : (e m n i j : ℕ) → e < i → m ≤ i → j + m ≡ i + n → past e m n i ≡ j
past-behind e m n i j h k q =
    ap (λ (b : Bool). cond b i (i - m + n)) (not_of_T (leb i e) (λ t. absurd (omega (arith, leb→le i e t)))) ∙ omega arith

-- Where n subformulas take the place of the m from e on: an operator before e, and what it becomes,
record Stays (e m n i : ℕ) (x y : Operator) : Type 0 where
  moved : y ≡ renumbered (past e m n) x
  opcode : opcode_byte y ≡ opcode_byte x
  operand : operand_of y ≡ operand_of x

-- and the length x of a subformula i before e, and what it becomes.
record Stretches (e m n i x y : ℕ) : Type 0 where
  apart : i + x ≤ e → y ≡ x
  around : e < i + x → (m ≤ x) × (y + m ≡ x + n)

stretches_to : {e m n i x y : ℕ} → Stretches e m n i x y → y ≡ stretched e m n i x
stretches_to {e} {m} {n} {i} {x} {y} h =
    by_test (ltb e (i + x)) (λ b. y ≡ cond b (x - m + n) x) (λ t. omega (arith, h.around (ltb→lt e (i + x) t)))
    (λ t. let out : ¬ (e < i + x) = λ l. t (lt→ltb e (i + x) l) in h.apart (omega arith))

-- The subformulas of g take the place of those of a.
module _ (a g : Formula) (e m n : ℕ) (m-is : m ≡ size a) (n-is : n ≡ size g) where
  abbrev to : ℕ → ℕ
  to = past e m n

  same_stays : {i : ℕ} (x : Operator) → x ≡ renumbered to x → Stays e m n i x x
  same_stays x q = record { moved = q; opcode = refl; operand = refl }

  -- a pair around e
  pair_stays : {i : ℕ} (o : Bool) (l r s : ℕ) → l ≤ e → to r ≡ s → Stays e m n i (Operator.pair o l r) (Operator.pair o l s)
  pair_stays o l r s h q = record { moved = cc (past-before e m n l h); opcode = refl; operand = refl }

  -- a number behind what stands in a context
  beyond : (c : Context) (k x y : ℕ) → k + number c ≡ e → k + size (plugged c a) ≤ x → y + size (plugged c a) ≡ x + size (plugged c g)
      → to x ≡ y
  beyond c k x y q h p =
      past-behind e m n x y (omega (arith, plugged-inside c a, size-some a)) (omega (arith, plugged-inside c a))
      (omega (arith, size-plugged c a g))

  -- inside fixpoints that come before e
  module _ (bs : List ℕ) (outer : (d : ℕ) → d < length bs → get_or bs d 0 ≤ e) where
    -- the operators of a formula that e is not inside of
    operators_moved : (k j : ℕ) (f : Formula) → Closed (length bs) f → ((i : ℕ) → i < size f → to (k + i) ≡ j + i)
        → table_from j bs f ≡ map (renumbered to) (table_from k bs f)
    operators_moved k j f closed h =
        table-renumbered to (length bs) k j bs bs f closed h (λ d l. past-before e m n (get_or bs d 0) (outer d l))

    -- those of a formula before e
    operators-stay : (k : ℕ) (f : Formula) → Closed (length bs) f → k + size f ≤ e → Each (λ i x. Stays e m n i x x) k (table_from k bs f)
    operators-stay k f closed h =
        each_of (λ i x. Stays e m n i x x) k (table_from k bs f) nothing
        (λ i l. same_stays (get_or (table_from k bs f) i nothing)
        (ap (λ (t : Table). get_or t i nothing) same ∙ get_or-map (renumbered to) (table_from k bs f) i nothing))
      where
        same : table_from k bs f ≡ map (renumbered to) (table_from k bs f)
        same = operators_moved k k f closed (λ i l. past-before e m n (k + i) (omega arith))

  -- the operators of a formula whose first one is k and whose hole is e
  operators-exchanged : Closed 0 g → (c : Context) (k : ℕ) (bs : List ℕ) → k + number c ≡ e
      → ((d : ℕ) → d < length bs → get_or bs d 0 ≤ e) → Closed (length bs) (plugged c a)
      → Exchanged (Stays e m n) (renumbered to) m (map (renumbered (◌+◌ e)) (table_from 0 [] g)) k (number c)
      (table_from k bs (plugged c a)) (table_from k bs (plugged c g))
  operators-exchanged closed Context.hole k bs q b h =
      lists.exchanged-all k (table_from k bs a) (table_from k bs g) (length-table k bs a ∙ sym m-is)
      (table-renumbered (◌+◌ e) 0 0 k [] bs g closed (λ i l. omega arith) (λ d l. absurd (omega arith)))
  operators-exchanged closed (Context.left o c x) k bs q b h =
      Exchanged.there (pair_stays o (k + 1) (k + 1 + size (plugged c a)) (k + 1 + size (plugged c g)) (omega arith) second)
      (lists.exchanged-left (table_from (k + 1 + size (plugged c a)) bs x) behind
      (operators-exchanged closed c (k + 1) bs (omega arith) b h.0))
    where
      second : to (k + 1 + size (plugged c a)) ≡ k + 1 + size (plugged c g)
      second = beyond c (k + 1) (k + 1 + size (plugged c a)) (k + 1 + size (plugged c g)) (omega arith) (omega arith) (omega arith)

      behind : table_from (k + 1 + size (plugged c g)) bs x ≡ map (renumbered to) (table_from (k + 1 + size (plugged c a)) bs x)
      behind =
          operators_moved bs b (k + 1 + size (plugged c a)) (k + 1 + size (plugged c g)) x h.1
          (λ i l. beyond c (k + 1) (k + 1 + size (plugged c a) + i) (k + 1 + size (plugged c g) + i) (omega arith) (omega arith)
          (omega arith))
  operators-exchanged closed (Context.right o x c) k bs q b h =
      Exchanged.there (pair_stays o (k + 1) (k + 1 + size x) (k + 1 + size x) (omega arith) second)
      (lists.exchanged-right (size x) (table_from (k + 1) bs x) (length-table (k + 1) bs x)
      (operators-stay bs b (k + 1) x h.0 (omega arith)) (operators-exchanged closed c (k + 1 + size x) bs (omega arith) b h.1))
    where
      second : to (k + 1 + size x) ≡ k + 1 + size x
      second = past-before e m n (k + 1 + size x) (omega arith)
  operators-exchanged closed (Context.next c) k bs q b h =
      Exchanged.there (same_stays (Operator.next (k + 1)) (cc (past-before e m n (k + 1) (omega arith))))
      (operators-exchanged closed c (k + 1) bs (omega arith) b h)
  operators-exchanged closed (Context.fix o c) k bs q b h =
      Exchanged.there (same_stays (Operator.fix o (k + 1)) (cc (past-before e m n (k + 1) (omega arith))))
      (operators-exchanged closed c (k + 1) (k ∷ bs) (omega arith) outer h)
    where
      outer : (d : ℕ) → d < suc (length bs) → get_or (k ∷ bs) d 0 ≤ e
      outer zero l = omega arith
      outer (suc d) l = b d (omega arith)

  -- the whole formula has e inside
  whole_stretches : (c : Context) (k : ℕ) → k + number c ≡ e → Stretches e m n k (size (plugged c a)) (size (plugged c g))
  whole_stretches c k q =
      record {
        apart = λ h. absurd (omega (arith, plugged-inside c a, size-some a));
        around = λ h. (omega (arith, plugged-inside c a), omega (arith, size-plugged c a g));
      }

  apart_stretches : (i x : ℕ) → i + x ≤ e → Stretches e m n i x x
  apart_stretches i x h = record { apart = λ l. refl; around = λ l. absurd (omega arith) }

  -- a formula before e
  lengths-stay : (k : ℕ) (f : Formula) → k + size f ≤ e → Each (λ i x. Stretches e m n i x x) k (lengths f)
  lengths-stay k (Formula.leaf l) h = (apart_stretches k 1 h, tt)
  lengths-stay k (Formula.variable d) h = (apart_stretches k 1 h, tt)
  lengths-stay k (Formula.pair o x y) h = (
    apart_stretches k (size (Formula.pair o x y)) h,
    each_append (λ i x. Stretches e m n i x x) (k + 1) (k + 1 + size x) (lengths x) (lengths y) (ap (k + 1 +◌) (length-lengths x))
        (lengths-stay (k + 1) x (omega arith)) (lengths-stay (k + 1 + size x) y (omega arith)),
  )
  lengths-stay k (Formula.next x) h = (apart_stretches k (size (Formula.next x)) h, lengths-stay (k + 1) x (omega arith))
  lengths-stay k (Formula.fix o x) h = (apart_stretches k (size (Formula.fix o x)) h, lengths-stay (k + 1) x (omega arith))

  lengths-exchanged : (c : Context) (k : ℕ) → k + number c ≡ e
      → Exchanged (Stretches e m n) (λ x. x) m (lengths g) k (number c) (lengths (plugged c a)) (lengths (plugged c g))
  lengths-exchanged Context.hole k q = lists.exchanged-all k (lengths a) (lengths g) (length-lengths a ∙ sym m-is) refl
  lengths-exchanged (Context.left o c x) k q =
      Exchanged.there (whole_stretches (Context.left o c x) k q)
      (lists.exchanged-left (lengths x) (sym (map-id (lengths x))) (lengths-exchanged c (k + 1) (omega arith)))
  lengths-exchanged (Context.right o x c) k q =
      Exchanged.there (whole_stretches (Context.right o x c) k q)
      (lists.exchanged-right (size x) (lengths x) (length-lengths x) (lengths-stay (k + 1) x (omega arith))
      (lengths-exchanged c (k + 1 + size x) (omega arith)))
  lengths-exchanged (Context.next c) k q =
      Exchanged.there (whole_stretches (Context.next c) k q) (lengths-exchanged c (k + 1) (omega arith))
  lengths-exchanged (Context.fix o c) k q =
      Exchanged.there (whole_stretches (Context.fix o c) k q) (lengths-exchanged c (k + 1) (omega arith))

lengths-first : (f : Formula) → get_or (lengths f) 0 0 ≡ size f
lengths-first (Formula.leaf l) = refl
lengths-first (Formula.variable d) = refl
lengths-first (Formula.pair o a b) = refl
lengths-first (Formula.next a) = refl
lengths-first (Formula.fix o a) = refl

-- the stored length of the subformula in the hole
pub number-length : (c : Context) (a : Formula) → get_or (lengths (plugged c a)) (number c) 0 ≡ size a
number-length c a =
    ap (λ (i : ℕ). get_or (lengths (plugged c a)) i 0) {x = number c} {y = number c + 0} (omega arith)
    ∙ lists.exchanged-inside 0 (lengths-exchanged a a (number c) (size a) (size a) refl refl c 0 (omega arith)) 0
    (omega (arith, length-lengths a, size-some a))
    ∙ lengths-first a

-- Subformula e gives place to g.
module _ (c : Context) (a g : Formula) (closed : Closed 0 (plugged c a)) (new-closed : Closed 0 g) where
  abbrev e : ℕ
  e = number c

  -- how many subformulas go, and how many come
  abbrev m : ℕ
  m = get_or (lengths (plugged c a)) e 0

  abbrev n : ℕ
  n = length (table g)

  operators-now : Exchanged (Stays e m n) (renumbered (past e m n)) m (map (renumbered (◌+◌ e)) (table g)) 0 e (table (plugged c a))
      (table (plugged c g))
  unfolding table
  operators-now =
      operators-exchanged a g e m n (number-length c a) (table-size g) new-closed c 0 [] (omega arith) (λ d l. absurd (omega arith)) closed

  lengths-now : (k : ℕ) → k ≡ size g
      → Exchanged (Stretches e m k) (λ x. x) m (lengths g) 0 e (lengths (plugged c a)) (lengths (plugged c g))
  lengths-now k q = lengths-exchanged a g e m k (number-length c a) q c 0 (omega arith)

  operators-whole : table (plugged c g) ≡ with_operators e m (table (plugged c a)) (table g)
  operators-whole =
      lists.exchanged-whole nothing operators-now (map f (take e old))
      (length-map (take e old) f ∙ length-take-le e old (omega (arith, table-size (plugged c a), plugged-inside c a)))
      (λ i l y h. h.moved ∙ sym (get_or-map f (take e old) i nothing ∙ ap f (get_or-take e old i nothing l)))
    where
      old : Table
      old = table (plugged c a)

      f : Operator → Operator
      f = renumbered (past e m n)

  lengths-whole : lengths (plugged c g) ≡ with_lengths e m (lengths (plugged c a)) (lengths g)
  lengths-whole =
      lists.exchanged-whole 0 (lengths-now (length (lengths g)) (length-lengths g)) (map at (range 0 e)) (values_length at 0 e)
      (λ i l y h. rw (values_at at 0 e i 0 l, zero-add i) (stretches_to (rw zero-add at h)))
      ∙ rw map-id
    where
      at : ℕ → ℕ
      at i = stretched e m (length (lengths g)) i (get_or (lengths (plugged c a)) i 0)

  pub replaced-table : entries (plugged c g) ≡ replaced_entries (number c) (entries (plugged c a)) (entries g)
  unfolding table
  replaced-table = λ i. record { operators = operators-whole i; lengths = lengths-whole i }

  pub replaced-kept : Kept (number c) (entries (plugged c a)) (entries g) (entries (plugged c g))
  unfolding table
  replaced-kept =
      record {
        many = omega (arith, table-size (plugged c a), table-size (plugged c g), table-size g, size-plugged c a g, number-length c a);
        opcode_before = λ i l. (lists.exchanged_before nothing operators-now i l).opcode;
        operand_before = λ i l. (lists.exchanged_before nothing operators-now i l).operand;
        apart = λ i l h. (before i l).apart h;
        around = λ i l h. ((before i l).around h).1;
        inside = λ i l. lists.exchanged-inside nothing operators-now i (omega (arith, length-map (table g) (renumbered (◌+◌ e))))
            ∙ get_or-map (renumbered (◌+◌ e)) (table g) i nothing;
        inside_length = λ i l. lists.exchanged-inside 0 (lengths-now n (table-size g)) i
            (omega (arith, length-lengths g, table-size g));
        behind = λ i l. lists.exchanged-behind nothing operators-now n (length-map (table g) (renumbered (◌+◌ e))) i l;
        behind_length = λ i l. lists.exchanged-behind 0 (lengths-now n (table-size g)) n (length-lengths g ∙ sym (table-size g))
            i (omega (arith, length-lengths (plugged c a), table-size (plugged c a)));
      }
    where
      before : (i : ℕ) → i < e → Stretches e m n i (get_or (lengths (plugged c a)) i 0) (get_or (lengths (plugged c g)) i 0)
      before i l = rw zero-add at (lists.exchanged_before 0 (lengths-now n (table-size g)) i l)
