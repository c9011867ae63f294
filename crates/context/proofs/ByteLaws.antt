-- The bytes of a formula with a hole. They are those before the hole, those of what is in it, and those behind it (`plugged-spelled`).
-- The table says how many bytes each operator has and the operators of a formula come in prefix order, so adding up those before the
-- hole's number gives the place where its bytes begin, and with the hole's length the place where they end. Hence the bytes between the
-- two places are those of the subformula, and with others in their place the formula is that with something else in the hole. Assumes
-- nothing.
use mathlib.Core.Path.{◌≡◌, refl, sym, ap, ◌∙◌}
use mathlib.Core.List.{List, [], ◌∷◌, ◌++◌, append_assoc, append-nil}
use Prim.Native.Nat.{ℕ, suc, ◌+◌, ◌-◌}
use native.Mathlib.Omega.{arith}
use lib.ListN.{length, get_or, take, length-append}
use lib.Seq.{take-append_seam, drop-append_seam, drop-append-add, take_at}
use Rattle.formula.specs.Formula.{Leaf, Formula, size}
use Rattle.formula.specs.Table.{Operator, Table, table_from, table, lengths, entries, width, bytes_before}
use Rattle.formula.specs.Reading.{Opcode, byte_of}
use Rattle.formula.specs.Ways.{spelled}
use Rattle.context.specs.Context.{Context, plugged, number}
use Rattle.context.specs.Bytes.{first_byte, last_byte, between, spliced, subformula_bytes, replaced}
use Rattle.context.proofs.TableLaws.{number-length}

-- the bytes before the hole,
abbrev pub front : Context → List ℕ
front Context.hole = []
front (Context.left o c b) = byte_of (Opcode.pair o) ∷ front c
front (Context.right o b c) = byte_of (Opcode.pair o) ∷ (spelled b ++ front c)
front (Context.next c) = byte_of Opcode.next ∷ front c
front (Context.fix g c) = byte_of (Opcode.fix g) ∷ front c

-- and those behind it
abbrev pub back : Context → List ℕ
back Context.hole = []
back (Context.left o c b) = back c ++ spelled b
back (Context.right o b c) = back c
back (Context.next c) = back c
back (Context.fix g c) = back c

pub plugged-spelled : (c : Context) (a : Formula) → spelled (plugged c a) ≡ front c ++ (spelled a ++ back c)
plugged-spelled Context.hole a = sym (append-nil (spelled a))
plugged-spelled (Context.left o c b) a =
    ap (λ (l : List ℕ). byte_of (Opcode.pair o) ∷ l)
    (ap (λ (l : List ℕ). l ++ spelled b) (plugged-spelled c a) ∙ append_assoc (front c) (spelled a ++ back c) (spelled b)
    ∙ ap (◌++◌ (front c)) (append_assoc (spelled a) (back c) (spelled b)))
plugged-spelled (Context.right o b c) a =
    ap (λ (l : List ℕ). byte_of (Opcode.pair o) ∷ l)
    (ap (◌++◌ (spelled b)) (plugged-spelled c a) ∙ sym (append_assoc (spelled b) (front c) (spelled a ++ back c)))
plugged-spelled (Context.next c) a = ap (λ (l : List ℕ). byte_of Opcode.next ∷ l) (plugged-spelled c a)
plugged-spelled (Context.fix g c) a = ap (λ (l : List ℕ). byte_of (Opcode.fix g) ∷ l) (plugged-spelled c a)

-- ---- how many bytes operators have
none_before : (t : Table) → bytes_before t 0 ≡ 0
none_before [] = refl
none_before (o ∷ t) = refl

one-before : (o : Operator) (t : Table) (i n : ℕ) → i ≡ suc n → bytes_before (o ∷ t) i ≡ width o + bytes_before t n
one-before o t i n e = ap (bytes_before (o ∷ t)) e

pair-before : (o : Operator) (s t rest : Table) (i n : ℕ) → i ≡ suc n
    → bytes_before (o ∷ ((s ++ t) ++ rest)) i ≡ width o + bytes_before (s ++ (t ++ rest)) n
pair-before o s t rest i n e = rw (append_assoc s t rest) (one-before o (s ++ (t ++ rest)) i n e)

-- all operators of a formula have as many as spell it
formula-before : (f : Formula) (e : ℕ) (binders : List ℕ) (rest : Table) (n i : ℕ) → i ≡ size f + n
    → bytes_before (table_from e binders f ++ rest) i ≡ length (spelled f) + bytes_before rest n
formula-before (Formula.leaf (Leaf.constant b)) e bs rest n i q =
    one-before (Operator.leaf (Leaf.constant b)) rest i n (omega arith)
formula-before (Formula.leaf (Leaf.signal p s)) e bs rest n i q =
    one-before (Operator.leaf (Leaf.signal p s)) rest i n (omega arith)
formula-before (Formula.variable d) e bs rest n i q = one-before (Operator.variable (get_or bs d 0)) rest i n (omega arith)
formula-before (Formula.pair o a b) e bs rest n i q =
    let s = table_from (e + 1) bs a in
    let t = table_from (e + 1 + size a) bs b in
    omega (
      arith,
      pair-before (Operator.pair o (e + 1) (e + 1 + size a)) s t rest i (size a + (size b + n)) (omega arith),
      formula-before a (e + 1) bs (t ++ rest) (size b + n) (size a + (size b + n)) refl,
      formula-before b (e + 1 + size a) bs rest n (size b + n) refl,
      length-append (spelled a) (spelled b),
    )
formula-before (Formula.next a) e bs rest n i q =
    omega (
      arith,
      one-before (Operator.next (e + 1)) (table_from (e + 1) bs a ++ rest) i (size a + n) (omega arith),
      formula-before a (e + 1) bs rest n (size a + n) refl,
    )
formula-before (Formula.fix g a) e bs rest n i q =
    omega (
      arith,
      one-before (Operator.fix g (e + 1)) (table_from (e + 1) (e ∷ bs) a ++ rest) i (size a + n) (omega arith),
      formula-before a (e + 1) (e ∷ bs) rest n (size a + n) refl,
    )

-- n operators of a have w bytes, wherever a stands
abbrev Have : Formula → ℕ → ℕ → Type 0
Have a n w = (e : ℕ) (binders : List ℕ) (rest : Table) → bytes_before (table_from e binders a ++ rest) n ≡ w

-- then those and the ones before a hole with a in it have w more than are before the hole
hole-before : (c : Context) (a : Formula) (n w : ℕ) → Have a n w → (e : ℕ) (binders : List ℕ) (rest : Table) (i : ℕ) → i ≡ number c + n
    → bytes_before (table_from e binders (plugged c a) ++ rest) i ≡ length (front c) + w
hole-before Context.hole a n w h e bs rest i q =
    omega (arith, h e bs rest, ap (bytes_before (table_from e bs a ++ rest)) {x = i} {y = n} (omega arith))
hole-before (Context.left o c b) a n w h e bs rest i q =
    let m = size (plugged c a) in
    let s = table_from (e + 1) bs (plugged c a) in
    let t = table_from (e + 1 + m) bs b in
    omega (
      arith,
      pair-before (Operator.pair o (e + 1) (e + 1 + m)) s t rest i (number c + n) (omega arith),
      hole-before c a n w h (e + 1) bs (t ++ rest) (number c + n) refl,
    )
hole-before (Context.right o b c) a n w h e bs rest i q =
    let s = table_from (e + 1) bs b in
    let t = table_from (e + 1 + size b) bs (plugged c a) in
    omega (
      arith,
      pair-before (Operator.pair o (e + 1) (e + 1 + size b)) s t rest i (size b + (number c + n)) (omega arith),
      formula-before b (e + 1) bs (t ++ rest) (number c + n) (size b + (number c + n)) refl,
      hole-before c a n w h (e + 1 + size b) bs rest (number c + n) refl,
      length-append (spelled b) (front c),
    )
hole-before (Context.next c) a n w h e bs rest i q =
    omega (
      arith,
      one-before (Operator.next (e + 1)) (table_from (e + 1) bs (plugged c a) ++ rest) i (number c + n) (omega arith),
      hole-before c a n w h (e + 1) bs rest (number c + n) refl,
    )
hole-before (Context.fix g c) a n w h e bs rest i q =
    omega (
      arith,
      one-before (Operator.fix g (e + 1)) (table_from (e + 1) (e ∷ bs) (plugged c a) ++ rest) i (number c + n) (omega arith),
      hole-before c a n w h (e + 1) (e ∷ bs) rest (number c + n) refl,
    )

-- ---- where the hole's bytes begin and end
module _ (c : Context) (a : Formula) where
  -- with n of the operators in the hole, which have w bytes
  table_before : (n w i : ℕ) → Have a n w → i ≡ number c + n → bytes_before (table (plugged c a)) i ≡ length (front c) + w
  unfolding table
  table_before n w i h q =
      let t = table_from 0 [] (plugged c a) in
      ap (λ (l : Table). bytes_before l i) (sym (append-nil t)) ∙ hole-before c a n w h 0 [] [] i q

  pub first-is : first_byte (entries (plugged c a)) (number c) ≡ length (front c)
  unfolding table
  first-is = omega (arith, table_before 0 0 (number c) (λ e bs rest. none_before (table_from e bs a ++ rest)) (omega arith))

  pub last-is : last_byte (entries (plugged c a)) (number c) ≡ length (front c) + length (spelled a)
  unfolding table
  last-is =
      table_before (size a) (length (spelled a)) (number c + get_or (lengths (plugged c a)) (number c) 0)
      (λ e bs rest. omega (arith, formula-before a e bs rest 0 (size a) (omega arith), none_before rest))
      (ap (◌+◌ (number c)) (number-length c a))

-- ---- the bytes between, and others in their place
module _ (p q r : List ℕ) where
  parts_between : between (length p) (length p + length q) (p ++ (q ++ r)) ≡ q
  parts_between =
      let n = length p + length q - length p in
      ap (take n) (drop-append_seam p (q ++ r)) ∙ take_at q r n (omega arith)

  parts_spliced : (new : List ℕ) → spliced (length p) (length p + length q) (p ++ (q ++ r)) new ≡ p ++ (new ++ r)
  parts_spliced new =
      let rest = drop-append-add p (q ++ r) (length q) ∙ drop-append_seam q r in
      λ i. take-append_seam p (q ++ r) i ++ (new ++ rest i)

module _ (c : Context) (a : Formula) where
  pub subformula-spelled : subformula_bytes (spelled (plugged c a)) (entries (plugged c a)) (number c) ≡ spelled a
  subformula-spelled = rw (first-is c a, last-is c a, plugged-spelled c a) (parts_between (front c) (spelled a) (back c))

  pub replaced-spelled : (g : Formula)
      → replaced (spelled (plugged c a)) (entries (plugged c a)) (number c) (spelled g) ≡ spelled (plugged c g)
  replaced-spelled g =
      rw (first-is c a, last-is c a, plugged-spelled c a) (parts_spliced (front c) (spelled a) (back c) (spelled g))
      ∙ sym (plugged-spelled c g)
