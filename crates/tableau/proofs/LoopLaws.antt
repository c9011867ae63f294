-- The loops over the rows, each as one turn: what holds of the first e rows holds, after the turn, of the first e + 1. So no loop needs
-- more than the promise of the function it stands in, for a part of the table; the part grows at its end (`operators-more`), and the
-- definitions go along with that (`choice-append`, `operators_in-more`). A loop over the bits of a set does the same, for
-- a row whose bit is clear requires nothing (`put_upto`); and the bits put in are the definition's words, since every signal is one of
-- the sixteen (`put-required`). Assumes nothing.
use Rattle.std.proofs.Common.{◌≡◌, refl, sym, ap, subst, ◌∙◌, Bool, true, false, cond, ◌||◌, inl, inr, List, [], ◌∷◌, ◌++◌, append-nil, ℕ}
use Rattle.std.proofs.Common.{zero, suc, ◌+◌, ◌*◌, ◌/◌, ◌%◌, ◌^◌, ◌≤◌, ◌<◌, add-zero, zero-add, add-one, arith, bit_or, T, eqb, shl_exact}
use Rattle.std.proofs.Common.{shr-shr, length, ne_eqb}
use Rattle.std.proofs.Math.Bool.{or-false}
use Rattle.std.proofs.Math.Decide.{dec_lt, le_ind}
use Rattle.std.proofs.Math.Path.{subst⁻¹}
use Rattle.std.proofs.lemmas.Bool.{eqb-false}
use lib.Bits.{or_zero_r}
use mathlib.Core.List.{Memᴰ}
use mathlib.Core.List.Memᴰ
use Rattle.base.specs.Lists.{flat_map, any, range}
use Rattle.base.specs.Bits.{bit, word, Lowest, Without}
use Rattle.base.proofs.BoolLaws.{to_T}
use Rattle.base.proofs.BitLaws.{set_on, set_none}
use Rattle.base.proofs.AppendLaws.{any_append, flat_map_append, range_of}
use Rattle.base.proofs.MemberLaws.{flat_map_of}
use Rattle.base.proofs.NumberLaws.{values_length, values_add}
use Rattle.base.proofs.ShiftLaws.{low_below, low_bit}
use Rattle.base.proofs.WordLaws.{no-bit, word-bit, word-past}
use Rattle.formula.specs.Table.{Operator, Table, is_or}
use Rattle.formula.specs.Rows.{operator_at}
use Rattle.formula.specs.Access.{Fits}
use Rattle.tableau.specs.Saturation.{Subset, has}
use Rattle.tableau.specs.Transition.{operators_in, requires, is_false, required_word, next_of, ors, choice_of}
use Rattle.tableau.specs.Inner.{table_of, Formed, with_bits, RequiresMore, Required, RequiredBy}
use Rattle.tableau.specs.declared.Gathered.{Gathered}
use Rattle.tableau.proofs.ChoiceLaws.{choice_of-length}
use Rattle.tableau.proofs.WordSets.{AllBelow, with_bits-append, word_more, members_word}
use Rattle.tableau.proofs.RowLaws.{signals_below}

pub table-length : (rows : List ℕ) (count : ℕ) → length (table_of rows count) ≡ count
table-length rows count = values_length (operator_at rows) 0 count

operators-more : (rows : List ℕ) (e : ℕ) → table_of rows (e + 1) ≡ table_of rows e ++ (operator_at rows e ∷ [])
operators-more rows e =
    values_add (operator_at rows) 0 e 1 ∙ ap (λ (i : ℕ). table_of rows e ++ (operator_at rows i ∷ [])) (zero-add e)

-- a loop that has come to its end
pub at_end : {e count : ℕ} (P : ℕ → Type 0) → e ≤ count → count ≤ e → P e → P count
at_end {e} {count} P h k p = subst P {x = e} {y = count} (omega arith) p

-- how many ors there are
ors-append : (s t : Table) → ors (s ++ t) ≡ ors s + ors t
ors-append [] t = omega arith
ors-append (o ∷ s) t = omega (arith, ors-append s t)

ors-more : (rows : List ℕ) (e : ℕ) → ors (table_of rows (e + 1)) ≡ ors (table_of rows e) + cond (is_or (operator_at rows e)) 1 0
ors-more rows e = ap ors (operators-more rows e) ∙ omega (arith, ors-append (table_of rows e) (operator_at rows e ∷ []))

module _ (rows : List ℕ) (e : ℕ) where
  pub ors-one : is_or (operator_at rows e) ≡ true → ors (table_of rows (e + 1)) ≡ ors (table_of rows e) + 1
  ors-one h = ors-more rows e ∙ ap (λ (b : Bool). ors (table_of rows e) + cond b 1 0) h

  pub ors-same : is_or (operator_at rows e) ≡ false → ors (table_of rows (e + 1)) ≡ ors (table_of rows e)
  ors-same h = ors-more rows e ∙ ap (λ (b : Bool). ors (table_of rows e) + cond b 1 0) h ∙ add-zero (ors (table_of rows e))

-- the choice of a choice word: an or takes its last digit and leaves the others
pub choice-append : (s t : Table) (x : ℕ) → choice_of (s ++ t) x ≡ choice_of s x ++ choice_of t (x / 2 ^ ors s)
choice-append [] t x = ap (choice_of t) {x = x} {y = x / 2 ^ 0} (omega arith)
choice-append (o ∷ s) t x = by (is_or o) (choice-append s t)
  where
    by : (b : Bool) → ((x : ℕ) → choice_of (s ++ t) x ≡ choice_of s x ++ choice_of t (x / 2 ^ ors s))
        → cond b (eqb (x % 2) 1 ∷ choice_of (s ++ t) (x / 2)) (false ∷ choice_of (s ++ t) x)
        ≡ cond b (eqb (x % 2) 1 ∷ choice_of s (x / 2)) (false ∷ choice_of s x) ++ choice_of t (x / 2 ^ (cond b 1 0 + ors s))
    by true f = ap (λ (v : Subset). eqb (x % 2) 1 ∷ v)
        (f (x / 2) ∙ ap (λ (y : ℕ). choice_of s (x / 2) ++ choice_of t y) (shr-shr x 1 (ors s)))
    by false f = ap (λ (v : Subset). false ∷ v) (f x ∙ ap (λ (n : ℕ). choice_of s x ++ choice_of t (x / 2 ^ n)) (sym (zero-add (ors s))))

-- a digit put in as bit e, which the word lacks
digit_bit : (w e d : ℕ) → d < 2 → bit w e ≡ false → (k : ℕ) → bit (bit_or w (d * 2 ^ e)) k ≡ cond (eqb k e) (eqb d 1) (bit w k)
digit_bit w e zero h q k = ap (λ (x : ℕ). bit x k) (ap (bit_or w) {x = 0 * 2 ^ e} {y = 0} (omega arith) ∙ or_zero_r w) ∙ set_none w e q k
digit_bit w e (suc zero) h q k = ap (λ (x : ℕ). bit (bit_or w x) k) {x = 1 * 2 ^ e} {y = 2 ^ e} (omega arith) ∙ set_on w e k
digit_bit w e (suc (suc d)) h q k = absurd (omega arith)

-- the first e rows' part of the choice, and what is left of the choice word behind them
pub record ChoiceSoFar (rows : List ℕ) (e x choice left : ℕ) : Type 0 where
  pub choice-is : choice ≡ word (choice_of (table_of rows e) x)
  pub left_is : left ≡ x / 2 ^ ors (table_of rows e)

module _ {rows : List ℕ} {e x choice left : ℕ} (c : ChoiceSoFar rows e x choice left) where
  abbrev before : Table
  before = table_of rows e

  long : length (choice_of before x) ≡ e
  long = choice_of-length before x ∙ table-length rows e

  -- the pick of the operator at e
  pick : (b : Bool) → is_or (operator_at rows e) ≡ b
      → choice_of (operator_at rows e ∷ []) left ≡ cond b (eqb (left % 2) 1 ∷ []) (false ∷ [])
  pick b = ap (λ (d : Bool). cond d (eqb (left % 2) 1 ∷ []) (false ∷ []))

  -- the choice with a Bool more
  grown : (b : Bool) (r : ℕ) → choice_of (operator_at rows e ∷ []) left ≡ b ∷ [] → ((k : ℕ) → bit r k ≡ cond (eqb k e) b (bit choice k))
      → r ≡ word (choice_of (table_of rows (e + 1)) x)
  grown b r q f =
      word_more (choice_of before x) b r (λ k. f k ∙ rw (long, c.choice-is))
      ∙ ap word (sym (ap (λ (t : Table). choice_of t x) (operators-more rows e) ∙ choice-append before (operator_at rows e ∷ []) x
      ∙ ap (λ (y : ℕ). choice_of before x ++ choice_of (operator_at rows e ∷ []) y) (sym c.left_is)
      ∙ ap (λ (v : Subset). choice_of before x ++ v) q))

  clear : bit choice e ≡ false
  clear = ap (λ (y : ℕ). bit y e) c.choice-is ∙ word-past (choice_of before x) e (omega (arith, long))

  pub chosen_or : is_or (operator_at rows e) ≡ true → e < 64
      → ChoiceSoFar rows (e + 1) x (bit_or choice (left % 2 * 2 ^ e % 2 ^ 64)) (left / 2)
  chosen_or h few = record {
    choice-is =
        ap (bit_or choice) (shl_exact {a = left % 2} 1 e 64 (omega arith) (omega arith))
        ∙ grown (eqb (left % 2) 1) (bit_or choice (left % 2 * 2 ^ e)) (pick true h) (digit_bit choice e (left % 2) (omega arith) clear);
    left_is = ap (λ (y : ℕ). y / 2) c.left_is ∙ shr-shr x (ors before) 1 ∙ ap (λ (n : ℕ). x / 2 ^ n) (sym (ors-one rows e h));
  }

  pub chosen_other : is_or (operator_at rows e) ≡ false → ChoiceSoFar rows (e + 1) x choice left
  chosen_other h = record {
    choice-is = grown false choice (pick false h) (set_none choice e clear);
    left_is = c.left_is ∙ ap (λ (n : ℕ). x / 2 ^ n) (sym (ors-same rows e h));
  }

-- what is required
operators_in-more : (t : Table) (o : Operator) (s : Subset) → operators_in (t ++ (o ∷ [])) s ≡ operators_in t s ++ cond
    (has s (length t)) (o ∷ []) []
operators_in-more [] o [] = refl
operators_in-more [] o (true ∷ s) = refl
operators_in-more [] o (false ∷ s) = refl
operators_in-more (p ∷ t) o [] = refl
operators_in-more (p ∷ t) o (true ∷ s) = ap (λ (l : List Operator). p ∷ l) (operators_in-more t o s)
operators_in-more (p ∷ t) o (false ∷ s) = operators_in-more t o s

flat_mapped : (g : Operator → List ℕ) (os : List Operator) (o : Operator) (x y : ℕ) → x ≡ with_bits (flat_map g os) 0
    → y ≡ with_bits (g o) x
    → y ≡ with_bits (flat_map g (os ++ (o ∷ []))) 0
flat_mapped g os o x y p q =
    q ∙ ap (with_bits (g o)) p ∙ sym (with_bits-append (flat_map g os) (g o) 0)
    ∙ ap (λ (l : List ℕ). with_bits l 0) (sym (flat_map_append g os (o ∷ []) ∙ ap (λ (l : List ℕ). flat_map g os ++ l) (append-nil (g o))))

-- The words have the bits that the operators require put in one after another.
pub record BitsPut (os : List Operator) (r : Gathered) : Type 0 where
  pub present_is : r.required.present ≡ with_bits (flat_map (requires true) os) 0
  pub absent_is : r.required.absent ≡ with_bits (flat_map (requires false) os) 0
  pub falsum_is : r.falsum ≡ any is_false os
  pub to_is : r.to ≡ with_bits (flat_map next_of os) 0

put_one : (os : List Operator) (o : Operator) (q r : Gathered) → BitsPut os q → RequiresMore o q r → BitsPut (os ++ (o ∷ [])) r
put_one os o q r k m = record {
  present_is = flat_mapped (requires true) os o q.required.present r.required.present k.present_is m.present_is;
  absent_is = flat_mapped (requires false) os o q.required.absent r.required.absent k.absent_is m.absent_is;
  falsum_is = m.falsum_is ∙ ap (λ (b : Bool). b || is_false o) k.falsum_is
      ∙ sym (any_append is_false os (o ∷ []) ∙ ap (λ (b : Bool). any is_false os || b) (or-false (is_false o)));
  to_is = flat_mapped next_of os o q.to r.to k.to_is m.to_is;
}

-- what the first e rows of a set require
pub record PutBy (rows : List ℕ) (count e set : ℕ) (r : Gathered) : Type 0 where
  pub is : (s : Subset) → length s ≡ count → set ≡ word s → BitsPut (operators_in (table_of rows e) s) r

put-none : (rows : List ℕ) (count set : ℕ)
    → PutBy rows count 0 set (record { required = record { present = 0; absent = 0 }; falsum = false; to = 0 })
put-none rows count set = record { is = λ s l e. record { present_is = refl; absent_is = refl; falsum_is = refl; to_is = refl } }

module _ {rows : List ℕ} {count e set : ℕ} {q : Gathered} (k : PutBy rows count e set q) where
  in_more : (s : Subset) (b : Bool) → set ≡ word s → bit set e ≡ b
      → operators_in (table_of rows (e + 1)) s ≡ operators_in (table_of rows e) s ++ cond b (operator_at rows e ∷ []) []
  in_more s b n h =
      ap (λ (t : Table). operators_in t s) (operators-more rows e) ∙ operators_in-more (table_of rows e) (operator_at rows e) s
      ∙ ap (λ (i : ℕ). operators_in (table_of rows e) s ++ cond (has s i) (operator_at rows e ∷ []) []) (table-length rows e)
      ∙ ap (λ (d : Bool). operators_in (table_of rows e) s ++ cond d (operator_at rows e ∷ []) [])
      (sym (word-bit s e) ∙ ap (λ (x : ℕ). bit x e) (sym n) ∙ h)

  put-more : bit set e ≡ true → {r : Gathered} → RequiresMore (operator_at rows e) q r → PutBy rows count (e + 1) set r
  put-more h {r} m = record {
    is = λ s l n.
        subst⁻¹ (λ (os : List Operator). BitsPut os r) (in_more s true n h)
        (put_one (operators_in (table_of rows e) s) (operator_at rows e) q r (k.is s l n) m);
  }

  put_same : bit set e ≡ false → PutBy rows count (e + 1) set q
  put_same h = record {
    is = λ s l n. subst⁻¹ (λ (os : List Operator). BitsPut os q) (in_more s false n h ∙ append-nil (operators_in (table_of rows e) s))
        (k.is s l n);
  }

-- rows whose bits are clear are passed over
put_upto : {rows : List ℕ} {count e set : ℕ} {q : Gathered} (m : ℕ) → e ≤ m → PutBy rows count e set q
    → ((k : ℕ) → e ≤ k → k < m → bit set k ≡ false) → PutBy rows count m set q
put_upto {rows} {count} {e} {set} {q} m l r =
    le_ind (λ (m : ℕ). ((k : ℕ) → e ≤ k → k < m → bit set k ≡ false) → PutBy rows count m set q)
    (λ h. r)
    (λ m l f h.
    subst (λ (n : ℕ). PutBy rows count n set q) (add-one m) (put_same (f (λ k a b. h k a (omega arith))) (h m l (omega arith))))
    m l

-- the operators of a set are operators of rows
in_table : (t : Table) (s : Subset) {o : Operator} → Memᴰ o (operators_in t s) → Memᴰ o t
in_table [] s m = m
in_table (p ∷ t) [] m = absurd (Memᴰ.not-nil m)
in_table (p ∷ t) (true ∷ s) m = elim (Memᴰ.cases_cons m) [ inl e ↦ Memᴰ.head e | inr r ↦ Memᴰ.tail (in_table t s r) ]
in_table (p ∷ t) (false ∷ s) m = Memᴰ.tail (in_table t s m)

module _ {rows : List ℕ} {count : ℕ} (f : Formed rows count) (s : Subset) where
  abbrev os : List Operator
  os = operators_in (table_of rows count) s

  -- what is gathered of them is in its range
  pub flat_mapped_below : (g : Operator → List ℕ) (n : ℕ)
      → ((o : Operator) → Fits count o → AllBelow n (g o)) → AllBelow n (flat_map g os)
  flat_mapped_below g n h m r =
      let (o, q, k) = flat_map_of g os r in
      let (e, i, p) = Memᴰ.of_map (operator_at rows) (range 0 count) (in_table (table_of rows count) s q) in
      h (operator_at rows e) (f.fits e (omega (arith, range_of 0 count i))) m (subst⁻¹ (λ (x : Operator). Memᴰ m (g x)) p k)

  -- so the bits put in are the definition's word
  required-put : (p : Bool) → with_bits (flat_map (requires p) os) 0 ≡ required_word p os
  unfolding required_word
  required-put p = members_word 16 (flat_map (requires p) os) (flat_mapped_below (requires p) 16 (signals_below p count))

  put-required : {r : Gathered} → BitsPut os r → Required os r
  put-required b = record {
    required_is = λ i. record { present = (b.present_is ∙ required-put true) i; absent = (b.absent_is ∙ required-put false) i };
    falsum_is = b.falsum_is;
    to_is = b.to_is;
  }

-- The loop over the bits of a set: the rows below `upto` are passed, and the rest has the set's bits from there on.
pub record BitsPassed (rows : List ℕ) (count set rest : ℕ) (q : Gathered) : Type 0 where
  pub upto : ℕ
  pub few : upto ≤ count
  pub required : PutBy rows count upto set q
  pub ahead : (k : ℕ) → T (bit rest k) → (upto ≤ k) × (k < count)
  pub same : (k : ℕ) → upto ≤ k → k < count → bit set k ≡ bit rest k

pub passed_none : (rows : List ℕ) {count rest : ℕ} (set : ℕ) → rest ≡ set % 2 ^ count
    → BitsPassed rows count set rest (record { required = record { present = 0; absent = 0 }; falsum = false; to = 0 })
passed_none rows {count} {rest} set q = record {
  upto = 0;
  few = omega arith;
  required = put-none rows count set;
  ahead = λ k t. (omega arith, low_below count set k (subst (λ (x : ℕ). T (bit x k)) q t));
  same = λ k a b. sym (ap (λ (x : ℕ). bit x k) q ∙ low_bit count set k b);
}

module _ {rows : List ℕ} {count set rest : ℕ} {q : Gathered} (p : BitsPassed rows count set rest q) where
  pub passed-below : {e : ℕ} → Lowest rest e → e < count
  passed-below {e} l = (p.ahead e (to_T (bit rest e) l.there)).1

  pub passed-more : {e left : ℕ} {r : Gathered} → Lowest rest e → Without rest e left → RequiresMore (operator_at rows e) q r
      → BitsPassed rows count set left r
  passed-more {e} {left} {r} l o m = record {
    upto = e + 1;
    few = omega (arith, here.1);
    required = put-more (put_upto e here.0 p.required clear) (p.same e here.0 here.1 ∙ l.there) m;
    ahead = λ k t. from k (eqb k e) refl (subst T (o.bits k) t);
    same = λ k a b.
        p.same k (omega (arith, here.0)) b
        ∙ sym (o.bits k ∙ ap (λ (d : Bool). cond d false (bit rest k)) (ne_eqb k e (λ i. omega arith)));
  }
    where
      here : (p.upto ≤ e) × (e < count)
      here = p.ahead e (to_T (bit rest e) l.there)

      clear : (k : ℕ) → p.upto ≤ k → k < e → bit set k ≡ false
      clear k a b = p.same k a (omega (arith, here.1)) ∙ l.none_below k b

      from : (k : ℕ) (d : Bool) → eqb k e ≡ d → T (cond d false (bit rest k)) → (e + 1 ≤ k) × (k < count)
      from k true i t = absurd t
      from k false i t = (after (dec_lt k e), (p.ahead k t).1)
        where
          after : Dec (k < e) → e + 1 ≤ k
          after (yes h) = absurd (subst T (l.none_below k h) t)
          after (no h) = omega (arith, eqb-false k e i)

  pub passed-all : Formed rows count → rest ≡ 0 → RequiredBy rows count set q
  passed-all f z = record { is = λ s l e. put-required f s (all.is s l e) }
    where
      all : PutBy rows count count set q
      all = put_upto count p.few p.required (λ k a b. p.same k a b ∙ ap (λ (x : ℕ). bit x k) z ∙ no-bit k)
