-- The bits of a choice word at the ors that no saturation of a node meets. Bit j of the word is the choice's pick at or number j
-- (`choice-at`), so where that or is outside a set that holds every saturation of the node under the words between two others, a word
-- between them with bit j picks at an or that is not met, and has no transition (`unmet-all`). The loop gathers these bits row by row
-- (`outside_or`, `outside_other`). A word's pick at or j says between which two it is, so that the bits for each or and pick are right
-- (`unmet-start`, `unmet_turn`), and a word that has one of them by its own pick has no transition (`unmet-nowhere`).
-- Assumes nothing.
use Rattle.std.proofs.Common.{◌≡◌, refl, sym, ap, subst, ◌∙◌, Bool, true, false, not, cond, ◌&&◌, List, ◌∷◌, ◌++◌, ℕ, zero, suc, ◌+◌, ◌-◌}
use Rattle.std.proofs.Common.{◌*◌, ◌/◌, ◌%◌, ◌^◌, ◌≤◌, ◌<◌, zero-add, arith, bit_and, pow_pos, T, T_not, eqb, eqb→eq, length, get_or, set}
use Rattle.std.proofs.Common.{replicate, length-set, get_or-set_same, get_or-set_other, eqb-true, eq-eqb}
use Rattle.std.proofs.Math.ListN.{length-replicate, get_or-replicate}
use Rattle.std.proofs.Math.Nat.{pow-succ'}
use Rattle.std.proofs.Math.Path.{subst⁻¹}
use Rattle.std.proofs.Math.Seq.{get_or_at}
use Rattle.base.specs.Bits.{bit, word}
use Rattle.base.specs.Lists.{range}
use Rattle.base.proofs.BoolLaws.{by_test, to_T, and_left, and_right}
use Rattle.base.proofs.TestLaws.{not_of_T}
use Rattle.base.proofs.BitLaws.{bit-and, bit_other}
use Rattle.base.proofs.AppendLaws.{range_of}
use Rattle.base.proofs.MemberLaws.{any_of}
use Rattle.base.proofs.NumberLaws.{values_add}
use Rattle.base.proofs.WordLaws.{same_bits, no-bit, bit_zero, bit_suc}
use Rattle.formula.specs.Table.{Table, is_or}
use Rattle.formula.specs.Rows.{operator_at, operators_of}
use Rattle.tableau.specs.Saturation.{Subset, has, saturate}
use Rattle.tableau.specs.Transition.{ors, choice_of, within}
use Rattle.tableau.specs.Inner.{table_of, ChoiceBetween, Widest, LeadsNowhere, UnmetBetween, unmet_at, is_unmet, UnmetOrs}
use Rattle.tableau.proofs.ChoiceLaws.{choice_of-length}
use Rattle.tableau.proofs.TransitionLaws.{within_of, no_transition}
use Rattle.tableau.proofs.LoopLaws.{table-length, at_end, ors-one, ors-same, choice-append}

-- the table as the rows before e, row e, and the rest
table_split : (rows : List ℕ) {count e : ℕ} → e < count
    → table_of rows count ≡ table_of rows e ++ (operator_at rows e ∷ operators_of rows (suc e) (count - e - 1))
table_split rows {count} {e} h =
    ap (table_of rows) {x = count} {y = e + suc (count - e - 1)} (omega arith)
    ∙ values_add (operator_at rows) 0 e (suc (count - e - 1))
    ∙ ap (λ (i : ℕ). table_of rows e ++ operators_of rows i (suc (count - e - 1))) (zero-add e)

-- the choice at an or is the word's bit at the or's number
choice-at : (rows : List ℕ) {count e : ℕ} (x : ℕ) → e < count → is_or (operator_at rows e) ≡ true
    → has (choice_of (table_of rows count) x) e ≡ bit x (ors (table_of rows e))
choice-at rows {count} {e} x h o =
    ap (λ (t : Table). has (choice_of t x) e) (table_split rows h)
    ∙ ap (λ (v : Subset). has v e) (choice-append before (operator_at rows e ∷ rest) x ∙ ap (λ (v : Subset). choice_of before x ++ v) here)
    ∙ get_or_at (choice_of before x) (bit x (ors before)) (choice_of rest (left / 2)) false e
    (choice_of-length before x ∙ table-length rows e)
  where
    before : Table
    before = table_of rows e

    rest : Table
    rest = operators_of rows (suc e) (count - e - 1)

    left : ℕ
    left = x / 2 ^ ors before

    here : choice_of (operator_at rows e ∷ rest) left ≡ bit x (ors before) ∷ choice_of rest (left / 2)
    here = ap (λ (b : Bool). cond b (eqb (left % 2) 1 ∷ choice_of rest (left / 2)) (false ∷ choice_of rest left)) o

-- or number j is one of the first e rows, and outside the set
pub record OrOutside (rows : List ℕ) (e set j : ℕ) : Type 0 where
  pub at : ℕ
  pub early : at < e
  pub an_or : is_or (operator_at rows at) ≡ true
  pub number : j ≡ ors (table_of rows at)
  pub outside : T (bit set at) → ⊥

later : {rows : List ℕ} {e set j : ℕ} → OrOutside rows e set j → OrOutside rows (e + 1) set j
later o = record { at = o.at; early = omega (arith, o.early); an_or = o.an_or; number = o.number; outside = o.outside }

-- the loop: there are n ors in the first e rows, and the bits are at those outside the set
pub record Outside (rows : List ℕ) (e set bits n : ℕ) : Type 0 where
  pub counted : n ≡ ors (table_of rows e)
  pub each : (j : ℕ) → T (bit bits j) → OrOutside rows e set j

module _ {rows : List ℕ} {e set bits n : ℕ} (o : Outside rows e set bits n) where
  pub outside_or : is_or (operator_at rows e) ≡ true → {b : Bool} → b ≡ bit set e → (r : ℕ)
      → ((k : ℕ) → bit r k ≡ cond (eqb k n) (not b) (bit bits k)) → Outside rows (e + 1) set r (n + 1)
  outside_or h {b} q r f = record {
    counted = ap (λ (k : ℕ). k + 1) o.counted ∙ sym (ors-one rows e h);
    each = λ j k. by j (eqb j n) refl (subst T (f j) k);
  }
    where
      by : (j : ℕ) (t : Bool) → eqb j n ≡ t → T (cond t (not b) (bit bits j)) → OrOutside rows (e + 1) set j
      by j true s k = record {
        at = e;
        early = omega arith;
        an_or = h;
        number = eqb-true j n s ∙ o.counted;
        outside = λ m. T_not b k (subst⁻¹ T q m);
      }
      by j false s k = later (o.each j k)

  pub outside_other : is_or (operator_at rows e) ≡ false → Outside rows (e + 1) set bits n
  outside_other h = record { counted = o.counted ∙ sym (ors-same rows e h); each = λ j m. later (o.each j m) }

-- a word that picks at an or outside a set that holds every saturation is not met
module _ {rows : List ℕ} {count low high node set : ℕ} (wd : Widest rows count low high node set) (x : ℕ)
    (m : ChoiceBetween (ors (table_of rows count)) low high x) (v : Subset) (l : length v ≡ count) (n : node ≡ word v) where
  abbrev t : Table
  t = table_of rows count

  abbrev w : Subset
  w = choice_of t x

  not_met : {j : ℕ} → OrOutside rows count set j → T (bit x j) → T (within w (saturate t w v)) → ⊥
  not_met o h i =
      let picked : T (has w o.at) =
      subst⁻¹ T (choice-at rows x o.early o.an_or ∙ ap (bit x) (sym o.number)) h in
      o.outside (wd.is v l n x m o.at (within_of w (saturate t w v) i o.at picked))

  unmet-within : {bits k : ℕ} → Outside rows count set bits k → (bit_and x bits ≡ 0 → ⊥) → within w (saturate t w v) ≡ false
  unmet-within {bits} o q =
      not_of_T (within w (saturate t w v))
      (λ i. q (same_bits (bit_and x bits) 0
      (λ j. bit-and x bits j
      ∙ not_of_T (bit x j && bit bits j)
      (λ b. not_met (o.each j (and_right (bit x j) (bit bits j) b)) (and_left (bit x j) (bit bits j) b) i)
      ∙ sym (no-bit j))))

pub unmet-all : {rows : List ℕ} {count low high node set e bits n : ℕ} → Widest rows count low high node set → Outside rows e set bits n
    → e ≤ count → count ≤ e → UnmetBetween rows count low high node bits
unmet-all {rows} {count} {set = set} {bits = bits} {n = n} wd o h k = record {
  is = λ x m q. record {
    is = λ v l c.
        let t = table_of rows count in
        let w = choice_of t x in
        no_transition t w (saturate t w v) (unmet-within wd x m v l c (at_end (λ (i : ℕ). Outside rows i set bits n) h k o) q);
  };
}

-- equal numbers, or others
same_or_not : (i j : ℕ) {P : Type 0} → (i ≡ j → P) → ((i ≡ j → ⊥) → P) → P
same_or_not i j {P} f g = by_test (eqb i j) (λ _. P) (λ h. f (eqb→eq i j h)) (λ h. g (λ e. h (to_T (eqb i j) (eq-eqb i j e))))

-- a number one below a power has all lower bits
ones_bit : (n k : ℕ) → k < n → T (bit (2 ^ n - 1) k)
ones_bit zero k h = absurd (omega arith)
ones_bit (suc n) zero h =
    let w = 2 ^ suc n - 1 in
    to_T (bit w 0) (bit_zero w ∙ ap (λ (y : ℕ). eqb y 1) {x = w % 2} {y = 1} (omega (arith, pow-succ' 2 n, pow_pos n)))
ones_bit (suc n) (suc k) h =
    let w = 2 ^ suc n - 1 in
    subst⁻¹ T (bit_suc w k ∙ ap (λ (y : ℕ). bit y k) {x = w / 2} {y = 2 ^ n - 1} (omega (arith, pow-succ' 2 n, pow_pos n)))
    (ones_bit n k (omega arith))

-- Every choice word is below all ones; one that picks left at or j is below all but its bit, and one that picks right is above its bit.
module _ {n all : ℕ} (a : all ≡ 2 ^ n - 1) (x : ℕ) where
  all-bits : (i : ℕ) → i < n → T (bit all i)
  all-bits i h = subst⁻¹ (λ (y : ℕ). T (bit y i)) a (ones_bit n i h)

  between-any : ChoiceBetween n 0 all x
  between-any = record { above = λ i h k. absurd (subst T (no-bit i) k); below = λ i h k. all-bits i h }

  between_left : (j : ℕ) {high : ℕ} → x / 2 ^ j % 2 ≡ 0 → ((k : ℕ) → bit high k ≡ cond (eqb k j) false (bit all k))
      → ChoiceBetween n 0 high x
  between_left j {high} p f = record {
    above = between-any.above;
    below = λ i h k.
        subst⁻¹ T (f i)
        (by_test (eqb i j) (λ b. T (cond b false (bit all i)))
        (λ e. absurd (omega (arith, p, eqb→eq (x / 2 ^ i % 2) 1 k, ap (λ (m : ℕ). x / 2 ^ m % 2) (eqb→eq i j e)))) (λ e. all-bits i h));
  }

  between-right : (j : ℕ) {low : ℕ} → x / 2 ^ j % 2 ≡ 1 → low ≡ 2 ^ j → ChoiceBetween n low all x
  between-right j {low} p e = record {
    above = λ i h k.
        same_or_not i j
        (λ q. to_T (bit x i) (eq-eqb (x / 2 ^ i % 2) 1 (ap (λ (m : ℕ). x / 2 ^ m % 2) q ∙ p)))
        (λ q. absurd (subst T (ap (λ (y : ℕ). bit y i) e ∙ bit_other j i q) k));
    below = between-any.below;
  }

-- one entry more is right: the bits of or j with pick b
unmet-put : {rows : List ℕ} {count node at y : ℕ} {r : List ℕ} (j b : ℕ) → length r ≡ 24 → j < 12 → b < 2 → at ≡ 2 * j + b
    → ((x : ℕ) → x / 2 ^ j % 2 ≡ b → (bit_and x y ≡ 0 → ⊥) → LeadsNowhere rows count node x) → UnmetOrs rows count node r
    → UnmetOrs rows count node (set r at y)
unmet-put {rows} {count} {node} {at} {y} {r} j b l h s q f u = record { is = λ x i k m. go x i k m }
  where
    go : (x i : ℕ) → i < 12 → (bit_and x (unmet_at (set r at y) x i) ≡ 0 → ⊥) → LeadsNowhere rows count node x
    go x i k m =
        let place = 2 * i + x / 2 ^ i % 2 in
        same_or_not place at
        (λ e.
        let same : i ≡ j = omega arith in
        f x (ap (λ (p : ℕ). x / 2 ^ p % 2) (sym same) ∙ omega arith)
        (λ z. m (ap (λ (p : ℕ). bit_and x (get_or (set r at y) p 0)) e ∙ ap (bit_and x) (get_or-set_same r at y 0 (omega arith)) ∙ z)))
        (λ e. u.is x i k (λ z. m (ap (bit_and x) (get_or-set_other r at place y 0 e) ∙ z)))

-- the entries for each or and pick
pub record UnmetEntries (rows : List ℕ) (count node : ℕ) (r : List ℕ) : Type 0 where
  pub long : length r ≡ 24
  pub right : UnmetOrs rows count node r

module _ (rows : List ℕ) (count : ℕ) {n all : ℕ} (o : n ≡ ors (table_of rows count)) (a : all ≡ 2 ^ n - 1) where
  ones : all ≡ 2 ^ ors (table_of rows count) - 1
  ones = a ∙ ap (λ (k : ℕ). 2 ^ k - 1) o

  -- at first those of no pick,
  pub unmet-start : {node y : ℕ} → UnmetBetween rows count 0 all node y → UnmetEntries rows count node (replicate 24 y)
  unmet-start {y = y} u = record {
    long = length-replicate 24 y;
    right = record {
      is = λ x j h m. u.is x (between-any ones x)
          (λ z. m (ap (bit_and x) (get_or-replicate 24 (2 * j + x / 2 ^ j % 2) y 0 (omega arith)) ∙ z));
    };
  }

  -- then those of the picks at or j
  pub unmet_turn : {node : ℕ} {r : List ℕ} {left right low high y z : ℕ} (j : ℕ) → j < 12 → left ≡ 2 * j → right ≡ 2 * j + 1
      → ((k : ℕ) → bit high k ≡ cond (eqb k j) false (bit all k)) → UnmetBetween rows count 0 high node y
      → low ≡ 2 ^ j → UnmetBetween rows count low all node z
      → UnmetEntries rows count node r → UnmetEntries rows count node (set (set r left y) right z)
  unmet_turn {r = r} {left} {right} {y = y} {z} j h p q f m e k entries = record {
    long = length-set (set r left y) right z ∙ half;
    right =
        unmet-put j 1 half h (omega arith) q (λ x i o. k.is x (between-right ones x j i e) o)
        (unmet-put j 0 entries.long h (omega arith) (omega arith) (λ x i o. m.is x (between_left ones x j i f) o) entries.right);
  }
    where
      half : length (set r left y) ≡ 24
      half = length-set r left y ∙ entries.long

-- the test of a word
module _ (r : List ℕ) (x : ℕ) where
  abbrev pub hit : ℕ → Bool
  hit j = not (eqb (bit_and x (unmet_at r x j)) 0)

  unmet-some : T (is_unmet r x) → (j : ℕ) × (j < 12) × (bit_and x (unmet_at r x j) ≡ 0 → ⊥)
  unmet-some h =
      let (j, m, k) = any_of hit (range 0 12) h in (
        j,
        omega (arith, range_of 0 12 m),
        λ z. T_not (eqb (bit_and x (unmet_at r x j)) 0) k
            (to_T (eqb (bit_and x (unmet_at r x j)) 0) (eq-eqb (bit_and x (unmet_at r x j)) 0 z)),
      )

-- Theorem: a word that the test tells has no transition.
pub unmet-nowhere : {rows : List ℕ} {count node : ℕ} {r : List ℕ} → UnmetOrs rows count node r → (x : ℕ) → is_unmet r x ≡ true
    → LeadsNowhere rows count node x
unmet-nowhere {r = r} u x e = let (j, l, k) = unmet-some r x (to_T (is_unmet r x) e) in u.is x j l k
