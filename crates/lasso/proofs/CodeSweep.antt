-- Words are changed one after another. Those before one are done, that one and those after it are as they were; of a word that is done
-- every bit that is not chosen is as it was. A sweep chooses one bit, a filling those of a mask. Assumes nothing.
use Rattle.std.proofs.Common.{◌≡◌, refl, sym, ap, subst, ◌∙◌, Bool, true, false, not, cond, ◌||◌, true≢false, List, ℕ, ◌+◌, ◌≤◌, ◌<◌, arith}
use Rattle.std.proofs.Common.{eqb, length, get_or, set, length-set, get_or-set_same, get_or-set_other, eqb-true, ne_eqb}
use native.Mathlib.Decide.{dec_lt}
use lib.Seq.{set-get_or}
use borrow.Author.Tests.{eqb-false}
use Rattle.base.specs.Bits.{bit}
use Rattle.formula.specs.Table.{Operator}
use Rattle.formula.specs.Rows.{operator_at, end_at}
use Rattle.formula.proofs.WellFormed.{Operands}
use Rattle.lasso.specs.Lasso.{Lasso}
use Rattle.lasso.specs.Inner.{after, local, local_at, BitsChanged, Swept}

-- one word of a list is set
module _ (i x : ℕ) (v : List ℕ) (fits : i < length v) where
  pub by_word : (P : ℕ → ℕ → Type 0) → P i x → ((m : ℕ) → (m ≡ i → ⊥) → P m (get_or v m 0)) → (m : ℕ) → P m (get_or (set v i x) m 0)
  by_word P p others m = by (eqb m i) refl
    where
      by : (b : Bool) → eqb m i ≡ b → P m (get_or (set v i x) m 0)
      by true q =
          let same : m ≡ i = eqb-true m i q in
          rw same (subst (P i) (sym (get_or-set_same v i x 0 fits)) p)
      by false q = subst (P m) (sym (get_or-set_other v i m x 0 (eqb-false m i q))) (others m (eqb-false m i q))

module _ (chosen f : ℕ → Bool) (w : List ℕ) where
  pub changed-none : BitsChanged 0 chosen f w w
  changed-none = record { long = refl; bits = λ i h. absurd (omega arith); rest = λ i h. refl }

  pub changed_end : {i n : ℕ} {v : List ℕ} → i ≤ n → n ≤ i → BitsChanged i chosen f w v → BitsChanged n chosen f w v
  changed_end {i} {n} {v} h k = subst (λ (j : ℕ). BitsChanged j chosen f w v) {x = i} {y = n} (omega arith)

  module _ (n : ℕ) (v : List ℕ) (s : BitsChanged n chosen f w v) where
    -- a bit that is not chosen is as it was
    pub other_bit : (k : ℕ) → chosen k ≡ false → (j : ℕ) → bit (get_or v j 0) k ≡ bit (get_or w j 0) k
    other_bit k h j = by (dec_lt j n)
      where
        by : Dec (j < n) → bit (get_or v j 0) k ≡ bit (get_or w j 0) k
        by (yes q) = s.bits j q k ∙ ap (λ (t : Bool). cond t (f j) (bit (get_or w j 0) k)) h
        by (no q) = ap (λ (y : ℕ). bit y k) (s.rest j (omega arith))

    -- one word more
    module _ (x : ℕ) (on : Bool) (fits : n < length w) (put : (k : ℕ) → bit x k ≡ cond (chosen k) on (bit (get_or v n 0) k))
        (is : on ≡ f n) where
      own_bits : (k : ℕ) → bit x k ≡ cond (chosen k) (f n) (bit (get_or w n 0) k)
      own_bits k =
          put k
          ∙ ap (λ (b : Bool). cond (chosen k) b (bit (get_or v n 0) k)) is
          ∙ ap (λ (y : ℕ). cond (chosen k) (f n) (bit y k)) (s.rest n (omega arith))

      pub changed-put : BitsChanged (n + 1) chosen f w (set v n x)
      changed-put = record {
        long = length-set v n x ∙ s.long;
        bits = λ i l k.
            by_word n x v (omega (arith, s.long)) (λ (i y : ℕ). i < n + 1 → bit y k ≡ cond (chosen k) (f i) (bit (get_or w i 0) k))
            (λ _. own_bits k) (λ i other l. s.bits i (omega arith) k) i l;
        rest = λ i l. get_or-set_other v n i x 0 (λ q. omega arith) ∙ s.rest i (omega arith);
      }

-- words of which none was changed so far are as they were, and so with one more that stays
pub still-more : (v : List ℕ) (n x : ℕ) (changed : Bool) {w : List ℕ} → (changed ≡ false → v ≡ w)
    → (changed || not (eqb x (get_or v n 0))) ≡ false → set v n x ≡ w
still-more v n x true {w} h q = absurd (true≢false q)
still-more v n x false {w} h q = by (eqb x (get_or v n 0)) refl q
  where
    by : (b : Bool) → eqb x (get_or v n 0) ≡ b → not b ≡ false → set v n x ≡ w
    by true same r = ap (set v n) (eqb-true x (get_or v n 0) same) ∙ set-get_or v n 0 ∙ h refl
    by false apart r = absurd (true≢false r)

-- an operator that has its operands after e does not look at bit e of the successor's word
local-there : (rows : List ℕ) (op : Operator) (e letter here x y : ℕ) → Operands (operator_at rows) (end_at rows) 48 e op
    → ((l : ℕ) → (l ≡ e → ⊥) → bit x l ≡ bit y l) → local op letter here x ≡ local op letter here y
local-there rows (Operator.leaf l) e letter here x y o h = refl
local-there rows (Operator.variable m) e letter here x y o h = refl
local-there rows (Operator.pair b l r) e letter here x y o h = refl
local-there rows (Operator.next l) e letter here x y o h = h l (λ q. omega (arith, o.first))
local-there rows (Operator.fix g l) e letter here x y o h = refl

-- what is read of the words half way through a sweep is what they had before it
pub as_before : (rows : List ℕ) (c : Lasso) (e i j : ℕ) (w v : List ℕ) (f : ℕ → Bool) (on : Bool)
    → Operands (operator_at rows) (end_at rows) 48 e (operator_at rows e) → Swept i e f w v → j ≡ after (length c.letters) c.stem i
    → (op : Operator) → operator_at rows e ≡ op → on ≡ local op (get_or c.letters i 0) (get_or v i 0) (get_or v j 0)
    → on ≡ local_at c (operator_at rows e) w i
as_before rows c e i j w v f on o s q op is r =
    let letter = get_or c.letters i 0 in
    let own = operator_at rows e in
    r
    ∙ ap (λ (op : Operator). local op letter (get_or v i 0) (get_or v j 0)) (sym is)
    ∙ local-there rows own e letter (get_or v i 0) (get_or v j 0) (get_or w j 0) o
    (λ l h. other_bit (λ k. eqb k e) f w i v s l (ne_eqb l e h) j)
    ∙ ap (λ (x : ℕ). local own letter x (get_or w j 0)) (s.rest i (omega arith))
    ∙ ap (λ (m : ℕ). local own letter (get_or w i 0) (get_or w m 0)) q
