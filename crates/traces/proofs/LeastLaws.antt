-- The mask of the least fixpoints, built subformula by subformula: its bits below the rank are the definition's, and what is left of the
-- definition's list belongs to the subformulas that are left. Assumes nothing.
use Rattle.std.proofs.Common.{◌≡◌, ℕ, suc, ◌+◌, ◌-◌, ◌≤◌, ◌<◌, Bool, true, false, cond, List, ◌∷◌, get_or, refl, sym, ap, ◌∙◌, arith}
use Rattle.std.proofs.Common.{add-one, eq-eqb, ne_eqb}
use Rattle.std.proofs.Math.Decide.{dec_lt, ℕ_discrete}
use Rattle.std.proofs.Math.Dec.{eqb}
use Rattle.base.specs.Bits.{bit}
use Rattle.base.proofs.WordLaws.{no-bit}
use Rattle.formula.specs.Table.{Operator, is_fix}
use Rattle.formula.specs.Rows.{operator_at, operators_of}
use Rattle.tableau.specs.Inner.{table_of}
use Rattle.profile.specs.Profiles.{is_least}
use Rattle.profile_tables.specs.Marks.{leasts}
use Rattle.traces.specs.Inner.{fix_at, fix_rank}
use Rattle.traces.proofs.RankLaws.{before_suc}

-- what the mask says of the subformulas before e, and what is left
pub record Masked (rows : List ℕ) (count e mask : ℕ) : Type 0 where
  pub past : (k : ℕ) → k < fix_rank rows e → bit mask k ≡ get_or (leasts (table_of rows count)) k false
  pub none : (k : ℕ) → fix_rank rows e ≤ k → bit mask k ≡ false
  pub rest : (k : ℕ) → get_or (leasts (table_of rows count)) (fix_rank rows e + k) false ≡ get_or (leasts (operators_of rows e (count - e)))
      k false

pub mask_start : (rows : List ℕ) (count : ℕ) → Masked rows count 0 0
mask_start rows count =
    record {
      past = λ k l. absurd (omega arith);
      none = λ k l. no-bit k;
      rest = λ k.
          ap (λ (i : ℕ). get_or (leasts (table_of rows count)) i false) {x = 0 + k} {y = k} (omega arith)
          ∙ ap (λ (i : ℕ). get_or (leasts (operators_of rows 0 i)) k false) {x = count} {y = count - 0} (omega arith);
    }

pub mask_end : (rows : List ℕ) (count e mask : ℕ) → count ≤ e → Masked rows count e mask → (k : ℕ)
    → bit mask k ≡ get_or (leasts (table_of rows count)) k false
mask_end rows count e mask h m k = at (dec_lt k (fix_rank rows e))
  where
    at : Dec (k < fix_rank rows e) → bit mask k ≡ get_or (leasts (table_of rows count)) k false
    at (yes l) = m.past k l
    at (no l) =
        m.none k (omega arith)
        ∙ sym
        (ap (λ (i : ℕ). get_or (leasts (table_of rows count)) i false) {x = k} {y = fix_rank rows e + (k - fix_rank rows e)} (omega arith)
        ∙ m.rest (k - fix_rank rows e)
        ∙ ap (λ (i : ℕ). get_or (leasts (operators_of rows e i)) (k - fix_rank rows e) false) {x = count - e} {y = 0} (omega arith))

-- a least fixpoint is a fixpoint
pub least-fix : (o : Operator) → is_least o ≡ true → is_fix o ≡ true
least-fix (Operator.leaf l) q = q
least-fix (Operator.variable m) q = q
least-fix (Operator.pair o l r) q = q
least-fix (Operator.next g) q = q
least-fix (Operator.fix g b) q = refl

module _ (rows : List ℕ) (count e mask : ℕ) (h : e < count) (m : Masked rows count e mask) where
  abbrev after : List Bool
  after = leasts (operators_of rows (e + 1) (count - (e + 1)))

  -- the list from e on, by what subformula e is
  from : (b c : Bool) → is_fix (operator_at rows e) ≡ b → is_least (operator_at rows e) ≡ c
      → leasts (operators_of rows e (count - e)) ≡ cond b (c ∷ after) after
  from b c p q =
      ap (λ (n : ℕ). leasts (operators_of rows e n)) {x = count - e} {y = suc (count - (e + 1))} (omega arith)
      ∙ (λ i. cond (p i) (q i ∷ leasts (operators_of rows (suc e) (count - (e + 1))))
      (leasts (operators_of rows (suc e) (count - (e + 1)))))
      ∙ ap (λ (j : ℕ). let r = leasts (operators_of rows j (count - (e + 1))) in cond b (c ∷ r) r) (sym (add-one e))

  -- no fixpoint
  mask_same : fix_at rows e ≡ false → Masked rows count (e + 1) mask
  mask_same o =
      let rank : fix_rank rows (e + 1) ≡ fix_rank rows e = before_suc (fix_at rows) e false o in
      record {
        past = λ k l. m.past k (omega arith);
        none = λ k l. m.none k (omega arith);
        rest = λ k.
            ap (λ (i : ℕ). get_or (leasts (table_of rows count)) (i + k) false) rank
            ∙ m.rest k
            ∙ ap (λ (l : List Bool). get_or l k false)
            (from false (is_least (operator_at rows e)) o refl);
      }

  -- a fixpoint whose bit the new mask has
  mask_fix : (new : ℕ) (b : Bool) → fix_at rows e ≡ true → is_least (operator_at rows e) ≡ b
      → ((k : ℕ) → bit new k ≡ cond (eqb k (fix_rank rows e)) b (bit mask k)) → Masked rows count (e + 1) new
  mask_fix new b o is w =
      let rank : fix_rank rows (e + 1) ≡ suc (fix_rank rows e) = before_suc (fix_at rows) e true o in
      record {
        past = λ k l. w k ∙ at k (omega arith) (ℕ_discrete k (fix_rank rows e));
        none = λ k l. w k ∙ ap (λ (t : Bool). cond t b (bit mask k)) (ne_eqb k (fix_rank rows e) (λ q. omega arith))
            ∙ m.none k (omega arith);
        rest = λ k.
            ap (λ (i : ℕ). get_or (leasts (table_of rows count)) i false) {x = fix_rank rows (e + 1) + k} {y = fix_rank rows e + suc k}
            (omega arith)
            ∙ m.rest (suc k)
            ∙ ap (λ (l : List Bool). get_or l (suc k) false) whole;
      }
    where
      whole : leasts (operators_of rows e (count - e)) ≡ b ∷ after
      whole = from true b o is

      at : (k : ℕ) → k < suc (fix_rank rows e) → Dec (k ≡ fix_rank rows e)
          → cond (eqb k (fix_rank rows e)) b (bit mask k) ≡ get_or (leasts (table_of rows count)) k false
      at k i (yes q) =
          ap (λ (t : Bool). cond t b (bit mask k)) (eq-eqb k (fix_rank rows e) q)
          ∙ sym
          (ap (λ (j : ℕ). get_or (leasts (table_of rows count)) j false) {x = k} {y = fix_rank rows e + 0} (omega arith)
          ∙ m.rest 0
          ∙ ap (λ (l : List Bool). get_or l 0 false) whole)
      at k i (no q) = ap (λ (t : Bool). cond t b (bit mask k)) (ne_eqb k (fix_rank rows e) q) ∙ m.past k (omega arith)

  -- a least fixpoint, whose bit is set
  pub mask_set : (new k : ℕ) → k ≡ fix_rank rows e → is_least (operator_at rows e) ≡ true
      → ((i : ℕ) → bit new i ≡ cond (eqb i k) true (bit mask i)) → Masked rows count (e + 1) new
  mask_set new k ek is w =
      mask_fix new true (least-fix (operator_at rows e) is) is (λ i. w i ∙ ap (λ (r : ℕ). cond (eqb i r) true (bit mask i)) ek)

  -- any other operator, with which the mask stays
  pub mask_kept : is_least (operator_at rows e) ≡ false → Masked rows count (e + 1) mask
  mask_kept is = go (fix_at rows e) refl
    where
      still : (i : ℕ) → Dec (i ≡ fix_rank rows e) → bit mask i ≡ cond (eqb i (fix_rank rows e)) false (bit mask i)
      still i (yes q) = m.none i (omega arith) ∙ sym (ap (λ (t : Bool). cond t false (bit mask i)) (eq-eqb i (fix_rank rows e) q))
      still i (no q) = sym (ap (λ (t : Bool). cond t false (bit mask i)) (ne_eqb i (fix_rank rows e) q))

      go : (c : Bool) → fix_at rows e ≡ c → Masked rows count (e + 1) mask
      go true q = mask_fix mask false q is (λ i. still i (ℕ_discrete i (fix_rank rows e)))
      go false q = mask_same q
