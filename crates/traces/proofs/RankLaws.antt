-- Ranks: how many next, or fixpoints, begin before a subformula. The rank is the place in the definition's list of them, so their numbers
-- in all are its lengths. Assumes nothing.
use Rattle.std.proofs.Common.{◌≡◌, ℕ, zero, suc, ◌+◌, ◌-◌, ◌≤◌, ◌<◌, Bool, true, false, cond, List, [], ◌∷◌, ◌++◌, map, length, get_or}
use Rattle.std.proofs.Common.{set, refl, sym, ap, subst, ◌∙◌, arith, add-one, length-set, length-append}
use Rattle.std.proofs.Math.Decide.{ℕ_discrete}
use Rattle.std.proofs.Math.ListN.{length-map}
use Rattle.std.proofs.Math.Seq.{get_or-set_same, get_or-set_other}
use Rattle.std.specs.Int.{from_bool}
use Rattle.formula.specs.Table.{Operator, Table, is_next}
use Rattle.formula.specs.Rows.{operator_at, operators_of}
use Rattle.tableau.specs.Transition.{next_of}
use Rattle.tableau.specs.Nodes.{operands}
use Rattle.tableau.specs.Inner.{table_of}
use Rattle.profile.specs.Profiles.{is_least}
use Rattle.profile_tables.specs.Marks.{nexts_from, leasts}
use Rattle.traces.specs.Inner.{before, next_at, fix_at, next_rank, fix_rank, HasRanks, RowsLimited, RanksOf}

-- a number that counts where a test holds
count-one : (b : Bool) (k : ℕ) → cond b (suc k) k ≡ k + cond b 1 0
count-one true k = omega arith
count-one false k = omega arith

one-most : (b : Bool) → cond b 1 0 ≤ 1
one-most true = omega arith
one-most false = omega arith

-- what a test that was read counts
pub one_of : {a b : Bool} {n : ℕ} → a ≡ b → n ≡ from_bool a → n ≡ cond b 1 0
one_of {a} {b} q h = h ∙ as_cond a ∙ ap (λ (t : Bool). cond t 1 0) q
  where
    as_cond : (t : Bool) → from_bool t ≡ cond t 1 0
    as_cond true = refl
    as_cond false = refl

-- which is one at most
pub one_most : {a b : Bool} {n : ℕ} → a ≡ b → n ≡ from_bool a → n ≤ 1
one_most {b = b} q h = omega (arith, one_of q h, one-most b)

-- numbers that a test holds of
module _ (q : ℕ → Bool) where
  pub before_suc : (e : ℕ) (b : Bool) → q e ≡ b → before q (e + 1) ≡ cond b (suc (before q e)) (before q e)
  before_suc e b h = ap (before q) (add-one e) ∙ ap (λ (t : Bool). cond t (suc (before q e)) (before q e)) h

  -- as the code counts
  before-one : (e n : ℕ) → n ≡ cond (q e) 1 0 → before q e + n ≡ before q (e + 1)
  before-one e n h = ap (λ (k : ℕ). before q e + k) h ∙ sym (count-one (q e) (before q e)) ∙ ap (before q) (sym (add-one e))

  before-grows : (e d : ℕ) → before q e ≤ before q (e + d)
  before-grows e zero = subst (λ (k : ℕ). before q e ≤ before q k) {x = e} {y = e + 0} (omega arith) (omega arith)
  before-grows e (suc d) =
      subst (λ (k : ℕ). before q e ≤ before q k) {x = suc (e + d)} {y = e + suc d} (omega arith)
      (omega (arith, before-grows e d, count-one (q (e + d)) (before q (e + d))))

  pub before-less : (d e : ℕ) → d < e → q d ≡ true → before q d < before q e
  before-less d e h p =
      let g : before q (suc d) ≤ before q e =
      subst (λ (k : ℕ). before q (suc d) ≤ before q k) {x = suc d + (e - suc d)} {y = e} (omega arith) (before-grows (suc d) (e - suc d)) in
      omega (arith, ap (λ (t : Bool). cond t (suc (before q d)) (before q d)) p)

  before-most : (e : ℕ) → before q e ≤ e
  before-most zero = omega arith
  before-most (suc e) = omega (arith, count-one (q e) (before q e), one-most (q e), before-most e)

-- an array of ranks, one more at a time
ranked-more : (rank : ℕ → ℕ) (e n : ℕ) (l : List ℕ) → e < length l → n ≡ rank e → HasRanks rank e l → HasRanks rank (e + 1) (set l e n)
ranked-more rank e n l h q r d k = go (ℕ_discrete d e)
  where
    go : Dec (d ≡ e) → get_or (set l e n) d 0 ≡ rank d
    go (yes p) = subst (λ (i : ℕ). get_or (set l e n) i 0 ≡ rank i) (sym p) (get_or-set_same l e n 0 h ∙ q)
    go (no p) = get_or-set_other l e d n 0 p ∙ r d (omega arith)

-- one element for a next, none for another operator
next_one : (o : Operator) (b : Bool) → is_next o ≡ b → (e : ℕ) → map (λ (g : ℕ). e) (next_of o) ≡ cond b (e ∷ []) []
next_one (Operator.leaf l) b q e = ap (λ (d : Bool). cond d (e ∷ []) []) q
next_one (Operator.variable m) b q e = ap (λ (d : Bool). cond d (e ∷ []) []) q
next_one (Operator.pair o l r) b q e = ap (λ (d : Bool). cond d (e ∷ []) []) q
next_one (Operator.next g) b q e = ap (λ (d : Bool). cond d (e ∷ []) []) q
next_one (Operator.fix g l) b q e = ap (λ (d : Bool). cond d (e ∷ []) []) q

-- as many nexts as operands
nexts-operands : (e : ℕ) (t : Table) → length (nexts_from e t) ≡ length (operands t)
nexts-operands e [] = refl
nexts-operands e (o ∷ t) =
    length-append (map (λ (g : ℕ). e) (next_of o)) (nexts_from (suc e) t)
    ∙ (λ i. length-map (next_of o) (λ (g : ℕ). e) i + nexts-operands (suc e) t i)
    ∙ sym (length-append (next_of o) (operands t))

module _ (rows : List ℕ) where
  -- the nexts among the n subformulas from e on
  abbrev pub nexts_of : ℕ → ℕ → List ℕ
  nexts_of e n = nexts_from e (operators_of rows e n)

  -- subformula d is the i-th of these
  pub record NextIn (e n i d : ℕ) : Type 0 where
    pub low : e ≤ d
    pub high : d < e + n
    pub is : next_at rows d ≡ true
    pub rank : next_rank rows d ≡ next_rank rows e + i

  -- a next counts one, another operator nothing
  next_suc : (e : ℕ) → next_at rows e ≡ true → next_rank rows (suc e) ≡ suc (next_rank rows e)
  next_suc e o = ap (λ (t : Bool). cond t (suc (next_rank rows e)) (next_rank rows e)) o

  next-same : (e : ℕ) → next_at rows e ≡ false → next_rank rows (suc e) ≡ next_rank rows e
  next-same e o = ap (λ (t : Bool). cond t (suc (next_rank rows e)) (next_rank rows e)) o

  pub next-after : (e : ℕ) → next_at rows e ≡ true → next_rank rows (e + 1) ≡ next_rank rows e + 1
  next-after e o = ap (next_rank rows) (add-one e) ∙ next_suc e o ∙ sym (add-one (next_rank rows e))

  pub other_after : (e : ℕ) → next_at rows e ≡ false → next_rank rows (e + 1) ≡ next_rank rows e
  other_after e o = ap (next_rank rows) (add-one e) ∙ next-same e o

  nexts_by : (e n : ℕ) (b : Bool) → next_at rows e ≡ b → nexts_of e (suc n) ≡ cond b (e ∷ []) [] ++ nexts_of (suc e) n
  nexts_by e n b q = ap (λ (l : List ℕ). l ++ nexts_of (suc e) n) (next_one (operator_at rows e) b q e)

  nexts-length : (e n : ℕ) → next_rank rows e + length (nexts_of e n) ≡ next_rank rows (e + n)
  nexts-length e zero = subst (λ (k : ℕ). next_rank rows e + 0 ≡ next_rank rows k) {x = e} {y = e + 0} (omega arith) (omega arith)
  nexts-length e (suc n) =
      subst (λ (k : ℕ). next_rank rows e + length (nexts_of e (suc n)) ≡ next_rank rows k) {x = suc e + n} {y = e + suc n} (omega arith)
      (go (next_at rows e) refl (nexts-length (suc e) n))
    where
      go : (b : Bool) → next_at rows e ≡ b → next_rank rows (suc e) + length (nexts_of (suc e) n) ≡ next_rank rows (suc e + n)
          → next_rank rows e + length (nexts_of e (suc n)) ≡ next_rank rows (suc e + n)
      go true o h = omega (arith, ap length (nexts_by e n true o), next_suc e o)
      go false o h = omega (arith, ap length (nexts_by e n false o), next-same e o)

  pub nexts-at : (e n i : ℕ) → i < length (nexts_of e n) → NextIn e n i (get_or (nexts_of e n) i 0)
  nexts-at e zero i h = absurd (omega arith)
  nexts-at e (suc n) i h = go (next_at rows e) refl i h (nexts-at (suc e) n)
    where
      wider : (i j d : ℕ) → next_rank rows (suc e) + i ≡ next_rank rows e + j → NextIn (suc e) n i d → NextIn e (suc n) j d
      wider i j d q k = record { low = omega (arith, k.low); high = omega (arith, k.high); is = k.is; rank = k.rank ∙ q }

      go : (b : Bool) → next_at rows e ≡ b → (i : ℕ) → i < length (nexts_of e (suc n))
          → ((i : ℕ) → i < length (nexts_of (suc e) n) → NextIn (suc e) n i (get_or (nexts_of (suc e) n) i 0))
          → NextIn e (suc n) i (get_or (nexts_of e (suc n)) i 0)
      go false o i h f =
          let q = nexts_by e n false o in
          subst (λ (l : List ℕ). NextIn e (suc n) i (get_or l i 0)) (sym q)
          (wider i i (get_or (nexts_of (suc e) n) i 0) (omega (arith, next-same e o)) (f i (omega (arith, ap length q))))
      go true o zero h f =
          subst (λ (l : List ℕ). NextIn e (suc n) 0 (get_or l 0 0)) (sym (nexts_by e n true o))
          (record { low = omega arith; high = omega arith; is = o; rank = omega arith })
      go true o (suc i) h f =
          let q = nexts_by e n true o in
          subst (λ (l : List ℕ). NextIn e (suc n) (suc i) (get_or l (suc i) 0)) (sym q)
          (wider i (suc i) (get_or (nexts_of (suc e) n) i 0) (omega (arith, next_suc e o)) (f i (omega (arith, ap length q))))

  fixes-length : (e n : ℕ) → fix_rank rows e + length (leasts (operators_of rows e n)) ≡ fix_rank rows (e + n)
  fixes-length e zero = subst (λ (k : ℕ). fix_rank rows e + 0 ≡ fix_rank rows k) {x = e} {y = e + 0} (omega arith) (omega arith)
  fixes-length e (suc n) =
      longer (fix_at rows e) (fix_rank rows e) (is_least (operator_at rows e)) (leasts (operators_of rows (suc e) n))
      ∙ fixes-length (suc e) n
      ∙ ap (fix_rank rows) {x = suc e + n} {y = e + suc n} (omega arith)
    where
      longer : (b : Bool) (k : ℕ) (x : Bool) (r : List Bool) → k + length (cond b (x ∷ r) r) ≡ cond b (suc k) k + length r
      longer true k x r = omega arith
      longer false k x r = refl

  -- all of them
  module _ (count : ℕ) where
    pub nexts-all : length (nexts_of 0 count) ≡ next_rank rows count
    nexts-all = omega (arith, nexts-length 0 count, ap (next_rank rows) {x = 0 + count} {y = count} (omega arith))

    pub operands-all : length (operands (table_of rows count)) ≡ next_rank rows count
    operands-all = sym (nexts-operands 0 (table_of rows count)) ∙ nexts-all

    pub fixes-all : length (leasts (table_of rows count)) ≡ fix_rank rows count
    fixes-all = omega (arith, fixes-length 0 count, ap (fix_rank rows) {x = 0 + count} {y = count} (omega arith))

-- ranks are small
module _ {rows : List ℕ} {count : ℕ} (limited : RowsLimited rows count) (e : ℕ) (h : e < count) where
  pub next_small : next_at rows e ≡ true → next_rank rows e < 12
  next_small o = omega (arith, before-less (next_at rows) e count h o, operands-all rows count, limited.few_nexts)

  pub fix-small : fix_at rows e ≡ true → fix_rank rows e < 7
  fix-small o = omega (arith, before-less (fix_at rows) e count h o, fixes-all rows count, limited.few_fixes)

-- what counting over the rows has made after e of them
pub record Ranking (rows : List ℕ) (e : ℕ) (next fix : List ℕ) (nexts fixes : ℕ) : Type 0 where
  pub next_long : length next ≡ 48
  pub fix_long : length fix ≡ 48
  pub next_ranked : HasRanks (next_rank rows) e next
  pub fix_ranked : HasRanks (fix_rank rows) e fix
  pub nexts_are : nexts ≡ next_rank rows e
  pub fixes_are : fixes ≡ fix_rank rows e

pub ranking_start : (rows next fix : List ℕ) → length next ≡ 48 → length fix ≡ 48 → Ranking rows 0 next fix 0 0
ranking_start rows next fix l k =
    record {
      next_long = l;
      fix_long = k;
      next_ranked = λ d h. absurd (omega arith);
      fix_ranked = λ d h. absurd (omega arith);
      nexts_are = refl;
      fixes_are = refl;
    }

pub ranking_more : (rows : List ℕ) (e : ℕ) (next fix : List ℕ) (nexts fixes n m : ℕ) → e < 48 → n ≡ cond (next_at rows e) 1 0
    → m ≡ cond (fix_at rows e) 1 0
    → Ranking rows e next fix nexts fixes → Ranking rows (e + 1) (set next e nexts) (set fix e fixes) (nexts + n) (fixes + m)
ranking_more rows e next fix nexts fixes n m h en em r =
    record {
      next_long = length-set next e nexts ∙ r.next_long;
      fix_long = length-set fix e fixes ∙ r.fix_long;
      next_ranked = ranked-more (next_rank rows) e nexts next (omega (arith, r.next_long)) r.nexts_are r.next_ranked;
      fix_ranked = ranked-more (fix_rank rows) e fixes fix (omega (arith, r.fix_long)) r.fixes_are r.fix_ranked;
      nexts_are = ap (λ (k : ℕ). k + n) r.nexts_are ∙ before-one (next_at rows) e n en;
      fixes_are = ap (λ (k : ℕ). k + m) r.fixes_are ∙ before-one (fix_at rows) e m em;
    }

pub ranking_end : (rows : List ℕ) (count e : ℕ) (next fix : List ℕ) (nexts fixes : ℕ) → e ≡ count
    → Ranking rows e next fix nexts fixes → RanksOf rows count (record { nexts = nexts; next = next; fix = fix })
ranking_end rows count e next fix nexts fixes q r =
    record {
      nexts_are = r.nexts_are ∙ ap (next_rank rows) q ∙ sym (operands-all rows count);
      next_is = λ d l. r.next_ranked d (omega arith);
      fix_is = λ d l. r.fix_ranked d (omega arith);
    }

-- so that counts fit
pub ranking_small : {rows : List ℕ} {e : ℕ} {next fix : List ℕ} {nexts fixes : ℕ} → Ranking rows e next fix nexts fixes
    → (nexts ≤ e) × (fixes ≤ e)
ranking_small {rows} {e} r =
    (omega (arith, r.nexts_are, before-most (next_at rows) e), omega (arith, r.fixes_are, before-most (fix_at rows) e))
