-- The subformulas of e that stand in no closed one inside e, found from e on: behind a closed subformula the search goes on where it ends,
-- and every other number is taken. Subformulas are nested, so a closed one before k ends at k or before it. Assumes nothing.
use Rattle.std.proofs.Common.{◌≡◌, refl, sym, ap, ◌∙◌, Bool, true, false, cond, true≢false, List, ℕ, ◌+◌, ◌^◌, ◌≤◌, ◌<◌, arith, bit_or, eqb}
use Rattle.std.proofs.Common.{get_or, eqb-true, eq-eqb}
use mathlib.Core.Bool.{false≢true}
use native.Mathlib.Decide.{dec_lt}
use borrow.Author.Tests.{eqb-false}
use Rattle.base.specs.Bits.{bit}
use Rattle.base.proofs.BitLaws.{bit-same, bit_other, set_on}
use Rattle.formula.specs.Rows.{end_at}
use Rattle.lasso.proofs.CodeWritten.{held-some, held-placed, held-inside, nested}
use Rattle.lasso.specs.Inner.{FormulaAt, Alone, Shut, Open, BitsListed, Few, Movable}

-- a subformula inside e ends behind its own number
pub inside-some : (rows : List ℕ) (e : ℕ) → FormulaAt rows e → (k : ℕ) → e ≤ k → k < end_at rows e → k < end_at rows k
inside-some rows e h k l m = held-some rows k (held-inside rows e h k l m)

module _ (rows : List ℕ) (e : ℕ) where
  -- the numbers before k are gone through
  pub record Opens (k mask : ℕ) : Type 0 where
    pub behind : e < k
    pub few : k ≤ end_at rows e
    pub inside : (j : ℕ) → bit mask j ≡ true → (e ≤ j) × (j < k)
    pub apart : (j : ℕ) → bit mask j ≡ true → Shut rows e j → ⊥
    pub others : (j : ℕ) → e ≤ j → j < k → bit mask j ≡ false → Shut rows e j
    pub ended : (j : ℕ) → e < j → j < k → Alone rows j → end_at rows j ≤ k

  pub opening_first : (mask : ℕ) → FormulaAt rows e → mask ≡ 2 ^ e → Opens (e + 1) mask
  opening_first mask held is = rw is (record {
    behind = omega arith;
    few = omega (arith, held-some rows e held);
    inside = λ j q. by_own j q (λ i. (e ≤ i) × (i < e + 1)) (omega arith, omega arith);
    apart = λ j q s. by_own j q (λ i. Shut rows e i → ⊥) (λ z. omega (arith, z.behind, z.before)) s;
    others = λ j l m q. absurd
        (let same : j ≡ e = omega arith in true≢false (sym (bit-same e) ∙ ap (λ (i : ℕ). bit (2 ^ e) i) (sym same) ∙ q));
    ended = λ j l m. absurd (omega arith);
  })
    where
      by_own : (j : ℕ) → bit (2 ^ e) j ≡ true → (P : ℕ → Type 0) → P e → P j
      by_own j q P p = by (eqb j e) refl
        where
          by : (b : Bool) → eqb j e ≡ b → P j
          by true r = let same : j ≡ e = eqb-true j e r in rw same p
          by false r = absurd (true≢false (sym q ∙ bit_other e j (eqb-false j e r)))

  module _ (k mask : ℕ) (held : FormulaAt rows e) (so_far : Opens k mask) (more : k < end_at rows e) where
    here : FormulaAt rows k
    here = held-inside rows e held k (omega (arith, so_far.behind)) more

    -- a closed subformula is passed over
    pub opening_past : Alone rows k → (m : ℕ) → m ≡ end_at rows k → Opens m mask
    opening_past alone m is = record {
      behind = omega (arith, so_far.behind, held-some rows k here);
      few = omega (arith, nested rows e held k (omega (arith, so_far.behind)) more);
      inside = λ j q. let r = so_far.inside j q in (r.0, omega (arith, r.1, held-some rows k here));
      apart = so_far.apart;
      others = λ j l h q. skipped j l h q (dec_lt j k);
      ended = λ j l h a. past j l h a (dec_lt j k);
    }
      where
        skipped : (j : ℕ) → e ≤ j → j < m → bit mask j ≡ false → Dec (j < k) → Shut rows e j
        skipped j l h q (yes p) = so_far.others j l p q
        skipped j l h q (no p) = record { number = k; behind = so_far.behind; before = omega arith; around = omega arith; alone = alone }

        past : (j : ℕ) → e < j → j < m → Alone rows j → Dec (j < k) → end_at rows j ≤ m
        past j l h a (yes p) = omega (arith, so_far.ended j l p a, held-some rows k here)
        past j l h a (no p) = omega (arith, nested rows k here j (omega arith) (omega arith))

    -- any other is taken
    pub opening_more : (Alone rows k → ⊥) → (p : ℕ) → p ≡ 2 ^ k → Opens (k + 1) (bit_or mask p)
    opening_more free p is = rw is (record {
      behind = omega (arith, so_far.behind);
      few = omega arith;
      inside = λ j q. taken j q (λ i. (e ≤ i) × (i < k + 1)) (omega (arith, so_far.behind), omega arith)
          (λ r. let z = so_far.inside j r in (z.0, omega (arith, z.1)));
      apart = λ j q. taken j q (λ i. Shut rows e i → ⊥) fresh (so_far.apart j);
      others = λ j l h q. left j l h q (dec_lt j k);
      ended = λ j l h a. before j l h a (dec_lt j k);
    })
      where
        taken : (j : ℕ) → bit (bit_or mask (2 ^ k)) j ≡ true → (P : ℕ → Type 0) → P k → (bit mask j ≡ true → P j) → P j
        taken j q P own old = by (eqb j k) refl
          where
            by : (b : Bool) → eqb j k ≡ b → P j
            by true r = let same : j ≡ k = eqb-true j k r in rw same own
            by false r = old (sym (ap (λ (b : Bool). cond b true (bit mask j)) r) ∙ sym (set_on mask k j) ∙ q)

        fresh : Shut rows e k → ⊥
        fresh s = at (dec_lt s.number k)
          where
            at : Dec (s.number < k) → ⊥
            at (yes l) = omega (arith, so_far.ended s.number s.behind l s.alone, s.around)
            at (no l) =
                let same : s.number ≡ k = omega (arith, s.before) in
                free (rw same at s.alone)

        left : (j : ℕ) → e ≤ j → j < k + 1 → bit (bit_or mask (2 ^ k)) j ≡ false → Dec (j < k) → Shut rows e j
        left j l h q (yes r) =
            so_far.others j l r (none (bit mask j) refl)
          where
            none : (b : Bool) → bit mask j ≡ b → bit mask j ≡ false
            none false z = z
            none true z = absurd (false≢true (sym q ∙ set_on mask k j ∙ either (eqb j k)))
              where
                either : (b : Bool) → cond b true (bit mask j) ≡ true
                either true = refl
                either false = z
        left j l h q (no r) =
            let same : j ≡ k = omega arith in
            absurd (false≢true (sym q ∙ set_on mask k j ∙ ap (λ (b : Bool). cond b true (bit mask j)) (eq-eqb j k same)))

        before : (j : ℕ) → e < j → j < k + 1 → Alone rows j → Dec (j < k) → end_at rows j ≤ k + 1
        before j l h a (yes r) = omega (arith, so_far.ended j l r a)
        before j l h a (no r) =
            let same : j ≡ k = omega arith in
            absurd (free (rw same at a))

  -- a list of such numbers
  pub movable : (mask : ℕ) (list : List ℕ) → Open rows e mask → BitsListed mask list → Movable rows e list
  movable mask list o listed = record {
    inside = λ j l. o.inside _ (listed.all j l);
    apart = λ j l. o.apart _ (listed.all j l);
  }

  pub movable-few : (list : List ℕ) → FormulaAt rows e → Movable rows e list → Few rows list
  movable-few list held m = record {
    placed = λ j l.
        let q = m.inside j l in
        held-placed rows (get_or list j 0) (held-inside rows e held (get_or list j 0) q.0 q.1);
  }
