-- The first of the runs in the shape of a lasso. It is the one whose standing no other comes before (`foremost_of`, `foremost-standing`),
-- and there is only one (`one-foremost`): two of them have the same choice words from the root on. Assumes nothing.
use Rattle.std.proofs.Common.{◌≡◌, sym, ap, ◌∙◌, inl, inr, List, ◌∷◌, ◌++◌, ℕ, ◌≤◌, arith, length}
use Rattle.std.proofs.Math.ListN.{length-map}
use Rattle.std.proofs.Math.Path.{subst⁻¹}
use mathlib.Core.List.{map-append}
use Rattle.base.specs.Order.{Before, NoLater}
use Rattle.base.proofs.OrderLaws.{before_front, before-behind, no_later_both, no_later_first, no_later_rest, no_later_by}
use Rattle.base.proofs.AppendLaws.{append_cancel}
use Rattle.formula.specs.Table.{Table}
use Rattle.tableau.specs.Saturation.{Subset}
use Rattle.tableau.specs.Transition.{Transition}
use Rattle.tableau.specs.Run.{Along}
use Rattle.tableau.specs.Foremost.{choice_words, LassoRun, Foremost, standing}
use Rattle.tableau.proofs.ChoiceWords.{along_one}

-- a standing without its first number
abbrev behind : Table → (stem cycle : List Transition) → List ℕ
behind t stem cycle = length stem ∷ choice_words t (stem ++ cycle)

-- it is the numbers of the stem, and then the choice words of the cycle
by_parts : (t : Table) (rs ps qs ss : List Transition)
    → NoLater ((length rs ∷ choice_words t rs) ++ choice_words t ps) ((length qs ∷ choice_words t qs) ++ choice_words t ss)
    → NoLater (behind t rs ps) (behind t qs ss)
by_parts t rs ps qs ss h =
    subst⁻¹ (λ (l : List ℕ). NoLater l (behind t qs ss)) (parts rs ps)
    (subst⁻¹ (NoLater ((length rs ∷ choice_words t rs) ++ choice_words t ps)) (parts qs ss) h)
  where
    parts : (rs ps : List Transition) → behind t rs ps ≡ (length rs ∷ choice_words t rs) ++ choice_words t ps
    parts rs ps = ap (λ (l : List ℕ). length rs ∷ l) (map-append _ rs ps)

-- a run with a stem that comes before, and with a cycle that is no longer
pub standing_nearer : (t : Table) (rs ps qs ss : List Transition) → length ps ≤ length ss
    → Before (length rs ∷ choice_words t rs) (length qs ∷ choice_words t qs) → NoLater (standing t rs ps) (standing t qs ss)
standing_nearer t rs ps qs ss l b =
    no_later_by (length ps) (length ss) (behind t rs ps) (behind t qs ss) l
    (λ e. by_parts t rs ps qs ss (inr (before_front (length rs ∷ choice_words t rs) (length qs ∷ choice_words t qs) _ _ b)))

-- a run with a stem that does not come later, and the same cycle
pub standing_by_stem : (t : Table) (rs qs ss : List Transition) → NoLater (length rs ∷ choice_words t rs) (length qs ∷ choice_words t qs)
    → NoLater (standing t rs ss) (standing t qs ss)
standing_by_stem t rs qs ss (inr b) = standing_nearer t rs ss qs ss (omega arith) b
standing_by_stem t rs qs ss (inl e) =
    no_later_by (length ss) (length ss) (behind t rs ss) (behind t qs ss) (omega arith)
    (λ d. by_parts t rs ss qs ss (inl (ap (λ (l : List ℕ). l ++ choice_words t ss) e)))

-- a run with a cycle that does not come later, and the same stem
pub standing_by_cycle : (t : Table) (rs qs ss : List Transition) → NoLater (length qs ∷ choice_words t qs) (length ss ∷ choice_words t ss)
    → NoLater (standing t rs qs) (standing t rs ss)
standing_by_cycle t rs qs ss h =
    no_later_by (length qs) (length ss) (behind t rs qs) (behind t rs ss)
    (no_later_first (length qs) (length ss) (choice_words t qs) (choice_words t ss) h)
    (λ e.
    by_parts t rs qs rs ss
    (elim (no_later_rest (length qs) (length ss) (choice_words t qs) (choice_words t ss) h e) [
      | inl d ↦ inl (ap (λ (l : List ℕ). (length rs ∷ choice_words t rs) ++ l) d)
      | inr b ↦ inr (before-behind (length rs ∷ choice_words t rs) (choice_words t qs) (choice_words t ss) b)
    ]))

module _ (t : Table) (Counts : Subset → List Transition → Type 0) where
  -- none has a standing that comes before
  abbrev pub StandsFirst : (stem cycle : List Transition) → Type 0
  StandsFirst stem cycle = (rs ss : List Transition) → LassoRun t Counts rs ss → NoLater (standing t stem cycle) (standing t rs ss)

  -- Theorem: that is the first,
  pub foremost_of : {stem cycle : List Transition} → LassoRun t Counts stem cycle → StandsFirst stem cycle → Foremost t Counts stem cycle
  foremost_of {stem} {cycle} r f =
      record { is_one = r; cycle_fewest = fewest; stem_fewest = nearest; words_first = words }
    where
      fewest : (rs ss : List Transition) → LassoRun t Counts rs ss → length cycle ≤ length ss
      fewest rs ss l = no_later_first (length cycle) (length ss) (behind t stem cycle) (behind t rs ss) (f rs ss l)

      rest : (rs ss : List Transition) → LassoRun t Counts rs ss → length ss ≡ length cycle → NoLater (behind t stem cycle) (behind t rs ss)
      rest rs ss l e = no_later_rest (length cycle) (length ss) (behind t stem cycle) (behind t rs ss) (f rs ss l) e

      nearest : (rs ss : List Transition) → LassoRun t Counts rs ss → length ss ≡ length cycle → length stem ≤ length rs
      nearest rs ss l e =
          no_later_first (length stem) (length rs) (choice_words t (stem ++ cycle)) (choice_words t (rs ++ ss)) (rest rs ss l e)

      words : (rs ss : List Transition) → LassoRun t Counts rs ss → length ss ≡ length cycle → length rs ≡ length stem
          → NoLater (choice_words t (stem ++ cycle)) (choice_words t (rs ++ ss))
      words rs ss l e q =
          no_later_rest (length stem) (length rs) (choice_words t (stem ++ cycle)) (choice_words t (rs ++ ss)) (rest rs ss l e) q

  -- and the first is that.
  pub foremost-standing : {stem cycle : List Transition} → Foremost t Counts stem cycle → StandsFirst stem cycle
  foremost-standing {stem} {cycle} f rs ss l =
      no_later_by (length cycle) (length ss) _ _ (f.cycle_fewest rs ss l)
      (λ e. no_later_by (length stem) (length rs) _ _ (f.stem_fewest rs ss l e) (λ q. f.words_first rs ss l e q))

  -- the choice words of equal standings, part by part
  parted : (a b c d : List Transition) → standing t a b ≡ standing t c d
      → (choice_words t a ≡ choice_words t c) × (choice_words t b ≡ choice_words t d)
  parted a b c d e =
      append_cancel (choice_words t a) (choice_words t c) (length-map a _ ∙ stems ∙ sym (length-map c _))
      (sym (map-append _ a b) ∙ words ∙ map-append _ c d)
    where
      stems : length a ≡ length c
      stems = cc

      words : choice_words t (a ++ b) ≡ choice_words t (c ++ d)
      words = cc

  -- Theorem: there is one first at most, where a cycle that counts leads from its node back to it.
  module _ (leads_back : (v : Subset) (ss : List Transition) → Counts v ss → Along t v ss v) where
    pub one-foremost : {a b c d : List Transition} → Foremost t Counts a b → Foremost t Counts c d → (a ≡ c) × (b ≡ d)
    one-foremost {a} {b} {c} {d} f g =
        let p = f.is_one in
        let q = g.is_one in
        let (i, j) =
        parted a b c d
        (no_later_both (standing t a b) (standing t c d) (foremost-standing f c d q) (foremost-standing g a b p)) in
        let (k, n) = along_one t p.leads q.leads i in
        let round : Along t p.node d p.node = subst⁻¹ (λ (v : Subset). Along t v d v) n (leads_back q.node d q.counts) in
        (k, (along_one t (leads_back p.node b p.counts) round j).0)

-- Cycles that count by two conditions, where each of them gives the other.
pub run_by : (t : Table) (A B : Subset → List Transition → Type 0) → ((v : Subset) (ss : List Transition) → A v ss → B v ss)
    → {stem cycle : List Transition} → LassoRun t A stem cycle → LassoRun t B stem cycle
run_by t A B f {cycle = cycle} r = record { node = r.node; leads = r.leads; counts = f r.node cycle r.counts }

module _ (t : Table) (A B : Subset → List Transition → Type 0) (f : (v : Subset) (ss : List Transition) → A v ss → B v ss)
    (g : (v : Subset) (ss : List Transition) → B v ss → A v ss)
  where
    -- Theorem: the first by the one is the first by the other.
    pub foremost_by : {stem cycle : List Transition} → Foremost t A stem cycle → Foremost t B stem cycle
    foremost_by h =
        record {
          is_one = run_by t A B f h.is_one;
          cycle_fewest = λ rs ss r. h.cycle_fewest rs ss (run_by t B A g r);
          stem_fewest = λ rs ss r. h.stem_fewest rs ss (run_by t B A g r);
          words_first = λ rs ss r. h.words_first rs ss (run_by t B A g r);
        }
