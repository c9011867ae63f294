-- Sizes: what a choice word leads to has as many subformulas as the table, and a set of at most 48 subformulas is a word of 64
-- bits. Assumes nothing.
use Rattle.std.proofs.Common.{◌≡◌, sym, ap, subst, ◌∙◌, inl, inr, List, [], map, ℕ, ◌^◌, ◌≤◌, ◌<◌, arith, pow_mono, length, get_or}
use mathlib.Core.List.{Memᴰ}
use mathlib.Core.List.Memᴰ
use Rattle.base.specs.Bits.{word}
use Rattle.base.proofs.At.{at_in, at_of}
use Rattle.base.proofs.WordLaws.{word_lt}
use Rattle.formula.specs.Table.{Table}
use Rattle.tableau.specs.Saturation.{Subset, saturate}
use Rattle.tableau.specs.Transition.{choice_of, Transition, transition_of, by_word}
use Rattle.tableau.specs.Area.{SubsetsSized, ReachedNode, reached_by, leads, ReachedSized}
use Rattle.tableau.proofs.TransitionLaws.{one_or_none, to-length}
use Rattle.tableau.proofs.AreaLaws.{WordsFit}

-- what the transition of a choice word leads to has as many subformulas as the table
target-sized : (t : Table) (w v : Subset) {s : Transition} → Memᴰ s (transition_of t w (saturate t w v)) → length s.to ≡ length t
target-sized t w v {s} m = elim (one_or_none t w (saturate t w v)) [
  | inl e ↦ ap (λ (y : Transition). length y.to) (Memᴰ.eq_of_singleton (subst (Memᴰ s) e m)) ∙ to-length t w (saturate t w v)
  | inr e ↦ absurd (Memᴰ.not-nil (subst (Memᴰ s) e m))
]

pub leads-sized : (t : Table) (i : ℕ) (v : Subset) (x : ℕ) → ReachedSized (length t) (leads t i v x)
leads-sized t i v x u m =
    let (s, r, e) = Memᴰ.of_map (reached_by i) (by_word t x v) m in
    ap (λ (y : ReachedNode). length y.at) (sym e) ∙ target-sized t (choice_of t x) v r

-- a set of at most 48 subformulas is a word
pub set_small : {count : ℕ} (v : Subset) → count ≤ 48 → length v ≡ count → word v < 2 ^ 64
set_small {count} v h e = omega (arith, word_lt v, ap (λ (n : ℕ). 2 ^ n) e, pow_mono {i = count} {j = 48} h)

pub words_small : {count : ℕ} {l : List Subset} → count ≤ 48 → SubsetsSized count l → WordsFit (map word l)
words_small {l = l} h s x m =
    let (v, r, q) = Memᴰ.of_map word l m in
    omega (arith, q, set_small v h (s v r))

pub at-sized : (count : ℕ) (l : List Subset) (i : ℕ) → SubsetsSized count l → i < length l → length (get_or l i []) ≡ count
at-sized count l i s h = s (get_or l i []) (at_in (at_of l i [] h))
