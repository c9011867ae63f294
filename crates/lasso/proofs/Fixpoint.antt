-- The rounds of a fixpoint come to the fixpoint (Banieqbal and Barringer, Lemma 6, which document 01 cites for its n rounds): on a lasso
-- of n letters, n rounds of the body give a set that the body keeps, the least such set from the empty set, the greatest from all
-- positions, and further rounds change nothing. The idea: the body is monotone, so the rounds only move away from the start, and each
-- of n positions can leave the start's value once, so after n rounds nothing is left to move. Least and greatest are one argument, over
-- the Bool g that the start has at each position. It takes a lasso with a letter, and no more of the stem. Assumes nothing.
use Rattle.std.proofs.Common.{◌≡◌, ◌∙◌, Bool, true, false, List, ◌∷◌, map, ℕ, suc, ◌+◌, ◌<◌, arith, length}
use lib.ListN.{length-map}
use Rattle.base.specs.Lists.{iterate}
use Rattle.base.specs.Sets.{Inside, Toward}
use Rattle.base.proofs.ListLaws.{iterate-add, iterate_stays, iterate-keeps}
use Rattle.base.proofs.Inside.{inside-iterate, toward_mono, toward_start, waiting_le, rests, passes_none}
use Rattle.formula.specs.Formula.{Formula}
use Rattle.formula.specs.Occurrence.{Closed}
use Rattle.lasso.specs.Lasso.{Lasso, Positions, holds}
use Rattle.lasso.proofs.Monotone.{span, SetsWithin, within_refl, monotone, SetsSized, length-holds}

-- what one round makes of a set
abbrev pub body : Lasso → Formula → List Positions → Positions → Positions
body c a ρ s = holds c a (s ∷ ρ)

-- the set after k rounds; the fixpoint's set is the one after n
abbrev pub approximant : Lasso → (g : Bool) → Formula → List Positions → (k : ℕ) → Positions
approximant c g a ρ k = iterate k (body c a ρ) (map (λ _. g) c.letters)

-- A fixpoint with the body a, inside fixpoints that have the sets ρ.
module _ (c : Lasso) (some : 0 < span c) (a : Formula) (ρ : List Positions)
    (closed : Closed (suc (length ρ)) a) (sized : SetsSized (span c) ρ) where
  -- the body keeps the order, and so does any number of rounds
  pub body_mono : (g : Bool) (s t : Positions) → Toward g s t → Toward g (body c a ρ s) (body c a ρ t)
  body_mono g = toward_mono g (body c a ρ) (λ s t h. monotone c a (SetsWithin.put h (within_refl ρ)))

  pub rounds_mono : (g : Bool) (k : ℕ) (s t : Positions) → Toward g s t → Toward g (iterate k (body c a ρ) s) (iterate k (body c a ρ) t)
  rounds_mono g k =
      toward_mono g (iterate k (body c a ρ))
      (λ s t h. inside-iterate k (body c a ρ) (body c a ρ) (λ s t h. monotone c a (SetsWithin.put h (within_refl ρ))) h)

  length-body : (s : Positions) → length s ≡ span c → length (body c a ρ s) ≡ span c
  length-body s l = length-holds c some a (s ∷ ρ) closed (l, sized)

  pub length_approximant : (g : Bool) (k : ℕ) → length (approximant c g a ρ k) ≡ span c
  length_approximant g k =
      iterate-keeps (λ (s : Positions). length s ≡ span c) k (body c a ρ) length-body (map (λ _. g) c.letters)
      (length-map c.letters (λ _. g))

  -- Theorem: the body keeps the fixpoint's set.
  pub fixed : (g : Bool) → holds c a (holds c (Formula.fix g a) ρ ∷ ρ) ≡ holds c (Formula.fix g a) ρ
  fixed g =
      rests g (body c a ρ) (body_mono g) (span c) (approximant c g a ρ 0)
      (toward_start g c.letters (approximant c g a ρ 1) (length_approximant g 1))
      (omega (arith, waiting_le g (approximant c g a ρ 0), length_approximant g 0))

  -- Theorem: further rounds change nothing.
  pub settled : (g : Bool) (k : ℕ) → approximant c g a ρ (span c + k) ≡ holds c (Formula.fix g a) ρ
  settled g k =
      iterate-add (span c) k (body c a ρ) (map (λ _. g) c.letters) ∙ iterate_stays k (body c a ρ) (holds c (Formula.fix g a) ρ) (fixed g)

  -- Theorem: no round passes a set that the body moves no further.
  pub bounded : (g : Bool) (k : ℕ) (t : Positions) → length t ≡ span c → Toward g (holds c a (t ∷ ρ)) t → Toward g (approximant c g a ρ k) t
  bounded g k t l h = passes_none g (body c a ρ) (body_mono g) k (approximant c g a ρ 0) t (toward_start g c.letters t l) h

  -- Theorem: a least fixpoint's set is inside every set that its body maps into itself.
  pub least : (t : Positions) → length t ≡ span c → Inside (holds c a (t ∷ ρ)) t → Inside (holds c (Formula.fix false a) ρ) t
  least t l h = bounded false (span c) t l h

  -- Theorem: a greatest fixpoint's set has inside it every set that is inside what its body makes of it.
  pub greatest : (t : Positions) → length t ≡ span c → Inside t (holds c a (t ∷ ρ)) → Inside t (holds c (Formula.fix true a) ρ)
  greatest t l h = bounded true (span c) t l h
