-- The number of every answer of the truth operation fits: what it carries is the truth, or the places of a refusal of reading, which are
-- early. Assumes nothing.
use Rattle.std.proofs.Common.{Result, Bool, ◌≡◌, refl, List, ℕ}
use Rattle.std.proofs.Math.Path.{subst⁻¹}
use Rattle.base.proofs.AskLaws.{Asked, every_outcome}
use Rattle.formula.specs.Formula.{Formula}
use Rattle.formula.proofs.Early.{parse-early}
use Rattle.formula.specs.Reading.{Reading, parse}
use Rattle.lasso.specs.Lasso.{Lasso, over_alphabet, labelling, meets}
use Rattle.lasso.specs.Truth.{Truth, asked, after_reading, truth}
use Rattle.lasso.specs.Contract.{answer}
use Rattle.lasso.specs.declared.Refusal.{Refusal}
use Rattle.lasso.proofs.TruthLaws.{truth-asked}
use Rattle.yuktrob_c.specs.Numbers.{TruthRefusalFits, TruthFits}

abbrev NumberFits : Truth → Type 0
NumberFits t = TruthFits (answer t)

-- what the questions after reading come to has no place
asked-fits : (c : Lasso) (room : ℕ) (f : Formula) → NumberFits (asked c room f)
asked-fits c room f =
    past tt (past tt (past tt (past tt (λ o e. subst⁻¹ NumberFits e tt)))) (asked c room f) (truth-asked c room f)
  where
    past : {Question : Type 0} {why : Refusal} {After : Truth → Type 0} → TruthRefusalFits why
        → ((o : Truth) → After o → NumberFits o)
        → (o : Truth) → Asked Question (Truth.refused why) After o → NumberFits o
    past t s = every_outcome NumberFits t (λ _. s)

after-fits : (bytes : List ℕ) (c : Lasso) (room : ℕ) (x : Reading Formula) → parse bytes ≡ x → TruthFits (answer (after_reading c room x))
unfolding over_alphabet labelling meets
after-fits bytes c room (Reading.refused why) e = parse-early bytes why e
after-fits bytes c room (Reading.accepted f) e = asked-fits c room f

-- Theorem: the number of every answer fits.
pub truth-fits : (bytes : List ℕ) (c : Lasso) (room : ℕ) → TruthFits (answer (truth bytes c room))
unfolding truth
truth-fits bytes c room = after-fits bytes c room (parse bytes) refl

-- what the operation promises of its answer
module _ (bytes : List ℕ) (c : Lasso) (room : ℕ) {t : Result Bool Refusal} (is : t ≡ answer (truth bytes c room)) where
  pub told-fits : TruthFits t
  told-fits = subst⁻¹ TruthFits is (truth-fits bytes c room)
