-- MEANING 3.4 for every formula that reading accepts, with no premise left. The words of a saturation have bit j exactly if it asks for
-- signal j so (`words_exactly`). It gives a transition exactly if it has no false in it and neither is a signal in both lists, of those to
-- be present and of those to be absent, nor both scale flags in one of them (`exists_by_lists`): the words say no less than the lists, for
-- reading accepts the signals 0 to 15 and no others. And that is so exactly if some letter of the alphabet is allowed by everything in it
-- (`exists_by_letter`). Assumes nothing.
use mathlib.Core.Path.{◌≡◌, subst}
use mathlib.Core.Logic.{◌↔◌}
use mathlib.Core.Bool.{Bool, not, ◌&&◌}
use mathlib.Core.List.{List, Memᴰ}
use Prim.Native.Nat.{ℕ, ◌<◌}
use lib.Dec.{T}
use Rattle.base.specs.Lists.{any}
use Rattle.base.specs.Bits.{bit}
use Rattle.letters.specs.Alphabet.{in_alphabet}
use Rattle.letters.specs.Requirements.{letter_of}
use Rattle.formula.specs.Formula.{Leaf, Formula}
use Rattle.formula.specs.Table.{Operator, table}
use Rattle.formula.specs.Reading.{Reading, parse}
use Rattle.formula.proofs.Guarded.{parse-guarded}
use Rattle.formula.proofs.Limits.{parse-limited}
use Rattle.tableau.specs.Saturation.{Subset}
use Rattle.tableau.specs.Transition.{operators_in, is_false, required_word, requirement, possible}
use Rattle.tableau.proofs.RequirementLaws.{required_of, required_in, lists_clash, possible_lists}
use Rattle.tableau.proofs.TransitionLaws.{asks, met_of, possible-in_alphabet, possible_allows, possible_of}
use Rattle.theory.proofs.TreeLaws.{lawful}

module _ (bytes : List ℕ) (f : Formula) (reads : parse bytes ≡ Reading.accepted f) (s : Subset) where
  -- the operators of a set, as of a saturation
  abbrev os : List Operator
  os = operators_in (table f) s

  few : (p : Bool) (j : ℕ) → Memᴰ (Operator.leaf (Leaf.signal p j)) os → j < 16
  few p j m =
      let (e, h, q) = met_of (table f) s m in
      (lawful f (parse-guarded bytes f reads) (parse-limited bytes f reads).signals).signals e p j q

  pub words_exactly : (p : Bool) (j : ℕ) → T (bit (required_word p os) j) ↔ Memᴰ (Operator.leaf (Leaf.signal p j)) os
  words_exactly p j = (required_of p os j, λ m. required_in p os m (few p j m))

  pub exists_by_lists : possible os ≡ (not (any is_false os) && not (lists_clash os))
  exists_by_lists = possible_lists os few

  pub exists_by_letter : T (possible os) ↔ ((a : ℕ) × T (in_alphabet a) × ((o : Operator) → Memᴰ o os → T (asks o a)))
  exists_by_letter = (
    λ h. (
      letter_of (requirement os),
      possible-in_alphabet os h,
      λ o m. possible_allows os h o m (λ p j e. few p j (subst (λ (q : Operator). Memᴰ q os) e m)),
    ),
    λ l. possible_of os l.0 l.1 l.2,
  )
