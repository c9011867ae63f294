-- `letters::all_in_alphabet` folds "and" over the words. So far it has come to whether all words that it has asked about are in the alphabet.
use Rattle.std.proofs.Common.{◌≡◌, Bool, ◌&&◌, List, [], ◌∷◌, ◌++◌, ℕ, rules, refl, sym, ap, subst, ◌∙◌}
use Rattle.std.proofs.Math.Bool.{and-true, and_assoc}
use Rattle.std.proofs.lemmas.Fn.{fold_over, fronts, slice_gives}
use Rattle.base.specs.Lists.{all}
use Rattle.letters.specs.Alphabet.{in_alphabet}
use Rattle.letters.proofs.all_in_alphabet.Goals as goal

-- one word more
all-push : (words : List ℕ) (w : ℕ) → all in_alphabet (words ++ w ∷ []) ≡ (all in_alphabet words && in_alphabet w)
all-push [] w = and-true (in_alphabet w)
all-push (v ∷ words) w =
    ap (λ b. in_alphabet v && b) (all-push words w) ∙ sym (and_assoc (in_alphabet v) (all in_alphabet words) (in_alphabet w))

one_more : (words : List ℕ) (w : ℕ) {so_far b : Bool} → so_far ≡ all in_alphabet words → b ≡ (so_far && in_alphabet w)
    → b ≡ all in_alphabet (words ++ w ∷ [])
one_more words w e q = q ∙ ap (λ b. b && in_alphabet w) e ∙ sym (all-push words w)

pub returns : goal.returns
returns c =
    subst (λ words. c.fold.result ≡ all in_alphabet words) c.iter.ensures.rest
    (fold_over fronts (λ y. y.now) _ (λ words so_far. so_far ≡ all in_alphabet words) _
    (λ words so_far w b f' e k. (one_more words w.now e (search rules), search rules))
    _ _ _ _ (slice_gives c.iter.result) refl c.fold.ensures.ran)
