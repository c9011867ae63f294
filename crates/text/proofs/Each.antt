-- The laws of a text that is written member by member: one more member, and all of them. Assumes nothing.
use Rattle.std.proofs.Common.{◌≡◌, sym, ap, subst, ◌∙◌, List, [], ◌∷◌, ◌++◌, append-nil, append_assoc}
use Rattle.std.proofs.Common.{ℕ, ◌+◌, ◌≤◌, ◌<◌, length, take, get_or, take_all}
use Rattle.std.proofs.lemmas.List.{take_more}
use Rattle.text.proofs.Writing.{then}
use Rattle.text.specs.Text.{Buffer, Wrote, each}

-- the text of one member more
each_last : (text : ℕ → List ℕ) (xs : List ℕ) (x : ℕ) → each text (xs ++ (x ∷ [])) ≡ each text xs ++ text x
each_last text [] x = append-nil (text x)
each_last text (y ∷ xs) x = ap (λ (l : List ℕ). text y ++ l) (each_last text xs x) ∙ sym (append_assoc (text y) (each text xs) (text x))

module _ {s t : Buffer} (text : ℕ → List ℕ) (xs : List ℕ) (i : ℕ) where
  pub one_member_more : {u : Buffer} → i < length xs → Wrote s (each text (take i xs)) t → Wrote t (text (get_or xs i 0)) u
      → Wrote s (each text (take (i + 1) xs)) u
  one_member_more {u} h p q =
      rw (take_more xs i 0)
      (subst (λ (l : List ℕ). Wrote s l u) (sym (each_last text (take i xs) (get_or xs i 0))) (then p q))

  pub all_members : length xs ≤ i → Wrote s (each text (take i xs)) t → Wrote s (each text xs) t
  all_members h p = subst (λ (l : List ℕ). Wrote s (each text l) t) (take_all i xs h) p
