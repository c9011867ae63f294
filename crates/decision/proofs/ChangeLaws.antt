-- An area that changed at most from one byte up to another: what lies before and behind is the same (`front_same`, `back-same`). Assumes
-- nothing.
use Rattle.std.proofs.Common.{◌≡◌, sym, ap, ◌∙◌, List, ℕ, ◌+◌, ◌-◌, ◌≤◌, ◌<◌, min, arith, take, drop, length-take, length-drop}
use Rattle.std.proofs.Common.{get_or-take, get_or-drop, ext_get_or}
use Rattle.profile_search.specs.Stored.{BytesBetween}

module _ {from to : ℕ} {a b : List ℕ} (ch : BytesBetween from to a b) where
  pub front_same : take from b ≡ take from a
  front_same =
      ext_get_or 0 (take from b) (take from a) (length-take from b ∙ ap (min from) ch.same_length ∙ sym (length-take from a))
      (λ i h.
      let low : i < from = omega (arith, length-take from b) in
      get_or-take from b i 0 low ∙ ch.below i low ∙ sym (get_or-take from a i 0 low))

  pub back-same : drop to b ≡ drop to a
  back-same =
      ext_get_or 0 (drop to b) (drop to a) (length-drop to b ∙ ap (λ (k : ℕ). k - to) ch.same_length ∙ sym (length-drop to a))
      (λ i h. get_or-drop to b i 0 ∙ ch.beyond (to + i) (omega arith) ∙ sym (get_or-drop to a i 0))

  -- within other bounds that are as wide
  pub change_wider : (from' to' : ℕ) → from' ≤ from → to ≤ to' → BytesBetween from' to' a b
  change_wider from' to' l h =
      record { same_length = ch.same_length; below = λ i k. ch.below i (omega arith); beyond = λ i k. ch.beyond i (omega arith) }

  -- and once more
  pub change_twice : {c : List ℕ} → BytesBetween from to b c → BytesBetween from to a c
  change_twice d =
      record {
        same_length = d.same_length ∙ ch.same_length;
        below = λ i k. d.below i k ∙ ch.below i k;
        beyond = λ i k. d.beyond i k ∙ ch.beyond i k;
      }
