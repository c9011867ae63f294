-- What a search in a range of numbers finds is the first that passes (`first_of`). The code's test of a profile is the definition's, where
-- its mask tells the least fixpoints. Assumes nothing.
use Rattle.std.proofs.Common.{◌≡◌, sym, ap, ◌∙◌, Bool, true, false, not, ◌&&◌, Option, Some, None, MatchOption, ℕ, ◌≤◌, ◌<◌, length}
use Rattle.std.proofs.Common.{get_or, eq-eqb, ne_eqb, eqb}
use Rattle.formula.specs.Table.{Table}
use Rattle.tableau.specs.Nodes.{operands}
use Rattle.profile_tables.specs.Triples.{rejecting}
use Rattle.profile_tables.specs.Marks.{leasts}
use Rattle.profile_tables.specs.Runs.{FoundProfile, accepting}
use Rattle.profile_tables.proofs.TriplesLaws.{rejecting-same}
use Rattle.cycle_search.specs.Layers.{accepts, FirstOf}

-- what a search in the range of the numbers from k up to n finds
pub first_of : (test : ℕ → Bool) (k n : ℕ) (r : Option ℕ)
    → MatchOption r ((i : ℕ) → k ≤ i → i < n → test i ≡ false)
    (λ p. (k ≤ p) × (p < n) × (test p ≡ true) × ((i : ℕ) → k ≤ i → i < p → test i ≡ false))
    → FirstOf test k n r
first_of test k n None f = f
first_of test k n (Some p) f = record { from = f.0; below = f.1; passes = f.2; before = f.3 }

-- the test of the code's mask is the definition's
pub accepts-same : (t : Table) (n : ℕ) (least : ℕ → Bool) (x : FoundProfile) → n ≡ length (operands t)
    → ((i : ℕ) → least i ≡ get_or (leasts t) i false)
    → accepts least n x ≡ accepting t x
unfolding accepts accepting
accepts-same t n least x e f =
    ap (λ (b : Bool). eqb x.at.first x.at.last && not b)
    (ap (λ (k : ℕ). rejecting least k x.at.triple_set) e
    ∙ rejecting-same least (λ i. get_or (leasts t) i false) (length (operands t)) x.at.triple_set (λ i h. f i))

-- the code's two tests
module _ (least : ℕ → Bool) (n : ℕ) (x : FoundProfile) {a b : ℕ} (starts : a ≡ x.at.first) (ends : b ≡ x.at.last) where
  pub accepts_open : (a ≡ b → ⊥) → eqb a b ≡ accepts least n x
  unfolding accepts
  accepts_open h = ne_eqb a b h ∙ sym (ap (λ (c : Bool). c && not (rejecting least n x.at.triple_set))
      (ne_eqb x.at.first x.at.last (λ e. h (starts ∙ e ∙ sym ends))))

  pub accepts-closed : a ≡ b → {r : Bool} → r ≡ rejecting least n x.at.triple_set → not r ≡ accepts least n x
  unfolding accepts
  accepts-closed h {r} e =
      ap not e ∙ sym (ap (λ (c : Bool). c && not (rejecting least n x.at.triple_set))
      (eq-eqb x.at.first x.at.last (sym starts ∙ h ∙ ends)))
