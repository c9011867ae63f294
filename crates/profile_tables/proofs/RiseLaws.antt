-- The profiles of one transition stand by rising first node (`singles_rise`): they are added node by node, each with the number of its
-- node, which none of those before it is above. Assumes nothing.
use mathlib.Core.Path.{◌≡◌, refl, sym, ap, subst}
use mathlib.Core.Logic.{inl, inr}
use mathlib.Core.Bool.{Bool, true, false, cond}
use mathlib.Core.List.{List, [], ◌∷◌, ◌++◌, map}
use Prim.Native.Nat.{ℕ, suc, ◌≤◌}
use native.Mathlib.Omega.{arith}
use Rattle.base.specs.Lists.{tail}
use Rattle.base.specs.Spread.{seen, add, adds}
use Rattle.base.proofs.At.{At, at_lt, at_split}
use Rattle.base.proofs.SpreadLaws.{adds-append}
use Rattle.formula.specs.Table.{Table}
use Rattle.tableau.specs.Saturation.{Subset}
use Rattle.tableau.specs.Transition.{Transition, transitions}
use Rattle.profile_tables.specs.Marks.{triples}
use Rattle.profile_tables.specs.Runs.{FoundProfile, same_profile, single_of, singles_of, singles_from, singles}

-- items by rising first node, none above k
pub record Rise (k : ℕ) (xs : List FoundProfile) : Type 0 where
  pub rises : {i j : ℕ} {x y : FoundProfile} → At xs i x → At xs j y → i ≤ j → x.at.first ≤ y.at.first
  pub below : {i : ℕ} {x : FoundProfile} → At xs i x → x.at.first ≤ k

rise_none : (k : ℕ) → Rise k []
rise_none k = record {
  rises = λ p q l. absurd (let h = at_lt p in omega arith);
  below = λ p. absurd (let h = at_lt p in omega arith);
}

rise_up : {k : ℕ} {xs : List FoundProfile} → Rise k xs → Rise (suc k) xs
rise_up r = record { rises = r.rises; below = λ p. omega (arith, r.below p) }

rise_one : {k : ℕ} (xs : List FoundProfile) (z : FoundProfile) → z.at.first ≡ k → Rise k xs → Rise k (xs ++ (z ∷ []))
rise_one {k} xs z e r = record {
  rises = λ p q l. elim (at_split xs z p) [
    | inl u ↦ elim (at_split xs z q)
        [ inl v ↦ r.rises u v l | inr v ↦ omega (arith, r.below u, e, ap (λ (y : FoundProfile). y.at.first) v.1) ]
    | inr u ↦ elim (at_split xs z q) [
      | inl v ↦ absurd (omega (arith, at_lt v, u.0))
      | inr v ↦ omega (arith, ap (λ (y : FoundProfile). y.at.first) u.1, ap (λ (y : FoundProfile). y.at.first) v.1)
    ]
  ];
  below = λ p. elim (at_split xs z p) [ inl u ↦ r.below u | inr u ↦ omega (arith, e, ap (λ (y : FoundProfile). y.at.first) u.1) ];
}

rise_add : {k : ℕ} (b : Bool) (xs : List FoundProfile) (z : FoundProfile) → z.at.first ≡ k → Rise k xs
    → Rise k (cond b xs (xs ++ (z ∷ [])))
rise_add true xs z e r = r
rise_add false xs z e r = rise_one xs z e r

-- what is made of transitions, all with the same first node
rise_adds : {k : ℕ} (f : Transition → FoundProfile) → ((s : Transition) → (f s).at.first ≡ k)
    → (xs : List FoundProfile) (ss : List Transition)
    → Rise k xs
    → Rise k (adds same_profile xs (map f ss))
rise_adds f e xs [] r = r
rise_adds f e xs (s ∷ ss) r = rise_adds f e (add same_profile xs (f s)) ss (rise_add (seen same_profile (f s).at xs) xs (f s) (e s) r)

rise_from : (t : Table) (ns : List Subset) (i : ℕ) (vs : List Subset) (xs : List FoundProfile) → Rise i xs
    → (k : ℕ) × Rise k (adds same_profile xs (singles_from t ns i vs))
unfolding triples
rise_from t ns i [] xs r = (i, r)
rise_from t ns i (v ∷ vs) xs r =
    let here = rise_adds (single_of t ns i v) (λ s. refl) xs (transitions t v) r in
    let (k, rest) = rise_from t ns (suc i) vs (adds same_profile xs (singles_of t ns i v)) (rise_up here) in
    (k, subst (Rise k) (sym (adds-append same_profile xs (singles_of t ns i v) (singles_from t ns (suc i) vs))) rest)

pub singles_rise : (t : Table) (ns : List Subset) → (k : ℕ) × Rise k (singles t ns)
unfolding singles
singles_rise t ns = rise_from t ns 1 (tail ns) [] (rise_none 1)
