-- Going on by the first of each kind only: what is left out of a list because its vertex was there before leads to what an earlier one
-- leads to, so a search that goes on by the rest finds the same (`flat_map_thins`). Assumes nothing.
use mathlib.Core.Path.{◌≡◌, refl, sym, ap, subst, subst⁻¹, ◌∙◌}
use mathlib.Core.Logic.{◌⊎◌, inl, inr}
use mathlib.Core.Bool.{Bool, cond}
use mathlib.Core.List.Memᴰ
use mathlib.Core.List.{List, [], ◌∷◌, ◌++◌, append-nil, append_assoc, Memᴰ}
use Prim.Native.Nat.{ℕ}
use native.Mathlib.Omega.{arith}
use lib.Dec.{T}
use Rattle.base.specs.Lists.{flat_map}
use Rattle.base.specs.Search.{Item}
use Rattle.base.specs.Spread.{Numbered, seen, adds}
use Rattle.base.proofs.BoolLaws.{by_test}
use Rattle.base.proofs.MemberLaws.{any_of}
use Rattle.base.proofs.Pairs.{Pairs}
use Rattle.base.proofs.SearchLaws.{Visits, visits_later}
use Rattle.base.proofs.MatchLaws.{Follows, Thins}

module _ {M J : Type 0} where
  -- some of a list, where s is seen: those left out are at vertices seen before
  pub data Thin : List (Numbered M J) → List (Numbered M J) → List (Numbered M J) → Type 0 where
    none : {s : List (Numbered M J)} → Thin s [] []
    keep : {s xs ys : List (Numbered M J)} {x : Numbered M J} → Thin (x ∷ s) xs ys → Thin s (x ∷ xs) (x ∷ ys)
    omit : {s xs ys : List (Numbered M J)} {z y : Numbered M J} → Memᴰ z s → z.at ≡ y.at → Thin s xs ys → Thin s xs (y ∷ ys)

  module _ (same : J → J → Bool) (sound : (a b : J) → T (same a b) → a ≡ b) where
    pub adds_thin : (old s ys : List (Numbered M J)) → ((z : Numbered M J) → Memᴰ z old → Memᴰ z s)
        → (xs : List (Numbered M J)) × (adds same old ys ≡ old ++ xs) × Thin s xs ys
    adds_thin old s [] f = ([], sym (append-nil old), Thin.none)
    adds_thin old s (y ∷ ys) f =
        by_test (seen same y.at old)
        (λ b. (xs : List (Numbered M J)) × (adds same (cond b old (old ++ (y ∷ []))) ys ≡ old ++ xs) × Thin s xs (y ∷ ys))
        (λ t.
        let (z, m, q) = any_of (λ x. same x.at y.at) old t in
        let (xs, e, r) = adds_thin old s ys f in
        (xs, e, Thin.omit (f z m) (sound z.at y.at q) r))
        (λ n.
        let (xs, e, r) =
        adds_thin (old ++ (y ∷ [])) (y ∷ s) ys
        (λ z m. elim (Memᴰ.append_cases old m)
        [ inl a ↦ Memᴰ.tail (f z a) | inr b ↦ Memᴰ.head (Memᴰ.eq_of_singleton b) ]) in
        (y ∷ xs, e ∙ append_assoc old (y ∷ []) xs, Thin.keep r))

-- lists one after another
abbrev pub all_of : {A : Type 0} → List (List A) → List A
all_of {A} ls = flat_map (λ (l : List A). l) ls

not_both : {A : Type 0} {xs : List A} {x : A} → xs ≡ [] → xs ≡ x ∷ [] → ⊥
not_both e f = let z : ◌≡◌ {A = ℕ} 0 1 = cc in omega arith

one_only : {A : Type 0} {xs : List A} {x y : A} → xs ≡ x ∷ [] → xs ≡ y ∷ [] → x ≡ y
one_only e f = cc

module _ {L K M J : Type 0} (letter : L → M) (own : Numbered M J → List M) (Codes : J → K → Type 0)
    (one-k : (j : J) (k l : K) → Codes j k → Codes j l → k ≡ l)
    (all : List (Item L K)) (follow : Numbered M J → List (Numbered M J))
  where
    -- both lead nowhere, or each to one, the one's standing for the other's
    abbrev pub Steps : Numbered M J → List (Item L K) → Type 0
    Steps x ys =
        ((follow x ≡ []) × (ys ≡ []))
        ⊎ ((x₁ : Numbered M J) × (y₁ : Item L K) × (follow x ≡ x₁ ∷ []) × (ys ≡ y₁ ∷ []) × Follows letter own Codes all x₁ y₁)

    abbrev Covers : List (Numbered M J) → List (Item L K) → Type 0
    Covers old s = (z : Numbered M J) → Memᴰ z old → (z₁ : Numbered M J) → follow z ≡ z₁ ∷ [] → (k : K) → Codes z₁.at k → Visits k s

    module _
        (alike : (z x : Numbered M J) → z.at ≡ x.at → (x₁ : Numbered M J) → follow x ≡ x₁ ∷ []
        → (z₁ : Numbered M J) × (follow z ≡ z₁ ∷ []) × (z₁.at ≡ x₁.at))
      where
        pub flat_map_thins : {old xs ys : List (Numbered M J)} {bs : List (List (Item L K))} → Thin old xs ys → Pairs Steps ys bs
            → (s : List (Item L K)) → Covers old s → Thins letter own Codes all s (flat_map follow xs) (all_of bs)
        flat_map_thins Thin.none Pairs.none s c = Thins.none
        flat_map_thins (Thin.keep {xs} {x} r) (Pairs.more {y = b} {ys = bs} h p) s c =
            elim h [
              | inl e ↦
                  subst⁻¹ (λ (l : List (Numbered M J)). Thins letter own Codes all s (l ++ flat_map follow xs) (b ++ all_of bs)) e.0
                  (subst⁻¹ (λ (l : List (Item L K)). Thins letter own Codes all s (flat_map follow xs) (l ++ all_of bs)) e.1
                  (flat_map_thins r p s
                  (λ z m z₁ q k d.
                  elim (Memᴰ.cases_cons m)
                  [ inl i ↦ absurd (not_both e.0 (ap follow (sym i) ∙ q)) | inr a ↦ c z a z₁ q k d ])))
              | inr e ↦
                  let x₁ = e.0 in
                  let y₁ = e.1 in
                  subst⁻¹ (λ (l : List (Numbered M J)). Thins letter own Codes all s (l ++ flat_map follow xs) (b ++ all_of bs)) e.2
                  (subst⁻¹ (λ (l : List (Item L K)). Thins letter own Codes all s (x₁ ∷ flat_map follow xs) (l ++ all_of bs)) e.3
                  (Thins.both e.4
                  (flat_map_thins r p (y₁ ∷ s)
                  (λ z m z₁ q k d.
                  elim (Memᴰ.cases_cons m) [
                    | inl i ↦
                        let same : z₁ ≡ x₁ = one_only (ap follow (sym i) ∙ q) e.2 in (
                          y₁,
                          Memᴰ.head refl,
                          one-k x₁.at k y₁.at (subst (λ (w : Numbered M J). Codes w.at k) same d)
                              e.4.codes,
                        )
                    | inr a ↦ visits_later y₁ (c z a z₁ q k d)
                  ]))))
            ]
        flat_map_thins (Thin.omit {xs} {z} {y} m q r) (Pairs.more {y = b} {ys = bs} h p) s c =
            elim h [
              | inl e ↦
                  subst⁻¹ (λ (l : List (Item L K)). Thins letter own Codes all s (flat_map follow xs) (l ++ all_of bs)) e.1
                  (flat_map_thins r p s c)
              | inr e ↦
                  let (z₁, i, j) = alike z y q e.0 e.2 in
                  subst⁻¹ (λ (l : List (Item L K)). Thins letter own Codes all s (flat_map follow xs) (l ++ all_of bs)) e.3
                  (Thins.skip (c z m z₁ i e.1.at (subst⁻¹ (λ (w : J). Codes w e.1.at) j e.4.codes)) (flat_map_thins r p s c))
            ]
