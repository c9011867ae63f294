-- The first element that passes a test: there is none only where no element passes, and in a list that stands in order it is ahead of all
-- others that pass. Assumes nothing.
use Rattle.std.proofs.Common.{◌≡◌, sym, subst, ◌∙◌, ◌⊎◌, inl, inr, Bool, cond, List, [], ◌∷◌, ℕ, arith, T}
use Rattle.std.proofs.Math.Option.{none, some}
use Rattle.std.proofs.Math.Path.{subst⁻¹}
use mathlib.Core.List.{Memᴰ}
use mathlib.Core.List.Memᴰ
use Rattle.base.specs.Lists.{first}
use Rattle.base.proofs.BoolLaws.{by_test}
use Rattle.base.proofs.SortedLaws.{Sorted}

some_value : {A : Type 0} {a b : A} → some a ≡ some b → a ≡ b
some_value e = cc

module _ {A : Type 0} (q : A → Bool) where
  pub first-none : (xs : List A) → first q xs ≡ none → {x : A} → Memᴰ x xs → T (q x) → ⊥
  first-none [] e m h = Memᴰ.not-nil m
  first-none (y ∷ ys) e {x} m h =
      by_test (q y) (λ b. cond b (some y) (first q ys) ≡ none → ⊥)
      (λ t r. let z : ◌≡◌ {A = ℕ} 0 1 = cc in omega arith)
      (λ n r.
      elim (Memᴰ.cases_cons m) [ inl i ↦ n (subst (λ (a : A). T (q a)) i h) | inr o ↦ first-none ys r o h ])
      e

module _ {A : Type 0} (q : A → Bool) (Ahead : A → A → Type 0) where
  -- x is in the list, passes, and is ahead of every other element that passes
  pub record Least (xs : List A) (x : A) : Type 0 where
    pub present : Memᴰ x xs
    pub passes : T (q x)
    pub ahead : (y : A) → Memᴰ y xs → T (q y) → (x ≡ y) ⊎ Ahead x y

  pub first_some : {xs : List A} → Sorted Ahead xs → {x : A} → first q xs ≡ some x → Least xs x
  first_some Sorted.none e = absurd (let z : ◌≡◌ {A = ℕ} 0 1 = cc in omega arith)
  first_some (Sorted.more {x = y} {xs = ys} f s) {x} e =
      by_test (q y) (λ b. cond b (some y) (first q ys) ≡ some x → Least (y ∷ ys) x)
      (λ t r.
      let i : x ≡ y = sym (some_value r) in
      record {
        present = Memᴰ.head i;
        passes = subst⁻¹ (λ (a : A). T (q a)) i t;
        ahead = λ z m h. elim (Memᴰ.cases_cons m)
            [ inl j ↦ inl (i ∙ sym j) | inr o ↦ inr (subst⁻¹ (λ (a : A). Ahead a z) i (f z o)) ];
      })
      (λ n r.
      let l = first_some s r in
      record {
        present = Memᴰ.tail l.present;
        passes = l.passes;
        ahead = λ z m h.
            elim (Memᴰ.cases_cons m) [ inl j ↦ absurd (n (subst (λ (a : A). T (q a)) j h)) | inr o ↦ l.ahead z o h ];
      })
      e
