-- Laws of sets of triples as tables of bits: what a search below a number finds, when a priority is the smaller of two, that a table
-- holds what the test it was made by says, and so what joining and uniting tables made by tests gives; two tables are the same exactly
-- if they hold the same. Assumes nothing.
use mathlib.Core.Path.{◌≡◌, refl, sym, ap, subst, ◌∙◌}
use mathlib.Core.Logic.{inl, inr}
use mathlib.Core.Bool.{Bool, true, false, ◌&&◌, ◌||◌}
use mathlib.Core.List.{List, [], map}
use Prim.Native.Nat.{ℕ, zero, suc, ◌+◌, ◌<◌, min}
use native.Mathlib.Omega.{arith}
use native.Mathlib.Decide.{ℕ_discrete}
use lib.Dec.{T, eqb, eqb→eq, eqb_refl}
use lib.ListN.{get_or}
use Rattle.base.specs.Lists.{range, alike, same_bit}
use Rattle.base.proofs.BoolLaws.{of_T, and_left, and_right, and_both, or_cases, or_left, or_right, same_bit-sound, same_bit_refl}
use Rattle.base.proofs.TestLaws.{not_of_T}
use Rattle.base.proofs.MemberLaws.{alike-sound, alike_refl}
use Rattle.base.proofs.NumberLaws.{values_at, values_same}
use Rattle.profile_tables.specs.Triples.{some, smaller, Triples, holds, same_triples, those, join, either, laps, rejecting}

-- some number below n
pub some_of : (n : ℕ) (q : ℕ → Bool) → T (some n q) → (i : ℕ) × (i < n) × T (q i)
some_of zero q t = absurd t
some_of (suc n) q t =
    elim (or_cases (some n q) (q n) t)
    [ inl h ↦ let (i, l, r) = some_of n q h in (i, omega arith, r) | inr h ↦ (n, omega arith, h) ]

pub some_in : (n : ℕ) (q : ℕ → Bool) (i : ℕ) → i < n → T (q i) → T (some n q)
some_in zero q i l h = absurd (omega arith)
some_in (suc n) q i l h =
    elim (ℕ_discrete i n) [
      | yes e ↦ or_right (some n q) (q n) (subst (λ (j : ℕ). T (q j)) e h)
      | no d ↦ or_left (some n q) (q n) (some_in n q i (omega arith) h)
    ]

pub some_same : (n : ℕ) (q r : ℕ → Bool) → ((i : ℕ) → i < n → q i ≡ r i) → some n q ≡ some n r
some_same zero q r h = refl
some_same (suc n) q r h = cc (some_same n q r (λ i l. h i (omega arith)), h n (omega arith))

-- the smaller of two priorities
module _ (q r : ℕ → Bool) where
  abbrev second : (k y : ℕ) → ℕ → Bool
  second k y z = r z && eqb (min y z) k

  abbrev first : (k : ℕ) → ℕ → Bool
  first k y = q y && some 8 (second k y)

  pub smaller_in : (y z k : ℕ) → y < 8 → z < 8 → T (q y) → T (r z) → min y z ≡ k → T (smaller q r k)
  unfolding smaller
  smaller_in y z k i j p t e =
      some_in 8 (first k) y i
      (and_both (q y) (some 8 (second k y)) p
      (some_in 8 (second k y) z j (and_both (r z) (eqb (min y z) k) t (subst (λ (n : ℕ). T (eqb (min y z) n)) e (eqb_refl (min y z))))))

  pub smaller_of : (k : ℕ) → T (smaller q r k) → (y : ℕ) × (z : ℕ) × (y < 8) × (z < 8) × T (q y) × T (r z) × (min y z ≡ k)
  unfolding smaller
  smaller_of k t =
      let (y, i, u) = some_of 8 (first k) t in
      let (z, j, w) = some_of 8 (second k y) (and_right (q y) (some 8 (second k y)) u) in (
        y,
        z,
        i,
        j,
        and_left (q y) (some 8 (second k y)) u,
        and_left (r z) (eqb (min y z) k) w,
        eqb→eq (min y z) k (and_right (r z) (eqb (min y z) k) w),
      )

pub smaller-same : (a b c d : ℕ → Bool) (k : ℕ) → ((i : ℕ) → i < 8 → a i ≡ c i) → ((i : ℕ) → i < 8 → b i ≡ d i)
    → smaller a b k ≡ smaller c d k
unfolding smaller
smaller-same a b c d k f g =
    some_same 8 (first a b k) (first c d k)
    (λ y i.
    let e = some_same 8 (second a b k y) (second c d k y) (λ z j. ap (λ (t : Bool). t && eqb (min y z) k) (g z j)) in
    ap (λ (t : Bool). t && some 8 (second a b k y)) (f y i) ∙ ap (λ (t : Bool). c y && t) e)

-- a test of a triple, by the ranks of its operands and of its priority
abbrev pub Test : Type 0
Test = (f x g : ℕ) → Bool

-- two tests agree on the triples of n operands
abbrev pub TablesAgree : ℕ → Test → Test → Type 0
TablesAgree n q r = (f x g : ℕ) → f < n → x < 8 → g < n → q f x g ≡ r f x g

pub holds-those : (n : ℕ) (q : Test) → TablesAgree n (holds (those n q)) q
unfolding holds those
holds-those n q f x g hf hx hg =
    ap (λ (l : List (List Bool)). get_or (get_or l g []) x false)
    (values_at (λ f. map (λ g. map (λ x. q f x g) (range 0 8)) (range 0 n)) 0 n f [] hf)
    ∙ ap (λ (l : List Bool). get_or l x false) (values_at (λ g. map (λ x. q (0 + f) x g) (range 0 8)) 0 n g [] hg)
    ∙ values_at (λ x. q (0 + f) x (0 + g)) 0 8 x false hx
    ∙ ap (λ (i : ℕ). q i (0 + x) (0 + g)) {x = 0 + f} {y = f} (omega arith)
    ∙ ap (λ (i : ℕ). q f i (0 + g)) {x = 0 + x} {y = x} (omega arith)
    ∙ ap (λ (i : ℕ). q f x i) {x = 0 + g} {y = g} (omega arith)

pub those-same : (n : ℕ) (q r : Test) → TablesAgree n q r → those n q ≡ those n r
unfolding those
those-same n q r h =
    values_same (λ f. map (λ g. map (λ x. q f x g) (range 0 8)) (range 0 n))
    (λ f. map (λ g. map (λ x. r f x g) (range 0 8)) (range 0 n)) 0 n
    (λ f _ hf. values_same (λ g. map (λ x. q f x g) (range 0 8)) (λ g. map (λ x. r f x g) (range 0 8)) 0 n
    (λ g _ hg. values_same (λ x. q f x g) (λ x. r f x g) 0 8 (λ x _ hx. h f x g (omega arith) (omega arith) (omega arith))))

-- what the triples of two tests, end to end, hold
abbrev pub joins : ℕ → Test → Test → Test
joins n q r f x g = some n (λ m. smaller (λ y. q f y m) (λ z. r m z g) x)

pub join-holds : (n : ℕ) (a b : Triples) → TablesAgree n (holds (join n a b)) (joins n (holds a) (holds b))
unfolding join
join-holds n a b = holds-those n (joins n (holds a) (holds b))

pub join-those : (n : ℕ) (q r : Test) → join n (those n q) (those n r) ≡ those n (joins n q r)
unfolding join
join-those n q r =
    those-same n (joins n (holds (those n q)) (holds (those n r))) (joins n q r)
    (λ f x g hf hx hg.
    some_same n (λ m. smaller (λ y. holds (those n q) f y m) (λ z. holds (those n r) m z g) x)
    (λ m. smaller (λ y. q f y m) (λ z. r m z g) x)
    (λ m hm.
    smaller-same (λ y. holds (those n q) f y m) (λ z. holds (those n r) m z g) (λ y. q f y m) (λ z. r m z g) x
    (λ y hy. holds-those n q f y m hf hy hm) (λ z hz. holds-those n r m z g hm hz hg)))

pub either-those : (n : ℕ) (q r : Test) → either n (those n q) (those n r) ≡ those n (λ f x g. q f x g || r f x g)
unfolding either
either-those n q r =
    those-same n (λ f x g. holds (those n q) f x g || holds (those n r) f x g) (λ f x g. q f x g || r f x g)
    (λ f x g hf hx hg. cc (holds-those n q f x g hf hx hg, holds-those n r f x g hf hx hg))

-- the test of two tables
pub same_triples-sound : (a b : Triples) → T (same_triples a b) → a ≡ b
same_triples-sound = alike-sound (alike (alike same_bit)) (alike-sound (alike same_bit) (alike-sound same_bit same_bit-sound))

pub same_triples_refl : (a : Triples) → T (same_triples a a)
same_triples_refl = alike_refl (alike (alike same_bit)) (alike_refl (alike same_bit) (alike_refl same_bit same_bit_refl))

pub same-those : (n : ℕ) (q r : Test) → TablesAgree n q r → same_triples (those n q) (those n r) ≡ true
same-those n q r h =
    of_T (same_triples (those n q) (those n r))
    (subst (λ (s : Triples). T (same_triples (those n q) s)) (those-same n q r h) (same_triples_refl (those n q)))

pub agree_of : (n : ℕ) (q r : Test) → those n q ≡ those n r → TablesAgree n q r
agree_of n q r e f x g hf hx hg =
    sym (holds-those n q f x g hf hx hg) ∙ ap (λ (s : Triples). holds s f x g) e ∙ holds-those n r f x g hf hx hg

pub other_those : (n : ℕ) (q r : Test) → (TablesAgree n q r → ⊥) → same_triples (those n q) (those n r) ≡ false
other_those n q r d =
    not_of_T (same_triples (those n q) (those n r)) (λ h. d (agree_of n q r (same_triples-sound (those n q) (those n r) h)))

-- which priorities are least is asked below 8 alone
pub rejecting-same : (p q : ℕ → Bool) (n : ℕ) (a : Triples) → ((x : ℕ) → x < 8 → p x ≡ q x) → rejecting p n a ≡ rejecting q n a
unfolding rejecting
rejecting-same p q n a h =
    some_same n (λ f. some 8 (λ x. p x && holds (laps n a) f x f)) (λ f. some 8 (λ x. q x && holds (laps n a) f x f))
    (λ f hf.
    some_same 8 (λ x. p x && holds (laps n a) f x f) (λ x. q x && holds (laps n a) f x f)
    (λ x hx. ap (λ (t : Bool). t && holds (laps n a) f x f) (h x hx)))
