-- Sets as lists of bits, one inside another: element by element, an order with the empty set below and the full set above. A set that
-- grows has fewer elements missing, so a chain of sets of n elements grows at most n times; said once for growing and for shrinking,
-- over the Bool g that the elements leave. Assumes nothing.
use Rattle.std.proofs.Common.{◌≡◌, refl, sym, ap, ◌∙◌, ◌⊎◌, inl, inr, Bool, true, false, cond, List, [], ◌∷◌, ◌++◌, map, ℕ, zero, suc}
use Rattle.std.proofs.Common.{◌+◌, ◌≤◌, ◌<◌, arith, length, get_or}
use Rattle.std.proofs.Math.Bool.{false≢true}
use Rattle.std.proofs.Math.ListN.{length-map}
use Rattle.base.specs.Lists.{iterate, tail, same_bit}
use Rattle.base.specs.Sets.{Below, Inside, Toward}
use Rattle.base.proofs.ListLaws.{iterate_stays, iterate-keeps}

pub below_true : {a b : Bool} → Below a b → a ≡ true → b ≡ true
below_true Below.same q = q
below_true Below.more q = refl

pub below_of : (a b : Bool) → (a ≡ true → b ≡ true) → Below a b
below_of true true h = Below.same
below_of true false h = absurd (false≢true (h refl))
below_of false true h = Below.more
below_of false false h = Below.same

pub below-least : (b : Bool) → Below false b
below-least true = Below.more
below-least false = Below.same

pub below-greatest : (b : Bool) → Below b true
below-greatest true = Below.same
below-greatest false = Below.more

below_trans : {a b c : Bool} → Below a b → Below b c → Below a c
below_trans Below.same q = q
below_trans Below.more Below.same = Below.more

below_both : {a b : Bool} → Below a b → Below b a → a ≡ b
below_both Below.same q = refl
below_both Below.more q = below_true q refl

pub inside-at : {s t : List Bool} → Inside s t → (i : ℕ) → Below (get_or s i false) (get_or t i false)
inside-at Inside.none i = Below.same
inside-at (Inside.put p h) zero = p
inside-at (Inside.put p h) (suc i) = inside-at h i

pub inside_of : (s t : List Bool) → length s ≡ length t
    → ((i : ℕ) → i < length s → get_or s i false ≡ true → get_or t i false ≡ true) → Inside s t
inside_of [] [] l f = Inside.none
inside_of [] (b ∷ t) l f = absurd (omega arith)
inside_of (a ∷ s) [] l f = absurd (omega arith)
inside_of (a ∷ s) (b ∷ t) l f = Inside.put (below_of a b (f 0 (omega arith))) (inside_of s t (omega arith) (λ i h. f (suc i) (omega arith)))

pub inside_length : {s t : List Bool} → Inside s t → length s ≡ length t
inside_length Inside.none = refl
inside_length (Inside.put p h) = ap suc (inside_length h)

pub inside_refl : (s : List Bool) → Inside s s
inside_refl [] = Inside.none
inside_refl (a ∷ s) = Inside.put Below.same (inside_refl s)

pub inside_trans : {s t u : List Bool} → Inside s t → Inside t u → Inside s u
inside_trans Inside.none Inside.none = Inside.none
inside_trans (Inside.put p g) (Inside.put q h) = Inside.put (below_trans p q) (inside_trans g h)

pub inside_both : {s t : List Bool} → Inside s t → Inside t s → s ≡ t
inside_both Inside.none Inside.none = refl
inside_both (Inside.put p g) (Inside.put q h) = cc (below_both p q, inside_both g h)

pub inside-append : {s t u v : List Bool} → Inside s t → Inside u v → Inside (s ++ u) (t ++ v)
inside-append Inside.none h = h
inside-append (Inside.put p g) h = Inside.put p (inside-append g h)

pub inside-tail : {s t : List Bool} → Inside s t → Inside (tail s) (tail t)
inside-tail Inside.none = Inside.none
inside-tail (Inside.put p h) = h

-- rounds that keep the order, from sets in order
pub inside-iterate : (n : ℕ) (f g : List Bool → List Bool) → ((s t : List Bool) → Inside s t → Inside (f s) (g t))
    → {s t : List Bool} → Inside s t → Inside (iterate n f s) (iterate n g t)
inside-iterate zero f g h r = r
inside-iterate (suc n) f g h {s} {t} r = inside-iterate n f g h (h s t r)

pub toward_trans : (g : Bool) (s t u : List Bool) → Toward g s t → Toward g t u → Toward g s u
toward_trans true s t u h k = inside_trans k h
toward_trans false s t u h k = inside_trans h k

pub toward_both : (g : Bool) (s t : List Bool) → Toward g s t → Toward g t s → s ≡ t
toward_both true s t h k = inside_both k h
toward_both false s t h k = inside_both h k

pub toward_mono : (g : Bool) (f : List Bool → List Bool) → ((s t : List Bool) → Inside s t → Inside (f s) (f t))
    → (s t : List Bool) → Toward g s t → Toward g (f s) (f t)
toward_mono true f mono s t h = mono t s h
toward_mono false f mono s t h = mono s t h

-- the set that has g at each element, from which every set of as many elements lies ahead
pub constant-at : {A : Type 0} (g : Bool) (xs : List A) (i : ℕ) → i < length xs → get_or (map (λ _. g) xs) i false ≡ g
constant-at g [] i h = absurd (omega arith)
constant-at g (x ∷ xs) zero h = refl
constant-at g (x ∷ xs) (suc i) h = constant-at g xs i (omega arith)

pub toward_start : {A : Type 0} (g : Bool) (xs : List A) (s : List Bool) → length s ≡ length xs → Toward g (map (λ _. g) xs) s
toward_start true xs s l =
    inside_of s (map (λ _. true) xs) (l ∙ sym (length-map xs (λ _. true))) (λ i h q. constant-at true xs i (omega arith))
toward_start false xs s l =
    let k = length-map xs (λ _. false) in
    inside_of (map (λ _. false) xs) s (k ∙ sym l) (λ i h q. absurd (false≢true (sym (constant-at false xs i (omega arith)) ∙ q)))

-- how many elements have the value g
abbrev pub waiting : (g : Bool) → List Bool → ℕ
waiting g [] = 0
waiting g (b ∷ s) = cond (same_bit g b) 1 0 + waiting g s

waiting_sum : (s : List Bool) → waiting true s + waiting false s ≡ length s
waiting_sum [] = omega arith
waiting_sum (true ∷ s) = omega (arith, waiting_sum s)
waiting_sum (false ∷ s) = omega (arith, waiting_sum s)

pub waiting_le : (g : Bool) (s : List Bool) → waiting g s ≤ length s
waiting_le true s = omega (arith, waiting_sum s)
waiting_le false s = omega (arith, waiting_sum s)

-- a larger set is the same, or has fewer elements missing
inside_or : {s t : List Bool} → Inside s t → (s ≡ t) ⊎ (waiting false t < waiting false s)
inside_or Inside.none = inl refl
inside_or (Inside.put (Below.same {b = a}) h) =
    elim (inside_or h) [ inl e ↦ inl (ap (λ (s : List Bool). a ∷ s) e) | inr l ↦ inr (omega arith) ]
inside_or (Inside.put Below.more h) = elim (inside_or h) [ inl e ↦ inr (omega (arith, ap (waiting false) e)) | inr l ↦ inr (omega arith) ]

-- a move changes nothing, or fewer elements are left to move
pub toward_or : (g : Bool) (s t : List Bool) → Toward g s t → (s ≡ t) ⊎ (waiting g t < waiting g s)
toward_or false s t h = inside_or h
toward_or true s t h =
    elim (inside_or h) [ inl e ↦ inl (sym e) | inr l ↦ inr (omega (arith, waiting_sum s, waiting_sum t, inside_length h)) ]

-- rounds of a function that keeps the order
module _ (g : Bool) (f : List Bool → List Bool) (mono : (s t : List Bool) → Toward g s t → Toward g (f s) (f t)) where
  -- if the first one moves, as many rounds as there are elements left to move come to rest
  pub rests : (n : ℕ) (s : List Bool) → Toward g s (f s) → waiting g s ≤ n → f (iterate n f s) ≡ iterate n f s
  rests zero s h l = elim (toward_or g s (f s) h) [ inl e ↦ sym e | inr k ↦ absurd (omega arith) ]
  rests (suc n) s h l =
      elim (toward_or g s (f s) h) [
        | inl e ↦ let q = iterate_stays (suc n) f s (sym e) in ap f q ∙ sym e ∙ sym q
        | inr k ↦ rests n (f s) (mono s (f s) h) (omega arith)
      ]

  -- they pass no set that the function moves no further
  pub passes_none : (n : ℕ) (s t : List Bool) → Toward g s t → Toward g (f t) t → Toward g (iterate n f s) t
  passes_none n s t h k = iterate-keeps (λ (u : List Bool). Toward g u t) n f (λ u r. toward_trans g (f u) (f t) t (mono u t r) k) s h
