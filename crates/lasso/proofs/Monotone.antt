-- Truth is monotone: if the sets given for the enclosing fixpoints grow, the set of positions where the formula is true grows. No
-- operator negates a variable, so each keeps the order of its operands' sets, position by position, and so do the rounds of a
-- fixpoint. Also: every set has an element for each letter of the lasso. Assumes nothing.
use Rattle.std.proofs.Common.{◌≡◌, refl, sym, ap, ◌∙◌, Bool, true, false, List, [], ◌∷◌, ◌++◌, map, ℕ, zero, suc, ◌<◌, arith, length}
use Rattle.std.proofs.Common.{get_or, length-append}
use lib.ListN.{length-map}
use Rattle.base.proofs.ListLaws.{iterate-keeps}
use Rattle.base.specs.Sets.{Below, Inside}
use Rattle.base.proofs.Inside.{below-least, below-greatest, inside-at, inside_refl, inside-append, inside-tail, inside-iterate}
use Rattle.formula.specs.Formula.{Formula}
use Rattle.formula.specs.Occurrence.{Closed}
use Rattle.lasso.specs.Lasso.{Lasso, Positions, leaf_at, joined, combine, before, holds, sets}

-- how many positions a lasso has
abbrev pub span : Lasso → ℕ
span c = length c.letters

-- or, and keep the order in each operand
joined-left : (o b : Bool) → Below (joined o false b) (joined o true b)
joined-left true b = below-greatest b
joined-left false b = below-least b

joined-right : (o a : Bool) → Below (joined o a false) (joined o a true)
joined-right true true = Below.same
joined-right true false = Below.more
joined-right false true = Below.more
joined-right false false = Below.same

pub below-joined : (o : Bool) {a b c d : Bool} → Below a b → Below c d → Below (joined o a c) (joined o b d)
below-joined o Below.same Below.same = Below.same
below-joined o (Below.same {b = a}) Below.more = joined-right o a
below-joined o Below.more (Below.same {b = c}) = joined-left o c
below-joined true Below.more Below.more = Below.more
below-joined false Below.more Below.more = Below.more

inside-combine : (o : Bool) {s t u v : Positions} → Inside s t → Inside u v → Inside (combine o s u) (combine o t v)
inside-combine o Inside.none h = Inside.none
inside-combine o (Inside.put p g) Inside.none = Inside.none
inside-combine o (Inside.put p g) (Inside.put q h) = Inside.put (below-joined o p q) (inside-combine o g h)

inside-before : (stem : ℕ) {s t : Positions} → Inside s t → Inside (before stem s) (before stem t)
inside-before stem h = inside-append (inside-tail h) (Inside.put (inside-at h stem) Inside.none)

-- the sets of the enclosing fixpoints, each inside the other list's
pub data SetsWithin : List Positions → List Positions → Type 0 where
  none : SetsWithin [] []
  put : {s t : Positions} {ρ σ : List Positions} → Inside s t → SetsWithin ρ σ → SetsWithin (s ∷ ρ) (t ∷ σ)

pub within-at : {ρ σ : List Positions} → SetsWithin ρ σ → (d : ℕ) → Inside (get_or ρ d []) (get_or σ d [])
within-at SetsWithin.none d = Inside.none
within-at (SetsWithin.put h r) zero = h
within-at (SetsWithin.put h r) (suc d) = within-at r d

pub within_refl : (ρ : List Positions) → SetsWithin ρ ρ
within_refl [] = SetsWithin.none
within_refl (s ∷ ρ) = SetsWithin.put (inside_refl s) (within_refl ρ)

-- Theorem: truth is monotone in the sets of the enclosing fixpoints.
pub monotone : (c : Lasso) (f : Formula) {ρ σ : List Positions} → SetsWithin ρ σ → Inside (holds c f ρ) (holds c f σ)
monotone c (Formula.leaf l) r = inside_refl (map (leaf_at l) c.letters)
monotone c (Formula.variable d) r = within-at r d
monotone c (Formula.pair o a b) r = inside-combine o (monotone c a r) (monotone c b r)
monotone c (Formula.next a) r = inside-before c.stem (monotone c a r)
monotone c (Formula.fix g a) {ρ} {σ} r =
    inside-iterate (span c) (λ s. holds c a (s ∷ ρ)) (λ s. holds c a (s ∷ σ)) (λ s t h. monotone c a (SetsWithin.put h r))
    (inside_refl (map (λ _. g) c.letters))

within-append : {ρ σ τ υ : List Positions} → SetsWithin ρ σ → SetsWithin τ υ → SetsWithin (ρ ++ τ) (σ ++ υ)
within-append SetsWithin.none k = k
within-append (SetsWithin.put h r) k = SetsWithin.put h (within-append r k)

-- and so are the sets of all subformulas
pub monotone_sets : (c : Lasso) (f : Formula) {ρ σ : List Positions} → SetsWithin ρ σ → SetsWithin (sets c f ρ) (sets c f σ)
monotone_sets c (Formula.leaf l) r = SetsWithin.put (monotone c (Formula.leaf l) r) SetsWithin.none
monotone_sets c (Formula.variable d) r = SetsWithin.put (monotone c (Formula.variable d) r) SetsWithin.none
monotone_sets c (Formula.pair o a b) r =
    SetsWithin.put (monotone c (Formula.pair o a b) r) (within-append (monotone_sets c a r) (monotone_sets c b r))
monotone_sets c (Formula.next a) r = SetsWithin.put (monotone c (Formula.next a) r) (monotone_sets c a r)
monotone_sets c (Formula.fix g a) r =
    let h = monotone c (Formula.fix g a) r in
    SetsWithin.put h (monotone_sets c a (SetsWithin.put h r))

-- each set has n elements
abbrev pub SetsSized : ℕ → List Positions → Type 0
SetsSized n [] = Unit {0}
SetsSized n (s ∷ ρ) = (length s ≡ n) × SetsSized n ρ

sized-at : (n : ℕ) (ρ : List Positions) → SetsSized n ρ → (d : ℕ) → d < length ρ → length (get_or ρ d []) ≡ n
sized-at n [] z d h = absurd (omega arith)
sized-at n (s ∷ ρ) z zero h = z.0
sized-at n (s ∷ ρ) z (suc d) h = sized-at n ρ z.1 d (omega arith)

pub length-combine : (o : Bool) (s t : Positions) → length s ≡ length t → length (combine o s t) ≡ length s
length-combine o [] t l = refl
length-combine o (a ∷ s) [] l = absurd (omega arith)
length-combine o (a ∷ s) (b ∷ t) l = ap suc (length-combine o s t (omega arith))

pub length_before : (stem : ℕ) (s : Positions) → 0 < length s → length (before stem s) ≡ length s
length_before stem [] h = absurd (omega arith)
length_before stem (a ∷ s) h = omega (arith, length-append s (get_or (a ∷ s) stem false ∷ []))

-- Theorem: on a lasso that has a letter, a set has an element for each letter if the sets given have, one for each fixpoint that the
-- formula's variables can name. (On a lasso without letters a next would have one element too many.)
pub length-holds : (c : Lasso) → 0 < span c → (f : Formula) (ρ : List Positions) → Closed (length ρ) f → SetsSized (span c) ρ
    → length (holds c f ρ) ≡ span c
length-holds c some (Formula.leaf l) ρ k z = length-map c.letters (leaf_at l)
length-holds c some (Formula.variable d) ρ k z = sized-at (span c) ρ z d k
length-holds c some (Formula.pair o a b) ρ k z =
    let x = length-holds c some a ρ k.0 z in
    length-combine o (holds c a ρ) (holds c b ρ) (x ∙ sym (length-holds c some b ρ k.1 z)) ∙ x
length-holds c some (Formula.next a) ρ k z =
    let x = length-holds c some a ρ k z in
    length_before c.stem (holds c a ρ) (omega arith) ∙ x
length-holds c some (Formula.fix g a) ρ k z =
    iterate-keeps (λ (s : Positions). length s ≡ span c) (span c) (λ s. holds c a (s ∷ ρ))
    (λ s l. length-holds c some a (s ∷ ρ) k (l, z)) (map (λ _. g) c.letters) (length-map c.letters (λ _. g))
