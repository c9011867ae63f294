-- Choice words. What a choice takes at an or is the bit of the or's number (`word_pick`). A choice word is that of the choice which it is
-- read as (`word_read`), so the transitions of a node stand by rising choice word (`transitions-rising`). Hence a node and a choice word
-- have at most one transition (`transition_one`), and a run is settled by its first node and its choice words (`along_one`).
-- Assumes nothing.
use Rattle.std.proofs.Common.{◌≡◌, refl, sym, ap, subst, ◌∙◌, inl, inr, Bool, true, false, cond, List, [], ◌∷◌, ◌++◌, ℕ, zero, suc, ◌+◌}
use Rattle.std.proofs.Common.{◌/◌, ◌%◌, ◌^◌, ◌≤◌, ◌<◌, arith, T, eqb, length, length-append, get_or, take, pow-add, pow_mono}
use Rattle.std.proofs.Math.ListN.{length-map}
use Rattle.std.proofs.Math.Path.{subst⁻¹}
use mathlib.Core.List.{map-append, Memᴰ}
use mathlib.Core.List.Memᴰ
use Rattle.base.specs.Bits.{bit}
use Rattle.base.specs.Lists.{range}
use Rattle.base.proofs.BoolLaws.{by_test}
use Rattle.base.proofs.WordLaws.{word-bit, word_lt}
use Rattle.base.proofs.AppendLaws.{range_of, last_cancel}
use Rattle.base.proofs.SortedLaws.{Sorted, sorted_either, sorted_flat_map, range_sorted}
use Rattle.formula.specs.Table.{Table, operator, is_or}
use Rattle.tableau.specs.Saturation.{Subset, has, saturate}
use Rattle.tableau.specs.Transition.{ors, choice_of, picks, choice_word, choices, Transition, by_word, transitions}
use Rattle.tableau.specs.Run.{Along}
use Rattle.tableau.specs.Foremost.{choice_words}
use Rattle.tableau.proofs.TransitionLaws.{one_or_none, transitions-by_word}

-- There is a bit for each or.
picks-few : (t : Table) (w : Subset) → length (picks t w) ≤ ors t
picks-few [] w = omega arith
picks-few (o ∷ t) [] = omega arith
picks-few (o ∷ t) (b ∷ w) = go (is_or o) (picks t w) (picks-few t w)
  where
    go : (a : Bool) (r : List Bool) → length r ≤ ors t → length (cond a (b ∷ r) r) ≤ cond a 1 0 + ors t
    go true r h = omega arith
    go false r h = omega arith

pub choice_word_lt : (t : Table) (w : Subset) → choice_word t w < 2 ^ ors t
choice_word_lt t w = omega (arith, word_lt (picks t w), pow_mono (picks-few t w))

pick_at : (t : Table) (w : Subset) (e : ℕ) → length w ≡ length t → T (is_or (operator t e))
    → get_or (picks t w) (ors (take e t)) false ≡ has w e
pick_at [] w e h k = absurd k
pick_at (o ∷ t) [] e h k = absurd (omega arith)
pick_at (o ∷ t) (b ∷ w) zero h k =
    by_test (is_or o) (λ a. get_or (cond a (b ∷ picks t w) (picks t w)) 0 false ≡ b) (λ _. refl) (λ n. absurd (n k))
pick_at (o ∷ t) (b ∷ w) (suc e) h k = go (is_or o) (picks t w) (ors (take e t)) (pick_at t w e (omega arith) k)
  where
    go : (a : Bool) (r : List Bool) (n : ℕ) → get_or r n false ≡ has w e → get_or (cond a (b ∷ r) r) (cond a 1 0 + n) false ≡ has w e
    go true r n q = ap (λ (i : ℕ). get_or (b ∷ r) i false) {x = 1 + n} {y = suc n} (omega arith) ∙ q
    go false r n q = ap (λ (i : ℕ). get_or r i false) {x = 0 + n} {y = n} (omega arith) ∙ q

-- Theorem: what is taken at an or is the bit of its number, which is how many ors stand before it.
pub word_pick : (t : Table) (w : Subset) (e : ℕ) → length w ≡ length t → T (is_or (operator t e))
    → bit (choice_word t w) (ors (take e t)) ≡ has w e
word_pick t w e h k = word-bit (picks t w) (ors (take e t)) ∙ pick_at t w e h k

digit : (d : ℕ) → d < 2 → cond (eqb d 1) 1 0 ≡ d
digit zero l = refl
digit (suc zero) l = refl
digit (suc (suc d)) l = absurd (omega arith)

-- Theorem: a choice word is that of the choice which it is read as.
pub word_read : (t : Table) (x : ℕ) → x < 2 ^ ors t → choice_word t (choice_of t x) ≡ x
word_read [] x h = omega arith
word_read (o ∷ t) x h = go (is_or o) refl h (λ y l. word_read t y l)
  where
    go : (a : Bool) → is_or o ≡ a → x < 2 ^ (cond a 1 0 + ors t) → ((y : ℕ) → y < 2 ^ ors t → choice_word t (choice_of t y) ≡ y)
        → choice_word (o ∷ t) (cond (is_or o) (eqb (x % 2) 1 ∷ choice_of t (x / 2)) (false ∷ choice_of t x)) ≡ x
    go true e l f =
        rw e (rw e (omega (arith, digit (x % 2) (omega arith), f (x / 2) (omega (arith, pow-add 2 1 (ors t))))))
    go false e l f = rw e (rw e (f x (omega (arith, pow-add 2 0 (ors t)))))

-- Theorem: and a choice is read from its choice word.
pub choice_read : (t : Table) {w : Subset} → Memᴰ w (choices t) → choice_of t (choice_word t w) ≡ w
choice_read t m =
    let (x, i, e) = Memᴰ.of_map (choice_of t) (range 0 (2 ^ ors t)) m in
    subst (λ (w : Subset). choice_of t (choice_word t w) ≡ w) e
    (ap (choice_of t) (word_read t x (omega (arith, range_of 0 (2 ^ ors t) i))))

-- a transition under a choice word has that choice
by_word-choice : (t : Table) (v : Subset) (x : ℕ) {s : Transition} → Memᴰ s (by_word t x v) → s.choice ≡ choice_of t x
by_word-choice t v x {s} m =
    elim (one_or_none t (choice_of t x) (saturate t (choice_of t x) v)) [
      | inl e ↦ ap (λ (z : Transition). z.choice) (Memᴰ.eq_of_singleton (subst (Memᴰ s) e m))
      | inr e ↦ absurd (Memᴰ.not-nil (subst (Memᴰ s) e m))
    ]

module _ (t : Table) where
  abbrev word : Transition → ℕ
  word s = choice_word t s.choice

  -- by rising choice word
  abbrev pub Rises : Transition → Transition → Type 0
  Rises s r = word s < word r

  module _ (v : Subset) where
    pub word_is : (x : ℕ) → Memᴰ x (range 0 (2 ^ ors t)) → {s : Transition} → Memᴰ s (by_word t x v) → word s ≡ x
    word_is x i m = ap (choice_word t) (by_word-choice t v x m) ∙ word_read t x (omega (arith, range_of 0 (2 ^ ors t) i))

    one_sorted : (x : ℕ) → Sorted Rises (by_word t x v)
    one_sorted x =
        elim (one_or_none t (choice_of t x) (saturate t (choice_of t x) v)) [
          | inl e ↦ subst⁻¹ (Sorted Rises) e (Sorted.more {xs = []} (λ y m. absurd (Memᴰ.not-nil m)) Sorted.none)
          | inr e ↦ subst⁻¹ (Sorted Rises) e Sorted.none
        ]

    -- Theorem: the transitions of a node stand by rising choice word,
    pub transitions-rising : Sorted Rises (transitions t v)
    transitions-rising =
        subst⁻¹ (Sorted Rises) (transitions-by_word t v)
        (sorted_flat_map ◌<◌ Rises (λ x. by_word t x v) (range 0 (2 ^ ors t)) (range_sorted 0 (2 ^ ors t))
        (λ x i. one_sorted x)
        (λ x y i j l a b m n. omega (arith, word_is x i m, word_is y j n)))

    -- and so have it each for itself.
    pub transition_one : {s r : Transition} → Memᴰ s (transitions t v) → Memᴰ r (transitions t v) → word s ≡ word r → s ≡ r
    transition_one m n e =
        elim (sorted_either Rises transitions-rising m n)
        [ inl q ↦ q | inr (inl l) ↦ absurd (omega arith) | inr (inr l) ↦ absurd (omega arith) ]

  no_words : (ss : List Transition) (s : Transition) → choice_words t (ss ++ (s ∷ [])) ≡ [] → ⊥
  no_words ss s e = omega (arith, ap length e, length-map (ss ++ (s ∷ [])) word, length-append ss (s ∷ []))

  -- Theorem: two runs from one node with the same choice words are one.
  pub along_one : {v u w : Subset} {ss rs : List Transition} → Along t v ss u → Along t v rs w → choice_words t ss ≡ choice_words t rs
      → (ss ≡ rs) × (u ≡ w)
  along_one Along.stay Along.stay e = (refl, refl)
  along_one Along.stay (Along.on {ss} {s} a m) e = absurd (no_words ss s (sym e))
  along_one (Along.on {ss} {s} a m) Along.stay e = absurd (no_words ss s e)
  along_one (Along.on {ss} {s} a m) (Along.on {u} {ss = rs} {s = r} b n) e =
      let (f, l) =
      last_cancel (choice_words t ss) (choice_words t rs) (word s) (word r)
      (sym (map-append word ss (s ∷ [])) ∙ e ∙ map-append word rs (r ∷ [])) in
      let (p, q) = along_one a b f in
      let i : s ≡ r = transition_one u (subst (λ (z : Subset). Memᴰ s (transitions t z)) q m) n l in
      ((λ j. p j ++ (i j ∷ [])), ap (λ (z : Transition). z.to) i)
