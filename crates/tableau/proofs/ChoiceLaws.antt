-- Choices: however the operands of the or operators are picked, there is a choice with these picks at the or operators that are met
-- (`chosen`), its saturated set is inside every set around the node that no picked move leaves, and so its transition exists if a letter
-- is allowed by such a set. And two transitions with the same picks at the or operators that are met are one (`transition_unique`): the
-- saturated set depends only on these picks, and a choice has no others. Assumes nothing.
use Rattle.std.proofs.Common.{◌≡◌, refl, sym, ap, subst, ◌∙◌, Bool, true, false, cond, ◌&&◌, List, [], ◌∷◌, ℕ, zero, suc, ◌+◌, ◌*◌, ◌/◌}
use Rattle.std.proofs.Common.{◌%◌, ◌^◌, ◌<◌, arith, T, eqb, length}
use Rattle.std.proofs.Math.Path.{subst⁻¹}
use mathlib.Core.List.{Memᴰ}
use mathlib.Core.List.Memᴰ
use Rattle.base.specs.Bits.{word}
use Rattle.base.specs.Lists.{range}
use Rattle.base.specs.Sets.{Inside}
use Rattle.base.proofs.BoolLaws.{by_test, of_T, and_right}
use Rattle.base.proofs.MemberLaws.{range_in}
use Rattle.base.proofs.Inside.{inside_both}
use Rattle.letters.specs.Alphabet.{in_alphabet}
use Rattle.formula.specs.Table.{Operator, Table, operator, is_or}
use Rattle.tableau.specs.Saturation.{Subset, has, moves, saturate}
use Rattle.tableau.specs.Transition.{ors, choice_of, picks, choice_word, choices, Transition, transitions}
use Rattle.tableau.proofs.SaturationLaws.{inside-has, subset_ext, saturate-holds, saturate-closed, saturate-least}
use Rattle.tableau.proofs.ChoiceWords.{choice_word_lt}
use Rattle.tableau.proofs.TransitionLaws.{asks, facts, transition_with, transition_is, transition_in}

-- The choice that picks by a function, at the or operators of a table whose first subformula is e.
choice_by : Table → ℕ → (ℕ → Bool) → Subset
choice_by [] e f = []
choice_by (o ∷ t) e f = (is_or o && f e) ∷ choice_by t (suc e) f

choice_by_from : (t : Table) (e : ℕ) (f : ℕ → Bool) (i : ℕ) → has (choice_by t e f) i ≡ (is_or (operator t i) && f (e + i))
unfolding choice_by
choice_by_from [] e f i = refl
choice_by_from (o ∷ t) e f zero = ap (λ (k : ℕ). is_or o && f k) (omega arith)
choice_by_from (o ∷ t) e f (suc i) = choice_by_from t (suc e) f i ∙ ap (λ (k : ℕ). is_or (operator t i) && f k) (omega arith)

choice_by_has : (t : Table) (f : ℕ → Bool) (e : ℕ) → has (choice_by t 0 f) e ≡ (is_or (operator t e) && f e)
choice_by_has t f e = choice_by_from t 0 f e ∙ ap (λ (k : ℕ). is_or (operator t e) && f k) {x = 0 + e} {y = e} (omega arith)

-- it is read from its choice word
choice-by_word : (t : Table) (e : ℕ) (f : ℕ → Bool) → choice_by t e f ≡ choice_of t (choice_word t (choice_by t e f))
unfolding choice_by
choice-by_word [] e f = refl
choice-by_word (o ∷ t) e f = go (is_or o) (f e) (picks t (choice_by t (suc e) f)) (choice-by_word t (suc e) f)
  where
    -- the last digit of the word is the pick, and the rest its half
    odd : (b : Bool) (x : ℕ) → eqb ((cond b 1 0 + 2 * x) % 2) 1 ≡ b
    odd true x = ap (λ (y : ℕ). eqb y 1) {x = (1 + 2 * x) % 2} {y = 1} (omega arith)
    odd false x = ap (λ (y : ℕ). eqb y 1) {x = (0 + 2 * x) % 2} {y = 0} (omega arith)

    half : (b : Bool) (x : ℕ) → (cond b 1 0 + 2 * x) / 2 ≡ x
    half true x = omega arith
    half false x = omega arith

    go : (a b : Bool) (r : List Bool) → choice_by t (suc e) f ≡ choice_of t (word r)
        → (a && b) ∷ choice_by t (suc e) f
        ≡ cond a (eqb (word (cond a ((a && b) ∷ r) r) % 2) 1 ∷ choice_of t (word (cond a ((a && b) ∷ r) r) / 2))
        (false ∷ choice_of t (word (cond a ((a && b) ∷ r) r)))
    go true b r h = cc (h, odd b (word r), ap (choice_of t) (half b (word r)))
    go false b r h = ap (λ (l : Subset). false ∷ l) h

choice_by_in : (t : Table) (f : ℕ → Bool) → Memᴰ (choice_by t 0 f) (choices t)
choice_by_in t f =
    let w = choice_by t 0 f in
    subst⁻¹ (λ (c : Subset). Memᴰ c (choices t)) (choice-by_word t 0 f)
    (Memᴰ.map (choice_of t) (range_in 0 (2 ^ ors t) (choice_word t w) (omega arith) (omega (arith, choice_word_lt t w))))

-- only an or asks for the pick
moves_pick : (o : Operator) (a b : Bool) → (T (is_or o) → a ≡ b) → moves o a ≡ moves o b
moves_pick (Operator.leaf l) a b h = refl
moves_pick (Operator.variable m) a b h = refl
moves_pick (Operator.pair true l r) a b h = ap (λ (p : Bool). cond p r l ∷ []) (h tt)
moves_pick (Operator.pair false l r) a b h = refl
moves_pick (Operator.next g) a b h = refl
moves_pick (Operator.fix g l) a b h = refl

and-true : (a b : Bool) → T a → (a && b) ≡ b
and-true true b h = refl
and-true false b h = absurd h

true_and : (a b : Bool) → T b → (a && b) ≡ a
true_and true b h = of_T b h
true_and false b h = refl

-- choices whose moves agree on what one of them saturates to saturate to the same
saturate-same : (t : Table) (v : Subset) → length v ≡ length t → (w u : Subset)
    → ((e : ℕ) → T (has (saturate t w v) e) → moves (operator t e) (has w e) ≡ moves (operator t e) (has u e))
    → saturate t w v ≡ saturate t u v
saturate-same t v len w u agree =
    let i : Inside (saturate t u v) (saturate t w v) =
    saturate-least t u (saturate-holds t w v)
    (λ e m h r l. saturate-closed t w v len e m h (subst⁻¹ (Memᴰ m) (agree e h) r) l) in
    inside_both
    (saturate-least t w (saturate-holds t u v)
    (λ e m h r l. saturate-closed t u v len e m h (subst (Memᴰ m) (agree e (inside-has i e h)) r) l))
    i

-- the choice with the picks of f: first at every or operator, then only at those that are met
every : Table → (ℕ → Bool) → Subset
every t f = choice_by t 0 f

choice_for : Table → Subset → (ℕ → Bool) → Subset
choice_for t v f = choice_by t 0 (λ e. f e && has (saturate t (every t f) v) e)

pub chosen : Table → Subset → (ℕ → Bool) → Transition
chosen t v f = transition_with t (choice_for t v f) (saturate t (choice_for t v f) v)

module _ (t : Table) (v : Subset) (len : length v ≡ length t) (f : ℕ → Bool) where
  every_moves : (e : ℕ) → moves (operator t e) (has (every t f) e) ≡ moves (operator t e) (f e)
  unfolding every
  every_moves e = moves_pick (operator t e) (has (every t f) e) (f e) (λ h. choice_by_has t f e ∙ and-true (is_or (operator t e)) (f e) h)

  near-moves : (e : ℕ) → T (has (saturate t (every t f) v) e) → moves (operator t e) (has (choice_for t v f) e) ≡ moves (operator t e) (f e)
  unfolding choice_for
  near-moves e k =
      moves_pick (operator t e) (has (choice_for t v f) e) (f e)
      (λ h.
      choice_by_has t (λ e. f e && has (saturate t (every t f) v) e) e
      ∙ and-true (is_or (operator t e)) (f e && has (saturate t (every t f) v) e) h ∙ true_and (f e) (has (saturate t (every t f) v) e) k)

  near_same : saturate t (every t f) v ≡ saturate t (choice_for t v f) v
  near_same = saturate-same t v len (every t f) (choice_for t v f) (λ e h. every_moves e ∙ sym (near-moves e h))

  -- its moves are those of the picks,
  pub chosen-moves : (e : ℕ) → T (has (saturate t (chosen t v f).choice v) e)
      → moves (operator t e) (has (chosen t v f).choice e) ≡ moves (operator t e) (f e)
  unfolding chosen
  chosen-moves e h = near-moves e (subst⁻¹ (λ (s : Subset). T (has s e)) near_same h)

  -- its saturated set is inside every set around the node that no picked move leaves,
  pub chosen-inside : {u : Subset} → Inside v u
      → ((e m : ℕ) → T (has u e) → Memᴰ m (moves (operator t e) (f e)) → m < length u → T (has u m))
      → Inside (saturate t (chosen t v f).choice v) u
  unfolding chosen
  chosen-inside {u} i c =
      subst (λ (s : Subset). Inside s u) near_same
      (saturate-least t (every t f) i (λ e m h r l. c e m h (subst (Memᴰ m) (every_moves e) r) l))

  -- and it exists if some letter of the alphabet is allowed there
  pub chosen_in : (a : ℕ) → T (in_alphabet a) → ((e : ℕ) → T (has (saturate t (chosen t v f).choice v) e) → T (asks (operator t e) a))
      → Memᴰ (chosen t v f) (transitions t v)
  unfolding chosen choice_for
  chosen_in a such h =
      transition_in t v (choice_for t v f) (choice_by_in t (λ e. f e && has (saturate t (every t f) v) e))
      (λ e k.
      subst (λ (s : Subset). T (has s e)) near_same
      (and_right (f e) (has (saturate t (every t f) v) e)
      (and_right (is_or (operator t e)) (f e && has (saturate t (every t f) v) e)
      (subst T (choice_by_has t (λ e. f e && has (saturate t (every t f) v) e) e) k))))
      a such h

-- a choice has picks only at or operators
pub choice_of-length : (t : Table) (x : ℕ) → length (choice_of t x) ≡ length t
choice_of-length [] x = refl
choice_of-length (o ∷ t) x =
    by_test (is_or o) (λ b. length (cond b (eqb (x % 2) 1 ∷ choice_of t (x / 2)) (false ∷ choice_of t x)) ≡ suc (length t))
    (λ h. ap suc (choice_of-length t (x / 2)))
    (λ h. ap suc (choice_of-length t x))

choice_of_or : (t : Table) (x e : ℕ) → T (has (choice_of t x) e) → T (is_or (operator t e))
choice_of_or [] x e h = absurd h
choice_of_or (o ∷ t) x zero h =
    by_test (is_or o) (λ b. T (has (cond b (eqb (x % 2) 1 ∷ choice_of t (x / 2)) (false ∷ choice_of t x)) 0) → T b) (λ k r. tt) (λ k r. r) h
choice_of_or (o ∷ t) x (suc e) h =
    by_test (is_or o)
    (λ b. T (has (cond b (eqb (x % 2) 1 ∷ choice_of t (x / 2)) (false ∷ choice_of t x)) (suc e)) → T (is_or (operator t e)))
    (λ k r. choice_of_or t (x / 2) e r)
    (λ k r. choice_of_or t x e r)
    h

pub choices-length : (t : Table) {w : Subset} → Memᴰ w (choices t) → length w ≡ length t
choices-length t m = let (x, r, q) = Memᴰ.of_map (choice_of t) (range 0 (2 ^ ors t)) m in ap length (sym q) ∙ choice_of-length t x

choices_or : (t : Table) {w : Subset} → Memᴰ w (choices t) → (e : ℕ) → T (has w e) → T (is_or (operator t e))
choices_or t m e h =
    let (x, r, q) = Memᴰ.of_map (choice_of t) (range 0 (2 ^ ors t)) m in
    choice_of_or t x e (subst⁻¹ (λ (w : Subset). T (has w e)) q h)

-- Theorem: a transition is determined by its picks at the or operators that it meets.
pub transition_unique : (t : Table) (v : Subset) → length v ≡ length t → (x y : Transition) → Memᴰ x (transitions t v)
    → Memᴰ y (transitions t v)
    → ((e : ℕ) → T (has (saturate t x.choice v) e) → T (is_or (operator t e)) → has x.choice e ≡ has y.choice e) → x ≡ y
transition_unique t v len x y p q agree =
    let a = facts t v len x p in
    let b = facts t v len y q in
    let same : saturate t x.choice v ≡ saturate t y.choice v =
    saturate-same t v len x.choice y.choice
    (λ e h. moves_pick (operator t e) (has x.choice e) (has y.choice e) (agree e h)) in
    let w : x.choice ≡ y.choice =
    subset_ext x.choice y.choice (choices-length t a.listed ∙ sym (choices-length t b.listed))
    (λ e h. subst T (agree e (a.met e h) (choices_or t a.listed e h)) h)
    (λ e h. subst⁻¹ T (agree e (subst⁻¹ (λ (s : Subset). T (has s e)) same (b.met e h)) (choices_or t b.listed e h)) h) in
    transition_is t v x p ∙ ap (λ (c : Subset). transition_with t c (saturate t c v)) w ∙ sym (transition_is t v y q)
