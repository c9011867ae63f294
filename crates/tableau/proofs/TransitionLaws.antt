-- When a transition exists, what its letter has and where it leads, as laws: with those of the requirement (`RequirementLaws`) they are
-- all that the layers above use of these, and no proof there opens `required_word`, `clash`, `possible` or `letter_of`. In one direction
-- (`facts`): the letter of a transition is one that every subformula of the saturated set allows, and it leads to the operands of the next
-- operators there; and it is in the alphabet (`letter-in_alphabet`). In the other (`transition_in`): where some letter of the alphabet is
-- allowed by each subformula of the saturated set, the transition exists. A choice word has one transition or none (`one_or_none`), all
-- choice words make the transitions of a node (`transitions-by_word`, `word_of`, `word_in`), and a letter has sixteen bits
-- (`letter_bound`). Assumes nothing.
use Rattle.std.proofs.Common.{◌≡◌, refl, sym, ap, subst, ◌∙◌, ◌⊎◌, inl, inr, Bool, true, false, not, cond, ◌&&◌, List, [], ◌∷◌, ℕ, zero}
use Rattle.std.proofs.Common.{suc, ◌^◌, ◌<◌, arith, T, T_not, length}
use Rattle.std.proofs.Math.Dec.{not_T}
use Rattle.std.proofs.Math.ListN.{length-map}
use Rattle.std.proofs.Math.Path.{subst⁻¹}
use mathlib.Core.List.{Memᴰ, Sublistᴰ}
use mathlib.Core.List.Memᴰ
use mathlib.Core.List.Sublistᴰ
use Rattle.base.specs.Lists.{flat_map, any, range}
use Rattle.base.specs.Bits.{bit}
use Rattle.base.proofs.BoolLaws.{of_T, and_left, and_right, and_both}
use Rattle.base.proofs.AppendLaws.{flat_map_map, range_of}
use Rattle.base.proofs.CondLaws.{cond_of}
use Rattle.base.proofs.MemberLaws.{flat_map_of, flat_map_in, any_of, any_in, range_in}
use Rattle.base.proofs.Inside.{inside_length}
use Rattle.letters.specs.Alphabet.{in_alphabet}
use Rattle.letters.specs.Requirements.{clash, letter_of}
use Rattle.letters.proofs.LetterLaws.{Satisfies, Clash, clash_of, clash_in, clash_leaves_none, letter-small, letter_satisfies, letter_in}
use Rattle.formula.specs.Formula.{Leaf}
use Rattle.formula.specs.Table.{Operator, Table, operator}
use Rattle.tableau.specs.Saturation.{Subset, has, nothing, add, saturate}
use Rattle.tableau.specs.Transition.{operators_in, is_false, requirement, possible, next_of, ors}
use Rattle.tableau.specs.Transition.{choice_of, choices, within, Transition, letter, transition_of, by_word, transitions}
use Rattle.tableau.specs.Nodes.{operands}
use Rattle.tableau.proofs.SaturationLaws.{inside-has, has_lt, nothing-has, add-inside, add-has, add_of, ClosedUnder, saturate-holds}
use Rattle.tableau.proofs.SaturationLaws.{saturate-length, saturate-closed}
use Rattle.tableau.proofs.RequirementLaws.{required-small, required_in, satisfied_by}

-- what an operator asks of a letter by itself
abbrev pub asks : Operator → (letter : ℕ) → Bool
asks (Operator.leaf (Leaf.constant b)) a = b
asks (Operator.leaf (Leaf.signal p j)) a = cond p (bit a j) (not (bit a j))
asks (Operator.variable m) a = true
asks (Operator.pair o l r) a = true
asks (Operator.next g) a = true
asks (Operator.fix g l) a = true

-- what makes a transition possible has no clash in it
possible_clashless : (os : List Operator) → T (possible os) → Clash (requirement os) → ⊥
unfolding possible
possible_clashless os h c = T_not (clash (requirement os)) (and_right (not (any is_false os)) _ h) (clash_in (requirement os) c)

-- Theorem: where a transition is possible, its letter is in the alphabet,
pub possible-in_alphabet : (os : List Operator) → T (possible os) → T (in_alphabet (letter_of (requirement os)))
possible-in_alphabet os h = letter_in (requirement os) (possible_clashless os h)

-- and allowed by each operator of the set.
pub possible_allows : (os : List Operator) → T (possible os) → (o : Operator) → Memᴰ o os
    → ((p : Bool) (j : ℕ) → o ≡ Operator.leaf (Leaf.signal p j) → j < 16) → T (asks o (letter_of (requirement os)))
unfolding possible
possible_allows os h (Operator.leaf (Leaf.constant true)) m small = tt
possible_allows os h (Operator.leaf (Leaf.constant false)) m small =
    T_not (any is_false os) (and_left (not (any is_false os)) _ h) (any_in is_false m tt)
possible_allows os h (Operator.leaf (Leaf.signal true j)) m small =
    let l = small true j refl in
    (letter_satisfies (requirement os) (possible_clashless os h)).has j l (required_in true os m l)
possible_allows os h (Operator.leaf (Leaf.signal false j)) m small =
    let l = small false j refl in
    not_T (bit (letter_of (requirement os)) j)
    ((letter_satisfies (requirement os) (possible_clashless os h)).lacks j l (required_in false os m l))
possible_allows os h (Operator.variable n) m small = tt
possible_allows os h (Operator.pair e l r) m small = tt
possible_allows os h (Operator.next g) m small = tt
possible_allows os h (Operator.fix g l) m small = tt

never_asked : (o : Operator) (a : ℕ) → T (is_false o) → T (asks o a) → ⊥
never_asked (Operator.leaf (Leaf.constant b)) a h k = T_not b h k
never_asked (Operator.leaf (Leaf.signal p j)) a h k = h
never_asked (Operator.variable n) a h k = h
never_asked (Operator.pair e l r) a h k = h
never_asked (Operator.next g) a h k = h
never_asked (Operator.fix g l) a h k = h

-- Theorem: where some letter of the alphabet is allowed by each operator of the set, the transition is possible.
pub possible_of : (os : List Operator) (a : ℕ) → T (in_alphabet a) → ((o : Operator) → Memᴰ o os → T (asks o a)) → T (possible os)
unfolding possible
possible_of os a such f =
    and_both (not (any is_false os)) _
    (not_T (any is_false os) (λ h. let (o, m, k) = any_of is_false os h in never_asked o a k (f o m)))
    (not_T (clash (requirement os)) (λ h. clash_leaves_none (requirement os) such satisfied (clash_of (requirement os) h)))
  where
    satisfied : Satisfies (requirement os) a
    satisfied =
        satisfied_by os a (λ j m. f (Operator.leaf (Leaf.signal true j)) m)
        (λ j m. T_not (bit a j) (f (Operator.leaf (Leaf.signal false j)) m))

-- the operators of a set are those of its subformulas
pub met_of : (t : Table) (v : Subset) {o : Operator} → Memᴰ o (operators_in t v) → (e : ℕ) × T (has v e) × (operator t e ≡ o)
met_of [] v m = absurd (Memᴰ.not-nil m)
met_of (q ∷ t) [] m = absurd (Memᴰ.not-nil m)
met_of (q ∷ t) (true ∷ v) m =
    elim (Memᴰ.cases_cons m) [ inl e ↦ (0, tt, sym e) | inr r ↦ let z = met_of t v r in (suc z.0, z.1, z.2) ]
met_of (q ∷ t) (false ∷ v) m = let z = met_of t v m in (suc z.0, z.1, z.2)

met_in : (t : Table) (v : Subset) (e : ℕ) → e < length t → T (has v e) → Memᴰ (operator t e) (operators_in t v)
met_in [] v e l h = absurd (omega arith)
met_in (q ∷ t) [] e l h = absurd h
met_in (q ∷ t) (true ∷ v) zero l h = Memᴰ.head refl
met_in (q ∷ t) (false ∷ v) zero l h = absurd h
met_in (q ∷ t) (true ∷ v) (suc e) l h = Memᴰ.tail (met_in t v e (omega arith) h)
met_in (q ∷ t) (false ∷ v) (suc e) l h = met_in t v e (omega arith) h

pub next_is : (o : Operator) (y : ℕ) → Memᴰ y (next_of o) → o ≡ Operator.next y
next_is (Operator.leaf l) y m = absurd (Memᴰ.not-nil m)
next_is (Operator.variable n) y m = absurd (Memᴰ.not-nil m)
next_is (Operator.pair e l r) y m = absurd (Memᴰ.not-nil m)
next_is (Operator.next g) y m = ap Operator.next (sym (Memᴰ.eq_of_singleton m))
next_is (Operator.fix g l) y m = absurd (Memᴰ.not-nil m)

-- a choice inside a set
pub within_of : (w v : Subset) → T (within w v) → (e : ℕ) → T (has w e) → T (has v e)
within_of [] v h e k = absurd k
within_of (false ∷ w) [] h zero k = k
within_of (false ∷ w) [] h (suc e) k = within_of w [] h e k
within_of (true ∷ w) [] h e k = absurd h
within_of (false ∷ w) (b ∷ v) h zero k = absurd k
within_of (false ∷ w) (b ∷ v) h (suc e) k = within_of w v h e k
within_of (true ∷ w) (true ∷ v) h zero k = tt
within_of (true ∷ w) (true ∷ v) h (suc e) k = within_of w v h e k
within_of (true ∷ w) (false ∷ v) h e k = absurd h

pub within_in : (w v : Subset) → ((e : ℕ) → T (has w e) → T (has v e)) → T (within w v)
within_in [] v f = tt
within_in (false ∷ w) [] f = within_in w [] (λ e k. f (suc e) k)
within_in (true ∷ w) [] f = f 0 tt
within_in (false ∷ w) (b ∷ v) f = within_in w v (λ e k. f (suc e) k)
within_in (true ∷ w) (true ∷ v) f = within_in w v (λ e k. f (suc e) k)
within_in (true ∷ w) (false ∷ v) f = f 0 tt

-- the transition with choice w whose saturated set is s
abbrev pub transition_with : Table → (choice : Subset) → Subset → Transition
transition_with t w s =
    let os = operators_in t s in
    record { choice = w; required = requirement os; to = add (flat_map next_of os) (nothing t) }

-- a choice gives its transition where the choice is met and the saturated set makes one possible, and else none
pub transition_by : (t : Table) (w s : Subset) (b : Bool) → (within w s && possible (operators_in t s)) ≡ b
    → transition_of t w s ≡ cond b (transition_with t w s ∷ []) []
unfolding possible
transition_by t w s b q = ap (λ (d : Bool). cond d (transition_with t w s ∷ []) []) q

-- a choice that is not met has no transition
pub no_transition : (t : Table) (w s : Subset) → within w s ≡ false → transition_of t w s ≡ []
no_transition t w s p = transition_by t w s false (ap (λ (d : Bool). d && possible (operators_in t s)) p)

pub one_or_none : (t : Table) (w s : Subset) → (transition_of t w s ≡ transition_with t w s ∷ []) ⊎ (transition_of t w s ≡ [])
one_or_none t w s = by (within w s && possible (operators_in t s)) refl
  where
    by : (b : Bool) → (within w s && possible (operators_in t s)) ≡ b
        → (transition_of t w s ≡ transition_with t w s ∷ []) ⊎ (transition_of t w s ≡ [])
    by true q = inl (transition_by t w s true q)
    by false q = inr (transition_by t w s false q)

-- the target has a Bool for each subformula
pub to-length : (t : Table) (w s : Subset) → length (transition_with t w s).to ≡ length t
to-length t w s = sym (inside_length (add-inside (flat_map next_of (operators_in t s)) (nothing t)))
    ∙ length-map t (λ (o : Operator). false)

module _ (t : Table) (v : Subset) where
  -- the transitions of a node are those of all choice words
  pub transitions-by_word : transitions t v ≡ flat_map (λ (x : ℕ). by_word t x v) (range 0 (2 ^ ors t))
  unfolding transitions
  transitions-by_word = flat_map_map (λ (w : Subset). transition_of t w (saturate t w v)) (choice_of t) (range 0 (2 ^ ors t))

  pub word_of : {s : Transition} → Memᴰ s (transitions t v) → (x : ℕ) × (x < 2 ^ ors t) × Memᴰ s (by_word t x v)
  word_of {s} m =
      let (x, i, r) = flat_map_of (λ (x : ℕ). by_word t x v) (range 0 (2 ^ ors t)) (subst (Memᴰ s) transitions-by_word m) in
      (x, omega (arith, range_of 0 (2 ^ ors t) i), r)

  pub word_in : {s : Transition} (x : ℕ) → x < 2 ^ ors t → Memᴰ s (by_word t x v) → Memᴰ s (transitions t v)
  word_in {s} x h m =
      subst⁻¹ (Memᴰ s) transitions-by_word
      (flat_map_in (λ (x : ℕ). by_word t x v) (range_in 0 (2 ^ ors t) x (omega arith) (omega arith)) m)

  -- they are those with a choice that is met, where possible
  transitions_of : (x : Transition) → Memᴰ x (transitions t v)
      → (w : Subset) × Memᴰ w (choices t) × T (within w (saturate t w v)) × T (possible (operators_in t (saturate t w v)))
      × (x ≡ transition_with t w (saturate t w v))
  unfolding transitions
  transitions_of x m =
      let (w, p, r) = flat_map_of (λ w. transition_of t w (saturate t w v)) (choices t) m in
      let s = saturate t w v in
      let met = within w s in
      let able = possible (operators_in t s) in
      let (h, q) = cond_of (met && able) (transition_with t w s ∷ []) (subst (Memᴰ x) (transition_by t w s (met && able) refl) r) in
      (w, p, and_left met able h, and_right met able h, Memᴰ.eq_of_singleton q)

  transitions_in : (w : Subset) → Memᴰ w (choices t) → T (within w (saturate t w v)) → T (possible (operators_in t (saturate t w v)))
      → Memᴰ (transition_with t w (saturate t w v)) (transitions t v)
  unfolding transitions
  transitions_in w p a b =
      let s = saturate t w v in
      let both = and_both (within w s) (possible (operators_in t s)) a b in
      flat_map_in (λ w. transition_of t w (saturate t w v)) p
      (subst⁻¹ (Memᴰ (transition_with t w s)) (transition_by t w s true (of_T (within w s && possible (operators_in t s)) both))
      (Memᴰ.head refl))

-- What a transition of node v is: its choice is met, and its saturated set holds the node, follows the moves, allows the letter, and
-- has the next operators whose operands are the node that it leads to.
pub record Facts (t : Table) (v : Subset) (x : Transition) : Type 0 where
  pub listed : Memᴰ x.choice (choices t)
  pub met : (e : ℕ) → T (has x.choice e) → T (has (saturate t x.choice v) e)
  pub enters : (e : ℕ) → T (has v e) → T (has (saturate t x.choice v) e)
  pub follows : ClosedUnder t x.choice (saturate t x.choice v)
  pub allows : (e : ℕ) → T (has (saturate t x.choice v) e)
      → ((p : Bool) (j : ℕ) → operator t e ≡ Operator.leaf (Leaf.signal p j) → j < 16)
      → T (asks (operator t e) (letter x))
  pub nexts : (e y : ℕ) → T (has (saturate t x.choice v) e) → operator t e ≡ Operator.next y → y < length t → T (has x.to y)
  pub from_next : (y : ℕ) → T (has x.to y) → (e : ℕ) × T (has (saturate t x.choice v) e) × (operator t e ≡ Operator.next y)
  pub long : length x.to ≡ length t

module _ (t : Table) (v w : Subset) (len : length v ≡ length t) where
  abbrev set : Subset
  set = saturate t w v

  abbrev nexts : List ℕ
  nexts = flat_map next_of (operators_in t set)

  in_set : (e : ℕ) → T (has set e) → Memᴰ (operator t e) (operators_in t set)
  in_set e h = met_in t set e (omega (arith, has_lt set e h, saturate-length t w v)) h

  to_of : (y : ℕ) → T (has (add nexts (nothing t)) y) → (e : ℕ) × T (has set e) × (operator t e ≡ Operator.next y)
  to_of y h =
      elim (add_of nexts (nothing t) y h) [
        | inl p ↦
            let (o, m, r) = flat_map_of next_of (operators_in t set) p.0 in
            let (e, k, q) = met_of t set m in
            (e, k, q ∙ next_is o y r)
        | inr k ↦ absurd (nothing-has t y k)
      ]

  to_in : (e y : ℕ) → T (has set e) → operator t e ≡ Operator.next y → y < length t → T (has (add nexts (nothing t)) y)
  to_in e y h q l =
      add-has nexts (flat_map_in next_of (in_set e h) (subst⁻¹ (λ (o : Operator). Memᴰ y (next_of o)) q (Memᴰ.head refl)))
      (nothing t)
      (omega (arith, length-map t (λ (o : Operator). false)))

  facts_with : Memᴰ w (choices t) → T (within w set) → T (possible (operators_in t set)) → Facts t v (transition_with t w set)
  facts_with c i p =
      record {
        listed = c;
        met = within_of w set i;
        enters = inside-has (saturate-holds t w v);
        follows = saturate-closed t w v len;
        allows = λ e h small. possible_allows (operators_in t set) p (operator t e) (in_set e h) small;
        nexts = to_in;
        from_next = to_of;
        long = to-length t w set;
      }

-- Theorem: a transition of a node is what `Facts` says.
pub facts : (t : Table) (v : Subset) → length v ≡ length t → (x : Transition) → Memᴰ x (transitions t v) → Facts t v x
facts t v len x m = let (w, c, i, p, e) = transitions_of t v x m in subst⁻¹ (Facts t v) e (facts_with t v w len c i p)

-- it leads to a part of the operands of next
operands-part : (t : Table) (v : Subset) → Sublistᴰ (flat_map next_of (operators_in t v)) (operands t)
operands-part [] v = Sublistᴰ.slnil
operands-part (o ∷ t) [] = Sublistᴰ.nil-sublist (operands (o ∷ t))
operands-part (o ∷ t) (true ∷ v) = Sublistᴰ.append (Sublistᴰ.refl (next_of o)) (operands-part t v)
operands-part (o ∷ t) (false ∷ v) = Sublistᴰ.append (Sublistᴰ.nil-sublist (next_of o)) (operands-part t v)

pub transition_to : (t : Table) (v : Subset) (x : Transition) → Memᴰ x (transitions t v)
    → (ms : List ℕ) × Sublistᴰ ms (operands t) × (x.to ≡ add ms (nothing t))
transition_to t v x m =
    let (w, c, i, p, e) = transitions_of t v x m in
    (flat_map next_of (operators_in t (saturate t w v)), operands-part t (saturate t w v), ap (λ (y : Transition). y.to) e)

-- it is the one with its choice, and the set that the choice gives
pub transition_is : (t : Table) (v : Subset) (x : Transition) → Memᴰ x (transitions t v)
    → x ≡ transition_with t x.choice (saturate t x.choice v)
transition_is t v x m =
    let (w, c, i, p, e) = transitions_of t v x m in
    e ∙ ap (λ (y : Transition). transition_with t y.choice (saturate t y.choice v)) (sym e)

-- and so its letter has sixteen bits
pub letter_bound : (t : Table) (v : Subset) {x : Transition} → Memᴰ x (transitions t v) → letter x < 65536
letter_bound t v {x} m =
    subst⁻¹ (λ (y : Transition). letter y < 65536) (transition_is t v x m)
    (letter-small (requirement (operators_in t set)) (required-small true (operators_in t set)))
  where
    set : Subset
    set = saturate t x.choice v

-- Theorem: the letter of a transition is in the alphabet.
pub letter-in_alphabet : (t : Table) (v : Subset) {x : Transition} → Memᴰ x (transitions t v) → T (in_alphabet (letter x))
letter-in_alphabet t v {x} m =
    let (w, c, i, p, e) = transitions_of t v x m in
    subst⁻¹ (λ (y : Transition). T (in_alphabet (letter y))) e (possible-in_alphabet (operators_in t (saturate t w v)) p)

-- Theorem: a choice that is met gives a transition if some letter of the alphabet is allowed by each subformula of the saturated set.
pub transition_in : (t : Table) (v w : Subset) → Memᴰ w (choices t) → ((e : ℕ) → T (has w e) → T (has (saturate t w v) e))
    → (a : ℕ) → T (in_alphabet a) → ((e : ℕ) → T (has (saturate t w v) e) → T (asks (operator t e) a))
    → Memᴰ (transition_with t w (saturate t w v)) (transitions t v)
transition_in t v w c i a such f =
    transitions_in t v w c (within_in w (saturate t w v) i)
    (possible_of (operators_in t (saturate t w v)) a such
    (λ o m. let (e, h, q) = met_of t (saturate t w v) m in subst (λ (p : Operator). T (asks p a)) q (f e h)))
