-- What the two words of a requirement say (MEANING 3.4), as laws. Bit j of a word is set exactly if an operator asks for signal j so
-- (`required_of`, `required_in`), and no bit from 16 on is (`required-small`). So a letter satisfies both if each signal allows it
-- (`satisfied_by`). With the sixteen signals that there are the words clash exactly if the lists of signals do, by a number that is in both
-- or by both scale flags in one (`clash_lists`, `possible_lists`). Assumes nothing.
use Rattle.std.proofs.Common.{◌≡◌, refl, sym, ap, subst, Bool, true, false, not, ◌&&◌, ◌||◌, List, [], ℕ, ◌≤◌, ◌<◌, arith, T}
use Rattle.std.proofs.Math.Decide.{dec_lt}
use Rattle.std.proofs.Math.Path.{subst⁻¹}
use mathlib.Core.List.{Memᴰ}
use mathlib.Core.List.Memᴰ
use Rattle.base.specs.Lists.{flat_map, any, member, range}
use Rattle.base.specs.Bits.{bit}
use Rattle.base.proofs.BoolLaws.{and_left, and_right, and_both}
use Rattle.base.proofs.TestLaws.{same_truth}
use Rattle.base.proofs.WordLaws.{values_bit, values_past, values_lt}
use Rattle.base.proofs.MemberLaws.{flat_map_of, flat_map_in, any_of, any_in, member_of, member_in, range_in}
use Rattle.letters.specs.Alphabet.{previous_scale, current_scale, both_scales}
use Rattle.letters.specs.Requirements.{clash}
use Rattle.letters.proofs.LetterLaws.{Satisfies, nothing-required}
use Rattle.formula.specs.Formula.{Leaf}
use Rattle.formula.specs.Table.{Operator}
use Rattle.tableau.specs.Transition.{requires, is_false, required_word, requirement, possible}

-- a signal that an operator requires is the operator's own
requires-is : (p : Bool) (o : Operator) (j : ℕ) → Memᴰ j (requires p o) → o ≡ Operator.leaf (Leaf.signal p j)
requires-is p (Operator.leaf (Leaf.constant b)) j m = absurd (Memᴰ.not-nil m)
requires-is true (Operator.leaf (Leaf.signal true i)) j m =
    ap (λ (k : ℕ). Operator.leaf (Leaf.signal true k)) (sym (Memᴰ.eq_of_singleton m))
requires-is true (Operator.leaf (Leaf.signal false i)) j m = absurd (Memᴰ.not-nil m)
requires-is false (Operator.leaf (Leaf.signal true i)) j m = absurd (Memᴰ.not-nil m)
requires-is false (Operator.leaf (Leaf.signal false i)) j m =
    ap (λ (k : ℕ). Operator.leaf (Leaf.signal false k)) (sym (Memᴰ.eq_of_singleton m))
requires-is p (Operator.variable m₀) j m = absurd (Memᴰ.not-nil m)
requires-is p (Operator.pair o l r) j m = absurd (Memᴰ.not-nil m)
requires-is p (Operator.next g) j m = absurd (Memᴰ.not-nil m)
requires-is p (Operator.fix g l) j m = absurd (Memᴰ.not-nil m)

-- the signals that operators require so, as a list
abbrev pub signals : (present : Bool) → List Operator → List ℕ
signals p os = flat_map (requires p) os

listed_of : (p : Bool) (os : List Operator) {j : ℕ} → Memᴰ j (signals p os) → Memᴰ (Operator.leaf (Leaf.signal p j)) os
listed_of p os {j} m = let (o, r, q) = flat_map_of (requires p) os m in Memᴰ.cast (sym (requires-is p o j q)) r

listed_in : (p : Bool) {os : List Operator} {j : ℕ} → Memᴰ (Operator.leaf (Leaf.signal p j)) os → Memᴰ j (signals p os)
listed_in true m = flat_map_in (requires true) m (Memᴰ.head refl)
listed_in false m = flat_map_in (requires false) m (Memᴰ.head refl)

-- one word
module _ (p : Bool) (os : List Operator) where
  pub required-bit : (j : ℕ) → j < 16 → bit (required_word p os) j ≡ member j (signals p os)
  unfolding required_word
  required-bit j h = values_bit (λ i. member i (signals p os)) 16 j h

  pub required-past : (j : ℕ) → 16 ≤ j → bit (required_word p os) j ≡ false
  unfolding required_word
  required-past j h = values_past (λ i. member i (signals p os)) 16 j h

  pub required-small : required_word p os < 65536
  unfolding required_word
  required-small = values_lt (λ i. member i (signals p os)) 16

  pub required_of : (j : ℕ) → T (bit (required_word p os) j) → Memᴰ (Operator.leaf (Leaf.signal p j)) os
  required_of j t =
      elim (dec_lt j 16) [
        | yes h ↦ listed_of p os (member_of j (signals p os) (subst T (required-bit j h) t))
        | no h ↦ absurd (subst T (required-past j (omega arith)) t)
      ]

  pub required_in : {j : ℕ} → Memᴰ (Operator.leaf (Leaf.signal p j)) os → j < 16 → T (bit (required_word p os) j)
  required_in {j} m h = subst⁻¹ T (required-bit j h) (member_in (listed_in p m))

-- no operators require nothing
pub required-none : requirement [] ≡ nothing-required
unfolding required_word
required-none = refl

-- the two words of operators
module _ (os : List Operator) where
  -- a letter that each signal of the operators allows satisfies the requirement
  pub satisfied_by : (a : ℕ) → ((j : ℕ) → Memᴰ (Operator.leaf (Leaf.signal true j)) os → T (bit a j))
      → ((j : ℕ) → Memᴰ (Operator.leaf (Leaf.signal false j)) os → T (bit a j) → ⊥) → Satisfies (requirement os) a
  satisfied_by a f g = record { has = λ j h t. f j (required_of true os j t); lacks = λ j h t. g j (required_of false os j t) }

  -- a number that both lists have
  abbrev pub in_both_lists : Bool
  in_both_lists = any (λ j. member j (signals false os)) (signals true os)

  -- both scale flags in a list
  abbrev pub scales_in_list : (present : Bool) → Bool
  scales_in_list p = member previous_scale (signals p os) && member current_scale (signals p os)

  -- what the lists say of a clash
  abbrev pub lists_clash : Bool
  lists_clash = in_both_lists || (scales_in_list true || scales_in_list false)

  scales_same : (p : Bool) → both_scales (required_word p os) ≡ scales_in_list p
  scales_same p i = required-bit p os previous_scale (omega arith) i && required-bit p os current_scale (omega arith) i

  abbrev in_both_words : ℕ → Bool
  in_both_words j = bit (required_word true os) j && bit (required_word false os) j

  module _ (few : (p : Bool) (j : ℕ) → Memᴰ (Operator.leaf (Leaf.signal p j)) os → j < 16) where
    both-same : any in_both_words (range 0 16) ≡ in_both_lists
    both-same =
        same_truth (any in_both_words (range 0 16)) in_both_lists
        (λ t.
        let (j, m, h) = any_of in_both_words (range 0 16) t in
        let p = bit (required_word true os) j in
        let a = bit (required_word false os) j in
        any_in (λ j. member j (signals false os)) (listed_in true (required_of true os j (and_left p a h)))
        (member_in (listed_in false (required_of false os j (and_right p a h)))))
        (λ t.
        let (j, m, n) = any_of (λ j. member j (signals false os)) (signals true os) t in
        let present = listed_of true os m in
        let absent = listed_of false os (member_of j (signals false os) n) in
        let h = few true j present in
        any_in in_both_words (range_in 0 16 j (omega arith) (omega arith))
        (and_both (bit (required_word true os) j) (bit (required_word false os) j) (required_in true os present h)
        (required_in false os absent h)))

    -- Theorem: with signals 0 to 15 the words clash exactly if the lists do.
    pub clash_lists : clash (requirement os) ≡ lists_clash
    unfolding clash
    clash_lists i = both-same i || (scales_same true i || scales_same false i)

    -- Theorem: so a set gives a transition exactly if it has no false in it and the lists do not clash.
    pub possible_lists : possible os ≡ (not (any is_false os) && not lists_clash)
    unfolding possible
    possible_lists = ap (λ (b : Bool). not (any is_false os) && not b) clash_lists
