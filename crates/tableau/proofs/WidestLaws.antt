-- A set that holds every saturation of a node under a choice word between two others (`widest_rest`): the least set around the node that
-- follows the moves under the lower choice and those under the upper one. The choice of a word between is between theirs
-- (`choice-inside`), so it picks at each or as one of the two (`between-moves`), and by `saturate-least` the set holds its saturation.
-- Assumes nothing.
use Rattle.std.proofs.Common.{◌≡◌, sym, ap, subst, ◌∙◌, inl, inr, Bool, true, false, cond, List, [], ◌∷◌, ◌++◌, ℕ, suc, ◌+◌, ◌/◌, ◌%◌}
use Rattle.std.proofs.Common.{◌<◌, arith, T, eqb, length}
use Rattle.std.proofs.Math.Path.{subst⁻¹}
use mathlib.Core.List.{Memᴰ}
use mathlib.Core.List.Memᴰ
use Rattle.base.specs.Bits.{bit, word}
use Rattle.base.specs.Sets.{Inside}
use Rattle.base.proofs.BoolLaws.{by_test, of_T, to_T}
use Rattle.base.proofs.TestLaws.{not_of_T}
use Rattle.base.proofs.WordLaws.{bit_zero, bit_suc, word-bit}
use Rattle.base.proofs.Inside.{below_of, below-least, inside_length}
use Rattle.formula.specs.Table.{Operator, Table, operator, is_or}
use Rattle.tableau.specs.Saturation.{Subset, has, moves, saturate}
use Rattle.tableau.specs.Transition.{ors, choice_of}
use Rattle.tableau.specs.Inner.{table_of, Formed, ChoiceBetween, Widest}
use Rattle.tableau.specs.Fringe.{Spread, moves_at, moves_both}
use Rattle.tableau.proofs.SaturationLaws.{inside-has, has_lt, saturate-least}
use Rattle.tableau.proofs.WordSets.{AllBelow}
use Rattle.tableau.proofs.FringeLaws.{spread-rest, moves_at-below, moves-same}

-- a choice word with more bits picks right at more ors
choice-inside : (t : Table) (x y : ℕ) → ((i : ℕ) → i < ors t → T (bit x i) → T (bit y i)) → Inside (choice_of t x) (choice_of t y)
choice-inside [] x y f = Inside.none
choice-inside (o ∷ t) x y f = by (is_or o) f (choice-inside t)
  where
    by : (b : Bool) → ((i : ℕ) → i < cond b 1 0 + ors t → T (bit x i) → T (bit y i))
        → ((x y : ℕ) → ((i : ℕ) → i < ors t → T (bit x i) → T (bit y i)) → Inside (choice_of t x) (choice_of t y))
        → Inside (cond b (eqb (x % 2) 1 ∷ choice_of t (x / 2)) (false ∷ choice_of t x))
        (cond b (eqb (y % 2) 1 ∷ choice_of t (y / 2)) (false ∷ choice_of t y))
    by true f g =
        Inside.put
        (below_of (eqb (x % 2) 1) (eqb (y % 2) 1)
        (λ q. sym (bit_zero y) ∙ of_T (bit y 0) (f 0 (omega arith) (to_T (bit x 0) (bit_zero x ∙ q)))))
        (g (x / 2) (y / 2) (λ i h k. subst T (bit_suc y i) (f (suc i) (omega arith) (subst⁻¹ T (bit_suc x i) k))))
    by false f g = Inside.put (below-least false) (g x y (λ i h k. f i (omega arith) k))

-- the moves of an operator under a choice between two others are among theirs
between-moves : (o : Operator) {p w q : Subset} (e : ℕ) {m : ℕ} → Inside p w → Inside w q → Memᴰ m (moves o (has w e))
    → Memᴰ m (moves o (has p e) ++ moves o (has q e))
between-moves o {p} {w} {q} e {m} lower upper =
    by_test (has w e) (λ b. Memᴰ m (moves o b) → Memᴰ m (moves o (has p e) ++ moves o (has q e)))
    (λ y r. Memᴰ.append_right (moves o (has p e)) (rw (of_T (has q e) (inside-has upper e y)) r))
    (λ n r. Memᴰ.append_left {s = moves o (has p e)} (moves o (has q e)) (rw (not_of_T (has p e) (λ y. n (inside-has lower e y))) r))

pub moves_both_below : {rows : List ℕ} {count : ℕ} → Formed rows count → (lower upper e : ℕ) → e < count
    → AllBelow count (moves_both rows lower upper e)
moves_both_below {rows} f lower upper e h m r =
    elim (Memᴰ.append_cases (moves_at rows lower e) r)
    [ inl p ↦ moves_at-below f lower e h m p | inr p ↦ moves_at-below f upper e h m p ]

pub widest_rest : {rows : List ℕ} {count low high lower upper node set fringe : ℕ} → lower ≡ word (choice_of (table_of rows count) low)
    → upper ≡ word (choice_of (table_of rows count) high) → Spread (moves_both rows lower upper) count node set fringe → fringe ≡ 0
    → Widest rows count low high node set
widest_rest {rows} {count} {low} {high} {lower} {upper} {node} {set} a b s z = record { is = λ v l n x m k h. go v l n x m k h }
  where
    t : Table
    t = table_of rows count

    both : {e : ℕ} → e < count
        → moves_both rows lower upper e ≡ moves (operator t e) (has (choice_of t low) e) ++ moves (operator t e) (has (choice_of t high) e)
    both h = rw (moves-same rows count (choice_of t low) a h, moves-same rows count (choice_of t high) b h)

    go : (v : Subset) → length v ≡ count → node ≡ word v → (x : ℕ) → ChoiceBetween (ors t) low high x → (k : ℕ)
        → T (has (saturate t (choice_of t x) v) k)
        → T (bit set k)
    go v l n x m k h =
        let u = s.is v l n in
        subst⁻¹ T (ap (λ (y : ℕ). bit y k) u.word_is ∙ word-bit u.now k)
        (inside-has (saturate-least t (choice_of t x) u.holds
        (λ e i p r j.
        spread-rest s z v l n e i p
        (subst⁻¹ (Memᴰ i) (both (omega (arith, has_lt u.now e p, inside_length u.holds)))
        (between-moves (operator t e) e (choice-inside t low x m.above) (choice-inside t x high m.below) r)) j)) k h)
