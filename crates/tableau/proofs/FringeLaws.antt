-- The least set around a node that no move leaves, by a fringe, the subformulas of the set whose moves are still to be followed. The set
-- lies inside every set around the node that no move leaves, and follows the moves itself but for the fringe (`MovesClosing`). A turn
-- takes a subformula out of the fringe and puts in what its moves add to the set (`spread_turn`). What enters the fringe enters the set
-- once and for all, which is why the turns end (`turn_less`). With no fringe left the set follows the moves, so it is the least
-- (`spread-rest`); where these are the moves of one choice, it is the saturation (`saturated_rest`). Assumes nothing.
use Rattle.std.proofs.Common.{◌≡◌, refl, sym, ap, subst, ◌∙◌, ◌⊎◌, inl, inr, Bool, true, false, cond, not, ◌||◌, List, ℕ, ◌+◌, ◌-◌, ◌*◌}
use Rattle.std.proofs.Common.{◌%◌, ◌^◌, ◌≤◌, ◌<◌, arith, zero-add, mod-eq_of_lt, bit_or, bit_xor, T, eqb, length, pow_pos, eqb-true}
use Rattle.std.proofs.Common.{ne_eqb}
use Rattle.std.proofs.Math.Dec.{not_T}
use Rattle.std.proofs.Math.Path.{subst⁻¹}
use Rattle.std.proofs.lemmas.Bool.{eqb-false}
use lib.Bits.{or_add_and}
use mathlib.Core.List.{Memᴰ}
use Rattle.base.specs.Lists.{member}
use Rattle.base.specs.Bits.{bit, word, Lowest, Without}
use Rattle.base.specs.Sets.{Inside}
use Rattle.base.proofs.BoolLaws.{by_test, to_T, or_cases, or_left, or_right}
use Rattle.base.proofs.BitLaws.{bit-or, bit-xor}
use Rattle.base.proofs.Inside.{inside_length, inside_refl, inside_trans, inside_both}
use Rattle.base.proofs.LowestLaws.{taken_off}
use Rattle.base.proofs.MemberLaws.{member_of}
use Rattle.base.proofs.NumberLaws.{values_at}
use Rattle.base.proofs.ShiftLaws.{low_below}
use Rattle.base.proofs.WordLaws.{no-bit, word-bit, word_lt}
use Rattle.formula.specs.Formula.{Leaf}
use Rattle.formula.specs.Table.{Operator, operator}
use Rattle.formula.specs.Rows.{operator_at}
use Rattle.tableau.specs.Saturation.{Subset, has, add, moves, saturate}
use Rattle.tableau.specs.Inner.{table_of, Formed, with_bits, Saturated}
use Rattle.tableau.specs.Fringe.{FollowsMoves, MovesClosing, Spread, moves_at}
use Rattle.tableau.proofs.SaturationLaws.{inside-has, has_lt, add-inside, add-has, add-least, saturate-length}
use Rattle.tableau.proofs.SaturationLaws.{saturate-holds, saturate-closed, saturate-least}
use Rattle.tableau.proofs.WordSets.{AllBelow, with_bits-bit, word-add}
use Rattle.tableau.proofs.RowLaws.{moves-below}
use Rattle.tableau.proofs.LoopLaws.{table-length}

-- A turn of the loop: subformula e leaves the fringe, its moves ms go into the set.
pub record Turn (ms : List ℕ) (fringe e rest set grown : ℕ) : Type 0 where
  pub there : T (bit fringe e)
  pub left : Without fringe e rest
  pub gains : grown ≡ with_bits ms set

-- the next fringe, bit by bit: it has the rest and what is new in the set
module _ {ms : List ℕ} {fringe e rest set grown : ℕ} (u : Turn ms fringe e rest set grown) where
  next_bit : (k : ℕ) → bit (bit_or rest (bit_xor grown set)) k ≡ (bit rest k || bit (bit_xor grown set) k)
  next_bit k = bit-or rest (bit_xor grown set) k

  grown-bit : (k : ℕ) → bit grown k ≡ (member k ms || bit set k)
  grown-bit k = ap (λ (x : ℕ). bit x k) u.gains ∙ with_bits-bit ms set k

  kept : (k : ℕ) → (k ≡ e → ⊥) → T (bit fringe k) → T (bit (bit_or rest (bit_xor grown set)) k)
  kept k n h =
      subst⁻¹ T (next_bit k)
      (or_left (bit rest k) (bit (bit_xor grown set) k)
      (subst⁻¹ T (u.left.bits k ∙ ap (λ (d : Bool). cond d false (bit fringe k)) (ne_eqb k e n)) h))

  entered : (k : ℕ) → T (bit grown k) → (T (bit set k) → ⊥) → T (bit (bit_or rest (bit_xor grown set)) k)
  entered k h n =
      subst⁻¹ T (next_bit k)
      (or_right (bit rest k) (bit (bit_xor grown set) k) (subst⁻¹ T (bit-xor grown set k) (only (bit grown k) (bit set k) h n)))
    where
      only : (a b : Bool) → T a → (T b → ⊥) → T (cond a (not b) b)
      only true b h n = not_T b n
      only false b h n = absurd h

  came : (k : ℕ) → T (bit (bit_or rest (bit_xor grown set)) k) → T (bit fringe k) ⊎ Memᴰ k ms
  came k h =
      elim (or_cases (bit rest k) (bit (bit_xor grown set) k) (subst T (next_bit k) h)) [
        | inl p ↦ inl (old (eqb k e) (subst T (u.left.bits k) p))
        | inr p ↦ inr (member_of k ms (new (member k ms) (bit set k) (subst T new_bit p)))
      ]
    where
      new_bit : bit (bit_xor grown set) k ≡ cond (member k ms || bit set k) (not (bit set k)) (bit set k)
      new_bit = bit-xor grown set k ∙ ap (λ (d : Bool). cond d (not (bit set k)) (bit set k)) (grown-bit k)

      old : (d : Bool) → T (cond d false (bit fringe k)) → T (bit fringe k)
      old true h = absurd h
      old false h = h

      new : (a b : Bool) → T (cond (a || b) (not b) b) → T a
      new true b h = tt
      new false true h = h
      new false false h = h

  -- what is new is missing twice in what the set has room for, and comes once into the fringe, which loses bit e
  pub falls : (room : ℕ) → grown ≤ room → 2 * (room - grown) + bit_or rest (bit_xor grown set) < 2 * (room - set) + fringe
  falls room h =
      let new : bit_xor grown set + set ≡ grown =
      taken_off grown set (λ k t. subst⁻¹ T (grown-bit k) (or_right (member k ms) (bit set k) t)) in
      omega (arith, or_add_and rest (bit_xor grown set), u.left.less, pow_pos e)

module _ {go : ℕ → List ℕ} {v : Subset} {set fringe e rest grown : ℕ} (below : AllBelow (length v) (go e))
    (u : Turn (go e) fringe e rest set grown)
    (b : MovesClosing go v set fringe) where
  abbrev after : Subset
  after = add (go e) b.now

  more : Inside b.now after
  more = add-inside (go e) b.now

  inside-now : AllBelow (length b.now) (go e)
  inside-now m r = omega (arith, inside_length b.holds, below m r)

  word_after : grown ≡ word after
  word_after = u.gains ∙ ap (with_bits (go e)) b.word_is ∙ sym (word-add (go e) b.now inside-now)

  moved_to : (m : ℕ) → Memᴰ m (go e) → T (has after m)
  moved_to m r = add-has (go e) r b.now (inside-now m r)

  still-follows : (i m : ℕ) → T (has after i) → (T (bit (bit_or rest (bit_xor grown set)) i) → ⊥) → Memᴰ m (go i) → m < length after
      → T (has after m)
  still-follows i m h n r l =
      by_test (has b.now i) (λ _. T (has after m))
      (λ old. by (eqb i e) refl old)
      (λ new.
      absurd (n (entered u i (subst⁻¹ T (ap (λ (x : ℕ). bit x i) word_after ∙ word-bit after i) h)
      (λ s. new (subst T (ap (λ (x : ℕ). bit x i) b.word_is ∙ word-bit b.now i) s)))))
    where
      by : (d : Bool) → eqb i e ≡ d → T (has b.now i) → T (has after m)
      by true s old = moved_to m (subst (λ (x : ℕ). Memᴰ m (go x)) (eqb-true i e s) r)
      by false s old =
          inside-has more m (b.follows i m old (λ f. n (kept u i (eqb-false i e s) f)) r (omega (arith, inside_length more)))

  closing_turn : MovesClosing go v grown (bit_or rest (bit_xor grown set))
  closing_turn = record {
    now = after;
    word_is = word_after;
    holds = inside_trans b.holds more;
    least = λ x i f. let s = b.least x i f in add-least (go e) s (λ m r l. f e m (inside-has s e (b.part e u.there)) r l);
    part = λ k h. elim (came u k h) [ inl p ↦ inside-has more k (b.part k p) | inr r ↦ moved_to k r ];
    follows = still-follows;
  }

-- the loop's invariant
pub spread-start : (go : ℕ → List ℕ) {count fringe : ℕ} (node : ℕ) → fringe ≡ node % 2 ^ count → Spread go count node node fringe
spread-start go {count} {fringe} node q = record {
  few = λ k h. low_below count node k (subst (λ (x : ℕ). T (bit x k)) q h);
  is = λ v l n.
      let small : word v < 2 ^ count = subst (λ (k : ℕ). word v < 2 ^ k) l (word_lt v) in
      let same : (k : ℕ) → bit fringe k ≡ has v k =
      λ k. ap (λ (x : ℕ). bit x k) (q ∙ ap (λ (x : ℕ). x % 2 ^ count) n ∙ mod-eq_of_lt small) ∙ word-bit v k in
      record {
        now = v;
        word_is = n;
        holds = inside_refl v;
        least = λ x i f. i;
        part = λ k h. subst T (same k) h;
        follows = λ e m h f r k. absurd (f (subst⁻¹ T (same e) h));
      };
}

-- the lowest subformula of a fringe is one of those that there are
pub lowest_few : {count fringe e : ℕ} → ((k : ℕ) → T (bit fringe k) → k < count) → Lowest fringe e → e < count
lowest_few {fringe = fringe} {e} f l = f e (to_T (bit fringe e) l.there)

-- a turn with the lowest one
module _ (go : ℕ → List ℕ) (set : ℕ) {fringe e rest grown : ℕ} (l : Lowest fringe e) (o : Without fringe e rest)
    (g : grown ≡ with_bits (go e) set) where
  pub turn : Turn (go e) fringe e rest set grown
  turn = record { there = to_T (bit fringe e) l.there; left = o; gains = g }

  pub turn_less : (room : ℕ) → grown ≤ room → 2 * (room - grown) + bit_or rest (bit_xor grown set) < 2 * (room - set) + fringe
  turn_less = falls turn

  pub turn_few : {count : ℕ} → ((k : ℕ) → T (bit fringe k) → k < count) → ((i m : ℕ) → i < count → Memᴰ m (go i) → m < count)
      → (k : ℕ) → T (bit (bit_or rest (bit_xor grown set)) k) → k < count
  turn_few f below k h = elim (came turn k h) [ inl p ↦ f k p | inr r ↦ below e k (lowest_few f l) r ]

module _ {go : ℕ → List ℕ} {count node set fringe : ℕ} (s : Spread go count node set fringe) where
  -- a turn with any subformula of the fringe
  pub spread_with : {e rest grown : ℕ} → Turn (go e) fringe e rest set grown → ((i : ℕ) → i < count → AllBelow count (go i))
      → Spread go count node grown (bit_or rest (bit_xor grown set))
  spread_with {e} u f =
      let below = f e (s.few e u.there) in
      record {
        few = λ k h. elim (came u k h) [ inl p ↦ s.few k p | inr r ↦ below k r ];
        is = λ v n d. closing_turn (λ m r. omega (arith, below m r)) u (s.is v n d);
      }

  -- with the lowest one
  pub spread_turn : {e rest grown : ℕ} → Lowest fringe e → Without fringe e rest → grown ≡ with_bits (go e) set
      → ((i m : ℕ) → i < count → Memᴰ m (go i) → m < count) → Spread go count node grown (bit_or rest (bit_xor grown set))
  spread_turn l o g f = spread_with (turn go set l o g) (λ i h m r. f i m h r)

  pub spread-rest : fringe ≡ 0 → (v : Subset) (l : length v ≡ count) (n : node ≡ word v) → FollowsMoves go (s.is v l n).now
  spread-rest z v l n e m h = (s.is v l n).follows e m h (λ t. subst T (ap (λ (x : ℕ). bit x e) z ∙ no-bit e) t)

pub moves_at-below : {rows : List ℕ} {count : ℕ} → Formed rows count → (choice e : ℕ) → e < count → AllBelow count (moves_at rows choice e)
moves_at-below {rows} {count} f choice e h = moves-below count (operator_at rows e) (bit choice e) (f.fits e h)

pub moves-same : (rows : List ℕ) (count : ℕ) {choice e : ℕ} (w : Subset) → choice ≡ word w → e < count
    → moves_at rows choice e ≡ moves (operator (table_of rows count) e) (has w e)
moves-same rows count {choice} {e} w c h =
    ap (moves (operator_at rows e)) (ap (λ (x : ℕ). bit x e) c ∙ word-bit w e)
    ∙ ap (λ (o : Operator). moves o (has w e))
    (sym (values_at (operator_at rows) 0 count e (Operator.leaf (Leaf.constant false)) h ∙ ap (operator_at rows) (zero-add e)))

-- under the choice w it is inside the saturation
pub closing_inside : (rows : List ℕ) {count choice set fringe : ℕ} {v : Subset} (w : Subset)
    (b : MovesClosing (moves_at rows choice) v set fringe) → length v ≡ count → choice ≡ word w
    → Inside b.now (saturate (table_of rows count) w v)
closing_inside rows {count} {v = v} w b l c =
    let t = table_of rows count in
    let whole = saturate t w v in
    b.least whole (saturate-holds t w v)
    (λ e m h r k.
    saturate-closed t w v (l ∙ sym (table-length rows count)) e m h
    (subst (Memᴰ m) (moves-same rows count w c (omega (arith, has_lt whole e h, saturate-length t w v))) r) k)

pub saturated_rest : {rows : List ℕ} {count choice node set fringe : ℕ} → Spread (moves_at rows choice) count node set fringe → fringe ≡ 0
    → Saturated rows count choice node set
saturated_rest {rows} {count} {choice} {node} {set} s z = record { is = λ w v l c n. go w v l c n }
  where
    go : (w v : Subset) → length v ≡ count → choice ≡ word w → node ≡ word v → set ≡ word (saturate (table_of rows count) w v)
    go w v l c n =
        let t = table_of rows count in
        let b = s.is v l n in
        b.word_is ∙ ap word (inside_both (closing_inside rows w b l c)
        (saturate-least t w b.holds
        (λ e m h r k.
        spread-rest s z v l n e m h
        (subst⁻¹ (Memᴰ m) (moves-same rows count w c (omega (arith, has_lt b.now e h, inside_length b.holds))) r) k)))
