-- The core of a node: what every saturation of it has in common. A turn of the loop leaves an or for later, and follows the moves of any
-- other operator, which no choice settles (`closing_turn`). At the end only ors wait (`closing_rest`), and from there a saturation can go
-- on under any choice. What it gathers is what the core gathers and what the rest does (`gathered_on`); if the core's set cannot be, no
-- saturation can (`core_dead`). Assumes nothing.
use Rattle.std.proofs.Common.{◌≡◌, refl, sym, ap, subst, ◌∙◌, Bool, true, false, cond, ◌&&◌, ◌||◌, List, [], ℕ, ◌+◌, ◌-◌, ◌*◌, ◌%◌, ◌^◌}
use Rattle.std.proofs.Common.{◌≤◌, ◌<◌, arith, bit_or, bit_xor, pow_pos, T, eqb, length, eqb-true}
use Rattle.std.proofs.Math.Path.{subst⁻¹}
use lib.Bits.{or_zero_r, or_zero_l}
use Rattle.base.specs.Bits.{bit, word, Lowest, Without}
use Rattle.base.specs.Sets.{Inside}
use Rattle.base.proofs.BoolLaws.{to_T}
use Rattle.base.proofs.BitLaws.{bit-or, set_on}
use Rattle.base.proofs.Inside.{inside_length}
use Rattle.base.proofs.LowestLaws.{without_of}
use Rattle.base.proofs.WordLaws.{same_bits, no-bit}
use Rattle.letters.specs.Requirements.{clash}
use Rattle.formula.specs.Table.{Operator, Table, is_or}
use Rattle.formula.specs.Rows.{operator_at}
use Rattle.tableau.specs.Saturation.{Subset, moves, saturate}
use Rattle.tableau.specs.Transition.{operators_in, choice_of, within, by_word}
use Rattle.tableau.specs.Inner.{table_of, Formed, with_bits, Saturated, LeadsNowhere, Required, RequiredBy}
use Rattle.tableau.specs.Fringe.{Spread, moves_at, WaitsMore, MovesMore, ClosesBy, ClosingOf, Joined}
use Rattle.tableau.specs.declared.Closing.{Closing}
use Rattle.tableau.specs.declared.Gathered.{Gathered}
use Rattle.tableau.proofs.SaturationLaws.{saturate-length}
use Rattle.tableau.proofs.TransitionLaws.{transition_by}
use Rattle.tableau.proofs.FringeLaws.{Turn, falls, spread-start, spread_with, moves_at-below, closing_inside}
use Rattle.tableau.proofs.PartLaws.{apart, apart-length, apart-word, required_parts, hopeless}
use Rattle.tableau.proofs.TargetLaws.{RequiredOf}

-- no choice settles the moves of an operator that is no or
moves-settled : (o : Operator) → is_or o ≡ false → (p q : Bool) → moves o p ≡ moves o q
moves-settled (Operator.leaf l) e p q = refl
moves-settled (Operator.variable m) e p q = refl
moves-settled (Operator.pair true l r) e p q = let z : ◌≡◌ {A = ℕ} 0 1 = cc in absurd (omega arith)
moves-settled (Operator.pair false l r) e p q = refl
moves-settled (Operator.next g) e p q = refl
moves-settled (Operator.fix g l) e p q = refl

-- the code asks for the moves of a choice that takes nothing
pub moves-none : (o : Operator) (e set : ℕ) {grown : ℕ} → grown ≡ with_bits (moves o (bit 0 e)) set → grown ≡ with_bits (moves o false) set
moves-none o e set g = g ∙ ap (λ (b : Bool). with_bits (moves o b) set) (no-bit e)

pub closing_start : (rows : List ℕ) (count node : ℕ) {fringe : ℕ} → fringe ≡ node % 2 ^ count
    → ClosingOf rows count node (record { set = node; fringe = fringe; waiting = 0 })
closing_start rows count node {fringe} q =
    record {
      grows = λ choice.
          subst⁻¹ (Spread (moves_at rows choice) count node node) (or_zero_r fringe) (spread-start (moves_at rows choice) node q);
      ors_wait = λ k h. absurd (subst T (no-bit k) h);
    }

module _ {rows : List ℕ} {count node e : ℕ} {had : Closing} (c : ClosingOf rows count node had) (l : Lowest had.fringe e) where
  there : T (bit had.fringe e)
  there = to_T (bit had.fringe e) l.there

  abbrev both : ℕ
  both = bit_or had.fringe had.waiting

  -- an or goes from the one to the other
  module _ {r : Closing} (w : WaitsMore e had r) where
    after : (k : ℕ) → bit (bit_or r.fringe r.waiting) k
        ≡ (cond (eqb k e) false (bit had.fringe k) || cond (eqb k e) true (bit had.waiting k))
    after k =
        bit-or r.fringe r.waiting k
        ∙ ap (λ (b : Bool). b || bit r.waiting k) (w.left.bits k)
        ∙ ap (λ (b : Bool). cond (eqb k e) false (bit had.fringe k) || b)
        (ap (λ (x : ℕ). bit x k) w.waits ∙ set_on had.waiting e k)

    same-both : both ≡ bit_or r.fringe r.waiting
    same-both =
        same_bits both (bit_or r.fringe r.waiting)
        (λ k.
        bit-or had.fringe had.waiting k
        ∙ by (eqb k e) (bit had.waiting k) (λ q. ap (bit had.fringe) (eqb-true k e q) ∙ l.there) ∙ sym (after k))
      where
        by : (d : Bool) {x : Bool} (y : Bool) → (d ≡ true → x ≡ true) → (x || y) ≡ (cond d false x || cond d true y)
        by true y f = ap (λ (b : Bool). b || y) (f refl)
        by false y f = refl

    closing_waits : is_or (operator_at rows e) ≡ true → ClosingOf rows count node r
    closing_waits o =
        record {
          grows = λ choice.
              subst (λ (x : ℕ × ℕ). Spread (moves_at rows choice) count node x.0 x.1) (λ i. (sym w.set_is i, same-both i))
              (c.grows choice);
          ors_wait = λ k h. waits k (eqb k e) refl (subst T (ap (λ (x : ℕ). bit x k) w.waits ∙ set_on had.waiting e k) h);
        }
      where
        waits : (k : ℕ) (d : Bool) → eqb k e ≡ d → T (cond d true (bit had.waiting k)) → is_or (operator_at rows k) ≡ true
        waits k true q h = ap (λ (j : ℕ). is_or (operator_at rows j)) (eqb-true k e q) ∙ o
        waits k false q h = c.ors_wait k h

    waits-less : (room : ℕ) → 2 * (room - r.set) + r.fringe < 2 * (room - had.set) + had.fringe
    waits-less room = omega (arith, w.left.less, w.set_is, pow_pos e)

  -- the moves of another operator are followed
  module _ {r : Closing} (m : MovesMore (moves (operator_at rows e) false) e had r) where
    moves-less : (room : ℕ) → r.set ≤ room → 2 * (room - r.set) + r.fringe < 2 * (room - had.set) + had.fringe
    moves-less room h =
        let u : Turn (moves (operator_at rows e) false) had.fringe e m.rest had.set r.set =
        record { there = there; left = m.left; gains = m.gains } in
        omega (arith, m.fringe_is, falls u room h)

    module _ (o : is_or (operator_at rows e) ≡ false) where
      not_waiting : bit had.waiting e ≡ false
      not_waiting = by (bit had.waiting e) refl
        where
          by : (b : Bool) → bit had.waiting e ≡ b → b ≡ false
          by false q = refl
          by true q =
              let h = sym (c.ors_wait e (to_T (bit had.waiting e) q)) ∙ o in
              let z : ◌≡◌ {A = ℕ} 0 1 = cc in
              absurd (omega arith)

      abbrev rest : ℕ
      rest = bit_or m.rest had.waiting

      there-both : bit both e ≡ true
      there-both = bit-or had.fringe had.waiting e ∙ ap (λ (b : Bool). b || bit had.waiting e) l.there

      without : Without both e rest
      without = subst (Without both e) (same_bits (bit_xor both (2 ^ e)) rest same) (without_of both e there-both)
        where
          by : (d x : Bool) {y : Bool} → (d ≡ true → y ≡ false) → cond d false (x || y) ≡ (cond d false x || y)
          by true x f = sym (f refl)
          by false x f = refl

          same : (k : ℕ) → bit (bit_xor both (2 ^ e)) k ≡ bit rest k
          same k =
              (without_of both e there-both).bits k
              ∙ ap (cond (eqb k e) false) (bit-or had.fringe had.waiting k)
              ∙ by (eqb k e) (bit had.fringe k) (λ q. ap (bit had.waiting) (eqb-true k e q) ∙ not_waiting)
              ∙ ap (λ (b : Bool). b || bit had.waiting k) (sym (m.left.bits k))
              ∙ sym (bit-or m.rest had.waiting k)

      -- the next fringe with what waits
      next_both : bit_or rest (bit_xor r.set had.set) ≡ bit_or r.fringe r.waiting
      next_both =
          same_bits _ _
          (λ k.
          bit-or rest new k ∙ ap (λ (b : Bool). b || bit new k) (bit-or m.rest had.waiting k)
          ∙ swap (bit m.rest k) (bit had.waiting k) (bit new k)
          ∙ sym (bit-or r.fringe r.waiting k
          ∙ ap (λ (x : ℕ). bit x k || bit r.waiting k) m.fringe_is
          ∙ ap (λ (b : Bool). b || bit r.waiting k) (bit-or m.rest new k)
          ∙ ap (λ (x : ℕ). (bit m.rest k || bit new k) || bit x k) m.waits))
        where
          new : ℕ
          new = bit_xor r.set had.set

          swap : (x y z : Bool) → ((x || y) || z) ≡ ((x || z) || y)
          swap true y z = refl
          swap false true true = refl
          swap false true false = refl
          swap false false true = refl
          swap false false false = refl

      closing_moves : Formed rows count → ClosingOf rows count node r
      closing_moves f =
          record {
            grows = λ choice.
                subst (Spread (moves_at rows choice) count node r.set) next_both
                (spread_with (c.grows choice) (turn choice) (moves_at-below f choice));
            ors_wait = λ k h. c.ors_wait k (subst (λ (x : ℕ). T (bit x k)) m.waits h);
          }
        where
          turn : (choice : ℕ) → Turn (moves_at rows choice e) both e rest had.set r.set
          turn choice =
              record {
                there = to_T (bit both e) there-both;
                left = without;
                gains = m.gains
                    ∙ ap (λ (ms : List ℕ). with_bits ms had.set) (moves-settled (operator_at rows e) o false (bit choice e));
              }

-- a turn
module _ {rows : List ℕ} {count node e : ℕ} {had : Closing} (c : ClosingOf rows count node had) (l : Lowest had.fringe e) where
  pub closing_below : e < count
  closing_below =
      (c.grows 0).few e (to_T (bit (bit_or had.fringe had.waiting) e)
      (bit-or had.fringe had.waiting e ∙ ap (λ (b : Bool). b || bit had.waiting e) l.there))

  pub closing_turn : {r : Closing} → Formed rows count → ClosesBy (operator_at rows e) e had r → ClosingOf rows count node r
  closing_turn {r} f t = by (is_or (operator_at rows e)) refl
    where
      by : (b : Bool) → is_or (operator_at rows e) ≡ b → ClosingOf rows count node r
      by true o = closing_waits c l (t.or_waits o) o
      by false o = closing_moves c l (t.other_moves o) o f

  pub closing_less : {r : Closing} → ClosesBy (operator_at rows e) e had r → (room : ℕ) → r.set ≤ room
      → 2 * (room - r.set) + r.fringe < 2 * (room - had.set) + had.fringe
  closing_less {r} t room h = by (is_or (operator_at rows e)) refl
    where
      by : (b : Bool) → is_or (operator_at rows e) ≡ b → 2 * (room - r.set) + r.fringe < 2 * (room - had.set) + had.fringe
      by true o = waits-less c l (t.or_waits o) room
      by false o = moves-less c l (t.other_moves o) room h

-- at the end only ors wait
pub closing_rest : {rows : List ℕ} {count node : ℕ} {c : Closing} → ClosingOf rows count node c → c.fringe ≡ 0
    → (choice : ℕ) → Spread (moves_at rows choice) count node c.set c.waiting
closing_rest {rows} {count} {node} {c} x z choice =
    subst (Spread (moves_at rows choice) count node c.set) (ap (λ (f : ℕ). bit_or f c.waiting) z ∙ or_zero_l c.waiting)
    (x.grows choice)

-- A core and a saturation of its node.
module _ {rows : List ℕ} {count : ℕ} {node set fringe : ℕ} (s : (choice : ℕ) → Spread (moves_at rows choice) count node set fringe)
    {g : Gathered} (q : RequiredBy rows count set g) where
  abbrev t : Table
  t = table_of rows count

  -- the core inside it
  module _ (w v : Subset) (l : length v ≡ count) (n : node ≡ word v) where
    abbrev core : Subset
    core = ((s (word w)).is v l n).now

    inside : Inside core (saturate t w v)
    inside = closing_inside rows w ((s (word w)).is v l n) l refl

    core-length : length core ≡ count
    core-length = inside_length inside ∙ saturate-length t w v ∙ l

    core-requires : Required (operators_in t core) g
    core-requires = q.is core core-length ((s (word w)).is v l n).word_is

  -- Theorem: what the core gathers, with what the rest of the saturation does, is what the saturation gathers.
  pub gathered_on : {choice whole : ℕ} {h r : Gathered} → Saturated rows count choice node whole
      → RequiredBy rows count (bit_xor whole set) h → Joined g h r → RequiredOf rows count choice node r
  gathered_on {choice} {whole} {h} {r} st rq j = record { is = go }
    where
      go : (w v : Subset) → length v ≡ count → choice ≡ word w → node ≡ word v → Required (operators_in t (saturate t w v)) r
      go w v l c n =
          required_parts t (inside w v l n) (core-requires w v l n)
          (rq.is (apart (saturate t w v) (core w v l n)) (apart-length (inside w v l n) ∙ saturate-length t w v ∙ l)
          ((λ i. bit_xor (st.is w v l c n i) (((s (word w)).is v l n).word_is i)) ∙ apart-word (inside w v l n)))
          j

  -- Theorem: if the core holds false or clashes, the node has no transition.
  pub core_dead : (g.falsum || clash g.required) ≡ true → (x : ℕ) → LeadsNowhere rows count node x
  core_dead e x = record { is = go }
    where
      w : Subset
      w = choice_of t x

      go : (v : Subset) → length v ≡ count → node ≡ word v → by_word t x v ≡ []
      go v l n =
          let r = core-requires w v l n in
          let dead = hopeless t (inside w v l n)
          (sym (λ i. r.falsum_is i || clash (r.required_is i)) ∙ e) in
          transition_by t w (saturate t w v) false (last (within w (saturate t w v)) dead)
        where
          last : (b : Bool) {c : Bool} → c ≡ false → (b && c) ≡ false
          last true q = q
          last false q = refl
