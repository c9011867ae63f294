-- What is written letter by letter from the back is the whole list, with the rest of the buffer as before (`Backward`); so is one letter
-- behind another (`written_on`); and one list behind another is both at once (`over-both`). Assumes nothing.
use Rattle.std.proofs.Common.{◌≡◌, refl, sym, ap, subst, ◌∙◌, List, [], ◌∷◌, ◌++◌, append_assoc, ℕ, zero, suc, ◌+◌, ◌-◌, ◌≤◌, ◌<◌}
use Rattle.std.proofs.Common.{add-one, length, length-append, length-set, set, arith}
use Rattle.base.specs.Spread.{Numbered, Linked}
use Rattle.profile_search.specs.Stored.{record_of, first_of}
use Rattle.profile_search.specs.declared.placed.Store.{Store}
use Rattle.witness.specs.Letters.{labels, plain, node_item, stem_letters, cycle_letters, over, written, LettersFit, WitnessReady}
use Rattle.witness.specs.Letters.{WitnessWritten}
use Rattle.witness.proofs.ChainLaws.{labels-short, labels-plain, labels_at, length_at}

-- nothing written
pub written_none : (from : ℕ) (l : List ℕ) → written from [] l ≡ l
written_none zero l = refl
written_none (suc a) [] = refl
written_none (suc a) (x ∷ l) = ap (λ (m : List ℕ). x ∷ m) (written_none a l)

-- one letter more in front
pub written-more : (a : ℕ) (ws l : List ℕ) (x : ℕ) → a < length l → set (written (suc a) ws l) a x ≡ written a (x ∷ ws) l
written-more a ws [] x h = absurd (omega arith)
written-more zero ws (y ∷ l) x h = refl
written-more (suc a) ws (y ∷ l) x h = ap (λ (m : List ℕ). y ∷ m) (written-more a ws l x (omega arith))

-- one letter more behind
over-on : (ws l : List ℕ) (x : ℕ) → length ws < length l → set (over ws l) (length ws) x ≡ over (ws ++ (x ∷ [])) l
over-on [] [] x h = absurd (omega arith)
over-on [] (y ∷ l) x h = refl
over-on (w ∷ ws) [] x h = absurd (omega arith)
over-on (w ∷ ws) (y ∷ l) x h = ap (λ (m : List ℕ). w ∷ m) (over-on ws l x (omega arith))

pub written_on : (a : ℕ) (ws l : List ℕ) (x : ℕ) → a + length ws < length l
    → set (written a ws l) (a + length ws) x ≡ written a (ws ++ (x ∷ [])) l
written_on a ws [] x h = absurd (omega arith)
written_on zero ws (y ∷ l) x h =
    ap (λ (i : ℕ). set (over ws (y ∷ l)) i x) {x = 0 + length ws} {y = length ws} (omega arith) ∙ over-on ws (y ∷ l) x (omega arith)
written_on (suc a) ws (y ∷ l) x h =
    ap (λ (i : ℕ). set (y ∷ written a ws l) i x) {x = suc a + length ws} {y = suc (a + length ws)} (omega arith)
    ∙ ap (λ (m : List ℕ). y ∷ m) (written_on a ws l x (omega arith))

-- one list behind the other
pub over-both : (xs ys l : List ℕ) → length xs ≤ length l → written (length xs) ys (over xs l) ≡ over (xs ++ ys) l
over-both [] ys l h = refl
over-both (x ∷ xs) ys [] h = absurd (omega arith)
over-both (x ∷ xs) ys (y ∷ l) h = ap (λ (m : List ℕ). x ∷ m) (over-both xs ys l (omega arith))

-- The labels up to item top - 1 are being written from the back, from index `from` on: those up to item at - 1, `left` of them, are to be
-- written.
pub record Backward {K : Type 0} (of : ℕ → Numbered ℕ K) (from top at left : ℕ) (before after : List ℕ) : Type 0 where
  pub low : at ≤ top
  pub same_length : length after ≡ length before
  pub rest : List ℕ
  pub whole : labels of top ≡ labels of at ++ rest
  pub left_is : left ≡ length (labels of at)
  pub now-is : after ≡ written (from + left) rest before

-- a turn: there is item i to go on from, and room for all letters
pub record Turn {K : Type 0} (of : ℕ → Numbered ℕ K) (from top i left : ℕ) (before after : List ℕ) : Type 0 where
  pub linked : Linked of top
  pub room : from + length (labels of top) ≤ length before
  pub back : Backward of from top (suc i) left before after

pub turning : {K : Type 0} {of : ℕ → Numbered ℕ K} {from top n k left : ℕ} {before after : List ℕ} → Linked of top
    → LettersFit (labels of top) n from (length before) → 0 < k → Backward of from top k left before after
    → Turn of from top (k - 1) left before after
turning {of = of} {from} {top} {k = k} {left = left} {before = before} {after = after} linked fits some back = record {
  linked = linked;
  room = omega (arith, fits.count_is, fits.room);
  back = subst (λ (j : ℕ). Backward of from top j left before after) {x = k} {y = suc (k - 1)} (omega arith) back;
}

module _ {K : Type 0} {of : ℕ → Numbered ℕ K} {from top i left : ℕ} {before after : List ℕ}
    (t : Turn of from top i left before after) where
  abbrev b : Backward of from top (suc i) left before after
  b = t.back

  pub turn_low : i < top
  turn_low = omega (arith, b.low)

  pub turn_some : 0 < left
  turn_some = omega (arith, length_at of t.linked i turn_low, b.left_is)

  turn_room : from + left ≤ length before
  turn_room = omega (arith, ap length b.whole, length-append (labels of (suc i)) b.rest, b.left_is, t.room)

  -- the letter before those written
  stored : (x : ℕ) → set after (from + (left - 1)) x ≡ written (from + (left - 1)) (x ∷ b.rest) before
  stored x =
      let j = from + (left - 1) in
      ap (λ (m : List ℕ). set m j x) b.now-is
      ∙ ap (λ (k : ℕ). set (written k b.rest before) j x) {x = from + left} {y = suc j} (omega (arith, turn_some))
      ∙ written-more j b.rest before x (omega (arith, turn_room, turn_some))

  -- the parent's labels are to be written, where the label is stored in front of what is written
  pub turn_next : {j x : ℕ} (up : ℕ) {after' : List ℕ} → j ≡ from + (left - 1) → up ≡ (of i).parent → x ≡ (of i).label
      → after' ≡ set after j x → Backward of from top up (left - 1) before after'
  turn_next {j} {x} up {after'} p e q s =
      record {
        low = omega (arith, e, t.linked i turn_low, turn_low);
        same_length = ap length s ∙ length-set after j x ∙ b.same_length;
        rest = x ∷ b.rest;
        whole =
            b.whole ∙ ap (λ (l : List ℕ). l ++ b.rest) (labels_at of t.linked i turn_low)
            ∙ append_assoc (labels of (of i).parent) ((of i).label ∷ []) b.rest
            ∙ ap (λ (y : ℕ). labels of (of i).parent ++ (y ∷ b.rest)) (sym q)
            ∙ ap (λ (k : ℕ). labels of k ++ (x ∷ b.rest)) (sym e);
        left_is = omega (arith, length_at of t.linked i turn_low, b.left_is, ap (λ (k : ℕ). length (labels of k)) e);
        now-is = s ∙ ap (λ (k : ℕ). set after k x) p ∙ stored x;
      }

-- A stem of which n letters are counted, to the first node of profile p, and a cycle of m letters behind it.
module _ {o : List ℕ} {s : Store} {area : List ℕ} {p len j n m : ℕ} (ready : WitnessReady o s area p len)
    (first-is : j ≡ first_of s area p)
    (stem_is : n ≡ length (stem_letters o j)) (count_is : m ≡ length (labels (plain (record_of s area)) (p + 1))) where
  -- the code follows the items with their numbers for vertices
  along_cycle : labels (plain (record_of s area)) (p + 1) ≡ cycle_letters s area p
  along_cycle = ap (labels (plain (record_of s area))) (add-one p) ∙ labels-plain (record_of s area) (suc p)

  cycle_is : m ≡ length (cycle_letters s area p)
  cycle_is = count_is ∙ ap length along_cycle

  stem-low : n ≤ first_of s area p
  stem-low = omega (arith, labels-short (node_item o) j)

  cycle-low : m ≤ suc p
  cycle-low = omega (arith, cycle_is, labels-short (record_of s area) (suc p))

  pub stem_fits : LettersFit (stem_letters o j) n 0 len
  stem_fits = record { count_is = stem_is; room = omega (arith, stem-low, ready.room) }

  pub cycle_fits : {len' : ℕ} → len' ≡ len → LettersFit (labels (plain (record_of s area)) (p + 1)) m n len'
  cycle_fits e = record { count_is = count_is; room = omega (arith, stem-low, cycle-low, ready.room) }

  -- Theorem: the stem and then the cycle, written, are the witness of profile p.
  pub all-written : {before mid after : List ℕ} → len ≡ length before → mid ≡ written 0 (stem_letters o j) before
      → after ≡ written n (labels (plain (record_of s area)) (p + 1)) mid
      → WitnessWritten o s area p before after (record { stem = n; cycle = m })
  all-written {before} {mid} {after} l a b =
      record {
        stem_is = stem_is ∙ ap (λ (k : ℕ). length (stem_letters o k)) first-is;
        cycle_is = cycle_is;
        buffer_is =
            b ∙ ap (λ (ws : List ℕ). written n ws mid) along_cycle ∙ ap (λ (k : ℕ). written k cycle mid) stem_is
            ∙ ap (written (length stem) cycle) a
            ∙ over-both stem cycle before (omega (arith, stem_is, stem-low, ready.room))
            ∙ ap (λ (k : ℕ). over (stem_letters o k ++ cycle) before) first-is;
      }
    where
      stem : List ℕ
      stem = stem_letters o j

      cycle : List ℕ
      cycle = cycle_letters s area p
