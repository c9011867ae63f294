-- Sets of subformulas as words: to add members is to put bits in (`word-add`), and the tests of the definitions are tests of words
-- (`within_word`, `same_word`). Each is shown bit by bit, for bit k of a set's word is whether k is in the set. Assumes
-- nothing.
use Rattle.std.proofs.Common.{◌≡◌, refl, sym, ap, subst, ◌∙◌, Bool, true, false, cond, ◌||◌, ◌&&◌, List, [], ◌∷◌, ◌++◌, map, inl, inr, ℕ}
use Rattle.std.proofs.Common.{zero, suc, ◌^◌, ◌<◌, arith, T, eqb, eqb→eq, bit_and, bit_or, length, get_or, set, length-set, eq-eqb}
use Rattle.std.proofs.Math.Bool.{or-true, or-false}
use Rattle.std.proofs.Math.Dec.{eqb-zero-suc, eqb-suc-zero, eqb-suc-suc}
use Rattle.std.proofs.Math.Decide.{dec_lt}
use mathlib.Core.List.{Memᴰ}
use mathlib.Core.List.Memᴰ
use Rattle.base.specs.Lists.{range, member}
use Rattle.base.specs.Bits.{bit, word}
use Rattle.base.proofs.BoolLaws.{of_T, to_T}
use Rattle.base.proofs.TestLaws.{not_of_T, same_truth}
use Rattle.base.proofs.BitLaws.{bit-and, set_on}
use Rattle.base.proofs.MemberLaws.{member_of}
use Rattle.base.proofs.WordLaws.{no-bit, word-bit, word_inj, same_bits, word_set, values_bit, values_past}
use Rattle.tableau.specs.Saturation.{Subset, has, same_subset, add}
use Rattle.tableau.specs.Transition.{within}
use Rattle.tableau.specs.Inner.{with_bits}
use Rattle.tableau.proofs.SaturationLaws.{subset_sound, subset_refl}
use Rattle.tableau.proofs.TransitionLaws.{within_of, within_in}

-- all numbers of a list are below n
abbrev pub AllBelow : ℕ → List ℕ → Type 0
AllBelow n ms = (m : ℕ) → Memᴰ m ms → m < n

pub below_none : (n : ℕ) → AllBelow n []
below_none n m r = absurd (Memᴰ.not-nil r)

pub below_cons : {n x : ℕ} {ms : List ℕ} → x < n → AllBelow n ms → AllBelow n (x ∷ ms)
below_cons {n} h f m r = elim (Memᴰ.cases_cons r) [ inl e ↦ omega arith | inr q ↦ f m q ]

pub below_one : (n x : ℕ) → x < n → AllBelow n (x ∷ [])
below_one n x h = below_cons h (below_none n)

-- bits put in one after another
pub with_bits-append : (ms ns : List ℕ) (x : ℕ) → with_bits (ms ++ ns) x ≡ with_bits ns (with_bits ms x)
with_bits-append [] ns x = refl
with_bits-append (m ∷ ms) ns x = with_bits-append ms ns (bit_or x (2 ^ m))

pub with_bits-bit : (ms : List ℕ) (x k : ℕ) → bit (with_bits ms x) k ≡ (member k ms || bit x k)
with_bits-bit [] x k = refl
with_bits-bit (m ∷ ms) x k =
    with_bits-bit ms (bit_or x (2 ^ m)) k ∙ ap (λ (b : Bool). member k ms || b) (set_on x m k) ∙ turn (eqb k m) (member k ms) (bit x k)
  where
    turn : (p q r : Bool) → (q || cond p true r) ≡ ((p || q) || r)
    turn true q r = or-true q
    turn false q r = refl

-- the word whose bits are a list's numbers
pub bits_of : (ms : List ℕ) (k : ℕ) → bit (with_bits ms 0) k ≡ member k ms
bits_of ms k = with_bits-bit ms 0 k ∙ ap (λ (b : Bool). member k ms || b) (no-bit k) ∙ or-false (member k ms)

-- what is added to a set is put into its word
pub word-add : (ms : List ℕ) (v : Subset) → AllBelow (length v) ms → word (add ms v) ≡ with_bits ms (word v)
word-add [] v h = refl
word-add (m ∷ ms) v h =
    word-add ms (set v m true) (λ k r. subst (λ (n : ℕ). k < n) (sym (length-set v m true)) (h k (Memᴰ.tail r)))
    ∙ ap (with_bits ms) (word_set v m (h m (Memᴰ.head refl)))

-- a set with one Bool more at its end
pub word_more : (v : Subset) (b : Bool) (r : ℕ) → ((k : ℕ) → bit r k ≡ cond (eqb k (length v)) b (bit (word v) k))
    → r ≡ word (v ++ (b ∷ []))
word_more v b r h =
    same_bits r (word (v ++ (b ∷ [])))
    (λ k. h k ∙ ap (λ (c : Bool). cond (eqb k (length v)) b c) (word-bit v k) ∙ sym (word-bit (v ++ (b ∷ [])) k ∙ last v k))
  where
    last : (v : Subset) (k : ℕ) → get_or (v ++ (b ∷ [])) k false ≡ cond (eqb k (length v)) b (get_or v k false)
    last [] zero = refl
    last [] (suc k) = rw (eqb-suc-zero k)
    last (c ∷ v) zero = rw (eqb-zero-suc (length v))
    last (c ∷ v) (suc k) = rw (eqb-suc-suc k (length v)) (last v k)

-- the test of two sets
pub same_word : (v u : Subset) → length v ≡ length u → eqb (word v) (word u) ≡ same_subset v u
same_word v u l =
    same_truth (eqb (word v) (word u)) (same_subset v u)
    (λ h. subst (λ (x : Subset). T (same_subset v x)) (word_inj v u l (eqb→eq (word v) (word u) h)) (subset_refl v))
    (λ h. to_T (eqb (word v) (word u)) (eq-eqb (word v) (word u) (ap word (subset_sound v u h))))

and_words : (w v : Subset) (k : ℕ) → bit (bit_and (word w) (word v)) k ≡ (has w k && has v k)
and_words w v k = bit-and (word w) (word v) k ∙ ap (λ (b : Bool). b && bit (word v) k) (word-bit w k)
    ∙ ap (λ (b : Bool). has w k && b) (word-bit v k)

pub within_word : (w v : Subset) → within w v ≡ eqb (bit_and (word w) (word v)) (word w)
within_word w v =
    same_truth (within w v) (eqb (bit_and (word w) (word v)) (word w))
    (λ h. to_T (eqb (bit_and (word w) (word v)) (word w))
    (eq-eqb (bit_and (word w) (word v)) (word w)
    (same_bits (bit_and (word w) (word v)) (word w)
    (λ k. and_words w v k ∙ less (has w k) (has v k) (within_of w v h k) ∙ sym (word-bit w k)))))
    (λ h. within_in w v
    (λ k p. both (has w k) (has v k)
    (sym (and_words w v k) ∙ ap (λ (x : ℕ). bit x k) (eqb→eq (bit_and (word w) (word v)) (word w) h) ∙ word-bit w k) p))
  where
    less : (a b : Bool) → (T a → T b) → (a && b) ≡ a
    less true b f = of_T b (f tt)
    less false b f = refl

    both : (a b : Bool) → (a && b) ≡ a → T a → T b
    both true b e h = to_T b e
    both false b e h = absurd h

-- numbers below n, as the word of n Bools
pub members_word : (n : ℕ) (ms : List ℕ) → AllBelow n ms → with_bits ms 0 ≡ word (map (λ j. member j ms) (range 0 n))
members_word n ms h =
    same_bits (with_bits ms 0) (word (map (λ j. member j ms) (range 0 n))) (λ k. bits_of ms k ∙ sym (by k (dec_lt k n)))
  where
    by : (k : ℕ) → Dec (k < n) → bit (word (map (λ j. member j ms) (range 0 n))) k ≡ member k ms
    by k (yes l) = values_bit (λ j. member j ms) n k l
    by k (no l) =
        values_past (λ j. member j ms) n k (omega arith) ∙ sym (not_of_T (member k ms) (λ t. l (h k (member_of k ms t))))
