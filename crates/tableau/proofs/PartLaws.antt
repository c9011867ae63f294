-- A set in two parts, one inside it and the rest: whatever is asked of its operators is asked of those of the one or of the other
-- (`any_parts`). So what is gathered of both together is what is gathered of the set (`required_parts`), and a set around one that can
-- give no transition can give none (`hopeless`). Assumes nothing.
use Rattle.std.proofs.Common.{◌≡◌, refl, sym, ap, subst, ◌∙◌, Bool, true, false, cond, not, ◌&&◌, ◌||◌, inl, inr, List, [], ◌∷◌, ℕ, zero}
use Rattle.std.proofs.Common.{suc, ◌<◌, arith, bit_or, bit_xor, T, eqb, length}
use Rattle.std.proofs.Math.Bool.{or-true}
use Rattle.std.proofs.Math.Decide.{dec_lt}
use Rattle.std.proofs.Math.Path.{subst⁻¹}
use Rattle.base.specs.Lists.{flat_map, any, member}
use Rattle.base.specs.Bits.{bit, word}
use Rattle.base.specs.Sets.{Below, Inside}
use Rattle.base.proofs.AppendLaws.{any_append}
use Rattle.base.proofs.BitLaws.{bit-or, bit-xor}
use Rattle.base.proofs.BoolLaws.{to_T, of_T, or_left, or_cases}
use Rattle.base.proofs.Inside.{below_true}
use Rattle.base.proofs.WordLaws.{word-bit, same_bits}
use Rattle.letters.specs.Alphabet.{previous_scale, current_scale}
use Rattle.letters.specs.Requirements.{clash}
use Rattle.letters.proofs.LetterLaws.{Clash, clash_of, clash_in}
use Rattle.formula.specs.Table.{Operator, Table}
use Rattle.tableau.specs.Saturation.{Subset, has}
use Rattle.tableau.specs.Transition.{operators_in, requires, is_false, required_word, requirement, possible, next_of}
use Rattle.tableau.specs.Inner.{with_bits, Required}
use Rattle.tableau.specs.Fringe.{Joined}
use Rattle.tableau.specs.declared.Gathered.{Gathered}
use Rattle.tableau.proofs.RequirementLaws.{required-bit, required-past}
use Rattle.tableau.proofs.WordSets.{bits_of}

-- the rest of a set, without a part of it
abbrev pub apart : Subset → Subset → Subset
apart [] c = []
apart (b ∷ s) [] = b ∷ apart s []
apart (b ∷ s) (a ∷ c) = cond b (not a) a ∷ apart s c

pub apart-length : {c s : Subset} → Inside c s → length (apart s c) ≡ length s
apart-length Inside.none = refl
apart-length (Inside.put b i) = ap suc (apart-length i)

apart-has : {c s : Subset} → Inside c s → (k : ℕ) → has (apart s c) k ≡ cond (has s k) (not (has c k)) (has c k)
apart-has Inside.none k = refl
apart-has (Inside.put b i) zero = refl
apart-has (Inside.put b i) (suc k) = apart-has i k

pub apart-word : {c s : Subset} → Inside c s → bit_xor (word s) (word c) ≡ word (apart s c)
apart-word {c} {s} i =
    same_bits (bit_xor (word s) (word c)) (word (apart s c))
    (λ k.
    bit-xor (word s) (word c) k ∙ (λ j. cond (word-bit s k j) (not (word-bit c k j)) (word-bit c k j))
    ∙ sym (word-bit (apart s c) k ∙ apart-has i k))

-- a test of the operators of a set
pub any_parts : (q : Operator → Bool) (t : Table) {c s : Subset} → Inside c s
    → any q (operators_in t s) ≡ (any q (operators_in t c) || any q (operators_in t (apart s c)))
any_parts q [] Inside.none = refl
any_parts q [] (Inside.put b i) = refl
any_parts q (o ∷ t) Inside.none = refl
any_parts q (o ∷ t) (Inside.put {a} {b} {s = c} {t = s} l i) = by a b l (any_parts q t i)
  where
    here : (x : Bool) {y : Bool} (z u : Bool) → y ≡ (z || u) → (x || y) ≡ ((x || z) || u)
    here true z u e = refl
    here false z u e = e

    there : (x : Bool) {y : Bool} (z u : Bool) → y ≡ (z || u) → (x || y) ≡ (z || (x || u))
    there true z u e = sym (or-true z)
    there false z u e = e

    by : (a b : Bool) → Below a b → any q (operators_in t s) ≡ (any q (operators_in t c) || any q (operators_in t (apart s c)))
        → any q (operators_in (o ∷ t) (b ∷ s))
        ≡ (any q (operators_in (o ∷ t) (a ∷ c)) || any q (operators_in (o ∷ t) (cond b (not a) a ∷ apart s c)))
    by true true l e = here (q o) (any q (operators_in t c)) (any q (operators_in t (apart s c))) e
    by false false l e = e
    by false true l e = there (q o) (any q (operators_in t c)) (any q (operators_in t (apart s c))) e
    by true false l e = absurd (subst T (sym (below_true l refl)) tt)

-- numbers that operators have
any_flat : {A : Type 0} (q : ℕ → Bool) (f : A → List ℕ) (xs : List A) → any q (flat_map f xs) ≡ any (λ x. any q (f x)) xs
any_flat q f [] = refl
any_flat q f (x ∷ xs) = any_append q (f x) (flat_map f xs) ∙ ap (λ (b : Bool). any q (f x) || b) (any_flat q f xs)

module _ (t : Table) {c s : Subset} (i : Inside c s) where
  abbrev all : List Operator
  all = operators_in t s

  abbrev some : List Operator
  some = operators_in t c

  abbrev others : List Operator
  others = operators_in t (apart s c)

  member_parts : (f : Operator → List ℕ) (k : ℕ) → member k (flat_map f all) ≡ (member k (flat_map f some) || member k (flat_map f others))
  member_parts f k =
      any_flat (eqb k) f all ∙ any_parts (λ o. member k (f o)) t i
      ∙ sym (λ j. any_flat (eqb k) f some j || any_flat (eqb k) f others j)

  word_parts : (p : Bool) → required_word p all ≡ bit_or (required_word p some) (required_word p others)
  word_parts p =
      same_bits (required_word p all) (bit_or (required_word p some) (required_word p others))
      (λ k. by k (dec_lt k 16) ∙ sym (bit-or (required_word p some) (required_word p others) k))
    where
      by : (k : ℕ) → Dec (k < 16) → bit (required_word p all) k ≡ (bit (required_word p some) k || bit (required_word p others) k)
      by k (yes h) =
          required-bit p all k h ∙ member_parts (requires p) k
          ∙ sym (λ j. required-bit p some k h j || required-bit p others k h j)
      by k (no h) =
          required-past p all k (omega arith)
          ∙ sym (λ j. required-past p some k (omega arith) j || required-past p others k (omega arith) j)

  to_parts : with_bits (flat_map next_of all) 0 ≡ bit_or (with_bits (flat_map next_of some) 0) (with_bits (flat_map next_of others) 0)
  to_parts =
      same_bits _ _
      (λ k.
      bits_of (flat_map next_of all) k ∙ member_parts next_of k
      ∙ sym (bit-or (with_bits (flat_map next_of some) 0) (with_bits (flat_map next_of others) 0) k
      ∙ (λ j. bits_of (flat_map next_of some) k j || bits_of (flat_map next_of others) k j)))

  -- Theorem: what is gathered of both parts is gathered of the set.
  pub required_parts : {g h r : Gathered} → Required some g → Required others h → Joined g h r → Required all r
  required_parts g h j =
      record {
        required_is = λ k.
            record {
              present = (j.present_is ∙ (λ n. bit_or (g.required_is n).present (h.required_is n).present) ∙ sym (word_parts true)) k;
              absent = (j.absent_is ∙ (λ n. bit_or (g.required_is n).absent (h.required_is n).absent) ∙ sym (word_parts false)) k;
            };
        falsum_is = j.falsum_is ∙ (λ n. g.falsum_is n || h.falsum_is n) ∙ sym (any_parts is_false t i);
        to_is = j.to_is ∙ (λ n. bit_or (g.to_is n) (h.to_is n)) ∙ sym to_parts;
      }

  more-bits : (p : Bool) (k : ℕ) → T (bit (required_word p some) k) → T (bit (required_word p all) k)
  more-bits p k h =
      subst⁻¹ T (ap (λ (x : ℕ). bit x k) (word_parts p) ∙ bit-or (required_word p some) (required_word p others) k)
      (or_left (bit (required_word p some) k) (bit (required_word p others) k) h)

  more-clash : Clash (requirement some) → Clash (requirement all)
  more-clash (Clash.both_ways j h p a) = Clash.both_ways j h (more-bits true j p) (more-bits false j a)
  more-clash (Clash.both-present p c) = Clash.both-present (more-bits true previous_scale p) (more-bits true current_scale c)
  more-clash (Clash.both_absent p c) = Clash.both_absent (more-bits false previous_scale p) (more-bits false current_scale c)

  -- Theorem: a part that holds false or clashes is enough.
  pub hopeless : (any is_false some || clash (requirement some)) ≡ true → possible all ≡ false
  unfolding possible
  hopeless e =
      elim (or_cases (any is_false some) (clash (requirement some)) (to_T _ e)) [
        | inl h ↦
            ap (λ (b : Bool). not b && not (clash (requirement all)))
            (any_parts is_false t i ∙ of_T _ (or_left (any is_false some) (any is_false others) h))
        | inr h ↦
            last (any is_false all)
            (of_T (clash (requirement all)) (clash_in (requirement all) (more-clash (clash_of (requirement some) h))))
      ]
    where
      last : (b : Bool) {c : Bool} → c ≡ true → (not b && not c) ≡ false
      last true q = refl
      last false q = ap not q
