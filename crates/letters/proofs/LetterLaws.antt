-- What a requirement asks of a letter, and what the letter taken for it has (MEANING 3.4, 3.5), as laws. A letter satisfies a requirement
-- (`Satisfies`) if it has what is to be present, and nothing of what is to be absent. A requirement clashes for one of three reasons
-- (`clash_of`, `clash_in`), and exactly if no letter of the alphabet satisfies it (`clash_exactly`): a clash leaves no letter
-- (`clash_leaves_none`), and without one the letter that is taken is in the alphabet (`letter_in`) and satisfies it (`letter_satisfies`).
-- That letter has what is to be present, the flag that is due, and nothing else (`letter_exactly`). Assumes nothing.
use Rattle.std.proofs.Common.{◌≡◌, refl, sym, ap, subst, ◌∙◌, ◌↔◌, ◌⊎◌, inl, inr, ⊎_elim, Bool, true, false, not, cond, ◌&&◌, ◌||◌, ℕ}
use Rattle.std.proofs.Common.{◌^◌, ◌<◌, T, eqb, eqb→eq, T_not, bit_and, arith, eq-eqb}
use Rattle.std.proofs.Math.Dec.{not_T}
use lib.Bits.{or_lt}
use Rattle.std.proofs.Math.Bool.{not-not}
use Rattle.std.proofs.Math.Decide.{dec_lt}
use Rattle.std.proofs.Math.Path.{subst⁻¹}
use Rattle.base.specs.Lists.{any, range}
use Rattle.base.specs.Bits.{bit}
use Rattle.base.proofs.BoolLaws.{by_test, to_T, and_left, and_right, and_both, or_cases, or_left, or_right}
use Rattle.base.proofs.TestLaws.{not_of_T, same_truth}
use Rattle.base.proofs.BitLaws.{bit-and, set_on}
use Rattle.base.proofs.ShiftLaws.{bit_high}
use Rattle.base.proofs.AppendLaws.{range_of}
use Rattle.base.proofs.WordLaws.{no-bit, same_bits}
use Rattle.base.proofs.MemberLaws.{any_of, any_in, range_in}
use Rattle.letters.specs.Alphabet.{previous_scale, current_scale, both_scales, in_alphabet}
use Rattle.letters.specs.Requirements.{clash, scale_for, letter_of}
use Rattle.letters.specs.declared.Requirement.{Requirement}
use Rattle.letters.proofs.AlphabetLaws.{some_scale, one_scale, alphabet_in}

-- a letter satisfies a requirement
pub record Satisfies (r : Requirement) (a : ℕ) : Type 0 where
  pub has : (j : ℕ) → j < 16 → T (bit r.present j) → T (bit a j)
  pub lacks : (j : ℕ) → j < 16 → T (bit r.absent j) → T (bit a j) → ⊥

-- the reasons for a clash: a signal both ways, or both scale flags one way
pub data Clash (r : Requirement) : Type 0 where
  both_ways : (j : ℕ) → j < 16 → T (bit r.present j) → T (bit r.absent j) → Clash r
  both-present : T (bit r.present previous_scale) → T (bit r.present current_scale) → Clash r
  both_absent : T (bit r.absent previous_scale) → T (bit r.absent current_scale) → Clash r

-- which scale flag is due, and why
data Due (r : Requirement) : ℕ → Type 0 where
  current : T (bit r.present current_scale) ⊎ T (bit r.absent previous_scale) → Due r current_scale
  previous : (T (bit r.present current_scale) → ⊥) → (T (bit r.absent previous_scale) → ⊥) → Due r previous_scale

scales_of : (w : ℕ) → T (both_scales w) → T (bit w previous_scale) × T (bit w current_scale)
scales_of w t =
    let p = bit w previous_scale in
    let c = bit w current_scale in
    (and_left p c t, and_right p c t)

scales_in : (w : ℕ) → T (bit w previous_scale) → T (bit w current_scale) → T (both_scales w)
scales_in w = and_both (bit w previous_scale) (bit w current_scale)

module _ (r : Requirement) where
  abbrev in_both : ℕ → Bool
  in_both j = bit r.present j && bit r.absent j

  abbrev shared : Bool
  shared = any in_both (range 0 16)

  abbrev scales : Bool
  scales = both_scales r.present || both_scales r.absent

  shared_of : T shared → (j : ℕ) × (j < 16) × T (in_both j)
  shared_of t = let (j, m, h) = any_of in_both (range 0 16) t in (j, omega (arith, range_of 0 16 m), h)

  shared_in : (j : ℕ) → j < 16 → T (in_both j) → T shared
  shared_in j h t = any_in in_both (range_in 0 16 j (omega arith) (omega arith)) t

  pub clash_of : T (clash r) → Clash r
  unfolding clash
  clash_of t =
      ⊎_elim
      (λ (s : T shared).
      let (j, h, d) = shared_of s in
      both_ways j h (and_left (bit r.present j) (bit r.absent j) d) (and_right (bit r.present j) (bit r.absent j) d))
      (λ (s : T scales).
      ⊎_elim (λ (b : T (both_scales r.present)). let (p, c) = scales_of r.present b in both-present p c)
      (λ (b : T (both_scales r.absent)). let (p, c) = scales_of r.absent b in both_absent p c)
      (or_cases (both_scales r.present) (both_scales r.absent) s))
      (or_cases shared scales t)

  pub clash_in : Clash r → T (clash r)
  unfolding clash
  clash_in (both_ways j h p a) = or_left shared scales (shared_in j h (and_both (bit r.present j) (bit r.absent j) p a))
  clash_in (both-present p c) =
      or_right shared scales (or_left (both_scales r.present) (both_scales r.absent) (scales_in r.present p c))
  clash_in (both_absent p c) =
      or_right shared scales (or_right (both_scales r.present) (both_scales r.absent) (scales_in r.absent p c))

  -- as code looks for a signal both ways: the bits that are set in both words, as a word, are not none
  module _ (small : r.present < 65536) where
    abbrev both : ℕ
    both = bit_and r.present r.absent

    none_in_both : eqb both 0 ≡ not shared
    none_in_both =
        same_truth (eqb both 0) (not shared)
        (λ t. not_T shared
        (λ c. let (j, h, d) = shared_of c in
        subst T (sym (bit-and r.present r.absent j) ∙ ap (λ (x : ℕ). bit x j) (eqb→eq both 0 t) ∙ no-bit j) d))
        (λ t. to_T (eqb both 0)
        (eq-eqb both 0
        (same_bits both 0 (λ k. bit-and r.present r.absent k ∙ apart t k (dec_lt k 16) ∙ sym (no-bit k)))))
      where
        apart : T (not shared) → (k : ℕ) → Dec (k < 16) → in_both k ≡ false
        apart t k (yes h) = not_of_T (in_both k) (λ d. T_not shared t (shared_in k h d))
        apart t k (no h) = ap (λ (b : Bool). b && bit r.absent k) (bit_high 16 r.present k small (omega arith))

    pub clash_and : (not (eqb both 0) || scales) ≡ clash r
    unfolding clash
    clash_and = ap (λ (b : Bool). b || scales) (ap not none_in_both ∙ not-not shared)

  -- no letter satisfies a requirement that clashes
  pub clash_leaves_none : {a : ℕ} → T (in_alphabet a) → Satisfies r a → Clash r → ⊥
  clash_leaves_none h f (both_ways j l p a) = f.lacks j l a (f.has j l p)
  clash_leaves_none {a} h f (both-present p c) =
      one_scale a h (f.has previous_scale (omega arith) p) (f.has current_scale (omega arith) c)
  clash_leaves_none {a} h f (both_absent p c) =
      ⊎_elim (f.lacks previous_scale (omega arith) p) (f.lacks current_scale (omega arith) c) (some_scale a h)

  due : Due r (scale_for r)
  due =
      by_test (bit r.present current_scale || bit r.absent previous_scale) (λ b. Due r (cond b current_scale previous_scale))
      (λ h. current (or_cases (bit r.present current_scale) (bit r.absent previous_scale) h))
      (λ n. previous (λ p. n (or_left (bit r.present current_scale) (bit r.absent previous_scale) p))
      (λ a. n (or_right (bit r.present current_scale) (bit r.absent previous_scale) a)))

  letter-bit : (j : ℕ) → bit (letter_of r) j ≡ cond (eqb j (scale_for r)) true (bit r.present j)
  unfolding letter_of
  letter-bit = set_on r.present (scale_for r)

  -- Theorem: the letter has what is to be present, and the flag that is due.
  pub letter_exactly : (j : ℕ) → T (bit (letter_of r) j) ↔ (T (bit r.present j) ⊎ (j ≡ scale_for r))
  letter_exactly j = (λ t. either (subst T (letter-bit j) t), λ d. subst⁻¹ T (letter-bit j) (set d))
    where
      either : T (cond (eqb j (scale_for r)) true (bit r.present j)) → T (bit r.present j) ⊎ (j ≡ scale_for r)
      either =
          by_test (eqb j (scale_for r)) (λ b. T (cond b true (bit r.present j)) → T (bit r.present j) ⊎ (j ≡ scale_for r))
          (λ h t. inr (eqb→eq j (scale_for r) h))
          (λ n t. inl t)

      set : T (bit r.present j) ⊎ (j ≡ scale_for r) → T (cond (eqb j (scale_for r)) true (bit r.present j))
      set =
          by_test (eqb j (scale_for r)) (λ b. T (bit r.present j) ⊎ (j ≡ scale_for r) → T (cond b true (bit r.present j)))
          (λ h d. tt)
          (λ n. ⊎_elim (λ t. t) (λ (e : j ≡ scale_for r). absurd (n (to_T (eqb j (scale_for r)) (eq-eqb j (scale_for r) e)))))

  -- a word of sixteen bits gives a letter of sixteen bits
  pub letter-small : r.present < 65536 → letter_of r < 65536
  unfolding letter_of
  letter-small h = or_lt 16 r.present (2 ^ scale_for r) h (flag_small due)
    where
      flag_small : {j : ℕ} → Due r j → 2 ^ j < 65536
      flag_small (current w) = omega arith
      flag_small (previous n m) = omega arith

  module _ (none : Clash r → ⊥) where
    -- the flag that is due is not to be absent
    flag_free : {j : ℕ} → Due r j → T (bit r.absent j) → ⊥
    flag_free (current (inl p)) a = none (both_ways current_scale (omega arith) p a)
    flag_free (current (inr b)) a = none (both_absent b a)
    flag_free (previous n m) a = m a

    -- the other one is not to be present
    other_free : {j : ℕ} → Due r j → T (bit r.present previous_scale) ⊎ (previous_scale ≡ j)
        → T (bit r.present current_scale) ⊎ (current_scale ≡ j) → ⊥
    other_free (current (inl p)) (inl q) d = none (both-present q p)
    other_free (current (inr a)) (inl q) d = none (both_ways previous_scale (omega arith) q a)
    other_free (current w) (inr e) d = omega arith
    other_free (previous n m) c (inl p) = n p
    other_free (previous n m) c (inr e) = omega arith

    pub letter_satisfies : Satisfies r (letter_of r)
    letter_satisfies =
        record {
          has = λ j h p. (letter_exactly j).1 (inl p);
          lacks = λ j h a t.
              ⊎_elim (λ (p : T (bit r.present j)). none (both_ways j h p a))
              (λ (e : j ≡ scale_for r). flag_free due (subst (λ (k : ℕ). T (bit r.absent k)) e a))
              ((letter_exactly j).0 t);
        }

    some_flag : {j : ℕ} → Due r j → T (bit (letter_of r) j) → T (bit (letter_of r) previous_scale) ⊎ T (bit (letter_of r) current_scale)
    some_flag (current w) t = inr t
    some_flag (previous n m) t = inl t

    pub letter_in : T (in_alphabet (letter_of r))
    letter_in =
        alphabet_in (letter_of r) (some_flag due ((letter_exactly (scale_for r)).1 (inr refl)))
        (λ p c. other_free due ((letter_exactly previous_scale).0 p) ((letter_exactly current_scale).0 c))

  -- Theorem: there is no clash exactly if some letter of the alphabet satisfies the requirement.
  pub clash_exactly : T (not (clash r)) ↔ ((a : ℕ) × T (in_alphabet a) × Satisfies r a)
  clash_exactly = (
    λ t. let none : Clash r → ⊥ = λ c. T_not (clash r) t (clash_in c) in (letter_of r, letter_in none, letter_satisfies none),
    λ p. not_T (clash r) (λ t. clash_leaves_none p.1 p.2 (clash_of t)),
  )

-- where nothing is required the letter has the previous scale's flag and no more
abbrev pub nothing-required : Requirement
nothing-required = record { present = 0; absent = 0 }

pub letter-none : letter_of nothing-required ≡ 0x4000
unfolding letter_of
letter-none = refl

pub none-in_alphabet : T (in_alphabet 0x4000)
unfolding in_alphabet
none-in_alphabet = tt
