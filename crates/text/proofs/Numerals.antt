-- The laws of numerals: the last digit stands behind the numeral of the quotient, which is smaller; so one is written, and so a number
-- below base ^ d has at most d digits. Assumes nothing.
use Rattle.std.proofs.Common.{◌≡◌, refl, sym, ap, subst, ◌∙◌, Bool, true, false, true≢false, cond, ◌&&◌, List, [], ◌∷◌, ◌++◌}
use Rattle.std.proofs.Common.{ℕ, zero, suc, ◌+◌, ◌-◌, ◌*◌, ◌/◌, ◌%◌, ◌^◌, ◌≤◌, ◌<◌, arith, ltb, leb, length, length-append}
use Rattle.std.proofs.Common.{div-le_self, div-lt_iff_lt-mul, mod-lt, pow-suc, one-mul, lt-ltb, ltb-false, le-leb, leb-false}
use Rattle.std.proofs.Math.Nat.{div-lt_self, pow-zero}
use Rattle.text.specs.Text.{Buffer, Wrote, Radix, glyph, is_last, numeral_by, numeral}
use Rattle.text.proofs.Writing.{then}

shrinks_by : (base width n : ℕ) → 1 < base → (a : Bool) → ltb n base ≡ a → (a && leb width 1) ≡ false → n / base + (width - 1) < n + width
shrinks_by base width n h true p e =
    let w = leb-false width 1 e in
    let z = div-le_self n base in
    omega arith
shrinks_by base width n h false p e =
    let g = ltb-false n base p in
    let z : n / base < n = div-lt_self (omega arith) h in
    omega arith

-- a digit's value in a base up to 16
pub digit_value : (n : ℕ) {base : ℕ} → Radix base → n % base < 16
digit_value n {base} r = omega (arith, r.few, mod-lt n {m = base} (omega (arith, r.some)))

module _ (base : ℕ) (h : 1 < base) where
  -- the quotient and the width of what stands in front are less
  pub shrinks : (width n : ℕ) {less t : ℕ} → is_last base width n ≡ false → less ≡ width - 1 → n + width ≡ t → n / base + less < t
  shrinks width n e l m = let z = shrinks_by base width n h (ltb n base) refl e in omega arith

  -- which of two bounds that suffice is taken does not matter
  same : (m k width n : ℕ) → n + width < m → n + width < k → numeral_by m base width n ≡ numeral_by k base width n
  same zero k width n p q = absurd (omega arith)
  same (suc m) zero width n p q = absurd (omega arith)
  same (suc m) (suc k) width n p q =
      by (is_last base width n) refl
      (λ e. let z = shrinks width n e refl refl in same m k (width - 1) (n / base) (omega arith) (omega arith))
    where
      by : (t : Bool) → is_last base width n ≡ t
          → (is_last base width n ≡ false → numeral_by m base (width - 1) (n / base) ≡ numeral_by k base (width - 1) (n / base))
          → (cond t [] (numeral_by m base (width - 1) (n / base)) ++ (glyph (n % base) ∷ []))
          ≡ (cond t [] (numeral_by k base (width - 1) (n / base)) ++ (glyph (n % base) ∷ []))
      by true e f = refl
      by false e f = ap (λ (l : List ℕ). l ++ (glyph (n % base) ∷ [])) (f e)

  -- a number of one digit
  pub one_digit : (width n : ℕ) → is_last base width n ≡ true → numeral base width n ≡ glyph (n % base) ∷ []
  one_digit width n e = simp e

  -- a number of more digits
  pub more_digits : (width n : ℕ) → is_last base width n ≡ false → numeral base width n ≡ numeral base (width - 1) (n / base) ++
      (glyph (n % base) ∷ [])
  more_digits width n e =
      let z = shrinks width n e refl refl in
      simp e
      (ap (λ (l : List ℕ). l ++ (glyph (n % base) ∷ []))
      (same (n + width) (suc (n / base + (width - 1))) (width - 1) (n / base) z (omega arith)))

  -- a number below the base has one digit
  single : (n : ℕ) {width : ℕ} → n < base ^ 1 → width ≤ 1 → is_last base width n ≡ true
  single n {width} l k =
      let e : base ^ 1 ≡ base = pow-suc base 0 ∙ ap (λ (m : ℕ). m * base) (pow-zero base) ∙ one-mul base in
      simp (lt-ltb n base (omega arith), le-leb width 1 k)

  -- what stands in front has a digit less
  fewer : (d n : ℕ) → n < base ^ suc d → n / base < base ^ d
  fewer d n l = (div-lt_iff_lt-mul {k = base} {x = n} {y = base ^ d} (omega arith)).1 (subst (λ (m : ℕ). n < m) (pow-suc base d) l)

  digits_by : (most d width n : ℕ) → n < base ^ suc d → width ≤ suc d → length (numeral_by most base width n) ≤ suc d
  digits_by zero d width n l k = omega arith
  digits_by (suc most) d width n l k = by (is_last base width n) refl d l k (digits_by most)
    where
      by : (t : Bool) → is_last base width n ≡ t → (d : ℕ) → n < base ^ suc d → width ≤ suc d
          → ((d width n : ℕ) → n < base ^ suc d → width ≤ suc d → length (numeral_by most base width n) ≤ suc d)
          → length (cond t [] (numeral_by most base (width - 1) (n / base)) ++ (glyph (n % base) ∷ [])) ≤ suc d
      by true e d l k f = omega arith
      by false e zero l k f = absurd (true≢false (sym (single n l k) ∙ e))
      by false e (suc d) l k f =
          omega (
            arith,
            f d (width - 1) (n / base) (fewer (suc d) n l) (omega arith),
            length-append
                (numeral_by most base (width - 1) (n / base)) (glyph (n % base) ∷ []),
          )

  -- Theorem: a number below base ^ d has at most d digits, or the width.
  pub few_digits : (d : ℕ) {width n : ℕ} → n < base ^ suc d → width ≤ suc d → length (numeral base width n) ≤ suc d
  few_digits d {width} {n} = digits_by (suc (n + width)) d width n

  module _ (width n : ℕ) {s t : Buffer} {d : ℕ} (digit : d ≡ glyph (n % base)) where
    pub writes_one : is_last base width n ≡ true → Wrote s (d ∷ []) t → Wrote s (numeral base width n) t
    writes_one e w = subst (λ (l : List ℕ). Wrote s l t) (ap (λ (b : ℕ). b ∷ []) digit ∙ sym (one_digit width n e)) w

    pub writes_more : {u : Buffer} {less : ℕ} → is_last base width n ≡ false → less ≡ width - 1 → Wrote s (numeral base less (n / base)) u
        → Wrote u (d ∷ []) t → Wrote s (numeral base width n) t
    writes_more e l front w =
        subst (λ (l : List ℕ). Wrote s l t)
        (ap (λ (w : ℕ). numeral base w (n / base) ++ (d ∷ [])) l ∙ ap (λ (b : ℕ). numeral base (width - 1) (n / base) ++ (b ∷ [])) digit
        ∙ sym (more_digits width n e))
        (then front w)
