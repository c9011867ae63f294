-- Numbers in bytes, over the width: what is written is what is read (`number-written`), bytes elsewhere do not count (`number_same`,
-- `number_behind`), a number of w bytes is below 256^w (`number_small`). `ReadingBytes` and `WritingBytes` say what a loop has done that
-- reads from the highest byte down, or writes from the lowest byte up. Assumes nothing.
use Rattle.std.proofs.Common.{◌≡◌, refl, sym, ap, ◌∙◌, List, [], ◌∷◌, ◌++◌, append_assoc, ℕ, zero, suc, ◌+◌, ◌-◌, ◌*◌, ◌/◌, ◌%◌, ◌^◌, ◌≤◌}
use Rattle.std.proofs.Common.{◌<◌, add-zero, zero-lt-suc, arith, length, get_or, set, take, drop, length-append, length-set, length-take}
use Rattle.std.proofs.Common.{length-drop, get_or-append-add, get_or-take, get_or-drop, drop-cons}
use Rattle.std.proofs.Math.ListN.{get_or-append}
use Rattle.std.proofs.Math.Nat.{pow-le-pow_right}
use Rattle.std.proofs.Math.Seq.{set_at}
use Rattle.base.specs.Bytes.{number_at, bytes_of, with_number}

pub length-bytes : (w x : ℕ) → length (bytes_of w x) ≡ w
length-bytes zero x = refl
length-bytes (suc w) x = ap suc (length-bytes w (x / 256))

-- numbers of equal bytes are equal
pub number_same : (w : ℕ) (a b : List ℕ) (p q : ℕ) → ((i : ℕ) → i < w → get_or a (p + i) 0 ≡ get_or b (q + i) 0)
    → number_at w a p ≡ number_at w b q
number_same zero a b p q f = refl
number_same (suc w) a b p q f =
    let first : get_or a p 0 ≡ get_or b q 0 = rw (add-zero p, add-zero q) at (f 0 (omega arith)) in
    let rest = number_same w a b (suc p) (suc q) (λ i h. moved i (f (suc i) (omega arith))) in
    omega (arith, first, rest)
  where
    moved : (i : ℕ) → get_or a (p + suc i) 0 ≡ get_or b (q + suc i) 0 → get_or a (suc p + i) 0 ≡ get_or b (suc q + i) 0
    moved i e = ap (λ (n : ℕ). get_or a n 0) {x = suc p + i} {y = p + suc i} (omega arith) ∙ e
        ∙ ap (λ (n : ℕ). get_or b n 0) {x = q + suc i} {y = suc q + i} (omega arith)

-- behind some bytes, the rest of a list is a list
pub number_behind : (w : ℕ) (l r : List ℕ) (i : ℕ) → number_at w (l ++ r) (length l + i) ≡ number_at w r i
number_behind w l r i =
    number_same w (l ++ r) r (length l + i) i (λ j h.
    ap (λ (n : ℕ). get_or (l ++ r) n 0) {x = length l + i + j} {y = length l + (i + j)} (omega arith) ∙ get_or-append-add l r (i + j) 0)

-- the first bytes of a list that is long enough
taken : (n : ℕ) (a : List ℕ) → n ≤ length a → length (take n a) ≡ n
taken n a h = omega (arith, length-take n a)

pub number-bytes : (w x : ℕ) (r : List ℕ) → x < 256 ^ w → number_at w (bytes_of w x ++ r) 0 ≡ x
number-bytes zero x r h = omega arith
number-bytes (suc w) x r h =
    let rest = number_behind w (x % 256 ∷ []) (bytes_of w (x / 256) ++ r) 0 in
    omega (arith, rest, number-bytes w (x / 256) r (omega arith))

pub number-written : (w : ℕ) (a : List ℕ) (at x : ℕ) → at ≤ length a → x < 256 ^ w → number_at w (with_number w a at x) at ≡ x
number-written w a at x h l =
    let before : length (take at a) ≡ at = taken at a (omega arith) in
    ap (number_at w (with_number w a at x)) {x = at} {y = length (take at a) + 0} (omega (arith, before))
    ∙ number_behind w (take at a) (bytes_of w x ++ drop (at + w) a) 0 ∙ number-bytes w x (drop (at + w) a) l

-- what stands before it stays
pub before-written : (w : ℕ) (a : List ℕ) (at x k : ℕ) → at ≤ length a → k < at → get_or (with_number w a at x) k 0 ≡ get_or a k 0
before-written w a at x k h l =
    get_or-append (take at a) (bytes_of w x ++ drop (at + w) a) 0 k (omega (arith, taken at a h)) ∙ get_or-take at a k 0 l

-- so does what stands behind it
pub behind-written : (w : ℕ) (a : List ℕ) (at x k : ℕ) → at + w ≤ length a → at + w ≤ k → get_or (with_number w a at x) k 0 ≡ get_or a k 0
behind-written w a at x k h l =
    let left = k - (at + w) in
    let front = take at a in
    let back = bytes_of w x ++ drop (at + w) a in
    ap (λ (n : ℕ). get_or (front ++ back) n 0) {x = k} {y = length front + (length (bytes_of w x) + left)}
    (omega (arith, taken at a (omega arith), length-bytes w x))
    ∙ get_or-append-add front back (length (bytes_of w x) + left) 0
    ∙ get_or-append-add (bytes_of w x) (drop (at + w) a) left 0
    ∙ get_or-drop (at + w) a left 0
    ∙ ap (λ (n : ℕ). get_or a n 0) {x = at + w + left} {y = k} (omega arith)

pub length-written : (w : ℕ) (a : List ℕ) (at x : ℕ) → at + w ≤ length a → length (with_number w a at x) ≡ length a
length-written w a at x h =
    length-append (take at a) (bytes_of w x ++ drop (at + w) a)
    ∙ omega (
      arith,
      taken at a (omega arith),
      length-append (bytes_of w x) (drop (at + w) a),
      length-bytes w x,
      length-drop (at + w) a,
    )

pub number_small : (w : ℕ) (a : List ℕ) (at : ℕ) → ((i : ℕ) → get_or a i 0 < 256) → number_at w a at < 256 ^ w
number_small zero a at f = omega arith
number_small (suc w) a at f = omega (arith, f at, number_small w a (suc at) f)

power_below : {n : ℕ} → n ≤ 7 → 256 ^ n ≤ 256 ^ 7
power_below h = pow-le-pow_right (zero-lt-suc 255) h

-- The w - i highest of w bytes are read.
pub record ReadingBytes (w : ℕ) (a : List ℕ) (at i x : ℕ) : Type 0 where
  pub among : i ≤ w
  pub is : x ≡ number_at (w - i) a (at + i)
  pub small : x < 256 ^ (w - i)

-- The i lowest of w bytes of x are written, and y is what is left of x.
pub record WritingBytes (w : ℕ) (a : List ℕ) (at x i y : ℕ) (b : List ℕ) : Type 0 where
  pub among : i ≤ w
  pub written : List ℕ
  pub many : length written ≡ i
  pub bytes : bytes_of w x ≡ written ++ bytes_of (w - i) y
  pub area : b ≡ take at a ++ (written ++ drop (at + i) a)
  pub long : length b ≡ length a

module _ (w : ℕ) (a : List ℕ) (at : ℕ) where
  -- one byte more fits into eight
  pub read_fits : {i x : ℕ} → 0 < i → w ≤ 8 → ReadingBytes w a at i x → x < 0x100000000000000
  read_fits {i} h l r = omega (arith, r.small, power_below {n = w - i} (omega (arith, r.among)))

  pub read_more : {i x b : ℕ} → 0 < i → b ≡ get_or a (at + (i - 1)) 0 → b < 256 → ReadingBytes w a at i x
      → ReadingBytes w a at (i - 1) (x * 256 + b)
  read_more {i} {x} {b} h e l r = record {
    among = omega (arith, r.among);
    is =
        let more : number_at (w - (i - 1)) a (at + (i - 1)) ≡ number_at (suc (w - i)) a (at + (i - 1)) =
        ap (λ (n : ℕ). number_at n a (at + (i - 1))) {x = w - (i - 1)} {y = suc (w - i)} (omega (arith, r.among)) in
        let rest : number_at (w - i) a (suc (at + (i - 1))) ≡ number_at (w - i) a (at + i) =
        ap (number_at (w - i) a) {x = suc (at + (i - 1))} {y = at + i} (omega arith) in
        omega (arith, more, rest, r.is, e);
    small =
        let power : 256 ^ (w - (i - 1)) ≡ 256 * 256 ^ (w - i) =
        ap (λ (n : ℕ). 256 ^ n) {x = w - (i - 1)} {y = suc (w - i)} (omega (arith, r.among)) ∙ omega arith in
        omega (arith, power, r.small);
  }

module _ (w : ℕ) (a : List ℕ) (at x : ℕ) where
  pub write_more : {i y : ℕ} {b : List ℕ} → i < w → at + w ≤ length a → WritingBytes w a at x i y b
      → WritingBytes w a at x (i + 1) (y / 256) (set b (at + i) (y % 256))
  write_more {i} {y} {b} h l r = record {
    among = omega arith;
    written = pre ++ (y % 256 ∷ []);
    many = length-append pre (y % 256 ∷ []) ∙ ap (λ (n : ℕ). n + 1) r.many;
    bytes =
        r.bytes ∙ ap (λ (n : ℕ). pre ++ bytes_of n y) {x = w - i} {y = suc (w - (i + 1))} (omega arith)
        ∙ sym (append_assoc pre (y % 256 ∷ []) (bytes_of (w - (i + 1)) (y / 256)));
    area =
        ap (λ (l : List ℕ). set l (at + i) (y % 256)) (r.area ∙ apart)
        ∙ set_at front (get_or a (at + i) 0) rest (y % 256) (at + i) before
        ∙ append_assoc (take at a) pre (y % 256 ∷ rest)
        ∙ ap (λ (l : List ℕ). take at a ++ l) (sym (append_assoc pre (y % 256 ∷ []) rest))
        ∙ ap (λ (n : ℕ). take at a ++ ((pre ++ (y % 256 ∷ [])) ++ drop n a)) {x = suc (at + i)} {y = at + (i + 1)} (omega arith);
    long = length-set b (at + i) (y % 256) ∙ r.long;
  }
    where
      pre : List ℕ
      pre = r.written

      front : List ℕ
      front = take at a ++ r.written

      rest : List ℕ
      rest = drop (suc (at + i)) a

      before : length (take at a ++ r.written) ≡ at + i
      before = length-append (take at a) r.written ∙ omega (arith, taken at a (omega arith), r.many)

      apart : take at a ++ (r.written ++ drop (at + i) a) ≡ (take at a ++ r.written) ++ (get_or a (at + i) 0 ∷ drop (suc (at + i)) a)
      apart =
          ap (λ (l : List ℕ). take at a ++ (r.written ++ l)) (drop-cons a (at + i) 0 (omega arith))
          ∙ sym (append_assoc (take at a) r.written (get_or a (at + i) 0 ∷ drop (suc (at + i)) a))
