-- How long the text of a verdict is. A number below 1,000 has three digits and a letter four, so a witness takes seven bytes a position;
-- with room for 256 nodes and 300 profiles every text is shorter than 4,096 bytes. Assumes nothing.
use Rattle.std.proofs.Common.{Ok, Err, refl, sym, List, [], ◌∷◌, ◌++◌, append-nil, ℕ, ◌+◌, ◌*◌, ◌≤◌, ◌<◌, arith, length, length-append}
use Rattle.std.proofs.Math.Path.{subst⁻¹}
use mathlib.Core.List.Memᴰ
use Rattle.std.proofs.Math.Option.{some}
use Rattle.text.specs.Text.{hex, number_text, each, letter_text}
use Rattle.text.proofs.Numerals.{few_digits}
use Rattle.formula.specs.Refusal.{fault_code, code_of, PlacesWithin}
use Rattle.formula.specs.declared.Refusal.{Refusal}
use Rattle.formula.specs.declared.Refusal.TheVariants.{AtByte, Unguarded}
use Rattle.decision.specs.Verdict.{Verdict, verdict}
use Rattle.construction.specs.Questions.{question_code}
use Rattle.construction.specs.declared.Refusal.TheVariants.{No, Unread}
use Rattle.decision.specs.Contract.{Answer, says}
use Rattle.decision.specs.declared.Verdict.TheVariants.{Satisfiable, Unsatisfiable}
use Rattle.decision.proofs.Answer.{Says, verdict-says}
use Rattle.decision.proofs.Bounds.{Bounded, verdict_bounded, LettersSmall, LettersParted, witness_parted}
use Rattle.verdict_text.specs.Texts.{worded_text, refused_text, placed_text, from_text, unread_text, verdict_text, lasso_text}
use Rattle.verdict_text.specs.Texts.{shown_text}
use Rattle.verdict_text.proofs.Showing.{lasso_parts}

-- a number behind a text
numbered : (k : ℕ) (text : List ℕ) (n : ℕ) → length text ≤ k → n < 1000 → length (text ++ number_text n) ≤ k + 4
numbered k text n h l = omega (arith, few_digits 10 (omega arith) 2 {width = 1} {n = n} l (omega arith), length-append text (number_text n))

refused-short : (code : ℕ) → code ≤ 15 → length (refused_text code) ≤ 11
refused-short code h = numbered 7 (82 ∷ 69 ∷ 70 ∷ 85 ∷ 83 ∷ 69 ∷ 68 ∷ []) code (omega arith) (omega arith)

-- the texts of refusals of reading, whose places are early
placed-short : (code place : ℕ) → code ≤ 9 → place ≤ 97 → length (placed_text code place) ≤ 18
placed-short code place h k =
    omega (
      arith,
      refused-short code (omega arith),
      numbered 3 (32 ∷ 97 ∷ 116 ∷ []) place (omega arith) (omega arith),
      length-append (refused_text code) (worded_text (32 ∷ 97 ∷ 116 ∷ []) place),
    )

unread-short : (why : Refusal) → code_of why ≤ 9 → PlacesWithin 97 why → length (unread_text why) ≤ 27
unread-short (AtByte fault at) h k =
    let code = fault_code fault in
    omega (arith, placed-short code at h k, length-append (placed_text code at) [])
unread-short (Unguarded at binder) h (k, l) =
    omega (
      arith,
      placed-short 8 at h k,
      numbered 5 (32 ∷ 102 ∷ 114 ∷ 111 ∷ 109 ∷ []) binder (omega arith) (omega arith),
      length-append (placed_text 8 at) (from_text (some binder)),
    )

-- the texts of verdicts, without the witness
verdict-short : (r : Answer) → Bounded 256 300 r → length (verdict_text r) ≤ 27
verdict-short (Ok (Satisfiable stem cycle K P)) s =
    let a = (77 ∷ 69 ∷ 84 ∷ []) ++ number_text stem in
    let b = a ++ number_text cycle in
    let ha : length a ≤ 7 = numbered 3 (77 ∷ 69 ∷ 84 ∷ []) stem (omega arith) (omega (arith, s.stem-few)) in
    let hb : length b ≤ 11 = numbered 7 a cycle ha (omega (arith, s.cycle-few)) in
    let hc : length (b ++ number_text K) ≤ 15 = numbered 11 b K hb (omega (arith, s.nodes-few)) in
    omega (arith, numbered 15 (b ++ number_text K) P hc (omega (arith, s.profiles-few)))
verdict-short (Ok (Unsatisfiable K P)) s =
    let a = (78 ∷ 79 ∷ 84 ∷ []) ++ number_text K in
    let ha : length a ≤ 7 = numbered 3 (78 ∷ 79 ∷ 84 ∷ []) K (omega arith) (omega (arith, s.nodes-few)) in
    omega (arith, numbered 7 a P ha (omega (arith, s.profiles-few)))
verdict-short (Err (No q)) h = omega (arith, refused-short (question_code q) h)
verdict-short (Err (Unread why)) (h, k) = unread-short why h k

-- some letters
module _ (front back : List ℕ) (h : length front + length back ≤ 3) where
  letter-short : (x : ℕ) → x < 65536 → length (letter_text front back x) ≤ 7
  letter-short x k =
      omega (
        arith,
        few_digits 16 (omega arith) 3 {width = 4} {n = x} k (omega arith),
        length-append (front ++ hex 4 x) back,
        length-append front (hex 4 x),
      )

  letters-short : (xs : List ℕ) → LettersSmall xs → length (each (letter_text front back) xs) ≤ 7 * length xs
  letters-short [] k = omega arith
  letters-short (x ∷ xs) k =
      omega (
        arith,
        letter-short x (k x (Memᴰ.head refl)),
        letters-short xs (λ y i. k y (Memᴰ.tail i)),
        length-append (letter_text front back x) (each (letter_text front back) xs),
      )

lasso-short : {stem cycle : ℕ} (K P : ℕ) (letters : List ℕ) → LettersParted stem cycle letters
    → length (lasso_text (Ok (Satisfiable stem cycle K P)) letters (83 ∷ 32 ∷ []) (76 ∷ 32 ∷ []) (10 ∷ [])) ≤ 7 * (stem + cycle)
lasso-short {stem} {cycle} K P letters w =
    let xs = w.before in
    let ys = w.around in
    subst⁻¹ (λ (m : List ℕ). length m ≤ 7 * (stem + cycle))
    (lasso_parts K P [] w (sym (append-nil letters)) (83 ∷ 32 ∷ []) (76 ∷ 32 ∷ []) (10 ∷ []))
    (omega (
      arith,
      w.stem_is,
      w.cycle_is,
      length-append (each (letter_text (83 ∷ 32 ∷ []) (10 ∷ [])) xs) (each (letter_text (76 ∷ 32 ∷ []) (10 ∷ [])) ys),
      letters-short (83 ∷ 32 ∷ []) (10 ∷ []) (omega arith) xs w.before_small,
      letters-short (76 ∷ 32 ∷ []) (10 ∷ []) (omega arith) ys w.around-small,
    ))

line_and : (line rest : List ℕ) → length line ≤ 27 → length rest ≤ 3885 → length (line ++ (10 ∷ []) ++ rest) ≤ 4095
line_and line rest h k = omega (arith, length-append (line ++ (10 ∷ [])) rest, length-append line (10 ∷ []))

shown-short : (bytes : List ℕ) (o : Verdict) → Bounded 256 300 (says o) → Says bytes o → length (shown_text o) ≤ 4095
shown-short bytes (Verdict.unread why) h k =
    line_and (verdict_text (Err (Unread why))) [] (verdict-short (Err (Unread why)) h) (omega arith)
shown-short bytes (Verdict.refused q) h k =
    line_and (verdict_text (Err (No q))) [] (verdict-short (Err (No q)) h) (omega arith)
shown-short bytes (Verdict.satisfiable stem cycle K P letters) h k =
    line_and
    (verdict_text (Ok (Satisfiable stem cycle K P)))
    _
    (verdict-short (Ok (Satisfiable stem cycle K P)) h)
    (omega (arith, h.stem-few, h.cycle-few, lasso-short K P letters (witness_parted k.witness)))
shown-short bytes (Verdict.unsatisfiable K P) h k =
    line_and (verdict_text (Ok (Unsatisfiable K P))) [] (verdict-short (Ok (Unsatisfiable K P)) h) (omega arith)

-- Theorem: the text of every verdict with this room has fewer than 4,096 bytes.
pub verdict_shown_short : (room places : ℕ) (bytes : List ℕ) → length (shown_text (verdict 256 300 room places bytes)) ≤ 4095
verdict_shown_short room places bytes =
    shown-short bytes (verdict 256 300 room places bytes) (verdict_bounded 256 300 room places bytes)
    (verdict-says 256 300 room places bytes)
