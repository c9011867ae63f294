-- Words in a byte area: what is put is what is read (`eight-stored`, `words-stored`), one word more (`put-store`), and where a word
-- is found by looking at one after the other (`found_from`), with what it tells that none is (`absent_member`). A number below 2^64 is the
-- sum of its eight bytes; past eight bytes, the rest of an area is an area. Assumes nothing.
use Rattle.std.proofs.Common.{Option, Some, None, ◌≡◌, refl, sym, ap, ◌∙◌, Bool, true, false, cond, List, [], ◌∷◌, ◌++◌, map}
use Rattle.std.proofs.Common.{append_assoc, ℕ, zero, suc, ◌+◌, ◌*◌, ◌^◌, ◌<◌, arith, add-one, eqb, ltb, length, get_or, drop}
use Rattle.std.proofs.Common.{length-append, take_at, drop-drop, lt-ltb}
use Rattle.std.proofs.Math.Seq.{drop-append-add}
use mathlib.Core.List.{Memᴰ}
use Rattle.std.specs.List.{find, range_with_len}
use Prim.Native.Nat.compare
use Rattle.base.specs.Lists.{member, flat_map, index}
use Rattle.base.specs.Bytes.{with_number}
use Rattle.base.proofs.AppendLaws.{flat_map_append}
use Rattle.base.proofs.BytesLaws.{number-bytes, number_behind}
use Rattle.base.proofs.TestLaws.{eqb_flip}
use Rattle.base.proofs.IndexLaws.{index-any}
use Rattle.tableau.specs.declared.NodeNumber.{NodeNumber}
use Rattle.tableau.specs.Area.{bytes8, eight, store, words_at, lookup}

abbrev pub WordsFit : List ℕ → Type 0
WordsFit ws = (x : ℕ) → Memᴰ x ws → x < 2 ^ 64

-- the eight bytes of a word, and what lies behind them
pub eight-first : (x : ℕ) (a : List ℕ) → x < 2 ^ 64 → eight (bytes8 x ++ a) (8 * 0) ≡ x
eight-first x a h = number-bytes 8 x a h

eight-past : (x : ℕ) (a : List ℕ) (i : ℕ) → eight (bytes8 x ++ a) (8 * suc i) ≡ eight a (8 * i)
eight-past x a i =
    ap (eight (bytes8 x ++ a)) {x = 8 * suc i} {y = length (bytes8 x) + 8 * i} (omega arith) ∙ number_behind 8 (bytes8 x) a (8 * i)

pub eight-stored : (ws a : List ℕ) (i : ℕ) → WordsFit ws → i < length ws → eight (flat_map bytes8 ws ++ a) (8 * i) ≡ get_or ws i 0
eight-stored [] a i h l = absurd (omega arith)
eight-stored (x ∷ ws) a zero h l = eight-first x (flat_map bytes8 ws ++ a) (h x (Memᴰ.head refl))
eight-stored (x ∷ ws) a (suc i) h l = eight-past x (flat_map bytes8 ws ++ a) i ∙ eight-stored ws a i (λ y m. h y (Memᴰ.tail m))
    (omega arith)

words-past : (x : ℕ) (a : List ℕ) (i n : ℕ) → words_at (bytes8 x ++ a) (suc i) n ≡ words_at a i n
words-past x a i zero = refl
words-past x a i (suc n) = rw (eight-past x a i, words-past x a (suc i) n)

pub words-stored : (ws a : List ℕ) → WordsFit ws → words_at (flat_map bytes8 ws ++ a) 0 (length ws) ≡ ws
words-stored [] a h = refl
words-stored (x ∷ ws) a h =
    rw (
      eight-first x (flat_map bytes8 ws ++ a) (h x (Memᴰ.head refl)),
      words-past x (flat_map bytes8 ws ++ a) 0 (length ws),
      words-stored ws a (λ y m. h y (Memᴰ.tail m)),
    )

-- one word more
pub stored-length : (ws : List ℕ) → length (flat_map bytes8 ws) ≡ 8 * length ws
stored-length [] = refl
stored-length (x ∷ ws) = omega (arith, stored-length ws)

pub put-store : (ws a : List ℕ) (x : ℕ) → with_number 8 (store ws a) (8 * length ws) x ≡ store (ws ++ (x ∷ [])) a
put-store ws a x =
    ap (λ (l : List ℕ). l ++ (bytes8 x ++ drop (8 * length ws + 8) (store ws a)))
    (take_at (flat_map bytes8 ws) (drop (8 * length ws) a) (8 * length ws) (stored-length ws))
    ∙ ap (λ (n : ℕ). flat_map bytes8 ws ++ (bytes8 x ++ drop (n + 8) (store ws a))) (sym (stored-length ws))
    ∙ ap (λ (l : List ℕ). flat_map bytes8 ws ++ (bytes8 x ++ l))
    (drop-append-add (flat_map bytes8 ws) (drop (8 * length ws) a) 8 ∙ drop-drop 8 (8 * length ws) a)
    ∙ ap (λ (n : ℕ). flat_map bytes8 ws ++ (bytes8 x ++ drop n a)) {x = 8 * length ws + 8} {y = 8 * length (ws ++ (x ∷ []))}
    (omega (arith, length-append ws (x ∷ [])))
    ∙ sym (append_assoc (flat_map bytes8 ws) (bytes8 x) (drop (8 * length (ws ++ (x ∷ []))) a))
    ∙ ap (λ (l : List ℕ). l ++ drop (8 * length (ws ++ (x ∷ []))) a) (sym (flat_map_append bytes8 ws (x ∷ [])))

-- the number r among known ones
abbrev pub number_if : (r known i : ℕ) → Option NodeNumber
number_if r known i = cond (ltb r known) (Some (record { 0 = i })) None

-- looking for a word, node by node, among the n nodes from node i on
abbrev pub among : (a : List ℕ) (x i n : ℕ) → Option NodeNumber
among a x i n = find (λ (m : NodeNumber). eqb (eight a (8 * m.0)) x) (map (λ (k : ℕ). record { 0 = k }) (range_with_len i n))

pub found_from : (a : List ℕ) (x i n : ℕ)
    → among a x i n ≡ number_if (index (eqb x) (words_at a i n)) n (i + index (eqb x) (words_at a i n))
found_from a x i zero = refl
found_from a x i (suc n) =
    ap (λ (b : Bool). cond b (Some (record { 0 = i })) (among a x (i + 1) n)) (eqb_flip (eight a (8 * i)) x)
    ∙ by (eqb x (eight a (8 * i))) _ (ap (λ (k : ℕ). among a x k n) (add-one i) ∙ found_from a x (suc i) n)
  where
    by : (b : Bool) {o : Option NodeNumber} (r : ℕ) → o ≡ number_if r n (suc i + r)
        → cond b (Some (record { 0 = i })) o ≡ number_if (cond b 0 (suc r)) (suc n) (i + cond b 0 (suc r))
    by true r e =
        ap (number_if 0 1) {x = i} {y = i + 0} (omega arith)
        ∙ ap (λ (b : Bool). cond {A = Option NodeNumber} b (Some (record { 0 = i + 0 })) None) (sym (lt-ltb 0 (suc n) (omega arith)))
    by false r e = rw compare.suc-suc (e ∙ ap (λ (k : ℕ). number_if r n k) {x = suc i + r} {y = i + suc r} (omega arith))

pub words-length : (a : List ℕ) (i n : ℕ) → length (words_at a i n) ≡ n
words-length a i zero = refl
words-length a i (suc n) = ap suc (words-length a (suc i) n)

-- whether a word is among those known, by where it was found
module _ (a : List ℕ) (known x : ℕ) where
  abbrev pub place : ℕ
  place = index (eqb x) (words_at a 0 known)

  by_index : ltb place known ≡ member x (words_at a 0 known)
  by_index = ap (ltb place) (sym (words-length a 0 known)) ∙ index-any (eqb x) (words_at a 0 known)

  pub absent_member : {r : Option NodeNumber} → r ≡ lookup known place → r ≡ None
      → false ≡ member x (words_at a 0 known)
  absent_member e q = by (ltb place known) (sym e ∙ q) ∙ by_index
    where
      by : (b : Bool) → cond {A = Option NodeNumber} b (Some (record { 0 = place })) None ≡ None → false ≡ b
      by true e = let z : ◌≡◌ {A = ℕ} 0 1 = cc in absurd (omega arith)
      by false e = refl
