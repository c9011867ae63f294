-- The spliced bytes as the code goes through them: the old bytes before the span, the new ones, the old ones from behind the span, and no
-- more than reading looks at. They are written over zeros from the first on. Assumes nothing.
use Rattle.std.proofs.Common.{◌≡◌, sym, ap, ◌∙◌, ℕ, suc, ◌+◌, ◌-◌, ◌<◌, ◌≤◌, arith}
use Rattle.std.proofs.Common.{List, [], ◌∷◌, ◌++◌, length, get_or, take, set, replicate, length-take}
use Rattle.std.proofs.lemmas.Iterator.{YieldsList}
use Rattle.std.proofs.lemmas.Fn.{fronts}
use Rattle.std.proofs.lemmas.List.{take_more, get_or_default}
use Rattle.std.proofs.Math.Seq.{length-take-le, set_at, append_snoc, take_all}
use Rattle.std.specs.Iterator.Adapters.{take_steps, chain_steps}
use Rattle.substitution.specs.Contract.{padded}

-- zeros, the first i of which are now those of the list
abbrev pub written : List ℕ → ℕ → List ℕ
written bytes i = take i bytes ++ replicate {A = ℕ} (97 - i) 0

-- So many of the bytes that reading looks at are written, and the iterator s gives them all.
pub record Writing (s : _) (spliced : List ℕ) (count : ℕ) (bytes : List ℕ) (i : ℕ) : Type 0 where
  pub counts : count ≡ i
  pub is : bytes ≡ written (take 97 spliced) i
  pub road : YieldsList (take_steps (chain_steps fronts (chain_steps fronts fronts))) (λ b. b.now) s (take 97 spliced)

pub seen-length : (spliced : List ℕ) → length (take 97 spliced) ≤ 97
seen-length spliced = omega (arith, length-take 97 spliced)

-- One byte more of any bytes.
pub written-more : (bytes : List ℕ) (i : ℕ) → i < 97 → i < length bytes → set (written bytes i) i (get_or bytes i 0) ≡ written bytes (i + 1)
written-more bytes i l k =
    let rest = replicate {A = ℕ} (96 - i) 0 in
    let b = get_or bytes i 0 in
    ap (λ (n : ℕ). set (take i bytes ++ replicate {A = ℕ} n 0) i b) {x = 97 - i} {y = suc (96 - i)} (omega arith)
    ∙ set_at (take i bytes) 0 rest b i (length-take-le i bytes (omega arith))
    ∙ sym (append_snoc (take i bytes) b rest)
    ∙ ap (λ (p : List ℕ). p ++ rest) (sym (take_more bytes i 0 k))
    ∙ ap (λ (n : ℕ). take (i + 1) bytes ++ replicate {A = ℕ} n 0) {x = 96 - i} {y = 97 - (i + 1)} (omega arith)

-- The same of those that reading looks at, with the byte that the iterator gives.
pub written-next : (spliced : List ℕ) {i b : ℕ} → (i < length (take 97 spliced)) × (b ≡ get_or (take 97 spliced) i b)
    → set (written (take 97 spliced) i) i b ≡ written (take 97 spliced) (i + 1)
written-next spliced {i} {b} h =
    let seen = take 97 spliced in
    ap (set (written seen i) i) (h.1 ∙ get_or_default seen i b 0 h.0)
    ∙ written-more seen i (omega (arith, seen-length spliced, h.0)) h.0

pub written_all : (spliced : List ℕ) {i : ℕ} → i ≡ length (take 97 spliced)
    → written (take 97 spliced) i ≡ padded (take 97 spliced)
written_all spliced {i} e =
    let seen = take 97 spliced in
    ap (written seen) e ∙ ap (λ (l : List ℕ). l ++ replicate {A = ℕ} (97 - length seen) 0) (take_all (length seen) seen (omega arith))
