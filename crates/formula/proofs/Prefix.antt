-- MEANING 1.6: 97 bytes decide the outcome. Every operator has at most two bytes and at most 48 are read, so reading never looks at a
-- place above 96: two inputs that agree so far are read alike (Alike). Assumes nothing.
use Rattle.std.proofs.Common.{◌≡◌, refl, sym, ap, List, [], ◌∷◌, ℕ, suc, ◌+◌, ◌-◌, ◌*◌, ◌≤◌, arith, length, take, take-take}
use Rattle.formula.specs.Formula.{Formula}
use Rattle.formula.specs.declared.Refusal.{Refusal}
use Rattle.formula.specs.Reading.{Head, Read, Reading, ended, whole, start, parse, reading, with_entries}
use Rattle.formula.proofs.RefusalLaws.{moved_nowhere}
use Rattle.formula.proofs.Alike.{Alike, Look, Looks, Near, same, over, formula-alike}

-- s more bytes may be looked at before the next command counts, and the bytes left agree up to place 97
pub record Window (s : ℕ) (h : Head) (l : List ℕ) : Type 0 where
  pub place : h.at + s ≤ 2 * h.commands + 1
  pub few : h.commands ≤ 48
  pub agree : take (97 - h.at) h.left ≡ take (97 - h.at) l

-- nothing is to be shown of a refusal
abbrev Any : Refusal → Type 0
Any why = Unit {0}

module _ (s : ℕ) (h : Head) where
  -- j: how many of the bytes behind the first one agree
  look_in : (j : ℕ) (x y : List ℕ) → take (suc j) x ≡ take (suc j) y → (97 - (h.at + 1) ≡ j) → h.at + suc s ≤ 2 * h.commands + 1
      → h.commands ≤ 48 → Look Any (Window s) h x y
  look_in j [] [] e q i k = Look.none (λ fault c. tt)
  look_in j [] (b ∷ y) e q i k = absurd (let z : ◌≡◌ {A = ℕ} 0 1 = cc in omega arith)
  look_in j (a ∷ x) [] e q i k = absurd (let z : ◌≡◌ {A = ℕ} 0 1 = cc in omega arith)
  look_in j (a ∷ x) (b ∷ y) e q i k =
      let c : a ≡ b = cc in
      let t : take j x ≡ take j y = cc in
      rw c (Look.some {x = x} {y = y} (record { place = omega arith; few = k; agree = rw q t }))

looks_in : Looks Any Window
looks_in =
    record {
      look = λ s h l r.
          let e : 97 - h.at ≡ suc (96 - h.at) = omega (arith, r.place, r.few) in
          look_in s h (96 - h.at) h.left l (rw e at r.agree) (omega arith) r.place r.few;
      count = λ o n f h l c r. record { place = omega (arith, r.place); few = omega arith; agree = r.agree };
      fewer = λ h l r. record { place = omega (arith, r.place); few = r.few; agree = r.agree };
      refuse = λ s h x y why c r. tt;
    }

ended-alike : {R : Head → List ℕ → Type 0} (f : Formula) (h : Head) {x y : List ℕ} → Look Any R h x y → ended f h x ≡ ended f (over h y) y
ended-alike f h (Look.none p) = refl
ended-alike f h (Look.some r) = refl

whole-alike : {n m : ℕ} {x y : Read Formula} → Alike Any same (Near Window n m 1) x y → whole x ≡ whole y
whole-alike (Alike.refused {why} p) = ap Reading.refused (sym (moved_nowhere why))
whole-alike (Alike.got {a} {h} {l} r) = ended-alike a h (looks_in.look 0 h l r.alike)

-- what agrees in the first 97 bytes is the same formula, or refused alike
pub parse-alike : (a b : List ℕ) → take 97 a ≡ take 97 b → parse a ≡ parse b
unfolding parse
parse-alike a b e =
    whole-alike (formula-alike Any same (λ i. refl) Window looks_in (length a) (length b) [] (start a) b
    (record { alike = record { place = omega arith; few = omega arith; agree = e }; first = omega arith; second = omega arith }))

pub parse_prefix : (bytes : List ℕ) → parse (take 97 bytes) ≡ parse bytes
parse_prefix bytes = parse-alike (take 97 bytes) bytes (take-take 97 97 bytes (omega arith))

pub reading_prefix : (bytes : List ℕ) → reading (take 97 bytes) ≡ reading bytes
unfolding reading
reading_prefix bytes = ap with_entries (parse_prefix bytes)
