-- Marks for the words in an area. A word whose slot has no mark is none of those known (`unmarked`), since equal words have equal slots; a
-- word that stands at a known place is one of them (`stands`). A word more with its mark keeps the marks (`marked_more`): what is put is
-- what is read, the words before it stay, and no slot loses its mark. Assumes nothing.
use Rattle.std.proofs.Common.{◌≡◌, refl, sym, ap, subst, ◌∙◌, ◌⊎◌, inl, inr, Bool, true, false, ◌||◌, List, ℕ, zero, suc, ◌+◌, ◌*◌, ◌^◌}
use Rattle.std.proofs.Common.{◌≤◌, ◌<◌, arith, eqb, length, get_or, set, length-set, get_or-set_same, get_or-set_other, eq-eqb, ne_eqb}
use Rattle.std.proofs.Math.Bool.{or-true}
use Rattle.std.proofs.Math.Decide.{dec_lt, ℕ_discrete}
use Rattle.std.proofs.Math.Path.{subst⁻¹}
use Rattle.base.specs.Lists.{member}
use Rattle.base.specs.Bytes.{with_number}
use Rattle.base.proofs.BytesLaws.{number_same, number-written, before-written}
use Rattle.tableau.specs.Area.{eight, words_at, slot_of, SlotsMarked}

-- whether a word is among those of n places, by what stands there
no_member : (x : ℕ) (a : List ℕ) (i n : ℕ) → ((j : ℕ) → i ≤ j → j < i + n → eight a (8 * j) ≡ x → ⊥) → member x (words_at a i n) ≡ false
no_member x a i zero f = refl
no_member x a i (suc n) f =
    rw (
      ne_eqb x (eight a (8 * i)) (λ q. f i (omega arith) (omega arith) (sym q)),
      no_member x a (suc i) n (λ j l m. f j (omega arith) (omega arith)),
    )

a_member : (x : ℕ) (a : List ℕ) (i n j : ℕ) → i ≤ j → j < i + n → eight a (8 * j) ≡ x → member x (words_at a i n) ≡ true
a_member x a i zero j l m e = absurd (omega arith)
a_member x a i (suc n) j l m e =
    elim (dec_lt i j) [
      | yes k ↦ ap (λ (b : Bool). eqb x (eight a (8 * i)) || b) (a_member x a (suc i) n j (omega arith) (omega arith) e)
          ∙ or-true (eqb x (eight a (8 * i)))
      | no k ↦ rw (eq-eqb x (eight a (8 * i)) (sym e ∙ ap (λ (k : ℕ). eight a (8 * k)) {x = j} {y = i} (omega arith)))
    ]

pub unmarked : {known k mark : ℕ} {area slots : List ℕ} (x : ℕ) → SlotsMarked known area slots → k ≡ slot_of x → mark ≡ get_or slots k 0
    → mark ≡ 0
    → member x (words_at area 0 known) ≡ false
unmarked {known} {area = area} {slots} x m p q e =
    no_member x area 0 known
    (λ j l h r.
    let o : 0 < get_or slots (slot_of x) 0 = subst (λ (y : ℕ). 0 < get_or slots (slot_of y) 0) r (m.is j (omega arith)) in
    omega (arith, ap (λ (i : ℕ). get_or slots i 0) p))

pub stands : (known : ℕ) (area : List ℕ) (x i : ℕ) → i < known → eight area (8 * i) ≡ x → member x (words_at area 0 known) ≡ true
stands known area x i h e = a_member x area 0 known i (omega arith) (omega arith) e

-- a mark more keeps the others
set_mark : (slots : List ℕ) (k j m : ℕ) → k < length slots → 0 < m → (j ≡ k) ⊎ (0 < get_or slots j 0) → 0 < get_or (set slots k m) j 0
set_mark slots k j m l p h =
    elim (ℕ_discrete j k) [
      | yes e ↦ subst⁻¹ (λ (i : ℕ). 0 < get_or (set slots k m) i 0) e (subst⁻¹ (λ (y : ℕ). 0 < y) (get_or-set_same slots k m 0 l) p)
      | no n ↦ subst⁻¹ (λ (y : ℕ). 0 < y) (get_or-set_other slots k j m 0 n) (elim h [ inl e ↦ absurd (n e) | inr q ↦ q ])
    ]

pub marked-none : (area slots : List ℕ) → 2048 ≤ length slots → SlotsMarked 0 area slots
marked-none area slots h = record { long = h; is = λ i h. absurd (omega arith) }

pub marked_more : {known k : ℕ} {area area' slots : List ℕ} (x m : ℕ) → SlotsMarked known area slots → 8 * known ≤ length area → x < 2 ^ 64
    → k ≡ slot_of x → 0 < m → area' ≡ with_number 8 area (8 * known) x → SlotsMarked (known + 1) area' (set slots k m)
marked_more {known} {k} {area} {area'} {slots} x m ms room small q p e = record {
  long = omega (arith, length-set slots k m, ms.long);
  is = λ i h.
      subst⁻¹ (λ (b : List ℕ). 0 < get_or (set slots k m) (slot_of (eight b (8 * i))) 0) e
      (set_mark slots k (slot_of (eight (with_number 8 area (8 * known) x) (8 * i))) m (omega (arith, ms.long)) p (by i h));
}
  where
    by : (i : ℕ) → i < known + 1
        → (slot_of (eight (with_number 8 area (8 * known) x) (8 * i)) ≡ k)
        ⊎ (0 < get_or slots (slot_of (eight (with_number 8 area (8 * known) x) (8 * i))) 0)
    by i h =
        elim (dec_lt i known) [
          | yes n ↦
              let kept = number_same 8 (with_number 8 area (8 * known) x) area (8 * i) (8 * i)
              (λ j o. before-written 8 area (8 * known) x (8 * i + j) room (omega arith)) in
              inr (subst⁻¹ (λ (y : ℕ). 0 < get_or slots (slot_of y) 0) kept (ms.is i n))
          | no n ↦
              let here = ap (λ (j : ℕ). eight (with_number 8 area (8 * known) x) (8 * j)) {x = i} {y = known} (omega arith) in
              inl (ap slot_of (here ∙ number-written 8 area (8 * known) x room small) ∙ sym q)
        ]
