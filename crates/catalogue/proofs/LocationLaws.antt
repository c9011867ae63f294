-- What a location says (MEANING 9.3, 9.4): where a formula is found, its record is the only one with the number (`one_record`), both
-- catalogues are whole, and the part lies within its catalogue (`location-within`); damage is told whatever the other bytes and the number
-- are. Assumes nothing.
use mathlib.Core.Path.{◌≡◌, refl, sym, ap, subst, ◌∙◌}
use mathlib.Core.Logic.{inl, inr}
use mathlib.Core.Bool.{Bool, cond}
use mathlib.Core.List.Memᴰ
use mathlib.Core.List.{List, [], ◌∷◌, Memᴰ}
use Prim.Native.Nat.{ℕ, ◌+◌, ◌≤◌}
use native.Mathlib.Omega.{arith}
use lib.Dec.{T, eqb, eqb→eq, eqb_refl}
use lib.ListN.{length}
use Rattle.std.specs.Prelude.{Option, Some, None, find, Ok, Err}
use Rattle.base.proofs.BoolLaws.{by_test}
use Rattle.base.proofs.SortedLaws.{sorted_either}
use Rattle.catalogue.specs.Records.{Records, records}
use Rattle.catalogue.specs.Location.{Location, found, numbered, chosen, asked, location}
use Rattle.catalogue.specs.Contract.{of_layer}
use Rattle.catalogue.specs.declared.Record.{Record}
use Rattle.catalogue.specs.declared.Layer.{Layer}
use Rattle.catalogue.specs.declared.Layer.TheVariants.{Overlay, Base}
use Rattle.catalogue.specs.declared.Refusal.TheVariants.{Damaged, Missing}
use Rattle.catalogue.proofs.RunLaws.{whole_run, run-stands, Below, run-rising}

-- ---- the first element that passes a test
module _ {A : Type 0} (q : A → Bool) where
  pub record Passing (xs : List A) (x : A) : Type 0 where
    pub present : Memᴰ x xs
    pub passes : T (q x)

  find_some : (xs : List A) {x : A} → find q xs ≡ Some x → Passing xs x
  find_some [] e = absurd (let z : ◌≡◌ {A = ℕ} 0 1 = cc in omega arith)
  find_some (y ∷ ys) {x} e =
      by_test (q y) (λ b. cond b (Some y) (find q ys) ≡ Some x → Passing (y ∷ ys) x)
      (λ t r. let i : x ≡ y = cc in record { present = Memᴰ.head i; passes = subst (λ (a : A). T (q a)) (sym i) t })
      (λ n r. let l = find_some ys r in record { present = Memᴰ.tail l.present; passes = l.passes })
      e

  find_none : (xs : List A) → find q xs ≡ None → {x : A} → Memᴰ x xs → T (q x) → ⊥
  find_none [] e m h = Memᴰ.not-nil m
  find_none (y ∷ ys) e {x} m h =
      by_test (q y) (λ b. cond b (Some y) (find q ys) ≡ None → ⊥)
      (λ t r. let z : ◌≡◌ {A = ℕ} 0 1 = cc in omega arith)
      (λ n r.
      elim (Memᴰ.cases_cons m) [ inl i ↦ n (subst (λ (a : A). T (q a)) i h) | inr o ↦ find_none ys r o h ])
      e

-- ---- one catalogue
-- At most one record of a catalogue has a number.
pub one_record : (bytes : List ℕ) {rs : List Record} → records bytes ≡ Records.whole rs
    → (r s : Record) → Memᴰ r rs → Memᴰ s rs → r.number ≡ s.number → r ≡ s
one_record bytes e r s m k h =
    elim (sorted_either Below (run-rising (whole_run bytes e)) m k) [
      | inl q ↦ q
      | inr q ↦ elim q [ inl l ↦ absurd (omega arith) | inr l ↦ absurd (omega arith) ]
    ]

-- The record that is looked up has the number and is in the catalogue; where there is none, no record has it.
pub record Listed (rs : List Record) (n : ℕ) (r : Record) : Type 0 where
  pub present : Memᴰ r rs
  pub has : r.number ≡ n

abbrev pub Unlisted : List Record → (n : ℕ) → Type 0
Unlisted rs n = (r : Record) → Memᴰ r rs → r.number ≡ n → ⊥

module _ (bytes : List ℕ) {rs : List Record} (e : records bytes ≡ Records.whole rs) (n : ℕ) where
  numbered-some : {r : Record} → numbered n rs ≡ Some r → Listed rs n r
  numbered-some {r} q =
      let l = find_some (λ (r : Record). eqb r.number n) rs q in
      record { present = l.present; has = eqb→eq r.number n l.passes }

  numbered-none : numbered n rs ≡ None → Unlisted rs n
  numbered-none q r m h =
      find_none (λ (r : Record). eqb r.number n) rs q m (subst (λ (k : ℕ). T (eqb k n)) (sym h) (eqb_refl n))

  -- and the other way round
  pub listed-numbered : {r : Record} → Listed rs n r → numbered n rs ≡ Some r
  listed-numbered {r} l = by_outcome (numbered n rs) refl
    where
      by_outcome : (o : Option Record) → numbered n rs ≡ o → o ≡ Some r
      by_outcome None q = absurd (numbered-none q r l.present l.has)
      by_outcome (Some s) q =
          let k = numbered-some q in
          ap Some (one_record bytes e s r k.present l.present (k.has ∙ sym l.has))

  pub unlisted_numbered : Unlisted rs n → numbered n rs ≡ None
  unlisted_numbered u = by_outcome (numbered n rs) refl
    where
      by_outcome : (o : Option Record) → numbered n rs ≡ o → o ≡ None
      by_outcome None q = refl
      by_outcome (Some s) q = let k = numbered-some q in absurd (u s k.present k.has)

-- A formula lies within its catalogue.
pub listed-within : (bytes : List ℕ) {rs : List Record} → records bytes ≡ Records.whole rs → (r : Record) → Memᴰ r rs
    → r.start + r.size ≤ length bytes
listed-within bytes e r m =
    let s = run-stands (whole_run bytes e) r m in
    subst (λ (r : Record). r.start + r.size ≤ length bytes) (sym s.is) s.whole.ended

-- ---- two catalogues
-- The cases of a location, by what is found in the two byte strings. specs/Overlay.antt says it of catalogues and faults.
pub data Located (overlay base : List ℕ) (n : ℕ) : Location → Type 0 where
  damaged_over : {p : ℕ} → records overlay ≡ Records.damaged p → Located overlay base n (Err (Damaged Overlay p))
  damaged_under : {p : ℕ} {os : List Record} → records overlay ≡ Records.whole os → records base ≡ Records.damaged p
      → Located overlay base n (Err (Damaged Base p))
  found_over : {os bs : List Record} {r : Record} → records overlay ≡ Records.whole os → records base ≡ Records.whole bs
      → Listed os n r → Located overlay base n (found Overlay r.start r.size)
  found_under : {os bs : List Record} {r : Record} → records overlay ≡ Records.whole os → records base ≡ Records.whole bs
      → Unlisted os n → Listed bs n r → Located overlay base n (found Base r.start r.size)
  missing : {os bs : List Record} → records overlay ≡ Records.whole os → records base ≡ Records.whole bs
      → Unlisted os n → Unlisted bs n → Located overlay base n (Err Missing)

module _ (overlay base : List ℕ) (n : ℕ) where
  chosen-located : {os bs : List Record} → records overlay ≡ Records.whole os → records base ≡ Records.whole bs
      → (o b : Option Record) → numbered n os ≡ o → numbered n bs ≡ b → Located overlay base n (chosen o b)
  chosen-located p q (Some r) b e f = Located.found_over p q (numbered-some overlay p n e)
  chosen-located p q None (Some r) e f = Located.found_under p q (numbered-none overlay p n e) (numbered-some base q n f)
  chosen-located p q None None e f = Located.missing p q (numbered-none overlay p n e) (numbered-none base q n f)

  under-located : {os : List Record} → records overlay ≡ Records.whole os → (bs : Records) → records base ≡ bs
      → Located overlay base n (asked (Records.whole os) bs n)
  under-located p (Records.damaged place) q = Located.damaged_under p q
  under-located {os} p (Records.whole bs) q = chosen-located p q (numbered n os) (numbered n bs) refl refl

  over-located : (os : Records) → records overlay ≡ os → Located overlay base n (asked os (records base) n)
  over-located (Records.damaged place) p = Located.damaged_over p
  over-located (Records.whole os) p = under-located p (records base) refl

  pub location_cases : Located overlay base n (location overlay base n)
  location_cases = over-located (records overlay) refl

-- The part that is found lies within its catalogue.
abbrev pub Within : (overlay base : List ℕ) → Location → Type 0
Within overlay base (Ok f) = f.start + f.size ≤ of_layer f.layer (length overlay) (length base)
Within overlay base (Err why) = Unit {0}

located-within : {overlay base : List ℕ} {n : ℕ} {l : Location} → Located overlay base n l → Within overlay base l
located-within (Located.damaged_over p) = tt
located-within (Located.damaged_under p q) = tt
located-within {overlay} (Located.found_over {r = r} p q e) = listed-within overlay p r e.present
located-within {base = base} (Located.found_under {r = r} p q w e) = listed-within base q r e.present
located-within (Located.missing p q w v) = tt

pub location-within : (overlay base : List ℕ) (n : ℕ) {l : Location} → location overlay base n ≡ l → Within overlay base l
location-within overlay base n e = subst (Within overlay base) e (located-within (location_cases overlay base n))

-- What is found in each settles the location.
pub location_by : (overlay base : List ℕ) (n : ℕ) {os bs : Records} → records overlay ≡ os → records base ≡ bs
    → location overlay base n ≡ asked os bs n
location_by overlay base n {os} p q = ap (λ os. asked os (records base) n) p ∙ ap (λ bs. asked os bs n) q

-- A damaged catalogue is never looked into: whatever the number is, and for the overlay whatever the base catalogue is, damage is told.
pub damaged_overlay : (overlay : List ℕ) {p : ℕ} → records overlay ≡ Records.damaged p
    → (base : List ℕ) (n : ℕ) → location overlay base n ≡ Err (Damaged Overlay p)
damaged_overlay overlay e base n = location_by overlay base n e refl

pub damaged_base : (overlay base : List ℕ) {os : List Record} {p : ℕ} → records overlay ≡ Records.whole os
    → records base ≡ Records.damaged p → (n : ℕ) → location overlay base n ≡ Err (Damaged Base p)
damaged_base overlay base d e n = location_by overlay base n d e

-- what is so of the two is so of the one that is taken
pub of_layer-map : {A B : Type 0} (f : A → B) (layer : Layer) (overlay base : A)
    → f (of_layer layer overlay base) ≡ of_layer layer (f overlay) (f base)
of_layer-map f Overlay overlay base = refl
of_layer-map f Base overlay base = refl
