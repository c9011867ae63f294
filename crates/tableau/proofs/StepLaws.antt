-- The transitions between the nodes of an area, noted in a relation. A set is looked up (`found_at`). Whether it was known or comes in, it
-- stands where its answer says, and those before it stay (`located-number`, `came_last`). A step that leads to a node is noted once this
-- has its number. Over the choice words of a node: what the first x of them lead to is noted (`Noting`).
-- Over the nodes: the transitions of the first i of them are noted (`steps_turn`). Assumes nothing.
use Rattle.std.proofs.Common.{Option, Some, None, IfSome, ◌≡◌, refl, sym, ap, subst, ◌∙◌, ◌⊎◌, inl, inr, Bool, true, false, cond, ◌&&◌}
use Rattle.std.proofs.Common.{List, [], ◌∷◌, ℕ, zero, suc, ◌+◌, ◌*◌, ◌^◌, ◌≤◌, ◌<◌, arith, T, eqb, ltb, length, eq-eqb, ltb-true}
use Rattle.std.proofs.Common.{eqb-true}
use Rattle.std.proofs.Math.Decide.{dec_lt}
use Rattle.std.proofs.Math.Path.{subst⁻¹}
use mathlib.Core.List.{Memᴰ}
use mathlib.Core.List.Memᴰ
use Rattle.base.specs.Lists.{index, member}
use Rattle.base.specs.Bits.{word}
use Rattle.base.specs.Bytes.{with_number}
use Rattle.base.proofs.BoolLaws.{by_test, of_T, to_T, and_left, and_right, and_both, or_cases, or_left, or_right}
use Rattle.base.proofs.BytesLaws.{number_same, number-written, before-written}
use Rattle.formula.specs.Table.{Table}
use Rattle.relation.specs.Relation.{linked, Unrelated, Widened}
use Rattle.tableau.specs.Saturation.{Subset, saturate}
use Rattle.tableau.specs.Transition.{ors, choice_of, Transition, by_word}
use Rattle.tableau.specs.Inner.{table_of, TargetBy}
use Rattle.tableau.specs.Area.{eight, words_at, lookup, SlotsMarked}
use Rattle.tableau.specs.Steps.{Located, known_then, CameIn, Stay, Noted, StepNoted, LeadsTo, StepsOf, StepsBefore, StepsNoted}
use Rattle.tableau.specs.declared.Added.{Added}
use Rattle.tableau.specs.declared.NodeNumber.{NodeNumber}
use Rattle.tableau.specs.declared.Target.{Target}
use Rattle.tableau.proofs.TransitionLaws.{word_of, word_in, transition_with}
use Rattle.tableau.proofs.TargetLaws.{a_target, target-nowhere}
use Rattle.tableau.proofs.AreaLaws.{absent_member}

-- the word with the number that a lookup gives
index_word : (a : List ℕ) (x i n : ℕ) → index (eqb x) (words_at a i n) < n → eight a (8 * (i + index (eqb x) (words_at a i n))) ≡ x
index_word a x i zero h = absurd (omega arith)
index_word a x i (suc n) h =
    by_test (eqb x (eight a (8 * i)))
    (λ b. cond b 0 (suc (index (eqb x) (words_at a (suc i) n))) < suc n
    → eight a (8 * (i + cond b 0 (suc (index (eqb x) (words_at a (suc i) n))))) ≡ x)
    (λ q l. ap (λ (k : ℕ). eight a (8 * k)) {x = i + 0} {y = i} (omega arith) ∙ sym (eqb-true x (eight a (8 * i)) (of_T _ q)))
    (λ q l.
    ap (λ (k : ℕ). eight a (8 * k)) {x = i + suc (index (eqb x) (words_at a (suc i) n))}
    {y = suc i + index (eqb x) (words_at a (suc i) n)} (omega arith)
    ∙ index_word a x (suc i) n (omega arith))
    h

pub found_at : (a : List ℕ) (known x : ℕ) {r : Option NodeNumber} → r ≡ lookup known (index (eqb x) (words_at a 0 known))
    → Located known a x r
found_at a known x e =
    subst⁻¹ (Located known a x) e
    (by (ltb place known) refl)
  where
    place : ℕ
    place = index (eqb x) (words_at a 0 known)

    by : (b : Bool) → ltb place known ≡ b → Located known a x (cond b (Some (record { 0 = place })) None)
    by true q =
        let h = ltb-true place known q in
        (h, ap (λ (k : ℕ). eight a (8 * k)) {x = place} {y = 0 + place} (omega arith) ∙ index_word a x 0 known h)
    by false q =
        sym (absent_member a known x {r = None}
        (ap (λ (b : Bool). cond b (Some (record { 0 = place })) None) (sym q)) refl)

-- what a lookup says, by its answer
pub located_absent : (known : ℕ) (area : List ℕ) (x : ℕ) {r : Option NodeNumber} → Located known area x r → r ≡ None
    → member x (words_at area 0 known) ≡ false
located_absent known area x l e = subst (Located known area x) e l

pub located-number : (known : ℕ) (area : List ℕ) (x : ℕ) {r : Option NodeNumber} {n : NodeNumber} → Located known area x r → r ≡ Some n
    → (n.0 < known) × (eight area (8 * n.0) ≡ x)
located-number known area x l e = subst (Located known area x) e l

-- a word that is put behind those known: it stands there, and they stay
pub came_last : (known x : ℕ) {area area' : List ℕ} → 8 * known ≤ length area → x < 2 ^ 64 → area' ≡ with_number 8 area (8 * known) x
    → (eight area' (8 * known) ≡ x) × Stay known area area'
came_last known x {area} room small e = (
  ap (λ (b : List ℕ). eight b (8 * known)) e ∙ number-written 8 area (8 * known) x room small,
  record {
    is = λ j h.
        ap (λ (b : List ℕ). eight b (8 * j)) e
        ∙ number_same 8 (with_number 8 area (8 * known) x) area (8 * j) (8 * j)
        (λ k o. before-written 8 area (8 * known) x (8 * j + k) room (omega arith));
  },
)

-- a step that leads nowhere leaves all as it is

-- where it came in, all that are known are marked
pub came_marked : (known x : ℕ) (area : List ℕ) {capacity : ℕ} {area' slots : List ℕ} (r : Option Added)
    → IfSome r (CameIn known capacity x area area' slots)
    → known_then capacity r ≤ capacity → SlotsMarked (known_then capacity r) area' slots
came_marked known x area None m h = absurd (omega arith)
came_marked known x area (Some r) m h = m.marked

-- The loop over the choice words of node i, whose word is `from`: what the first x of them lead to is noted, and nothing else is.
pub record Noting (rows : List ℕ) (count i from known : ℕ) (area₀ rel₀ : List ℕ) (all x : ℕ) (area rel : List ℕ) : Type 0 where
  pub stay : Stay known area₀ area
  pub keeps : (u a : ℕ) → T (linked rel₀ u a) → T (linked rel u a)
  pub only : (u a : ℕ) → T (linked rel u a)
      → T (linked rel₀ u a) ⊎ ((a ≡ i) × (u < all) × LeadsTo rows count from (eight area (8 * u)))
  pub words : (y : ℕ) → y < x → (v : Subset) → length v ≡ count → from ≡ word v → (s : Transition)
      → Memᴰ s (by_word (table_of rows count) y v)
      → (u : ℕ) × (u < all) × (eight area (8 * u) ≡ word s.to) × T (linked rel u i)

module _ {rows : List ℕ} {count i from known all x r : ℕ} {area₀ rel₀ area rel area' : List ℕ}
    (n : Noting rows count i from known area₀ rel₀ all x area rel) (low : known ≤ all) (grows : all ≤ r)
    (still : Stay all area area') where
  abbrev t : Table
  t = table_of rows count

  -- what was noted stays so in a larger relation over more nodes
  kept-only : (u a : ℕ) → T (linked rel u a)
      → T (linked rel₀ u a) ⊎ ((a ≡ i) × (u < r) × LeadsTo rows count from (eight area' (8 * u)))
  kept-only u a h =
      elim (n.only u a h) [
        | inl b ↦ inl b
        | inr (e, l, f) ↦ inr (e, omega arith, subst⁻¹ (LeadsTo rows count from) (still.is u l) f)
      ]

  kept-words : (rel' : List ℕ) → ((u a : ℕ) → T (linked rel u a) → T (linked rel' u a))
      → (y : ℕ) → y < x → (v : Subset) → length v ≡ count → from ≡ word v → (s : Transition)
      → Memᴰ s (by_word t y v) → (u : ℕ) × (u < r) × (eight area' (8 * u) ≡ word s.to) × T (linked rel' u i)
  kept-words rel' k y h v len e s m =
      let (u, l, w, b) = n.words y h v len e s m in
      (u, omega arith, still.is u l ∙ w, k u i b)

  -- a choice word more, by where it leads
  turned : {rel' : List ℕ} (target : Option Target) → x < 2 ^ ors t → TargetBy rows count x from target → Noted i target area' rel rel' r
      → Noting rows count i from known area₀ rel₀ r (x + 1) area' rel'
  turned {rel'} None h st q = record {
    stay = record { is = λ j l. still.is j (omega arith) ∙ n.stay.is j l };
    keeps = λ u a b. same u a (n.keeps u a b);
    only = λ u a b. kept-only u a (subst (λ (z : List ℕ). T (linked z u a)) q b);
    words = λ y l v len e s m.
        elim (dec_lt y x) [
          | yes k ↦ kept-words rel' same y k v len e s m
          | no k ↦
              let none : by_word t y v ≡ [] =
              ap (λ (z : ℕ). by_word t z v) {x = y} {y = x} (omega arith) ∙ (target-nowhere st refl).is v len e in
              absurd (Memᴰ.not-nil (subst (Memᴰ s) none m))
        ];
  }
    where
      same : (u a : ℕ) → T (linked rel u a) → T (linked rel' u a)
      same u a b = subst⁻¹ (λ (z : List ℕ). T (linked z u a)) q b
  turned {rel'} (Some y) h st (p, l, w, q) = record {
    stay = record { is = λ j l. still.is j (omega arith) ∙ n.stay.is j l };
    keeps = λ u a b. more u a (n.keeps u a b);
    only = λ u a b.
        elim (or_cases (linked rel u a) (eqb u p && eqb a i) (subst T (q.is u a) b)) [
          | inl c ↦ kept-only u a c
          | inr c ↦
              let d : u ≡ p = eqb-true u p (of_T (eqb u p) (and_left (eqb u p) (eqb a i) c)) in
              inr (
                eqb-true a i (of_T (eqb a i) (and_right (eqb u p) (eqb a i) c)),
                omega arith,
                subst⁻¹ (λ (z : ℕ). LeadsTo rows count from (eight area' (8 * z))) d
                    (subst⁻¹ (LeadsTo rows count from) w leads),
              )
        ];
    words = λ y b v len e s m.
        elim (dec_lt y x) [
          | yes k ↦ kept-words rel' more y k v len e s m
          | no k ↦
              let z = a_target t (choice_of t x) (saturate t (choice_of t x) v) (st.is v len e) in
              let one : by_word t y v ≡ transition_with t (choice_of t x) (saturate t (choice_of t x) v) ∷ [] =
              ap (λ (c : ℕ). by_word t c v) {x = y} {y = x} (omega arith) ∙ z.exists in
              let same = Memᴰ.eq_of_singleton (subst (Memᴰ s) one m) in
              (p, l, w ∙ z.to_is ∙ ap (λ (c : Transition). word c.to) (sym same), there)
        ];
  }
    where
      more : (u a : ℕ) → T (linked rel u a) → T (linked rel' u a)
      more u a b = subst⁻¹ T (q.is u a) (or_left (linked rel u a) (eqb u p && eqb a i) b)

      there : T (linked rel' p i)
      there =
          subst⁻¹ T (q.is p i)
          (or_right (linked rel p i) (eqb p p && eqb i i)
          (and_both (eqb p p) (eqb i i) (to_T (eqb p p) (eq-eqb p p refl)) (to_T (eqb i i) (eq-eqb i i refl))))

      leads : LeadsTo rows count from y.to
      leads v len e =
          let w = choice_of t x in
          let z = a_target t w (saturate t w v) (st.is v len e) in
          let s = transition_with t w (saturate t w v) in
          (s, word_in t v x h (subst⁻¹ (Memᴰ s) z.exists (Memᴰ.head refl)), sym z.to_is)

pub noting_turn : {rows : List ℕ} {count i from known all x r : ℕ} {area₀ rel₀ area rel area' rel' : List ℕ} {target : Option Target}
    → Noting rows count i from known area₀ rel₀ all x area rel → known ≤ all → all ≤ r → x < 2 ^ ors (table_of rows count)
    → TargetBy rows count x from target → StepNoted i target all area area' rel rel' r
    → Noting rows count i from known area₀ rel₀ r (x + 1) area' rel'
noting_turn {target} n low grows h st s = turned n low grows s.stay target h st s.noted

-- all choice words make all transitions
pub noting_end : {rows : List ℕ} {count i from known all x : ℕ} {area₀ rel₀ area rel : List ℕ}
    → Noting rows count i from known area₀ rel₀ all x area rel → from ≡ eight area₀ (8 * i) → 2 ^ ors (table_of rows count) ≤ x
    → StepsOf rows count i known area₀ area rel₀ rel all
noting_end {rows} {count} {i} {all = all} {area₀ = area₀} {rel₀} {area} {rel} n e h = record {
  stay = n.stay;
  keeps = n.keeps;
  only = λ u a b.
      elim (n.only u a b) [
        | inl c ↦ inl c
        | inr (d, l, f) ↦ inr (d, l, subst (λ (w : ℕ). LeadsTo rows count w (eight area (8 * u))) e f)
      ];
  all = λ v len q s m.
      let (y, l, k) = word_of (table_of rows count) v m in
      n.words y (omega arith) v len (e ∙ q) s k;
}

-- The loop over the nodes.
pub steps_start : (rows : List ℕ) (count known : ℕ) (area rel : List ℕ) → Unrelated rel → StepsBefore rows count 0 known area rel
steps_start rows count known area rel n = record {
  only = λ u a b. absurd (subst T (n.is u a) b);
  all = λ a h. absurd (omega arith);
}

pub steps_turn : {rows : List ℕ} {count i known r : ℕ} {area rel area' rel' : List ℕ} → StepsBefore rows count i known area rel → i < known
    → known ≤ r → StepsOf rows count i known area area' rel rel' r → StepsBefore rows count (i + 1) r area' rel'
steps_turn {rows} {count} {i} {known} {r} {area} {rel} {area'} {rel'} b h grows s = record {
  only = λ u a q.
      elim (s.only u a q) [
        | inl c ↦
            let (k, l, f) = b.only u a c in (
              omega arith,
              omega arith,
              subst⁻¹ (λ (w : ℕ). LeadsTo rows count w (eight area' (8 * u))) (s.stay.is a (omega arith))
                  (subst⁻¹ (LeadsTo rows count (eight area (8 * a))) (s.stay.is u l) f),
            )
        | inr (e, l, f) ↦ (
          omega arith,
          l,
          subst⁻¹ (λ (w : ℕ). LeadsTo rows count w (eight area' (8 * u)))
              (ap (λ (j : ℕ). eight area' (8 * j)) e ∙ s.stay.is i h) f,
        )
      ];
  all = λ a k v len q t m.
      elim (dec_lt a i) [
        | yes l ↦
            let (u, c, w, d) = b.all a l v len (sym (s.stay.is a (omega arith)) ∙ q) t m in
            (u, omega arith, s.stay.is u c ∙ w, s.keeps u a d)
        | no l ↦
            let e : a ≡ i = omega arith in
            let (u, c, w, d) = s.all v len (sym (s.stay.is i h) ∙ ap (λ (j : ℕ). eight area' (8 * j)) (sym e) ∙ q) t m in
            (u, c, w, subst⁻¹ (λ (j : ℕ). T (linked rel' u j)) e d)
      ];
}

pub steps_end : {rows : List ℕ} {count i known : ℕ} {area rel : List ℕ} → StepsBefore rows count i known area rel → i ≤ known → known ≤ i
    → StepsNoted rows count known area rel
steps_end {rows} {count} {i} {known} {area} {rel} b h l =
    subst (λ (n : ℕ). StepsBefore rows count n known area rel) {x = i} {y = known} (omega arith) b

-- in another list that is the same relation
pub steps_widened : {rows : List ℕ} {count i known : ℕ} {area rel rel' : List ℕ} → Widened rel rel'
    → StepsBefore rows count i known area rel → StepsBefore rows count i known area rel'
steps_widened w b = record {
  only = λ u a h. b.only u a (subst T (w.is u a) h);
  all = λ a h v len q s m. let (u, c, e, d) = b.all a h v len q s m in (u, c, e, subst⁻¹ T (w.is u a) d);
}
