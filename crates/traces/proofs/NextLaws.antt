-- Triples by the ranks of next: a row is filled next by next, the rows one by one, and all rows together are the definition's triples.
-- Ranks of different nexts differ, so a row that is filled stays. Assumes nothing.
use Rattle.std.proofs.Common.{◌≡◌, ℕ, suc, ◌+◌, ◌*◌, ◌<◌, Bool, true, false, cond, List, [], ◌∷◌, map, length, get_or, set, refl, sym, ap}
use Rattle.std.proofs.Common.{subst, ◌∙◌, arith, add-one, true≢false}
use Rattle.std.proofs.Math.Decide.{ℕ_discrete}
use Rattle.std.proofs.Math.Seq.{get_or-set_same, get_or-set_other}
use Rattle.base.specs.Lists.{range}
use Rattle.base.specs.Bits.{bit, word}
use Rattle.base.proofs.WordLaws.{word-bit}
use Rattle.tableau.specs.Saturation.{Subset, has}
use Rattle.tableau.specs.Inner.{table_of}
use Rattle.profile_tables.specs.Triples.{those}
use Rattle.profile_tables.specs.Marks.{Marks, priorities, reached, row_of, blank, triples}
use Rattle.traces.specs.Inner.{next_at, next_rank, RowsLimited, TracesReached, RowFilled, Done, Empty, DoneTo, TriplesOf}
use Rattle.traces.proofs.RankLaws.{before-less, nexts_of, NextIn, nexts-at, nexts-all, operands-all, next-after}
use Rattle.traces.proofs.RankLaws.{other_after, next_small}
use Rattle.traces.proofs.MarkLaws.{marks_at, no_marks}

-- a next up to a subformula that is none is before it
earlier : (rows : List ℕ) (e : ℕ) → next_at rows e ≡ false → (i : ℕ) → i < e + 1 → next_at rows i ≡ true → i < e
earlier rows e d i h q = at (ℕ_discrete i e)
  where
    at : Dec (i ≡ e) → i < e
    at (yes p) = absurd (true≢false (sym q ∙ ap (next_at rows) p ∙ d))
    at (no p) = omega arith

-- a row, one next more
module _ (rows : List ℕ) (e f : ℕ) (marks t u : List ℕ) (s : RowFilled rows marks e f t u) where
  abbrev After : List ℕ → Type 0
  After v = RowFilled rows marks (e + 1) f t v

  pub row-skip : next_at rows e ≡ false → After u
  row-skip d = record { filled = λ i h q. s.filled i (earlier rows e d i h q) q; others = s.others }

  pub row-put : (g : ℕ) → g ≡ next_rank rows e → length u ≡ 144 → next_at rows e ≡ true → f < 12 → next_rank rows e < 12
      → After (set u (f * 12 + g) (get_or marks e 0))
  row-put g eg l q hf hg = record {
    filled = λ i h p. at i h p (ℕ_discrete i e);
    others = λ i. (
      (λ z. get_or-set_other u (f * 12 + g) i (get_or marks e 0) 0 (λ y. omega arith) ∙ (s.others i).0 z),
      λ z. get_or-set_other u (f * 12 + g) i (get_or marks e 0) 0 (λ y. omega arith) ∙ (s.others i).1 z,
    );
  }
    where
      at : (i : ℕ) → i < e + 1 → next_at rows i ≡ true → Dec (i ≡ e)
          → get_or (set u (f * 12 + g) (get_or marks e 0)) (f * 12 + next_rank rows i) 0 ≡ get_or marks i 0
      at i h p (yes y) =
          ap (λ (k : ℕ). get_or (set u (f * 12 + g) (get_or marks e 0)) (f * 12 + k) 0) (ap (next_rank rows) y ∙ sym eg)
          ∙ get_or-set_same u (f * 12 + g) (get_or marks e 0) 0 (omega arith)
          ∙ ap (λ (j : ℕ). get_or marks j 0) (sym y)
      at i h p (no y) =
          let less = before-less (next_at rows) i e (omega arith) p in
          get_or-set_other u (f * 12 + g) (f * 12 + next_rank rows i) (get_or marks e 0) 0 (λ z. omega arith)
          ∙ s.filled i (omega arith) p

-- the rows, one subformula more
module _ (rows : List ℕ) (count choice node e : ℕ) (t : List ℕ) (limited : RowsLimited rows count) (h : e < count)
    (state : DoneTo rows count choice node e t) where
  abbrev State : List ℕ → Type 0
  State u = DoneTo rows count choice node (e + 1) u

  pub skip_other : next_at rows e ≡ false → State t
  skip_other o = record {
    done = λ v w nv cw i d l oi k od. state.done v w nv cw i d (earlier rows e o i l oi) oi k od;
    empty = λ i l k. state.empty i (omega (arith, other_after rows e o)) k;
  }

  module _ (o : next_at rows e ≡ true) where
    held : (v : Subset) → node ≡ word v → (b : Bool) → bit node (e + 1) ≡ b → has v (suc e) ≡ b
    held v nv b q = ap (λ (k : ℕ). has v k) (sym (add-one e)) ∙ sym (word-bit v (e + 1)) ∙ ap (λ (x : ℕ). bit x (e + 1)) (sym nv) ∙ q

    -- what the definition has for the row of subformula i
    abbrev Cell : (v w : Subset) (i d : ℕ) → List ℕ → Type 0
    Cell v w i d u =
        priorities (bit (get_or u (next_rank rows i * 12 + next_rank rows d) 0))
        ≡ cond (has v (suc i)) (get_or (reached (table_of rows count) w (suc i)) d []) blank

    -- the row of e
    abbrev Cells : List ℕ → Type 0
    Cells u = (v w : Subset) → node ≡ word v → choice ≡ word w → (d : ℕ) → d < count → next_at rows d ≡ true → Cell v w e d u

    -- with those before
    filled : (u : List ℕ) → Cells u → Done rows count choice node e u → Empty (next_rank rows (e + 1)) u → State u
    filled u now past empty = record { done = λ v w nv cw i d l oi k od. at v w nv cw i d l oi k od (ℕ_discrete i e); empty = empty }
      where
        at : (v w : Subset) → node ≡ word v → choice ≡ word w → (i d : ℕ) → i < e + 1 → next_at rows i ≡ true → d < count
            → next_at rows d ≡ true → Dec (i ≡ e) → Cell v w i d u
        at v w nv cw i d l oi k od (yes p) = subst (λ (j : ℕ). Cell v w j d u) (sym p) (now v w nv cw d k od)
        at v w nv cw i d l oi k od (no p) = past v w nv cw i d (omega arith) oi k od

    pub skip_absent : bit node (e + 1) ≡ false → State t
    skip_absent b =
        filled t
        (λ v w nv cw d k od.
        no_marks (get_or t (next_rank rows e * 12 + next_rank rows d) 0)
        (state.empty (next_rank rows e * 12 + next_rank rows d) (omega arith)
        (omega (arith, next_small limited d k od, next_small limited e h o)))
        ∙ sym (ap (λ (c : Bool). cond c (get_or (reached (table_of rows count) w (suc e)) d []) blank) (held v nv false b)))
        state.done
        (λ i l k. state.empty i (omega (arith, next-after rows e o)) k)

    pub put-row : (marks r : List ℕ) (f : ℕ) → f ≡ next_rank rows e → bit node (e + 1) ≡ true
        → TracesReached rows count choice (e + 1) marks
        → RowFilled rows marks count f t r → State r
    put-row marks r f ef b m row =
        filled r
        (λ v w nv cw d k od.
        ap (λ (j : ℕ). priorities (bit (get_or r (j * 12 + next_rank rows d) 0))) (sym ef)
        ∙ ap (λ (x : ℕ). priorities (bit x)) (row.filled d k od)
        ∙ sym (marks_at count marks d k)
        ∙ ap (λ (l : Marks). get_or l d []) (m w cw ∙ ap (reached (table_of rows count) w) (add-one e))
        ∙ sym (ap (λ (c : Bool). cond c (get_or (reached (table_of rows count) w (suc e)) d []) blank) (held v nv true b)))
        (λ v w nv cw i d l oi k od.
        let less = before-less (next_at rows) i e l oi in
        let small = next_small limited d k od in
        ap (λ (x : ℕ). priorities (bit x)) ((row.others (next_rank rows i * 12 + next_rank rows d)).0 (omega arith))
        ∙ state.done v w nv cw i d l oi k od)
        (λ i l k. (row.others i).1 (omega (arith, next-after rows e o)) ∙ state.empty i (omega (arith, next-after rows e o)) k)

-- a map over a list is a map over the numbers of its elements
by_number : {A : Type 0} (F q : ℕ → A) (ns : List ℕ) (k : ℕ) → ((i : ℕ) → i < length ns → q (k + i) ≡ F (get_or ns i 0))
    → map q (range k (length ns)) ≡ map F ns
by_number F q [] k h = refl
by_number F q (x ∷ ns) k h =
    let a : q k ≡ F x = ap q {x = k} {y = k + 0} (omega arith) ∙ h 0 (omega arith) in
    let b = by_number F q ns (suc k) (λ i l. ap q {x = suc k + i} {y = k + suc i} (omega arith) ∙ h (suc i) (omega arith)) in
    λ j. a j ∷ b j

-- all rows
pub all_done : (rows : List ℕ) (count choice node : ℕ) (t : List ℕ) → RowsLimited rows count → Done rows count choice node count t
    → TriplesOf rows count choice node t
unfolding triples those
all_done rows count choice node t limited done v w nv cw =
    let ns = nexts_of rows 0 count in
    let cell : ℕ → ℕ → List Bool = (λ f g. priorities (bit (get_or t (f * 12 + g) 0))) in
    ap (λ (k : ℕ). map (λ f. map (cell f) (range 0 k)) (range 0 k)) (operands-all rows count ∙ sym (nexts-all rows count))
    ∙ by_number (λ e. row_of ns (has v (suc e)) (reached (table_of rows count) w (suc e))) (λ f. map (cell f) (range 0 (length ns))) ns 0
    (λ i hi.
    by_number (λ d. cond (has v (suc (get_or ns i 0))) (get_or (reached (table_of rows count) w (suc (get_or ns i 0))) d []) blank)
    (cell (0 + i)) ns 0
    (λ j hj. one i j (nexts-at rows 0 count i hi) (nexts-at rows 0 count j hj)))
  where
    one : (i j : ℕ) → NextIn rows 0 count i (get_or (nexts_of rows 0 count) i 0) → NextIn rows 0 count j
        (get_or (nexts_of rows 0 count) j 0)
        → priorities (bit (get_or t ((0 + i) * 12 + (0 + j)) 0))
        ≡ cond (has v (suc (get_or (nexts_of rows 0 count) i 0)))
        (get_or (reached (table_of rows count) w (suc (get_or (nexts_of rows 0 count) i 0))) (get_or (nexts_of rows 0 count) j 0) [])
        blank
    one i j a b =
        let e = get_or (nexts_of rows 0 count) i 0 in
        let d = get_or (nexts_of rows 0 count) j 0 in
        ap (λ (k : ℕ). priorities (bit (get_or t k 0))) {x = (0 + i) * 12 + (0 + j)} {y = next_rank rows e * 12 + next_rank rows d}
        (omega (arith, a.rank, b.rank))
        ∙ done v w nv cw e d (omega (arith, a.high)) a.is (omega (arith, b.high)) b.is
