-- The table of a transition carries its triples (`carries_triples`). The operand of a next comes right after it, so the i-th next has the
-- i-th operand; a bit of the table is a mark, a mark is a trace that comes, and a trace that comes to a next ends there. `TableFormed` is
-- what is asked of the formula's table. Assumes nothing.
use mathlib.Core.Path.{◌≡◌, refl, sym, ap, subst, subst⁻¹, ◌∙◌}
use mathlib.Core.Logic.{inl, inr}
use mathlib.Core.Bool.{Bool, false, cond}
use mathlib.Core.List.Memᴰ
use mathlib.Core.List.{List, [], ◌∷◌, map, Memᴰ}
use Prim.Native.Nat.{ℕ, suc, ◌+◌, ◌≤◌, ◌<◌, min}
use native.Mathlib.Omega.{arith}
use lib.Dec.{T}
use lib.ListN.{length, get_or, length-map}
use lib.Seq.{ext_get_or}
use Rattle.base.specs.Lists.{range, flat_map}
use Rattle.base.specs.Search.{Item}
use Rattle.base.proofs.BoolLaws.{by_test}
use Rattle.base.proofs.NumberLaws.{values_at, values_length, values_same}
use Rattle.base.proofs.At.{At, at_get, at_in, at_of, at_map, at_unmap}
use Rattle.formula.specs.Table.{Table, Operator, operator, is_fix}
use Rattle.tableau.specs.Saturation.{Subset, has}
use Rattle.tableau.specs.Transition.{next_of}
use Rattle.tableau.specs.Nodes.{operands}
use Rattle.tableau.proofs.TransitionLaws.{next_is}
use Rattle.profile.specs.Traces.{TraceState, trace_state, trace_states, ends}
use Rattle.profile.specs.Traces as literal
use Rattle.profile.proofs.TraceLaws.{MovesInside, triples_trace, trace_triples}
use Rattle.profile_tables.specs.Triples.{Triples, holds, those}
use Rattle.profile_tables.specs.Marks.{bit_of, blank, reached, nexts_from, row_of, triples}
use Rattle.profile_tables.proofs.RankLaws.{fixes-from, PriorityRank, priorities-one}
use Rattle.profile_tables.proofs.CarryLaws.{set_again, triple, Carries, Operand, count}
use Rattle.profile_tables.proofs.MarkLaws.{priorities-at, marked, Comes, comes_goes, goes_comes, reached_shape, reached_of}
use Rattle.profile_tables.proofs.MarkLaws.{reached_in}

-- what is asked of a table: at most seven fixpoints, moves stay inside, and the operand of a next comes right after it
pub record TableFormed (t : Table) : Type 0 where
  pub few : length (fixes-from 0 t) ≤ 7
  pub ranged : MovesInside t
  pub after : (e g : ℕ) → Memᴰ g (next_of (operator t e)) → (g ≡ suc e) × (g < length t)

-- a table of bits by its elements
values_are : {A : Type 0} (d : A) (xs : List A) (n : ℕ) → length xs ≡ n → xs ≡ map (λ i. get_or xs i d) (range 0 n)
values_are d xs n q =
    ext_get_or d xs (map (λ i. get_or xs i d) (range 0 n)) (q ∙ sym (values_length (λ i. get_or xs i d) 0 n))
    (λ i l. ap (λ (j : ℕ). get_or xs j d) {x = i} {y = 0 + i} (omega arith) ∙ sym (values_at (λ i. get_or xs i d) 0 n i d (omega arith)))

pub table_of : (n : ℕ) (s : Triples) → length s ≡ n → ((f : ℕ) → f < n → length (get_or s f []) ≡ n)
    → ((f g : ℕ) → f < n → g < n → length (get_or (get_or s f []) g []) ≡ 8) → s ≡ those n (holds s)
unfolding those holds
table_of n s p q r =
    values_are [] s n p
    ∙ values_same (λ f. get_or s f []) (λ f. map (λ g. map (λ x. holds s f x g) (range 0 8)) (range 0 n)) 0 n
    (λ f _ hf.
    values_are [] (get_or s f []) n (q f (omega arith))
    ∙ values_same (λ g. get_or (get_or s f []) g []) (λ g. map (λ x. holds s f x g) (range 0 8)) 0 n
    (λ g _ hg. values_are false (get_or (get_or s f []) g []) 8 (r f g (omega arith) (omega arith))))

-- the next operators and their operands
operands_are : (p : Table) (e : ℕ) → ((i g : ℕ) → Memᴰ g (next_of (operator p i)) → g ≡ suc (e + i))
    → operands p ≡ map suc (nexts_from e p)
operands_are [] e f = refl
operands_are (Operator.leaf l ∷ p) e f = operands_are p (suc e) (λ i g m. f (suc i) g m ∙ omega arith)
operands_are (Operator.variable b ∷ p) e f = operands_are p (suc e) (λ i g m. f (suc i) g m ∙ omega arith)
operands_are (Operator.pair o l r ∷ p) e f = operands_are p (suc e) (λ i g m. f (suc i) g m ∙ omega arith)
operands_are (Operator.next h ∷ p) e f =
    let q : h ≡ suc e = omega (arith, f 0 h (Memᴰ.head refl)) in
    let r = operands_are p (suc e) (λ i g m. f (suc i) g m ∙ omega arith) in
    λ i. q i ∷ r i
operands_are (Operator.fix b l ∷ p) e f = operands_are p (suc e) (λ i g m. f (suc i) g m ∙ omega arith)

nexts_in : (p : Table) (e : ℕ) {x : ℕ} → Memᴰ x (nexts_from e p) → (d g : ℕ) × (x ≡ e + d) × (d < length p) × Memᴰ g
    (next_of (operator p d))
nexts_in [] e m = absurd (Memᴰ.not-nil m)
nexts_in (o ∷ p) e m =
    elim (Memᴰ.append_cases (map (λ (g : ℕ). e) (next_of o)) m) [
      | inl a ↦ let (g, i, q) = Memᴰ.of_map (λ (g : ℕ). e) (next_of o) a in (0, g, omega arith, omega arith, i)
      | inr b ↦ let (d, g, q, l, i) = nexts_in p (suc e) b in (suc d, g, omega arith, omega arith, i)
    ]

not_fix : (o : Operator) (g : ℕ) → Memᴰ g (next_of o) → is_fix o ≡ false
not_fix o g m = ap is_fix (next_is o g m)

module _ (t : Table) (formed : TableFormed t) where
  abbrev nexts : List ℕ
  nexts = nexts_from 0 t

  operands_next : operands t ≡ map suc nexts
  operands_next = operands_are t 0 (λ i g m. (formed.after i g m).0 ∙ omega arith)

  nexts_count : length nexts ≡ count t
  nexts_count = sym (ap length operands_next ∙ length-map nexts suc)

  next-inside : {i e : ℕ} → At nexts i e → e < length t
  next-inside a = let (d, g, q, l, m) = nexts_in t 0 (at_in a) in omega arith

  -- the i-th next, and its operand
  pub record Next (i g : ℕ) : Type 0 where
    pub number : ℕ
    pub at : At nexts i number
    pub operand : g ≡ suc number
    pub inside : number < length t
    pub next : Memᴰ g (next_of (operator t number))

  next_at : {i e : ℕ} → At nexts i e → Next i (suc e)
  next_at {i} {e} a =
      let (d, g, q, l, m) = nexts_in t 0 (at_in a) in
      let z : e ≡ d = omega arith in
      record {
        number = e;
        at = a;
        operand = refl;
        inside = next-inside a;
        next = subst (λ (h : ℕ). Memᴰ h (next_of (operator t e))) ((formed.after d g m).0 ∙ ap suc (sym z))
            (subst⁻¹ (λ (i : ℕ). Memᴰ g (next_of (operator t i))) z m);
      }

  next_of-operand : {i g : ℕ} → Operand t i g → Next i g
  next_of-operand {i} {g} a =
      let (e, b, q) = at_unmap suc nexts (subst (λ (l : List ℕ). At l i g) operands_next a) in
      subst (Next i) q (next_at b)

  module _ (v w : Subset) where
    abbrev cell : (e d : ℕ) → List Bool
    cell e d = cond (has v (suc e)) (get_or (reached t w (suc e)) d []) blank

    row_at : {i e : ℕ} → At nexts i e → get_or (triples t v w) i [] ≡ map (cell e) nexts
    unfolding triples
    row_at a = at_get (at_map (λ e. let r = reached t w (suc e) in row_of nexts (has v (suc e)) r) a) []

    cell_at : {i j e d : ℕ} → At nexts i e → At nexts j d → get_or (get_or (triples t v w) i []) j [] ≡ cell e d
    cell_at {j} {e = e} a b = ap (λ (r : List (List Bool)). get_or r j []) (row_at a) ∙ at_get (at_map (cell e) b) []

    cell_of : (e d k : ℕ) → T (bit_of (cell e d) k) → T (has v (suc e)) × T (marked (reached t w (suc e)) d k)
    cell_of e d k =
        by_test (has v (suc e)) (λ b. T (bit_of (cond b (get_or (reached t w (suc e)) d []) blank) k)
        → T b × T (marked (reached t w (suc e)) d k))
        (λ h m. (tt, m))
        (λ h m. absurd (priorities-at (λ x. false) k m).1)

    cell_in : (e d k : ℕ) → T (has v (suc e)) → T (marked (reached t w (suc e)) d k) → T (bit_of (cell e d) k)
    cell_in e d k h m =
        by_test (has v (suc e)) (λ b. T (bit_of (cond b (get_or (reached t w (suc e)) d []) blank) k))
        (λ i. m)
        (λ i. absurd (i h))

    cell_eight : (e d : ℕ) → d < length t → length (cell e d) ≡ 8
    cell_eight e d l =
        by_test (has v (suc e)) (λ b. length (cond b (get_or (reached t w (suc e)) d []) blank) ≡ 8)
        (λ h. let s = reached_shape t formed.few w (suc e) in s.1 d (omega (arith, s.0)))
        (λ h. refl)

    -- a bit of the table, by the next operators of its place
    bit_at : {i j f g : ℕ} (a : Next i f) (b : Next j g) (k : ℕ) → holds (triples t v w) i k j ≡ bit_of (cell a.number b.number) k
    unfolding holds
    bit_at a b k = ap (λ (r : List Bool). get_or r k false) (cell_at a.at b.at)

    rows : length (triples t v w) ≡ count t
    unfolding triples
    rows = length-map nexts (λ e. let r = reached t w (suc e) in row_of nexts (has v (suc e)) r) ∙ nexts_count

    shaped : triples t v w ≡ those (count t) (holds (triples t v w))
    shaped =
        table_of (count t) (triples t v w) rows
        (λ f l.
        let a = at_of nexts f 0 (omega (arith, nexts_count)) in
        ap length (row_at a) ∙ length-map nexts (cell (get_or nexts f 0)) ∙ nexts_count)
        (λ f g l m.
        let a = at_of nexts f 0 (omega (arith, nexts_count)) in
        let b = at_of nexts g 0 (omega (arith, nexts_count)) in
        ap length (cell_at a b) ∙ cell_eight (get_or nexts f 0) (get_or nexts g 0) (next-inside b))

    -- a true bit: the node has f, and a trace from it comes to the next of g
    pub record Bit (k f d : ℕ) : Type 0 where
      pub member : T (has v f)
      pub priority : ℕ
      pub priorities : PriorityRank t k priority
      pub comes : Comes t w f d priority

    bit_of-next : {i j f g : ℕ} (a : Next i f) (b : Next j g) (k : ℕ) → T (holds (triples t v w) i k j) → Bit k f b.number
    bit_of-next a b k h =
        let (m, c) = cell_of a.number b.number k (subst T (bit_at a b k) h) in
        let (x, u, d) = reached_of t formed.few w (suc a.number) b.number k c in
        subst⁻¹ (λ (f : ℕ). Bit k f b.number) a.operand (record { member = m; priority = x; priorities = u; comes = d })

    stays : (e x g : ℕ) → Memᴰ g (next_of (operator t e)) → (trace_state t x e).priority ≡ x
    stays e x g m = ap (λ (b : Bool). cond b (min x e) x) (not_fix (operator t e) g m)

    triples-there : (i k j f x g : ℕ) → Operand t i f → PriorityRank t k x → Operand t j g → T (holds (triples t v w) i k j)
        → Memᴰ (triple f x g) (literal.triples t v w)
    triples-there i k j f x g p u q h =
        let a = next_of-operand p in
        let b = next_of-operand q in
        let r = bit_of-next a b k h in
        let c : Comes t w f b.number x = subst (Comes t w f b.number) (priorities-one t formed.few r.priorities u) r.comes in
        trace_triples t v w formed.ranged (triple f x g) (formed.after a.number f a.next).1 (at_in p) r.member
        (record {
          last = trace_state t x b.number;
          goes = comes_goes c;
          carries = sym (stays b.number x g b.next);
          ends_at = b.next;
        })

    triples-back : (i k j f x g : ℕ) → Operand t i f → PriorityRank t k x → Operand t j g
        → Memᴰ (triple f x g) (literal.triples t v w)
        → T (holds (triples t v w) i k j)
    triples-back i k j f x g p u q m =
        let a = next_of-operand p in
        let b = next_of-operand q in
        let (h, r) = triples_trace t v w (triple f x g) m in
        let e = r.last.subformula in
        let (y, c, z) = goes_comes r.goes in
        let here : e ≡ b.number = omega (arith, (formed.after e g r.ends_at).0, b.operand) in
        let same : y ≡ x = sym (r.carries ∙ z ∙ stays e y g r.ends_at) in
        let mark : T (marked (reached t w f) e k) =
        reached_in t formed.few w f formed.ranged (formed.after a.number f a.next).1 c k
        (subst⁻¹ (PriorityRank t k) same u) in
        subst⁻¹ T (bit_at a b k)
        (cell_in a.number b.number k (subst (λ (n : ℕ). T (has v n)) a.operand h)
        (subst (λ (n : ℕ). T (marked (reached t w n) b.number k)) a.operand
        (subst (λ (n : ℕ). T (marked (reached t w f) n k)) here mark)))

    -- Theorem: the table carries the triples of the transition.
    pub carries_triples : Carries t (triples t v w) (literal.triples t v w)
    unfolding literal.triples
    carries_triples =
        record {
          table = shaped;
          only = λ i k j hi hk hj h.
              let a = next_at (at_of nexts i 0 (omega (arith, nexts_count))) in
              let b = next_at (at_of nexts j 0 (omega (arith, nexts_count))) in
              let r = bit_of-next a b k h in
              (r.priority, r.priorities);
          set = set_again t (flat_map (λ f. cond (has v f) (flat_map (λ (x : Item ℕ TraceState). ends t f x.at) (trace_states t w f)) [])
              (operands t));
          there = triples-there;
          back = triples-back;
        }
