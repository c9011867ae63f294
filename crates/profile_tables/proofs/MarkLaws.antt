-- The marks of a transition are its traces. `Comes` says how a trace from f comes to a subformula, whose own priority does not count yet.
-- A mark is put only where a trace comes (`reached_of`): each sweep keeps that. And each sweep changes nothing or puts a mark, of which
-- there are eight for each subformula, so after so many sweeps the marks follow all moves, and every trace that comes is marked
-- (`reached_in`). Assumes nothing.
use mathlib.Core.Path.{◌≡◌, refl, sym, ap, subst, subst⁻¹, ◌∙◌}
use mathlib.Core.Logic.{◌⊎◌, inl, inr}
use mathlib.Core.Bool.{Bool, true, false, cond, ◌||◌}
use mathlib.Core.List.Memᴰ
use mathlib.Core.List.{List, [], ◌∷◌, map, Memᴰ}
use Prim.Native.Nat.{ℕ, zero, suc, ◌+◌, ◌*◌, ◌≤◌, ◌<◌, min}
use native.Mathlib.Omega.{arith}
use native.Mathlib.Decide.{ℕ_discrete}
use lib.Dec.{T, eqb, eqb→eq, eqb_refl}
use lib.ListN.{length, get_or, set, length-map, length-set}
use lib.Seq.{get_or-set_same, get_or-set_other}
use Rattle.base.proofs.BoolLaws.{or_cases, or_left, or_right}
use Rattle.base.proofs.ListLaws.{iterate-keeps, get_d_map}
use Rattle.base.proofs.NumberLaws.{values_at, values_length}
use Rattle.base.specs.Sets.{Inside}
use Rattle.base.proofs.Inside.{waiting, waiting_le, toward_or}
use Rattle.base.proofs.At.{At, at_lt, at_get, in_at}
use Rattle.base.proofs.Pairs.{Pairs, total, total_less, total_most, comes_to-rest}
use Rattle.formula.specs.Table.{Table, Operator, operator, is_fix}
use Rattle.tableau.specs.Saturation.{Subset, has, moves}
use Rattle.tableau.proofs.SaturationLaws.{has_lt, inside_by}
use Rattle.profile.specs.Traces.{trace_state, TraceState}
use Rattle.profile.proofs.TripleLaws.{Priority, none-priority}
use Rattle.profile.proofs.TraceLaws.{Goes, goes-priority, MovesInside}
use Rattle.profile_tables.specs.Triples.{smaller}
use Rattle.profile_tables.specs.Marks.{Marks, priorities, bit_of, passed, mark, sweep, blank, reached}
use Rattle.profile_tables.proofs.TriplesLaws.{smaller_of, smaller_in}
use Rattle.profile_tables.proofs.RankLaws.{fixes-from, or_first, or_rest, PriorityRank, priorities_of, priorities_lt}
use Rattle.profile_tables.proofs.RankLaws.{priorities_min}
use Rattle.profile_tables.proofs.RankLaws.{priorities_rank}

-- eight bits by a test
priorities-bit : (q : ℕ → Bool) (k : ℕ) → k < 8 → bit_of (priorities q) k ≡ q k
priorities-bit q k h = values_at q 0 8 k false h ∙ ap q {x = 0 + k} {y = k} (omega arith)

pub priorities-at : (q : ℕ → Bool) (k : ℕ) → T (bit_of (priorities q) k) → (k < 8) × T (q k)
priorities-at q k h =
    let l : k < 8 = omega (arith, has_lt (priorities q) k h, values_length q 0 8) in
    (l, subst T (priorities-bit q k l) h)

-- the marks: priority k at subformula e
abbrev pub marked : Marks → ℕ → ℕ → Bool
marked v e k = bit_of (get_or v e []) k

marked_lt : (v : Marks) (e k : ℕ) → T (marked v e k) → e < length v
marked_lt [] e k h = absurd h
marked_lt (r ∷ v) zero k h = omega arith
marked_lt (r ∷ v) (suc e) k h = omega (arith, marked_lt v e k h)

abbrev pub Eight : Marks → Type 0
Eight v = (e : ℕ) → e < length v → length (get_or v e []) ≡ 8

eight_lt : (v : Marks) (e k : ℕ) → Eight v → T (marked v e k) → k < 8
eight_lt v e k s h = omega (arith, has_lt (get_or v e []) k h, s e (marked_lt v e k h))

-- one more row of marks put at m
abbrev put : Marks → ℕ → List Bool → Marks
put v m r = set v m (priorities (λ x. bit_of (get_or v m []) x || bit_of r x))

module _ (v : Marks) (m : ℕ) (r : List Bool) where
  abbrev both_of : ℕ → Bool
  both_of x = bit_of (get_or v m []) x || bit_of r x

  put-length : length (put v m r) ≡ length v
  put-length = length-set v m (priorities both_of)

  put-row : m < length v → get_or (put v m r) m [] ≡ priorities both_of
  put-row l = get_or-set_same v m (priorities both_of) [] l

  put_of : (e k : ℕ) → T (marked (put v m r) e k) → T (marked v e k) ⊎ ((e ≡ m) × T (bit_of r k))
  put_of e k h = by (ℕ_discrete e m)
    where
      by : Dec (e ≡ m) → T (marked v e k) ⊎ ((e ≡ m) × T (bit_of r k))
      by (yes q) =
          let l : m < length v = omega (arith, marked_lt (put v m r) e k h, put-length) in
          let i : T (bit_of (priorities both_of) k) =
          subst (λ (s : List Bool). T (bit_of s k)) (ap (λ (i : ℕ). get_or (put v m r) i []) q ∙ put-row l) h in
          elim (or_cases (bit_of (get_or v m []) k) (bit_of r k) (priorities-at both_of k i).1)
          [ inl a ↦ inl (subst⁻¹ (λ (i : ℕ). T (marked v i k)) q a) | inr b ↦ inr (q, b) ]
      by (no q) = inl (subst (λ (s : List Bool). T (bit_of s k)) (get_or-set_other v m e (priorities both_of) [] q) h)

  put_new : (k : ℕ) → m < length v → k < 8 → T (bit_of r k) → T (marked (put v m r) m k)
  put_new k l h b =
      subst⁻¹ (λ (s : List Bool). T (bit_of s k)) (put-row l)
      (subst⁻¹ T (priorities-bit both_of k h) (or_right (bit_of (get_or v m []) k) (bit_of r k) b))

  module _ (s : Eight v) where
    put_old : (e k : ℕ) → T (marked v e k) → T (marked (put v m r) e k)
    put_old e k h = by (ℕ_discrete e m)
      where
        by : Dec (e ≡ m) → T (marked (put v m r) e k)
        by (yes q) =
            let l : m < length v = omega (arith, marked_lt v e k h) in
            let i : T (marked v m k) = subst (λ (i : ℕ). T (marked v i k)) q h in
            subst⁻¹ (λ (i : ℕ). T (marked (put v m r) i k)) q
            (subst⁻¹ (λ (s : List Bool). T (bit_of s k)) (put-row l)
            (subst⁻¹ T (priorities-bit both_of k (eight_lt v e k s h)) (or_left (bit_of (get_or v m []) k) (bit_of r k) i)))
        by (no q) = subst⁻¹ (λ (s : List Bool). T (bit_of s k)) (get_or-set_other v m e (priorities both_of) [] q) h

    put-eight : Eight (put v m r)
    put-eight e l = by (ℕ_discrete e m)
      where
        by : Dec (e ≡ m) → length (get_or (put v m r) e []) ≡ 8
        by (yes q) = ap length (ap (λ (i : ℕ). get_or (put v m r) i []) q ∙ put-row (omega (arith, put-length))) ∙ values_length both_of 0 8
        by (no q) = ap length (get_or-set_other v m e (priorities both_of) [] q) ∙ s e (omega (arith, put-length))

-- marks put at each of a list
mark_of : (ms : List ℕ) (r : List Bool) (v : Marks) (e k : ℕ) → T (marked (mark ms r v) e k)
    → T (marked v e k) ⊎ (Memᴰ e ms × T (bit_of r k))
mark_of [] r v e k h = inl h
mark_of (m ∷ ms) r v e k h =
    elim (mark_of ms r (put v m r) e k h) [
      | inl a ↦ elim (put_of v m r e k a) [ inl b ↦ inl b | inr c ↦ inr (Memᴰ.head c.0, c.1) ]
      | inr c ↦ inr (Memᴰ.tail c.0, c.1)
    ]

mark-length : (ms : List ℕ) (r : List Bool) (v : Marks) → length (mark ms r v) ≡ length v
mark-length [] r v = refl
mark-length (m ∷ ms) r v = mark-length ms r (put v m r) ∙ put-length v m r

mark-eight : (ms : List ℕ) (r : List Bool) (v : Marks) → Eight v → Eight (mark ms r v)
mark-eight [] r v s = s
mark-eight (m ∷ ms) r v s = mark-eight ms r (put v m r) (put-eight v m r s)

mark_old : (ms : List ℕ) (r : List Bool) (v : Marks) → Eight v → (e k : ℕ) → T (marked v e k) → T (marked (mark ms r v) e k)
mark_old [] r v s e k h = h
mark_old (m ∷ ms) r v s e k h = mark_old ms r (put v m r) (put-eight v m r s) e k (put_old v m r s e k h)

mark_new : (ms : List ℕ) (r : List Bool) (v : Marks) → Eight v → (m k : ℕ) → Memᴰ m ms → m < length v → k < 8 → T (bit_of r k)
    → T (marked (mark ms r v) m k)
mark_new [] r v s m k i l h b = absurd (Memᴰ.not-nil i)
mark_new (a ∷ ms) r v s m k i l h b =
    elim (Memᴰ.cases_cons i) [
      | inl q ↦
          mark_old ms r (put v a r) (put-eight v a r s) m k
          (subst⁻¹ (λ (n : ℕ). T (marked (put v a r) n k)) q (put_new v a r k (omega arith) h b))
      | inr j ↦ mark_new ms r (put v a r) (put-eight v a r s) m k j (omega (arith, put-length v a r)) h b
    ]

-- a sweep keeps the shape and all marks
module _ (w : Subset) where
  abbrev swept : Operator → ℕ → ℕ → Marks → Marks
  swept o e j v = mark (moves o (has w e)) (passed o j (get_or v e [])) v

  sweep-length : (t : Table) (e j : ℕ) (v : Marks) → length (sweep t w e j v) ≡ length v
  unfolding passed
  sweep-length [] e j v = refl
  sweep-length (o ∷ t) e j v =
      sweep-length t (suc e) (cond (is_fix o) (suc j) j) (swept o e j v) ∙ mark-length (moves o (has w e)) (passed o j (get_or v e [])) v

  sweep-eight : (t : Table) (e j : ℕ) (v : Marks) → Eight v → Eight (sweep t w e j v)
  unfolding passed
  sweep-eight [] e j v s = s
  sweep-eight (o ∷ t) e j v s =
      sweep-eight t (suc e) (cond (is_fix o) (suc j) j) (swept o e j v) (mark-eight (moves o (has w e)) (passed o j (get_or v e [])) v s)

  sweep_old : (t : Table) (e j : ℕ) (v : Marks) → Eight v → (d k : ℕ) → T (marked v d k) → T (marked (sweep t w e j v) d k)
  unfolding passed
  sweep_old [] e j v s d k h = h
  sweep_old (o ∷ t) e j v s d k h =
      sweep_old t (suc e) (cond (is_fix o) (suc j) j) (swept o e j v) (mark-eight (moves o (has w e)) (passed o j (get_or v e [])) v s) d k
      (mark_old (moves o (has w e)) (passed o j (get_or v e [])) v s d k h)

  -- two lots of marks, one inside the other
  marks_inside : (v u : Marks) → length v ≡ length u → Eight v → Eight u → ((e k : ℕ) → T (marked v e k) → T (marked u e k))
      → Pairs Inside v u
  marks_inside [] [] l s r f = Pairs.none
  marks_inside [] (b ∷ u) l s r f = absurd (omega arith)
  marks_inside (a ∷ v) [] l s r f = absurd (omega arith)
  marks_inside (a ∷ v) (b ∷ u) l s r f =
      Pairs.more (inside_by a b (s 0 (omega arith) ∙ sym (r 0 (omega arith))) (f 0))
      (marks_inside v u (omega arith) (λ e h. s (suc e) (omega arith)) (λ e h. r (suc e) (omega arith)) (λ e k h. f (suc e) k h))

  -- the marks that are missing
  abbrev missing : Marks → ℕ
  missing = total Inside (waiting false) (toward_or false)

  missing-few : (v : Marks) → Eight v → missing v ≤ length v * 8
  missing-few v s =
      total_most Inside (waiting false) (toward_or false) 8 v
      (λ r m.
      let (e, a) = in_at m in
      omega (arith, waiting_le false r, ap length (sym (at_get a [])), s e (at_lt a)))

  sweep-less : (t : Table) (v : Marks) → Eight v → (v ≡ sweep t w 0 0 v) ⊎ (missing (sweep t w 0 0 v) < missing v)
  sweep-less t v s =
      total_less Inside (waiting false) (toward_or false) v (sweep t w 0 0 v)
      (marks_inside v (sweep t w 0 0 v) (sym (sweep-length t 0 0 v)) s (sweep-eight t 0 0 v s) (sweep_old t 0 0 v s))

-- what a trace from f comes to, with which priority
pub data Comes (t : Table) (w : Subset) (f : ℕ) : ℕ → ℕ → Type 0 where
  begin : Comes t w f f (length t)
  move : {e x m : ℕ} → Comes t w f e x → Memᴰ m (moves (operator t e) (has w e)) → Comes t w f m (trace_state t x e).priority

pub comes_goes : {t : Table} {w : Subset} {f e x : ℕ} → Comes t w f e x → Goes t w f (trace_state t x e)
comes_goes Comes.begin = Goes.begin
comes_goes (Comes.move c m) = Goes.move (comes_goes c) m

pub goes_comes : {t : Table} {w : Subset} {f : ℕ} {s : TraceState} → Goes t w f s
    → (x : ℕ) × Comes t w f s.subformula x × (s.priority ≡ (trace_state t x s.subformula).priority)
goes_comes {t} Goes.begin = (length t, Comes.begin, refl)
goes_comes {t} {w} {f} (Goes.move {s} {m} g r) =
    let (x, c, e) = goes_comes g in
    (s.priority, subst⁻¹ (Comes t w f m) e (Comes.move c r), refl)

comes_priority : {t : Table} {w : Subset} {f e x : ℕ} → Comes t w f e x → Priority t x
comes_priority {t} Comes.begin = none-priority t
comes_priority (Comes.move c m) = goes-priority (comes_goes c)

-- a part of a table, from subformula e on, with j fixpoints before it
record MarksPart (t p : Table) (e j : ℕ) : Type 0 where
  same : (i : ℕ) → operator t (e + i) ≡ operator p i
  ranks : (i x : ℕ) → At (fixes-from e p) i x → At (fixes-from 0 t) (j + i) x

whole : (t : Table) → MarksPart t t 0 0
whole t =
    record {
      same = λ i. ap (operator t) {x = 0 + i} {y = i} (omega arith);
      ranks = λ i x a. subst (λ (k : ℕ). At (fixes-from 0 t) k x) {x = i} {y = 0 + i} (omega arith) a;
    }

rest : {t p : Table} {o : Operator} {e j : ℕ} → MarksPart t (o ∷ p) e j → MarksPart t p (suc e) (cond (is_fix o) (suc j) j)
rest {t} {p} {o} {e} {j} s =
    record {
      same = λ i. ap (operator t) {x = suc e + i} {y = e + suc i} (omega arith) ∙ s.same (suc i);
      ranks = λ i x a. by (is_fix o) i x (s.ranks (cond (is_fix o) (suc i) i) x (or_rest (is_fix o) e a));
    }
  where
    by : (b : Bool) (i x : ℕ) → At (fixes-from 0 t) (j + cond b (suc i) i) x → At (fixes-from 0 t) (cond b (suc j) j + i) x
    by true i x a = subst (λ (k : ℕ). At (fixes-from 0 t) k x) {x = j + suc i} {y = suc j + i} (omega arith) a
    by false i x a = a

part-first : {t p : Table} {o : Operator} {e j : ℕ} → MarksPart t (o ∷ p) e j → operator t e ≡ o
part-first {t} {e = e} s = ap (operator t) {x = e} {y = e + 0} (omega arith) ∙ s.same 0

part-fix : {t p : Table} {o : Operator} {e j : ℕ} → MarksPart t (o ∷ p) e j → T (is_fix o) → PriorityRank t j e
part-fix {t} {p} {o} {e} {j} s h =
    PriorityRank.fixpoint (subst (λ (k : ℕ). At (fixes-from 0 t) k e) {x = j + 0} {y = j} (omega arith)
    (s.ranks 0 e (or_first (is_fix o) (fixes-from (suc e) p) h)))

-- what an operator passes on
module _ (t : Table) (few : length (fixes-from 0 t) ≤ 7) where
  passed_of : (o : Operator) (e j : ℕ) (r : List Bool) (P : ℕ → Type 0) → (T (is_fix o) → PriorityRank t j e)
      → ((k : ℕ) → T (bit_of r k) → (x : ℕ) × PriorityRank t k x × P x)
      → (k : ℕ) → T (bit_of (passed o j r) k) → (x : ℕ) × PriorityRank t k (cond (is_fix o) (min x e) x) × P x
  unfolding passed
  passed_of o e j r P g f k = by (is_fix o) g
    where
      by : (b : Bool) → (T b → PriorityRank t j e) → T (bit_of (cond b (priorities (smaller (bit_of r) (eqb j))) r) k)
          → (x : ℕ) × PriorityRank t k (cond b (min x e) x) × P x
      by true g h =
          let (y, z, hy, hz, a, b, q) = smaller_of (bit_of r) (eqb j) k (priorities-at (smaller (bit_of r) (eqb j)) k h).1 in
          let (x, u, p) = f y a in (
            x,
            subst (λ (l : ℕ). PriorityRank t l (min x e)) (ap (λ (i : ℕ). min y i) (eqb→eq j z b) ∙ q) (priorities_min t few u (g tt)),
            p,
          )
      by false g h = f k h

  passed_in : (o : Operator) (e j : ℕ) (r : List Bool) → (T (is_fix o) → PriorityRank t j e) → (y x k : ℕ) → T (bit_of r y)
      → PriorityRank t y x
      → PriorityRank t k (cond (is_fix o) (min x e) x) → T (bit_of (passed o j r) k)
  unfolding passed
  passed_in o e j r g y x k h u = by (is_fix o) g
    where
      by : (b : Bool) → (T b → PriorityRank t j e) → PriorityRank t k (cond b (min x e) x)
          → T (bit_of (cond b (priorities (smaller (bit_of r) (eqb j))) r) k)
      by true g v =
          let l = priorities_lt t few v in
          subst⁻¹ T (priorities-bit (smaller (bit_of r) (eqb j)) k l)
          (smaller_in (bit_of r) (eqb j) y j k (priorities_lt t few u) (priorities_lt t few (g tt)) h (eqb_refl j)
          (priorities_rank t few (priorities_min t few u (g tt)) v))
      by false g v = subst (λ (l : ℕ). T (bit_of r l)) (priorities_rank t few u v) h

  module _ (w : Subset) (f : ℕ) where
    -- marks only where a trace from f comes
    abbrev pub Sound : Marks → Type 0
    Sound v = (e k : ℕ) → T (marked v e k) → (x : ℕ) × PriorityRank t k x × Comes t w f e x

    sweep_sound : (p : Table) (e j : ℕ) → MarksPart t p e j → (v : Marks) → Sound v → Sound (sweep p w e j v)
    unfolding passed
    sweep_sound [] e j s v h = h
    sweep_sound (o ∷ p) e j s v h =
        sweep_sound p (suc e) (cond (is_fix o) (suc j) j) (rest s) (swept w o e j v)
        (λ d k a.
        elim (mark_of (moves o (has w e)) (passed o j (get_or v e [])) v d k a) [
          | inl b ↦ h d k b
          | inr b ↦
              let (x, u, c) = passed_of o e j (get_or v e []) (Comes t w f e) (part-fix s) (h e) k b.1 in
              let q = part-first s in (
                (trace_state t x e).priority,
                subst⁻¹ (λ (a : Operator). PriorityRank t k (cond (is_fix a) (min x e) x)) q u,
                Comes.move c (subst⁻¹ (λ (a : Operator). Memᴰ d (moves a (has w e))) q b.0),
              )
        ])

    -- a sweep marks what a move from a mark leads to
    sweep-closed : (p : Table) (e j : ℕ) → MarksPart t p e j → (v u : Marks) → Eight v
        → ((d k : ℕ) → T (marked (sweep p w e j v) d k) → T (marked u d k))
        → (i d m y x k : ℕ) → d ≡ e + i → T (marked v d y) → PriorityRank t y x → Memᴰ m (moves (operator p i) (has w d))
        → m < length v
        → PriorityRank t k (cond (is_fix (operator p i)) (min x d) x) → T (marked u m k)
    unfolding passed
    sweep-closed [] e j s v u h g i d m y x k q a b c l n = absurd (Memᴰ.not-nil c)
    sweep-closed (o ∷ p) e j s v u h g zero d m y x k q a b c l n =
        let z : d ≡ e = omega arith in
        let r = get_or v e [] in
        g m k
        (sweep_old w p (suc e) (cond (is_fix o) (suc j) j) (swept w o e j v) (mark-eight (moves o (has w e)) (passed o j r) v h) m k
        (mark_new (moves o (has w e)) (passed o j r) v h m k (subst (λ (i : ℕ). Memᴰ m (moves o (has w i))) z c) l
        (priorities_lt t few n)
        (passed_in o e j r (part-fix s) y x k (subst (λ (i : ℕ). T (marked v i y)) z a) b
        (subst (λ (i : ℕ). PriorityRank t k (cond (is_fix o) (min x i) x)) z n))))
    sweep-closed (o ∷ p) e j s v u h g (suc i) d m y x k q a b c l n =
        let r = get_or v e [] in
        let ms = moves o (has w e) in
        sweep-closed p (suc e) (cond (is_fix o) (suc j) j) (rest s) (swept w o e j v) u (mark-eight ms (passed o j r) v h) g i d m y x k
        (omega arith)
        (mark_old ms (passed o j r) v h d y a) b c (omega (arith, mark-length ms (passed o j r) v)) n

    -- before the first sweep f alone is marked, with priority none
    abbrev start : Marks
    start = set (map (λ (o : Operator). blank) t) f (priorities (eqb 7))

    start-length : length start ≡ length t
    start-length = length-set (map (λ (o : Operator). blank) t) f (priorities (eqb 7)) ∙ length-map t (λ (o : Operator). blank)

    blank-row : (e : ℕ) → e < length t → get_or (map (λ (o : Operator). blank) t) e [] ≡ blank
    blank-row e l = get_d_map (λ (o : Operator). blank) t e (Operator.variable 0) [] l

    start-row : f < length t → get_or start f [] ≡ priorities (eqb 7)
    start-row l =
        get_or-set_same (map (λ (o : Operator). blank) t) f (priorities (eqb 7)) [] (omega (arith, length-map t (λ (o : Operator). blank)))

    start-eight : Eight start
    start-eight e l = by (ℕ_discrete e f)
      where
        inside : e < length t
        inside = omega (arith, start-length)

        by : Dec (e ≡ f) → length (get_or start e []) ≡ 8
        by (yes q) = ap length (ap (λ (i : ℕ). get_or start i []) q ∙ start-row (omega (arith, inside)))
        by (no q) = ap length (get_or-set_other (map (λ (o : Operator). blank) t) f e (priorities (eqb 7)) [] q ∙ blank-row e inside)

    start-sound : Sound start
    start-sound e k h = by (ℕ_discrete e f)
      where
        inside : e < length t
        inside = omega (arith, marked_lt start e k h, start-length)

        by : Dec (e ≡ f) → (x : ℕ) × PriorityRank t k x × Comes t w f e x
        by (yes q) =
            let a : T (bit_of (priorities (eqb 7)) k) =
            subst (λ (r : List Bool). T (bit_of r k)) (ap (λ (i : ℕ). get_or start i []) q ∙ start-row (omega (arith, inside))) h in (
              length t,
              subst (λ (l : ℕ). PriorityRank t l (length t)) (eqb→eq 7 k (priorities-at (eqb 7) k a).1) PriorityRank.none,
              subst⁻¹ (λ (i : ℕ). Comes t w f i (length t)) q Comes.begin,
            )
        by (no q) =
            let r = get_or-set_other (map (λ (o : Operator). blank) t) f e (priorities (eqb 7)) [] q ∙ blank-row e inside in
            absurd (priorities-at (λ x. false) k (subst (λ (r : List Bool). T (bit_of r k)) r h)).1

    abbrev MarksShape : Marks → Type 0
    MarksShape v = (length v ≡ length t) × Eight v

    shape_kept : (v : Marks) → MarksShape v → MarksShape (sweep t w 0 0 v)
    shape_kept v s = (sweep-length w t 0 0 v ∙ s.0, sweep-eight w t 0 0 v s.1)

    pub reached_shape : (length (reached t w f) ≡ length t) × Eight (reached t w f)
    unfolding passed
    reached_shape = iterate-keeps MarksShape (8 * length t) (sweep t w 0 0) shape_kept start (start-length, start-eight)

    -- Theorem: marks are only where traces come,
    pub reached_of : Sound (reached t w f)
    unfolding passed
    reached_of = iterate-keeps Sound (8 * length t) (sweep t w 0 0) (sweep_sound t 0 0 (whole t)) start start-sound

    reached_old : (e k : ℕ) → T (marked start e k) → T (marked (reached t w f) e k)
    unfolding passed
    reached_old e k h =
        (iterate-keeps (λ (v : Marks). MarksShape v × T (marked v e k)) (8 * length t) (sweep t w 0 0)
        (λ v p. (shape_kept v p.0, sweep_old w t 0 0 v p.0.1 e k p.1)) start ((start-length, start-eight), h)).1

    reached-rest : sweep t w 0 0 (reached t w f) ≡ reached t w f
    unfolding passed
    reached-rest =
        comes_to-rest (sweep t w 0 0) MarksShape shape_kept (missing w) (λ v s. sweep-less w t v s.1) (8 * length t) start
        (start-length, start-eight)
        (omega (arith, missing-few w start start-eight, start-length))

    -- and everywhere where they come.
    pub reached_in : MovesInside t → f < length t → {e x : ℕ} → Comes t w f e x → (k : ℕ) → PriorityRank t k x
        → T (marked (reached t w f) e k)
    reached_in ranged inside Comes.begin k u =
        reached_old f k
        (subst⁻¹ (λ (r : List Bool). T (bit_of r k)) (start-row inside)
        (subst (λ (l : ℕ). T (bit_of (priorities (eqb 7)) l)) (priorities_rank t few PriorityRank.none u) tt))
    reached_in ranged inside (Comes.move {e} {x} {m} c r) k u =
        let (y, v) = priorities_of t (comes_priority c) in
        let s = reached_shape in
        sweep-closed t 0 0 (whole t) (reached t w f) (reached t w f) s.1
        (λ d l h. subst (λ (a : Marks). T (marked a d l)) reached-rest h)
        e e m y x k (omega arith) (reached_in ranged inside c y v) v r (omega (arith, s.0, ranged e m (has w e) r)) u
