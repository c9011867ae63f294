-- Marks in bytes: what is put into one byte, what one operator passes on, and that it is nothing where there are no marks;
-- what a sweep over the rows makes of them; and sweeping until nothing changes, which is what the definition reaches by a fixed number of
-- rounds. Assumes nothing.
use Rattle.std.proofs.Common.{◌≡◌, ℕ, zero, suc, ◌+◌, ◌-◌, ◌*◌, ◌^◌, ◌≤◌, ◌<◌, Bool, true, false, cond, ◌||◌, List, [], ◌∷◌, map, length}
use Rattle.std.proofs.Common.{get_or, set, refl, sym, ap, subst, ◌∙◌, bit_or, arith, add-one, length-set, eq-eqb, ne_eqb}
use Rattle.std.proofs.Math.Decide.{dec_lt, ℕ_discrete}
use Rattle.std.proofs.Math.Bool.{or-false}
use Rattle.std.proofs.Math.Dec.{eqb}
use Rattle.std.proofs.Math.Seq.{ext_get_or, get_or-set_same, get_or-set_other, set-get_or, set_out}
use Rattle.base.specs.Lists.{range, iterate}
use Rattle.base.specs.Bits.{bit, word}
use Rattle.base.proofs.ListLaws.{iterate_stays}
use Rattle.base.proofs.NumberLaws.{values_at, values_same, values_length}
use Rattle.base.proofs.BitLaws.{bit-or, bit-same, bit_other}
use Rattle.base.proofs.WordLaws.{no-bit, word-bit}
use Rattle.formula.specs.Table.{Operator, is_fix}
use Rattle.formula.specs.Rows.{operator_at, operators_of}
use Rattle.formula.specs.Access.{decoded}
use Rattle.formula.specs.declared.Subformula.{Subformula}
use Rattle.formula.specs.declared.Operator as code
use Rattle.formula.specs.declared.Operator.TheVariants.{Variable, Pair, Fixpoint}
use Rattle.tableau.specs.Saturation.{Subset, has, moves}
use Rattle.tableau.specs.Inner.{table_of}
use Rattle.profile_tables.specs.Triples.{smaller}
use Rattle.profile_tables.specs.Marks.{Marks, priorities, bit_of, passed, mark, sweep, blank, reached}
use Rattle.profile_tables.proofs.TriplesLaws.{smaller-same}
use Rattle.triples.specs.Inner.{Bits}
use Rattle.traces.specs.Inner.{marks_of, fix_rank, PrioritiesMarked, PassedOn}

pub bit-priorities : (q : ℕ → Bool) (x : ℕ) → x < 8 → bit_of (priorities q) x ≡ q x
bit-priorities q x h = values_at q 0 8 x false h ∙ ap q (omega arith)

pub priorities-same : (q r : ℕ → Bool) → ((x : ℕ) → x < 8 → q x ≡ r x) → priorities q ≡ priorities r
priorities-same q r h = values_same q r 0 8 (λ x i j. h x (omega arith))

-- a byte without marks
pub no_marks : (b : ℕ) → b ≡ 0 → priorities (bit b) ≡ blank
no_marks b q = priorities-same (bit b) (λ x. false) (λ x h. ap (λ (w : ℕ). bit w x) q ∙ no-bit x)

-- a byte with one mark
pub one_bit : (k x : ℕ) → bit (2 ^ k) x ≡ eqb k x
one_bit k x = go (ℕ_discrete x k)
  where
    go : Dec (x ≡ k) → bit (2 ^ k) x ≡ eqb k x
    go (yes p) = ap (bit (2 ^ k)) p ∙ bit-same k ∙ sym (eq-eqb k x (sym p))
    go (no p) = bit_other k x p ∙ sym (ne_eqb k x (λ q. p (sym q)))

module _ (n : ℕ) (b : List ℕ) where
  marks_length : length (marks_of n b) ≡ n
  marks_length = values_length (λ e. priorities (bit (get_or b e 0))) 0 n

  pub marks_at : (i : ℕ) → i < n → get_or (marks_of n b) i [] ≡ priorities (bit (get_or b i 0))
  marks_at i h =
      values_at (λ e. priorities (bit (get_or b e 0))) 0 n i [] h
      ∙ ap (λ (e : ℕ). priorities (bit (get_or b e 0))) {x = 0 + i} {y = i} (omega arith)

  mark-bit : (i x : ℕ) → i < n → x < 8 → bit_of (get_or (marks_of n b) i []) x ≡ bit (get_or b i 0) x
  mark-bit i x h k = ap (λ (r : List Bool). bit_of r x) (marks_at i h) ∙ bit-priorities (bit (get_or b i 0)) x k

-- one byte stored
marks_set : (n : ℕ) (b : List ℕ) (m v : ℕ) → m < length b → marks_of n (set b m v) ≡ set (marks_of n b) m (priorities (bit v))
marks_set n b m v k =
    ext_get_or [] (marks_of n (set b m v)) (set (marks_of n b) m (priorities (bit v)))
    (marks_length n (set b m v) ∙ sym (length-set (marks_of n b) m (priorities (bit v)) ∙ marks_length n b))
    (λ i l. at i (subst (λ (j : ℕ). i < j) (marks_length n (set b m v)) l) (ℕ_discrete i m))
  where
    at : (i : ℕ) → i < n → Dec (i ≡ m) → get_or (marks_of n (set b m v)) i [] ≡ get_or (set (marks_of n b) m (priorities (bit v))) i []
    at i l (yes e) =
        marks_at n (set b m v) i l
        ∙ ap (λ (w : ℕ). priorities (bit w)) (ap (λ (j : ℕ). get_or (set b m v) j 0) e ∙ get_or-set_same b m v 0 k)
        ∙ sym
        (ap (λ (j : ℕ). get_or (set (marks_of n b) m (priorities (bit v))) j []) e
        ∙ get_or-set_same (marks_of n b) m (priorities (bit v)) [] (omega (arith, marks_length n b)))
    at i l (no d) =
        marks_at n (set b m v) i l
        ∙ ap (λ (w : ℕ). priorities (bit w)) (get_or-set_other b m i v 0 d)
        ∙ sym (get_or-set_other (marks_of n b) m i (priorities (bit v)) [] d ∙ marks_at n b i l)

-- one subformula marked with q: the bits of its byte are those it had or those of q
marked : (n : ℕ) (b : List ℕ) (q : ℕ → Bool) (m v : ℕ) → ((x : ℕ) → x < 8 → bit v x ≡ (bit (get_or b m 0) x || q x))
    → set (marks_of n b) m (priorities (bit v)) ≡ mark (m ∷ []) (priorities q) (marks_of n b)
marked n b q m v h = at (dec_lt m n)
  where
    at : Dec (m < n) → set (marks_of n b) m (priorities (bit v)) ≡ mark (m ∷ []) (priorities q) (marks_of n b)
    at (yes l) =
        ap (set (marks_of n b) m)
        (priorities-same (bit v) (λ x. bit_of (get_or (marks_of n b) m []) x || bit_of (priorities q) x)
        (λ x k. h x k ∙ sym (λ i. mark-bit n b m x l k i || bit-priorities q x k i)))
    at (no l) =
        set_out (marks_of n b) m (priorities (bit v)) (omega (arith, marks_length n b))
        ∙ sym
        (set_out (marks_of n b) m (priorities (λ x. bit_of (get_or (marks_of n b) m []) x || bit_of (priorities q) x))
        (omega (arith, marks_length n b)))

-- what `mark` does
pub marked-one : (b : List ℕ) (m w : ℕ) → m < length b → PrioritiesMarked (m ∷ []) w b (set b m (bit_or (get_or b m 0) w))
marked-one b m w k n h =
    marks_set n b m (bit_or (get_or b m 0) w) k ∙ marked n b (bit w) m (bit_or (get_or b m 0) w) (λ x l. bit-or (get_or b m 0) w x)

-- what was found to be a fixpoint is one
pub found-fix : {o : Operator} {x : code.Operator} {greatest : Bool} {body : Subformula} → o ≡ decoded x → x ≡ Fixpoint greatest body
    → is_fix o ≡ true
found-fix read is = ap is_fix (read ∙ ap decoded is)

-- the marks with those of subformula e at some more
abbrev with_own : List ℕ → (e : ℕ) → List ℕ → (n : ℕ) → Marks
with_own b e ms n = mark ms (priorities (bit (get_or b e 0))) (marks_of n b)

-- what `passing` does, by the operator that was read: o is x
module _ {o : Operator} {x : code.Operator} (read : o ≡ decoded x) (p : Bool) (e k : ℕ) (b r : List ℕ) where
  passed_as : {y : code.Operator} → x ≡ y → PassedOn (decoded y) p e k b r → PassedOn o p e k b r
  passed_as is = subst (λ (d : Operator). PassedOn d p e k b r) (sym (read ∙ ap decoded is))

  -- an operator that is no fixpoint passes on what it has
  plain : {y : code.Operator} (ms : List ℕ) → x ≡ y → moves (decoded y) p ≡ ms → is_fix (decoded y) ≡ false
      → ((n : ℕ) → n ≤ 48 → marks_of n r ≡ with_own b e ms n) → PassedOn o p e k b r
  unfolding passed
  plain {y} ms is m f g =
      passed_as is (λ n h l.
      g n l
      ∙ ap (λ (xs : List ℕ). with_own b e xs n) (sym m)
      ∙ ap (λ (x : List Bool). mark (moves (decoded y) p) x (marks_of n b))
      (sym (marks_at n b e h)
      ∙ ap (λ (t : Bool). cond t (priorities (smaller (bit_of (get_or (marks_of n b) e [])) (eqb k))) (get_or (marks_of n b) e []))
      (sym f)))

  pub pass_variable : {m : Subformula} → x ≡ Variable m → PrioritiesMarked (m.0 ∷ []) (get_or b e 0) b r → PassedOn o p e k b r
  pass_variable {m} is g = plain (m.0 ∷ []) is refl refl g

  module _ {either : Bool} {left right : Subformula} (is : x ≡ Pair either left right) where
    pub pass_or : either ≡ true → (c : Bool) → p ≡ c → PrioritiesMarked (cond c right.0 left.0 ∷ []) (get_or b e 0) b r
        → PassedOn o p e k b r
    pass_or i c q g =
        plain (cond c right.0 left.0 ∷ []) (is ∙ ap (λ (d : Bool). Pair d left right) i)
        (ap (λ (d : Bool). cond d right.0 left.0 ∷ []) q) refl g

    pub pass_and : either ≡ false → (m : List ℕ) → PrioritiesMarked (left.0 ∷ []) (get_or b e 0) b m
        → PrioritiesMarked (right.0 ∷ []) (get_or b e 0) m r
        → PassedOn o p e k b r
    pass_and i m f g =
        plain (left.0 ∷ right.0 ∷ []) (is ∙ ap (λ (d : Bool). Pair d left right) i) refl refl
        (λ n h. g n h ∙ ap (λ (v : Marks). mark (right.0 ∷ []) (priorities (bit (get_or b e 0))) v) (f n h))

  -- a fixpoint passes on the smaller of its own priority and of those that it has
  pub pass_fixpoint : {greatest : Bool} {body : Subformula} → x ≡ Fixpoint greatest body → (one low : ℕ) → one ≡ 2 ^ k
      → Bits low (smaller (bit (get_or b e 0)) (bit one)) → PrioritiesMarked (body.0 ∷ []) low b r → PassedOn o p e k b r
  unfolding passed
  pass_fixpoint {body = body} is one low power q g =
      passed_as is (λ n h l. g n l ∙ ap (λ (s : List Bool). mark (body.0 ∷ []) s (marks_of n b)) (smaller-one n h))
    where
      smaller-one : (n : ℕ) → e < n → priorities (bit low) ≡ priorities (smaller (bit_of (get_or (marks_of n b) e [])) (eqb k))
      smaller-one n h =
          priorities-same (bit low) (smaller (bit_of (get_or (marks_of n b) e [])) (eqb k))
          (λ x hx.
          q x hx
          ∙ smaller-same (bit (get_or b e 0)) (bit one) (bit_of (get_or (marks_of n b) e [])) (eqb k) x
          (λ i hi. sym (mark-bit n b e i h hi))
          (λ i hi. ap (λ (v : ℕ). bit v i) power ∙ one_bit k i))

-- a subformula without marks passes on nothing: what an operator makes of the blank mark is blank, and marking with it changes nothing
passed-blank : (o : Operator) (k : ℕ) → passed o k blank ≡ blank
unfolding passed smaller
passed-blank o k = go (is_fix o)
  where
    go : (t : Bool) → cond t (priorities (smaller (bit_of blank) (eqb k))) blank ≡ blank
    go true = refl
    go false = refl

mark-blank : (n : ℕ) (b ms : List ℕ) → mark ms blank (marks_of n b) ≡ marks_of n b
mark-blank n b [] = refl
mark-blank n b (m ∷ ms) =
    ap (mark ms blank)
    (sym (marked n b (λ x. false) m (get_or b m 0) (λ x l. sym (or-false (bit (get_or b m 0) x)))) ∙ kept (dec_lt m n))
    ∙ mark-blank n b ms
  where
    kept : Dec (m < n) → set (marks_of n b) m (priorities (bit (get_or b m 0))) ≡ marks_of n b
    kept (yes l) = ap (set (marks_of n b) m) (sym (marks_at n b m l)) ∙ set-get_or (marks_of n b) m []
    kept (no l) = set_out (marks_of n b) m (priorities (bit (get_or b m 0))) (omega (arith, marks_length n b))

pub pass_blank : (o : Operator) (p : Bool) (e k : ℕ) (b : List ℕ) → get_or b e 0 ≡ 0 → PassedOn o p e k b b
pass_blank o p e k b none n h l =
    sym
    (ap (λ (r : List Bool). mark (moves o p) (passed o k r) (marks_of n b)) (marks_at n b e h ∙ no_marks (get_or b e 0) none)
    ∙ ap (λ (r : List Bool). mark (moves o p) r (marks_of n b)) (passed-blank o k)
    ∙ mark-blank n b (moves o p))

-- a sweep, from subformula e on
abbrev pub swept-from : List ℕ → (count e : ℕ) → Subset → List ℕ → Marks
swept-from rows count e w b = sweep (operators_of rows e (count - e)) w e (fix_rank rows e) (marks_of count b)

abbrev pub Sweeping : List ℕ → (count e choice : ℕ) → List ℕ → List ℕ → Type 0
Sweeping rows count e choice b₀ b =
    (w : Subset) → choice ≡ word w → sweep (table_of rows count) w 0 0 (marks_of count b₀) ≡ swept-from rows count e w b

module _ (rows : List ℕ) (count choice : ℕ) (b₀ : List ℕ) where
  pub swept-start : Sweeping rows count 0 choice b₀ b₀
  swept-start w q = ap (λ (k : ℕ). sweep (operators_of rows 0 k) w 0 0 (marks_of count b₀)) {x = count} {y = count - 0} (omega arith)

  pub swept-more : (e k : ℕ) (b r : List ℕ) → e < count → count ≤ 48 → k ≡ fix_rank rows e
      → Sweeping rows count e choice b₀ b → PassedOn (operator_at rows e) (bit choice e) e k b r → Sweeping rows count (e + 1) choice b₀ r
  unfolding passed
  swept-more e k b r h few ek p q w c =
      let o = operator_at rows e in
      let right : bit choice e ≡ has w e = ap (λ (x : ℕ). bit x e) c ∙ word-bit w e in
      let one : marks_of count r ≡ mark (moves o (has w e)) (passed o (fix_rank rows e) (get_or (marks_of count b) e []))
      (marks_of count b) =
      q count h few ∙ (λ i. mark (moves o (right i)) (passed o (ek i) (get_or (marks_of count b) e [])) (marks_of count b)) in
      p w c
      ∙ ap (λ (n : ℕ). sweep (operators_of rows e n) w e (fix_rank rows e) (marks_of count b)) {x = count - e}
      {y = suc (count - (e + 1))} (omega arith)
      ∙ ap (sweep (operators_of rows (suc e) (count - (e + 1))) w (suc e) (cond (is_fix o) (suc (fix_rank rows e)) (fix_rank rows e)))
      (sym one)
      ∙ ap (λ (i : ℕ). sweep (operators_of rows i (count - (e + 1))) w i (fix_rank rows i) (marks_of count r)) (sym (add-one e))

  pub swept_end : (e : ℕ) (b : List ℕ) → count ≤ e → Sweeping rows count e choice b₀ b
      → (w : Subset) → choice ≡ word w → marks_of count b ≡ sweep (table_of rows count) w 0 0 (marks_of count b₀)
  unfolding passed
  swept_end e b h p w c =
      sym (p w c ∙ ap (λ (k : ℕ). sweep (operators_of rows e k) w e (fix_rank rows e) (marks_of count b)) {x = count - e} {y = 0}
      (omega arith))

-- sweeps until nothing changes
abbrev pub Reaching : List ℕ → (count choice f left : ℕ) → List ℕ → Type 0
Reaching rows count choice f left b =
    (w : Subset) → choice ≡ word w
    → reached (table_of rows count) w f ≡ iterate left (sweep (table_of rows count) w 0 0) (marks_of count b)

blanks : {A : Type 0} (g : ℕ → A) (k n : ℕ) → map (λ (a : A). blank) (map g (range k n)) ≡ map (λ e. blank) (range k n)
blanks g k zero = refl
blanks g k (suc n) = ap (λ (l : Marks). blank ∷ l) (blanks g (suc k) n)

module _ (rows : List ℕ) (count choice f : ℕ) where
  -- at the start, priority none at f and nothing elsewhere
  start_marks : (z : List ℕ) → f < length z → ((i : ℕ) → i < count → get_or z i 0 ≡ 0)
      → marks_of count (set z f 128) ≡ set (map (λ (o : Operator). blank) (table_of rows count)) f (priorities (eqb 7))
  start_marks z k none =
      marks_set count z f 128 k
      ∙ ap (λ (r : List Bool). set (marks_of count z) f r) (priorities-same (bit 128) (eqb 7) (λ x hx. one_bit 7 x))
      ∙ ap (λ (v : Marks). set v f (priorities (eqb 7)))
      (values_same (λ e. priorities (bit (get_or z e 0))) (λ e. blank) 0 count (λ i j l. no_marks (get_or z i 0) (none i (omega arith)))
      ∙ sym (blanks (operator_at rows) 0 count))

  pub reach_start : (z : List ℕ) (left : ℕ) → left ≡ 8 * count → f < length z → ((i : ℕ) → i < count → get_or z i 0 ≡ 0)
      → Reaching rows count choice f left (set z f 128)
  unfolding passed
  reach_start z left all k none w c =
      ap (λ (n : ℕ). iterate (8 * n) (sweep (table_of rows count) w 0 0)
      (set (map (λ (o : Operator). blank) (table_of rows count)) f (priorities (eqb 7))))
      (values_length (operator_at rows) 0 count)
      ∙ ap (iterate (8 * count) (sweep (table_of rows count) w 0 0)) (sym (start_marks z k none))
      ∙ ap (λ (n : ℕ). iterate n (sweep (table_of rows count) w 0 0) (marks_of count (set z f 128))) (sym all)

  -- one sweep: b becomes r
  abbrev Sweep : List ℕ → List ℕ → Type 0
  Sweep b r = (w : Subset) → choice ≡ word w → marks_of count r ≡ sweep (table_of rows count) w 0 0 (marks_of count b)

  pub reach_more : (left less : ℕ) (b r : List ℕ) → left ≡ less + 1 → Reaching rows count choice f left b → Sweep b r
      → Reaching rows count choice f less r
  reach_more left less b r h e q w c =
      let s = sweep (table_of rows count) w 0 0 in
      e w c
      ∙ ap (λ (k : ℕ). iterate k s (marks_of count b)) {x = left} {y = suc less} (omega arith)
      ∙ ap (iterate less s) (sym (q w c))

  pub reach_still : (left : ℕ) (b r : List ℕ) → Reaching rows count choice f left b → Sweep b r → r ≡ b
      → (w : Subset) → choice ≡ word w → marks_of count r ≡ reached (table_of rows count) w f
  reach_still left b r e q same w c =
      let back = ap (marks_of count) same in
      back ∙ sym (e w c ∙ iterate_stays left (sweep (table_of rows count) w 0 0) (marks_of count b) (sym (q w c) ∙ back))

  pub reach_end : (left : ℕ) (b : List ℕ) → left ≤ 0 → Reaching rows count choice f left b
      → (w : Subset) → choice ≡ word w → marks_of count b ≡ reached (table_of rows count) w f
  reach_end zero b h e w c = sym (e w c)
  reach_end (suc left) b h e w c = absurd (omega arith)
