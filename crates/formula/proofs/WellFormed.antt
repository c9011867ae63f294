-- The table of a closed, guarded formula is well formed. Numbers are given in prefix order, so the subformulas of an operator are those
-- from its own number up to its end: operands come later and end no later, a variable's binder comes before it and ends behind it, and
-- between the two stands a next. First every number is found to be a subformula of the tree that stands there (`Occurs`, `located`);
-- what a table looks like at a number (`Shaped`) is then read off the subformula's top. Assumes nothing.
use Rattle.std.proofs.Common.{◌≡◌, refl, ap, ◌∙◌, Bool, true, false, List, [], ◌∷◌, ◌++◌, map, ℕ, zero, suc, ◌+◌, ◌-◌, ◌≤◌, ◌<◌, add-zero}
use Rattle.std.proofs.Common.{arith, length, get_or, length-append, get_or-append-add}
use Rattle.std.proofs.Math.Decide.{dec_lt}
use Rattle.std.proofs.Math.ListN.{length-map, get_or-append}
use Rattle.base.proofs.ListLaws as base
use Rattle.formula.specs.Formula.{Leaf, Formula, size}
use Rattle.formula.specs.Table.{Operator, Table, table_from, table, ends_from, lengths}
use Rattle.formula.specs.Reading.{Reading, parse}
use Rattle.formula.specs.Occurrence as specs
use Rattle.formula.specs.Occurrence.{ListedFrom, nothing, Guards, Guarded, Ranged}
use Rattle.formula.proofs.Limits.{size-some, parse-limited}
use Rattle.formula.proofs.Guarded.{parse-guarded}

module _ {A : Type 0} {d : A} {s : ℕ → A} {e : ℕ} where
  pub sits_first : {c : A} {part : List A} → ListedFrom d s e (c ∷ part) → s e ≡ c
  sits_first h = rw add-zero at (h.at 0 (omega arith))

  sits_rest : {c : A} {part : List A} → ListedFrom d s e (c ∷ part) → ListedFrom d s (e + 1) part
  sits_rest h = record { at = λ i l. let q : e + 1 + i ≡ e + suc i = omega arith in rw q (h.at (suc i) (omega arith)) }

  sits_left : (a b : List A) → ListedFrom d s e (a ++ b) → ListedFrom d s e a
  sits_left a b h = record { at = λ i l. h.at i (omega (arith, length-append a b)) ∙ get_or-append a b d i l }

  sits_right : (n : ℕ) (a b : List A) → length a ≡ n → ListedFrom d s e (a ++ b) → ListedFrom d s (e + n) b
  sits_right n a b q h =
      record {
        at = λ i l.
            let p : e + n + i ≡ e + (length a + i) = omega arith in
            rw p (h.at (length a + i) (omega (arith, length-append a b)) ∙ get_or-append-add a b i d);
      }

-- a table has as many operators, ends and lengths as the formula's size says
pub length-table : (e : ℕ) (binders : List ℕ) (f : Formula) → length (table_from e binders f) ≡ size f
length-table e bs (Formula.leaf l) = refl
length-table e bs (Formula.variable d) = refl
length-table e bs (Formula.pair o a b) =
    omega (
      arith,
      length-append (table_from (e + 1) bs a) (table_from (e + 1 + size a) bs b),
      length-table (e + 1) bs a,
      length-table (e + 1 + size a) bs b,
    )
length-table e bs (Formula.next a) = omega (arith, length-table (e + 1) bs a)
length-table e bs (Formula.fix g a) = omega (arith, length-table (e + 1) (e ∷ bs) a)

pub length-ends : (e : ℕ) (f : Formula) → length (ends_from e f) ≡ size f
length-ends e (Formula.leaf l) = refl
length-ends e (Formula.variable d) = refl
length-ends e (Formula.pair o a b) = simp length-append (omega (arith, length-ends (e + 1) a, length-ends (e + 1 + size a) b))
length-ends e (Formula.next a) = omega (arith, length-ends (e + 1) a)
length-ends e (Formula.fix g a) = omega (arith, length-ends (e + 1) a)

pub length-lengths : (f : Formula) → length (lengths f) ≡ size f
length-lengths (Formula.leaf l) = refl
length-lengths (Formula.variable d) = refl
length-lengths (Formula.pair o a b) = simp length-append (omega (arith, length-lengths a, length-lengths b))
length-lengths (Formula.next a) = omega (arith, length-lengths a)
length-lengths (Formula.fix g a) = omega (arith, length-lengths a)

-- the ends of two lists end to end, by their lengths
ends-both : (e n i : ℕ) (p q xs ys : List ℕ) → length p ≡ n → length xs ≡ n
    → (i < n → get_or p i 0 ≡ e + i + get_or xs i 0)
    → ((j : ℕ) → i ≡ n + j → get_or q j 0 ≡ e + n + j + get_or ys j 0)
    → get_or (p ++ q) i 0 ≡ e + i + get_or (xs ++ ys) i 0
ends-both e n i p q xs ys l m first rest = by (dec_lt i n)
  where
    by : Dec (i < n) → get_or (p ++ q) i 0 ≡ e + i + get_or (xs ++ ys) i 0
    by (yes k) =
        omega (arith, get_or-append p q 0 i (omega arith), get_or-append xs ys 0 i (omega arith), first k)
    by (no k) =
        let j = i - n in
        let is : i ≡ n + j = omega arith in
        omega (arith, second p q l, second xs ys m, rest j is)
      where
        second : (p q : List ℕ) → length p ≡ n → get_or (p ++ q) i 0 ≡ get_or q (i - n) 0
        second p q l =
            ap (λ (k : ℕ). get_or (p ++ q) k 0) {x = i} {y = length p + (i - n)} (omega arith) ∙ get_or-append-add p q (i - n) 0

-- a subformula ends so many behind its number as its length says
pub end_by_length : (e : ℕ) (f : Formula) (i : ℕ) → i < size f → get_or (ends_from e f) i 0 ≡ e + i + get_or (lengths f) i 0
end_by_length e (Formula.leaf l) zero h = omega arith
end_by_length e (Formula.leaf l) (suc i) h = absurd (omega arith)
end_by_length e (Formula.variable d) zero h = omega arith
end_by_length e (Formula.variable d) (suc i) h = absurd (omega arith)
end_by_length e (Formula.pair o a b) zero h = omega arith
end_by_length e (Formula.pair o a b) (suc i) h =
    omega (
      arith,
      ends-both (e + 1) (size a) i (ends_from (e + 1) a) (ends_from (e + 1 + size a) b) (lengths a) (lengths b)
          (length-ends (e + 1) a) (length-lengths a) (λ l. end_by_length (e + 1) a i l)
          (λ j q. end_by_length (e + 1 + size a) b j (omega arith)),
    )
end_by_length e (Formula.next a) zero h = omega arith
end_by_length e (Formula.next a) (suc i) h = omega (arith, end_by_length (e + 1) a i (omega arith))
end_by_length e (Formula.fix g a) zero h = omega arith
end_by_length e (Formula.fix g a) (suc i) h = omega (arith, end_by_length (e + 1) a i (omega arith))

-- no subformula ends behind the one that it stands in
ends-inside : (hi e : ℕ) (f : Formula) → e + size f ≤ hi → base.Each (λ _ x. x ≤ hi) e (ends_from e f)
ends-inside hi e (Formula.leaf l) h = (omega arith, tt)
ends-inside hi e (Formula.variable d) h = (omega arith, tt)
ends-inside hi e (Formula.pair o a b) h = (
  omega arith,
  base.each_append (λ _ x. x ≤ hi) (e + 1) (e + 1 + size a) (ends_from (e + 1) a) (ends_from (e + 1 + size a) b)
      (ap (e + 1 +◌) (length-ends (e + 1) a)) (ends-inside hi (e + 1) a (omega arith)) (ends-inside hi (e + 1 + size a) b (omega arith)),
)
ends-inside hi e (Formula.next a) h = (omega arith, ends-inside hi (e + 1) a (omega arith))
ends-inside hi e (Formula.fix g a) h = (omega arith, ends-inside hi (e + 1) a (omega arith))

-- what a table, and a list of ends, have at a number
abbrev pub operator_in : Table → ℕ → Operator
operator_in t e = get_or t e nothing

abbrev pub end_in : List ℕ → ℕ → ℕ
end_in ends e = get_or ends e 0

-- The operators and ends of `count` numbers, from wherever they are known: a table, or the rows of memory that hold one.
module _ (operator : ℕ → Operator) (end : ℕ → ℕ) (count : ℕ) where
  -- the definitions, of these operators and ends
  abbrev Binds : (m lo hi : ℕ) → (guarded : Bool) → Type 0
  Binds = specs.Binds operator end count

  abbrev Occurs : (e : ℕ) → Guards → (binders : List ℕ) → Formula → Type 0
  Occurs = specs.Occurs operator end count

  ends-first : (e : ℕ) (f : Formula) → ListedFrom 0 end e (ends_from e f) → end e ≡ e + size f
  ends-first e (Formula.leaf l) h = sits_first h
  ends-first e (Formula.variable d) h = sits_first h
  ends-first e (Formula.pair o a b) h = sits_first h
  ends-first e (Formula.next a) h = sits_first h
  ends-first e (Formula.fix g a) h = sits_first h

  pub occurs_end : {e : ℕ} {guards : Guards} {binders : List ℕ} {f : Formula} → Occurs e guards binders f → end e ≡ e + size f
  occurs_end {e} {f = f} h = ends-first e f h.bounds

  binds_in : {m lo hi : ℕ} {g : Bool} (from to : ℕ) → lo ≤ from → to ≤ hi → Binds m lo hi g → Binds m from to g
  binds_in from to i j b =
      record {
        before = omega (arith, b.before);
        around = omega (arith, b.around);
        fixpoint = b.fixpoint;
        guard = λ t.
            let n = b.guard t in
            record {
              number = n.number;
              behind = n.behind;
              before = omega (arith, n.before);
              around = omega (arith, n.around);
              next = n.next;
            };
      }

  -- the operands of what stands at e stand at their numbers
  module _ {e : ℕ} {guards : Guards} {binders : List ℕ} where
    pub occurs_left : {o : Bool} {a b : Formula} → Occurs e guards binders (Formula.pair o a b) → Occurs (e + 1) guards binders a
    occurs_left {a = a} {b = b} h =
        record {
          operators = sits_left (table_from (e + 1) binders a) _ (sits_rest h.operators);
          bounds = sits_left (ends_from (e + 1) a) _ (sits_rest h.bounds);
          fits = omega (arith, h.fits);
          guarded = h.guarded.0;
          ranged = h.ranged.0;
          scoped = h.scoped;
          enclosed = λ d i. binds_in (e + 1) (e + 1 + size a) (omega arith) (omega arith) (h.enclosed d i);
        }

    pub occurs_right : {o : Bool} {a b : Formula} → Occurs e guards binders (Formula.pair o a b) → Occurs (e + 1 + size a) guards binders b
    occurs_right {a = a} {b = b} h =
        record {
          operators = sits_right (size a) (table_from (e + 1) binders a) _ (length-table (e + 1) binders a) (sits_rest h.operators);
          bounds = sits_right (size a) (ends_from (e + 1) a) _ (length-ends (e + 1) a) (sits_rest h.bounds);
          fits = omega (arith, h.fits);
          guarded = h.guarded.1;
          ranged = h.ranged.1;
          scoped = h.scoped;
          enclosed = λ d i. binds_in (e + 1 + size a) (e + 1 + size a + size b) (omega arith) (omega arith) (h.enclosed d i);
        }

    pub occurs_next : {a : Formula} → Occurs e guards binders (Formula.next a) → Occurs (e + 1) (map (λ _. true) guards) binders a
    occurs_next {a = a} h =
        record {
          operators = sits_rest h.operators;
          bounds = sits_rest h.bounds;
          fits = omega (arith, h.fits);
          guarded = h.guarded;
          ranged = h.ranged;
          scoped = length-map guards (λ _. true) ∙ h.scoped;
          enclosed = λ d i.
              let b = h.enclosed d i in
              record {
                before = omega (arith, b.before);
                around = omega (arith, b.around);
                fixpoint = b.fixpoint;
                guard = λ g.
                    record {
                      number = e;
                      behind = b.before;
                      before = omega arith;
                      around = omega (arith, occurs_end h);
                      next = rw (sits_first h.operators) tt;
                    };
              };
        }

    pub occurs_body : {g : Bool} {a : Formula} → Occurs e guards binders (Formula.fix g a) → Occurs (e + 1) (false ∷ guards) (e ∷ binders) a
    occurs_body {a = a} h =
        record {
          operators = sits_rest h.operators;
          bounds = sits_rest h.bounds;
          fits = omega (arith, h.fits);
          guarded = h.guarded;
          ranged = h.ranged;
          scoped = ap suc h.scoped;
          enclosed = λ d. inner d;
        }
      where
        inner : (d : ℕ) → d < suc (length binders) → Binds (get_or (e ∷ binders) d 0) (e + 1) (e + 1 + size a)
            (get_or (false ∷ guards) d false)
        inner zero i =
            record {
              before = omega arith;
              around = omega (arith, occurs_end h);
              fixpoint = rw (sits_first h.operators) tt;
              guard = λ g. absurd g;
            }
        inner (suc d) i = binds_in (e + 1) (e + 1 + size a) (omega arith) (omega arith) (h.enclosed d (omega arith))

  -- a number with the subformula that stands there
  pub record Located (e : ℕ) : Type 0 where
    pub guards : Guards
    pub binders : List ℕ
    pub subformula : Formula
    pub stands : Occurs e guards binders subformula

  abbrev Each : ℕ → ℕ → Type 0
  Each lo hi = (x : ℕ) → lo ≤ x → x < hi → Located x

  each_first : {e n : ℕ} {guards : Guards} {binders : List ℕ} {f : Formula} → Occurs e guards binders f → Each (e + 1) n → Each e n
  each_first {e} {n} {guards} {binders} {f} h more x i j = by (dec_lt e x)
    where
      by : Dec (e < x) → Located x
      by (yes l) = more x (omega arith) j
      by (no l) =
          let q : x ≡ e = omega arith in
          rw q (record { guards = guards; binders = binders; subformula = f; stands = h })

  each-join : {lo m hi : ℕ} → Each lo m → Each m hi → Each lo hi
  each-join {lo} {m} {hi} a b x i j = by (dec_lt x m)
    where
      by : Dec (x < m) → Located x
      by (yes l) = a x i l
      by (no l) = b x (omega arith) j

  each_to : {lo m : ℕ} (hi : ℕ) → hi ≡ m → Each lo m → Each lo hi
  each_to hi q a x i j = a x i (omega arith)

  none : (lo hi : ℕ) → hi ≤ lo → Each lo hi
  none lo hi l x i j = absurd (omega arith)

  each : {e : ℕ} {guards : Guards} {binders : List ℕ} (f : Formula) → Occurs e guards binders f → Each e (e + size f)
  each {e} (Formula.leaf l) h = each_first h (none (e + 1) (e + 1) (omega arith))
  each {e} (Formula.variable d) h = each_first h (none (e + 1) (e + 1) (omega arith))
  each {e} (Formula.pair o a b) h =
      each_to (e + (1 + (size a + size b))) (omega arith) (each_first h
      (each-join (each {e = e + 1} a (occurs_left h)) (each {e = e + 1 + size a} b (occurs_right h))))
  each {e} (Formula.next a) h = each_to (e + (1 + size a)) (omega arith) (each_first h (each {e = e + 1} a (occurs_next h)))
  each {e} (Formula.fix g a) h = each_to (e + (1 + size a)) (omega arith) (each_first h (each {e = e + 1} a (occurs_body h)))

  -- every number from e up to the end of what stands there
  pub located : {e : ℕ} {guards : Guards} {binders : List ℕ} {f : Formula} → Occurs e guards binders f → (x : ℕ) → e ≤ x → x < end e
      → Located x
  located {e} {f = f} h = each_to (end e) (occurs_end h) (each f h)

  pub occurs_nested : {e : ℕ} {guards : Guards} {binders : List ℕ} {f : Formula} → Occurs e guards binders f → (x : ℕ) → e ≤ x → x < end e
      → end x ≤ end e
  occurs_nested {e} {f = f} h x i j =
      let last : end e ≡ e + size f = occurs_end h in
      let k : x - e < length (ends_from e f) = omega (arith, length-ends e f) in
      let at : end (e + (x - e)) ≡ get_or (ends_from e f) (x - e) 0 = h.bounds.at (x - e) k in
      let small = base.each_at (λ _ y. y ≤ e + size f) e (ends_from e f) 0 (ends-inside (e + size f) e f (omega arith)) (x - e) k in
      omega (arith, ap end {x = x} {y = e + (x - e)} (omega arith))

  -- the only operand
  pub record Single (e operand : ℕ) : Type 0 where
    pub first : operand ≡ e + 1
    pub inside : operand < end e
    pub last : end operand ≡ end e

  -- two operands: the second begins where the first ends, and ends where the operator does
  pub record Pair (e left right : ℕ) : Type 0 where
    pub first : left ≡ e + 1
    pub order : left < right
    pub inside : right < end e
    pub second : end left ≡ right
    pub last : end right ≡ end e

  -- what an operator at number e asks of its operands; of a variable, that its binder encloses it with a next between
  abbrev pub Operands : ℕ → Operator → Type 0
  Operands e (Operator.leaf (Leaf.constant b)) = Unit {0}
  Operands e (Operator.leaf (Leaf.signal present s)) = s ≤ 15
  Operands e (Operator.variable m) = Binds m e (e + 1) true
  Operands e (Operator.pair o l r) = Pair e l r
  Operands e (Operator.next g) = Single e g
  Operands e (Operator.fix g b) = Single e b

  -- what the table looks like at number e
  pub record Shaped (e : ℕ) : Type 0 where
    pub some : e < end e
    pub inside : end e ≤ count
    pub operands : Operands e (operator e)

  operands-at : {e : ℕ} {guards : Guards} {binders : List ℕ} (f : Formula) → Occurs e guards binders f → Operands e (operator e)
  operands-at (Formula.leaf (Leaf.constant b)) h = rw (sits_first h.operators) tt
  operands-at (Formula.leaf (Leaf.signal present s)) h = rw (sits_first h.operators) h.ranged
  operands-at (Formula.variable d) h =
      let b = h.enclosed d (omega (arith, h.guarded.0, h.scoped)) in
      rw (sits_first h.operators)
      (record { before = b.before; around = b.around; fixpoint = b.fixpoint; guard = λ g. b.guard h.guarded.1 })
  operands-at (Formula.pair o a b) h =
      rw (sits_first h.operators)
      (record {
        first = refl;
        order = omega (arith, size-some a);
        inside = omega (arith, size-some b, occurs_end h);
        second = occurs_end (occurs_left h);
        last = omega (arith, occurs_end (occurs_right h), occurs_end h);
      })
  operands-at (Formula.next a) h =
      rw (sits_first h.operators)
      (record {
        first = refl;
        inside = omega (arith, size-some a, occurs_end h);
        last = omega (arith, occurs_end (occurs_next h), occurs_end h);
      })
  operands-at (Formula.fix g a) h =
      rw (sits_first h.operators)
      (record {
        first = refl;
        inside = omega (arith, size-some a, occurs_end h);
        last = omega (arith, occurs_end (occurs_body h), occurs_end h);
      })

  pub occurs_shaped : {e : ℕ} {guards : Guards} {binders : List ℕ} {f : Formula} → Occurs e guards binders f → Shaped e
  occurs_shaped {f = f} h =
      record { some = omega (arith, occurs_end h, size-some f); inside = omega (arith, occurs_end h, h.fits); operands = operands-at f h }

pub table-size : (f : Formula) → length (table f) ≡ size f
unfolding table
table-size f = length-table 0 [] f

-- Operators and ends that are a formula's: the formula stands at 0, so every number is a subformula, and shaped as such.
module _ (operator : ℕ → Operator) (end : ℕ → ℕ) (f : Formula) (operators : (e : ℕ) → e < size f → operator e ≡ operator_in (table f) e)
    (ends : (e : ℕ) → e < size f → end e ≡ end_in (ends_from 0 f) e) (guarded : Guarded [] f) (ranged : Ranged f) where
  pub occurs_whole : Occurs operator end (size f) 0 [] [] f
  unfolding table
  occurs_whole =
      record {
        operators = record { at = λ i l. let q : 0 + i ≡ i = omega arith in rw q (operators i (omega (arith, table-size f))) };
        bounds = record { at = λ i l. let q : 0 + i ≡ i = omega arith in rw q (ends i (omega (arith, length-ends 0 f))) };
        fits = omega arith;
        guarded = guarded;
        ranged = ranged;
        scoped = refl;
        enclosed = λ d i. absurd (omega arith);
      }

  pub each-located : (e : ℕ) → e < size f → Located operator end (size f) e
  each-located e i =
      located operator end (size f) occurs_whole e (omega arith) (omega (arith, occurs_end operator end (size f) occurs_whole))

  pub each_shaped : (e : ℕ) → e < size f → Shaped operator end (size f) e
  each_shaped e i = occurs_shaped operator end (size f) (each-located e i).stands

-- the table of an accepted formula
pub parse_shaped : (bytes : List ℕ) (f : Formula) → parse bytes ≡ Reading.accepted f
    → (e : ℕ) → e < size f → Shaped (operator_in (table f)) (end_in (ends_from 0 f)) (size f) e
parse_shaped bytes f p =
    each_shaped (operator_in (table f)) (end_in (ends_from 0 f)) f (λ e i. refl) (λ e i. refl) (parse-guarded bytes f p)
    (parse-limited bytes f p).signals
