-- Where a formula stands among numbered operators: its subformulas have the numbers from its own on, in prefix order, inside the
-- fixpoints around it. The operators may be those of a table, or of the rows of memory that hold one. proofs/WellFormed.antt has the
-- laws. Assumes nothing.
use Rattle.std.specs.Prelude.{◌≡◌, Bool, true, false, List, ◌∷◌, map, ℕ, suc, ◌+◌, ◌≤◌, ◌<◌, T, length, get_or}
use Rattle.formula.specs.Formula.{Leaf, Formula, size}
use Rattle.formula.specs.Table.{Operator, is_next, is_fix, table_from, ends_from}

-- From number e on, s has the elements of a list. (d: what lists give behind their last element.)
pub record ListedFrom {A : Type 0} (d : A) (s : ℕ → A) (e : ℕ) (part : List A) : Type 0 where
  pub at : (i : ℕ) → i < length part → s (e + i) ≡ get_or part i d

-- what tables give behind their last operator
abbrev pub nothing : Operator
nothing = Operator.leaf (Leaf.constant false)

-- Of the fixpoints around, innermost first, whether there is a next between each and here.
abbrev pub Guards : Type 0
Guards = List Bool

-- Closed and guarded (MEANING 1.4, questions 7 and 8): each variable has a binder, and a next between it and the binder.
abbrev pub Guarded : Guards → Formula → Type 0
Guarded guards (Formula.leaf l) = Unit {0}
Guarded guards (Formula.variable d) = (d < length guards) × T (get_or guards d false)
Guarded guards (Formula.pair o a b) = Guarded guards a × Guarded guards b
Guarded guards (Formula.next a) = Guarded (map (λ _. true) guards) a
Guarded guards (Formula.fix g a) = Guarded (false ∷ guards) a

-- Closed (question 7): each variable names one of m fixpoints around, or one inside. By itself a formula is closed with none around.
abbrev pub Closed : (m : ℕ) → Formula → Type 0
Closed m (Formula.leaf l) = Unit {0}
Closed m (Formula.variable d) = d < m
Closed m (Formula.pair o a b) = Closed m a × Closed m b
Closed m (Formula.next a) = Closed m a
Closed m (Formula.fix g a) = Closed (suc m) a

-- signals are 0 to 15 (question 6)
abbrev pub Ranged : Formula → Type 0
Ranged (Formula.leaf (Leaf.constant b)) = Unit {0}
Ranged (Formula.leaf (Leaf.signal present s)) = s ≤ 15
Ranged (Formula.variable d) = Unit {0}
Ranged (Formula.pair o a b) = Ranged a × Ranged b
Ranged (Formula.next a) = Ranged a
Ranged (Formula.fix g a) = Ranged a

-- The operators and ends of `count` numbers, from wherever they are known.
module _ (operator : ℕ → Operator) (end : ℕ → ℕ) (count : ℕ) where
  -- a next between m and the numbers from lo to hi
  pub record NextBetween (m lo hi : ℕ) : Type 0 where
    pub number : ℕ
    pub behind : m < number
    pub before : number < lo
    pub around : hi ≤ end number
    pub next : T (is_next (operator number))

  -- m is a fixpoint around the numbers from lo to hi, and guarded says that a next stands between
  pub record Binds (m lo hi : ℕ) (guarded : Bool) : Type 0 where
    pub before : m < lo
    pub around : hi ≤ end m
    pub fixpoint : T (is_fix (operator m))
    pub guard : T guarded → NextBetween m lo hi

  -- f stands at number e, inside the fixpoints `binders`
  pub record Occurs (e : ℕ) (guards : Guards) (binders : List ℕ) (f : Formula) : Type 0 where
    pub operators : ListedFrom nothing operator e (table_from e binders f)
    pub bounds : ListedFrom 0 end e (ends_from e f)
    pub fits : e + size f ≤ count
    pub guarded : Guarded guards f
    pub ranged : Ranged f
    pub scoped : length guards ≡ length binders
    pub enclosed : (d : ℕ) → d < length binders → Binds (get_or binders d 0) e (e + size f) (get_or guards d false)
