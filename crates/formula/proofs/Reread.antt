-- What is closed, guarded and in range is read back from its own bytes: the outcome is the formula itself, or the refusal 3 or 4, and a
-- refusal only where the formula is over the limits of MEANING 1.4. All other questions are answered by yes on a spelling; and each
-- counter grows by the formula's own number, so a no to the questions 3 and 4 says that this number is too large. A formula may also be
-- closed and guarded only inside fixpoints of which its own bytes have nothing: then it names one of them, and the refusal is 7, if it is
-- not over the limits before. Assumes nothing.
use Rattle.std.proofs.Common.{◌≡◌, refl, sym, ap, subst, ◌∙◌, ◌⊎◌, inl, inr, Bool, true, false, List, [], ◌∷◌, ◌++◌, append_assoc}
use Rattle.std.proofs.Common.{append-nil, map, ℕ, suc, ◌+◌, ◌-◌, ◌≤◌, ◌<◌, arith, T, ltb, leb, lt→ltb, le→leb, length, get_or, le-ltb}
use Rattle.std.proofs.Math.Decide.{dec_lt}
use Rattle.std.proofs.Math.ListN.{length-map, get_or-append}
use Rattle.std.proofs.Math.Path.{subst⁻¹}
use mathlib.Core.List.{map-append}
use Rattle.formula.specs.Formula.{Leaf, Formula}
use Rattle.formula.specs.Refusal.{fault_code, at_byte}
use Rattle.formula.specs.declared.Fault.{Fault}
use Rattle.formula.specs.declared.Fault.TheVariants.{UnknownOpcode, TooManyOperators, TooManyOfKind, UnknownSignal, UnboundVariable}
use Rattle.formula.specs.declared.Refusal.{Refusal}
use Rattle.formula.specs.Reading.{Opcode, opcode, byte_of, Head, Read, Reader, done, and_then, answered, known, within, one_more}
use Rattle.formula.specs.Reading.{Scope, outside, entered, behind_next, operands, Reading, whole, start, parse}
use Rattle.formula.specs.Occurrence.{Guards, Guarded, Closed, Ranged}
use Rattle.formula.specs.Ways.{spelled}
use Rattle.formula.proofs.Commands.{or_command, next-command, fix-command, one_if, counted_is, behind}
use Rattle.formula.proofs.ScopeLaws.{guards, guards-length, guards-at, guards-next}
use Rattle.formula.proofs.Alike.{moved, same, over}
use Rattle.formula.proofs.Fuel.{formula-at, formula_unfolds}
use Rattle.formula.proofs.Limits.{tally, any, size_tally, WithinLimits}
use Rattle.formula.proofs.Guarded.{parse-guarded, guarded-closed}

-- what the limits are about: operators, or, next and fixpoints
data Kind : Type 0 where
  commands ors nexts fixpoints : Kind

-- how many of a kind reading has counted,
abbrev count : Kind → Head → ℕ
count Kind.commands h = h.commands
count Kind.ors h = h.ors
count Kind.nexts h = h.nexts
count Kind.fixpoints h = h.fixpoints

-- how many there may be,
abbrev limit : Kind → ℕ
limit Kind.commands = 48
limit Kind.ors = 12
limit Kind.nexts = 12
limit Kind.fixpoints = 7

-- and whether an operator is of this kind
abbrev counts : Kind → Opcode → Bool
counts Kind.commands op = any op
counts Kind.ors op = or_command op
counts Kind.nexts op = next-command op
counts Kind.fixpoints op = fix-command op

-- a number of each kind, of an operator and of a formula
abbrev Load : Type 0
Load = Kind → ℕ

abbrev plus : Load → Load → Load
plus n m c = n c + m c

abbrev load_of : Opcode → Load
load_of op c = one_if (counts c op)

abbrev load : Formula → Load
load f c = tally (counts c) f

-- so much more is within the limits
record Fits (h : Head) (n : Load) : Type 0 where
  each : (c : Kind) → count c h + n c ≤ limit c

-- from h to k so much was counted
record Grown (h k : Head) (n : Load) : Type 0 where
  each : (c : Kind) → count c k ≡ count c h + n c

grown-on : {h j k : Head} {n m : Load} → Grown h j n → Grown j k m → Grown h k (plus n m)
grown-on p q = record { each = λ c. omega (arith, p.each c, q.each c) }

fits-first : {h : Head} {n : Load} (m : Load) → Fits h (plus n m) → Fits h n
fits-first m r = record { each = λ c. omega (arith, r.each c) }

fits-rest : {h j : Head} {n m : Load} → Grown h j n → Fits h (plus n m) → Fits j m
fits-rest g r = record { each = λ c. omega (arith, g.each c, r.each c) }

-- What reading the formula f comes to, with the bytes `rest` behind it and n to be counted for it. (`closed`: each variable in f names a
-- fixpoint that the reader has seen.)
data Comes (n : Load) (closed : Type 0) (f : Formula) (h : Head) (rest : List ℕ) : Read Formula → Type 0 where
  got : (k : Head) → Grown h k n → Comes n closed f h rest (Read.got f (over k rest))
  too_large : (fault : Fault) (place : ℕ) → (fault_code fault ≡ 3) ⊎ (fault_code fault ≡ 4) → (Fits h n → ⊥)
      → Comes n closed f h rest (Read.refused (at_byte fault place))
  unbound : (place : ℕ) → (closed → ⊥) → Comes n closed f h rest (Read.refused (at_byte UnboundVariable place))

-- something was counted before
after : {n m : Load} {C : Type 0} {f : Formula} {h j : Head} {rest : List ℕ} {x : Read Formula} → Grown h j n → Comes m C f j rest x
    → Comes (plus n m) C f h rest x
after g (Comes.got k r) = Comes.got k (grown-on g r)
after g (Comes.too_large fault place c large) = Comes.too_large fault place c (λ r. large (fits-rest g r))
after g (Comes.unbound place o) = Comes.unbound place o

-- a formula is made of it, which is closed only where it is
made : {n : Load} {C D : Type 0} {f : Formula} {h : Head} {rest : List ℕ} {x : Read Formula} (make : Formula → Formula) → (D → C)
    → Comes n C f h rest x → Comes n D (make f) h rest (and_then (λ a. done (make a)) x)
made make part (Comes.got k g) = Comes.got k g
made make part (Comes.too_large fault place c large) = Comes.too_large fault place c large
made make part (Comes.unbound place o) = Comes.unbound place (λ c. o (part c))

-- an or or an and, its second operand being read from where reading has come to behind the first
both : {n m : Load} {C D : Type 0} {a b : Formula} {h : Head} {bytes rest : List ℕ} {x : Read Formula} (o : Bool) (second : Reader Formula)
    → Comes n C a h bytes x
    → ((k : Head) → Comes m D b k rest (second (over k bytes)))
    → Comes (plus n m) (C × D) (Formula.pair o a b) h rest (and_then (λ a h. and_then (λ b. done (Formula.pair o a b)) (second h)) x)
both {a = a} o second (Comes.got k g) go = after g (made (Formula.pair o a) (λ c. c.1) (go k))
both {m = m} o second (Comes.too_large fault place c large) go = Comes.too_large fault place c (λ r. large (fits-first m r))
both o second (Comes.unbound place p) go = Comes.unbound place (λ c. p c.0)

-- a question whose answer is yes
answered-yes : {A : Type 0} (t : Bool) → T t → (why : ℕ → Refusal) (f : Unit {0} → Reader A) (h : Head)
    → and_then f (answered t why h) ≡ f tt h
answered-yes true s why f h = refl
answered-yes {A = A} false s why f h = elim s [ ]

-- and one whose answer is no
answered-no : {A : Type 0} (t : Bool) → t ≡ false → (why : ℕ → Refusal) (f : Unit {0} → Reader A) (h : Head)
    → and_then f (answered t why h) ≡ Read.refused (why (h.at - 1))
answered-no t e why f h = rw e

opcode-spelled : (op : Opcode) → T (known op) → opcode (byte_of op) ≡ op
opcode-spelled (Opcode.constant true) k = refl
opcode-spelled (Opcode.constant false) k = refl
opcode-spelled (Opcode.signal true) k = refl
opcode-spelled (Opcode.signal false) k = refl
opcode-spelled Opcode.variable k = refl
opcode-spelled (Opcode.pair true) k = refl
opcode-spelled (Opcode.pair false) k = refl
opcode-spelled Opcode.next k = refl
opcode-spelled (Opcode.fix true) k = refl
opcode-spelled (Opcode.fix false) k = refl
opcode-spelled Rattle.formula.specs.Reading.unknown k = elim k [ ]

-- question 4 where there is room
room : (op : Opcode) (h : Head) (l : List ℕ) → Fits h (load_of op) → T (within op (behind h l))
room Opcode.unknown h l r = tt
room (Opcode.constant b) h l r = tt
room (Opcode.signal b) h l r = tt
room Opcode.variable h l r = tt
room (Opcode.pair true) h l r = lt→ltb h.ors 12 (omega (arith, r.each Kind.ors))
room (Opcode.pair false) h l r = tt
room Opcode.next h l r = lt→ltb h.nexts 12 (omega (arith, r.each Kind.nexts))
room (Opcode.fix g) h l r = lt→ltb h.fixpoints 7 (omega (arith, r.each Kind.fixpoints))

-- the head behind the byte of an operator, which is counted
abbrev stepped : Opcode → Head → Head
stepped op h = one_more (one_if (or_command op)) (one_if (next-command op)) (one_if (fix-command op)) (behind h h.left)

-- the operator and nothing else was counted, at whatever place the head then stands
stepped_grown : (place : ℕ → ℕ) (op : Opcode) (h : Head) (l : List ℕ) → Grown h (moved place (stepped op h) l) (load_of op)
stepped_grown place op h l = record { each = by }
  where
    by : (c : Kind) → count c (moved place (stepped op h) l) ≡ count c h + load_of op c
    by Kind.commands = refl
    by Kind.ors = refl
    by Kind.nexts = refl
    by Kind.fixpoints = refl

-- The operator op is spelled at h, and with it f begins. (C: f is closed.)
module _ (C : Type 0) (scope : Scope) (op : Opcode) (f : Formula) (h : Head) (bytes rest : List ℕ) (t : T (known op)) where
  -- its operands are read from here
  abbrev operands_read : Read Formula
  operands_read = operands formula-at scope op (over (stepped op h) bytes)

  -- the formula that begins with it
  abbrev formula_read : Read Formula
  formula_read = formula-at scope (over h (byte_of op ∷ bytes))

  module _ (n : Load) (first : Fits h n → Fits h (load_of op)) where
    -- the questions 3 and 4
    limited : (fault : Fault) → (fault_code fault ≡ 3) ⊎ (fault_code fault ≡ 4) → (t : Bool) → (Fits h (load_of op) → T t)
        → (go : Unit {0} → Reader Formula) (k : Head) → Comes n C f h rest (go tt k) → Comes n C f h rest (and_then go (answered t (at_byte fault) k))
    limited fault c true r go k p = p
    limited fault c false r go k p = Comes.too_large fault (k.at - 1) c (λ s. r (first s))

    asked : Comes n C f h rest operands_read → Comes n C f h rest formula_read
    asked p =
        let k = behind h bytes in
        rw (formula_unfolds scope (over h (byte_of op ∷ bytes)))
        (rw (opcode-spelled op t)
        (subst⁻¹ (Comes n C f h rest) (answered-yes (known op) t (at_byte UnknownOpcode) _ k)
        (limited TooManyOperators (inl refl) (ltb h.commands 48) (λ r. lt→ltb h.commands 48 (omega (arith, r.each Kind.commands))) _ k
        (limited TooManyOfKind (inr refl) (within op k) (room op h bytes) _ k
        (rw (counted_is op k) p)))))

  -- it has no operand formula, and is accepted
  alone : (place : ℕ → ℕ) → operands_read ≡ Read.got f (moved place (stepped op h) rest) → Comes (load_of op) C f h rest formula_read
  alone place e =
      asked (load_of op) (λ r. r)
      (subst⁻¹ (Comes (load_of op) C f h rest) e
      (Comes.got (moved place (stepped op h) rest) (stepped_grown place op h rest)))

  -- or names no fixpoint that the reader has seen
  unnamed : (place : ℕ) → operands_read ≡ Read.refused (at_byte UnboundVariable place) → (C → ⊥)
      → Comes (load_of op) C f h rest formula_read
  unnamed place e o = asked (load_of op) (λ r. r) (subst⁻¹ (Comes (load_of op) C f h rest) e (Comes.unbound place o))

  -- its operand formulas are read behind it
  leading : (m : Load) → Comes m C f (stepped op h) rest operands_read → Comes (plus (load_of op) m) C f h rest formula_read
  leading m p = asked (plus (load_of op) m) (fits-first m) (after (stepped_grown same op h h.left) p)

-- Reading goes through the spelling of a formula, whatever bytes are behind it. The formula stands inside the m fixpoints of the scope,
-- and inside `outer`, which the reader does not see.
formula_comes : (f : Formula) (scope : Scope) (outer : Guards) (m : ℕ) → length scope ≡ m → (h : Head) (rest : List ℕ)
    → Guarded (guards scope ++ outer) f → Ranged f → Comes (load f) (Closed m f) f h rest (formula-at scope (over h (spelled f ++ rest)))
formula_comes (Formula.leaf (Leaf.constant b)) scope outer m l h rest g r =
    alone (Unit {0}) scope (Opcode.constant b) _ h rest rest tt same refl
formula_comes (Formula.leaf (Leaf.signal present s)) scope outer m l h rest g r =
    alone (Unit {0}) scope (Opcode.signal present) _ h (s ∷ rest) rest tt (λ i. i + 1)
    (answered-yes (leb s 15) (le→leb s 15 r) (at_byte UnknownSignal) _ _)
formula_comes (Formula.variable d) scope outer m l h rest g r = by (dec_lt d (length scope))
  where
    by : Dec (d < length scope)
        → Comes (load_of Opcode.variable) (d < m) (Formula.variable d) h rest
        (formula-at scope (over h (byte_of Opcode.variable ∷ d ∷ rest)))
    by (yes i) =
        let at = get_or-append (guards scope) outer false d (omega (arith, guards-length scope)) ∙ guards-at scope d i in
        alone (d < m) scope Opcode.variable _ h (d ∷ rest) rest tt (λ i. i + 1)
        (answered-yes (ltb d (length scope)) (lt→ltb d (length scope) i) (at_byte UnboundVariable) _ _
        ∙ answered-yes (get_or scope d outside).guarded (subst T at g.1) _ _ _)
    by (no i) =
        unnamed (d < m) scope Opcode.variable _ h (d ∷ rest) rest tt _
        (answered-no (ltb d (length scope)) (le-ltb d (length scope) (omega arith)) (at_byte UnboundVariable) _ _) (λ j. i (omega arith))
formula_comes (Formula.pair o a b) scope outer m l h rest g r =
    rw (append_assoc (spelled a) (spelled b) rest)
    (leading (Closed m a × Closed m b) scope (Opcode.pair o) _ h (spelled a ++ (spelled b ++ rest)) rest tt (plus (load a) (load b))
    (both o (formula-at scope) (formula_comes a scope outer m l (stepped (Opcode.pair o) h) (spelled b ++ rest) g.0 r.0)
    (λ k. formula_comes b scope outer m l k rest g.1 r.1)))
formula_comes (Formula.next a) scope outer m l h rest g r =
    let behind : Guards → Guards = map (λ _. true) in
    let around = map-append (λ _. true) (guards scope) outer ∙ ap (λ (l : Guards). l ++ behind outer) (sym (guards-next scope)) in
    leading (Closed m a) scope Opcode.next _ h (spelled a ++ rest) rest tt (load a)
    (made Formula.next (λ c. c)
    (formula_comes a (map behind_next scope) (behind outer) m (length-map scope behind_next ∙ l) (stepped Opcode.next h) rest
    (subst (λ (l : Guards). Guarded l a) around g) r))
formula_comes (Formula.fix t a) scope outer m l h rest g r =
    let j = stepped (Opcode.fix t) h in
    leading (Closed (suc m) a) scope (Opcode.fix t) _ h (spelled a ++ rest) rest tt (load a)
    (made (Formula.fix t) (λ c. c) (formula_comes a (entered (j.at - 1) ∷ scope) outer (suc m) (ap suc l) j rest g r))

-- the same of a formula's own bytes
spelled_comes : (f : Formula) (outer : Guards) → Guarded outer f → Ranged f
    → Comes (load f) (Closed 0 f) f (start (spelled f)) [] (formula-at [] (start (spelled f)))
spelled_comes f outer g r =
    subst (λ (l : List ℕ). Comes (load f) (Closed 0 f) f (start l) [] (formula-at [] (start l))) (append-nil (spelled f))
    (formula_comes f [] outer 0 refl (start (spelled f ++ [])) [] g r)

-- what reading comes to on the spelling of a formula
pub data Reread (f : Formula) : Reading Formula → Type 0 where
  accepted : Reread f (Reading.accepted f)
  too_large : (fault : Fault) (place : ℕ) → (fault_code fault ≡ 3) ⊎ (fault_code fault ≡ 4) → (WithinLimits f → ⊥)
      → Reread f (Reading.refused (at_byte fault place))

limits-fit : (f : Formula) (bytes : List ℕ) → WithinLimits f → Fits (start bytes) (load f)
limits-fit f bytes l = record { each = by }
  where
    by : (c : Kind) → count c (start bytes) + load f c ≤ limit c
    by Kind.commands = omega (arith, l.commands, size_tally f)
    by Kind.ors = omega (arith, l.ors)
    by Kind.nexts = omega (arith, l.nexts)
    by Kind.fixpoints = omega (arith, l.fixpoints)

whole_comes : {f : Formula} {bytes : List ℕ} {x : Read Formula} → Closed 0 f → Comes (load f) (Closed 0 f) f (start bytes) [] x
    → Reread f (whole x)
whole_comes c (Comes.got k g) = Reread.accepted
whole_comes {f} {bytes} c (Comes.too_large fault place w large) = Reread.too_large fault place w (λ l. large (limits-fit f bytes l))
whole_comes c (Comes.unbound place o) = absurd (o c)

pub spelled_read : (f : Formula) → Guarded [] f → Ranged f → Reread f (parse (spelled f))
unfolding parse
spelled_read f g r = whole_comes (guarded-closed [] f g) (spelled_comes f [] g r)

-- within the limits nothing is refused
pub limited_read : (f : Formula) → Guarded [] f → WithinLimits f → parse (spelled f) ≡ Reading.accepted f
limited_read f g l = by (spelled_read f g l.signals)
  where
    by : {x : Reading Formula} → Reread f x → x ≡ Reading.accepted f
    by Reread.accepted = refl
    by (Reread.too_large fault place c large) = absurd (large l)

-- but a formula that names a fixpoint which its bytes do not have
pub open_read : (guards : Guards) (f : Formula) → Guarded guards f → WithinLimits f → (Closed 0 f → ⊥)
    → (place : ℕ) × (parse (spelled f) ≡ Reading.refused (at_byte UnboundVariable place))
unfolding parse
open_read guards f g l free = by (spelled_comes f guards g l.signals) refl
  where
    by : {x : Read Formula} → Comes (load f) (Closed 0 f) f (start (spelled f)) [] x → parse (spelled f) ≡ whole x
        → (place : ℕ) × (parse (spelled f) ≡ Reading.refused (at_byte UnboundVariable place))
    by (Comes.got k grown) e = absurd (free (guarded-closed [] f (parse-guarded (spelled f) f e)))
    by (Comes.too_large fault place c large) e = absurd (large (limits-fit f (spelled f) l))
    by (Comes.unbound place o) e = (place, e)
