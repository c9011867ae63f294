-- Reading two inputs side by side. If what is left of one looks like what is left of the other as far as reading looks, both readings
-- come to the same: the same refusal, or the same formula with bytes left that again look alike. What "look alike" is stays open:
-- `Looks` lists what is asked of it, and Fuel and Prefix give one relation each. The two may begin at different places: `place` takes
-- a place in the one to that in the other, and goes on with it from byte to byte; their scopes differ by the same. Assumes nothing.
use Rattle.std.proofs.Common.{◌≡◌, refl, ap, subst, ◌∙◌, ◌⊎◌, inl, inr, ⊎_elim, Bool, true, false, List, [], ◌∷◌, map, ℕ, zero, suc, ◌+◌}
use Rattle.std.proofs.Common.{◌-◌, ◌≤◌, ◌<◌, arith, T, ltb, leb, ltb→lt, length, get_or}
use Rattle.formula.specs.Formula.{Formula}
use Rattle.formula.specs.Refusal.{at_byte, unguarded, moved_to}
use Rattle.formula.specs.declared.Fault.{Fault}
use Rattle.formula.specs.declared.Fault.TheVariants.{MissingOperator, UnknownOpcode, TooManyOperators, TooManyOfKind}
use Rattle.formula.specs.declared.Fault.TheVariants.{MissingOperand, UnknownSignal, UnboundVariable}
use Rattle.formula.specs.declared.Refusal.{Refusal}
use Rattle.formula.specs.Reading.{Opcode, opcode, Head, Read, Reader, and_then, byte_from, byte, answered, known, within}
use Rattle.formula.specs.Reading.{one_more, counted, Scope, outside, entered, behind_next, depth_asked, operands, questions}
use Rattle.formula.specs.Reading.{formula}
use Rattle.formula.proofs.ScopeLaws.{moved_scope, moved_length, moved_at, moved_next}
use Rattle.formula.proofs.Commands.{or_command, next-command, fix-command, one_if, counted_is, behind}

-- the same head at another place, over other bytes
abbrev pub moved : (ℕ → ℕ) → Head → List ℕ → Head
moved place h l =
    record { at = place h.at; left = l; commands = h.commands; ors = h.ors; nexts = h.nexts; fixpoints = h.fixpoints }

-- at the same place
abbrev pub same : ℕ → ℕ
same i = i

abbrev pub over : Head → List ℕ → Head
over h l = moved same h l

within_moved : (place : ℕ → ℕ) (op : Opcode) (h : Head) (l : List ℕ) → within op (moved place h l) ≡ within op h
within_moved place Opcode.unknown h l = refl
within_moved place (Opcode.constant b) h l = refl
within_moved place (Opcode.signal b) h l = refl
within_moved place Opcode.variable h l = refl
within_moved place (Opcode.pair true) h l = refl
within_moved place (Opcode.pair false) h l = refl
within_moved place Opcode.next h l = refl
within_moved place (Opcode.fix g) h l = refl

-- the refusals that a question about a byte gives, by the byte's place
pub data OfByte : (ℕ → Refusal) → Type 0 where
  unknown : OfByte (at_byte UnknownOpcode)
  commands : OfByte (at_byte TooManyOperators)
  limits : OfByte (at_byte TooManyOfKind)
  signal : OfByte (at_byte UnknownSignal)
  depth : OfByte (at_byte UnboundVariable)
  guard : {binder : ℕ} → OfByte (unguarded binder)

-- the refusals where there is no byte
pub data AtEnd : Fault → Type 0 where
  command : AtEnd MissingOperator
  operand : AtEnd MissingOperand

-- in a relation R of a head and the other input's bytes left, and at most n and m bytes left
pub record Near (R : ℕ → Head → List ℕ → Type 0) (n m s : ℕ) (h : Head) (l : List ℕ) : Type 0 where
  pub alike : R s h l
  pub first : length h.left ≤ n
  pub second : length l ≤ m

-- with no byte left the bound on the nesting does not matter
no_byte : (d : ℕ) (scope : Scope) (h : Head) → formula d scope (over h []) ≡ Read.refused (at_byte MissingOperator h.at)
no_byte zero scope h = refl
no_byte (suc d) scope h = refl

-- P: what is shown of a refusal.
module _ (P : Refusal → Type 0) where
  -- a look at the first byte of the two
  pub data Look (R : Head → List ℕ → Type 0) (h : Head) : List ℕ → List ℕ → Type 0 where
    none : ((fault : Fault) → AtEnd fault → P (at_byte fault h.at)) → Look R h [] []
    some : {b : ℕ} {x y : List ℕ} → R (behind h x) y → Look R h (b ∷ x) (b ∷ y)

  -- What is asked of a relation. Its number says how many more bytes may be looked at before the next command counts: one before
  -- a command, for its own byte, and two when it has counted, for its operand byte and for the byte that comes then.
  pub record Looks (R : ℕ → Head → List ℕ → Type 0) : Type 0 where
    pub look : (s : ℕ) (h : Head) (l : List ℕ) → R (suc s) h l → Look (R s) h h.left l
    pub count : (o n f : ℕ) (h : Head) (l : List ℕ) → h.commands < 48 → R 0 h l → R 2 (one_more o n f h) l
    pub fewer : (h : Head) (l : List ℕ) → R 2 h l → R 1 h l
    pub refuse : (s : ℕ) (h : Head) (x y : List ℕ) (why : ℕ → Refusal) → OfByte why → R s (behind h x) y → P (why ((behind h x).at - 1))

  -- two readings came to the same
  pub data Alike {A : Type 0} (place : ℕ → ℕ) (R : Head → List ℕ → Type 0) : Read A → Read A → Type 0 where
    refused : {why : Refusal} → P why → Alike place R (Read.refused why) (Read.refused (moved_to place why))
    got : {a : A} {h : Head} {l : List ℕ} → R h l → Alike place R (Read.got a h) (Read.got a (moved place h l))

  then_alike : {A B : Type 0} {place : ℕ → ℕ} {R S : Head → List ℕ → Type 0} {x y : Read A} (f g : A → Reader B) → Alike place R x y
      → ((a : A) (h : Head) (l : List ℕ) → R h l → Alike place S (f a h) (g a (moved place h l)))
      → Alike place S (and_then f x) (and_then g y)
  then_alike f g (Alike.refused p) go = Alike.refused p
  then_alike f g (Alike.got r) go = go _ _ _ r

  module _ (place : ℕ → ℕ) (along : (i : ℕ) → place (i + 1) ≡ place i + 1) (R : ℕ → Head → List ℕ → Type 0) (looks : Looks R) where
    -- the place of the byte behind which the heads stand
    back : (i : ℕ) → place (i + 1 - 1) ≡ place (i + 1) - 1
    back i =
        let e : i + 1 - 1 ≡ i = omega arith in
        ap place e ∙ omega (arith, along i)

    -- a question about that byte, with the same refusal at both places
    ask-alike : {A : Type 0} {S : Head → List ℕ → Type 0} {n m s : ℕ} {x y : List ℕ} (h : Head) (b : Bool) (why other : ℕ → Refusal)
        (f g : Unit {0} → Reader A)
        → OfByte why → ((i : ℕ) → moved_to place (why i) ≡ other (place i))
        → Near R n m s (behind h x) y → (T b → Alike place S (f tt (behind h x)) (g tt (moved place (behind h x) y)))
        → Alike place S (and_then f (answered b why (behind h x))) (and_then g (answered b other (moved place (behind h x) y)))
    ask-alike h true why other f g c e r go = go tt
    ask-alike {A = A} {S = S} {s = s} {x = x} {y = y} h false why other f g c e r go =
        subst (λ (w : Refusal). Alike {A = A} place S (Read.refused (why (h.at + 1 - 1))) (Read.refused w))
        (e (h.at + 1 - 1) ∙ ap other (back h.at))
        (Alike.refused (looks.refuse s h x y why c r.alike))

    -- one whose refusal has a fault and this place alone
    fault_alike : {A : Type 0} {S : Head → List ℕ → Type 0} {n m s : ℕ} {x y : List ℕ} (h : Head) (b : Bool) (fault : Fault)
        (f g : Unit {0} → Reader A)
        → OfByte (at_byte fault) → Near R n m s (behind h x) y
        → (T b → Alike place S (f tt (behind h x)) (g tt (moved place (behind h x) y)))
        → Alike place S (and_then f (answered b (at_byte fault) (behind h x)))
        (and_then g (answered b (at_byte fault) (moved place (behind h x) y)))
    fault_alike h b fault f g c r go = ask-alike h b (at_byte fault) (at_byte fault) f g c (λ i. refl) r go

    byte-alike : {A : Type 0} {S : Head → List ℕ → Type 0} {n m s : ℕ} {h : Head} {l : List ℕ} (missing : Fault) (f g : ℕ → Reader A)
        → AtEnd missing → Near R (suc n) (suc m) (suc s) h l
        → ((b : ℕ) (x y : List ℕ) → Near R n m s (behind h x) y → Alike place S (f b (behind h x)) (g b (moved place (behind h x) y)))
        → Alike place S (and_then f (byte missing h)) (and_then g (byte missing (moved place h l)))
    byte-alike {S = S} {n = n} {m = m} {s = s} {h = h} {l = l} missing f g c r go = by (looks.look s h l r.alike) r.first r.second
      where
        by : {x y : List ℕ} → Look (R s) h x y → length x ≤ suc n → length y ≤ suc m
            → Alike place S (and_then f (byte_from missing h x)) (and_then g (byte_from missing (moved place h y) y))
        by (Look.none p) i j = Alike.refused (p missing c)
        by (Look.some {b = b} {x = x} {y = y} q) i j =
            rw (← along h.at) (go b x y (record { alike = q; first = omega arith; second = omega arith }))

    near-more : {n m s : ℕ} {h : Head} {l : List ℕ} → Near R n m s h l → Near R (suc n) (suc m) s h l
    near-more r = record { alike = r.alike; first = omega (arith, r.first); second = omega (arith, r.second) }

    near-fewer : {n m : ℕ} {h : Head} {l : List ℕ} → Near R n m 2 h l → Near R n m 1 h l
    near-fewer {h = h} {l = l} r = record { alike = looks.fewer h l r.alike; first = r.first; second = r.second }

    -- two readers of a formula that go alike on at most n and m bytes
    module _ (n m : ℕ) (self other : Scope → Reader Formula)
        (agree : (scope : Scope) (h : Head) (l : List ℕ) → Near R n m 1 h l
        → Alike place (Near R n m 1) (self scope h) (other (moved_scope place scope) (moved place h l))) where
      abbrev Agree : Read Formula → Read Formula → Type 0
      Agree = Alike place (Near R n m 1)

      one_alike : (make : Formula → Formula) (scope : Scope) (h : Head) (l : List ℕ) → Near R n m 2 h l
          → Agree (and_then (λ a. Read.got (make a)) (self scope h))
          (and_then (λ a. Read.got (make a)) (other (moved_scope place scope) (moved place h l)))
      one_alike make scope h l r = then_alike _ _ (agree scope h l (near-fewer r)) λ a h l r. Alike.got r

      -- the questions about a depth: the binder that it names is at the same place of both
      depth-alike : (scope : Scope) (d : ℕ) (h : Head) (x y : List ℕ) → Near R n m 1 (behind h x) y
          → Agree (depth_asked scope d (behind h x)) (depth_asked (moved_scope place scope) d (moved place (behind h x) y))
      depth-alike scope d h x y r =
          rw (moved_length place scope)
          (fault_alike h (ltb d (length scope)) UnboundVariable _ _ OfByte.depth r λ t.
          let b = get_or scope d outside in
          rw (moved_at place scope d (ltb→lt d (length scope) t))
          (ask-alike h b.guarded (unguarded b.place) (unguarded (place b.place)) _ _ OfByte.guard (λ i. refl) r λ t. Alike.got r))

      -- the head stands behind the byte of the command
      operands-alike : (scope : Scope) (op : Opcode) (h : Head) (l : List ℕ) → place (h.at - 1) ≡ place h.at - 1 → Near R n m 2 h l
          → Agree (operands self scope op h) (operands other (moved_scope place scope) op (moved place h l))
      operands-alike scope Opcode.unknown h l e r = Alike.got (near-fewer r)
      operands-alike scope (Opcode.constant b) h l e r = Alike.got (near-fewer r)
      operands-alike scope (Opcode.signal p) h l e r =
          byte-alike MissingOperand _ _ AtEnd.operand (near-more r) λ s x y r.
          fault_alike h (leb s 15) UnknownSignal _ _ OfByte.signal r λ t. Alike.got r
      operands-alike scope Opcode.variable h l e r =
          byte-alike MissingOperand _ _ AtEnd.operand (near-more r) λ d x y r.
          depth-alike scope d h x y r
      operands-alike scope (Opcode.pair o) h l e r =
          then_alike _ _ (agree scope h l (near-fewer r)) λ a h l r.
          then_alike _ _ (agree scope h l r) λ b h l r. Alike.got r
      operands-alike scope Opcode.next h l e r = rw (moved_next place scope) (one_alike Formula.next (map behind_next scope) h l r)
      operands-alike scope (Opcode.fix g) h l e r = rw (← e) (one_alike (Formula.fix g) (entered (h.at - 1) ∷ scope) h l r)

      counted-alike : (scope : Scope) (op : Opcode) (h : Head) (l : List ℕ) → h.commands < 48 → place (h.at - 1) ≡ place h.at - 1
          → Near R n m 0 h l
          → Agree (operands self scope op (counted op h)) (operands other (moved_scope place scope) op (counted op (moved place h l)))
      counted-alike scope op h l c e r =
          let o = one_if (or_command op) in
          let p = one_if (next-command op) in
          let q = one_if (fix-command op) in
          rw (counted_is op h, counted_is op (moved place h l))
          (operands-alike scope op (one_more o p q h) l e
          (record { alike = looks.count o p q h l c r.alike; first = r.first; second = r.second }))

      -- the question about the limits, and what follows
      limits-alike : (scope : Scope) (op : Opcode) (h : Head) (x y : List ℕ) → h.commands < 48 → Near R n m 0 (behind h x) y
          → Agree (and_then (λ u k. operands self scope op (counted op k))
          (answered (within op (behind h x)) (at_byte TooManyOfKind) (behind h x)))
          (and_then (λ u k. operands other (moved_scope place scope) op (counted op k))
          (answered (within op (moved place (behind h x) y)) (at_byte TooManyOfKind) (moved place (behind h x) y)))
      limits-alike scope op h x y c r =
          rw (within_moved place op (behind h x) y)
          (fault_alike h (within op (behind h x)) TooManyOfKind _ _ OfByte.limits r λ t.
          counted-alike scope op (behind h x) y c (back h.at) r)

      pub questions-alike : (scope : Scope) (h : Head) (l : List ℕ) → Near R (suc n) (suc m) 1 h l
          → Agree (questions self scope h) (questions other (moved_scope place scope) (moved place h l))
      questions-alike scope h l r =
          byte-alike MissingOperator _ _ AtEnd.command r λ b x y r.
          fault_alike h (known (opcode b)) UnknownOpcode _ _ OfByte.unknown r λ t.
          fault_alike h (ltb h.commands 48) TooManyOperators _ _ OfByte.commands r λ c.
          limits-alike scope (opcode b) h x y (ltb→lt h.commands 48 c) r

    alike-more : {n m : ℕ} {x y : Read Formula} → Alike place (Near R n m 1) x y → Alike place (Near R (suc n) (suc m) 1) x y
    alike-more (Alike.refused p) = Alike.refused p
    alike-more (Alike.got r) = Alike.got (near-more r)

    -- where one bound on the nesting is used up, neither has a byte left
    none_left : {n m : ℕ} {h : Head} {x y : List ℕ} (d e : ℕ) (scope : Scope) → Look (R 0) h x y → length x ≤ 0 ⊎ length y ≤ 0
        → Alike place (Near R n m 1) (formula d scope (over h x)) (formula e (moved_scope place scope) (moved place h y))
    none_left {h = h} d e scope (Look.none p) z =
        rw (no_byte d scope (over h []), no_byte e (moved_scope place scope) (moved place h []))
        (Alike.refused (p MissingOperator AtEnd.command))
    none_left d e scope (Look.some q) z = absurd (⊎_elim (λ i. omega arith) (λ i. omega arith) z)

    pub formula-alike : (d e : ℕ) (scope : Scope) (h : Head) (l : List ℕ) → Near R d e 1 h l
        → Alike place (Near R d e 1) (formula d scope h) (formula e (moved_scope place scope) (moved place h l))
    formula-alike zero e scope h l r = none_left zero e scope (looks.look 0 h l r.alike) (inl r.first)
    formula-alike (suc d) zero scope h l r = none_left (suc d) zero scope (looks.look 0 h l r.alike) (inr r.second)
    formula-alike (suc d) (suc e) scope h l r =
        alike-more (questions-alike d e (formula d) (formula e) (formula-alike d e) scope h l r)
