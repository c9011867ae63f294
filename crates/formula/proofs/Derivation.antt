-- What a reading that is not refused is: a tree of answered questions, one node for each operator. The laws about accepted formulas
-- (Limits, Guarded, Spelling) go by this tree and never open the reader; that about refusal 8 (NamedBinder) goes by how it comes to such
-- questions. Assumes nothing.
use Rattle.std.proofs.Common.{◌≡◌, refl, sym, Bool, true, false, List, [], ◌∷◌, map, ℕ, zero, suc, ◌-◌, ◌≤◌, ◌<◌, arith, T, ltb, leb}
use Rattle.std.proofs.Common.{ltb→lt, leb→le, length, get_or}
use Rattle.formula.specs.Formula.{Leaf, Formula}
use Rattle.formula.specs.Refusal.{at_byte}
use Rattle.formula.specs.declared.Fault.{Fault}
use Rattle.formula.specs.declared.Fault.TheVariants.{MissingOperator, UnknownOpcode, TooManyOperators, TooManyOfKind}
use Rattle.formula.specs.declared.Fault.TheVariants.{MissingOperand, UnknownSignal, UnboundVariable}
use Rattle.formula.specs.declared.Refusal.{Refusal}
use Rattle.formula.specs.Reading.{Opcode, opcode, Head, Read, Reader, and_then, byte_from, answered, known, within}
use Rattle.formula.specs.Reading.{counted, Scope, outside, entered, behind_next, guard_asked, operands, questions, formula}
use Rattle.formula.specs.Reading.{Reading, ended, whole, start, parse}
use Rattle.formula.proofs.Commands.{behind}

-- a byte was there: reading went on from h to k
pub record Byte (b : ℕ) (h k : Head) : Type 0 where
  pub rest : List ℕ
  pub left : h.left ≡ b ∷ rest
  pub moved : k ≡ behind h rest

-- the command op was read at h, its questions answered by yes, and counted; reading went on to k
pub record Begins (op : Opcode) (h k : Head) : Type 0 where
  pub byte : ℕ
  pub rest : List ℕ
  pub left : h.left ≡ byte ∷ rest
  pub is : opcode byte ≡ op
  pub known : T (known op)
  pub few : h.commands < 48
  pub within : T (within op (behind h rest))
  pub moved : k ≡ counted op (behind h rest)

pub data Reads : Scope → Head → Formula → Head → Type 0 where
  constant : {scope : Scope} {h k : Head} {b : Bool} → Begins (Opcode.constant b) h k → Reads scope h (Formula.leaf (Leaf.constant b)) k
  signal : {scope : Scope} {h j k : Head} {p : Bool} {s : ℕ} → Begins (Opcode.signal p) h j → Byte s j k → s ≤ 15
      → Reads scope h (Formula.leaf (Leaf.signal p s)) k
  variable : {scope : Scope} {h j k : Head} {d : ℕ} → Begins Opcode.variable h j → Byte d j k → d < length scope
      → T (get_or scope d outside).guarded
      → Reads scope h (Formula.variable d) k
  pair : {scope : Scope} {h i j k : Head} {o : Bool} {a b : Formula} → Begins (Opcode.pair o) h i → Reads scope i a j → Reads scope j b k
      → Reads scope h (Formula.pair o a b) k
  next : {scope : Scope} {h j k : Head} {a : Formula} → Begins Opcode.next h j → Reads (map behind_next scope) j a k
      → Reads scope h (Formula.next a) k
  fix : {scope : Scope} {h j k : Head} {g : Bool} {a : Formula} → Begins (Opcode.fix g) h j
      → Reads (entered (j.at - 1) ∷ scope) j a k
      → Reads scope h (Formula.fix g a) k

-- An outcome that is no refusal with a fault and one place.
abbrev pub Past : {B : Type 0} → Read B → Type 0
Past o = (fault : Fault) (place : ℕ) → o ≡ Read.refused (at_byte fault place) → ⊥

-- What is known where a reading in several steps came to such an outcome: the questions with such a refusal were answered by yes.
module _ {B : Type 0} (o : Read B) (Goal : Type 0) where
  byte_past : Past o → (f : ℕ → Reader B) (missing : Fault) (h : Head) (l : List ℕ) → and_then f (byte_from missing h l) ≡ o
      → ((c : ℕ) (rest : List ℕ) → l ≡ c ∷ rest → f c (behind h rest) ≡ o → Goal) → Goal
  byte_past past f missing h [] e go = absurd (past missing h.at (sym e))
  byte_past past f missing h (c ∷ rest) e go = go c rest refl e

  ask-past : (f : Unit {0} → Reader B) (t : Bool) (why : ℕ → Refusal) (h : Head) → (o ≡ Read.refused (why (h.at - 1)) → ⊥)
      → and_then f (answered t why h) ≡ o → (T t → f tt h ≡ o → Goal) → Goal
  ask-past f true why h not e go = go tt e
  ask-past f false why h not e go = absurd (not (sym e))

module _ (o : Read Formula) (past : Past o) (Goal : Type 0) (self : Scope → Reader Formula) (scope : Scope) where
  -- the questions 1 to 4
  pub questions-past : (h : Head) → questions self scope h ≡ o
      → ((op : Opcode) (j : Head) → Begins op h j → operands self scope op j ≡ o → Goal) → Goal
  questions-past h e go =
      byte_past o Goal past _ MissingOperator h h.left e λ b rest l e.
      ask-past o Goal _ (known (opcode b)) (at_byte UnknownOpcode) (behind h rest) (past UnknownOpcode _) e λ t e.
      ask-past o Goal _ (ltb h.commands 48) (at_byte TooManyOperators) (behind h rest) (past TooManyOperators _) e λ c e.
      ask-past o Goal _ (within (opcode b) (behind h rest)) (at_byte TooManyOfKind) (behind h rest) (past TooManyOfKind _) e λ w e.
      go (opcode b) (counted (opcode b) (behind h rest))
      (record { byte = b; rest = rest; left = l; is = refl; known = t; few = ltb→lt h.commands 48 c; within = w; moved = refl }) e

  -- the questions 5 and 6 of a signal
  pub signal-past : (present : Bool) (j : Head) → operands self scope (Opcode.signal present) j ≡ o
      → ((s : ℕ) (k : Head) → Byte s j k → s ≤ 15 → Read.got (Formula.leaf (Leaf.signal present s)) k ≡ o → Goal) → Goal
  signal-past present j e go =
      byte_past o Goal past _ MissingOperand j j.left e λ s rest l e.
      ask-past o Goal _ (leb s 15) (at_byte UnknownSignal) (behind j rest) (past UnknownSignal _) e λ t e.
      go s (behind j rest) (record { rest = rest; left = l; moved = refl }) (leb→le s 15 t) e

  -- the questions 5 and 7 of a variable
  pub variable-past : (j : Head) → operands self scope Opcode.variable j ≡ o
      → ((d : ℕ) (k : Head) → Byte d j k → d < length scope → guard_asked scope d k ≡ o → Goal) → Goal
  variable-past j e go =
      byte_past o Goal past _ MissingOperand j j.left e λ d rest l e.
      ask-past o Goal _ (ltb d (length scope)) (at_byte UnboundVariable) (behind j rest) (past UnboundVariable _) e λ t e.
      go d (behind j rest) (record { rest = rest; left = l; moved = refl }) (ltb→lt d (length scope) t) e

-- What is known where a reading was not refused at all.
got_not : {B : Type 0} {b : B} {k : Head} {why : Refusal} → Read.got b k ≡ Read.refused why → ⊥
got_not e = let z : ◌≡◌ {A = ℕ} 0 1 = cc in omega arith

got-past : {B : Type 0} {b : B} {k : Head} → Past (Read.got b k)
got-past fault place e = got_not e

module _ {B : Type 0} (b : B) (k : Head) (Goal : Type 0) where
  then_got : {A : Type 0} (f : A → Reader B) (x : Read A) → and_then f x ≡ Read.got b k
      → ((a : A) (h : Head) → x ≡ Read.got a h → f a h ≡ Read.got b k → Goal) → Goal
  then_got f (Read.refused why) e go = absurd (got_not (sym e))
  then_got f (Read.got a h) e go = go a h refl e

done-reads : {scope : Scope} {h j k : Head} {a f : Formula} → Reads scope h a j → Read.got a j ≡ Read.got f k → Reads scope h f k
done-reads {scope} {h} {j} {k} {a} {f} r e =
    let p : a ≡ f = cc in
    let q : j ≡ k = cc in
    rw (← p, ← q) r

module _ (self : Scope → Reader Formula)
    (good : (scope : Scope) (h : Head) (f : Formula) (k : Head) → self scope h ≡ Read.got f k → Reads scope h f k) where
  operands-reads : (scope : Scope) (op : Opcode) (h j : Head) (f : Formula) (k : Head) → Begins op h j
      → operands self scope op j ≡ Read.got f k
      → Reads scope h f k
  operands-reads scope Opcode.unknown h j f k c e = absurd c.known
  operands-reads scope (Opcode.constant b) h j f k c e = done-reads (Reads.constant c) e
  operands-reads scope (Opcode.signal p) h j f k c e =
      signal-past (Read.got f k) got-past (Reads scope h f k) self scope p j e λ s i b l e.
      done-reads (Reads.signal c b l) e
  operands-reads scope Opcode.variable h j f k c e =
      variable-past (Read.got f k) got-past (Reads scope h f k) self scope j e λ d i b l e.
      ask-past (Read.got f k) (Reads scope h f k) _ (get_or scope d outside).guarded _ i got_not e λ g e.
      done-reads (Reads.variable c b l g) e
  operands-reads scope (Opcode.pair o) h j f k c e =
      then_got f k (Reads scope h f k) _ (self scope j) e λ a i p e.
      then_got f k (Reads scope h f k) _ (self scope i) e λ b m q e.
      done-reads (Reads.pair c (good scope j a i p) (good scope i b m q)) e
  operands-reads scope Opcode.next h j f k c e =
      then_got f k (Reads scope h f k) _ (self (map behind_next scope) j) e λ a i p e.
      done-reads (Reads.next c (good (map behind_next scope) j a i p)) e
  operands-reads scope (Opcode.fix g) h j f k c e =
      then_got f k (Reads scope h f k) _ (self (entered (j.at - 1) ∷ scope) j) e λ a i p e.
      done-reads (Reads.fix c (good (entered (j.at - 1) ∷ scope) j a i p)) e

  questions-reads : (scope : Scope) (h : Head) (f : Formula) (k : Head) → questions self scope h ≡ Read.got f k → Reads scope h f k
  questions-reads scope h f k e =
      questions-past (Read.got f k) got-past (Reads scope h f k) self scope h e λ op j b e. operands-reads scope op h j f k b e

pub formula-reads : (deep : ℕ) (scope : Scope) (h : Head) (f : Formula) (k : Head) → formula deep scope h ≡ Read.got f k → Reads scope h f k
formula-reads zero scope h f k e = absurd (let z : ◌≡◌ {A = ℕ} 0 1 = cc in omega arith)
formula-reads (suc deep) scope h f k e = questions-reads (formula deep) (formula-reads deep) scope h f k e

ended-reads : (f : Formula) (h : Head) (l : List ℕ) (g : Formula) → ended f h l ≡ Reading.accepted g → (f ≡ g) × (l ≡ [])
ended-reads f h [] g e = (cc, refl)
ended-reads f h (b ∷ l) g e = absurd (let z : ◌≡◌ {A = ℕ} 0 1 = cc in omega arith)

-- an accepted formula was read from the start, and no byte is left behind it
pub parse-reads : (bytes : List ℕ) (f : Formula) → parse bytes ≡ Reading.accepted f
    → (k : Head) × Reads [] (start bytes) f k × (k.left ≡ [])
unfolding parse
parse-reads bytes f e = by (formula (length bytes) [] (start bytes)) refl e
  where
    by : (x : Read Formula) → formula (length bytes) [] (start bytes) ≡ x → whole x ≡ Reading.accepted f
        → (k : Head) × Reads [] (start bytes) f k × (k.left ≡ [])
    by (Read.refused why) q e = absurd (let z : ◌≡◌ {A = ℕ} 0 1 = cc in omega arith)
    by (Read.got g k) q e =
        let t = ended-reads g k k.left f e in
        (k, rw (← t.0) (formula-reads (length bytes) [] (start bytes) g k q), t.1)
