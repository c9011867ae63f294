-- The code's answers to the questions 1 to 8 are the definition's: each test of the code settles one question, and with it the
-- definition computes to the answer that the code returns. Assumes nothing.
use Rattle.std.proofs.Common.{◌≡◌, refl, sym, ap, ◌∙◌, true, false, List, ℕ, zero, suc, ◌+◌, ◌-◌, ◌≤◌, ◌<◌, arith, length}
use Rattle.std.proofs.Common.{drop_of_length-le, lt-ltb, le-ltb}
use Rattle.std.specs.Prelude.{Result, Ok, Err, MatchResult, IfOk, IfErr, IsErrAnd}
use Rattle.std.proofs.lemmas.Result.{err_from_is_err_and}
use Rattle.formula.specs.Formula.{Formula}
use Rattle.formula.specs.Refusal.{at_byte, unguarded}
use Rattle.formula.specs.Reading.{Opcode, opcode, known, within, and_then, byte, Read, Reader, Scope as Enclosing, formula, outside}
use Rattle.formula.specs.declared.Fault.TheVariants.{MissingOperator, UnknownOpcode, MissingOperand, TooManyOfKind, UnboundVariable}
use Rattle.formula.specs.declared.Fault.{Fault}
use Rattle.formula.specs.declared.Refusal.{Refusal}
use Rattle.formula.specs.declared.Opcode as code
use Rattle.formula.specs.declared.Opcode.TheVariants as opcodes
use Rattle.formula.specs.declared.Head.{Head}
use Rattle.formula.specs.declared.Scope.{Scope}
use Rattle.formula.specs.Inner.{named, Decodes, point, behind, kept_at, enclosing_at, enclosing, Limits, Taken, Refuses, Bound, behind_opcode}
use Rattle.formula.proofs.CodeScope.{inward-length, inward-at}

-- the place of the byte read last
place : (n : ℕ) → n + 1 - 1 ≡ n
place n = omega arith

-- every opcode is known
known-named : (op : code.Opcode) → known (named op) ≡ true
known-named opcodes.True = refl
known-named opcodes.False = refl
known-named opcodes.Present = refl
known-named opcodes.Absent = refl
known-named opcodes.Variable = refl
known-named opcodes.Or = refl
known-named opcodes.And = refl
known-named opcodes.Next = refl
known-named opcodes.Least = refl
known-named opcodes.Greatest = refl

-- no byte is left for an operator: without a bound that reaches further it is refused in the same way
pub none_left : (s : List ℕ) (h : Head) (why : Refusal) → byte MissingOperator (point s h) ≡ Read.refused why → Refuses s h why
none_left s h why q zero scope l =
    let none : length s ≤ h.at = omega arith in
    let is : byte MissingOperator (point s h) ≡ Read.refused (at_byte MissingOperator h.at) = rw (drop_of_length-le s none) in
    ap (and_then (λ (b : ℕ). formula zero scope)) (sym is ∙ q)
none_left s h why q (suc k) scope l = ap (and_then _) q

-- the byte is no opcode's
unknown-opcode : (s : List ℕ) (h : Head) {b : ℕ} {x : Head} → Taken s h MissingOperator b x → opcode b ≡ Opcode.unknown →
    Refuses s h (at_byte UnknownOpcode h.at)
unknown-opcode s h t is zero scope l = absurd (omega (arith, t.inside))
unknown-opcode s h t is (suc k) scope l = rw (t.is, is, t.head, place) refl

-- the answer m to question 2 is what the byte decodes to, where what was wrong is told with its place
module _ (Q : Fault → Refusal → Type 0) (b : ℕ) (m : Result code.Opcode Refusal) where
  abbrev Told : Result code.Opcode Fault → Type 0
  Told r = MatchResult r (λ op. m ≡ Ok op) (λ fault. IsErrAnd m (Q fault))

  pub decoded-opcode : (r : Result code.Opcode Fault) → Decodes b r → Told r → IfOk m (λ op. opcode b ≡ named op)
  decoded-opcode (Ok op) d is = rw is d
  decoded-opcode (Err fault) d is = let (why, made, q) = err_from_is_err_and m is in rw made tt

  pub no_opcode : (s : List ℕ) (h : Head) {x : Head} → Taken s h MissingOperator b x →
      ((fault : Fault) (why : Refusal) → Q fault why → why ≡ at_byte fault h.at) →
      (r : Result code.Opcode Fault) → Decodes b r → Told r → IfErr m (Refuses s h)
  no_opcode s h t placed (Ok op) d is = rw is tt
  no_opcode s h t placed (Err fault) d is =
      let (why, made, q) = err_from_is_err_and m is in
      rw (made, placed fault why q, d.0) (unknown-opcode s h t d.1)

-- there is no room for one more of the kind
pub no_room : (s : List ℕ) (h : Head) (op : code.Opcode) {b : ℕ} {x : Head} → Taken s h MissingOperator b x → opcode b ≡ named op →
    h.count < 48 → within (named op) (point s x) ≡ false → Refuses s h (at_byte TooManyOfKind h.at)
no_room s h op t is few full zero scope l = absurd (omega (arith, t.inside))
no_room s h op t is few full (suc k) scope l =
    let none : within (named op) (point s (behind h)) ≡ false = rw t.head at full in
    rw (t.is, is, known-named op, t.head, lt-ltb h.count 48 few, none, place)

-- the depth of a variable, read at h
module _ (s : List ℕ) (h : Head) (scope : Scope) {depth : ℕ} {x : Head} (t : Taken s h MissingOperand depth x) where
  -- what is read behind a variable's opcode
  abbrev answer : (Enclosing → Reader Formula) → Read Formula
  answer = behind_opcode s h (enclosing scope) Opcode.variable

  -- question 7
  pub no_binder : (self : Enclosing → Reader Formula) → scope.depth ≤ depth → answer self ≡ Read.refused (at_byte UnboundVariable h.at)
  no_binder self l = rw (t.is, inward-length, le-ltb depth scope.depth l, t.head, place)

  module _ (bound : depth < scope.depth) where
    -- question 8
    pub not_guarded : (self : Enclosing → Reader Formula) → scope.guarded ≤ scope.depth - 1 - depth →
        answer self ≡ Read.refused (unguarded (kept_at scope.binders (scope.depth - 1 - depth)).place h.at)
    not_guarded self l =
        rw (
          t.is,
          inward-length,
          lt-ltb depth scope.depth bound,
          inward-at (enclosing_at scope) scope.depth depth outside bound,
          le-ltb (scope.depth - 1 - depth) scope.guarded l,
          t.head,
          place,
        )

    pub names_binder : Limits h → scope.depth - 1 - depth < scope.guarded →
        Bound s h scope (kept_at scope.binders (scope.depth - 1 - depth)).number x
    names_binder limits l = record {
      depth = depth;
      is = λ self. rw (
        t.is,
        inward-length,
        lt-ltb depth scope.depth bound,
        inward-at (enclosing_at scope) scope.depth depth outside bound,
        lt-ltb (scope.depth - 1 - depth) scope.guarded l,
      );
      named = inward-at (λ d. (kept_at scope.binders d).number) scope.depth depth 0 bound;
      count = ap (λ (k : Head). k.count) t.head;
      further = rw t.head (record {
        later = omega arith;
        grown = omega arith;
        more = omega arith;
        limits = record { commands = limits.commands; ors = limits.ors; nexts = limits.nexts; fixpoints = limits.fixpoints };
      });
    }
