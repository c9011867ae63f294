-- A command with its operands. Where its opcode is read, the rest is what its operands read; the kinds that have operands follow
-- from the answers for these, which hold at every number that reaches the end of the bytes, so that no fuel is compared.
-- Assumes nothing.
use Rattle.std.proofs.Common.{◌≡◌, refl, ap, ◌∙◌, ◌⊎◌, inl, inr, Bool, List, ℕ, zero, suc, ◌+◌, ◌-◌, ◌≤◌, arith, length}
use Rattle.std.specs.Prelude.{Result, Ok, Err, IsErrAnd}
use Rattle.std.proofs.lemmas.Result.{err_from_is_err_and}
use Rattle.formula.specs.Formula.{Leaf, Formula}
use Rattle.formula.specs.Table.{Operator}
use Rattle.formula.specs.Reading.{Opcode, Read, Reader, Scope as Enclosing, and_then, done, operands, formula}
use Rattle.formula.specs.declared.Opcode as code
use Rattle.formula.specs.declared.Opcode.TheVariants.{True, False, Present, Absent, Variable, Or, And, Next, Least, Greatest}
use Rattle.formula.specs.declared.Head.{Head}
use Rattle.formula.specs.declared.Scope.{Scope}
use Rattle.formula.specs.declared.Refusal.{Refusal}
use Rattle.formula.specs.Inner.{named, point, enclosing, binders, Limits, Further, ScopeReady, Agrees, Command, Opened, Written}
use Rattle.formula.specs.Inner.{OperandScope, InsideReady, ReadBehind, Signalled, Bound, behind_opcode, within_operator, numbers_within}
use Rattle.formula.proofs.CodeOpcodes.{constant_kind, signal_kind, pair_kind, fixpoint_kind}
use Rattle.formula.proofs.CodeFormula.{One, one-next, one-fixpoint, further_trans, alone, unary, binary}

-- reading stays where it stands
pub still : {h : Head} → Limits h → Further h h
still l = record { later = omega arith; grown = omega arith; more = omega arith; limits = l }

-- reading may go on further on, and inside
pub ready_on : {h x : Head} {scope : Scope} → Further h x → ScopeReady h scope → ScopeReady x scope
ready_on f w = record { limits = f.limits; depth = omega (arith, f.more, w.depth); guarded = w.guarded }

module _ {s : List ℕ} {h x : Head} {scope : Scope} {op : code.Opcode} (o : Opened s h op x) (w : ScopeReady h scope) where
  pub may_enter : InsideReady scope h.count op
  may_enter = record {
    number = omega (arith, o.count, o.further.limits.commands);
    guarded = w.guarded;
    room = omega (arith, w.depth, o.fixpoints, o.further.limits.fixpoints);
  }

  pub ready-inside : {e place : ℕ} {inner : Scope} → OperandScope scope e place op inner → ScopeReady x inner
  ready-inside a = record {
    limits = o.further.limits;
    depth = omega (arith, a.depth, w.depth, o.fixpoints);
    guarded = a.guarded;
  }

-- behind an operand of the command at h
pub is-behind : {s : List ℕ} {h x y : Head} {op : code.Opcode} → Opened s h op x → Further x y → ReadBehind h.count y
is-behind o f = record { after = omega (arith, o.count, f.grown); few = f.limits.commands }

-- where a command was read, reading went on
pub command-further : {s : List ℕ} {h x : Head} {p q : List ℕ} (scope : Scope) → Command s h p scope q (Ok x) → Further h x
command-further {s} scope c = (c (length s) (omega arith)).further

-- what the exit of a `?` returns
pub exit : (P : Result Head Refusal → Type 0) {r : Result Head Refusal} {why : Refusal} → IsErrAnd r (λ w. w ≡ why) → P (Err why) → P r
exit P {r} e p =
    let (why, is, same) = err_from_is_err_and r e in
    rw (is, same) p

-- which opcodes have one operand formula
pub one_kind : {op : code.Opcode} → (op ≡ Next) ⊎ ((op ≡ Least) ⊎ (op ≡ Greatest)) → One (named op)
one_kind (inl q) = rw q one-next
one_kind (inr q) = let (greatest, is) = fixpoint_kind q in rw is (one-fixpoint greatest)

-- A command whose opcode is read. The rows were p; with a refusal it says nothing what they became.
module _ {s : List ℕ} {h : Head} (p : List ℕ) (scope : Scope) {op : code.Opcode} {x : Head} (o : Opened s h op x) where
  -- what is left of it
  abbrev left : ℕ → Read Formula
  left k = operands (formula k) (enclosing scope) (named op) (point s x)

  opened_command : (q : List ℕ) (r : Result Head Refusal) →
      ((k : ℕ) → length s ≤ x.at + k → Agrees s h.count h (binders scope) p (left k) q r) → Command s h p scope q r
  opened_command q r f zero l = absurd (omega (arith, o.inside))
  opened_command q r f (suc k) l = rw (o.left k (enclosing scope)) (f k (omega (arith, o.at)))

  -- a constant
  pub constant_command : {q : List ℕ} → (op ≡ True) ⊎ (op ≡ False) → Written x p h.count op 0 q → Command s h p scope q (Ok x)
  constant_command {q} kind written =
      let (b, is) = constant_kind kind in
      opened_command q (Ok x) (λ k m.
      alone {f = Formula.leaf (Leaf.constant b)} (rw is)
      (rw is (record {
        rows = refl;
        operator = Operator.leaf (Leaf.constant b);
        command = refl;
        operand = refl;
        operators = refl;
        lengths = refl;
      }))
      o.count o.further written)

  -- a signal
  module _ (kind : (op ≡ Present) ⊎ (op ≡ Absent)) where
    pub refused-signal : {why : Refusal} →
        ((present : Bool) (scope : Enclosing) (self : Enclosing → Reader Formula) →
        behind_opcode s x scope (Opcode.signal present) self ≡ Read.refused why) → Command s h p scope p (Err why)
    refused-signal {why} refused =
        let (present, is) = signal_kind kind in
        opened_command p (Err why) (λ k m. rw is (refused present (enclosing scope) (formula k)))

    pub signal_command : {signal : ℕ} {y : Head} {q : List ℕ} → Signalled s x signal y → Written y p h.count op signal q →
        Command s h p scope q (Ok y)
    signal_command {signal} {y} {q} t written =
        let (present, is) = signal_kind kind in
        opened_command q (Ok y) (λ k m.
        alone {f = Formula.leaf (Leaf.signal present signal)} (rw is (t.is present (enclosing scope) (formula k)))
        (rw is (record {
          rows = refl;
          operator = Operator.leaf (Leaf.signal present signal);
          command = refl;
          operand = refl;
          operators = refl;
          lengths = refl;
        }))
        (t.count ∙ o.count) (further_trans o.further t.further) written)

  -- a variable
  module _ (kind : op ≡ Variable) where
    pub refused-variable : {why : Refusal} →
        ((self : Enclosing → Reader Formula) → behind_opcode s x (enclosing scope) Opcode.variable self ≡ Read.refused why) →
        Command s h p scope p (Err why)
    refused-variable {why} refused = opened_command p (Err why) (λ k m. rw kind (refused (formula k)))

    pub variable_command : {binder : ℕ} {y : Head} {q : List ℕ} → Bound s x scope binder y → Written y p h.count op binder q →
        Command s h p scope q (Ok y)
    variable_command {binder} {y} {q} t written = opened_command q (Ok y) (λ k m.
        alone {f = Formula.variable t.depth} (rw kind (t.is (formula k)))
        (rw kind (record {
          rows = refl;
          operator = Operator.variable binder;
          command = refl;
          operand = refl;
          operators = rw t.named;
          lengths = refl;
        }))
        (t.count ∙ o.count) (further_trans o.further t.further) written)

  module _ {inner : Scope} (around : OperandScope scope h.count h.at op inner) where
    -- the first operand's answer, by the scope that the definition gives it
    operand : (q : List ℕ) (r : Result Head Refusal) → Command s x p inner q r → (k : ℕ) → length s ≤ x.at + k →
        Agrees s (h.count + 1) x (numbers_within (named op) h.count (binders scope)) p
        (formula k (within_operator (named op) (x.at - 1) (enclosing scope)) (point s x)) q r
    operand q r first k l =
        let there : x.at - 1 ≡ h.at = omega (arith, o.at) in
        rw (there, ← around.fixpoints, ← around.numbers, ← o.count) (first k l)

    -- an operator of one operand
    module _ (w : One (named op)) where
      pub refused-body : {why : Refusal} → Command s x p inner p (Err why) → Command s h p scope p (Err why)
      refused-body {why} body = opened_command p (Err why) (λ k m.
          w.leads (formula k) (enclosing scope) (point s x) ∙ ap (and_then (λ a. done (w.make a))) (operand p (Err why) body k m))

      pub unary_command : {q r : List ℕ} {y : Head} → Command s x p inner q (Ok y) → Written y q h.count op 0 r →
          Command s h p scope r (Ok y)
      unary_command {q} {r} {y} body written = opened_command r (Ok y) (λ k m.
          rw (w.leads (formula k) (enclosing scope) (point s x)) (unary w o.further (operand q (Ok y) body k m) written))

    -- an operator of two, the first of which is read into the rows q
    module _ (kind : (op ≡ Or) ⊎ (op ≡ And)) where
      -- the first one's answer
      first : (q : List ℕ) (r : Result Head Refusal) → Command s x p inner q r → (k : ℕ) → length s ≤ x.at + k →
          Agrees s (h.count + 1) x (binders scope) p (formula k (enclosing scope) (point s x)) q r
      first q r a k m = let (either, is) = pair_kind kind in rw is at (operand q r a k m)

      pub refused-left : {why : Refusal} → Command s x p inner p (Err why) → Command s h p scope p (Err why)
      refused-left {why} a =
          let (either, is) = pair_kind kind in
          opened_command p (Err why) (λ k m. rw is (ap (and_then _) (first p (Err why) a k m)))

      module _ (q : List ℕ) {y : Head} (a : Command s x p inner q (Ok y)) where
        -- that of the second one
        second : (t : List ℕ) (r : Result Head Refusal) → Command s y q inner t r → (k : ℕ) → length s ≤ x.at + k →
            Agrees s y.count y (binders scope) q (formula k (enclosing scope) (point s y)) t r
        second t r b k m =
            let (either, is) = pair_kind kind in
            let fixpoints : enclosing inner ≡ enclosing scope = rw is at around.fixpoints in
            let numbers : binders inner ≡ binders scope = rw is at around.numbers in
            rw (← fixpoints, ← numbers) (b k (omega (arith, (first q (Ok y) a k m).further.later)))

        pub refused-right : {why : Refusal} → Command s y q inner q (Err why) → Command s h p scope p (Err why)
        refused-right {why} b =
            let (either, is) = pair_kind kind in
            opened_command p (Err why) (λ k m.
            rw is (ap (and_then _) (first q (Ok y) a k m).is ∙ ap (and_then _) (second q (Err why) b k m)))

        pub pair-command : {t r : List ℕ} {z : Head} → Command s y q inner t (Ok z) → Written z t h.count op 0 r →
            Command s h p scope r (Ok z)
        pair-command {t} {r} {z} b written =
            let (either, is) = pair_kind kind in
            opened_command r (Ok z) (λ k m.
            rw is (binary either (formula k (enclosing scope)) is o.further (first q (Ok y) a k m) (second t (Ok z) b k m) written))
