-- The code's opcodes: which kind of the definition's each is, and that an operator for which there was room is counted as the definition
-- counts it, within the limits. Assumes nothing.
use Rattle.std.proofs.Common.{◌≡◌, refl, subst, ap, Bool, true, false, [], ◌+◌, ◌≤◌, ◌<◌, ◌⊎◌, inl, inr, add-zero, arith, ltb-true}
use Rattle.formula.specs.Reading.{Opcode, within}
use Rattle.formula.specs.declared.Opcode as code
use Rattle.formula.specs.declared.Opcode.TheVariants.{True, False, Present, Absent, Or, And, Next, Least, Greatest}
use Rattle.formula.specs.declared.Head.{Head}
use Rattle.formula.specs.Inner.{named, point, Limits, Further, RoomFor, OperatorCounted}

-- two of the code's opcodes are one kind of the definition's
module _ {op : code.Opcode} where
  pub constant_kind : (op ≡ True) ⊎ (op ≡ False) → (b : Bool) × (named op ≡ Opcode.constant b)
  constant_kind (inl q) = (true, ap named q)
  constant_kind (inr q) = (false, ap named q)

  pub signal_kind : (op ≡ Present) ⊎ (op ≡ Absent) → (present : Bool) × (named op ≡ Opcode.signal present)
  signal_kind (inl q) = (true, ap named q)
  signal_kind (inr q) = (false, ap named q)

  pub pair_kind : (op ≡ Or) ⊎ (op ≡ And) → (either : Bool) × (named op ≡ Opcode.pair either)
  pair_kind (inl q) = (true, ap named q)
  pair_kind (inr q) = (false, ap named q)

  pub fixpoint_kind : (op ≡ Least) ⊎ (op ≡ Greatest) → (greatest : Bool) × (named op ≡ Opcode.fix greatest)
  fixpoint_kind (inl q) = (false, ap named q)
  fixpoint_kind (inr q) = (true, ap named q)

-- one operator more, within the limits
further : {h x : Head} → x.at ≡ h.at → x.count ≡ h.count + 1 → h.fixpoints ≤ x.fixpoints → Limits x → Further h x
further at count more limits = record { later = omega arith; grown = omega arith; more = more; limits = limits }

module _ (op : code.Opcode) (h : Head) (room : RoomFor op h) where
  allowed : {o : Opcode} → named op ≡ o → within o (point [] h) ≡ true
  allowed is = subst (λ (o : Opcode). within o (point [] h) ≡ true) is (room.allowed [])

  pub counted-or : op ≡ Or → OperatorCounted op h
      (record { at = h.at; count = h.count + 1; ors = h.ors + 1; nexts = h.nexts; fixpoints = h.fixpoints })
  counted-or q =
      let is : named op ≡ Opcode.pair true = ap named q in
      let small : h.ors < 12 = ltb-true h.ors 12 (allowed is) in
      record {
        stands = λ s. rw is (simp add-zero);
        at = refl;
        count = refl;
        fixpoints = rw is (omega arith);
        further = further refl refl (omega arith) (record {
          commands = omega (arith, room.few);
          ors = omega arith;
          nexts = room.limits.nexts;
          fixpoints = room.limits.fixpoints;
        });
      }

  pub counted-next : op ≡ Next → OperatorCounted op h
      (record { at = h.at; count = h.count + 1; ors = h.ors; nexts = h.nexts + 1; fixpoints = h.fixpoints })
  counted-next q =
      let is : named op ≡ Opcode.next = ap named q in
      let small : h.nexts < 12 = ltb-true h.nexts 12 (allowed is) in
      record {
        stands = λ s. rw is (simp add-zero);
        at = refl;
        count = refl;
        fixpoints = rw is (omega arith);
        further = further refl refl (omega arith) (record {
          commands = omega (arith, room.few);
          ors = room.limits.ors;
          nexts = omega arith;
          fixpoints = room.limits.fixpoints;
        });
      }

  pub counted-fixpoint : (op ≡ Least) ⊎ (op ≡ Greatest) → OperatorCounted op h
      (record { at = h.at; count = h.count + 1; ors = h.ors; nexts = h.nexts; fixpoints = h.fixpoints + 1 })
  counted-fixpoint q =
      let (greatest, is) = fixpoint_kind q in
      let small : h.fixpoints < 7 = ltb-true h.fixpoints 7 (allowed is) in
      record {
        stands = λ s. rw is (simp add-zero);
        at = refl;
        count = refl;
        fixpoints = rw is refl;
        further = further refl refl (omega arith) (record {
          commands = omega (arith, room.few);
          ors = room.limits.ors;
          nexts = room.limits.nexts;
          fixpoints = omega arith;
        });
      }
