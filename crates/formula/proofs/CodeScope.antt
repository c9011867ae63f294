-- The code's scope beside the definition's lists of enclosing fixpoints. Both lists have an element for each fixpoint, innermost first,
-- which the code keeps from outside: element i of d is what is kept at d - 1 - i. Assumes nothing.
use Rattle.std.proofs.Common.{◌≡◌, refl, sym, ap, ◌∙◌, ◌⊎◌, Bool, List, ◌∷◌, map, ℕ, zero, suc, ◌+◌, ◌-◌, ◌%◌, ◌≤◌, ◌<◌, arith, add-one}
use Rattle.std.proofs.Common.{ltb, length, get_or, set, get_or-set_same, get_or-set_other, lt-ltb, le-ltb}
use Rattle.formula.specs.Reading.{Opcode, Binder, behind_next}
use Rattle.formula.specs.declared.Binder.{Binder as Kept}
use Rattle.formula.specs.declared.Scope.{Scope}
use Rattle.formula.specs.declared.Opcode as code
use Rattle.formula.specs.declared.Opcode.TheVariants.{Next, Least, Greatest}
use Rattle.formula.specs.Inner.{named, deeper, inward, kept_at, enclosing_at, enclosing, binders, OperandScope}
use Rattle.formula.proofs.CodeOpcodes.{fixpoint_kind}

abbrev binder : ℕ → Bool → Binder
binder place guarded = record { place = place; guarded = guarded }

-- such a list, whatever it has of each fixpoint
module _ {A : Type 0} where
  pub inward-length : (of : ℕ → A) (d : ℕ) → length (inward of d) ≡ d
  inward-length of zero = refl
  inward-length of (suc d) = ap suc (inward-length of d)

  pub inward-at : (of : ℕ → A) (d i : ℕ) (x : A) → i < d → get_or (inward of d) i x ≡ of (d - 1 - i)
  inward-at of zero i x h = absurd (omega arith)
  inward-at of (suc d) zero x h = ap of (omega arith)
  inward-at of (suc d) (suc i) x h = inward-at of d i x (omega arith) ∙ ap of (omega arith)

  inward-same : (f g : ℕ → A) (d : ℕ) → ((k : ℕ) → k < d → f k ≡ g k) → inward f d ≡ inward g d
  inward-same f g zero h = refl
  inward-same f g (suc d) h = rw (h d (omega arith), inward-same f g d (λ k l. h k (omega arith)))

  inward-map : {B : Type 0} (g : A → B) (of : ℕ → A) (d : ℕ) → map g (inward of d) ≡ inward (λ k. g (of k)) d
  inward-map g of zero = refl
  inward-map g of (suc d) = rw (inward-map g of d)

-- what is kept of the fixpoints, where fixpoint d was put in, seen inward from there
inward_set : {A : Type 0} (of : ℕ → Kept → A) (bs : List Kept) (d : ℕ) (b : Kept) → d < length bs →
    inward (λ k. of k (kept_at (set bs d b) k)) (d + 1) ≡ of d b ∷ inward (λ k. of k (kept_at bs k)) d
inward_set {A} of bs d b h =
    rw (add-one, get_or-set_same bs d b _ h)
    (ap (λ (l : List A). of d b ∷ l) (inward-same _ _ d (λ k l. ap (of k) (get_or-set_other bs d k b _ (λ q. omega arith)))))

-- the scope of the operands of subformula e, whose byte is at a place, by the kind of its opcode
module _ (scope : Scope) (e place : ℕ) (op : code.Opcode) (nested : scope.guarded ≤ scope.depth) where
  -- every fixpoint outside a next is guarded
  pub inside-next : op ≡ Next → OperandScope scope e place op
      (record { depth = scope.depth; guarded = scope.depth; binders = scope.binders })
  inside-next q =
      let is : named op ≡ Opcode.next = ap named q in
      record {
        fixpoints =
            rw is
            (inward-same _ _ scope.depth (λ k l. ap (binder (kept_at scope.binders k).place) (lt-ltb k scope.depth l))
            ∙ sym (inward-map behind_next (enclosing_at scope) scope.depth));
        numbers = rw is refl;
        guarded = omega arith;
        depth = rw is (omega arith);
      }

  -- a fixpoint is innermost, and not guarded yet
  pub inside-fixpoint : (op ≡ Least) ⊎ (op ≡ Greatest) → e < 48 → scope.depth + deeper (named op) ≤ 7 → length scope.binders ≡ 7 →
      OperandScope scope e place op (record {
        depth = scope.depth + 1;
        guarded = scope.guarded;
        binders = set scope.binders scope.depth (record { number = e % 256; place = place });
      })
  inside-fixpoint q small room seven =
      let (greatest, is) = fixpoint_kind q in
      let few : scope.depth + 1 ≤ 7 = rw is at room in
      record {
        fixpoints =
            rw is
            (inward_set (λ k b. binder b.place (ltb k scope.guarded)) scope.binders scope.depth entry (omega arith)
            ∙ ap (λ (g : Bool). binder place g ∷ enclosing scope) (le-ltb scope.depth scope.guarded nested));
        numbers =
            rw is
            (inward_set (λ k b. b.number) scope.binders scope.depth entry (omega arith)
            ∙ ap (λ (n : ℕ). n ∷ binders scope) (omega arith));
        guarded = omega arith;
        depth = rw is refl;
      }
    where
      entry : Kept
      entry = record { number = e % 256; place = place }
