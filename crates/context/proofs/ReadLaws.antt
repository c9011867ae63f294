-- Reading a formula with another in the hole, and reading what is in the hole alone. What is closed and guarded by itself is so inside any
-- fixpoints, so the new formula is closed, guarded and in range; its bytes spell it, and reading gives acceptance, 3 or 4, and nothing
-- else. What is in the hole is guarded under the fixpoints around it and has at most as many operators of each kind as the whole: alone it
-- is accepted if it names none of those fixpoints, and refused with 7 if it names one. Assumes nothing.
use mathlib.Core.Path.{◌≡◌, sym, ap, subst⁻¹, ◌∙◌}
use mathlib.Core.Logic.{◌⊎◌, inl, inr}
use mathlib.Core.Bool.{Bool, true, false}
use mathlib.Core.List.{List, [], ◌∷◌, ◌++◌, map}
use Prim.Native.Nat.{ℕ, ◌≤◌}
use native.Mathlib.Omega.{arith}
use lib.ListN.{length, length-append}
use Rattle.formula.specs.Formula.{Formula}
use Rattle.formula.specs.Table.{entries}
use Rattle.formula.specs.Refusal.{at_byte}
use Rattle.formula.specs.declared.Fault.TheVariants.{UnboundVariable}
use Rattle.formula.specs.Reading.{Opcode, Reading, parse}
use Rattle.formula.specs.Occurrence.{Guards, Guarded, Closed, Ranged}
use Rattle.formula.specs.Ways.{spelled}
use Rattle.formula.proofs.Commands.{or_command, next-command, fix-command}
use Rattle.formula.proofs.Limits.{tally, size-some, WithinLimits, parse-limited}
use Rattle.formula.proofs.Guarded.{parse-guarded, closed-guarded, guarded-inside, decide-closed}
use Rattle.formula.proofs.Spelling.{parse-spelled}
use Rattle.formula.proofs.Reread.{Reread, spelled_read, limited_read, open_read}
use Rattle.context.specs.Context.{Context, plugged, number}
use Rattle.context.specs.Bytes.{first_byte, last_byte, subformula_bytes, replaced}
use Rattle.context.proofs.Located.{plugged-inside}
use Rattle.context.proofs.ByteLaws.{front, back, plugged-spelled, first-is, last-is, subformula-spelled, replaced-spelled}

-- ---- what is so of the whole and of what is in the hole
pub part-guarded : (c : Context) (guards : Guards) (a : Formula) → Guarded guards (plugged c a) → (around : Guards) × Guarded around a
part-guarded Context.hole l a p = (l, p)
part-guarded (Context.left o c b) l a p = part-guarded c l a p.0
part-guarded (Context.right o b c) l a p = part-guarded c l a p.1
part-guarded (Context.next c) l a p = part-guarded c (map (λ _. true) l) a p
part-guarded (Context.fix m c) l a p = part-guarded c (false ∷ l) a p

-- with what needs nothing around it in the hole
pub plugged-guarded : (c : Context) (guards : Guards) (a g : Formula) → Guarded guards (plugged c a) → Guarded [] g
    → Guarded guards (plugged c g)
plugged-guarded Context.hole l a g p q = guarded-inside [] l g q
plugged-guarded (Context.left o c b) l a g p q = (plugged-guarded c l a g p.0 q, p.1)
plugged-guarded (Context.right o b c) l a g p q = (p.0, plugged-guarded c l a g p.1 q)
plugged-guarded (Context.next c) l a g p q = plugged-guarded c (map (λ _. true) l) a g p q
plugged-guarded (Context.fix m c) l a g p q = plugged-guarded c (false ∷ l) a g p q

pub part-ranged : (c : Context) (a : Formula) → Ranged (plugged c a) → Ranged a
part-ranged Context.hole a p = p
part-ranged (Context.left o c b) a p = part-ranged c a p.0
part-ranged (Context.right o b c) a p = part-ranged c a p.1
part-ranged (Context.next c) a p = part-ranged c a p
part-ranged (Context.fix m c) a p = part-ranged c a p

pub plugged-ranged : (c : Context) (a g : Formula) → Ranged (plugged c a) → Ranged g → Ranged (plugged c g)
plugged-ranged Context.hole a g p q = q
plugged-ranged (Context.left o c b) a g p q = (plugged-ranged c a g p.0 q, p.1)
plugged-ranged (Context.right o b c) a g p q = (p.0, plugged-ranged c a g p.1 q)
plugged-ranged (Context.next c) a g p q = plugged-ranged c a g p q
plugged-ranged (Context.fix m c) a g p q = plugged-ranged c a g p q

part_tally : (test : Opcode → Bool) (c : Context) (a : Formula) → tally test a ≤ tally test (plugged c a)
part_tally test Context.hole a = omega arith
part_tally test (Context.left o c b) a = omega (arith, part_tally test c a)
part_tally test (Context.right o b c) a = omega (arith, part_tally test c a)
part_tally test (Context.next c) a = omega (arith, part_tally test c a)
part_tally test (Context.fix m c) a = omega (arith, part_tally test c a)

pub part-limits : (c : Context) (a : Formula) → WithinLimits (plugged c a) → WithinLimits a
part-limits c a l = record {
  some = size-some a;
  commands = omega (arith, plugged-inside c a, l.commands);
  ors = omega (arith, part_tally or_command c a, l.ors);
  nexts = omega (arith, part_tally next-command c a, l.nexts);
  fixpoints = omega (arith, part_tally fix-command c a, l.fixpoints);
  signals = part-ranged c a l.signals;
}

-- ---- the bytes of an accepted formula
module _ (old : List ℕ) (c : Context) (a : Formula) (e : parse old ≡ Reading.accepted (plugged c a)) where
  own_spelled : subformula_bytes old (entries (plugged c a)) (number c) ≡ spelled a
  own_spelled = rw (parse-spelled old (plugged c a) e) (subformula-spelled c a)

  replaced_by : (g : Formula) → replaced old (entries (plugged c a)) (number c) (spelled g) ≡ spelled (plugged c g)
  replaced_by g = rw (parse-spelled old (plugged c a) e) (replaced-spelled c a g)

  pub span-order : (first_byte (entries (plugged c a)) (number c) ≤ last_byte (entries (plugged c a)) (number c)) ×
      (last_byte (entries (plugged c a)) (number c) ≤ length old)
  span-order =
      let long = ap length (parse-spelled old (plugged c a) e ∙ plugged-spelled c a) in
      let parts = length-append (front c) (spelled a ++ back c) in
      (omega (arith, first-is c a, last-is c a), omega (arith, last-is c a, long, parts, length-append (spelled a) (back c)))

  -- with its own bytes in their place, nothing changes
  pub own_back : replaced old (entries (plugged c a)) (number c) (subformula_bytes old (entries (plugged c a)) (number c)) ≡ old
  own_back =
      ap (replaced old (entries (plugged c a)) (number c)) own_spelled ∙ replaced_by a ∙ sym (parse-spelled old (plugged c a) e)

  own_limits : WithinLimits a
  own_limits = part-limits c a (parse-limited old (plugged c a) e)

  own_guarded : (around : Guards) × Guarded around a
  own_guarded = part-guarded c [] a (parse-guarded old (plugged c a) e)

  pub own_read : Closed 0 a → parse (subformula_bytes old (entries (plugged c a)) (number c)) ≡ Reading.accepted a
  own_read closed =
      let (around, guarded) = own_guarded in
      ap parse own_spelled ∙ limited_read a (closed-guarded [] around a guarded closed) own_limits

  pub own_open : (Closed 0 a → ⊥)
      → (place : ℕ) × (parse (subformula_bytes old (entries (plugged c a)) (number c)) ≡ Reading.refused (at_byte UnboundVariable place))
  own_open free =
      let (around, guarded) = own_guarded in
      let (place, refused) = open_read around a guarded own_limits free in
      (place, ap parse own_spelled ∙ refused)

  -- The bytes of a subformula alone: accepted exactly if it is closed, else refused with 7.
  pub own_seven : (Closed 0 a × (parse (subformula_bytes old (entries (plugged c a)) (number c)) ≡ Reading.accepted a)) ⊎
      ((Closed 0 a → ⊥) × ((place : ℕ) ×
      (parse (subformula_bytes old (entries (plugged c a)) (number c)) ≡ Reading.refused (at_byte UnboundVariable place))))
  own_seven =
      elim (decide-closed 0 a) [ inl closed ↦ inl (closed, own_read closed) | inr free ↦ inr (free, own_open free) ]

-- another accepted formula in its place: acceptance, 3 or 4, and nothing else
pub replaced_read : (old new : List ℕ) (c : Context) (a g : Formula) → parse old ≡ Reading.accepted (plugged c a)
    → parse new ≡ Reading.accepted g → Reread (plugged c g) (parse (replaced old (entries (plugged c a)) (number c) new))
replaced_read old new c a g e d =
    let x = entries (plugged c a) in
    let guarded = plugged-guarded c [] a g (parse-guarded old (plugged c a) e) (parse-guarded new g d) in
    let ranged = plugged-ranged c a g (parse-limited old (plugged c a) e).signals (parse-limited new g d).signals in
    subst⁻¹ (λ (l : List ℕ). Reread (plugged c g) (parse l))
    (ap (replaced old x (number c)) (parse-spelled new g d) ∙ replaced_by old c a e g) (spelled_read (plugged c g) guarded ranged)
