-- What each outcome of a substitution says is so (`substitution_tells`). The outcome follows the definition's questions; what reading says
-- of the spliced bytes comes from the laws about contexts: they spell the old formula with the new one in the hole, which is closed and
-- guarded as both are, so that only its size can be too large. And a subformula's own bytes in its place: the formula comes back, or, where
-- the subformula names a fixpoint around it, its bytes are refused with 7 (`own_substituted`, `own_refused`). Assumes nothing.
use mathlib.Core.Path.{◌≡◌, refl, sym, ap, subst, ◌∙◌}
use mathlib.Core.Bool.{Bool, true, false}
use mathlib.Core.List.{List, [], ◌++◌}
use Prim.Native.Nat.{ℕ, ◌<◌}
use native.Mathlib.Omega.{arith}
use lib.Dec.{ltb}
use lib.ListN.{length}
use borrow.Author.Tests.{lt-ltb, ltb-true, ltb-false}
use Rattle.formula.specs.Formula.{Formula, size}
use Rattle.formula.specs.Table.{Entries, entries}
use Rattle.formula.specs.Refusal.{at_byte}
use Rattle.formula.specs.declared.Fault.TheVariants.{UnboundVariable}
use Rattle.formula.specs.Occurrence.{Closed}
use Rattle.formula.specs.Reading.{Reading, parse, reading, with_entries}
use Rattle.formula.proofs.Guarded.{parse-guarded, guarded-closed}
use Rattle.formula.proofs.Limits.{size-some}
use Rattle.formula.proofs.Spelling.{parse-spelled}
use Rattle.formula.proofs.Reread.{Reread}
use Rattle.context.specs.Context.{Context, plugged, number}
use Rattle.context.specs.Bytes.{subformula_bytes, replaced}
use Rattle.context.proofs.Located as contexts
use Rattle.context.proofs.ByteLaws.{front, back, plugged-spelled, replaced-spelled}
use Rattle.context.proofs.ReadLaws.{replaced_read, own_read, own_back, own_open}
use Rattle.context.proofs.TableLaws.{replaced-table, replaced-kept}
use Rattle.substitution.specs.Substitution.{Substitution, of_spliced, of_number, of_new, of_old, substitution}
use Rattle.substitution.specs.Meaning.{Located, exchanged, Tells}
use Rattle.substitution.proofs.OutcomeLaws.{entries-size}

-- ---- the spliced bytes of two accepted formulas
module _ (old new : List ℕ) (c : Context) (a g : Formula) (p : parse old ≡ Reading.accepted (plugged c a))
    (q : parse new ≡ Reading.accepted g) where
  abbrev x : Entries
  x = entries (plugged c a)

  abbrev at-hole : Located old (number c) new x
  at-hole = record {
    around = c;
    part = a;
    formula = g;
    old_is = p;
    rows = refl;
    numbered = refl;
    new_is = q;
    before = front c;
    behind = back c;
    old_bytes = parse-spelled old (plugged c a) p ∙ plugged-spelled c a;
  }

  replaced-is : replaced old x (number c) new ≡ exchanged at-hole
  replaced-is =
      (λ i. replaced (parse-spelled old (plugged c a) p i) x (number c) (parse-spelled new g q i))
      ∙ replaced-spelled c a g ∙ plugged-spelled c g ∙ ap (λ (l : List ℕ). front c ++ (l ++ back c)) (sym (parse-spelled new g q))

  -- by what reading says of them
  spliced_tells : {r : Reading Formula} → parse (replaced old x (number c) new) ≡ r → Reread (plugged c g) r
      → Tells old (number c) new (of_spliced x (replaced old x (number c) new) (with_entries r))
  spliced_tells e Reread.accepted =
      let closed = guarded-closed [] (plugged c a) (parse-guarded old (plugged c a) p) in
      let new-closed = guarded-closed [] g (parse-guarded new g q) in
      record {
        x = x;
        located = at-hole;
        spliced = replaced-is;
        accepted = e;
        rows = refl;
        rows_by = replaced-table c a g closed new-closed;
        kept = replaced-kept c a g closed new-closed;
      }
  spliced_tells e (Reread.too_large code place limit large) =
      record { located = at-hole; refused = ap parse (sym replaced-is) ∙ e; limit = limit }

-- ---- the questions
module _ (old : List ℕ) (e : ℕ) (new : List ℕ) where
  by_spliced : (f g : Formula) → parse old ≡ Reading.accepted f → parse new ≡ Reading.accepted g → e < size f
      → Tells old e new (of_number old (entries f) e new true)
  unfolding reading
  by_spliced f g p q l =
      let (c, a, is, n) = contexts.located f e l in
      let at = p ∙ ap Reading.accepted is in
      subst (λ (i : ℕ). Tells old i new (of_number old (entries f) i new true)) (sym n)
      (subst (λ (h : Formula). Tells old (number c) new (of_number old (entries h) (number c) new true)) (sym is)
      (spliced_tells old new c a g at q refl (replaced_read old new c a g at q)))

  by_number : (f g : Formula) → parse old ≡ Reading.accepted f → parse new ≡ Reading.accepted g
      → (b : Bool) → ltb e (length (entries f).operators) ≡ b → Tells old e new (of_number old (entries f) e new b)
  by_number f g p q false t =
      record {
        old_read = record { formula = f; old_is = p; rows = refl };
        formula = g;
        new_is = q;
        few = omega (arith, ltb-false e (length (entries f).operators) t, entries-size f);
      }
  by_number f g p q true t = by_spliced f g p q (omega (arith, ltb-true e (length (entries f).operators) t, entries-size f))

  by_new : (f : Formula) → parse old ≡ Reading.accepted f → (r : Reading Formula) → parse new ≡ r
      → Tells old e new (of_new old (entries f) e new (with_entries r))
  by_new f p (Reading.refused why) q = (record { formula = f; old_is = p; rows = refl }, q)
  by_new f p (Reading.accepted g) q = by_number f g p q (ltb e (length (entries f).operators)) refl

  by_old : (r : Reading Formula) → parse old ≡ r → Tells old e new (of_old old e new (with_entries r))
  unfolding reading
  by_old (Reading.refused why) p = p
  by_old (Reading.accepted f) p = by_new f p (parse new) refl

-- Theorem: each outcome says what is so.
pub substitution_tells : (old : List ℕ) (e : ℕ) (new : List ℕ) → Tells old e new (substitution old e new)
unfolding substitution reading
substitution_tells old e new = by_old old e new (parse old) refl

-- ---- a subformula's own bytes in its place
read_is : (bytes : List ℕ) {r : Reading Formula} → parse bytes ≡ r → reading bytes ≡ with_entries r
unfolding reading
read_is bytes e = ap with_entries e

module _ (old : List ℕ) (c : Context) (a : Formula) (p : parse old ≡ Reading.accepted (plugged c a)) where
  abbrev rows : Entries
  rows = entries (plugged c a)

  abbrev own : List ℕ
  own = subformula_bytes old rows (number c)

  own_number : ltb (number c) (length rows.operators) ≡ true
  own_number =
      lt-ltb (number c) (length rows.operators)
      (omega (arith, entries-size (plugged c a), contexts.plugged-inside c a, size-some a))

  -- the new bytes are its own
  own_read_as : {r : Reading Formula} → parse own ≡ r → substitution old (number c) own ≡ of_new old rows (number c) own (with_entries r)
  unfolding substitution
  own_read_as q = ap (of_old old (number c) own) (read_is old p) ∙ ap (of_new old rows (number c) own) (read_is own q)

  -- Theorem: where the subformula is closed, the formula comes back.
  pub own_substituted : Closed 0 a → substitution old (number c) own ≡ Substitution.substituted rows old
  own_substituted closed =
      own_read_as (own_read old c a p closed) ∙ ap (of_number old rows (number c) own) own_number
      ∙ ap (λ (l : List ℕ). of_spliced rows l (reading l)) (own_back old c a p) ∙ ap (of_spliced rows old) (read_is old p)

  -- Theorem: where it is not, its bytes alone are refused with 7.
  pub own_refused : (Closed 0 a → ⊥)
      → (place : ℕ) × (substitution old (number c) own ≡ Substitution.new_unread rows (at_byte UnboundVariable place))
  own_refused free =
      let (place, refused) = own_open old c a p free in
      (place, own_read_as refused)
