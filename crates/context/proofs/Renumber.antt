-- The same formula at another place of a table. Its rows are the same but for the numbers in them: those of its own subformulas move with
-- it, and those of the fixpoints around move as these do. Of the fixpoints around only as many count as the formula's variables reach, so
-- the rows of a closed formula are the same inside any fixpoints. Assumes nothing.
use mathlib.Core.Path.{◌≡◌, refl, ap, ◌∙◌}
use mathlib.Core.List.{List, ◌∷◌, map, map-append}
use Prim.Native.Nat.{ℕ, zero, suc, ◌+◌, ◌<◌}
use native.Mathlib.Nat.{add-zero}
use native.Mathlib.Omega.{arith}
use lib.ListN.{get_or}
use Rattle.formula.specs.Formula.{Formula, size}
use Rattle.formula.specs.Table.{table_from}
use Rattle.formula.specs.Occurrence.{Closed}
use Rattle.formula.proofs.Limits.{size-some}
use Rattle.context.specs.Renumbered.{renumbered}

-- numbers that move together, from a later one on
later : (to : ℕ → ℕ) (k j n s : ℕ) → ((i : ℕ) → i < s → to (k + i) ≡ j + i) → (i : ℕ) → n + i < s → to (k + n + i) ≡ j + n + i
later to k j n s h i l = ap to {x = k + n + i} {y = k + (n + i)} (omega arith) ∙ h (n + i) l ∙ omega arith

-- From number k inside the fixpoints bs to number j inside cs.
pub table-renumbered : (to : ℕ → ℕ) (m k j : ℕ) (bs cs : List ℕ) (f : Formula) → Closed m f
    → ((i : ℕ) → i < size f → to (k + i) ≡ j + i)
    → ((d : ℕ) → d < m → to (get_or bs d 0) ≡ get_or cs d 0)
    → table_from j cs f ≡ map (renumbered to) (table_from k bs f)
table-renumbered to m k j bs cs (Formula.leaf l) c h b = refl
table-renumbered to m k j bs cs (Formula.variable d) c h b = cc (b d c)
table-renumbered to m k j bs cs (Formula.pair o x y) c h b =
    cc (
      h 1 (omega (arith, size-some x)),
      inner (size x) (omega (arith, size-some y)),
      table-renumbered to m (k + 1) (j + 1) bs cs x c.0 (λ i l. inner i (omega arith)) b,
      table-renumbered to m (k + 1 + size x) (j + 1 + size x) bs cs y c.1
          (λ i l. later to (k + 1) (j + 1) (size x) (size x + size y) inner i (omega arith)) b,
      map-append (renumbered to) (table_from (k + 1) bs x) (table_from (k + 1 + size x) bs y),
    )
  where
    inner : (i : ℕ) → i < size x + size y → to (k + 1 + i) ≡ j + 1 + i
    inner i l = later to k j 1 (1 + (size x + size y)) h i (omega arith)
table-renumbered to m k j bs cs (Formula.next x) c h b =
    cc (
      h 1 (omega (arith, size-some x)),
      table-renumbered to m (k + 1) (j + 1) bs cs x c (λ i l. later to k j 1 (1 + size x) h i (omega arith)) b,
    )
table-renumbered to m k j bs cs (Formula.fix g x) c h b =
    cc (
      h 1 (omega (arith, size-some x)),
      table-renumbered to (suc m) (k + 1) (j + 1) (k ∷ bs) (j ∷ cs) x c (λ i l. later to k j 1 (1 + size x) h i (omega arith)) bound,
    )
  where
    bound : (d : ℕ) → d < suc m → to (get_or (k ∷ bs) d 0) ≡ get_or (j ∷ cs) d 0
    bound zero l = simp add-zero at (h 0 (omega arith))
    bound (suc d) l = b d (omega arith)
