-- Every number of a formula's subformulas is that of a hole: what stands at the number is what the hole has in it (`located`), found by
-- going into the operand that has the number. Filling a hole differently changes the number of operators by what differs in the hole, and
-- all operators in the hole are among those of the whole. Assumes nothing.
use mathlib.Core.Path.{◌≡◌, refl, ap, ◌∙◌}
use Prim.Native.Nat.{ℕ, zero, suc, ◌+◌, ◌-◌, ◌≤◌, ◌<◌}
use native.Mathlib.Decide.{dec_lt}
use native.Mathlib.Omega.{arith}
use Rattle.formula.specs.Formula.{Formula, size}
use Rattle.context.specs.Context.{Context, plugged, number}

-- subformula e of f in its context
abbrev Stands : Formula → ℕ → Type 0
Stands f e = (c : Context) × (a : Formula) × (f ≡ plugged c a) × (e ≡ number c)

-- A formula is made of f, with n operators before those of f: what stands in f stands in it too.
module _ (n : ℕ) (make : Formula → Formula) (around : Context → Context)
    (same : (c : Context) (a : Formula) → make (plugged c a) ≡ plugged (around c) a)
    (later : (c : Context) → n + number c ≡ number (around c)) where
  inside : {f : Formula} {e i : ℕ} → i ≡ n + e → Stands f e → Stands (make f) i
  inside h (c, a, p, q) = (around c, a, ap make p ∙ same c a, omega (arith, later c))

-- a formula itself stands at 0
either : (f : Formula) (e : ℕ) → ((i : ℕ) → e ≡ suc i → Stands f e) → Stands f e
either f zero deeper = (Context.hole, f, refl, refl)
either f (suc i) deeper = deeper i refl

pub located : (f : Formula) (e : ℕ) → e < size f → (c : Context) × (a : Formula) × (f ≡ plugged c a) × (e ≡ number c)
located (Formula.leaf x) e l = either (Formula.leaf x) e (λ i q. absurd (omega arith))
located (Formula.variable d) e l = either (Formula.variable d) e (λ i q. absurd (omega arith))
located (Formula.pair o a b) e l = either (Formula.pair o a b) e (λ i q. by i q (located a) (located b) (dec_lt i (size a)))
  where
    by : (i : ℕ) → e ≡ suc i → ((j : ℕ) → j < size a → Stands a j) → ((j : ℕ) → j < size b → Stands b j) → Dec (i < size a)
        → Stands (Formula.pair o a b) e
    by i q first second (yes h) =
        inside 1 (λ (f : Formula). Formula.pair o f b) (λ c. Context.left o c b) (λ c x. refl) (λ c. refl) (omega arith) (first i h)
    by i q first second (no h) =
        inside (1 + size a) (Formula.pair o a) (Context.right o a) (λ c x. refl) (λ c. omega arith) (omega arith)
        (second (i - size a) (omega arith))
located (Formula.next a) e l =
    either (Formula.next a) e
    (λ i q. inside 1 Formula.next Context.next (λ c x. refl) (λ c. refl) (omega arith) (located a i (omega arith)))
located (Formula.fix g a) e l =
    either (Formula.fix g a) e
    (λ i q. inside 1 (Formula.fix g) (Context.fix g) (λ c x. refl) (λ c. refl) (omega arith) (located a i (omega arith)))

pub size-plugged : (c : Context) (a b : Formula) → size (plugged c a) + size b ≡ size (plugged c b) + size a
size-plugged Context.hole a b = omega arith
size-plugged (Context.left o c x) a b = omega (arith, size-plugged c a b)
size-plugged (Context.right o x c) a b = omega (arith, size-plugged c a b)
size-plugged (Context.next c) a b = omega (arith, size-plugged c a b)
size-plugged (Context.fix g c) a b = omega (arith, size-plugged c a b)

pub plugged-inside : (c : Context) (a : Formula) → number c + size a ≤ size (plugged c a)
plugged-inside Context.hole a = omega arith
plugged-inside (Context.left o c x) a = omega (arith, plugged-inside c a)
plugged-inside (Context.right o x c) a = omega (arith, plugged-inside c a)
plugged-inside (Context.next c) a = omega (arith, plugged-inside c a)
plugged-inside (Context.fix g c) a = omega (arith, plugged-inside c a)
