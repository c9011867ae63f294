-- An accepted formula is closed and guarded: each variable has a binder, and a next between it and the binder (MEANING 1.4, questions 7
-- and 8). Read off the derivation. Fixpoints further out change nothing for a formula that names none of them, so it is guarded inside
-- them exactly if it is without them; and whether it names one of them can be found out. Assumes nothing.
use Rattle.std.proofs.Common.{◌≡◌, subst, ◌⊎◌, inl, inr, true, false, List, [], ◌∷◌, ◌++◌, map, ℕ, suc, ◌-◌, ◌<◌, arith, T, length}
use Rattle.std.proofs.Common.{length-append}
use Rattle.std.proofs.Math.Decide.{dec_lt}
use Rattle.std.proofs.Math.ListN.{length-map, get_or-append}
use Rattle.std.proofs.Math.Path.{subst⁻¹}
use mathlib.Core.List.{map-append}
use Rattle.formula.specs.Formula.{Formula}
use Rattle.formula.specs.Reading.{Head, Scope, entered, behind_next, Reading, parse}
use Rattle.formula.specs.Occurrence.{Guards, Guarded, Closed}
use Rattle.formula.proofs.ScopeLaws.{guards, guards-length, guards-at, guards-next}
use Rattle.formula.proofs.Derivation.{Reads, parse-reads}

reads-guarded : (scope : Scope) {h k : Head} (f : Formula) → Reads scope h f k → Guarded (guards scope) f
reads-guarded scope f (Reads.constant b) = tt
reads-guarded scope f (Reads.signal b s i) = tt
reads-guarded scope f (Reads.variable {d = d} b x i g) = (omega (arith, guards-length scope), subst⁻¹ T (guards-at scope d i) g)
reads-guarded scope f (Reads.pair {a = x} {b = y} b p q) = (reads-guarded scope x p, reads-guarded scope y q)
reads-guarded scope f (Reads.next {a = x} b p) =
    subst (λ (l : Guards). Guarded l x) (guards-next scope) (reads-guarded (map behind_next scope) x p)
reads-guarded scope f (Reads.fix {j = j} {a = x} b p) = reads-guarded (entered (j.at - 1) ∷ scope) x p

pub parse-guarded : (bytes : List ℕ) (f : Formula) → parse bytes ≡ Reading.accepted f → Guarded [] f
parse-guarded bytes f e = reads-guarded [] f (parse-reads bytes f e).1

pub guarded-closed : (guards : Guards) (f : Formula) → Guarded guards f → Closed (length guards) f
guarded-closed guards (Formula.leaf l) g = tt
guarded-closed guards (Formula.variable d) g = g.0
guarded-closed guards (Formula.pair o a b) g = (guarded-closed guards a g.0, guarded-closed guards b g.1)
guarded-closed guards (Formula.next a) g =
    rw (length-map guards (λ _. true)) at (guarded-closed (map (λ _. true) guards) a g)
guarded-closed guards (Formula.fix m a) g = guarded-closed (false ∷ guards) a g

-- what is closed without the outer fixpoints is guarded without them,
pub closed-guarded : (inner outer : Guards) (f : Formula) → Guarded (inner ++ outer) f → Closed (length inner) f → Guarded inner f
closed-guarded inner outer (Formula.leaf l) g c = tt
closed-guarded inner outer (Formula.variable d) g c = (c, subst T (get_or-append inner outer false d c) g.1)
closed-guarded inner outer (Formula.pair o a b) g c =
    (closed-guarded inner outer a g.0 c.0, closed-guarded inner outer b g.1 c.1)
closed-guarded inner outer (Formula.next a) g c =
    let behind : Guards → Guards = map (λ _. true) in
    closed-guarded (behind inner) (behind outer) a (subst (λ (l : Guards). Guarded l a) (map-append (λ _. true) inner outer) g)
    (subst⁻¹ (λ (m : ℕ). Closed m a) (length-map inner (λ _. true)) c)
closed-guarded inner outer (Formula.fix m a) g c = closed-guarded (false ∷ inner) outer a g c

-- and what is guarded without them is so inside them
pub guarded-inside : (inner outer : Guards) (f : Formula) → Guarded inner f → Guarded (inner ++ outer) f
guarded-inside inner outer (Formula.leaf l) g = tt
guarded-inside inner outer (Formula.variable d) g =
    (omega (arith, g.0, length-append inner outer), subst⁻¹ T (get_or-append inner outer false d g.0) g.1)
guarded-inside inner outer (Formula.pair o a b) g = (guarded-inside inner outer a g.0, guarded-inside inner outer b g.1)
guarded-inside inner outer (Formula.next a) g =
    subst⁻¹ (λ (l : Guards). Guarded l a) (map-append (λ _. true) inner outer)
    (guarded-inside (map (λ _. true) inner) (map (λ _. true) outer) a g)
guarded-inside inner outer (Formula.fix m a) g = guarded-inside (false ∷ inner) outer a g

pub decide-closed : (m : ℕ) (f : Formula) → Closed m f ⊎ (Closed m f → ⊥)
decide-closed m (Formula.leaf l) = inl tt
decide-closed m (Formula.variable d) = by (dec_lt d m)
  where
    by : Dec (d < m) → (d < m) ⊎ (d < m → ⊥)
    by (yes i) = inl i
    by (no i) = inr i
decide-closed m (Formula.pair o a b) = by (decide-closed m a) (decide-closed m b)
  where
    by : Closed m a ⊎ (Closed m a → ⊥) → Closed m b ⊎ (Closed m b → ⊥)
        → (Closed m a × Closed m b) ⊎ (Closed m a × Closed m b → ⊥)
    by (inl p) (inl q) = inl (p, q)
    by (inl p) (inr q) = inr (λ c. q c.1)
    by (inr p) q = inr (λ c. p c.0)
decide-closed m (Formula.next a) = decide-closed m a
decide-closed m (Formula.fix g a) = decide-closed (suc m) a
