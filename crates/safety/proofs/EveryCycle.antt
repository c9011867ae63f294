-- With greatest fixpoints alone every cycle counts. A set of triples is rejecting by a triple whose priority is a least fixpoint; if there
-- is none, no set is (`no-rejecting`, `no_bad_profile`), and the accepting cycles are the closed runs of reachable nodes
-- (`closed-accepting`, `accepting-closed`). `first_least` finds no place exactly then (`none-least`, `greatest-none`). Assumes nothing.
use mathlib.Core.Path.{◌≡◌, refl, ap, subst, ◌∙◌}
use mathlib.Core.Bool.{Bool, false, cond}
use Rattle.std.specs.Prelude.{None, Some}
use mathlib.Core.List.{List, [], ◌∷◌}
use Prim.Native.Nat.{ℕ, zero, suc, ◌+◌, ◌<◌}
use native.Mathlib.Omega.{arith}
use lib.Dec.{T}
use lib.ListN.{length, length-append}
use Rattle.base.proofs.BoolLaws.{by_test}
use Rattle.base.proofs.TestLaws.{not_of_T}
use Rattle.formula.specs.Table.{Table, operator, width}
use Rattle.tableau.specs.Saturation.{Subset}
use Rattle.tableau.specs.Transition.{Transition}
use Rattle.profile.specs.Traces.{Triple}
use Rattle.profile.specs.Profiles.{Profile, is_least, rejecting}
use Rattle.profile.specs.Cycle.{Run, Rejecting, AcceptingCycle}
use Rattle.profile.proofs.RejectLaws.{rejecting_of}
use Rattle.profile.proofs.CycleLaws.{run_along, along_run}
use Rattle.safety.specs.Safety.{first_least}
use Rattle.safety.specs.Closed.{ClosedRun}

-- no operator is a least fixpoint
abbrev pub Greatest : Table → Type 0
Greatest t = (e : ℕ) → is_least (operator t e) ≡ false

-- Theorem: where no place is found, no operator is a least fixpoint.
pub none-least : (p : ℕ) (t : Table) → first_least p t ≡ None → Greatest t
none-least p [] q e = refl
none-least p (o ∷ t) q e =
    by_test (is_least o)
    (λ b. cond b (Some p) (first_least (p + width o) t) ≡ None → is_least o ≡ b → is_least (operator (o ∷ t) e) ≡ false)
    (λ h r d. let z : ◌≡◌ {A = ℕ} 0 1 = cc in absurd (omega arith))
    (λ h r d. at e d (none-least (p + width o) t r))
    q refl
  where
    at : (e : ℕ) → is_least o ≡ false → Greatest t → is_least (operator (o ∷ t) e) ≡ false
    at zero d g = d
    at (suc e) d g = g e

-- Theorem: and where none is, no place is found.
pub greatest-none : (p : ℕ) (t : Table) → Greatest t → first_least p t ≡ None
greatest-none p [] g = refl
greatest-none p (o ∷ t) g =
    ap (λ (b : Bool). cond b (Some p) (first_least (p + width o) t)) (g 0) ∙ greatest-none (p + width o) t (λ e. g (suc e))

module _ (t : Table) (greatest : Greatest t) where
  pub no-rejecting : (xs : List Triple) → Rejecting t xs → ⊥
  no-rejecting xs r = subst T (greatest r.triple.priority) r.least

  -- Theorem: no profile is rejecting,
  pub no_bad_profile : (xs : List Triple) → rejecting t xs ≡ false
  no_bad_profile xs = not_of_T (rejecting t xs) (λ h. no-rejecting xs (rejecting_of t xs h))

  -- so every closed run of a reachable node is an accepting cycle;
  pub closed-accepting : {v : Subset} {ss : List Transition} → ClosedRun t v ss → AcceptingCycle t v ss
  closed-accepting c =
      let (xs, r) = along_run t c.back c.some_step in
      record { reachable = c.reachable; triple_set = xs; run = r; accepts = no-rejecting xs }

-- a run has a transition
run-some : {t : Table} {p : Profile} {ss : List Transition} → Run t p ss → 0 < length ss
run-some (Run.one m) = omega arith
run-some (Run.more {ss = ss} {s = s} r m) = omega (arith, length-append ss (s ∷ []))

-- and in any table an accepting cycle is one.
pub accepting-closed : {t : Table} {v : Subset} {ss : List Transition} → AcceptingCycle t v ss → ClosedRun t v ss
accepting-closed {t} c = record { reachable = c.reachable; some_step = run-some c.run; back = run_along t c.run }
