-- The number of every answer on all formulas of a catalogue fits: the sizes are the decision's, a formula's refusal of reading takes 24
-- bits (`refusal_small`), and its position three. Assumes nothing.
use Rattle.std.proofs.Common.{Result, Ok, Err, List, ℕ, ◌≤◌, ◌<◌, arith}
use Rattle.formula.specs.Refusal.{code_of}
use Rattle.formula.specs.declared.Refusal.{Refusal}
use Rattle.formula.specs.declared.Refusal.TheVariants.{AtByte, Unguarded}
use Rattle.joint.specs.Contract.{Jointly}
use Rattle.joint.specs.declared.Verdict as code
use Rattle.joint.specs.declared.Verdict.TheVariants.{Satisfiable, Unsatisfiable}
use Rattle.joint.specs.declared.Refusal as refusing
use Rattle.joint.specs.declared.Refusal.TheVariants.{Damaged, Miscounted, Unread, No, Untried}
use Rattle.joint.proofs.Bounds.{Bounded, jointly_bounded}
use Rattle.yuktrob_c.specs.Numbers.{refusal_number, Letters16, Early, JointFits}
use Rattle.yuktrob_c.proofs.VerdictFit.{small}

pub refusal_small : (why : Refusal) → code_of why ≤ 9 → Early why → refusal_number why < 16777216
refusal_small (AtByte fault at) c e = omega arith
refusal_small (Unguarded at binder-at) c (h, k) = omega arith

-- a core in place of a stem
with_core : {K P core : ℕ} → Letters16 0 0 K P → core < 256 → Letters16 core 0 K P
with_core l c = record { stem_fits = omega arith; cycle_fits = l.cycle_fits; nodes_fit = l.nodes_fit; profiles_fit = l.profiles_fit }

bounded_fits : (N M : ℕ) (j : Result code.Verdict refusing.Refusal) → Bounded N M j → JointFits j
bounded_fits N M (Ok (Satisfiable stem cycle K c)) b = small b
bounded_fits N M (Ok (Unsatisfiable K P core)) (s, c) = with_core (small s) c
bounded_fits N M (Err (Damaged place)) b = tt
bounded_fits N M (Err Miscounted) b = tt
bounded_fits N M (Err (Unread position why)) b = b
bounded_fits N M (Err (No q)) b = tt
bounded_fits N M (Err (Untried s)) b = tt

pub jointly_fits : (bytes : List ℕ) (N M : ℕ) {w w' b b' : List ℕ} {j : Result code.Verdict refusing.Refusal}
    → Jointly bytes N M w w' b b' j → JointFits j
jointly_fits bytes N M {j = j} h = bounded_fits N M j (jointly_bounded bytes N M h)
