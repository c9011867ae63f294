-- `safety::Survey::step_on` tries one choice word after another: those before lead to no node that is so far away. One of them does, so the
-- loop is left before its end.
use mathlib.Core.List.{List}
use Prim.Native.Nat.{ℕ, ◌≤◌, ◌<◌}
use Rattle.safety.specs.Inner.{Strays}
use Rattle.safety.proofs.Survey.step_on.Given as goal

-- after as many turns as `word` says
pub record Turned (rows : List ℕ) (count from : ℕ) (area steps : List ℕ) (known far end word : ℕ) : Type 0 where
  pub turn : word ≤ end
  pub strayed : (y : ℕ) → y < word → Strays rows count y from area steps known far

abbrev pub invariant-loop-word : goal.invariant-loop-word
invariant-loop-word l =
    let t = l.self.tableau.now.table in
    Turned t.rows t.count l.core.node l.self.area.now l.self.steps.now l.self.known l.far l.end l.word
