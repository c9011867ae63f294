-- `safety::Survey::step_on` tries one choice word after another: those before lead to no node that is so far away. One of them does, so the
-- loop is left before its end.
use mathlib.Core.Path.{◌≡◌, ap, subst, subst⁻¹, ◌∙◌}
use mathlib.Core.List.{List}
use Prim.Native.Nat.{ℕ, ◌+◌, ◌^◌, ◌<◌}
use native.Mathlib.Omega.{arith}
use native.Mathlib.Decide.{dec_lt}
use Rattle.tableau.specs.Transition.{ors}
use Rattle.tableau.specs.Inner.{table_of, UnmetOrs}
use Rattle.safety.specs.declared.Step.{Step}
use Rattle.safety.specs.Inner.{Onward, Strays, Goes, FirstStep}
use Rattle.safety.proofs.StepLaws.{strays, goes}
use Rattle.safety.proofs.Survey.step_on.Invariants.{Turned}
use Rattle.safety.proofs.Survey.step_on.Goals as goal

turned_more : {rows : List ℕ} {count from : ℕ} {area steps : List ℕ} {known far end word : ℕ}
    → Turned rows count from area steps known far end word → word < end → Strays rows count word from area steps known far
    → Turned rows count from area steps known far end (word + 1)
turned_more {rows} {count} {from} {area} {steps} {known} {far} {word = word} t h s = record {
  turn = omega arith;
  strayed = λ y l.
      elim (dec_lt y word) [
        | yes k ↦ t.strayed y k
        | no k ↦
            subst (λ (z : ℕ). Strays rows count z from area steps known far) {x = word} {y = y} (omega arith) s
      ];
}

first_found : {rows : List ℕ} {count from node x : ℕ} {area steps : List ℕ} {known far : ℕ} {step : Step} → from ≡ node
    → x < 2 ^ ors (table_of rows count) → Goes rows count x from area steps known far step.to.0 step.letter
    → ((y : ℕ) → y < x → Strays rows count y from area steps known far)
    → FirstStep rows count node area steps known far step
first_found {rows} {count} {area = area} {steps} {known} {far} {step} e h g f =
    subst (λ (w : ℕ). FirstStep rows count w area steps known far step) e
    (record { choice_word = _; small = h; goes = g; first = f })

pub node-node-requires : goal.node-node-requires
node-node-requires c = (
  omega (arith, c.requires.from_lt_known, c.requires.surveyed.there.few),
  omega
      (arith, c.requires.from_lt_known, c.requires.surveyed.there.room),
)

pub power-end-requires : goal.power-end-requires
power-end-requires c = omega (arith, c.ors.ensures, c.args.self.now.tableau.now.formed.few_ors)

pub loop-word-init : goal.loop-word-init
loop-word-init c = record { turn = omega arith; strayed = λ y h. absurd (omega arith) }

pub by_word-target-requires : goal.by_word-target-requires
by_word-target-requires c =
    let t = c.args.self.now.tableau.now.table in
    record {
      core_of = c.core_of-core.ensures.0;
      unmet_ors = subst⁻¹ (λ (n : ℕ). UnmetOrs t.rows t.count n c.unmet-unmet.result) c.core_of-core.ensures.1 c.unmet-unmet.ensures;
    }

pub reached-requires : goal.reached-requires
reached-requires c = c.requires.surveyed

pub returns-in-Some : goal.returns-in-Some
returns-in-Some c =
    let s = c.args.self.now in
    let reached = subst (Onward s c.by_word-target.result c.args.far) c.in-Some.is c.reached.ensures in
    first_found (c.core_of-core.ensures.1 ∙ c.node-node.ensures)
    (omega (arith, (c.power-end.ensures ∙ ap (λ (n : ℕ). 2 ^ n) c.ors.ensures), c.loop-word-test.true))
    (goes s.tableau.now.table.rows s.area.now s.steps.now s.known c.args.far c.by_word-target.ensures reached)
    c.loop-word.invariant.strayed

pub loop-word-preserved : goal.loop-word-preserved
loop-word-preserved c =
    let s = c.args.self.now in
    let reached = subst (Onward s c.by_word-target.result c.args.far) c.in_default.is c.reached.ensures in
    turned_more c.loop-word.invariant c.loop-word-test.true
    (strays s.tableau.now.table.rows s.area.now s.steps.now s.known c.args.far c.by_word-target.ensures reached)

pub unreachable-requires : goal.unreachable-requires
unreachable-requires c =
    let s = c.args.self.now in
    let t = s.tableau.now.table in
    let tried = c.power-end.ensures ∙ ap (λ (n : ℕ). 2 ^ n) c.ors.ensures in
    c.requires.some_step (λ x h.
    subst (λ (n : ℕ). Strays t.rows t.count x n s.area.now s.steps.now s.known c.args.far)
    (c.core_of-core.ensures.1 ∙ c.node-node.ensures)
    (c.loop-word.invariant.strayed x (omega (arith, tried, c.loop-word-test.false))))
