-- The sizes of a verdict are small, as N is at most 1,024 and M at most 4,096 where it is given, and a refusal of reading is early
-- (Bounds); so the number of every verdict fits. A search answers as the decision does, or 36; building has at most N nodes, and so has the
-- safety decision. Assumes nothing.
use Rattle.std.proofs.Common.{Result, Ok, Err, ◌≡◌, refl, inl, inr, List, ℕ, arith, length}
use Rattle.std.proofs.Math.Path.{subst⁻¹}
use Rattle.base.proofs.AskLaws.{Asked, every_outcome}
use Rattle.formula.specs.Formula.{Formula}
use Rattle.formula.specs.Table.{Table, table}
use Rattle.formula.specs.Reading.{Reading, parse}
use Rattle.formula.proofs.Early.{parse-early}
use Rattle.construction.specs.Construction.{Construction, ask_room, after_reading, construction}
use Rattle.construction.specs.Contract as built
use Rattle.construction.specs.Contract.{Constructed}
use Rattle.construction.specs.declared.Question.{Question}
use Rattle.construction.specs.declared.Refusal.{Refusal}
use Rattle.construction.specs.declared.Refusal.TheVariants.{No, Unread}
use Rattle.construction.proofs.LayoutLaws.{words_count}
use Rattle.construction.proofs.BuildLaws.{room-asked}
use Rattle.decision.specs.Verdict.{Verdict, verdict}
use Rattle.decision.specs.Contract.{Answer, says, Decided, Searched}
use Rattle.decision.specs.declared.Verdict.TheVariants.{Satisfiable, Unsatisfiable}
use Rattle.decision.proofs.Bounds.{AnswerSized, Bounded, verdict_bounded, decided_bounded}
use Rattle.decision.proofs.SearchLaws.{search-either}
use Rattle.safety.specs.Contract as safe
use Rattle.safety.specs.declared.Verdict as safe-code
use Rattle.safety.specs.declared.Verdict.TheVariants as safety
use Rattle.safety.specs.declared.Refusal as safe-refusal
use Rattle.safety.specs.declared.Refusal.TheVariants as safety-refusal
use Rattle.safety.proofs.Bounds as safe-bounds
use Rattle.yuktrob_c.specs.Numbers.{Letters16, ConstructionFits, VerdictFits, SafetyFits}

pub small : {N M stem cycle K P : ℕ} → AnswerSized N M stem cycle K P → Letters16 stem cycle K P
small s =
    let c = s.capacity in
    record {
      stem_fits = omega (arith, s.stem-few, c.few_nodes);
      cycle_fits = omega (arith, s.cycle-few, c.few_profiles);
      nodes_fit = omega (arith, s.nodes-few, c.few_nodes);
      profiles_fit = omega (arith, s.profiles-few, c.few_profiles);
    }

bounded_fits : (N M : ℕ) (r : Answer) → Bounded N M r → VerdictFits r
bounded_fits N M (Ok (Satisfiable stem cycle K P)) s = small s
bounded_fits N M (Ok (Unsatisfiable K P)) s = small s
bounded_fits N M (Err (No q)) h = tt
bounded_fits N M (Err (Unread why)) (h, k) = k

pub decided-fits : {bytes : List ℕ} {N M : ℕ} {w w' b b' : List ℕ} {r : Answer} → Decided bytes N M w w' b b' r → VerdictFits r
decided-fits {N} {M} {r} d = bounded_fits N M r (decided_bounded d)

pub searched-fits : {bytes : List ℕ} {K N M : ℕ} {w w' b b' : List ℕ} {r : Answer} → Searched bytes K N M w w' b b' r → VerdictFits r
searched-fits {bytes} {K} {N} {M} {w} {b = b} s =
    subst⁻¹ VerdictFits s.answered
    (elim (search-either K N M w (length b) bytes) [
      | inl e ↦
          subst⁻¹ (λ (o : Verdict). VerdictFits (says o)) e
          (bounded_fits N M (says (verdict N M (length w) (length b) bytes)) (verdict_bounded N M (length w) (length b) bytes))
      | inr e ↦ subst⁻¹ (λ (o : Verdict). VerdictFits (says o)) e tt
    ])

-- building
room_fits : (N workspace : ℕ) (t : Table) → ConstructionFits (built.says (ask_room N workspace t))
room_fits N workspace t =
    fits (λ r. fits (λ _. fits (λ few o e.
    subst⁻¹ (λ (o : Construction). ConstructionFits (built.says o)) e (omega (arith, words_count t, few, r.1)))))
    (ask_room N workspace t) (room-asked N workspace t)
  where
    fits : {Yes : Type 0} {q : Question} {After : Construction → Type 0}
        → (Yes → (o : Construction) → After o → ConstructionFits (built.says o))
        → (o : Construction) → Asked Yes (Construction.refused q) After o → ConstructionFits (built.says o)
    fits f = every_outcome (λ (o : Construction). ConstructionFits (built.says o)) tt f

pub constructed_fits : {bytes : List ℕ} {N : ℕ} {w w' : List ℕ} {a : Result ℕ Refusal} → Constructed bytes N w w' a
    → ConstructionFits a
unfolding construction
constructed_fits {bytes} {N} {w} c = subst⁻¹ ConstructionFits c.answered (by (parse bytes) refl)
  where
    by : (r : Reading Formula) → parse bytes ≡ r → ConstructionFits (built.says (after_reading N (length w) r))
    by (Reading.refused why) e = parse-early bytes why e
    by (Reading.accepted f) e = room_fits N (length w) (table f)

-- the safety decision
safe_fits : (N : ℕ) (v : Result safe-code.Verdict safe-refusal.Refusal) → safe-bounds.Bounded N v → SafetyFits v
safe_fits N (Ok (safety.Satisfiable stem cycle K)) (s, k) = record {
  stem_fits = omega (arith, s.nodes-few, s.together, s.cycle-some);
  cycle_fits = omega (arith, s.nodes-few, s.together);
  nodes_fit = s.nodes-few;
  profiles_fit = omega arith;
}
safe_fits N (Ok (safety.Unsatisfiable K)) (h, k) = record {
  stem_fits = omega arith;
  cycle_fits = omega arith;
  nodes_fit = h;
  profiles_fit = omega arith;
}
safe_fits N (Err (safety-refusal.No q)) h = tt
safe_fits N (Err (safety-refusal.LeastAt place)) h = omega arith
safe_fits N (Err (safety-refusal.Unread why)) h = h

pub safety_fits : {bytes : List ℕ} {N : ℕ} {w w' b b' : List ℕ} {v : Result safe-code.Verdict safe-refusal.Refusal}
    → safe.Decided bytes N w w' b b' v → SafetyFits v
safety_fits {N = N} {v = v} d = safe_fits N v (safe-bounds.decided_bounded d)
