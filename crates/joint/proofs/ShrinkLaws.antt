-- What is known of a subset by deciding its conjunction, and what leaving out one formula after another comes to, as the code does both.
-- Where the questions 11 to 13 are answered by yes, the verdict is the decision without them (`lends-decided`); a decision leaves zeros as
-- they are (`clear_stays`). Between two positions the rest comes to what the whole comes to (`Shrinking`). Assumes nothing.
use mathlib.Core.Path.{◌≡◌, refl, sym, ap, subst, ◌∙◌}
use mathlib.Core.Bool.{Bool, true, false, cond}
use mathlib.Core.List.{List, [], ◌∷◌, ◌++◌}
use Prim.Native.Nat.{ℕ, suc, ◌-◌, ◌≤◌, ◌<◌}
use native.Mathlib.Omega.{arith}
use lib.Dec.{leb}
use lib.ListN.{length, drop, replicate, length-append, length-drop, length-replicate}
use lib.Seq.{drop_at}
use Rattle.base.specs.Bits.{word}
use Rattle.formula.specs.Formula.{Formula}
use Rattle.formula.specs.Table.{table}
use Rattle.formula.specs.Reading.{Reading, parse}
use Rattle.decision.specs.Verdict.{Verdict, workspace_size, decide, after_reading, verdict}
use Rattle.decision.specs.Lends.{Lends}
use Rattle.decision.specs.Contract.{Answer, says, zeroed, cleared, Decided}
use Rattle.construction.specs.Questions.{question_code}
use Rattle.joint.specs.declared.Refusal.TheVariants.{Untried}
use Rattle.decision.proofs.Answer.{past_13}
use Rattle.decision.proofs.SettleLaws.{asked_of}
use Rattle.decision.proofs.VerdictLaws.{questions}
use Rattle.conjunction.specs.Conjunction.{conjoined}
use Rattle.joint.specs.Joint.{Subset, everything, without, decided, Attempt, attempt_of, attempted, gone_on, shrink}
use Rattle.joint.specs.Inner.{Clear, attempt_told, attempt_said, shrunk_told}
use Rattle.std.specs.Prelude.{Option, Some, None, Ok, Err}

-- ---- the decision of some formulas
-- the promise with the workspace as it was found to be
pub decided_with : {bytes : List ℕ} {N M : ℕ} {w w₁ w₂ b b' : List ℕ} {r : Answer} → w₂ ≡ w₁ → Decided bytes N M w w₁ b b' r
    → Decided bytes N M w w₂ b b' r
decided_with e d = record { answered = d.answered; buffered = d.buffered; worked = e ∙ d.worked }

-- and of other bytes that are the same
pub decided_of : {x y : List ℕ} {N M : ℕ} {w w' b b' : List ℕ} {r : Answer} → x ≡ y → Decided x N M w w' b b' r
    → Decided y N M w w' b b' r
decided_of {N = N} {M} {w} {w'} {b} {b'} {r} e d = subst (λ (z : List ℕ). Decided z N M w w' b b' r) e d

-- areas that are as long
pub lends-same : {N M w w' b b' : ℕ} → w ≡ w' → b ≡ b' → Lends N M w b → Lends N M w' b'
lends-same e q l =
    record { capacity = l.capacity; workspace_fits = omega (arith, l.workspace_fits); buffer_fits = omega (arith, l.buffer_fits) }

-- and as large as a buffer of our own: the capacities are at most 1,024 and 4,096
pub lends_own : {N M w b : ℕ} → Lends N M w b → Lends N M w 5120
lends_own l =
    record {
      capacity = l.capacity;
      workspace_fits = l.workspace_fits;
      buffer_fits = omega (arith, l.capacity.few_nodes, l.capacity.few_profiles);
    }

pub zeroed-length : {N M b : ℕ} (w : List ℕ) → Lends N M (length w) b → length (zeroed N M w) ≡ length w
zeroed-length {N} {M} w l =
    omega (
      arith,
      l.workspace_fits,
      length-append (replicate (workspace_size N M) 0) (drop (workspace_size N M) w),
      length-replicate {A = ℕ} (workspace_size N M) 0,
      length-drop (workspace_size N M) w,
    )

pub zeroed_clear : (N M : ℕ) (w : List ℕ) → Clear N M (zeroed N M w)
zeroed_clear N M w =
    ap (λ (l : List ℕ). replicate (workspace_size N M) 0 ++ l)
    (drop_at (replicate (workspace_size N M) 0) (drop (workspace_size N M) w) (workspace_size N M)
    (length-replicate {A = ℕ} (workspace_size N M) 0))

pub lends-decided : (N M : ℕ) {w b : ℕ} (bytes : List ℕ) → Lends N M w b → verdict N M w b bytes ≡ decided N M bytes
unfolding verdict
lends-decided N M {w} {b} bytes l = by (parse bytes)
  where
    by : (r : Reading Formula) → after_reading (questions N M w b) r ≡ after_reading (decide N M) r
    by (Reading.refused why) = refl
    by (Reading.accepted f) = past_13 (asked_of N M w b (decide N M (table f))) l

attempt_same : (v : Verdict) → attempt_said (says v) ≡ attempt_told (attempt_of v)
attempt_same (Verdict.unread why) = refl
attempt_same (Verdict.refused q) = refl
attempt_same (Verdict.satisfiable stem cycle K c letters) = refl
attempt_same (Verdict.unsatisfiable K P) = refl

clear_stays : (N M : ℕ) (v : Verdict) {w : List ℕ} → Clear N M w → cleared N M v w ≡ w
clear_stays N M (Verdict.unread why) c = refl
clear_stays N M (Verdict.refused q) {w} c = by (leb 14 (question_code q))
  where
    by : (b : Bool) → cond b (zeroed N M w) w ≡ w
    by true = c
    by false = refl
clear_stays N M (Verdict.satisfiable stem cycle K n letters) c = c
clear_stays N M (Verdict.unsatisfiable K P) c = c

module _ (fs : List (List ℕ)) (N M : ℕ) {w w' b b' : List ℕ} {v : Answer} (l : Lends N M (length w) (length b))
    (d : Decided (conjoined fs) N M w w' b b' v) where
  -- the answer and the areas, by the decision without the questions 11 to 13
  pub decided-says : v ≡ says (decided N M (conjoined fs))
  decided-says = d.answered ∙ ap says (lends-decided N M (conjoined fs) l)

  pub attempted-said : {r : Option Bool} → (fs ≡ [] → ⊥) → r ≡ attempt_said v → r ≡ attempt_told (attempted N M fs)
  attempted-said some e = e ∙ ap attempt_said decided-says ∙ attempt_same (decided N M (conjoined fs)) ∙ by fs some
    where
      by : (gs : List (List ℕ)) → (gs ≡ [] → ⊥) → attempt_told (attempt_of (decided N M (conjoined gs))) ≡ attempt_told (attempted N M gs)
      by [] n = absurd (n refl)
      by (g ∷ gs) n = refl

  pub decided_stays : Clear N M w → w' ≡ w
  decided_stays c = d.worked ∙ clear_stays N M (verdict N M (length w) (length b) (conjoined fs)) c

pub attempted-none : (N M : ℕ) {fs : List (List ℕ)} → fs ≡ [] → Some true ≡ attempt_told (attempted N M fs)
attempted-none N M e = sym (ap (λ gs. attempt_told (attempted N M gs)) e)

-- ---- what the code's answers say
met_of : (x : Attempt) → attempt_told x ≡ Some true → x ≡ Attempt.met
met_of Attempt.met e = refl
met_of Attempt.unmet e = cc
met_of (Attempt.unknown why) e = cc

unmet_of : (x : Attempt) → attempt_told x ≡ Some false → x ≡ Attempt.unmet
unmet_of Attempt.met e = cc
unmet_of Attempt.unmet e = refl
unmet_of (Attempt.unknown why) e = cc

unknown_of : (x : Attempt) → attempt_told x ≡ None → (why : Verdict) × (x ≡ Attempt.unknown why)
unknown_of Attempt.met e = cc
unknown_of Attempt.unmet e = cc
unknown_of (Attempt.unknown why) e = (why, refl)

-- ---- from the last position to the first
module _ (try : Subset → Attempt) (n : ℕ) where
  pub record Shrinking (i : ℕ) (s : Subset) : Type 0 where
    pub is : shrink try i s ≡ shrink try n (everything n)

  pub shrinking_none : {s : Subset} → s ≡ everything n → Shrinking n s
  shrinking_none e = record { is = ap (shrink try n) e }

  module _ {i : ℕ} {s t : Subset} {a : Option Bool} (h : Shrinking i s) (some : 0 < i) (left : t ≡ without s (i - 1))
      (tried : a ≡ attempt_told (try t)) where
    turn : {x : Attempt} → try t ≡ x → gone_on (shrink try (i - 1)) s t x ≡ shrink try n (everything n)
    turn e =
        ap (gone_on (shrink try (i - 1)) s t) (sym e)
        ∙ ap (λ (u : Subset). gone_on (shrink try (i - 1)) s u (try u)) left
        ∙ ap (λ (k : ℕ). shrink try k s) {x = suc (i - 1)} {y = i} (omega arith)
        ∙ h.is

    pub shrinking_met : a ≡ Some true → Shrinking (i - 1) s
    shrinking_met e = record { is = turn (met_of (try t) (sym tried ∙ e)) }

    pub shrinking_unmet : a ≡ Some false → Shrinking (i - 1) t
    shrinking_unmet e = record { is = turn (unmet_of (try t) (sym tried ∙ e)) }

    pub shrinking_stuck : a ≡ None → {r : ℕ} → r ≡ word t
        → Err (Untried r) ≡ shrunk_told (shrink try n (everything n))
    shrinking_stuck e q =
        ap (λ (n : ℕ). Err (Untried n)) q ∙ ap shrunk_told (turn (unknown_of (try t) (sym tried ∙ e)).1)

  pub shrinking_core : {i : ℕ} {s : Subset} → Shrinking i s → i ≤ 0 → {r : ℕ} → r ≡ word s
      → Ok r ≡ shrunk_told (shrink try n (everything n))
  shrinking_core {i} {s} h z q =
      ap Ok q ∙ ap (λ (k : ℕ). shrunk_told (shrink try k s)) {x = 0} {y = i} (omega arith) ∙ ap shrunk_told h.is
