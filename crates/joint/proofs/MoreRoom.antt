-- Theorem: a MET or NOT that is given is given with more room too, with the same numbers, witness and core (`more_room_jointly`). Each
-- decision that answered answers the same with more room, and behind an answer stand only such: so leaving out goes the same way. Assumes
-- nothing.
use mathlib.Core.Path.{◌≡◌, refl, sym, ap, subst⁻¹, ◌∙◌}
use mathlib.Core.Bool.{true}
use mathlib.Core.List.{List, [], ◌∷◌}
use Prim.Native.Nat.{ℕ, zero, suc, ◌+◌, ◌≤◌}
use lib.ListN.{length}
use borrow.Author.Tests.{le-leb}
use Rattle.base.specs.Ask.{ask}
use Rattle.formula.specs.Formula.{Formula}
use Rattle.formula.specs.Reading.{Reading}
use Rattle.construction.specs.Construction.{between}
use Rattle.decision.specs.Verdict.{Verdict, ask_room}
use Rattle.decision.specs.Lends.{Lends}
use Rattle.decision.proofs.Answer.{past_13}
use Rattle.decision.proofs.SettleLaws.{asked_of}
use Rattle.decision.proofs.Demands.{IsAnswer, more_room}
use Rattle.conjunction.specs.Conjunction.{conjoined, Accepted}
use Rattle.joint.specs.Joint.{Subset, chosen, max_formulas, everything, without, decided, Attempt, attempt_of, attempted, Shrunk}
use Rattle.joint.specs.Joint.{gone_on, shrink, Joint, with_core, settled, concluded, ask_read, asked, of_records, joint}
use Rattle.joint.specs.Inner.{check_on, checked}
use Rattle.std.specs.Prelude.{Ok}
use Rattle.joint.specs.Meaning.{HasFormulas}
use Rattle.joint.proofs.CheckLaws.{read_yes}
use Rattle.joint.proofs.ShrinkLaws.{lends-decided}
use Rattle.joint.proofs.ShrinkMeaning.{stuck_not_core}
use Rattle.joint.proofs.AskedLaws.{joint_of, granted, room-joint}
use Rattle.joint.proofs.Cases.{Cases, joint_cases}

-- MET or NOT
abbrev pub Answers : Joint → Type 0
Answers (Joint.damaged place) = ⊥
Answers Joint.miscounted = ⊥
Answers (Joint.unread position why) = ⊥
Answers (Joint.refused q) = ⊥
Answers (Joint.untried s why) = ⊥
Answers (Joint.satisfiable stem cycle K c letters) = Unit {0}
Answers (Joint.unsatisfiable K P core) = Unit {0}

-- ---- the outcome of formulas that are accepted, where the areas are large enough
accepted-checked : {bs : List (List ℕ)} {fs : List Formula} (i : ℕ) → Accepted bs fs → checked i bs ≡ Ok tt
accepted-checked i Accepted.none = refl
accepted-checked i (Accepted.more {bs = bs} e a) =
    ap (λ (r : Reading Formula). check_on i r (checked (i + 1) bs)) e ∙ accepted-checked (i + 1) a

joint-settled : (N M w b : ℕ) (catalogue : List ℕ) {bs : List (List ℕ)} {fs : List Formula} → HasFormulas catalogue bs → Accepted bs fs
    → Lends N M w b → joint N M w b catalogue ≡ concluded N M bs
unfolding joint
joint-settled N M w b catalogue {bs} h a l =
    ap (of_records N M w b catalogue) h.whole ∙ ap (asked N M w b) (sym h.bytes_are)
    ∙ ap (λ x. ask x Joint.miscounted (ask_read 0 bs room)) in_range
    ∙ read_yes 0 bs room (accepted-checked 0 a)
    ∙ room-joint N M w b (concluded N M bs)
    ∙ ap (joint_of (concluded N M bs)) (past_13 (asked_of N M w b granted) l)
  where
    room : Joint
    room = ask_room Joint.refused N M w b (concluded N M bs)

    in_range : between 1 max_formulas (length bs) ≡ true
    in_range = simp (le-leb 1 (length bs) h.some, le-leb (length bs) max_formulas h.few)

-- ---- leaving out, where what was known stays known
-- a subset was decided
abbrev Known : Attempt → Type 0
Known Attempt.met = Unit {0}
Known Attempt.unmet = Unit {0}
Known (Attempt.unknown why) = ⊥

module _ (try more : Subset → Attempt) (same : (u : Subset) → Known (try u) → more u ≡ try u) where
  shrink-more : (i : ℕ) (s : Subset) {t : Subset} → shrink try i s ≡ Shrunk.core t → shrink more i s ≡ Shrunk.core t
  shrink-more zero s e = e
  shrink-more (suc i) s {t} e =
      by (try (without s i)) refl e (same (without s i)) (shrink-more i s) (shrink-more i (without s i))
    where
      by : (a : Attempt) → try (without s i) ≡ a → gone_on (shrink try i) s (without s i) a ≡ Shrunk.core t
          → (Known (try (without s i)) → more (without s i) ≡ try (without s i))
          → (shrink try i s ≡ Shrunk.core t → shrink more i s ≡ Shrunk.core t)
          → (shrink try i (without s i) ≡ Shrunk.core t → shrink more i (without s i) ≡ Shrunk.core t)
          → shrink more (suc i) s ≡ Shrunk.core t
      by Attempt.met q e k f g =
          ap (gone_on (shrink more i) s (without s i)) (k (subst⁻¹ Known q tt) ∙ q) ∙ f e
      by Attempt.unmet q e k f g =
          ap (gone_on (shrink more i) s (without s i)) (k (subst⁻¹ Known q tt) ∙ q) ∙ g e
      by (Attempt.unknown why) q e k f g = absurd (stuck_not_core e)

-- ---- more room
module _ (N M w b N' M' w' b' : ℕ) (nodes-more : N ≤ N') (profiles-more : M ≤ M') (less : Lends N M w b) (lends : Lends N' M' w' b') where
  decided-more : (bytes : List ℕ) → IsAnswer (decided N M bytes) → decided N' M' bytes ≡ decided N M bytes
  decided-more bytes h =
      sym (lends-decided N' M' bytes lends)
      ∙ more_room N M w b N' M' w' b' nodes-more profiles-more lends bytes (subst⁻¹ IsAnswer (lends-decided N M bytes less) h)
      ∙ lends-decided N M bytes less

  known-answer : (v : Verdict) → Known (attempt_of v) → IsAnswer v
  known-answer (Verdict.unread why) h = h
  known-answer (Verdict.refused q) h = h
  known-answer (Verdict.satisfiable stem cycle K c letters) h = tt
  known-answer (Verdict.unsatisfiable K P) h = tt

  attempted-more : (cs : List (List ℕ)) → Known (attempted N M cs) → attempted N' M' cs ≡ attempted N M cs
  attempted-more [] h = refl
  attempted-more (c ∷ cs) h =
      ap attempt_of (decided-more (conjoined (c ∷ cs)) (known-answer (decided N M (conjoined (c ∷ cs))) h))

  module _ (bs : List (List ℕ)) where
    abbrev try : Subset → Attempt
    try s = attempted N M (chosen s bs)

    abbrev more : Subset → Attempt
    more s = attempted N' M' (chosen s bs)

    abbrev all : Subset
    all = everything (length bs)

    core-more : (K P : ℕ) (x : Shrunk) → shrink try (length bs) all ≡ x → Answers (with_core K P x)
        → with_core K P (shrink more (length bs) all) ≡ with_core K P x
    core-more K P (Shrunk.stuck t why) e h = absurd h
    core-more K P (Shrunk.core t) e h =
        ap (with_core K P) (shrink-more try more (λ u. attempted-more (chosen u bs)) (length bs) all e)

    settled-more : (v : Verdict) → decided N M (conjoined bs) ≡ v → Answers (settled N M bs v) → concluded N' M' bs ≡ settled N M bs v
    settled-more (Verdict.unread why) e h = absurd h
    settled-more (Verdict.refused q) e h = absurd h
    settled-more (Verdict.satisfiable stem cycle K c letters) e h =
        ap (settled N' M' bs) (decided-more (conjoined bs) (subst⁻¹ IsAnswer e tt) ∙ e)
    settled-more (Verdict.unsatisfiable K P) e h =
        ap (settled N' M' bs) (decided-more (conjoined bs) (subst⁻¹ IsAnswer e tt) ∙ e)
        ∙ core-more K P (shrink try (length bs) all) refl h

pub more_room_jointly : (N M w b N' M' w' b' : ℕ) (catalogue : List ℕ) → N ≤ N' → M ≤ M' → Lends N' M' w' b'
    → Answers (joint N M w b catalogue) → joint N' M' w' b' catalogue ≡ joint N M w b catalogue
more_room_jointly N M w b N' M' w' b' catalogue n m l h = by (joint_cases N M w b catalogue) h
  where
    by : {o : Joint} → Cases N M w b catalogue o → Answers o → joint N' M' w' b' catalogue ≡ o
    by (Cases.damaged e) h = absurd h
    by (Cases.miscounted m) h = absurd h
    by (Cases.unread x f) h = absurd h
    by (Cases.refused x a y z) h = absurd h
    by (Cases.settled bs x a less) h =
        joint-settled N' M' w' b' catalogue x a l
        ∙ settled-more N M w b N' M' w' b' n m less l bs (decided N M (conjoined bs)) refl h
