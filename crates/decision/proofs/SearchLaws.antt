-- What a search comes to. Where question 36 is answered by yes it is the decision (`search_as_decision`), so all that is proved of the
-- decision's verdict holds of the search's; where it is answered by no, and nothing before it refuses, it is 36 (`refused_36_exactly`), and
-- it is nothing else (`search-either`). A search leaves the nodes as they were, so another one finds them (`nodes-stay`). Assumes nothing.
use Rattle.std.proofs.Common.{◌≡◌, refl, sym, ap, subst, ◌∙◌, ◌↔◌, ◌⊎◌, inl, inr, Bool, true, false, cond, List, ℕ, ◌≤◌, arith, eqb}
use Rattle.std.proofs.Common.{length, take, length-take, take_at}
use Rattle.base.proofs.AskLaws.{Asked, first_refusal, passed}
use Rattle.formula.specs.Formula.{Formula}
use Rattle.formula.specs.Table.{Table, table}
use Rattle.formula.specs.Reading.{Reading, parse}
use Rattle.construction.specs.Construction.{nodes_size, are_nodes}
use Rattle.construction.specs.Questions.{question_code}
use Rattle.construction.proofs.CheckLaws.{HasNodes, nodes_exactly}
use Rattle.construction.specs.declared.Question.TheVariants.{Built}
use Rattle.decision.specs.Verdict.{Verdict, decide, search, ask_capacities, after_reading, verdict, search_verdict}
use Rattle.decision.specs.Lends.{Lends}
use Rattle.decision.specs.Contract.{Answer, says, emptied, kept, Searched}
use Rattle.decision.proofs.VerdictLaws.{From11, questions, search-questions}
use Rattle.decision.proofs.Answer.{past_13}
use Rattle.decision.proofs.Bounds.{Bounded, verdict_bounded}
use Rattle.decision.proofs.SettleLaws.{asked_of, from_14, search-on, search_36}

-- Behind the questions 11 to 13 it counts only what comes after them where they are all answered by yes.
module _ (N M workspace buffer : ℕ) where
  asked-either : (x y : Verdict) → (ask_capacities N M workspace buffer x ≡ ask_capacities N M workspace buffer y)
      ⊎ (Lends N M workspace buffer × (ask_capacities N M workspace buffer x ≡ x))
  asked-either x y = by (asked_of N M workspace buffer x)
    where
      of_y : From11 N M workspace buffer (λ o. o ≡ y) (ask_capacities N M workspace buffer y)
      of_y = asked_of N M workspace buffer y

      by : {o : Verdict} → From11 N M workspace buffer (λ o. o ≡ x) o
          → (o ≡ ask_capacities N M workspace buffer y) ⊎ (Lends N M workspace buffer × (o ≡ x))
      by (Asked.answered-no n) = inl (sym (first_refusal of_y n))
      by (Asked.answered-yes c (Asked.answered-no n)) = inl (sym (first_refusal (passed of_y c) n))
      by (Asked.answered-yes c (Asked.answered-yes w (Asked.answered-no n))) = inl (sym (first_refusal (passed (passed of_y c) w) n))
      by (Asked.answered-yes c (Asked.answered-yes w (Asked.answered-yes b e))) =
          inr (record { capacity = c; workspace_fits = w; buffer_fits = b }, e)

  pub asked-same : (x y : Verdict) → (Lends N M workspace buffer → x ≡ y)
      → ask_capacities N M workspace buffer x ≡ ask_capacities N M workspace buffer y
  asked-same x y h =
      elim (asked-either x y) [
        | inl e ↦ e
        | inr (l, e) ↦ e ∙ h l ∙ sym (past_13 (asked_of N M workspace buffer y) l)
      ]

module _ (K N M : ℕ) (w : List ℕ) (buffer : ℕ) (bytes : List ℕ) where
  abbrev searched : Verdict
  searched = search_verdict K N M w buffer bytes

  abbrev decided : Verdict
  decided = verdict N M (length w) buffer bytes

  -- over a formula that was read
  module _ (f : Formula) (p : parse bytes ≡ Reading.accepted f) where
    decided-is : decided ≡ questions N M (length w) buffer (table f)
    unfolding verdict
    decided-is = ap (after_reading (questions N M (length w) buffer)) p

    searched-is : searched ≡ search-questions K N M w buffer (table f)
    unfolding search_verdict
    searched-is = ap (after_reading (search-questions K N M w buffer)) p

    -- Theorem: over the formula's nodes a search is the decision, refusals and all.
    pub search_as_decision : HasNodes K N w (table f) → search_verdict K N M w buffer bytes ≡ verdict N M (length w) buffer bytes
    search_as_decision h =
        searched-is
        ∙ asked-same N M (length w) buffer (search K N M w (table f)) (decide N M (table f))
        (λ _. search-on K N M w (table f) refl ((nodes_exactly K N w (table f)).1 h) ∙ sym (passed (from_14 N M (table f)) h.fits))
        ∙ sym decided-is

    -- over anything else it is 36, unless 11 to 13 refuse as the decision does
    search-elsewhere : are_nodes K N w (table f) ≡ false → (searched ≡ decided) ⊎ (searched ≡ Verdict.refused Built)
    search-elsewhere n =
        elim (asked-either N M (length w) buffer (search K N M w (table f)) (decide N M (table f))) [
          | inl e ↦ inl (searched-is ∙ e ∙ sym decided-is)
          | inr (l, e) ↦ inr (searched-is ∙ e ∙ search_36 K N M w (table f) refl n)
        ]

  -- Theorem: it is the decision's verdict or 36.
  pub search-either : (search_verdict K N M w buffer bytes ≡ verdict N M (length w) buffer bytes)
      ⊎ (search_verdict K N M w buffer bytes ≡ Verdict.refused Built)
  unfolding verdict search_verdict
  search-either = by (parse bytes) refl
    where
      checked : (f : Formula) → parse bytes ≡ Reading.accepted f → (b : Bool) → are_nodes K N w (table f) ≡ b
          → (searched ≡ decided) ⊎ (searched ≡ Verdict.refused Built)
      checked f p true e = inl (search_as_decision f p ((nodes_exactly K N w (table f)).0 e))
      checked f p false e = search-elsewhere f p e

      by : (r : Reading Formula) → parse bytes ≡ r → (searched ≡ decided) ⊎ (searched ≡ Verdict.refused Built)
      by (Reading.refused why) e =
          inl (ap (after_reading (search-questions K N M w buffer)) e ∙ sym (ap (after_reading (questions N M (length w) buffer)) e))
      by (Reading.accepted f) e = checked f e (are_nodes K N w (table f)) refl

  -- the decision never answers 36
  not_36 : decided ≡ Verdict.refused Built → ⊥
  not_36 e =
      let h : 36 ≤ 15 = subst (λ (v : Verdict). Bounded N M (says v)) e (verdict_bounded N M (length w) buffer bytes) in
      omega arith

  -- Theorem: where 11 to 13 grant all, it is 36 exactly if K and the bytes are not the formula's.
  module _ (f : Formula) (p : parse bytes ≡ Reading.accepted f) (l : Lends N M (length w) buffer) where
    pub refused_36_exactly : (search_verdict K N M w buffer bytes ≡ Verdict.refused Built) ↔ (HasNodes K N w (table f) → ⊥)
    refused_36_exactly = (λ e h. not_36 (sym (search_as_decision f p h) ∙ e), λ n. by (are_nodes K N w (table f)) refl n)
      where
        by : (b : Bool) → are_nodes K N w (table f) ≡ b → (HasNodes K N w (table f) → ⊥) → searched ≡ Verdict.refused Built
        by true e n = absurd (n ((nodes_exactly K N w (table f)).0 e))
        by false e n =
            searched-is f p ∙ past_13 (asked_of N M (length w) buffer (search K N M w (table f))) l ∙ search_36 K N M w (table f) refl e

-- Theorem: a search leaves the bytes of the nodes as they were, whatever it answers; so the next one finds them.
module _ (N M : ℕ) (w : List ℕ) (room : nodes_size N ≤ length w) where
  emptied-keeps : take (nodes_size N) (emptied N M w) ≡ take (nodes_size N) w
  emptied-keeps = take_at (take (nodes_size N) w) _ (nodes_size N) (omega (arith, length-take (nodes_size N) w))

  kept_front : (v : Verdict) → take (nodes_size N) (kept N M v w) ≡ take (nodes_size N) w
  kept_front (Verdict.unread why) = refl
  kept_front (Verdict.refused q) = by (eqb (question_code q) 15)
    where
      by : (b : Bool) → take (nodes_size N) (cond b (emptied N M w) w) ≡ take (nodes_size N) w
      by true = emptied-keeps
      by false = refl
  kept_front (Verdict.satisfiable stem cycle K c letters) = emptied-keeps
  kept_front (Verdict.unsatisfiable K P) = emptied-keeps

  pub nodes-stay : {bytes w' b b' : List ℕ} {K : ℕ} {r : Answer} {t : Table} → Searched bytes K N M w w' b b' r
      → HasNodes K N w t → HasNodes K N w' t
  nodes-stay {bytes} {b = b} {K = K} s h =
      record {
        counted = h.counted;
        fits = h.fits;
        bytes_are = ap (take (nodes_size N)) s.worked ∙ kept_front (search_verdict K N M w (length b) bytes) ∙ h.bytes_are;
      }
