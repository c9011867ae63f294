-- From the questions of the code to the promise: each of them is the definition's, what is left in the workspace is what MEANING 5.5 and
-- 5.12 say of the answer, and an answer over the table of the formula that was read is the promise of the decision or of the search.
-- Assumes nothing.
use Rattle.std.proofs.Common.{◌≡◌, refl, sym, ap, ◌∙◌, Bool, true, false, cond, List, ◌++◌, ℕ, ◌-◌, ◌≤◌, ◌<◌, arith, length, take}
use Rattle.std.proofs.Common.{drop, subst, Result, Ok, Err, ne_eqb}
use Rattle.std.proofs.Math.Option.{Option, none, some}
use Rattle.std.proofs.Math.Path.{subst⁻¹}
use Rattle.std.proofs.lemmas.Bool.{lt-leb}
use Rattle.base.specs.Ask.{ask}
use Rattle.base.specs.Search.{Item}
use Rattle.base.proofs.AskLaws.{Asked, asked_le, first_refusal, passed, every_outcome}
use Rattle.formula.specs.Table.{Table}
use Rattle.formula.specs.Reading.{Reading, parse, reading}
use Rattle.formula.specs.declared.Refusal.{Refusal}
use Rattle.formula.specs.declared.Table.{Table as Stored}
use Rattle.formula.specs.Rows.{reading_of}
use Rattle.formula.proofs.RowLaws.{HoldsFormula, reading-held}
use Rattle.tableau.specs.Transition.{Transition}
use Rattle.tableau.specs.Nodes.{nodes}
use Rattle.tableau.specs.Inner.{table_of}
use Rattle.tableau.specs.Area.{zeros}
use Rattle.tableau.specs.Area as area
use Rattle.traces.proofs.LimitLaws.{held-limited}
use Rattle.profile.specs.Profiles as literal
use Rattle.profile_search.specs.Stored.{BytesBetween}
use Rattle.construction.specs.Construction.{node_count, nodes_size, are_nodes}
use Rattle.construction.specs.Questions.{question_code}
use Rattle.construction.specs.declared.Question.{Question}
use Rattle.construction.specs.declared.Refusal.TheVariants.{Unread, No}
use Rattle.construction.proofs.LayoutLaws.{cleared_front}
use Rattle.construction.specs.declared.Question.TheVariants as question
use Rattle.decision.specs.Verdict.{Verdict, counted, conclude, decide, search, profiles_size, workspace_size}
use Rattle.decision.specs.Verdict.{ask_capacities, after_reading, verdict, search_verdict}
use Rattle.decision.specs.Lends.{Lends}
use Rattle.decision.specs.Contract.{Answer, says, leaves, zeroed, cleared, emptied, kept, Decided, Searched}
use Rattle.decision.specs.Inner.{Decoded, Answers, RefusedBy, CameTo, found_in, needed, concluded, onward}
use Rattle.decision.proofs.VerdictLaws.{From11, questions, search-questions, capacities_asked, onward-asked}
use Rattle.decision.proofs.Answer.{past_13}
use Rattle.decision.proofs.ChangeLaws.{front_same, back-same}

-- The answer to all questions after reading, and what it leaves in both areas.
pub record Settled (areas : Verdict → List ℕ → List ℕ) (v : Verdict) (workspace workspace' buffer buffer' : List ℕ) (r : Answer)
    : Type 0 where
  pub answers : Answers v buffer buffer' r
  pub worked : workspace' ≡ areas v workspace

-- an answer to a verdict is one to another that is the same
pub answers_as : {v o : Verdict} {before after : List ℕ} {r : Answer} → v ≡ o → Answers o before after r → Answers v before after r
answers_as {before = before} {after} {r} e a = subst⁻¹ (λ (x : Verdict). Answers x before after r) e a

pub answers-refused : {v : Verdict} {q : Question} → v ≡ Verdict.refused q → (l : List ℕ) → Answers v l l (Err (No q))
answers-refused e l = answers_as e (record { answered = refl; buffered = refl })

-- Question 15, and behind it.
module _ (M : ℕ) (t : Table) where
  from_15 : Asked (needed t ≤ M) (Verdict.refused question.Profiles) (λ o. o ≡ concluded t) (onward M t)
  from_15 = onward-asked M t (λ h. h) (λ h. h) refl

  pub answers_15 : M < needed t → (l : List ℕ) → Answers (onward M t) l l (Err (No question.Profiles))
  answers_15 h = answers-refused (first_refusal from_15 (λ k. omega arith))

  pub answers-on : {before after : List ℕ} {r : Answer} → needed t ≤ M → Answers (concluded t) before after r
      → Answers (onward M t) before after r
  answers-on h a = answers_as (passed from_15 h) a

  -- what is so of 15 and of every conclusion is so of it
  every_onward : (P : Verdict → Type 0) → P (Verdict.refused question.Profiles)
      → ((x : Option (Item Transition literal.Profile)) → P (conclude (nodes t) (counted x (literal.profiles t (nodes t))) x))
      → P (onward M t)
  every_onward P r f = every_outcome P r (λ _ o e. subst⁻¹ P e (f (found_in t))) (onward M t) from_15

  -- a search leaves the bytes behind the nodes empty, with 15 too
  pub onward_empties : (N : ℕ) (w : List ℕ) → kept N M (onward M t) w ≡ emptied N M w
  onward_empties N w = every_onward (λ o. kept N M o w ≡ emptied N M w) refl by
    where
      by : (x : Option (Item Transition literal.Profile))
          → kept N M (conclude (nodes t) (counted x (literal.profiles t (nodes t))) x) w ≡ emptied N M w
      by none = refl
      by (some x) = refl

  onward_clears : (N : ℕ) (w : List ℕ) → cleared N M (onward M t) w ≡ zeroed N M w
  onward_clears N w = every_onward (λ o. cleared N M o w ≡ zeroed N M w) refl by
    where
      by : (x : Option (Item Transition literal.Profile))
          → cleared N M (conclude (nodes t) (counted x (literal.profiles t (nodes t))) x) w ≡ zeroed N M w
      by none = refl
      by (some x) = refl

-- Question 14 of the decision, and what it leaves: zeros, whatever the answer.
module _ (N M : ℕ) (t : Table) where
  pub from_14 : Asked (node_count t ≤ N) (Verdict.refused question.Nodes) (λ o. o ≡ onward M t) (decide N M t)
  unfolding decide
  from_14 = asked_le (node_count t) N (onward M t) refl

  pub decided_clears : (w : List ℕ) → cleared N M (decide N M t) w ≡ zeroed N M w
  decided_clears w =
      every_outcome (λ o. cleared N M o w ≡ zeroed N M w) refl
      (λ _ o e. ap (λ (v : Verdict). cleared N M v w) e ∙ onward_clears M t N w) (decide N M t) from_14

-- Question 36 of a search.
module _ (K N M : ℕ) (w : List ℕ) (t : Table) {b : Bool} (is : b ≡ are_nodes K N w t) where
  pub search-on : b ≡ true → search K N M w t ≡ onward M t
  unfolding search
  search-on y = ap (λ (a : Bool). ask a (Verdict.refused question.Built) (onward M t)) (sym is ∙ y)

  pub search_36 : b ≡ false → search K N M w t ≡ Verdict.refused question.Built
  unfolding search
  search_36 n = ap (λ (a : Bool). ask a (Verdict.refused question.Built) (onward M t)) (sym is ∙ n)

-- The questions 11 to 13, as the code asks them.
module _ (N M workspace buffer : ℕ) where
  pub asked_of : (v : Verdict) → From11 N M workspace buffer (λ o. o ≡ v) (ask_capacities N M workspace buffer v)
  asked_of v = capacities_asked N M workspace buffer v refl

-- The same in front of any others.
module _ (areas : Verdict → List ℕ → List ℕ) {N M : ℕ} (workspace buffer : List ℕ) (v : Verdict) where
  pub settled-early : {q : Question} → RefusedBy N M (length workspace) (length buffer) q
      → areas (Verdict.refused q) workspace ≡ workspace
      → Settled areas (ask_capacities N M (length workspace) (length buffer) v) workspace workspace buffer buffer (Err (No q))
  settled-early g k =
      let e = g.refuses v in
      record { answers = answers-refused e buffer; worked = sym (ap (λ (o : Verdict). areas o workspace) e ∙ k) }

  pub settled_on : {workspace' buffer' : List ℕ} {r : Answer} → Lends N M (length workspace) (length buffer)
      → Answers v buffer buffer' r → workspace' ≡ areas v workspace
      → Settled areas (ask_capacities N M (length workspace) (length buffer) v) workspace workspace' buffer buffer' r
  settled_on l a w =
      let e : ask_capacities N M (length workspace) (length buffer) v ≡ v = past_13 (asked_of N M (length workspace) (length buffer) v) l in
      record { answers = answers_as e a; worked = w ∙ sym (ap (λ (o : Verdict). areas o workspace) e) }

-- what a refusal before 14 leaves
pub early_clears : (N M : ℕ) (q : Question) (w : List ℕ) → question_code q ≤ 13 → cleared N M (Verdict.refused q) w ≡ w
early_clears N M q w h = ap (λ (b : Bool). cond b (zeroed N M w) w) (lt-leb 14 (question_code q) (omega arith))

pub early-keeps : (N M : ℕ) (q : Question) (w : List ℕ) → question_code q ≤ 13 → kept N M (Verdict.refused q) w ≡ w
early-keeps N M q w h = ap (λ (b : Bool). cond b (emptied N M w) w) (ne_eqb (question_code q) 15 (λ e. omega (arith, e)))

-- the code's zeros, over an area that changed only there
pub zeroed-all : (N M : ℕ) {w area' w' : List ℕ} {bytes : ℕ} → BytesBetween 0 (workspace_size N M) w area' → bytes ≡ workspace_size N M
    → w' ≡ area.cleared 0 bytes area' → w' ≡ zeroed N M w
zeroed-all N M {area' = area'} {bytes = bytes} ch z e =
    e ∙ cleared_front bytes area'
    ∙ ap (λ (k : ℕ). zeros k ++ drop k area') z
    ∙ ap (λ (x : List ℕ). zeros (workspace_size N M) ++ x) (back-same ch)

pub emptied-all : (N M : ℕ) {w area' w' : List ℕ} {bytes : ℕ} → BytesBetween (nodes_size N) (workspace_size N M) w area'
    → bytes ≡ workspace_size N M → w' ≡ area.cleared (nodes_size N) bytes area' → w' ≡ emptied N M w
emptied-all N M {w} {area'} ch z e =
    e ∙ ap (λ (k : ℕ). take (nodes_size N) area' ++ (zeros (k - nodes_size N) ++ drop k area')) z
    ∙ ap (λ (k : ℕ). take (nodes_size N) area' ++ (zeros k ++ drop (workspace_size N M) area'))
    {x = workspace_size N M - nodes_size N} {y = profiles_size M} (omega arith)
    ∙ (λ i. front_same ch i ++ (zeros (profiles_size M) ++ back-same ch i))

-- a search that question 36 refuses
pub settled_36 : (K N M : ℕ) (t : Table) {w b : List ℕ} {c : Bool} → Lends N M (length w) (length b) → c ≡ are_nodes K N w t → c ≡ false
    → Settled (kept N M) (search-questions K N M w (length b) t) w w b b (Err (No question.Built))
settled_36 K N M t {w} {b} l is n =
    let e = search_36 K N M w t is n in
    settled_on (kept N M) w b (search K N M w t) l (answers-refused e b) (sym (ap (λ (v : Verdict). kept N M v w) e))

-- What came of the searches, with the zeros over it, is all that the questions come to.
module _ (N M : ℕ) (t : Table) {w area' w' b b' : List ℕ} {r : Answer} {bytes : ℕ} (lends : Lends N M (length w) (length b))
    (z : bytes ≡ workspace_size N M) where
  pub settled-decided : CameTo (decide N M t) 0 (workspace_size N M) w area' b b' r → w' ≡ area.cleared 0 bytes area'
      → Settled (cleared N M) (questions N M (length w) (length b) t) w w' b b' r
  settled-decided c e =
      settled_on (cleared N M) w b (decide N M t) lends c.answers
      (zeroed-all N M c.changed z e ∙ sym (decided_clears N M t w))

  pub settled_resumed : (K : ℕ) → search K N M w t ≡ onward M t
      → CameTo (onward M t) (nodes_size N) (workspace_size N M) w area' b b' r → w' ≡ area.cleared (nodes_size N) bytes area'
      → Settled (kept N M) (search-questions K N M w (length b) t) w w' b b' r
  settled_resumed K q c e =
      settled_on (kept N M) w b (search K N M w t) lends (answers_as q c.answers)
      (emptied-all N M c.changed z e ∙ sym (ap (λ (v : Verdict). kept N M v w) q ∙ onward_empties M t N w))

-- An answer over the table of what was read.
module _ (bytes : List ℕ) where
  after-unread : (on : Table → Verdict) {why : Refusal} → parse bytes ≡ Reading.refused why
      → after_reading on (parse bytes) ≡ Verdict.unread why
  after-unread on p = ap (after_reading on) p

  -- over the table that the code holds
  settled_read : (areas : Verdict → List ℕ → List ℕ) (on : Table → Verdict) {w w' b b' : List ℕ} {r : Answer} {t : Stored}
      → HoldsFormula bytes t → Settled areas (on (table_of t.rows t.count)) w w' b b' r
      → Settled areas (after_reading on (parse bytes)) w w' b b' r
  settled_read areas on {w} {w'} {b} {b'} {r} h s =
      subst⁻¹ (λ (v : Verdict). Settled areas v w w' b b' r) (ap (after_reading on) h.parsed ∙ ap on (sym h.operators)) s

  -- Theorem: settled over the table of the formula that was read, it is decided, or searched.
  module _ (N M : ℕ) {w w' b b' : List ℕ} where
    pub held-decided : {r : Answer} {t : Stored} → HoldsFormula bytes t
        → Settled (cleared N M) (questions N M (length w) (length b) (table_of t.rows t.count)) w w' b b' r
        → Decided bytes N M w w' b b' r
    unfolding verdict
    held-decided h s =
        let r = settled_read (cleared N M) (questions N M (length w) (length b)) h s in
        record { answered = r.answers.answered; buffered = r.answers.buffered; worked = r.worked }

    pub held-searched : (K : ℕ) {r : Answer} {t : Stored} → HoldsFormula bytes t
        → Settled (kept N M) (search-questions K N M w (length b) (table_of t.rows t.count)) w w' b b' r
        → Searched bytes K N M w w' b b' r
    unfolding search_verdict
    held-searched K h s =
        let r = settled_read (kept N M) (search-questions K N M w (length b)) h s in
        record { answered = r.answers.answered; buffered = r.answers.buffered; worked = r.worked }

  -- Theorem: a refusal of reading, passed on.
  module _ (N M : ℕ) (w b : List ℕ) {why : Refusal} (p : parse bytes ≡ Reading.refused why) where
    pub unread-decided : Decided bytes N M w w b b (Err (Unread why))
    unfolding verdict
    unread-decided =
        let e = after-unread (questions N M (length w) (length b)) p in
        record {
          answered = sym (ap says e);
          buffered = sym (ap (λ (v : Verdict). leaves v b) e);
          worked = sym (ap (λ (v : Verdict). cleared N M v w) e);
        }

    pub unread-searched : (K : ℕ) → Searched bytes K N M w w b b (Err (Unread why))
    unfolding search_verdict
    unread-searched K =
        let e = after-unread (search-questions K N M w (length b)) p in
        record {
          answered = sym (ap says e);
          buffered = sym (ap (λ (v : Verdict). leaves v b) e);
          worked = sym (ap (λ (v : Verdict). kept N M v w) e);
        }

-- the formula of the table that a reading answers with, where that table stands in another place
pub held_as : (bytes : List ℕ) (r : Result Stored Refusal) {t u : Stored} → reading_of r ≡ reading bytes → r ≡ Ok t → u ≡ t
    → HoldsFormula bytes u
held_as bytes r e a q = subst (HoldsFormula bytes) (sym q) (reading-held bytes r e a)

-- what the search is given
pub held-decoded : {bytes : List ℕ} {t : Stored} → HoldsFormula bytes t → Decoded t.rows t.count
held-decoded {bytes} h = record { bytes = bytes; formula = h.formula; parsed = h.parsed; is = h.operators; limited = held-limited h }
