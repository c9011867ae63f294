-- The decision is the two in a row: build, and search over what building left. With the questions 11 to 13 asked first, as the decision
-- asks them, both come to the same verdict for every input (`pair_is_decision`); and of two calls, one after the other, the answer and the
-- buffer are the decision's, and so is the workspace once what the two left in it is cleared away (`two_in_a_row`). Question 36 never
-- refuses in between, as it accepts what building leaves. Assumes nothing.
use Rattle.std.proofs.Common.{◌≡◌, refl, sym, ap, subst, ◌∙◌, List, ◌++◌, append_assoc, ℕ, ◌+◌, ◌≤◌, arith, length, take, drop}
use Rattle.std.proofs.Common.{length-append, length-take, length-drop, Result, Ok, Err, drop_at, drop-drop}
use Rattle.std.proofs.Math.ListN.{length-replicate, replicate-append-replicate}
use Rattle.std.proofs.Math.Path.{subst⁻¹}
use Rattle.std.proofs.Math.Seq.{drop-append-add}
use Rattle.base.proofs.AskLaws.{Asked, first_refusal, passed}
use Rattle.formula.specs.Formula.{Formula}
use Rattle.formula.specs.Table.{Table, table}
use Rattle.formula.specs.Reading.{Reading, parse}
use Rattle.formula.specs.declared.Refusal.{Refusal}
use Rattle.tableau.specs.Area.{zeros}
use Rattle.tableau.specs.Area as area
use Rattle.construction.specs.Construction.{Construction, node_count, node_words, nodes_size, laid_out, ask_room, construction}
use Rattle.construction.specs.Construction as building
use Rattle.construction.specs.Contract as built
use Rattle.construction.specs.Contract.{Constructed}
use Rattle.construction.specs.declared.Refusal as code
use Rattle.construction.specs.declared.Refusal.TheVariants.{Unread, No}
use Rattle.construction.proofs.LayoutLaws.{words_count, laid_length, cleared_front}
use Rattle.construction.proofs.BuildLaws.{room-asked}
use Rattle.construction.proofs.CheckLaws.{built-nodes}
use Rattle.construction.specs.declared.Question.TheVariants.{Nodes}
use Rattle.decision.specs.Verdict.{Verdict, decide, profiles_size, workspace_size, ask_capacities, after_reading, verdict}
use Rattle.decision.specs.Verdict.{search_verdict, search_built, pair_verdict}
use Rattle.decision.specs.Lends.{Lends}
use Rattle.decision.specs.Contract.{Answer, says, leaves, cleared, zeroed, emptied, kept, Decided, Searched}
use Rattle.decision.specs.Inner.{onward}
use Rattle.decision.proofs.VerdictLaws.{questions}
use Rattle.decision.proofs.Answer.{past_13}
use Rattle.decision.proofs.SettleLaws.{asked_of, from_14, onward_empties, decided_clears, unread-decided}
use Rattle.decision.proofs.SearchLaws.{asked-same, search_as_decision}

-- what building leaves is as long as it was
built-length : (N : ℕ) (w : List ℕ) (t : Table) → nodes_size N ≤ length w → node_count t ≤ N
    → length (built.leaves N (Construction.built (node_words t)) w) ≡ length w
built-length N w t room few =
    omega (
      arith,
      length-append (laid_out N (node_words t)) (drop (nodes_size N) w),
      laid_length N (node_words t) (omega (arith, words_count t)),
      length-drop (nodes_size N) w,
    )

-- Over a formula that was read, where 11 to 13 grant all.
module _ (N M : ℕ) (w : List ℕ) (buffer : ℕ) (bytes : List ℕ) (f : Formula) (p : parse bytes ≡ Reading.accepted f)
    (l : Lends N M (length w) buffer) where
  abbrev t : Table
  t = table f

  abbrev left : List ℕ
  left = built.leaves N (Construction.built (node_words t)) w

  fits-room : nodes_size N ≤ length w
  fits-room = omega (arith, l.workspace_fits)

  builds : construction N (length w) bytes ≡ ask_room N (length w) t
  unfolding construction
  builds = ap (building.after_reading N (length w)) p

  from-room : Asked (node_count t ≤ N) (Construction.refused Nodes) (λ o. o ≡ Construction.built (node_words t)) (ask_room N (length w) t)
  from-room = passed (passed (room-asked N (length w) t) (l.capacity.some_nodes, l.capacity.few_nodes)) fits-room

  -- Question 36 accepts what building left, so the search over it is the decision.
  search-left : node_count t ≤ N → search_verdict (length (node_words t)) N M left buffer bytes ≡ verdict N M (length w) buffer bytes
  search-left few =
      search_as_decision (length (node_words t)) N M left buffer bytes f p (built-nodes N w t few)
      ∙ ap (λ (n : ℕ). verdict N M n buffer bytes) (built-length N w t fits-room few)

  verdict-is : verdict N M (length w) buffer bytes ≡ decide N M t
  unfolding verdict
  verdict-is =
      ap (after_reading (questions N M (length w) buffer)) p ∙ past_13 (asked_of N M (length w) buffer (decide N M t)) l

  pair-decide : pair_verdict N M w buffer bytes ≡ decide N M t
  pair-decide = ap (search_built N M w buffer bytes) builds ∙ by from-room
    where
      by : {o : Construction} → Asked (node_count t ≤ N) (Construction.refused Nodes) (λ o. o ≡ Construction.built (node_words t)) o
          → search_built N M w buffer bytes o ≡ decide N M t
      by (Asked.answered-no n) = sym (first_refusal (from_14 N M t) n)
      by (Asked.answered-yes few e) = ap (search_built N M w buffer bytes) e ∙ search-left few ∙ verdict-is

-- Theorem: building and then searching, the questions in the decision's order, is the decision.
pub pair_is_decision : (N M : ℕ) (w : List ℕ) (buffer : ℕ) (bytes : List ℕ)
    → after_reading (λ (t : Table). ask_capacities N M (length w) buffer (pair_verdict N M w buffer bytes)) (parse bytes)
    ≡ verdict N M (length w) buffer bytes
unfolding verdict
pair_is_decision N M w buffer bytes = by (parse bytes) refl
  where
    pair : Verdict
    pair = pair_verdict N M w buffer bytes

    by : (r : Reading Formula) → parse bytes ≡ r
        → after_reading (λ (t : Table). ask_capacities N M (length w) buffer pair) r ≡ after_reading (questions N M (length w) buffer) r
    by (Reading.refused why) e = refl
    by (Reading.accepted f) e =
        asked-same N M (length w) buffer pair (decide N M (table f)) (pair-decide N M w buffer bytes f e)

-- behind the first 8 N bytes it is as it was, whatever takes their place
behind_front : (x w : List ℕ) (N : ℕ) → length x ≡ nodes_size N → (n : ℕ)
    → drop (nodes_size N + n) (x ++ drop (nodes_size N) w) ≡ drop (nodes_size N + n) w
behind_front x w N e n =
    ap (λ (k : ℕ). drop (k + n) (x ++ drop (nodes_size N) w)) (sym e)
    ∙ drop-append-add x (drop (nodes_size N) w) n
    ∙ drop-drop n (nodes_size N) w

-- What is left of the two, the nodes cleared away, are zeros over what there was.
module _ (N M : ℕ) (w : List ℕ) (t : Table) (room : nodes_size N ≤ length w) (few : node_count t ≤ N) where
  abbrev with_nodes : List ℕ
  with_nodes = built.leaves N (Construction.built (node_words t)) w

  emptied-zeroed : area.cleared 0 (nodes_size N) (emptied N M with_nodes) ≡ zeroed N M w
  emptied-zeroed =
      cleared_front (nodes_size N) (emptied N M with_nodes)
      ∙ ap (λ (l : List ℕ). zeros (nodes_size N) ++ l) (drop_at (take (nodes_size N) with_nodes) _ (nodes_size N) front)
      ∙ sym (append_assoc (zeros (nodes_size N)) (zeros (profiles_size M)) (drop (workspace_size N M) with_nodes))
      ∙ ap (λ (l : List ℕ). l ++ drop (workspace_size N M) with_nodes)
      (replicate-append-replicate {A = ℕ} (nodes_size N) (profiles_size M) 0)
      ∙ ap (λ (l : List ℕ). zeros (workspace_size N M) ++ l)
      (behind_front (laid_out N (node_words t)) w N (laid_length N (node_words t) (omega (arith, words_count t))) (profiles_size M))
    where
      front : length (take (nodes_size N) with_nodes) ≡ nodes_size N
      front = omega (arith, length-take (nodes_size N) with_nodes, built-length N w t room few)

-- Of two calls, one after the other, where 11 to 13 grant all.
module _ (bytes : List ℕ) (N M : ℕ) (w b : List ℕ) (l : Lends N M (length w) (length b)) where
  -- the decision's promise, of what comes to its verdict
  promised : (f : Formula) (p : parse bytes ≡ Reading.accepted f) {v : Verdict} {w' b' : List ℕ} {r : Answer}
      → decide N M (table f) ≡ v → r ≡ says v → b' ≡ leaves v b → w' ≡ zeroed N M w → Decided bytes N M w w' b b' r
  promised f p e a c z =
      let q = verdict-is N M w (length b) bytes f p l in
      record {
        answered = a ∙ sym (ap says (q ∙ e));
        buffered = c ∙ sym (ap (λ (v : Verdict). leaves v b) (q ∙ e));
        worked = z ∙ sym (ap (λ (v : Verdict). cleared N M v w) q ∙ decided_clears N M (table f) w);
      }

  -- what building comes to here
  data Made : Construction → Type 0 where
    not_read : {why : Refusal} → parse bytes ≡ Reading.refused why → Made (Construction.unread why)
    too_many : (f : Formula) → parse bytes ≡ Reading.accepted f → (node_count (table f) ≤ N → ⊥) → Made (Construction.refused Nodes)
    nodes-left : (f : Formula) → parse bytes ≡ Reading.accepted f → node_count (table f) ≤ N
        → Made (Construction.built (node_words (table f)))

  made_cases : Made (construction N (length w) bytes)
  unfolding construction
  made_cases = by (parse bytes) refl
    where
      asked-room : (f : Formula) → parse bytes ≡ Reading.accepted f → {o : Construction}
          → Asked (node_count (table f) ≤ N) (Construction.refused Nodes) (λ o. o ≡ Construction.built (node_words (table f))) o → Made o
      asked-room f p (Asked.answered-no n) = Made.too_many f p n
      asked-room f p (Asked.answered-yes few e) = subst⁻¹ Made e (Made.nodes-left f p few)

      by : (x : Reading Formula) → parse bytes ≡ x → Made (building.after_reading N (length w) x)
      by (Reading.refused why) e = Made.not_read e
      by (Reading.accepted f) e = asked-room f e (from-room N M w (length b) bytes f e l)

  -- What a call of building leaves to be done, by its answer, so that it is the decision: nothing where the bytes are not read; after 14
  -- the rest of the bytes is cleared; after K nodes comes a search, whatever it answers, and the nodes are cleared.
  abbrev pub InARow : Result ℕ code.Refusal → (left : List ℕ) → Type 0
  InARow (Err (Unread why)) w₁ = Decided bytes N M w w₁ b b (Err (Unread why))
  InARow (Err (No q)) w₁ = Decided bytes N M w (area.cleared 0 (workspace_size N M) w₁) b b (Err (No q))
  InARow (Ok K) w₁ =
      (w₂ b₂ : List ℕ) (r : Answer) → Searched bytes K N M w₁ w₂ b b₂ r
      → Decided bytes N M w (area.cleared 0 (nodes_size N) w₂) b b₂ r

  searched-on : (f : Formula) (p : parse bytes ≡ Reading.accepted f) → node_count (table f) ≤ N
      → InARow (Ok (length (node_words (table f)))) (built.leaves N (Construction.built (node_words (table f))) w)
  searched-on f p few w₂ b₂ r s =
      promised f p (passed (from_14 N M t) few) (s.answered ∙ ap says on) (s.buffered ∙ ap (λ (v : Verdict). leaves v b) on)
      (ap (area.cleared 0 (nodes_size N)) (s.worked ∙ ap (λ (v : Verdict). kept N M v left) on ∙ onward_empties M t N left)
      ∙ emptied-zeroed N M w t (omega (arith, l.workspace_fits)) few)
    where
      t : Table
      t = table f

      left : List ℕ
      left = built.leaves N (Construction.built (node_words t)) w

      on : search_verdict (length (node_words t)) N M left (length b) bytes ≡ onward M t
      on =
          search-left N M w (length b) bytes f p l few ∙ verdict-is N M w (length b) bytes f p l ∙ passed (from_14 N M t) few

  -- Theorem: a call of building, and what its answer leaves to be done, are the decision.
  pub two_in_a_row : {w₁ : List ℕ} {a : Result ℕ code.Refusal} → Constructed bytes N w w₁ a → InARow a w₁
  two_in_a_row c =
      subst⁻¹ (λ (x : Result ℕ code.Refusal × List ℕ). InARow x.0 x.1) (λ i. (c.answered i, c.worked i)) (each made_cases)
    where
      emptied_front : List ℕ
      emptied_front = zeros (nodes_size N) ++ drop (nodes_size N) w

      zeroed_rest : area.cleared 0 (workspace_size N M) emptied_front ≡ zeroed N M w
      zeroed_rest =
          cleared_front (workspace_size N M) emptied_front
          ∙ ap (λ (l : List ℕ). zeros (workspace_size N M) ++ l)
          (behind_front (zeros (nodes_size N)) w N (length-replicate {A = ℕ} (nodes_size N) 0) (profiles_size M))

      each : {o : Construction} → Made o → InARow (built.says o) (built.leaves N o w)
      each (Made.not_read p) = unread-decided bytes N M w b p
      each (Made.too_many f p n) =
          promised f p (first_refusal (from_14 N M (table f)) n) refl refl zeroed_rest
      each (Made.nodes-left f p few) = searched-on f p few

  -- the same by what building answered
  pub in_a_row : {w₁ : List ℕ} {a x : Result ℕ code.Refusal} → Constructed bytes N w w₁ a → a ≡ x → InARow x w₁
  in_a_row {w₁} c e = subst (λ (x : Result ℕ code.Refusal). InARow x w₁) e (two_in_a_row c)
