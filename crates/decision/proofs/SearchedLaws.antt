-- The nodes and then the profiles in the workspace: what the searches promise, put together. The nodes stand at the beginning of the
-- workspace, found from the root or left there by building, and the store of profiles behind them; the search for an accepting cycle
-- changes the store alone. Assumes nothing.
use Rattle.std.proofs.Common.{◌≡◌, refl, sym, ap, subst, ◌∙◌, Bool, true, List, [], ◌++◌, map, ℕ, ◌+◌, ◌*◌, ◌-◌, ◌≤◌, ◌<◌, arith, length}
use Rattle.std.proofs.Common.{length-append, length-take, length-drop, get_or, take, drop, get_or-append-add, get_or-drop, Option, Err}
use mathlib.Core.List.{Memᴰ}
use Rattle.base.specs.Lists.{flat_map}
use Rattle.base.specs.Bits.{word}
use Rattle.base.proofs.At.{at_lt, at_of}
use Rattle.base.proofs.AskLaws.{first_refusal, passed}
use Rattle.formula.specs.Table.{Table}
use Rattle.tableau.specs.Saturation.{Subset}
use Rattle.tableau.specs.Transition.{Transition, transitions}
use Rattle.tableau.specs.Inner.{table_of, Formed}
use Rattle.tableau.specs.Area.{bytes8, words_at, NodesHeld, reachable, SubsetsSized}
use Rattle.tableau.specs.Origins.{Origins}
use Rattle.tableau.proofs.NodeLaws.{nodes-first}
use Rattle.tableau.proofs.LoopLaws.{table-length}
use Rattle.tableau.proofs.AreaLaws.{stored-length}
use Rattle.tableau.proofs.NodeReads.{reachable-sized, WordsKept, nodes-kept}
use Rattle.construction.specs.Construction.{nodes_size, are_nodes}
use Rattle.construction.proofs.LayoutLaws.{reachable-count, held-many, held-count}
use Rattle.construction.proofs.CheckLaws.{nodes_exactly, has_words}
use Rattle.profile_tables.specs.Runs.{number_of, singles, accepting}
use Rattle.profile_tables.proofs.NodeNumbers.{leads_in}
use Rattle.traces.specs.Inner.{RanksOf}
use Rattle.traces.specs.declared.Ranks.{Ranks}
use Rattle.profile_search.specs.Stored.{record_start, StoreFits, BytesBetween}
use Rattle.profile_search.specs.Singles.{SearchInput, node_in, nodes_in}
use Rattle.profile_search.specs.declared.placed.Store.{Store}
use Rattle.profile_search.proofs.SingleLaws.{nodes_in_are, node_in_are, node-sets}
use Rattle.cycle_search.specs.Layers.{ComesTo}
use Rattle.cycle_search.specs.declared.Sought.{Sought}
use Rattle.witness.specs.Letters.{over}
use Rattle.construction.specs.declared.Question.TheVariants.{Nodes}
use Rattle.decision.specs.Verdict.{decide, workspace_size}
use Rattle.decision.specs.Lends.{Lends}
use Rattle.decision.specs.Inner.{Decoded, StorePlaced, Profiled, Ready, Told, onward, NodesReady, CameTo}
use Rattle.decision.specs.Contract.{Answer}
use Rattle.construction.specs.declared.Refusal.TheVariants.{No}
use Rattle.decision.proofs.ChangeLaws.{change_wider, change_twice}
use Rattle.decision.proofs.ConcludeLaws.{told-ready, told-answers}
use Rattle.decision.proofs.SettleLaws.{answers_as, answers-refused, from_14}

-- A list written over the beginning of another.
module _ (g a : List ℕ) (h : length g ≤ length a) where
  over-length : length (over g a) ≡ length a
  over-length = omega (arith, length-append g (drop (length g) a), length-drop (length g) a)

  over-beyond : (i : ℕ) → length g ≤ i → get_or (over g a) i 0 ≡ get_or a i 0
  over-beyond i l =
      let j = i - length g in
      ap (λ (k : ℕ). get_or (over g a) k 0) {x = i} {y = length g + j} (omega arith)
      ∙ get_or-append-add g (drop (length g) a) j 0
      ∙ get_or-drop (length g) a j 0
      ∙ ap (λ (k : ℕ). get_or a k 0) {x = length g + j} {y = i} (omega arith)

-- The nodes, as the search from the root leaves them.
module _ {rows : List ℕ} {count : ℕ} (formed : Formed rows count) (d : Decoded rows count) {N M buffer : ℕ} {a : List ℕ}
    (lends : Lends N M (length a) buffer) {known : ℕ} {area : List ℕ} (held : NodesHeld N known a area (reachable (table_of rows count)))
  where
    abbrev t : Table
    t = table_of rows count

    abbrev laid : List ℕ
    laid = flat_map bytes8 (take N (map word (reachable t)))

    laid_few : length laid ≤ nodes_size N
    laid_few = omega (arith, stored-length (take N (map word (reachable t))), length-take N (map word (reachable t)))

    area_is : area ≡ over laid a
    area_is =
        held.area_is ∙ ap (λ (k : ℕ). laid ++ drop k a) (sym (stored-length (take N (map word (reachable t)))))

    nodes-between : BytesBetween 0 (workspace_size N M) a area
    nodes-between =
        record {
          same_length = ap length area_is ∙ over-length laid a (omega (arith, laid_few, lends.workspace_fits));
          below = λ i h. absurd (omega arith);
          beyond = λ i h.
              ap (λ (l : List ℕ). get_or l i 0) area_is
              ∙ over-beyond laid a (omega (arith, laid_few, lends.workspace_fits)) i (omega (arith, laid_few));
        }

    -- Theorem: without room for them the answer is 14;
    pub nodes_14 : N < known → (letters : List ℕ)
        → CameTo (decide N M t) 0 (workspace_size N M) a area letters letters (Err (No Nodes))
    nodes_14 h letters =
        record {
          answers = answers-refused (first_refusal (from_14 N M t) (λ k. omega (arith, held-many t held h))) letters;
          changed = nodes-between;
        }

    -- with room, a search can go on from them,
    pub nodes-ready : {origins : List ℕ} → known ≤ N → Origins t origins known → 2 * N ≤ length origins
        → NodesReady rows count N M known origins area buffer
    nodes-ready h notes room =
        record {
          decoded = d;
          lends =
              record {
                capacity = lends.capacity;
                workspace_fits = omega (arith, lends.workspace_fits, nodes-between.same_length);
                buffer_fits = lends.buffer_fits;
              };
          nodes_are = held-count t held h;
          fits = h;
          words_are =
              ap (words_at area 0) (held-count t held h ∙ sym (reachable-count t)) ∙ (nodes-kept formed held h).words;
          notes_are = notes;
          notes_room = room;
        }

    -- and what it comes to is the answer.
    pub root-on : {area' before after : List ℕ} {r : Answer} → known ≤ N
        → CameTo (onward M t) (nodes_size N) (workspace_size N M) area area' before after r
        → CameTo (decide N M t) 0 (workspace_size N M) a area' before after r
    root-on h c =
        record {
          answers = answers_as (passed (from_14 N M t) (omega (arith, held-count t held h))) c.answers;
          changed = change_twice nodes-between (change_wider c.changed 0 (workspace_size N M) (omega arith) (omega arith));
        }

-- Theorem: a search can go on from nodes of which question 36 says that they are the table's.
pub checked-ready : {rows : List ℕ} {count N M buffer K : ℕ} {origins area : List ℕ} → Formed rows count → Decoded rows count
    → Lends N M (length area) buffer → {b : Bool} → b ≡ are_nodes K N area (table_of rows count) → b ≡ true → Origins (table_of rows count) origins K
    → 2 * N ≤ length origins → NodesReady rows count N M K origins area buffer
checked-ready {rows} {count} {N} {K = K} {area = area} formed d lends is passes notes room =
    let has = (nodes_exactly K N area (table_of rows count)).0 (sym is ∙ passes) in
    record {
      decoded = d;
      lends = lends;
      nodes_are = has.counted;
      fits = omega (arith, has.counted, has.fits);
      words_are = has_words formed has;
      notes_are = notes;
      notes_room = room;
    }

-- The nodes are there, and the store s stands behind them.
pub record StoreBehind (rows : List ℕ) (count N M K : ℕ) (origins area : List ℕ) (buffer : ℕ) (r : Ranks) (s : Store) : Type 0 where
  pub ready : NodesReady rows count N M K origins area buffer
  pub ranks : RanksOf rows count r
  pub store_is : StorePlaced N M r.nexts s

module _ {rows : List ℕ} {count N M K : ℕ} {origins area : List ℕ} {buffer : ℕ} {r : Ranks} {s : Store}
    (b : StoreBehind rows count N M K origins area buffer r s) where
  abbrev table' : Table
  table' = table_of rows count

  abbrev lent : Lends N M (length area) buffer
  lent = b.ready.lends

  count_is : K ≡ length (reachable table')
  count_is = b.ready.nodes_are ∙ sym (reachable-count table')

  sized : SubsetsSized count (reachable table')
  sized u m = reachable-sized table' u m ∙ table-length rows count

  kept : WordsKept (reachable table') area
  kept = record { words = ap (words_at area 0) (sym count_is) ∙ b.ready.words_are }

  nodes_are : nodes_in count area K ≡ reachable table'
  nodes_are = ap (nodes_in count area) count_is ∙ nodes_in_are sized kept

  -- a transition of a node leads to a node
  closed : (i : ℕ) → i < K → (x : Transition) → Memᴰ x (transitions table' (node_in count area i))
      → number_of (nodes_in count area K) x.to < K
  closed i h x m =
      let there = at_of (reachable table') i [] (omega (arith, count_is)) in
      let same = node_in_are sized kept i (omega (arith, count_is)) in
      let leads = leads_in table' x there (subst (λ (v : Subset). Memᴰ x (transitions table' v)) same m) in
      omega (arith, ap (λ (us : List Subset). number_of us x.to) nodes_are, at_lt leads, count_is)

  in_store : (x : List ℕ) → length x ≡ length area → StoreFits s (length x)
  in_store x e =
      omega (arith, b.store_is.base_is, ap (λ (k : ℕ). 192 * k) b.store_is.capacity_is, lent.workspace_fits, e)

  pub given : SearchInput rows count s K area
  given =
      record {
        fits = in_store area refl;
        nexts = b.store_is.nexts_are ∙ b.ranks.nexts_are;
        some = omega (arith, b.ready.nodes_are, ap length (nodes-first table'));
        few = omega (arith, b.ready.fits, lent.capacity.few_nodes);
        behind = omega (arith, b.ready.fits, b.store_is.base_is);
        sets = λ i h. node-sets sized kept i (omega (arith, count_is));
        closed = closed;
      }

  -- what the search for an accepting cycle comes to
  module _ {found : Option Sought} {after : List ℕ} (c : ComesTo (accepting table') s (singles table' (nodes_in count area K)) after found)
      (e : BytesBetween s.base (record_start s s.capacity) area after) where
    -- Theorem: it is over the table's nodes, and the notes are those of all of them;
    pub search_profiled : Profiled rows count origins after s K found
    search_profiled =
        record {
          decoded = b.ready.decoded;
          notes_are = b.ready.notes_are;
          notes_room = omega (arith, b.ready.notes_room, b.ready.fits);
          fits = in_store after e.same_length;
          operands_are = b.store_is.nexts_are ∙ b.ranks.nexts_are;
          nodes_are = b.ready.nodes_are;
          comes_to = subst (λ (l : List Subset). ComesTo (accepting table') s (singles table' l) after found) nodes_are c;
        }

    -- what the answer asks is there, and the answer to it, or 15 where there is no room, is the answer; behind the nodes only the store
    -- has changed.
    pub answer-ready : Ready origins s after buffer found
    answer-ready =
        told-ready search_profiled M b.store_is.capacity_is (omega (arith, b.ready.nodes_are, b.ready.fits)) lent.buffer_fits

    pub answer-on : {before after' : List ℕ} {v : Answer} → Told origins s after K found before after' v
        → CameTo (onward M table') (nodes_size N) (workspace_size N M) area after before after' v
    answer-on v =
        record {
          answers = told-answers search_profiled M b.store_is.capacity_is v;
          changed =
              change_wider e (nodes_size N) (workspace_size N M) (omega (arith, b.store_is.base_is))
              (omega (arith, b.store_is.base_is, ap (λ (k : ℕ). 192 * k) b.store_is.capacity_is));
        }
