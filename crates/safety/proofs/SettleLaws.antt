-- From the questions of the code to the promise: 43, 11 to 13 and 14 are the definition's, in their order, and what is left in both areas
-- is what MEANING 5.14 says. Assumes nothing.
use mathlib.Core.Path.{◌≡◌, refl, sym, ap, subst, subst⁻¹, ◌∙◌}
use mathlib.Core.Bool.{Bool, true, false, cond}
use mathlib.Core.List.{List, ◌++◌, map}
use Rattle.std.specs.Prelude.{Option, None, Some, Ok, Err}
use Prim.Native.Nat.{ℕ, ◌+◌, ◌*◌, ◌/◌, ◌≤◌, ◌<◌}
use native.Mathlib.Omega.{arith}
use lib.Dec.{leb}
use lib.ListN.{length, length-map}
use borrow.Author.Tests.{le-leb, lt-leb}
use Rattle.base.specs.Bits.{word}
use Rattle.base.specs.Search.{Item}
use Rattle.formula.specs.Table.{Table, table}
use Rattle.formula.specs.Reading.{Reading, parse}
use Rattle.formula.specs.declared.Refusal.{Refusal}
use Rattle.formula.specs.declared.Table.{Table as Stored}
use Rattle.formula.proofs.RowLaws.{HoldsFormula}
use Rattle.tableau.specs.Saturation.{Subset}
use Rattle.tableau.specs.Transition.{Transition}
use Rattle.tableau.specs.Nodes.{nodes}
use Rattle.tableau.specs.Origins.{Origins}
use Rattle.tableau.specs.Inner.{table_of, Formed}
use Rattle.tableau.specs.Area.{zeros, words_at, cleared, NodesHeld, reachable, SlotsMarked}
use Rattle.tableau.specs.Steps.{StepsBefore, StepsNoted}
use Rattle.tableau.specs.Found.{Finding, HasBlocks, GoneOn}
use Rattle.tableau.proofs.FoundLaws.{gone_held, gone-origins, gone-noted}
use Rattle.tableau.proofs.NodeReads.{nodes-kept}
use Rattle.construction.specs.Construction.{between, max_nodes, nodes_size}
use Rattle.construction.proofs.BuildLaws.{range-granted}
use Rattle.construction.proofs.LayoutLaws.{cleared_front, held-beyond, held-many, held-count}
use Rattle.safety.specs.Safety.{Verdict, chosen, conclude, decide, ask_room, ask_greatest, first_least, after_reading, verdict}
use Rattle.safety.specs.Contract as promised
use Rattle.safety.specs.Contract.{Answer, says, leaves, zeroed, Decided}
use Rattle.safety.specs.Inner.{Lent, RoomAsked, concluded, NodesReady, Answers, CameTo, Settled}
use Rattle.construction.specs.declared.Question.{Question}
use Rattle.construction.specs.declared.Question.TheVariants.{Capacity, Workspace, Buffer, Nodes}
use Rattle.safety.specs.declared.Refusal.TheVariants.{LeastAt, No, Unread}
use Rattle.safety.proofs.NumberWalks.{apart}
use Rattle.safety.proofs.CourseLaws.{concluded-is, many_is}

-- the questions 11 to 13
module _ (N workspace buffer : ℕ) where
  pub short_11 : {b : Bool} → b ≡ between 1 max_nodes N → b ≡ false → RoomAsked N workspace buffer (Err Capacity)
  short_11 {b} e h = (λ after. rw (sym e ∙ h) refl, λ w. refl)

  module _ {b : Bool} (e : b ≡ between 1 max_nodes N) (h : b ≡ true) where
    pub short_12 : workspace < nodes_size N → RoomAsked N workspace buffer (Err Workspace)
    short_12 l = (λ after. rw (sym e ∙ h, lt-leb (nodes_size N) workspace l) refl, λ w. refl)

    pub short_13 : nodes_size N ≤ workspace → buffer < N → RoomAsked N workspace buffer (Err Buffer)
    short_13 k l =
        (λ after. rw (sym e ∙ h, le-leb (nodes_size N) workspace k, lt-leb N buffer l) refl, λ w. refl)

    pub granted : nodes_size N ≤ workspace → N ≤ buffer → RoomAsked N workspace buffer (Ok tt)
    granted k l =
        let r = range-granted N e h in
        record { some_nodes = r.0; few_nodes = r.1; workspace_fits = k; buffer_fits = l }

-- past them
lent_asked : {N workspace buffer : ℕ} → Lent N workspace buffer → (after : Verdict) → ask_room N workspace buffer after ≡ after
lent_asked {N} {workspace} {buffer} l after =
    rw (
      le-leb 1 N l.some_nodes,
      le-leb N max_nodes l.few_nodes,
      le-leb (nodes_size N) workspace l.workspace_fits,
      le-leb N buffer l.buffer_fits,
    ) refl

-- the nodes in the area, as what comes behind them asks
module _ {rows : List ℕ} {count N known : ℕ} {a area : List ℕ} (formed : Formed rows count)
    (held : NodesHeld N known a area (reachable (table_of rows count))) where
  pub ready : {buffer : ℕ} {slots o rel : List ℕ} → known ≤ N → N ≤ 1024 → 8 * N ≤ length area → SlotsMarked known area slots
      → Origins (table_of rows count) o known → 2 * N ≤ length o → 1024 * ((known + 63) / 64) ≤ length rel
      → StepsNoted rows count known area rel → N ≤ buffer → NodesReady rows count known area slots o rel buffer
  ready fits few room marked notes notes_room long noted buffer_fits =
      let t = table_of rows count in
      let all : known ≡ length (nodes t) = held-count t held fits in
      let kept : words_at area 0 known ≡ map word (reachable t) =
      ap (λ (n : ℕ). words_at area 0 n) (all ∙ sym (length-map (nodes t) (λ (x : Item Transition Subset). x.at)))
      ∙ (nodes-kept formed held fits).words in
      record {
        there = record { few = omega arith; room = omega arith; marked = marked; apart = apart rows count all kept noted };
        known_is = all;
        words_are = kept;
        notes_are = notes;
        notes_room = omega arith;
        long = long;
        noted = noted;
        fits = omega arith;
      }

  pub came_14 : {l : List ℕ} → N < known → CameTo N (decide N (table_of rows count)) a area l l (Err (No Nodes))
  came_14 {l} h =
      let t = table_of rows count in
      subst⁻¹ (λ (v : Verdict). CameTo N v a area l l (Err (No Nodes))) (many_is t (held-many t held h))
      (record { answers = record { answered = refl; buffered = refl }; beyond = held-beyond t held })

  pub came_on : {before after : List ℕ} {r : Answer} → known ≤ N → Answers (concluded (table_of rows count)) before after r
      → CameTo N (decide N (table_of rows count)) a area before after r
  came_on {before} {after} {r} fits s =
      let t = table_of rows count in
      let all = held-count t held fits in
      record {
        answers = subst⁻¹ (λ (v : Verdict). Answers v before after r) (concluded-is t (omega (arith, all))) s;
        beyond = held-beyond t held;
      }

-- the same after a part of the search that leaves no node to go on from
pub gone-ready : {rows : List ℕ} {count from to known N r buffer : ℕ} {a area o rel area' slots' o' rel' : List ℕ} → Formed rows count
    → GoneOn rows count from to known N area o rel area' slots' o' rel' r → Finding rows count N known from a area o → r ≤ N → r ≤ to
    → HasBlocks rel to → StepsBefore rows count from known area rel → N ≤ 1024 → 8 * N ≤ length area' → 2 * N ≤ length o'
    → 1024 * ((r + 63) / 64) ≤ length rel' → N ≤ buffer → NodesReady rows count r area' slots' o' rel' buffer
gone-ready formed g f fits last blocks noted few room notes_room long buffer_fits =
    ready formed (gone_held g f (λ h. last)) fits few room (g.marked fits) (gone-origins g f fits last) notes_room long
    (gone-noted g fits last blocks noted) buffer_fits

-- once 14 is asked, the bytes of N nodes are zero afterwards
after_14 : (N : ℕ) (t : Table) (w : List ℕ) → promised.cleared N (decide N t) w ≡ zeroed N w
unfolding decide
after_14 N t w = by (leb (length (nodes t)) N) (chosen t)
  where
    by : (b : Bool) (o : Option (Item Transition Subset))
        → promised.cleared N (cond b (conclude (nodes t) o) (Verdict.refused Nodes)) w ≡ zeroed N w
    by true None = refl
    by true (Some x) = refl
    by false o = refl

-- what is settled after reading
module _ (N : ℕ) (t : Table) (w b : List ℕ) where
  abbrev asked : Verdict
  asked = ask_greatest (first_least 0 t) (ask_room N (length w) (length b) (decide N t))

  -- 43
  pub settled_43 : {l : Option ℕ} {place : ℕ} → l ≡ first_least 0 t → l ≡ Some place → Settled N asked w w b b (Err (LeastAt place))
  settled_43 {place = place} e q =
      subst (λ (o : Option ℕ). Settled N (ask_greatest o (ask_room N (length w) (length b) (decide N t))) w w b b (Err (LeastAt place)))
      (sym q ∙ e) (record { answers = record { answered = refl; buffered = refl }; worked = refl })

  module _ {l : Option ℕ} (e : l ≡ first_least 0 t) (q : l ≡ None) where
    -- behind 43
    greatest : asked ≡ ask_room N (length w) (length b) (decide N t)
    greatest = ap (λ (o : Option ℕ). ask_greatest o (ask_room N (length w) (length b) (decide N t))) (sym e ∙ q)

    pub settled-short : {q : Question} → RoomAsked N (length w) (length b) (Err q) → Settled N asked w w b b (Err (No q))
    settled-short {q} r =
        subst⁻¹ (λ (v : Verdict). Settled N v w w b b (Err (No q))) (greatest ∙ r.0 (decide N t))
        (record { answers = record { answered = refl; buffered = refl }; worked = sym (r.1 w) })

    pub settled_on : {w' b' area : List ℕ} {r : Answer} → Lent N (length w) (length b) → CameTo N (decide N t) w area b b' r
        → w' ≡ cleared 0 (nodes_size N) area → Settled N asked w w' b b' r
    settled_on {w'} {b'} {area} {r} l c z =
        subst⁻¹ (λ (v : Verdict). Settled N v w w' b b' r) (greatest ∙ lent_asked l (decide N t))
        (record { answers = c.answers; worked = all ∙ sym (after_14 N t w) })
      where
        all : w' ≡ zeroed N w
        all = z ∙ cleared_front (nodes_size N) area ∙ ap (λ (x : List ℕ). zeros (nodes_size N) ++ x) c.beyond

-- Over the table of what was read.
module _ (bytes : List ℕ) (N : ℕ) {w w' b b' : List ℕ} where
  -- Theorem: settled over the table of the formula that was read, it is decided.
  pub held-decided : {r : Answer} {t : Stored} → HoldsFormula bytes t
      → Settled N (asked N (table_of t.rows t.count) w b) w w' b b' r → Decided bytes N w w' b b' r
  unfolding verdict
  held-decided {r} h s =
      let e : verdict N (length w) (length b) bytes ≡ asked N (table h.formula) w b =
      ap (after_reading N (length w) (length b)) h.parsed in
      let q = subst (λ (u : Table). Settled N (asked N u w b) w w' b b' r) h.operators s in
      record {
        answered = q.answers.answered ∙ sym (ap says e);
        buffered = q.answers.buffered ∙ sym (ap (λ (v : Verdict). leaves v b) e);
        worked = q.worked ∙ sym (ap (λ (v : Verdict). promised.cleared N v w) e);
      }

pub unread-decided : (bytes : List ℕ) (N : ℕ) {w b : List ℕ} {why : Refusal} → parse bytes ≡ Reading.refused why
    → Decided bytes N w w b b (Err (Unread why))
unfolding verdict
unread-decided bytes N {w} {b} p =
    let e = ap (after_reading N (length w) (length b)) p in
    record {
      answered = sym (ap says e);
      buffered = sym (ap (λ (v : Verdict). leaves v b) e);
      worked = sym (ap (λ (v : Verdict). promised.cleared N v w) e);
    }
