-- From the questions of the code to the promise of building: each of 11, 12 and 14 is the definition's, and what is left in the workspace
-- is what MEANING 5.11 says. Assumes nothing.
use Rattle.std.proofs.Common.{◌≡◌, refl, sym, ap, subst, ◌∙◌, Bool, true, false, List, ◌++◌, ℕ, ◌≤◌, ◌<◌, length, drop, Result, Ok, Err}
use Rattle.std.proofs.Common.{arith, T}
use Rattle.base.proofs.AskLaws.{Asked, asked, asked_le, first_refusal, passed}
use Rattle.base.proofs.BoolLaws.{to_T}
use Rattle.formula.specs.Formula.{Formula}
use Rattle.formula.specs.Table.{Table, table}
use Rattle.formula.specs.Reading.{Reading, parse}
use Rattle.formula.specs.declared.Refusal.{Refusal}
use Rattle.formula.specs.declared.Table.{Table as Stored}
use Rattle.formula.proofs.RowLaws.{HoldsFormula}
use Rattle.tableau.specs.Inner.{table_of}
use Rattle.tableau.specs.Area.{zeros, cleared, NodesHeld, reachable}
use Rattle.construction.specs.Construction.{Construction, between, max_nodes, node_count, node_words, nodes_size, construct, ask_room}
use Rattle.construction.specs.Construction.{after_reading, construction}
use Rattle.construction.specs.Contract.{says, leaves, Constructed}
use Rattle.construction.specs.Inner.{Settled}
use Rattle.construction.specs.declared.Question.TheVariants.{Capacity, Workspace, Nodes}
use Rattle.construction.specs.declared.Refusal as code
use Rattle.construction.specs.declared.Refusal.TheVariants.{Unread, No}
use Rattle.construction.proofs.RangeLaws.{between_of, between_in}
use Rattle.construction.proofs.LayoutLaws.{words_count, cleared_front, behind-zeros}
use Rattle.construction.proofs.LayoutLaws.{held-beyond, held-many, held-count, held-laid_out}

-- question 11 for N, as a fact
abbrev pub InRange : ℕ → Type 0
InRange N = (1 ≤ N) × (N ≤ max_nodes)

-- what the code knows from its answer to it
module _ (N : ℕ) {b : Bool} (is : b ≡ between 1 max_nodes N) where
  pub range-granted : b ≡ true → InRange N
  range-granted e = between_of 1 max_nodes N (to_T (between 1 max_nodes N) (sym is ∙ e))

  pub range-refused : b ≡ false → InRange N → ⊥
  range-refused e r = subst T (sym is ∙ e) (between_in 1 max_nodes N r.0 r.1)

-- the questions in their order
abbrev pub AskedRoom : (N workspace : ℕ) → Table → Construction → Type 0
AskedRoom N workspace t =
    Asked (InRange N) (Construction.refused Capacity)
    (Asked (nodes_size N ≤ workspace) (Construction.refused Workspace)
    (Asked (node_count t ≤ N) (Construction.refused Nodes)
    (λ o. o ≡ Construction.built (node_words t))))

-- Theorem: the definition asks them so.
pub room-asked : (N workspace : ℕ) (t : Table) → AskedRoom N workspace t (ask_room N workspace t)
unfolding construct
room-asked N workspace t =
    asked _ (between 1 max_nodes N) (between_of 1 max_nodes N) (λ r. between_in 1 max_nodes N r.0 r.1)
    (asked_le (nodes_size N) workspace _
    (asked_le (node_count t) N _
    refl))

module _ (N : ℕ) (w : List ℕ) (t : Table) where
  abbrev asked_of : AskedRoom N (length w) t (ask_room N (length w) t)
  asked_of = room-asked N (length w) t

  settles : {o : Construction} → ask_room N (length w) t ≡ o → Settled t N w (leaves N o w) (says o)
  settles e = record { answered = ap says (sym e); worked = ap (λ (o : Construction). leaves N o w) (sym e) }

  pub settled_11 : (InRange N → ⊥) → Settled t N w w (Err (No Capacity))
  settled_11 n = settles (first_refusal asked_of n)

  pub settled_12 : InRange N → length w < nodes_size N → Settled t N w w (Err (No Workspace))
  settled_12 r h = settles (first_refusal (passed asked_of r) (λ k. omega arith))

  -- the nodes, searched over zeros
  module _ {known : ℕ} {a area : List ℕ} (r : InRange N) (room : nodes_size N ≤ length w) (e : a ≡ cleared 0 (nodes_size N) w)
      (held : NodesHeld N known a area (reachable t)) where
    over : a ≡ zeros (nodes_size N) ++ drop (nodes_size N) w
    over = e ∙ cleared_front (nodes_size N) w

    pub settled_14 : {w' : List ℕ} → N < known → w' ≡ cleared 0 (nodes_size N) area → Settled t N w w' (Err (No Nodes))
    settled_14 {w'} h c =
        subst (λ (v : List ℕ). Settled t N w v (Err (No Nodes))) (sym all)
        (settles (first_refusal (passed (passed asked_of r) room) (λ k. omega (arith, held-many t held h))))
      where
        all : w' ≡ zeros (nodes_size N) ++ drop (nodes_size N) w
        all =
            c ∙ cleared_front (nodes_size N) area
            ∙ ap (λ (l : List ℕ). zeros (nodes_size N) ++ l)
            (held-beyond t held ∙ ap (drop (nodes_size N)) over ∙ behind-zeros (nodes_size N) (drop (nodes_size N) w))

    pub settled-built : known ≤ N → Settled t N w area (Ok known)
    settled-built h =
        let fits : node_count t ≤ N = omega (arith, held-count t held h) in
        let s = settles (passed (passed (passed asked_of r) room) fits) in
        record {
          answered = ap Ok (held-count t held h ∙ sym (words_count t)) ∙ s.answered;
          worked = held-laid_out t held h (drop (nodes_size N) w) over ∙ s.worked;
        }

-- Over the table of what was read.
module _ (bytes : List ℕ) (N : ℕ) (w : List ℕ) where
  abbrev whole : Construction
  whole = construction N (length w) bytes

  settled_constructed : {w' : List ℕ} {r : Result ℕ code.Refusal} (f : Formula) → parse bytes ≡ Reading.accepted f
      → Settled (table f) N w w' r → Constructed bytes N w w' r
  unfolding construction
  settled_constructed f p s =
      let e : whole ≡ ask_room N (length w) (table f) = ap (after_reading N (length w)) p in
      record {
        answered = s.answered ∙ sym (ap says e);
        worked = s.worked ∙ sym (ap (λ (o : Construction). leaves N o w) e);
      }

  -- Theorem: settled over the table of the formula that was read, it is built.
  pub held_constructed : {w' : List ℕ} {r : Result ℕ code.Refusal} {t : Stored} → HoldsFormula bytes t
      → Settled (table_of t.rows t.count) N w w' r → Constructed bytes N w w' r
  held_constructed {w'} {r} h s =
      settled_constructed h.formula h.parsed (subst (λ (u : Table). Settled u N w w' r) h.operators s)

  -- Theorem: a refusal of reading, passed on.
  pub unread_constructed : {why : Refusal} → parse bytes ≡ Reading.refused why → Constructed bytes N w w (Err (Unread why))
  unfolding construction
  unread_constructed {why} p =
      let e : whole ≡ Construction.unread why = ap (after_reading N (length w)) p in
      record { answered = sym (ap says e); worked = sym (ap (λ (o : Construction). leaves N o w) e) }
