-- The decision of formulas whose fixpoints are all greatest: MEANING 5.14. Of such a formula every cycle is accepting
-- (proofs/EveryCycle.antt), so the witness is the first of the shortest cycles of all nodes, with the way to its node. It is the one that
-- MEANING 5.4 puts first (proofs/FirstCycle.antt). No profiles are asked for. Assumes nothing.
use Rattle.std.specs.Prelude.{cond, List, [], ◌∷◌, ◌++◌, map, ℕ, ◌+◌, ◌^◌, leb, length, find, Option, None, Some}
use Rattle.base.specs.Ask.{ask}
use Rattle.base.specs.Search.{Item, search_from}
use Rattle.letters.specs.Requirements.{letter_of}
use Rattle.formula.specs.Formula.{Formula}
use Rattle.formula.specs.Table.{Table, table, width}
use Rattle.formula.specs.Reading.{Reading, parse}
use Rattle.formula.specs.declared.Refusal.{Refusal}
use Rattle.tableau.specs.Saturation.{Subset, same_subset}
use Rattle.tableau.specs.Transition.{Transition, letter, transitions}
use Rattle.tableau.specs.Nodes.{edges, operands, nodes, stem_to}
use Rattle.profile.specs.Profiles.{is_least}
use Rattle.construction.specs.Construction.{between, max_nodes, nodes_size}
use Rattle.construction.specs.declared.Question.{Question}
use Rattle.construction.specs.declared.Question.TheVariants.{Capacity, Workspace, Buffer, Nodes}

-- A refusal of reading; 43 with its place; 11 to 14; MET with the lengths of stem and cycle, K and the letters; NOT with K.
pub data Verdict : Type 0 where
  unread : Refusal → Verdict
  least_at : (place : ℕ) → Verdict
  refused : Question → Verdict
  satisfiable : (stem cycle K : ℕ) (letters : List ℕ) → Verdict
  unsatisfiable : (K : ℕ) → Verdict

-- the place of the first least fixpoint's byte, where the first of the operators stands at a place; none if all are greatest
abbrev pub first_least : (place : ℕ) → Table → Option ℕ
first_least p [] = None
first_least p (o ∷ t) = let r = first_least (p + width o) t in cond (is_least o) (Some p) r

-- a run of one transition as a start of a search
abbrev pub start : Transition → Item Transition Subset
start s = record { way = s ∷ []; at = s.to }

-- The nodes that at least one transition leads to from a node, each with the first of the shortest runs to it. As for `nodes`, that fuel is
-- enough.
abbrev pub beyond : Table → Subset → List (Item Transition Subset)
unfolding transitions
beyond t v = search_from same_subset (edges t) (2 + 2 ^ length (operands t)) (map start (transitions t v))

-- the first of the shortest cycles of a node, if it has any
abbrev pub cycle_of : Table → Subset → Option (Item Transition Subset)
unfolding transitions
cycle_of t v = find (λ (x : Item Transition Subset). same_subset v x.at) (beyond t v)

-- of two cycles the shorter, and of two as short the first
abbrev pub shorter : Option (Item Transition Subset) → Option (Item Transition Subset) → Option (Item Transition Subset)
shorter None y = y
shorter (Some x) None = Some x
shorter (Some x) (Some y) = cond (leb (length x.way) (length y.way)) (Some x) (Some y)

-- of the cycles of some nodes the first of the shortest
abbrev pub shortest : Table → List (Item Transition Subset) → Option (Item Transition Subset)
unfolding transitions
shortest t [] = None
shortest t (n ∷ ns) = shorter (cycle_of t n.at) (shortest t ns)

-- the cycle of the witness, if there is one
unfoldable pub chosen : Table → Option (Item Transition Subset)
unfolding transitions nodes
chosen t = shortest t (nodes t)

-- the answer, given the nodes and that cycle
abbrev pub conclude : List (Item Transition Subset) → Option (Item Transition Subset) → Verdict
unfolding letter_of
conclude ns None = Verdict.unsatisfiable (length ns)
conclude ns (Some x) =
    let stem = stem_to x.at ns in
    Verdict.satisfiable (length stem) (length x.way) (length ns) (map letter (stem ++ x.way))

-- Question 14, and then the answer.
unfoldable pub decide : (N : ℕ) → Table → Verdict
unfolding letter_of nodes chosen
decide N t = ask (leb (length (nodes t)) N) (Verdict.refused Nodes) (conclude (nodes t) (chosen t))

-- The questions 11 for N, 12 for its bytes and 13 for as many letters, and what comes after them.
abbrev pub ask_room : (N workspace buffer : ℕ) (after : Verdict) → Verdict
ask_room N workspace buffer after =
    ask (between 1 max_nodes N) (Verdict.refused Capacity)
    (ask (leb (nodes_size N) workspace) (Verdict.refused Workspace)
    (ask (leb N buffer) (Verdict.refused Buffer)
    after))

-- Question 43, and what comes after it.
abbrev pub ask_greatest : Option ℕ → (after : Verdict) → Verdict
ask_greatest None after = after
ask_greatest (Some place) after = Verdict.least_at place

-- A refusal of reading is handed on; a formula's table is asked on.
abbrev pub after_reading : (N workspace buffer : ℕ) → Reading Formula → Verdict
unfolding table decide
after_reading N workspace buffer (Reading.refused why) = Verdict.unread why
after_reading N workspace buffer (Reading.accepted f) =
    ask_greatest (first_least 0 (table f)) (ask_room N workspace buffer (decide N (table f)))

-- The whole: the capacity, the lengths of the lent workspace and witness buffer, a formula's bytes.
unfoldable pub verdict : (N workspace buffer : ℕ) → List ℕ → Verdict
unfolding parse table decide
verdict N workspace buffer bytes = after_reading N workspace buffer (parse bytes)
