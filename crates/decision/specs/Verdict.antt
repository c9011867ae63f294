-- The decision, and the search over nodes that were built: MEANING 5. The witness is the way to the first node of the first accepting
-- profile, and its run: of all that there are, the one that MEANING 5.4 puts first (proofs/WitnessLaws.antt). Building and then searching
-- is the decision (proofs/PairLaws.antt). Assumes nothing.
use Rattle.std.specs.Prelude.{Bool, ◌&&◌, List, ◌++◌, map, ℕ, ◌+◌, ◌*◌, leb, length}
use Rattle.std.proofs.Math.Option.{Option, none, some}
use Rattle.base.specs.Ask.{ask}
use Rattle.base.specs.Lists.{first}
use Rattle.base.specs.Search.{Item, within}
use Rattle.letters.specs.Requirements.{letter_of}
use Rattle.formula.specs.Formula.{Formula}
use Rattle.formula.specs.Table.{Table, table}
use Rattle.formula.specs.Reading.{Reading, parse}
use Rattle.formula.specs.declared.Refusal.{Refusal}
use Rattle.tableau.specs.Saturation.{Subset}
use Rattle.tableau.specs.Transition.{Transition, letter}
use Rattle.tableau.specs.Nodes.{nodes, stem_to}
use Rattle.construction.specs.Construction.{Construction, between, max_nodes, nodes_size, construction, are_nodes}
use Rattle.construction.specs.Contract as built
use Rattle.construction.specs.declared.Question.{Question}
use Rattle.construction.specs.declared.Question.TheVariants.{Capacity, Workspace, Buffer, Nodes, Profiles, Built}
use Rattle.profile.specs.Profiles.{Profile, profiles, rejecting, accepting}

-- A refusal of reading; 11 to 15, and 36 of the search; MET with the lengths of stem and cycle, K, c of the cycle's length and the letters;
-- NOT with K and P.
pub data Verdict : Type 0 where
  unread : Refusal → Verdict
  refused : Question → Verdict
  satisfiable : (stem cycle K c : ℕ) (letters : List ℕ) → Verdict
  unsatisfiable : (K P : ℕ) → Verdict

-- The profiles that a verdict counts, and needs room for: all of them, or where an accepting one was found, those of runs that are no
-- longer than the cycle; their number is then c of l (document 02), l being the cycle's length.
abbrev pub counted : Option (Item Transition Profile) → List (Item Transition Profile) → List (Item Transition Profile)
counted none ps = ps
counted (some x) ps = within (length x.way) ps

-- The accepting profile whose run is the cycle, if there is one: the first.
abbrev pub chosen : Table → List (Item Transition Profile) → Option (Item Transition Profile)
chosen t ps = first (accepting t) ps

-- MEANING 5.3, given these and the accepting profile that was found, if any: its way is the cycle
abbrev pub conclude : List (Item Transition Subset) → List (Item Transition Profile) → Option (Item Transition Profile) → Verdict
conclude ns qs none = Verdict.unsatisfiable (length ns) (length qs)
conclude ns qs (some x) =
    let stem = stem_to x.at.first ns in
    Verdict.satisfiable (length stem) (length x.way) (length ns) (length qs) (map letter (stem ++ x.way))

-- Question 15, and then the witness or none, given the nodes.
abbrev pub searched : (M : ℕ) → Table → List (Item Transition Subset) → Verdict
searched M t ns =
    let ps = profiles t ns in
    let found = chosen t ps in
    let qs = counted found ps in
    ask (leb (length qs) M) (Verdict.refused Profiles)
    (conclude ns qs found)

-- The questions 14 and 15, and then that.
unfoldable pub decide : (N M : ℕ) → Table → Verdict
unfolding letter_of nodes profiles rejecting
decide N M t =
    let ns = nodes t in
    ask (leb (length ns) N) (Verdict.refused Nodes)
    (searched M t ns)

-- The questions 36 and 15 of a search over nodes that were built, K of them: MEANING 5.12.
unfoldable pub search : (K N M : ℕ) (workspace : List ℕ) → Table → Verdict
unfolding letter_of nodes profiles rejecting are_nodes
search K N M workspace t =
    ask (are_nodes K N workspace t) (Verdict.refused Built)
    (searched M t (nodes t))

-- the most profiles that there may be room for
abbrev pub max_profiles : ℕ
max_profiles = 4096

-- whether capacities of N nodes and M profiles are in range: question 11
abbrev pub within_capacity : (N M : ℕ) → Bool
within_capacity N M = between 1 max_nodes N && between 1 max_profiles M

-- how many bytes M profiles take
abbrev pub profiles_size : ℕ → ℕ
profiles_size M = 192 * M

-- how many bytes of workspace they ask for: question 12
abbrev pub workspace_size : (N M : ℕ) → ℕ
workspace_size N M = nodes_size N + profiles_size M

-- how many letters of a witness buffer they ask for: question 13
abbrev pub witness_size : (N M : ℕ) → ℕ
witness_size N M = N + M

-- The questions 11 to 13 (MEANING 5.2), whatever a refusal is, and what comes after them.
abbrev pub ask_room : {A : Type 0} → (refusal : Question → A) → (N M workspace buffer : ℕ) (after : A) → A
ask_room refusal N M workspace buffer after =
    ask (within_capacity N M) (refusal Capacity)
    (ask (leb (workspace_size N M) workspace) (refusal Workspace)
    (ask (leb (witness_size N M) buffer) (refusal Buffer)
    after))

-- of a verdict
abbrev pub ask_capacities : (N M workspace buffer : ℕ) (after : Verdict) → Verdict
ask_capacities N M workspace buffer after = ask_room Verdict.refused N M workspace buffer after

-- A refusal of reading is handed on; a formula's table is asked on.
abbrev pub after_reading : (Table → Verdict) → Reading Formula → Verdict
after_reading on (Reading.refused why) = Verdict.unread why
after_reading on (Reading.accepted f) = on (table f)

-- The decision: the capacities, the lengths of the lent workspace and witness buffer, a formula's bytes.
unfoldable pub verdict : (N M workspace buffer : ℕ) → List ℕ → Verdict
unfolding parse table decide
verdict N M workspace buffer bytes = after_reading (λ (t : Table). ask_capacities N M workspace buffer (decide N M t)) (parse bytes)

-- The search: K, the capacities, what the workspace holds, the length of the witness buffer, a formula's bytes.
unfoldable pub search_verdict : (K N M : ℕ) (workspace : List ℕ) (buffer : ℕ) → List ℕ → Verdict
unfolding parse table search
search_verdict K N M workspace buffer bytes =
    after_reading (λ (t : Table). ask_capacities N M (length workspace) buffer (search K N M workspace t)) (parse bytes)

-- What comes behind building (MEANING 5.13): its refusal, or the search over the nodes that it leaves.
abbrev pub search_built : (N M : ℕ) (workspace : List ℕ) (buffer : ℕ) (bytes : List ℕ) → Construction → Verdict
search_built N M workspace buffer bytes (Construction.unread why) = Verdict.unread why
search_built N M workspace buffer bytes (Construction.refused q) = Verdict.refused q
search_built N M workspace buffer bytes (Construction.built words) =
    search_verdict (length words) N M (built.leaves N (Construction.built words) workspace) buffer bytes

-- Building and then searching.
abbrev pub pair_verdict : (N M : ℕ) (workspace : List ℕ) (buffer : ℕ) → List ℕ → Verdict
pair_verdict N M workspace buffer bytes = search_built N M workspace buffer bytes (construction N (length workspace) bytes)
