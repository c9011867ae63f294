-- Walks over the numbers of the nodes are runs of the tableau. Each reachable node has one number, and the area has its word there; the
-- relation leads from one number to another exactly if a transition leads between their nodes (`link_of`, `link_in`). So a walk of n steps
-- between numbers gives n transitions between their nodes (`walk_of`), and transitions between two nodes a walk of as many steps between
-- their numbers (`walk_in`). Assumes nothing.
use mathlib.Core.Path.{◌≡◌, refl, sym, ap, subst, subst⁻¹, ◌∙◌}
use mathlib.Core.List.Memᴰ
use mathlib.Core.List.{List, [], ◌∷◌, map, Memᴰ}
use Prim.Native.Nat.{ℕ, suc, ◌+◌, ◌*◌, ◌/◌, ◌≤◌, ◌<◌}
use native.Mathlib.Omega.{arith}
use lib.Dec.{T}
use lib.ListN.{length, length-map}
use Rattle.base.specs.Bits.{word}
use Rattle.base.specs.Search.{Item}
use Rattle.base.proofs.At.{At, at_lt, at_get, at_of, in_at}
use Rattle.base.proofs.WordLaws.{word_inj}
use Rattle.relation.specs.Relation.{linked}
use Rattle.distances.specs.Walks as numbers
use Rattle.formula.specs.Table.{Table}
use Rattle.tableau.specs.Saturation.{Subset}
use Rattle.tableau.specs.Transition.{Transition, transitions}
use Rattle.tableau.specs.Nodes.{nodes}
use Rattle.tableau.specs.Run.{Reachable}
use Rattle.tableau.specs.Inner.{table_of}
use Rattle.tableau.specs.Area.{eight, words_at, reachable}
use Rattle.tableau.specs.Steps.{StepsNoted}
use Rattle.tableau.proofs.NodeLaws.{by_transition, nodes_distinct, nodes-all, reachable-length}
use Rattle.tableau.proofs.LoopLaws.{table-length}
use Rattle.tableau.proofs.NodeReads.{WordsKept, kept_at}
use Rattle.profile_tables.proofs.NodeNumbers.{one_number, node-reachable}
use Rattle.theory.proofs.Walks.{Walk}
use Rattle.safety.specs.Inner.{node}

-- each number has its node, and each reachable node its number
module _ (t : Table) where
  abbrev set_at : Item Transition Subset → Subset
  set_at x = x.at

  node_at : (i : ℕ) → i < length (nodes t) → At (reachable t) i (node t i)
  node_at i h = at_of (reachable t) i [] (omega (arith, length-map (nodes t) set_at))

  pub number-reachable : (i : ℕ) → i < length (nodes t) → Reachable t (node t i)
  number-reachable i h = node-reachable t (node_at i h)

  pub reachable-number : {v : Subset} → Reachable t v → (i : ℕ) × (i < length (nodes t)) × (v ≡ node t i)
  reachable-number r =
      let (x, m, e) = nodes-all t r in
      let (i, a) = in_at (Memᴰ.cast e (Memᴰ.map set_at m)) in
      (i, omega (arith, at_lt a, length-map (nodes t) set_at), sym (at_get a []))

  pub one-node : (i j : ℕ) → i < length (nodes t) → j < length (nodes t) → node t i ≡ node t j → i ≡ j
  one-node i j h k e =
      one_number (nodes t) (nodes_distinct t) (node_at i h) (subst⁻¹ (At (reachable t) j) e (node_at j k))

-- the nodes are in an area, so many of them, and their transitions in a relation
module _ (rows : List ℕ) (count : ℕ) {known : ℕ} {area rel : List ℕ} (all : known ≡ length (nodes (table_of rows count)))
    (kept : words_at area 0 known ≡ map word (reachable (table_of rows count))) (noted : StepsNoted rows count known area rel) where
  abbrev t : Table
  t = table_of rows count

  pub sized : (i : ℕ) → i < known → length (node t i) ≡ count
  sized i h = reachable-length t (number-reachable t i (omega arith)) ∙ table-length rows count

  words-kept : WordsKept (reachable t) area
  words-kept = record {
    words = ap (λ (n : ℕ). words_at area 0 n) (length-map (nodes t) (set_at t) ∙ sym all) ∙ kept;
  }

  pub stands : (i : ℕ) → i < known → eight area (8 * i) ≡ word (node t i)
  stands i h = kept_at words-kept i (omega (arith, length-map (nodes t) (set_at t)))

  -- a set of the right size whose word stands there is that node
  pub that_node : (i : ℕ) {v : Subset} → i < known → length v ≡ count → word v ≡ eight area (8 * i) → v ≡ node t i
  that_node i {v} h l e = word_inj v (node t i) (l ∙ sym (sized i h)) (e ∙ stands i h)

  pub apart : (i j : ℕ) → i < known → j < known → eight area (8 * i) ≡ eight area (8 * j) → i ≡ j
  apart i j h k e =
      one-node t i j (omega arith) (omega arith)
      (word_inj (node t i) (node t j) (sized i h ∙ sym (sized j k)) (sym (stands i h) ∙ e ∙ stands j k))

  -- where a transition of a node leads is as large
  pub target-sized : {i : ℕ} {s : Transition} → i < known → Memᴰ s (transitions t (node t i)) → length s.to ≡ count
  target-sized {i} h m =
      reachable-length t (by_transition (number-reachable t i (omega arith)) m) ∙ table-length rows count

  pub link_of : (u a : ℕ) → T (linked rel u a)
      → (u < known) × (a < known) × (s : Transition) × Memᴰ s (transitions t (node t a)) × (s.to ≡ node t u)
  link_of u a h =
      let (l, k, f) = noted.only u a h in
      let (s, m, e) = f (node t a) (sized a l) (stands a l) in
      (k, l, s, m, that_node u k (target-sized l m) e)

  pub link_in : (a : ℕ) {s : Transition} → a < known → Memᴰ s (transitions t (node t a))
      → (u : ℕ) × (u < known) × (s.to ≡ node t u) × T (linked rel u a)
  link_in a {s} l m =
      let (u, k, e, b) = noted.all a l (node t a) (sized a l) (stands a l) s m in
      (u, k, that_node u k (target-sized l m) (sym e), b)

  pub relation_steps : known ≤ 1024 → 1024 * ((known + 63) / 64) ≤ length rel → numbers.Steps rel known
  relation_steps few long = record { few = few; long = long; ends = λ u a h. let r = link_of u a h in (r.0, r.1) }

  -- Theorem: a walk over numbers is one over nodes,
  pub walk_of : {b n a : ℕ} → numbers.Walk rel b n a
      → (ss : List Transition) × (length ss ≡ n) × Walk t (node t a) ss (node t b)
  walk_of numbers.Walk.stay = ([], refl, Walk.stop)
  walk_of {b} (numbers.Walk.step {a = a} {b = c} h w) =
      let (k, l, s, m, e) = link_of c a h in
      let (ss, q, r) = walk_of w in
      (s ∷ ss, ap suc q, Walk.go m (subst⁻¹ (λ (v : Subset). Walk t v ss (node t b)) e r))

  -- and one over nodes is one over their numbers.
  pub walk_in : {v u : Subset} {ss : List Transition} → Walk t v ss u → (a b : ℕ) → a < known → b < known → v ≡ node t a → u ≡ node t b
      → numbers.Walk rel b (length ss) a
  walk_in Walk.stop a b h k p q =
      subst (λ (i : ℕ). numbers.Walk rel b 0 i) (one-node t b a (omega arith) (omega arith) (sym q ∙ p)) numbers.Walk.stay
  walk_in (Walk.go {s = s} m w) a b h k p q =
      let (c, l, e, f) = link_in a h (subst (λ (v : Subset). Memᴰ s (transitions t v)) p m) in
      numbers.Walk.step f (walk_in w c b l k e q)
