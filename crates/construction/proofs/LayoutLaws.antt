-- Nodes laid out in bytes. Over zeros the search of nodes leaves exactly the bytes of the layout (`over_zeros`, `held-laid_out`), and
-- behind those of N nodes it leaves everything (`held-beyond`). Assumes nothing.
use Rattle.std.proofs.Common.{◌≡◌, refl, sym, ap, ◌∙◌, List, [], ◌∷◌, ◌++◌, map, append_assoc, ℕ, ◌+◌, ◌-◌, ◌*◌, ◌≤◌, ◌<◌, arith, length}
use Rattle.std.proofs.Common.{take, drop, length-append, length-take, take_all, take_at, drop_at, drop-drop}
use Rattle.std.proofs.Math.ListN.{length-map, length-replicate, replicate-append-replicate}
use Rattle.std.proofs.Math.Nat.{sub-zero}
use Rattle.std.proofs.Math.Seq.{drop-append-add}
use Rattle.base.specs.Bits.{word}
use Rattle.base.specs.Lists.{flat_map}
use Rattle.base.specs.Search.{Item}
use Rattle.formula.specs.Table.{Table}
use Rattle.tableau.specs.Saturation.{Subset}
use Rattle.tableau.specs.Transition.{Transition}
use Rattle.tableau.specs.Nodes.{nodes}
use Rattle.tableau.specs.Area.{bytes8, store, zeros, cleared, NodesHeld, reachable}
use Rattle.tableau.proofs.AreaLaws.{stored-length}
use Rattle.construction.specs.Construction.{node_count, node_words, nodes_size, laid_out}

-- the words of the nodes, one by one
words-each : (l : List (Item Transition Subset))
    → map (λ (x : Item Transition Subset). word x.at) l ≡ map word (map (λ (x : Item Transition Subset). x.at) l)
words-each [] = refl
words-each (x ∷ l) = ap (λ (ws : List ℕ). word x.at ∷ ws) (words-each l)

pub words_are : (t : Table) → node_words t ≡ map word (reachable t)
words_are t = words-each (nodes t)

pub words_count : (t : Table) → length (node_words t) ≡ node_count t
words_count t = length-map (nodes t) (λ (x : Item Transition Subset). word x.at)

pub reachable-count : (t : Table) → length (reachable t) ≡ node_count t
reachable-count t = length-map (nodes t) (λ (x : Item Transition Subset). x.at)

-- zeros from the beginning on
pub cleared_front : (n : ℕ) (w : List ℕ) → cleared 0 n w ≡ zeros n ++ drop n w
cleared_front n w = ap (λ (k : ℕ). zeros k ++ drop n w) (sub-zero n)

pub behind-zeros : (n : ℕ) (w : List ℕ) → drop n (zeros n ++ w) ≡ w
behind-zeros n w = drop_at (zeros n) w n (length-replicate {A = ℕ} n 0)

fewer-zeros : (k n : ℕ) (rest : List ℕ) → k ≤ n → drop k (zeros n ++ rest) ≡ zeros (n - k) ++ rest
fewer-zeros k n rest h =
    ap (λ (m : ℕ). drop k (zeros m ++ rest)) {x = n} {y = k + (n - k)} (omega arith)
    ∙ ap (λ (l : List ℕ). drop k (l ++ rest)) (sym (replicate-append-replicate {A = ℕ} k (n - k) 0))
    ∙ ap (drop k) (append_assoc (zeros k) (zeros (n - k)) rest)
    ∙ behind-zeros k (zeros (n - k) ++ rest)

module _ (N : ℕ) (ws : List ℕ) (few : length ws ≤ N) where
  pub laid_length : length (laid_out N ws) ≡ nodes_size N
  laid_length =
      let k = nodes_size N - nodes_size (length ws) in
      omega (arith, length-append (flat_map bytes8 ws) (zeros k), stored-length ws, length-replicate {A = ℕ} k 0)

  pub over_zeros : (rest : List ℕ) → store ws (zeros (nodes_size N) ++ rest) ≡ laid_out N ws ++ rest
  over_zeros rest =
      ap (λ (l : List ℕ). flat_map bytes8 ws ++ l) (fewer-zeros (nodes_size (length ws)) (nodes_size N) rest (omega arith))
      ∙ sym (append_assoc (flat_map bytes8 ws) (zeros (nodes_size N - nodes_size (length ws))) rest)

  pub laid_first : (rest : List ℕ) → take (nodes_size N) (laid_out N ws ++ rest) ≡ laid_out N ws
  laid_first rest = take_at (laid_out N ws) rest (nodes_size N) laid_length

-- as many words as there is room for, and what lies behind that room
store-beyond : (N : ℕ) (ws a : List ℕ) → drop (nodes_size N) (store (take N ws) a) ≡ drop (nodes_size N) a
store-beyond N ws a =
    let l = flat_map bytes8 (take N ws) in
    let k = length (take N ws) in
    let m = nodes_size N - nodes_size k in
    let low : k ≤ N = omega (arith, length-take N ws) in
    ap (λ (n : ℕ). drop n (store (take N ws) a)) {x = nodes_size N} {y = length l + m} (omega (arith, stored-length (take N ws)))
    ∙ drop-append-add l (drop (8 * k) a) m
    ∙ drop-drop m (8 * k) a
    ∙ ap (λ (n : ℕ). drop n a) {x = 8 * k + m} {y = nodes_size N} (omega arith)

-- what the search of nodes leaves in an area
module _ {N known : ℕ} {a area : List ℕ} (t : Table) (held : NodesHeld N known a area (reachable t)) where
  pub held-beyond : drop (nodes_size N) area ≡ drop (nodes_size N) a
  held-beyond = ap (drop (nodes_size N)) held.area_is ∙ store-beyond N (map word (reachable t)) a

  pub held-many : N < known → N < node_count t
  held-many h = omega (arith, held.known_is, reachable-count t)

  pub held-count : known ≤ N → known ≡ node_count t
  held-count h = omega (arith, held.known_is, reachable-count t)

  pub held-laid_out : known ≤ N → (rest : List ℕ) → a ≡ zeros (nodes_size N) ++ rest → area ≡ laid_out N (node_words t) ++ rest
  held-laid_out h rest e =
      held.area_is
      ∙ ap (λ (ws : List ℕ). store (take N ws) a) (sym (words_are t))
      ∙ ap (λ (ws : List ℕ). store ws a) (take_all N (node_words t) few)
      ∙ ap (store (node_words t)) e
      ∙ over_zeros N (node_words t) few rest
    where
      few : length (node_words t) ≤ N
      few = omega (arith, words_count t, held-count h)
