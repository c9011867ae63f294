-- What a caller reads of the nodes in the area, once all of them have found room: the words at the area's beginning are the nodes' words in
-- order (`nodes-kept`), so node i is read as its word (`kept_at`). Words stay where only later bytes are changed (`words_same`). Assumes
-- nothing.
use Rattle.std.proofs.Common.{◌≡◌, refl, sym, ap, ◌∙◌, List, [], map, ℕ, zero, suc, ◌+◌, ◌*◌, ◌≤◌, ◌<◌, zero-add, arith, length, get_or}
use Rattle.std.proofs.Common.{drop, take_all}
use Rattle.std.proofs.Math.ListN.{length-map, get_or-map}
use mathlib.Core.List.{Memᴰ}
use mathlib.Core.List.Memᴰ
use Rattle.base.specs.Bits.{word}
use Rattle.base.specs.Search.{Item}
use Rattle.base.proofs.At.{at_lt, at_get, in_at}
use Rattle.formula.specs.Table.{Table}
use Rattle.base.proofs.BytesLaws.{number_same}
use Rattle.tableau.specs.Saturation.{Subset}
use Rattle.tableau.specs.Transition.{Transition}
use Rattle.tableau.specs.Nodes.{nodes}
use Rattle.tableau.specs.Inner.{table_of, Formed}
use Rattle.tableau.specs.Area.{eight, store, words_at, NodesHeld, reachable, SubsetsSized}
use Rattle.tableau.proofs.NodeLaws.{nodes_along, reachable-length}
use Rattle.tableau.proofs.LoopLaws.{table-length}
use Rattle.tableau.proofs.AreaLaws.{words-length, words-stored}
use Rattle.tableau.proofs.SizeLaws.{words_small}

-- a node has a Bool for each subformula
pub reachable-sized : (t : Table) → SubsetsSized (length t) (reachable t)
reachable-sized t u m =
    let (x, r, q) = Memᴰ.of_map (λ (x : Item Transition Subset). x.at) (nodes t) m in
    ap length (sym q) ∙ reachable-length t (x.way, nodes_along t r)

-- the area's first words are those of the nodes l
pub record WordsKept (l : List Subset) (area : List ℕ) : Type 0 where
  pub words : words_at area 0 (length l) ≡ map word l

-- where there is room for all, the area has every node
holds-stored : {capacity known : ℕ} {a area : List ℕ} {l : List Subset} → NodesHeld capacity known a area l → known ≤ capacity
    → area ≡ store (map word l) a
holds-stored {capacity} {a = a} {l = l} hs fits =
    hs.area_is
    ∙ ap (λ (ws : List ℕ). store ws a) (take_all capacity (map word l) (omega (arith, hs.known_is, length-map l word)))

pub nodes-kept : {rows : List ℕ} {count capacity known : ℕ} {a area : List ℕ} → Formed rows count
    → NodesHeld capacity known a area (reachable (table_of rows count)) → known ≤ capacity
    → WordsKept (reachable (table_of rows count)) area
nodes-kept {rows} {count} {a = a} f hs fits =
    let l = reachable (table_of rows count) in
    let sized : SubsetsSized count l = λ u m. reachable-sized (table_of rows count) u m ∙ table-length rows count in
    let stored = holds-stored hs fits in
    record {
      words = rw (stored, ← length-map l word)
          (words-stored (map word l) (drop (8 * length (map word l)) a) (words_small f.few sized));
    }

words_at_get : (a : List ℕ) (j n i : ℕ) → i < n → get_or (words_at a j n) i 0 ≡ eight a (8 * (j + i))
words_at_get a j zero i h = absurd (omega arith)
words_at_get a j (suc n) zero h = ap (λ (k : ℕ). eight a (8 * k)) {x = j} {y = j + 0} (omega arith)
words_at_get a j (suc n) (suc i) h =
    words_at_get a (suc j) n i (omega arith) ∙ ap (λ (k : ℕ). eight a (8 * k)) {x = suc j + i} {y = j + suc i} (omega arith)

-- a word of the area is that of one of its nodes
pub word_of_node : (a : List ℕ) (n : ℕ) {w : ℕ} → Memᴰ w (words_at a 0 n) → (j : ℕ) × (j < n) × (eight a (8 * j) ≡ w)
word_of_node a n m =
    let (j, s) = in_at m in
    let low : j < n = omega (arith, at_lt s, words-length a 0 n) in
    (j, low, ap (λ (k : ℕ). eight a (8 * k)) (sym (zero-add j)) ∙ sym (words_at_get a 0 n j low) ∙ at_get s 0)

pub eight-same : (a b : List ℕ) (at : ℕ) → ((k : ℕ) → k < at + 8 → get_or b k 0 ≡ get_or a k 0) → eight b at ≡ eight a at
eight-same a b at f = number_same 8 b a at at (λ i h. f (at + i) (omega arith))

pub words_same : (a b : List ℕ) (j n : ℕ) → ((k : ℕ) → k < 8 * (j + n) → get_or b k 0 ≡ get_or a k 0) → words_at b j n ≡ words_at a j n
words_same a b j zero f = refl
words_same a b j (suc n) f =
    rw (eight-same a b (8 * j) (λ k h. f k (omega arith)), words_same a b (suc j) n (λ k h. f k (omega arith)))

module _ {l : List Subset} {area : List ℕ} (k : WordsKept l area) where
  pub kept_at : (i : ℕ) → i < length l → eight area (8 * i) ≡ word (get_or l i [])
  kept_at i h =
      ap (λ (j : ℕ). eight area (8 * j)) (sym (zero-add i)) ∙ sym (words_at_get area 0 (length l) i h)
      ∙ ap (λ (ws : List ℕ). get_or ws i 0) k.words ∙ get_or-map word l i []
