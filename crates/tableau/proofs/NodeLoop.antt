-- The loops over choice words and over nodes. One choice word adds the node that its transition leads to, if there is one
-- (`follow-some`); all choice words add what the transitions of a node lead to (`Expanding`); and node after node the search over one list
-- goes on (`Finding`), which ends with the definition's nodes and their origins (`find_end`, `find_origins`). Past the capacity a loop
-- may stop (`find_full`). Assumes nothing.
use Rattle.std.proofs.Common.{Option, Some, ◌≡◌, refl, sym, ap, subst, ◌∙◌, ◌⊎◌, inl, inr, false, List, [], ◌∷◌, ◌++◌, map, append-nil, ℕ}
use Rattle.std.proofs.Common.{◌+◌, ◌-◌, ◌*◌, ◌^◌, ◌≤◌, ◌<◌, arith, bit_or, length, take_all}
use Rattle.std.proofs.Math.ListN.{length-map}
use Rattle.std.proofs.Math.Path.{subst⁻¹}
use mathlib.Core.List.{Memᴰ}
use mathlib.Core.List.Memᴰ
use Rattle.base.specs.Lists.{range, flat_map, At}
use Rattle.base.specs.Bits.{word}
use Rattle.base.specs.Spread.{adds, spread}
use Rattle.base.proofs.AppendLaws.{flat_map_append, map-flat_map, range-append, range-more}
use Rattle.base.proofs.MemberLaws.{flat_map_of}
use Rattle.base.proofs.At.{at_lt, at_in, in_at, at_some, at_map}
use Rattle.base.proofs.SpreadLaws.{adds-append, adds-at, AfterTurns, turns_next, turns-done, turns_begin}
use Rattle.base.proofs.WordLaws.{word_set, word_none}
use Rattle.letters.specs.Requirements.{letter_of}
use Rattle.formula.specs.Table.{Operator, Table}
use Rattle.tableau.specs.Saturation.{Subset, same_subset, nothing, saturate}
use Rattle.tableau.specs.Transition.{ors, choice_of, by_word, transitions}
use Rattle.tableau.specs.Nodes.{root, nodes}
use Rattle.tableau.specs.Origins.{Origins}
use Rattle.tableau.specs.Inner.{table_of, Formed, TargetBy}
use Rattle.tableau.specs.Area.{eight, store, NodesHeld, reachable, SlotsMarked, ReachedNode, ReachedWord, worded, root_reached}
use Rattle.tableau.specs.Area.{reached_by, leads, outs, ReachedSized, Arrives, NodesNoted, NodeAdded, Followed, Expanded}
use Rattle.tableau.specs.Found.{onward_from, Finding, Begun}
use Rattle.tableau.specs.declared.NodeNumber.{NodeNumber}
use Rattle.tableau.specs.declared.Target.{Target}
use Rattle.tableau.proofs.TransitionLaws.{transition_with, to-length, transitions-by_word}
use Rattle.tableau.proofs.NodeLaws.{root-length}
use Rattle.tableau.proofs.LoopLaws.{table-length}
use Rattle.tableau.proofs.TargetLaws.{StepFound, a_target}
use Rattle.tableau.proofs.SizeLaws.{leads-sized}
use Rattle.tableau.proofs.KeepLaws.{keeps-more, keeps-all, keeps-holds, known-all, node-word, keeps-one}
use Rattle.tableau.proofs.NodeMatch.{Matched, nodes_match, matched_sets, notes-origins}

-- the known nodes l with those that the first n choice words lead to from node i
abbrev pub led : Table → (i : ℕ) → Subset → List ReachedNode → ℕ → List ReachedNode
led t i v l n = adds same_subset l (flat_map (leads t i v) (range 0 n))

-- what is added keeps the sizes
adds-sized : {count : ℕ} (l ys : List ReachedNode) → ReachedSized count l → ReachedSized count ys
    → ReachedSized count (adds same_subset l ys)
adds-sized l ys f g x m =
    let (i, a) = in_at m in
    elim (adds-at same_subset l ys a) [ inl b ↦ f x (at_in b) | inr r ↦ g x r ]

module _ (t : Table) (i : ℕ) (v : Subset) (l : List ReachedNode) where
  led_more : (n : ℕ) → led t i v l (n + 1) ≡ adds same_subset (led t i v l n) (leads t i v n)
  led_more n =
      ap (λ (ks : List ℕ). adds same_subset l (flat_map (leads t i v) ks)) (range-more n)
      ∙ ap (adds same_subset l)
      (flat_map_append (leads t i v) (range 0 n) (n ∷ []) ∙ ap (λ (ys : List ReachedNode). flat_map (leads t i v) (range 0 n) ++ ys)
      (append-nil (leads t i v n)))
      ∙ adds-append same_subset l (flat_map (leads t i v) (range 0 n)) (leads t i v n)

  led_sized : (n : ℕ) → ReachedSized (length t) l → ReachedSized (length t) (led t i v l n)
  led_sized n s =
      adds-sized l (flat_map (leads t i v) (range 0 n)) s
      (λ u m. let (x, r, q) = flat_map_of (leads t i v) (range 0 n) m in leads-sized t i v x u q)

  -- all choice words make all transitions
  led_all : led t i v l (2 ^ ors t) ≡ adds same_subset l (outs t i v)
  led_all =
      ap (adds same_subset l)
      (sym (ap (map (reached_by i)) (transitions-by_word t v)
      ∙ map-flat_map (reached_by i) (λ (x : ℕ). by_word t x v) (range 0 (2 ^ ors t))))

  led_full : {capacity known : ℕ} {a area o : List ℕ} (n m : ℕ) → n ≤ m → NodesNoted capacity known a area o (map worded (led t i v l n))
      → capacity < known
      → NodesNoted capacity known a area o (map worded (led t i v l m))
  led_full {capacity} {known} {a} {area} {o} n m h k full =
      subst⁻¹ (λ (r : List ReachedNode). NodesNoted capacity known a area o (map worded r))
      (ap (led t i v l) {x = m} {y = n + (m - n)} (omega arith)
      ∙ ap (λ (ks : List ℕ). adds same_subset l (flat_map (leads t i v) ks)) (range-append 0 n (m - n))
      ∙ ap (adds same_subset l) (flat_map_append (leads t i v) (range 0 n) (range (0 + n) (m - n)))
      ∙ adds-append same_subset l (flat_map (leads t i v) (range 0 n)) (flat_map (leads t i v) (range (0 + n) (m - n))))
      (keeps-all (led t i v l n) k (flat_map (leads t i v) (range (0 + n) (m - n))) full)

to-table : (rows : List ℕ) {count : ℕ} {l : List ReachedNode} → ReachedSized count l → ReachedSized (length (table_of rows count)) l
to-table rows {count} s u m = s u m ∙ sym (table-length rows count)

of_table : (rows : List ℕ) (count : ℕ) {l : List ReachedNode} → ReachedSized (length (table_of rows count)) l → ReachedSized count l
of_table rows count s u m = s u m ∙ table-length rows count

-- a choice word followed: to nothing where it has no transition

-- what an arrival says of the node that a transition leads to
arrives : (i : ℕ) {p : ℕ} {x : Target} (t : Table) (w s : Subset) → StepFound t w s x
    → p ≡ letter_of x.required → (number : NodeNumber) → number.0 ≡ i
    → Arrives (record { set = x.to; from = number; letter = p }) (worded (reached_by i (transition_with t w s)))
arrives i t w s f l number e = record {
  set_is = sym f.to_is;
  from_is = omega (arith, e);
  letter_is = sym (l ∙ ap letter_of f.required-is);
}

pub follow-some : {target : Option Target} {s : Target} {known capacity p r : ℕ} {area o area' o' : List ℕ} (number : NodeNumber)
    → target ≡ Some s → p ≡ letter_of s.required
    → known ≤ capacity → NodeAdded known capacity (record { set = s.to; from = number; letter = p }) area o area' o' r
    → Followed number.0 target known capacity area o area' o' r
follow-some {target} {s} {known} {capacity} {p} {r} {area} {o} {area'} {o'} number q c h ad = record {
  is = λ rows count from x f st. go rows count from x f (subst (TargetBy rows count x from) q st);
}
  where
    i : ℕ
    i = number.0

    go : (rows : List ℕ) (count from x : ℕ) → Formed rows count → TargetBy rows count x from (Some s)
        → (l : List ReachedNode) (v : Subset) (a : List ℕ) → NodesNoted capacity known a area o (map worded l) → ReachedSized count l
        → from ≡ word v → length v ≡ count
        → NodesNoted capacity r a area' o' (map worded (adds same_subset l (leads (table_of rows count) i v x)))
    go rows count from x f st l v a k sz e len =
        let t = table_of rows count in
        let w = choice_of t x in
        let z = a_target t w (saturate t w v) (st.is v len e) in
        let y = reached_by i (transition_with t w (saturate t w v)) in
        let one : leads t i v x ≡ y ∷ [] = ap (map (reached_by i)) z.exists in
        let long : length y.at ≡ count = to-length t w (saturate t w v) ∙ table-length rows count in
        subst⁻¹ (λ (ys : List ReachedNode). NodesNoted capacity r a area' o' (map worded (adds same_subset l ys))) one
        (keeps-one l k h y f.few sz long (arrives i t w (saturate t w v) z c number refl) ad)

-- the loop over the choice words: the nodes that the first x of them lead to from node i are in the area
pub record Expanding (rows : List ℕ) (count i from known capacity : ℕ) (area₀ o₀ : List ℕ) (all x : ℕ) (area o : List ℕ) : Type 0 where
  pub is : (l : List ReachedNode) (v : Subset) (a : List ℕ) → NodesNoted capacity known a area₀ o₀ (map worded l) → ReachedSized count l
      → from ≡ word v → length v ≡ count
      → NodesNoted capacity all a area o (map worded (led (table_of rows count) i v l x))

module _ {rows : List ℕ} {count i from known capacity all x : ℕ} {area₀ o₀ area o : List ℕ}
    (ex : Expanding rows count i from known capacity area₀ o₀ all x area o) where
  pub expand_turn : {target : Option Target} {r : ℕ} {area' o' : List ℕ} → Formed rows count → TargetBy rows count x from target
      → Followed i target all capacity area o area' o' r
      → Expanding rows count i from known capacity area₀ o₀ r (x + 1) area' o'
  expand_turn {target} {r} {area'} {o'} f st fo = record {
    is = λ l v a k sz e len.
        let t = table_of rows count in
        subst⁻¹ (λ (m : List ReachedNode). NodesNoted capacity r a area' o' (map worded m)) (led_more t i v l x)
        (fo.is rows count from x f st (led t i v l x) v a (ex.is l v a k sz e len)
        (of_table rows count (led_sized t i v l x (to-table rows sz))) e len);
  }

  -- all choice words, or the capacity is passed
  pub expand_end : {n : ℕ} → Formed rows count → known ≤ capacity → from ≡ eight area₀ (8 * i) → n ≡ ors (table_of rows count)
      → x ≤ 2 ^ n → (capacity < all) ⊎ (2 ^ n ≤ x) → Expanded rows count i known capacity area₀ o₀ area o all
  expand_end {n} f h e q k d = record { is = λ l m a b keeps sz. go l m a b keeps sz d }
    where
      go : (l : List ReachedNode) (m : ReachedNode) (a : List ℕ) → At l i m → NodesNoted capacity known a area₀ o₀ (map worded l)
          → ReachedSized count l
          → (capacity < all) ⊎ (2 ^ n ≤ x)
          → NodesNoted capacity all a area o (map worded (adds same_subset l (outs (table_of rows count) i m.at)))
      go l m a b keeps sz d =
          let t = table_of rows count in
          let v = m.at in
          let p : 2 ^ n ≡ 2 ^ ors t = ap (λ (j : ℕ). 2 ^ j) q in
          let now : NodesNoted capacity all a area o (map worded (led t i v l x)) =
          ex.is l v a keeps sz (e ∙ node-word l keeps h f.few sz b) (sz m (at_in b)) in
          subst (λ (r : List ReachedNode). NodesNoted capacity all a area o (map worded r)) (led_all t i v l)
          (elim d [
            | inl g ↦ led_full t i v l x (2 ^ ors t) (omega arith) now g
            | inr g ↦
                subst (λ (j : ℕ). NodesNoted capacity all a area o (map worded (led t i v l j))) {x = x} {y = 2 ^ ors t} (omega arith) now
          ])

-- the nodes after i turns
abbrev turned : Table → ℕ → List ReachedNode
turned t i = spread same_subset (onward_from t) i 0 (root_reached t ∷ [])

root-word : (t : Table) → 0 < length t → word (root t) ≡ 1
root-word t h = word_set (nothing t) 0 (omega (arith, length-map t (λ (o : Operator). false))) ∙ ap (λ (x : ℕ). bit_or x 1) (word_none t)

-- an area without nodes
keeps-none : (capacity : ℕ) (a o : List ℕ) → NodesNoted capacity 0 a a o []
keeps-none capacity a o = record {
  known_is = omega arith;
  area_is = ap (λ (ns : List ℕ). store ns a) (sym (take_all capacity [] (omega arith)));
  notes = λ j x b l. absurd (let h = at_lt b in omega arith);
}

pub find_start : {rows : List ℕ} {count capacity known : ℕ} {a o₀ area o : List ℕ} (number : NodeNumber) → Formed rows count
    → number.0 ≡ 0 → NodeAdded 0 capacity (record { set = 1; from = number; letter = 0 }) a o₀ area o known
    → Finding rows count capacity known 0 a area o
find_start {rows} {count} {capacity} {known} {a} {o₀} number f e ad =
    let t = table_of rows count in
    let is-root : Arrives (record { set = 1; from = number; letter = 0 }) (worded (root_reached t)) = record {
      set_is = root-word t (omega (arith, table-length rows count, f.some));
      from_is = sym e;
      letter_is = refl;
    } in
    record {
      found = root_reached t ∷ [];
      turns = refl;
      sized = λ x m. ap (λ (y : ReachedNode). length y.at) (Memᴰ.eq_of_singleton m) ∙ root-length t;
      others = λ j x b h. absurd (let l = at_lt b in omega arith);
      keeps = ad.is [] (worded (root_reached t)) a is-root (keeps-none capacity a o₀) (λ y m. absurd (Memᴰ.not-nil m));
    }

-- with the root there is one node
pub find_begun : {capacity known : ℕ} {a o₀ area slots o : List ℕ} (number : NodeNumber) → 1 ≤ capacity → number.0 ≡ 0
    → NodeAdded 0 capacity (record { set = 1; from = number; letter = 0 }) a o₀ area o known
    → (known ≤ capacity → SlotsMarked known area slots) → Begun capacity a area slots o
find_begun {capacity} {known} {a} {o₀} {area} {slots} {o} number h e ad marks = record {
  marked = subst (λ (n : ℕ). SlotsMarked n area slots) one (marks (omega (arith, one)));
  found = λ rows count f. subst (λ (n : ℕ). Finding rows count capacity n 0 a area o) one (find_start number f e ad);
}
  where
    one : known ≡ 1
    one =
        let root : ReachedWord = record { at = 1; parent = 0; label = 0 } in
        let is-root : Arrives (record { set = 1; from = number; letter = 0 }) root =
        record { set_is = refl; from_is = sym e; letter_is = refl } in
        omega (arith, (ad.is [] root a is-root (keeps-none capacity a o₀) (λ y m. absurd (Memᴰ.not-nil m))).known_is)

module _ {rows : List ℕ} {count capacity known i : ℕ} {a area o : List ℕ} (f : Finding rows count capacity known i a area o) where
  abbrev t : Table
  t = table_of rows count

  -- the turns, as the laws of the search have them
  after : AfterTurns same_subset (onward_from t) 0 (root_reached t ∷ []) i f.found
  after = record { begun = omega arith; list_is = ap (turned t) {x = i - 0} {y = i} (omega arith) ∙ f.turns }

  pub find_turn : {r : ℕ} {area' o' : List ℕ} → i < known → Expanded rows count i known capacity area o area' o' r
      → Finding rows count capacity r (i + 1) a area' o'
  find_turn {r} {area'} {o'} h ex =
      let l = f.found in
      let (n, b) = at_some l i (omega (arith, f.keeps.known_is, length-map l worded)) in
      record {
        found = adds same_subset l (outs t i n.at);
        turns = ap (turned t) {x = i + 1} {y = i + 1 - 0} (omega arith) ∙ (turns_next same_subset (onward_from t) after b).list_is;
        sized = subst (ReachedSized (length t)) (led_all t i n.at l) (led_sized t i n.at l (2 ^ ors t) f.sized);
        others = λ j x c m. elim (adds-at same_subset l (outs t i n.at) c) [ inl d ↦ f.others j x d m | inr d ↦ onward-parent n d ];
        keeps = ex.is l n a b f.keeps (of_table rows count f.sized);
      }
    where
      onward-parent : (n : ReachedNode) {x : ReachedNode} → Memᴰ x (outs t i n.at) → 0 < x.parent
      onward-parent n d =
          let (s, m, e) = Memᴰ.of_map (reached_by i) (transitions t n.at) d in
          omega (arith, ap (λ (y : ReachedNode). y.parent) e)

  -- a fuel that no loop outlasts, and that is enough for all nodes
  abbrev enough : ℕ
  enough = i + length (nodes t)

  pub find_full : capacity < known → NodesHeld capacity known a area (reachable t)
  find_full h =
      let (more, e) = turns_begin same_subset (onward_from t) after enough (omega arith) in
      let m = subst (λ (l : List ReachedNode). Matched l (nodes t)) e (nodes_match t enough (omega arith)) in
      subst (NodesHeld capacity known a area) (matched_sets t m) (keeps-holds (f.found ++ more) (keeps-more f.found f.keeps more h))

  -- no node is left to go on from
  module _ (over : known ≤ i) (low : i ≤ capacity) where
    found_all : Matched f.found (nodes t)
    found_all =
        let none_left : length f.found ≤ i = omega (arith, known-all f.found f.keeps (omega arith)) in
        subst (λ (l : List ReachedNode). Matched l (nodes t))
        (turns-done same_subset (onward_from t) after enough (omega arith) none_left)
        (nodes_match t enough (omega arith))

    pub find_end : NodesHeld capacity known a area (reachable t)
    find_end = subst (NodesHeld capacity known a area) (matched_sets t found_all) (keeps-holds f.found f.keeps)

    pub find_origins : Origins t o known
    find_origins =
        let all : known ≡ length f.found = known-all f.found f.keeps (omega arith) in
        subst⁻¹ (Origins t o) all
        (notes-origins t found_all f.others
        (λ j x b. f.keeps.notes j (worded x) (at_map worded b) (omega (arith, at_lt b))))
