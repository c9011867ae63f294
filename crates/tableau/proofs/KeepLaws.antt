-- The nodes in the area with their notes. While there is room, the area has every node and every node a note (`all_known`, `all-stored`);
-- the node of an arrival comes to the end unless its word is there (`add-known`, `add_new`, `add-full`); and once the capacity is reached,
-- nodes that come later change nothing (`keeps-longer`). Equal nodes have equal words, so the same is so for sets (`keeps-one`,
-- `keeps-more`). Assumes nothing.
use Rattle.std.proofs.Common.{◌≡◌, refl, sym, ap, subst, ◌∙◌, inl, inr, Bool, true, false, cond, ◌||◌, List, [], ◌∷◌, ◌++◌, map, ℕ, ◌+◌}
use Rattle.std.proofs.Common.{◌-◌, ◌*◌, ◌^◌, ◌≤◌, ◌<◌, min, arith, eqb, length, set, take, drop, length-append, length-set, take_all}
use Rattle.std.proofs.Common.{get_or-set_same, get_or-set_other}
use Rattle.std.proofs.Math.ListN.{length-map}
use Rattle.std.proofs.Math.Path.{subst⁻¹}
use Rattle.std.proofs.Math.Seq.{take-append-le}
use mathlib.Core.List.{map-append, map-map, Memᴰ}
use mathlib.Core.List.Memᴰ
use Rattle.base.specs.Lists.{member, At}
use Rattle.base.specs.Bits.{word}
use Rattle.base.specs.Bytes.{with_number}
use Rattle.base.specs.Spread.{seen, add, adds}
use Rattle.base.proofs.TestLaws.{eqb_flip}
use Rattle.base.proofs.At.{at_lt, at_get, at_map, at_before, at_split}
use Rattle.base.proofs.SpreadLaws.{adds-begins}
use Rattle.tableau.specs.Saturation.{Subset, same_subset}
use Rattle.tableau.specs.Area.{eight, store, words_at, NodesHeld, ReachedNode, ReachedWord, worded, ReachedSized, Arrives}
use Rattle.tableau.specs.Area.{with_note}
use Rattle.tableau.specs.Area.{NoteOf, NodesNoted, NodeAdded}
use Rattle.tableau.specs.declared.Arrival.{Arrival}
use Rattle.tableau.proofs.WordSets.{same_word}
use Rattle.tableau.proofs.AreaLaws.{WordsFit, eight-stored, words-stored, put-store}
use Rattle.tableau.proofs.SizeLaws.{set_small}

-- the words of the nodes
abbrev pub word_of : ReachedWord → ℕ
word_of x = x.at

abbrev pub words_of : List ReachedWord → List ℕ
words_of ws = map word_of ws

-- a node is there if its word is
seen-member : (k : ℕ) (ws : List ReachedWord) → seen eqb k ws ≡ member k (words_of ws)
seen-member k [] = refl
seen-member k (x ∷ ws) =
    ap (λ (b : Bool). b || seen eqb k ws) (eqb_flip x.at k) ∙ ap (λ (b : Bool). eqb k x.at || b) (seen-member k ws)

-- a note more, and the others stay
module _ (o : List ℕ) (j p l : ℕ) (room : 2 * j + 2 ≤ length o) where
  note_same : (x : ReachedWord) → p ≡ x.parent - 1 → l ≡ x.label → NoteOf (with_note o j p l) j x
  note_same x e f = record {
    parent_is = get_or-set_other (set o (2 * j) p) (2 * j + 1) (2 * j) l 0 (λ q. omega arith) ∙ get_or-set_same o (2 * j) p 0
        (omega arith) ∙ e;
    letter_is = get_or-set_same (set o (2 * j) p) (2 * j + 1) l 0 (omega (arith, length-set o (2 * j) p)) ∙ f;
  }

  note_other : (i : ℕ) (x : ReachedWord) → i < j → NoteOf o i x → NoteOf (with_note o j p l) i x
  note_other i x h n = record {
    parent_is = get_or-set_other (set o (2 * j) p) (2 * j + 1) (2 * i) l 0 (λ q. omega arith)
        ∙ get_or-set_other o (2 * j) (2 * i) p 0 (λ q. omega arith) ∙ n.parent_is;
    letter_is = get_or-set_other (set o (2 * j) p) (2 * j + 1) (2 * i + 1) l 0 (λ q. omega arith)
        ∙ get_or-set_other o (2 * j) (2 * i + 1) p 0 (λ q. omega arith) ∙ n.letter_is;
  }

module _ {capacity known : ℕ} {a area o : List ℕ} {ws : List ReachedWord} (k : NodesNoted capacity known a area o ws) where
  -- from the capacity on, what comes later changes nothing
  pub keeps-longer : {r : ℕ} (more : List ReachedWord) → capacity ≤ length ws → r ≡ min (length (ws ++ more)) (capacity + 1)
      → NodesNoted capacity r a area o (ws ++ more)
  keeps-longer more h e = record {
    known_is = e;
    area_is = k.area_is
        ∙ ap (λ (ns : List ℕ). store ns a)
        (sym (ap (take capacity) (map-append word_of ws more)
        ∙ take-append-le capacity (words_of ws) (words_of more) (omega (arith, length-map ws word_of))));
    notes = λ j x s l. k.notes j x (at_before ws more s (omega arith)) l;
  }

  -- where there is room for all, the area has every node
  module _ (fits : known ≤ capacity) where
    pub all_known : known ≡ length ws
    all_known = omega (arith, k.known_is)

    pub all-stored : area ≡ store (words_of ws) a
    all-stored =
        k.area_is
        ∙ ap (λ (ns : List ℕ). store ns a) (take_all capacity (words_of ws) (omega (arith, k.known_is, length-map ws word_of)))

    words_are : WordsFit (words_of ws) → words_at area 0 known ≡ words_of ws
    words_are small =
        ap (λ (n : ℕ). words_at area 0 n) (all_known ∙ sym (length-map ws word_of))
        ∙ ap (λ (b : List ℕ). words_at b 0 (length (words_of ws))) all-stored
        ∙ words-stored (words_of ws) (drop (8 * length (words_of ws)) a) small

    pub is_seen : (x : ℕ) → WordsFit (words_of ws) → seen eqb x ws ≡ member x (words_at area 0 known)
    is_seen x small = seen-member x ws ∙ ap (member x) (sym (words_are small))

    -- a node more
    keeps_new : {area' o' : List ℕ} (x : ReachedWord) (p l : ℕ) → known < capacity → 2 * capacity ≤ length o
        → area' ≡ with_number 8 area (8 * known) x.at → o' ≡ with_note o known p l → p ≡ x.parent - 1 → l ≡ x.label
        → NodesNoted capacity (known + 1) a area' o' (ws ++ (x ∷ []))
    keeps_new {area'} {o'} x p l h room e f q r = record {
      known_is = omega (arith, all_known, length-append ws (x ∷ []));
      area_is = e
          ∙ ap (λ (b : List ℕ). with_number 8 b (8 * known) x.at) all-stored
          ∙ ap (λ (n : ℕ). with_number 8 (store (words_of ws) a) (8 * n) x.at) (all_known ∙ sym (length-map ws word_of))
          ∙ put-store (words_of ws) a x.at
          ∙ ap (λ (ns : List ℕ). store ns a)
          (sym (ap (take capacity) (map-append word_of ws (x ∷ []))
          ∙ take_all capacity (words_of ws ++ (x.at ∷ []))
          (omega (arith, all_known, length-append (words_of ws) (x.at ∷ []), length-map ws word_of))));
      notes = λ j y s m. subst⁻¹ (λ (n : List ℕ). NoteOf n j y) f (noted j y s m);
    }
      where
        noted : (j : ℕ) (y : ReachedWord) → At (ws ++ (x ∷ [])) j y → j < capacity → NoteOf (with_note o known p l) j y
        noted j y s m =
            elim (at_split ws x s) [
              | inl b ↦ note_other o known p l (omega arith) j y (omega (arith, at_lt b, all_known)) (k.notes j y b m)
              | inr b ↦
                  subst⁻¹ (λ (z : ReachedWord). NoteOf (with_note o known p l) j z) b.1
                  (subst (λ (i : ℕ). NoteOf (with_note o known p l) i x) {x = known} {y = j} (omega (arith, b.0, all_known))
                  (note_same o known p l (omega arith) x q r))
            ]

-- the node of an arrival, by whether its word is among those known
module _ {area o : List ℕ} {known : ℕ} (s : Arrival) (capacity : ℕ) (fits : known ≤ capacity) where
  -- the test of the definition is that of the code
  tested : {a : List ℕ} {ws : List ReachedWord} {x : ReachedWord} {b : Bool} → NodesNoted capacity known a area o ws
      → ((y : ReachedWord) → Memᴰ y ws → y.at < 2 ^ 64) → Arrives s x → member s.set (words_at area 0 known) ≡ b
      → seen eqb x.at ws ≡ b
  tested {ws = ws} {x} k small e h =
      is_seen k fits x.at (λ n m. let (y, r, q) = Memᴰ.of_map word_of ws m in omega (arith, q, small y r))
      ∙ ap (λ (n : ℕ). member n (words_at area 0 known)) e.set_is ∙ h

  pub add-known : member s.set (words_at area 0 known) ≡ true → NodeAdded known capacity s area o area o known
  add-known h = record {
    is = λ ws x a e k small.
        subst⁻¹ (λ (b : Bool). NodesNoted capacity known a area o (cond b ws (ws ++ (x ∷ [])))) (tested k small e h) k;
  }

  pub add-full : member s.set (words_at area 0 known) ≡ false → capacity ≤ known → NodeAdded known capacity s area o area o (known + 1)
  add-full h l = record {
    is = λ ws x a e k small.
        subst⁻¹ (λ (b : Bool). NodesNoted capacity (known + 1) a area o (cond b ws (ws ++ (x ∷ [])))) (tested k small e h)
        (keeps-longer k (x ∷ []) (omega (arith, all_known k fits)) (omega (arith, all_known k fits, length-append ws (x ∷ []))));
  }

  pub add_new : member s.set (words_at area 0 known) ≡ false → known < capacity → 2 * capacity ≤ length o → {area' o' : List ℕ}
      → area' ≡ with_number 8 area (8 * known) s.set → o' ≡ with_note o known s.from.0 s.letter
      → NodeAdded known capacity s area o area' o' (known + 1)
  add_new h l room {area'} {o'} p q = record {
    is = λ ws x a e k small.
        subst⁻¹ (λ (b : Bool). NodesNoted capacity (known + 1) a area' o' (cond b ws (ws ++ (x ∷ [])))) (tested k small e h)
        (keeps_new k fits x s.from.0 s.letter l room (p ∙ ap (with_number 8 area (8 * known)) (sym e.set_is)) q
        (sym e.from_is) (sym e.letter_is));
  }

-- the search over sets: a node is known if its word is
word-seen : {count : ℕ} (l : List ReachedNode) (v : Subset) → ReachedSized count l → length v ≡ count
    → seen eqb (word v) (map worded l) ≡ seen same_subset v l
word-seen [] v s h = refl
word-seen (x ∷ l) v s h =
    rw (same_word x.at v (s x (Memᴰ.head refl) ∙ sym h), word-seen l v (λ y m. s y (Memᴰ.tail m)) h)

word-add : {count : ℕ} (l : List ReachedNode) (x : ReachedNode) → ReachedSized count l → length x.at ≡ count
    → add eqb (map worded l) (worded x) ≡ map worded (add same_subset l x)
word-add l x s h =
    ap (λ (b : Bool). cond b (map worded l) (map worded l ++ (worded x ∷ []))) (word-seen l x.at s h)
    ∙ by (seen same_subset x.at l)
  where
    by : (b : Bool) → cond b (map worded l) (map worded l ++ (worded x ∷ [])) ≡ map worded (cond b l (l ++ (x ∷ [])))
    by true = refl
    by false = sym (map-append worded l (x ∷ []))

module _ (l : List ReachedNode) {capacity known : ℕ} {a area o : List ℕ} (k : NodesNoted capacity known a area o (map worded l)) where
  -- past the capacity, what comes later changes nothing
  pub keeps-more : (more : List ReachedNode) → capacity < known → NodesNoted capacity known a area o (map worded (l ++ more))
  keeps-more more h =
      subst⁻¹ (NodesNoted capacity known a area o) (map-append worded l more)
      (keeps-longer k (map worded more) (omega (arith, k.known_is))
      (omega (arith, k.known_is, length-append (map worded l) (map worded more))))

  pub keeps-all : (ys : List ReachedNode) → capacity < known → NodesNoted capacity known a area o (map worded (adds same_subset l ys))
  keeps-all ys h =
      let (more, e) = adds-begins same_subset l ys in
      subst⁻¹ (λ (m : List ReachedNode). NodesNoted capacity known a area o (map worded m)) e (keeps-more more h)

  -- the area holds the sets
  pub keeps-holds : NodesHeld capacity known a area (map (λ (x : ReachedNode). x.at) l)
  keeps-holds = record {
    known_is = k.known_is
        ∙ ap (λ (n : ℕ). min n (capacity + 1)) (length-map l worded ∙ sym (length-map l (λ (x : ReachedNode). x.at)));
    area_is = k.area_is
        ∙ ap (λ (ns : List ℕ). store (take capacity ns) a)
        (map-map word_of worded l ∙ sym (map-map word (λ (x : ReachedNode). x.at) l));
  }

  -- where there is room for all, the area has every node
  module _ (fits : known ≤ capacity) where
    pub known-all : known ≡ length l
    known-all = all_known k fits ∙ length-map l worded

    pub node-word : {count i : ℕ} {x : ReachedNode} → count ≤ 48 → ReachedSized count l → At l i x → eight area (8 * i) ≡ word x.at
    node-word {i = i} {x} h s b =
        ap (λ (c : List ℕ). eight c (8 * i)) (all-stored k fits)
        ∙ eight-stored (words_of (map worded l)) (drop (8 * length (words_of (map worded l))) a) i (small h s)
        (omega (arith, at_lt there))
        ∙ at_get there 0
      where
        there : At (words_of (map worded l)) i (word x.at)
        there = at_map word_of (at_map worded b)

        small : {count : ℕ} → count ≤ 48 → ReachedSized count l → WordsFit (words_of (map worded l))
        small h s n m =
            let (w, r, q) = Memᴰ.of_map word_of (map worded l) m in
            let (y, p, e) = Memᴰ.of_map worded l r in
            omega (arith, q, ap word_of e, set_small y.at h (s y p))

    -- a node more
    pub keeps-one : {count r : ℕ} {area' o' : List ℕ} {s : Arrival} (x : ReachedNode) → count ≤ 48 → ReachedSized count l
        → length x.at ≡ count → Arrives s (worded x) → NodeAdded known capacity s area o area' o' r
        → NodesNoted capacity r a area' o' (map worded (add same_subset l x))
    keeps-one {count} {r} {area'} {o'} x c z h e ad =
        subst (NodesNoted capacity r a area' o') (word-add l x z h)
        (ad.is (map worded l) (worded x) a e k
        (λ y m. let (u, p, q) = Memᴰ.of_map worded l m in omega (arith, ap word_of q, set_small u.at c (z u p))))
