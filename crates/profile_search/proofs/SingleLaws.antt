-- The profiles of one transition. A word below 2^count is the word of its set (`subset_word`), so the number of a node in the area is its
-- number in the definition (`find_number`), and one choice word gives the definition's profile or none (`single-some`,
-- `single-nowhere`). The nodes stay while records are added behind them (`given-kept`). All choice words make the profiles of a node
-- (`of_turn`, `of_stop`, `of_done`), and all nodes but the root those of one transition (`all_turn`, `all_stop`, `all_done`). Assumes
-- nothing.
use Rattle.std.proofs.Common.{◌≡◌, refl, sym, ap, subst, ◌∙◌, Bool, false, cond, List, [], ◌∷◌, ◌++◌, map, ℕ, zero, suc, ◌+◌, ◌-◌, ◌*◌}
use Rattle.std.proofs.Common.{◌^◌, ◌≤◌, ◌<◌, Option, None, Some, zero-add, arith, lt-ltb, eqb, length, get_or}
use Rattle.std.proofs.Math.Path.{subst⁻¹}
use mathlib.Core.List.{Memᴰ}
use Rattle.base.specs.Bits.{bit, word}
use Rattle.base.specs.Lists.{range, flat_map, index, tail}
use Rattle.base.specs.Spread.{add, adds}
use Rattle.base.proofs.TestLaws.{eqb_flip}
use Rattle.base.proofs.IndexLaws.{index_same}
use Rattle.base.proofs.AppendLaws.{map-flat_map}
use Rattle.base.proofs.NumberLaws.{values_length, values_at}
use Rattle.base.proofs.ShiftLaws.{same_low_bits}
use Rattle.base.proofs.WordLaws.{word-bit, word_lt, word_inj}
use Rattle.letters.specs.Requirements.{letter_of}
use Rattle.formula.specs.Table.{Table}
use Rattle.tableau.specs.Saturation.{Subset, same_subset, saturate}
use Rattle.tableau.specs.Transition.{ors, choice_of, Transition, by_word, transitions}
use Rattle.tableau.specs.Inner.{table_of, LeadsNowhere, TargetBy}
use Rattle.tableau.specs.Area.{eight, words_at, lookup, SubsetsSized}
use Rattle.tableau.specs.declared.NodeNumber.{NodeNumber}
use Rattle.tableau.specs.declared.Target.{Target}
use Rattle.tableau.proofs.TransitionLaws.{transition_with, to-length, transitions-by_word, word_in}
use Rattle.tableau.proofs.WordSets.{same_word}
use Rattle.tableau.proofs.LoopLaws.{table-length}
use Rattle.tableau.proofs.TargetLaws.{StepFound, a_target}
use Rattle.tableau.proofs.SizeLaws.{at-sized}
use Rattle.tableau.proofs.NodeReads.{WordsKept, kept_at, word_of_node, eight-same, words_same}
use Rattle.profile_tables.specs.Marks.{triples}
use Rattle.profile_tables.specs.Runs.{FoundProfile as Item, same_profile, number_of, single_of, singles_of, singles_from, singles}
use Rattle.triples.specs.Inner.{triples_in}
use Rattle.traces.specs.Inner.{TriplesOf}
use Rattle.profile_search.specs.declared.placed.Store.{Store}
use Rattle.profile_search.specs.Stored.{found_of, stored, StoreFits, BytesBetween, Chained, Grown, AddedTo, ProfilesAdded}
use Rattle.profile_search.specs.Singles.{subset_of, node_in, nodes_in, singles_by, SearchInput}
use Rattle.profile_search.proofs.GrowLaws.{grown-still, with_first, turn_more, turn_stop}
use Rattle.profile_search.proofs.BucketLaws.{chained-none}
use Rattle.profile_search.proofs.TurnLaws.{grown-same, grown_to-same}

-- sets and their words
pub subset_length : (count w : ℕ) → length (subset_of count w) ≡ count
subset_length count w = values_length (bit w) 0 count

pub subset_word : (count w : ℕ) → w < 2 ^ count → word (subset_of count w) ≡ w
subset_word count w h =
    same_low_bits count (word (subset_of count w)) w
    (omega (arith, word_lt (subset_of count w), ap (λ (n : ℕ). 2 ^ n) (subset_length count w))) h
    (λ k l. word-bit (subset_of count w) k ∙ values_at (bit w) 0 count k false l ∙ ap (bit w) (zero-add k))

pub word_subset : (count : ℕ) (v : Subset) → length v ≡ count → subset_of count (word v) ≡ v
word_subset count v h =
    word_inj (subset_of count (word v)) v (subset_length count (word v) ∙ sym h)
    (subset_word count (word v) (omega (arith, word_lt v, ap (λ (n : ℕ). 2 ^ n) h)))

-- the number of a node
find_number : (count : ℕ) (a : List ℕ) (n : ℕ) (v : Subset) → length v ≡ count → ((j : ℕ) → j < n → eight a (8 * j) < 2 ^ count)
    → index (eqb (word v)) (words_at a 0 n) ≡ number_of (map (subset_of count) (words_at a 0 n)) v
find_number count a n v h f =
    index_same (eqb (word v)) (λ u. same_subset u v) (subset_of count) (words_at a 0 n)
    (λ w m.
    eqb_flip (word v) w
    ∙ ap (λ (x : ℕ). eqb x (word v)) (sym (subset_word count w (word_low w m)))
    ∙ same_word (subset_of count w) v (subset_length count w ∙ sym h))
  where
    word_low : (w : ℕ) → Memᴰ w (words_at a 0 n) → w < 2 ^ count
    word_low w m =
        let (j, l, e) = word_of_node a n m in
        subst (λ (x : ℕ). x < 2 ^ count) e (f j l)

-- the nodes of a list that stands in the area
subsets_are : (count : ℕ) (l : List Subset) → SubsetsSized count l → map (subset_of count) (map word l) ≡ l
subsets_are count [] s = refl
subsets_are count (v ∷ l) s = rw (word_subset count v (s v (Memᴰ.head refl)), subsets_are count l (λ u m. s u (Memᴰ.tail m)))

module _ {count : ℕ} {l : List Subset} {area : List ℕ} (s : SubsetsSized count l) (k : WordsKept l area) where
  pub nodes_in_are : nodes_in count area (length l) ≡ l
  nodes_in_are = ap (map (subset_of count)) k.words ∙ subsets_are count l s

  pub node_in_are : (i : ℕ) → i < length l → node_in count area i ≡ get_or l i []
  node_in_are i h = ap (subset_of count) (kept_at k i h) ∙ word_subset count (get_or l i []) (at-sized count l i s h)

  pub node-sets : (i : ℕ) → i < length l → eight area (8 * i) < 2 ^ count
  node-sets i h =
      omega (arith, kept_at k i h, word_lt (get_or l i []), ap (λ (n : ℕ). 2 ^ n) (at-sized count l i s h))

-- what the answer to a lookup says, if there is such a node
module _ (nodes n : ℕ) (low : n < nodes) where
  answer : lookup nodes n ≡ Some (record { 0 = n })
  answer =
      let there : Option NodeNumber = Some (record { 0 = n }) in
      ap (λ (b : Bool). cond b there None) (lt-ltb n nodes low)

  not_absent : lookup nodes n ≡ None → ⊥
  not_absent e =
      let h = answer in
      let z : ◌≡◌ {A = ℕ} 0 1 = cc in
      omega arith

  the_number : (last : NodeNumber) → lookup nodes n ≡ Some last → last.0 ≡ n
  the_number last e = let h = answer in cc

-- all choice words make the transitions of a node, and all nodes from i on theirs
all-choices : (t : Table) (vs : List Subset) (i : ℕ) (v : Subset)
    → flat_map (singles_by t vs i v) (range 0 (2 ^ ors t)) ≡ singles_of t vs i v
unfolding triples
all-choices t vs i v =
    sym (ap (map (single_of t vs i v)) (transitions-by_word t v)
    ∙ map-flat_map (single_of t vs i v) (λ (x : ℕ). by_word t x v) (range 0 (2 ^ ors t)))

all-nodes : (t : Table) (vs : List Subset) (count : ℕ) (a : List ℕ) (i n : ℕ)
    → singles_from t vs i (map (subset_of count) (words_at a i n)) ≡ flat_map (λ j. singles_of t vs j (node_in count a j)) (range i n)
unfolding triples
all-nodes t vs count a i zero = refl
all-nodes t vs count a i (suc n) = ap (λ (l : List Item). singles_of t vs i (node_in count a i) ++ l) (all-nodes t vs count a (suc i) n)

-- a list of `had` records with what the first choice words of node i give, and what the nodes from 1 up to i give
abbrev pub of_first : Table → (count : ℕ) → Store → (nodes : ℕ) → List ℕ → (i had : ℕ) → ℕ → List Item
of_first t count s nodes a i had = with_first (stored s a had) (singles_by t (nodes_in count a nodes) i (node_in count a i)) 0

abbrev pub node-singles : Table → (count nodes : ℕ) → List ℕ → ℕ → List Item
node-singles t count nodes a j = singles_of t (nodes_in count a nodes) j (node_in count a j)

abbrev pub all_first : Table → (count nodes : ℕ) → List ℕ → ℕ → List Item
all_first t count nodes a i = with_first [] (node-singles t count nodes a) 1 (i - 1)

-- the nodes stay while later bytes change
module _ {rows : List ℕ} {count : ℕ} {s : Store} {nodes : ℕ} {a : List ℕ} (g : SearchInput rows count s nodes a) where
  module _ {b : List ℕ} {from to : ℕ} (c : BytesBetween from to a b) (behind : s.base ≤ from) where
    node_kept : (i : ℕ) → i < nodes → eight b (8 * i) ≡ eight a (8 * i)
    node_kept i h = eight-same a b (8 * i) (λ k l. c.below k (omega (arith, g.behind)))

    pub from-kept : {from : ℕ} (i : ℕ) → i < nodes → from ≡ eight a (8 * i) → from ≡ eight b (8 * i)
    from-kept i h e = e ∙ sym (node_kept i h)

    pub node_in-kept : (i : ℕ) → i < nodes → node_in count b i ≡ node_in count a i
    node_in-kept i h = ap (subset_of count) (node_kept i h)

    pub nodes_in-kept : nodes_in count b nodes ≡ nodes_in count a nodes
    nodes_in-kept = ap (map (subset_of count)) (words_same a b 0 nodes (λ k l. c.below k (omega (arith, g.behind))))

    pub given-kept : SearchInput rows count s nodes b
    given-kept = record {
      fits = subst⁻¹ (StoreFits s) c.same_length g.fits;
      nexts = g.nexts;
      some = g.some;
      few = g.few;
      behind = g.behind;
      sets = λ i h. subst⁻¹ (λ (w : ℕ). w < 2 ^ count) (node_kept i h) (g.sets i h);
      closed = λ i h x m.
          subst⁻¹ (λ (us : List Subset). number_of us x.to < nodes) nodes_in-kept
          (g.closed i h x (subst (λ (u : Subset). Memᴰ x (transitions (table_of rows count) u)) (node_in-kept i h) m));
    }

  abbrev t : Table
  t = table_of rows count

  abbrev vs : List Subset
  vs = nodes_in count a nodes

  -- one choice word
  module _ (i x : ℕ) (h : i < nodes) where
    abbrev v : Subset
    v = node_in count a i

    abbrev w : Subset
    w = choice_of t x

    long : length v ≡ count
    long = subset_length count (eight a (8 * i))

    node-is : eight a (8 * i) ≡ word v
    node-is = sym (subset_word count (eight a (8 * i)) (g.sets i h))

    pub single-nowhere : {from had : ℕ} → from ≡ eight a (8 * i) → had ≤ s.capacity → Chained s a had → LeadsNowhere rows count from x
        → ProfilesAdded s had a had a (singles_by t vs i v x)
    single-nowhere {had = had} f l k n =
        grown-same (ap (λ (ys : List Transition). adds same_profile (stored s a had) (map (single_of t vs i v) ys))
        (sym (n.is v long (f ∙ node-is)))) (grown-still s had a l k)

    module _ {from : ℕ} {target : Target} (choice : x < 2 ^ ors t) (f : from ≡ eight a (8 * i))
        (st : TargetBy rows count x from (Some target))
      where
        found : StepFound t w (saturate t w v) target
        found = a_target t w (saturate t w v) (st.is v long (f ∙ node-is))

        -- the transition that it is
        abbrev y : Transition
        y = transition_with t w (saturate t w v)

        -- where the area has its node
        abbrev found_number : ℕ
        found_number = index (eqb target.to) (words_at a 0 nodes)

        found_number_is : found_number ≡ number_of vs y.to
        found_number_is =
            ap (λ (z : ℕ). index (eqb z) (words_at a 0 nodes)) found.to_is
            ∙ find_number count a nodes y.to (to-length t w (saturate t w v) ∙ table-length rows count) (λ j m. g.sets j m)

        found_number_low : found_number < nodes
        found_number_low =
            subst⁻¹ (λ (n : ℕ). n < nodes) found_number_is
            (g.closed i h y (word_in t v x choice (subst⁻¹ (Memᴰ y) found.exists (Memᴰ.head refl))))

        -- it has one
        pub single-there : {q : Option NodeNumber} → q ≡ lookup nodes found_number → q ≡ None → ⊥
        single-there e n = not_absent nodes found_number found_number_low (sym e ∙ n)

        pub single-last : {q : Option NodeNumber} (last : NodeNumber) → q ≡ lookup nodes found_number → q ≡ Some last
            → last.0 ≡ number_of vs y.to
        single-last last e n = the_number nodes found_number found_number_low last (sym e ∙ n) ∙ found_number_is

        pub single-some : {choice letter : ℕ} {number last : NodeNumber} (had : ℕ) (q : Option ℕ) (d triple_set : List ℕ) → number.0 ≡ i
            → last.0 ≡ number_of vs y.to → letter ≡ letter_of target.required → choice ≡ word w
            → TriplesOf rows count choice from triple_set
            → AddedTo s had a q d (found_of (record { first = number; last = last; parent = None; letter = letter })
            (triples_in s.n triple_set) ∷ [])
            → AddedTo s had a q d (singles_by t vs i v x)
        single-some had q d triple_set e l z c k m =
            let same : triples_in s.n triple_set ≡ triples t v w =
            ap (λ (n : ℕ). triples_in n triple_set) g.nexts ∙ k v w (f ∙ node-is) c in
            let u = z ∙ ap letter_of found.required-is in
            grown_to-same s had a q d
            ((λ j. add same_profile (stored s a had)
            (record { at = record { first = e j; last = l j; triple_set = same j }; parent = 0; label = u j }))
            ∙ ap (λ (ys : List Transition). adds same_profile (stored s a had) (map (single_of t vs i v) ys)) (sym found.exists))
            m

  -- the loop over the choice words of node i, with a store of `had` records
  module _ (i had : ℕ) where
    abbrev first : ℕ → List Item
    first = of_first t count s nodes a i had

    of_all : first (2 ^ ors t) ≡ adds same_profile (stored s a had) (singles_of t vs i (node_in count a i))
    of_all = ap (adds same_profile (stored s a had)) (all-choices t vs i (node_in count a i))

    pub of_turn : {all q : ℕ} {b d : List ℕ} (x : ℕ) → i < nodes → all ≤ s.capacity → Grown s had a all b (first x)
        → ProfilesAdded s all b q d (singles_by t (nodes_in count b nodes) i (node_in count b i) x)
        → Grown s had a q d (first (x + 1))
    of_turn {all} {b = b} x h l m n =
        turn_more (stored s a had) (singles_by t vs i (node_in count a i)) 0 x l m
        (grown-same
        (ap (adds same_profile (stored s b all))
        ((λ j. singles_by t (nodes_in-kept m.elsewhere (omega arith) j) i (node_in-kept m.elsewhere (omega arith) i h j) x)
        ∙ ap (singles_by t vs i (node_in count a i)) (sym (zero-add x))))
        n)

    pub of_stop : {all : ℕ} {b : List ℕ} (x end : ℕ) → end ≡ 2 ^ ors t → s.capacity < all → x ≤ end → Grown s had a all b (first x)
        → ProfilesAdded s had a all b (singles_of t vs i (node_in count a i))
    of_stop x end e l k m = grown-same of_all
        (turn_stop (stored s a had) (singles_by t vs i (node_in count a i)) 0 x (2 ^ ors t) l (omega arith) m)

    pub of_done : {all : ℕ} {b : List ℕ} (x end : ℕ) → end ≡ 2 ^ ors t → x ≤ end → end ≤ x → Grown s had a all b (first x)
        → ProfilesAdded s had a all b (singles_of t vs i (node_in count a i))
    of_done x end e k l m = grown-same (ap (λ (n : ℕ). first n) {x = x} {y = 2 ^ ors t} (omega arith) ∙ of_all) m

  -- the loop over the nodes: those before i are done
  abbrev each : ℕ → List Item
  each = node-singles t count nodes a

  abbrev before : ℕ → List Item
  before = all_first t count nodes a

  all_is : before nodes ≡ singles t vs
  unfolding singles
  all_is =
      ap (adds same_profile [])
      (sym (ap (λ (n : ℕ). singles_from t vs 1 (tail (nodes_in count a n))) {x = nodes} {y = suc (nodes - 1)} (omega (arith, g.some))
      ∙ all-nodes t vs count a 1 (nodes - 1)))

  pub all_start : Grown s 0 a 0 a (before 1)
  unfolding stored
  all_start = grown-still s 0 a (omega arith) (chained-none s a)

  pub all_turn : {all q : ℕ} {b d : List ℕ} (i : ℕ) → 0 < i → i < nodes → all ≤ s.capacity → Grown s 0 a all b (before i)
      → ProfilesAdded s all b q d (singles_of t (nodes_in count b nodes) i (node_in count b i))
      → Grown s 0 a q d (before (i + 1))
  all_turn {all} {b = b} i o h l m n =
      grown-same (ap (λ (k : ℕ). with_first [] each 1 k) {x = i - 1 + 1} {y = i + 1 - 1} (omega arith))
      (turn_more [] each 1 (i - 1) l m
      (grown-same
      (ap (adds same_profile (stored s b all))
      ((λ j. singles_of t (nodes_in-kept m.elsewhere (omega arith) j) i (node_in-kept m.elsewhere (omega arith) i h j))
      ∙ ap each {x = i} {y = 1 + (i - 1)} (omega arith)))
      n))

  pub all_stop : {all : ℕ} {b : List ℕ} (i : ℕ) → s.capacity < all → i ≤ nodes → Grown s 0 a all b (before i)
      → Grown s 0 a all b (singles t vs)
  all_stop i l k m = grown-same all_is (turn_stop [] each 1 (i - 1) (nodes - 1) l (omega arith) m)

  pub all_done : {all : ℕ} {b : List ℕ} (i : ℕ) → i ≤ nodes → nodes ≤ i → Grown s 0 a all b (before i) → Grown s 0 a all b (singles t vs)
  all_done i k l m = grown-same (ap (λ (n : ℕ). before n) {x = i} {y = nodes} (omega arith) ∙ all_is) m
