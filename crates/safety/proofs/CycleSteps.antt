-- The cycle is walked from its node: at each node by the first transition, in the order of choice words, to a node that is one step nearer.
-- On a shortest cycle a node is as near as the transitions left say, since a shorter way back would make a shorter cycle (`nearer`). So
-- there is such a transition (`some_step`), and no closed run as short has choice words that come before (`Walking`, `walked`): at the
-- first difference it takes a later word to a node that is as near. Assumes nothing.
use mathlib.Core.Path.{◌≡◌, refl, sym, ap, subst, subst⁻¹, ◌∙◌}
use mathlib.Core.Logic.{◌⊎◌, inl, inr}
use mathlib.Core.List.{List, [], ◌∷◌, ◌++◌, map, map-append, append-nil, append_assoc, Memᴰ}
use Prim.Native.Nat.{ℕ, suc, ◌+◌, ◌-◌, ◌*◌, ◌^◌, ◌≤◌, ◌<◌}
use native.Mathlib.Omega.{arith}
use native.Mathlib.Decide.{dec_lt}
use lib.ListN.{length, get_or, set, length-append, length-map, length-set}
use Rattle.base.specs.Bits.{word}
use Rattle.base.specs.Order.{Before, NoLater}
use Rattle.base.proofs.OrderLaws.{before_front, before-behind}
use Rattle.base.proofs.MemberLaws.{range_in}
use Rattle.distances.specs.Walks as numbers
use Rattle.formula.specs.Table.{Table}
use Rattle.tableau.specs.Saturation.{Subset}
use Rattle.tableau.specs.Transition.{Transition, letter, choice_word, ors, by_word, transitions}
use Rattle.tableau.specs.Foremost.{choice_words}
use Rattle.tableau.specs.Inner.{table_of}
use Rattle.tableau.specs.Area.{eight}
use Rattle.tableau.proofs.TransitionLaws.{word_of, word_in}
use Rattle.tableau.proofs.ChoiceWords.{word_is, transition_one}
use Rattle.theory.proofs.Walks.{Walk, along_walk, walk-join}
use Rattle.witness.specs.Letters.{written}
use Rattle.witness.proofs.WriteLaws.{written_none, written_on}
use Rattle.safety.specs.Inner.{FarAt, SomeStep, FirstStep, node, CycleThere, CycleWritten}
use Rattle.safety.specs.declared.Step.{Step}
use Rattle.safety.proofs.ShortCourse.{walk_along}
use Rattle.safety.proofs.NumberWalks.{sized, stands, that_node, target-sized, link_in, walk_of, walk_in}

-- The first transition of a walk of more than n transitions, and the walk behind it.
record Front (t : Table) (v u : Subset) (ss : List Transition) (n : ℕ) : Type 0 where
  first : Transition
  rest : List Transition
  whole : ss ≡ first ∷ rest
  member : Memᴰ first (transitions t v)
  onward : Walk t first.to rest u
  shorter : length rest ≡ n

walk_front : (t : Table) {v u : Subset} {ss : List Transition} (n : ℕ) → Walk t v ss u → length ss ≡ suc n → Front t v u ss n
walk_front t n Walk.stop h = absurd (omega arith)
walk_front t n (Walk.go {s = s} {ss} m w) h =
    record { first = s; rest = ss; whole = refl; member = m; onward = w; shorter = omega arith }

-- a walk of no transition stays where it is
walk_none : (t : Table) {v u : Subset} {ss : List Transition} → Walk t v ss u → length ss ≡ 0 → v ≡ u
walk_none t Walk.stop h = refl
walk_none t (Walk.go m w) h = absurd (omega arith)

no_length : (ys : List Transition) → length ys ≡ 0 → ys ≡ []
no_length [] h = refl
no_length (y ∷ ys) h = absurd (omega arith)

-- i transitions of the cycle of node v are done and written, and have come to node `at`; so many are left as lead back. A closed run as
-- short goes on from there like them, or has choice words that come later.
pub record Walking (t : Table) (known v L from : ℕ) (before after : List ℕ) (at i : ℕ) : Type 0 where
  pub done : List Transition
  pub rest : List Transition
  pub below : at < known
  pub there : Walk t (node t v) done (node t at)
  pub back : Walk t (node t at) rest (node t v)
  pub done-long : length done ≡ i
  pub rest-long : i + length rest ≡ L
  pub foremost : (zs : List Transition) → Walk t (node t v) zs (node t v) → length zs ≡ L
      → Before (choice_words t done) (choice_words t zs)
      ⊎ ((ys : List Transition) × (zs ≡ done ++ ys) × Walk t (node t at) ys (node t v))
  pub same_length : length after ≡ length before
  pub letters_are : after ≡ written from (map letter done) before

module _ (rows : List ℕ) (count : ℕ) {known : ℕ} {area slots steps : List ℕ} {v L : ℕ}
    (c : CycleThere rows count known area slots steps v L) where
  abbrev t : Table
  t = table_of rows count

  -- what is known of the numbers of the nodes
  size : (j : ℕ) → j < known → length (node t j) ≡ count
  size = sized rows count c.known_is c.words_are c.noted

  word_at : (j : ℕ) → j < known → eight area (8 * j) ≡ word (node t j)
  word_at = stands rows count c.known_is c.words_are c.noted

  to-nodes : {b n a : ℕ} → numbers.Walk c.relation b n a
      → (ss : List Transition) × (length ss ≡ n) × Walk t (node t a) ss (node t b)
  to-nodes x = walk_of rows count c.known_is c.words_are c.noted x

  -- a walk back to node v, as one over numbers
  to_numbers : {u : Subset} {ss : List Transition} → Walk t u ss (node t v) → (a : ℕ) → a < known → u ≡ node t a
      → numbers.Walk c.relation v (length ss) a
  to_numbers x a h e = walk_in rows count c.known_is c.words_are c.noted x a v h c.shortest.vertex e refl

  pub walk_start : (from : ℕ) (l : List ℕ) → Walking t known v L from l l v 0
  walk_start from l =
      let (ss, e, w) = to-nodes c.shortest.closed in
      record {
        done = [];
        rest = ss;
        below = c.shortest.vertex;
        there = Walk.stop;
        back = w;
        done-long = refl;
        rest-long = omega arith;
        foremost = λ zs z h. inr (zs, refl, z);
        same_length = refl;
        letters_are = sym (written_none from l);
      }

  module _ {from : ℕ} {before after : List ℕ} {at i : ℕ} (w : Walking t known v L from before after at i) (more : i < L) where
    -- how many steps are left behind the next one
    abbrev left : ℕ
    left = L - i - 1

    -- a node that the next transition leads to, and from which as many lead back, is so far away
    nearer : {s : Transition} {zs : List Transition} (b : ℕ) → b < known → Memᴰ s (transitions t (node t at)) → s.to ≡ node t b
        → Walk t s.to zs (node t v) → length zs ≡ left → get_or steps b 1024 ≡ left
    nearer {s} {zs} b h m e z l =
        c.shortest.distances.complete b left (omega arith)
        (record {
          walk =
              subst (λ (n : ℕ). numbers.Walk c.relation v n b) l (to_numbers z b h e);
          least = λ n x.
              let (qs, k, q) = to-nodes x in
              let round = walk-join t w.there (Walk.go m (subst⁻¹ (λ (u : Subset). Walk t u qs (node t v)) e q)) in
              let few =
              c.shortest.least v (length (w.done ++ (s ∷ qs)))
              (omega (arith, length-append w.done (s ∷ qs))) (to_numbers round v c.shortest.vertex refl) in
              omega (arith, few, length-append w.done (s ∷ qs), w.done-long);
        })

    -- the node that a transition leads to, by its number
    far_at : {s : Transition} {zs : List Transition} → Memᴰ s (transitions t (node t at)) → Walk t s.to zs (node t v)
        → length zs ≡ left → (b : ℕ) × FarAt area steps known (word s.to) left b
    far_at m z l =
        let (b, h, e, k) = link_in rows count c.known_is c.words_are c.noted at w.below m in (
          b,
          record {
            below = h;
            stands = word_at b h ∙ ap word (sym e);
            far_is = nearer b h m e z l;
          },
        )

    -- a transition that others lead back from is found
    not_astray : {s : Transition} {zs : List Transition} → Memᴰ s (transitions t (node t at)) → Walk t s.to zs (node t v)
        → length zs ≡ left → SomeStep rows count (eight area (8 * at)) area steps known left
    not_astray {s} m z l f =
        let (x, h, k) = word_of t (node t at) m in
        let (b, a) = far_at m z l in
        (f x h).is (node t at) (size at w.below) (word_at at w.below) s k b a

    pub some_step : SomeStep rows count (eight area (8 * at)) area steps known left
    some_step =
        let f = walk_front t left w.back (omega (arith, w.rest-long)) in
        not_astray f.member f.onward f.shorter

    -- the first such transition
    module _ {r : Step} (f : FirstStep rows count (eight area (8 * at)) area steps known left r) where
      abbrev here : Subset
      here = node t at

      gone : (s : Transition) × Memᴰ s (by_word t f.choice_word here) × (r.letter ≡ letter s)
          × FarAt area steps known (word s.to) left r.to.0
      gone =
          f.goes.is here (size at w.below) (word_at at w.below)

      abbrev step : Transition
      step = gone.0

      taken : Memᴰ step (transitions t here)
      taken = word_in t here f.choice_word f.small gone.1

      its_word : choice_word t step.choice ≡ f.choice_word
      its_word = word_is t here f.choice_word (range_in 0 (2 ^ ors t) f.choice_word (omega arith) (omega (arith, f.small))) gone.1

      leads : step.to ≡ node t r.to.0
      leads =
          let a = gone.3 in
          that_node rows count c.known_is c.words_are c.noted r.to.0 a.below
          (target-sized rows count c.known_is c.words_are c.noted w.below taken) (sym a.stands)

      words-on : choice_words t (w.done ++ (step ∷ [])) ≡ choice_words t w.done ++ (f.choice_word ∷ [])
      words-on =
          map-append _ w.done (step ∷ []) ∙ ap (λ (x : ℕ). choice_words t w.done ++ (x ∷ [])) its_word

      -- a closed run that went on alike takes the same transition, or one with a later word
      alike : (zs : List Transition) {ys : List Transition} → zs ≡ w.done ++ ys → Walk t here ys (node t v) → length ys ≡ suc left
          → Before (choice_words t (w.done ++ (step ∷ []))) (choice_words t zs)
          ⊎ ((qs : List Transition) × (zs ≡ (w.done ++ (step ∷ [])) ++ qs) × Walk t (node t r.to.0) qs (node t v))
      alike zs {ys} e z l =
          let g = walk_front t left z l in
          let (y, h, k) = word_of t here g.member in
          let q : choice_word t g.first.choice ≡ y =
          word_is t here y (range_in 0 (2 ^ ors t) y (omega arith) (omega arith)) k in
          let is : zs ≡ w.done ++ (g.first ∷ g.rest) = e ∙ ap (λ (l : List Transition). w.done ++ l) g.whole in
          elim (dec_lt f.choice_word y) [
            | yes d ↦ inl (later zs g.first g.rest is (omega (arith, q)))
            | no d ↦
                elim (dec_lt y f.choice_word) [
                  | yes j ↦
                      let (b, a) = far_at g.member g.onward g.shorter in
                      absurd ((f.first y j).is here (size at w.below) (word_at at w.below) g.first k b a)
                  | no j ↦
                      let same : step ≡ g.first = transition_one t here taken g.member (omega (arith, its_word, q)) in
                      inr (
                        g.rest,
                        is ∙ ap (λ (x : Transition). w.done ++ (x ∷ g.rest)) (sym same)
                            ∙ sym (append_assoc w.done (step ∷ []) g.rest),
                        subst (λ (u : Subset). Walk t u g.rest (node t v)) (ap (λ (x : Transition). x.to) (sym same) ∙ leads)
                            g.onward,
                      )
                ]
          ]
        where
          later : (zs : List Transition) (s : Transition) (ss : List Transition) → zs ≡ w.done ++ (s ∷ ss)
              → f.choice_word < choice_word t s.choice → Before (choice_words t (w.done ++ (step ∷ []))) (choice_words t zs)
          later zs s ss e d =
              subst⁻¹ (λ (l : List ℕ). Before l (choice_words t zs)) words-on
              (subst⁻¹ (Before (choice_words t w.done ++ (f.choice_word ∷ [])))
              (ap (choice_words t) e ∙ map-append _ w.done (s ∷ ss))
              (before-behind (choice_words t w.done) (f.choice_word ∷ []) (choice_words t (s ∷ ss)) (inl d)))

      -- what came before stays so
      later-on : (zs : List Transition) → Before (choice_words t w.done) (choice_words t zs)
          → Before (choice_words t (w.done ++ (step ∷ []))) (choice_words t zs)
      later-on zs b =
          subst⁻¹ (λ (l : List ℕ). Before l (choice_words t zs)) words-on
          (subst (Before (choice_words t w.done ++ (f.choice_word ∷ []))) (append-nil (choice_words t zs))
          (before_front (choice_words t w.done) (choice_words t zs) (f.choice_word ∷ []) [] b))

      -- Theorem: one transition more.
      pub walk-on : {after' : List ℕ} → from + L ≤ length before → after' ≡ set after (from + i) r.letter
          → Walking t known v L from before after' r.to.0 (i + 1)
      walk-on {after'} room e =
          let a = gone.3 in
          let (qs, k, q) = to-nodes (c.shortest.distances.sound r.to.0 left (omega arith) a.far_is).walk in
          record {
            done = w.done ++ (step ∷ []);
            rest = qs;
            below = a.below;
            there = walk-join t w.there (Walk.go taken (subst⁻¹ (λ (u : Subset). Walk t u [] (node t r.to.0)) leads Walk.stop));
            back = q;
            done-long = omega (arith, length-append w.done (step ∷ []), w.done-long);
            rest-long = omega arith;
            foremost = λ zs z l.
                elim (w.foremost zs z l) [
                  | inl b ↦ inl (later-on zs b)
                  | inr (ys, d, x) ↦
                      alike zs d x (omega (arith, ap length d, length-append w.done ys, w.done-long))
                ];
            same_length = ap length e ∙ length-set after (from + i) r.letter ∙ w.same_length;
            letters_are =
                e
                ∙ ap (λ (l : List ℕ). set l (from + i) r.letter) w.letters_are
                ∙ ap (λ (n : ℕ). set (written from (map letter w.done) before) n r.letter)
                {x = from + i} {y = from + length (map letter w.done)} (omega (arith, length-map w.done letter, w.done-long))
                ∙ written_on from (map letter w.done) before r.letter (omega (arith, length-map w.done letter, w.done-long))
                ∙ ap (λ (x : ℕ). written from (map letter w.done ++ (x ∷ [])) before) gone.2
                ∙ ap (λ (l : List ℕ). written from l before) (sym (map-append letter w.done (step ∷ [])));
          }

  -- Theorem: all of them are the first closed run as short.
  pub walked : {from : ℕ} {before after : List ℕ} {at i : ℕ} → Walking t known v L from before after at i → L ≤ i
      → CycleWritten t v L from before after
  walked {at = at} {i} w h =
      let none = walk_none t w.back (omega (arith, w.rest-long)) in
      let round = subst (Walk t (node t v) w.done) none w.there in
      let long : length w.done ≡ L = omega (arith, w.done-long, w.rest-long) in
      record {
        cycle = w.done;
        closed =
            record {
              back = walk_along t round;
              long = long;
              foremost = λ rs a l. no-later rs (w.foremost rs (along_walk t a) l) l long;
            };
        letters_are = w.letters_are;
      }
    where
      no-later : (rs : List Transition)
          → Before (choice_words t w.done) (choice_words t rs)
          ⊎ ((ys : List Transition) × (rs ≡ w.done ++ ys) × Walk t (node t at) ys (node t v))
          → length rs ≡ L → length w.done ≡ L → NoLater (choice_words t w.done) (choice_words t rs)
      no-later rs (inl b) l k = inr b
      no-later rs (inr (ys, e, x)) l k =
          let none = no_length ys (omega (arith, ap length e, length-append w.done ys)) in
          inl (sym (ap (choice_words t) (e ∙ ap (λ (l : List Transition). w.done ++ l) none ∙ append-nil w.done)))
