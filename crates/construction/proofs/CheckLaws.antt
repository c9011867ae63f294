-- Question 36. The test says what it means (`nodes_exactly`), and so: it is answered by yes exactly if building with this N, in this
-- workspace, would report this K and change nothing (`rebuilt_exactly`). What building leaves passes it (`built-nodes`). The code works the
-- nodes out over zeros of its own and compares (`check_many`, `check_other`, `check_same`). Assumes nothing.
use Rattle.std.proofs.Common.{◌≡◌, refl, sym, ap, subst, ◌∙◌, ◌↔◌, Result, Ok, Bool, true, false, ◌&&◌, List, [], ◌∷◌, ◌++◌, map}
use Rattle.std.proofs.Common.{append_assoc, ℕ, ◌+◌, ◌-◌, ◌≤◌, ◌<◌, length, take, drop, take-append-drop, arith, T, eqb, leb, leb→le}
use Rattle.std.proofs.Common.{le→leb, eqb→eq, le-leb, eq-eqb, ne_eqb}
use Rattle.std.proofs.Math.Dec.{eqb_refl}
use Rattle.std.proofs.lemmas.Bool.{lt-leb}
use Rattle.std.proofs.lemmas.List.{replicate-append-replicate}
use Rattle.std.specs.Cmp.Lexicographic.{pointwise}
use Rattle.base.specs.Bits.{word}
use Rattle.base.specs.Lists.{flat_map, alike}
use Rattle.base.proofs.AskLaws.{Asked, asked_le, passed}
use Rattle.base.proofs.BoolLaws.{to_T, of_T, and_left, and_right, and_both}
use Rattle.base.proofs.MemberLaws.{alike-sound, alike_refl}
use Rattle.formula.specs.Table.{Table}
use Rattle.tableau.specs.Inner.{table_of, Formed}
use Rattle.tableau.specs.Area.{bytes8, words_at, zeros, NodesHeld, reachable, SubsetsSized}
use Rattle.tableau.proofs.LoopLaws.{table-length}
use Rattle.tableau.proofs.AreaLaws.{WordsFit, words-stored}
use Rattle.tableau.proofs.NodeReads.{reachable-sized}
use Rattle.tableau.proofs.SizeLaws.{words_small}
use Rattle.construction.specs.Construction.{Construction, node_count, node_words, nodes_size, laid_out, construct, are_nodes}
use Rattle.construction.specs.Contract.{says, leaves}
use Rattle.construction.specs.declared.Question.TheVariants.{Nodes}
use Rattle.construction.specs.declared.Refusal.{Refusal}
use Rattle.construction.proofs.LayoutLaws.{words_are, words_count, laid_first, held-many, held-count, held-laid_out}

-- the library's test of two slices is the definition's
same_test : (xs ys : List ℕ) → pointwise eqb xs ys ≡ alike eqb xs ys
same_test [] [] = refl
same_test [] (y ∷ ys) = refl
same_test (x ∷ xs) [] = refl
same_test (x ∷ xs) (y ∷ ys) = ap (λ (b : Bool). eqb x y && b) (same_test xs ys)

-- K and the workspace's first bytes are those that building with N gives for a table.
pub record HasNodes (K N : ℕ) (w : List ℕ) (t : Table) : Type 0 where
  pub counted : K ≡ node_count t
  pub fits : node_count t ≤ N
  pub bytes_are : take (nodes_size N) w ≡ laid_out N (node_words t)

-- question 14 of building
construct-asked : (N : ℕ) (t : Table)
    → Asked (node_count t ≤ N) (Construction.refused Nodes) (λ o. o ≡ Construction.built (node_words t)) (construct N t)
unfolding construct
construct-asked N t = asked_le (node_count t) N (Construction.built (node_words t)) refl

same_count : {a b : ℕ} → ◌≡◌ {A = Result ℕ Refusal} (Ok a) (Ok b) → a ≡ b
same_count e = cc

module _ (K N : ℕ) (w : List ℕ) (t : Table) where
  abbrev fits? : Bool
  fits? = leb (node_count t) N

  abbrev counted? : Bool
  counted? = eqb K (node_count t)

  abbrev bytes? : Bool
  bytes? = alike eqb (take (nodes_size N) w) (laid_out N (node_words t))

  pub nodes_of : T (are_nodes K N w t) → HasNodes K N w t
  unfolding are_nodes
  nodes_of h =
      let r = and_right fits? (counted? && bytes?) h in
      record {
        counted = eqb→eq K (node_count t) (and_left counted? bytes? r);
        fits = leb→le (node_count t) N (and_left fits? (counted? && bytes?) h);
        bytes_are = alike-sound eqb eqb→eq _ _ (and_right counted? bytes? r);
      }

  pub nodes_in : HasNodes K N w t → T (are_nodes K N w t)
  unfolding are_nodes
  nodes_in h =
      and_both fits? (counted? && bytes?) (le→leb (node_count t) N h.fits)
      (and_both counted? bytes? (subst (λ (n : ℕ). T (eqb K n)) h.counted (eqb_refl K))
      (subst (λ (l : List ℕ). T (alike eqb (take (nodes_size N) w) l)) h.bytes_are
      (alike_refl eqb eqb_refl (take (nodes_size N) w))))

  -- Theorem: the test of question 36 is exact.
  pub nodes_exactly : (are_nodes K N w t ≡ true) ↔ HasNodes K N w t
  nodes_exactly = (λ e. nodes_of (to_T (are_nodes K N w t) e), λ h. of_T (are_nodes K N w t) (nodes_in h))

  -- Theorem: the answer is yes exactly if building with this N would report this K and leave this workspace as it is.
  module _ (room : nodes_size N ≤ length w) where
    rebuilt : HasNodes K N w t → (says (construct N t) ≡ Ok K) × (leaves N (construct N t) w ≡ w)
    rebuilt h =
        let e = passed (construct-asked N t) h.fits in (
          ap says e ∙ ap Ok (words_count t ∙ sym h.counted),
          ap (λ (o : Construction). leaves N o w) e
              ∙ ap (λ (l : List ℕ). l ++ drop (nodes_size N) w) (sym h.bytes_are)
              ∙ take-append-drop (nodes_size N) w,
        )

    unchanged : {o : Construction} → Asked (node_count t ≤ N) (Construction.refused Nodes) (λ o. o ≡ Construction.built (node_words t)) o
        → says o ≡ Ok K → leaves N o w ≡ w → HasNodes K N w t
    unchanged (Asked.answered-no n) e f = let z : ◌≡◌ {A = ℕ} 0 1 = cc in absurd (omega arith)
    unchanged (Asked.answered-yes q b) e f =
        let g : says (Construction.built (node_words t)) ≡ Ok K = ap says (sym b) ∙ e in
        let few : length (node_words t) ≤ N = omega (arith, words_count t) in
        record {
          counted = sym (same_count g) ∙ words_count t;
          fits = q;
          bytes_are =
              ap (take (nodes_size N)) (sym f ∙ ap (λ (o : Construction). leaves N o w) b)
              ∙ laid_first N (node_words t) few (drop (nodes_size N) w);
        }

    pub rebuilt_exactly : (are_nodes K N w t ≡ true) ↔ ((says (construct N t) ≡ Ok K) × (leaves N (construct N t) w ≡ w))
    rebuilt_exactly =
        (λ e. rebuilt (nodes_exactly.0 e), λ h. nodes_exactly.1 (unchanged (construct-asked N t) h.0 h.1))

  -- the code's check, which works the nodes out over zeros
  module _ {known : ℕ} {a area : List ℕ} (held : NodesHeld N known a area (reachable t)) where
    pub check_many : N < known → false ≡ are_nodes K N w t
    unfolding are_nodes
    check_many h = sym (ap (λ (b : Bool). b && (counted? && bytes?)) (lt-leb (node_count t) N (held-many t held h)))

    pub check_other : known ≤ N → (K ≡ known → ⊥) → eqb K known ≡ are_nodes K N w t
    unfolding are_nodes
    check_other h n =
        ne_eqb K known n
        ∙ sym (ap (λ (b : Bool). b && (counted? && bytes?)) (le-leb (node_count t) N (omega (arith, held-count t held h)))
        ∙ ap (λ (b : Bool). b && bytes?) (ne_eqb K (node_count t) (λ e. n (e ∙ sym (held-count t held h)))))

    pub check_same : known ≤ N → K ≡ known → (rest : List ℕ) → a ≡ zeros (nodes_size N) ++ rest → {b : Bool}
        → b ≡ pointwise eqb (take (nodes_size N) w) (take (nodes_size N) area) → b ≡ are_nodes K N w t
    unfolding are_nodes
    check_same h k rest z {b} e =
        e ∙ same_test (take (nodes_size N) w) (take (nodes_size N) area) ∙ ap (alike eqb (take (nodes_size N) w))
        (ap (take (nodes_size N)) (held-laid_out t held h rest z)
        ∙ laid_first N (node_words t) (omega (arith, words_count t, held-count t held h)) rest)
        ∙ sym (ap (λ (b : Bool). b && (counted? && bytes?)) (le-leb (node_count t) N (omega (arith, held-count t held h)))
        ∙ ap (λ (b : Bool). b && bytes?) (eq-eqb K (node_count t) (k ∙ held-count t held h)))

-- zeros of one's own, as many as there can be nodes
pub own_zeros : (N : ℕ) → nodes_size N ≤ 8192 → zeros 8192 ≡ zeros (nodes_size N) ++ zeros (8192 - nodes_size N)
own_zeros N h =
    ap zeros {x = 8192} {y = nodes_size N + (8192 - nodes_size N)} (omega arith)
    ∙ sym (replicate-append-replicate {A = ℕ} (nodes_size N) (8192 - nodes_size N) 0)

-- Theorem: what building leaves is answered by yes.
pub built-nodes : (N : ℕ) (w : List ℕ) (t : Table) → node_count t ≤ N
    → HasNodes (length (node_words t)) N (leaves N (Construction.built (node_words t)) w) t
built-nodes N w t h =
    record {
      counted = words_count t;
      fits = h;
      bytes_are = laid_first N (node_words t) (omega (arith, words_count t)) (drop (nodes_size N) w);
    }

-- the words of the nodes are in the workspace
pub has_words : {rows : List ℕ} {count K N : ℕ} {w : List ℕ} → Formed rows count → HasNodes K N w (table_of rows count)
    → words_at w 0 K ≡ map word (reachable (table_of rows count))
has_words {rows} {count} {K} {N} {w} f h =
    ap (λ (a : List ℕ). words_at a 0 K) whole
    ∙ ap (words_at (flat_map bytes8 ws ++ behind) 0) (h.counted ∙ sym (words_count t))
    ∙ words-stored ws behind (subst WordsFit (sym (words_are t)) (words_small f.few sized))
    ∙ words_are t
  where
    t : Table
    t = table_of rows count

    ws : List ℕ
    ws = node_words t

    behind : List ℕ
    behind = zeros (nodes_size N - nodes_size (length ws)) ++ drop (nodes_size N) w

    whole : w ≡ flat_map bytes8 ws ++ behind
    whole =
        sym (take-append-drop (nodes_size N) w)
        ∙ ap (λ (l : List ℕ). l ++ drop (nodes_size N) w) h.bytes_are
        ∙ append_assoc (flat_map bytes8 ws) (zeros (nodes_size N - nodes_size (length ws))) (drop (nodes_size N) w)

    sized : SubsetsSized count (reachable t)
    sized u m = reachable-sized t u m ∙ table-length rows count
