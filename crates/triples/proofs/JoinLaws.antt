-- A table of triples joined row by row. A row takes the triples by way of one operand, column by column, and so by way of all operands; the
-- table takes row after row. Assumes nothing.
use Rattle.std.proofs.Common.{◌≡◌, refl, sym, ap, ◌∙◌, Bool, false, ◌||◌, List, ℕ, ◌+◌, ◌*◌, ◌≤◌, ◌<◌, arith, add-one, length, set}
use Rattle.std.proofs.Common.{get_or-set_same, get_or-set_other}
use Rattle.std.proofs.Math.Bool.{or-false, or_assoc}
use Rattle.std.proofs.Math.Decide.{ℕ_discrete}
use Rattle.std.proofs.Math.Path.{subst⁻¹}
use Rattle.base.specs.Bits.{bit}
use Rattle.base.proofs.WordLaws.{no-bit}
use Rattle.profile_tables.specs.Triples.{those, join, either}
use Rattle.profile_tables.proofs.TriplesLaws.{Test, joins, those-same, join-those, either-those}
use Rattle.triples.specs.Inner.{bytes, bytes_from, bits, triples_in, Bits, one_way, by_way, RowWith, RowPut}

-- nothing is added
pub row_stays : (t : List ℕ) (k : ℕ) (q : (x g : ℕ) → Bool) → ((x g : ℕ) → x < 8 → g < k → q x g ≡ false) → RowWith t k q t
row_stays t k q none =
    record {
      row = λ x g a b. sym (ap (λ (p : Bool). bit (bytes t g) x || p) (none x g a b) ∙ or-false (bit (bytes t g) x));
      rest = λ i away. refl;
    }

-- one column more
pub row-store : (t u : List ℕ) (g v : ℕ) (q : (x g : ℕ) → Bool) → g < length u → RowWith t g q u
    → Bits v (λ x. bit (bytes u g) x || q x g) → RowWith t (g + 1) q (set u g v)
row-store t u g v q h r w =
    record {
      row = λ x j a b. at x j a b (ℕ_discrete j g);
      rest = λ k away. get_or-set_other u g k v 0 (λ e. omega arith) ∙ r.rest k (omega arith);
    }
  where
    at : (x j : ℕ) → x < 8 → j < g + 1 → Dec (j ≡ g) → bit (bytes (set u g v) j) x ≡ (bit (bytes t j) x || q x j)
    at x j a b (yes e) =
        subst⁻¹ (λ (k : ℕ). bit (bytes (set u g v) k) x ≡ (bit (bytes t k) x || q x k)) e
        (ap (λ (n : ℕ). bit n x) (get_or-set_same u g v 0 h) ∙ w x a ∙ ap (λ (n : ℕ). bit n x || q x g) (r.rest g (omega arith)))
    at x j a b (no d) = ap (λ (n : ℕ). bit n x) (get_or-set_other u g j v 0 d) ∙ r.row x j a (omega arith)

-- one operand more on the way
pub row-way : (w : ℕ → ℕ) (b t u v : List ℕ) (m : ℕ) → RowWith t 12 (by_way w b m) u → RowWith u 12 (one_way (w m) b m) v
    → RowWith t 12 (by_way w b (m + 1)) v
row-way w b t u v m p q =
    record {
      row = λ x g h k.
          let way : Bool = one_way (w m) b m x g in
          rw add-one
          (q.row x g h k ∙ ap (λ (s : Bool). s || way) (p.row x g h k) ∙ or_assoc (bit (bytes t g) x) (by_way w b m x g) way);
      rest = λ i away. q.rest i away ∙ p.rest i away;
    }

-- one byte more of a row
pub put-start : (t : List ℕ) (f : ℕ) (row : List ℕ) → RowPut t f 0 row t
put-start t f row = record { put = λ g h. absurd (omega arith); rest = λ i away. refl }

pub put-more : (t u row : List ℕ) (f g i v : ℕ) → i ≡ f * 12 + g → i < length u → v ≡ bytes row g → RowPut t f g row u
    → RowPut t f (g + 1) row (set u i v)
put-more t u row f g i v p h e r =
    record {
      put = λ j l. at j l (ℕ_discrete j g);
      rest = λ k away. get_or-set_other u i k v 0 (λ e. away (omega arith) (omega arith)) ∙ r.rest k (λ l m. away l (omega arith));
    }
  where
    at : (j : ℕ) → j < g + 1 → Dec (j ≡ g) → bytes (set u i v) (f * 12 + j) ≡ bytes row j
    at j l (yes q) =
        ap (bytes (set u i v)) {x = f * 12 + j} {y = i} (omega arith) ∙ get_or-set_same u i v 0 h ∙ e ∙ ap (bytes row) (sym q)
    at j l (no d) = get_or-set_other u i (f * 12 + j) v 0 (λ q. d (omega arith)) ∙ r.put j (omega arith)

-- a table with two others joined, all three made by tests
pub either-join : (n : ℕ) (p q r : Test)
    → either n (those n p) (join n (those n q) (those n r)) ≡ those n (λ f x g. p f x g || joins n q r f x g)
either-join n p q r = ap (either n (those n p)) (join-those n q r) ∙ either-those n p (joins n q r)

-- row f of a joined with b
abbrev pub way_test : (a b : List ℕ) (n f x g : ℕ) → Bool
way_test a b n f = by_way (bytes_from a (f * 12)) b n

-- the first k rows of t are those of a joined with b
abbrev pub JoinedTo : (n : ℕ) (a b : List ℕ) (k : ℕ) (t : List ℕ) → Type 0
JoinedTo n a b k t = (f x g : ℕ) → f < k → x < 8 → g < n → bits (bytes t) f x g ≡ way_test a b n f x g

module _ (n : ℕ) (a b : List ℕ) where
  -- one row more: nothing, with row f of a joined with b
  pub joined-more : (t z row u : List ℕ) (f : ℕ) → n ≤ 12 → JoinedTo n a b f t → ((g : ℕ) → g < 12 → bytes z g ≡ 0)
      → RowWith z 12 (way_test a b n f) row → RowPut t f 12 row u → JoinedTo n a b (f + 1) u
  joined-more t z row u f h p none r w i x j hi hx hj = at (ℕ_discrete i f)
    where
      here : bits (bytes u) f x j ≡ way_test a b n f x j
      here =
          ap (λ (v : ℕ). bit v x) (w.put j (omega arith))
          ∙ r.row x j hx (omega arith)
          ∙ ap (λ (v : Bool). v || way_test a b n f x j) (ap (λ (v : ℕ). bit v x) (none j (omega arith)) ∙ no-bit x)

      at : Dec (i ≡ f) → bits (bytes u) i x j ≡ way_test a b n i x j
      at (yes e) = subst⁻¹ (λ (k : ℕ). bits (bytes u) k x j ≡ way_test a b n k x j) e here
      at (no d) = ap (λ (v : ℕ). bit v x) (w.rest (i * 12 + j) (λ k m. d (omega arith))) ∙ p i x j (omega arith) hx hj

  -- all rows
  pub joined-all : (t : List ℕ) → JoinedTo n a b n t → triples_in n t ≡ join n (triples_in n a) (triples_in n b)
  joined-all t p = those-same n (bits (bytes t)) (way_test a b n) p ∙ sym (join-those n (bits (bytes a)) (bits (bytes b)))
