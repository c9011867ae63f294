-- A pass takes one position after another, and at each one listed bit after another, which it moves where its operator says so. At each
-- step bits only leave the value g; and if the operators keep some sets, then no bit goes past them, since an operator is monotone and
-- what it says of bits that are not past the sets is not past what it says of the sets. Assumes nothing.
use Rattle.std.proofs.Common.{◌≡◌, refl, sym, ap, subst, ◌∙◌, Bool, true, false, not, cond, ◌||◌, List, [], ℕ, ◌+◌, ◌≤◌, ◌<◌, arith, bit_or}
use Rattle.std.proofs.Common.{bit_and, eqb, ◌&&◌, ◌-◌, ◌%◌, ◌^◌, zero, suc, w64}
use Rattle.std.proofs.Common.{pow_mono, length, get_or, take, set, length-set, get_or-set_other, get_or-take, length-take-le, eqb-true}
use Rattle.std.specs.Int.{bit_at, bit_not}
use Rattle.std.proofs.lemmas.Nat.Bits.{bit_at_not}
use Rattle.std.proofs.Math.Nat.{div-eq_of_lt}
use native.Mathlib.Decide.{dec_lt}
use Rattle.base.specs.Bits.{bit}
use Rattle.base.proofs.BitLaws.{bit-or, bit-and}
use Rattle.formula.specs.Table.{Operator}
use Rattle.formula.specs.Rows.{operator_at}
use Rattle.lasso.specs.Lasso.{Lasso, leaf_at, joined}
use Rattle.lasso.specs.Inner.{after, said, local, Names, Moves, Turned, PassMade}
use Rattle.lasso.proofs.CodeSweep.{by_word}
use Rattle.lasso.proofs.CodeColumns.{after-below}
use Rattle.lasso.proofs.Moves.{moves_refl, moves_trans, moves-joined, moves-on, moves_both}

-- operators are monotone
said-moves : (g : Bool) (op : Operator) (letter hi : ℕ) (a b x y : ℕ → Bool) → Names hi op → ((k : ℕ) → k < hi → Moves g (a k) (b k))
    → ((k : ℕ) → k < hi → Moves g (x k) (y k)) → Moves g (said op letter a x) (said op letter b y)
said-moves g (Operator.leaf l) letter hi a b x y n h t = moves_refl g (leaf_at l letter)
said-moves g (Operator.variable m) letter hi a b x y n h t = h m n
said-moves g (Operator.pair o l r) letter hi a b x y n h t = moves-joined g o (a l) (b l) (a r) (b r) (h l n.0) (h r n.1)
said-moves g (Operator.next l) letter hi a b x y n h t = t l n
said-moves g (Operator.fix m l) letter hi a b x y n h t = h l n

-- one word is like another but for one bit
module _ (k v x : ℕ) (new : Bool) (set-bit : (m : ℕ) → bit x m ≡ cond (eqb m k) new (bit v m)) where
  by_bit : (P : ℕ → Bool → Type 0) → P k new → ((m : ℕ) → P m (bit v m)) → (m : ℕ) → P m (bit x m)
  by_bit P p others m = subst (P m) (sym (set-bit m)) (by (eqb m k) refl)
    where
      by : (b : Bool) → eqb m k ≡ b → P m (cond b new (bit v m))
      by true q = let same : m ≡ k = eqb-true m k q in rw same p
      by false q = others m

-- the numbers of a list, and one more behind them
record OneMore (list more : List ℕ) (k : ℕ) : Type 0 where
  pub long : length more ≡ length list + 1
  pub front : (j : ℕ) → j < length list → get_or more j 0 ≡ get_or list j 0
  pub last : get_or more (length list) 0 ≡ k

one-more-taken : (list : List ℕ) (j : ℕ) → j < length list → OneMore (take j list) (take (j + 1) list) (get_or list j 0)
one-more-taken list j l =
    let short : length (take j list) ≡ j = length-take-le j list (omega arith) in
    record {
      long = length-take-le (j + 1) list (omega arith) ∙ sym (ap (λ (i : ℕ). i + 1) short);
      front = λ i m. get_or-take (j + 1) list i 0 (omega arith) ∙ sym (get_or-take j list i 0 (omega arith));
      last = ap (λ (i : ℕ). get_or (take (j + 1) list) i 0) short ∙ get_or-take (j + 1) list j 0 (omega arith);
    }

module _ (rows : List ℕ) (letter there : ℕ) (g : Bool) (w : ℕ) where
  pub turned_none : (list : List ℕ) → Turned rows (take 0 list) letter there g w w
  turned_none list =
      record { kept = λ k h. refl; onward = λ k. moves_refl g (bit w k); within = λ hi here next keep past h k l. h k l }

  another : (list more : List ℕ) (v x k : ℕ) (on : Bool) → OneMore list more k → Turned rows list letter there g w v
      → (op : Operator) → operator_at rows k ≡ op → on ≡ local op letter v there
      → ((m : ℕ) → bit x m ≡ cond (eqb m k) (joined (not g) (bit v k) on) (bit v m)) → Turned rows more letter there g w x
  another list more v x k on one t op own_is says put =
      let is : on ≡ local (operator_at rows k) letter v there = says ∙ ap (λ (o : Operator). local o letter v there) (sym own_is) in
      let new = joined (not g) (bit v k) on in
      record {
        kept = λ m h.
            by_bit k v x new put (λ (i : ℕ) (b : Bool). (i ≡ m) → b ≡ bit w m)
            (λ q. absurd (h (length list) (omega (arith, one.long)) (sym q ∙ sym one.last)))
            (λ i q. ap (bit v) q ∙ t.kept m (λ n l e. h n (omega (arith, one.long)) (e ∙ sym (one.front n l)))) m refl;
        onward = by_bit k v x new put (λ m b. Moves g (bit w m) b)
            (moves_trans g (bit w k) (bit v k) new (t.onward k) (moves-on g (bit v k) on)) t.onward;
        within = λ hi here next keep past h m.
            let Kept : ℕ → Type 0 =
            λ (i : ℕ). (here i ≡ said (operator_at rows i) letter here next) × Names hi (operator_at rows i) in
            let before = t.within hi here next (λ n l. subst Kept (one.front n l) (keep n (omega (arith, one.long)))) past h in
            let own = subst Kept one.last (keep (length list) (omega (arith, one.long))) in
            by_bit k v x new put (λ m b. m < hi → Moves g b (here m))
            (λ l. moves_both g (bit v k) on (here k) (before k l)
            (subst (λ (b : Bool). Moves g b (here k)) (sym is)
            (subst (Moves g (local (operator_at rows k) letter v there)) (sym own.0)
            (said-moves g (operator_at rows k) letter hi (bit v) here (bit there) next own.1 before past))))
            before m;
      }

  pub turned_more : (list : List ℕ) (j v x k : ℕ) (on : Bool) → j < length list → k ≡ get_or list j 0
      → Turned rows (take j list) letter there g w v
      → (op : Operator) → operator_at rows k ≡ op → on ≡ local op letter v there
      → ((m : ℕ) → bit x m ≡ cond (eqb m k) (joined (not g) (bit v k) on) (bit v m)) → Turned rows (take (j + 1) list) letter there g w x
  turned_more list j v x k on l at =
      another (take j list) (take (j + 1) list) v x k on (rw at (one-more-taken list j l))

module _ (rows : List ℕ) (c : Lasso) (list : List ℕ) (g : Bool) (w : List ℕ) where
  abbrev n : ℕ
  n = length c.letters

  pub passed_none : PassMade rows c list g w w
  passed_none = record {
    long = refl;
    rest = λ i h. refl;
    kept = λ i k h. refl;
    onward = λ i k. moves_refl g (bit (get_or w i 0) k);
    within = λ hi ss keep h. h;
  }

  pub passed_then : (v x : List ℕ) → PassMade rows c list g w v → PassMade rows c list g v x
      → PassMade rows c list g w x
  passed_then v x p q = record {
    long = q.long ∙ p.long;
    rest = λ i h. q.rest i h ∙ p.rest i h;
    kept = λ i k h. q.kept i k h ∙ p.kept i k h;
    onward = λ i k.
        moves_trans g (bit (get_or w i 0) k) (bit (get_or v i 0) k) (bit (get_or x i 0) k) (p.onward i k) (q.onward i k);
    within = λ hi ss keep h. q.within hi ss keep (p.within hi ss keep h);
  }

  pub passed-more : (v : List ℕ) (i j x : ℕ) → c.stem < n → n ≤ length w → PassMade rows c list g w v → i < n
      → j ≡ after n c.stem i
      → Turned rows list (get_or c.letters i 0) (get_or v j 0) g (get_or v i 0) x → PassMade rows c list g w (set v i x)
  passed-more v i j x cycle long p l at t =
      let fits : i < length v = omega (arith, p.long) in
      record {
        long = length-set v i x ∙ p.long;
        rest = λ m h. get_or-set_other v i m x 0 (λ q. omega arith) ∙ p.rest m h;
        kept = λ m k h. by_word i x v fits (λ (m y : ℕ). bit y k ≡ bit (get_or w m 0) k) (t.kept k h ∙ p.kept i k h)
            (λ m _. p.kept m k h) m;
        onward = λ m k.
            by_word i x v fits (λ (m y : ℕ). Moves g (bit (get_or w m 0) k) (bit y k))
            (moves_trans g (bit (get_or w i 0) k) (bit (get_or v i 0) k) (bit x k) (p.onward i k) (t.onward k)) (λ m _. p.onward m k) m;
        within = λ hi ss keep h.
            let u = p.within hi ss keep h in
            let here : ℕ → Bool = λ k. get_or (get_or ss k []) i false in
            let next : ℕ → Bool = λ k. get_or (get_or ss k []) (after n c.stem i) false in
            let past : (k : ℕ) → k < hi → Moves g (bit (get_or v j 0) k) (next k) =
            λ k q. rw at (u.at k q (after n c.stem i) (after-below n c.stem i l cycle)) in
            let turn = t.within hi here next (λ m q. (keep.right m q i l, keep.names m q)) past (λ k q. u.at k q i l) in
            record {
              at = λ k q m.
                  by_word i x v fits (λ (m y : ℕ). m < n → Moves g (bit y k) (get_or (get_or ss k []) m false)) (λ _. turn k q)
                  (λ m _. u.at k q m) m;
            };
      }

-- all bits of a mask at once
or_by : (a b : Bool) → (a || b) ≡ cond b true a
or_by true true = refl
or_by true false = refl
or_by false true = refl
or_by false false = refl

and_by : (a b : Bool) → (a && not b) ≡ cond b false a
and_by true true = refl
and_by true false = refl
and_by false true = refl
and_by false false = refl

other-bit : (x : ℕ) → x < 2 → eqb (1 - x) 1 ≡ not (eqb x 1)
other-bit zero h = refl
other-bit (suc zero) h = refl
other-bit (suc (suc x)) h = absurd (omega arith)

-- a word has no bit 64 or above
high-bit : (w k : ℕ) → w < 2 ^ 64 → 64 ≤ k → bit w k ≡ false
high-bit w k h l = ap (λ (x : ℕ). eqb (x % 2) 1) (div-eq_of_lt (omega (arith, pow_mono {i = 64} {j = k} l)))

pub masked_on : (w m k : ℕ) → bit (bit_or w m) k ≡ cond (bit m k) true (bit w k)
masked_on w m k = bit-or w m k ∙ or_by (bit w k) (bit m k)

pub masked_off : (w m k : ℕ) → w < 2 ^ 64 → m < 2 ^ 64 → bit (bit_and w (bit_not w64 m)) k ≡ cond (bit m k) false (bit w k)
masked_off w m k hw hm = bit-and w (bit_not w64 m) k ∙ by (dec_lt k 64) ∙ and_by (bit w k) (bit m k)
  where
    by : Dec (k < 64) → (bit w k && bit (bit_not w64 m) k) ≡ (bit w k && not (bit m k))
    by (yes l) =
        ap (λ (b : Bool). bit w k && b)
        (ap (λ (x : ℕ). eqb x 1) (bit_at_not w64 m k hm l) ∙ other-bit (bit_at m k) (omega arith))
    by (no l) = rw (high-bit w k hw (omega arith)) refl
