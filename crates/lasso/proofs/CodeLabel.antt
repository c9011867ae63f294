-- From what the code does at a subformula to the sets of it and of all inside it. Assumes nothing.
use Rattle.std.proofs.Common.{◌≡◌, refl, sym, ap, subst, ◌∙◌, inl, inr, Bool, true, false, List, [], map, ℕ, ◌+◌, ◌≤◌, ◌<◌, arith, length}
use Rattle.std.proofs.Common.{get_or}
use lib.ListN.{length-map}
use Rattle.base.specs.Bits.{bit}
use Rattle.base.proofs.ListLaws.{get_d_map}
use Rattle.base.proofs.NumberLaws.{values_at, values_cons, values_join}
use Rattle.formula.specs.Formula.{Leaf as Atom, Formula, size}
use Rattle.formula.specs.Table.{Operator}
use Rattle.formula.specs.Occurrence.{Guards}
use Rattle.formula.specs.Access.{decoded}
use Rattle.formula.specs.declared.Operator as code
use Rattle.formula.specs.Rows.{operator_at, end_at}
use Rattle.formula.proofs.Limits.{size-some}
use Rattle.formula.proofs.WellFormed.{sits_first}
use Rattle.lasso.specs.Lasso.{Lasso, Positions, leaf_at, joined, holds, inner, sets}
use Rattle.lasso.specs.Inner.{after, local_at, Swept, FormulaInRows, FormulaAt, WordsRoom, column, columns, ColumnsKept}
use Rattle.lasso.specs.Inner.{Labelled, ClosedKnown}
use Rattle.lasso.specs.Inner.{Evaluated}
use Rattle.lasso.proofs.Monotone.{length-combine, length_before}
use Rattle.lasso.proofs.Consistent.{getD_combine, getD_before}
use Rattle.lasso.proofs.CodeOperators.{NoOperand, by_leaf}
use Rattle.lasso.proofs.CodeWritten.{written-left, written-right, written_next, Cases, by_operator, held-some, held-inside, nested}
use Rattle.lasso.proofs.CodeWritten.{pair-operands, next-operand}
use Rattle.lasso.proofs.CodeClosed.{known_kept, known-part, known-join}
use Rattle.lasso.proofs.CodeColumns.{after-below, column-length, column-at, kept_refl, kept-wide, kept_then, outer-kept}
use Rattle.lasso.proofs.CodeColumns.{columns-below, columns-above, swept_kept, swept-is}

module _ (c : Lasso) where
  abbrev n : ℕ
  n = length c.letters

  -- the first of the columns is the formula's own
  pub first-shown : (f : Formula) (e : ℕ) (w : List ℕ) (ρ : List Positions) → columns n w e (size f) ≡ sets c f ρ
      → column n w e ≡ holds c f ρ
  first-shown f e w ρ q =
      ap (column n w) {x = e} {y = e + 0} (omega arith)
      ∙ sym (values_at (column n w) e (size f) 0 [] (size-some f))
      ∙ ap (λ (l : List Positions). get_or l 0 []) q

  -- w are the words at first, y those that have the operands' columns, v those behind the operator's own sweep
  module _ (e : ℕ) (bs w : List ℕ) (long : n ≤ length w) where
    abbrev ρ : List Positions
    ρ = map (column n w) bs

    swept-labelled : (f : Formula) (op : Operator) (k : ℕ) (y v : List ℕ) → size f ≡ 1 + k → ColumnsKept n e (e + size f) w y
        → columns n y (e + 1) k ≡ inner c f ρ → Swept n e (local_at c op y) y v → length (holds c f ρ) ≡ n
        → ((i : ℕ) → i < n → local_at c op y i ≡ get_or (holds c f ρ) i false) → Labelled c f e bs w v
    swept-labelled f op k y v more kept shown t all is =
        let longer : n ≤ length y = omega (arith, kept.long) in
        let own : ColumnsKept n e (e + 1) y v = swept_kept n e (local_at c op y) y v t longer in
        record {
          shown = ap (columns n v e) more
              ∙ values_cons (column n v) e k (holds c f ρ) (inner c f ρ) (swept-is n e (local_at c op y) y v t longer (holds c f ρ) all is)
              (columns-above n own (e + 1) k (omega arith) ∙ shown);
          kept = kept_then n kept own (omega arith) (omega arith) (omega arith) (omega arith);
        }

    leaf-labelled : (l : Atom) (v : List ℕ) → Swept n e (local_at c (Operator.leaf l) w) w v → Labelled c (Formula.leaf l) e bs w v
    leaf-labelled l v t =
        swept-labelled (Formula.leaf l) (Operator.leaf l) 0 w v refl (kept_refl n e (e + 1) w) refl t (length-map c.letters (leaf_at l))
        (λ i m. sym (get_d_map (leaf_at l) c.letters i 0 false m))

    variable-labelled : (d : ℕ) (v : List ℕ) → d < length bs → Swept n e (local_at c (Operator.variable (get_or bs d 0)) w) w v
        → Labelled c (Formula.variable d) e bs w v
    variable-labelled d v h t =
        let m = get_or bs d 0 in
        let is : get_or ρ d [] ≡ column n w m = get_d_map (column n w) bs d 0 [] h in
        swept-labelled (Formula.variable d) (Operator.variable m) 0 w v refl (kept_refl n e (e + 1) w) refl t
        (ap length is ∙ column-length n m w long)
        (λ i l. sym (ap (λ (s : Positions). get_or s i false) is ∙ column-at n m w long i l))

    next-labelled : (a : Formula) (y v : List ℕ) → c.stem < n → Labelled c a (e + 1) bs w y
        → Swept n e (local_at c (Operator.next (e + 1)) y) y v
        → Labelled c (Formula.next a) e bs w v
    next-labelled a y v cycle d t =
        let longer : n ≤ length y = omega (arith, d.kept.long) in
        let is : column n y (e + 1) ≡ holds c a ρ = first-shown a (e + 1) y ρ d.shown in
        let all : length (holds c a ρ) ≡ n = sym (ap length is) ∙ column-length n (e + 1) y longer in
        swept-labelled (Formula.next a) (Operator.next (e + 1)) (size a) y v refl (kept-wide n d.kept (omega arith) (omega arith))
        d.shown t
        (length_before c.stem (holds c a ρ) (omega arith) ∙ all)
        (λ i l.
        sym (column-at n (e + 1) y longer (after n c.stem i) (after-below n c.stem i l cycle))
        ∙ ap (λ (s : Positions). get_or s (after n c.stem i) false) is
        ∙ ap (λ (m : ℕ). get_or (holds c a ρ) (after m c.stem i) false) (sym all)
        ∙ sym (getD_before c.stem (holds c a ρ) i (omega arith)))

    pair-labelled : (o : Bool) (a b : Formula) (x y v : List ℕ) → ((d : ℕ) → d < length bs → get_or bs d 0 < e) → Labelled c a (e + 1)
        bs w x
        → Labelled c b (e + 1 + size a) bs x y → Swept n e (local_at c (Operator.pair o (e + 1) (e + 1 + size a)) y) y v
        → Labelled c (Formula.pair o a b) e bs w v
    pair-labelled o a b x y v outer da db t =
        let r = e + 1 + size a in
        let longer : n ≤ length y = omega (arith, da.kept.long, db.kept.long) in
        let same : map (column n x) bs ≡ ρ = outer-kept n da.kept bs (λ d l. omega (arith, outer d l)) in
        let sa : columns n y (e + 1) (size a) ≡ sets c a ρ = columns-below n db.kept (e + 1) (size a) (omega arith) ∙ da.shown in
        let sb : columns n y r (size b) ≡ sets c b ρ = db.shown ∙ ap (sets c b) same in
        let ca : column n y (e + 1) ≡ holds c a ρ = first-shown a (e + 1) y ρ sa in
        let cb : column n y r ≡ holds c b ρ = first-shown b r y ρ sb in
        let la : length (holds c a ρ) ≡ n = sym (ap length ca) ∙ column-length n (e + 1) y longer in
        let lb : length (holds c b ρ) ≡ n = sym (ap length cb) ∙ column-length n r y longer in
        let both = la ∙ sym lb in
        swept-labelled (Formula.pair o a b) (Operator.pair o (e + 1) r) (size a + size b) y v refl
        (kept_then n da.kept db.kept (omega arith) (omega arith) (omega arith) (omega arith))
        (values_join (column n y) (e + 1) (size a) (size b) (sets c a ρ) (sets c b ρ) sa sb) t
        (length-combine o (holds c a ρ) (holds c b ρ) both ∙ la)
        (λ i l.
        let p : bit (get_or y i 0) (e + 1) ≡ get_or (holds c a ρ) i false = sym (column-at n (e + 1) y longer i l)
        ∙ ap (λ (s : Positions). get_or s i false) ca in
        let q : bit (get_or y i 0) r ≡ get_or (holds c b ρ) i false = sym (column-at n r y longer i l)
        ∙ ap (λ (s : Positions). get_or s i false) cb in
        ap (λ (z : Bool). joined o z (bit (get_or y i 0) r)) p ∙ ap (joined o (get_or (holds c a ρ) i false)) q
        ∙ sym (getD_combine o (holds c a ρ) (holds c b ρ) both i))

-- whatever formula the rows have at e, by its operator
module _ (rows : List ℕ) (c : Lasso) (e : ℕ) (w : List ℕ) (room : WordsRoom (length c.letters) c.stem (length w))
    (held : FormulaAt rows e)
  where
    abbrev m : ℕ
    m = length c.letters

    -- closed subformulas inside e stay labelled where an operand k of it is labelled
    pub operand_known : (k : ℕ) (x y : List ℕ) → e < k → k < end_at rows e → ((j : ℕ) → e + 1 ≤ j → j < k → end_at rows j ≤ k)
        → Evaluated rows c k k x y → ClosedKnown rows c (e + 1) (end_at rows e) x → ClosedKnown rows c (e + 1) (end_at rows e) y
    operand_known k x y behind inside earlier ev known =
        let far : end_at rows k ≤ end_at rows e = nested rows e held k (omega arith) inside in
        let some : k < end_at rows k = held-some rows k (held-inside rows e held k (omega arith) inside) in
        known-join k
        (known_kept rows c (e + 1) k k (end_at rows k) x y ev.kept (λ j l h. inr (earlier j l h))
        (known-part (e + 1) k (omega arith) (omega arith) known))
        (known-join (end_at rows k) (ev.known (known-part k (end_at rows k) (omega arith) far known))
        (known_kept rows c (end_at rows k) (end_at rows e) k (end_at rows k) x y ev.kept (λ j l h. inl l)
        (known-part (end_at rows k) (end_at rows e) (omega arith) (omega arith) known)))

    -- and where e's own column is
    pub own_known : (f : ℕ → Bool) (x y : List ℕ) → m ≤ length x → Swept m e f x y → ClosedKnown rows c (e + 1) (end_at rows e) x
        → ClosedKnown rows c (e + 1) (end_at rows e) y
    own_known f x y long t known =
        known_kept rows c (e + 1) (end_at rows e) e (e + 1) x y (swept_kept m e f x y t long) (λ j l h. inl l) known

    -- the operands are labelled, and then e by a sweep that makes the words y into v: what its operator asks of each formula is left
    module _ (y v : List ℕ) (kept : ColumnsKept m (e + 1) (end_at rows e) w y)
        (t : Swept m e (local_at c (operator_at rows e) y) y v) where
      long : m ≤ length y
      long = omega (arith, room.words, kept.long)

      -- a sweep by the operator that the formula says
      swept_by : (op : Operator) → operator_at rows e ≡ op → Swept m e (local_at c op y) y v
      swept_by op q = subst (λ (o : Operator). Swept m e (local_at c o y) y v) q t

      swept_evaluated : (op : Operator) → operator_at rows e ≡ op
          → (ClosedKnown rows c (e + 1) (end_at rows e) w → ClosedKnown rows c (e + 1) (end_at rows e) y)
          → (ClosedKnown rows c (e + 1) (end_at rows e) w → (s : Guards) (bs : List ℕ)
          → Cases (λ (f : Formula). FormulaInRows rows e s bs f → Labelled c f e bs w v) op)
          → Evaluated rows c (e + 1) e w v
      swept_evaluated op q known done = record {
        kept = kept_then m kept (swept_kept m e (local_at c (operator_at rows e) y) y v t long) (omega arith) (omega arith) (omega arith)
            (omega (arith, held-some rows e held));
        known = λ k. own_known (local_at c (operator_at rows e) y) y v long t (known k);
        done = λ k f s bs. by_operator rows e s bs op q (λ f. Labelled c f e bs w v) (done k s bs) f;
      }

    module _ (v : List ℕ) (t : Swept m e (local_at c (operator_at rows e) w) w v) where
      unmoved : ColumnsKept m (e + 1) (end_at rows e) w w
      unmoved = kept_refl m (e + 1) (end_at rows e) w

      leaf_evaluated : (l : Atom) → operator_at rows e ≡ Operator.leaf l → Evaluated rows c (e + 1) e w v
      leaf_evaluated l q =
          swept_evaluated w v unmoved t (Operator.leaf l) q (λ known. known)
          (λ known s bs h. leaf-labelled c e bs w room.words l v (swept_by w v unmoved t (Operator.leaf l) q))

      variable_evaluated : (b : ℕ) → operator_at rows e ≡ Operator.variable b → Evaluated rows c (e + 1) e w v
      variable_evaluated b q =
          swept_evaluated w v unmoved t (Operator.variable b) q (λ known. known)
          (λ known s bs d h. variable-labelled c e bs w room.words d v (omega (arith, h.guarded.0, h.scoped))
          (swept_by w v unmoved t (Operator.variable (get_or bs d 0)) (sits_first h.operators)))

      -- one that names no operand
      pub plain_evaluated : (op : code.Operator) → NoOperand op → operator_at rows e ≡ decoded op
          → Evaluated rows c (e + 1) e w v
      plain_evaluated = by_leaf (λ op. operator_at rows e ≡ op → Evaluated rows c (e + 1) e w v) leaf_evaluated variable_evaluated

    pub next_evaluated : (l : ℕ) → operator_at rows e ≡ Operator.next l → (y v : List ℕ) → Evaluated rows c l l w y
        → Swept m e (local_at c (operator_at rows e) y) y v → Evaluated rows c (e + 1) e w v
    next_evaluated l q y v ev t =
        let p = next-operand rows e held q in
        let far : end_at rows l ≤ end_at rows e = nested rows e held l (omega (arith, p.first)) p.inside in
        let kept : ColumnsKept m (e + 1) (end_at rows e) w y = kept-wide m ev.kept (omega (arith, p.first)) far in
        swept_evaluated y v kept t (Operator.next l) q
        (operand_known l w y (omega (arith, p.first)) p.inside (λ j l h. absurd (omega (arith, p.first))) ev)
        (λ known s bs a h.
        let d : Labelled c a l bs w y =
        ev.done (known-part l (end_at rows l) (omega (arith, p.first)) far known) a (map (λ _. true) s) bs
        (rw p.first (written_next rows h)) in
        next-labelled c e bs w room.words a y v room.cycle (rw p.first at d)
        (swept_by y v kept t (Operator.next (e + 1)) (sits_first h.operators)))

    module _ (o : Bool) (l r : ℕ) (q : operator_at rows e ≡ Operator.pair o l r) where
      -- every subformula that begins before the second operand ends before it
      earlier : (j : ℕ) → e + 1 ≤ j → j < r → end_at rows j ≤ r
      earlier j k h =
          let p = pair-operands rows e held q in
          let first : FormulaAt rows l = held-inside rows e held l (omega (arith, p.first)) (omega (arith, p.order, p.inside)) in
          omega (arith, nested rows l first j (omega (arith, p.first)) (omega (arith, p.second)), p.second)

      -- the second operand's number
      right_is : {s : Guards} {bs : List ℕ} (a b : Formula) → FormulaInRows rows e s bs (Formula.pair o a b) → r ≡ e + 1 + size a
      right_is a b h =
          let same : Operator.pair o l r ≡ Operator.pair o (e + 1) (e + 1 + size a) = sym q ∙ sits_first h.operators in
          cc

      pub pair_evaluated : (x y v : List ℕ) → Evaluated rows c l l w x → Evaluated rows c r r x y
          → Swept m e (local_at c (operator_at rows e) y) y v → Evaluated rows c (e + 1) e w v
      pair_evaluated x y v ea eb t =
          let p = pair-operands rows e held q in
          let inside : l < end_at rows e = omega (arith, p.order, p.inside) in
          let near : end_at rows l ≤ end_at rows e = nested rows e held l (omega (arith, p.first)) inside in
          let far : end_at rows r ≤ end_at rows e = omega (arith, p.last) in
          let kept : ColumnsKept m (e + 1) (end_at rows e) w y =
          kept_then m ea.kept eb.kept (omega (arith, p.first)) (omega (arith, p.first, p.order)) near far in
          let once : ClosedKnown rows c (e + 1) (end_at rows e) w → ClosedKnown rows c (e + 1) (end_at rows e) x =
          operand_known l w x (omega (arith, p.first)) inside (λ j k h. absurd (omega (arith, p.first))) ea in
          swept_evaluated y v kept t (Operator.pair o l r) q
          (λ known. operand_known r x y (omega (arith, p.first, p.order)) p.inside earlier eb (once known))
          (λ known s bs a b h.
          let da : Labelled c a l bs w x =
          ea.done (known-part l (end_at rows l) (omega (arith, p.first)) near known) a s bs (rw p.first (written-left rows h)) in
          let db : Labelled c b r bs x y =
          eb.done (known-part r (end_at rows r) (omega (arith, p.first, p.order)) far (once known)) b s bs
          (rw (right_is a b h) (written-right rows h)) in
          pair-labelled c e bs w room.words o a b x y v (λ d k. (h.enclosed d k).before) (rw p.first at da)
          (rw (right_is a b h) at db) (swept_by y v kept t (Operator.pair o (e + 1) (e + 1 + size a)) (sits_first h.operators)))
