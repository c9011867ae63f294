-- The rounds of a fixpoint, a pass before them and behind each: no column goes past its final set, and the rounds left bring the fixpoint's
-- there at least. A pass moves columns on, within what their operators keep, so it keeps both; where no round is left, or one changes
-- nothing, the fixpoint's column is its final set, and what is inside is as that set makes it. Assumes nothing.
use Rattle.std.proofs.Common.{◌≡◌, refl, sym, ap, subst, ◌∙◌, Bool, true, false, cond, List, ◌∷◌, map, ℕ, suc, ◌+◌, ◌-◌, ◌≤◌, ◌<◌, arith}
use Rattle.std.proofs.Common.{length, get_or}
use lib.ListN.{length-map}
use Rattle.base.specs.Bits.{bit}
use Rattle.base.specs.Lists.{iterate}
use Rattle.base.specs.Sets.{Toward}
use Rattle.base.proofs.ListLaws.{get_d_map, iterate_stays}
use Rattle.base.proofs.NumberLaws.{values_cons}
use Rattle.base.proofs.Inside.{toward_trans, toward_both}
use Rattle.formula.specs.Formula.{Formula, size}
use Rattle.formula.specs.Table.{Operator}
use Rattle.formula.specs.Occurrence.{Guards}
use Rattle.formula.specs.Rows.{operator_at, end_at}
use Rattle.formula.proofs.WellFormed.{sits_first}
use Rattle.lasso.specs.Lasso.{Lasso, Positions, holds, sets}
use Rattle.lasso.specs.Inner.{local_at, Swept, FormulaInRows, FormulaAt, WordsRoom, Fixes, Shut, Open, BitsListed, Movable}
use Rattle.lasso.specs.Inner.{column}
use Rattle.lasso.specs.Inner.{columns, ColumnsKept, Labelled, ClosedKnown, BitsFilled, Moves, Under, PassMade, goal, Going, Begun}
use Rattle.lasso.specs.Inner.{Evaluated}
use Rattle.lasso.specs.Inner.{Outcome, Rounded}
use Rattle.lasso.proofs.Fixpoint.{body, rounds_mono}
use Rattle.lasso.proofs.CodeWritten.{written_end, written-body, by_operator, held-some, nested, fix-operand}
use Rattle.lasso.proofs.CodeColumns.{column-length, column-at, column-is, columns-sized, kept-wide, kept_then, kept-both}
use Rattle.lasso.proofs.CodeSweep.{other_bit}
use Rattle.lasso.proofs.CodeColumns.{same-column, kept-bits, outer-kept, columns-above, swept_kept, swept-is}
use Rattle.lasso.proofs.CodeClosed.{known_same, known-part}
use Rattle.lasso.proofs.CodeOpen.{movable}
use Rattle.lasso.proofs.CodeGoal.{final, own_within, closed, goal-keeps, goal-start, goal_round}
use Rattle.lasso.proofs.CodeLabel.{first-shown, operand_known, own_known}
use Rattle.lasso.proofs.Moves.{toward_of}

-- what is not true is false
else_false : (b : Bool) → (b ≡ true → ⊥) → b ≡ false
else_false true h = absurd (h refl)
else_false false h = refl

module _ (rows : List ℕ) (c : Lasso) (g : Bool) (e : ℕ) where
  abbrev n : ℕ
  n = length c.letters

  -- a pass over columns that e's rounds move
  module _ (list w v : List ℕ) (words : n ≤ length w) (m : Movable rows e list)
      (p : PassMade rows c list g w v) where
    pub passed-kept : ColumnsKept n e (end_at rows e) w v
    passed-kept =
        kept-bits n w v words p.long e (end_at rows e) p.rest
        (λ k out i l. p.kept i k (λ j q same. out (rw same (m.inside j q))))

    passed_shut : (k : ℕ) → Shut rows e k → column n v k ≡ column n w k
    passed_shut k shut =
        same-column n w v words p.long k
        (λ i l. p.kept i k (λ j q same. m.apart j q (subst (Shut rows e) same shut)))

    passed-onward : (k : ℕ) → Toward g (column n w k) (column n v k)
    passed-onward k =
        let longer : n ≤ length v = omega (arith, p.long) in
        toward_of g (column n w k) (column n v k) (column-length n k w words ∙ sym (column-length n k v longer))
        (λ i l.
        let few : i < n = omega (arith, column-length n k w words) in
        subst (λ (b : Bool). Moves g b (get_or (column n v k) i false)) (sym (column-at n k w words i few))
        (subst (Moves g (bit (get_or w i 0) k)) (sym (column-at n k v longer i few)) (p.onward i k)))

  -- the columns of a mask are made the start
  module _ (mask : ℕ) (w v : List ℕ) (words : n ≤ length w) (o : Open rows e mask) (f : BitsFilled n mask g w v) where
    filled_out : (k : ℕ) → (bit mask k ≡ true → ⊥) → (i : ℕ) → i < n → bit (get_or v i 0) k ≡ bit (get_or w i 0) k
    filled_out k out i l = other_bit (λ k. bit mask k) (λ _. g) w n v f k (else_false (bit mask k) out) i

    filled-kept : ColumnsKept n e (end_at rows e) w v
    filled-kept =
        kept-bits n w v words f.long e (end_at rows e) f.rest (λ k out. filled_out k (λ q. out (o.inside k q)))

    filled_shut : (k : ℕ) → Shut rows e k → column n v k ≡ column n w k
    filled_shut k shut = same-column n w v words f.long k (filled_out k (λ q. o.apart k q shut))

    filled-start : FormulaAt rows e → column n v e ≡ map (λ _. g) c.letters
    filled-start held =
        column-is n e v (omega (arith, f.long)) (map (λ _. g) c.letters) (length-map c.letters (λ _. g))
        (λ i l.
        f.bits i l e
        ∙ ap (λ (b : Bool). cond b g (bit (get_or w i 0) e)) (own (bit mask e) refl)
        ∙ sym (get_d_map (λ _. g) c.letters i 0 false l))
      where
        own : (b : Bool) → bit mask e ≡ b → bit mask e ≡ true
        own true q = q
        own false q =
            let some : e < end_at rows e = held-some rows e held in
            let s = o.others e (omega arith) some q in
            absurd (omega (arith, s.behind, s.before))

  -- from both, the rounds are begun
  pub begun : (mask : ℕ) (list w x v : List ℕ) → WordsRoom n c.stem (length w) → FormulaAt rows e
      → Open rows e mask
      → BitsListed mask list → BitsFilled n mask g w x → PassMade rows c list g x v → Begun rows c g e list w v
  begun mask list w x v room held o l f p =
      let m : Movable rows e list = movable rows e mask list o l in
      let longer : n ≤ length x = omega (arith, f.long, room.words) in
      let kx = filled-kept mask w x room.words o f in
      let kv = passed-kept list x v longer m p in
      let kept : ColumnsKept n e (end_at rows e) w v = kept-both n kx kv in
      record {
        movable = m;
        kept = kept;
        started = λ a s bs h known.
            let outer = map (column n w) bs in
            let F = Formula.fix g a in
            let last : end_at rows e ≡ e + size F = written_end rows h in
            let start : column n x e ≡ map (λ _. g) c.letters = filled-start mask w x room.words o f held in
            record {
              kept = subst (λ (k : ℕ). ColumnsKept n e k w v) last kept;
              known = known_same rows c e (end_at rows e) x v (passed_shut list x v longer m p)
                  (known_same rows c e (end_at rows e) w x (filled_shut mask w x room.words o f) known);
              under = p.within (e + size F) (goal c w e bs F) (goal-keeps rows c w room h list m)
                  (goal-start rows c w room h g mask x o f known);
              reaches = subst (λ (t : Positions). Toward g (iterate n (body c a outer) t) (iterate n (body c a outer) (column n v e))) start
                  (rounds_mono c (omega (arith, room.cycle)) a outer (closed rows c w room h) (columns-sized n w room.words bs) g n
                  (column n x e) (column n v e) (passed-onward list x v longer m p e));
            };
      }

  -- the rounds that are left, those of the first part taken apart
  apart : (half left : ℕ) → half ≤ left → (w first bs : List ℕ) (a : Formula) (more : ℕ) → Going rows c g e first bs a (left + more) w
      → Going rows c g e first bs a (half + (left - half + more)) w
  apart half left l w first bs a more =
      subst (λ (k : ℕ). Going rows c g e first bs a k w) {x = left + more} {y = half + (left - half + more)} (omega arith)

  pub rounded_both : (half left : ℕ) (w x v : List ℕ) (b r : Bool) → half ≤ left → b ≡ true → Rounded rows c g e half w x b
      → Rounded rows c g e (left - half) x v r → Rounded rows c g e left w v r
  rounded_both half left w x v b r l moves p q = record {
    kept = kept-both n p.kept q.kept;
    done = λ a s bs h first more go.
        q.done a s bs h first more
        (subst (Outcome rows c g e first bs a (left - half + more) x) moves
        (p.done a s bs h first (left - half + more) (apart half left l w first bs a more go)));
  }

  pub rounded_early : (half left : ℕ) (w x : List ℕ) (b : Bool) → half ≤ left → b ≡ false → Rounded rows c g e half w x b
      → Rounded rows c g e left w x b
  rounded_early half left w x b l still p = record {
    kept = p.kept;
    done = λ a s bs h first more go.
        subst (Outcome rows c g e first bs a more x) (sym still)
        (subst (Outcome rows c g e first bs a (left - half + more) x) still
        (p.done a s bs h first (left - half + more) (apart half left l w first bs a more go)));
  }

  -- The body is labelled in a round: the words w become x.
  module _ (held : FormulaAt rows e) (is : Fixes rows g e) (w x : List ℕ) (room : WordsRoom n c.stem (length w))
      (ev : Evaluated rows c (e + 1) (e + 1) w x) where
    inside : e + 1 < end_at rows e
    inside = let p = fix-operand rows e held is in omega (arith, p.first, p.inside)

    body_kept : ColumnsKept n (e + 1) (end_at rows e) w x
    body_kept = kept-wide n ev.kept (omega arith) (nested rows e held (e + 1) (omega arith) inside)

    body-known : ClosedKnown rows c (e + 1) (end_at rows e) w → ClosedKnown rows c (e + 1) (end_at rows e) x
    body-known = operand_known rows c e w room held (e + 1) w x (omega arith) inside (λ j l h. absurd (omega arith)) ev

    longer : n ≤ length x
    longer = omega (arith, room.words, body_kept.long)

    module _ {a : Formula} {s : Guards} {bs : List ℕ} (h : FormulaInRows rows e s bs (Formula.fix g a)) {first : List ℕ} {left : ℕ}
        (go : Going rows c g e first bs a left w) where
      abbrev f : Formula
      f = Formula.fix g a

      abbrev outer : List Positions
      outer = map (column n first) bs

      -- the fixpoint's set before the round
      abbrev E : Positions
      E = column n w e

      first-room : WordsRoom n c.stem (length first)
      first-room = record { cycle = room.cycle; words = omega (arith, room.words, go.kept.long) }

      labelled : Labelled c a (e + 1) (e ∷ bs) w x
      labelled =
          ev.done (known-part (e + 1) (end_at rows (e + 1)) (omega arith) (nested rows e held (e + 1) (omega arith) inside)
          go.known) a (false ∷ s) (e ∷ bs) (written-body rows h)

      round_shown : columns n x (e + 1) (size a) ≡ sets c a (E ∷ outer)
      round_shown =
          labelled.shown ∙ ap (λ (σ : List Positions). sets c a (E ∷ σ)) (outer-kept n go.kept bs (λ d l. (h.enclosed d l).before))

      near : Toward g E (final rows c first first-room h)
      near = own_within rows c first first-room h w room.words go.under

      -- where the set is the final one, the fixpoint is labelled
      settled : E ≡ holds c f outer → Labelled c f e bs first x
      settled q = record {
        shown = values_cons (column n x) e (size a) (holds c f outer) (sets c a (holds c f outer ∷ outer))
            (labelled.kept.below e (omega arith) ∙ q) (round_shown ∙ ap (λ (s : Positions). sets c a (s ∷ outer)) q);
        kept = kept_then n go.kept labelled.kept (omega arith) (omega arith) (omega arith) (omega arith);
      }

      -- its column is made that of its body: the words x become y
      module _ (y : List ℕ) (t : Swept n e (local_at c (operator_at rows e) x) x y) where
        copied : column n y e ≡ holds c a (E ∷ outer)
        copied =
            let p : ℕ → Bool = local_at c (Operator.fix g (e + 1)) x in
            let s : Swept n e p x y = subst (λ (op : Operator). Swept n e (local_at c op x) x y) (sits_first h.operators) t in
            swept-is n e p x y s longer (column n x (e + 1)) (column-length n (e + 1) x longer)
            (λ i l. sym (column-at n (e + 1) x longer i l))
            ∙ first-shown c a (e + 1) x (E ∷ outer) round_shown

        copy_kept : ColumnsKept n e (e + 1) x y
        copy_kept = swept_kept n e (local_at c (operator_at rows e) x) x y t longer

        round_under : Under n g (goal c first e bs f) (e + size f) y
        round_under =
            goal_round rows c first first-room h E y (omega (arith, longer, copy_kept.long)) near
            (λ k l. copy_kept.below k l ∙ body_kept.below k (omega arith) ∙ go.kept.below k l) copied
            (columns-above n copy_kept (e + 1) (size a) (omega arith) ∙ round_shown)

        round_known : ClosedKnown rows c (e + 1) (end_at rows e) y
        round_known = own_known rows c e w room held (local_at c (operator_at rows e) x) x y longer t (body-known go.known)

        -- and a pass moves on from there: the words y become z
        going_on : (more : ℕ) → left ≡ 1 + more → (list z : List ℕ) → Movable rows e list
            → PassMade rows c list g y z → Going rows c g e first bs a more z
        going_on more one list z m p =
            let last : end_at rows e ≡ e + size f = written_end rows h in
            let long : n ≤ length y = omega (arith, longer, copy_kept.long) in
            let round = body c a outer in
            let ky : ColumnsKept n e (end_at rows e) w y =
            kept_then n body_kept copy_kept (omega arith) (omega arith) (omega arith) (omega (arith, inside)) in
            let kz : ColumnsKept n e (end_at rows e) w z = kept-both n ky (passed-kept list y z long m p) in
            let taken : iterate left round E ≡ iterate more round (column n y e) =
            ap (λ (k : ℕ). iterate k round E) {x = left} {y = suc more} (omega arith) ∙ ap (iterate more round) (sym copied) in
            record {
              kept = kept_then n go.kept kz (omega arith) (omega arith) (omega arith) (omega arith);
              known = known_same rows c e (end_at rows e) y z (passed_shut list y z long m p) round_known;
              under = p.within (e + size f) (goal c first e bs f) (goal-keeps rows c first first-room h list m) round_under;
              reaches = toward_trans g (holds c f outer) (iterate more round (column n y e)) (iterate more round (column n z e))
                  (subst (Toward g (holds c f outer)) taken go.reaches)
                  (rounds_mono c (omega (arith, room.cycle)) a outer (closed rows c first first-room h)
                  (columns-sized n first first-room.words bs) g more (column n y e) (column n z e)
                  (passed-onward list y z long m p e));
            }

        unchanged : y ≡ x → Labelled c f e bs first x
        unchanged same =
            let stays : body c a outer E ≡ E = sym copied ∙ ap (λ (u : List ℕ). column n u e) same
            ∙ labelled.kept.below e (omega arith) in
            settled (toward_both g E (holds c f outer) near
            (subst (Toward g (holds c f outer)) (iterate_stays left (body c a outer) E stays) go.reaches))

      none_left : left ≡ 0 → Labelled c f e bs first x
      none_left none =
          settled (toward_both g E (holds c f outer) near
          (subst (λ (k : ℕ). Toward g (holds c f outer) (iterate k (body c a outer) E)) none go.reaches))

    module _ (y : List ℕ) (t : Swept n e (local_at c (operator_at rows e) x) x y) where
      round_kept : ColumnsKept n e (end_at rows e) w y
      round_kept =
          kept_then n body_kept (swept_kept n e (local_at c (operator_at rows e) x) x y t longer)
          (omega arith) (omega arith) (omega arith) (omega (arith, inside))

      pub rounded_more : (list z : List ℕ) → Movable rows e list → PassMade rows c list g y z
          → Rounded rows c g e 1 w z true
      rounded_more list z m p = record {
        kept = kept-both n round_kept (passed-kept list y z (omega (arith, room.words, round_kept.long)) m p);
        done = λ a s bs h first more go. going_on h go y t more refl list z m p;
      }

      -- a round that changes nothing is the last
      pub rounded_still : y ≡ x → Rounded rows c g e 1 w y false
      rounded_still same = record {
        kept = round_kept;
        done = λ a s bs h first more go.
            record {
              labelled = subst (Labelled c (Formula.fix g a) e bs first) (sym same) (unchanged h go y t same);
              known = round_known h go y t;
            };
      }

  -- The fixpoint is labelled: its rounds are begun, the words w becoming x, and taken, x becoming u; and if the set moved to the end,
  -- the body is labelled once more.
  module _ (held : FormulaAt rows e) (is : Fixes rows g e) (list w x u : List ℕ)
      (room : WordsRoom n c.stem (length w)) (begins : Begun rows c g e list w x) where
    outcome : (b r : Bool) → b ≡ r → Rounded rows c g e n x u b → (a : Formula) (s : Guards) (bs : List ℕ)
        → FormulaInRows rows e s bs (Formula.fix g a)
        → ClosedKnown rows c (e + 1) (end_at rows e) w → Outcome rows c g e w bs a 0 u r
    outcome b r same q a s bs h known =
        subst (Outcome rows c g e w bs a 0 u) same
        (q.done a s bs h w 0 (subst (λ (k : ℕ). Going rows c g e w bs a k x) {x = n} {y = n + 0} (omega arith)
        (begins.started a s bs h known)))

    -- a fact of a formula at e, which is a fixpoint; and of the rows, from the one that they have there
    by_fix : (s : Guards) (bs : List ℕ) (P : Formula → Type 0)
        → ((a : Formula) → FormulaInRows rows e s bs (Formula.fix g a) → P (Formula.fix g a)) → (f : Formula)
        → FormulaInRows rows e s bs f → P f
    by_fix s bs = by_operator rows e s bs (Operator.fix g is.body) is.is

    by_own : (A : Type 0) → ((a : Formula) → FormulaInRows rows e held.guards held.binders (Formula.fix g a) → A) → A
    by_own A p = by_fix held.guards held.binders (λ _. A) p held.subformula held.written

    pub fixpoint-settled : (b : Bool) → b ≡ false → Rounded rows c g e n x u b → Evaluated rows c (e + 1) e w u
    fixpoint-settled b still q = record {
      kept = kept-both n begins.kept q.kept;
      known = λ known. by_own (ClosedKnown rows c (e + 1) (end_at rows e) u)
          (λ a h. (outcome b false still q a held.guards held.binders h known).known);
      done = λ known f s bs.
          by_fix s bs (λ f. Labelled c f e bs w u) (λ a h. (outcome b false still q a s bs h known).labelled) f;
    }

    pub fixpoint-last : (b : Bool) → b ≡ true → (v : List ℕ) → Rounded rows c g e n x u b → Evaluated rows c (e + 1) (e + 1) u v
        → Evaluated rows c (e + 1) e w v
    fixpoint-last b moves v q ev =
        let k : ColumnsKept n e (end_at rows e) w u = kept-both n begins.kept q.kept in
        let same : WordsRoom n c.stem (length u) = record { cycle = room.cycle; words = omega (arith, room.words, k.long) } in
        record {
          kept = kept_then n k (body_kept held is u v same ev) (omega arith) (omega arith) (omega arith) (omega arith);
          known = λ known.
              by_own (ClosedKnown rows c (e + 1) (end_at rows e) v)
              (λ a h. body-known held is u v same ev (outcome b true moves q a held.guards held.binders h known).known);
          done = λ known f s bs.
              by_fix s bs (λ f. Labelled c f e bs w v)
              (λ a h. none_left held is u v same ev h (outcome b true moves q a s bs h known) refl) f;
        }
