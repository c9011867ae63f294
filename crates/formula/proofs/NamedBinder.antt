-- Refusal 8 names the variable's binder. First, where reading is refused with 8 there is a way in the bytes from where it began to the
-- variable, and the scope at its end has the binder at the variable's depth (`formula-way`). Then, what such a scope has at a depth is a
-- fixpoint that the way entered with so many others behind it, and not guarded exactly if no next came after it (`bound_by`). In the
-- statements `place` is that of the depth, and `binder-at` that of the binder's byte. Assumes nothing.
use Rattle.std.proofs.Common.{◌≡◌, refl, sym, ap, subst, ◌∙◌, ◌⊎◌, inl, inr, Bool, true, false, List, [], ◌∷◌, ◌++◌, map, append_assoc, ℕ}
use Rattle.std.proofs.Common.{zero, suc, ◌+◌, ◌-◌, ◌<◌, arith, length, get_or, length-append, get_or-append-add}
use Rattle.std.proofs.Math.ListN.{length-map}
use Rattle.base.specs.Lists.{any}
use Rattle.base.proofs.ListLaws.{get_d_map}
use Rattle.base.proofs.AppendLaws.{flat_map_append}
use Rattle.formula.specs.Formula.{Formula}
use Rattle.formula.specs.Refusal.{unguarded}
use Rattle.formula.specs.Reading.{Opcode, byte_of, Head, Read, Reader, and_then, answered, Binder, Scope, outside, entered}
use Rattle.formula.specs.Reading.{behind_next, guard_asked, operands, questions, formula, ended, whole, start, Reading, parse}
use Rattle.formula.specs.Ways.{Descent, descent_bytes, way_bytes, from_next, fixpoints_on, through, NamesUnguarded}
use Rattle.formula.proofs.Derivation.{Byte, Begins, Reads, formula-reads, Past, signal-past, variable-past, questions-past}
use Rattle.formula.proofs.Spelling.{Went, went_on, begins_went, byte_went, reads_went}

-- the scope one operator further in; that operator is at a place
abbrev below : Scope → ℕ → Descent → Scope
below scope at (Descent.left o) = scope
below scope at (Descent.right o a) = scope
below scope at Descent.next = map behind_next scope
below scope at (Descent.body g) = entered at ∷ scope

-- the scope at the end of a way
abbrev along : Scope → ℕ → List Descent → Scope
along scope at [] = scope
along scope at (s ∷ way) = along (below scope at s) (at + length (descent_bytes s)) way

-- the depth names the binder at a place, which is not guarded
record Bound (scope : Scope) (depth binder-at : ℕ) : Type 0 where
  few : depth < length scope
  is : get_or scope depth outside ≡ entered binder-at

-- a way from h to an unguarded variable whose depth is at a place
record Way (scope : Scope) (h : Head) (place binder-at : ℕ) : Type 0 where
  way : List Descent
  depth : ℕ
  behind : List ℕ
  left_is : h.left ≡ way_bytes way ++ (byte_of Opcode.variable ∷ depth ∷ behind)
  place_is : place ≡ h.at + length (way_bytes way) + 1
  bound : Bound (along scope h.at way) depth binder-at

-- What is known where reading is refused with 8.
abbrev Stops : (place binder-at : ℕ) {A : Type 0} → Read A → Type 0
Stops place binder-at x = x ≡ Read.refused (unguarded binder-at place)

stops_past : {place binder-at : ℕ} {A : Type 0} → Past {B = A} (Read.refused (unguarded binder-at place))
stops_past fault at e = let z : ◌≡◌ {A = ℕ} 0 1 = cc in omega arith

never_stops : {place binder-at : ℕ} {A B : Type 0} {a : A} {h : Head} → Stops place binder-at (Read.got a h) → B
never_stops e = absurd (let z : ◌≡◌ {A = ℕ} 0 1 = cc in omega arith)

-- one of several steps was
then_stops : (place binder-at : ℕ) (Goal : Type 0) {A B : Type 0} (f : A → Reader B) (x : Read A) → Stops place binder-at (and_then f x)
    → (Stops place binder-at x → Goal) → ((a : A) (h : Head) → x ≡ Read.got a h → Stops place binder-at (f a h) → Goal) → Goal
then_stops place binder-at Goal f (Read.refused why) e first more = first cc
then_stops place binder-at Goal f (Read.got a h) e first more = more a h refl e

-- the answer was no to question 8, which is the last
guard_stops : {place binder-at : ℕ} (f : Formula) (guarded : Bool) (named : ℕ) (h : Head)
    → Stops place binder-at (and_then (λ _. Read.got f) (answered guarded (unguarded named) h))
    → (guarded ≡ false) × (named ≡ binder-at) × (place ≡ h.at - 1)
guard_stops f true named h e = never_stops e
guard_stops f false named h e = (refl, cc, cc)

module _ (place binder-at : ℕ) where
  -- one operator further out
  one_out : {scope : Scope} {h j : Head} (s : Descent) → Went h (descent_bytes s) j → Way (below scope h.at s) j place binder-at
      → Way scope h place binder-at
  one_out {scope} {h} {j} s g w = record {
    way = s ∷ w.way;
    depth = w.depth;
    behind = w.behind;
    left_is = g.left ∙ ap (◌++◌ (descent_bytes s)) w.left_is ∙ sym (append_assoc (descent_bytes s) (way_bytes w.way) _);
    place_is = omega (arith, w.place_is, g.at, length-append (descent_bytes s) (way_bytes w.way));
    bound =
        subst (λ (at : ℕ). Bound (along (below scope h.at s) at w.way) w.depth binder-at) g.at w.bound;
  }

  -- the variable itself
  variable-way : {scope : Scope} {h j k : Head} {d : ℕ} → Begins Opcode.variable h j → Byte d j k → d < length scope
      → Stops place binder-at (guard_asked scope d k) → Way scope h place binder-at
  variable-way {scope} {h} {j} {k} {d} b y i e =
      let to = begins_went b in
      let past = byte_went y in
      let at = get_or scope d outside in
      let s = guard_stops (Formula.variable d) at.guarded at.place k e in
      record {
        way = [];
        depth = d;
        behind = k.left;
        left_is = to.left ∙ ap (◌∷◌ (byte_of Opcode.variable)) past.left;
        place_is = omega (arith, s.2, to.at, past.at);
        bound = record { few = i; is = λ n. record { place = s.1 n; guarded = s.0 n } };
      }

  -- an operator, where operands that are refused have a way
  module _ (self : Scope → Reader Formula)
      (reads : (scope : Scope) (h : Head) (f : Formula) (k : Head) → self scope h ≡ Read.got f k → Reads scope h f k)
      (ways : (scope : Scope) (h : Head) → Stops place binder-at (self scope h) → Way scope h place binder-at) where
    -- the only operand of an operator
    one_way : {scope inner : Scope} {h j : Head} (s : Descent) (make : Formula → Formula) → Went h (descent_bytes s) j
        → inner ≡ below scope h.at s → Stops place binder-at (and_then (λ a. Read.got (make a)) (self inner j))
        → Way scope h place binder-at
    one_way {scope} {inner} {h} {j} s make g q e =
        then_stops place binder-at (Way scope h place binder-at) _ (self inner j) e
        (λ e. one_out s g (subst (λ (x : Scope). Way x j place binder-at) q (ways inner j e)))
        (λ a k r e. never_stops e)

    operands-way : (scope : Scope) (op : Opcode) (h j : Head) → Begins op h j → Stops place binder-at (operands self scope op j)
        → Way scope h place binder-at
    operands-way scope Opcode.unknown h j b e = never_stops e
    operands-way scope (Opcode.constant c) h j b e = never_stops e
    operands-way scope (Opcode.signal p) h j b e =
        signal-past _ stops_past (Way scope h place binder-at) self scope p j e λ s k y i e. never_stops e
    operands-way scope Opcode.variable h j b e =
        variable-past _ stops_past (Way scope h place binder-at) self scope j e λ d k y i e. variable-way b y i e
    operands-way scope (Opcode.pair o) h j b e =
        then_stops place binder-at (Way scope h place binder-at) _ (self scope j) e
        (λ e. one_out (Descent.left o) (begins_went b) (ways scope j e))
        (λ a i r e. then_stops place binder-at (Way scope h place binder-at) _ (self scope i) e
        (λ e. one_out (Descent.right o a) (went_on (begins_went b) (reads_went a (reads scope j a i r))) (ways scope i e))
        (λ c k q e. never_stops e))
    operands-way scope Opcode.next h j b e = one_way Descent.next Formula.next (begins_went b) refl e
    operands-way scope (Opcode.fix g) h j b e =
        let at : j.at - 1 ≡ h.at = omega (arith, (begins_went b).at) in
        one_way (Descent.body g) (Formula.fix g) (begins_went b) (ap (λ (p : ℕ). entered p ∷ scope) at) e

    questions-way : (scope : Scope) (h : Head) → Stops place binder-at (questions self scope h) → Way scope h place binder-at
    questions-way scope h e =
        questions-past _ stops_past (Way scope h place binder-at) self scope h e λ op j b e. operands-way scope op h j b e

  formula-way : (deep : ℕ) (scope : Scope) (h : Head) → Stops place binder-at (formula deep scope h) → Way scope h place binder-at
  formula-way zero scope h e = absurd (let z : ◌≡◌ {A = ℕ} 0 1 = cc in omega arith)
  formula-way (suc deep) scope h e = questions-way (formula deep) (formula-reads deep) (formula-way deep) scope h e

-- Where the binder is that a depth names at the end of a way: on the way,
record OnWay (at : ℕ) (way : List Descent) (depth binder-at : ℕ) : Type 0 where
  outer : List Descent
  greatest : Bool
  inner : List Descent
  way-is : way ≡ through outer greatest inner
  binder_at_is : binder-at ≡ at + length (way_bytes outer)
  depth_is : depth ≡ fixpoints_on inner
  no_next : any from_next inner ≡ false

-- or before it, so many fixpoints further out.
record BeforeWay (scope : Scope) (way : List Descent) (depth binder-at : ℕ) : Type 0 where
  further : ℕ
  depth_is : depth ≡ fixpoints_on way + further
  bound : Bound scope further binder-at
  no_next : any from_next way ≡ false

-- behind a next every binder is guarded
not_behind_next : (scope : Scope) (d binder-at : ℕ) → Bound (map behind_next scope) d binder-at → ⊥
not_behind_next scope d binder-at b =
    let q = sym (get_d_map behind_next scope d outside outside (omega (arith, b.few, length-map scope behind_next))) ∙ b.is in
    let guarded : true ≡ false = ap (λ (x : Binder). x.guarded) q in
    let z : ◌≡◌ {A = ℕ} 0 1 = cc in
    omega arith

bound_by : (scope : Scope) (at : ℕ) (way : List Descent) (depth binder-at : ℕ) → Bound (along scope at way) depth binder-at
    → OnWay at way depth binder-at ⊎ BeforeWay scope way depth binder-at
bound_by scope at [] depth binder-at b = inr (record { further = depth; depth_is = omega arith; bound = b; no_next = refl })
bound_by scope at (s ∷ way) depth binder-at b = by s (bound_by (below scope at s) (at + length (descent_bytes s)) way depth binder-at b)
  where
    Found : Descent → Type 0
    Found s = OnWay at (s ∷ way) depth binder-at ⊎ BeforeWay scope (s ∷ way) depth binder-at

    -- on the rest of the way
    later : (s : Descent) → OnWay (at + length (descent_bytes s)) way depth binder-at → OnWay at (s ∷ way) depth binder-at
    later s w = record {
      outer = s ∷ w.outer;
      greatest = w.greatest;
      inner = w.inner;
      way-is = ap (◌∷◌ s) w.way-is;
      binder_at_is = omega (arith, w.binder_at_is, length-append (descent_bytes s) (way_bytes w.outer));
      depth_is = w.depth_is;
      no_next = w.no_next;
    }

    -- before it: the fixpoint that is entered now, or one further out
    at_body : (g : Bool) (i : ℕ) → depth ≡ fixpoints_on way + i → Bound (entered at ∷ scope) i binder-at → any from_next way ≡ false
        → Found (Descent.body g)
    at_body g zero q b n =
        let here : at ≡ binder-at = ap (λ (x : Binder). x.place) b.is in
        inl (record {
          outer = [];
          greatest = g;
          inner = way;
          way-is = refl;
          binder_at_is = omega arith;
          depth_is = omega arith;
          no_next = n;
        })
    at_body g (suc i) q b n =
        inr (record { further = i; depth_is = omega arith; bound = record { few = omega (arith, b.few); is = b.is }; no_next = n })

    by : (s : Descent) → OnWay (at + length (descent_bytes s)) way depth binder-at ⊎ BeforeWay (below scope at s) way depth binder-at
        → Found s
    by s (inl w) = inl (later s w)
    by (Descent.left o) (inr w) = inr (record { further = w.further; depth_is = w.depth_is; bound = w.bound; no_next = w.no_next })
    by (Descent.right o a) (inr w) = inr (record { further = w.further; depth_is = w.depth_is; bound = w.bound; no_next = w.no_next })
    by Descent.next (inr w) = absurd (not_behind_next scope w.further binder-at w.bound)
    by (Descent.body g) (inr w) = at_body g w.further w.depth_is w.bound w.no_next

-- the whole formula: nothing is before the way
module _ (bytes : List ℕ) {place binder-at : ℕ} where
  named_by : (w : Way [] (start bytes) place binder-at)
      → OnWay 0 w.way w.depth binder-at ⊎ BeforeWay [] w.way w.depth binder-at → NamesUnguarded bytes place binder-at
  named_by w (inl o) = record {
    outer = o.outer;
    greatest = o.greatest;
    inner = o.inner;
    depth = w.depth;
    behind = w.behind;
    bytes_are = w.left_is ∙ ap (λ (x : List Descent). way_bytes x ++ (byte_of Opcode.variable ∷ w.depth ∷ w.behind)) o.way-is;
    place_is = omega (arith, w.place_is, ap (λ (x : List Descent). length (way_bytes x)) o.way-is);
    binder_at_is = omega (arith, o.binder_at_is);
    depth_is = o.depth_is;
    no_next = o.no_next;
  }
  named_by w (inr o) = absurd (omega (arith, o.bound.few))

  whole_stops : (x : Read Formula) → whole x ≡ Reading.refused (unguarded binder-at place) → Stops place binder-at x
  whole_stops (Read.refused why) e = cc
  whole_stops (Read.got f h) e = ended_stops h.left e
    where
      ended_stops : (l : List ℕ) → ended f h l ≡ Reading.refused (unguarded binder-at place) → Stops place binder-at (Read.got f h)
      ended_stops [] e = absurd (let z : ◌≡◌ {A = ℕ} 0 1 = cc in omega arith)
      ended_stops (b ∷ l) e = absurd (let z : ◌≡◌ {A = ℕ} 0 1 = cc in omega arith)

  -- Theorem: refusal 8 gives the place of a depth and that of the binder which the depth names, with no next between.
  pub parse-named : parse bytes ≡ Reading.refused (unguarded binder-at place) → NamesUnguarded bytes place binder-at
  unfolding parse
  parse-named e =
      let w = formula-way place binder-at (length bytes) [] (start bytes) (whole_stops (formula (length bytes) [] (start bytes)) e) in
      named_by w (bound_by [] 0 w.way w.depth binder-at w.bound)

-- what follows for the bytes: the binder's is 09 or 0A and comes before the variable's; behind that is the depth
module _ {bytes : List ℕ} {place binder-at : ℕ} (n : NamesUnguarded bytes place binder-at) where
  abbrev from_binder : List Descent
  from_binder = Descent.body n.greatest ∷ n.inner

  parted : way_bytes (through n.outer n.greatest n.inner) ≡ way_bytes n.outer ++ way_bytes from_binder
  parted = flat_map_append descent_bytes n.outer from_binder

  pub named-before : binder-at < place
  named-before =
      omega (arith, n.place_is, n.binder_at_is, ap length parted, length-append (way_bytes n.outer) (way_bytes from_binder))

  pub named-fixpoint : get_or bytes binder-at 0 ≡ byte_of (Opcode.fix n.greatest)
  named-fixpoint =
      let rest = byte_of Opcode.variable ∷ n.depth ∷ n.behind in
      let whole = n.bytes_are ∙ ap (λ (x : List ℕ). x ++ rest) parted ∙ append_assoc (way_bytes n.outer) (way_bytes from_binder) rest in
      let at : binder-at ≡ length (way_bytes n.outer) + 0 = omega (arith, n.binder_at_is) in
      (λ i. get_or (whole i) (at i) 0) ∙ get_or-append-add (way_bytes n.outer) (way_bytes from_binder ++ rest) 0 0

  pub named-depth : get_or bytes place 0 ≡ n.depth
  named-depth =
      let front = way_bytes (through n.outer n.greatest n.inner) in
      (λ i. get_or (n.bytes_are i) (n.place_is i) 0)
      ∙ get_or-append-add front (byte_of Opcode.variable ∷ n.depth ∷ n.behind) 1 0
