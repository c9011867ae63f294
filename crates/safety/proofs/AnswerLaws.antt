-- The answer from the nodes in the area: what is known of them is what walking over their numbers asks (`ready_steps`, `ready-cycle`); no
-- closed walk is no closed run (`told_not`); and what is written for a shortest one is the definition's witness (`told-met`). Assumes
-- nothing.
use mathlib.Core.Path.{◌≡◌, refl, sym, ap, subst, ◌∙◌}
use mathlib.Core.List.{List, ◌++◌, map, map-append}
use Rattle.std.specs.Prelude.{Option, None, Some, Ok}
use Prim.Native.Nat.{ℕ, ◌+◌, ◌≤◌, ◌<◌}
use native.Mathlib.Omega.{arith}
use lib.ListN.{length, drop, length-append, length-map}
use Rattle.base.specs.Search.{Item}
use Rattle.letters.specs.Requirements.{letter_of}
use Rattle.distances.specs.Walks as numbers
use Rattle.formula.specs.Table.{Table}
use Rattle.tableau.specs.Saturation.{Subset}
use Rattle.tableau.specs.Transition.{Transition, letter}
use Rattle.tableau.specs.Nodes.{nodes}
use Rattle.tableau.specs.Inner.{table_of}
use Rattle.tableau.proofs.NodeLaws.{stem}
use Rattle.theory.proofs.Walks.{along_walk}
use Rattle.construction.specs.Construction.{node_count}
use Rattle.witness.specs.Letters.{stem_letters, StemNoted, over, written}
use Rattle.witness.proofs.StemLaws.{origins-noted, stem_is}
use Rattle.witness.proofs.WriteLaws.{over-both}
use Rattle.safety.specs.Safety.{Verdict, chosen, conclude}
use Rattle.safety.specs.Inner.{node, CycleThere, CycleWritten, CourseWritten, concluded, NodesReady, Answers}
use Rattle.safety.specs.declared.Verdict.TheVariants.{Satisfiable, Unsatisfiable}
use Rattle.safety.proofs.FirstCycle.{found-closed, found-foremost}
use Rattle.safety.proofs.ShortCourse.{foremost-short}
use Rattle.safety.proofs.NumberWalks.{reachable-number, relation_steps, walk_in}
use Rattle.safety.proofs.CourseLaws.{stem-letters_are, chosen_is, cycle-foremost, course-fits}

-- a stem and a cycle behind it
pub course-written : (t : Table) (o : List ℕ) (v : ℕ) {L n : ℕ} {before mid after : List ℕ} → n ≡ length (stem_letters o v)
    → mid ≡ written 0 (stem_letters o v) before → CycleWritten t v L n mid after → CourseWritten t o v L before after n
course-written t o v {n = n} e m c = record {
  stem_is = e;
  cycle = c.cycle;
  closed = c.closed;
  letters_are = c.letters_are ∙ ap (written n (map letter c.cycle)) m;
}

module _ (rows : List ℕ) (count : ℕ) {known : ℕ} {area slots o rel : List ℕ} {buffer : ℕ}
    (r : NodesReady rows count known area slots o rel buffer) where
  abbrev t : Table
  t = table_of rows count

  pub ready_steps : numbers.Steps rel known
  ready_steps = relation_steps rows count r.known_is r.words_are r.noted r.there.few r.long

  -- no closed walk: the cycle that was chosen would be one
  nothing-chosen : numbers.Acyclic rel known → chosen t ≡ None
  nothing-chosen a = by (chosen t) refl
    where
      by : (x : Option (Item Transition Subset)) → chosen t ≡ x → chosen t ≡ None
      by None e = e
      by (Some x) e =
          let c = found-closed t e in
          let (j, h, q) = reachable-number t c.reachable in
          let k : j < known = omega (arith, r.known_is) in
          let w = walk_in rows count r.known_is r.words_are r.noted (along_walk t c.back) j j k k q q in
          absurd (a.none j (length x.way) c.some_step
          (omega (arith, r.known_is, foremost-short t (found-foremost t e))) w)

  pub told_not : numbers.Acyclic rel known → {l : List ℕ} → Answers (concluded t) l l (Ok (Unsatisfiable known))
  unfolding letter_of
  told_not a {l} =
      let e : concluded t ≡ Verdict.unsatisfiable known =
      ap (conclude (nodes t)) (nothing-chosen a) ∙ ap Verdict.unsatisfiable (sym r.known_is) in
      subst (λ (v : Verdict). Answers v l l (Ok (Unsatisfiable known))) (sym e) (record { answered = refl; buffered = refl })

  -- a shortest closed walk
  module _ {v L : ℕ} {steps : List ℕ} (s : numbers.Shortest rel known v L steps) where
    pub ready-cycle : CycleThere rows count known area slots steps v L
    ready-cycle = record {
      there = r.there;
      known_is = r.known_is;
      words_are = r.words_are;
      relation = rel;
      noted = r.noted;
      shortest = s;
    }

    pub ready-noted : StemNoted o v
    ready-noted = origins-noted r.notes_are v s.vertex r.notes_room

    -- the letters along the notes are those of the stem
    stem-told : stem_letters o v ≡ map letter (stem t (node t v))
    stem-told = stem_is r.notes_are v s.vertex ∙ stem-letters_are t v (omega (arith, r.known_is, s.vertex))

    stem-long : length (stem_letters o v) ≡ length (stem t (node t v))
    stem-long = ap length stem-told ∙ length-map (stem t (node t v)) letter

    pub ready-room : length (stem_letters o v) + L ≤ buffer
    ready-room = omega (arith, stem-long, course-fits rows count ready-cycle, r.known_is, r.fits)

    -- Theorem: what is written is the witness, and the lengths are its own.
    pub told-met : {before after : List ℕ} {n : ℕ} → buffer ≡ length before → CourseWritten t o v L before after n
        → Answers (concluded t) before after (Ok (Satisfiable n L known))
    unfolding letter_of
    told-met {before} {after} {n} b c =
        let rs = stem t (node t v) in
        let ss = c.cycle in
        let (x, e, p, q) = chosen_is t (cycle-foremost rows count ready-cycle c.closed) in
        let stem-n : length rs ≡ n = sym (c.stem_is ∙ stem-long) in
        let is : concluded t ≡ Verdict.satisfiable n L known (map letter (rs ++ ss)) =
        ap (conclude (nodes t)) e
        ∙ (λ i. Verdict.satisfiable (length (p i)) (length (q i)) (node_count t) (map letter (p i ++ q i)))
        ∙ (λ i. Verdict.satisfiable (stem-n i) (c.closed.long i) (sym r.known_is i) (map letter (rs ++ ss))) in
        subst (λ (w : Verdict). Answers w before after (Ok (Satisfiable n L known))) (sym is)
        (record { answered = refl; buffered = filled })
      where
        xs : List ℕ
        xs = stem_letters o v

        ys : List ℕ
        ys = map letter c.cycle

        parts : xs ++ ys ≡ map letter (stem t (node t v) ++ c.cycle)
        parts = ap (λ (l : List ℕ). l ++ ys) stem-told ∙ sym (map-append letter (stem t (node t v)) c.cycle)

        long : length (xs ++ ys) ≡ n + L
        long = omega (arith, length-append xs ys, length-map c.cycle letter, c.closed.long, c.stem_is)

        filled : after ≡ map letter (stem t (node t v) ++ c.cycle) ++ drop (n + L) before
        filled =
            c.letters_are
            ∙ ap (λ (k : ℕ). written k ys (over xs before)) c.stem_is
            ∙ over-both xs ys before (omega (arith, ready-room, b))
            ∙ λ i. parts i ++ drop (long i) before
