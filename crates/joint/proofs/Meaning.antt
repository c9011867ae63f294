-- What the outcomes say of the formulas (MEANING 10.5). MET: the lasso is over the alphabet and meets each. NOT: no such lasso meets all;
-- none meets all of the core; and without any one position of the core some lasso meets the rest. The last is so since that rest is a part
-- of a subset that was tried, when this position was, and met: whoever meets all meets a part. Of all subsets that no lasso meets the core
-- has the least word (ShrinkLeast). 35: the subset's conjunction was refused, by 3 or 4 only as that of the whole set, else by 14 or 15.
-- Assumes nothing.
use mathlib.Core.Path.{◌≡◌, refl, sym, ap, subst, subst⁻¹, ◌∙◌}
use mathlib.Core.Logic.{◌⊎◌, inl, inr}
use mathlib.Core.Bool.{true, false}
use mathlib.Core.List.{List, [], ◌∷◌, ◌++◌}
use mathlib.Core.Option.{Option, none, some}
use Prim.Native.Nat.{ℕ, zero, suc, ◌-◌, ◌≤◌, ◌<◌}
use native.Mathlib.Omega.{arith}
use lib.ListN.{length, get_or, replicate}
use Rattle.base.specs.Search.{Item}
use Rattle.base.proofs.AskLaws.{every_outcome}
use Rattle.formula.specs.Formula.{Formula}
use Rattle.formula.specs.Table.{Table, table}
use Rattle.formula.specs.Reading.{Reading, parse}
use Rattle.formula.proofs.Reread.{Reread}
use Rattle.lasso.specs.Lasso.{over_alphabet, meets}
use Rattle.tableau.specs.Saturation as tableau
use Rattle.tableau.specs.Transition.{Transition}
use Rattle.tableau.specs.Nodes.{nodes}
use Rattle.profile.specs.Profiles.{Profile, profiles}
use Rattle.decision.specs.Verdict.{Verdict, counted, conclude, decide, after_reading}
use Rattle.decision.specs.Contract.{Met, Unmet}
use Rattle.decision.specs.Lends.{Lends}
use Rattle.decision.specs.Inner.{found_in, needed}
use Rattle.decision.proofs.VerdictLaws.{decide-asked}
use Rattle.decision.proofs.Answer.{lasso, Says, verdict-says}
use Rattle.conjunction.specs.Conjunction.{conjoined, conjunction, Accepted, MeetsEach, Part}
use Rattle.conjunction.proofs.PartLaws.{part_meets}
use Rattle.conjunction.proofs.MeetLaws.{conjunction_exactly}
use Rattle.conjunction.proofs.ReadLaws.{conjunction_read, conjunction-accepted}
use Rattle.construction.specs.declared.Question.TheVariants.{Nodes, Profiles}
use Rattle.joint.specs.Joint.{Subset, chosen, max_formulas, everything, without, decided, Attempt}
use Rattle.joint.specs.Joint.{attempt_of, attempted, Shrunk, shrink}
use Rattle.joint.specs.Joint.{Joint, with_core, settled, joint}
use Rattle.joint.specs.Meaning.{HasFormulas, Within, MetBySome, MetByNone, Clash, Reason, Untried, Tells}
use Rattle.joint.proofs.SubsetLaws.{everything-chosen, within_self, without-both, within-at, within-part}
use Rattle.joint.proofs.ShrinkLaws.{lends-decided}
use Rattle.joint.proofs.ShrinkMeaning.{Needed, shrink-stuck, shrink-within, shrink-keeps, shrink_needs}
use Rattle.joint.proofs.ShrinkLeast.{core-least}
use Rattle.joint.proofs.ConcludeLaws.{unsat_read, Refusing, stuck-part}
use Rattle.joint.proofs.Cases.{Cases, joint_cases}

-- ---- the formulas that a subset takes
chosen-accepted : (s : Subset) {bs : List (List ℕ)} {fs : List Formula} → Accepted bs fs → Accepted (chosen s bs) (chosen s fs)
chosen-accepted [] a = Accepted.none
chosen-accepted (b ∷ s) Accepted.none = Accepted.none
chosen-accepted (true ∷ s) (Accepted.more e a) = Accepted.more e (chosen-accepted s a)
chosen-accepted (false ∷ s) (Accepted.more e a) = chosen-accepted s a

part-met : {gs fs : List Formula} → Part gs fs → MetBySome fs → MetBySome gs
part-met p m = record { course = m.course; such = m.such; meets_each = part_meets p m.meets_each }

-- a lasso for no formulas at all
nothing-met : MetBySome []
unfolding over_alphabet
nothing-met = record { course = record { letters = 16384 ∷ []; stem = 0 }; such = refl; meets_each = MeetsEach.none }

-- the conjunction of some formulas, as reading takes it
whole_read : {bs : List (List ℕ)} {fs : List Formula} → Accepted bs fs → 1 ≤ length bs → Reread (conjunction fs) (parse (conjoined bs))
whole_read Accepted.none l = absurd (omega arith)
whole_read (Accepted.more e a) l = conjunction_read (Accepted.more e a)

-- ---- what an attempt says
module _ (N M w b : ℕ) (l : Lends N M w b) where
  -- the decision says what is so of the conjunction
  decided-says : (bytes : List ℕ) {v : Verdict} → decided N M bytes ≡ v → Says bytes v
  decided-says bytes e = subst (Says bytes) (lends-decided N M bytes l ∙ e) (verdict-says N M w b bytes)

  module _ {c : List ℕ} {cs : List (List ℕ)} {f : Formula} {fs : List Formula} (a : Accepted (c ∷ cs) (f ∷ fs)) where
    met-each : {stem cycle K n : ℕ} {letters : List ℕ} → Met (conjoined (c ∷ cs)) stem cycle K n letters
        → MeetsEach (lasso letters stem) (f ∷ fs)
    met-each {stem} {letters = letters} m =
        (conjunction_exactly (lasso letters stem) f fs).0
        (subst (λ (g : Formula). meets (lasso letters stem) g ≡ true) (conjunction-accepted a m.reads) m.holds)

    unmet-each : {K P : ℕ} → Unmet (conjoined (c ∷ cs)) K P → MetByNone (f ∷ fs)
    unmet-each u x s h =
        u.none_holds x s
        (subst⁻¹ (λ (g : Formula). meets x g ≡ true) (conjunction-accepted a u.reads) ((conjunction_exactly x f fs).1 h))

  attempt_met : {bs : List (List ℕ)} {fs : List Formula} → Accepted bs fs → attempted N M bs ≡ Attempt.met → MetBySome fs
  attempt_met Accepted.none e = nothing-met
  attempt_met (Accepted.more {b = c} {f} {bs = cs} {fs} r a) e = by (decided N M (conjoined (c ∷ cs))) refl e
    where
      by : (v : Verdict) → decided N M (conjoined (c ∷ cs)) ≡ v → attempt_of v ≡ Attempt.met → MetBySome (f ∷ fs)
      by (Verdict.unread why) q e = absurd (let z : ◌≡◌ {A = ℕ} 0 1 = cc in omega arith)
      by (Verdict.refused why) q e = absurd (let z : ◌≡◌ {A = ℕ} 0 1 = cc in omega arith)
      by (Verdict.satisfiable stem cycle K n letters) q e =
          let m = decided-says (conjoined (c ∷ cs)) q in
          record { course = lasso letters stem; such = m.such; meets_each = met-each (Accepted.more r a) m }
      by (Verdict.unsatisfiable K P) q e = absurd (let z : ◌≡◌ {A = ℕ} 0 1 = cc in omega arith)

  attempt_unmet : {bs : List (List ℕ)} {fs : List Formula} → Accepted bs fs → attempted N M bs ≡ Attempt.unmet → MetByNone fs
  attempt_unmet Accepted.none e = absurd (let z : ◌≡◌ {A = ℕ} 0 1 = cc in omega arith)
  attempt_unmet (Accepted.more {b = c} {f} {bs = cs} {fs} r a) e = by (decided N M (conjoined (c ∷ cs))) refl e
    where
      by : (v : Verdict) → decided N M (conjoined (c ∷ cs)) ≡ v → attempt_of v ≡ Attempt.unmet → MetByNone (f ∷ fs)
      by (Verdict.unread why) q e = absurd (let z : ◌≡◌ {A = ℕ} 0 1 = cc in omega arith)
      by (Verdict.refused why) q e = absurd (let z : ◌≡◌ {A = ℕ} 0 1 = cc in omega arith)
      by (Verdict.satisfiable stem cycle K n letters) q e = absurd (let z : ◌≡◌ {A = ℕ} 0 1 = cc in omega arith)
      by (Verdict.unsatisfiable K P) q e = unmet-each (Accepted.more r a) (decided-says (conjoined (c ∷ cs)) q)

-- ---- why
-- behind reading a verdict is no refusal of reading, and a refusal is 14 or 15
abbrev PastReading : Verdict → Type 0
PastReading (Verdict.unread why) = ⊥
PastReading (Verdict.refused q) = (q ≡ Nodes) ⊎ (q ≡ Profiles)
PastReading (Verdict.satisfiable stem cycle K n letters) = Unit {0}
PastReading (Verdict.unsatisfiable K P) = Unit {0}

decide-past : (N M : ℕ) (t : Table) → PastReading (decide N M t)
decide-past N M t =
    every_outcome PastReading (inl refl) (λ q. every_outcome PastReading (inr refl) (λ r o p. p)) (decide N M t)
    (decide-asked N M t {fit = needed t ≤ M} {After = PastReading} (λ h. h) (λ h. h)
    (concluded-past (nodes t) (counted (found_in t) (profiles t (nodes t))) (found_in t)))
  where
    concluded-past : (ns : List (Item Transition tableau.Subset)) (qs : List (Item Transition Profile))
        (x : Option (Item Transition Profile)) → PastReading (conclude ns qs x)
    concluded-past ns qs none = tt
    concluded-past ns qs (some x) = tt

module _ {N M : ℕ} {catalogue : List ℕ} {bs : List (List ℕ)} {fs : List Formula} (h : HasFormulas catalogue bs) (a : Accepted bs fs) where
  -- the refusal of a part that was read
  part-reason : {t : Subset} (why : Verdict) → Refusing why → (f : Formula) → parse (conjoined (chosen t bs)) ≡ Reading.accepted f
      → decided N M (conjoined (chosen t bs)) ≡ why → Reason N M bs t why
  part-reason {t} why r f e q = by why r (sym (ap (after_reading (decide N M)) e) ∙ q)
    where
      by : (v : Verdict) → Refusing v → decide N M (table f) ≡ v → Reason N M bs t v
      by (Verdict.unread w) r p = absurd (subst PastReading p (decide-past N M (table f)))
      by (Verdict.refused q) r p = Reason.no_room q (subst PastReading p (decide-past N M (table f))) f e p
      by (Verdict.satisfiable stem cycle K n letters) r p = absurd r
      by (Verdict.unsatisfiable K P) r p = absurd r

  -- the refusal of the whole set
  whole-reason : (why : Verdict) → Refusing why → decided N M (conjoined bs) ≡ why → Reason N M bs (everything (length bs)) why
  whole-reason why r q = by (parse (conjoined bs)) refl (whole_read a h.some)
    where
      all_read : {f : Formula} → parse (conjoined bs) ≡ Reading.accepted f → Reason N M bs (everything (length bs)) why
      all_read {f} e =
          part-reason why r f (ap (λ (cs : List (List ℕ)). parse (conjoined cs)) (everything-chosen bs) ∙ e)
          (ap (λ (cs : List (List ℕ)). decided N M (conjoined cs)) (everything-chosen bs) ∙ q)

      by : {g : Formula} (x : Reading Formula) → parse (conjoined bs) ≡ x → Reread g x → Reason N M bs (everything (length bs)) why
      by x e (Reread.accepted) = all_read e
      by x e (Reread.too_large code place c n) =
          subst (Reason N M bs (everything (length bs))) (sym (ap (after_reading (decide N M)) e) ∙ q)
          (Reason.too_large code place c refl e)

-- as many formulas as byte strings
accepted-count : {bs : List (List ℕ)} {fs : List Formula} → Accepted bs fs → length bs ≡ length fs
accepted-count Accepted.none = refl
accepted-count (Accepted.more e a) = ap suc (accepted-count a)

-- of no more positions than there are formulas
everything-below : (n : ℕ) (s : Subset) (i : ℕ) → get_or (replicate n true ++ s) i false ≡ true
    → ((j : ℕ) → get_or s j false ≡ true → ⊥) → i < n
everything-below zero s i e none_left = absurd (none_left i e)
everything-below (suc n) s zero e none_left = omega arith
everything-below (suc n) s (suc i) e none_left = omega (arith, everything-below n s i e none_left)

nothing-at : (m j : ℕ) → get_or (replicate m false) j false ≡ true → ⊥
nothing-at zero j e = let z : ◌≡◌ {A = ℕ} 0 1 = cc in omega arith
nothing-at (suc m) zero e = let z : ◌≡◌ {A = ℕ} 0 1 = cc in omega arith
nothing-at (suc m) (suc j) e = nothing-at m j e

taken_below : (n i : ℕ) → get_or (everything n) i false ≡ true → i < n
taken_below n i e = everything-below n (replicate (max_formulas - n) false) i e (nothing-at (max_formulas - n))

module _ (N M w b : ℕ) (catalogue : List ℕ) {bs : List (List ℕ)} {fs : List Formula} (h : HasFormulas catalogue bs) (a : Accepted bs fs)
    (l : Lends N M w b) where
  abbrev try : Subset → Attempt
  try s = attempted N M (chosen s bs)

  abbrev n : ℕ
  n = length bs

  all-formulas : chosen (everything n) fs ≡ fs
  all-formulas = ap (λ (k : ℕ). chosen (everything k) fs) (accepted-count a) ∙ everything-chosen fs

  whole-unmet : {K P : ℕ} → 1 ≤ n → decided N M (conjoined bs) ≡ Verdict.unsatisfiable K P → MetByNone fs
  whole-unmet z e = by a z (decided-says N M w b l (conjoined bs) e)
    where
      by : {cs : List (List ℕ)} {gs : List Formula} {K P : ℕ} → Accepted cs gs → 1 ≤ length cs → Unmet (conjoined cs) K P → MetByNone gs
      by Accepted.none s u = absurd (omega arith)
      by (Accepted.more r c) s u = unmet-each N M w b l (Accepted.more r c) u

  whole-met : {stem cycle K m : ℕ} {letters : List ℕ} → 1 ≤ n → Met (conjoined bs) stem cycle K m letters
      → MeetsEach (lasso letters stem) fs
  whole-met z e = by a z e
    where
      by : {cs : List (List ℕ)} {gs : List Formula} {stem cycle K m : ℕ} {letters : List ℕ} → Accepted cs gs → 1 ≤ length cs
          → Met (conjoined cs) stem cycle K m letters → MeetsEach (lasso letters stem) gs
      by Accepted.none s u = absurd (omega arith)
      by (Accepted.more r c) s u = met-each N M w b l (Accepted.more r c) u

  -- what is left is a core
  core-clash : {K P : ℕ} {s : Subset} → decided N M (conjoined bs) ≡ Verdict.unsatisfiable K P
      → shrink try n (everything n) ≡ Shrunk.core s → Clash catalogue K P s
  core-clash {s = s} e q =
      let none = whole-unmet h.some e in
      let within = shrink-within try n (everything n) q in
      record {
        bytes = bs;
        formulas = fs;
        in_catalogue = h;
        accepted = a;
        conjunction_unmet = decided-says N M w b l (conjoined bs) e;
        none_meets_all = none;
        core_within = within;
        core_unmet =
            shrink-keeps try (λ (u : Subset). MetByNone (chosen u fs))
            (λ u r. attempt_unmet N M w b l (chosen-accepted u a) r) n (everything n)
            (subst⁻¹ MetByNone all-formulas none) q;
        core_needed = λ i t. needed i (shrink_needs try n (everything n) q i (taken_below n i (within-at i within t)) t);
        core_first = core-least try (λ (u : Subset). MetByNone (chosen u fs)) part_good n q;
      }
    where
      needed : (i : ℕ) → Needed try s i → MetBySome (chosen (without s i) fs)
      needed i r =
          part-met (within-part (without-both i r.within) fs)
          (attempt_met N M w b l (chosen-accepted (without r.larger i) a) r.met)

      part_good : (u v : Subset) → try v ≡ Attempt.met → Within u v → MetByNone (chosen u fs) → ⊥
      part_good u v e p unmet =
          let m = part-met (within-part p fs) (attempt_met N M w b l (chosen-accepted v a) e) in
          unmet m.course m.such m.meets_each

  whole-refused : (why : Verdict) → Refusing why → decided N M (conjoined bs) ≡ why → Untried N M catalogue (everything n) why
  whole-refused why r e = record {
    bytes = bs;
    formulas = fs;
    in_catalogue = h;
    accepted = a;
    within = within_self (everything n);
    reason = whole-reason h a why r e;
  }

  shrunk_tells : {K P : ℕ} → decided N M (conjoined bs) ≡ Verdict.unsatisfiable K P → (x : Shrunk) → shrink try n (everything n) ≡ x
      → Tells N M catalogue (with_core K P x)
  shrunk_tells e (Shrunk.stuck t why) q =
      let stuck = shrink-stuck try n (everything n) q in
      let r = stuck-part N M bs a (unsat_read N M (conjoined bs) e).1 stuck in
      record {
        bytes = bs;
        formulas = fs;
        in_catalogue = h;
        accepted = a;
        within = stuck.within;
        reason = part-reason h a why r.refuses r.formula r.reads r.verdict-is;
      }
  shrunk_tells e (Shrunk.core s) q = core-clash e q

  settled_tells : (v : Verdict) → decided N M (conjoined bs) ≡ v → Tells N M catalogue (settled N M bs v)
  settled_tells (Verdict.unread why) e = whole-refused (Verdict.unread why) tt e
  settled_tells (Verdict.refused q) e = whole-refused (Verdict.refused q) tt e
  settled_tells (Verdict.satisfiable stem cycle K m letters) e =
      let met = decided-says N M w b l (conjoined bs) e in
      record {
        bytes = bs;
        formulas = fs;
        in_catalogue = h;
        accepted = a;
        conjunction_met = met;
        meets_each = whole-met h.some met;
      }
  settled_tells (Verdict.unsatisfiable K P) e = shrunk_tells e (shrink try n (everything n)) refl

-- Theorem: every outcome says what is so.
pub joint_tells : (N M w b : ℕ) (catalogue : List ℕ) → Tells N M catalogue (joint N M w b catalogue)
joint_tells N M w b catalogue = by (joint_cases N M w b catalogue)
  where
    by : {o : Joint} → Cases N M w b catalogue o → Tells N M catalogue o
    by (Cases.damaged e) = e
    by (Cases.miscounted m) = m
    by (Cases.unread {bs = bs} h f) = (bs, h, f)
    by (Cases.refused {bs = bs} {fs} h a x y) =
        record { bytes = bs; formulas = fs; in_catalogue = h; accepted = a; from_11 = x; to_13 = y }
    by (Cases.settled bs h a l) = settled_tells N M w b catalogue h a l (decided N M (conjoined bs)) refl
