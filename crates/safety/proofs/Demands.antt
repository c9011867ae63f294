-- What is asked of the decision with greatest fixpoints alone, each demand as one theorem about the verdict, for any bytes, N and sizes of
-- the two areas. MET comes with a lasso over the alphabet that meets the formula, with K, and with stem and cycle of together at most K
-- letters (`met_means`). Unless it is a refusal, the verdict is NOT exactly if no lasso over the alphabet, however long, meets the formula
-- that the bytes are (`not_exactly`). It is 43 exactly if the bytes are a formula with a least fixpoint, and names the place of the first
-- (`least_means`, `least_exactly`). For a formula with greatest fixpoints alone, with N from 1 to 1024, 8 N bytes and N letters lent, and K
-- at most N, it is MET or NOT (`answers_where_nodes_fit`). Its number is 0, 1 to 9, 11 to 14 or 43 (`every_number`), and so never 15
-- (`never_15`). What is asked of N and the areas is in proofs/RoomDemands.antt. Assumes nothing.
use mathlib.Core.Path.{◌≡◌, refl, sym, subst, subst⁻¹, ◌∙◌}
use mathlib.Core.Logic.{◌⊎◌, inl, inr, ◌↔◌}
use mathlib.Core.Bool.{true}
use Rattle.std.specs.Prelude.{None, Some}
use mathlib.Core.List.{List}
use Prim.Native.Nat.{ℕ, ◌+◌, ◌*◌, ◌≤◌}
use native.Mathlib.Omega.{arith}
use Rattle.base.proofs.AskLaws.{Asked, passed, every_outcome}
use Rattle.formula.specs.Formula.{Formula}
use Rattle.formula.specs.Table.{Table, table, operator}
use Rattle.formula.specs.Refusal.{code_of}
use Rattle.formula.specs.Reading.{Reading, parse}
use Rattle.formula.proofs.Fuel.{parse_stopped}
use Rattle.lasso.specs.Lasso.{Lasso, over_alphabet, meets}
use Rattle.tableau.proofs.ForemostLaws.{run_by}
use Rattle.profile.specs.Profiles.{is_least}
use Rattle.profile.specs.Cycle.{AcceptingCycle}
use Rattle.theory.proofs.Soundness.{lasso_of}
use Rattle.theory.proofs.ReadLaws.{AcceptingRun, run-such, run_holds, no-lasso}
use Rattle.construction.specs.Construction.{node_count}
use Rattle.construction.specs.declared.Question.{Question}
use Rattle.safety.specs.Safety.{Verdict, first_least, verdict}
use Rattle.safety.specs.Closed.{ClosedRun}
use Rattle.construction.specs.Questions.{question_code}
use Rattle.safety.specs.Contract.{number_of}
use Rattle.safety.proofs.FirstCycle.{none-some}
use Rattle.safety.proofs.EveryCycle.{Greatest, none-least, greatest-none, closed-accepting, accepting-closed}
use Rattle.safety.proofs.LeastPlace.{LeastPlace, least-placed, least-found}
use Rattle.safety.proofs.VerdictLaws.{Course, NoRun, Concluded, DecidedCases, past_13, VerdictCases, verdict-answered}

-- the verdict is no refusal
abbrev pub IsAnswer : Verdict → Type 0
IsAnswer (Verdict.unread why) = ⊥
IsAnswer (Verdict.least_at place) = ⊥
IsAnswer (Verdict.refused s) = ⊥
IsAnswer (Verdict.satisfiable stem cycle K letters) = Unit {0}
IsAnswer (Verdict.unsatisfiable K) = Unit {0}

-- the verdict is NOT
abbrev pub IsNot : Verdict → Type 0
IsNot (Verdict.unread why) = ⊥
IsNot (Verdict.least_at place) = ⊥
IsNot (Verdict.refused s) = ⊥
IsNot (Verdict.satisfiable stem cycle K letters) = ⊥
IsNot (Verdict.unsatisfiable K) = Unit {0}

abbrev lasso : List ℕ → ℕ → Lasso
lasso letters stem = record { letters = letters; stem = stem }

-- no lasso over the alphabet meets a formula, of whatever length
abbrev pub NoLasso : Formula → Type 0
NoLasso f = (c : Lasso) → over_alphabet c ≡ true → meets c f ≡ true → ⊥

-- What MET says of the formula that was read: its fixpoints are greatest, the lasso is over the alphabet and meets it, its run is the first
-- of all runs to a closed run, and has at most K transitions.
pub record Met (bytes : List ℕ) (stem cycle K : ℕ) (letters : List ℕ) : Type 0 where
  pub formula : Formula
  pub reads : parse bytes ≡ Reading.accepted formula
  pub greatest : Greatest (table formula)
  pub such : over_alphabet (record { letters = letters; stem = stem }) ≡ true
  pub holds : meets (record { letters = letters; stem = stem }) formula ≡ true
  pub course : Course (table formula) stem cycle letters
  pub nodes_counted : K ≡ node_count (table formula)
  pub short : stem + cycle ≤ K

-- What NOT says: no such lasso meets the formula that was read, however long.
pub record Unmet (bytes : List ℕ) (K : ℕ) : Type 0 where
  pub formula : Formula
  pub reads : parse bytes ≡ Reading.accepted formula
  pub greatest : Greatest (table formula)
  pub none_holds : NoLasso formula
  pub nodes_counted : K ≡ node_count (table formula)

-- What 43 says: the place is that of the first least fixpoint of the formula that was read.
pub record Least (bytes : List ℕ) (place : ℕ) : Type 0 where
  pub formula : Formula
  pub reads : parse bytes ≡ Reading.accepted formula
  pub placed : LeastPlace bytes (table formula) place

-- a refusal is that of one of the questions 11 to 14
abbrev pub OfRoom : Question → Type 0
OfRoom q = (11 ≤ question_code q) × (question_code q ≤ 14)

abbrev pub Says : (bytes : List ℕ) → Verdict → Type 0
Says bytes (Verdict.unread why) = parse bytes ≡ Reading.refused why
Says bytes (Verdict.least_at place) = Least bytes place
Says bytes (Verdict.refused q) = OfRoom q
Says bytes (Verdict.satisfiable stem cycle K letters) = Met bytes stem cycle K letters
Says bytes (Verdict.unsatisfiable K) = Unmet bytes K

-- the run of a course is one to an accepting cycle
course-run : {t : Table} → Greatest t → {stem cycle : ℕ} {letters : List ℕ} (c : Course t stem cycle letters)
    → AcceptingRun t c.there c.around
course-run {t} g c = run_by t (ClosedRun t) (AcceptingCycle t) (λ v ss. closed-accepting t g) c.foremost.is_one

course-is : {t : Table} {stem cycle : ℕ} {letters : List ℕ} (c : Course t stem cycle letters)
    → lasso letters stem ≡ lasso_of c.there c.around
course-is c i = lasso (c.letters_are i) (c.stem_is i)

pub course-such : {t : Table} → Greatest t → {stem cycle : ℕ} {letters : List ℕ} → Course t stem cycle letters
    → over_alphabet (lasso letters stem) ≡ true
course-such g c = subst⁻¹ (λ (l : Lasso). over_alphabet l ≡ true) (course-is c) (run-such (course-run g c))

module _ (bytes : List ℕ) (f : Formula) (reads : parse bytes ≡ Reading.accepted f) where
  pub course-holds : Greatest (table f) → {stem cycle : ℕ} {letters : List ℕ} → Course (table f) stem cycle letters
      → meets (lasso letters stem) f ≡ true
  course-holds g c = subst⁻¹ (λ (l : Lasso). meets l f ≡ true) (course-is c) (run_holds bytes f reads (course-run g c))

  none-meets : NoRun (table f) → NoLasso f
  none-meets n = no-lasso bytes f reads (λ v ss a. n v ss (accepting-closed a))

  concluded-says : Greatest (table f) → {o : Verdict} → Concluded (table f) o → Says bytes o
  concluded-says g (Concluded.met c) =
      record {
        formula = f;
        reads = reads;
        greatest = g;
        such = course-such g c;
        holds = course-holds g c;
        course = c;
        nodes_counted = refl;
        short = c.short;
      }
  concluded-says g (Concluded.unmet n) =
      record { formula = f; reads = reads; greatest = g; none_holds = none-meets n; nodes_counted = refl }

  asked-says : {Asks : Type 0} {q : Question} {After : Verdict → Type 0} → OfRoom q → ((o : Verdict) → After o → Says bytes o)
      → (o : Verdict) → Asked Asks (Verdict.refused q) After o → Says bytes o
  asked-says n s = every_outcome (Says bytes) n (λ h. s)

  decided-says : Greatest (table f) → {N workspace buffer : ℕ} {o : Verdict} → DecidedCases N workspace buffer (table f) o
      → Says bytes o
  decided-says g {o = o} d = asked-says (omega arith, omega arith) (asked-says (omega arith, omega arith)
      (asked-says (omega arith, omega arith) (asked-says (omega arith, omega arith) (λ o c. concluded-says g c)))) o d

pub one-formula : {f g : Formula} → Reading.accepted f ≡ Reading.accepted g → f ≡ g
one-formula e = cc

answered-says : {N workspace buffer : ℕ} (bytes : List ℕ) {r : Reading Formula} {o : Verdict} → parse bytes ≡ r
    → VerdictCases N workspace buffer r o → Says bytes o
answered-says bytes e VerdictCases.unread = e
answered-says bytes e (VerdictCases.least {f} {place} q) =
    record { formula = f; reads = e; placed = least-placed bytes f e place q }
answered-says bytes e (VerdictCases.read {f} q d) = decided-says bytes f e (none-least 0 (table f) q) d

-- The numbers that a verdict can have: 0 for MET and NOT, 1 to 9 for reading, 11 to 14 for N, the areas and K, and 43.
pub data Number : ℕ → Type 0 where
  answer : Number 0
  of_reading : (n : ℕ) → 1 ≤ n → n ≤ 9 → Number n
  of_room : (n : ℕ) → 11 ≤ n → n ≤ 14 → Number n
  of_least : Number 43

numbered : (bytes : List ℕ) (o : Verdict) → Says bytes o → Number (number_of o)
numbered bytes (Verdict.unread why) s = let r = parse_stopped bytes s in of_reading (code_of why) r.some r.known
numbered bytes (Verdict.least_at place) s = of_least
numbered bytes (Verdict.refused q) s = of_room (question_code q) s.0 s.1
numbered bytes (Verdict.satisfiable stem cycle K letters) s = answer
numbered bytes (Verdict.unsatisfiable K) s = answer

not_15 : {n : ℕ} → Number n → n ≡ 15 → ⊥
not_15 answer e = omega arith
not_15 (of_reading n l u) e = omega arith
not_15 (of_room n l u) e = omega arith
not_15 of_least e = omega arith

pub concluded-answer : {t : Table} {o : Verdict} → Concluded t o → IsAnswer o
concluded-answer (Concluded.met c) = tt
concluded-answer (Concluded.unmet n) = tt

module _ (N workspace buffer : ℕ) (bytes : List ℕ) where
  abbrev given : Verdict
  given = verdict N workspace buffer bytes

  -- Theorem: the verdict says what is so,
  pub verdict-says : Says bytes (verdict N workspace buffer bytes)
  verdict-says = answered-says bytes refl (verdict-answered N workspace buffer bytes)

  -- where it is MET,
  pub met_means : (stem cycle K : ℕ) (letters : List ℕ) → verdict N workspace buffer bytes ≡ Verdict.satisfiable stem cycle K letters
      → Met bytes stem cycle K letters
  met_means stem cycle K letters e = subst (Says bytes) e verdict-says

  -- where it is NOT,
  pub not_means : (K : ℕ) → verdict N workspace buffer bytes ≡ Verdict.unsatisfiable K → Unmet bytes K
  not_means K e = subst (Says bytes) e verdict-says

  -- and where it is 43.
  pub least_means : (place : ℕ) → verdict N workspace buffer bytes ≡ Verdict.least_at place → Least bytes place
  least_means place e = subst (Says bytes) e verdict-says

  -- Theorem: unless the verdict is a refusal, it is NOT exactly if no such lasso meets the formula that the bytes are.
  pub not_exactly : IsAnswer (verdict N workspace buffer bytes)
      → (f : Formula) × (parse bytes ≡ Reading.accepted f) × (IsNot (verdict N workspace buffer bytes) ↔ NoLasso f)
  not_exactly h = exactly given verdict-says h
    where
      exactly : (o : Verdict) → Says bytes o → IsAnswer o → (f : Formula) × (parse bytes ≡ Reading.accepted f) × (IsNot o ↔ NoLasso f)
      exactly (Verdict.unread why) s h = absurd h
      exactly (Verdict.least_at place) s h = absurd h
      exactly (Verdict.refused c) s h = absurd h
      exactly (Verdict.satisfiable stem cycle K letters) s h =
          (s.formula, s.reads, (λ k. absurd k, λ n. n (lasso letters stem) s.such s.holds))
      exactly (Verdict.unsatisfiable K) s h = (s.formula, s.reads, (λ k. s.none_holds, λ n. tt))

  -- what the verdict on a formula can be
  abbrev ReadCases : Formula → Verdict → Type 0
  ReadCases f o =
      ((place : ℕ) × (first_least 0 (table f) ≡ Some place) × (o ≡ Verdict.least_at place))
      ⊎ ((first_least 0 (table f) ≡ None) × DecidedCases N workspace buffer (table f) o)

  read_of : {f : Formula} {o : Verdict} → VerdictCases N workspace buffer (Reading.accepted f) o → ReadCases f o
  read_of (VerdictCases.least {place = place} q) = inl (place, q, refl)
  read_of (VerdictCases.read q d) = inr (q, d)

  module _ (f : Formula) (reads : parse bytes ≡ Reading.accepted f) where
    read_cases : VerdictCases N workspace buffer (Reading.accepted f) given
    read_cases =
        subst (λ (r : Reading Formula). VerdictCases N workspace buffer r given) reads (verdict-answered N workspace buffer bytes)

    -- Theorem: the verdict on a formula is 43 exactly if some subformula is a least fixpoint.
    pub least_exactly : ((place : ℕ) × (verdict N workspace buffer bytes ≡ Verdict.least_at place))
        ↔ ((e : ℕ) × (is_least (operator (table f) e) ≡ true))
    least_exactly = (
      λ h.
          let r = least_means h.0 h.1 in
          let e = r.placed.number in
          (e, subst (λ (g : Formula). is_least (operator (table g) e) ≡ true) (same r) r.placed.least),
      λ h. by (read_of read_cases) (least-found 0 (table f) h.0 h.1),
    )
      where
        same : {place : ℕ} (r : Least bytes place) → r.formula ≡ f
        same r = one-formula (sym r.reads ∙ reads)

        by : ReadCases f given → (place : ℕ) × (first_least 0 (table f) ≡ Some place) → (place : ℕ) × (given ≡ Verdict.least_at place)
        by (inl (place, q, e)) h = (place, e)
        by (inr (q, d)) h = absurd (none-some (sym q ∙ h.1))

    -- the questions from 11 on, where every fixpoint is greatest
    pub from_11 : Greatest (table f) → DecidedCases N workspace buffer (table f) given
    from_11 g = by (read_of read_cases)
      where
        by : {o : Verdict} → ReadCases f o → DecidedCases N workspace buffer (table f) o
        by (inl (place, q, e)) = absurd (none-some (sym (greatest-none 0 (table f) g) ∙ q))
        by (inr (q, d)) = d

  -- Theorem: where every fixpoint is greatest, N is in range, the areas are large enough and the nodes are at most N, the verdict is an
  -- answer.
  pub answers_where_nodes_fit : (f : Formula) → parse bytes ≡ Reading.accepted f → Greatest (table f) → 1 ≤ N → N ≤ 1024
      → 8 * N ≤ workspace → N ≤ buffer → node_count (table f) ≤ N → IsAnswer (verdict N workspace buffer bytes)
  answers_where_nodes_fit f e g l u w b k =
      concluded-answer (passed (past_13 (from_11 f e g)
      (record { some_nodes = l; few_nodes = u; workspace_fits = w; buffer_fits = b })) k)

  -- Theorem: the verdict's number is 0, 1 to 9, 11 to 14, or 43,
  pub every_number : Number (number_of (verdict N workspace buffer bytes))
  every_number = numbered bytes given verdict-says

  -- and so never 15.
  pub never_15 : number_of (verdict N workspace buffer bytes) ≡ 15 → ⊥
  never_15 = not_15 every_number
