-- What the verdict says of the formula is so: MET comes with a lasso over the alphabet that meets it, NOT is given only where no such lasso
-- meets it, and where nothing is refused the verdict is MET exactly if some such lasso meets the formula. From the laws of the verdict and
-- the two halves of the core theorem. Assumes nothing.
use Rattle.std.proofs.Common.{◌≡◌, refl, subst, ◌↔◌, true, List, ℕ, ◌≤◌}
use Rattle.std.proofs.Math.Path.{subst⁻¹}
use Rattle.base.proofs.AskLaws.{Asked, passed, every_outcome}
use Rattle.formula.specs.Formula.{Formula}
use Rattle.formula.specs.Table.{Table, table}
use Rattle.formula.specs.Reading.{Reading, parse}
use Rattle.lasso.specs.Lasso.{Lasso, over_alphabet, meets}
use Rattle.theory.proofs.Soundness.{lasso_of}
use Rattle.theory.proofs.ReadLaws.{run-such, run_holds, no-lasso}
use Rattle.decision.specs.Verdict.{Verdict, verdict}
use Rattle.construction.specs.Construction.{node_count}
use Rattle.construction.specs.declared.Question.{Question}
use Rattle.decision.specs.Contract.{Witness, Met, Unmet}
use Rattle.decision.specs.Lends.{Lends}
use Rattle.decision.proofs.VerdictLaws.{ProfilesFit, Concluded, From11, DecidedCases, VerdictCases, verdict-answered}

abbrev pub lasso : List ℕ → ℕ → Lasso
lasso letters stem = record { letters = letters; stem = stem }

abbrev pub Says : (bytes : List ℕ) → Verdict → Type 0
Says bytes (Verdict.unread why) = parse bytes ≡ Reading.refused why
Says bytes (Verdict.refused q) = Unit {0}
Says bytes (Verdict.satisfiable stem cycle K c letters) = Met bytes stem cycle K c letters
Says bytes (Verdict.unsatisfiable K P) = Unmet bytes K P

-- the verdict is MET
abbrev pub IsMet : Verdict → Type 0
IsMet (Verdict.unread why) = ⊥
IsMet (Verdict.refused q) = ⊥
IsMet (Verdict.satisfiable stem cycle K c letters) = Unit {0}
IsMet (Verdict.unsatisfiable K P) = ⊥

pub read_of : {N M workspace buffer : ℕ} {f : Formula} {o : Verdict} → VerdictCases N M workspace buffer (Reading.accepted f) o
    → DecidedCases N M workspace buffer (table f) o
read_of (VerdictCases.read d) = d

-- nothing is refused
pub record Unrefused (N M workspace buffer : ℕ) (t : Table) : Type 0 where
  pub lends : Lends N M workspace buffer
  pub nodes_fit : node_count t ≤ N
  pub profiles_fit : ProfilesFit t M

-- past the questions 11 to 13
pub past_13 : {N M workspace buffer : ℕ} {After : Verdict → Type 0} {o : Verdict} → From11 N M workspace buffer After o
    → Lends N M workspace buffer → After o
past_13 d l = passed (passed (passed d l.capacity) l.workspace_fits) l.buffer_fits

fitting : {N M workspace buffer : ℕ} {t : Table} {o : Verdict} → DecidedCases N M workspace buffer t o → Unrefused N M workspace buffer t
    → Concluded t o
fitting d f = passed (passed (past_13 d f.lends) f.nodes_fit) f.profiles_fit

-- a witness's lasso is that of its transitions
witness-is : {t : Table} {stem cycle : ℕ} {letters : List ℕ} (w : Witness t stem cycle letters)
    → lasso letters stem ≡ lasso_of w.there w.around
witness-is w i = lasso (w.letters_are i) (w.stem_is i)

pub witness-such : {t : Table} {stem cycle : ℕ} {letters : List ℕ} → Witness t stem cycle letters
    → over_alphabet (lasso letters stem) ≡ true
witness-such w = subst⁻¹ (λ (c : Lasso). over_alphabet c ≡ true) (witness-is w) (run-such w.foremost.is_one)

module _ (bytes : List ℕ) (f : Formula) (reads : parse bytes ≡ Reading.accepted f) where
  pub witness-holds : {stem cycle : ℕ} {letters : List ℕ} → Witness (table f) stem cycle letters → meets (lasso letters stem) f ≡ true
  witness-holds w =
      subst⁻¹ (λ (c : Lasso). meets c f ≡ true) (witness-is w) (run_holds bytes f reads w.foremost.is_one)

  concluded-says : {o : Verdict} → Concluded (table f) o → Says bytes o
  concluded-says (Concluded.met w) =
      record {
        formula = f;
        reads = reads;
        such = witness-such w;
        holds = witness-holds w;
        witness = w;
        nodes_counted = refl;
        profiles_counted = refl;
      }
  concluded-says (Concluded.unmet n) =
      record {
        formula = f;
        reads = reads;
        none_holds = no-lasso bytes f reads n;
        nodes_counted = refl;
        profiles_counted = refl;
      }

  asked-says : {Yes : Type 0} {q : Question} {After : Verdict → Type 0} → ((o : Verdict) → After o → Says bytes o)
      → (o : Verdict) → Asked Yes (Verdict.refused q) After o → Says bytes o
  asked-says s = every_outcome (Says bytes) tt (λ q. s)

  decided-says : {N M workspace buffer : ℕ} {o : Verdict} → DecidedCases N M workspace buffer (table f) o → Says bytes o
  decided-says {o} d = asked-says (asked-says (asked-says (asked-says (asked-says (λ o c. concluded-says c))))) o d

-- Theorem: a verdict that answers the questions says what is so.
pub answered-says : {N M workspace buffer : ℕ} (bytes : List ℕ) {r : Reading Formula} {o : Verdict} → parse bytes ≡ r
    → VerdictCases N M workspace buffer r o → Says bytes o
answered-says bytes e VerdictCases.unread = e
answered-says bytes e (VerdictCases.read {f} d) = decided-says bytes f e d

-- So does the verdict.
pub verdict-says : (N M workspace buffer : ℕ) (bytes : List ℕ) → Says bytes (verdict N M workspace buffer bytes)
verdict-says N M workspace buffer bytes = answered-says bytes refl (verdict-answered N M workspace buffer bytes)

pub verdict-met : (N M workspace buffer : ℕ) (bytes : List ℕ) (stem cycle K c : ℕ) (letters : List ℕ)
    → verdict N M workspace buffer bytes ≡ Verdict.satisfiable stem cycle K c letters → Met bytes stem cycle K c letters
verdict-met N M workspace buffer bytes stem cycle K c letters e = subst (Says bytes) e (verdict-says N M workspace buffer bytes)

pub verdict-unmet : (N M workspace buffer : ℕ) (bytes : List ℕ) (K P : ℕ) → verdict N M workspace buffer bytes ≡ Verdict.unsatisfiable K
    P → Unmet bytes K P
verdict-unmet N M workspace buffer bytes K P e = subst (Says bytes) e (verdict-says N M workspace buffer bytes)

-- Theorem: where nothing is refused, the verdict is MET exactly if some lasso over the alphabet meets the formula.
pub verdict_exact : (N M workspace buffer : ℕ) (bytes : List ℕ) (f : Formula) → parse bytes ≡ Reading.accepted f
    → Unrefused N M workspace buffer (table f)
    → IsMet (verdict N M workspace buffer bytes) ↔ ((c : Lasso) × (over_alphabet c ≡ true) × (meets c f ≡ true))
verdict_exact N M workspace buffer bytes f e fits =
    exact (fitting (read_of (subst (λ (r : Reading Formula). VerdictCases N M workspace buffer r (verdict N M workspace buffer bytes)) e
    (verdict-answered N M workspace buffer bytes))) fits)
  where
    exact : {o : Verdict} → Concluded (table f) o → IsMet o ↔ ((c : Lasso) × (over_alphabet c ≡ true) × (meets c f ≡ true))
    exact (Concluded.met {stem} {letters = letters} w) =
        (λ h. (lasso letters stem, witness-such w, witness-holds bytes f e w), λ h. tt)
    exact (Concluded.unmet n) = (λ h. absurd h, λ h. no-lasso bytes f e n h.0 h.1 h.2)
