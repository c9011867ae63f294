-- The verdict is that of MEANING 5: each refusal exactly where its question is the first that is answered by no, else MET with a witness,
-- K and c of its cycle's length, or NOT where there is no accepting cycle, with K and P. `VerdictCases` is the list of questions as a
-- relation, without search and fuel; `ProfilesFit` is question 15 so. The verdict's definition meets it (`verdict-answered`), and it
-- leaves nothing open (`answered-settled`), since there is one witness (`one-witness`). Assumes nothing.
use Rattle.std.proofs.Common.{◌≡◌, refl, sym, ap, subst, ◌∙◌, List, ◌++◌, map, ℕ, ◌≤◌, arith, leb, leb→le, le→leb, length}
use Rattle.std.proofs.Math.Option.{Option, none, some}
use Rattle.base.specs.Search.{Item}
use Rattle.base.proofs.WithinLaws.{within-few}
use Rattle.base.proofs.AskLaws.{Asked, asked, asked_le, first_refusal, passed}
use Rattle.formula.specs.Formula.{Formula}
use Rattle.formula.specs.Table.{Table, table}
use Rattle.formula.specs.Reading.{Reading, parse}
use Rattle.formula.specs.declared.Refusal.{Refusal}
use Rattle.tableau.specs.Saturation.{Subset}
use Rattle.tableau.specs.Transition.{Transition, letter}
use Rattle.tableau.specs.Nodes.{nodes}
use Rattle.tableau.proofs.ForemostLaws.{one-foremost}
use Rattle.profile.specs.Profiles.{Profile, profiles}
use Rattle.profile.proofs.RootLaws.{root-apart}
use Rattle.profile.proofs.CycleLaws.{run_along}
use Rattle.construction.specs.declared.Question.TheVariants as question
use Rattle.decision.specs.Verdict.{Verdict, counted, conclude, decide, search, within_capacity, workspace_size, witness_size}
use Rattle.decision.specs.Verdict.{ask_capacities, after_reading, verdict}
use Rattle.decision.specs.Lends.{Capacity}
use Rattle.profile.specs.Cycle.{AcceptingCycle}
use Rattle.construction.specs.Construction.{node_count}
use Rattle.decision.specs.Contract.{profile_count, profile_count_within, Witness}
use Rattle.decision.specs.Inner.{found_in, needed, concluded, onward}
use Rattle.decision.proofs.LendsLaws.{capacity_of, capacity_in}
use Rattle.decision.proofs.WitnessLaws.{no-cycle, first-witness}

-- l is the length of a shortest accepting cycle.
pub record Shortest (t : Table) (l : ℕ) : Type 0 where
  pub node : Subset
  pub around : List Transition
  pub accepted : AcceptingCycle t node around
  pub length-is : length around ≡ l
  pub fewest : (v : Subset) (ss : List Transition) → AcceptingCycle t v ss → l ≤ length ss

-- Question 15 of MEANING 5.2: there is room for all profiles, or for those of runs no longer than a shortest accepting cycle.
pub data ProfilesFit (t : Table) (M : ℕ) : Type 0 where
  all : profile_count t ≤ M → ProfilesFit t M
  early : (l : ℕ) → Shortest t l → profile_count_within t l ≤ M → ProfilesFit t M

-- no accepting cycle at all
abbrev NoCycle : Table → Type 0
NoCycle t = (v : Subset) (ss : List Transition) → AcceptingCycle t v ss → ⊥

-- MEANING 5.3
pub data Concluded (t : Table) : Verdict → Type 0 where
  met : {stem cycle : ℕ} {letters : List ℕ} → Witness t stem cycle letters
      → Concluded t (Verdict.satisfiable stem cycle (node_count t) (profile_count_within t cycle) letters)
  unmet : NoCycle t → Concluded t (Verdict.unsatisfiable (node_count t) (profile_count t))

-- the cycle of a witness is a shortest one, and all shortest ones have one length
witness-cycle : {t : Table} {stem cycle : ℕ} {letters : List ℕ} (w : Witness t stem cycle letters)
    → AcceptingCycle t w.foremost.is_one.node w.around
witness-cycle w = w.foremost.is_one.counts

pub witness-shortest : {t : Table} {stem cycle : ℕ} {letters : List ℕ} → Witness t stem cycle letters → Shortest t cycle
witness-shortest w =
    record {
      node = w.foremost.is_one.node;
      around = w.around;
      accepted = witness-cycle w;
      length-is = sym w.cycle_is;
      fewest = λ v ss c.
          let (rs, a) = c.reachable in
          omega (arith, w.foremost.cycle_fewest rs ss (record { node = v; leads = a; counts = c }), w.cycle_is);
    }

pub one-shortest : {t : Table} {l m : ℕ} → Shortest t l → Shortest t m → l ≡ m
one-shortest s r =
    omega (
      arith,
      s.fewest r.node r.around r.accepted,
      r.fewest s.node s.around s.accepted,
      s.length-is,
      r.length-is,
    )

-- the room that question 15 grants is enough for what MET counts, and for what NOT counts
pub fit-met : {t : Table} {M l : ℕ} → ProfilesFit t M → Shortest t l → profile_count_within t l ≤ M
fit-met {t} {l = l} (ProfilesFit.all h) s = omega (arith, within-few l (profiles t (nodes t)))
fit-met {t} {M} {l} (ProfilesFit.early m r h) s = subst (λ (k : ℕ). profile_count_within t k ≤ M) (one-shortest r s) h

pub fit-unmet : {t : Table} {M : ℕ} → ProfilesFit t M → NoCycle t → profile_count t ≤ M
fit-unmet (ProfilesFit.all h) n = h
fit-unmet (ProfilesFit.early l s h) n = absurd (n s.node s.around s.accepted)

-- the questions 11 to 13 in their order, and then what comes after
abbrev pub From11 : (N M workspace buffer : ℕ) → (Verdict → Type 0) → Verdict → Type 0
From11 N M workspace buffer After =
    Asked (Capacity N M) (Verdict.refused question.Capacity)
    (Asked (workspace_size N M ≤ workspace) (Verdict.refused question.Workspace)
    (Asked (witness_size N M ≤ buffer) (Verdict.refused question.Buffer)
    After))

-- the questions 14 and 15, the latter as a statement, and then what comes after
abbrev pub From14 : (N : ℕ) → Table → (fit : Type 0) → (Verdict → Type 0) → Verdict → Type 0
From14 N t fit After =
    Asked (node_count t ≤ N) (Verdict.refused question.Nodes)
    (Asked fit (Verdict.refused question.Profiles)
    After)

-- all of them
abbrev pub DecidedCases : (N M workspace buffer : ℕ) → Table → Verdict → Type 0
DecidedCases N M workspace buffer t = From11 N M workspace buffer (From14 N t (ProfilesFit t M) (Concluded t))

-- a refusal of reading is passed on
pub data VerdictCases (N M workspace buffer : ℕ) : Reading Formula → Verdict → Type 0 where
  unread : {why : Refusal} → VerdictCases N M workspace buffer (Reading.refused why) (Verdict.unread why)
  read : {f : Formula} {o : Verdict} → DecidedCases N M workspace buffer (table f) o
      → VerdictCases N M workspace buffer (Reading.accepted f) o

-- every question of the decision after reading
abbrev pub questions : (N M workspace buffer : ℕ) → Table → Verdict
questions N M workspace buffer t = ask_capacities N M workspace buffer (decide N M t)

-- and of a search
abbrev pub search-questions : (K N M : ℕ) (workspace : List ℕ) (buffer : ℕ) → Table → Verdict
search-questions K N M workspace buffer t = ask_capacities N M (length workspace) buffer (search K N M workspace t)

-- the definitions ask these questions: 11 to 13 in front of whatever comes after,
pub capacities_asked : (N M workspace buffer : ℕ) (v : Verdict) {After : Verdict → Type 0} → After v
    → From11 N M workspace buffer After (ask_capacities N M workspace buffer v)
capacities_asked N M workspace buffer v a =
    asked _ (within_capacity N M) (capacity_of N M) (capacity_in N M)
    (asked_le (workspace_size N M) workspace _
    (asked_le (witness_size N M) buffer v
    a))

-- 15,
pub onward-asked : (M : ℕ) (t : Table) {fit : Type 0} {After : Verdict → Type 0} → (needed t ≤ M → fit) → (fit → needed t ≤ M)
    → After (concluded t) → Asked fit (Verdict.refused question.Profiles) After (onward M t)
onward-asked M t f g a =
    asked (concluded t) (leb (needed t) M) (λ h. f (leb→le (needed t) M h)) (λ q. le→leb (needed t) M (g q))
    a

-- and 14 in front of it
pub decide-asked : (N M : ℕ) (t : Table) {fit : Type 0} {After : Verdict → Type 0} → (needed t ≤ M → fit) → (fit → needed t ≤ M)
    → After (concluded t) → From14 N t fit After (decide N M t)
unfolding decide
decide-asked N M t f g a =
    asked_le (node_count t) N (onward M t)
    (onward-asked M t f g a)

-- all of them, with the profiles that the definition counts
pub asked-all : (N M workspace buffer : ℕ) (t : Table)
    → From11 N M workspace buffer (From14 N t (needed t ≤ M) (λ o. o ≡ concluded t)) (questions N M workspace buffer t)
asked-all N M workspace buffer t =
    capacities_asked N M workspace buffer (decide N M t) (decide-asked N M t (λ h. h) (λ h. h) refl)

-- by whether an accepting profile was found
module _ (f : Formula) where
  abbrev t : Table
  t = table f

  abbrev listed : List (Item Transition Profile)
  listed = profiles t (nodes t)

  concludes : (o : Option (Item Transition Profile)) → found_in t ≡ o → Concluded t (conclude (nodes t) (counted o listed) o)
  concludes none e = unmet (no-cycle t (root-apart f) e)
  concludes (some x) e = met (first-witness t (root-apart f) e)

  fits_of : (M : ℕ) (o : Option (Item Transition Profile)) → found_in t ≡ o → length (counted o listed) ≤ M → ProfilesFit t M
  fits_of M none e h = ProfilesFit.all h
  fits_of M (some x) e h = ProfilesFit.early (length x.way) (witness-shortest (first-witness t (root-apart f) e)) h

  fits_in : (M : ℕ) (o : Option (Item Transition Profile)) → found_in t ≡ o → ProfilesFit t M → length (counted o listed) ≤ M
  fits_in M none e q = fit-unmet q (no-cycle t (root-apart f) e)
  fits_in M (some x) e q = fit-met q (witness-shortest (first-witness t (root-apart f) e))

-- Theorem: what the definition concludes is MET with a witness, or NOT where there is no accepting cycle.
pub concluded_cases : (f : Formula) → Concluded (table f) (concluded (table f))
concluded_cases f = concludes f (found_in (table f)) refl

read_answered : (N M workspace buffer : ℕ) (r : Reading Formula)
    → VerdictCases N M workspace buffer r (after_reading (questions N M workspace buffer) r)
read_answered N M workspace buffer (Reading.refused why) = unread
read_answered N M workspace buffer (Reading.accepted f) =
    read (capacities_asked N M workspace buffer (decide N M (table f))
    (decide-asked N M (table f) (fits_of f M (found_in (table f)) refl) (fits_in f M (found_in (table f)) refl)
    (concluded_cases f)))

-- Theorem: the verdict answers the questions.
pub verdict-answered : (N M workspace buffer : ℕ) (bytes : List ℕ)
    → VerdictCases N M workspace buffer (parse bytes) (verdict N M workspace buffer bytes)
unfolding verdict
verdict-answered N M workspace buffer bytes = read_answered N M workspace buffer (parse bytes)

-- nothing is left open
abbrev Settles : (Verdict → Type 0) → Type 0
Settles Is = (o p : Verdict) → Is o → Is p → o ≡ p

asked-settled : (Question : Type 0) (refusal : Verdict) {After : Verdict → Type 0} → Settles After
    → Settles (Asked Question refusal After)
asked-settled Question refusal s o p (Asked.answered-yes q a) b = s o p a (passed b q)
asked-settled Question refusal s o p (Asked.answered-no n) b = sym (first_refusal b n)

-- Theorem: there is one witness, with its run.
pub one-witness : {t : Table} {a b c d : ℕ} {xs ys : List ℕ} (w : Witness t a b xs) (u : Witness t c d ys)
    → (w.there ≡ u.there) × (w.around ≡ u.around)
one-witness {t} w u = one-foremost t (AcceptingCycle t) (λ v ss c. run_along t c.run) w.foremost u.foremost

witness-settled : {t : Table} {a b c d : ℕ} {xs ys : List ℕ} → Witness t a b xs → Witness t c d ys → (a ≡ c) × (b ≡ d) × (xs ≡ ys)
witness-settled w u =
    let (p, q) = one-witness w u in (
      w.stem_is ∙ ap length p ∙ sym u.stem_is,
      w.cycle_is ∙ ap length q ∙ sym u.cycle_is,
      w.letters_are ∙ (λ i. map letter (p i ++ q i)) ∙ sym u.letters_are,
    )

concluded-settled : (t : Table) → Settles (Concluded t)
concluded-settled t o p (met w) (met u) =
    let (a, b, e) = witness-settled w u in
    λ i. Verdict.satisfiable (a i) (b i) (node_count t) (profile_count_within t (b i)) (e i)
concluded-settled t o p (met w) (unmet n) = absurd (n _ _ (witness-cycle w))
concluded-settled t o p (unmet n) (met u) = absurd (n _ _ (witness-cycle u))
concluded-settled t o p (unmet n) (unmet m) = refl

-- Theorem (MEANING 5.8): two verdicts that answer the questions for the same inputs are one.
pub answered-settled : (N M workspace buffer : ℕ) (r : Reading Formula) → Settles (VerdictCases N M workspace buffer r)
answered-settled N M workspace buffer r o p unread unread = refl
answered-settled N M workspace buffer r o p (read {f} a) (read b) =
    asked-settled _ _ (asked-settled _ _ (asked-settled _ _ (asked-settled _ _ (asked-settled _ _ (concluded-settled (table f)))))) o p a b

-- Theorem: so the verdict is the only one that answers them.
pub verdict-only : (N M workspace buffer : ℕ) (bytes : List ℕ) (o : Verdict)
    → VerdictCases N M workspace buffer (parse bytes) o → o ≡ verdict N M workspace buffer bytes
verdict-only N M workspace buffer bytes o a =
    answered-settled N M workspace buffer (parse bytes) o (verdict N M workspace buffer bytes) a
    (verdict-answered N M workspace buffer bytes)
