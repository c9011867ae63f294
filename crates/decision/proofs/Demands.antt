-- What is asked of the decision, each demand as one theorem about the verdict, for any bytes, N, M and sizes of the two areas. Unless it
-- is a refusal, the verdict is NOT exactly if no lasso over the alphabet, however long, meets the formula that the bytes are
-- (`not_exactly`). Nothing of 1 to 13 refuses exactly if the bytes are a formula and the capacities and the areas are as asked
-- (`granted_exactly`). It is 14 exactly if then K is above N (`refused_14_exactly`), and 15 exactly if then K is at most N, P above M, and
-- c of l above M too where a shortest accepting cycle has l transitions (`refused_15_exactly`). Where nothing up to 14 refuses and some
-- such lasso meets the formula, there is a shortest accepting cycle, and if c of its length is at most M, the verdict is MET with a short
-- witness (`met-short`). More room never alters MET or NOT (`more_room`, `more_room_decided`), and the inputs settle the rest too
-- (`decided-settled`). Assumes nothing.
use Rattle.std.proofs.Common.{◌≡◌, refl, sym, ap, subst, ◌∙◌, ◌↔◌, true, List, ℕ, ◌≤◌, ◌<◌, Ok, Err, arith, length}
use Rattle.std.proofs.Math.Path.{subst⁻¹}
use Rattle.base.proofs.AskLaws.{Asked, first_refusal, passed, settled}
use Rattle.formula.specs.Formula.{Formula}
use Rattle.formula.specs.Table.{Table, table}
use Rattle.formula.specs.Reading.{Reading, parse}
use Rattle.lasso.specs.Lasso.{Lasso, over_alphabet, meets}
use Rattle.theory.proofs.ReadLaws.{no-lasso}
use Rattle.construction.specs.declared.Question.TheVariants.{Nodes, Profiles}
use Rattle.decision.specs.Verdict.{Verdict, after_reading, verdict}
use Rattle.construction.specs.Construction.{node_count}
use Rattle.construction.specs.Questions.{question_code}
use Rattle.construction.specs.declared.Question.{Question}
use Rattle.decision.specs.Contract.{Answer, says, profile_count, profile_count_within, Witness, leaves, Decided}
use Rattle.decision.specs.Lends.{Lends}
use Rattle.decision.proofs.VerdictLaws.{Shortest, ProfilesFit, Concluded, witness-shortest, one-shortest}
use Rattle.decision.proofs.VerdictLaws.{From14, questions, asked-all}
use Rattle.decision.proofs.VerdictLaws.{concluded_cases, VerdictCases, verdict-answered}
use Rattle.decision.proofs.Answer.{lasso, past_13, read_of, witness-such, witness-holds}

-- the verdict is no refusal
abbrev pub IsAnswer : Verdict → Type 0
IsAnswer (Verdict.unread why) = ⊥
IsAnswer (Verdict.refused q) = ⊥
IsAnswer (Verdict.satisfiable stem cycle K c letters) = Unit {0}
IsAnswer (Verdict.unsatisfiable K P) = Unit {0}

-- the verdict is NOT
abbrev pub IsNot : Verdict → Type 0
IsNot (Verdict.unread why) = ⊥
IsNot (Verdict.refused q) = ⊥
IsNot (Verdict.satisfiable stem cycle K c letters) = ⊥
IsNot (Verdict.unsatisfiable K P) = Unit {0}

-- the verdict is no refusal from 1 to 13
abbrev pub Past13 : Verdict → Type 0
Past13 (Verdict.unread why) = ⊥
Past13 (Verdict.refused q) = 14 ≤ question_code q
Past13 (Verdict.satisfiable stem cycle K c letters) = Unit {0}
Past13 (Verdict.unsatisfiable K P) = Unit {0}

-- The questions 1 to 13 are answered by yes: the bytes are a formula, the capacities are in range, both areas are large enough.
pub record Granted (N M workspace buffer : ℕ) (bytes : List ℕ) (f : Formula) : Type 0 where
  pub reads : parse bytes ≡ Reading.accepted f
  pub lends : Lends N M workspace buffer

-- no lasso over the alphabet meets a formula, of whatever length
abbrev pub NoLasso : Formula → Type 0
NoLasso f = (c : Lasso) → over_alphabet c ≡ true → meets c f ≡ true → ⊥

-- MET, with K, a cycle of l transitions and c of l, a lasso over the alphabet that meets the formula, and the witness that it is: `Witness`
-- has that its stem is shorter than K, its cycle at most c of l, and that no accepting cycle has fewer transitions.
pub record Short (f : Formula) (l : ℕ) (o : Verdict) : Type 0 where
  pub stem : ℕ
  pub letters : List ℕ
  pub answer : o ≡ Verdict.satisfiable stem l (node_count (table f)) (profile_count_within (table f) l) letters
  pub such : over_alphabet (lasso letters stem) ≡ true
  pub holds : meets (lasso letters stem) f ≡ true
  pub witness : Witness (table f) stem l letters

-- the questions from 14 on
abbrev SearchAsked : (N M : ℕ) → Table → Verdict → Type 0
SearchAsked N M t = From14 N t (ProfilesFit t M) (Concluded t)

-- a question before 14 was answered by yes
yes-before : {Yes : Type 0} {q : Question} {After : Verdict → Type 0} {o : Verdict} → Asked Yes (Verdict.refused q) After o
    → question_code q < 14 → Past13 o → Yes × After o
yes-before a l p = settled a (λ e. before l (subst Past13 e p))
  where
    before : {code : ℕ} → code < 14 → 14 ≤ code → ⊥
    before l k = omega arith

not_refused : {t : Table} {o : Verdict} {q : Question} → Concluded t o → o ≡ Verdict.refused q → ⊥
not_refused (Concluded.met w) e = cc
not_refused (Concluded.unmet n) e = cc

nodes_apart : Verdict.refused Nodes ≡ Verdict.refused Profiles → ⊥
nodes_apart e = cc

only_14 : {N M : ℕ} {t : Table} {o : Verdict} → SearchAsked N M t o → o ≡ Verdict.refused Nodes → N < node_count t
only_14 (Asked.answered-no n) e = omega arith
only_14 (Asked.answered-yes q (Asked.answered-no n)) e = absurd (nodes_apart (sym e))
only_14 (Asked.answered-yes q (Asked.answered-yes r c)) e = absurd (not_refused c e)

only_15 : {N M : ℕ} {t : Table} {o : Verdict} → SearchAsked N M t o → o ≡ Verdict.refused Profiles
    → (node_count t ≤ N) × (ProfilesFit t M → ⊥)
only_15 (Asked.answered-no n) e = absurd (nodes_apart e)
only_15 (Asked.answered-yes q (Asked.answered-no n)) e = (q, n)
only_15 (Asked.answered-yes q (Asked.answered-yes r c)) e = absurd (not_refused c e)

past_14 : {N M : ℕ} {t : Table} {o : Verdict} → SearchAsked N M t o → Past13 o
past_14 (Asked.answered-no n) = omega arith
past_14 (Asked.answered-yes q (Asked.answered-no n)) = omega arith
past_14 (Asked.answered-yes q (Asked.answered-yes r (Concluded.met w))) = tt
past_14 (Asked.answered-yes q (Asked.answered-yes r (Concluded.unmet n))) = tt

pub answer-past : (o : Verdict) → IsAnswer o → Past13 o
answer-past (Verdict.unread why) h = h
answer-past (Verdict.refused q) h = absurd h
answer-past (Verdict.satisfiable stem cycle K c letters) h = tt
answer-past (Verdict.unsatisfiable K P) h = tt

answer-concluded : {N M : ℕ} {t : Table} {o : Verdict} → SearchAsked N M t o → IsAnswer o → Concluded t o
answer-concluded (Asked.answered-no n) h = absurd h
answer-concluded (Asked.answered-yes q (Asked.answered-no n)) h = absurd h
answer-concluded (Asked.answered-yes q (Asked.answered-yes r c)) h = c

module _ (N M workspace buffer : ℕ) (bytes : List ℕ) where
  abbrev given : Verdict
  given = verdict N M workspace buffer bytes

  answered-granted : {r : Reading Formula} {o : Verdict} → parse bytes ≡ r → VerdictCases N M workspace buffer r o → Past13 o
      → (f : Formula) × Granted N M workspace buffer bytes f
  answered-granted e VerdictCases.unread p = absurd p
  answered-granted e (VerdictCases.read {f} d) p =
      let (c, d12) = yes-before d (omega arith) p in
      let (w, d13) = yes-before d12 (omega arith) p in
      let (b, d14) = yes-before d13 (omega arith) p in
      (f, record { reads = e; lends = record { capacity = c; workspace_fits = w; buffer_fits = b } })

  from_14 : {f : Formula} → Granted N M workspace buffer bytes f → SearchAsked N M (table f) given
  from_14 {f} g =
      let a = verdict-answered N M workspace buffer bytes in
      let d = read_of (subst (λ (r : Reading Formula). VerdictCases N M workspace buffer r given) g.reads a) in
      past_13 d g.lends

  -- Theorem: nothing of 1 to 13 refuses exactly if the bytes are a formula and the capacities and the areas are as asked.
  pub granted_exactly : Past13 (verdict N M workspace buffer bytes) ↔ ((f : Formula) × Granted N M workspace buffer bytes f)
  granted_exactly =
      (λ p. answered-granted refl (verdict-answered N M workspace buffer bytes) p, λ h. past_14 (from_14 h.1))

  -- Theorem: unless the verdict is a refusal, it is NOT exactly if no such lasso meets the formula that the bytes are.
  pub not_exactly : IsAnswer (verdict N M workspace buffer bytes)
      → (f : Formula) × (parse bytes ≡ Reading.accepted f) × (IsNot (verdict N M workspace buffer bytes) ↔ NoLasso f)
  not_exactly h =
      let (f, g) = granted_exactly.0 (answer-past given h) in
      (f, g.reads, exactly f g.reads (answer-concluded (from_14 g) h))
    where
      exactly : (f : Formula) → parse bytes ≡ Reading.accepted f → {o : Verdict} → Concluded (table f) o → IsNot o ↔ NoLasso f
      exactly f e (Concluded.met {stem} {letters = letters} w) =
          (λ h. absurd h, λ n. n (lasso letters stem) (witness-such w) (witness-holds bytes f e w))
      exactly f e (Concluded.unmet n) = (λ h. no-lasso bytes f e n, λ h. tt)

  -- Theorem: the verdict is 14 exactly if nothing of 1 to 13 refuses and K is above N.
  pub refused_14_exactly : (verdict N M workspace buffer bytes ≡ Verdict.refused Nodes)
      ↔ ((f : Formula) × Granted N M workspace buffer bytes f × (N < node_count (table f)))
  refused_14_exactly = (
    λ e. let (f, g) = granted_exactly.0 (subst⁻¹ Past13 e (omega arith)) in (f, g, only_14 (from_14 g) e),
    λ h. first_refusal (from_14 h.1) (λ k. omega (arith, h.2)),
  )

  -- Theorem: the verdict is 15 exactly if nothing of 1 to 13 refuses, K is at most N, P is above M, and so is c of l, l being the length
  -- of a shortest accepting cycle.
  pub refused_15_exactly : (verdict N M workspace buffer bytes ≡ Verdict.refused Profiles)
      ↔ ((f : Formula) × Granted N M workspace buffer bytes f × (node_count (table f) ≤ N) × (M < profile_count (table f))
      × ((l : ℕ) → Shortest (table f) l → M < profile_count_within (table f) l))
  refused_15_exactly = (
    λ e.
        let (f, g) = granted_exactly.0 (subst⁻¹ Past13 e (omega arith)) in
        let (k, n) = only_15 (from_14 g) e in (
          f,
          g,
          k,
          above (λ h. n (ProfilesFit.all h)),
          λ l s. above (λ h. n (ProfilesFit.early l s h)),
        ),
    λ h. first_refusal (passed (from_14 h.1) h.2) (no-fit h.3 h.4),
  )
    where
      above : {m : ℕ} → (m ≤ M → ⊥) → M < m
      above n = omega arith

      no-fit : {t : Table} → M < profile_count t → ((l : ℕ) → Shortest t l → M < profile_count_within t l) → ProfilesFit t M → ⊥
      no-fit p c (ProfilesFit.all h) = omega arith
      no-fit p c (ProfilesFit.early l s h) = omega (arith, c l s)

  -- Theorem: where nothing of 1 to 13 refuses, K is at most N, and some such lasso meets the formula, there is a shortest accepting cycle;
  -- and if c of its length is at most M, the verdict is MET, and the witness is short.
  pub met-short : (f : Formula) → Granted N M workspace buffer bytes f → node_count (table f) ≤ N
      → (c : Lasso) → over_alphabet c ≡ true → meets c f ≡ true
      → (l : ℕ) × Shortest (table f) l × (profile_count_within (table f) l ≤ M → Short f l (verdict N M workspace buffer bytes))
  met-short f g k c s m = by (concluded_cases f)
    where
      -- of what the verdict can be, MET, and its cycle is as short
      short : {l : ℕ} → Shortest (table f) l → {o : Verdict} → Concluded (table f) o → Short f l o
      short r {o} (Concluded.met {stem} {letters = letters} w) =
          subst (λ (l : ℕ). Short f l o) (one-shortest (witness-shortest w) r)
          (record {
            stem = stem;
            letters = letters;
            answer = refl;
            such = witness-such w;
            holds = witness-holds bytes f g.reads w;
            witness = w;
          })
      short r (Concluded.unmet n) = absurd (n r.node r.around r.accepted)

      by : {o : Verdict} → Concluded (table f) o
          → (l : ℕ) × Shortest (table f) l × (profile_count_within (table f) l ≤ M → Short f l given)
      by (Concluded.met {cycle = l} w) =
          let r = witness-shortest w in
          (l, r, λ h. short r (passed (passed (from_14 g) k) (ProfilesFit.early l r h)))
      by (Concluded.unmet n) = absurd (no-lasso bytes f g.reads n c s m)

-- an answer has passed a question
yes-answered : {Yes : Type 0} {q : Question} {After : Verdict → Type 0} {o : Verdict} → Asked Yes (Verdict.refused q) After o
    → IsAnswer o → Yes × After o
yes-answered a h = settled a (λ e. subst IsAnswer e h)

-- More room: N and M may grow, and the areas with them.
module _ (N M w b N' M' w' b' : ℕ) (nodes-more : N ≤ N') (profiles-more : M ≤ M') (lends : Lends N' M' w' b') where
  more-asked : (t : Table) → IsAnswer (questions N M w b t) → questions N' M' w' b' t ≡ questions N M w b t
  more-asked t h =
      let (c, a12) = yes-answered (asked-all N M w b t) h in
      let (d, a13) = yes-answered a12 h in
      let (e, a14) = yes-answered a13 h in
      let (k, a15) = yes-answered a14 h in
      let (p, o) = yes-answered a15 h in
      passed (passed (past_13 (asked-all N' M' w' b' t) lends) (omega arith)) (omega arith) ∙ sym o

  more_read : (r : Reading Formula) → IsAnswer (after_reading (questions N M w b) r)
      → after_reading (questions N' M' w' b') r ≡ after_reading (questions N M w b) r
  more_read (Reading.refused why) h = absurd h
  more_read (Reading.accepted f) h = more-asked (table f) h

  -- Theorem: a MET or NOT that is given is given with more room too, with the same numbers.
  pub more_room : (bytes : List ℕ) → IsAnswer (verdict N M w b bytes) → verdict N' M' w' b' bytes ≡ verdict N M w b bytes
  unfolding verdict
  more_room bytes h = more_read (parse bytes) h

-- the answer of the operation is MET or NOT
abbrev pub Answered : Answer → Type 0
Answered (Ok v) = Unit {0}
Answered (Err why) = ⊥

answered-is : (v : Verdict) → Answered (says v) → IsAnswer v
answered-is (Verdict.unread why) h = h
answered-is (Verdict.refused q) h = h
answered-is (Verdict.satisfiable stem cycle K c letters) h = tt
answered-is (Verdict.unsatisfiable K P) h = tt

-- Theorem: so it is with the operation itself, whose answer and whose witness are the same.
pub more_room_decided : {bytes : List ℕ} {N M N' M' : ℕ} {w w₁ b b₁ w' w₁' b' b₁' : List ℕ} {r r' : Answer} → N ≤ N' → M ≤ M'
    → Lends N' M' (length w') (length b') → Decided bytes N M w w₁ b b₁ r → Decided bytes N' M' w' w₁' b' b₁' r' → Answered r
    → (r' ≡ r) × (b₁' ≡ leaves (verdict N M (length w) (length b) bytes) b')
more_room_decided {bytes} {N} {M} {N'} {M'} {w} {b = b} {w' = w'} {b' = b'} n m l d e h =
    let v = verdict N M (length w) (length b) bytes in
    let same =
    more_room N M (length w) (length b) N' M' (length w') (length b') n m l bytes (answered-is v (subst Answered d.answered h)) in (
      e.answered ∙ ap says same ∙ sym d.answered,
      e.buffered ∙ ap (λ (o : Verdict). leaves o b') same,
    )

-- Theorem (MEANING 5.8): two calls with the same inputs answer the same, and leave the same in both areas.
pub decided-settled : {bytes : List ℕ} {N M : ℕ} {w w₁ w₂ b b₁ b₂ : List ℕ} {r s : Answer} → Decided bytes N M w w₁ b b₁ r
    → Decided bytes N M w w₂ b b₂ s → (r ≡ s) × (b₁ ≡ b₂) × (w₁ ≡ w₂)
decided-settled d e = (d.answered ∙ sym e.answered, d.buffered ∙ sym e.buffered, d.worked ∙ sym e.worked)
