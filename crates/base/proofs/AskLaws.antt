-- What questions asked one after another come to. `Asked` says it of one question, by what the question means and not by the test that
-- decides it, and of the outcome of whatever comes after; so nested, it says it of a list of questions. The laws of a list: the first
-- question that is answered by no gives its refusal, whatever comes after (`first_refusal`); behind one that is answered by yes comes what
-- comes after (`passed`); and if the outcome is not the refusal, the answer was yes (`settled`). Assumes nothing.
use Rattle.std.proofs.Common.{◌≡◌, refl, Bool, ℕ, ◌≤◌, ◌<◌, T, ltb, leb, ltb→lt, lt→ltb, leb→le, le→leb}
use Rattle.base.specs.Ask.{ask}
use Rattle.base.proofs.BoolLaws.{by_test}

-- An outcome of a question, and of what comes after it where the answer is yes.
pub data Asked {A : Type 0} (Question : Type 0) (refusal : A) (After : A → Type 0) : A → Type 0 where
  answered-yes : {o : A} → Question → After o → Asked Question refusal After o
  answered-no : (Question → ⊥) → Asked Question refusal After refusal

-- A test that decides the question asks it.
module _ {A Question : Type 0} {refusal : A} {After : A → Type 0} (next : A) where
  pub asked : (b : Bool) → (T b → Question) → (Question → T b) → After next → Asked Question refusal After (ask b refusal next)
  asked b f g a =
      by_test b (λ b. Asked Question refusal After (ask b refusal next))
      (λ h. Asked.answered-yes (f h) a)
      (λ h. Asked.answered-no (λ q. h (g q)))

-- a comparison of two numbers
module _ {A : Type 0} (m n : ℕ) {refusal : A} {After : A → Type 0} (next : A) where
  pub asked_le : After next → Asked (m ≤ n) refusal After (ask (leb m n) refusal next)
  asked_le = asked next (leb m n) (leb→le m n) (le→leb m n)

  pub asked_lt : After next → Asked (m < n) refusal After (ask (ltb m n) refusal next)
  asked_lt = asked next (ltb m n) (ltb→lt m n) (lt→ltb m n)

module _ {A Question : Type 0} {refusal : A} {After : A → Type 0} where
  pub first_refusal : {o : A} → Asked Question refusal After o → (Question → ⊥) → o ≡ refusal
  first_refusal (Asked.answered-yes q a) n = absurd (n q)
  first_refusal (Asked.answered-no m) n = refl

  pub passed : {o : A} → Asked Question refusal After o → Question → After o
  passed (Asked.answered-yes q a) r = a
  passed (Asked.answered-no n) r = absurd (n r)

  pub settled : {o : A} → Asked Question refusal After o → (o ≡ refusal → ⊥) → Question × After o
  settled (Asked.answered-yes q a) n = (q, a)
  settled (Asked.answered-no m) n = absurd (n refl)

  -- what holds of the refusal and of all that comes after holds of the outcome
  pub every_outcome : (P : A → Type 0) → P refusal → (Question → (o : A) → After o → P o) → (o : A) → Asked Question refusal After o → P o
  every_outcome P r f o (Asked.answered-yes q a) = f q o a
  every_outcome P r f o (Asked.answered-no n) = r
