-- What leaving out one position after another comes to, whatever trying a subset is. Where it is stuck, the last subset tried is within the
-- first one (`shrink-stuck`). A core is within it too (`shrink-within`), and it is the first one or was tried and not met (`shrink-keeps`).
-- And of each position of the core some larger subset was tried without it, and met (`shrink_needs`): from then on only others were left
-- out. Assumes nothing.
use mathlib.Core.Path.{◌≡◌, refl, sym, ap, subst, ◌∙◌}
use mathlib.Core.Bool.{Bool, true, false}
use mathlib.Core.List.{[], ◌∷◌}
use Prim.Native.Nat.{ℕ, zero, suc, ◌<◌}
use native.Mathlib.Omega.{arith}
use lib.Dec.{eqb}
use lib.ListN.{get_or}
use borrow.Author.Tests.{eqb-true, eqb-false}
use Rattle.decision.specs.Verdict.{Verdict}
use Rattle.joint.specs.Joint.{Subset, without, Attempt, Shrunk, gone_on, shrink}
use Rattle.joint.specs.Meaning.{Within}
use Rattle.joint.proofs.SubsetLaws.{within_self, within_on, without-within, within-at}

pub core-same : {s t : Subset} → Shrunk.core s ≡ Shrunk.core t → s ≡ t
core-same e = cc

core_not_stuck : {s t : Subset} {why : Verdict} → Shrunk.core s ≡ Shrunk.stuck t why → ⊥
core_not_stuck e = let z : ◌≡◌ {A = ℕ} 0 1 = cc in omega arith

pub stuck_not_core : {s t : Subset} {why : Verdict} → Shrunk.stuck s why ≡ Shrunk.core t → ⊥
stuck_not_core e = core_not_stuck (sym e)

true_not_false : true ≡ false → ⊥
true_not_false e = let z : ◌≡◌ {A = ℕ} 0 1 = cc in omega arith

-- a position that is left out is not there
pub left_out : (s : Subset) (i : ℕ) → get_or (without s i) i false ≡ false
left_out [] i = refl
left_out (b ∷ s) zero = refl
left_out (b ∷ s) (suc i) = left_out s i

gone : (s : Subset) {i j : ℕ} → j ≡ i → get_or (without s i) j false ≡ true → ⊥
gone s {i} e h =
    true_not_false (sym h ∙ ap (λ (k : ℕ). get_or (without s i) k false) e ∙ left_out s i)

module _ (try : Subset → Attempt) where
  -- a subset that could not be decided
  pub record StuckAt (s t : Subset) (why : Verdict) : Type 0 where
    pub within : Within t s
    pub tried : try t ≡ Attempt.unknown why

  stuck_wider : {s u t : Subset} {why : Verdict} → Within s u → StuckAt s t why → StuckAt u t why
  stuck_wider w h = record { within = within_on h.within w; tried = h.tried }

  pub shrink-stuck : (i : ℕ) (s : Subset) {t : Subset} {why : Verdict} → shrink try i s ≡ Shrunk.stuck t why → StuckAt s t why
  shrink-stuck zero s e = absurd (core_not_stuck e)
  shrink-stuck (suc i) s {t} {why} e = by (try (without s i)) refl e (shrink-stuck i s) (shrink-stuck i (without s i))
    where
      by : (a : Attempt) → try (without s i) ≡ a → gone_on (shrink try i) s (without s i) a ≡ Shrunk.stuck t why
          → (shrink try i s ≡ Shrunk.stuck t why → StuckAt s t why)
          → (shrink try i (without s i) ≡ Shrunk.stuck t why → StuckAt (without s i) t why) → StuckAt s t why
      by Attempt.met q e f g = f e
      by Attempt.unmet q e f g = stuck_wider (without-within s i) (g e)
      by (Attempt.unknown v) q e f g =
          let same : without s i ≡ t = cc in
          let told : v ≡ why = cc in
          record {
            within = subst (λ (u : Subset). Within u s) same (without-within s i);
            tried = ap try (sym same) ∙ q ∙ ap Attempt.unknown told;
          }

  pub shrink-within : (i : ℕ) (s : Subset) {t : Subset} → shrink try i s ≡ Shrunk.core t → Within t s
  shrink-within zero s e = subst (λ (u : Subset). Within u s) (core-same e) (within_self s)
  shrink-within (suc i) s {t} e = by (try (without s i)) e (shrink-within i s) (shrink-within i (without s i))
    where
      by : (a : Attempt) → gone_on (shrink try i) s (without s i) a ≡ Shrunk.core t
          → (shrink try i s ≡ Shrunk.core t → Within t s)
          → (shrink try i (without s i) ≡ Shrunk.core t → Within t (without s i)) → Within t s
      by Attempt.met e f g = f e
      by Attempt.unmet e f g = within_on (g e) (without-within s i)
      by (Attempt.unknown v) e f g = absurd (stuck_not_core e)

  -- what is so of the first subset and of all that are not met
  pub shrink-keeps : (P : Subset → Type 0) → ((u : Subset) → try u ≡ Attempt.unmet → P u) → (i : ℕ) (s : Subset) {t : Subset} → P s
      → shrink try i s ≡ Shrunk.core t → P t
  shrink-keeps P f zero s p e = subst P (core-same e) p
  shrink-keeps P f (suc i) s {t} p e =
      by (try (without s i)) refl e (shrink-keeps P f i s p) (shrink-keeps P f i (without s i))
    where
      by : (a : Attempt) → try (without s i) ≡ a → gone_on (shrink try i) s (without s i) a ≡ Shrunk.core t
          → (shrink try i s ≡ Shrunk.core t → P t)
          → (P (without s i) → shrink try i (without s i) ≡ Shrunk.core t → P t) → P t
      by Attempt.met q e g h = g e
      by Attempt.unmet q e g h = h (f (without s i) q) e
      by (Attempt.unknown v) q e g h = absurd (stuck_not_core e)

  -- A subset was tried without a position, and met, and it holds what is left in the end.
  pub record Needed (t : Subset) (j : ℕ) : Type 0 where
    pub larger : Subset
    pub within : Within t larger
    pub met : try (without larger j) ≡ Attempt.met

  pub shrink_needs : (i : ℕ) (s : Subset) {t : Subset} → shrink try i s ≡ Shrunk.core t
      → (j : ℕ) → j < i → get_or t j false ≡ true → Needed t j
  shrink_needs zero s e j l h = absurd (omega arith)
  shrink_needs (suc i) s {t} e j l h =
      by (try (without s i)) refl e (eqb j i) refl (λ k. shrink_needs i s k j) (λ k. shrink_needs i (without s i) k j)
    where
      by : (a : Attempt) → try (without s i) ≡ a → gone_on (shrink try i) s (without s i) a ≡ Shrunk.core t
          → (b : Bool) → eqb j i ≡ b
          → (shrink try i s ≡ Shrunk.core t → j < i → get_or t j false ≡ true → Needed t j)
          → (shrink try i (without s i) ≡ Shrunk.core t → j < i → get_or t j false ≡ true → Needed t j) → Needed t j
      by Attempt.met q e true p f g =
          record { larger = s; within = shrink-within i s e; met = ap (λ (k : ℕ). try (without s k)) (eqb-true j i p) ∙ q }
      by Attempt.met q e false p f g = f e (omega (arith, eqb-false j i p)) h
      by Attempt.unmet q e true p f g =
          absurd (gone s (eqb-true j i p) (within-at j (shrink-within i (without s i) e) h))
      by Attempt.unmet q e false p f g = g e (omega (arith, eqb-false j i p)) h
      by (Attempt.unknown v) q e b p f g = absurd (stuck_not_core e)
