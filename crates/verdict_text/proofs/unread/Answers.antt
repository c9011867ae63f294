-- verdict_text::unread meets its contract: the refusal with its place, then the place of a binder if it names one. Assumes nothing.
use Rattle.std.proofs.Common.{◌≡◌, subst, ℕ}
use Rattle.std.proofs.Math.Path.{subst⁻¹}
use Rattle.std.proofs.Math.Option.{some}
use Rattle.text.specs.Text.{Buffer, Wrote}
use Rattle.text.proofs.Writing.{then}
use Rattle.formula.specs.Refusal.{code_of, place_of}
use Rattle.formula.specs.declared.Refusal.{Refusal}
use Rattle.formula.specs.declared.Refusal.TheVariants.{Unguarded}
use Rattle.verdict_text.specs.Texts.{placed_text, from_text, unread_text}
use Rattle.verdict_text.proofs.unread.Goals as goal

-- its place is written
abbrev Placed : Buffer → Refusal → Buffer → Type 0
Placed s why t = Wrote s (placed_text (code_of why) (place_of why)) t

-- the place of its binder behind it
wrote-named : {s m t : Buffer} {why : Refusal} {at binder : ℕ} → why ≡ Unguarded at binder → Placed s why m
    → Wrote m (from_text (some binder)) t → Wrote s (unread_text why) t
wrote-named {s} {m} {t} e w v =
    subst⁻¹ (λ (r : Refusal). Wrote s (unread_text r) t) e (then (subst (λ (r : Refusal). Placed s r m) e w) v)

pub returns-in-Unguarded-clause-wrote : goal.returns-in-Unguarded-clause-wrote
returns-in-Unguarded-clause-wrote c =
    wrote-named c.in-Unguarded.is c.placed.ensures.wrote c.worded.ensures.wrote
