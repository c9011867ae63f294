-- Scopes with their places taken to others, and the guards that are left of a scope without its places. Assumes nothing.
use Rattle.std.proofs.Common.{◌≡◌, sym, ◌∙◌, true, false, map, map-id, ℕ, ◌<◌, length, get_or}
use Rattle.std.proofs.Math.ListN.{length-map}
use mathlib.Core.List.{map-map}
use Rattle.base.proofs.ListLaws.{get_d_map}
use Rattle.formula.specs.Reading.{Binder, Scope, outside, behind_next}
use Rattle.formula.specs.Occurrence.{Guards}

-- a binder at another place
abbrev pub moved_binder : (ℕ → ℕ) → Binder → Binder
moved_binder place b = record { place = place b.place; guarded = b.guarded }

abbrev pub moved_scope : (ℕ → ℕ) → Scope → Scope
moved_scope place = map (moved_binder place)

pub scope_nowhere : (scope : Scope) → moved_scope (λ i. i) scope ≡ scope
scope_nowhere = map-id

module _ (place : ℕ → ℕ) (scope : Scope) where
  pub moved_length : length (moved_scope place scope) ≡ length scope
  moved_length = length-map scope (moved_binder place)

  pub moved_at : (d : ℕ) → d < length scope → get_or (moved_scope place scope) d outside ≡ moved_binder place (get_or scope d outside)
  moved_at d h = get_d_map (moved_binder place) scope d outside outside h

  pub moved_next : map behind_next (moved_scope place scope) ≡ moved_scope place (map behind_next scope)
  moved_next = map-map behind_next (moved_binder place) scope ∙ sym (map-map (moved_binder place) behind_next scope)

-- whether each binder is guarded
abbrev pub guards : Scope → Guards
guards = map (λ (b : Binder). b.guarded)

module _ (scope : Scope) where
  pub guards-length : length (guards scope) ≡ length scope
  guards-length = length-map scope (λ (b : Binder). b.guarded)

  pub guards-at : (d : ℕ) → d < length scope → get_or (guards scope) d false ≡ (get_or scope d outside).guarded
  guards-at d h = get_d_map (λ (b : Binder). b.guarded) scope d outside false h

  pub guards-next : guards (map behind_next scope) ≡ map (λ _. true) (guards scope)
  guards-next = map-map (λ (b : Binder). b.guarded) behind_next scope ∙ sym (map-map (λ _. true) (λ (b : Binder). b.guarded) scope)
