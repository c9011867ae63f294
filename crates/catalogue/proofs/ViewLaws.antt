-- For `lookup` (MEANING 9.4): what is handed back by a location that was matched, and that the part of a layer's catalogue is the part that
-- is handed back. Assumes nothing.
use mathlib.Core.Path.{◌≡◌, sym, ap, subst, ◌∙◌}
use mathlib.Core.List.{List}
use Prim.Native.Nat.{ℕ, ◌≤◌}
use lib.ListN.{length}
use denote.Ref.{Bor}
use Rattle.catalogue.specs.Contract.{of_layer, View, view, part, handed}
use Rattle.catalogue.specs.declared.Layer.{Layer}
use Rattle.catalogue.specs.Location.{Location, found}
use Rattle.catalogue.proofs.LocationLaws.{of_layer-map}

module _ (overlay base : Bor (List ℕ)) where
  -- what is handed back by a location that was matched, m, is so by the location itself
  pub handed_of : {v : View} {m r l : Location} → v ≡ handed m (view overlay) (view base) → r ≡ m → r ≡ l
      → v ≡ handed l (view overlay) (view base)
  handed_of h p q = h ∙ ap (λ l. handed l (view overlay) (view base)) (sym p ∙ q)

  -- a part of the catalogue of a layer is the part that is handed back
  pub part-handed : {c : Bor (List ℕ)} {v : View} (layer : Layer) (start size : ℕ) → c ≡ of_layer layer overlay base
      → v ≡ part (view c) start size → v ≡ handed (found layer start size) (view overlay) (view base)
  part-handed layer start size e h = h ∙ ap (λ v. part v start size) (ap view e ∙ of_layer-map view layer overlay base)

  -- what is within the lengths of the two is within that of the one that is taken
  pub within-layer : {c : Bor (List ℕ)} (layer : Layer) {k : ℕ} → c ≡ of_layer layer overlay base
      → k ≤ of_layer layer (length overlay.now) (length base.now) → k ≤ length c.now
  within-layer layer {k} e h = subst (λ (n : ℕ). k ≤ n) (sym (ap size e ∙ of_layer-map size layer overlay base)) h
    where
      size : Bor (List ℕ) → ℕ
      size r = length r.now
