-- Rejecting, without search and fuel: joining the triples any number of times, zero included, gives some f back to f with the priority
-- of a least fixpoint. `Lap` is the joining. A lap's parts are parts of the given triples, so the search's fuel is enough.
-- Assumes nothing.
use mathlib.Core.Path.{◌≡◌, refl, sym, ap, subst, subst⁻¹, ◌∙◌}
use mathlib.Core.Bool.{Bool, ◌&&◌}
use mathlib.Core.List.Memᴰ
use mathlib.Core.List.{List, [], ◌∷◌, map, Memᴰ}
use Prim.Native.Nat.{ℕ, ◌*◌}
use native.Mathlib.Omega.{arith}
use native.Mathlib.Nat.{mul_assoc}
use lib.Dec.{T, eqb, eqb→eq, eqb_refl}
use lib.ListN.{length, length-map}
use Rattle.base.specs.Search.{Edge, Item}
use Rattle.base.proofs.BoolLaws.{and_left, and_right, and_both}
use Rattle.base.proofs.MemberLaws.{flat_map_of, flat_map_in, any_of, any_in}
use Rattle.base.proofs.SearchLaws.{Visits, ReachableBy, search-found, search-few}
use Rattle.base.proofs.SearchOrder.{Reach, search-all}
use Rattle.formula.specs.Table.{Table, operator}
use Rattle.profile.specs.Traces.{Triple, same_triple, meet, joined}
use Rattle.profile.specs.Profiles.{lap_edges, lap_room, laps, is_least, rejecting}
use Rattle.profile.specs.Cycle.{Lap, Lap.once, Lap.again, Rejecting}
use Rattle.profile.proofs.TripleLaws.{triple-sound, triple_refl, cube, Parts, cube_in, cube_length, min_in, meet_of, meet_in}

module _ (xs : List Triple) where
  abbrev begun : Triple → Item Triple Triple
  begun a = record { way = a ∷ []; at = a }

  abbrev lap-to : Triple → Triple → Edge Triple Triple
  lap-to b c = record { label = b; to = c }

  abbrev froms : List ℕ
  froms = map (λ (a : Triple). a.from) xs

  abbrev priorities : List ℕ
  priorities = map (λ (a : Triple). a.priority) xs

  abbrev tos : List ℕ
  tos = map (λ (a : Triple). a.to) xs

  found-lap : (x : Item Triple Triple) → ReachableBy same_triple (lap_edges xs) (map begun xs) x → Lap xs x.at
  found-lap x (ReachableBy.start m) =
      let (a, r, q) = Memᴰ.of_map begun xs m in
      subst (λ (y : Item Triple Triple). Lap xs y.at) q (once r)
  found-lap y (ReachableBy.go {x} {e} f m) =
      let (b, r, q) = flat_map_of (λ (b : Triple). map (lap-to b) (meet x.at b)) xs m in
      let (c, s, p) = Memᴰ.of_map (lap-to b) (meet x.at b) q in
      let (i, j) = meet_of x.at b c s in
      subst⁻¹ (Lap xs) (ap (λ (d : Edge Triple Triple). d.to) (sym p) ∙ j) (again (found-lap x f) r i)

  lap_reach : (a : Triple) → Lap xs a → Reach same_triple (lap_edges xs) (map begun xs) a
  lap_reach a (once m) = Reach.start (begun a, Memᴰ.map begun m, refl)
  lap_reach c (again {a} {b} l m e) =
      Reach.go {e = lap-to b (joined a b)} (lap_reach a l)
      (flat_map_in (λ (b : Triple). map (lap-to b) (meet a b)) m (Memᴰ.map (lap-to b) (meet_in a b e)))

  lap_parts : (a : Triple) → Lap xs a → Parts froms priorities tos a
  lap_parts a (once m) =
      record {
        from_in = Memᴰ.map (λ (a : Triple). a.from) m;
        priority_in = Memᴰ.map (λ (a : Triple). a.priority) m;
        to_in = Memᴰ.map (λ (a : Triple). a.to) m;
      }
  lap_parts c (again {a} {b} l m e) =
      let p = lap_parts a l in
      record {
        from_in = p.from_in;
        priority_in = min_in priorities a.priority b.priority p.priority_in (Memᴰ.map (λ (a : Triple). a.priority) m);
        to_in = Memᴰ.map (λ (a : Triple). a.to) m;
      }

  cube_size : length (cube froms priorities tos) ≡ length xs * length xs * length xs
  cube_size = cube_length froms priorities tos ∙ simp (length-map, mul_assoc)

  -- The search finds exactly the laps.
  pub laps-lap : (x : Item Triple Triple) → Memᴰ x (laps xs) → Lap xs x.at
  laps-lap x m = found-lap x (search-found same_triple (lap_edges xs) (lap_room xs) (map begun xs) m)

  pub laps-all : (a : Triple) → Lap xs a → Visits a (laps xs)
  laps-all a l =
      let few =
      search-few same_triple (lap_edges xs) triple_refl (lap_room xs) (map begun xs) (cube froms priorities tos)
      (λ x f. cube_in froms priorities tos x.at (lap_parts x.at (found-lap x f))) in
      search-all same_triple (lap_edges xs) triple-sound (lap_room xs) (map begun xs) (omega (arith, few, cube_size)) (lap_reach a l)

module _ (t : Table) (xs : List Triple) where
  abbrev bad : Triple → Bool
  bad a = eqb a.from a.to && is_least (operator t a.priority)

  -- Theorem: rejecting is that.
  pub rejecting_of : T (rejecting t xs) → Rejecting t xs
  unfolding rejecting
  rejecting_of h =
      let (x, m, q) = any_of (λ (x : Item Triple Triple). bad x.at) (laps xs) h in
      let back = eqb x.at.from x.at.to in
      let least = is_least (operator t x.at.priority) in
      record {
        triple = x.at;
        lap = laps-lap xs x m;
        back = eqb→eq x.at.from x.at.to (and_left back least q);
        least = and_right back least q;
      }

  pub rejecting_in : Rejecting t xs → T (rejecting t xs)
  unfolding rejecting
  rejecting_in r =
      let a = r.triple in
      let (x, m, q) = laps-all xs a r.lap in
      any_in (λ (x : Item Triple Triple). bad x.at) m
      (subst (λ (b : Triple). T (bad b)) q
      (and_both (eqb a.from a.to) (is_least (operator t a.priority))
      (subst (λ (n : ℕ). T (eqb a.from n)) r.back (eqb_refl a.from)) r.least))
