-- The search by layers, turn by turn (`Searching`): the store has the first l + 1 layers, and none of the first l has an accepting
-- profile. It begins with the profiles of one transition, the first layer (`search-start`). Where its last layer has none either, the next
-- one is made (`search-next`), unless there is no room for it (`search-full`); a layer that adds nothing is the last (`search_end`), and
-- one with an accepting profile too (`search-found`). Assumes nothing.
use Rattle.std.proofs.Common.{◌≡◌, refl, sym, ap, subst, ◌∙◌, Bool, false, List, Option, Some, None, ℕ, suc, ◌≤◌, ◌<◌, length, arith}
use Rattle.std.proofs.Math.Decide.{dec_lt}
use Rattle.base.specs.Lists.{At}
use Rattle.base.proofs.At.{at_one, at_before}
use Rattle.profile_tables.specs.Runs.{FoundProfile, profiles_from, layer, count_within}
use Rattle.profile_tables.proofs.LayerLaws.{layer-on, found_begin}
use Rattle.profile_search.specs.Stored.{record_start, record_of, stored, BytesBetween, Chained, StoreChained, Grown}
use Rattle.profile_search.specs.declared.placed.Store.{Store}
use Rattle.profile_search.proofs.RecordLaws.{changed-none, changed_then}
use Rattle.profile_search.proofs.GrowLaws.{stored-length, record_at, stored-kept}
use Rattle.cycle_search.specs.Layers.{First, Layers, ComesTo}
use Rattle.cycle_search.specs.declared.Sought.{Sought}
use Rattle.cycle_search.specs.declared.Sought.TheVariants as sought

-- The search has come to the layer from number `from` up to number `all`.
pub record Searching (test : FoundProfile → Bool) (s : Store) (singles : ℕ) (a b : List ℕ) (from all : ℕ) : Type 0 where
  pub number : ℕ
  pub layers : Layers test s (stored s a singles) b number from all
  pub chained : Chained s b all
  pub low : from ≤ all
  pub begun : singles ≤ all
  pub kept : (p : ℕ) → p < singles → record_of s b p ≡ record_of s a p
  pub elsewhere : BytesBetween s.base (record_start s s.capacity) a b

module _ (test : FoundProfile → Bool) (s : Store) (singles : ℕ) (a : List ℕ) where
  abbrev ones : List FoundProfile
  ones = stored s a singles

  first-layer : stored s a singles ≡ profiles_from 0 s.n ones
  unfolding profiles_from
  first-layer = refl

  pub search-start : StoreChained s a singles → Searching test s singles a a 0 singles
  unfolding profiles_from
  search-start c = record {
    number = 0;
    layers = record {
      from_is = refl;
      all_is = sym (stored-length s a singles);
      room = c.room;
      records = first-layer;
      none_passes = λ p h. absurd (omega arith);
    };
    chained = c.chained;
    low = omega arith;
    begun = omega arith;
    kept = λ p h. refl;
    elsewhere = changed-none s.base (record_start s s.capacity) a;
  }

  module _ {b : List ℕ} {from all : ℕ} (k : Searching test s singles a b from all) where
    abbrev tested : ℕ → Bool
    tested p = test (record_of s b p)

    -- the accepting profile that is found first in the last layer is the first of all
    pub search-found : {p : ℕ} → First tested from all p → ComesTo test s ones b (Some (sought.Accepting p all))
    search-found {p} f =
        ComesTo.accepting {p = p} k.number k.layers f.below f.passes
        (λ i h. elim (dec_lt i from) [ yes l ↦ k.layers.none_passes i l | no n ↦ f.before i (omega arith) h ]) f.from

    -- where none is found there, none of all is accepting
    module _ (none : (i : ℕ) → from ≤ i → i < all → tested i ≡ false) where
      none_yet : (p : ℕ) → p < all → tested p ≡ false
      none_yet p h = elim (dec_lt p from) [ yes l ↦ k.layers.none_passes p l | no n ↦ none p (omega arith) h ]

      -- and so none of those that the list with the next layer begins with
      none-listed : (i : ℕ) (x : FoundProfile) → At (profiles_from all s.n ones) i x → i < all → test x ≡ false
      none-listed i x c h =
          let (more, begins) = found_begin s.n ones from all k.low in
          let long = ap length k.layers.records in
          let there : At (stored s b all) i x =
          subst (λ (l : List FoundProfile). At l i x) (sym k.layers.records)
          (at_before (profiles_from from s.n ones) more (subst (λ (l : List FoundProfile). At l i x) begins c)
          (omega (arith, long, stored-length s b all))) in
          ap test (at_one there (record_at s b all i h)) ∙ none_yet i h

      -- the layer that is made then
      module _ {more : ℕ} {d : List ℕ} (g : Grown s all b more d (layer s.n (stored s b singles) from all (stored s b all))) where
        grown : Grown s all b more d (profiles_from all s.n ones)
        grown =
            subst (Grown s all b more d)
            (ap (λ (os : List FoundProfile). layer s.n os from all (stored s b all)) (stored-kept s b a singles k.kept)
            ∙ ap (layer s.n ones from all) k.layers.records
            ∙ layer-on s.n ones from all k.low)
            g

        abbrev next : ℕ
        next = suc k.number

        next-length : length (profiles_from all s.n ones) ≡ count_within s.n ones (suc next)
        unfolding profiles_from
        next-length = ap (λ (i : ℕ). length (profiles_from i s.n ones)) k.layers.all_is

        pub search-next : more ≤ s.capacity → Searching test s singles a d all more
        search-next h = record {
          number = next;
          layers = record {
            from_is = k.layers.all_is;
            all_is = omega (arith, grown.count_is, next-length);
            room = h;
            records = grown.records h;
            none_passes = λ p l. ap test (grown.kept p l) ∙ none_yet p l;
          };
          chained = grown.chained h;
          low = grown.more;
          begun = omega (arith, k.begun, grown.more);
          kept = λ p l. grown.kept p (omega (arith, k.begun)) ∙ k.kept p l;
          elsewhere = changed_then k.elsewhere (omega arith) (omega arith) grown.elsewhere;
        }

        pub search-full : s.capacity < more → ComesTo test s ones d None
        search-full h =
            ComesTo.no_room next (omega (arith, grown.count_is, next-length))
            (λ i x c l. none-listed i x (subst (λ (n : ℕ). At (profiles_from n s.n ones) i x) (sym k.layers.all_is) c)
            (omega (arith, k.layers.all_is)))

    pub search_end : all ≤ from → ComesTo test s ones b (Some (sought.Nowhere all))
    search_end h =
        ComesTo.nowhere k.number
        (subst (λ (n : ℕ). Layers test s ones b k.number n all) {x = from} {y = all} (omega (arith, k.low)) k.layers)

-- where there is no room for the first layer
pub none-fits : (test : FoundProfile → Bool) {s : Store} {a b : List ℕ} {r : ℕ} {ones : List FoundProfile} → Grown s 0 a r b ones
    → s.capacity < r → ComesTo test s ones b None
unfolding profiles_from
none-fits test g h = ComesTo.no_room 0 (omega (arith, g.count_is)) (λ i x c l. absurd (omega arith))

-- the same search by an equal test, from equal profiles
pub comes_same : {test test' : FoundProfile → Bool} {s : Store} {xs ys : List FoundProfile} {b : List ℕ} {r : Option Sought}
    → ((x : FoundProfile) → test x ≡ test' x) → xs ≡ ys → ComesTo test s xs b r → ComesTo test' s ys b r
comes_same {s = s} {b = b} {r = r} f e k =
    subst (λ (q : (FoundProfile → Bool) × List FoundProfile). ComesTo q.0 s q.1 b r)
    (λ i. (λ x. f x i, e i)) k
