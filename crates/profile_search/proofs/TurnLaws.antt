-- What one turn adds: a profile followed by one of one transition (`longer-none`, `longer-one`), followed by each of them that begins
-- where it ends (`extend_start`, `extend_more`, `extend_done`), and the turns of the breadth-first search over a layer of records
-- (`Pending`). Assumes nothing.
use Rattle.std.proofs.Common.{◌≡◌, sym, ap, subst, ◌∙◌, Bool, cond, List, [], ◌∷◌, ℕ, suc, ◌+◌, ◌-◌, ◌≤◌, ◌<◌, Option, Some, zero-add, add-one}
use Rattle.std.proofs.Common.{arith, ne_eqb, eq-eqb, get_or}
use Rattle.base.specs.Lists.{range, At}
use Rattle.base.specs.Spread.{adds, spread}
use Rattle.base.proofs.AppendLaws.{flat_map_map}
use Rattle.base.proofs.SpreadLaws.{AfterTurns, turns-start, turns_next, turns-length}
use Rattle.profile_tables.specs.Triples.{Triples, join}
use Rattle.profile_tables.specs.Runs.{FoundProfile, same_profile, follow, longer, layer}
use Rattle.triples.specs.Inner.{triples_in}
use Rattle.triples.proofs.CellLaws.{triples_copied}
use Rattle.profile_search.specs.declared.Header.{Header}
use Rattle.profile_search.specs.declared.placed.Store.{Store}
use Rattle.profile_search.specs.Stored.{found_of, record_start, record_of, stored, first_of, HeaderOf, Chained, Grown}
use Rattle.profile_search.specs.Stored.{GrownTo, AddedTo, ProfilesAdded}
use Rattle.profile_search.proofs.RecordLaws.{triple_set-at}
use Rattle.profile_search.proofs.GrowLaws.{record_at, stored-kept, grown-still, grown-longer, grown_then, with_first}
use Rattle.profile_search.proofs.GrowLaws.{turn_more, turn_stop, turn_past}

pub grown-same : {s : Store} {count r : ℕ} {a b : List ℕ} {xs ys : List FoundProfile} → xs ≡ ys → Grown s count a r b xs
    → Grown s count a r b ys
grown-same {s} {count} {r} {a} {b} e g = subst (Grown s count a r b) e g

-- the same of a number that may be told
pub grown_to-same : (s : Store) (count : ℕ) (a : List ℕ) (r : Option ℕ) (b : List ℕ) {xs ys : List FoundProfile} → xs ≡ ys
    → GrownTo s count a r b xs → GrownTo s count a r b ys
grown_to-same s count a r b e g = subst (λ (l : List FoundProfile). GrownTo s count a r b l) e g

-- the record y after the record x
module _ (n p : ℕ) (x y : FoundProfile) where
  abbrev both : FoundProfile
  both = record {
    at = record { first = x.at.first; last = y.at.last; triple_set = join n x.at.triple_set y.at.triple_set };
    parent = suc p;
    label = y.label;
  }

  apart : (x.at.last ≡ y.at.first → ⊥) → [] ≡ follow n p x y
  unfolding join
  apart d = sym (ap (λ (t : Bool). cond t (both ∷ []) []) (ne_eqb x.at.last y.at.first d))

  meets : x.at.last ≡ y.at.first → both ∷ [] ≡ follow n p x y
  unfolding join
  meets e = sym (ap (λ (t : Bool). cond t (both ∷ []) []) (eq-eqb x.at.last y.at.first e))

  joins : {a b : Header} {triple_set : Triples} → HeaderOf x a → HeaderOf y b → a.last.0 ≡ b.first.0
      → triple_set ≡ join n x.at.triple_set y.at.triple_set
      → found_of (record { first = a.first; last = b.last; parent = Some p; letter = b.letter }) triple_set ∷ [] ≡ follow n p x y
  joins d e m j =
      let from = add-one p in
      ap (λ (z : FoundProfile). z ∷ [])
      (λ i. record { at = record { first = d.first i; last = e.last i; triple_set = j i }; parent = from i; label = e.letter i })
      ∙ meets (sym d.last ∙ m ∙ e.first)

-- profile p followed by profile q: nothing to add, or one profile
module _ (s : Store) (count : ℕ) (a : List ℕ) (p q : ℕ) where
  abbrev After : (r : ℕ) → List ℕ → Type 0
  After r b = ProfilesAdded s count a r b (follow s.n p (record_of s a p) (record_of s a q))

  module _ {d e : Header} (ds : HeaderOf (record_of s a p) d) (es : HeaderOf (record_of s a q) e) where
    pub longer-none : count ≤ s.capacity → Chained s a count → (d.last.0 ≡ e.first.0 → ⊥) → After count a
    longer-none h c n =
        grown-same (ap (adds same_profile (stored s a count))
        (apart s.n p (record_of s a p) (record_of s a q) (λ m. n (ds.last ∙ m ∙ sym es.first))))
        (grown-still s count a h c)

    pub longer-one : {x y : ℕ} (r : Option ℕ) (b u v t : List ℕ) → s.n ≤ 12 → d.last.0 ≡ e.first.0 → x ≡ record_start s p
        → y ≡ record_start s q
        → ((i : ℕ) → i < 144 → get_or u i 0 ≡ get_or a (x + i) 0) → ((i : ℕ) → i < 144 → get_or v i 0 ≡ get_or a (y + i) 0)
        → triples_in s.n t ≡ join s.n (triples_in s.n u) (triples_in s.n v)
        → AddedTo s count a r b (found_of (record { first = d.first; last = e.last; parent = Some p; letter = e.letter })
        (triples_in s.n t) ∷ [])
        → AddedTo s count a r b (follow s.n p (record_of s a p) (record_of s a q))
    longer-one {x = x} {y = y} r b u v t h m ex ey cu cv j g =
        let du = triples_copied s.n a u x h cu ∙ triple_set-at s a p ex in
        let dv = triples_copied s.n a v y h cv ∙ triple_set-at s a q ey in
        grown_to-same s count a r b (ap (adds same_profile (stored s a count))
        (joins s.n p (record_of s a p) (record_of s a q) ds es m (j ∙ (λ i. join s.n (du i) (dv i))))) g

-- profile p followed by the first of those of one transition
module _ (s : Store) (count p : ℕ) (a : List ℕ) where
  abbrev pub extended : ℕ → List FoundProfile
  extended = with_first (stored s a count) (λ q. follow s.n p (record_of s a p) (record_of s a q)) 0

  pub extended-all : (singles : ℕ) → extended singles ≡ adds same_profile (stored s a count)
      (longer s.n (stored s a singles) p (record_of s a p))
  unfolding join stored
  extended-all singles = ap (adds same_profile (stored s a count))
      (sym (flat_map_map (follow s.n p (record_of s a p)) (record_of s a) (range 0 singles)))

  -- those that do not begin where profile p ends add nothing
  abbrev Elsewhere : (q r : ℕ) → Type 0
  Elsewhere q r = (j : ℕ) → q ≤ j → j < r → (record_of s a p).at.last ≡ first_of s a j → ⊥

  past : (q r : ℕ) → q ≤ r → Elsewhere q r → extended q ≡ extended r
  past q r l d =
      turn_past (stored s a count) (λ q. follow s.n p (record_of s a p) (record_of s a q)) 0 q r l
      (λ j m n. ap (λ (i : ℕ). follow s.n p (record_of s a p) (record_of s a i)) (zero-add j)
      ∙ sym (apart s.n p (record_of s a p) (record_of s a j) (d j m n)))

  pub extend_start : (q : ℕ) → count ≤ s.capacity → Chained s a count → Elsewhere 0 q → Grown s count a count a (extended q)
  extend_start q h c d = grown-same (past 0 q (omega arith) d) (grown-still s count a h c)

  pub extend_more : {all r : ℕ} {b d : List ℕ} (q : ℕ) → p < count → q < count → all ≤ s.capacity → Grown s count a all b (extended q)
      → ProfilesAdded s all b r d (follow s.n p (record_of s b p) (record_of s b q))
      → Grown s count a r d (extended (q + 1))
  extend_more {all} {r} {b} {d} q hp hq h g m =
      turn_more (stored s a count) (λ q. follow s.n p (record_of s a p) (record_of s a q)) 0 q h g
      (grown-same
      (ap (adds same_profile (stored s b all))
      ((λ i. follow s.n p (g.kept p hp i) (g.kept q hq i)) ∙ ap (λ (j : ℕ). follow s.n p (record_of s a p) (record_of s a j))
      (sym (zero-add q))))
      m)

  pub extend_stop : {all : ℕ} {b : List ℕ} (q singles : ℕ) → s.capacity < all → q ≤ singles → Grown s count a all b (extended q)
      → ProfilesAdded s count a all b (longer s.n (stored s a singles) p (record_of s a p))
  extend_stop q singles h l g =
      grown-same (extended-all singles)
      (turn_stop (stored s a count) (λ q. follow s.n p (record_of s a p) (record_of s a q)) 0 q singles h l g)

  pub extend_done : {all : ℕ} {b : List ℕ} (q singles : ℕ) → q ≤ singles → Elsewhere q singles → Grown s count a all b (extended q)
      → ProfilesAdded s count a all b (longer s.n (stored s a singles) p (record_of s a p))
  extend_done q singles h d g = grown-same (past q singles h d ∙ extended-all singles) g

-- The loop over the profiles from number `from` up to number `to` has come to number p: its list is in the area.
pub record Pending (s : Store) (singles from to : ℕ) (a : List ℕ) (p all : ℕ) (b : List ℕ) : Type 0 where
  pub so_far : List FoundProfile
  pub grown : Grown s to a all b so_far
  pub turns : AfterTurns same_profile (longer s.n (stored s a singles)) from (stored s a to) p so_far

pub pending_start : (s : Store) (singles from to : ℕ) (a : List ℕ) → to ≤ s.capacity → Chained s a to
    → Pending s singles from to a from to a
pending_start s singles from to a h c = record {
  so_far = stored s a to;
  grown = grown-still s to a h c;
  turns = turns-start same_profile (longer s.n (stored s a singles)) from (stored s a to);
}

module _ {s : Store} {singles from to p all : ℕ} {a b : List ℕ} (k : Pending s singles from to a p all b) where
  abbrev onward : ℕ → FoundProfile → List FoundProfile
  onward = longer s.n (stored s a singles)

  pub pending_next : {r : ℕ} {d : List ℕ} → all ≤ s.capacity → p < all → singles ≤ to
      → ProfilesAdded s all b r d (longer s.n (stored s b singles) p (record_of s b p)) → Pending s singles from to a (p + 1) r d
  pending_next {r} {d} h l m g =
      let x = record_of s b p in
      let there : At k.so_far p x = subst (λ (xs : List FoundProfile). At xs p x) (k.grown.records h) (record_at s b all p l) in
      let same =
      ap (λ (os : List FoundProfile). adds same_profile (stored s b all) (longer s.n os p x))
      (stored-kept s b a singles (λ i j. k.grown.kept i (omega arith))) in
      record {
        so_far = adds same_profile k.so_far (onward p x);
        grown = grown_then k.grown (onward p x) h (grown-same same g);
        turns = turns_next same_profile onward k.turns there;
      }

  abbrev whole : List FoundProfile
  whole = layer s.n (stored s a singles) from to (stored s a to)

  pub pending_stop : s.capacity < all → from ≤ to → p ≤ to → Grown s to a all b whole
  unfolding layer
  pending_stop h m l = grown-longer k.grown h (turns-length same_profile onward k.turns (to - from) (omega arith))

  pub pending_done : p ≡ to → Grown s to a all b whole
  unfolding layer
  pending_done e =
      grown-same (sym k.turns.list_is ∙ ap (λ (i : ℕ). spread same_profile onward (i - from) from (stored s a to)) e) k.grown
