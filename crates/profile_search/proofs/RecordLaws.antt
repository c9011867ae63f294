-- The bytes of a record: what is put is what is read (`put_two`), the five stores of a record make the profile that is meant (`written`),
-- a record stays while bytes elsewhere change (`record_kept`), what is read of a record is its own (`header_are`,
-- `triple_set-at`), and the tests that compare a record with a profile. Assumes nothing.
use Rattle.std.proofs.Common.{◌≡◌, refl, sym, ap, ◌∙◌, Bool, false, ◌&&◌, List, ℕ, ◌+◌, ◌*◌, ◌≤◌, ◌<◌, arith, ne_eqb, eq-eqb, eqb, length}
use Rattle.std.proofs.Common.{get_or, set, length-set, get_or-set_same, get_or-set_other}
use Rattle.std.proofs.Math.Decide.{dec_lt, ℕ_discrete}
use Rattle.std.proofs.Math.Path.{subst⁻¹}
use Rattle.base.specs.Bits.{bit}
use Rattle.base.specs.Bytes.{with_number}
use Rattle.base.proofs.BytesLaws.{number_same, number-written, before-written, behind-written, length-written}
use Rattle.profile_tables.specs.Triples.{Triples, same_triples}
use Rattle.profile_tables.specs.Runs.{TableProfile, same_profile}
use Rattle.profile_tables.proofs.TriplesLaws.{those-same}
use Rattle.triples.specs.Inner.{bytes, bytes_from, bits, triples_in, triples_at}
use Rattle.profile_search.specs.declared.Header.{Header}
use Rattle.profile_search.specs.declared.placed.Store.{Store}
use Rattle.profile_search.specs.Stored.{two, link_of, profile_of, found_of, found_at, record_start, record_of, HeaderOf, BytesBetween}

-- bytes that change, and those that do not
pub changed-none : (from to : ℕ) (a : List ℕ) → BytesBetween from to a a
changed-none from to a = record { same_length = refl; below = λ i h. refl; beyond = λ i h. refl }

module _ {from to : ℕ} {a b : List ℕ} (c : BytesBetween from to a b) where
  pub changed_set : (k v : ℕ) → from ≤ k → k < to → BytesBetween from to a (set b k v)
  changed_set k v h l =
      record {
        same_length = length-set b k v ∙ c.same_length;
        below = λ i m. get_or-set_other b k i v 0 (λ e. omega arith) ∙ c.below i m;
        beyond = λ i m. get_or-set_other b k i v 0 (λ e. omega arith) ∙ c.beyond i m;
      }

  pub changed_then : {low high : ℕ} {d : List ℕ} → from ≤ low → high ≤ to → BytesBetween low high b d → BytesBetween from to a d
  changed_then {low} {high} {d} h l m =
      record {
        same_length = m.same_length ∙ c.same_length;
        below = λ i k. m.below i (omega arith) ∙ c.below i k;
        beyond = λ i k. m.beyond i (omega arith) ∙ c.beyond i k;
      }

  pub changed-wide : {low high : ℕ} → low ≤ from → to ≤ high → BytesBetween low high a b
  changed-wide h l = record
      { same_length = c.same_length; below = λ i k. c.below i (omega arith); beyond = λ i k. c.beyond i (omega arith) }

  byte-kept : (i : ℕ) → (from ≤ i → i < to → ⊥) → get_or b i 0 ≡ get_or a i 0
  byte-kept i h = go (dec_lt i from) (dec_lt i to)
    where
      go : Dec (i < from) → Dec (i < to) → get_or b i 0 ≡ get_or a i 0
      go (yes l) m = c.below i l
      go (no l) (yes m) = absurd (h (omega arith) m)
      go (no l) (no m) = c.beyond i (omega arith)

  pub two-kept : (j : ℕ) → (from < j + 2 → j < to → ⊥) → two b j ≡ two a j
  two-kept j h = number_same 2 b a j j (λ i k. byte-kept (j + i) (λ l m. h (omega arith) (omega arith)))

  pub record_kept : (n at : ℕ) → n ≤ 12 → (from < at + 152 → at < to → ⊥) → found_at n b at ≡ found_at n a at
  unfolding found_at
  record_kept n at h l =
      let p = two-kept (at + 144) (λ u v. l (omega arith) (omega arith)) in
      let q = two-kept (at + 146) (λ u v. l (omega arith) (omega arith)) in
      let r = two-kept (at + 148) (λ u v. l (omega arith) (omega arith)) in
      let s = two-kept (at + 150) (λ u v. l (omega arith) (omega arith)) in
      let t : triples_at n b at ≡ triples_at n a at =
      those-same n (bits (bytes_from b at)) (bits (bytes_from a at))
      (λ f x g hf hx hg. ap (λ (v : ℕ). bit v x) (byte-kept (at + (f * 12 + g)) (λ u v. l (omega arith) (omega arith)))) in
      λ i. record { at = record { first = p i; last = q i; triple_set = t i }; parent = r i; label = s i }

-- two bytes are put
module _ (a : List ℕ) {at to : ℕ} (x : ℕ) (e : at ≡ to) (h : to + 2 ≤ length a) where
  pub put_two : x < 65536 → two (with_number 2 a at x) to ≡ x
  put_two l = ap (two (with_number 2 a at x)) (sym e) ∙ number-written 2 a at x (omega arith) l

  pub put-changed : BytesBetween to (to + 2) a (with_number 2 a at x)
  put-changed = record {
    same_length = length-written 2 a at x (omega arith);
    below = λ i l. before-written 2 a at x i (omega arith) (omega arith);
    beyond = λ i l. behind-written 2 a at x i (omega arith) (omega arith);
  }

-- one byte of the triples more
pub store_triples_more : (a t : List ℕ) (at i : ℕ) → at + i < length a → ((j : ℕ) → j < i → get_or a (at + j) 0 ≡ get_or t j 0)
    → (j : ℕ) → j < i + 1 → get_or (set a (at + i) (get_or t i 0)) (at + j) 0 ≡ get_or t j 0
store_triples_more a t at i h r j l = go (ℕ_discrete j i)
  where
    go : Dec (j ≡ i) → get_or (set a (at + i) (get_or t i 0)) (at + j) 0 ≡ get_or t j 0
    go (yes q) = subst⁻¹ (λ (k : ℕ). get_or (set a (at + i) (get_or t i 0)) (at + k) 0 ≡ get_or t k 0) q
        (get_or-set_same a (at + i) (get_or t i 0) 0 h)
    go (no q) = get_or-set_other a (at + i) (at + j) (get_or t i 0) 0 (λ e. q (omega arith)) ∙ r j (omega arith)

-- a record is written: its triples make a0 of a, and then each put the next area
module _ {a a0 a1 a2 a3 a4 : List ℕ} (t : List ℕ) (at : ℕ) (e : Header) {start : ℕ} (there : start ≡ at)
    (c0 : BytesBetween start (start + 144) a a0) (c1 : BytesBetween (at + 144) (at + 144 + 2) a0 a1)
    (c2 : BytesBetween (at + 146) (at + 146 + 2) a1 a2) (c3 : BytesBetween (at + 148) (at + 148 + 2) a2 a3)
    (c4 : BytesBetween (at + 150) (at + 150 + 2) a3 a4)
  where
    pub written-changed : BytesBetween at (at + 152) a a4
    written-changed =
        changed_then (changed_then
        (changed_then (changed_then (changed-wide c0 (omega arith) (omega arith)) (omega arith) (omega arith) c1) (omega arith)
        (omega arith) c2)
        (omega arith) (omega arith) c3) (omega arith) (omega arith) c4

    pub written : ((i : ℕ) → i < 144 → get_or a0 (start + i) 0 ≡ get_or t i 0)
        → two a1 (at + 144) ≡ e.first.0 → two a2 (at + 146) ≡ e.last.0 → two a3 (at + 148) ≡ link_of e.parent → two a4 (at + 150) ≡ e.letter
        → (n : ℕ) → n ≤ 12 → found_at n a4 at ≡ found_of e (triples_in n t)
    unfolding found_at
    written s first last parent letter n h =
        let p : two a4 (at + 144) ≡ e.first.0 =
        two-kept c4 (at + 144) (λ u v. omega arith) ∙ two-kept c3 (at + 144) (λ u v. omega arith)
        ∙ two-kept c2 (at + 144) (λ u v. omega arith) ∙ first in
        let q : two a4 (at + 146) ≡ e.last.0 = two-kept c4 (at + 146) (λ u v. omega arith)
        ∙ two-kept c3 (at + 146) (λ u v. omega arith) ∙ last in
        let r : two a4 (at + 148) ≡ link_of e.parent = two-kept c4 (at + 148) (λ u v. omega arith) ∙ parent in
        let d : triples_at n a4 at ≡ triples_in n t =
        those-same n (bits (bytes_from a4 at)) (bits (bytes t))
        (λ f x g hf hx hg. ap (λ (v : ℕ). bit v x) (byte (f * 12 + g) (omega arith))) in
        λ i. record { at = record { first = p i; last = q i; triple_set = d i }; parent = r i; label = letter i }
      where
        byte : (i : ℕ) → i < 144 → get_or a4 (at + i) 0 ≡ get_or t i 0
        byte i l =
            c4.below (at + i) (omega arith) ∙ c3.below (at + i) (omega arith) ∙ c2.below (at + i) (omega arith)
            ∙ c1.below (at + i) (omega arith)
            ∙ ap (λ (k : ℕ). get_or a0 (k + i) 0) (sym there) ∙ s i l

-- what is read of a record
module _ (s : Store) (b : List ℕ) (p : ℕ) where
  abbrev NumberRead : (offset r : ℕ) → Type 0
  NumberRead offset r = (r ≡ two b (record_start s p + offset)) × (r < 65536)

  pub header_are : {e : Header} → NumberRead 144 e.first.0 → NumberRead 146 e.last.0 → NumberRead 148 (link_of e.parent)
      → e.letter ≡ two b (record_start s p + 150)
      → HeaderOf (record_of s b p) e
  unfolding found_at
  header_are f l q k =
      record {
        first = f.0;
        last = l.0;
        parent = q.0;
        letter = k;
        small = record { first = f.1; last = l.1; parent = q.1 };
      }

  pub triple_set-at : {at : ℕ} → at ≡ record_start s p → triples_at s.n b at ≡ (record_of s b p).at.triple_set
  unfolding found_at
  triple_set-at e = ap (triples_at s.n b) e

-- is it this profile?
module _ (x : TableProfile) (e : Header) (s : Triples) where
  abbrev SameAs : Bool → Type 0
  SameAs r = r ≡ same_profile x (profile_of e s)

  pub other_first : (x.first ≡ e.first.0 → ⊥) → SameAs false
  other_first d = sym (ap (λ (t : Bool). t && eqb x.last e.last.0 && same_triples x.triple_set s)
      (ne_eqb x.first e.first.0 d))

  pub other_last : x.first ≡ e.first.0 → (x.last ≡ e.last.0 → ⊥) → SameAs false
  other_last f d = sym (simp (eq-eqb x.first e.first.0 f, ne_eqb x.last e.last.0 d))

  pub same_header : x.first ≡ e.first.0 → x.last ≡ e.last.0 → SameAs (same_triples x.triple_set s)
  same_header f l = sym (simp (eq-eqb x.first e.first.0 f, eq-eqb x.last e.last.0 l))
