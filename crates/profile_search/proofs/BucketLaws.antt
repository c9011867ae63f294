-- Records found by their hash. A profile's bucket is the fold that the code goes through (`fold_more`, `bucket_is`). The same profile has
-- the same bucket, so whoever goes from the head by the links passes every record that could be the profile (`ChainPassed`). The chains
-- stay while a record's own bytes change (`chained-kept`), and three stores into spare bytes add one record (`linked-records`,
-- `chained_more`). Assumes nothing.
use Rattle.std.proofs.Common.{◌≡◌, sym, ap, subst, subst₂, ◌∙◌, false, List, map, ℕ, ◌+◌, ◌-◌, ◌*◌, ◌/◌, ◌%◌, ◌≤◌, ◌<◌, zero-add, arith}
use Rattle.std.proofs.Common.{below_more}
use Rattle.std.proofs.Math.Decide.{dec_lt, ℕ_discrete}
use mathlib.Core.List.{foldl, foldl-append}
use Rattle.base.specs.Lists.{range}
use Rattle.base.proofs.TestLaws.{not_of_T}
use Rattle.base.proofs.NumberLaws.{values_add}
use Rattle.profile_tables.specs.Triples.{those}
use Rattle.base.specs.Spread.{seen}
use Rattle.profile_tables.specs.Runs.{TableProfile, FoundProfile, same_profile}
use Rattle.profile_tables.proofs.RunLaws.{same-sound}
use Rattle.triples.specs.Inner.{triples_in}
use Rattle.profile_search.specs.declared.Header.{Header}
use Rattle.profile_search.specs.declared.placed.Store.{Store}
use Rattle.profile_search.specs.Stored.{two, profile_of, record_start, record_of, stored, BytesBetween, row_of, mixed_row, bucket_of}
use Rattle.profile_search.specs.Stored.{bucket_at}
use Rattle.profile_search.specs.Stored.{link_at, head_at, Latest, Chained}
use Rattle.profile_search.proofs.RecordLaws.{changed-wide, changed_then, two-kept, record_kept}
use Rattle.profile_search.proofs.GrowLaws.{seen_never}

-- one value more of a fold over a function's values
pub fold_more : {A : Type 0} (target : ℕ → A → ℕ) (h : ℕ) (g : ℕ → A) (k : ℕ) {sum r : ℕ} → sum ≡ foldl target h (map g (range 0 k))
    → r ≡ target sum (g k)
    → r ≡ foldl target h (map g (range 0 (k + 1)))
fold_more target h g k {sum} {r} p q =
    q ∙ ap (λ (i : ℕ). target i (g k)) p
    ∙ sym (ap (foldl target h) (values_add g 0 k 1)
    ∙ foldl-append target h (map g (range 0 k)) (map g (range (0 + k) 1))
    ∙ ap (λ (i : ℕ). target (foldl target h (map g (range 0 k))) (g i)) (zero-add k))

pub bucket_is : (s : Store) (e : Header) (t : List ℕ) (h : ℕ) → h ≡ foldl mixed_row (e.first.0 + e.last.0 * 65536)
    (map (row_of t s.n) (range 0 s.n))
    → h / 65536 % s.capacity ≡ bucket_of s (profile_of e (triples_in s.n t))
unfolding bucket_of those
bucket_is s e t h q = ap (λ (i : ℕ). i / 65536 % s.capacity) q

-- the last of some numbers in a bucket, where the buckets of these stay, and with one number more
module _ {f g : ℕ → ℕ} {k count v : ℕ} (l : Latest f k count v) (same : (q : ℕ) → q < count → g q ≡ f q) where
  latest_same : Latest g k count v
  latest_same = record {
    among = l.among;
    there = λ h. same (v - 1) (omega (arith, l.among)) ∙ l.there h;
    later = λ q h m e. l.later q h m (sym (same q m) ∙ e);
  }

  latest_other : (g count ≡ k → ⊥) → Latest g k (count + 1) v
  latest_other d = record {
    among = omega (arith, l.among);
    there = latest_same.there;
    later = λ q h m. below_more (λ q. v ≤ q → g q ≡ k → ⊥) count (λ q m h. latest_same.later q h m) (λ h. d) q m h;
  }

latest_this : {g : ℕ → ℕ} {k : ℕ} (count : ℕ) → g count ≡ k → Latest g k (count + 1) (count + 1)
latest_this {g} {k} count e = record {
  among = omega arith;
  there = λ h. ap g {x = count + 1 - 1} {y = count} (omega arith) ∙ e;
  later = λ q h m. absurd (omega arith);
}

pub chained-none : (s : Store) (b : List ℕ) → Chained s b 0
chained-none s b = record {
  buckets = λ p h. absurd (omega arith);
  links = λ p h. absurd (omega arith);
  heads = λ p h. absurd (omega arith);
}

-- The search has come to v: the records from there on are not the profile x.
pub record ChainPassed (s : Store) (b : List ℕ) (count : ℕ) (x : TableProfile) (v : ℕ) : Type 0 where
  pub among : v ≤ count
  pub there : 0 < v → bucket_at s b (v - 1) ≡ bucket_of s x
  pub others : (q : ℕ) → v ≤ q → q < count → same_profile (record_of s b q).at x ≡ false

module _ {s : Store} {b : List ℕ} {count : ℕ} (c : Chained s b count) (x : TableProfile) where
  abbrev Other : ℕ → Type 0
  Other q = same_profile (record_of s b q).at x ≡ false

  other_bucket : (q : ℕ) → q < count → (bucket_at s b q ≡ bucket_of s x → ⊥) → Other q
  other_bucket q h d =
      not_of_T (same_profile (record_of s b q).at x) (λ t. d (c.buckets q h ∙ ap (bucket_of s) (same-sound (record_of s b q).at x t)))

  pub passed_start : {k v : ℕ} → k ≡ bucket_of s x → Latest (bucket_at s b) k count v → ChainPassed s b count x v
  passed_start e l =
      record { among = l.among; there = λ h. l.there h ∙ e; others = λ q h m. other_bucket q m (λ r. l.later q h m (r ∙ sym e)) }

  -- on from record p to the link u
  module _ {u : ℕ} (p : ℕ) (w : ChainPassed s b count x (p + 1)) (e : u ≡ link_at s b p) where
    here : bucket_at s b p ≡ bucket_of s x
    here = ap (bucket_at s b) {x = p} {y = p + 1 - 1} (omega arith) ∙ w.there (omega arith)

    link : Latest (bucket_at s b) (bucket_at s b p) p u
    link = subst (λ (i : ℕ). Latest (bucket_at s b) (bucket_at s b p) p i) (sym e) (c.links p (omega (arith, w.among)))

    pub passed-less : u < p + 1
    passed-less = omega (arith, link.among)

    pub passed-more : Other p → ChainPassed s b count x u
    passed-more o =
        record {
          among = omega (arith, w.among, link.among);
          there = λ m. link.there m ∙ here;
          others = λ q m. go q m (dec_lt q p) (ℕ_discrete q p);
        }
      where
        go : (q : ℕ) → u ≤ q → Dec (q < p) → Dec (q ≡ p) → q < count → Other q
        go q m (yes l) d i = other_bucket q i (λ r. link.later q m l (r ∙ sym here))
        go q m (no l) (yes r) i = subst (λ (j : ℕ). Other j) (sym r) o
        go q m (no l) (no r) i = w.others q (omega arith) i

  pub passed-all : {v : ℕ} → ChainPassed s b count x v → v ≤ 0 → seen same_profile x (stored s b count) ≡ false
  passed-all w h = seen_never s b x count (λ q. w.others q (omega arith))

-- a record's own bytes change
pub chained-kept : {s : Store} {a b : List ℕ} {count : ℕ} → s.n ≤ 12
    → BytesBetween (record_start s count) (record_start s count + 152) a b
    → Chained s a count → Chained s b count
chained-kept {s} {a} {b} {count} n w c =
    record {
      buckets = λ p h. sym (bucket p) ∙ c.buckets p h
          ∙ ap (λ (y : FoundProfile). bucket_of s y.at) (sym (record_kept w s.n (record_start s p) n (λ u v. omega arith)));
      links = λ p h. coe 0 1 (i. Latest (λ q. bucket q i) (bucket p i) p (link p i)) (c.links p h);
      heads = λ p h. coe 0 1 (i. Latest (λ q. bucket q i) (bucket p i) count (head (bucket p i) i)) (c.heads p h);
    }
  where
    bucket : (q : ℕ) → bucket_at s a q ≡ bucket_at s b q
    bucket q = sym (two-kept w (record_start s q + 152) (λ u v. omega arith))

    link : (q : ℕ) → link_at s a q ≡ link_at s b q
    link q = sym (two-kept w (record_start s q + 154) (λ u v. omega arith))

    head : (q : ℕ) → head_at s a q ≡ head_at s b q
    head q = sym (two-kept w (record_start s q + 156) (λ u v. omega arith))

-- one record more: its bucket k, its link v, and the head of its bucket are put
module _ (s : Store) (count k : ℕ) {a a1 a2 b : List ℕ} (w1 : BytesBetween (record_start s count + 152)
    (record_start s count + 152 + 2) a a1)
    (w2 : BytesBetween (record_start s count + 154) (record_start s count + 154 + 2) a1 a2)
    (w3 : BytesBetween (record_start s k + 156) (record_start s k + 156 + 2) a2 b)
  where
    pub linked-changed : count < s.capacity → k < s.capacity → BytesBetween s.base (record_start s s.capacity) a b
    linked-changed h l =
        changed_then (changed_then (changed-wide w1 (omega arith) (omega arith)) (omega arith) (omega arith) w2) (omega arith)
        (omega arith) w3

    pub linked-records : s.n ≤ 12 → (p : ℕ) → record_of s b p ≡ record_of s a p
    linked-records n p =
        record_kept w3 s.n (record_start s p) n (λ u v. omega arith)
        ∙ record_kept w2 s.n (record_start s p) n (λ u v. omega arith)
        ∙ record_kept w1 s.n (record_start s p) n (λ u v. omega arith)

    kept : (j : ℕ) → (record_start s count + 152 < j + 2 → j < record_start s count + 156 → ⊥)
        → (record_start s k + 156 < j + 2 → j < record_start s k + 158 → ⊥)
        → two b j ≡ two a j
    kept j h l =
        two-kept w3 j (λ u v. l (omega arith) (omega arith))
        ∙ two-kept w2 j (λ u v. h (omega arith) (omega arith))
        ∙ two-kept w1 j (λ u v. h (omega arith) (omega arith))

    bucket_kept : (p : ℕ) → p < count → bucket_at s b p ≡ bucket_at s a p
    bucket_kept p h = kept (record_start s p + 152) (λ u v. omega arith) (λ u v. omega arith)

    link-kept : (p : ℕ) → p < count → link_at s b p ≡ link_at s a p
    link-kept p h = kept (record_start s p + 154) (λ u v. omega arith) (λ u v. omega arith)

    head-kept : (j : ℕ) → (j ≡ k → ⊥) → head_at s b j ≡ head_at s a j
    head-kept j d = kept (record_start s j + 156) (λ u v. omega arith) (λ u v. d (omega arith))

    module _ {v : ℕ} (put-bucket : two a1 (record_start s count + 152) ≡ k) (put-link : two a2 (record_start s count + 154) ≡ v)
        (put-head : head_at s b k ≡ count + 1) where
      new_bucket : bucket_at s b count ≡ k
      new_bucket = two-kept w3 (record_start s count + 152) (λ u v. omega arith)
          ∙ two-kept w2 (record_start s count + 152) (λ u v. omega arith)
          ∙ put-bucket

      new_link : link_at s b count ≡ v
      new_link = two-kept w3 (record_start s count + 154) (λ u v. omega arith) ∙ put-link

      pub chained_more : s.n ≤ 12 → Chained s a count → Latest (bucket_at s a) k count v → k ≡ bucket_of s (record_of s a count).at
          → Chained s b (count + 1)
      chained_more n c l e =
          record {
            buckets = below_more (λ p. bucket_at s b p ≡ bucket_of s (record_of s b p).at) count
                (λ p h. bucket_kept p h ∙ c.buckets p h ∙ own p) (new_bucket ∙ e ∙ own count);
            links = below_more (λ p. Latest (bucket_at s b) (bucket_at s b p) p (link_at s b p)) count
                (λ p h. at (bucket_kept p h) (link-kept p h) (latest_same (c.links p h) (λ q m. bucket_kept q (omega arith))))
                (at new_bucket new_link (latest_same l bucket_kept));
            heads = λ p h. go p (ℕ_discrete (bucket_at s b p) k) (λ d. omega (arith, apart p d));
          }
        where
          own : (p : ℕ) → bucket_of s (record_of s a p).at ≡ bucket_of s (record_of s b p).at
          own p = ap (λ (y : FoundProfile). bucket_of s y.at) (sym (linked-records n p))

          at : {m i j u w : ℕ} → j ≡ i → w ≡ u → Latest (bucket_at s b) i m u → Latest (bucket_at s b) j m w
          at {m} x y z = subst₂ (λ i u. Latest (bucket_at s b) i m u) (sym x) (sym y) z

          apart : (p : ℕ) → (bucket_at s b p ≡ k → ⊥) → p ≡ count → ⊥
          apart p d q = d (ap (λ (i : ℕ). bucket_at s b i) q ∙ new_bucket)

          go : (p : ℕ) → Dec (bucket_at s b p ≡ k) → ((bucket_at s b p ≡ k → ⊥) → p < count)
              → Latest (bucket_at s b) (bucket_at s b p) (count + 1) (head_at s b (bucket_at s b p))
          go p (yes q) f = at q (ap (head_at s b) q ∙ put-head) (latest_this count new_bucket)
          go p (no d) f =
              let q = bucket_kept p (f d) in
              at q (head-kept (bucket_at s b p) d ∙ ap (head_at s a) q)
              (latest_other (c.heads p (f d)) bucket_kept (λ r. d (q ∙ sym r ∙ new_bucket)))
