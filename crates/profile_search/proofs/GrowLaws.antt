-- The records of a store as a list: it grows at its end, stays while its records do, and a profile is known if its list has it
-- (`seen_never`, `seen-found`). What one profile more makes of it (`grown-known`, `grown_new`, `grown-full`), and what several make, one
-- after the other (`grown-on`, `grown_then`). Once there is no room, whatever is still to come changes nothing (`grown-longer`), so a loop
-- may stop there; every loop that adds the lists of rising numbers goes by `turn_more` and `turn_stop`, and may leave out empty ones
-- (`turn_past`). Assumes nothing.
use Rattle.std.proofs.Common.{◌≡◌, refl, sym, ap, subst, ◌∙◌, Bool, true, false, cond, ◌||◌, List, [], ◌∷◌, ◌++◌, map, append-nil, ℕ}
use Rattle.std.proofs.Common.{zero, suc, ◌+◌, ◌-◌, ◌≤◌, ◌<◌, zero-add, arith, length, get_or, length-append}
use Rattle.base.specs.Lists.{range, flat_map, any, At}
use Rattle.base.specs.Spread.{seen, add, adds}
use Rattle.base.proofs.At.{at_of}
use Rattle.base.proofs.SpreadLaws.{adds-append, adds-length}
use Rattle.base.proofs.BoolLaws.{of_T, to_T, or_left, or_right}
use Rattle.base.proofs.AppendLaws.{any_append, flat_map_append, range-append}
use Rattle.base.proofs.NumberLaws.{values_length, values_add, values_at, values_same, values_one}
use Rattle.profile_tables.specs.Runs.{TableProfile, FoundProfile, same_profile}
use Rattle.profile_search.specs.declared.placed.Store.{Store}
use Rattle.profile_search.specs.Stored.{record_start, record_of, stored, BytesBetween, Chained, Grown, ProfilesAdded}
use Rattle.profile_search.proofs.RecordLaws.{changed-none, changed_then, changed-wide, record_kept}

module _ (s : Store) (b : List ℕ) where
  pub stored-length : (k : ℕ) → length (stored s b k) ≡ k
  unfolding stored
  stored-length k = values_length (record_of s b) 0 k

  pub stored_more : (k : ℕ) → stored s b (k + 1) ≡ stored s b k ++ (record_of s b k ∷ [])
  unfolding stored
  stored_more k = values_add (record_of s b) 0 k 1 ∙ ap (λ (i : ℕ). stored s b k ++ (record_of s b i ∷ [])) (zero-add k)

  pub stored_at : (k p : ℕ) (d : FoundProfile) → p < k → get_or (stored s b k) p d ≡ record_of s b p
  unfolding stored
  stored_at k p d h = values_at (record_of s b) 0 k p d h ∙ ap (record_of s b) (zero-add p)

  pub record_at : (k p : ℕ) → p < k → At (stored s b k) p (record_of s b p)
  record_at k p h =
      subst (At (stored s b k) p) (stored_at k p (record_of s b p) h)
      (at_of (stored s b k) p (record_of s b p) (omega (arith, stored-length k)))

  pub stored-kept : (a : List ℕ) (k : ℕ) → ((p : ℕ) → p < k → record_of s b p ≡ record_of s a p) → stored s b k ≡ stored s a k
  unfolding stored
  stored-kept a k h = values_same (record_of s b) (record_of s a) 0 k (λ p l m. h p (omega arith))

  -- whether a profile is known
  module _ (x : TableProfile) where
    abbrev is_known : ℕ → Bool
    is_known k = seen same_profile x (stored s b k)

    seen_none : is_known 0 ≡ false
    unfolding stored
    seen_none = refl

    seen_more : (p : ℕ) → is_known p ≡ false → same_profile (record_of s b p).at x ≡ false → is_known (p + 1) ≡ false
    seen_more p h e =
        ap (seen same_profile x) (stored_more p)
        ∙ any_append (λ (y : FoundProfile). same_profile y.at x) (stored s b p) (record_of s b p ∷ []) ∙ rw (h, e)

    pub seen_never : (count : ℕ) → ((p : ℕ) → p < count → same_profile (record_of s b p).at x ≡ false) → is_known count ≡ false
    seen_never zero f = seen_none
    seen_never (suc p) f =
        ap (λ (k : ℕ). is_known k) {x = suc p} {y = p + 1} (omega arith)
        ∙ seen_more p (seen_never p (λ q h. f q (omega arith))) (f p (omega arith))

    pub seen-found : (count p : ℕ) → p < count → same_profile (record_of s b p).at x ≡ true → is_known count ≡ true
    unfolding stored
    seen-found count p h e =
        let rest = map (record_of s b) (range (0 + p + 1) (count - p - 1)) in
        ap (λ (k : ℕ). is_known k) {x = count} {y = p + (1 + (count - p - 1))} (omega arith)
        ∙ ap (seen same_profile x)
        (values_add (record_of s b) 0 p (1 + (count - p - 1))
        ∙ ap (λ (l : List FoundProfile). stored s b p ++ l) (values_one (record_of s b) (0 + p) (count - p - 1)))
        ∙ any_append same (stored s b p) (record_of s b (0 + p) ∷ rest)
        ∙ of_T (is_known p || (same (record_of s b (0 + p)) || any same rest))
        (or_right (is_known p) (same (record_of s b (0 + p)) || any same rest)
        (or_left (same (record_of s b (0 + p))) (any same rest)
        (to_T (same (record_of s b (0 + p))) (ap (λ (i : ℕ). same (record_of s b i)) (zero-add p) ∙ e))))
      where
        same : FoundProfile → Bool
        same y = same_profile y.at x

-- the list grows
module _ (s : Store) (count : ℕ) (a : List ℕ) (h : count ≤ s.capacity) (c : Chained s a count) where
  abbrev before : List FoundProfile
  before = stored s a count

  pub grown-still : Grown s count a count a before
  grown-still = record {
    more = omega arith;
    count_is = omega (arith, stored-length s a count);
    records = λ l. refl;
    chained = λ l. c;
    kept = λ p l. refl;
    elsewhere = changed-none s.base (record_start s s.capacity) a;
  }

  -- one profile more
  module _ (x : FoundProfile) where
    abbrev new : Bool → List FoundProfile
    new known = cond known before (before ++ (x ∷ []))

    pub grown-known : true ≡ seen same_profile x.at before → Grown s count a count a (add same_profile before x)
    grown-known e = subst (λ (known : Bool). Grown s count a count a (new known)) e grown-still

    -- its record makes w of the area, and its chain b
    pub grown_new : {w b : List ℕ} → s.n ≤ 12 → false ≡ seen same_profile x.at before → count < s.capacity → record_of s w count ≡ x
        → BytesBetween (record_start s count) (record_start s count + 152) a w → Chained s b (count + 1)
        → ((p : ℕ) → record_of s b p ≡ record_of s w p)
        → BytesBetween s.base (record_start s s.capacity) w b → Grown s count a (count + 1) b (add same_profile before x)
    grown_new {w} {b} n e l q u d r v =
        let same : (p : ℕ) → p < count → record_of s b p ≡ record_of s a p =
        λ p m. r p ∙ record_kept u s.n (record_start s p) n (λ i j. omega arith) in
        subst (λ (known : Bool). Grown s count a (count + 1) b (new known)) e (record {
          more = omega arith;
          count_is = omega (arith, stored-length s a count, length-append before (x ∷ []));
          records = λ m.
              stored_more s b count
              ∙ ap (λ (l : List FoundProfile). l ++ (record_of s b count ∷ [])) (stored-kept s b a count same)
              ∙ ap (λ (y : FoundProfile). before ++ (y ∷ [])) (r count ∙ q);
          chained = λ m. d;
          kept = same;
          elsewhere = changed_then (changed-wide u (omega arith) (omega arith)) (omega arith) (omega arith) v;
        })

    pub grown-full : false ≡ seen same_profile x.at before → s.capacity ≤ count
        → Grown s count a (count + 1) a (add same_profile before x)
    grown-full e l =
        subst (λ (known : Bool). Grown s count a (count + 1) a (new known)) e (record {
          more = omega arith;
          count_is = omega (arith, stored-length s a count, length-append before (x ∷ []));
          records = λ m. absurd (omega arith);
          chained = λ m. absurd (omega arith);
          kept = λ p m. refl;
          elsewhere = changed-none s.base (record_start s s.capacity) a;
        })

module _ {s : Store} {count all : ℕ} {a b : List ℕ} {xs : List FoundProfile} (g : Grown s count a all b xs) where
  -- no room: any longer list
  pub grown-longer : {ys : List FoundProfile} → s.capacity < all → length xs ≤ length ys → Grown s count a all b ys
  grown-longer h l = record {
    more = g.more;
    count_is = omega (arith, g.count_is);
    records = λ m. absurd (omega arith);
    chained = λ m. absurd (omega arith);
    kept = g.kept;
    elsewhere = g.elsewhere;
  }

  -- and then from there
  pub grown-on : {r : ℕ} {d : List ℕ} {ys : List FoundProfile} → Grown s all b r d ys → Grown s count a r d ys
  grown-on n = record {
    more = omega (arith, g.more, n.more);
    count_is = n.count_is;
    records = n.records;
    chained = n.chained;
    kept = λ p h. n.kept p (omega (arith, g.more)) ∙ g.kept p h;
    elsewhere = changed_then g.elsewhere (omega arith) (omega arith) n.elsewhere;
  }

  -- room: more profiles
  pub grown_then : {r : ℕ} {d : List ℕ} (zs : List FoundProfile) → all ≤ s.capacity → ProfilesAdded s all b r d zs
      → Grown s count a r d (adds same_profile xs zs)
  grown_then {r} {d} zs h n = subst (λ (l : List FoundProfile). Grown s count a r d (adds same_profile l zs)) (g.records h) (grown-on n)

-- A list with the lists f k, f (k + 1), .., of which there are i, and one turn of a loop that adds them.
module _ (xs : List FoundProfile) (f : ℕ → List FoundProfile) (k : ℕ) where
  abbrev pub with_first : ℕ → List FoundProfile
  with_first i = adds same_profile xs (flat_map f (range k i))

  split : (i j : ℕ) → with_first (i + j) ≡ adds same_profile (with_first i) (flat_map f (range (k + i) j))
  split i j =
      ap (λ (l : List ℕ). adds same_profile xs (flat_map f l)) (range-append k i j)
      ∙ ap (adds same_profile xs) (flat_map_append f (range k i) (range (k + i) j))
      ∙ adds-append same_profile xs (flat_map f (range k i)) (flat_map f (range (k + i) j))

  pub turn_more : {s : Store} {count all r : ℕ} {a b d : List ℕ} (i : ℕ) → all ≤ s.capacity → Grown s count a all b (with_first i)
      → ProfilesAdded s all b r d (f (k + i)) → Grown s count a r d (with_first (i + 1))
  turn_more {s} {count} {r = r} {a = a} {d = d} i h g n =
      subst (λ (l : List FoundProfile). Grown s count a r d l)
      (sym (split i 1 ∙ ap (adds same_profile (with_first i)) (append-nil (f (k + i)))))
      (grown_then g (f (k + i)) h n)

  pub turn_stop : {s : Store} {count all : ℕ} {a b : List ℕ} (i m : ℕ) → s.capacity < all → i ≤ m → Grown s count a all b (with_first i)
      → Grown s count a all b (with_first m)
  turn_stop i m h l g =
      grown-longer g h
      (subst (λ (n : ℕ). length (with_first i) ≤ length (with_first n)) {x = i + (m - i)} {y = m} (omega arith)
      (omega (arith, ap length (split i (m - i)), adds-length same_profile (with_first i) (flat_map f (range (k + i) (m - i))))))

  -- empty lists add nothing
  pub turn_past : (i m : ℕ) → i ≤ m → ((j : ℕ) → i ≤ j → j < m → f (k + j) ≡ []) → with_first i ≡ with_first m
  turn_past i m l e =
      sym (ap (λ (n : ℕ). with_first n) {x = m} {y = i + (m - i)} (omega arith)
      ∙ split i (m - i)
      ∙ ap (adds same_profile (with_first i))
      (none (k + i) (m - i) (λ j p q. ap f {x = j} {y = k + (j - k)} (omega arith) ∙ e (j - k) (omega arith) (omega arith))))
    where
      none : (from n : ℕ) → ((j : ℕ) → from ≤ j → j < from + n → f j ≡ []) → flat_map f (range from n) ≡ []
      none from zero h = refl
      none from (suc n) h = rw (h from (omega arith) (omega arith), none (suc from) n (λ j p q. h j (omega arith) (omega arith)))
