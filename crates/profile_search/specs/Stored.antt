-- Profiles in the lent area: records of 192 bytes, 144 of triples, then two each for the first node, the last node, 1 + the number of the
-- profile that it goes on from (0 for none), and its last letter. The next six bytes make the records a hash table: two each for the
-- record's bucket, for 1 + the number of the record before it in this bucket (0 for none), and for the head of a chain; 34 are unused. The
-- head of bucket k stands in record k, whether or not there is such a record yet. What the functions over these records promise. A reader
-- of the decision's contract need not read it. Assumes nothing.
use Rattle.std.specs.Prelude.{◌≡◌, Bool, Option, None, Some, MatchOption, List, map, ℕ, ◌+◌, ◌-◌, ◌*◌, ◌/◌, ◌%◌, ◌≤◌, ◌<◌, min, length, get_or}
use mathlib.Core.List.{foldl}
use Rattle.base.specs.Bits.{bit, word}
use Rattle.base.specs.Bytes.{number_at}
use Rattle.base.specs.Lists.{range}
use Rattle.profile_tables.specs.Triples.{Triples}
use Rattle.base.specs.Spread.{adds}
use Rattle.profile_tables.specs.Runs.{TableProfile, FoundProfile, same_profile}
use Rattle.triples.specs.Inner.{triples_at}
use Rattle.profile_search.specs.declared.Header.{Header}
use Rattle.profile_search.specs.declared.placed.Store.{Store}

-- two bytes, the low one first
abbrev pub two : List ℕ → (at : ℕ) → ℕ
two b at = number_at 2 b at

-- how a record that may be there is told in another one: by 1 + its number, and by 0 if there is none
abbrev pub link_of : Option ℕ → ℕ
link_of None = 0
link_of (Some p) = p + 1

-- the profile with these ends and triples
abbrev pub profile_of : Header → Triples → TableProfile
profile_of e s = record { first = e.first.0; last = e.last.0; triple_set = s }

-- the same, with the profile that it goes on from and its last letter
abbrev pub found_of : Header → Triples → FoundProfile
found_of e s = record { at = profile_of e s; parent = link_of e.parent; label = e.letter }

-- the record at a byte, over n operands of next
unfoldable pub found_at : ℕ → List ℕ → (at : ℕ) → FoundProfile
found_at n b at = record {
  at = record { first = two b (at + 144); last = two b (at + 146); triple_set = triples_at n b at };
  parent = two b (at + 148);
  label = two b (at + 150);
}

-- where record p of a store begins
abbrev pub record_start : Store → ℕ → ℕ
record_start s p = s.base + 192 * p

-- record p of a store
abbrev pub record_of : Store → List ℕ → ℕ → FoundProfile
record_of s b p = found_at s.n b (record_start s p)

-- the first k records of a store
unfoldable pub stored : Store → List ℕ → ℕ → List FoundProfile
stored s b k = map (record_of s b) (range 0 k)

-- the node that record p begins at
abbrev pub first_of : Store → List ℕ → ℕ → ℕ
first_of s b p = (record_of s b p).at.first

-- The first k records stand by rising first node.
abbrev pub Rising : Store → List ℕ → (k : ℕ) → Type 0
Rising s b k = (p q : ℕ) → p ≤ q → q < k → first_of s b p ≤ first_of s b q

-- Of the first k records the first r begin before a node, and no others.
pub record FirstParted (s : Store) (b : List ℕ) (k node r : ℕ) : Type 0 where
  pub among : r ≤ k
  pub before : (p : ℕ) → p < r → first_of s b p < node
  pub behind : (p : ℕ) → r ≤ p → p < k → node ≤ first_of s b p

-- the numbers of a record fit into its bytes; its letter always does
pub record HeaderFits (e : Header) : Type 0 where
  pub first : e.first.0 < 65536
  pub last : e.last.0 < 65536
  pub parent : link_of e.parent < 65536

-- e are the ends of a record, which fit into its bytes
pub record HeaderOf (x : FoundProfile) (e : Header) : Type 0 where
  pub first : e.first.0 ≡ x.at.first
  pub last : e.last.0 ≡ x.at.last
  pub parent : link_of e.parent ≡ x.parent
  pub letter : e.letter ≡ x.label
  pub small : HeaderFits e

-- The store is within an area of that length.
abbrev pub StoreFits : Store → (len : ℕ) → Type 0
StoreFits s len = record_start s s.capacity ≤ len

-- The two bytes at an offset of record p are within an area of that length.
pub record TwoWithin (s : Store) (p offset len : ℕ) : Type 0 where
  pub few : p ≤ 4096
  pub enough : record_start s p + offset + 2 ≤ len

-- a became b, and changed at most from one byte up to another
pub record BytesBetween (from to : ℕ) (a b : List ℕ) : Type 0 where
  pub same_length : length b ≡ length a
  pub below : (i : ℕ) → i < from → get_or b i 0 ≡ get_or a i 0
  pub beyond : (i : ℕ) → to ≤ i → get_or b i 0 ≡ get_or a i 0

-- the bits of a byte
abbrev pub bits_of : ℕ → List Bool
bits_of x = map (bit x) (range 0 8)

-- the bits of row f of n operands
abbrev pub row_of : List ℕ → (n f : ℕ) → List (List Bool)
row_of t n f = map (λ g. bits_of (get_or t (f * 12 + g) 0)) (range 0 n)

-- the sum of a row's bytes so far with one byte of triples more
abbrev pub mixed : ℕ → List Bool → ℕ
mixed sum x = sum * 8 + word x

-- a hash with a row more
abbrev pub mixed_row : ℕ → List (List Bool) → ℕ
mixed_row h x = (h + foldl mixed 0 x) % 4294967296 * 2654435761 % 4294967296

-- the bucket of a profile: its nodes, and the bytes of its triples row by row
unfoldable pub bucket_of : Store → TableProfile → ℕ
bucket_of s x = foldl mixed_row (x.first + x.last * 65536) x.triple_set / 65536 % s.capacity

-- the bucket that record p says it is in
abbrev pub bucket_at : Store → List ℕ → ℕ → ℕ
bucket_at s b p = two b (record_start s p + 152)

-- 1 + the number of the record before it in the bucket
abbrev pub link_at : Store → List ℕ → ℕ → ℕ
link_at s b p = two b (record_start s p + 154)

-- 1 + the number of the last record in a bucket
abbrev pub head_at : Store → List ℕ → (bucket : ℕ) → ℕ
head_at s b k = two b (record_start s k + 156)

-- v is 1 + the last number below count whose bucket is k, or 0 if there is none.
pub record Latest (bucket : ℕ → ℕ) (k count v : ℕ) : Type 0 where
  pub among : v ≤ count
  pub there : 0 < v → bucket (v - 1) ≡ k
  pub later : (q : ℕ) → v ≤ q → q < count → bucket q ≡ k → ⊥

-- The first count records are chained by their buckets. Nothing is said of the head of a bucket that no record is in.
pub record Chained (s : Store) (b : List ℕ) (count : ℕ) : Type 0 where
  pub buckets : (p : ℕ) → p < count → bucket_at s b p ≡ bucket_of s (record_of s b p).at
  pub links : (p : ℕ) → p < count → Latest (bucket_at s b) (bucket_at s b p) p (link_at s b p)
  pub heads : (p : ℕ) → p < count → Latest (bucket_at s b) (bucket_at s b p) count (head_at s b (bucket_at s b p))

-- A store in an area has count records, which are chained.
pub record StoreChained (s : Store) (area : List ℕ) (count : ℕ) : Type 0 where
  pub fits : StoreFits s (length area)
  pub room : count ≤ s.capacity
  pub chained : Chained s area count

-- A store with count records in the area a has r records in the area b: those of the list xs, or one more than there is room for if xs
-- is longer than that. The first count records stay, and only bytes of the store have changed.
pub record Grown (s : Store) (count : ℕ) (a : List ℕ) (r : ℕ) (b : List ℕ) (xs : List FoundProfile) : Type 0 where
  pub more : count ≤ r
  pub count_is : r ≡ min (length xs) (s.capacity + 1)
  pub records : r ≤ s.capacity → stored s b r ≡ xs
  pub chained : r ≤ s.capacity → Chained s b r
  pub kept : (p : ℕ) → p < count → record_of s b p ≡ record_of s a p
  pub elsewhere : BytesBetween s.base (record_start s s.capacity) a b

-- The same, where the list is the count records with the profiles ys too, each unless it is there.
abbrev pub ProfilesAdded : Store → (count : ℕ) → List ℕ → (r : ℕ) → List ℕ → List FoundProfile → Type 0
ProfilesAdded s count a r b ys = Grown s count a r b (adds same_profile (stored s a count) ys)

-- The same, where the number of records is told while the store has room for the list, and none is told once it has not.
abbrev pub GrownTo : Store → (count : ℕ) → List ℕ → Option ℕ → List ℕ → List FoundProfile → Type 0
GrownTo s count a r b xs = MatchOption r (Grown s count a (s.capacity + 1) b xs) (λ k. (k ≤ s.capacity) × Grown s count a k b xs)

-- Both: the count records with the profiles ys too, as far as there is room.
abbrev pub AddedTo : Store → (count : ℕ) → List ℕ → Option ℕ → List ℕ → List FoundProfile → Type 0
AddedTo s count a r b ys = GrownTo s count a r b (adds same_profile (stored s a count) ys)
