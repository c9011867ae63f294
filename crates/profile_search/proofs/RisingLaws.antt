-- Records that stand by rising first node, as those of one transition do (`singles-rising`). A search by halves finds how many begin before
-- a node: all before `low` do, none from `high` on does (`Halved`), and what the record between them says moves one of the two. Assumes
-- nothing.
use Rattle.std.proofs.Common.{◌≡◌, ap, subst, List, ℕ, ◌+◌, ◌≤◌, ◌<◌, arith}
use Rattle.base.proofs.At.{At}
use Rattle.formula.specs.Table.{Table}
use Rattle.tableau.specs.Saturation.{Subset}
use Rattle.profile_tables.specs.Runs.{FoundProfile, singles}
use Rattle.profile_tables.proofs.RiseLaws.{singles_rise}
use Rattle.profile_search.specs.declared.placed.Store.{Store}
use Rattle.profile_search.specs.Stored.{record_of, first_of, Rising, FirstParted, Grown}
use Rattle.profile_search.proofs.GrowLaws.{record_at}

pub rising-kept : (s : Store) (a b : List ℕ) {k : ℕ} → ((p : ℕ) → p < k → record_of s b p ≡ record_of s a p) → Rising s a k → Rising s b k
rising-kept s a b e r p q l h =
    omega (arith, r p q l h, ap (λ (x : FoundProfile). x.at.first) (e p (omega arith)), ap (λ (x : FoundProfile). x.at.first) (e q h))

pub singles-rising : (t : Table) (vs : List Subset) {s : Store} {a b : List ℕ} {r : ℕ} → Grown s 0 a r b (singles t vs) → r ≤ s.capacity
    → Rising s b r
singles-rising t vs {s} {b = b} {r = r} g h p q l m =
    (singles_rise t vs).1.rises (there p (omega arith)) (there q m) l
  where
    there : (p : ℕ) → p < r → At (singles t vs) p (record_of s b p)
    there p m =
        subst (λ (xs : List FoundProfile). At xs p (record_of s b p)) (g.records h)
        (record_at s b r p m)

pub record Halved (s : Store) (b : List ℕ) (k node low high : ℕ) : Type 0 where
  pub order : low ≤ high
  pub among : high ≤ k
  pub before : (p : ℕ) → p < low → first_of s b p < node
  pub behind : (p : ℕ) → high ≤ p → p < k → node ≤ first_of s b p

pub halved_start : (s : Store) (b : List ℕ) (k node : ℕ) → Halved s b k node 0 k
halved_start s b k node =
    record { order = omega arith; among = omega arith; before = λ p h. absurd (omega arith); behind = λ p h l. absurd (omega arith) }

module _ {s : Store} {b : List ℕ} {k node low high : ℕ} (v : Halved s b k node low high) where
  module _ (rise : Rising s b k) (m : ℕ) (l : low ≤ m) (h : m < high) where
    pub halved_up : first_of s b m < node → Halved s b k node (m + 1) high
    halved_up e = record {
      order = omega arith;
      among = v.among;
      before = λ p q. omega (arith, rise p m (omega arith) (omega (arith, v.among)));
      behind = v.behind;
    }

    pub halved_down : node ≤ first_of s b m → Halved s b k node low m
    halved_down e = record {
      order = l;
      among = omega (arith, v.among);
      before = v.before;
      behind = λ p q r. omega (arith, rise m p q r);
    }

  pub halved_done : high ≤ low → FirstParted s b k node low
  halved_done h = record {
    among = omega (arith, v.among);
    before = v.before;
    behind = λ p q r. v.behind p (omega arith) r;
  }
