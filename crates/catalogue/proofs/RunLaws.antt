-- The records of a byte string by what stands at each place, with nothing said of how they are looked for (`records-run`): whole records
-- with rising numbers up to the end, or up to a place where something is wrong. All laws of catalogues go by these two. Assumes nothing.
use mathlib.Core.Path.{◌≡◌, sym, subst}
use mathlib.Core.Logic.{inl, inr}
use mathlib.Core.List.Memᴰ
use mathlib.Core.List.{List, [], ◌∷◌, Memᴰ}
use Prim.Native.Nat.{ℕ, zero, suc, ◌+◌, ◌*◌, ◌≤◌, ◌<◌}
use native.Mathlib.Omega.{arith}
use lib.ListN.{length, get_or}
use Rattle.base.proofs.BytesLaws.{number_small}
use Rattle.base.proofs.SortedLaws.{Sorted}
use Rattle.catalogue.specs.Records.{Due, Records, behind, onward, number_of, end_of, record_of, records_within, records_from, records}
use Rattle.catalogue.specs.Faults.{WholeAt, FaultAt}
use Rattle.catalogue.specs.declared.Record.{Record}
use Rattle.catalogue.proofs.RecordLaws.{Stands, record_stands}

-- From a place on there are these records, and then the end.
pub data WholeRun (bytes : List ℕ) : (at least : ℕ) → List Record → Type 0 where
  ends : {at least : ℕ} → length bytes ≤ at → WholeRun bytes at least []
  goes : {at least : ℕ} {rs : List Record} → WholeAt bytes at → least ≤ number_of bytes at
      → WholeRun bytes (end_of bytes at) (number_of bytes at + 1) rs → WholeRun bytes at least (record_of bytes at ∷ rs)

-- From a place on there are whole records up to one where something is wrong, with the least place that this has there.
pub data DamagedRun (bytes : List ℕ) : (at least place : ℕ) → Type 0 where
  breaks : {at least p : ℕ} → FaultAt bytes at least p → ((q : ℕ) → FaultAt bytes at least q → p ≤ q) → DamagedRun bytes at least p
  goes : {at least p : ℕ} → WholeAt bytes at → least ≤ number_of bytes at
      → DamagedRun bytes (end_of bytes at) (number_of bytes at + 1) p → DamagedRun bytes at least p

abbrev pub Run : List ℕ → (at least : ℕ) → Records → Type 0
Run bytes at least (Records.damaged p) = DamagedRun bytes at least p
Run bytes at least (Records.whole rs) = WholeRun bytes at least rs

run-behind : (bytes : List ℕ) (at least : ℕ) → WholeAt bytes at → least ≤ number_of bytes at → (rest : Records)
    → Run bytes (end_of bytes at) (number_of bytes at + 1) rest → Run bytes at least (behind (record_of bytes at) rest)
run-behind bytes at least w l (Records.damaged p) r = DamagedRun.goes w l r
run-behind bytes at least w l (Records.whole rs) r = WholeRun.goes w l r

run-onward : {bytes : List ℕ} {at least : ℕ} (rest : (at least : ℕ) → Records) {d : Due} → Stands bytes at least d
    → ((j l : ℕ) → at + 4 ≤ j → Run bytes j l (rest j l)) → Run bytes at least (onward rest d)
run-onward rest (Stands.ended h) f = WholeRun.ends h
run-onward rest (Stands.faulty g m) f = DamagedRun.breaks g m
run-onward {bytes} {at} {least} rest (Stands.whole w l) f =
    let end = end_of bytes at in
    let next = number_of bytes at + 1 in
    run-behind bytes at least w l (rest end next) (f end next (omega arith))

run-within : (n : ℕ) (bytes : List ℕ) (at least : ℕ) → length bytes ≤ at + n → Run bytes at least (records_within n bytes at least)
run-within zero bytes at least h = WholeRun.ends {at = at} (omega arith)
run-within (suc n) bytes at least h =
    run-onward (records_within n bytes) (record_stands bytes at least) (λ j l b. run-within n bytes j l (omega arith))

pub records-run : (bytes : List ℕ) (at least : ℕ) → Run bytes at least (records_from bytes at least)
unfolding records_from
records-run bytes at least = run-within (length bytes) bytes at least (omega arith)

pub whole_run : (bytes : List ℕ) {rs : List Record} → records bytes ≡ Records.whole rs → WholeRun bytes 0 0 rs
whole_run bytes e = subst (Run bytes 0 0) e (records-run bytes 0 0)

-- ---- what is so of every record
-- It stands somewhere, whole.
pub record StandsIn (bytes : List ℕ) (r : Record) : Type 0 where
  pub at : ℕ
  pub whole : WholeAt bytes at
  pub is : r ≡ record_of bytes at

pub run-stands : {bytes : List ℕ} {at least : ℕ} {rs : List Record} → WholeRun bytes at least rs
    → (r : Record) → Memᴰ r rs → StandsIn bytes r
run-stands (WholeRun.ends h) r m = absurd (Memᴰ.not-nil m)
run-stands (WholeRun.goes {at} w l run) r m =
    elim (Memᴰ.cases_cons m) [ inl e ↦ record { at = at; whole = w; is = e } | inr n ↦ run-stands run r n ]

-- numbers rise
abbrev pub Below : Record → Record → Type 0
Below r s = r.number < s.number

run-least : {bytes : List ℕ} {at least : ℕ} {rs : List Record} → WholeRun bytes at least rs
    → (r : Record) → Memᴰ r rs → least ≤ r.number
run-least (WholeRun.ends h) r m = absurd (Memᴰ.not-nil m)
run-least {bytes} {least} (WholeRun.goes {at} w l run) r m =
    elim (Memᴰ.cases_cons m) [
      | inl e ↦ subst (λ (s : Record). least ≤ s.number) (sym e) l
      | inr n ↦ let k = run-least run r n in omega arith
    ]

pub run-rising : {bytes : List ℕ} {at least : ℕ} {rs : List Record} → WholeRun bytes at least rs → Sorted Below rs
run-rising (WholeRun.ends h) = Sorted.none
run-rising {bytes} (WholeRun.goes {at} w l run) =
    Sorted.more {x = record_of bytes at} (λ s m. let k = run-least run s m in omega arith) (run-rising run)

-- ---- how much there can be
module _ (bytes : List ℕ) (b : (i : ℕ) → get_or bytes i 0 < 256) where
  -- There are numbers for no more than 65,536 records, however long the bytes are.
  run-few : {at least : ℕ} {rs : List Record} → least ≤ 65536 → WholeRun bytes at least rs → least + length rs ≤ 65536
  run-few h (WholeRun.ends e) = omega arith
  run-few h (WholeRun.goes {at} w l run) =
      let n = number_small 2 bytes (at + 1) b in
      let k = run-few (omega arith) run in
      omega arith

  -- A record has at most 259 bytes.
  run_short : {at least : ℕ} {rs : List Record} → WholeRun bytes at least rs → length bytes ≤ at + 259 * length rs
  run_short (WholeRun.ends e) = omega arith
  run_short (WholeRun.goes {at} w l run) = let k = run_short run in omega (arith, b (at + 3))

  pub few-records : {rs : List Record} → records bytes ≡ Records.whole rs → (length rs ≤ 65536) × (length bytes ≤ 16973824)
  few-records e =
      let run = whole_run bytes e in
      let k = run-few (omega arith) run in
      let h = run_short run in
      (omega arith, omega arith)
