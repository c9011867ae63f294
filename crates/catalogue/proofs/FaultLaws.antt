-- Where a byte string is damaged: the place that is told is that of a fault, and no fault has a smaller one (`least_fault`), which
-- settles it (`damaged_exactly`); a whole one has no fault (`whole_no_fault`). Assumes nothing.
use mathlib.Core.Path.{◌≡◌, refl, ap, subst}
use mathlib.Core.List.{List}
use Prim.Native.Nat.{ℕ, ◌≤◌, ◌<◌}
use native.Mathlib.Omega.{arith}
use native.Mathlib.Nat.{le_antisymm}
use lib.ListN.{length}
use Rattle.catalogue.specs.Records.{Records, records, end_of}
use Rattle.catalogue.specs.Faults.{WholeAt, DueAt, FaultAt, FaultFrom, HasFault, LeastFault}
use Rattle.catalogue.specs.declared.Record.{Record}
use Rattle.catalogue.proofs.RecordLaws.{whole_faultless}
use Rattle.catalogue.proofs.RunLaws.{WholeRun, DamagedRun, Run, records-run, whole_run}

-- ---- places
due_behind : {bytes : List ℕ} {from least at next : ℕ} → DueAt bytes from least at next → from ≤ at
due_behind DueAt.here = omega arith
due_behind (DueAt.later w d) = let h = due_behind d in omega arith

fault_behind : {bytes : List ℕ} {at least q : ℕ} → FaultAt bytes at least q → at ≤ q
fault_behind (FaultAt.unmarked h n) = omega arith
fault_behind (FaultAt.unrisen m h u) = omega arith
fault_behind (FaultAt.cut_short h m c) = omega arith

fault_inside : {bytes : List ℕ} {at least q : ℕ} → FaultAt bytes at least q → at < length bytes
fault_inside (FaultAt.unmarked h n) = h
fault_inside (FaultAt.unrisen m h u) = omega arith
fault_inside (FaultAt.cut_short h m c) = h

-- what is wrong with a record that is whole is told before its end
fault_before : {bytes : List ℕ} {at least p : ℕ} → FaultAt bytes at least p → WholeAt bytes at → p ≤ end_of bytes at
fault_before (FaultAt.unmarked h n) w = omega arith
fault_before (FaultAt.unrisen m h u) w = omega arith
fault_before (FaultAt.cut_short h m c) w = let e = w.ended in omega arith

-- ---- runs
damaged_fault : {bytes : List ℕ} {at least p : ℕ} → DamagedRun bytes at least p → FaultFrom bytes at least p
damaged_fault {at} {least} (DamagedRun.breaks f m) = (at, least, DueAt.here, f)
damaged_fault (DamagedRun.goes w l run) = let (a, n, d, f) = damaged_fault run in (a, n, DueAt.later w d, f)

damaged_due : {bytes : List ℕ} {at least p : ℕ} → DamagedRun bytes at least p
    → {a n q : ℕ} → DueAt bytes at least a n → FaultAt bytes a n q → p ≤ q
damaged_due (DamagedRun.breaks f m) {q} DueAt.here g = m q g
damaged_due (DamagedRun.breaks f m) (DueAt.later w d) g =
    let h = due_behind d in let k = fault_behind g in let e = fault_before f w in omega arith
damaged_due (DamagedRun.goes {at} {least} w l run) {q} DueAt.here g = absurd (whole_faultless _ at least w l q g)
damaged_due (DamagedRun.goes w l run) (DueAt.later v d) g = damaged_due run d g

whole_due : {bytes : List ℕ} {at least : ℕ} {rs : List Record} → WholeRun bytes at least rs
    → {a n q : ℕ} → DueAt bytes at least a n → FaultAt bytes a n q → ⊥
whole_due (WholeRun.ends h) DueAt.here g = let k = fault_inside g in omega arith
whole_due (WholeRun.ends h) (DueAt.later w d) g = let e = w.ended in omega arith
whole_due (WholeRun.goes {at} {least} w l run) {q} DueAt.here g = whole_faultless _ at least w l q g
whole_due (WholeRun.goes w l run) (DueAt.later v d) g = whole_due run d g

-- ---- byte strings
pub least_fault : (bytes : List ℕ) {p : ℕ} → records bytes ≡ Records.damaged p → LeastFault bytes p
least_fault bytes {p} e =
    let run : DamagedRun bytes 0 0 p = subst (Run bytes 0 0) e (records-run bytes 0 0) in
    record { is_fault = damaged_fault run; least = λ q f. damaged_due run f.2 f.3 }

pub whole_no_fault : (bytes : List ℕ) {rs : List Record} → records bytes ≡ Records.whole rs → (q : ℕ) → HasFault bytes q → ⊥
whole_no_fault bytes e q f = whole_due (whole_run bytes e) f.2 f.3

-- So where the least fault is settles the place, and a byte string with a fault is damaged.
pub damaged_exactly : (bytes : List ℕ) (p : ℕ) → LeastFault bytes p → records bytes ≡ Records.damaged p
damaged_exactly bytes p l = by_outcome (records bytes) refl
  where
    by_outcome : (o : Records) → records bytes ≡ o → o ≡ Records.damaged p
    by_outcome (Records.damaged q) e =
        let m = least_fault bytes e in
        ap Records.damaged {x = q} {y = p} (le_antisymm (m.least p l.is_fault) (l.least q m.is_fault))
    by_outcome (Records.whole rs) e = absurd (whole_no_fault bytes e p l.is_fault)
