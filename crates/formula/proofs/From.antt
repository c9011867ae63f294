-- Reading from a byte on. From byte 0 it is reading. From any byte it is the definition of reading begun at
-- that byte's place, which is how the code does it: that and reading the bytes from there on go side by side (Alike), one so many places
-- ahead of the other. Assumes nothing.
use Rattle.std.proofs.Common.{◌≡◌, refl, sym, ap, ◌∙◌, List, [], ◌∷◌, ℕ, ◌+◌, ◌≤◌, add-zero, arith, length, drop}
use Rattle.formula.specs.Formula.{Formula}
use Rattle.formula.specs.Reading.{Head, Read, Reading, ended, whole, formula, start, parse, with_entries, reading, counted_from}
use Rattle.formula.specs.Reading.{reading_from}
use Rattle.formula.proofs.RefusalLaws.{places_from_zero}
use Rattle.formula.proofs.Alike.{Alike, Near, moved, formula-alike}
use Rattle.formula.proofs.Fuel.{Stopped, Same, looks_same, near}

counted_from_zero : {A : Type 0} (r : Reading A) → counted_from 0 r ≡ r
counted_from_zero (Reading.refused why) = ap Reading.refused (places_from_zero why)
counted_from_zero (Reading.accepted a) = refl

pub reading_from-start : (bytes : List ℕ) → reading_from bytes 0 ≡ reading bytes
unfolding reading_from
reading_from-start bytes = counted_from_zero (reading bytes)

-- where reading stands that begins at a byte
abbrev pub start-at : List ℕ → ℕ → Head
start-at bytes at = record { at = at; left = drop at bytes; commands = 0; ors = 0; nexts = 0; fixpoints = 0 }

entries_from : (n : ℕ) (r : Reading Formula) → with_entries (counted_from n r) ≡ counted_from n (with_entries r)
entries_from n (Reading.refused why) = refl
entries_from n (Reading.accepted f) = refl

ended-from : (n : ℕ) (f : Formula) (h : Head) (x : List ℕ) → ended f (moved (◌+◌ n) h x) x ≡ counted_from n (ended f h x)
ended-from n f h [] = refl
ended-from n f h (b ∷ x) = refl

whole_from : {total d e : ℕ} (n : ℕ) {x y : Read Formula} → Alike (Stopped total) (◌+◌ n) (Near (Same total) d e 1) x y →
    whole y ≡ counted_from n (whole x)
whole_from n (Alike.refused s) = refl
whole_from n (Alike.got {a} {h} r) = rw (← r.alike.same) (ended-from n a h h.left)

formula-from : (n k : ℕ) (h : Head) → length h.left ≤ k →
    whole (formula k [] (moved (◌+◌ n) h h.left)) ≡ counted_from n (whole (formula k [] h))
formula-from n k h l =
    let total = h.at + length h.left in
    whole_from n
    (formula-alike (Stopped total) (◌+◌ n) (λ i. omega arith) (Same total) (looks_same total) k k [] h h.left (near k k h l l))

pub reading_from-is : (bytes : List ℕ) (at : ℕ) →
    reading_from bytes at ≡ with_entries (whole (formula (length (drop at bytes)) [] (start-at bytes at)))
unfolding parse reading reading_from
reading_from-is bytes at =
    let left = drop at bytes in
    sym
    (ap with_entries (rw (add-zero at) at (formula-from at (length left) (start left) (omega arith))) ∙ entries_from at (parse left))
