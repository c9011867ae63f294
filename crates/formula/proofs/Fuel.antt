-- What reading means without its bound on the nesting, and where refusals stand. The bound does not matter once it is at least the
-- number of bytes left, so the definition's recursion can be read as if it had none. A refusal's number is 1 to 9; where a byte is
-- missing (1, 5) its place is the length, else the place of a byte; and 8 has the place of a binder. All this comes from reading an input
-- beside itself (Alike). Assumes nothing.
use Rattle.std.proofs.Common.{◌≡◌, refl, sym, ap, subst, ◌∙◌, ◌⊎◌, inl, inr, ⊎_elim, List, [], ◌∷◌, ℕ, suc, ◌+◌, ◌≤◌, ◌<◌, arith, length}
use Rattle.std.proofs.Math.Option.{none}
use Rattle.formula.specs.Formula.{Formula}
use Rattle.formula.specs.Refusal.{fault_code, at_byte, unguarded, code_of, place_of, binder_place_of}
use Rattle.formula.specs.declared.Fault.{Fault}
use Rattle.formula.specs.declared.Fault.TheVariants.{MissingOperator, UnknownOpcode, TooManyOperators, TooManyOfKind}
use Rattle.formula.specs.declared.Fault.TheVariants.{MissingOperand, UnknownSignal, UnboundVariable, BytesLeft}
use Rattle.formula.specs.declared.Refusal.{Refusal}
use Rattle.formula.specs.Reading.{Head, Read, Reader, Scope, questions, formula, Reading, ended, whole, start, parse}
use Rattle.formula.proofs.RefusalLaws.{moved_nowhere}
use Rattle.formula.proofs.ScopeLaws.{moved_scope, scope_nowhere}
use Rattle.formula.proofs.Alike.{OfByte, AtEnd, Alike, Look, Looks, Near, same, over, questions-alike, formula-alike}

-- a refusal of an input of `total` bytes: at the length where a byte is missing, else at one of the bytes; 8 never without a binder
pub record Stopped (total : ℕ) (why : Refusal) : Type 0 where
  pub some : 0 < code_of why
  pub known : code_of why ≤ 9
  pub inside : place_of why ≤ total
  pub missing : (code_of why ≡ 1) ⊎ (code_of why ≡ 5) → place_of why ≡ total
  pub present : (code_of why ≡ 1 → ⊥) → (code_of why ≡ 5 → ⊥) → place_of why < total
  pub binder : code_of why ≡ 8 → binder_place_of why ≡ none → ⊥

-- the same bytes are left, and with those before them they are `total`
pub record Same (total s : ℕ) (h : Head) (l : List ℕ) : Type 0 where
  pub same : h.left ≡ l
  pub sum : h.at + length h.left ≡ total

other : {total : ℕ} (why : Refusal) → 1 < code_of why → code_of why ≤ 9 → (code_of why ≡ 5 → ⊥) → place_of why < total
    → (code_of why ≡ 8 → binder_place_of why ≡ none → ⊥)
    → Stopped total why
other why a b c i d =
    record {
      some = omega arith;
      known = b;
      inside = omega arith;
      missing = λ e. absurd (⊎_elim (λ (q : code_of why ≡ 1). omega arith) c e);
      present = λ x y. i;
      binder = d;
    }

-- a refusal of the first kind, with another number than 8
stopped_at : {total place : ℕ} (fault : Fault) → 1 < fault_code fault → fault_code fault ≤ 9 → (fault_code fault ≡ 5 → ⊥)
    → (fault_code fault ≡ 8 → ⊥) → place < total → Stopped total (at_byte fault place)
stopped_at {place = p} fault a b c d i = other (at_byte fault p) a b c i (λ q _. d q)

stopped_byte : {total place : ℕ} {why : ℕ → Refusal} → place < total → OfByte why → Stopped total (why place)
stopped_byte i OfByte.unknown = stopped_at UnknownOpcode (omega arith) (omega arith) (λ q. omega arith) (λ q. omega arith) i
stopped_byte i OfByte.commands = stopped_at TooManyOperators (omega arith) (omega arith) (λ q. omega arith) (λ q. omega arith) i
stopped_byte i OfByte.limits = stopped_at TooManyOfKind (omega arith) (omega arith) (λ q. omega arith) (λ q. omega arith) i
stopped_byte i OfByte.signal = stopped_at UnknownSignal (omega arith) (omega arith) (λ q. omega arith) (λ q. omega arith) i
stopped_byte i OfByte.depth = stopped_at UnboundVariable (omega arith) (omega arith) (λ q. omega arith) (λ q. omega arith) i
stopped_byte {place = p} i (OfByte.guard {binder}) =
    other (unguarded binder p) (omega arith) (omega arith) (λ q. omega arith) i
    (λ _ q. let z : ◌≡◌ {A = ℕ} 0 1 = cc in omega arith)

-- and one where a byte is missing
stopped_missing : {total place : ℕ} (fault : Fault) → (fault_code fault ≡ 1) ⊎ (fault_code fault ≡ 5) → place ≡ total
    → Stopped total (at_byte fault place)
stopped_missing fault c i = record {
  some = ⊎_elim (λ q. omega arith) (λ q. omega arith) c;
  known = ⊎_elim (λ q. omega arith) (λ q. omega arith) c;
  inside = omega arith;
  missing = λ e. i;
  present = λ x y. absurd (⊎_elim x y c);
  binder = λ q. absurd (⊎_elim (λ r. omega arith) (λ r. omega arith) c);
}

stopped_end : {total place : ℕ} {fault : Fault} → place ≡ total → AtEnd fault → Stopped total (at_byte fault place)
stopped_end i AtEnd.command = stopped_missing MissingOperator (inl refl) i
stopped_end i AtEnd.operand = stopped_missing MissingOperand (inr refl) i

module _ (total : ℕ) where
  look_same : (s : ℕ) (h : Head) (x : List ℕ) → h.at + length x ≡ total → Look (Stopped total) (Same total s) h x x
  look_same s h [] i = Look.none (λ fault c. stopped_end (omega arith) c)
  look_same s h (b ∷ x) i = Look.some {x = x} (record { same = refl; sum = omega arith })

  pub looks_same : Looks (Stopped total) (Same total)
  looks_same =
      record {
        look = λ s h l r. subst (Look (Stopped total) (Same total s) h h.left) r.same (look_same s h h.left r.sum);
        count = λ o n f h l c r. record { same = r.same; sum = r.sum };
        fewer = λ h l r. record { same = r.same; sum = r.sum };
        refuse = λ s h x y why c r. stopped_byte (omega (arith, r.sum)) c;
      }

  abbrev SameKept : ℕ → ℕ → Read Formula → Read Formula → Type 0
  SameKept n m = Alike (Stopped total) same (Near (Same total) n m 1)

  kept_equal : {n m : ℕ} {x y : Read Formula} → SameKept n m x y → x ≡ y
  kept_equal (Alike.refused {why} p) = ap Read.refused (sym (moved_nowhere why))
  kept_equal (Alike.got {a} {h} r) = ap (λ (l : List ℕ). Read.got a (over h l)) r.alike.same

  -- reading beside itself, with two bounds on the nesting
  kept : (d e : ℕ) (scope : Scope) (h : Head) (l : List ℕ) → Near (Same total) d e 1 h l
      → SameKept d e (formula d scope h) (formula e scope (over h l))
  kept d e scope h l r =
      subst (λ (other : Scope). SameKept d e (formula d scope h) (formula e other (over h l))) (scope_nowhere scope)
      (formula-alike (Stopped total) same (λ i. refl) (Same total) looks_same d e scope h l r)

  ended_stopped : (f : Formula) (h : Head) (x : List ℕ) {why : Refusal} → h.at + length x ≡ total → ended f h x ≡ Reading.refused why
      → Stopped total why
  ended_stopped f h [] i e = absurd (let z : ◌≡◌ {A = ℕ} 0 1 = cc in omega arith)
  ended_stopped f h (b ∷ x) {why} i e =
      let w : at_byte BytesLeft h.at ≡ why = cc in
      subst (Stopped total) w (stopped_at BytesLeft (omega arith) (omega arith) (λ q. omega arith) (λ q. omega arith) (omega arith))

  whole_stopped : {n m : ℕ} {x y : Read Formula} {why : Refusal} → SameKept n m x y → whole x ≡ Reading.refused why → Stopped total why
  whole_stopped {why = why} (Alike.refused {why = w} s) e =
      let a : w ≡ why = cc in
      subst (Stopped total) a s
  whole_stopped (Alike.got {a} {h} r) e = ended_stopped a h h.left r.alike.sum e

-- a head beside itself
pub near : (n m : ℕ) (h : Head) → length h.left ≤ n → length h.left ≤ m
    → Near (Same (h.at + length h.left)) n m 1 h h.left
near n m h i j = record { alike = record { same = refl; sum = refl }; first = i; second = j }

pub formula_fuel : (d e : ℕ) (scope : Scope) (h : Head) → length h.left ≤ d → length h.left ≤ e
    → formula d scope h ≡ formula e scope h
formula_fuel d e scope h i j =
    kept_equal (h.at + length h.left) (kept (h.at + length h.left) d e scope h h.left (near d e h i j))

-- one formula, with the bound that the bytes left give
abbrev pub formula-at : Scope → Reader Formula
formula-at scope h = formula (length h.left) scope h

-- n is enough where so many bytes are left, and moving the places nowhere changes nothing
enough : (n : ℕ) (scope : Scope) (h : Head) → length h.left ≤ n → formula n scope h ≡ formula-at (moved_scope same scope) h
enough n scope h i =
    formula_fuel n (length h.left) scope h i (omega arith)
    ∙ ap (λ (other : Scope). formula-at other h) (sym (scope_nowhere scope))

-- the definition as it is meant: reading a formula asks the questions, and reads operands in the same way
pub formula_unfolds : (scope : Scope) (h : Head) → formula-at scope h ≡ questions formula-at scope h
formula_unfolds scope h = by h.left
  where
    by : (x : List ℕ) → formula-at scope (over h x) ≡ questions formula-at scope (over h x)
    by [] = refl
    by (b ∷ x) =
        let g = over h (b ∷ x) in
        let total = g.at + length g.left in
        let n = length x in
        kept_equal total
        (subst (λ (other : Scope). SameKept total n n (questions (formula n) scope g) (questions formula-at other g)) (scope_nowhere scope)
        (questions-alike (Stopped total) same (λ i. refl) (Same total) (looks_same total) n n (formula n) formula-at
        (λ scope k l r.
        subst (SameKept total n n (formula n scope k)) (enough n scope (over k l) r.second) (kept total n n scope k l r))
        scope g (b ∷ x) (near (suc n) (suc n) g (omega arith) (omega arith))))

-- the places of MEANING 1.4: the length for 1 and 5, else a byte that is there
pub parse_stopped : (bytes : List ℕ) {why : Refusal} → parse bytes ≡ Reading.refused why → Stopped (length bytes) why
unfolding parse
parse_stopped bytes e =
    whole_stopped (length bytes)
    (kept (length bytes) (length bytes) (length bytes) [] (start bytes) bytes
    (record { alike = record { same = refl; sum = omega arith }; first = omega arith; second = omega arith })) e

pub short_at_length : (bytes : List ℕ) {why : Refusal} → (code_of why ≡ 1) ⊎ (code_of why ≡ 5) → parse bytes ≡ Reading.refused why
    → place_of why ≡ length bytes
short_at_length bytes c e = (parse_stopped bytes e).missing c
