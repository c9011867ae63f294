-- The place that 43 names, on the bytes. Each operator of a formula's table begins with as many bytes of the formula's spelling as its
-- width says, one operator after another (`Spells`); so the place is the sum of the widths before the first least fixpoint, and the byte
-- there is 9, its opcode (`least-placed`). All widths together are all bytes (`widths_all`). Where no place is found, no operator is a
-- least fixpoint (`none-least` of proofs/EveryCycle.antt), and a place is found where there is one (`least-found`). Assumes nothing.
use mathlib.Core.Path.{◌≡◌, refl, sym, subst, subst⁻¹, ◌∙◌}
use mathlib.Core.Bool.{true, false, cond}
use Rattle.std.specs.Prelude.{Option, None, Some}
use mathlib.Core.List.{List, [], ◌∷◌, ◌++◌, append_assoc}
use Prim.Native.Nat.{ℕ, zero, suc, ◌+◌, ◌<◌}
use native.Mathlib.Omega.{arith}
use lib.Dec.{T}
use lib.ListN.{length, get_or, length-append}
use lib.Seq.{get_or-append-add}
use Rattle.base.proofs.BoolLaws.{by_test, of_T}
use Rattle.base.proofs.TestLaws.{not_of_T}
use Rattle.formula.specs.Formula.{Leaf, Formula, size}
use Rattle.formula.specs.Table.{Operator, Table, operator, table_from, table, width, bytes_before}
use Rattle.formula.specs.Reading.{Reading, parse}
use Rattle.formula.specs.Ways.{spelled}
use Rattle.formula.proofs.Spelling.{parse-spelled}
use Rattle.profile.specs.Profiles.{is_least}
use Rattle.safety.specs.Safety.{first_least}
use Rattle.safety.proofs.EveryCycle.{none-least}

-- What a place of 43 says: a subformula is a least fixpoint, none with a smaller number is, its operator begins at that place, with a 9.
pub record LeastPlace (bytes : List ℕ) (t : Table) (place : ℕ) : Type 0 where
  pub number : ℕ
  pub least : is_least (operator t number) ≡ true
  pub none_before : (k : ℕ) → k < number → is_least (operator t k) ≡ false
  pub place_is : place ≡ bytes_before t number
  pub byte : get_or bytes place 0 ≡ 9

-- Bytes in which each operator begins with as many as its width says, and a least fixpoint with 9.
data Spells : Table → List ℕ → Type 0 where
  ended : Spells [] []
  goes_on : {o : Operator} {t : Table} {rest : List ℕ} (front : List ℕ) → length front ≡ width o
      → (T (is_least o) → (b : List ℕ) × (front ≡ 9 ∷ b)) → Spells t rest → Spells (o ∷ t) (front ++ rest)

spells_append : {t u : Table} {xs ys : List ℕ} → Spells t xs → Spells u ys → Spells (t ++ u) (xs ++ ys)
spells_append ended s = s
spells_append {u = u} {ys = ys} (goes_on {o} {t} {rest} front l f r) s =
    subst⁻¹ (Spells (o ∷ (t ++ u))) (append_assoc front rest ys) (goes_on front l f (spells_append r s))

table_spells : (e : ℕ) (binders : List ℕ) (f : Formula) → Spells (table_from e binders f) (spelled f)
table_spells e binders (Formula.leaf (Leaf.constant b)) = goes_on (_ ∷ []) refl (λ h. absurd h) ended
table_spells e binders (Formula.leaf (Leaf.signal q j)) = goes_on (_ ∷ j ∷ []) refl (λ h. absurd h) ended
table_spells e binders (Formula.variable d) = goes_on (_ ∷ d ∷ []) refl (λ h. absurd h) ended
table_spells e binders (Formula.pair o a b) =
    goes_on (_ ∷ []) refl (λ h. absurd h) (spells_append (table_spells (e + 1) binders a) (table_spells (e + 1 + size a) binders b))
table_spells e binders (Formula.next a) = goes_on (_ ∷ []) refl (λ h. absurd h) (table_spells (e + 1) binders a)
table_spells e binders (Formula.fix true a) = goes_on (10 ∷ []) refl (λ h. absurd h) (table_spells (e + 1) (e ∷ binders) a)
table_spells e binders (Formula.fix false a) = goes_on (9 ∷ []) refl (λ h. ([], refl)) (table_spells (e + 1) (e ∷ binders) a)

read_spells : (bytes : List ℕ) (f : Formula) → parse bytes ≡ Reading.accepted f → Spells (table f) bytes
unfolding table
read_spells bytes f e = subst⁻¹ (Spells (table f)) (parse-spelled bytes f e) (table_spells 0 [] f)

spells_length : {t : Table} {xs : List ℕ} → Spells t xs → bytes_before t (length t) ≡ length xs
spells_length ended = refl
spells_length (goes_on {o} {t} {rest} front l f s) = omega (arith, spells_length s, length-append front rest)

-- the same of a part of the bytes, from the place p on
record Placed (xs : List ℕ) (t : Table) (p place : ℕ) : Type 0 where
  number : ℕ
  least : is_least (operator t number) ≡ true
  none_before : (k : ℕ) → k < number → is_least (operator t k) ≡ false
  place_is : place ≡ p + bytes_before t number
  byte : get_or xs (bytes_before t number) 0 ≡ 9

placed-later : {o : Operator} {t : Table} {rest : List ℕ} {p place : ℕ} (front : List ℕ) → length front ≡ width o → is_least o ≡ false
    → Placed rest t (p + width o) place → Placed (front ++ rest) (o ∷ t) p place
placed-later {o} {t} {rest} front l d r =
    record {
      number = suc r.number;
      least = r.least;
      none_before = before;
      place_is = omega (arith, r.place_is);
      byte = subst (λ (n : ℕ). get_or (front ++ rest) (n + bytes_before t r.number) 0 ≡ 9) l
          (get_or-append-add front rest (bytes_before t r.number) 0 ∙ r.byte);
    }
  where
    before : (k : ℕ) → k < suc r.number → is_least (operator (o ∷ t) k) ≡ false
    before zero h = d
    before (suc k) h = r.none_before k (omega arith)

first-placed : {t : Table} {xs : List ℕ} → Spells t xs → (p place : ℕ) → first_least p t ≡ Some place → Placed xs t p place
first-placed ended p place e = absurd (let z : ◌≡◌ {A = ℕ} 0 1 = cc in omega arith)
first-placed (goes_on {o} {t} {rest} front l f s) p place e =
    by_test (is_least o)
    (λ b. cond b (Some p) (first_least (p + width o) t) ≡ Some place → Placed (front ++ rest) (o ∷ t) p place)
    (λ h r. here h (f h) r)
    (λ h r. placed-later front l (not_of_T (is_least o) h) (first-placed s (p + width o) place r))
    e
  where
    here : T (is_least o) → (b : List ℕ) × (front ≡ 9 ∷ b) → Some p ≡ Some place → Placed (front ++ rest) (o ∷ t) p place
    here h (b, q) r =
        let i : p ≡ place = cc in
        record {
          number = 0;
          least = of_T (is_least o) h;
          none_before = λ k l. absurd (omega arith);
          place_is = omega arith;
          byte = subst⁻¹ (λ (l : List ℕ). get_or (l ++ rest) 0 0 ≡ 9) q refl;
        }

-- Theorem: the place of 43 is that of the first least fixpoint's byte.
pub least-placed : (bytes : List ℕ) (f : Formula) → parse bytes ≡ Reading.accepted f → (place : ℕ)
    → first_least 0 (table f) ≡ Some place → LeastPlace bytes (table f) place
least-placed bytes f e place q =
    let r = first-placed (read_spells bytes f e) 0 place q in
    let is : place ≡ bytes_before (table f) r.number = omega (arith, r.place_is) in
    record {
      number = r.number;
      least = r.least;
      none_before = r.none_before;
      place_is = is;
      byte = subst⁻¹ (λ (n : ℕ). get_or bytes n 0 ≡ 9) is r.byte;
    }

-- Theorem: the widths of all operators are all bytes.
pub widths_all : (bytes : List ℕ) (f : Formula) → parse bytes ≡ Reading.accepted f
    → bytes_before (table f) (length (table f)) ≡ length bytes
widths_all bytes f e = spells_length (read_spells bytes f e)

-- Theorem: where an operator is a least fixpoint, a place is found.
pub least-found : (p : ℕ) (t : Table) (e : ℕ) → is_least (operator t e) ≡ true → (place : ℕ) × (first_least p t ≡ Some place)
least-found p t e h = by (first_least p t) refl
  where
    by : (o : Option ℕ) → first_least p t ≡ o → (place : ℕ) × (o ≡ Some place)
    by None q = absurd (subst T (sym h ∙ none-least p t q e) tt)
    by (Some place) q = (place, refl)
