-- An answer is taken apart as include/yuktrob.h does it, where a shift to the right is a quotient and a mask a remainder: out comes what
-- the answer was made of. So the number says as much as the answer. Assumes nothing.
use Rattle.std.proofs.Common.{Ok, Err, ◌≡◌, refl, sym, ap, subst, ◌∙◌, ◌↔◌, List, ℕ, ◌+◌, ◌*◌, ◌/◌, ◌%◌, ◌≤◌, ◌<◌, arith, mod-eq_of_lt}
use Rattle.std.proofs.Math.Option.{Option, none, some}
use Rattle.std.proofs.Math.Nat.{div-eq_of_lt, add-mul-mod_self_left, add-mul-div_left}
use Rattle.formula.specs.Table.{Operator}
use Rattle.formula.specs.Rows.{opcode_byte}
use Rattle.formula.specs.Refusal.{fault_code, code_of, place_of, binder_place_of}
use Rattle.formula.specs.Reading.{Reading, parse}
use Rattle.formula.specs.declared.Refusal.{Refusal}
use Rattle.formula.specs.declared.Refusal.TheVariants.{AtByte, Unguarded}
use Rattle.formula.proofs.Fuel.{Stopped, parse_stopped}
use Rattle.formula.proofs.Early.{parse-early}
use Rattle.joint.specs.declared.Verdict.TheVariants.{Unsatisfiable}
use Rattle.joint.specs.declared.Refusal.TheVariants.{Unread, Untried}
use Rattle.substitution.specs.declared.Source.{Source}
use Rattle.substitution.specs.declared.Refusal.TheVariants as substitution
use Rattle.catalogue.specs.Contract.{code, layer_told}
use Rattle.catalogue.specs.Location.{Location}
use Rattle.catalogue.specs.declared.Refusal.TheVariants.{Damaged, Missing}
use Rattle.yuktrob_c.specs.Numbers.{number, refusal_number, found, location_number, joint_number, Letters16, Early}
use Rattle.yuktrob_c.specs.Numbers.{source_number, edit_number}
use Rattle.yuktrob_c.proofs.JointFit.{refusal_small}
use Rattle.yuktrob_c.specs.Entry.{argument_of, packed}

-- where there is no place the bits are 0
abbrev pub place_or_zero : Option ℕ → ℕ
place_or_zero none = 0
place_or_zero (some place) = place

module _ (a b m : ℕ) (h : a < b) where
  low : (a + b * m) % b ≡ a
  low = add-mul-mod_self_left a b m ∙ mod-eq_of_lt h

  high : (a + b * m) / b ≡ m
  high = add-mul-div_left a m (omega arith) ∙ omega (arith, div-eq_of_lt h)

pub number-apart : (code carried : ℕ) → code < 256 → (number code carried % 256 ≡ code) × (number code carried / 256 ≡ carried)
number-apart code carried h = (low code 256 carried h, high code 256 carried h)

-- the part a of a number: it stands above what is less than `shift`, and is less than b
part : (n below shift a b m : ℕ) → n ≡ below + shift * (a + b * m) → below < shift → a < b → n / shift % b ≡ a
part n below shift a b m e h k =
    ap (λ (x : ℕ). x / shift % b) e ∙ ap (λ (x : ℕ). x % b) (high below shift (a + b * m) h) ∙ low a b m k

-- the header's yuktrob_refusal, yuktrob_has_fixpoint, yuktrob_place and yuktrob_fixpoint: shifts by 8 and 16 bits
pub record RefusalApart (n : ℕ) (why : Refusal) : Type 0 where
  pub refusal : n % 256 ≡ code_of why
  pub eight : (n % 256 ≡ 8) ↔ (binder_place_of why ≡ none → ⊥)
  pub place_is : n / 256 % 256 ≡ place_of why
  pub binder_is : n / 65536 % 256 ≡ place_or_zero (binder_place_of why)

-- by its kind, where its number is small and tells the kind and its places are early; above 24 bits for these there may be more
apart_by : {total : ℕ} (why : Refusal) (above : ℕ) → Stopped total why → Early why
    → RefusalApart (refusal_number why + 16777216 * above) why
apart_by (AtByte fault at) above s e =
    let code = fault_code fault in
    let n = number code at + 16777216 * above in
    let small : code < 256 = omega (arith, s.known) in
    let refusal : n % 256 ≡ code =
    ap (λ (x : ℕ). x % 256) {x = n} {y = code + 256 * (at + 65536 * above)} (omega arith) ∙ low code 256 (at + 65536 * above) small in
    record {
      refusal = refusal;
      eight = (λ q. s.binder (sym refusal ∙ q), λ h. absurd (h refl));
      place_is = part n code 256 at 256 (256 * above) (omega arith) small (omega arith);
      binder_is = part n (code + 256 * at) 65536 0 256 above (omega arith) (omega arith) (omega arith);
    }
apart_by (Unguarded at binder-at) above s (h, k) =
    let n = number 8 (at + 256 * binder-at) + 16777216 * above in
    let refusal : n % 256 ≡ 8 =
    ap (λ (x : ℕ). x % 256) {x = n} {y = 8 + 256 * (at + 256 * (binder-at + 256 * above))} (omega arith)
    ∙ low 8 256 (at + 256 * (binder-at + 256 * above)) (omega arith) in
    record {
      refusal = refusal;
      eight = (λ _. s.binder refl, λ _. refusal);
      place_is = part n 8 256 at 256 (binder-at + 256 * above) (omega arith) (omega arith) (omega arith);
      binder_is = part n (8 + 256 * at) 65536 binder-at 256 above (omega arith) (omega arith) (omega arith);
    }

-- Theorem: the number of a refusal of reading is taken apart into what the refusal says.
pub refusal_apart : (bytes : List ℕ) (why : Refusal) → parse bytes ≡ Reading.refused why → RefusalApart (refusal_number why) why
refusal_apart bytes why e =
    subst (λ (n : ℕ). RefusalApart n why) {x = refusal_number why + 16777216 * 0} {y = refusal_number why} (omega arith)
    (apart_by why 0 (parse_stopped bytes e) (parse-early bytes why e))

-- and so it is if something stands above it, which a shift by 24 bits gives
above_apart : (bytes : List ℕ) (why : Refusal) → parse bytes ≡ Reading.refused why → (above : ℕ)
    → RefusalApart (refusal_number why + 16777216 * above) why × ((refusal_number why + 16777216 * above) / 16777216 ≡ above)
above_apart bytes why e above =
    let stopped = parse_stopped bytes e in
    let early = parse-early bytes why e in (
      apart_by why above stopped early,
      high (refusal_number why) 16777216 above (refusal_small why stopped.known early),
    )

-- Theorem: so is that of a formula of a catalogue, with its position, by yuktrob_position.
pub unread-apart : (bytes : List ℕ) (why : Refusal) → parse bytes ≡ Reading.refused why → (position : ℕ)
    → RefusalApart (joint_number (Err (Unread position why))) why × (joint_number (Err (Unread position why)) / 16777216 ≡ position)
unread-apart = above_apart

-- Theorem: so is that of a substitution, with which bytes it is about, by yuktrob_source.
pub source_apart : (bytes : List ℕ) (why : Refusal) → parse bytes ≡ Reading.refused why → (count : ℕ) (source : Source)
    → RefusalApart (edit_number count (Err (substitution.Unread source why))) why
    × (edit_number count (Err (substitution.Unread source why)) / 16777216 ≡ source_number source)
source_apart bytes why e count source = above_apart bytes why e (source_number source)

-- Theorem: a substitution that is done is taken apart by yuktrob_edited_len and yuktrob_edited_count: shifts by 8 and 16 bits.
pub record EditApart (n long count : ℕ) : Type 0 where
  pub refusal : n % 256 ≡ 0
  pub long-is : n / 256 % 256 ≡ long
  pub count_is : n / 65536 % 256 ≡ count

pub edit_apart : (long count : ℕ) → long ≤ 97 → count ≤ 48 → EditApart (edit_number count (Ok long)) long count
edit_apart long count l c =
    let n = edit_number count (Ok long) in
    record {
      refusal = low 0 256 (long + 256 * count) (omega arith);
      long-is = part n 0 256 long 256 count (omega arith) (omega arith) (omega arith);
      count_is = part n (256 * long) 65536 count 256 0 (omega arith) (omega arith) (omega arith);
    }

-- Theorem: 35 is taken apart by yuktrob_refusal and yuktrob_tried, a core by yuktrob_clash: shifts by 8 and 9 bits.
pub tried_apart : (s : ℕ) → s < 256 → (joint_number (Err (Untried s)) % 256 ≡ 35) × (joint_number (Err (Untried s)) / 256 % 256 ≡ s)
tried_apart s h =
    (low 35 256 s (omega arith), part (number 35 s) 35 256 s 256 0 (omega arith) (omega arith) h)

pub clash-apart : (K P core : ℕ) → core < 256 → joint_number (Ok (Unsatisfiable K P core)) / 512 % 256 ≡ core
clash-apart K P core h =
    let counts = 0 + 8192 * (K + 8192 * P) in
    part (number 0 (found 0 core 0 K P)) 0 512 core 256 (32 * counts) (omega arith) (omega arith) h

-- Theorem: so is the number of 43, by yuktrob_refusal and yuktrob_place.
pub least-apart : (place : ℕ) → place ≤ 97 → (number 43 place % 256 ≡ 43) × (number 43 place / 256 % 256 ≡ place)
least-apart place h =
    (low 43 256 place (omega arith), part (number 43 place) 43 256 place 256 0 (omega arith) (omega arith) (omega arith))

-- the header's yuktrob_refusal, yuktrob_is_met, yuktrob_lead_len, yuktrob_loop_len, yuktrob_nodes and yuktrob_profiles: shifts by 8, 9,
-- 22, 35 and 48 bits
pub record Apart (n met stem cycle K P : ℕ) : Type 0 where
  pub refusal : n % 256 ≡ 0
  pub met-is : n / 256 % 2 ≡ met
  pub stem_is : n / 512 % 8192 ≡ stem
  pub cycle_is : n / 4194304 % 8192 ≡ cycle
  pub nodes_are : n / 34359738368 % 8192 ≡ K
  pub profiles_are : n / 281474976710656 % 8192 ≡ P

pub found-apart : (met stem cycle K P : ℕ) → met ≤ 1 → Letters16 stem cycle K P
    → Apart (number 0 (found met stem cycle K P)) met stem cycle K P
found-apart met stem cycle K P h s =
    let counts = K + 8192 * P in
    let around = cycle + 8192 * counts in
    let sizes = stem + 8192 * around in
    let n = number 0 (found met stem cycle K P) in
    record {
      refusal = low 0 256 (met + 2 * sizes) (omega arith);
      met-is = part n 0 256 met 2 sizes (omega arith) (omega arith) (omega arith);
      stem_is = part n (256 * met) 512 stem 8192 around (omega arith) (omega arith) (omega (arith, s.stem_fits));
      cycle_is = part n (256 * met + 512 * stem) 4194304 cycle 8192 counts (omega arith) (omega (arith, s.stem_fits))
          (omega (arith, s.cycle_fits));
      nodes_are =
          part n (256 * met + 512 * stem + 4194304 * cycle) 34359738368 K 8192 P (omega arith) (omega (arith, s.stem_fits, s.cycle_fits))
          (omega (arith, s.nodes_fit));
      profiles_are =
          part n (256 * met + 512 * stem + 4194304 * cycle + 34359738368 * K) 281474976710656 P 8192 0 (omega arith)
          (omega (arith, s.stem_fits, s.cycle_fits, s.nodes_fit)) (omega (arith, s.profiles_fit));
    }

-- the header's yuktrob_refusal, yuktrob_command, yuktrob_argument and yuktrob_end: shifts by 8, 16 and 24 bits
pub record EntryApart (n command argument end : ℕ) : Type 0 where
  pub refusal : n % 256 ≡ 0
  pub command-is : n / 256 % 256 ≡ command
  pub argument_is : n / 65536 % 256 ≡ argument
  pub end_is : n / 16777216 % 256 ≡ end

pub entry-apart : (o : Operator) (end : ℕ) → opcode_byte o < 256 → argument_of o < 256 → end < 256
    → EntryApart (number 0 (packed o end)) (opcode_byte o) (argument_of o) end
entry-apart o end h i j =
    let n = number 0 (packed o end) in
    let c = opcode_byte o in
    let a = argument_of o in
    record {
      refusal = low 0 256 (packed o end) (omega arith);
      command-is = part n 0 256 c 256 (a + 256 * end) (omega arith) (omega arith) h;
      argument_is = part n (256 * c) 65536 a 256 end (omega arith) (omega (arith, h)) i;
      end_is = part n (256 * c + 65536 * a) 16777216 end 256 0 (omega arith) (omega (arith, h, i)) j;
    }

-- the header's yuktrob_refusal and yuktrob_sheet: a shift by 8 bits
code-small : (l : Location) → code l < 256
code-small (Ok f) = omega arith
code-small (Err (Damaged layer place)) = omega arith
code-small (Err Missing) = omega arith

pub location-apart : (l : Location) → (location_number l % 256 ≡ code l) × (location_number l / 256 ≡ layer_told l)
location-apart l = number-apart (code l) (layer_told l) (code-small l)
