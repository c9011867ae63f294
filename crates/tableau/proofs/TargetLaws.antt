-- The answer of `transition` is the definition's: what is gathered of a saturated set passes the code's three tests exactly if the
-- transition exists (`test_is`), and then has what it requires and its node (`required-is`, `to_is`). The same by a choice word
-- (`stepped_none`, `stepped_choice`). Back from an answer: what it says of the definition's transition (`target-nowhere`, `a_target`).
-- Assumes nothing.
use Rattle.std.proofs.Common.{Option, Some, None, ◌≡◌, refl, sym, ap, ◌∙◌, inl, inr, Bool, true, false, cond, not, ◌&&◌, ◌||◌, List, []}
use Rattle.std.proofs.Common.{◌∷◌, ℕ, arith, eqb, bit_and, length, eq-eqb, ne_eqb}
use Rattle.std.proofs.Math.ListN.{length-map}
use Rattle.std.proofs.Math.Path.{subst⁻¹}
use Rattle.base.specs.Lists.{flat_map}
use Rattle.base.specs.Bits.{word}
use Rattle.base.proofs.WordLaws.{word_none}
use Rattle.letters.specs.Requirements.{clash}
use Rattle.formula.specs.Table.{Operator, Table}
use Rattle.tableau.specs.Saturation.{Subset, nothing, add, saturate}
use Rattle.tableau.specs.Transition.{operators_in, requirement, next_of, possible, choice_of, within, transition_of}
use Rattle.tableau.specs.Inner.{table_of, Formed, with_bits, Saturated, LeadsNowhere, Required, target}
use Rattle.tableau.specs.Inner.{TargetIs, TargetBy}
use Rattle.tableau.specs.declared.Gathered.{Gathered}
use Rattle.tableau.specs.declared.Target.{Target}
use Rattle.tableau.proofs.TransitionLaws.{transition_with, transition_by, no_transition, one_or_none}
use Rattle.tableau.proofs.WordSets.{AllBelow, word-add, within_word}
use Rattle.tableau.proofs.RowLaws.{next-below}
use Rattle.tableau.proofs.LoopLaws.{table-length, flat_mapped_below}

module _ {rows : List ℕ} {count : ℕ} (f : Formed rows count) (s : Subset) where
  abbrev os : List Operator
  os = operators_in (table_of rows count) s

  -- what the transition requires, its node, and whether it exists
  module _ (r : Gathered) (q : Required os r) where
    to_is : r.to ≡ word (add (flat_map next_of os) (nothing (table_of rows count)))
    to_is =
        q.to_is
        ∙ ap (with_bits (flat_map next_of os)) (sym (word_none (table_of rows count)))
        ∙ sym (word-add (flat_map next_of os) (nothing (table_of rows count))
        (subst⁻¹ (λ (n : ℕ). AllBelow n (flat_map next_of os)) (length-map (table_of rows count) (λ _. false) ∙ table-length rows count)
        (flat_mapped_below f s next_of count (next-below count))))

    test_is : (w : Subset) → (within w s && possible os)
        ≡ (eqb (bit_and (word w) (word s)) (word w) && (not r.falsum && not (clash r.required)))
    unfolding possible
    test_is w = λ i. within_word w s i && (not (sym q.falsum_is i) && not (clash (sym q.required_is i)))

-- a choice that is not met
pub target-unmet : {rows : List ℕ} {count choice node set : ℕ} → Saturated rows count choice node set → (bit_and choice set ≡ choice → ⊥)
    → TargetIs rows count choice node None
target-unmet {rows} {count} {choice} {set = set} st h = record {
  is = λ w v l c n.
      let t = table_of rows count in
      let s = saturate t w v in
      let p : within w s ≡ false = within_word w s ∙ rw (← c, ← st.is w v l c n) (ne_eqb (bit_and choice set) choice h) in
      ap target (sym (no_transition t w s p));
}

-- What is gathered of the saturation of a node under a choice is r.
pub record RequiredOf (rows : List ℕ) (count choice node : ℕ) (r : Gathered) : Type 0 where
  pub is : (w v : Subset) → length v ≡ count → choice ≡ word w → node ≡ word v
      → Required (operators_in (table_of rows count) (saturate (table_of rows count) w v)) r

-- neither of two, as the code asks it
dead-false : (a b : Bool) {c : Bool} → (a || b) ≡ c → (not a && not b) ≡ not c
dead-false true b h = ap not h
dead-false false b h = ap not h

-- the answer, from the outcome of the tests of what is required
module _ {rows : List ℕ} {count choice node set : ℕ} {r : Gathered} (f : Formed rows count)
    (st : Saturated rows count choice node set) (rq : RequiredOf rows count choice node r) where
  abbrev test : Bool
  test = eqb (bit_and choice set) choice && (not r.falsum && not (clash r.required))

  answer : (x : Option Target) (b : Bool) → test ≡ b → x ≡ cond b (Some (record { to = r.to; required = r.required })) None
      → TargetIs rows count choice node x
  answer x b h e = record { is = λ w v l c n. go w v l c n }
    where
      t : Table
      t = table_of rows count

      go : (w v : Subset) → length v ≡ count → choice ≡ word w → node ≡ word v → x ≡ target (transition_of t w (saturate t w v))
      go w v l c n =
          let s : Subset = saturate t w v in
          let k : set ≡ word s = st.is w v l c n in
          let q : Required (operators_in t s) r = rq.is w v l c n in
          let p : (within w s && possible (operators_in t s)) ≡ b = test_is f s r q w ∙ rw (← c, ← k) h in
          e ∙ by b q.required_is (to_is f s r q) ∙ ap target (sym (transition_by t w s b p))
        where
          by : (b : Bool) → r.required ≡ requirement (operators_in t (saturate t w v))
              → r.to ≡ word (transition_with t w (saturate t w v)).to
              → cond b (Some (record { to = r.to; required = r.required })) None
              ≡ target (cond b (transition_with t w (saturate t w v) ∷ []) [])
          by true p t = rw (p, t)
          by false p t = refl

  pub target-dead : bit_and choice set ≡ choice → (r.falsum || clash r.required) ≡ true → TargetIs rows count choice node None
  target-dead m h = answer None false (rw (eq-eqb (bit_and choice set) choice m) (dead-false r.falsum (clash r.required) h)) refl

  pub target-some : bit_and choice set ≡ choice → (r.falsum || clash r.required) ≡ false
      → TargetIs rows count choice node (Some (record { to = r.to; required = r.required }))
  target-some m h =
      answer (Some (record { to = r.to; required = r.required })) true
      (rw (eq-eqb (bit_and choice set) choice m) (dead-false r.falsum (clash r.required) h)) refl

-- what the code's answer says of the definition's transition
no_target : (t : Table) (w s : Subset) → None ≡ target (transition_of t w s) → transition_of t w s ≡ []
no_target t w s e =
    elim (one_or_none t w s) [
      | inl p ↦
          let q : None ≡ target (transition_with t w s ∷ []) = e ∙ ap target p in
          let z : ◌≡◌ {A = ℕ} 0 1 = cc in
          absurd (omega arith)
      | inr p ↦ p
    ]

module _ {rows : List ℕ} {count x node : ℕ} where
  -- the answer for a choice word: none where it is known to lead nowhere, or that for its choice
  pub stepped_none : LeadsNowhere rows count node x → TargetBy rows count x node None
  stepped_none h = record { is = λ v l n. ap target (sym (h.is v l n)) }

  pub stepped_choice : {choice : ℕ} {r : Option Target} → choice ≡ word (choice_of (table_of rows count) x)
      → TargetIs rows count choice node r → TargetBy rows count x node r
  stepped_choice c st = record { is = λ v l n. st.is (choice_of (table_of rows count) x) v l c n }

  pub target-nowhere : {r : Option Target} → TargetBy rows count x node r → r ≡ None → LeadsNowhere rows count node x
  target-nowhere st q = record {
    is = λ v l n.
        let t = table_of rows count in
        let w = choice_of t x in
        no_target t w (saturate t w v) (sym q ∙ st.is v l n);
  }

pub record StepFound (t : Table) (w s : Subset) (x : Target) : Type 0 where
  pub exists : transition_of t w s ≡ transition_with t w s ∷ []
  pub to_is : x.to ≡ word (transition_with t w s).to
  pub required-is : x.required ≡ (transition_with t w s).required

pub a_target : {x : Target} (t : Table) (w s : Subset) → Some x ≡ target (transition_of t w s) → StepFound t w s x
a_target {x} t w s e =
    elim (one_or_none t w s) [
      | inl p ↦
          let q : Some x ≡ target (transition_with t w s ∷ []) = e ∙ ap target p in
          record { exists = p; to_is = cc; required-is = cc }
      | inr p ↦
          let q : Some x ≡ None = e ∙ ap target p in
          let z : ◌≡◌ {A = ℕ} 0 1 = cc in
          absurd (omega arith)
    ]
