-- The loops that expand a level, each as one turn: `Expanded` for one vertex, and for those of two tests together. The tests of the two
-- loops: the bits of a word that were taken already (`taken_one`), and the vertices in the first words of a level (`passed-word`). Assumes
-- nothing.
use Rattle.std.proofs.Common.{◌≡◌, refl, sym, ap, subst, ◌∙◌, Bool, true, false, cond, not, ◌&&◌, ◌||◌, ◌⊎◌, inl, inr, ⊎_elim, List, ℕ}
use Rattle.std.proofs.Common.{◌+◌, ◌*◌, ◌/◌, ◌%◌, ◌<◌, arith, T, eqb, eqb→eq, ltb, length, get_or, set, length-set, eqb-true, eq-eqb}
use Rattle.std.proofs.Common.{ne_eqb, lt-ltb, le-ltb}
use Rattle.std.proofs.Math.Bool.{or-true, or-false}
use Rattle.std.proofs.Math.Dec.{eqb_refl}
use Rattle.std.proofs.Math.Decide.{dec_lt}
use Rattle.std.proofs.lemmas.Bool.{eqb-false}
use Rattle.base.specs.Bits.{bit, Lowest, Without}
use Rattle.base.proofs.BoolLaws.{of_T, to_T, or_cases, or_left, or_right}
use Rattle.base.proofs.TestLaws.{same_truth}
use Rattle.relation.specs.Relation.{linked}
use Rattle.distances.specs.Inner.{has_vertex, in_word, Joined, Leads, Expanded}
use Rattle.base.proofs.FillLaws.{set_at}

-- a step to a vertex that passes another test
leads_by : {r : List ℕ} {test test' : ℕ → Bool} {x : ℕ} → ((y : ℕ) → T (test y) → T (test' y)) → Leads r test x → Leads r test' x
leads_by f l = record { next = l.next; passes = f l.next l.passes; link = l.link }

module _ {r : List ℕ} {far : ℕ} where
  expanded_one : {steps s s' : List ℕ} (u : ℕ) → u < 1024 → length steps ≡ 1024 → Joined (linked r u) s s'
      → Expanded r (λ (x : ℕ). eqb x u) far steps s (set steps u far) s'
  expanded_one {steps} {s} {s'} u h long j =
      record {
        noted = set_at 1024 steps u far (omega arith);
        long = length-set steps u far ∙ long;
        wide = j.long;
        kept = λ x t. subst T (sym (j.is x)) (or_left (has_vertex s x) (linked r u x) t);
        gained = λ x l.
            subst T (sym (j.is x)) (or_right (has_vertex s x) (linked r u x)
            (subst (λ (y : ℕ). T (linked r y x)) (eqb→eq l.next u l.passes) l.link));
        only = λ x t.
            ⊎_elim inl (λ l. inr (record { next = u; passes = eqb_refl u; link = l })) (or_cases (has_vertex s x) (linked r u x)
            (subst T (j.is x) t));
      }

  pub expanded_both : {test more : ℕ → Bool} {steps s steps' s' steps'' s'' : List ℕ} (test' : ℕ → Bool)
      → Expanded r test far steps s steps' s' → Expanded r more far steps' s' steps'' s'' → ((x : ℕ) → test' x ≡ (test x || more x))
      → Expanded r test' far steps s steps'' s''
  expanded_both {test} {more} {steps} {s} {steps'} {s'} {steps''} {s''} test' h k e =
      record {
        noted = λ x.
            k.noted x ∙ ap (cond (more x) far) (h.noted x) ∙ either (test x) (more x) (get_or steps x 1024)
            ∙ ap (λ (b : Bool). cond b far (get_or steps x 1024)) (sym (e x));
        long = k.long;
        wide = k.wide;
        kept = λ x t. k.kept x (h.kept x t);
        gained = λ x l. from x l (or_cases (test l.next) (more l.next) (subst T (e l.next) l.passes));
        only = λ x t. ⊎_elim (λ q. ⊎_elim inl (λ l. inr (leads_by left l)) (h.only x q)) (λ l. inr (leads_by right l)) (k.only x t);
      }
    where
      either : (a b : Bool) (n : ℕ) → cond b far (cond a far n) ≡ cond (a || b) far n
      either true true n = refl
      either true false n = refl
      either false b n = refl

      left : (y : ℕ) → T (test y) → T (test' y)
      left y t = subst T (sym (e y)) (or_left (test y) (more y) t)

      right : (y : ℕ) → T (more y) → T (test' y)
      right y t = subst T (sym (e y)) (or_right (test y) (more y) t)

      from : (x : ℕ) (l : Leads r test' x) → T (test l.next) ⊎ T (more l.next) → T (has_vertex s'' x)
      from x l (inl t) = k.kept x (h.gained x (record { next = l.next; passes = t; link = l.link }))
      from x l (inr t) = k.gained x (record { next = l.next; passes = t; link = l.link })

-- the vertices of word `at` whose bits were taken
abbrev pub taken : (at level left : ℕ) → ℕ → Bool
taken at level left x = eqb (x / 64) at && (bit level (x % 64) && not (bit left (x % 64)))

-- the bits that are left are bits of the word
pub record Left (level left : ℕ) : Type 0 where
  pub inside : (k : ℕ) → T (bit left k) → T (bit level k)

module _ {level left e left' : ℕ} (i : Left level left) (l : Lowest left e) (w : Without left e left') where
  pub left_less : Left level left'
  left_less = record { inside = λ k t. i.inside k (from k (eqb k e) (subst T (w.bits k) t)) }
    where
      from : (k : ℕ) (b : Bool) → T (cond b false (bit left k)) → T (bit left k)
      from k true t = absurd t
      from k false t = t

  pub taken_one : (at x : ℕ) → taken at level left' x ≡ (taken at level left x || eqb x (64 * at + e))
  taken_one at x = by (eqb (x / 64) at) refl
    where
      same : (k : ℕ) (b : Bool) → eqb k e ≡ b → (bit level k && not (bit left' k)) ≡ ((bit level k && not (bit left k)) || b)
      same k true q =
          ap (λ (b : Bool). bit level k && not b) (w.bits k ∙ ap (λ (b : Bool). cond b false (bit left k)) q)
          ∙ ap (λ (b : Bool). b && true) level_has ∙ sym (or-true (bit level k && not (bit left k)))
        where
          level_has : bit level k ≡ true
          level_has = ap (bit level) (eqb-true k e q) ∙ of_T (bit level e) (i.inside e (to_T (bit left e) l.there))
      same k false q =
          ap (λ (b : Bool). bit level k && not b) (w.bits k ∙ ap (λ (b : Bool). cond b false (bit left k)) q)
          ∙ sym (or-false (bit level k && not (bit left k)))

      by : (b : Bool) → eqb (x / 64) at ≡ b
          → (b && (bit level (x % 64) && not (bit left' (x % 64))))
          ≡ ((b && (bit level (x % 64) && not (bit left (x % 64)))) || eqb x (64 * at + e))
      by false q = sym (ne_eqb x (64 * at + e) (λ p. eqb-false (x / 64) at q (omega (arith, l.small))))
      by true q = same (x % 64) (eqb (x % 64) e) refl ∙ ap (λ (b : Bool). (bit level (x % 64) && not (bit left (x % 64))) || b) alike
        where
          alike : eqb (x % 64) e ≡ eqb x (64 * at + e)
          alike =
              same_truth (eqb (x % 64) e) (eqb x (64 * at + e))
              (λ t. to_T (eqb x (64 * at + e)) (eq-eqb x (64 * at + e) (omega (arith, eqb→eq (x % 64) e t, eqb-true (x / 64) at q))))
              (λ t. to_T (eqb (x % 64) e) (eq-eqb (x % 64) e (omega (arith, eqb→eq x (64 * at + e) t, l.small))))

-- the vertices in the first words of a level
abbrev pub passed : (level : List ℕ) (i : ℕ) → ℕ → Bool
passed level i x = ltb (x / 64) i && has_vertex level x

pub passed-word : (level : List ℕ) (i : ℕ) (x : ℕ) → passed level (i + 1) x ≡ (passed level i x || in_word i (get_or level i 0) x)
unfolding has_vertex
passed-word level i x = by (dec_lt (x / 64) i) (eqb (x / 64) i) refl
  where
    by : Dec (x / 64 < i) → (b : Bool) → eqb (x / 64) i ≡ b
        → passed level (i + 1) x ≡ (passed level i x || (b && bit (get_or level i 0) (x % 64)))
    by (yes h) true q = absurd (omega (arith, eqb-true (x / 64) i q))
    by (yes h) false q =
        ap (λ (b : Bool). b && has_vertex level x) (lt-ltb (x / 64) (i + 1) (omega arith))
        ∙ sym (or-false (has_vertex level x))
        ∙ ap (λ (b : Bool). (b && has_vertex level x) || false) (sym (lt-ltb (x / 64) i h))
    by (no h) true q =
        ap (λ (b : Bool). b && has_vertex level x) (lt-ltb (x / 64) (i + 1) (omega (arith, eqb-true (x / 64) i q)))
        ∙ ap (λ (k : ℕ). bit (get_or level k 0) (x % 64)) (eqb-true (x / 64) i q)
        ∙ ap (λ (b : Bool). (b && has_vertex level x) || bit (get_or level i 0) (x % 64)) (sym (le-ltb (x / 64) i (omega arith)))
    by (no h) false q =
        ap (λ (b : Bool). b && has_vertex level x) (le-ltb (x / 64) (i + 1) (omega (arith, eqb-false (x / 64) i q)))
        ∙ ap (λ (b : Bool). (b && has_vertex level x) || false) (sym (le-ltb (x / 64) i (omega arith)))

-- a turn of the loop over the bits of a word
pub expanded_bit : {r : List ℕ} {far : ℕ} (at : ℕ) {level left e left' : ℕ} {steps s steps' s' s'' : List ℕ}
    → Expanded r (taken at level left) far steps s steps' s' → Left level left → Lowest left e → Without left e left' → at < 16
    → Joined (linked r (64 * at + e)) s' s'' → Expanded r (taken at level left') far steps s (set steps' (64 * at + e) far) s''
expanded_bit {r} {far} at {level} {left} {e} {left'} x i l w h j =
    expanded_both (taken at level left') x (expanded_one (64 * at + e) (omega (arith, l.small)) x.long j) (taken_one i l w at)
