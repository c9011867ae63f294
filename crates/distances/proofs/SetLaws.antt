-- Sets of vertices as words: the set of no vertex (`none_has`) and of one (`one_has`); the words of a vertex in the relation joined to a
-- set, one by one (`row-joined`); what a set has that was not seen (`parted`). The word of a vertex tells whether the set has it, so a loop
-- that has set the first words (`Filled`) has set what they hold. Assumes nothing.
use Rattle.std.proofs.Common.{◌≡◌, refl, sym, ap, subst, ◌∙◌, Bool, true, false, cond, not, ◌&&◌, ◌||◌, List, ℕ, ◌+◌, ◌*◌, ◌/◌, ◌%◌, ◌^◌}
use Rattle.std.proofs.Common.{◌≤◌, ◌<◌, arith, bit_or, bit_xor, T, eqb, ltb, length, get_or, set as put, replicate, eqb-true, eq-eqb}
use Rattle.std.proofs.Common.{ne_eqb, ltb-false}
use Rattle.std.proofs.Math.Bool.{or-false}
use Rattle.std.proofs.Math.Decide.{dec_lt}
use Rattle.std.proofs.Math.ListN.{length-replicate, get_or-replicate, get_or-eq_default}
use Rattle.std.proofs.lemmas.Bool.{eqb-false}
use Rattle.base.specs.Bits.{bit}
use Rattle.base.proofs.BoolLaws.{to_T, or_left, or_right}
use Rattle.base.proofs.TestLaws.{not_of_T}
use Rattle.base.proofs.FillLaws.{set_at, Filled, filled-below, filled-above, filled_more}
use Rattle.base.proofs.BitLaws.{bit-or, bit-xor, bit-same, bit_other}
use Rattle.base.proofs.WordLaws.{no-bit}
use Rattle.relation.specs.Relation.{linked}
use Rattle.relation.proofs.RelationLaws.{linked-bit}
use Rattle.distances.proofs.WalkLaws.{Rows}
use Rattle.distances.specs.Inner.{has_vertex, Joined, Parted, Unnoted}

-- the bit of a word
has-at : (s : List ℕ) (x : ℕ) {w : ℕ} → get_or s (x / 64) 0 ≡ w → has_vertex s x ≡ bit w (x % 64)
unfolding has_vertex
has-at s x e = ap (λ (w : ℕ). bit w (x % 64)) e

-- two sets with the same word there
has_same : (s t : List ℕ) (x : ℕ) → get_or s (x / 64) 0 ≡ get_or t (x / 64) 0 → has_vertex s x ≡ has_vertex t x
has_same s t x e = has-at s x e ∙ sym (has-at t x refl)

-- no vertex
abbrev pub no-vertex : List ℕ
no-vertex = replicate 16 0

pub none-long : length no-vertex ≡ 16
none-long = length-replicate {A = ℕ} 16 0

pub none_has : (x : ℕ) → has_vertex no-vertex x ≡ false
none_has x = has-at no-vertex x (at (dec_lt (x / 64) 16)) ∙ no-bit (x % 64)
  where
    at : Dec (x / 64 < 16) → get_or no-vertex (x / 64) 0 ≡ 0
    at (yes h) = get_or-replicate {A = ℕ} 16 (x / 64) 0 0 h
    at (no h) = get_or-eq_default no-vertex 0 {n = x / 64} (omega (arith, none-long))

-- one vertex
pub one_has : (to : ℕ) → to < 1024 → (x : ℕ) → has_vertex (put no-vertex (to / 64) (2 ^ (to % 64))) x ≡ eqb x to
one_has to h x = has-at _ x (set_at 0 no-vertex (to / 64) (2 ^ (to % 64)) (omega (arith, none-long)) (x / 64))
    ∙ by (eqb (x / 64) (to / 64)) refl
  where
    by : (b : Bool) → eqb (x / 64) (to / 64) ≡ b → bit (cond b (2 ^ (to % 64)) (get_or no-vertex (x / 64) 0)) (x % 64) ≡ eqb x to
    by false q = sym (has-at no-vertex x refl) ∙ none_has x ∙ sym (ne_eqb x to (λ e. omega (arith, eqb-false (x / 64) (to / 64) q)))
    by true q = at (eqb (x % 64) (to % 64)) refl
      where
        at : (b : Bool) → eqb (x % 64) (to % 64) ≡ b → bit (2 ^ (to % 64)) (x % 64) ≡ eqb x to
        at true p =
            ap (bit (2 ^ (to % 64))) (eqb-true (x % 64) (to % 64) p) ∙ bit-same (to % 64)
            ∙ sym (eq-eqb x to (omega (arith, eqb-true (x / 64) (to / 64) q, eqb-true (x % 64) (to % 64) p)))
        at false p =
            bit_other (to % 64) (x % 64) (eqb-false (x % 64) (to % 64) p)
            ∙ sym (ne_eqb x to (λ e. eqb-false (x % 64) (to % 64) p (omega arith)))

-- the code's test
pub has_of : (s : List ℕ) (x : ℕ) {b : Bool} → b ≡ bit (get_or s (x / 64) 0) (x % 64) → b ≡ true → T (has_vertex s x)
unfolding has_vertex
has_of s x e q = to_T (has_vertex s x) (sym e ∙ q)

pub has_not : (s : List ℕ) (x : ℕ) {b : Bool} → b ≡ bit (get_or s (x / 64) 0) (x % 64) → b ≡ false → T (has_vertex s x) → ⊥
unfolding has_vertex
has_not s x e q t = subst T (sym e ∙ q) t

-- the words of a vertex joined to a set, in the first blocks
abbrev pub joined_word : (r : List ℕ) (row : ℕ) (s : List ℕ) → ℕ → ℕ
joined_word r row s k = bit_or (get_or s k 0) (get_or r (1024 * k + row) 0)

module _ {r : List ℕ} {words i : ℕ} (h : Rows r words) (row : ℕ) (low : row < 1024) {s s' : List ℕ} (w : length s ≡ 16)
    (f : Filled 0 (joined_word r row s) i s s') (upto : i ≤ words) (done : words ≤ i) where
  pub row-joined : Joined (linked r row) s s'
  unfolding has_vertex
  row-joined = record { long = f.long ∙ w; is = λ x. at x (dec_lt (x / 64) words) }
    where
      at : (x : ℕ) → Dec (x / 64 < words) → has_vertex s' x ≡ (has_vertex s x || linked r row x)
      at x (yes l) =
          has-at s' x (filled-below f (x / 64) (omega arith))
          ∙ bit-or (get_or s (x / 64) 0) (get_or r (1024 * (x / 64) + row) 0) (x % 64)
          ∙ ap (λ (b : Bool). has_vertex s x || b) (sym (linked-bit r row x low (omega (arith, h.fit))))
      at x (no l) =
          has_same s' s x (filled-above f (x / 64) (omega arith))
          ∙ sym (ap (λ (b : Bool). has_vertex s x || b) (not_of_T (linked r row x) far) ∙ or-false (has_vertex s x))
        where
          far : T (linked r row x) → ⊥
          far t = omega (arith, h.cover row x t)

-- the level, and what is seen
abbrev pub seen-word : (set seen : List ℕ) → ℕ → ℕ
seen-word set seen k = bit_or (get_or seen k 0) (get_or set k 0)

abbrev pub fresh-word : (set seen : List ℕ) → ℕ → ℕ
fresh-word set seen k = bit_xor (seen-word set seen k) (get_or seen k 0)

fresh-bit : (a b : ℕ) (e : ℕ) → bit (bit_xor (bit_or a b) a) e ≡ (bit b e && not (bit a e))
fresh-bit a b e =
    bit-xor (bit_or a b) a e ∙ ap (λ (t : Bool). cond t (not (bit a e)) (bit a e)) (bit-or a b e) ∙ by (bit a e) (bit b e)
  where
    by : (x y : Bool) → cond (x || y) (not x) x ≡ (y && not x)
    by true true = refl
    by true false = refl
    by false true = refl
    by false false = refl

-- what was met in the first words of the level is among the bits
pub record Met (f : ℕ → ℕ) (i any : ℕ) : Type 0 where
  pub bits : (k e : ℕ) → k < i → T (bit (f k) e) → T (bit any e)

met-more : {f : ℕ → ℕ} {i any v : ℕ} → Met f i any → v ≡ f i → Met f (i + 1) (bit_or any v)
met-more {f} {i} {any} {v} m q = record { bits = λ k e h t. subst T (sym (bit-or any v e)) (at k e (dec_lt k i) h t) }
  where
    at : (k e : ℕ) → Dec (k < i) → k < i + 1 → T (bit (f k) e) → T (bit any e || bit v e)
    at k e (yes l) h t = or_left (bit any e) (bit v e) (m.bits k e l t)
    at k e (no l) h t =
        or_right (bit any e) (bit v e)
        (subst (λ (w : ℕ). T (bit w e)) (ap f {x = k} {y = i} (omega arith) ∙ sym q) t)

-- the loop: the first i words of the level are what the set has that was not seen
pub record Parting (words : ℕ) (set level seen : List ℕ) (i : ℕ) (level' seen' : List ℕ) (any : ℕ) : Type 0 where
  pub upto : i ≤ words
  pub fresh : Filled 0 (fresh-word set seen) i level level'
  pub joined : Filled 0 (seen-word set seen) i seen seen'
  pub met : Met (fresh-word set seen) i any

module _ {words i any : ℕ} {set level seen level' seen' : List ℕ} (p : Parting words set level seen i level' seen' any)
    (l : length level ≡ 16) (s : length seen ≡ 16) where
  pub parting_more : words ≤ 16 → i < words
      → Parting words set level seen (i + 1) (put level' i (fresh-word set seen' i)) (put seen' i (seen-word set seen' i))
      (bit_or any (fresh-word set seen' i))
  parting_more small h =
      record {
        upto = omega arith;
        fresh = filled_more p.fresh (omega arith) same-fresh;
        joined = filled_more p.joined (omega arith) (ap (λ (w : ℕ). bit_or w (get_or set i 0)) same);
        met = met-more p.met same-fresh;
      }
    where
      same : get_or seen' i 0 ≡ get_or seen i 0
      same = filled-above p.joined i (omega arith)

      same-fresh : fresh-word set seen' i ≡ fresh-word set seen i
      same-fresh = ap (λ (w : ℕ). bit_xor (bit_or w (get_or set i 0)) w) same

  pub parted : words ≤ i → Parted words set level seen level' seen' (ltb 0 any)
  unfolding has_vertex
  parted done =
      record {
        long_level = p.fresh.long ∙ l;
        long_seen = p.joined.long ∙ s;
        level_is = λ x h. level_at x h ∙ fresh-bit (get_or seen (x / 64) 0) (get_or set (x / 64) 0) (x % 64);
        seen_is = λ x h.
            has-at seen' x (filled-below p.joined (x / 64) (omega arith))
            ∙ bit-or (get_or seen (x / 64) 0) (get_or set (x / 64) 0) (x % 64);
        level_rest = λ x h. has_same level' level x (filled-above p.fresh (x / 64) (omega (arith, p.upto)));
        seen_rest = λ x h. has_same seen' seen x (filled-above p.joined (x / 64) (omega (arith, p.upto)));
        nothing = λ q x h t. none q x (subst T (level_at x h) t) (omega arith);
      }
    where
      level_at : (x : ℕ) → x < 64 * words → has_vertex level' x ≡ bit (fresh-word set seen (x / 64)) (x % 64)
      level_at x h = has-at level' x (filled-below p.fresh (x / 64) (omega arith))

      none : ltb 0 any ≡ false → (x : ℕ) → T (bit (fresh-word set seen (x / 64)) (x % 64)) → x / 64 < i → ⊥
      none q x t h =
          let z : any ≡ 0 = omega (arith, ltb-false 0 any q) in
          subst T (ap (λ (w : ℕ). bit w (x % 64)) z ∙ no-bit (x % 64)) (p.met.bits (x / 64) (x % 64) h t)

-- 1,024 everywhere
pub unnoted : {steps : List ℕ} {n : ℕ} → steps ≡ replicate n 1024 → n ≡ 1024 → Unnoted steps
unnoted {steps} {n} e l = subst Unnoted (sym e) (record { long = long ∙ l; is = λ x. at x (dec_lt x n) })
  where
    long : length (replicate {A = ℕ} n 1024) ≡ n
    long = length-replicate {A = ℕ} n 1024

    at : (x : ℕ) → Dec (x < n) → get_or (replicate {A = ℕ} n 1024) x 1024 ≡ 1024
    at x (yes h) = get_or-replicate {A = ℕ} n x 1024 1024 h
    at x (no h) = get_or-eq_default (replicate {A = ℕ} n 1024) 1024 {n = x} (omega (arith, long))
