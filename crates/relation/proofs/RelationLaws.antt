-- One pair more in a relation: the bits of two pairs of numbers below 1,024 stand at one index of one word only if the pairs are the same,
-- since a number is settled by its quotient and its remainder (`related_more`). Where all words are 0 no bit is set (`none_related`). A
-- block copied into words that relate nothing has what it had: behind it nothing is related in either list (`widened`). Assumes nothing.
use Rattle.std.proofs.Common.{◌≡◌, sym, ap, ◌∙◌, ◌⊎◌, inl, inr, Bool, true, false, cond, ◌&&◌, ◌||◌, List, ◌++◌, ℕ, ◌+◌, ◌-◌, ◌*◌, ◌/◌}
use Rattle.std.proofs.Common.{◌%◌, ◌≤◌, ◌<◌, arith, eqb, ltb, length, get_or, set, drop, replicate, get_or-append-add, get_or-drop}
use Rattle.std.proofs.Common.{get_or-set_same, get_or-set_other, eq-eqb, ne_eqb, lt-ltb, le-ltb}
use Rattle.std.proofs.Math.Bool.{and-false, or-false, or-true}
use Rattle.std.proofs.Math.Decide.{dec_lt, ℕ_discrete}
use Rattle.std.proofs.Math.ListN.{length-replicate, get_or-append, get_or-replicate, get_or-eq_default}
use Rattle.base.specs.Bits.{bit}
use Rattle.base.proofs.WordLaws.{no-bit}
use Rattle.relation.specs.Relation.{block_words, linked, Related, Unrelated, Widened}

-- the word of a pair
abbrev word_of : (u a : ℕ) → ℕ
word_of u a = 1024 * (a / 64) + u

-- a pair of numbers below 1,024 is in the relation if its bit is set
pub linked-bit : (r : List ℕ) (u a : ℕ) → u < 1024 → a < 1024 → linked r u a ≡ bit (get_or r (1024 * (a / 64) + u) 0) (a % 64)
unfolding linked
linked-bit r u a h k = λ i. lt-ltb u 1024 h i && (lt-ltb a 1024 k i && bit (get_or r (word_of u a) 0) (a % 64))

-- no other pair is in it
abbrev Far : (u a : ℕ) → Type 0
Far u a = (1024 ≤ u) ⊎ (1024 ≤ a)

linked_far : (r : List ℕ) (u a : ℕ) → Far u a → linked r u a ≡ false
unfolding linked
linked_far r u a (inl h) = ap (λ (b : Bool). b && (ltb a 1024 && bit (get_or r (word_of u a) 0) (a % 64))) (le-ltb u 1024 h)
linked_far r u a (inr h) =
    ap (λ (b : Bool). ltb u 1024 && (b && bit (get_or r (word_of u a) 0) (a % 64))) (le-ltb a 1024 h) ∙ and-false (ltb u 1024)

near_or_far : (u a : ℕ) → ((u < 1024) × (a < 1024)) ⊎ Far u a
near_or_far u a =
    elim (dec_lt u 1024) [
      | no h ↦ inr (inl (omega arith))
      | yes h ↦ elim (dec_lt a 1024) [ no k ↦ inr (inr (omega arith)) | yes k ↦ inl (h, k) ]
    ]

-- the word w at the index of a pair, which has the bit of the pair and else those that were there
module _ (r : List ℕ) (to from w : ℕ) (low : to < 1024) (small : from < 1024) (room : 1024 * (from / 64) + to < length r)
    (bits : (k : ℕ) → bit w k ≡ cond (eqb k (from % 64)) true (bit (get_or r (1024 * (from / 64) + to) 0) k)) where
  abbrev index : ℕ
  index = word_of to from

  abbrev more : List ℕ
  more = set r index w

  same-pair : linked more to from ≡ true
  same-pair =
      linked-bit more to from low small
      ∙ ap (λ (x : ℕ). bit x (from % 64)) (get_or-set_same r index w 0 room)
      ∙ bits (from % 64)
      ∙ ap (λ (b : Bool). cond b true (bit (get_or r index 0) (from % 64))) (eq-eqb (from % 64) (from % 64) (omega arith))

  -- another bit of the same word, or another word
  near-pair : (u a : ℕ) → u < 1024 → a < 1024 → ((u ≡ to) → (a ≡ from) → ⊥) → linked more u a ≡ linked r u a
  near-pair u a h k n =
      linked-bit more u a h k
      ∙ elim (ℕ_discrete (word_of u a) index) [
        | yes e ↦
            ap (λ (i : ℕ). bit (get_or more i 0) (a % 64)) e
            ∙ ap (λ (x : ℕ). bit x (a % 64)) (get_or-set_same r index w 0 room)
            ∙ bits (a % 64)
            ∙ ap (λ (b : Bool). cond b true (bit (get_or r index 0) (a % 64)))
            (ne_eqb (a % 64) (from % 64) (λ q. n (omega arith) (omega arith)))
            ∙ ap (λ (i : ℕ). bit (get_or r i 0) (a % 64)) (sym e)
        | no d ↦ ap (λ (x : ℕ). bit x (a % 64)) (get_or-set_other r index (word_of u a) w 0 d)
      ]
      ∙ sym (linked-bit r u a h k)

  other_pair : (u a : ℕ) → ((u ≡ to) → (a ≡ from) → ⊥) → linked more u a ≡ linked r u a
  other_pair u a n =
      elim (near_or_far u a) [
        | inl (h, k) ↦ near-pair u a h k n
        | inr f ↦ linked_far more u a f ∙ sym (linked_far r u a f)
      ]

  pub related_more : Related to from r more
  related_more = record { is = pair }
    where
      apart : (u a : ℕ) → (eqb u to && eqb a from) ≡ false → linked more u a ≡ linked r u a
          → linked more u a ≡ (linked r u a || (eqb u to && eqb a from))
      apart u a q e = e ∙ sym (ap (λ (b : Bool). linked r u a || b) q ∙ or-false (linked r u a))

      pair : (u a : ℕ) → linked more u a ≡ (linked r u a || (eqb u to && eqb a from))
      pair u a =
          elim (ℕ_discrete a from) [
            | no n ↦
                apart u a (ap (λ (b : Bool). eqb u to && b) (ne_eqb a from n) ∙ and-false (eqb u to)) (other_pair u a (λ p q. n q))
            | yes e ↦
                elim (ℕ_discrete u to) [
                  | no n ↦ apart u a (ap (λ (b : Bool). b && eqb a from) (ne_eqb u to n)) (other_pair u a (λ p q. n p))
                  | yes d ↦
                      ap (λ (x : ℕ). linked more x a) d ∙ ap (linked more to) e ∙ same-pair
                      ∙ sym (ap (λ (b : Bool). linked r u a || (b && eqb a from)) (eq-eqb u to d)
                      ∙ ap (λ (b : Bool). linked r u a || b) (eq-eqb a from e) ∙ or-true (linked r u a))
                ]
          ]

-- a word that is 0 relates nothing
zero_unlinked : (r : List ℕ) (u a : ℕ) → u < 1024 → a < 1024 → get_or r (1024 * (a / 64) + u) 0 ≡ 0 → linked r u a ≡ false
zero_unlinked r u a h k e = linked-bit r u a h k ∙ ap (λ (x : ℕ). bit x (a % 64)) e ∙ no-bit (a % 64)

-- Words that are 0 relate nothing.
pub none_related : (n : ℕ) → Unrelated (replicate n 0)
none_related n = record { is = none }
  where
    zero_word : (i : ℕ) → get_or (replicate {A = ℕ} n 0) i 0 ≡ 0
    zero_word i =
        elim (dec_lt i n) [
          | yes h ↦ get_or-replicate {A = ℕ} n i 0 0 h
          | no h ↦ get_or-eq_default (replicate {A = ℕ} n 0) 0 (omega (arith, length-replicate {A = ℕ} n 0))
        ]

    none : (u a : ℕ) → linked (replicate n 0) u a ≡ false
    none u a =
        elim (near_or_far u a) [
          | inl (h, k) ↦ zero_unlinked (replicate n 0) u a h k (zero_word (word_of u a))
          | inr f ↦ linked_far (replicate n 0) u a f
        ]

-- A block copied into words that related nothing.
module _ (r l : List ℕ) (long : length r ≡ block_words) (nothing : Unrelated l) where
  abbrev copied : List ℕ
  copied = r ++ drop block_words l

  -- behind the block
  far_word : (k : ℕ) → block_words ≤ k → get_or copied k 0 ≡ get_or l k 0
  far_word k h =
      let i = k - block_words in
      ap (λ (n : ℕ). get_or copied n 0) {x = k} {y = length r + i} (omega (arith, long))
      ∙ get_or-append-add r (drop block_words l) i 0
      ∙ get_or-drop block_words l i 0
      ∙ ap (λ (n : ℕ). get_or l n 0) {x = block_words + i} {y = k} (omega arith)

  near_same : (u a : ℕ) → u < 1024 → a < 1024 → linked copied u a ≡ linked r u a
  near_same u a h k =
      elim (dec_lt a 64) [
        | yes b ↦
            linked-bit copied u a h k
            ∙ ap (λ (x : ℕ). bit x (a % 64)) (get_or-append r (drop block_words l) 0 (word_of u a) (omega (arith, long)))
            ∙ sym (linked-bit r u a h k)
        | no b ↦
            linked-bit copied u a h k ∙ ap (λ (x : ℕ). bit x (a % 64)) (far_word (word_of u a) (omega arith))
            ∙ sym (linked-bit l u a h k) ∙ nothing.is u a
            ∙ sym (zero_unlinked r u a h k (get_or-eq_default r 0 {n = word_of u a} (omega (arith, long))))
      ]

  pub widened : Widened r copied
  widened = record {
    is = λ u a.
        elim (near_or_far u a) [
          | inl (h, k) ↦ near_same u a h k
          | inr e ↦ linked_far copied u a e ∙ sym (linked_far r u a e)
        ];
  }
