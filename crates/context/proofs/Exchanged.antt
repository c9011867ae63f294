-- Lists in which some elements in a row have given place to others. Before that place every element stands in a relation to the one that
-- was there, which may speak of its number; behind it every element is a function of the one that was there. Such lists are put together
-- as tables are: with an element in front, with a list in front that stays, with a list behind. What has become of each element is then
-- read off by its number, and the whole list where the relation leaves no choice (`exchanged-whole`). Assumes nothing.
use mathlib.Core.Path.{◌≡◌, refl, ap}
use mathlib.Core.List.{List, [], ◌∷◌, ◌++◌, map, map-append, append-nil, append_assoc}
use Prim.Native.Nat.{ℕ, zero, suc, ◌+◌, ◌<◌}
use native.Mathlib.Nat.{add-zero, zero-add}
use native.Mathlib.Omega.{arith}
use lib.ListN.{length, get_or, drop, length-append, get_or-append}
use lib.Seq.{drop_at, get_or-append-add}
use Rattle.base.proofs.ListLaws.{Each, get_d_map}

-- After e elements, numbered from k on, that P relates to those that were there, the new list has the elements `mid` in place of m.
module _ {A : Type 0} (P : ℕ → A → A → Type 0) (g : A → A) (m : ℕ) (mid : List A) where
  pub data Exchanged : (k e : ℕ) → (old new : List A) → Type 0 where
    here : {k : ℕ} (gone behind : List A) → length gone ≡ m → Exchanged k 0 (gone ++ behind) (mid ++ map g behind)
    there : {k e : ℕ} {x y : A} {old new : List A} → P k x y → Exchanged (k + 1) e old new → Exchanged k (1 + e) (x ∷ old) (y ∷ new)

later : (k i : ℕ) → k + suc i ≡ k + 1 + i
later k i = omega arith

module _ {A : Type 0} {P : ℕ → A → A → Type 0} {g : A → A} {m : ℕ} {mid : List A} where
  -- with nothing around
  pub exchanged-all : (k : ℕ) (old new : List A) → length old ≡ m → new ≡ mid → Exchanged P g m mid k 0 old new
  exchanged-all k old new l q =
      let h : Exchanged P g m mid k 0 (old ++ []) (mid ++ []) = here old [] l in
      rw q (simp append-nil at h)

  -- with a list behind
  pub exchanged-left : {k e : ℕ} {old new more : List A} (rest : List A) → more ≡ map g rest → Exchanged P g m mid k e old new
      → Exchanged P g m mid k e (old ++ rest) (new ++ more)
  exchanged-left rest q (here gone behind l) =
      rw (append_assoc gone behind rest, append_assoc mid, q, ← map-append) (here gone (behind ++ rest) l)
  exchanged-left rest q (there h t) = there h (exchanged-left rest q t)

  -- with n elements in front
  pub exchanged-right : {k e : ℕ} {old new : List A} (n : ℕ) (front : List A) → length front ≡ n → Each (λ i x. P i x x) k front
      → Exchanged P g m mid (k + n) e old new → Exchanged P g m mid k (n + e) (front ++ old) (front ++ new)
  exchanged-right {e = e} n [] l h t = rw (← l, zero-add e) (rw (← l, add-zero) at t)
  exchanged-right {k} {e} n (x ∷ front) l h t =
      let q : n + e ≡ 1 + (length front + e) = omega arith in
      let r : k + n ≡ k + 1 + length front = omega arith in
      rw q (there h.0 (exchanged-right {k = k + 1} (length front) front refl h.1 (rw r at t)))

  pub exchanged_before : {k e : ℕ} {old new : List A} (d : A) → Exchanged P g m mid k e old new
      → (i : ℕ) → i < e → P (k + i) (get_or old i d) (get_or new i d)
  exchanged_before d (here gone behind l) i h = absurd (omega arith)
  exchanged_before {k} d (there h t) zero l = rw (add-zero k) h
  exchanged_before {k} d (there h t) (suc i) l = rw (later k i) (exchanged_before d t i (omega arith))

  pub exchanged-inside : {k e : ℕ} {old new : List A} (d : A) → Exchanged P g m mid k e old new
      → (i : ℕ) → i < length mid → get_or new (e + i) d ≡ get_or mid i d
  exchanged-inside d (here gone behind l) i h = rw (zero-add i, get_or-append mid (map g behind) d i h)
  exchanged-inside d (there {e = e} h t) i l =
      let q : 1 + e + i ≡ suc (e + i) = omega arith in
      rw q (exchanged-inside d t i l)

  pub exchanged-behind : {k e : ℕ} {old new : List A} (d : A) → Exchanged P g m mid k e old new
      → (n : ℕ) → length mid ≡ n → (i : ℕ) → e + m + i < length old → get_or new (e + n + i) d ≡ g (get_or old (e + m + i) d)
  exchanged-behind d (here gone behind l) n q i h =
      rw (after mid (map g behind) n i q, after gone behind m i l)
      (get_d_map g behind i d d (omega (arith, length-append gone behind)))
    where
      after : (xs ys : List A) (n i : ℕ) → length xs ≡ n → get_or (xs ++ ys) (0 + n + i) d ≡ get_or ys i d
      after xs ys n i l = rw (zero-add n, ← l) (get_or-append-add xs ys i d)
  exchanged-behind d (there {e = e} h t) n q i l =
      let s : (j : ℕ) → 1 + e + j + i ≡ suc (e + j + i) = λ j. omega arith in
      rw (s m, s n) (exchanged-behind d t n q i (omega arith))

  -- the list whole, with the elements in front that P leaves
  pub exchanged-whole : {k e : ℕ} {old new : List A} (d : A) → Exchanged P g m mid k e old new → (front : List A) → length front ≡ e
      → ((i : ℕ) → i < e → (y : A) → P (k + i) (get_or old i d) y → y ≡ get_or front i d)
      → new ≡ front ++ (mid ++ map g (drop (e + m) old))
  exchanged-whole d (here gone behind l) [] n f = rw (zero-add m, drop_at gone behind m l)
  exchanged-whole d (here gone behind l) (z ∷ front) n f = absurd (omega arith)
  exchanged-whole d (there h t) [] n f = absurd (omega arith)
  exchanged-whole {k} d (there {e = e} {x = x} {y = y} {old = old} h t) (z ∷ front) n f =
      let q : 1 + e + m ≡ suc (e + m) = omega arith in
      cc (
        ap (λ (j : ℕ). drop j (x ∷ old)) q,
        f 0 (omega arith) y (rw (add-zero k) h),
        exchanged-whole d t front (omega arith) (λ i l w p. f (suc i) (omega arith) w (rw (later k i) p)),
      )
