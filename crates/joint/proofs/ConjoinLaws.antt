-- The conjunction put together in a buffer from its end: bytes before bytes (`Putting`), a formula before what is there (`grown-first`,
-- `grown-more`), and so one formula after another from the last to the first, each if it is taken (`Conjoining`). A formula that reading
-- accepts has 1 to 96 bytes (`accepted-length`), so there is room for eight. A conjunction has bytes exactly if it has formulas. Assumes
-- nothing.
use mathlib.Core.Path.{◌≡◌, refl, sym, ap, subst, ◌∙◌}
use mathlib.Core.Bool.{Bool, true, false, cond}
use mathlib.Core.List.{List, [], ◌∷◌, ◌++◌, append-nil}
use Prim.Native.Nat.{ℕ, zero, suc, ◌+◌, ◌-◌, ◌*◌, ◌≤◌, ◌<◌}
use native.Mathlib.Omega.{arith}
use lib.ListN.{length, get_or, take, drop, set, length-set, length-drop, drop_of_length-le}
use lib.Seq.{take_all, drop-length, drop-cons, get_or-set_same, drop-set-lt}
use Rattle.formula.specs.Formula.{Formula}
use Rattle.formula.specs.Reading.{Opcode, byte_of}
use Rattle.formula.proofs.Measure.{accepted-length}
use Rattle.conjunction.specs.Conjunction.{conjoined, Accepted}
use Rattle.joint.specs.Joint.{Subset, chosen}
use Rattle.joint.specs.Inner.{joined, Grown, Conjoins}

-- ---- one byte before others
set_drop : (out : List ℕ) (k b : ℕ) → k < length out → drop k (set out k b) ≡ b ∷ drop (suc k) out
set_drop out k b l =
    drop-cons (set out k b) k 0 (omega (arith, length-set out k b))
    ∙ ap (λ (x : ℕ). x ∷ drop (suc k) (set out k b)) (get_or-set_same out k b 0 l)
    ∙ ap (λ (r : List ℕ). b ∷ r) (drop-set-lt (suc k) out k b (omega arith))

-- ---- bytes before what is there
module _ (bytes : List ℕ) (start at : ℕ) (out₀ : List ℕ) where
  -- those from i on are put
  pub record Putting (out : List ℕ) (i : ℕ) : Type 0 where
    pub is : drop (start + i) out ≡ drop i bytes ++ drop at out₀
    pub long : length out ≡ length out₀

  pub putting_none : start + length bytes ≡ at → Putting out₀ (length bytes)
  putting_none e = record {
    is = ap (λ (k : ℕ). drop k out₀) e ∙ ap (λ (l : List ℕ). l ++ drop at out₀) (sym (drop-length bytes));
    long = refl;
  }

  pub putting_more : {out : List ℕ} {i : ℕ} → Putting out i → 0 < i → i ≤ length bytes → start + length bytes ≤ length out₀
      → Putting (set out (start + (i - 1)) (get_or bytes (i - 1) 0)) (i - 1)
  putting_more {out} {i} h z l w =
      let b = get_or bytes (i - 1) 0 in
      record {
        is =
            set_drop out (start + (i - 1)) b (omega (arith, h.long))
            ∙ ap (λ (k : ℕ). b ∷ drop k out) {x = suc (start + (i - 1))} {y = start + i} (omega arith)
            ∙ ap (λ (r : List ℕ). b ∷ r) h.is
            ∙ ap (λ (k : ℕ). b ∷ drop k bytes ++ drop at out₀) {x = i} {y = suc (i - 1)} (omega arith)
            ∙ sym (ap (λ (r : List ℕ). r ++ drop at out₀) (drop-cons bytes (i - 1) 0 (omega arith)));
        long = length-set out (start + (i - 1)) b ∙ h.long;
      }

-- ---- a formula before what is there
joined-some : (b l : List ℕ) → 0 < length l → joined b l ≡ byte_of (Opcode.pair false) ∷ (b ++ l)
joined-some b [] h = absurd (omega arith)
joined-some b (c ∷ cs) h = refl

module _ {bytes : List ℕ} {start at : ℕ} {out₀ out : List ℕ} (h : Putting bytes start at out₀ out 0)
    (short : length bytes ≤ 96) (there : start + length bytes ≡ at)
  where
    put : drop start out ≡ bytes ++ drop at out₀
    put = ap (λ (k : ℕ). drop k out) {x = start} {y = start + 0} (omega arith) ∙ h.is

    pub grown-first : at ≡ length out → Grown at (joined bytes (drop at out₀)) out₀ out start
    grown-first e =
        let none = drop_of_length-le out₀ {i = at} (omega (arith, h.long)) in
        record {
          is = put ∙ ap (λ (l : List ℕ). bytes ++ l) none ∙ append-nil bytes ∙ sym (ap (joined bytes) none);
          before = omega (arith, there);
          near = omega (arith, there, short);
          long = h.long;
        }

    pub grown-more : (at ≡ length out → ⊥) → at ≤ length out₀ → 97 ≤ at
        → Grown at (joined bytes (drop at out₀)) out₀ (set out (start - 1) 7) (start - 1)
    grown-more d l w = record {
      is =
          set_drop out (start - 1) 7 (omega (arith, h.long, there, short))
          ∙ ap (λ (k : ℕ). 7 ∷ drop k out) {x = suc (start - 1)} {y = start} (omega (arith, there, short))
          ∙ ap (λ (r : List ℕ). 7 ∷ r) put
          ∙ sym (joined-some bytes (drop at out₀) (omega (arith, length-drop at out₀, h.long)));
      before = omega (arith, there);
      near = omega (arith, there, short);
      long = length-set out (start - 1) 7 ∙ h.long;
    }

-- if it is taken
abbrev joined_if : Bool → List ℕ → List ℕ → List ℕ
joined_if taken b rest = cond taken (joined b rest) rest

pub grown_taken : {at : ℕ} {b h : List ℕ} {taken : Bool} {out out' : List ℕ} {r : ℕ} → taken ≡ true → b ≡ h
    → Grown at (joined b (drop at out)) out out' r → Grown at (joined_if taken h (drop at out)) out out' r
grown_taken {at} {b} {h} {taken} {out} {out'} {r} t e g =
    subst (λ (l : List ℕ). Grown at l out out' r)
    (ap (λ (c : List ℕ). joined c (drop at out)) e ∙ sym (ap (λ (x : Bool). joined_if x h (drop at out)) t)) g

pub grown_not : (at : ℕ) (h : List ℕ) {taken : Bool} (out : List ℕ) → taken ≡ false → Grown at (joined_if taken h (drop at out)) out out at
grown_not at h out t =
    record { is = sym (ap (λ (x : Bool). joined_if x h (drop at out)) t); before = omega arith; near = omega arith; long = refl }

-- ---- how long formulas are
-- each of several has 1 to 96 bytes
abbrev pub Sized : List (List ℕ) → Type 0
Sized [] = Unit {0}
Sized (b ∷ bs) = ((0 < length b) × (length b ≤ 96)) × Sized bs

pub accepted-sized : {bs : List (List ℕ)} {fs : List Formula} → Accepted bs fs → Sized bs
accepted-sized Accepted.none = tt
accepted-sized (Accepted.more {b = b} e a) = (accepted-length b e, accepted-sized a)

pub sized-at : (bs : List (List ℕ)) (i : ℕ) → Sized bs → i < length bs → length (get_or bs i []) ≤ 96
sized-at [] i s l = absurd (omega arith)
sized-at (b ∷ bs) zero s l = s.0.1
sized-at (b ∷ bs) (suc i) s l = sized-at bs i s.1 (omega arith)

sized-drop : (i : ℕ) (bs : List (List ℕ)) → Sized bs → Sized (drop i bs)
sized-drop zero bs s = s
sized-drop (suc i) [] s = tt
sized-drop (suc i) (b ∷ bs) s = sized-drop i bs s.1

pub sized-chosen : (t : Subset) (bs : List (List ℕ)) → Sized bs → Sized (chosen t bs)
sized-chosen [] bs s = tt
sized-chosen (x ∷ t) [] s = tt
sized-chosen (true ∷ t) (b ∷ bs) s = (s.0, sized-chosen t bs s.1)
sized-chosen (false ∷ t) (b ∷ bs) s = sized-chosen t bs s.1

-- ---- the conjunction of one more
conjoined-some : (b : List ℕ) (bs : List (List ℕ)) → 0 < length b → 0 < length (conjoined (b ∷ bs))
conjoined-some b [] h = h
conjoined-some b (c ∷ bs) h = omega arith

pub conjoined-none : (bs : List (List ℕ)) → Sized bs → length (conjoined bs) ≡ 0 → bs ≡ []
conjoined-none [] s e = refl
conjoined-none (b ∷ bs) s e = absurd (omega (arith, conjoined-some b bs s.0.0))

joined-conjoined : (b : List ℕ) (bs : List (List ℕ)) → Sized bs → joined b (conjoined bs) ≡ conjoined (b ∷ bs)
joined-conjoined b [] s = refl
joined-conjoined b (c ∷ bs) s = joined-some b (conjoined (c ∷ bs)) (conjoined-some c bs s.0.0)

chosen-nothing : {A : Type 0} (t : Subset) → chosen {A = A} t [] ≡ []
chosen-nothing [] = refl
chosen-nothing (b ∷ t) = refl

joined-chosen : (taken : Bool) (b : List ℕ) (bs : List (List ℕ)) → Sized bs
    → joined_if taken b (conjoined bs) ≡ conjoined (cond taken (b ∷ bs) bs)
joined-chosen true b bs s = joined-conjoined b bs s
joined-chosen false b bs s = refl

-- ---- from the last to the first
pub record Conjoining (t : Subset) (bs : List (List ℕ)) (out₀ out : List ℕ) (at i : ℕ) : Type 0 where
  pub is : drop at out ≡ conjoined (chosen (drop i t) (drop i bs))
  pub room : 97 * i ≤ at
  pub within : at ≤ length out
  pub below : i ≤ length bs
  pub long : length out ≡ length out₀

module _ (t : Subset) (bs : List (List ℕ)) (sized : Sized bs) (few : length bs ≤ length t) (out₀ : List ℕ) where
  pub conjoining_none : {i : ℕ} → i ≡ length bs → 97 * i ≤ length out₀ → Conjoining t bs out₀ out₀ (length out₀) i
  conjoining_none {i} e l = record {
    is =
        drop-length out₀
        ∙ sym (ap conjoined (ap (chosen (drop i t)) (drop_of_length-le bs {i = i} (omega arith)) ∙ chosen-nothing (drop i t)));
    room = l;
    within = omega arith;
    below = omega arith;
    long = refl;
  }

  -- the subset and the formulas from a position on
  chosen_cons : (j : ℕ) → j < length bs
      → chosen (drop j t) (drop j bs)
      ≡ cond (get_or t j false) (get_or bs j [] ∷ chosen (drop (suc j) t) (drop (suc j) bs)) (chosen (drop (suc j) t) (drop (suc j) bs))
  chosen_cons j l =
      ap (λ (s : Subset). chosen s (drop j bs)) (drop-cons t j false (omega arith))
      ∙ ap (chosen (get_or t j false ∷ drop (suc j) t)) (drop-cons bs j [] l)

  pub conjoining_more : {out out' : List ℕ} {at i r : ℕ} {x : List ℕ} → Conjoining t bs out₀ out at i → 0 < i → get_or bs (i - 1) [] ≡ x
      → Grown at (joined_if (get_or t (i - 1) false) x (drop at out)) out out' r
      → Conjoining t bs out₀ out' r (i - 1)
  conjoining_more {out} {out'} {at} {i} {r} h z q g = record {
    is =
        let rest = chosen (drop i t) (drop i bs) in
        let taken = get_or t (i - 1) false in
        let b = get_or bs (i - 1) [] in
        g.is ∙ sym (ap (λ (y : List ℕ). joined_if taken y (drop at out)) q) ∙ ap (joined_if taken b) h.is
        ∙ joined-chosen taken b rest (sized-chosen (drop i t) (drop i bs) (sized-drop i bs sized))
        ∙ ap (λ (k : ℕ). conjoined (cond taken (b ∷ chosen (drop k t) (drop k bs)) (chosen (drop k t) (drop k bs))))
        {x = i} {y = suc (i - 1)} (omega arith)
        ∙ sym (ap conjoined (chosen_cons (i - 1) (omega (arith, h.below))));
    room = omega (arith, h.room, g.near);
    within = omega (arith, h.within, g.before, g.long);
    below = omega (arith, h.below);
    long = g.long ∙ h.long;
  }

-- ---- what a buffer has then
-- from a place to the end
pub rest-is : (out : List ℕ) (at : ℕ) {n : ℕ} → length out ≡ n → take (n - at) (drop at out) ≡ drop at out
rest-is out at {n} e = take_all (n - at) (drop at out) (omega (arith, length-drop at out))

module _ {fs : List (List ℕ)} {out out' : List ℕ} {at : ℕ} (n : ℕ) (h : Conjoins fs out out' at) (long : length out ≡ n)
  where
    -- nothing, where no formula is taken
    pub conjoins_none : Sized fs → at ≡ n → fs ≡ []
    conjoins_none s e =
        conjoined-none fs s (sym (ap length h.is) ∙ omega (arith, length-drop at out', h.long))

    pub conjoins_some : (at ≡ n → ⊥) → fs ≡ [] → ⊥
    conjoins_some other e =
        other (omega (arith, ap length (h.is ∙ ap conjoined e), length-drop at out', h.within, h.long))
