-- A lasso's sets of positions are lists; in the theory they are functions. Here is what it means that the two agree, and that each
-- operation on lists by which truth is defined agrees with the one on functions. Assumes nothing.
use mathlib.Core.Path.{◌≡◌, refl, sym, ap, ap₂, ◌∙◌, subst}
use mathlib.Core.Bool.{Bool, true, false, cond}
use mathlib.Core.List.{List, [], ◌∷◌, ◌++◌, map}
use Prim.Native.Nat.{ℕ, zero, suc, ◌-◌, ◌<◌}
use native.Mathlib.Omega.{arith}
use lib.ListN.{length, get_or, length-append, length-map, get_or-append}
use lib.Seq.{get_or_at}
use lib.Dec.{ltb}
use borrow.Author.Tests.{ltb-true, ltb-false}
use Rattle.base.specs.Lists.{iterate, tail}
use Rattle.base.proofs.ListLaws.{get_d_map, iterate_suc}
use Rattle.lasso.specs.Lasso.{Lasso, Positions, joined, combine, before}
use Rattle.theory.proofs.Semantics.{LassoPositions, PositionSet, approximant}

abbrev pub successor : ℕ → ℕ → ℕ → ℕ
successor stem total i = cond (ltb (suc i) total) (suc i) stem

pub successor_lt : (stem total : ℕ) → stem < total → (i : ℕ) → i < total → successor stem total i < total
successor_lt stem total h i l = by (ltb (suc i) total) refl
  where
    by : (b : Bool) → ltb (suc i) total ≡ b → cond b (suc i) stem < total
    by true e = ltb-true (suc i) total e
    by false e = h

abbrev pub orbit : (c : Lasso) → c.stem < length c.letters → LassoPositions
orbit c h =
    record {
      count = length c.letters;
      after = successor c.stem (length c.letters);
      after_lt = successor_lt c.stem (length c.letters) h;
      letter = λ i. get_or c.letters i 0;
    }

pub record Agree (n : ℕ) (s : PositionSet) (l : Positions) : Type 0 where
  pub long : length l ≡ n
  pub same : (i : ℕ) → i < n → s i ≡ get_or l i false

pub agree_map : (q : ℕ → Bool) (ns : List ℕ) → Agree (length ns) (λ i. q (get_or ns i 0)) (map q ns)
agree_map q ns = record { long = length-map ns q; same = λ i h. sym (get_d_map q ns i 0 false h) }

pub agree_combine : (o : Bool) (n : ℕ) (u v : PositionSet) (s t : Positions) → Agree n u s → Agree n v t
    → Agree n (λ i. joined o (u i) (v i)) (combine o s t)
agree_combine o n u v s t a b =
    record {
      long = long s t (a.long ∙ sym b.long) ∙ a.long;
      same = λ i l. ap₂ (joined o) (a.same i l) (b.same i l) ∙ at s t i (omega (arith, a.long)) (omega (arith, b.long));
    }
  where
    long : (s t : Positions) → length s ≡ length t → length (combine o s t) ≡ length s
    long [] t e = refl
    long (x ∷ s) [] e = absurd (omega arith)
    long (x ∷ s) (y ∷ t) e = ap suc (long s t (omega arith))

    at : (s t : Positions) (i : ℕ) → i < length s → i < length t → joined o (get_or s i false) (get_or t i false) ≡ get_or
        (combine o s t) i false
    at [] t i l k = absurd (omega arith)
    at (x ∷ s) [] i l k = absurd (omega arith)
    at (x ∷ s) (y ∷ t) zero l k = refl
    at (x ∷ s) (y ∷ t) (suc i) l k = at s t i (omega arith) (omega arith)

pub agree_before : (stem n : ℕ) → stem < n → (u : PositionSet) (s : Positions) → Agree n u s
    → Agree n (λ i. u (successor stem n i)) (before stem s)
agree_before stem n h u s a =
    record {
      long = length-append (tail s) (get_or s stem false ∷ []) ∙ omega (arith, tail-length s, a.long);
      same = λ i l. by i l (ltb (suc i) n) refl;
    }
  where
    tail-length : (s : Positions) → length (tail s) ≡ length s - 1
    tail-length [] = refl
    tail-length (b ∷ s) = omega arith

    tail_at : (s : Positions) (i : ℕ) → get_or (tail s) i false ≡ get_or s (suc i) false
    tail_at [] i = refl
    tail_at (b ∷ s) i = refl

    by : (i : ℕ) → i < n → (b : Bool) → ltb (suc i) n ≡ b → u (cond b (suc i) stem) ≡ get_or (tail s ++ (get_or s stem false ∷ [])) i false
    by i l true e =
        let g = ltb-true (suc i) n e in
        a.same (suc i) g ∙ sym (tail_at s i)
        ∙ sym (get_or-append (tail s) (get_or s stem false ∷ []) false i (omega (arith, tail-length s, a.long)))
    by i l false e =
        let g = ltb-false (suc i) n e in
        a.same stem h ∙ sym (get_or_at (tail s) (get_or s stem false) [] false i (omega (arith, tail-length s, a.long)))

pub agree_rounds : (n k : ℕ) (f : PositionSet → PositionSet) (g : Positions → Positions)
    → ((u : PositionSet) (s : Positions) → Agree n u s → Agree n (f u) (g s))
    → (u : PositionSet) (s : Positions) → Agree n u s → Agree n (approximant k f u) (iterate k g s)
unfolding approximant
agree_rounds n zero f g h u s a = a
agree_rounds n (suc k) f g h u s a =
    subst (Agree n (f (approximant k f u))) (sym (iterate_suc k g s))
    (h (approximant k f u) (iterate k g s) (agree_rounds n k f g h u s a))
