-- The laws of writing into a buffer. A text may be written in parts; the buffer keeps its length, and the place stays within it; and a
-- text that has room stands at the place whole, with the rest of the buffer as it was. Assumes nothing.
use Rattle.std.proofs.Common.{◌≡◌, refl, sym, ap, ◌∙◌, Bool, true, false, cond, List, [], ◌∷◌, ◌++◌}
use Rattle.std.proofs.Common.{ℕ, suc, ◌+◌, ◌≤◌, ◌<◌, add-one, arith, ltb, length, take, drop, set, length-set, get_or}
use Rattle.std.proofs.Common.{subst, lt-ltb, ltb-true}
use Rattle.std.proofs.lemmas.List.{take_more}
use Rattle.std.proofs.Math.Seq.{sets, take-append_seam}
use Rattle.std.proofs.lemmas.List.Edits.{sets-eq}
use Rattle.text.specs.Text.{Buffer, buffer, put, written, Wrote}

pub written-append : (s : Buffer) (a b : List ℕ) → written s (a ++ b) ≡ written (written s a) b
written-append s [] b = refl
written-append s (x ∷ a) b = written-append (put s x) a b

pub nothing : {s : Buffer} → Wrote s [] s
nothing = record { is = refl }

-- what was written in two parts
pub then : {s t u : Buffer} {a b : List ℕ} → Wrote s a t → Wrote t b u → Wrote s (a ++ b) u
then {s} {t} {u} {a} {b} p q = record { is = q.is ∙ ap (λ (t : Buffer). written t b) p.is ∙ sym (written-append s a b) }

-- one more byte of a text that is written byte by byte
pub one_byte_more : {s t u : Buffer} (text : List ℕ) (i : ℕ) → i < length text → Wrote s (take i text) t → Wrote t (get_or text i 0 ∷ []) u
    → Wrote s (take (i + 1) text) u
one_byte_more text i h p q = rw (take_more text i 0) (then p q)

-- What stays: the buffer's length, and that the place is within.
pub record BufferKept (s t : Buffer) : Type 0 where
  pub long : length t.bytes ≡ length s.bytes
  pub within : s.at ≤ length s.bytes → t.at ≤ length t.bytes

put-kept : (s : Buffer) (b : ℕ) → BufferKept s (put s b)
put-kept s b = by (ltb s.at (length s.bytes)) refl
  where
    by : (t : Bool) → ltb s.at (length s.bytes) ≡ t → BufferKept s (cond t (buffer (set s.bytes s.at b) (s.at + 1)) s)
    by true e =
        let h = ltb-true s.at (length s.bytes) e in
        record { long = length-set s.bytes s.at b; within = λ _. simp length-set (omega arith) }
    by false e = record { long = refl; within = λ w. w }

pub written-kept : (s : Buffer) (text : List ℕ) → BufferKept s (written s text)
written-kept s [] = record { long = refl; within = λ w. w }
written-kept s (b ∷ text) =
    let one = put-kept s b in
    let rest = written-kept (put s b) text in
    record { long = rest.long ∙ one.long; within = λ w. rest.within (one.within w) }

-- the place behind a text
pub place-within : {s t : Buffer} {text : List ℕ} → Wrote s text t → s.at ≤ length s.bytes → t.at ≤ length t.bytes
place-within {s} {t} {text} p h =
    let kept : BufferKept s t = subst (BufferKept s) (sym p.is) (written-kept s text) in
    kept.within h

written-sets : (text out : List ℕ) (at : ℕ) → at + length text ≤ length out → written (buffer out at) text ≡ buffer (sets out at text)
    (at + length text)
written-sets [] out at h = ap (buffer out) (omega arith)
written-sets (b ∷ text) out at h =
    let room : at < length out = omega arith in
    ap (λ (s : Buffer). written s text) (simp (lt-ltb at (length out) room))
    ∙ ap (λ (n : ℕ). written (buffer (set out at b) n) text) (add-one at)
    ∙ written-sets text (set out at b) (suc at) (simp length-set (omega arith))
    ∙ ap (buffer (sets out at (b ∷ text))) (omega arith)

-- a text that has room
pub whole : {t : Buffer} {text out : List ℕ} {at : ℕ} → Wrote (buffer out at) text t → at + length text ≤ length out
    → t ≡ buffer (take at out ++ text ++ drop (at + length text) out) (at + length text)
whole {t} {text} {out} {at} p h = p.is ∙ written-sets text out at h ∙ ap (λ (bytes : List ℕ). buffer bytes (at + length text))
    (sets-eq text out at h)

-- from the buffer's start on: the bytes in front of the place are the text
pub stands : {text out out' : List ℕ} {r : ℕ} → Wrote (buffer out 0) text (buffer out' r) → length text ≤ length out → take r out' ≡ text
stands {text} {out} {out'} {r} p h =
    let w = whole p (omega arith) in
    ap (λ (t : Buffer). take t.at t.bytes) w
    ∙ ap (λ (n : ℕ). take n (text ++ drop (0 + length text) out)) {x = 0 + length text} {y = length text} (omega arith)
    ∙ take-append_seam text (drop (0 + length text) out)
