-- The bytes that reading goes through. From where a formula begins to where reading has come behind it stand the bytes that spell the
-- formula, and the place grows by as many; so an accepted input is the formula's spelling. Assumes nothing.
use Rattle.std.proofs.Common.{◌≡◌, refl, sym, ap, ◌∙◌, List, [], ◌∷◌, ◌++◌, append_assoc, append-nil, ℕ, zero, suc, ◌+◌, arith, T, length}
use Rattle.std.proofs.Common.{length-append}
use Rattle.formula.specs.Formula.{Formula}
use Rattle.formula.specs.Reading.{Opcode, opcode, byte_of, known, Head, Scope, Reading, parse}
use Rattle.formula.specs.Ways.{spelled}
use Rattle.formula.proofs.Commands.{behind, counted_is}
use Rattle.formula.proofs.Derivation.{Byte, Begins, Reads, parse-reads}

-- reading went from h to k, past these bytes
pub record Went (h : Head) (bytes : List ℕ) (k : Head) : Type 0 where
  pub left : h.left ≡ bytes ++ k.left
  pub at : k.at ≡ h.at + length bytes

pub went_on : {h j k : Head} {a b : List ℕ} → Went h a j → Went j b k → Went h (a ++ b) k
went_on {k = k} {a = a} {b = b} p q = record {
  left = p.left ∙ ap (◌++◌ a) q.left ∙ sym (append_assoc a b k.left);
  at = omega (arith, p.at, q.at, length-append a b);
}

-- the byte of a known opcode
known-byte : (b : ℕ) → T (known (opcode b)) → b ≡ byte_of (opcode b)
known-byte zero h = absurd h
known-byte (suc zero) h = refl
known-byte (suc (suc zero)) h = refl
known-byte (suc (suc (suc zero))) h = refl
known-byte (suc (suc (suc (suc zero)))) h = refl
known-byte (suc (suc (suc (suc (suc zero))))) h = refl
known-byte (suc (suc (suc (suc (suc (suc zero)))))) h = refl
known-byte (suc (suc (suc (suc (suc (suc (suc zero))))))) h = refl
known-byte (suc (suc (suc (suc (suc (suc (suc (suc zero)))))))) h = refl
known-byte (suc (suc (suc (suc (suc (suc (suc (suc (suc zero))))))))) h = refl
known-byte (suc (suc (suc (suc (suc (suc (suc (suc (suc (suc zero)))))))))) h = refl
known-byte (suc (suc (suc (suc (suc (suc (suc (suc (suc (suc (suc n))))))))))) h = absurd h

pub begins_went : {op : Opcode} {h k : Head} → Begins op h k → Went h (byte_of op ∷ []) k
begins_went {op} {h} {k} b =
    let moved = b.moved ∙ counted_is op (behind h b.rest) in
    let byte : b.byte ≡ byte_of op = known-byte b.byte (rw b.is b.known) ∙ ap byte_of b.is in
    record {
      left = b.left ∙ (λ i. byte i ∷ b.rest) ∙ ap (λ (x : Head). byte_of op ∷ x.left) (sym moved);
      at = ap (λ (x : Head). x.at) moved;
    }

pub byte_went : {b : ℕ} {h k : Head} → Byte b h k → Went h (b ∷ []) k
byte_went {b} y = record {
  left = y.left ∙ ap (λ (x : Head). b ∷ x.left) (sym y.moved);
  at = ap (λ (x : Head). x.at) y.moved;
}

pub reads_went : {scope : Scope} {h k : Head} (f : Formula) → Reads scope h f k → Went h (spelled f) k
reads_went f (Reads.constant b) = begins_went b
reads_went f (Reads.signal b s i) = went_on (begins_went b) (byte_went s)
reads_went f (Reads.variable b d i g) = went_on (begins_went b) (byte_went d)
reads_went f (Reads.pair {a = x} {b = y} b p q) = went_on (begins_went b) (went_on (reads_went x p) (reads_went y q))
reads_went f (Reads.next {a = x} b p) = went_on (begins_went b) (reads_went x p)
reads_went f (Reads.fix {a = x} b p) = went_on (begins_went b) (reads_went x p)

-- MEANING 1.1 and 1.5: what is accepted is spelled by all of its bytes
pub parse-spelled : (bytes : List ℕ) (f : Formula) → parse bytes ≡ Reading.accepted f → bytes ≡ spelled f
parse-spelled bytes f e =
    let r = parse-reads bytes f e in
    (reads_went f r.1).left ∙ ap (◌++◌ (spelled f)) r.2 ∙ append-nil (spelled f)
