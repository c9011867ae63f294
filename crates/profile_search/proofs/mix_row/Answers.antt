-- `profile_search::mix_row` takes a row of bytes into a hash. The invariant: the first g are in their sum.
use Rattle.std.proofs.Common.{◌≡◌, ℕ, ◌+◌, ◌*◌, ◌%◌, ◌^◌, ◌≤◌, ◌<◌, Bool, List, length, get_or, refl, ap, ◌∙◌, arith, add-one, pow-suc}
use Rattle.std.proofs.Math.Nat.{pow-zero, pow-le-pow_right}
use mathlib.Core.List.{foldl}
use Rattle.base.specs.Bits.{bit, word}
use Rattle.base.proofs.NumberLaws.{values_length}
use Rattle.base.proofs.WordLaws.{word_lt}
use Rattle.profile_search.specs.Stored.{bits_of, row_of, mixed}
use Rattle.profile_search.proofs.BucketLaws.{fold_more}
use Rattle.profile_search.proofs.mix_row.Goals as goal

-- for twelve bytes that is below 2^42
low : (sum g : ℕ) → g ≤ 12 → sum + 37 ≤ 37 * 8 ^ g → sum < 4398046511104
low sum g h k = omega (arith, pow-le-pow_right {n = 8} (omega arith) {i = g} {j = 12} h)

longer : (sum g : ℕ) (x : List Bool) {r : ℕ} → length x ≡ 8 → r ≡ mixed sum x → sum + 37 ≤ 37 * 8 ^ g → r + 37 ≤ 37 * 8 ^ (g + 1)
longer sum g x {r} e q k =
    let byte : word x < 256 = omega (arith, word_lt x, ap (λ (n : ℕ). 2 ^ n) e) in
    let more : 8 ^ (g + 1) ≡ 8 ^ g * 8 = ap (λ (n : ℕ). 8 ^ n) (add-one g) ∙ pow-suc 8 g in
    omega arith

pub loop-g-init : goal.loop-g-init
loop-g-init c = record { small = omega (arith, pow-zero 8); sum_is = refl }

pub mix-sum-requires : goal.mix-sum-requires
mix-sum-requires c = low c.loop-g.sum c.loop-g.g (omega (arith, c.requires.0)) c.loop-g.invariant.small

pub loop-g-preserved : goal.loop-g-preserved
loop-g-preserved c =
    let x = bits_of (get_or c.args.t.now (c.args.f * 12 + c.loop-g.g) 0) in
    record {
      small = longer c.loop-g.sum c.loop-g.g x (values_length (bit (get_or c.args.t.now (c.args.f * 12 + c.loop-g.g) 0)) 0 8)
          c.mix-sum.ensures
          c.loop-g.invariant.small;
      sum_is = fold_more mixed 0 (λ j. bits_of (get_or c.args.t.now (c.args.f * 12 + j) 0)) c.loop-g.g c.loop-g.invariant.sum_is
          c.mix-sum.ensures;
    }

pub overflow_add-result : goal.overflow_add-result
overflow_add-result c =
    let few = low c.loop-g.sum c.loop-g.g (omega (arith, c.requires.0)) c.loop-g.invariant.small in
    omega (arith, c.requires.1.1)

pub returns : goal.returns
returns c =
    let all : c.loop-g.g ≡ c.args.n = omega arith in
    let sum_is = c.loop-g.invariant.sum_is ∙ ap (λ (k : ℕ). foldl mixed 0 (row_of c.args.t.now k c.args.f)) all in
    (omega arith, ap (λ (sum : ℕ). (c.args.h + sum) % 4294967296 * 2654435761 % 4294967296) sum_is)
