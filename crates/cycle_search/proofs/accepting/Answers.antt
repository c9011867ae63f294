-- `cycle_search::accepting` tests the profiles one after another: what is found in the range of their numbers is the first that passes.
use Rattle.std.proofs.Common.{◌≡◌, ℕ, Bool, true, false, rules}
use Rattle.std.proofs.lemmas.Iterator.{first_from_Range}
use Rattle.base.specs.Bits.{bit}
use Rattle.profile_search.specs.Stored.{record_of}
use Rattle.cycle_search.specs.Layers.{accepts}
use Rattle.cycle_search.proofs.AcceptingLaws.{first_of}
use Rattle.cycle_search.proofs.accepting.Goals as goal

pub returns : goal.returns
returns c =
    let test : ℕ → Bool = λ p. accepts (bit c.args.mask) c.args.store.n (record_of c.args.store c.args.area.now p) in
    first_of test _ _ c.find.result
    (first_from_Range _ _ _ _ (λ p. test p ≡ true) (λ p. test p ≡ false) c.find.ensures.ran
    (λ p q k. search rules) (λ p q k. (search rules, search rules)))
