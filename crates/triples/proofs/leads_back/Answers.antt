-- `triples::leads_back` looks for a priority of the mask on the diagonal.
use Rattle.std.proofs.Common.{ℕ, ◌+◌, ◌*◌, Bool, not, refl, sym, ◌∙◌, bit_and, Fits, w8, arith, rules}
use Rattle.std.proofs.Math.Dec.{eqb}
use Rattle.std.proofs.lemmas.Iterator.{YieldsList-from_range}
use Rattle.std.proofs.lemmas.Iterator.Search.{any_from_yields_List}
use Rattle.profile_tables.proofs.TriplesLaws.{some_same}
use Rattle.triples.specs.Inner.{bytes}
use Rattle.triples.proofs.ByteLaws.{met_test}
use Rattle.triples.proofs.CellLaws.{any-range, diagonal, back_diagonal}
use Rattle.triples.proofs.leads_back.Goals as goal

pub returns : goal.returns
returns c =
    let a = c.args.a.now in
    let mask = c.args.mask in
    let test : ℕ → Bool = λ f. not (eqb (bit_and (bytes a (f * 12 + f)) mask) 0) in
    any_from_yields_List test _ _ c.any.result c.any.ensures.ran (YieldsList-from_range 0 c.args.n c.args.n refl (omega arith))
    (λ f b q k. search rules)
    ∙ any-range c.args.n test
    ∙ some_same c.args.n test (diagonal a mask)
    (λ f h. met_test (bytes a (f * 12 + f)) mask (let e : Fits w8 mask = search rules in e.fits))
    ∙ sym (back_diagonal c.args.n mask a)
