-- `triples::same_triples` compares row by row.
use Rattle.std.proofs.Common.{refl, arith, rules}
use Rattle.std.proofs.lemmas.Iterator.{YieldsList-from_range, cases_from_all}
use Rattle.triples.specs.Inner.{SameRow}
use Rattle.triples.proofs.CellLaws.{rows_same}
use Rattle.triples.proofs.same_triples.Goals as goal

pub returns : goal.returns
returns c =
    let l = c.args.area.now in
    let t = c.args.t.now in
    let n = c.args.n in
    rows_same n l c.args.at t (λ i. search rules) (λ i. search rules) c.all.result
    (cases_from_all _ _ c.all.result (λ f. SameRow l c.args.at t f n) (λ f. SameRow l c.args.at t f n → ⊥) c.all.ensures.ran
    (YieldsList-from_range 0 n n refl (omega arith))
    (λ f q k. search rules)
    (λ f q k p. search rules))
