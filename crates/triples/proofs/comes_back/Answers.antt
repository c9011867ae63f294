-- `triples::comes_back` takes row f through the laps until it has a priority of the mask at f, or a lap adds nothing to it, which all later
-- ones then do not either. The invariant: the laps left lead from the row to row f of the definition's laps. These hold all that the row
-- holds: if it has a priority of the mask at f, so have they. A row that a lap adds nothing to is row f of the laps.
use Rattle.std.proofs.Common.{sym, ◌∙◌, ◌+◌, ◌-◌, ◌*◌, Fits, w8, arith, rules}
use Rattle.triples.specs.Inner.{bytes}
use Rattle.triples.proofs.ByteLaws.{met-none, met_some, met_test}
use Rattle.triples.proofs.RowLaws.{square, row-start, row_more, row-still, row_end, row-answer, row-found}
use Rattle.triples.proofs.comes_back.Goals as goal

pub overflow_mul-end : goal.overflow_mul-end
overflow_mul-end c = omega (arith, square c.args.n (omega arith))

pub overflow_mul-end-2 : goal.overflow_mul-end-2
overflow_mul-end-2 c = omega (arith, square c.args.n (omega arith))

pub loop-init : goal.loop-init
loop-init c = (
  search rules,
  row-start c.args.n c.args.a.now c.args.f (omega arith) (omega arith) c.row_of-row.result (8 * (c.args.n * c.args.n) - 0) (omega arith)
      c.row_of-row.ensures,
)

pub returns-then-more-f-ne0 : goal.returns-then-more-f-ne0
returns-then-more-f-ne0 c =
    let left = 8 * (c.args.n * c.args.n) - c.loop.counter in
    row-found c.args.n c.args.a.now c.args.f (omega arith) (omega arith) c.joined_row-more.result c.args.mask (left - 1)
    (row_more c.args.n c.args.a.now c.args.f (omega arith) (omega arith) c.loop.row c.joined_row-more.result left (left - 1) (omega arith)
    c.loop.invariant.1 c.joined_row-more.ensures)
    (met_some (bytes c.joined_row-more.result c.args.f) c.args.mask (let e : Fits w8 c.args.mask = search rules in e.fits)
    c.if-more-f-ne0.true)

pub returns-then-same_bytes : goal.returns-then-same_bytes
returns-then-same_bytes c =
    let more = c.joined_row-more.result in
    sym (met-none (bytes more c.args.f) c.args.mask c.if-more-f-ne0.false)
    ∙ row-answer c.args.n c.args.a.now c.args.f (omega arith) (omega arith) more c.args.mask
    (row-still c.args.n c.args.a.now c.args.f (omega arith) (omega arith) c.loop.row more (8 * (c.args.n * c.args.n) - c.loop.counter)
    c.loop.invariant.1 c.joined_row-more.ensures (c.same_bytes.ensures.0 c.if-same_bytes.true))

pub loop-preserved : goal.loop-preserved
loop-preserved c = (
  search rules,
  row_more c.args.n c.args.a.now c.args.f (omega arith) (omega arith) c.loop.row c.joined_row-more.result
      (8 * (c.args.n * c.args.n) - c.loop.counter) (8 * (c.args.n * c.args.n) - (c.loop.counter + 1)) (omega arith)
      c.loop.invariant.1 c.joined_row-more.ensures,
)

pub returns : goal.returns
returns c =
    met_test (bytes c.loop.row c.args.f) c.args.mask (let e : Fits w8 c.args.mask = search rules in e.fits)
    ∙ row-answer c.args.n c.args.a.now c.args.f (omega arith) (omega arith) c.loop.row c.args.mask
    (row_end c.args.n c.args.a.now c.args.f (omega arith) (omega arith) c.loop.row (8 * (c.args.n * c.args.n) - c.loop.counter) (omega arith)
    c.loop.invariant.1)
