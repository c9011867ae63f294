-- `triples::same_row` compares two parts of slices: row f at a place of the area, and row f of t.
use Rattle.std.proofs.Common.{ℕ, ◌+◌, ◌*◌, get_or, ap, ◌∙◌, arith}
use Rattle.triples.proofs.CellLaws.{parts_same}
use Rattle.triples.proofs.same_row.Goals as goal

pub returns : goal.returns
returns c =
    let l = c.args.area.now in
    let at = c.args.at in
    let from = c.args.f * 12 in
    let same = parts_same l c.args.t.now (at + from) from c.args.n (omega arith) (omega arith) _ c.eq.ensures in (
      λ e g h. ap (λ (i : ℕ). get_or l i 0) {x = at + (from + g)} {y = at + from + g} (omega arith) ∙ same.0 e g h,
      λ p. same.1 (λ g h. ap (λ (i : ℕ). get_or l i 0) {x = at + from + g} {y = at + (from + g)} (omega arith) ∙ p g h),
    )
