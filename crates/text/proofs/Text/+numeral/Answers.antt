-- `Text::numeral` meets its contract: the digits in front are those of the quotient, which with its width is less; then the last digit
-- is put. Assumes nothing.
use Rattle.std.proofs.Common.{sym, ap, ◌∙◌}
use Rattle.text.proofs.Numerals.{writes_one, writes_more, shrinks, digit_value}
use Rattle.text.proofs.Text.+numeral.Goals as goal
use Rattle.text.proofs.Text.+numeral.Goals.{then-not-is_last, else-not-is_last}

pub numeral-requires : goal.numeral-requires
numeral-requires t c =
    let more = sym c.is_last.ensures ∙ c.if-not-is_last.true in
    (shrinks _ c.requires.some _ _ more c.saturating_sub.ensures c.decreases, c.requires)

pub glyph-requires : goal.glyph-requires
glyph-requires t c = digit_value _ c.requires

pub returns-clause-same_buffer : goal.returns-clause-same_buffer
returns-clause-same_buffer t c =
    elim c.if-not-is_last.branch [
      | then-not-is_last w ↦ c.put.ensures.same_buffer ∙ ap (λ s. s.bytes.ghost_name) w.self-is ∙ w.numeral.ensures.same_buffer
      | else-not-is_last w ↦ c.put.ensures.same_buffer ∙ ap (λ s. s.bytes.ghost_name) w.self-is
    ]

pub returns-clause-wrote : goal.returns-clause-wrote
returns-clause-wrote t c =
    elim c.if-not-is_last.branch [
      | then-not-is_last w ↦
          writes_more _ c.requires.some c.args.width _ c.glyph.ensures (sym c.is_last.ensures ∙ w.if-not-is_last.true)
          w.saturating_sub.ensures w.numeral.ensures.wrote (rw w.self-is at c.put.ensures.wrote)
      | else-not-is_last w ↦
          writes_one _ c.requires.some c.args.width _ c.glyph.ensures (sym c.is_last.ensures ∙ w.if-not-is_last.false)
          (rw w.self-is at c.put.ensures.wrote)
    ]
