-- `yuktrob_c::yuktrob_edit`: the answer becomes its number, and bytes and rows go where the caller lent room. Assumes nothing.
use Rattle.std.proofs.Common.{ap, ◌∙◌}
use Rattle.substitution.specs.declared.Substitution as result
use Rattle.yuktrob_c.specs.Numbers.{edit_number}
use Rattle.yuktrob_c.proofs.EditFit.{edit_fits}
use Rattle.yuktrob_c.proofs.yuktrob_edit.Goals as goal

pub edit_number-requires : goal.edit_number-requires
edit_number-requires c =
    edit_fits c.args.old.now c.args.e c.args.new.now c.substitute-r.ensures

pub returns : goal.returns
returns c =
    record {
      numbered = c.edit_number.ensures ∙ ap (λ (r : result.Substitution). edit_number r.table.count r.answer) c.substitute-r.ensures;
      spliced = ap (λ (r : result.Substitution). r.bytes) c.substitute-r.ensures;
      tabled = ap (λ (r : result.Substitution). r.table.rows) c.substitute-r.ensures;
    }
