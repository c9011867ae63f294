-- `witness::write` counts the letters of the stem and of the cycle, and then writes them: the stem from the front, the cycle behind it.
use Rattle.std.proofs.Common.{refl, arith}
use Rattle.witness.proofs.WriteLaws.{stem_fits, cycle_fits, all-written}
use Rattle.witness.proofs.write.Goals as goal

pub write_stem-requires-clause-letters_fit : goal.write_stem-requires-clause-letters_fit
write_stem-requires-clause-letters_fit c =
    stem_fits c.requires c.header_of-e.ensures.first c.stem_length-stem.ensures c.length_of-cycle.ensures

pub write_chain-requires-clause-letters_fit : goal.write_chain-requires-clause-letters_fit
write_chain-requires-clause-letters_fit c =
    cycle_fits c.requires c.header_of-e.ensures.first c.stem_length-stem.ensures c.length_of-cycle.ensures (omega arith)

pub returns : goal.returns
returns c =
    all-written c.requires c.header_of-e.ensures.first c.stem_length-stem.ensures c.length_of-cycle.ensures refl
    c.write_stem.ensures c.write_chain.ensures
