-- `catalogue::next_record`: each return is one outcome of `record_at`, by the answers that lead to it. Assumes nothing.
use mathlib.Core.Path.{sym}
use native.Mathlib.Omega.{arith}
use Rattle.catalogue.proofs.RecordLaws.{at_end, at-unmarked, at-unrisen, at-cut_short, as_whole}
use Rattle.catalogue.proofs.next_record.Goals as goal

pub returns-then-length-at : goal.returns-then-length-at
returns-then-length-at c =
    record { is = sym (at_end c.args.catalogue.now c.args.at c.args.least c.if-length-at.true); small = tt }

pub returns-then-catalogue-at-ne-MARK : goal.returns-then-catalogue-at-ne-MARK
returns-then-catalogue-at-ne-MARK c =
    record {
      is = sym (at-unmarked c.args.catalogue.now c.args.at c.args.least c.if-length-at.false c.if-catalogue-at-ne-MARK.true);
      small = tt;
    }

pub returns-then-length-at-lt3 : goal.returns-then-length-at-lt3
returns-then-length-at-lt3 c =
    record {
      is = sym (at-cut_short c.args.catalogue.now c.args.at c.args.least c.if-length-at.false c.if-catalogue-at-ne-MARK.false
          (λ h. absurd (omega arith)) (omega arith));
      small = tt;
    }

pub returns-then-number-least : goal.returns-then-number-least
returns-then-number-least c =
    record {
      is = sym (at-unrisen c.args.catalogue.now c.args.at c.args.least c.if-catalogue-at-ne-MARK.false (omega arith)
          (omega (arith, c.number_at-number.ensures.0)));
      small = tt;
    }

pub returns-then-length-at-lt4 : goal.returns-then-length-at-lt4
returns-then-length-at-lt4 c =
    record {
      is = sym (at-cut_short c.args.catalogue.now c.args.at c.args.least c.if-length-at.false c.if-catalogue-at-ne-MARK.false
          (λ h. omega (arith, c.number_at-number.ensures.0)) (omega arith));
      small = tt;
    }

pub returns-then-length-start : goal.returns-then-length-start
returns-then-length-start c =
    record {
      is = sym (at-cut_short c.args.catalogue.now c.args.at c.args.least c.if-length-at.false c.if-catalogue-at-ne-MARK.false
          (λ h. omega (arith, c.number_at-number.ensures.0)) (omega (arith, c.from-size.ensures)));
      small = tt;
    }

pub returns : goal.returns
returns c =
    record {
      is = as_whole c.args.catalogue.now c.args.at c.args.least c.number_at-number.ensures.0 c.from-size.ensures
          c.if-catalogue-at-ne-MARK.false c.if-number-least.false (omega (arith, c.from-size.ensures));
      small = c.number_at-number.ensures.1;
    }
