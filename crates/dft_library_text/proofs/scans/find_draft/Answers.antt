-- The middle cell has the name, or all cells on one side of it have not.
use Rattle.std.proofs.Common.{◌+◌, ◌-◌, ◌/◌, ◌<◌, length, sym, ◌∙◌, arith}
use Rattle.dft_library_text.proofs.Halving.{before_middle, after_middle, found_at, none_found}
use Rattle.dft_library_text.proofs.scans.find_draft.Goals as goal

pub loop-low-preserved-in-Less : goal.loop-low-preserved-in-Less
loop-low-preserved-in-Less c =
    let middle = c.loop-low.low + (c.loop-low.high - c.loop-low.low) / 2 in
    let within : middle < length c.args.drafts.now = omega arith in
    let less = rw c.as_slice.ensures.bytes at (sym c.cmp.ensures ∙ c.in-Less.is) in
    record {
      order = omega arith;
      within = c.loop-low.invariant.within;
      before = before_middle c.args.drafts.now c.requires.ascend c.args.name.now middle c.index-drafts-middle.result within less;
      after = c.loop-low.invariant.after;
    }

pub loop-low-preserved : goal.loop-low-preserved
loop-low-preserved c =
    let middle = c.loop-low.low + (c.loop-low.high - c.loop-low.low) / 2 in
    let within : middle < length c.args.drafts.now = omega arith in
    let greater = rw c.as_slice.ensures.bytes at (sym c.cmp.ensures ∙ c.in-Greater.is) in
    record {
      order = omega arith;
      within = omega arith;
      before = c.loop-low.invariant.before;
      after = after_middle c.args.drafts.now c.requires.ascend c.args.name.now middle c.index-drafts-middle.result within greater;
    }

pub returns-in-Equal : goal.returns-in-Equal
returns-in-Equal c =
    let middle = c.loop-low.low + (c.loop-low.high - c.loop-low.low) / 2 in
    let within : middle < length c.args.drafts.now = omega arith in
    let equal = rw c.as_slice.ensures.bytes at (sym c.cmp.ensures ∙ c.in-Equal.is) in
    sym (found_at c.args.drafts.now middle c.index-drafts-middle.result c.args.name.now c.requires.ascend within equal)

pub returns : goal.returns
returns c =
    sym (none_found c.args.drafts.now c.args.name.now c.loop-low.low c.loop-low.high c.loop-low-test.false c.loop-low.invariant.before c.loop-low.invariant.after)
