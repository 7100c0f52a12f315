-- A name more, or one that was there before.
use Rattle.std.proofs.Common.{sym, ◌∙◌}
use Rattle.dft_library_text.proofs.Differing.{seen_grows, differ_grows, repeated}
use Rattle.dft_library_text.proofs.draft.all_differ.Goals as goal

pub loop-pin-preserved : goal.loop-pin-preserved
loop-pin-preserved c =
    let items = c.in_ok-name.ensures.items ∙ c.as_slice.ensures.bytes in
    let pins = c.args.pins.now in
    record {
      keys = seen_grows c.loop-pin.names.keys c.in_ok-name.name pins c.loop-pin.pin-index c.pin-item.result c.in_ok-insert.field-0 c.loop-pin-test.true c.pin-item.is items c.in_ok-insert.ensures.added c.loop-pin.invariant.keys
          c.insert.new.self.keys c.in_ok-insert.ensures.keys;
      differ = differ_grows c.loop-pin.names.keys c.in_ok-name.name pins c.loop-pin.pin-index c.pin-item.result c.in_ok-insert.field-0 c.loop-pin-test.true c.pin-item.is items c.in_ok-insert.ensures.added c.loop-pin.invariant.keys
          c.if-not-branch.false c.loop-pin.invariant.differ;
    }

pub returns-then-not-branch : goal.returns-then-not-branch
returns-then-not-branch c =
    let items = c.in_ok-name.ensures.items ∙ c.as_slice.ensures.bytes in
    sym (repeated c.loop-pin.names.keys c.in_ok-name.name c.args.pins.now c.loop-pin.pin-index c.pin-item.result c.in_ok-insert.field-0 c.loop-pin-test.true c.pin-item.is items c.in_ok-insert.ensures.added c.loop-pin.invariant.keys
    c.if-not-branch.true)
