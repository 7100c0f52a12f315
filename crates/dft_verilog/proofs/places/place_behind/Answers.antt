use Rattle.std.proofs.Common.{◌+◌, arith, sym, ◌∙◌, get_or}
use Rattle.std.proofs.lemmas.List.{at_drop_more, at_drop_all}
use Rattle.dft_base.specs.Lexing.{place_after}
use Rattle.dft_base.proofs.PlaceLemmas.{IsBelow, next_place_below}
use Rattle.dft_verilog.proofs.places.place_behind.Goals as goal

pub loop-byte-preserved : goal.loop-byte-preserved
unfolding place_after
loop-byte-preserved c =
    let more = at_drop_more (place_after c.loop-byte.at) c.args.bytes.now c.loop-byte.byte-index 0 c.loop-byte-test.true in
    let below : IsBelow c.loop-byte.at ((c.args.passed + 1) + c.loop-byte.byte-index) = record { line = c.loop-byte.invariant.line; column = c.loop-byte.invariant.column } in
    let next = next_place_below c.loop-byte.at (get_or c.args.bytes.now c.loop-byte.byte-index 0) ((c.args.passed + 1) + c.loop-byte.byte-index) below in
    record {
      leads = rw c.next_place-at.ensures (sym more ∙ c.loop-byte.invariant.leads);
      line = rw c.next_place-at.ensures (omega (arith, next.line));
      column = rw c.next_place-at.ensures (omega (arith, next.column));
    }

pub returns : goal.returns
unfolding place_after
returns c = sym (at_drop_all (place_after c.loop-byte.at) c.args.bytes.now c.loop-byte.byte-index c.loop-byte-test.false) ∙ c.loop-byte.invariant.leads
