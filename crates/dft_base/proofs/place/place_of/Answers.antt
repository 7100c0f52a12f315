use Rattle.std.proofs.Common.{◌-◌, length, take, sym, ◌∙◌}
use Rattle.std.proofs.lemmas.List.{at_drop_more, at_drop_all}
use Rattle.dft_base.specs.Lexing.{place_after}
use Rattle.dft_base.proofs.PlaceLemmas.{next_place_below}
use Rattle.dft_base.proofs.place.place_of.Goals as goal

pub loop-byte-preserved : goal.loop-byte-preserved
unfolding place_after
loop-byte-preserved c =
    let front = take (length c.args.text.now - c.args.left) c.args.text.now in
    let more = at_drop_more (place_after c.loop-byte.place) front c.loop-byte.byte-index 0 c.loop-byte-test.true in
    record {
      leads = rw c.next_place-place.ensures (sym more ∙ c.loop-byte.invariant.leads);
      below = rw c.next_place-place.ensures (next_place_below _ _ _ c.loop-byte.invariant.below);
    }

pub returns : goal.returns
unfolding place_after
returns c =
    let front = take (length c.args.text.now - c.args.left) c.args.text.now in
    sym (at_drop_all (place_after c.loop-byte.place) front c.loop-byte.byte-index c.loop-byte-test.false) ∙ c.loop-byte.invariant.leads
