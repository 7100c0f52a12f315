-- One list more is packed.
use Rattle.std.proofs.Common.{◌∙◌}
use Rattle.dft_logic.proofs.PackedLemmas.{pack_start, pack_more, pack_all}
use Rattle.dft_logic.proofs.packed.packed.Goals as goal

pub loop-list-init : goal.loop-list-init
loop-list-init c = pack_start _ _ _ c.in_ok-ends.ensures.items c.new-numbers.ensures.items

pub loop-list-preserved : goal.loop-list-preserved
loop-list-preserved c =
    pack_more c.args.lists.now c.loop-list.list-index c.loop-list.ends.items c.loop-list.numbers.items c.as_slice.result.now _ _ _ _ c.loop-list-test.true (c.as_slice.ensures ∙ c.list-item.is) c.loop-list.invariant
    c.in_ok-extend_from_slice.ensures.items c.in_ok-push.ensures.items (c.in_ok-word_of.ensures ∙ c.len.ensures ∙ c.extend_from_slice.new.self.ok.0)

pub invariant_of-result : goal.invariant_of-result
invariant_of-result c = c.loop-list.invariant.laid

pub returns : goal.returns
returns c = pack_all _ _ _ _ c.loop-list-test.false c.loop-list.invariant
