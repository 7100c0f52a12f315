use Rattle.std.proofs.Common.{ℕ, ◌≡◌, ◌+◌, ◌*◌, List, sym, ap, subst, arith, ◌∙◌}
use Rattle.dft_base.specs.Packed.{packed_bit}
use Rattle.dft_lanes.proofs.Holds.{packed_bit-xor}
use Rattle.dft_lanes.proofs.Summed.{IsSummed, summed_block, summed_whole}
use Rattle.dft_lanes.proofs.row.xor_into.Goals as goal

pub loop-block-preserved : goal.loop-block-preserved
loop-block-preserved c =
    let old = c.args.target.now in
    let source = c.args.source.now in
    let next : c.loop-block.block * 8 + 8 ≡ (c.loop-block.block + 1) * 8 = omega arith in
    let AtWord : ℕ → Type 0 = λ n. IsSummed n old source c.xor_block.new.target in
    let OfRow : List ℕ → Type 0 = IsSummed (c.loop-block.block * 8 + 8) old source in
    subst AtWord next (subst OfRow (sym c.xor_block.ensures) (summed_block (c.loop-block.block * 8) old source c.loop-block.target c.requires (omega arith) c.loop-block.invariant))

pub returns-clause-words : goal.returns-clause-words
returns-clause-words c = summed_whole c.loop-word.word c.args.target.now c.args.source.now c.loop-word.target c.requires (omega arith) c.loop-word.invariant

pub returns-clause-bits : goal.returns-clause-bits
returns-clause-bits c = λ place.
    ap (λ (words : List ℕ). packed_bit words place)
    (summed_whole c.loop-word.word c.args.target.now c.args.source.now c.loop-word.target c.requires (omega arith) c.loop-word.invariant)
    ∙ packed_bit-xor c.args.target.now c.args.source.now place (sym c.requires)
