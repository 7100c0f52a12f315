-- One chain more.
use Rattle.std.proofs.Common.{◌∙◌, ap, length, List, Bool, ◌++◌}
use Rattle.dft_base.specs.Packed.{packed_bit}
use Rattle.dft_stitch.specs.Plans.{falling_head}
use Rattle.dft_expect.specs.Loaded.{table_of}
use Rattle.dft_expect.proofs.LoadedLemmas.{chain_brought, chain_fits, loading_goes_on}
use Rattle.dft_expect.proofs.loading.loaded.Goals as goal

pub loop-chain-preserved : goal.loop-chain-preserved
loop-chain-preserved c =
    let ring = c.args.config.now.ring in
    let table = table_of ring (packed_bit c.args.bits.now) in
    let are = rw (c.cycles.ensures, c.ring-ring.ensures) at c.in_ok-states.ensures in
    let more = rw (c.deref.ensures.value, c.from.ensures, c.falling_head-late.ensures, c.ring-ring.ensures) at c.in_ok-add_chain.ensures in
    let fits = chain_fits c.args.chains.now.cycles c.args.chains.now.chains c.loop-chain.chain c.chain-cells.result.now c.requires.cells c.chain-cells.ensures in
    let brings = chain_brought ring table c.args.chains.now.cycles (falling_head c.args.chains.now c.loop-chain.chain) c.loop-chain.chain (length c.chain-cells.result.now) c.in_ok-states.states.items are fits in
    loading_goes_on ring table c.args.chains.now.cycles (falling_head c.args.chains.now) c.args.chains.now.chains c.loop-chain.chain c.chain-cells.result.now c.loop-chain.loaded.items c.add_chain.new.loaded.items c.chain-cells.ensures c.loop-chain.invariant
    (more ∙ ap (λ (l : List Bool). c.loop-chain.loaded.items ++ l) brings)
