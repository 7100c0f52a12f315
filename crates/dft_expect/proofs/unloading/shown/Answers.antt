-- A captured cell, or what entered the chain.
use Rattle.std.proofs.Common.{ℕ, ◌∙◌, ◌+◌, ◌-◌, ap, length, get_or, arith}
use Rattle.dft_config.proofs.Linearity.{delay_small}
use Rattle.dft_stitch.specs.Plans.{falling_head}
use Rattle.dft_expect.proofs.UnloadLemmas.{before, part_fits, chain_part, shown_cell, shown_later}
use Rattle.dft_expect.proofs.unloading.shown.Goals as goal

pub overflow_add-unload : goal.overflow_add-unload
overflow_add-unload c =
    let chains = c.args.unload.now.chains.now.chains in
    let at = ap (λ (n : ℕ). get_or c.args.unload.now.starts.now n 0) c.from-chain.ensures ∙ c.requires.starts.each c.args.chain c.requires.chain in
    omega (arith, at, part_fits chains c.args.chain c.chain-cells.result.now c.chain-cells.ensures, c.requires.values, c.requires.small)

pub bounds-unload-unload : goal.bounds-unload-unload
bounds-unload-unload c =
    let chains = c.args.unload.now.chains.now.chains in
    let at = ap (λ (n : ℕ). get_or c.args.unload.now.starts.now n 0) c.from-chain.ensures ∙ c.requires.starts.each c.args.chain c.requires.chain in
    omega (arith, at, part_fits chains c.args.chain c.chain-cells.result.now c.chain-cells.ensures, c.requires.values, c.if-cycle-cells.true)

pub overflow_add-moment : goal.overflow_add-moment
overflow_add-moment c = omega (arith, delay_small c.falling_head-late.result, c.delay.ensures, c.requires.cycle)

pub entering-requires-clause-cycle : goal.entering-requires-clause-cycle
entering-requires-clause-cycle c = omega (arith, delay_small c.falling_head-late.result, c.delay.ensures, c.requires.cycle)

pub returns-then-cycle-cells : goal.returns-then-cycle-cells
returns-then-cycle-cells c = λ table are.
    let u = c.args.unload.now in
    let chains = u.chains.now.chains in
    let at = ap (λ (n : ℕ). get_or u.starts.now n 0) c.from-chain.ensures ∙ c.requires.starts.each c.args.chain c.requires.chain in
    let fits = part_fits chains c.args.chain c.chain-cells.result.now c.chain-cells.ensures in
    shown_cell u.ring.now table (falling_head u.chains.now c.args.chain) c.args.chain (length c.chain-cells.result.now) (before chains c.args.chain) c.args.cycle _ u.values.now _ _ c.is_one.result
    (chain_part chains u.values.now c.args.chain c.chain-cells.result.now c.chain-cells.ensures) (omega (arith, fits, c.requires.values)) c.if-cycle-cells.true
    (ap (λ (n : ℕ). n + length c.chain-cells.result.now - 1 - c.args.cycle) at) c.is_one.ensures

pub returns-else-cycle-cells : goal.returns-else-cycle-cells
returns-else-cycle-cells c = λ table are.
    let u = c.args.unload.now in
    let chains = u.chains.now.chains in
    let fits = part_fits chains c.args.chain c.chain-cells.result.now c.chain-cells.ensures in
    let read = rw (c.from-chain.ensures, c.delay.ensures, c.falling_head-late.ensures) at c.entering.ensures in
    shown_later u.ring.now table (falling_head u.chains.now c.args.chain) c.args.chain (length c.chain-cells.result.now) (before chains c.args.chain) c.args.cycle (length u.states.now) u.values.now _ u.states.now c.entering.result
    (chain_part chains u.values.now c.args.chain c.chain-cells.result.now c.chain-cells.ensures) (omega (arith, fits, c.requires.values)) c.if-cycle-cells.false c.requires.cycle are read
