-- No planned chain is longer than a load.
use Rattle.std.proofs.Common.{ℕ, zero, suc, ◌+◌, ◌/◌, ◌%◌, ◌<◌, ◌≤◌, ◌≡◌, Bool, true, false, cond, List, [], ◌∷◌, length, take, drop, Some, option_map, slice_get, refl, ap, arith, ◌∙◌, ◌*◌}
use Rattle.std.specs.Prelude.{nat_lt}
use Rattle.std.specs.List.{range_with_len}
use Rattle.std.proofs.lemmas.Bool.Decides.{nat_tests}
use Rattle.std.proofs.lemmas.List.{length-take}
use Rattle.std.proofs.lemmas.Option.{none-some, same_Some, slice_get-map, slice_get_within}
use Rattle.std.proofs.lemmas.Nat.{le-div}
use Rattle.dft_base.proofs.ListLemmas.{get_range}
use Rattle.dft_netlist.specs.declared.ids.InstanceId.{InstanceId}
use Rattle.dft_config.specs.Cycles.{part_length, longest_segment}
use Rattle.dft_stitch.specs.Chains.{blocks, chain_lengths, cells_of, plan_of}
use Rattle.dft_stitch.proofs.BlockLemmas.{chain_count}
use Rattle.dft_netlist.specs.Netlist.{Netlist}
use Rattle.dft_config.specs.Config.{Config}
use Rattle.dft_config.specs.Range.{IsInRange}

-- ---- a block is as long as asked, at most

block_most : {T : Type 0} (lengths : List ℕ) (items : List T) (k l : ℕ) (block : List T) → slice_get (blocks lengths items) k ≡ Some block → slice_get lengths k ≡ Some l → length block ≤ l
block_most [] items k l block at is = absurd (none-some l is)
block_most {T = T} (x ∷ lengths) items zero l block at is =
    let long = length-take x items in
    let same : length (take x items) ≡ length block = ap (λ (xs : List T). length xs) (same_Some (take x items) block at) in
    let end : x ≡ l = same_Some x l is in
    omega (arith, long, same, end)
block_most (x ∷ lengths) items (suc k) l block at is = block_most lengths (drop x items) k l block at is

longest_by : (each r k : ℕ) (t u : Bool) → nat_lt k r ≡ t → nat_lt 0 r ≡ u → each + cond t 1 0 ≤ each + cond u 1 0
longest_by each r k true true is its = omega arith
longest_by each r k false true is its = omega arith
longest_by each r k false false is its = omega arith
longest_by each r k true false is its = absurd (let less : k < r = grind (arith, nat_tests, is) in let none : r ≤ 0 = grind (arith, nat_tests, its) in omega (arith, less, none))

pub chains_fit : (n : Netlist) (config : Config) (chain : ℕ) (cells : List InstanceId) → IsInRange config → slice_get (plan_of n config).chains chain ≡ Some cells → length cells ≤ (plan_of n config).cycles
chains_fit n config chain cells range at =
    let all : ℕ = length (cells_of n config) in
    let count = chain_count (cells_of n config) config.chains in
    let less : chain < config.chains = (let inside = slice_get_within (plan_of n config).chains chain cells at in omega (arith, inside, count)) in
    let its : slice_get (chain_lengths all config.chains) chain ≡ Some (part_length all config.chains chain) =
    slice_get-map (part_length all config.chains) (range_with_len 0 config.chains) chain ∙ ap (option_map (part_length all config.chains)) (get_range 0 config.chains chain less ∙ ap Some (let e : 0 + chain ≡ chain = omega arith in e)) in
    let most = block_most (chain_lengths all config.chains) (cells_of n config) chain (part_length all config.chains chain) cells at its in
    let longest = longest_by (all / config.chains) (all % config.chains) chain (nat_lt chain (all % config.chains)) (nat_lt 0 (all % config.chains)) refl refl in
    omega (arith, most, longest)

pub some_cycle : (n : Netlist) (config : Config) → IsInRange config → 1 ≤ (plan_of n config).cycles
some_cycle n config range =
    let masks : ℕ = config.compactor.mask_inputs in
    let some : 0 < masks = (let least = range.compactor.mask_inputs.0 in omega (arith, least)) in
    let fits : 1 * masks ≤ config.chains = (let most = range.compactor.mask_inputs.2 in omega (arith, most)) in
    let one : 1 ≤ config.chains / masks = le-div 1 config.chains masks some fits in
    let longest : 1 ≤ longest_segment config = omega (arith, one) in
    omega (arith, longest)
