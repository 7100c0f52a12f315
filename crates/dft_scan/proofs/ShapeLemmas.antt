-- How large plans and judgements are.
use Rattle.std.proofs.Common.{◌≡◌, ℕ, zero, suc, ◌<◌, ◌≤◌, ◌^◌, List, [], ◌∷◌, length, Option, None, arith, get_or}
use Rattle.std.specs.List.{All, range_with_len}
use Rattle.std.proofs.lemmas.List.FromFn.{length-map-range_with_len, length-range_with_len}
use Rattle.dft_netlist.specs.declared.ids.InstanceId.{InstanceId}
use Rattle.dft_netlist.specs.Netlist.{Netlist}
use Rattle.dft_config.specs.Config.{Config}
use Rattle.dft_config.specs.Range.{IsInRange}
use Rattle.dft_rules.specs.declared.judged.Judged.{Judged}
use Rattle.dft_rules.specs.Rules.{judged, judgements}
use Rattle.dft_stitch.specs.Chains.{cells_of, chain_lengths, lockup_after, lockups_in, lockups_of, plan_of}
use Rattle.dft_stitch.specs.Limits.{refusal}
use Rattle.dft_stitch.proofs.BlockLemmas.{blocks_short, chain_count}
use Rattle.dft_stitch.proofs.PlanLemmas.{few_cells}
use Rattle.dft_scan.proofs.ListLemmas.{filter_shorter, flat_within}

-- there is a judgement for each instance
pub judgement_count : (n : Netlist) (config : Config) → length (judgements n config) ≡ length n.instances
judgement_count n config = length-map-range_with_len (judged n config) 0 (length n.instances)

-- no chain of a plan that is accepted is longer than all its cells may be
pub short_chains : (n : Netlist) (config : Config) → refusal n config ≡ None → All (λ (cells : List InstanceId). length cells ≤ 65536) (plan_of n config).chains
short_chains n config none =
    let few = few_cells config (length (cells_of n config)) none in
    blocks_short (chain_lengths (length (cells_of n config)) config.chains) (cells_of n config) 65536 (omega (arith, few))

pub few_chains : (n : Netlist) (config : Config) → IsInRange config → length (plan_of n config).chains ≤ 1024
few_chains n config range = let count = chain_count (cells_of n config) config.chains in omega (arith, count, range.chains.1)

-- a chain of these, or none
short_at : (chains : List (List InstanceId)) (chain : ℕ) → All (λ (cells : List InstanceId). length cells ≤ 65536) chains → length (get_or chains chain []) ≤ 65536
short_at [] chain all = omega arith
short_at (cells ∷ chains) zero all = all 0 [] (omega arith)
short_at (cells ∷ chains) (suc chain) all = short_at chains chain (λ k d less. all (suc k) d (omega arith))

pub few_lockups : (verdicts : List (Option Judged)) (chains : List (List InstanceId)) → length chains ≤ 1024 → All (λ (cells : List InstanceId). length cells ≤ 65536) chains → length (lockups_of verdicts chains) < 2 ^ 32
few_lockups verdicts chains few short =
    let each : (chain : ℕ) → length (lockups_in verdicts chains chain) ≤ 65536 = λ chain. (
    let cells : List InstanceId = get_or chains chain [] in
    let shorter = filter_shorter (lockup_after verdicts chain cells) (range_with_len 0 (length cells)) in
    let size = length-range_with_len 0 (length cells) in
    omega (arith, shorter, size, short_at chains chain short)) in
    let all = flat_within (lockups_in verdicts chains) 65536 0 (length chains) each in
    omega (arith, all)
