-- The heads of planned chains, as a list that was read from them.
use Rattle.std.proofs.Common.{ℕ, Bool, false, List, ◌≡◌, ◌<◌, ◌≤◌, ◌⊎◌, inl, inr, length, sym, arith, ◌∙◌}
use Rattle.std.proofs.lemmas.Bool.{cases_lt}
use Rattle.std.proofs.lemmas.List.{get_or_past, length-map}
use Rattle.dft_base.specs.Solutions.{bit_at}
use Rattle.dft_netlist.specs.Netlist.{Netlist}
use Rattle.dft_config.specs.Config.{Config}
use Rattle.dft_rules.specs.Rules.{judgements}
use Rattle.dft_stitch.specs.Chains.{begins_falling, plan_of}
use Rattle.dft_stitch.specs.Plans.{falling_head}

head_case : (n : Netlist) (config : Config) (heads : List Bool) (chain : ℕ) → length heads ≡ length (plan_of n config).chains →
    ((k : ℕ) → k < length (plan_of n config).chains → bit_at heads k ≡ falling_head (plan_of n config) k) → (chain < length (plan_of n config).chains) ⊎ (length (plan_of n config).chains ≤ chain) →
    bit_at heads chain ≡ falling_head (plan_of n config) chain
head_case n config heads chain count each (inl less) = each chain less
head_case n config heads chain count each (inr past) =
    let plan = plan_of n config in
    let own : length plan.heads ≡ length plan.chains = length-map plan.chains (begins_falling (judgements n config)) in
    get_or_past heads chain false (omega (arith, count, past)) ∙ sym (get_or_past plan.heads chain false (omega (arith, own, past)))

-- past the chains there are none
pub heads_same : (n : Netlist) (config : Config) (heads : List Bool) → length heads ≡ length (plan_of n config).chains →
    ((k : ℕ) → k < length (plan_of n config).chains → bit_at heads k ≡ falling_head (plan_of n config) k) → bit_at heads ≡ falling_head (plan_of n config)
heads_same n config heads count each = λ t. λ chain. head_case n config heads chain count each (cases_lt chain (length (plan_of n config).chains)) t
