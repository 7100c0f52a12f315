-- Each planned chain of a design that the rules pass has a cell.
use Rattle.std.proofs.Common.{ℕ, zero, suc, ◌+◌, ◌*◌, ◌/◌, ◌%◌, ◌<◌, ◌≤◌, ◌≡◌, Bool, true, false, cond, List, [], ◌∷◌, ◌++◌, length, map, count_by, Option, None, Some, option_map, slice_get, refl, sym, subst, ap, arith, ◌∙◌}
use Rattle.std.specs.Prelude.{nat_lt, if◌then◌else◌}
use Rattle.std.specs.List.{range_with_len}
use Rattle.std.proofs.lemmas.Bool.Decides.{nat_tests}
use Rattle.std.proofs.lemmas.List.FromFn.{get_or-map-range_with_len, length-map-range_with_len}
use Rattle.std.proofs.lemmas.List.Sums.{sum_by-cons}
use Rattle.std.proofs.lemmas.Option.{none-some, same_Some, slice_get-map}
use Rattle.dft_base.proofs.ListLemmas.{get_range}
use Rattle.dft_netlist.specs.declared.ids.InstanceId.{InstanceId}
use Rattle.dft_netlist.specs.Netlist.{Netlist}
use Rattle.dft_config.specs.Config.{Config}
use Rattle.dft_config.specs.Cycles.{part_length}
use Rattle.dft_rules.specs.declared.error.RuleError.{RuleError}
use Rattle.dft_rules.specs.declared.judged.Judged.{Judged}
use Rattle.dft_rules.specs.declared.judged.Judged.TheVariants.{Scanned, Unscanned}
use Rattle.dft_rules.specs.Refusals.{unknown_port, unknown_cell, first_present, clock_as_data, quoted_port, too_few, first_failing, is_scanned, refusal}
use Rattle.dft_rules.specs.Rules.{judged, judgements}
use Rattle.dft_stitch.specs.declared.places.CellClock.{CellClock}
use Rattle.dft_stitch.specs.Chains.{chain_lengths, clock_in, clock_of, cells_of, plan_of}
use Rattle.dft_stitch.proofs.CountLemmas.{hits, hits_some, all_from, all_more}
use Rattle.dft_stitch.proofs.EvenLemmas.{at_block, lengths_total}
use Rattle.dft_stitch.proofs.OnceLemmas.{domain_within, group_within}
use Rattle.dft_scan_frame.specs.Statements.{IsReady}

-- ---- scanned flip-flops are cells

hit_by : (n : Netlist) (config : Config) (i : ℕ) (o : Option Judged) → judged n config i ≡ o → cond (is_scanned o) 1 0 ≤ hits (length config.domains) (clock_in o) (range_with_len 0 (2 * length config.domains))
hit_by n config i None is = omega arith
hit_by n config i (Some (Scanned d falling)) is =
    hits_some (length config.domains) (record { domain = d; falling = falling }) 0 (2 * length config.domains) (omega arith)
    (let less = group_within (length config.domains) d falling (domain_within n config i d falling is) in omega (arith, less))
hit_by n config i (Some (Unscanned rule)) is = omega arith

enough_from : (n : Netlist) (config : Config) (k m : ℕ) → k + m ≤ length n.instances →
    count_by is_scanned (map (judged n config) (range_with_len k m)) ≤ length (all_from (judgements n config) (length config.domains) (range_with_len 0 (2 * length config.domains)) k m)
enough_from n config k zero fits = omega arith
enough_from n config k (suc m) fits =
    let v = judgements n config in
    let domains = length config.domains in
    let gs = range_with_len 0 (2 * domains) in
    let its : clock_of v (record { 0 = k }) ≡ clock_in (judged n config k) = ap clock_in (get_or-map-range_with_len (judged n config) 0 (length n.instances) k k None (omega (arith, fits)) (omega arith)) in
    let hit = hit_by n config k (judged n config k) refl in
    let here : cond (is_scanned (judged n config k)) 1 0 ≤ hits domains (clock_of v (record { 0 = k })) gs = subst (λ (o : Option CellClock). cond (is_scanned (judged n config k)) 1 0 ≤ hits domains o gs) (sym its) hit in
    let more = enough_from n config (k + 1) m (omega (arith, fits)) in
    let split = sum_by-cons (λ (o : Option Judged). cond (is_scanned o) 1 0) (judged n config k) (map (judged n config) (range_with_len (k + 1) m)) in
    let cells = all_more v domains gs k m in
    omega (arith, here, more, split, cells)

last_none : (xs : List (Option RuleError)) (o : Option RuleError) → first_failing (xs ++ o ∷ []) ≡ None → o ≡ None
last_none [] None h = refl
last_none [] (Some e) h = absurd (none-some e (sym h))
last_none (None ∷ xs) o h = last_none xs o h
last_none (Some e ∷ xs) o h = absurd (none-some e (sym h))

not_fewer : (found wanted : ℕ) (x : RuleError) (b : Bool) → nat_lt found wanted ≡ b → (if b then Some x else None) ≡ None → wanted ≤ found
not_fewer found wanted x true is h = absurd (none-some x (sym h))
not_fewer found wanted x false is h = grind (arith, nat_tests, is)

-- there are as many cells as chains at least
pub cells_enough : (n : Netlist) (config : Config) → IsReady n config → config.chains ≤ length (cells_of n config)
unfolding refusal
cells_enough n config ready =
    let v = judgements n config in
    let found = count_by is_scanned v in
    let none : too_few v config.chains ≡ None =
    last_none (unknown_port n config.domains ∷ unknown_port n config.resets ∷ unknown_cell n config.keep ∷ first_present n.library n.instances ∷ clock_as_data n config.domains ∷ quoted_port n.ports ∷ []) (too_few v config.chains) ready.passed in
    let some : config.chains ≤ found = not_fewer found config.chains _ (nat_lt found config.chains) refl none in
    let count : length v ≡ length n.instances = length-map-range_with_len (judged n config) 0 (length n.instances) in
    let all = enough_from n config 0 (length n.instances) (omega arith) in
    let domains = length config.domains in
    let same : length (all_from v domains (range_with_len 0 (2 * domains)) 0 (length n.instances)) ≡ length (cells_of n config) = ap (λ m. length (all_from v domains (range_with_len 0 (2 * domains)) 0 m)) (sym count) in
    omega (arith, some, all, same)

-- ---- blocks

some_each : (cells chains q : ℕ) → cells / chains ≡ q → 1 ≤ chains → chains ≤ cells → 1 ≤ cells / chains
some_each cells chains zero is some few =
    let less : cells % chains < chains = omega arith in
    let whole : chains * (cells / chains) + cells % chains ≡ cells = omega arith in
    let none : chains * (cells / chains) ≡ 0 = ap (λ q. chains * q) is ∙ omega arith in
    absurd (omega (arith, less, whole, none, few))
some_each cells chains (suc q) is some few = omega (arith, is)

-- a chain has a cell
pub chain_filled : (n : Netlist) (config : Config) (chain : ℕ) (cells : List InstanceId) → IsReady n config → slice_get (plan_of n config).chains chain ≡ Some cells → chain < config.chains → 1 ≤ length cells
chain_filled n config chain cells ready at less =
    let all : ℕ = length (cells_of n config) in
    let some : 1 ≤ config.chains = ready.range.chains.0 in
    let here = at_block (chain_lengths all config.chains) (cells_of n config) chain cells (lengths_total all config.chains some) at in
    let its = slice_get-map (part_length all config.chains) (range_with_len 0 config.chains) chain ∙ ap (option_map (part_length all config.chains)) (get_range 0 config.chains chain less ∙ ap Some (let e : 0 + chain ≡ chain = omega arith in e)) in
    let is : part_length all config.chains chain ≡ length cells = same_Some (part_length all config.chains chain) (length cells) (sym its ∙ here) in
    let each = some_each all config.chains (all / config.chains) refl some (cells_enough n config ready) in
    omega (arith, is, each)
