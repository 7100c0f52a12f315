-- Planned chains: there are as many as configured, none is longer than a load, and a load has its limits.
use Rattle.std.proofs.Common.{◌≡◌, ℕ, suc, ◌+◌, ◌*◌, ◌/◌, ◌%◌, ◌≤◌, Bool, true, false, cond, List, [], ◌∷◌, length, take, drop, None, Some, pos, refl, ap, ◌∙◌, length-take, arith}
use Rattle.std.specs.Prelude.{nat_lt, if◌then◌else◌, max, slice_index_or}
use Rattle.std.specs.List.{All, range_with_len}
use Rattle.std.proofs.lemmas.Bool.Decides.{nat_tests}
use Rattle.std.proofs.lemmas.List.Elements.{All-nil, All-cons, All-head, All-tail, All-map}
use Rattle.std.proofs.lemmas.List.FromFn.{length-map-range_with_len}
use Rattle.std.proofs.lemmas.Bool.{ltb-false}
use Rattle.dft_netlist.specs.Netlist.{Netlist}
use Rattle.dft_config.specs.Config.{Config}
use Rattle.dft_config.specs.Cycles.{part_length, longest_segment}
use Rattle.dft_stitch.specs.declared.error.Counted.TheVariants.{Cells, Cycles, Variables}
use Rattle.dft_stitch.specs.declared.error.StitchError.{StitchError}
use Rattle.dft_stitch.specs.declared.error.StitchError.TheVariants.{TooMany}
use Rattle.dft_stitch.specs.declared.limits.TheConstants.{MAX_CELLS, MAX_CYCLES, MAX_VARIABLES}
use Rattle.dft_stitch.specs.Limits.{refusal}
use Rattle.dft_stitch.specs.Chains.{blocks, chain_lengths, cells_of, cycles_of, longest_chain, plan_of}

blocks_short : {X : Type 0} (bound : ℕ) (lengths : List ℕ) (items : List X) → All (λ l. l ≤ bound) lengths → All (λ block. length block ≤ bound) (blocks lengths items)
blocks_short {X} bound [] items all = All-nil (λ (block : List X). length block ≤ bound)
blocks_short {X} bound (l ∷ lengths) items all =
    All-cons (λ (block : List X). length block ≤ bound) (take l items) (blocks lengths (drop l items)) (omega (arith, length-take l items, All-head (λ (k : ℕ). k ≤ bound) l lengths all))
    (blocks_short bound lengths (drop l items) (All-tail (λ (k : ℕ). k ≤ bound) l lengths all))

pub blocks_count : {X : Type 0} (lengths : List ℕ) (items : List X) → length (blocks lengths items) ≡ length lengths
blocks_count [] items = refl
blocks_count (l ∷ lengths) items = ap suc (blocks_count lengths (drop l items))

-- the first part is the longest
part_case : (q r p : ℕ) (first this : Bool) → first ≡ nat_lt 0 r → this ≡ nat_lt p r → q + (if this then 1 else 0) ≤ q + (if first then 1 else 0)
part_case q r p true true f t = omega arith
part_case q r p true false f t = omega arith
part_case q r p false false f t = omega arith
part_case q r p false true f t = grind (arith, nat_tests)

part_le : (items parts part : ℕ) → part_length items parts part ≤ part_length items parts 0
part_le items parts part = part_case (items / parts) (items % parts) part (nat_lt 0 (items % parts)) (nat_lt part (items % parts)) refl refl

pub chains_short : (n : Netlist) (config : Config) → All (λ cells. length cells ≤ (plan_of n config).cycles) (plan_of n config).chains
chains_short n config =
    let cells = cells_of n config in
    let longest = longest_chain (length cells) config.chains in
    let ltb-false : longest ≤ max (config.warm + longest) (longest_segment config) = omega arith in
    blocks_short (cycles_of config (length cells)) (chain_lengths (length cells) config.chains) cells
    (All-map (λ (l : ℕ). l ≤ cycles_of config (length cells)) (part_length (length cells) config.chains) (range_with_len 0 config.chains) (λ k d less. omega (arith, ltb-false, part_le (length cells) config.chains (slice_index_or (range_with_len 0 config.chains) k d))))

pub chains_count : (n : Netlist) (config : Config) → length (plan_of n config).chains ≡ config.chains
chains_count n config = let cells = cells_of n config in blocks_count (chain_lengths (length cells) config.chains) cells ∙ length-map-range_with_len (part_length (length cells) config.chains) 0 config.chains

-- ---- limits

none_passed : (a b c : Bool) (x y z : StitchError) → cond a (Some x) (cond b (Some y) (cond c (Some z) None)) ≡ None → (b ≡ false) × (c ≡ false)
none_passed true b c x y z none = absurd (let f : ⊥ = cc in f)
none_passed false true c x y z none = absurd (let f : ⊥ = cc in f)
none_passed false false true x y z none = absurd (let f : ⊥ = cc in f)
none_passed false false false x y z none = (refl, refl)

-- a plan that is accepted has no more cycles and variables than their limits
pub limits : (n : Netlist) (config : Config) → refusal n config ≡ None → ((plan_of n config).cycles ≤ MAX_CYCLES) × ((plan_of n config).cycles * config.ring.channels ≤ MAX_VARIABLES)
limits n config none =
    let cells = length (cells_of n config) in
    let cycles = cycles_of config cells in
    let h = none_passed (nat_lt MAX_CELLS cells) (nat_lt MAX_CYCLES cycles) (nat_lt MAX_VARIABLES (cycles * config.ring.channels)) (TooMany Cells (pos MAX_CELLS)) (TooMany Cycles (pos MAX_CYCLES)) (TooMany Variables (pos MAX_VARIABLES)) none in
    (ltb-false MAX_CYCLES cycles h.0, ltb-false MAX_VARIABLES (cycles * config.ring.channels) h.1)
