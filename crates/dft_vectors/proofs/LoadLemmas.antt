-- Loads by the bits that the outputs are to show.
use Rattle.std.proofs.Common.{◌≡◌, ℕ, zero, suc, ◌+◌, ◌*◌, ◌<◌, Bool, List, map, length, get_or, replicate, Option, None, Some, refl, sym, ap, ◌∙◌, arith}
use Rattle.std.specs.List.{range_with_len}
use Rattle.std.proofs.lemmas.List.{length-map}
use Rattle.std.proofs.lemmas.Simd.{map-map}
use Rattle.dft_base.specs.Packed.{packed_bit}
use Rattle.dft_base.specs.Solutions.{bit_at}
use Rattle.dft_lanes.specs.Rows.{bits_of, IsPacked}
use Rattle.dft_netlist.specs.Netlist.{Netlist}
use Rattle.dft_config.specs.Config.{Config}
use Rattle.dft_config.specs.Ring.{Table}
use Rattle.dft_stitch.specs.Plans.{Plan, falling_head}
use Rattle.dft_expect.specs.Loaded.{table_of}
use Rattle.dft_expect.specs.Masks.{by_chain}
use Rattle.dft_expect.specs.Expected.{output_bit, expected_of}
use Rattle.dft_base.specs.declared.tri.Tri.{Tri}
use Rattle.dft_config.specs.declared.config.RingConfig.{RingConfig}
use Rattle.dft_lanes.proofs.RowLemmas.{bits-at, packed_bit-zeros}
use Rattle.dft_vectors.specs.OwnPorts.{expect}
use Rattle.dft_vectors.specs.PatternData.{PatternData}
use Rattle.dft_vectors.specs.Shown.{shown_at, expected_if_any}
use Rattle.dft_vectors.specs.VectorList.{unloaded, shift_with, load_vectors, no_table}
use Rattle.dft_vectors.proofs.ListLemmas.{block_at, flat_length, same_in_range}

shown_is : (config : Config) (plan : Plan) (load : Table) (before : Option PatternData) (t : ℕ) → t < plan.cycles →
    shown_at (length config.compactor.groups) (expected_if_any config plan load before) t ≡ unloaded config plan load before t
shown_is config plan load None t less = refl
shown_is config plan load (Some p) t less =
    let groups = config.compactor.groups in
    let bit = output_bit config.ring load (falling_head plan) p.masks (by_chain plan.chains p.response.cells) in
    let here : 0 + t ≡ t = omega arith in
    ap (map expect) (block_at (λ u. map (bit u) groups) (length groups) (λ u. length-map groups (bit u)) 0 plan.cycles t less ∙ ap (λ (u : ℕ). map (bit u) groups) here)
    ∙ map-map expect (bit t) groups

-- the vectors of a load, by what the outputs are to show in all its cycles
pub loaded_so : (n : Netlist) (config : Config) (plan : Plan) (load : Table) (masks : List Bool) (before : Option PatternData) (shown : Option (List Bool)) → shown ≡ expected_if_any config plan load before →
    map (λ t. shift_with n config plan load masks t (shown_at (length config.compactor.groups) shown t)) (range_with_len 0 plan.cycles) ≡ load_vectors n config plan load masks before
loaded_so n config plan load masks before shown is =
    ap (λ (o : Option (List Bool)). map (λ t. shift_with n config plan load masks t (shown_at (length config.compactor.groups) o t)) (range_with_len 0 plan.cycles)) is
    ∙ same_in_range (λ t. shift_with n config plan load masks t (shown_at (length config.compactor.groups) (expected_if_any config plan load before) t)) (λ t. shift_with n config plan load masks t (unloaded config plan load before t)) 0 plan.cycles
    (λ t less. ap (shift_with n config plan load masks t) (shown_is config plan load before t (omega (arith, less))))

-- the bits of all cycles are as many as the outputs in each
pub expected_length : (ring : RingConfig) (groups : List (List ℕ)) (load : Table) (late : ℕ → Bool) (masks : List Bool) (values : List (List Tri)) (cycles : ℕ) → length (expected_of ring groups load late masks values cycles) ≡ cycles * length groups
expected_length ring groups load late masks values cycles = flat_length (λ t. map (output_bit ring load late masks values t) groups) (length groups) (λ t. length-map groups (output_bit ring load late masks values t)) 0 cycles

-- ---- tables of channel bits

-- packed bits stand for their columns
pub same_table : (ring : RingConfig) (columns : ℕ) (words : List ℕ) → IsPacked columns words → table_of ring (packed_bit words) ≡ table_of ring (bit_at (bits_of columns words))
same_table ring columns words packed = λ i channel cycle. sym (bits-at words columns (cycle * ring.channels + channel) packed.clear) i

zero_at : (z count k : ℕ) → get_or (replicate count z) k z ≡ z
zero_at z zero k = refl
zero_at z (suc count) zero = refl
zero_at z (suc count) (suc k) = zero_at z count k

-- words of zeros bring no bit
pub zero_table : (ring : RingConfig) (count : ℕ) → table_of ring (packed_bit (replicate count 0)) ≡ no_table
zero_table ring count = λ i channel cycle. packed_bit-zeros (replicate count 0) (cycle * ring.channels + channel) (zero_at 0 count) i
