-- Mask segments as they are looked up.
use Rattle.std.proofs.Common.{◌≡◌, ℕ, suc, ◌+◌, ◌-◌, Bool, map, ap, ◌∙◌, arith}
use Rattle.std.specs.List.{range_with_len}
use Rattle.std.proofs.lemmas.Simd.{map-map}
use Rattle.dft_config.specs.Config.{Config}
use Rattle.dft_config.specs.Segments.{sent_mask}
use Rattle.dft_vectors.specs.OwnPorts.{set_to}
use Rattle.dft_vectors.specs.AddedPorts.{set_all}
use Rattle.dft_vectors.specs.Segments.{segment_of, segments_of, sent_in}

-- what the mask ports get in a cycle
pub sent_masks : (config : Config) (masks : ℕ → Bool) (cycles t : ℕ) →
    map (λ segment. set_to (sent_in segment masks (cycles - (t + 1)))) (segments_of config) ≡ set_all config.compactor.mask_inputs (λ m. sent_mask config masks cycles m t)
sent_masks config masks cycles t =
    let next : t + 1 ≡ suc t = omega arith in
    ap (λ (k : ℕ). map (λ segment. set_to (sent_in segment masks (cycles - k))) (segments_of config)) next
    ∙ map-map (λ segment. set_to (sent_in segment masks (cycles - suc t))) (segment_of config) (range_with_len 0 config.compactor.mask_inputs)
