-- What is made for a netlist and a wish, but for the warm cycles.
use Rattle.std.specs.Prelude.{ℕ, ◌≡◌, ◌+◌, Some}
use Rattle.dft_netlist.specs.Netlist.{Netlist}
use Rattle.dft_config.specs.declared.config.RingConfig.{RingConfig}
use Rattle.dft_config_out.specs.declared.made.Made.{Made}
use Rattle.dft_decompressor.specs.Fits.{IsFitting}
use Rattle.dft_decompressor.specs.Rings.{AreInjectors, taps_of}
use Rattle.dft_configure.specs.Compacting.{groups_of, masks_of, outputs_of}
use Rattle.dft_configuring.specs.declared.wanted.Wanted.{Wanted}
use Rattle.dft_configuring.specs.Names.{names_for}
use Rattle.dft_configuring.specs.Rooted.{chain_count, clock_names, longest, reset_names}

-- the ring for so many chains and channels: the first size that has phase sets, with its taps and injectors
pub record IsRing (chains inputs : ℕ) (ring : RingConfig) : Type 0 where
  pub fits : IsFitting chains inputs (Some (record { stages = ring.stages; phase = ring.phase }))
  pub channels : ring.channels ≡ inputs
  pub taps : ring.taps ≡ taps_of ring.stages
  pub injectors : AreInjectors ring.stages inputs ring.injectors

-- the outputs
abbrev pub output_count : Netlist → Wanted → ℕ
output_count n wanted = outputs_of (chain_count n wanted) wanted.channels wanted.outputs

-- this has the clocks and resets of the netlist, the ring and the groups of the compactor
pub record IsFrame (n : Netlist) (wanted : Wanted) (made : Made) : Type 0 where
  pub domains : made.domains ≡ clock_names n
  pub resets : made.resets ≡ reset_names n
  pub chains : made.chains ≡ chain_count n wanted
  pub ring : IsRing (chain_count n wanted) wanted.channels made.ring
  pub groups : made.compactor.groups ≡ groups_of (chain_count n wanted) (output_count n wanted)

-- This is what is made for the netlist and the wish with its warm cycles: beside these the masks, and free names.
pub record IsMade (n : Netlist) (wanted : Wanted) (made : Made) : Type 0 where
  pub frame : IsFrame n wanted made
  pub masks : made.compactor.mask_inputs ≡ masks_of (chain_count n wanted) (made.warm + longest n wanted) wanted.masks
  pub names : made.names ≡ names_for n wanted.channels made.compactor.mask_inputs (output_count n wanted) (chain_count n wanted)
