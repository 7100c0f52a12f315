-- The recipe of the ring generator and the phase shifter (Rajski and others, 2004).
use Rattle.std.specs.Prelude.{ℕ, List, [], ◌∷◌, map}
use Rattle.std.specs.List.{range_with_len}
use Rattle.dft_cells.specs.declared.kind.Gate.TheVariants.{Inv, And}
use Rattle.dft_netlist.specs.declared.ids.NetId.{NetId}
use Rattle.dft_config.specs.Config.{Config}
use Rattle.dft_config.specs.declared.config.RingConfig.{RingConfig}
use Rattle.dft_config.specs.declared.config.Tap.{Tap}
use Rattle.dft_config.specs.declared.config.Injector.{Injector}
use Rattle.dft_config.specs.Ring.{phase_of}
use Rattle.dft_parts.specs.declared.edt_ports.EdtPorts.{EdtPorts}
use Rattle.dft_parts.specs.Recipes.{Recipe, pure, ◌>>=◌, ◌>>◌, each, collect, net_at, nets_made, a_flop}
use Rattle.dft_parts.specs.Sums.{a_driving_gate, a_sum}
use Rattle.dft_edt.specs.Feeds.{at_feed, tap_feeds, injector_feeds, feeds}
use Rattle.dft_edt.specs.declared.ring.Ring.{Ring}

-- the nets that a stage sums: that of the stage after it, those of its taps, then those of its injectors' channels
abbrev pub stage_terms : RingConfig → (channels stages : List NetId) → (stage : ℕ) → List NetId
stage_terms ring channels stages stage = map (at_feed (net_at stages) (net_at channels)) (feeds ring stage)

-- the nets of the taps and of the injectors to a stage; no tap takes a channel, and no injector a stage
abbrev pub tap_nets : List Tap → (stages : List NetId) → (stage : ℕ) → List NetId
tap_nets taps stages stage = map (at_feed (net_at stages) (net_at [])) (tap_feeds taps stage)

abbrev pub injector_nets : List Injector → (channels : List NetId) → (stage : ℕ) → List NetId
injector_nets injectors channels stage = map (at_feed (net_at []) (net_at channels)) (injector_feeds injectors stage)

-- a stage: the sum of what feeds it, kept where `run` is 1, and a flip-flop that takes this and drives the stage's net
unfoldable pub a_stage : RingConfig → EdtPorts → (run : NetId) → (stages : List NetId) → (stage : ℕ) → Recipe (Unit {0})
a_stage ring ports run stages stage = do
  sum ← a_sum (stage_terms ring ports.channels stages stage)
  kept ← a_driving_gate And (sum ∷ run ∷ [])
  a_flop ports.edt_clock kept (net_at stages stage)

-- the sum of the phase set of a chain
abbrev pub a_phase : RingConfig → (stages : List NetId) → (chain : ℕ) → Recipe NetId
a_phase ring stages chain = a_sum (map (net_at stages) (phase_of ring chain))

-- `run` is the inverse of edt_update; then the nets of all stages and the stages, and for each chain its phase sum
unfoldable pub a_ring : Config → EdtPorts → Recipe Ring
a_ring config ports = do
  run ← a_driving_gate Inv (ports.edt_update ∷ [])
  stages ← nets_made config.ring.stages
  each (a_stage config.ring ports run stages) (range_with_len 0 config.ring.stages)
  phases ← collect (a_phase config.ring stages) (range_with_len 0 config.chains)
  pure (record { run = run; phases = phases })
