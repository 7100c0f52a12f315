-- The flip-flops that style Edt adds, by their order in the scanned netlist.
use Rattle.std.specs.Prelude.{ℕ, ◌≡◌, List, [], ◌∷◌, ◌++◌, length, map, filter, flat_map}
use Rattle.std.specs.List.{range_with_len}
use Rattle.dft_cells.specs.FlipFlops.{is_flip_flop}
use Rattle.dft_netlist.specs.Drivers.{kind_at}
use Rattle.dft_netlist.specs.Netlist.{Netlist}
use Rattle.dft_config.specs.Config.{Config}
use Rattle.dft_parts.specs.Growth.{instances_in}
use Rattle.dft_scan_frame.specs.Statements.{IsReady}
use Rattle.dft_insert.specs.declared.style.Style.TheVariants.{Edt}
use Rattle.dft_insert.specs.Statements.{scanned, made_in}
use Rattle.dft_scan_behavior.specs.Facts.{edt_hardware}

-- the numbers of the added instances that are flip-flops, in order
abbrev pub added_flops : Netlist → Config → List ℕ
added_flops n config = filter (λ i. is_flip_flop (kind_at (scanned Edt n config) i)) (range_with_len (length n.instances) (instances_in (made_in Edt n config)))

-- First come the ring's stages; then for each chain its mask flip-flop and that of its hold bit.
abbrev pub FlopsInOrder : Type 0
FlopsInOrder =
    (n : Netlist) (config : Config) → IsReady n config →
    added_flops n config
    ≡ map (edt_hardware n config).stage (range_with_len 0 config.ring.stages)
    ++ flat_map (λ chain. (edt_hardware n config).mask chain ∷ (edt_hardware n config).hold chain ∷ []) (range_with_len 0 config.chains)
