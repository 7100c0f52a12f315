-- What holds of scanned netlists of both styles.
use Rattle.std.specs.Prelude.{ℕ, ◌≡◌, ◌++◌, true, List, map, take, drop, Some, slice_get}
use Rattle.std.specs.List.{range_with_len}
use Rattle.dft_netlist.specs.declared.instance.Instance.{Instance}
use Rattle.dft_netlist.specs.Netlist.{Netlist}
use Rattle.dft_config.specs.Config.{Config}
use Rattle.dft_rules.specs.Refusals.{is_scanned}
use Rattle.dft_rules.specs.Rules.{judged}
use Rattle.dft_stitch.specs.Chains.{plan_of}
use Rattle.dft_parts.specs.Growth.{instances_in, made_names, names_of}
use Rattle.dft_parts.specs.MadeNames.{made_net}
use Rattle.dft_parts.specs.Parts.{Part}
use Rattle.dft_parts.specs.Recipes.{nets_in}
use Rattle.dft_scan_frame.specs.AddedPorts.{port_name, ports_from}
use Rattle.dft_scan_frame.specs.Keeping.{ArePinsKept, Keeps}
use Rattle.dft_scan_frame.specs.Statements.{IsReady}
use Rattle.dft_insert.specs.declared.style.Style.{Style}
use Rattle.dft_insert.specs.Ports.{added_ports, gap_in}
use Rattle.dft_insert.specs.Scanned.{parts_of, scanned_netlist}

-- the scanned netlist of a design, with the chains that are planned for it, and the parts that are made in its frame
abbrev pub scanned : Style → Netlist → Config → Netlist
scanned style n config = scanned_netlist style n config (plan_of n config)

abbrev pub made_in : Style → Netlist → Config → List Part
made_in style n config = parts_of style n config (plan_of n config)

-- It has the design's ports, nets, joins and instances, in order and under their names, but that the scanned flip-flops are scan cells; and all
-- pins of these are kept besides the scan pins.
pub record IsKept (style : Style) (n : Netlist) (config : Config) : Type 0 where
  pub design : Keeps n (gap_in style n config) (λ i. is_scanned (judged n config i)) (scanned style n config)
  pub pins : (i : ℕ) (old new : Instance) → slice_get n.instances i ≡ Some old → slice_get (scanned style n config).instances i ≡ Some new → is_scanned (judged n config i) ≡ true →
      ArePinsKept n (gap_in style n config) old new

-- It keeps the design.
abbrev pub KeepsDesign : Type 0
KeepsDesign = (style : Style) (n : Netlist) (config : Config) → IsReady n config → IsKept style n config

-- what is added: the style's ports, with their names and directions, behind the design's; their nets between the design's ports' nets
-- and its others; and at the end the made nets, and the made instances, under made names in order
pub record IsAdded (style : Style) (n : Netlist) (config : Config) : Type 0 where
  pub ports : (scanned style n config).ports ≡ n.ports ++ ports_from (gap_in style n config).before (added_ports style config)
  pub nets : (scanned style n config).nets ≡ take (gap_in style n config).before n.nets
      ++ (map port_name (added_ports style config) ++ (drop (gap_in style n config).before n.nets ++ map made_net (range_with_len 0 (nets_in (made_in style n config)))))
  pub instances : names_of (scanned style n config).instances ≡ names_of n.instances ++ made_names 0 (instances_in (made_in style n config))

-- It adds these, and nothing else.
abbrev pub AddsInOrder : Type 0
AddsInOrder = (style : Style) (n : Netlist) (config : Config) → IsAdded style n config
