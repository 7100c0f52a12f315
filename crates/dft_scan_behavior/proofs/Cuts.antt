-- The parts that are made: first the nets for open outputs, then the others.
use Rattle.std.proofs.Common.{ℕ, ◌≡◌, List, ◌++◌, length, map, refl, subst}
use Rattle.std.specs.List.{range_with_len}
use Rattle.dft_netlist.specs.Netlist.{Netlist}
use Rattle.dft_config.specs.Config.{Config}
use Rattle.dft_stitch.specs.Chains.{plan_of}
use Rattle.dft_parts.specs.Growth.{HasParts}
use Rattle.dft_parts.specs.Parts.{Part}
use Rattle.dft_parts.specs.Recipes.{Start, behind, each, start_of}
use Rattle.dft_parts.proofs.Growing.{parts_grow}
use Rattle.dft_edt.specs.CompactorRecipe.{a_compactor}
use Rattle.dft_scan_frame.proofs.Whole.{length_map_from}
use Rattle.dft_insert.specs.declared.style.Style.{Style}
use Rattle.dft_insert.specs.declared.style.Style.TheVariants.{Plain, Edt}
use Rattle.dft_insert.specs.Chained.{last_net}
use Rattle.dft_insert.specs.Frame.{framed_at}
use Rattle.dft_insert.specs.Ports.{gap_in}
use Rattle.dft_insert.specs.Scanned.{a_plain_chain, a_plain_end, plain_recipe, behind_rows, edt_recipe, framed}
use Rattle.dft_insert.specs.Statements.{scanned, made_in}
use Rattle.dft_scan_behavior.specs.Facts.{rows_in, ports_of, ring_parts, chain_parts, compactor_start}

-- ---- style Plain

abbrev pub plain_start : Netlist → Config → Start
plain_start n config = behind (start_of (framed Plain n config)) (rows_in Plain n config).parts

abbrev pub plain_chain_parts : Netlist → Config → List Part
plain_chain_parts n config = (each (a_plain_chain n config (plan_of n config) (gap_in Plain n config) (rows_in Plain n config).value) (range_with_len 0 (length (plan_of n config).chains)) (plain_start n config)).parts

abbrev pub ends_start : Netlist → Config → Start
ends_start n config = behind (plain_start n config) (plain_chain_parts n config)

abbrev pub end_parts : Netlist → Config → List Part
end_parts n config = (each (a_plain_end config (gap_in Plain n config) (rows_in Plain n config).value) (range_with_len 0 (length (plan_of n config).chains)) (ends_start n config)).parts

-- ---- style Edt

abbrev pub compactor_list : Netlist → Config → List Part
compactor_list n config = (a_compactor config (ports_of n config) (ring_parts n config).value.run (map last_net (rows_in Edt n config).value) (compactor_start n config)).parts

-- ---- both

abbrev pub rest_of : Style → Netlist → Config → List Part
rest_of Plain n config = plain_chain_parts n config ++ end_parts n config
rest_of Edt n config = (ring_parts n config).parts ++ (chain_parts n config ++ compactor_list n config)

pub made_cut : (style : Style) (n : Netlist) (config : Config) → made_in style n config ≡ (rows_in style n config).parts ++ rest_of style n config
unfolding plain_recipe edt_recipe behind_rows
made_cut Plain n config = refl
made_cut Edt n config = refl

pub all_there : (style : Style) (n : Netlist) (config : Config) → HasParts (scanned style n config) (length n.instances) ((rows_in style n config).parts ++ rest_of style n config)
all_there style n config =
    subst (HasParts (scanned style n config) (length n.instances)) (made_cut style n config)
    (subst (λ (k : ℕ). HasParts (scanned style n config) k (made_in style n config)) (length_map_from (framed_at n config (gap_in style n config)) 0 n.instances) (parts_grow (framed style n config) (made_in style n config)).there)
