-- The clocks and resets of a netlist by name, and the flip-flops that are scanned with them.
use Rattle.std.specs.Prelude.{ℕ, List, [], ◌∷◌, map, count_by, replicate, slice_index_or}
use Rattle.dft_base.specs.Lexing.{Text}
use Rattle.dft_netlist.specs.Netlist.{Netlist}
use Rattle.dft_config.specs.Config.{Config}
use Rattle.dft_rules.specs.Refusals.{is_scanned}
use Rattle.dft_rules.specs.Rules.{judgements}
use Rattle.dft_stitch.specs.Chains.{longest_chain}
use Rattle.dft_config_out.specs.declared.made.Made.{Made}
use Rattle.dft_config_out.specs.Written.{config_of, made_text}
use Rattle.dft_configure.specs.Compacting.{groups_of}
use Rattle.dft_configure.specs.Roots.{domains_of, resets_of}
use Rattle.dft_configuring.specs.declared.wanted.Wanted.{Wanted}
use Rattle.dft_configuring.specs.Names.{names_for}
use Rattle.dft_configuring.specs.Wanted.{chains_for}

-- the printed names of nets
abbrev pub name_of : Netlist → (net : ℕ) → Text
name_of n net = slice_index_or n.nets net []

abbrev pub names_of_nets : Netlist → (nets : List ℕ) → List Text
names_of_nets n nets = map (name_of n) nets

-- those of the clocks and of the resets of the netlist
unfoldable pub clock_names : Netlist → List Text
clock_names n = names_of_nets n (domains_of n)

unfoldable pub reset_names : Netlist → List Text
reset_names n = names_of_nets n (resets_of n (domains_of n))

-- A configuration with these clocks and resets and so many chains, as the scan rules ask for it. They read nothing else, which is as plain as may be:
-- a ring that feeds all chains from one stage, and one output.
abbrev pub rooted_made : Netlist → (chains : ℕ) → Made
rooted_made n chains = record {
  domains = clock_names n;
  resets = reset_names n;
  chains = chains;
  warm = 0;
  ring = record { stages = 8; channels = 1; taps = []; injectors = []; phase = replicate chains (0 ∷ []) };
  compactor = record { groups = groups_of chains 1; mask_inputs = 1 };
  names = names_for n 1 1 1 chains;
}

abbrev pub rooted : Netlist → (chains : ℕ) → Config
rooted n chains = config_of (rooted_made n chains)

-- how many flip-flops are scanned with these clocks and resets
unfoldable pub cell_count : Netlist → ℕ
cell_count n = count_by is_scanned (judgements n (rooted n 1))

-- the text of that configuration
abbrev pub rooted_text : Netlist → (chains : ℕ) → Text
rooted_text n chains = made_text (cell_count n) (rooted_made n chains)

-- the chains, and the cells of the longest
abbrev pub chain_count : Netlist → Wanted → ℕ
chain_count n wanted = chains_for wanted (cell_count n)

abbrev pub longest : Netlist → Wanted → ℕ
longest n wanted = longest_chain (cell_count n) (chain_count n wanted)
