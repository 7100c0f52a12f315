-- What is counted of a made configuration.
use Rattle.std.specs.Prelude.{length}
use Rattle.dft_netlist.specs.Netlist.{Netlist}
use Rattle.dft_config.specs.Config.{Config}
use Rattle.dft_rules.specs.Rules.{judgements}
use Rattle.dft_stitch.specs.Chains.{longest_chain, plan_of}
use Rattle.dft_scan.specs.Reports.{scanned_count, unscanned_count}
use Rattle.dft_configuring.specs.declared.counting.MadeCounts.{MadeCounts}

-- the scanned flip-flops and the others, and what the configuration and its plan have
abbrev pub counts_of : Netlist → Config → MadeCounts
counts_of n config =
    let cells = scanned_count (judgements n config) in
    record {
      cells = cells;
      unscanned = unscanned_count (judgements n config);
      domains = length config.domains;
      resets = length config.resets;
      chains = config.chains;
      longest = longest_chain cells config.chains;
      stages = config.ring.stages;
      channels = config.ring.channels;
      outputs = length config.compactor.groups;
      masks = config.compactor.mask_inputs;
      warm = config.warm;
      cycles = (plan_of n config).cycles;
    }
