-- What a table gives: a configuration, or the first fault.
use Rattle.std.specs.Prelude.{codes, ℕ, pos, min, Option, Result, Ok}
use Rattle.toml.specs.Data.{Members, get_member}
use Rattle.dft_toml.specs.Values.{value_in, table_at}
use Rattle.dft_config_text.specs.declared.fault.Key.TheVariants as key
use Rattle.dft_config_text.specs.declared.port.Port.TheVariants as port
use Rattle.dft_config_text.specs.declared.fault.Fault.{Fault}
use Rattle.dft_config_text.specs.declared.fault.Fault.TheVariants as fault
use Rattle.dft_config.specs.declared.config.RingConfig.{RingConfig}
use Rattle.dft_config.specs.declared.config.CompactorConfig.{CompactorConfig}
use Rattle.dft_config.specs.declared.config.PortNames.{PortNames}
use Rattle.dft_config.specs.Config.{Config}
use Rattle.dft_config_text.specs.declared.reading.Steering.{Steering}
use Rattle.dft_config_text.specs.declared.reading.Carrying.{Carrying}
use Rattle.dft_config.specs.declared.draft.Clocking.{Clocking}
use Rattle.dft_config.specs.declared.draft.Loading.{Loading}
use Rattle.dft_config_text.specs.Faults.{after, unless}
use Rattle.dft_config_text.specs.Settings.{number, numbers, taps, injectors, phase, groups, domains, resets, keep, fill, port_name}
use Rattle.dft_config_text.specs.Unknown.{first_unknown}
use Rattle.dft_config_text.specs.Checks.{first_repeated, first_empty, first_unreached}

-- the ring for so many chains
unfoldable pub ring_of : ℕ → Option Members → Result RingConfig Fault
ring_of chains table =
    after (number key.Stages 2 128 (value_in (codes "stages") table)) (λ stages.
    after (number key.Channels 1 32 (value_in (codes "channels") table)) (λ channels.
    after (taps stages (value_in (codes "taps") table)) (λ taps.
    after (injectors channels stages (value_in (codes "injectors") table)) (λ injectors.
    after (phase chains stages (value_in (codes "phase") table)) (λ phase.
    Ok (record { stages = stages; channels = channels; taps = taps; injectors = injectors; phase = phase }))))))

-- the compactor for so many chains, with at most as many mask inputs
unfoldable pub compactor_of : ℕ → Option Members → Result CompactorConfig Fault
compactor_of chains table =
    after (groups chains (value_in (codes "groups") table)) (λ groups.
    after (number key.MaskInputs 1 (min chains 32) (value_in (codes "mask_inputs") table)) (λ mask_inputs.
    Ok (record { groups = groups; mask_inputs = mask_inputs })))

-- the names of the ports that steer a load, each with its default
unfoldable pub steering_of : Option Members → Result Steering Fault
steering_of table =
    after (port_name port.ScanEnable table) (λ scan_enable.
    after (port_name port.EdtClock table) (λ edt_clock.
    after (port_name port.EdtUpdate table) (λ edt_update.
    Ok (record { scan_enable = scan_enable; edt_clock = edt_clock; edt_update = edt_update }))))

-- the names of the ports that carry bits, each with its default
unfoldable pub carrying_of : Option Members → Result Carrying Fault
carrying_of table =
    after (port_name port.Channel table) (λ channel.
    after (port_name port.Mask table) (λ mask.
    after (port_name port.Output table) (λ output.
    after (port_name port.ScanIn table) (λ scan_in.
    after (port_name port.ScanOut table) (λ scan_out.
    Ok (record { channel = channel; mask = mask; output = output; scan_in = scan_in; scan_out = scan_out }))))))

-- the names of ports, in this order
unfoldable pub names_of_ports : Option Members → Result PortNames Fault
names_of_ports table =
    after (steering_of table) (λ steering.
    after (carrying_of table) (λ carrying.
    Ok (record {
      scan_enable = steering.scan_enable;
      edt_clock = steering.edt_clock;
      edt_update = steering.edt_update;
      channel = carrying.channel;
      mask = carrying.mask;
      output = carrying.output;
      scan_in = carrying.scan_in;
      scan_out = carrying.scan_out;
    })))

-- the domains, the resets and the kept cells, in this order behind the version, which is 1
unfoldable pub clocking_of : Members → Result Clocking Fault
clocking_of table =
    after (number key.Version 1 1 (get_member (codes "version") table)) (λ version.
    after (domains (get_member (codes "domains") table)) (λ domains.
    after (resets (get_member (codes "resets") table)) (λ resets.
    after (keep (get_member (codes "keep") table)) (λ keep.
    Ok (record { domains = domains; resets = resets; keep = keep })))))

-- the chains, the loads, and the chains that are always masked, in this order
unfoldable pub loading_of : Members → Result Loading Fault
loading_of table =
    after (number key.Chains 1 1024 (get_member (codes "chains") table)) (λ chains.
    after (number key.Warm 0 4095 (get_member (codes "warm") table)) (λ warm.
    after (number key.Window 1 16 (get_member (codes "window") table)) (λ window.
    after (fill (get_member (codes "fill") table) (get_member (codes "seed") table)) (λ fill.
    after (numbers key.AlwaysMasked chains (get_member (codes "always_masked") table)) (λ always_masked.
    Ok (record { chains = chains; warm = warm; window = window; fill = fill; always_masked = always_masked }))))))

-- the configuration whose keys a table has: the keys are read in this order
unfoldable pub keys_of : Members → Result Config Fault
keys_of table =
    after (clocking_of table) (λ clocking.
    after (loading_of table) (λ loading.
    after (ring_of loading.chains (table_at (codes "ring") table)) (λ ring.
    after (compactor_of loading.chains (table_at (codes "compactor") table)) (λ compactor.
    after (names_of_ports (table_at (codes "names") table)) (λ names.
    Ok (record {
      domains = clocking.domains;
      resets = clocking.resets;
      keep = clocking.keep;
      chains = loading.chains;
      warm = loading.warm;
      window = loading.window;
      fill = loading.fill;
      always_masked = loading.always_masked;
      ring = ring;
      compactor = compactor;
      names = names;
    }))))))

-- a configuration whose keys were read, or its first fault: no key is unknown, nothing stands twice, no list in a list is empty, and
-- each chain stands in a group
unfoldable pub checked : Members → Config → Result Config Fault
checked table config =
    unless (first_unknown config.fill table) fault.Unknown (
    unless (first_repeated config) fault.Repeated (
    unless (first_empty config) fault.Empty (
    unless (first_unreached config) (λ chain. fault.Unreached (pos chain))
    (Ok config))))

-- the configuration of a table, or its first fault: its keys are read in order, and then they are checked
unfoldable pub reading : Members → Result Config Fault
reading table = after (keys_of table) (checked table)
