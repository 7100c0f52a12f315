-- The configuration that a shape stands for.
use Rattle.std.specs.Prelude.{codes, Bool, ◌&&◌, [], map}
use Rattle.std.specs.List.{list_all}
use Rattle.dft_base.specs.Names.{is_name}
use Rattle.dft_config.specs.declared.config.RingConfig.{RingConfig}
use Rattle.dft_config.specs.declared.config.CompactorConfig.{CompactorConfig}
use Rattle.dft_config.specs.declared.config.PortNames.{PortNames}
use Rattle.dft_config.specs.declared.draft.Clocking.{Clocking}
use Rattle.dft_config.specs.declared.draft.Loading.{Loading}
use Rattle.dft_config.specs.Config.{Config}
use Rattle.dft_test_configs.specs.declared.shape.Shape.{Shape}

-- whether its domains and resets are names
abbrev pub is_named : Shape → Bool
is_named shape = list_all (λ text. is_name text.now) shape.domains.now && list_all (λ text. is_name text.now) shape.resets.now

abbrev pub clocking_of : Shape → Clocking
clocking_of shape = record { domains = map (λ text. text.now) shape.domains.now; resets = map (λ text. text.now) shape.resets.now; keep = [] }

abbrev pub loading_of : Shape → Loading
loading_of shape = record { chains = shape.chains; warm = shape.warm; window = shape.window; fill = shape.fill; always_masked = [] }

abbrev pub ring_of : Shape → RingConfig
ring_of shape = record {
  stages = shape.stages;
  channels = shape.channels;
  taps = shape.taps.now;
  injectors = shape.injectors.now;
  phase = map (λ list. list.now) shape.phase.now;
}

abbrev pub compactor_of : Shape → CompactorConfig
compactor_of shape = record { groups = map (λ list. list.now) shape.groups.now; mask_inputs = shape.mask_inputs }

-- the names of ports where none is given
abbrev pub port_names : PortNames
port_names = record {
  scan_enable = codes "scan_enable";
  edt_clock = codes "edt_clock";
  edt_update = codes "edt_update";
  channel = codes "edt_in";
  mask = codes "edt_mask";
  output = codes "edt_out";
  scan_in = codes "scan_in";
  scan_out = codes "scan_out";
}

abbrev pub config_of : Shape → Config
config_of shape = record {
  domains = (clocking_of shape).domains;
  resets = (clocking_of shape).resets;
  keep = [];
  chains = shape.chains;
  warm = shape.warm;
  window = shape.window;
  fill = shape.fill;
  always_masked = [];
  ring = ring_of shape;
  compactor = compactor_of shape;
  names = port_names;
}
