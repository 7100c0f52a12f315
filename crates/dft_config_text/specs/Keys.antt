-- The keys of a configuration as they are written.
use Rattle.std.specs.Prelude.{codes, ℕ, List}
use Rattle.dft_config_text.specs.declared.fault.Key.{Key}
use Rattle.dft_config_text.specs.declared.fault.Key.TheVariants as key

-- a key with its points
abbrev pub dotted : Key → List ℕ
dotted key.Version = codes "version"
dotted key.Domains = codes "domains"
dotted key.Resets = codes "resets"
dotted key.Keep = codes "keep"
dotted key.Chains = codes "chains"
dotted key.Warm = codes "warm"
dotted key.Window = codes "window"
dotted key.Fill = codes "fill"
dotted key.Seed = codes "seed"
dotted key.AlwaysMasked = codes "always_masked"
dotted key.Stages = codes "ring.stages"
dotted key.Channels = codes "ring.channels"
dotted key.Taps = codes "ring.taps"
dotted key.Injectors = codes "ring.injectors"
dotted key.Phase = codes "ring.phase"
dotted key.Groups = codes "compactor.groups"
dotted key.MaskInputs = codes "compactor.mask_inputs"
dotted key.ScanEnable = codes "names.scan_enable"
dotted key.EdtClock = codes "names.edt_clock"
dotted key.EdtUpdate = codes "names.edt_update"
dotted key.Channel = codes "names.channel"
dotted key.Mask = codes "names.mask"
dotted key.Output = codes "names.output"
dotted key.ScanIn = codes "names.scan_in"
dotted key.ScanOut = codes "names.scan_out"
dotted key.Names = codes "names"
