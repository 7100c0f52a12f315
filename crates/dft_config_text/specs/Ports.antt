-- The names of ports that a configuration may give.
use Rattle.std.specs.Prelude.{codes, ℕ, List}
use Rattle.dft_config_text.specs.declared.fault.Key.{Key}
use Rattle.dft_config_text.specs.declared.fault.Key.TheVariants as key
use Rattle.dft_config_text.specs.declared.port.Port.{Port}
use Rattle.dft_config_text.specs.declared.port.Port.TheVariants as port

-- its key
abbrev pub key_of : Port → Key
key_of port.ScanEnable = key.ScanEnable
key_of port.EdtClock = key.EdtClock
key_of port.EdtUpdate = key.EdtUpdate
key_of port.Channel = key.Channel
key_of port.Mask = key.Mask
key_of port.Output = key.Output
key_of port.ScanIn = key.ScanIn
key_of port.ScanOut = key.ScanOut

-- its key in the table `names`
abbrev pub word_of : Port → List ℕ
word_of port.ScanEnable = codes "scan_enable"
word_of port.EdtClock = codes "edt_clock"
word_of port.EdtUpdate = codes "edt_update"
word_of port.Channel = codes "channel"
word_of port.Mask = codes "mask"
word_of port.Output = codes "output"
word_of port.ScanIn = codes "scan_in"
word_of port.ScanOut = codes "scan_out"

-- the name where the key is left out
abbrev pub default_of : Port → List ℕ
default_of port.ScanEnable = codes "scan_enable"
default_of port.EdtClock = codes "edt_clock"
default_of port.EdtUpdate = codes "edt_update"
default_of port.Channel = codes "edt_in"
default_of port.Mask = codes "edt_mask"
default_of port.Output = codes "edt_out"
default_of port.ScanIn = codes "scan_in"
default_of port.ScanOut = codes "scan_out"
