-- The count of scanned flip-flops is that of the scan rules.
use Rattle.std.proofs.Common.{◌≡◌, refl}
use Rattle.dft_netlist.specs.Netlist.{Netlist}
use Rattle.dft_netlist.specs.Sound.{IsNetlist}
use Rattle.dft_configure.specs.Scanned.{scanned_count}
use Rattle.dft_configure.proofs.ScannedLemmas.{all_counted}
use Rattle.dft_configuring.specs.Rooted.{cell_count, rooted}
use Rattle.dft_configuring.proofs.RootsRange.{has_roots}

pub counted : (n : Netlist) → IsNetlist n → scanned_count n ≡ cell_count n
unfolding cell_count
counted n sound = all_counted n (rooted n 1) sound (has_roots n (rooted n 1) sound refl refl refl)
