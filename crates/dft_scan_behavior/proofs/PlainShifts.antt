-- The chains of a scanned netlist of style Plain shift, and their ends are shown.
use Rattle.dft_stitch.specs.Chains.{plan_of}
use Rattle.dft_chains.proofs.Shiftings.{shift_experiment, ends_show}
use Rattle.dft_insert.specs.declared.style.Style.TheVariants.{Plain}
use Rattle.dft_insert.specs.Statements.{scanned}
use Rattle.dft_insert.proofs.Finished.{scanned_orderable}
use Rattle.dft_insert.specs.Agreeing.{ports_in}
use Rattle.dft_scan_behavior.specs.Facts.{plain_nets}
use Rattle.dft_scan_behavior.specs.PlainLaws.{plain_logic, ScannedShifts, ScannedShows}
use Rattle.dft_scan_behavior.proofs.Heights.{ranked}
use Rattle.dft_scan_behavior.proofs.PlainChains.{plain_has}

pub scanned_shifts : ScannedShifts
scanned_shifts n config ready before shifts start ts us run are turns =
    let rank = ranked (scanned Plain n config) (ports_in Plain n config) (λ net. scanned_orderable Plain n config ready net) in
    shift_experiment (plain_logic n config) rank.0 (ports_in Plain n config) (plan_of n config).chains (plain_nets n config) before shifts start ts us rank.1 (plain_has n config ready) run are turns

pub scanned_shows : ScannedShows
scanned_shows n config ready x now t turn chain place cell stands last =
    ends_show (plain_logic n config) (ports_in Plain n config) (plan_of n config).chains (plain_nets n config) x now t (plain_has n config ready) turn chain place cell stands last
