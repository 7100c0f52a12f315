-- Most flip-flops are scanned under a made configuration.
use Rattle.std.proofs.Common.{◌∙◌, ap}
use Rattle.dft_config.specs.Config.{Config}
use Rattle.dft_configure.proofs.MostLemmas.{most_scanned}
use Rattle.dft_configuring.proofs.RootsRange.{has_roots}
use Rattle.dft_configure_laws.specs.MadeScans.{MadeScansMost}

pub made_scanned : MadeScansMost
made_scanned n wanted configured other i sound is cuts passed scanned =
    let frame = is.chosen.is.frame in
    let roots = has_roots n configured.config sound (ap (λ (c : Config). c.domains) is.config ∙ frame.domains) (ap (λ (c : Config). c.resets) is.config ∙ frame.resets) (ap (λ (c : Config). c.keep) is.config) in
    most_scanned n configured.config other i sound roots cuts passed scanned
