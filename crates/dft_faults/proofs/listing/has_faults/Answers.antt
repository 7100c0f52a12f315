-- A pin or a join drives the net, and it is no bit of an input port.
use Rattle.std.proofs.Common.{ℕ, Bool, inl, inr, ap, subst, ◌∙◌}
use Rattle.dft_netlist.specs.Netlist.{Netlist}
use Rattle.dft_netlist.specs.NetDrivers.{driver_at, Drives}
use Rattle.dft_netlist.specs.declared.net_driver.NetDriver.{NetDriver}
use Rattle.dft_faults.specs.Faults.{is_clock_in}
use Rattle.dft_faults.proofs.Driving.{pin_has_faults, join_has_faults}
use Rattle.dft_faults.proofs.listing.has_faults.Goals as goal

pub returns-in-Pin : goal.returns-in-Pin
returns-in-Pin c =
    let n : Netlist = c.args.design.now in
    let net : ℕ = c.args.net.0 in
    elim c.in-Pin.is [
      | inl w ↦ pin_has_faults n (is_clock_in c.args.clocks.now) net w.0.0 w.1 c.shows_clock.result (c.driver.ensures.driver ∙ ap (driver_at n) w.2) (subst (λ (d : NetDriver). Drives n d net) w.2 c.driver.ensures.drives) (c.shows_clock.ensures n c.requires.roots)
      | inr w ↦ join_has_faults n (is_clock_in c.args.clocks.now) net w.0 c.shows_clock.result (c.driver.ensures.driver ∙ ap (driver_at n) w.1) (subst (λ (d : NetDriver). Drives n d net) w.1 c.driver.ensures.drives) (c.shows_clock.ensures n c.requires.roots)
    ]
