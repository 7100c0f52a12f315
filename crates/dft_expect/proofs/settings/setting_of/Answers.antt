-- A cell of the chains, or the bit of another.
use Rattle.std.proofs.Common.{Bool, ◌≡◌, ◌∙◌, ap, slice_get, subst}
use Rattle.dft_netlist.specs.declared.net_driver.NetDriver.TheVariants.{Pin}
use Rattle.dft_netlist.specs.Drivers.{driver}
use Rattle.dft_netlist.specs.NetDrivers.{driver_at, is_inverted, roles_at}
use Rattle.dft_netlist.specs.Netlist.{Netlist}
use Rattle.dft_stitch.specs.Chains.{plan_of}
use Rattle.dft_expect.specs.Loaded.{all_cells}
use Rattle.dft_expect.specs.Settings.{IsCellSetting}
use Rattle.dft_expect.proofs.settings.setting_of.Goals as goal

pub returns-in-Pin : goal.returns-in-Pin
returns-in-Pin c =
    let planned = c.args.found.now.planned.now in
    let at = c.in-Pin in
    let cell = rw c.chains.ensures at c.cell_setting.ensures in
    record {
      drives = Pin at.instance at.pin;
      is = subst (λ (n : Netlist). driver n c.args.net.0 ≡ driver_at n (Pin at.instance at.pin)) c.design-design.ensures at.ensures.driver;
      set = subst (λ (b : Bool). IsCellSetting (all_cells (plan_of planned.design planned.config).chains) at.instance.0 b c.cell_setting.result) (c.is_inverted-inverted.ensures ∙ ap (λ (n : Netlist). is_inverted (slice_get (roles_at n at.instance.0) at.pin)) c.design-design.ensures) cell;
    }
