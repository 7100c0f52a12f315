-- By what each net shows.
use Rattle.std.proofs.Common.{Option, ap, sym, ◌∙◌}
use Rattle.dft_netlist.specs.declared.instance.Signal.TheVariants as signal
use Rattle.dft_behavior.specs.declared.root.ClockRoot.{ClockRoot}
use Rattle.dft_behavior.specs.Roots.{shown_clock}
use Rattle.dft_behavior.proofs.RootTables.{clock_in_is}
use Rattle.dft_faults.specs.Faults.{is_clock_in, is_root_in}
use Rattle.dft_faults.proofs.listing.shows_clock.Goals as goal

pub returns-in-Some : goal.returns-in-Some
returns-in-Some c n are =
    c.is_clock.ensures
    ∙ ap (λ (root : Option ClockRoot). is_root_in (is_clock_in c.args.clocks.now) (shown_clock root)) (sym c.in-Some.is ∙ c.clock_in.ensures)
    ∙ ap (is_root_in (is_clock_in c.args.clocks.now)) (clock_in_is n c.args.roots.now are 0 0 (signal.Net c.args.net))

pub returns-in-None : goal.returns-in-None
returns-in-None c n are =
    ap (λ (root : Option ClockRoot). is_root_in (is_clock_in c.args.clocks.now) (shown_clock root)) (sym c.in-None.is ∙ c.clock_in.ensures)
    ∙ ap (is_root_in (is_clock_in c.args.clocks.now)) (clock_in_is n c.args.roots.now are 0 0 (signal.Net c.args.net))
