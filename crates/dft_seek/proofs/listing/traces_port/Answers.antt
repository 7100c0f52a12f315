-- By the root of the net.
use Rattle.std.proofs.Common.{inl, inr, ap, sym, ◌∙◌}
use Rattle.dft_behavior.specs.declared.root.Root.{Root}
use Rattle.dft_netlist.specs.declared.instance.Signal.TheVariants as signal
use Rattle.dft_behavior.specs.Roots.{shown_root}
use Rattle.dft_behavior.proofs.RootTables.{shown_in}
use Rattle.dft_faults.specs.Faults.{is_clock_in}
use Rattle.dft_seek.specs.SoughtFaults.{is_root_of}
use Rattle.dft_seek.proofs.listing.traces_port.Goals as goal

pub returns-in-Port : goal.returns-in-Port
returns-in-Port c = c.is_among.ensures ∙ ap (λ (root : Root). is_root_of (is_clock_in c.args.ports.now) (shown_root root)) (sym c.in-Port.is ∙ c.root_in.ensures)
    ∙ ap (is_root_of (is_clock_in c.args.ports.now)) (sym (shown_in c.args.roots.now 0 0 (signal.Net c.args.net)))

pub returns-in-Constant : goal.returns-in-Constant
returns-in-Constant c = elim c.in-Constant.is [
  | inl w ↦ ap (λ (root : Root). is_root_of (is_clock_in c.args.ports.now) (shown_root root)) (sym w.1 ∙ c.root_in.ensures) ∙ ap (is_root_of (is_clock_in c.args.ports.now)) (sym (shown_in c.args.roots.now 0 0 (signal.Net c.args.net)))
  | inr w ↦ ap (λ (root : Root). is_root_of (is_clock_in c.args.ports.now) (shown_root root)) (sym w ∙ c.root_in.ensures) ∙ ap (is_root_of (is_clock_in c.args.ports.now)) (sym (shown_in c.args.roots.now 0 0 (signal.Net c.args.net)))
]
