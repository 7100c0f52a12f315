-- The netlist that an insertion begins with.
use Rattle.std.proofs.Common.{arith, [], append-nil, refl, subst, sym, ◌≡◌}
use Rattle.std.proofs.lemmas.Option.{slice_get_within}
use Rattle.dft_netlist.specs.Finishing.{CannotFinish}
use Rattle.dft_netlist.specs.declared.error.NetlistError.TheVariants.{DuplicateName, Loop, Memory, MultipleDrivers, TooMany}
use Rattle.dft_netlist.specs.Sound.{IsNetlist}
use Rattle.dft_netlist.specs.Netlist.{Netlist}
use Rattle.dft_netlist.specs.declared.error.NetlistError.{NetlistError}
use Rattle.dft_netlist.specs.Building.{empty_netlist}
use Rattle.dft_scan_frame.specs.Statements.{CanFinish}
use Rattle.dft_scan_frame.specs.Growing.{IsMemory, AllFit, port_things}
use Rattle.dft_scan_frame.proofs.Fitting.{IsWhole, ports_fit}
use Rattle.dft_scan_frame.proofs.NamesOnce.{stands_once}
use Rattle.dft_scan_frame.proofs.Stages.{numbered_from}

pub netlist_whole : (n : Netlist) → IsNetlist n → IsWhole n
netlist_whole n sound = record { once = λ q. stands_once q n sound.names; few_ports = sound.few_ports; few_nets = sound.few_nets; few_instances = sound.few_instances }

pub memory_alone : (n : Netlist) (error : NetlistError) → CanFinish n → CannotFinish n error → IsMemory error
memory_alone n (MultipleDrivers name) can h = omega (arith, h.first.twice, can.single h.net)
memory_alone n (Loop name) can h = h.again.next.stuck (can.orderable h.net (slice_get_within n.nets h.net name h.named))
memory_alone n (DuplicateName name) can h = h
memory_alone n (TooMany what limit) can h = h
memory_alone n (Memory error) can h = tt

pub ports_pass : (n b : Netlist) → IsNetlist n → b ≡ empty_netlist n.name n.library → AllFit b (port_things n.ports)
ports_pass n b sound is =
    subst (λ (m : Netlist). AllFit m (port_things n.ports)) (sym is)
    (ports_fit n (empty_netlist n.name n.library) n.ports [] sound.bits.rest n.instances (netlist_whole n sound)
    (record { its_ports = sym (append-nil n.ports); its_nets = sound.bits.same; its_instances = refl })
    refl (numbered_from 0 n.ports sound.widths sound.numbered))
