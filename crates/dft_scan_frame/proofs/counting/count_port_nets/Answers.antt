use Rattle.std.proofs.Common.{◌≡◌, length, arith}
use Rattle.dft_netlist.specs.Sound.{bits_of}
use Rattle.dft_netlist.proofs.LiveDriven.{ports_fit}
use Rattle.dft_scan_frame.proofs.counting.count_port_nets.Goals as goal

pub count_bits-requires : goal.count_bits-requires
count_bits-requires c =
    let few = ports_fit c.args.design.now c.ports.ensures.sound in
    rw c.ports.ensures.ports (omega (arith, few, c.ports.ensures.sound.few_nets))

pub returns-clause-within : goal.returns-clause-within
returns-clause-within c =
    let few = ports_fit c.args.design.now c.ports.ensures.sound in
    let is : c.count_bits.result ≡ length (bits_of c.args.design.now.ports) = rw c.ports.ensures.ports at c.count_bits.ensures in
    rw is few
