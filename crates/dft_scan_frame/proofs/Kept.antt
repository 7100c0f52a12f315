-- How many ports are added, and the nets of a design that are read and that are roots.
use Rattle.std.proofs.Common.{ℕ, ◌+◌, ◌≡◌, ◌<◌, inl, inr, false, Some, List, ◌∷◌, length, sym, subst, arith, ◌∙◌, []}
use Rattle.std.specs.List.{AllByRecursion, range_with_len}
use Rattle.std.proofs.lemmas.List.{length-append, length-map}
use Rattle.std.proofs.lemmas.List.FromFn.{length-range_with_len}
use Rattle.dft_base.specs.Lexing.{Text}
use Rattle.dft_base.specs.declared.dir.Dir.{Dir}
use Rattle.dft_base.specs.declared.dir.Dir.TheVariants as dir
use Rattle.dft_netlist.specs.Netlist.{Netlist}
use Rattle.dft_netlist.specs.Sound.{bits_of}
use Rattle.dft_netlist.specs.Drivers.{Source, Driver, Input, driver, nets_read, AreBelow}
use Rattle.dft_netlist.specs.Orders.{Has, reads_of, IsOrderFrom}
use Rattle.dft_behavior.specs.Traces.{Port, root_of}
use Rattle.dft_behavior.specs.ClockRoots.{ClockRoot, clock_root_of}
use Rattle.dft_behavior.proofs.ClockWalks.{clock_found, clock_driven, traced_clock}
use Rattle.dft_netlist.proofs.LiveDriven.{ports_fit}
use Rattle.dft_config.specs.Config.{Config}
use Rattle.dft_scan_frame.specs.AddedPorts.{new_port, numbered, numbered_ports, plain_ports}
use Rattle.dft_scan_frame.specs.Statements.{IsReady}
use Rattle.dft_scan_frame.proofs.Fine as fine
use Rattle.dft_scan_frame.proofs.Fine.{driver_fine}

-- ---- counts

pub numbered_count : (d : Dir) (name : Text) (count : ℕ) → length (numbered_ports d name count) ≡ count
numbered_count d name count = length-map (range_with_len 0 count) (λ number. new_port d (numbered name number)) ∙ length-range_with_len 0 count

-- style Plain adds scan_enable and two ports for each chain
pub ports_count : (config : Config) → length (plain_ports config) ≡ 1 + config.chains + config.chains
ports_count config = omega (arith, length-append (numbered_ports dir.Input config.names.scan_in config.chains) (numbered_ports dir.Output config.names.scan_out config.chains), numbered_count dir.Input config.names.scan_in config.chains, numbered_count dir.Output config.names.scan_out config.chains)

-- ---- a design's nets read its nets

all_before : (size : ℕ) (before nets : List ℕ) → ((r : ℕ) → Has before r → r < size) → AllByRecursion (Has before) nets → AreBelow (λ k. k) size nets
all_before size before [] less h = tt
all_before size before (net ∷ nets) less h = (less net h.0, all_before size before nets less h.1)

more_before : (size x : ℕ) (before : List ℕ) → x < size → ((r : ℕ) → Has before r → r < size) → (r : ℕ) → Has (x ∷ before) r → r < size
more_before size x before here less r (inl e) = omega (arith, e, here)
more_before size x before here less r (inr h) = less r h

reads_before : (n : Netlist) (before xs : List ℕ) → IsOrderFrom n before xs → ((r : ℕ) → Has before r → r < length n.nets) → (net : ℕ) → Has xs net → AreBelow (λ k. k) (length n.nets) (reads_of n net)
reads_before n before [] order less net has = absurd has
reads_before n before (x ∷ xs) order less net (inl e) = subst (λ k. AreBelow (λ j. j) (length n.nets) (reads_of n k)) (sym e) (all_before (length n.nets) before (reads_of n x) less order.2)
reads_before n before (x ∷ xs) order less net (inr h) = reads_before n (x ∷ before) xs order.3 (more_before (length n.nets) x before order.1 less) net h

pub reads_inside : (n : Netlist) (config : Config) (net : ℕ) → IsReady n config → net < length n.nets → AreBelow (λ k. k) (length n.nets) (nets_read n (driver n net))
reads_inside n config net ready less = reads_before n [] ready.order ready.ordered.after (λ r h. absurd h) net (ready.ordered.whole net less)

-- ---- roots

-- a port that is a root is one of the first nets
pub root_among : (n : Netlist) (config : Config) (source : Source) (net : ℕ) → IsReady n config → root_of n source ≡ Port net → net < length (bits_of n.ports)
root_among n config source net ready is =
    let driven : driver n net ≡ Input = clock_driven n (clock_found n source (record { port = net; inverted = false }) (traced_clock n source net is)) in
    subst (λ (d : Driver). fine.FineBy n net d) driven (driver_fine n config net ready)

-- a port whose clock is shown is one of the first nets
pub clock_among : (n : Netlist) (config : Config) (source : Source) (clock : ClockRoot) → IsReady n config → clock_root_of n source ≡ Some clock → clock.port < length (bits_of n.ports)
clock_among n config source clock ready is =
    let driven : driver n clock.port ≡ Input = clock_driven n (clock_found n source clock is) in
    subst (λ (d : Driver). fine.FineBy n clock.port d) driven (driver_fine n config clock.port ready)

-- a port's net is one of the design's
pub design_ports_few : (n : Netlist) (config : Config) (net : ℕ) → IsReady n config → net < length (bits_of n.ports) → net < length n.nets
design_ports_few n config net ready less = omega (arith, less, ports_fit n ready.netlist)
