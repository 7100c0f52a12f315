-- Added ports have one bit each, and no vectors.
use Rattle.std.proofs.Common.{ℕ, suc, ◌≡◌, List, ◌∷◌, ◌++◌, length, refl, ap, arith, []}
use Rattle.std.specs.List.{filter_map}
use Rattle.dft_base.specs.Lexing.{Text}
use Rattle.dft_netlist.specs.declared.port.Port.{Port}
use Rattle.dft_netlist.specs.Names.{vector_name}
use Rattle.dft_scan_frame.specs.AddedPorts.{NewPort, ports_from}
use Rattle.dft_scan_frame.proofs.NamesOnce.{times_named, shown_append}

-- ---- the names of the scanned netlist

pub no_vectors : (net : ℕ) (ports : List NewPort) → filter_map vector_name (ports_from net ports) ≡ []
no_vectors net [] = refl
no_vectors net (port ∷ ports) = no_vectors (suc net) ports

pub vectors_counted : (q : Text) (net : ℕ) (ports : List Port) (added : List NewPort) → times_named q (filter_map vector_name (ports ++ ports_from net added)) ≡ times_named q (filter_map vector_name ports)
vectors_counted q net ports added = omega (arith, shown_append vector_name q ports (ports_from net added), ap (times_named q) (no_vectors net added))

-- ---- limits

pub length_ports : (net : ℕ) (ports : List NewPort) → length (ports_from net ports) ≡ length ports
length_ports net [] = refl
length_ports net (port ∷ ports) = ap suc (length_ports (suc net) ports)
