-- The nets of added ports are driven once at most.
use Rattle.std.proofs.Common.{ℕ, zero, suc, ◌+◌, ◌≡◌, ◌<◌, ◌≤◌, List, ◌∷◌, ◌++◌, length, map, refl, sym, subst, arith, []}
use Rattle.std.specs.List.{range_with_len}
use Rattle.dft_base.specs.Lexing.{Text}
use Rattle.dft_base.specs.declared.dir.Dir.{Dir}
use Rattle.dft_base.specs.declared.dir.Dir.TheVariants as dir
use Rattle.dft_netlist.specs.Drivers.{Driven, driven_by_bits, driven_by_ports}
use Rattle.dft_netlist.proofs.LiveDriven.{DriveBelow}
use Rattle.dft_scan_frame.specs.AddedPorts.{NewPort, new_port, numbered, ports_from}
use Rattle.dft_scan_frame.proofs.Times.{Rises}

-- ---- ports

rises_from : (from to : ℕ) (ds : List Driven) → from ≤ to → Rises to ds → Rises from ds
rises_from from to [] le h = tt
rises_from from to (d ∷ ds) le h = (omega (arith, le, h.0), h.1)

bits_less : (d : Dir) (net count : ℕ) (rest : List Driven) → net < count → DriveBelow count rest → DriveBelow count (driven_by_bits d (record { 0 = net } ∷ []) ++ rest)
bits_less dir.Input net count rest less h = (less, h)
bits_less dir.Output net count rest less h = h

bits_rise : (d : Dir) (net : ℕ) (rest : List Driven) → Rises (suc net) rest → Rises net (driven_by_bits d (record { 0 = net } ∷ []) ++ rest)
bits_rise dir.Input net rest h = (omega arith, h)
bits_rise dir.Output net rest h = rises_from net (suc net) rest (omega arith) h

pub ports_rise : (net : ℕ) (ports : List NewPort) → Rises net (driven_by_ports (ports_from net ports))
ports_rise net [] = tt
ports_rise net (port ∷ ports) = bits_rise port.dir net (driven_by_ports (ports_from (suc net) ports)) (ports_rise (suc net) ports)

pub outputs_none : (net : ℕ) (name : Text) (from count : ℕ) → driven_by_ports (ports_from net (map (λ number. new_port dir.Output (numbered name number)) (range_with_len from count))) ≡ []
outputs_none net name from zero = refl
outputs_none net name from (suc count) = outputs_none (suc net) name (from + 1) count

pub ports_below : (net : ℕ) (ports more : List NewPort) → ((k : ℕ) → driven_by_ports (ports_from k more) ≡ []) → DriveBelow (net + length ports) (driven_by_ports (ports_from net (ports ++ more)))
ports_below net [] more none = subst (DriveBelow (net + 0)) (sym (none net)) tt
ports_below net (port ∷ ports) more none = bits_less port.dir net (net + length (port ∷ ports)) (driven_by_ports (ports_from (suc net) (ports ++ more))) (omega arith) (subst (λ k. DriveBelow k (driven_by_ports (ports_from (suc net) (ports ++ more)))) (omega arith) (ports_below (suc net) ports more none))
