-- The ports of a design, carried over.
use Rattle.std.proofs.Common.{ℕ, suc, ◌+◌, ◌≡◌, List, ◌∷◌, ◌++◌, length, take, drop, Some, slice_get, refl, sym, ap, arith, ◌∙◌, []}
use Rattle.std.proofs.lemmas.Option.{same_Some}
use Rattle.std.proofs.Math.Seq.{take-append_seam}
use Rattle.dft_netlist.specs.declared.ids.NetId.{NetId}
use Rattle.dft_netlist.specs.declared.port.Port.{Port}
use Rattle.dft_netlist.specs.Netlist.{Netlist}
use Rattle.dft_netlist.specs.Names.{bit_names}
use Rattle.dft_netlist.specs.NetNumbers.{nets_from}
use Rattle.dft_netlist.specs.Building.{empty_netlist}
use Rattle.dft_netlist.specs.Sound.{IsNetlist, bits_of, bit_names_of}
use Rattle.dft_netlist.proofs.LiveLemmas.{length-bits}
use Rattle.dft_scan_frame.specs.Growing.{with_things, port_things}
use Rattle.dft_scan_frame.proofs.Fitting.{AreNumbered, with_all_ports}

-- ---- ports

-- numbers in two parts
split_from : (from : ℕ) (xs ys : List NetId) → xs ++ ys ≡ nets_from from (length (xs ++ ys)) → (xs ≡ nets_from from (length xs)) × (ys ≡ nets_from (from + length xs) (length ys))
split_from from [] ys e = (refl, e ∙ ap (λ k. nets_from k (length ys)) (let same : from ≡ from + 0 = omega arith in same))
split_from from (x ∷ xs) ys e =
    let more = split_from (suc from) xs ys (ap (drop 1) e) in
    let head : x ≡ record { 0 = from } = same_Some x (record { 0 = from }) (ap (λ (l : List NetId). slice_get l 0) e) in
    let after : suc from + length xs ≡ from + suc (length xs) = omega arith in
    (ap (λ (z : NetId). z ∷ xs) head ∙ ap (λ (zs : List NetId). record { 0 = from } ∷ zs) more.0, more.1 ∙ ap (λ k. nets_from k (length ys)) after)

pub numbered_from : (from : ℕ) (ports : List Port) → ((k : ℕ) (port : Port) → slice_get ports k ≡ Some port → length port.bits ≡ length (bit_names port.name port.range)) → bits_of ports ≡ nets_from from (length (bits_of ports)) → AreNumbered from ports
numbered_from from [] wide e = tt
numbered_from from (port ∷ ports) wide e =
    let both = split_from from port.bits (bits_of ports) e in
    let width : length port.bits ≡ length (bit_names port.name port.range) = wide 0 port refl in
    (both.0 ∙ ap (nets_from from) width, numbered_from (from + length (bit_names port.name port.range)) ports (λ k p at. wide (suc k) p at) (both.1 ∙ ap (λ k. nets_from (from + k) (length (bits_of ports))) width))

-- the first nets are those of the ports
pub front_nets : (n : Netlist) → IsNetlist n → bit_names_of n.ports ≡ take (length (bits_of n.ports)) n.nets
front_nets n sound =
    sym (take-append_seam (bit_names_of n.ports) sound.bits.rest) ∙ ap (λ k. take k (bit_names_of n.ports ++ sound.bits.rest)) (length-bits n.ports sound.widths) ∙ ap (take (length (bits_of n.ports))) (sym sound.bits.same)

-- ---- stage by stage

abbrev pub before_of : Netlist → ℕ
before_of n = length (bits_of n.ports)

abbrev pub with_ports : Netlist → Netlist
with_ports n = record { name = n.name; library = n.library; ports = n.ports; nets = take (before_of n) n.nets; instances = []; joins = [] }

pub ports_stand : (n : Netlist) (b new : Netlist) → IsNetlist n → b ≡ empty_netlist n.name n.library → new ≡ with_things b (port_things n.ports) → new ≡ with_ports n
ports_stand n b new sound is added =
    added ∙ ap (λ (m : Netlist). with_things m (port_things n.ports)) is ∙ with_all_ports (empty_netlist n.name n.library) n.ports
    ∙ ap (λ nets. record (with_ports n) { nets = nets }) (front_nets n sound)

pub front_count : (n : Netlist) → IsNetlist n → length (take (before_of n) n.nets) ≡ before_of n
front_count n sound = ap length (sym (front_nets n sound)) ∙ length-bits n.ports sound.widths
