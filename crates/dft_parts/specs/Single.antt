-- How often nets are driven by parts.
use Rattle.std.specs.Prelude.{ℕ, zero, suc, ◌+◌, ◌≡◌, ◌≤◌, ◌==◌, List, [], ◌∷◌, ◌++◌, length, count_by, Option, None, Some, slice_get, if◌then◌else◌}
use Rattle.dft_cells.specs.declared.kind.Role.{Role}
use Rattle.dft_cells.specs.declared.cell.Cell.{Cell}
use Rattle.dft_netlist.specs.declared.ids.NetId.{NetId}
use Rattle.dft_netlist.specs.declared.instance.Signal.{Signal}
use Rattle.dft_netlist.specs.declared.instance.Signal.TheVariants.{Net, Constant, Unconnected}
use Rattle.dft_netlist.specs.declared.instance.Instance.{Instance}
use Rattle.dft_netlist.specs.Drivers.{shape_of}
use Rattle.dft_netlist.specs.Netlist.{Netlist}
use Rattle.dft_netlist.specs.NetDrivers.{IsSingle, times_driven}
use Rattle.dft_netlist.specs.Orders.{AreOnce, Has}
use Rattle.dft_netlist.specs.Sound.{IsNetlist, is_output}
use Rattle.dft_parts.specs.Parts.{Part, ANet, AnInstance, APin, Making, with_part, with_parts}

-- the net that a signal is, if a pin of this role drives it
abbrev pub net_driven : Role → Signal → List ℕ
net_driven role (Net net) = if is_output role then net.0 ∷ [] else []
net_driven role (Constant bit) = []
net_driven role Unconnected = []

-- the nets at output pins
abbrev pub nets_driven : List Role → List Signal → List ℕ
nets_driven [] signals = []
nets_driven (role ∷ roles) [] = []
nets_driven (role ∷ roles) (signal ∷ signals) = net_driven role signal ++ nets_driven roles signals

-- the net that an open pin is joined to, if it is an output pin
abbrev pub opened : Role → Signal → NetId → List ℕ
opened role Unconnected net = net_driven role (Net net)
opened role (Net other) net = []
opened role (Constant bit) net = []

abbrev pub opened_in : List Role → List Signal → (pin : ℕ) → NetId → List ℕ
opened_in [] signals pin net = []
opened_in (role ∷ roles) [] pin net = []
opened_in (role ∷ roles) (signal ∷ signals) zero net = opened role signal net
opened_in (role ∷ roles) (signal ∷ signals) (suc pin) net = opened_in roles signals pin net

abbrev pub opened_at : List Cell → Option Instance → (pin : ℕ) → NetId → List ℕ
opened_at library None pin net = []
opened_at library (Some x) pin net = opened_in (shape_of library x.cell).roles x.pins pin net

-- the nets that a part drives
abbrev pub driven_by_part : Netlist → Part → List ℕ
driven_by_part n ANet = []
driven_by_part n (AnInstance cell pins) = nets_driven (shape_of n.library cell).roles pins
driven_by_part n (APin instance pin net) = opened_at n.library (slice_get n.instances instance.0) pin net

abbrev pub driven_by_parts : Making → List Part → List ℕ
driven_by_parts s [] = []
driven_by_parts s (part ∷ parts) = driven_by_part s.netlist part ++ driven_by_parts (with_part s part) parts

abbrev pub times_in : List ℕ → (net : ℕ) → ℕ
times_in nets net = count_by (λ k. k == net) nets

-- How often a net is driven adds up.
abbrev pub TimesAddUp : Type 0
TimesAddUp = (s : Making) (parts : List Part) (net : ℕ) → times_driven (with_parts s parts).netlist net ≡ times_driven s.netlist net + times_in (driven_by_parts s parts) net

-- No net gets two drivers where the nets that parts drive are different and were not driven before.
abbrev pub StaysSingle : Type 0
StaysSingle =
    (s : Making) (parts : List Part) → IsSingle s.netlist → AreOnce (driven_by_parts s parts) → ((net : ℕ) → Has (driven_by_parts s parts) net → times_driven s.netlist net ≡ 0) → IsSingle (with_parts s parts).netlist

-- A net that is not there yet is not driven.
abbrev pub NewIsFree : Type 0
NewIsFree = (n : Netlist) (net : ℕ) → IsNetlist n → length n.nets ≤ net → times_driven n net ≡ 0
