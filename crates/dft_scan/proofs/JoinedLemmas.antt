-- Every pin of every gate of a scanned netlist is joined where that is so in the design.
use Rattle.std.proofs.Common.{◌≡◌, ℕ, zero, suc, Bool, true, false, List, [], ◌∷◌, ◌++◌, map, Option, None, Some, slice_get, refl, subst}
use Rattle.std.proofs.lemmas.Option.{none-some, same_Some}
use Rattle.std.specs.List.{AllByRecursion}
use Rattle.dft_base.specs.Lexing.{Text}
use Rattle.dft_cells.specs.declared.cell.Cell.{Cell}
use Rattle.dft_cells.specs.declared.cell.CellId.{CellId}
use Rattle.dft_netlist.specs.declared.ids.NetId.{NetId}
use Rattle.dft_netlist.specs.declared.instance.Signal.{Signal}
use Rattle.dft_netlist.specs.declared.instance.Signal.TheVariants.{Net, Constant, Unconnected}
use Rattle.dft_netlist.specs.declared.instance.CellRef.{CellRef}
use Rattle.dft_netlist.specs.declared.instance.CellRef.TheVariants.{Library, Gate}
use Rattle.dft_netlist.specs.declared.instance.Instance.{Instance}
use Rattle.dft_netlist.specs.Netlist.{Netlist}
use Rattle.dft_netlist.specs.Sound.{IsConnected}
use Rattle.dft_config.specs.Config.{Config}
use Rattle.dft_config.specs.Range.{IsInRange}
use Rattle.dft_rules.specs.Refusals.{is_scanned}
use Rattle.dft_rules.specs.Rules.{judged, scan_cell_in}
use Rattle.dft_stitch.specs.Chains.{plan_of}
use Rattle.dft_parts.specs.Parts.{Part, ANet, AnInstance, APin, Making, joined_to, pin_joined, instance_joined, with_part, with_parts}
use Rattle.dft_parts.specs.Recipes.{at_nets}
use Rattle.dft_scan_frame.specs.Moves.{Gap, moved_signal, map_from}
use Rattle.dft_scan_frame.proofs.Joined.{connected}
use Rattle.dft_insert.specs.declared.style.Style.{Style}
use Rattle.dft_insert.specs.Frame.{as_scan_cell, framed_instance, framed_at}
use Rattle.dft_insert.specs.Ports.{gap_in}
use Rattle.dft_insert.specs.Scanned.{framed, parts_of}
use Rattle.dft_insert.specs.Statements.{scanned}
use Rattle.dft_insert.proofs.Chains.{parts_hold}
use Rattle.dft_verilog_out.specs.Named.{IsJoinedGate, GatesAreJoined}

-- ---- pins

-- every one of these is joined
abbrev pub AreConnected : List Signal → Type 0
AreConnected pins = (pin : ℕ) (to : Signal) → slice_get pins pin ≡ Some to → IsConnected to

all_moved : (gap : Gap) (pins : List Signal) → AreConnected pins → AreConnected (map (moved_signal gap) pins)
all_moved gap [] each pin to at = absurd (none-some to at)
all_moved gap (x ∷ pins) each zero to at = subst IsConnected (same_Some _ _ at) (connected gap x (each zero x refl))
all_moved gap (x ∷ pins) each (suc pin) to at = all_moved gap pins (λ p. each (suc p)) pin to at

connected_now : (net : NetId) (to : Signal) → IsConnected (joined_to net to)
connected_now net (Net other) = _
connected_now net (Constant bit) = _
connected_now net Unconnected = _

all_joined : (number : ℕ) (net : NetId) (pins : List Signal) → AreConnected pins → AreConnected (pin_joined number net pins)
all_joined number net [] each pin to at = absurd (none-some to at)
all_joined zero net (x ∷ pins) each zero to at = subst IsConnected (same_Some _ _ at) (connected_now net x)
all_joined zero net (x ∷ pins) each (suc pin) to at = each (suc pin) to at
all_joined (suc number) net (x ∷ pins) each zero to at = each zero to at
all_joined (suc number) net (x ∷ pins) each (suc pin) to at = all_joined number net pins (λ p. each (suc p)) pin to at

nets_joined : (inputs : List NetId) (output : NetId) → AreConnected (at_nets inputs ++ Net output ∷ [])
nets_joined [] output zero to at = subst IsConnected (same_Some (Net output) to at) _
nets_joined [] output (suc pin) to at = absurd (none-some to at)
nets_joined (x ∷ inputs) output zero to at = subst IsConnected (same_Some (Net x) to at) _
nets_joined (x ∷ inputs) output (suc pin) to at = nets_joined inputs output pin to at

-- ---- instances of the frame

moved_joined : (gap : Gap) (name : Option Text) (cell : CellRef) (pins : List Signal) → IsJoinedGate (record { name = name; cell = cell; pins = pins }) → IsJoinedGate (record { name = name; cell = cell; pins = map (moved_signal gap) pins })
moved_joined gap name (Library id) pins h = _
moved_joined gap name (Gate kind inputs) pins h = all_moved gap pins h

scan_cell_joined : (library : List Cell) (gap : Gap) (x : Instance) (cell : Option CellId) → IsJoinedGate x → IsJoinedGate (as_scan_cell library gap x cell)
scan_cell_joined library gap x None h = moved_joined gap x.name x.cell x.pins h
scan_cell_joined library gap x (Some cell) h = _

framed_joined : (library : List Cell) (gap : Gap) (is : Bool) (x : Instance) → IsJoinedGate x → IsJoinedGate (framed_instance library gap is x)
framed_joined library gap false x h = moved_joined gap x.name x.cell x.pins h
framed_joined library gap true x h = scan_cell_joined library gap x (scan_cell_in library x.cell) h

-- every pin of every gate among these is joined
abbrev pub AreJoinedGates : List Instance → Type 0
AreJoinedGates instances = (place : ℕ) (i : Instance) → slice_get instances place ≡ Some i → IsJoinedGate i

-- what each item gives is joined
joined_from : (f : ℕ → Instance → Instance) (number : ℕ) (xs : List Instance) → ((k : ℕ) (x : Instance) → IsJoinedGate x → IsJoinedGate (f k x)) → AreJoinedGates xs → AreJoinedGates (map_from f number xs)
joined_from f number [] each all place i at = absurd (none-some i at)
joined_from f number (x ∷ xs) each all zero i at = subst IsJoinedGate (same_Some _ _ at) (each number x (all zero x refl))
joined_from f number (x ∷ xs) each all (suc place) i at = joined_from f (suc number) xs each (λ p. all (suc p)) place i at

-- ---- made parts

-- a gate that is made is joined
abbrev pub IsJoinedPart : Part → Type 0
IsJoinedPart ANet = Unit {0}
IsJoinedPart (AnInstance cell pins) = IsJoinedGate (record { name = None; cell = cell; pins = pins })
IsJoinedPart (APin i pin net) = Unit {0}

joined_append : (xs ys : List Instance) → AreJoinedGates xs → AreJoinedGates ys → AreJoinedGates (xs ++ ys)
joined_append [] ys front back place i at = back place i at
joined_append (x ∷ xs) ys front back zero i at = front zero i at
joined_append (x ∷ xs) ys front back (suc place) i at = joined_append xs ys (λ p. front (suc p)) back place i at

one_joined : (x : Instance) → IsJoinedGate x → AreJoinedGates (x ∷ [])
one_joined x h zero i at = subst IsJoinedGate (same_Some x i at) h
one_joined x h (suc place) i at = absurd (none-some i at)

pin_stays : (name : Option Text) (cell : CellRef) (pins : List Signal) (pin : ℕ) (net : NetId) → IsJoinedGate (record { name = name; cell = cell; pins = pins }) → IsJoinedGate (record { name = name; cell = cell; pins = pin_joined pin net pins })
pin_stays name (Library id) pins pin net h = _
pin_stays name (Gate kind inputs) pins pin net h = all_joined pin net pins h

pins_stay : (number pin : ℕ) (net : NetId) (xs : List Instance) → AreJoinedGates xs → AreJoinedGates (instance_joined number pin net xs)
pins_stay number pin net [] all place i at = absurd (none-some i at)
pins_stay zero pin net (x ∷ xs) all zero i at = subst IsJoinedGate (same_Some _ _ at) (pin_stays x.name x.cell x.pins pin net (all zero x refl))
pins_stay zero pin net (x ∷ xs) all (suc place) i at = all (suc place) i at
pins_stay (suc number) pin net (x ∷ xs) all zero i at = all zero i at
pins_stay (suc number) pin net (x ∷ xs) all (suc place) i at = pins_stay number pin net xs (λ p. all (suc p)) place i at

parts_joined : (s : Making) (parts : List Part) → AreJoinedGates s.netlist.instances → AllByRecursion IsJoinedPart parts → AreJoinedGates (with_parts s parts).netlist.instances
parts_joined s [] all each = all
parts_joined s (ANet ∷ parts) all each = parts_joined (with_part s ANet) parts all each.1
parts_joined s (AnInstance cell pins ∷ parts) all each = parts_joined (with_part s (AnInstance cell pins)) parts (joined_append s.netlist.instances _ all (one_joined _ each.0)) each.1
parts_joined s (APin i pin net ∷ parts) all each = parts_joined (with_part s (APin i pin net)) parts (pins_stay i.0 pin net s.netlist.instances all) each.1

-- ---- the netlist

pub scanned_joined : (style : Style) (n : Netlist) (config : Config) → IsInRange config → GatesAreJoined n → GatesAreJoined (scanned style n config)
scanned_joined style n config range joined =
    parts_joined (framed style n config) (parts_of style n config (plan_of n config))
    (joined_from (framed_at n config (gap_in style n config)) 0 n.instances (λ k x. framed_joined n.library (gap_in style n config) (is_scanned (judged n config k)) x) joined)
    (parts_hold IsJoinedPart style n config (record { net = tt; cell = λ id pins. tt; gate = λ kind inputs output. nets_joined inputs output }) (λ cell pin net h. tt) range)
