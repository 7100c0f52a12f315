-- Made instances can stand in the netlist.
use Rattle.std.proofs.Common.{ℕ, zero, suc, ◌≡◌, ◌<◌, ◌≤◌, Bool, List, [], ◌∷◌, ◌++◌, length, map, Some, slice_get, refl, subst, ap, arith}
use Rattle.std.specs.Prelude.{IsTrue}
use Rattle.std.specs.List.{All}
use Rattle.std.proofs.lemmas.Option.{none-some, same_Some}
use Rattle.std.proofs.lemmas.List.{length-map}
use Rattle.std.proofs.lemmas.List.Elements.{All-head, All-tail}
use Rattle.dft_cells.specs.declared.kind.Gate.{Gate as GateKind}
use Rattle.dft_cells.specs.declared.kind.Role.{Role}
use Rattle.dft_cells.specs.declared.kind.Role.TheVariants as role
use Rattle.dft_cells.specs.declared.cell.Cell.{Cell}
use Rattle.dft_cells.specs.declared.cell.CellId.{CellId}
use Rattle.dft_cells.specs.WellFormed.{TakesInputs}
use Rattle.dft_netlist.specs.declared.ids.NetId.{NetId}
use Rattle.dft_netlist.specs.declared.instance.Signal.TheVariants.{Net, Constant}
use Rattle.dft_netlist.specs.declared.instance.CellRef.TheVariants.{Library, Gate}
use Rattle.dft_netlist.specs.Drivers.{gate_roles, shape_of}
use Rattle.dft_netlist.specs.Netlist.{Netlist}
use Rattle.dft_netlist.specs.Sound.{IsInstance, IsLive, AreLive, is_primitive}
use Rattle.dft_parts.specs.Cells.{pin_between, pins_between}
use Rattle.dft_parts.specs.Recipes.{AreThere, at_nets}

-- ---- what holds of all items

-- nets that were there are there
pub there_on : (n m : Netlist) (nets : List NetId) → length n.nets ≤ length m.nets → AreThere n nets → AreThere m nets
there_on n m nets more h = λ k d less. omega (arith, more, h k d less)

-- ---- gates

gate_width : (xs : List NetId) (o : NetId) → length (at_nets xs ++ Net o ∷ []) ≡ length (gate_roles (length xs))
gate_width [] o = refl
gate_width (x ∷ xs) o = ap suc (gate_width xs o)

gate_live : (count : ℕ) (xs : List NetId) (o : NetId) → All (λ net. net.0 < count) xs → o.0 < count → AreLive count (at_nets xs ++ Net o ∷ [])
gate_live count [] o h k zero signal at = subst (IsLive count) (same_Some (Net o) signal at) k
gate_live count [] o h k (suc place) signal at = absurd (none-some signal at)
gate_live count (x ∷ xs) o h k zero signal at = subst (IsLive count) (same_Some (Net x) signal at) (All-head (λ (net : NetId). net.0 < count) x xs h)
gate_live count (x ∷ xs) o h k (suc place) signal at = gate_live count xs o (All-tail (λ (net : NetId). net.0 < count) x xs h) k place signal at

-- a signal that is no constant
not_constant : (net : NetId) (bit : Bool) → Some (Net net) ≡ Some (Constant bit) → ⊥
not_constant net bit h = cc

gate_nets : (xs : List NetId) (o : NetId) (place : ℕ) (bit : Bool) → slice_get (at_nets xs ++ Net o ∷ []) place ≡ Some (Constant bit) → ⊥
gate_nets [] o zero bit at = not_constant o bit at
gate_nets [] o (suc place) bit at = none-some (Constant bit) at
gate_nets (x ∷ xs) o zero bit at = not_constant x bit at
gate_nets (x ∷ xs) o (suc place) bit at = gate_nets xs o place bit at

pub gate_fits : (library : List Cell) (count : ℕ) (kind : GateKind) (xs : List NetId) (o : NetId) → IsTrue (is_primitive kind) → TakesInputs kind (length xs) → All (λ net. net.0 < count) xs → o.0 < count →
    IsInstance library count (Some []) (Gate kind (length xs)) (at_nets xs ++ Net o ∷ [])
gate_fits library count kind xs o primitive takes there live = record {
  fits = (primitive, takes);
  width = gate_width xs o;
  live = gate_live count xs o there live;
  outputs = λ pin r bit at is there. gate_nets xs o pin bit there;
}

-- ---- cells that store a bit

role_live : (count : ℕ) (clock input output : NetId) (r : Role) → clock.0 < count → input.0 < count → output.0 < count → IsLive count (pin_between clock input output r)
role_live count clock input output role.Clock a b c = a
role_live count clock input output role.Din a b c = b
role_live count clock input output role.Output a b c = c
role_live count clock input output role.Input a b c = tt
role_live count clock input output role.Reset a b c = tt
role_live count clock input output role.Preset a b c = tt
role_live count clock input output role.ScanIn a b c = tt
role_live count clock input output role.ScanEnable a b c = tt
role_live count clock input output role.Inverted a b c = tt

role_constant : (clock input output : NetId) (r : Role) (bit : Bool) → Some (pin_between clock input output r) ≡ Some (Constant bit) → ⊥
role_constant clock input output role.Clock bit h = not_constant clock bit h
role_constant clock input output role.Din bit h = not_constant input bit h
role_constant clock input output role.Output bit h = not_constant output bit h
role_constant clock input output role.Input bit h = cc
role_constant clock input output role.Reset bit h = cc
role_constant clock input output role.Preset bit h = cc
role_constant clock input output role.ScanIn bit h = cc
role_constant clock input output role.ScanEnable bit h = cc
role_constant clock input output role.Inverted bit h = cc

store_live : (count : ℕ) (clock input output : NetId) (roles : List Role) → clock.0 < count → input.0 < count → output.0 < count → AreLive count (map (pin_between clock input output) roles)
store_live count clock input output [] a b c place signal at = absurd (none-some signal at)
store_live count clock input output (r ∷ roles) a b c zero signal at = subst (IsLive count) (same_Some (pin_between clock input output r) signal at) (role_live count clock input output r a b c)
store_live count clock input output (r ∷ roles) a b c (suc place) signal at = store_live count clock input output roles a b c place signal at

store_constant : (clock input output : NetId) (roles : List Role) (place : ℕ) (bit : Bool) → slice_get (map (pin_between clock input output) roles) place ≡ Some (Constant bit) → ⊥
store_constant clock input output [] place bit at = none-some (Constant bit) at
store_constant clock input output (r ∷ roles) zero bit at = role_constant clock input output r bit at
store_constant clock input output (r ∷ roles) (suc place) bit at = store_constant clock input output roles place bit at

pub store_fits : (library : List Cell) (count : ℕ) (cell : CellId) (clock input output : NetId) → cell.0 < length library → clock.0 < count → input.0 < count → output.0 < count →
    IsInstance library count (Some []) (Library cell) (pins_between library cell clock input output)
store_fits library count cell clock input output known a b c = record {
  fits = (known, refl);
  width = length-map (shape_of library (Library cell)).roles (pin_between clock input output);
  live = store_live count clock input output (shape_of library (Library cell)).roles a b c;
  outputs = λ pin r bit at is there. store_constant clock input output (shape_of library (Library cell)).roles pin bit there;
}
