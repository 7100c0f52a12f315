-- A test of lists is true of each member; so a netlist whose gates pass the test can be written.
use native.Mathlib.Omega.{arith}
use Rattle.std.specs.Prelude.{ℕ, zero, suc, ◌≡◌, Bool, true, List, [], ◌∷◌, Option, Some, slice_get}
use Rattle.std.specs.List.{list_all}
use Rattle.dft_netlist.specs.declared.instance.Signal.{Signal}
use Rattle.dft_netlist.specs.declared.instance.Signal.TheVariants.{Net, Constant, Unconnected}
use Rattle.dft_netlist.specs.declared.instance.CellRef.{CellRef}
use Rattle.dft_netlist.specs.declared.instance.CellRef.TheVariants.{Library, Gate}
use Rattle.dft_netlist.specs.Netlist.{Netlist}
use Rattle.dft_netlist.specs.Sound.{IsConnected}
use Rattle.dft_verilog_out.specs.Written.{is_joined}
use Rattle.dft_verilog_out.specs.Named.{IsJoinedGate, GatesAreJoined, joins_its_pins, is_joined_gate}

-- a test that is true of all is true of each
pub list_all-each : {X : Type 0} (p : X → Bool) (xs : List X) (k : ℕ) (x : X) → list_all p xs ≡ true → slice_get xs k ≡ Some x → p x ≡ true
list_all-each p [] k x h at = grind arith
list_all-each p (y ∷ ys) zero x h at = grind arith
list_all-each p (y ∷ ys) (suc k) x h at = list_all-each p ys k x (grind arith) (grind arith)

pub is_joined-connected : (to : Signal) → is_joined to ≡ true → IsConnected to
is_joined-connected (Net net) h = _
is_joined-connected (Constant bit) h = _
is_joined-connected Unconnected h = absurd (cc)

joins_its_pins-fact : (cell : CellRef) (name : Option (List ℕ)) (pins : List Signal) → joins_its_pins cell pins ≡ true → IsJoinedGate (record { name = name; cell = cell; pins = pins })
joins_its_pins-fact (Library id) name pins h = _
joins_its_pins-fact (Gate kind inputs) name pins h = λ pin to at. is_joined-connected to (list_all-each is_joined pins pin to h at)

pub gates_joined : (n : Netlist) → list_all is_joined_gate n.instances ≡ true → GatesAreJoined n
gates_joined n h = λ place i at. joins_its_pins-fact i.cell i.name i.pins (list_all-each is_joined_gate n.instances place i h at)
