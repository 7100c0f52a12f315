-- Gates can stand in a netlist.
use Rattle.std.proofs.Common.{◌≡◌, ℕ, zero, suc, ◌<◌, ◌≤◌, Bool, true, false, cond, IsTrue, List, [], ◌∷◌, ◌++◌, length, length-append, Option, Some, slice_get, Ok, Err, nat_le, refl, sym, ap, subst, ◌∙◌, arith, rules}
use Rattle.std.proofs.lemmas.Bool.Decides.{nat_tests}
use Rattle.dft_base.specs.Lexing.{Text}
use Rattle.dft_cells.specs.declared.kind.Gate.{Gate}
use Rattle.dft_cells.specs.declared.kind.Gate.TheVariants as primitive
use Rattle.dft_cells.specs.declared.kind.Role.{Role}
use Rattle.dft_cells.specs.declared.kind.Role.TheVariants as role
use Rattle.dft_cells.specs.WellFormed.{TakesInputs}
use Rattle.dft_cells.specs.Pins.{takes_inputs}
use Rattle.dft_netlist.specs.declared.instance.Signal.{Signal}
use Rattle.dft_netlist.specs.declared.instance.Signal.TheVariants as signal
use Rattle.dft_netlist.specs.declared.instance.CellRef.TheVariants as cell_ref
use Rattle.dft_netlist_text.specs.declared.text.Cause.TheVariants as cause
use Rattle.dft_netlist_text.specs.declared.text.Meaning.TheVariants as meaning
use Rattle.dft_netlist.specs.declared.error.Counted.TheVariants as counted
use Rattle.dft_netlist.specs.declared.limits.TheConstants.{MAX_INSTANCES}
use Rattle.dft_netlist.specs.Drivers.{gate_roles}
use Rattle.dft_netlist.specs.Sound.{IsLive, AreLive, is_primitive, is_output, NoConstantOutput, IsInstanceOf}
use Rattle.dft_netlist.proofs.SoundLemmas.{live_none, live_cons}
use Rattle.dft_netlist.proofs.PinLemmas.{length-gate_roles}
use Rattle.dft_netlist_text.specs.Steps.{fault}
use Rattle.dft_netlist_text.specs.Modules.{Draft, name_instance, room_for_instance, is_taken, with_name}
use Rattle.dft_netlist_text.specs.Items.{gate_instance}
use Rattle.dft_verilog_draft.specs.Drafts.{InstanceFits, nets_alone}
use Rattle.dft_verilog_draft.specs.Operands.{IsBit, AreBits}
use Rattle.dft_verilog_draft.proofs.OperandLemmas.{live_bit, bit_more, bits_more, grows_on, grows_not}

takes : (k : Gate) (n : ℕ) → IsTrue (is_primitive k) → takes_inputs k n ≡ true → TakesInputs k n
takes primitive.Buf n p h = grind (arith, nat_tests)
takes primitive.Inv n p h = grind (arith, nat_tests)
takes primitive.And n p h = grind (arith, nat_tests)
takes primitive.Nand n p h = grind (arith, nat_tests)
takes primitive.Or n p h = grind (arith, nat_tests)
takes primitive.Nor n p h = grind (arith, nat_tests)
takes primitive.Xor n p h = grind (arith, nat_tests)
takes primitive.Xnor n p h = grind (arith, nat_tests)
takes k n p h = absurd (search rules)

widths : (inputs : List Signal) (output : Signal) → length (inputs ++ output ∷ []) ≡ length (gate_roles (length inputs))
widths inputs output = length-append inputs (output ∷ []) ∙ omega (arith, length-gate_roles (length inputs))

live_pins : (count : ℕ) (inputs : List Signal) (output : Signal) → AreBits count false inputs → IsLive count output → AreLive count (inputs ++ output ∷ [])
live_pins count [] output h k = live_cons count output [] k (live_none count)
live_pins count (i ∷ inputs) output h k =
    live_cons count i (inputs ++ output ∷ []) (live_bit count false i (h 0 i (omega arith))) (live_pins count inputs output (λ at d below. h (suc at) d (omega arith)) k)

input_free : (r : Role) → Some role.Input ≡ Some r → is_output r ≡ true → ⊥
input_free r at out = let e : role.Input ≡ r = cc in let no : false ≡ true = ap is_output e ∙ out in cc

output_driven : (count : ℕ) (output : Signal) → IsBit count true output → NoConstantOutput (role.Output ∷ []) (output ∷ [])
output_driven count (signal.Net net) h zero r bit at out to = cc
output_driven count (signal.Constant b) h zero r bit at out to = h
output_driven count signal.Unconnected h zero r bit at out to = h
output_driven count output h (suc pin) r bit at out to = absurd (cc)

driven : (count : ℕ) (inputs : List Signal) (output : Signal) → IsBit count true output → (pin : ℕ) (r : Role) (bit : Bool) →
    slice_get (gate_roles (length inputs)) pin ≡ Some r → is_output r ≡ true → slice_get (inputs ++ output ∷ []) pin ≡ Some (signal.Constant bit) → ⊥
driven count [] output h pin r bit at out to = output_driven count output h pin r bit at out to
driven count (i ∷ inputs) output h zero r bit at out to = input_free r at out
driven count (i ∷ inputs) output h (suc pin) r bit at out to = driven count inputs output h pin r bit at out to

-- a gate of inputs that are bits, and an output that is driven, can stand among the nets
pub gate_fits : (d : Draft) (k : Gate) (word : Option Text) (inputs : List Signal) (output : Signal) → IsTrue (is_primitive k) → takes_inputs k (length inputs) ≡ true →
    AreBits (length d.nets) false inputs → IsBit (length d.nets) true output → InstanceFits (nets_alone d) (gate_instance k word output inputs)
gate_fits d k word inputs output p takes_them h o = record {
  fits = (p, takes k (length inputs) p takes_them);
  width = widths inputs output;
  live = live_pins (length d.nets) inputs output h (live_bit (length d.nets) true output o);
  outputs = driven (length d.nets) inputs output o;
}

-- and so where its parts are known by equations
pub gate_stands : (d : Draft) (k : Gate) (word : Option Text) (inputs pins : List Signal) (n : ℕ) (output : Signal) → n ≡ length inputs → pins ≡ inputs ++ output ∷ [] →
    IsTrue (is_primitive k) → takes_inputs k n ≡ true → AreBits (length d.nets) false inputs → IsBit (length d.nets) true output → IsInstanceOf (nets_alone d) word (cell_ref.Gate k n) pins
gate_stands d k word inputs pins n output count all p takes_them h o =
    subst (λ (m : ℕ). IsInstanceOf (nets_alone d) word (cell_ref.Gate k m) pins) (sym count)
    (subst (λ (x : List Signal). IsInstanceOf (nets_alone d) word (cell_ref.Gate k (length inputs)) x) (sym all)
    (gate_fits d k word inputs output p (ap (takes_inputs k) (sym count) ∙ takes_them) h o))

-- a gate has few inputs
pub few_inputs : (k : Gate) (n : ℕ) → IsTrue (is_primitive k) → takes_inputs k n ≡ true → n ≤ 8
few_inputs primitive.Buf n p h = grind (arith, nat_tests)
few_inputs primitive.Inv n p h = grind (arith, nat_tests)
few_inputs primitive.And n p h = grind (arith, nat_tests)
few_inputs primitive.Nand n p h = grind (arith, nat_tests)
few_inputs primitive.Or n p h = grind (arith, nat_tests)
few_inputs primitive.Nor n p h = grind (arith, nat_tests)
few_inputs primitive.Xor n p h = grind (arith, nat_tests)
few_inputs primitive.Xnor n p h = grind (arith, nat_tests)
few_inputs k n p h = absurd (search rules)

-- ---- the room for an instance

room_by : (t u : Bool) (place : ℕ) (word : Text) (d e : Draft) → nat_le MAX_INSTANCES (length d.instances) ≡ u →
    cond t (Err (fault (cause.Taken word) place)) (cond u (Err (fault (cause.Full counted.Instances) place)) (Ok (with_name word meaning.Instance d))) ≡ Ok e →
    (length e.instances < MAX_INSTANCES) × (e.library ≡ d.library)
room_by true u place word d e full h = absurd (cc)
room_by false true place word d e full h = absurd (cc)
room_by false false place word d e full h =
    let same : with_name word meaning.Instance d ≡ e = cc in
    let kept : length d.instances ≡ length e.instances = ap (λ (x : Draft). length x.instances) same in
    (grind (arith, nat_tests), sym (ap (λ (x : Draft). x.library) same))

-- behind the name of an instance there is room for it
pub named_room : (place : ℕ) (word : Text) (d e : Draft) → name_instance place word d ≡ Ok e → length e.instances < MAX_INSTANCES
named_room place word d e h = (room_by (is_taken d word) (nat_le MAX_INSTANCES (length d.instances)) place word d e refl h).0

-- and the cells are the same
pub named_library : (place : ℕ) (word : Text) (d e : Draft) → name_instance place word d ≡ Ok e → e.library ≡ d.library
named_library place word d e h = (room_by (is_taken d word) (nat_le MAX_INSTANCES (length d.instances)) place word d e refl h).1

unnamed_by : (u : Bool) (place : ℕ) (d e : Draft) → nat_le MAX_INSTANCES (length d.instances) ≡ u → cond u (Err (fault (cause.Full counted.Instances) place)) (Ok d) ≡ Ok e → length d.instances < MAX_INSTANCES
unnamed_by true place d e full h = absurd (cc)
unnamed_by false place d e full h = grind (arith, nat_tests)

pub unnamed_room : (place : ℕ) (d e : Draft) → room_for_instance place d ≡ Ok e → length d.instances < MAX_INSTANCES
unnamed_room place d e h = unnamed_by (nat_le MAX_INSTANCES (length d.instances)) place d e refl h

pub ruleset gates = (gate_fits, few_inputs, bit_more, bits_more, grows_on, grows_not)

pub ruleset naming = (named_room, unnamed_room, named_library)
