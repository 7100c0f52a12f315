-- The one bit that a name gives.
use Rattle.std.proofs.Common.{◌≡◌, ℕ, ◌<◌, Bool, List, [], length, Option, Some, None, Ok, Err, ◌&&◌, refl, sym, ap, ◌∙◌, arith}
use Rattle.std.specs.Prelude.{IfSome}
use Rattle.dft_base.specs.declared.place.Range.{Range}
use Rattle.dft_base.specs.Parser.{Checked}
use Rattle.dft_netlist.specs.declared.ids.NetId.{NetId}
use Rattle.dft_netlist.specs.declared.instance.Signal.{Signal}
use Rattle.dft_netlist.specs.declared.instance.Signal.TheVariants as signal
use Rattle.dft_netlist_text.specs.declared.text.Fault.{Fault}
use Rattle.dft_netlist_text.specs.declared.text.Meaning.{Meaning}
use Rattle.dft_netlist_text.specs.declared.text.Meaning.TheVariants as meaning
use Rattle.dft_netlist_text.specs.declared.text.Select.{Select}
use Rattle.dft_netlist_text.specs.declared.text.Select.TheVariants as select
use Rattle.dft_netlist_text.specs.declared.text.Shape.{Shape}
use Rattle.dft_netlist_text.specs.declared.text.Site.{Site}
use Rattle.dft_netlist_text.specs.Modules.{Draft, meaning_of, net_count}
use Rattle.dft_netlist_text.specs.Expressions.{SelectedName, Operand, selected_in, fitting, bits_of_meaning, bits_of_name, implies, is_whole}
use Rattle.dft_lexing.specs.declared.read_error.ReadError.TheVariants as error
use Rattle.dft_verilog_tokens.specs.Reading.{Checks, ReadError}
use Rattle.dft_verilog_draft.specs.Drafts.{IsShapeWithin, IsMeaningWithin}
use Rattle.dft_verilog_draft.specs.Selects.{behind_bits, lone, lone_of, lone_net, net_of_scalar}

-- ---- the net of a name without a range

abbrev Gives : ℕ → Draft → Checked Fault Operand → NetId → Type 0
Gives place d r net = (lone place r ≡ Ok (d, signal.Net net)) × (net.0 < length d.nets)

of_scalar : (place at : ℕ) (d : Draft) (shape : Shape) (what : Select) (range : Option Range) (net : NetId) → shape.range ≡ range → what ≡ select.Whole → net_of_scalar range shape.first ≡ Some net
    → IsShapeWithin (length d.nets) shape → Gives place d (fitting at d (selected_in shape what range)) net
of_scalar place at d shape what None net is whole e within =
    let same : shape.first ≡ net = cc in (
      ap (λ (w : Select). lone place (fitting at d (selected_in shape w None))) whole ∙ ap (λ (n : NetId). Ok (d, signal.Net n)) same,
      omega (arith, within, ap net_count is, ap (λ (n : NetId). n.0) same),
    )
of_scalar place at d shape what (Some range) net is whole e within = absurd (cc)

of_meaning : (place : ℕ) (may : Bool) (named : SelectedName) (d : Draft) (m : Option Meaning) (what : Select) (net : NetId) → named.what ≡ what → lone_net m what ≡ Some net
    → IfSome m (IsMeaningWithin (length d.nets)) → Gives place d (bits_of_meaning may named d m) net
of_meaning place may named d (Some (meaning.Nets shape)) select.Whole net is e within = of_scalar place named.place d shape named.what shape.range net refl is e within
of_meaning place may named d (Some (meaning.Nets shape)) (select.Bit index) net is e within = absurd (cc)
of_meaning place may named d (Some (meaning.Nets shape)) (select.Part part) net is e within = absurd (cc)
of_meaning place may named d (Some (meaning.Port port)) what net is e within = absurd (cc)
of_meaning place may named d (Some meaning.Bit) what net is e within = absurd (cc)
of_meaning place may named d (Some meaning.Instance) what net is e within = absurd (cc)
of_meaning place may named d None what net is e within = absurd (cc)

-- a name without a range gives its net
pub lone_scalar : (place : ℕ) (at : Site) (depth : ℕ) (named : SelectedName) (d : Draft) (m : Option Meaning) (net : NetId) → m ≡ meaning_of d named.word → lone_net m named.what ≡ Some net
    → IfSome m (IsMeaningWithin (length d.nets)) → Gives place d (bits_of_name at depth named d) net
lone_scalar place at depth named d m net is e within =
    let may = implies at depth && is_whole named.what in
    let given = of_meaning place may named d m named.what net refl e within in
    (ap (λ (x : Option Meaning). lone place (bits_of_meaning may named d x)) (sym is) ∙ given.0, given.1)

-- ---- the one bit of a list

behind_none : (r : Checked Fault Operand) → behind_bits [] r ≡ r
behind_none (Ok o) = refl
behind_none (Err f) = refl

pub lone-made : (place : ℕ) (r : Checked Fault Operand) (d : Draft) (bits : List Signal) → behind_bits [] r ≡ Ok (d, bits) → lone place r ≡ lone_of place d bits
lone-made place r d bits made = ap (lone place) (sym (behind_none r) ∙ made)

pub lone-refused : {X Y : Type 0} (place : ℕ) (view : X → Operand) (shown : Y → Draft × Signal) (before : List Signal) (r : Checked Fault Operand) (e : ReadError) → before ≡ []
    → Checks view (behind_bits before r) (Err e) → Checks shown (lone place r) (Err e)
lone-refused place view shown before r (error.Fault f) none h = ap (lone place) (sym (ap (λ (b : List Signal). behind_bits b r) none ∙ behind_none r) ∙ h)
lone-refused place view shown before r (error.Memory failed) none h = tt
