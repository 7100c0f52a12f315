-- Declarations leave the gates of a module joined, and the bits that an expression gives are joined.
use Rattle.std.proofs.Common.{◌≡◌, ℕ, zero, suc, ◌+◌, ◌-◌, Bool, true, false, not, ◌&&◌, cond, nat_le, nat_lt, List, [], ◌∷◌, ◌++◌, length, map, is_some, Option, Some, None, Ok, Err, refl, ◌∙◌}
use Rattle.std.specs.List.{list_all}
use Rattle.std.proofs.lemmas.List.Folds.{list_all-append}
use Rattle.std.proofs.lemmas.Bool.{and_from}
use Rattle.dft_base.specs.declared.place.Range.{Range}
use Rattle.dft_base.specs.Lexing.{Text}
use Rattle.dft_base.specs.Parser.{Checked}
use Rattle.dft_cells.specs.declared.cell.Cell.{Cell}
use Rattle.dft_base.specs.declared.dir.Dir.{Dir}
use Rattle.dft_base.specs.Ranges.{width, has_index, place_in, has_part}
use Rattle.dft_netlist.specs.declared.instance.Signal.{Signal}
use Rattle.dft_netlist.specs.declared.instance.Signal.TheVariants as signal
use Rattle.dft_netlist.specs.declared.instance.Instance.{Instance}
use Rattle.dft_netlist_text.specs.declared.text.TokenKind.TheVariants as kind
use Rattle.dft_netlist_text.specs.declared.text.Fault.{Fault}
use Rattle.dft_netlist_text.specs.declared.text.Shape.{Shape}
use Rattle.dft_netlist_text.specs.declared.text.Select.{Select}
use Rattle.dft_netlist_text.specs.declared.text.Select.TheVariants as select
use Rattle.dft_netlist_text.specs.declared.text.Meaning.{Meaning}
use Rattle.dft_netlist_text.specs.declared.text.Meaning.TheVariants as meaning
use Rattle.dft_netlist_text.specs.declared.text.Declared.{Declared}
use Rattle.dft_netlist_text.specs.declared.text.Site.{Site}
use Rattle.dft_netlist.specs.declared.limits.TheConstants.{MAX_PORTS, MAX_NETS, MAX_INSTANCES}
use Rattle.dft_netlist_text.specs.Lexemes.{Token}
use Rattle.dft_netlist_text.specs.Steps.{left, sees, expect}
use Rattle.dft_netlist_text.specs.Modules.{Draft, meaning_of, is_taken, net_count, names_of_bits, first_taken, free_bits, with_bits, declare_nets, declared_at, port_place, announce, declare_found, declare_port, declare_new_port, same_range, repeat_port, declare_wire_as, declare_wire, room_for_instance, name_instance}
use Rattle.dft_netlist_text.specs.Expressions.{nets_of_shape, selected_in, selected, implies, is_whole, drives, SelectedName, Operand, fitting, implied_net, bits_of_port, bits_of_meaning, bits_of_name, selection, followed, constant, named_operand, constant_operand, operand, OpenConcatenations, unread, is_read, opening, closing, turn, concatenations_from, expression}
use Rattle.dft_netlist_text.proofs.ParserLemmas.{Yields, Gives, behind, passed, either, of_check, of_need}
use Rattle.dft_verilog_out.specs.Written.{is_joined}
use Rattle.dft_verilog_out.specs.Named.{is_joined_gate}

-- ---- outcomes

-- ---- what is joined

-- every pin of the gates among these instances is joined
abbrev pub AreJoined : List Instance → Type 0
AreJoined is = list_all is_joined_gate is ≡ true

-- the gates that a module has said are joined, and it is over these cells
abbrev pub IsJoinedDraft : List Cell → Draft → Type 0
IsJoinedDraft library d = AreJoined d.instances × (d.library ≡ library)

-- each of these bits is a net or a constant
abbrev pub AreBits : List Signal → Type 0
AreBits bits = list_all is_joined bits ≡ true

-- behind an expression the gates are joined, and its bits are nets and constants
abbrev pub IsJoinedOperand : List Cell → Operand → Type 0
IsJoinedOperand library o = IsJoinedDraft library o.0 × AreBits o.1

abbrev pub AreJoinedConcatenations : List Cell → Draft × OpenConcatenations → Type 0
AreJoinedConcatenations library p = IsJoinedDraft library p.0 × AreBits p.1.bits

pub all_behind : {X : Type 0} (p : X → Bool) (xs ys : List X) → list_all p xs ≡ true → list_all p ys ≡ true → list_all p (xs ++ ys) ≡ true
all_behind p xs ys h k = list_all-append p xs ys ∙ and_from (list_all p xs) (list_all p ys) h k

-- ---- declarations

refused_or : (library : List Cell) (b : Bool) (f : Fault) (next : Checked Fault Draft) → Gives (IsJoinedDraft library) next → Gives (IsJoinedDraft library) (cond b (Err f) next)
refused_or library true f next h = tt
refused_or library false f next h = h

bits_free : (library : List Cell) (place : ℕ) (o : Option Text) (next : Checked Fault Draft) → Gives (IsJoinedDraft library) next → Gives (IsJoinedDraft library) (free_bits place o next)
bits_free library place (Some word) next h = tt
bits_free library place None next h = h

bits_joined : (library : List Cell) (words : List Text) (d : Draft) → IsJoinedDraft library d → IsJoinedDraft library (with_bits words d)
bits_joined library [] d h = h
bits_joined library (word ∷ words) d h = bits_joined library words _ h

nets_joined : (library : List Cell) (place : ℕ) (word : Text) (range : Option Range) (d : Draft) → IsJoinedDraft library d → Gives (IsJoinedDraft library) (declare_nets place word range d)
nets_joined library place word range d h =
    refused_or library (is_taken d word) _ _ (bits_free library place (first_taken d (names_of_bits word range)) _
    (refused_or library (nat_lt MAX_NETS (length d.nets + net_count range)) _ _ (bits_joined library (names_of_bits word range) _ h)))

pub announce_joined : (library : List Cell) (place : ℕ) (word : Text) (d : Draft) → IsJoinedDraft library d → Gives (IsJoinedDraft library) (announce place word d)
announce_joined library place word d h = refused_or library (is_taken d word) _ _ (refused_or library (nat_le MAX_PORTS (length d.ports)) _ _ h)

pub new_port_joined : (library : List Cell) (place : ℕ) (word : Text) (dir : Dir) (range : Option Range) (d : Draft) → IsJoinedDraft library d → Gives (IsJoinedDraft library) (declare_new_port place word dir range d)
new_port_joined library place word dir range d h =
    refused_or library (is_taken d word) _ _ (bits_free library place (first_taken d (names_of_bits word range)) _
    (refused_or library (nat_le MAX_PORTS (length d.ports)) _ _ (refused_or library (nat_lt MAX_NETS (length d.nets + net_count range)) _ _ (bits_joined library (names_of_bits word range) _ h))))

found_joined : (library : List Cell) (place : ℕ) (word : Text) (dir : Dir) (range : Option Range) (d : Draft) (port : Option ℕ) → IsJoinedDraft library d → Gives (IsJoinedDraft library) (declare_found place word dir range d port)
found_joined library place word dir range d None h = tt
found_joined library place word dir range d (Some port) h =
    refused_or library (is_some (declared_at d port)) _ _ (bits_free library place (first_taken d (names_of_bits word range)) _
    (refused_or library (nat_lt MAX_NETS (length d.nets + net_count range)) _ _ (bits_joined library (names_of_bits word range) _ h)))

pub port_joined : (library : List Cell) (place : ℕ) (word : Text) (dir : Dir) (range : Option Range) (d : Draft) → IsJoinedDraft library d → Gives (IsJoinedDraft library) (declare_port place word dir range d)
port_joined library place word dir range d h = found_joined library place word dir range d (port_place (meaning_of d word)) h

or_refused : (library : List Cell) (b : Bool) (f : Fault) (next : Checked Fault Draft) → Gives (IsJoinedDraft library) next → Gives (IsJoinedDraft library) (cond b next (Err f))
or_refused library true f next h = h
or_refused library false f next h = tt

repeat_joined : (library : List Cell) (place : ℕ) (word : Text) (range : Option Range) (d : Draft) (port : ℕ) (declared : Option Declared) → IsJoinedDraft library d → Gives (IsJoinedDraft library) (repeat_port place word range d port declared)
repeat_joined library place word range d port None h = tt
repeat_joined library place word range d port (Some declared) h = or_refused library (same_range declared.shape.range range && not declared.repeated) _ _ h

wire_by : (library : List Cell) (place : ℕ) (word : Text) (range : Option Range) (d : Draft) (port : Option ℕ) → IsJoinedDraft library d → Gives (IsJoinedDraft library) (declare_wire_as place word range d port)
wire_by library place word range d None h = nets_joined library place word range d h
wire_by library place word range d (Some port) h = repeat_joined library place word range d port (declared_at d port) h

pub wire_joined : (library : List Cell) (place : ℕ) (word : Text) (range : Option Range) (d : Draft) → IsJoinedDraft library d → Gives (IsJoinedDraft library) (declare_wire place word range d)
wire_joined library place word range d h = wire_by library place word range d (port_place (meaning_of d word)) h

pub name_joined : (library : List Cell) (place : ℕ) (word : Text) (d : Draft) → IsJoinedDraft library d → Gives (IsJoinedDraft library) (name_instance place word d)
name_joined library place word d h = refused_or library (is_taken d word) _ _ (refused_or library (nat_le MAX_INSTANCES (length d.instances)) _ _ h)

pub room_joined : (library : List Cell) (place : ℕ) (d : Draft) → IsJoinedDraft library d → Gives (IsJoinedDraft library) (room_for_instance place d)
room_joined library place d h = refused_or library (nat_le MAX_INSTANCES (length d.instances)) _ _ h

-- ---- operands

nets_are : (first count : ℕ) → AreBits (nets_of_shape first count)
nets_are first zero = refl
nets_are first (suc count) = nets_are (suc first) count

constants_are : (bits : List Bool) → AreBits (map signal.Constant bits)
constants_are [] = refl
constants_are (bit ∷ bits) = constants_are bits

-- bits that are there are nets
abbrev IfBits : Option (List Signal) → Type 0
IfBits None = Unit {0}
IfBits (Some bits) = AreBits bits

bits_if : (b : Bool) (bits : List Signal) → AreBits bits → IfBits (cond b (Some bits) None)
bits_if true bits h = h
bits_if false bits h = tt

selected_are : (s : Shape) (what : Select) (range : Option Range) → IfBits (selected_in s what range)
selected_are s select.Whole None = nets_are s.first.0 1
selected_are s (select.Bit index) None = tt
selected_are s (select.Part part) None = tt
selected_are s select.Whole (Some r) = nets_are s.first.0 (width r)
selected_are s (select.Bit index) (Some r) = bits_if (has_index r index) _ (nets_are (s.first.0 + place_in r index) 1)
selected_are s (select.Part part) (Some r) = bits_if (has_part r part) _ (nets_are (s.first.0 + place_in r part.left) (suc (place_in r part.right - place_in r part.left)))

fitting_joined : (library : List Cell) (place : ℕ) (d : Draft) (bits : Option (List Signal)) → IsJoinedDraft library d → IfBits bits → Gives (IsJoinedOperand library) (fitting place d bits)
fitting_joined library place d None h k = tt
fitting_joined library place d (Some bits) h k = (h, k)

implied_joined : (library : List Cell) (named : SelectedName) (old : Draft) (new : Checked Fault Draft) → Gives (IsJoinedDraft library) new → Gives (IsJoinedOperand library) (implied_net named old new)
implied_joined library named old (Err f) h = tt
implied_joined library named old (Ok new) h = (h, nets_are (length old.nets) 1)

of_port : (library : List Cell) (named : SelectedName) (d : Draft) (declared : Option Declared) → IsJoinedDraft library d → Gives (IsJoinedOperand library) (bits_of_port named d declared)
of_port library named d None h = tt
of_port library named d (Some declared) h = fitting_joined library named.place d (selected declared.shape named.what) h (selected_are declared.shape named.what declared.shape.range)

of_meaning : (library : List Cell) (implied : Bool) (named : SelectedName) (d : Draft) (m : Option Meaning) → IsJoinedDraft library d → Gives (IsJoinedOperand library) (bits_of_meaning implied named d m)
of_meaning library implied named d (Some (meaning.Nets shape)) h = fitting_joined library named.place d (selected shape named.what) h (selected_are shape named.what shape.range)
of_meaning library implied named d (Some (meaning.Port port)) h = of_port library named d (declared_at d port) h
of_meaning library implied named d (Some meaning.Bit) h = tt
of_meaning library true named d (Some meaning.Instance) h = tt
of_meaning library false named d (Some meaning.Instance) h = tt
of_meaning library true named d None h = implied_joined library named d (declare_nets named.place named.word None d) (nets_joined library named.place named.word None d h)
of_meaning library false named d None h = tt

named_joined : (library : List Cell) (at : Site) (depth : ℕ) (d : Draft) → IsJoinedDraft library d → (ts : List Token) → Yields (IsJoinedOperand library) (named_operand at depth d ts)
unfolding named_operand
named_joined library at depth d h ts =
    passed (IsJoinedOperand library) (expect kind.Name ts) _ (λ word us.
    passed (IsJoinedOperand library) (selection us) _ (λ what vs.
    passed (IsJoinedOperand library) (followed at depth vs) _ (λ w ws.
    let named : SelectedName = record { word = word; what = what; place = left ts } in
    of_check (IsJoinedOperand library) (bits_of_name at depth named d) ws (of_meaning library (implies at depth && is_whole what) named d (meaning_of d word) h))))

constant_joined : (library : List Cell) (at : Site) (depth : ℕ) (d : Draft) → IsJoinedDraft library d → (ts : List Token) → Yields (IsJoinedOperand library) (constant_operand at depth d ts)
unfolding constant_operand
constant_joined library at depth d h ts =
    passed (IsJoinedOperand library) (constant ts) _ (λ bits us.
    passed (IsJoinedOperand library) (followed at depth us) _ (λ w vs. of_need (IsJoinedOperand library) _ (left ts) (not (drives at)) _ vs (h, constants_are bits)))

operand_joined : (library : List Cell) (at : Site) (depth : ℕ) (d : Draft) → IsJoinedDraft library d → (ts : List Token) → Yields (IsJoinedOperand library) (operand at depth d ts)
unfolding operand
operand_joined library at depth d h ts = either (IsJoinedOperand library) (sees kind.Number ts) _ _ (constant_joined library at depth d h ts) (named_joined library at depth d h ts)

-- ---- expressions

opening_joined : (library : List Cell) (at : Site) (d : Draft) (so_far : OpenConcatenations) → AreJoinedConcatenations library (d, so_far) → (ts : List Token) → Yields (AreJoinedConcatenations library) (opening at d so_far ts)
unfolding opening
opening_joined library at d so_far h ts =
    either (AreJoinedConcatenations library) (sees kind.OpenBrace ts) _ _ h
    (behind (IsJoinedOperand library) (AreJoinedConcatenations library) (operand at so_far.depth d ts) _ (operand_joined library at so_far.depth d h.0 ts) (λ o m us. (m.0, all_behind is_joined so_far.bits o.1 h.1 m.1)))

closing_joined : (library : List Cell) (d : Draft) (so_far : OpenConcatenations) → AreJoinedConcatenations library (d, so_far) → (ts : List Token) → Yields (AreJoinedConcatenations library) (closing d so_far ts)
unfolding closing
closing_joined library d so_far h ts = either (AreJoinedConcatenations library) (sees kind.Comma ts) _ _ h (passed (AreJoinedConcatenations library) (expect kind.CloseBrace ts) _ (λ w us. h))

turn_by : (library : List Cell) (awaits : Bool) (at : Site) (d : Draft) (so_far : OpenConcatenations) → AreJoinedConcatenations library (d, so_far) → (ts : List Token) → Yields (AreJoinedConcatenations library) ((cond awaits (opening at d so_far) (closing d so_far)) ts)
turn_by library true at d so_far h ts = opening_joined library at d so_far h ts
turn_by library false at d so_far h ts = closing_joined library d so_far h ts

concatenations_joined : (library : List Cell) (n : ℕ) (at : Site) (d : Draft) (so_far : OpenConcatenations) → AreJoinedConcatenations library (d, so_far) → (ts : List Token) → Yields (AreJoinedConcatenations library) (concatenations_from n at d so_far ts)
unfolding concatenations_from
concatenations_joined library zero at d so_far h ts = tt
concatenations_joined library (suc n) at d so_far h ts =
    either (AreJoinedConcatenations library) (is_read so_far) _ _ h
    (behind (AreJoinedConcatenations library) (AreJoinedConcatenations library) (turn at d so_far ts) _ (turn_by library so_far.awaits at d so_far h ts) (λ p m us. concatenations_joined library n at p.0 p.1 m us))

pub expression_joined : (library : List Cell) (at : Site) (d : Draft) → IsJoinedDraft library d → (ts : List Token) → Yields (IsJoinedOperand library) (expression at d ts)
unfolding expression
expression_joined library at d h ts =
    behind (AreJoinedConcatenations library) (IsJoinedOperand library) (concatenations_from (suc (left ts)) at d unread ts) _ (concatenations_joined library (suc (left ts)) at d unread (h, refl) ts) (λ p m us.
    passed (IsJoinedOperand library) (followed at 0 us) _ (λ w vs. m))
