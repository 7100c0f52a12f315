-- The pins of a scan cell: where its scan input, its scan enable and its output stand, and what a pin that is joined to a net does.
use Rattle.std.proofs.Common.{ℕ, zero, suc, ◌+◌, ◌≡◌, Bool, true, false, List, [], ◌∷◌, ◌++◌, length, drop, None, Some, slice_get, refl, sym, subst, ap, arith, ◌∙◌}
use Rattle.std.specs.Prelude.{slice_index_or, if◌then◌else◌}
use Rattle.std.proofs.lemmas.Option.{none-some, same_Some}
use Rattle.dft_base.proofs.ListLemmas.{get_right}
use Rattle.dft_cells.specs.declared.kind.Kind.{Kind}
use Rattle.dft_cells.specs.declared.kind.Kind.TheVariants as kind
use Rattle.dft_cells.specs.declared.kind.Role.{Role}
use Rattle.dft_cells.specs.declared.kind.Role.TheVariants.{Input, Clock, Din, Reset, Preset, ScanIn, ScanEnable, Output, Inverted}
use Rattle.dft_cells.specs.FlipFlops.{is_flip_flop}
use Rattle.dft_netlist.specs.declared.ids.NetId.{NetId}
use Rattle.dft_netlist.specs.declared.instance.Signal.{Signal}
use Rattle.dft_netlist.specs.declared.instance.Signal.TheVariants as signal
use Rattle.dft_netlist.specs.Drivers.{Source, Driver, Driven, Flop, connections_from, source_of, at_role, driven_by_pins, driver_of_kind}
use Rattle.dft_netlist.specs.Connections.{same_role, pin_of}
use Rattle.dft_scan_frame.specs.Pins.{number_of}
use Rattle.dft_scan_frame.proofs.ScanPairs.{ScanPair, Plain, PlainBoth, Resets, ResetsBoth, Sets, SetsBoth}
use Rattle.dft_insert.specs.Frame.{framed_pins}
use Rattle.dft_insert.proofs.Keeping.{past}

-- ---- shapes

-- A scan cell, beside the roles of the flip-flop that it stands for: the numbers of its pins, and what they are joined to in the frame.
pub record IsScanShape (old : List Role) (k : Kind) (roles : List Role) : Type 0 where
  pub flop : is_flip_flop k ≡ true
  pub input : ℕ
  pub is_input : number_of (same_role ScanIn) 0 roles ≡ Some input
  pub enable : ℕ
  pub is_enable : number_of (same_role ScanEnable) 0 roles ≡ Some enable
  pub output : ℕ
  pub is_output : number_of (same_role Output) 0 roles ≡ Some output
  pub apart : input ≡ output → ⊥
  -- the output of the flip-flop
  pub before : ℕ
  pub is_before : number_of (same_role Output) 0 old ≡ Some before
  pub at_before : slice_get old before ≡ Some Output
  pub opened : (e : Signal) (pins : List Signal) → slice_get (framed_pins e roles pins) input ≡ Some signal.Unconnected
  pub enabled : (e : Signal) (pins : List Signal) → slice_get (framed_pins e roles pins) enable ≡ Some e
  pub shown : (e : Signal) (pins : List Signal) → slice_get (framed_pins e roles pins) output ≡ Some (slice_index_or pins before signal.Unconnected)

index_drop : (pins : List Signal) (k : ℕ) → slice_index_or (drop 1 pins) k signal.Unconnected ≡ slice_index_or pins (suc k) signal.Unconnected
index_drop [] k = refl
index_drop (x ∷ pins) k = refl

two_on : (pins : List Signal) → slice_index_or (drop 1 (drop 1 pins)) 0 signal.Unconnected ≡ slice_index_or pins 2 signal.Unconnected
two_on pins = index_drop (drop 1 pins) 0 ∙ index_drop pins 1

three_on : (pins : List Signal) → slice_index_or (drop 1 (drop 1 (drop 1 pins))) 0 signal.Unconnected ≡ slice_index_or pins 3 signal.Unconnected
three_on pins = index_drop (drop 1 (drop 1 pins)) 0 ∙ index_drop (drop 1 pins) 1 ∙ index_drop pins 2

apart_two : ◌≡◌ {A = ℕ} 2 4 → ⊥
apart_two e = omega (arith, e)

apart_three : ◌≡◌ {A = ℕ} 3 5 → ⊥
apart_three e = omega (arith, e)

pub scan_shape : (a : Kind) (r : List Role) (b : Kind) (s : List Role) → ScanPair a r b s → IsScanShape r b s
scan_shape _ _ _ _ Plain = record { flop = refl; input = 2; is_input = refl; enable = 3; is_enable = refl; output = 4; is_output = refl; apart = apart_two; before = 2; is_before = refl; at_before = refl; opened = λ e pins. refl; enabled = λ e pins. refl; shown = λ e pins. ap Some (two_on pins) }
scan_shape _ _ _ _ PlainBoth = record { flop = refl; input = 2; is_input = refl; enable = 3; is_enable = refl; output = 4; is_output = refl; apart = apart_two; before = 2; is_before = refl; at_before = refl; opened = λ e pins. refl; enabled = λ e pins. refl; shown = λ e pins. ap Some (two_on pins) }
scan_shape _ _ _ _ Resets = record { flop = refl; input = 3; is_input = refl; enable = 4; is_enable = refl; output = 5; is_output = refl; apart = apart_three; before = 3; is_before = refl; at_before = refl; opened = λ e pins. refl; enabled = λ e pins. refl; shown = λ e pins. ap Some (three_on pins) }
scan_shape _ _ _ _ ResetsBoth = record { flop = refl; input = 3; is_input = refl; enable = 4; is_enable = refl; output = 5; is_output = refl; apart = apart_three; before = 3; is_before = refl; at_before = refl; opened = λ e pins. refl; enabled = λ e pins. refl; shown = λ e pins. ap Some (three_on pins) }
scan_shape _ _ _ _ Sets = record { flop = refl; input = 3; is_input = refl; enable = 4; is_enable = refl; output = 5; is_output = refl; apart = apart_three; before = 3; is_before = refl; at_before = refl; opened = λ e pins. refl; enabled = λ e pins. refl; shown = λ e pins. ap Some (three_on pins) }
scan_shape _ _ _ _ SetsBoth = record { flop = refl; input = 3; is_input = refl; enable = 4; is_enable = refl; output = 5; is_output = refl; apart = apart_three; before = 3; is_before = refl; at_before = refl; opened = λ e pins. refl; enabled = λ e pins. refl; shown = λ e pins. ap Some (three_on pins) }

-- ---- a pin by its number

-- the number of a later pin of a role
later_number : (r : Role) (first j : ℕ) (roles : List Role) → number_of (same_role r) (suc first) roles ≡ Some (first + suc j) → number_of (same_role r) (suc first) roles ≡ Some (suc first + j)
later_number r first j roles is = let e : first + suc j ≡ suc first + j = omega arith in is ∙ ap Some e

-- from where the pin of a role takes its bit, by what holds of the later pins
number_by : (r : Role) (i first : ℕ) (roles : List Role) (t : Signal) (pins : List Signal) (s : Signal) (j : ℕ) (b : Bool) →
    ((k : ℕ) → slice_get pins k ≡ Some s → number_of (same_role r) (suc first) roles ≡ Some (suc first + k) → pin_of r i (connections_from (suc first) roles pins) ≡ Some (source_of i (suc first + k) s)) →
    slice_get (t ∷ pins) j ≡ Some s → (if b then Some first else number_of (same_role r) (suc first) roles) ≡ Some (first + j) →
    (if b then Some (source_of i first t) else pin_of r i (connections_from (suc first) roles pins)) ≡ Some (source_of i (first + j) s)
number_by r i first roles t pins s zero true more at is = ap (λ z. Some (source_of i first z)) (same_Some t s at) ∙ ap (λ m. Some (source_of i m s)) (same_Some first (first + zero) is)
number_by r i first roles t pins s (suc j) true more at is = absurd (let e = same_Some first (first + suc j) is in omega (arith, e))
number_by r i first roles t pins s zero false more at is = absurd (let e = past r (suc first) (first + zero) roles is in omega (arith, e))
number_by r i first roles t pins s (suc j) false more at is =
    let e : suc first + j ≡ first + suc j = omega arith in
    more j at (later_number r first j roles is) ∙ ap (λ m. Some (source_of i m s)) e

pub pin_number : (r : Role) (i first j : ℕ) (roles : List Role) (pins : List Signal) (s : Signal) → number_of (same_role r) first roles ≡ Some (first + j) → slice_get pins j ≡ Some s → pin_of r i (connections_from first roles pins) ≡ Some (source_of i (first + j) s)
pin_number r i first j [] pins s is at = absurd (none-some (first + j) is)
pin_number r i first j (x ∷ roles) [] s is at = absurd (none-some s at)
pin_number r i first j (x ∷ roles) (t ∷ pins) s is at = number_by r i first roles t pins s j (same_role r x) (λ k there its. pin_number r i (suc first) k roles pins s its there) at is

-- where it has no pin of this number, there is none
none_by : (r : Role) (i first : ℕ) (roles : List Role) (t : Signal) (pins : List Signal) (j : ℕ) (b : Bool) →
    ((k : ℕ) → slice_get pins k ≡ None → number_of (same_role r) (suc first) roles ≡ Some (suc first + k) → pin_of r i (connections_from (suc first) roles pins) ≡ None) →
    slice_get (t ∷ pins) j ≡ None → (if b then Some first else number_of (same_role r) (suc first) roles) ≡ Some (first + j) →
    (if b then Some (source_of i first t) else pin_of r i (connections_from (suc first) roles pins)) ≡ None
none_by r i first roles t pins zero b more at is = absurd (none-some t (sym at))
none_by r i first roles t pins (suc j) true more at is = absurd (let e = same_Some first (first + suc j) is in omega (arith, e))
none_by r i first roles t pins (suc j) false more at is = more j at (later_number r first j roles is)

pub pin_none : (r : Role) (i first j : ℕ) (roles : List Role) (pins : List Signal) → number_of (same_role r) first roles ≡ Some (first + j) → slice_get pins j ≡ None → pin_of r i (connections_from first roles pins) ≡ None
pin_none r i first j [] pins is at = refl
pin_none r i first j (x ∷ roles) [] is at = refl
pin_none r i first j (x ∷ roles) (t ∷ pins) is at = none_by r i first roles t pins j (same_role r x) (λ k there its. pin_none r i (suc first) k roles pins its there) at is

-- ---- an output drives its net

pub flop_drives : (k : Kind) (i : ℕ) (inverted : Bool) (ins : List Source) → is_flip_flop k ≡ true → driver_of_kind k i inverted ins ≡ Flop i inverted
flop_drives (kind.Flop flop) i inverted ins e = refl
flop_drives (kind.Gate gate) i inverted ins e = absurd cc
flop_drives kind.Lockup i inverted ins e = absurd cc
flop_drives kind.Opaque i inverted ins e = absurd cc

-- an output is listed with its net
abbrev pub Lists : List Driven → Driven → Type 0
Lists ds d = (m : ℕ) × (slice_get ds m ≡ Some d)

lists_behind : (xs ys : List Driven) (d : Driven) → Lists ys d → Lists (xs ++ ys) d
lists_behind xs ys d h = (length xs + h.0, get_right xs ys h.0 d h.1)

output_first : (k : Kind) (i : ℕ) (ins : List Source) (x : Role) (net : NetId) (rest : List Driven) → is_flip_flop k ≡ true → same_role Output x ≡ true → Lists (at_role x k i ins (signal.Net net) ++ rest) (net.0, Flop i false)
output_first k i ins Output net rest flop is = (0, ap (λ (d : Driver). Some (net.0, d)) (flop_drives k i false ins flop))
output_first k i ins Input net rest flop is = absurd cc
output_first k i ins Clock net rest flop is = absurd cc
output_first k i ins Din net rest flop is = absurd cc
output_first k i ins Reset net rest flop is = absurd cc
output_first k i ins Preset net rest flop is = absurd cc
output_first k i ins ScanIn net rest flop is = absurd cc
output_first k i ins ScanEnable net rest flop is = absurd cc
output_first k i ins Inverted net rest flop is = absurd cc

lists_by : (k : Kind) (i : ℕ) (ins : List Source) (first : ℕ) (x : Role) (roles : List Role) (t : Signal) (pins : List Signal) (net : NetId) (j : ℕ) (b : Bool) → (flop : is_flip_flop k ≡ true) → (its : same_role Output x ≡ b) →
    (more : ((m : ℕ) → slice_get pins m ≡ Some (signal.Net net) → number_of (same_role Output) (suc first) roles ≡ Some (suc first + m) → Lists (driven_by_pins k i ins (connections_from (suc first) roles pins)) (net.0, Flop i false))) →
    (at : slice_get (t ∷ pins) j ≡ Some (signal.Net net)) → (is : (if b then Some first else number_of (same_role Output) (suc first) roles) ≡ Some (first + j)) →
    Lists (at_role x k i ins t ++ driven_by_pins k i ins (connections_from (suc first) roles pins)) (net.0, Flop i false)
lists_by k i ins first x roles t pins net zero true flop its more at is =
    subst (λ (z : Signal). Lists (at_role x k i ins z ++ driven_by_pins k i ins (connections_from (suc first) roles pins)) (net.0, Flop i false)) (sym (same_Some t (signal.Net net) at))
    (output_first k i ins x net (driven_by_pins k i ins (connections_from (suc first) roles pins)) flop its)
lists_by k i ins first x roles t pins net (suc j) true flop its more at is = absurd (let e = same_Some first (first + suc j) is in omega (arith, e))
lists_by k i ins first x roles t pins net zero false flop its more at is = absurd (let e = past Output (suc first) (first + zero) roles is in omega (arith, e))
lists_by k i ins first x roles t pins net (suc j) false flop its more at is =
    lists_behind (at_role x k i ins t) (driven_by_pins k i ins (connections_from (suc first) roles pins)) (net.0, Flop i false) (more j at (later_number Output first j roles is))

pub output_lists : (k : Kind) (i : ℕ) (ins : List Source) (first j : ℕ) (roles : List Role) (pins : List Signal) (net : NetId) → is_flip_flop k ≡ true → number_of (same_role Output) first roles ≡ Some (first + j) → slice_get pins j ≡ Some (signal.Net net) →
    Lists (driven_by_pins k i ins (connections_from first roles pins)) (net.0, Flop i false)
output_lists k i ins first j [] pins net flop is at = absurd (none-some (first + j) is)
output_lists k i ins first j (x ∷ roles) [] net flop is at = absurd (none-some (signal.Net net) at)
output_lists k i ins first j (x ∷ roles) (t ∷ pins) net flop is at =
    lists_by k i ins first x roles t pins net j (same_role Output x) flop refl (λ m there its. output_lists k i ins (suc first) m roles pins net flop its there) at is
