-- The pins that the search keeps tell the next values of flip-flops, and the nets that these take them from.
use Rattle.std.proofs.Common.{ℕ, ◌≡◌, Bool, true, false, List, [], ◌∷◌, ◌++◌, Option, None, Some, find, option_map, refl, sym, ap, ◌∙◌}
use Rattle.std.specs.Prelude.{if◌then◌else◌}
use Rattle.dft_base.specs.declared.tri.Tri.{Tri}
use Rattle.dft_cells.specs.declared.kind.Role.{Role}
use Rattle.dft_cells.specs.declared.kind.Role.TheVariants as role
use Rattle.dft_cells.specs.FlipFlops.{tri_chosen, tri_forced, tri_forced_where, tri_scanned}
use Rattle.dft_netlist.specs.declared.instance.Signal.{Signal}
use Rattle.dft_netlist.specs.declared.instance.Signal.TheVariants as signal
use Rattle.dft_netlist.specs.Netlist.{Netlist}
use Rattle.dft_netlist.specs.Connections.{joined_to, signal_of, same_role, pin_of}
use Rattle.dft_netlist.specs.Drivers.{Source, Connection, nets_of, pins_of, source_of}
use Rattle.dft_behavior.specs.Logic.{or_loose, scan_of}
use Rattle.dft_behavior.specs.Settled.{value_from}
use Rattle.dft_stitch.specs.Chains.{listed}
use Rattle.dft_capture.specs.Captures.{next_by_pins}
use Rattle.dft_seek.specs.Walks.{taken_nets}
use Rattle.dft_seek.specs.Pins.{ArePinsOf, forced_by, next_by, pin_nets, pin_value, taken, taken_by}
use Rattle.dft_seek.specs.declared.pins.Pins.{Pins}
use Rattle.dft_seek.proofs.PinLemmas.{nets-append}

-- ---- the first pin of a role

abbrev at_pin : (instance : ℕ) → Connection → Source
at_pin i c = source_of i c.pin c.to

abbrev found_pin : Role → List Connection → Option Connection
found_pin r pins = find (λ c. same_role r c.role) pins

pin_found : (r : Role) (i : ℕ) (pins : List Connection) → pin_of r i pins ≡ option_map (at_pin i) (found_pin r pins)
pin_found r i [] = refl
pin_found r i (c ∷ pins) = by (same_role r c.role) (pin_found r i pins)
  where
    by : (b : Bool) → pin_of r i pins ≡ option_map (at_pin i) (found_pin r pins) → (if b then Some (at_pin i c) else pin_of r i pins) ≡ option_map (at_pin i) (if b then Some c else found_pin r pins)
    by true below = refl
    by false below = below

-- ---- values

source_value : (values : ℕ → Tri) (i pin : ℕ) (to : Signal) → value_from values (source_of 0 0 to) ≡ value_from values (source_of i pin to)
source_value values i pin (signal.Net net) = refl
source_value values i pin (signal.Constant bit) = refl
source_value values i pin signal.Unconnected = refl

forced_found : (value : Bool) (values : ℕ → Tri) (i : ℕ) (o : Option Connection) (next : Tri) → forced_by value (option_map joined_to o) values next ≡ tri_forced_where value (option_map (at_pin i) o) (value_from values) next
forced_found value values i None next = refl
forced_found value values i (Some c) next = ap (λ (t : Tri). tri_forced value t next) (source_value values i c.pin c.to)

data_found : (values : ℕ → Tri) (i : ℕ) (o : Option Connection) → pin_value values (option_map joined_to o) ≡ value_from values (or_loose i (option_map (at_pin i) o))
data_found values i None = refl
data_found values i (Some c) = source_value values i c.pin c.to

taken_found : (values : ℕ → Tri) (i : ℕ) (enable scan : Option Connection) (data_in : Tri) →
    taken (option_map joined_to enable) (option_map joined_to scan) values data_in ≡ tri_scanned (scan_of (option_map (at_pin i) enable) (option_map (at_pin i) scan)) (value_from values) data_in
taken_found values i None scan data_in = refl
taken_found values i (Some c) None data_in = refl
taken_found values i (Some c) (Some d) data_in = λ t. tri_chosen (source_value values i c.pin c.to t) (source_value values i d.pin d.to t) data_in

-- the next value from these pins
abbrev next_from : (instance : ℕ) → (reset preset enable scan input : Option Connection) → (values : ℕ → Tri) → Tri
next_from i reset preset enable scan input values =
    tri_forced_where false (option_map (at_pin i) reset) (value_from values) (tri_forced_where true (option_map (at_pin i) preset) (value_from values)
    (tri_scanned (scan_of (option_map (at_pin i) enable) (option_map (at_pin i) scan)) (value_from values) (value_from values (or_loose i (option_map (at_pin i) input)))))

kept_next : (values : ℕ → Tri) (i : ℕ) (reset preset enable scan input : Option Connection) →
    forced_by false (option_map joined_to reset) values (forced_by true (option_map joined_to preset) values (taken (option_map joined_to enable) (option_map joined_to scan) values (pin_value values (option_map joined_to input))))
    ≡ next_from i reset preset enable scan input values
kept_next values i reset preset enable scan input =
    ap (λ (t : Tri). forced_by false (option_map joined_to reset) values (forced_by true (option_map joined_to preset) values (taken (option_map joined_to enable) (option_map joined_to scan) values t))) (data_found values i input)
    ∙ ap (λ (t : Tri). forced_by false (option_map joined_to reset) values (forced_by true (option_map joined_to preset) values t)) (taken_found values i enable scan (value_from values (or_loose i (option_map (at_pin i) input))))
    ∙ ap (λ (t : Tri). forced_by false (option_map joined_to reset) values t) (forced_found true values i preset _)
    ∙ forced_found false values i reset _

pub next_kept : (n : Netlist) (i : ℕ) (p : Pins) (values : ℕ → Tri) → ArePinsOf n i p → next_by p values ≡ next_by_pins n values i
next_kept n i p values are =
    (λ t. forced_by false (are.reset t) values (forced_by true (are.preset t) values (taken (are.enable t) (are.scan t) values (pin_value values (are.input t)))))
    ∙ kept_next values i (found_pin role.Reset (pins_of n i)) (found_pin role.Preset (pins_of n i)) (found_pin role.ScanEnable (pins_of n i)) (found_pin role.ScanIn (pins_of n i)) (found_pin role.Din (pins_of n i))
    ∙ sym (λ t. tri_forced_where false (pin_found role.Reset i (pins_of n i) t) (value_from values) (tri_forced_where true (pin_found role.Preset i (pins_of n i) t) (value_from values)
    (tri_scanned (scan_of (pin_found role.ScanEnable i (pins_of n i) t) (pin_found role.ScanIn i (pins_of n i) t)) (value_from values) (value_from values (or_loose i (pin_found role.Din i (pins_of n i) t))))))

-- ---- nets

source_nets : (i pin : ℕ) (to : Signal) → nets_of (source_of 0 0 to ∷ []) ≡ nets_of (source_of i pin to ∷ [])
source_nets i pin (signal.Net net) = refl
source_nets i pin (signal.Constant bit) = refl
source_nets i pin signal.Unconnected = refl

nets_found : (i : ℕ) (o : Option Connection) → pin_nets (option_map joined_to o) ≡ nets_of (listed (option_map (at_pin i) o))
nets_found i None = refl
nets_found i (Some c) = source_nets i c.pin c.to

pin_nets_of : (n : Netlist) (r : Role) (i : ℕ) (o : Option Signal) → o ≡ signal_of r (pins_of n i) → pin_nets o ≡ nets_of (listed (pin_of r i (pins_of n i)))
pin_nets_of n r i o is = ap pin_nets is ∙ nets_found i (found_pin r (pins_of n i)) ∙ sym (ap (λ (x : Option Source). nets_of (listed x)) (pin_found r i (pins_of n i)))

pub taken_kept : (n : Netlist) (i : ℕ) (p : Pins) → ArePinsOf n i p → taken_by p ≡ taken_nets n i
taken_kept n i p are =
    let input : List Source = listed (pin_of role.Din i (pins_of n i)) in
    let reset : List Source = listed (pin_of role.Reset i (pins_of n i)) in
    let preset : List Source = listed (pin_of role.Preset i (pins_of n i)) in
    (λ t. pin_nets_of n role.Din i p.input are.input t ++ (pin_nets_of n role.Reset i p.reset are.reset t ++ pin_nets_of n role.Preset i p.preset are.preset t))
    ∙ sym (nets-append input (reset ++ preset) ∙ ap (λ (nets : List ℕ). nets_of input ++ nets) (nets-append reset preset))
