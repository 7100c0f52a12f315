-- A scanned netlist keeps its design.
use Rattle.std.proofs.Common.{ℕ, zero, suc, ◌+◌, ◌≡◌, ◌≤◌, ◌⊎◌, inl, inr, Bool, true, false, List, [], ◌∷◌, ◌++◌, length, map, take, drop, Option, None, Some, is_some, option_map, option_and_then, find, slice_get, refl, sym, subst, ap, arith, ◌∙◌, append_assoc}
use Rattle.std.specs.Prelude.{if◌then◌else◌}
use Rattle.std.specs.List.{range_with_len, AllByRecursion}
use Rattle.std.proofs.lemmas.List.{length-map}
use Rattle.std.proofs.lemmas.Option.{none-some, same_Some}
use Rattle.dft_base.specs.Lexing.{Text}
use Rattle.dft_base.proofs.BitLemmas.{true_false}
use Rattle.dft_cells.specs.declared.kind.Role.{Role}
use Rattle.dft_cells.specs.declared.kind.Role.TheVariants.{Input, Clock, Din, Reset, Preset, ScanIn, ScanEnable, Output, Inverted}
use Rattle.dft_cells.specs.declared.cell.Cell.{Cell}
use Rattle.dft_cells.specs.declared.cell.CellId.{CellId}
use Rattle.dft_cells.specs.WellFormed.{is_scan_role}
use Rattle.dft_netlist.specs.declared.instance.CellRef.TheVariants.{Library}
use Rattle.dft_netlist.specs.declared.instance.Signal.{Signal}
use Rattle.dft_netlist.specs.declared.instance.Signal.TheVariants.{Net, Constant, Unconnected}
use Rattle.dft_netlist.specs.declared.instance.Instance.{Instance}
use Rattle.dft_netlist.specs.Connections.{joined_to, signal_of, same_role}
use Rattle.dft_netlist.specs.Drivers.{Connection, Shape, connections_from, kind_at, shape_of}
use Rattle.dft_netlist.specs.Names.{instance_name}
use Rattle.dft_netlist.specs.Netlist.{Netlist}
use Rattle.dft_config.specs.Config.{Config}
use Rattle.dft_rules.specs.declared.judged.Judged.{Judged}
use Rattle.dft_rules.specs.declared.judged.Judged.TheVariants.{Scanned, Unscanned}
use Rattle.dft_rules.specs.Refusals.{is_scanned}
use Rattle.dft_rules.specs.Rules.{judged, judged_by, may_be_scanned, clocked_by, are_held_at, is_kept, scan_cell_in, scan_cell_of}
use Rattle.dft_rules.proofs.ClockedFlops.{passes}
use Rattle.dft_parts.specs.Parts.{Part}
use Rattle.dft_parts.specs.Recipes.{nets_in}
use Rattle.dft_parts.specs.MadeNames.{made_net}
use Rattle.dft_parts.specs.Growth.{instances_in, made_names, names_of}
use Rattle.dft_parts.proofs.Growing.{parts_grow}
use Rattle.dft_scan_frame.specs.AddedPorts.{port_name, ports_from}
use Rattle.dft_scan_frame.specs.Keeping.{ArePinsKept, IsJoinedNow, IsPinKept, IsScanCellFor}
use Rattle.dft_scan_frame.specs.Moves.{Gap, moved_signal, moved_instance, at_net, map_from}
use Rattle.dft_scan_frame.specs.Statements.{IsReady}
use Rattle.dft_scan_frame.specs.Pins.{number_of}
use Rattle.dft_scan_frame.proofs.Pairs.{shared_roles}
use Rattle.dft_scan_frame.proofs.ScanPairs.{ScanPair}
use Rattle.dft_scan_frame.proofs.SoundParts.{pair_shared}
use Rattle.dft_scan_frame.proofs.WholeNames.{length_ports}
use Rattle.dft_insert.specs.declared.style.Style.{Style}
use Rattle.dft_insert.specs.Chained.{roles_of, scan_roles}
use Rattle.dft_insert.specs.Frame.{framed_pins, as_scan_cell, framed_instance, framed_at, frame}
use Rattle.dft_insert.specs.Ports.{added_ports, gap_in}
use Rattle.dft_insert.specs.Scanned.{framed}
use Rattle.dft_insert.specs.Statements.{scanned, made_in, KeepsDesign, AddsInOrder}
use Rattle.dft_insert.proofs.Chains.{IsChainPin, OnChains, parts_on}
use Rattle.dft_insert.proofs.Frames.{framed_width, scan_pair}
use Rattle.dft_insert.proofs.Joins.{joined_in, instance_stays, pin_kept, none_joined, joined_width}

-- ---- a role's pin by its number

-- the signal at a number, if there is one
abbrev signal_at : List Signal → Option ℕ → Option Signal
signal_at pins o = option_and_then (slice_get pins) o

number_by : (k : ℕ) (b : Bool) (o p : Option ℕ) → o ≡ option_map suc p → (if b then Some (suc k) else o) ≡ option_map suc (if b then Some k else p)
number_by k true o p e = refl
number_by k false o p e = e

numbered_on : (r : Role) (k : ℕ) (roles : List Role) → number_of (same_role r) (suc k) roles ≡ option_map suc (number_of (same_role r) k roles)
numbered_on r k [] = refl
numbered_on r k (x ∷ roles) = number_by k (same_role r x) (number_of (same_role r) (suc (suc k)) roles) (number_of (same_role r) (suc k) roles) (numbered_on r (suc k) roles)

later_signal : (x : Signal) (pins : List Signal) (o : Option ℕ) → signal_at (x ∷ pins) (option_map suc o) ≡ signal_at pins o
later_signal x pins None = refl
later_signal x pins (Some k) = refl

-- the first connection that passes, or one of the others
abbrev signal_or : Bool → Connection → (rest : Option Connection) → Option Signal
signal_or b c rest = option_map joined_to (if b then Some c else rest)

signal_by : (b : Bool) (c : Connection) (rest : Option Connection) (pins : List Signal) (o : Option ℕ) → option_map joined_to rest ≡ signal_at (c.to ∷ pins) o → signal_or b c rest ≡ signal_at (c.to ∷ pins) (if b then Some 0 else o)
signal_by true c rest pins o e = refl
signal_by false c rest pins o e = e

-- the pins of a cell are as many as its roles
signal_is : (r : Role) (first : ℕ) (roles : List Role) (pins : List Signal) → length pins ≡ length roles → signal_of r (connections_from first roles pins) ≡ signal_at pins (number_of (same_role r) 0 roles)
signal_is r first [] pins wide = refl
signal_is r first (x ∷ roles) [] wide = absurd (omega (arith, wide))
signal_is r first (x ∷ roles) (s ∷ pins) wide =
    signal_by (same_role r x) (record { role = x; pin = first; to = s }) (find (λ (c : Connection). same_role r c.role) (connections_from (suc first) roles pins)) pins (number_of (same_role r) 1 roles)
    (signal_is r (suc first) roles pins (omega (arith, wide)) ∙ sym (later_signal s pins (number_of (same_role r) 0 roles)) ∙ ap (signal_at (s ∷ pins)) (sym (numbered_on r 0 roles)))

-- ---- the frame's pins, by their roles

not_scan_in : (r : Role) → is_scan_role r ≡ false → same_role r ScanIn ≡ false
not_scan_in Input e = refl
not_scan_in Clock e = refl
not_scan_in Din e = refl
not_scan_in Reset e = refl
not_scan_in Preset e = refl
not_scan_in ScanIn e = absurd cc
not_scan_in ScanEnable e = refl
not_scan_in Output e = refl
not_scan_in Inverted e = refl

not_enable : (r : Role) → is_scan_role r ≡ false → same_role r ScanEnable ≡ false
not_enable Input e = refl
not_enable Clock e = refl
not_enable Din e = refl
not_enable Reset e = refl
not_enable Preset e = refl
not_enable ScanIn e = refl
not_enable ScanEnable e = absurd cc
not_enable Output e = refl
not_enable Inverted e = refl

same_by : (b : Bool) (c d : Connection) (ls rs : Option Connection) → c.to ≡ d.to → option_map joined_to ls ≡ option_map joined_to rs → signal_or b c ls ≡ signal_or b d rs
same_by true c d ls rs to e = ap Some to
same_by false c d ls rs to e = e

same_step : (r x : Role) (s : Signal) (k j : ℕ) (ls rs : List Connection) → signal_of r ls ≡ signal_of r rs → signal_of r (record { role = x; pin = k; to = s } ∷ ls) ≡ signal_of r (record { role = x; pin = j; to = s } ∷ rs)
same_step r x s k j ls rs e = same_by (same_role r x) (record { role = x; pin = k; to = s }) (record { role = x; pin = j; to = s }) (find (λ (c : Connection). same_role r c.role) ls) (find (λ (c : Connection). same_role r c.role) rs) refl e

passed_over : (r x : Role) (s : Signal) (k : ℕ) (ls : List Connection) → same_role r x ≡ false → signal_of r (record { role = x; pin = k; to = s } ∷ ls) ≡ signal_of r ls
passed_over r x s k ls e = ap (λ b. signal_or b (record { role = x; pin = k; to = s }) (find (λ (c : Connection). same_role r c.role) ls)) e

framed_signal : (r : Role) (e : Signal) (roles : List Role) (pins : List Signal) (k j : ℕ) → is_scan_role r ≡ false → length pins ≡ length (shared_roles roles) →
    signal_of r (connections_from k roles (framed_pins e roles pins)) ≡ signal_of r (connections_from j (shared_roles roles) pins)
framed_signal r e [] pins k j off wide = refl
framed_signal r e (ScanIn ∷ roles) pins k j off wide = passed_over r ScanIn Unconnected k (connections_from (suc k) roles (framed_pins e roles pins)) (not_scan_in r off) ∙ framed_signal r e roles pins (suc k) j off wide
framed_signal r e (ScanEnable ∷ roles) pins k j off wide = passed_over r ScanEnable e k (connections_from (suc k) roles (framed_pins e roles pins)) (not_enable r off) ∙ framed_signal r e roles pins (suc k) j off wide
framed_signal r e (Input ∷ roles) [] k j off wide = absurd (omega (arith, wide))
framed_signal r e (Clock ∷ roles) [] k j off wide = absurd (omega (arith, wide))
framed_signal r e (Din ∷ roles) [] k j off wide = absurd (omega (arith, wide))
framed_signal r e (Reset ∷ roles) [] k j off wide = absurd (omega (arith, wide))
framed_signal r e (Preset ∷ roles) [] k j off wide = absurd (omega (arith, wide))
framed_signal r e (Output ∷ roles) [] k j off wide = absurd (omega (arith, wide))
framed_signal r e (Inverted ∷ roles) [] k j off wide = absurd (omega (arith, wide))
framed_signal r e (Input ∷ roles) (s ∷ pins) k j off wide = same_step r Input s k j (connections_from (suc k) roles (framed_pins e roles pins)) (connections_from (suc j) (shared_roles roles) pins) (framed_signal r e roles pins (suc k) (suc j) off (omega (arith, wide)))
framed_signal r e (Clock ∷ roles) (s ∷ pins) k j off wide = same_step r Clock s k j (connections_from (suc k) roles (framed_pins e roles pins)) (connections_from (suc j) (shared_roles roles) pins) (framed_signal r e roles pins (suc k) (suc j) off (omega (arith, wide)))
framed_signal r e (Din ∷ roles) (s ∷ pins) k j off wide = same_step r Din s k j (connections_from (suc k) roles (framed_pins e roles pins)) (connections_from (suc j) (shared_roles roles) pins) (framed_signal r e roles pins (suc k) (suc j) off (omega (arith, wide)))
framed_signal r e (Reset ∷ roles) (s ∷ pins) k j off wide = same_step r Reset s k j (connections_from (suc k) roles (framed_pins e roles pins)) (connections_from (suc j) (shared_roles roles) pins) (framed_signal r e roles pins (suc k) (suc j) off (omega (arith, wide)))
framed_signal r e (Preset ∷ roles) (s ∷ pins) k j off wide = same_step r Preset s k j (connections_from (suc k) roles (framed_pins e roles pins)) (connections_from (suc j) (shared_roles roles) pins) (framed_signal r e roles pins (suc k) (suc j) off (omega (arith, wide)))
framed_signal r e (Output ∷ roles) (s ∷ pins) k j off wide = same_step r Output s k j (connections_from (suc k) roles (framed_pins e roles pins)) (connections_from (suc j) (shared_roles roles) pins) (framed_signal r e roles pins (suc k) (suc j) off (omega (arith, wide)))
framed_signal r e (Inverted ∷ roles) (s ∷ pins) k j off wide = same_step r Inverted s k j (connections_from (suc k) roles (framed_pins e roles pins)) (connections_from (suc j) (shared_roles roles) pins) (framed_signal r e roles pins (suc k) (suc j) off (omega (arith, wide)))

moved_by : (f : Signal → Signal) (b : Bool) (c d : Connection) (ls rs : Option Connection) → c.to ≡ f d.to → option_map joined_to ls ≡ option_map f (option_map joined_to rs) → signal_or b c ls ≡ option_map f (signal_or b d rs)
moved_by f true c d ls rs to e = ap Some to
moved_by f false c d ls rs to e = e

moved_signals : (gap : Gap) (r : Role) (roles : List Role) (pins : List Signal) (k : ℕ) → signal_of r (connections_from k roles (map (moved_signal gap) pins)) ≡ option_map (moved_signal gap) (signal_of r (connections_from k roles pins))
moved_signals gap r [] pins k = refl
moved_signals gap r (x ∷ roles) [] k = refl
moved_signals gap r (x ∷ roles) (s ∷ pins) k =
    moved_by (moved_signal gap) (same_role r x) (record { role = x; pin = k; to = moved_signal gap s }) (record { role = x; pin = k; to = s }) (find (λ (c : Connection). same_role r c.role) (connections_from (suc k) roles (map (moved_signal gap) pins)))
    (find (λ (c : Connection). same_role r c.role) (connections_from (suc k) roles pins)) refl (moved_signals gap r roles pins (suc k))

-- ---- which role a pin has

pub at_by : (r : Role) (k p : ℕ) (x : Role) (b : Bool) (o : Option ℕ) (rest : Role → Type 0) → same_role r x ≡ b → (if b then Some k else o) ≡ Some p → ((k ≡ p) × (same_role r x ≡ true)) ⊎ (o ≡ Some p)
at_by r k p x true o rest is e = inl (same_Some k p e, is)
at_by r k p x false o rest is e = inr e

pub past : (r : Role) (k p : ℕ) (roles : List Role) → number_of (same_role r) k roles ≡ Some p → k ≤ p
past r k p [] e = absurd (none-some p e)
past r k p (x ∷ roles) e = elim (at_by r k p x (same_role r x) (number_of (same_role r) (suc k) roles) (λ z. Unit {0}) refl e) [
  | inl it ↦ omega (arith, it.0)
  | inr more ↦ omega (arith, past r (suc k) p roles more)
]

-- the first pins of two roles that are one pin have a role that is both
pub record IsBoth (r q : Role) : Type 0 where
  pub role : Role
  pub one : same_role r role ≡ true
  pub other : same_role q role ≡ true

same_number : (r q : Role) (k p : ℕ) (roles : List Role) → number_of (same_role r) k roles ≡ Some p → number_of (same_role q) k roles ≡ Some p → IsBoth r q
same_number r q k p [] e f = absurd (none-some p e)
same_number r q k p (x ∷ roles) e f = elim (at_by r k p x (same_role r x) (number_of (same_role r) (suc k) roles) (λ z. Unit {0}) refl e) [
  | inl it ↦ elim (at_by q k p x (same_role q x) (number_of (same_role q) (suc k) roles) (λ z. Unit {0}) refl f) [
    | inl its ↦ record { role = x; one = it.1; other = its.1 }
    | inr more ↦ absurd (omega (arith, it.0, past q (suc k) p roles more))
  ]
  | inr more ↦ elim (at_by q k p x (same_role q x) (number_of (same_role q) (suc k) roles) (λ z. Unit {0}) refl f) [
    | inl its ↦ absurd (omega (arith, its.0, past r (suc k) p roles more))
    | inr less ↦ same_number r q (suc k) p roles more less
  ]
]

is_output_role : (x : Role) → same_role Output x ≡ true → x ≡ Output
is_output_role Output e = refl
is_output_role Input e = absurd cc
is_output_role Clock e = absurd cc
is_output_role Din e = absurd cc
is_output_role Reset e = absurd cc
is_output_role Preset e = absurd cc
is_output_role ScanIn e = absurd cc
is_output_role ScanEnable e = absurd cc
is_output_role Inverted e = absurd cc

as_output : (r : Role) → same_role r Output ≡ true → r ≡ Output
as_output Output e = refl
as_output Input e = absurd cc
as_output Clock e = absurd cc
as_output Din e = absurd cc
as_output Reset e = absurd cc
as_output Preset e = absurd cc
as_output ScanIn e = absurd cc
as_output ScanEnable e = absurd cc
as_output Inverted e = absurd cc

is_input_role : (x : Role) → same_role ScanIn x ≡ true → x ≡ ScanIn
is_input_role ScanIn e = refl
is_input_role Input e = absurd cc
is_input_role Clock e = absurd cc
is_input_role Din e = absurd cc
is_input_role Reset e = absurd cc
is_input_role Preset e = absurd cc
is_input_role Output e = absurd cc
is_input_role ScanEnable e = absurd cc
is_input_role Inverted e = absurd cc

output_alone : (r : Role) → IsBoth r Output → r ≡ Output
output_alone r both = as_output r (subst (λ (x : Role). same_role r x ≡ true) (is_output_role both.role both.other) both.one)

no_input : (r : Role) → is_scan_role r ≡ false → IsBoth r ScanIn → ⊥
no_input r off both = true_false (same_role r ScanIn) (subst (λ (x : Role). same_role r x ≡ true) (is_input_role both.role both.other) both.one) (not_scan_in r off)

-- ---- a scan cell

unmoved : (gap : Gap) (o : Option Signal) → option_map (moved_signal gap) o ≡ Some Unconnected → o ≡ Some Unconnected
unmoved gap None e = absurd cc
unmoved gap (Some (Net net)) e = absurd cc
unmoved gap (Some (Constant bit)) e = absurd cc
unmoved gap (Some Unconnected) e = refl

-- what is joined at the pin of a role, by its number
joined_by : (n : Netlist) (config : Config) (i : ℕ) (gap : Gap) (r : Role) (roles : List Role) (pins : List Signal) (parts : List Part) (o : Option ℕ) (before : Option Signal) → roles ≡ scan_roles n (record { 0 = i }) → is_scan_role r ≡ false → AllByRecursion (OnChains n config) parts →
    number_of (same_role r) 0 roles ≡ o → signal_at pins o ≡ option_map (moved_signal gap) before → IsPinKept gap r before (signal_at (joined_in parts i pins) o)
joined_by n config i gap r roles pins parts None before its off each is same = inl same
joined_by n config i gap r roles pins parts (Some p) before its off each is same = elim (pin_kept (IsChainPin n config) parts i pins p each) [
  | inl kept ↦ inl (kept ∙ same)
  | inr it ↦ elim it.1.role [
    | inl out ↦ inr (record {
      net = it.0;
      output = output_alone r (same_number r Output 0 p roles is (ap (number_of (same_role Output) 0) its ∙ sym out));
      before = unmoved gap before (sym same ∙ it.2);
      now = it.3;
    })
    | inr into ↦ absurd (no_input r off (same_number r ScanIn 0 p roles is (ap (number_of (same_role ScanIn) 0) its ∙ sym into)))
  ]
]

-- a scan cell in place of a flip-flop, when the parts are made
abbrev scan_cell_at : Netlist → Gap → (i : ℕ) → Instance → CellId → List Part → Instance
scan_cell_at n gap i x id parts = record {
  name = x.name;
  cell = Library id;
  pins = joined_in parts i (framed_pins (at_net gap.before) (shape_of n.library (Library id)).roles (map (moved_signal gap) x.pins));
}

scan_pins_kept : (n : Netlist) (config : Config) (gap : Gap) (i : ℕ) (x : Instance) (id : CellId) (parts : List Part) → scan_cell_in n.library x.cell ≡ Some id → slice_get n.instances i ≡ Some x → IsReady n config → AllByRecursion (OnChains n config) parts →
    ArePinsKept n gap x (scan_cell_at n gap i x id parts)
scan_pins_kept n config gap i x id parts names at ready each r off =
    let s : Shape = shape_of n.library x.cell in
    let t : Shape = shape_of n.library (Library id) in
    let pair : ScanPair s.kind s.roles t.kind t.roles = scan_pair n.library x.cell id names ready.library in
    let shared : s.roles ≡ shared_roles t.roles = pair_shared s.kind s.roles t.kind t.roles pair in
    let moved : List Signal = map (moved_signal gap) x.pins in
    let pins : List Signal = framed_pins (at_net gap.before) t.roles moved in
    let wide : length moved ≡ length (shared_roles t.roles) = length-map x.pins (moved_signal gap) ∙ (ready.netlist.instances i x at).width ∙ ap length shared in
    let its : t.roles ≡ scan_roles n (record { 0 = i }) = sym (ap (roles_of n.library) (ap (λ (o : Option Instance). option_and_then (λ (y : Instance). scan_cell_in n.library y.cell) o) at ∙ names)) in
    let before : Option Signal = signal_of r (connections_from 0 s.roles x.pins) in
    let was : signal_at pins (number_of (same_role r) 0 t.roles) ≡ option_map (moved_signal gap) before =
    sym (signal_is r 0 t.roles pins (framed_width (at_net gap.before) t.roles moved))
    ∙ framed_signal r (at_net gap.before) t.roles moved 0 0 off wide
    ∙ ap (λ (rs : List Role). signal_of r (connections_from 0 rs moved)) (sym shared)
    ∙ moved_signals gap r s.roles x.pins 0 in
    subst (IsPinKept gap r before) (sym (signal_is r 0 t.roles (joined_in parts i pins) (joined_width parts i pins ∙ framed_width (at_net gap.before) t.roles moved)))
    (joined_by n config i gap r t.roles pins parts (number_of (same_role r) 0 t.roles) before its off each refl was)

-- ---- instances of the frame

pub from_get : {A B : Type 0} (f : ℕ → A → B) (k : ℕ) (xs : List A) (i : ℕ) (x : A) → slice_get xs i ≡ Some x → slice_get (map_from f k xs) i ≡ Some (f (k + i) x)
from_get f k [] i x h = absurd (none-some x h)
from_get f k (y ∷ xs) zero x h = let e : k ≡ k + 0 = omega arith in ap (λ z. Some (f k z)) (same_Some y x h) ∙ ap (λ j. Some (f j x)) e
from_get f k (y ∷ xs) (suc i) x h = let e : suc k + i ≡ k + suc i = omega arith in from_get f (suc k) xs i x h ∙ ap (λ j. Some (f j x)) e

module _ (style : Style) (n : Netlist) (config : Config) (ready : IsReady n config) where
  abbrev parts : List Part
  parts = made_in style n config

  abbrev gap : Gap
  gap = gap_in style n config

  joins : AllByRecursion (OnChains n config) parts
  joins = parts_on style n config ready.range

  -- an instance of the design in the scanned netlist
  there : (i : ℕ) (x : Instance) → slice_get n.instances i ≡ Some x → slice_get (scanned style n config).instances i ≡ Some (record (framed_at n config gap i x) { pins = joined_in parts i (framed_at n config gap i x).pins })
  there i x at =
      let framed_x : Instance = framed_at n config gap i x in
      instance_stays (framed style n config) parts i framed_x (from_get (framed_at n config gap) 0 n.instances i x at ∙ ap (λ j. Some (framed_at n config gap j x)) (let e : 0 + i ≡ i = omega arith in e))

  other_kept : (i : ℕ) (x : Instance) → slice_get n.instances i ≡ Some x → is_scanned (judged n config i) ≡ false → slice_get (scanned style n config).instances i ≡ Some (moved_instance gap x)
  other_kept i x at off =
      there i x at
      ∙ ap (λ b. Some (record (framed_instance n.library gap b x) { pins = joined_in parts i (framed_instance n.library gap b x).pins })) off
      ∙ ap (λ (ps : List Signal). Some (record (moved_instance gap x) { pins = ps })) (none_joined (IsChainPin n config) parts i (moved_instance gap x).pins (λ p q. true_false (is_scanned (judged n config i)) q.scanned off) joins)

  scan_cell_there : (i : ℕ) (x : Instance) (id : CellId) → scan_cell_in n.library x.cell ≡ Some id → slice_get n.instances i ≡ Some x → is_scanned (judged n config i) ≡ true →
      slice_get (scanned style n config).instances i ≡ Some (scan_cell_at n gap i x id parts)
  scan_cell_there i x id names at on =
      there i x at
      ∙ ap (λ b. Some (record (framed_instance n.library gap b x) { pins = joined_in parts i (framed_instance n.library gap b x).pins })) on
      ∙ ap (λ (o : Option CellId). Some (record (as_scan_cell n.library gap x o) { pins = joined_in parts i (as_scan_cell n.library gap x o).pins })) names

  scan_kept_by : (i : ℕ) (x : Instance) (o : Option CellId) → scan_cell_in n.library x.cell ≡ o → is_some o ≡ true → slice_get n.instances i ≡ Some x → is_scanned (judged n config i) ≡ true →
      (new : Instance) × (slice_get (scanned style n config).instances i ≡ Some new) × IsScanCellFor n gap (scanned style n config) x new
  scan_kept_by i x None names some at on = absurd cc
  scan_kept_by i x (Some id) names some at on = (
    scan_cell_at n gap i x id parts,
    scan_cell_there i x id names at on,
    record { cell = id; name = refl; scan = names; is = refl; pins = λ r off. inl (scan_pins_kept n config gap i x id parts names at ready joins r off) },
  )

  pins_kept_by : (i : ℕ) (x new : Instance) (o : Option CellId) → scan_cell_in n.library x.cell ≡ o → is_some o ≡ true → slice_get n.instances i ≡ Some x → slice_get (scanned style n config).instances i ≡ Some new → is_scanned (judged n config i) ≡ true →
      ArePinsKept n gap x new
  pins_kept_by i x new None names some at is on = absurd cc
  pins_kept_by i x new (Some id) names some at is on =
      subst (ArePinsKept n gap x) (same_Some (scan_cell_at n gap i x id parts) new (sym (scan_cell_there i x id names at on) ∙ is)) (scan_pins_kept n config gap i x id parts names at ready joins)

-- a scanned flip-flop names a scan cell
scans_by : (n : Netlist) (config : Config) (i : ℕ) (b : Bool) → is_scanned (if b then judged_by (clocked_by n config i) (are_held_at n config i) (is_some (scan_cell_of n i)) (is_kept n config.keep i) else None) ≡ true → is_some (scan_cell_of n i) ≡ true
scans_by n config i false e = absurd cc
scans_by n config i true e = scanned_passes (judged_by (clocked_by n config i) (are_held_at n config i) (is_some (scan_cell_of n i)) (is_kept n config.keep i)) refl e
  where
    scanned_passes : (o : Option Judged) → judged_by (clocked_by n config i) (are_held_at n config i) (is_some (scan_cell_of n i)) (is_kept n config.keep i) ≡ o → is_scanned o ≡ true → is_some (scan_cell_of n i) ≡ true
    scanned_passes None is f = absurd cc
    scanned_passes (Some (Unscanned rule)) is f = absurd cc
    scanned_passes (Some (Scanned its falling)) is f = (passes (clocked_by n config i) (are_held_at n config i) (is_some (scan_cell_of n i)) (is_kept n config.keep i) its falling is).is_scan

pub scans_of : (n : Netlist) (config : Config) (i : ℕ) → is_scanned (judged n config i) ≡ true → is_some (scan_cell_of n i) ≡ true
scans_of n config i on = scans_by n config i (may_be_scanned (kind_at n i)) on

pub scanned_names : (n : Netlist) (config : Config) (i : ℕ) (x : Instance) → slice_get n.instances i ≡ Some x → is_scanned (judged n config i) ≡ true → is_some (scan_cell_in n.library x.cell) ≡ true
scanned_names n config i x at on = sym (ap (λ (o : Option Instance). is_some (option_and_then (λ (y : Instance). scan_cell_in n.library y.cell) o)) at) ∙ scans_of n config i on

-- the names of the frame's instances are the design's
cell_name : (library : List Cell) (gap : Gap) (x : Instance) (o : Option CellId) → instance_name (as_scan_cell library gap x o) ≡ instance_name x
cell_name library gap x None = refl
cell_name library gap x (Some id) = refl

framed_name : (library : List Cell) (gap : Gap) (b : Bool) (x : Instance) → instance_name (framed_instance library gap b x) ≡ instance_name x
framed_name library gap false x = refl
framed_name library gap true x = cell_name library gap x (scan_cell_in library x.cell)

names_from : (n : Netlist) (config : Config) (gap : Gap) (k : ℕ) (xs : List Instance) → names_of (map_from (framed_at n config gap) k xs) ≡ names_of xs
names_from n config gap k [] = refl
names_from n config gap k (x ∷ xs) =
    ap (λ (o : Option Text). o ∷ names_of (map_from (framed_at n config gap) (suc k) xs)) (framed_name n.library gap (is_scanned (judged n config k)) x) ∙ ap (λ (os : List (Option Text)). instance_name x ∷ os) (names_from n config gap (suc k) xs)

frame_names : (style : Style) (n : Netlist) (config : Config) → names_of (frame style n config).instances ≡ names_of n.instances
frame_names style n config = names_from n config (gap_in style n config) 0 n.instances

-- ---- the whole

pub adds_in_order : AddsInOrder
adds_in_order style n config =
    let made : List Part = made_in style n config in
    let grown = parts_grow (framed style n config) made in
    let before : ℕ = (gap_in style n config).before in
    let added : List Text = map port_name (added_ports style config) in
    let names : List Text = map made_net (range_with_len 0 (nets_in made)) in
    record {
      ports = grown.ports;
      nets = grown.nets ∙ append_assoc (take before n.nets) (added ++ drop before n.nets) names ∙ ap (λ xs. take before n.nets ++ xs) (append_assoc added (drop before n.nets) names);
      instances = grown.instances ∙ ap (λ xs. xs ++ made_names 0 (instances_in made)) (frame_names style n config);
    }

pub keeps_design : KeepsDesign
keeps_design style n config ready =
    let grown = parts_grow (framed style n config) (made_in style n config) in
    let added = adds_in_order style n config in record {
      design = record {
        name = grown.name;
        library = grown.library;
        ports = record { added = ports_from (gap_in style n config).before (added_ports style config); count = length_ports (gap_in style n config).before (added_ports style config); same = added.ports };
        nets = record { added = map port_name (added_ports style config); made = map made_net (range_with_len 0 (nets_in (made_in style n config))); count = length-map (added_ports style config) port_name; same = added.nets };
        joins = grown.joins;
        others = λ i x at off. other_kept style n config ready i x at off;
        scanned = λ i x at on. scan_kept_by style n config ready i x (scan_cell_in n.library x.cell) refl (scanned_names n config i x at on) at on;
      };
      pins = λ i old new at is on. pins_kept_by style n config ready i old new (scan_cell_in n.library old.cell) refl (scanned_names n config i old at on) at is on;
    }
