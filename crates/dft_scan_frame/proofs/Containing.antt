-- A scanned netlist contains its design.
use Rattle.std.proofs.Common.{ℕ, zero, suc, ◌≡◌, ◌<◌, inl, inr, Bool, true, false, option_and_then, List, ◌∷◌, length, map, Option, None, Some, is_some, slice_get, refl, sym, subst, ap, ◌∙◌, [], not, ◌++◌}
use Rattle.std.specs.Prelude.{if◌then◌else◌}
use Rattle.std.specs.List.{list_any}
use Rattle.std.proofs.lemmas.Bool.{or_from}
use Rattle.dft_base.specs.Lexing.{Text}
use Rattle.dft_base.proofs.NumberLemmas.{less_apart}
use Rattle.dft_cells.specs.declared.kind.Kind.{Kind}
use Rattle.dft_cells.specs.declared.kind.Kind.TheVariants as kind
use Rattle.dft_cells.specs.declared.kind.Forcing.{Forcing}
use Rattle.dft_cells.specs.declared.kind.Forcing.TheVariants as force
use Rattle.dft_cells.specs.declared.kind.Role.{Role}
use Rattle.dft_cells.specs.declared.kind.Role.TheVariants as role
use Rattle.dft_cells.specs.declared.cell.Cell as library_cells
use Rattle.dft_cells.specs.FlipFlops.{is_flip_flop}
use Rattle.dft_cells.specs.WellFormed.{IsWellFormed, HasRoles, front_roles, role_of}
use Rattle.dft_netlist.specs.declared.ids.NetId.{NetId}
use Rattle.dft_netlist.specs.declared.instance.Signal.{Signal}
use Rattle.dft_netlist.specs.declared.instance.CellRef.{CellRef}
use Rattle.dft_netlist.specs.declared.instance.CellRef.TheVariants as cell_ref
use Rattle.dft_netlist.specs.declared.instance.Instance.{Instance}
use Rattle.dft_netlist.specs.Netlist.{Netlist}
use Rattle.dft_netlist.specs.Sound.{bits_of}
use Rattle.dft_netlist.specs.Drivers.{Source, Connection, connections_from, shape_of, shape_of_cell, gate_roles, kind_of, pins_at, AreBelow, driver}
use Rattle.dft_netlist.specs.Drivers as drivers
use Rattle.dft_behavior.specs.Logic.{Ports, Meaning, Cell, modelled_of, flip_flop, cell_or_none, flop_meaning, meaning_of, reads}
use Rattle.dft_behavior.specs.Logic as logic
use Rattle.dft_netlist.specs.Names.{find_net}
use Rattle.dft_config.specs.Config.{Config}
use Rattle.dft_netlist.specs.Connections.{is_input, input_net, same_role, pin_of}
use Rattle.dft_behavior.proofs.SettledLemmas.{no_flop}
use Rattle.dft_rules.specs.Rules.{is_net}
use Rattle.dft_chains.specs.ScanOff.{moved_meaning, Places, KeepsFlop}
use Rattle.dft_scan_frame.specs.ConfigPorts.{config_ports}
use Rattle.dft_scan_frame.specs.Statements.{IsReady}
use Rattle.dft_scan_frame.proofs.ScanPairs.{ScanPair}
use Rattle.dft_scan_frame.proofs.ScanPairs as pairs
use Rattle.dft_scan_frame.proofs.Fine.{is_plain, FineBy, driver_fine}
use Rattle.dft_scan_frame.proofs.Contained.{AreMatched}

-- ---- a flip-flop before scan has no scan pin

abbrev pub NoRole : Role → List Role → Type 0
NoRole r [] = Unit {0}
NoRole r (x ∷ roles) = (same_role r x ≡ false) × NoRole r roles

none_by : (i : ℕ) (r : Role) (c : Connection) (rest : Option Source) (b : Bool) → b ≡ false → rest ≡ None → (if b then Some (drivers.source_of i c.pin c.to) else rest) ≡ None
none_by i r c rest false e h = h
none_by i r c rest true e h = absurd cc

pub no_pin : (r : Role) (i pin : ℕ) (roles : List Role) (signals : List Signal) → NoRole r roles → pin_of r i (connections_from pin roles signals) ≡ None
no_pin r i pin [] signals h = refl
no_pin r i pin (x ∷ roles) [] h = refl
no_pin r i pin (x ∷ roles) (s ∷ signals) h =
    none_by i r (record { role = x; pin = pin; to = s }) (pin_of r i (connections_from (suc pin) roles signals)) (same_role r x) h.0 (no_pin r i (suc pin) roles signals h.1)

gate_no_role : (inputs : ℕ) → NoRole role.ScanEnable (gate_roles inputs)
gate_no_role zero = (refl, tt)
gate_no_role (suc inputs) = (refl, gate_no_role inputs)

front_no_role : (its : Forcing) (rest : List Role) → NoRole role.ScanEnable rest → NoRole role.ScanEnable (front_roles (record { force = its; scan = false }) ++ rest)
front_no_role force.Nothing rest h = (refl, (refl, h))
front_no_role force.Reset rest h = (refl, (refl, (refl, h)))
front_no_role force.Set rest h = (refl, (refl, (refl, h)))

plain_no_role : (its : Forcing) (scan : Bool) (roles : List Role) → not scan ≡ true → HasRoles (kind.Flop (record { force = its; scan = scan })) roles → NoRole role.ScanEnable roles
plain_no_role its true roles a has = absurd cc
plain_no_role its false roles a has = elim has [
  | inl e ↦ subst (NoRole role.ScanEnable) (sym e) (front_no_role its (role.Output ∷ []) (refl, tt))
  | inr e ↦ subst (NoRole role.ScanEnable) (sym e) (front_no_role its (role.Output ∷ role.Inverted ∷ []) (refl, (refl, tt)))
]

flop_no_role : (k : Kind) (roles : List Role) → is_plain k ≡ true → is_flip_flop k ≡ true → HasRoles k roles → NoRole role.ScanEnable roles
flop_no_role (kind.Flop flop) roles a b has = plain_no_role flop.force flop.scan roles a has
flop_no_role (kind.Gate gate) roles a b has = absurd cc
flop_no_role kind.Lockup roles a b has = absurd cc
flop_no_role kind.Opaque roles a b has = absurd cc

cell_no_role : (library : List library_cells.Cell) (number : ℕ) (o : Option library_cells.Cell) → IsWellFormed library → slice_get library number ≡ o → is_plain (shape_of_cell o).kind ≡ true → is_flip_flop (shape_of_cell o).kind ≡ true → NoRole role.ScanEnable (shape_of_cell o).roles
cell_no_role library number None whole at a b = absurd cc
cell_no_role library number (Some cell) whole at a b = flop_no_role cell.kind (map role_of cell.pins) a b (whole.each number cell at).roles

pub ref_no_role : (library : List library_cells.Cell) (ref : CellRef) → IsWellFormed library → is_plain (shape_of library ref).kind ≡ true → is_flip_flop (shape_of library ref).kind ≡ true → NoRole role.ScanEnable (shape_of library ref).roles
ref_no_role library (cell_ref.Library cell) whole a b = cell_no_role library cell.0 (slice_get library cell.0) whole refl a b
ref_no_role library (cell_ref.Gate k inputs) whole a b = gate_no_role inputs

-- ---- an instance and how it is written

-- the modelled flip-flop that an instance is, if it is one
abbrev pub flop_in : Netlist → Ports → (i : ℕ) → Option Instance → Option Cell
flop_in n ports i o = if is_flip_flop (kind_of n.library o) then modelled_of n ports i (pins_at n.library o) else None

pub match_if : (p : Places) (b c : Bool) (old new : Option Cell) → c ≡ b → (b ≡ true → AreMatched p old new) → AreMatched p (if b then old else None) (if c then new else None)
match_if p true true old new e h = h refl
match_if p false false old new e h = tt
match_if p true false old new e h = absurd cc
match_if p false true old new e h = absurd cc

pub scan_kinds : (a : Kind) (r : List Role) (b : Kind) (s : List Role) → ScanPair a r b s → is_flip_flop b ≡ is_flip_flop a
scan_kinds _ _ _ _ pairs.Plain = refl
scan_kinds _ _ _ _ pairs.PlainBoth = refl
scan_kinds _ _ _ _ pairs.Resets = refl
scan_kinds _ _ _ _ pairs.ResetsBoth = refl
scan_kinds _ _ _ _ pairs.Sets = refl
scan_kinds _ _ _ _ pairs.SetsBoth = refl

-- ---- nets

pub flop_matched : (p : Places) (i : ℕ) (inverted : Bool) (old new : Option Cell) → AreMatched p old new → flop_meaning i inverted new ≡ moved_meaning p.moved (flop_meaning i inverted old)
flop_matched p i inverted None None h = refl
flop_matched p i inverted (Some a) (Some b) h = refl
flop_matched p i inverted None (Some b) h = absurd h
flop_matched p i inverted (Some a) None h = absurd h

pub clock_choice : (f : ℕ → ℕ) (b : Bool) → ◌≡◌ {A = Meaning} (if b then logic.Clock else logic.Input) (moved_meaning f (if b then logic.Clock else logic.Input))
clock_choice f true = refl
clock_choice f false = refl

-- the flip-flop of an instance past the end is none
pub flop_past : (n : Netlist) (config : Config) (i : ℕ) (o : Option Instance) → slice_get n.instances i ≡ o → IsReady n config → is_some (flop_in n (config_ports n config) i o) ≡ true → (x : Instance) × (slice_get n.instances i ≡ Some x)
flop_past n config i None at ready is = absurd cc
flop_past n config i (Some x) at ready is = (x, at)

pub both_kept : (p : Places) (old new : Option Cell) → is_some old ≡ true → AreMatched p old new → is_some new ≡ true
both_kept p None new is h = absurd cc
both_kept p (Some a) None is h = absurd h
both_kept p (Some a) (Some b) is h = refl

pub kept_by : (p : Places) (i : ℕ) (old new : Option Cell) → is_some old ≡ true → AreMatched p old new → KeepsFlop p (cell_or_none i old) (cell_or_none i new)
kept_by p i None new is h = absurd cc
kept_by p i (Some a) None is h = absurd h
kept_by p i (Some a) (Some b) is h = h

-- ---- what the design's nets read and show

flop_reads : (i : ℕ) (inverted : Bool) (size : ℕ) (o : Option Cell) → AreBelow (λ k. k) size (reads (flop_meaning i inverted o))
flop_reads i inverted size None = tt
flop_reads i inverted size (Some cell) = tt

clock_reads : (size : ℕ) (b : Bool) → AreBelow (λ k. k) size (reads (if b then logic.Clock else logic.Input))
clock_reads size true = tt
clock_reads size false = tt

pub reads_by : (n : Netlist) (ports : Ports) (net size : ℕ) (d : drivers.Driver) → FineBy n net d → AreBelow (λ k. k) size (drivers.nets_read n d) → AreBelow (λ k. k) size (reads (meaning_of n ports net d))
reads_by n ports net size drivers.Input fine h = clock_reads size (ports.is_clock net)
reads_by n ports net size (drivers.Gate k inputs) fine h = h
reads_by n ports net size (drivers.Joined source) fine h = h
reads_by n ports net size (drivers.Flop i inverted) fine h = flop_reads i inverted size (flip_flop n ports i)
reads_by n ports net size (drivers.Lockup i) fine h = absurd fine
reads_by n ports net size drivers.Free fine h = tt

flop_shows : (i cell : ℕ) (inverted its : Bool) (o : Option Cell) → flop_meaning i inverted o ≡ logic.Flop cell its → (i ≡ cell) × (is_some o ≡ true)
flop_shows i cell inverted its None e = absurd cc
flop_shows i cell inverted its (Some c) e = (cc, refl)

clock_no_flop : (b : Bool) (cell : ℕ) (inverted : Bool) → (if b then logic.Clock else logic.Input) ≡ logic.Flop cell inverted → ⊥
clock_no_flop true cell inverted e = cc
clock_no_flop false cell inverted e = cc

pub shows_by : (n : Netlist) (ports : Ports) (net cell : ℕ) (inverted : Bool) (d : drivers.Driver) → FineBy n net d → meaning_of n ports net d ≡ logic.Flop cell inverted → is_some (flip_flop n ports cell) ≡ true
shows_by n ports net cell inverted drivers.Input fine e = absurd (clock_no_flop (ports.is_clock net) cell inverted e)
shows_by n ports net cell inverted (drivers.Gate k inputs) fine e = absurd cc
shows_by n ports net cell inverted (drivers.Joined source) fine e = absurd cc
shows_by n ports net cell inverted (drivers.Flop i other) fine e =
    let it = flop_shows i cell other inverted (flip_flop n ports i) e in
    ap (λ c. is_some (flip_flop n ports c)) (sym it.0) ∙ it.1
shows_by n ports net cell inverted (drivers.Lockup i) fine e = absurd fine
shows_by n ports net cell inverted drivers.Free fine e = absurd cc

clock_no_lockup : (b : Bool) (cell domain : ℕ) (high : Bool) (source : Source) → (if b then logic.Clock else logic.Input) ≡ logic.Lockup cell domain high source → ⊥
clock_no_lockup true cell domain high source e = cc
clock_no_lockup false cell domain high source e = cc

pub lockup_by : (n : Netlist) (ports : Ports) (net cell domain : ℕ) (high : Bool) (source : Source) (d : drivers.Driver) → FineBy n net d → meaning_of n ports net d ≡ logic.Lockup cell domain high source → ⊥
lockup_by n ports net cell domain high source drivers.Input fine e = clock_no_lockup (ports.is_clock net) cell domain high source e
lockup_by n ports net cell domain high source (drivers.Gate k inputs) fine e = cc
lockup_by n ports net cell domain high source (drivers.Joined from) fine e = cc
lockup_by n ports net cell domain high source (drivers.Flop i other) fine e = no_flop i other (flip_flop n ports i) cell domain high source e
lockup_by n ports net cell domain high source (drivers.Lockup i) fine e = absurd fine
lockup_by n ports net cell domain high source drivers.Free fine e = cc

-- ---- the port scan_enable

pub input_less : (n : Netlist) (net : ℕ) (d : drivers.Driver) → is_input d ≡ true → FineBy n net d → net < length (bits_of n.ports)
input_less n net drivers.Input is fine = fine
input_less n net (drivers.Gate k inputs) is fine = absurd cc
input_less n net (drivers.Joined source) is fine = absurd cc
input_less n net (drivers.Flop i inverted) is fine = absurd cc
input_less n net (drivers.Lockup i) is fine = absurd cc
input_less n net drivers.Free is fine = absurd cc

not_this : (n : Netlist) (net : NetId) (b : Bool) → (b ≡ true → net.0 < length (bits_of n.ports)) → is_net (length (bits_of n.ports)) (if b then Some net else None) ≡ false
not_this n net true h = less_apart net.0 (length (bits_of n.ports)) (h refl)
not_this n net false h = refl

not_found : (n : Netlist) (config : Config) (o : Option NetId) → IsReady n config → is_net (length (bits_of n.ports)) (option_and_then (λ (net : NetId). if is_input (driver n net.0) then Some net else None) o) ≡ false
not_found n config None ready = refl
not_found n config (Some net) ready = not_this n net (is_input (driver n net.0)) (λ is. input_less n net.0 (driver n net.0) is (driver_fine n config net.0 ready))

pub no_clock : (n : Netlist) (config : Config) (names : List Text) → IsReady n config → list_any (λ name. is_net (length (bits_of n.ports)) (input_net n name)) names ≡ false
no_clock n config [] ready = refl
no_clock n config (name ∷ names) ready = or_from (is_net (length (bits_of n.ports)) (input_net n name)) (list_any (λ other. is_net (length (bits_of n.ports)) (input_net n other)) names) (not_found n config (find_net n name) ready) (no_clock n config names ready)
