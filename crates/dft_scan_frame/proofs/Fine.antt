-- What a design that the scan rules pass has: input ports before its other nets, no lock-up, and no scan cell.
use Rattle.std.proofs.Common.{ℕ, zero, suc, ◌+◌, ◌≡◌, ◌==◌, ◌<◌, Bool, true, false, List, ◌∷◌, ◌++◌, length, map, Option, None, Some, slice_get, refl, sym, subst, ap, arith, ◌∙◌, [], not}
use Rattle.std.specs.Prelude.{if◌then◌else◌, IsTrue}
use Rattle.std.proofs.lemmas.Bool.{eqb-true}
use Rattle.std.proofs.lemmas.Option.{none-some, same_Some}
use Rattle.dft_base.specs.Lexing.{Text}
use Rattle.dft_cells.specs.declared.kind.Kind.{Kind}
use Rattle.dft_cells.specs.declared.kind.Kind.TheVariants as kind
use Rattle.dft_cells.specs.declared.kind.Role.{Role}
use Rattle.dft_cells.specs.declared.kind.Role.TheVariants as role
use Rattle.dft_cells.specs.declared.cell.Cell.{Cell}
use Rattle.dft_netlist.specs.declared.ids.NetId.{NetId}
use Rattle.dft_netlist.specs.declared.port.Port.{Port}
use Rattle.dft_base.specs.declared.dir.Dir.{Dir}
use Rattle.dft_base.specs.declared.dir.Dir.TheVariants as dir
use Rattle.dft_netlist.specs.declared.instance.Signal.{Signal}
use Rattle.dft_netlist.specs.declared.instance.Signal.TheVariants as signal
use Rattle.dft_netlist.specs.declared.instance.CellRef.{CellRef}
use Rattle.dft_netlist.specs.declared.instance.CellRef.TheVariants as cell_ref
use Rattle.dft_netlist.specs.declared.instance.Instance.{Instance}
use Rattle.dft_netlist.specs.declared.instance.Join.{Join}
use Rattle.dft_netlist.specs.Netlist.{Netlist}
use Rattle.dft_netlist.specs.Sound.{bits_of, IsCellOf, IsNetlist, is_primitive}
use Rattle.dft_netlist.specs.Drivers.{Source, Driver, Input, Gate, Joined, Flop, Lockup, Free, Driven, Connection, driver_of_kind, at_signal, at_role, driven_by_pins, driven_by, driven_by_instances, driven_by_bits, driven_by_ports, driven_by_joins, all_driven, driver_in, driver, inputs_of, connections_of, shape_of}
use Rattle.dft_netlist.proofs.LiveDriven.{AreBefore, before_front, before_back, nets_before}
use Rattle.dft_config.specs.Config.{Config}
use Rattle.dft_rules.specs.declared.error.RuleError.{RuleError}
use Rattle.dft_rules.specs.declared.error.RuleError.TheVariants.{ScanCellPresent}
use Rattle.dft_rules.specs.Refusals.{present_as, present, first_failing, refusal}
use Rattle.dft_rules.proofs.CheckLemmas.{none_present}
use Rattle.dft_scan_frame.specs.Statements.{IsReady}

-- ---- no scan cell and no lock-up

-- a kind that a design has before scan is inserted
abbrev pub is_plain : Kind → Bool
is_plain (kind.Flop flop) = not flop.scan
is_plain (kind.Gate gate) = true
is_plain kind.Lockup = false
is_plain kind.Opaque = true

plain_flop : (scan : Bool) (name : Text) → (if scan then Some (ScanCellPresent name) else None) ≡ None → not scan ≡ true
plain_flop true name e = absurd cc
plain_flop false name e = refl

plain_named : (k : Kind) (name : Text) → present_as k (Some name) ≡ None → is_plain k ≡ true
plain_named (kind.Flop flop) name e = plain_flop flop.scan name e
plain_named (kind.Gate gate) name e = refl
plain_named kind.Lockup name e = absurd cc
plain_named kind.Opaque name e = refl

plain_by : (library : List Cell) (name : Option Text) (ref : CellRef) → IsCellOf library name ref → present_as (shape_of library ref).kind name ≡ None → is_plain (shape_of library ref).kind ≡ true
plain_by library None (cell_ref.Library cell) fits e = let f : false ≡ true = fits.1 in absurd cc
plain_by library (Some name) (cell_ref.Library cell) fits e = plain_named (shape_of library (cell_ref.Library cell)).kind name e
plain_by library name (cell_ref.Gate k inputs) fits e = refl

-- the first check that fails is none
pub record NoneFails (o : Option RuleError) (more : List (Option RuleError)) : Type 0 where
  pub first : o ≡ None
  pub rest : first_failing more ≡ None

none_fails : (o : Option RuleError) (more : List (Option RuleError)) → first_failing (o ∷ more) ≡ None → NoneFails o more
none_fails None more e = record { first = refl; rest = e }
none_fails (Some error) more e = absurd (none-some error (sym e))

each_passes : (library : List Cell) (xs : List Instance) (k : ℕ) (x : Instance) → first_failing (map (present library) xs) ≡ None → slice_get xs k ≡ Some x → present library x ≡ None
each_passes library [] k x e at = absurd (none-some x at)
each_passes library (y ∷ xs) zero x e at = subst (λ (z : Instance). present library z ≡ None) (same_Some y x at) (none_fails (present library y) (map (present library) xs) e).first
each_passes library (y ∷ xs) (suc k) x e at = each_passes library xs k x (none_fails (present library y) (map (present library) xs) e).rest at

-- each instance is of such a kind
pub passed_plain : (n : Netlist) (config : Config) (i : ℕ) (instance : Instance) → IsNetlist n → refusal n config ≡ None → slice_get n.instances i ≡ Some instance → is_plain (shape_of n.library instance.cell).kind ≡ true
passed_plain n config i instance sound passed at = plain_by n.library instance.name instance.cell (sound.instances i instance at).fits (each_passes n.library n.instances i instance (none_present n config passed) at)

pub instance_plain : (n : Netlist) (config : Config) (i : ℕ) (instance : Instance) → IsReady n config → slice_get n.instances i ≡ Some instance → is_plain (shape_of n.library instance.cell).kind ≡ true
instance_plain n config i instance ready at = passed_plain n config i instance ready.netlist ready.passed at

-- ---- drivers

-- an input drives one of the first nets, no lock-up drives a net, and a flip-flop that drives one is there
abbrev pub FineBy : Netlist → (net : ℕ) → Driver → Type 0
FineBy n net Input = net < length (bits_of n.ports)
FineBy n net (Flop i inverted) = (instance : Instance) × (slice_get n.instances i ≡ Some instance)
FineBy n net (Lockup i) = ⊥
FineBy n net (Gate k inputs) = Unit {0}
FineBy n net (Joined source) = Unit {0}
FineBy n net Free = Unit {0}

abbrev AreFine : Netlist → List Driven → Type 0
AreFine n [] = Unit {0}
AreFine n (d ∷ ds) = FineBy n d.0 d.1 × AreFine n ds

fine_append : (n : Netlist) (xs ys : List Driven) → AreFine n xs → AreFine n ys → AreFine n (xs ++ ys)
fine_append n [] ys h k = k
fine_append n (x ∷ xs) ys h k = (h.0, fine_append n xs ys h.1 k)

kind_fine : (n : Netlist) (net i : ℕ) (instance : Instance) (k : Kind) (inverted : Bool) (inputs : List Source) → slice_get n.instances i ≡ Some instance → is_plain k ≡ true → FineBy n net (driver_of_kind k i inverted inputs)
kind_fine n net i instance (kind.Gate gate) inverted inputs at is = tt
kind_fine n net i instance kind.Opaque inverted inputs at is = tt
kind_fine n net i instance kind.Lockup inverted inputs at is = absurd cc
kind_fine n net i instance (kind.Flop flop) inverted inputs at is = (instance, at)

signal_fine : (n : Netlist) (i : ℕ) (instance : Instance) (s : Signal) (k : Kind) (inverted : Bool) (inputs : List Source) → slice_get n.instances i ≡ Some instance → is_plain k ≡ true → AreFine n (at_signal s (driver_of_kind k i inverted inputs))
signal_fine n i instance (signal.Net net) k inverted inputs at is = (kind_fine n net.0 i instance k inverted inputs at is, tt)
signal_fine n i instance (signal.Constant bit) k inverted inputs at is = tt
signal_fine n i instance signal.Unconnected k inverted inputs at is = tt

role_fine : (n : Netlist) (i : ℕ) (instance : Instance) (r : Role) (k : Kind) (inputs : List Source) (s : Signal) → slice_get n.instances i ≡ Some instance → is_plain k ≡ true → AreFine n (at_role r k i inputs s)
role_fine n i instance role.Output k inputs s at is = signal_fine n i instance s k false inputs at is
role_fine n i instance role.Inverted k inputs s at is = signal_fine n i instance s k true inputs at is
role_fine n i instance role.Input k inputs s at is = tt
role_fine n i instance role.Clock k inputs s at is = tt
role_fine n i instance role.Din k inputs s at is = tt
role_fine n i instance role.Reset k inputs s at is = tt
role_fine n i instance role.Preset k inputs s at is = tt
role_fine n i instance role.ScanIn k inputs s at is = tt
role_fine n i instance role.ScanEnable k inputs s at is = tt

pins_fine : (n : Netlist) (i : ℕ) (instance : Instance) (k : Kind) (inputs : List Source) (cs : List Connection) → slice_get n.instances i ≡ Some instance → is_plain k ≡ true → AreFine n (driven_by_pins k i inputs cs)
pins_fine n i instance k inputs [] at is = tt
pins_fine n i instance k inputs (c ∷ cs) at is = fine_append n (at_role c.role k i inputs c.to) (driven_by_pins k i inputs cs) (role_fine n i instance c.role k inputs c.to at is) (pins_fine n i instance k inputs cs at is)

instances_fine : (n : Netlist) (i : ℕ) (xs : List Instance) → ((k number : ℕ) (x : Instance) → number ≡ i + k → slice_get xs k ≡ Some x → (slice_get n.instances number ≡ Some x) × (is_plain (shape_of n.library x.cell).kind ≡ true)) → AreFine n (driven_by_instances n.library i xs)
instances_fine n i [] each = tt
instances_fine n i (x ∷ xs) each =
    let here = each zero i x (omega arith) refl in
    fine_append n (driven_by n.library i x) (driven_by_instances n.library (suc i) xs)
    (pins_fine n i x (shape_of n.library x.cell).kind (inputs_of i (connections_of n.library x)) (connections_of n.library x) here.0 here.1)
    (instances_fine n (suc i) xs (λ k number z is at. each (suc k) number z (omega (arith, is)) at))

joins_fine : (n : Netlist) (joins : List Join) → AreFine n (driven_by_joins joins)
joins_fine n [] = tt
joins_fine n (join ∷ joins) = (tt, joins_fine n joins)

bits_fine : (n : Netlist) (d : Dir) (bits : List NetId) → AreBefore (length (bits_of n.ports)) bits → AreFine n (driven_by_bits d bits)
bits_fine n dir.Output bits h = tt
bits_fine n dir.Input [] h = tt
bits_fine n dir.Input (net ∷ bits) h = (h.0, bits_fine n dir.Input bits h.1)

ports_fine : (n : Netlist) (ports : List Port) → AreBefore (length (bits_of n.ports)) (bits_of ports) → AreFine n (driven_by_ports ports)
ports_fine n [] h = tt
ports_fine n (port ∷ ports) h =
    fine_append n (driven_by_bits port.dir port.bits) (driven_by_ports ports) (bits_fine n port.dir port.bits (before_front (length (bits_of n.ports)) port.bits (bits_of ports) h))
    (ports_fine n ports (before_back (length (bits_of n.ports)) port.bits (bits_of ports) h))

fine_by : (n : Netlist) (net : ℕ) (d : Driven) (rest : Driver) (b : Bool) → (d.0 == net) ≡ b → FineBy n d.0 d.1 → FineBy n net rest → FineBy n net (if b then d.1 else rest)
fine_by n net d rest true is here more = subst (λ k. FineBy n k d.1) (eqb-true d.0 net is) here
fine_by n net d rest false is here more = more

fine_in : (n : Netlist) (net : ℕ) (ds : List Driven) → AreFine n ds → FineBy n net (driver_in ds net)
fine_in n net [] h = tt
fine_in n net (d ∷ ds) h = fine_by n net d (driver_in ds net) (d.0 == net) refl h.0 (fine_in n net ds h.1)

-- each net's driver is fine
pub driver_fine : (n : Netlist) (config : Config) (net : ℕ) → IsReady n config → FineBy n net (driver n net)
driver_fine n config net ready =
    fine_in n net (all_driven n)
    (fine_append n (driven_by_ports n.ports ++ driven_by_instances n.library 0 n.instances) (driven_by_joins n.joins)
    (fine_append n (driven_by_ports n.ports) (driven_by_instances n.library 0 n.instances)
    (ports_fine n n.ports (subst (AreBefore (length (bits_of n.ports))) (sym ready.netlist.numbered) (nets_before 0 (length (bits_of n.ports)) (length (bits_of n.ports)) (omega arith))))
    (instances_fine n 0 n.instances (λ k number x is at. (
    let here : slice_get n.instances number ≡ Some x = ap (slice_get n.instances) (omega (arith, is)) ∙ at in
    (here, instance_plain n config number x ready here)
    ))))
    (joins_fine n n.joins))
