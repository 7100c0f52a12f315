-- The drivers of a design, with their nets moved, among those of a netlist that contains it.
use Rattle.std.proofs.Common.{ℕ, suc, ◌+◌, ◌≡◌, ◌==◌, Bool, true, false, List, ◌∷◌, ◌++◌, map, cond, count_by, refl, sym, ap, arith, ◌∙◌, []}
use Rattle.std.specs.Prelude.{if◌then◌else◌}
use Rattle.std.proofs.lemmas.List.{map-append}
use Rattle.std.proofs.lemmas.List.Sums.{sum_by-cons}
use Rattle.dft_cells.specs.declared.kind.Kind.{Kind}
use Rattle.dft_cells.specs.declared.kind.Kind.TheVariants as kind
use Rattle.dft_cells.specs.declared.kind.Role.{Role}
use Rattle.dft_cells.specs.declared.kind.Role.TheVariants as role
use Rattle.dft_cells.specs.declared.cell.Cell.{Cell}
use Rattle.dft_netlist.specs.declared.instance.Signal.{Signal}
use Rattle.dft_netlist.specs.declared.instance.Signal.TheVariants as signal
use Rattle.dft_netlist.specs.declared.instance.Instance.{Instance}
use Rattle.dft_netlist.specs.declared.instance.Join.{Join}
use Rattle.dft_netlist.specs.declared.port.Port.{Port}
use Rattle.dft_netlist.specs.Drivers.{Source, Driver, Input, Gate, Joined, Flop, Lockup, Free, Driven, Connection, connections_from, connections_of, source_of, is_input, inputs_of, driver_of_kind, at_role, driven_by_pins, driven_by, driven_by_bits, driven_by_ports, driven_by_joins, driver_in, shape_of}
use Rattle.dft_scan_frame.specs.Moves.{Gap, moved, moved_signal, moved_instance, moved_join}
use Rattle.dft_chains.specs.ScanOff.{moved_source}

-- ---- merges

abbrev pub moved_driver : (f : ℕ → ℕ) → Driver → Driver
moved_driver f Input = Input
moved_driver f (Gate kind inputs) = Gate kind (map (moved_source f) inputs)
moved_driver f (Joined source) = Joined (moved_source f source)
moved_driver f (Flop i inverted) = Flop i inverted
moved_driver f (Lockup i) = Lockup i
moved_driver f Free = Free

abbrev pub moved_driven : (f : ℕ → ℕ) → Driven → Driven
moved_driven f d = (f d.0, moved_driver f d.1)

-- a list holds the drivers of a design, moved, and among them those that were added
pub data Merges (f : ℕ → ℕ) : (old added all : List Driven) → Type 0 where
  Nothing : Merges f [] [] []
  Kept : {d : Driven} {old added all : List Driven} → Merges f old added all → Merges f (d ∷ old) added (moved_driven f d ∷ all)
  Added : {d : Driven} {old added all : List Driven} → Merges f old added all → Merges f old (d ∷ added) (d ∷ all)

pub append_merges : (f : ℕ → ℕ) (old added all old2 added2 all2 : List Driven) → Merges f old added all → Merges f old2 added2 all2 → Merges f (old ++ old2) (added ++ added2) (all ++ all2)
append_merges f _ _ _ old2 added2 all2 Nothing more = more
append_merges f _ _ _ old2 added2 all2 (Kept {d = d} {old = old} {added = added} {all = all} m) more = Kept {d = d} (append_merges f old added all old2 added2 all2 m more)
append_merges f _ _ _ old2 added2 all2 (Added {d = d} {old = old} {added = added} {all = all} m) more = Added {d = d} (append_merges f old added all old2 added2 all2 m more)

pub all_kept : (f : ℕ → ℕ) (ds : List Driven) → Merges f ds [] (map (moved_driven f) ds)
all_kept f [] = Nothing
all_kept f (d ∷ ds) = Kept {d = d} (all_kept f ds)

pub all_added : (f : ℕ → ℕ) (ds : List Driven) → Merges f [] ds ds
all_added f [] = Nothing
all_added f (d ∷ ds) = Added {d = d} (all_added f ds)

-- ---- drivers in a merge

-- none of these drives the net
abbrev pub NoneAt : List Driven → ℕ → Type 0
NoneAt [] net = Unit {0}
NoneAt (d ∷ ds) net = ((d.0 == net) ≡ false) × NoneAt ds net

keep : (f : ℕ → ℕ) (a b : Bool) (d x y : Driver) → a ≡ b → x ≡ moved_driver f y → (if a then moved_driver f d else x) ≡ moved_driver f (if b then d else y)
keep f true true d x y e h = refl
keep f false false d x y e h = h
keep f true false d x y e h = absurd cc
keep f false true d x y e h = absurd cc

skip : (b : Bool) (d x : Driver) → b ≡ false → (if b then d else x) ≡ x
skip false d x e = refl
skip true d x e = absurd cc

-- a net of the design keeps its driver
pub old_driver : (f : ℕ → ℕ) (net : ℕ) (old added all : List Driven) → ((a b : ℕ) → (f a == f b) ≡ (a == b)) → Merges f old added all → NoneAt added (f net) → driver_in all (f net) ≡ moved_driver f (driver_in old net)
old_driver f net _ _ _ apart Nothing none = refl
old_driver f net _ _ _ apart (Kept {d = d} {old = old} {added = added} {all = all} m) none =
    keep f (f d.0 == f net) (d.0 == net) d.1 (driver_in all (f net)) (driver_in old net) (apart d.0 net) (old_driver f net old added all apart m none)
old_driver f net _ _ _ apart (Added {d = d} {old = old} {added = added} {all = all} m) none =
    skip (d.0 == f net) d.1 (driver_in all (f net)) none.0 ∙ old_driver f net old added all apart m none.1

-- how often a net is driven
abbrev pub times : (net : ℕ) → List Driven → ℕ
times net ds = count_by (λ d. d.0 == net) ds

pub times-cons : (net : ℕ) (d : Driven) (ds : List Driven) → times net (d ∷ ds) ≡ cond (d.0 == net) 1 0 + times net ds
times-cons net d ds = sum_by-cons (λ (x : Driven). cond (x.0 == net) 1 0) d ds

one_more : (net : ℕ) (d : Driven) (ds : List Driven) (b : Bool) (rest : ℕ) → (d.0 == net) ≡ b → times net ds ≡ rest → times net (d ∷ ds) ≡ cond b 1 0 + rest
one_more net d ds b rest e h = times-cons net d ds ∙ ap (λ t. cond t 1 0 + times net ds) e ∙ ap (λ n. cond b 1 0 + n) h

pub none_more : (net : ℕ) (d : Driven) (ds : List Driven) (rest : ℕ) → (d.0 == net) ≡ false → times net ds ≡ rest → times net (d ∷ ds) ≡ rest
none_more net d ds rest e h = let q : times net (d ∷ ds) ≡ 0 + rest = one_more net d ds false rest e h in omega (arith, q)

pub old_times : (f : ℕ → ℕ) (net : ℕ) (old added all : List Driven) → ((a b : ℕ) → (f a == f b) ≡ (a == b)) → Merges f old added all → NoneAt added (f net) → times (f net) all ≡ times net old
old_times f net _ _ _ apart Nothing none = refl
old_times f net _ _ _ apart (Kept {d = d} {old = old} {added = added} {all = all} m) none =
    one_more (f net) (moved_driven f d) all (d.0 == net) (times net old) (apart d.0 net) (old_times f net old added all apart m none) ∙ sym (times-cons net d old)
old_times f net _ _ _ apart (Added {d = d} {old = old} {added = added} {all = all} m) none =
    none_more (f net) d all (times net old) none.0 (old_times f net old added all apart m none.1)

-- ---- an instance that is moved

abbrev pub moved_connection : Gap → Connection → Connection
moved_connection gap c = record { role = c.role; pin = c.pin; to = moved_signal gap c.to }

pub moved_connections : (gap : Gap) (pin : ℕ) (roles : List Role) (signals : List Signal) → connections_from pin roles (map (moved_signal gap) signals) ≡ map (moved_connection gap) (connections_from pin roles signals)
moved_connections gap pin [] signals = refl
moved_connections gap pin (r ∷ roles) [] = refl
moved_connections gap pin (r ∷ roles) (to ∷ signals) = ap (λ cs. record { role = r; pin = pin; to = moved_signal gap to } ∷ cs) (moved_connections gap (suc pin) roles signals)

pub moved_source_of : (gap : Gap) (i pin : ℕ) (s : Signal) → source_of i pin (moved_signal gap s) ≡ moved_source (moved gap) (source_of i pin s)
moved_source_of gap i pin (signal.Net net) = refl
moved_source_of gap i pin (signal.Constant bit) = refl
moved_source_of gap i pin signal.Unconnected = refl

input_more : (gap : Gap) (b : Bool) (x y : Source) (xs ys : List Source) → x ≡ moved_source (moved gap) y → xs ≡ map (moved_source (moved gap)) ys → (if b then x ∷ xs else xs) ≡ map (moved_source (moved gap)) (if b then y ∷ ys else ys)
input_more gap true x y xs ys e g = λ j. e j ∷ g j
input_more gap false x y xs ys e g = g

pub moved_inputs : (gap : Gap) (i : ℕ) (cs : List Connection) → inputs_of i (map (moved_connection gap) cs) ≡ map (moved_source (moved gap)) (inputs_of i cs)
moved_inputs gap i [] = refl
moved_inputs gap i (c ∷ cs) =
    input_more gap (is_input c.role) (source_of i c.pin (moved_signal gap c.to)) (source_of i c.pin c.to) (inputs_of i (map (moved_connection gap) cs)) (inputs_of i cs) (moved_source_of gap i c.pin c.to) (moved_inputs gap i cs)

moved_kind : (f : ℕ → ℕ) (k : Kind) (i : ℕ) (inverted : Bool) (inputs : List Source) → driver_of_kind k i inverted (map (moved_source f) inputs) ≡ moved_driver f (driver_of_kind k i inverted inputs)
moved_kind f (kind.Gate gate) i inverted inputs = refl
moved_kind f (kind.Flop flop) i inverted inputs = refl
moved_kind f kind.Opaque i inverted inputs = refl
moved_kind f kind.Lockup i inverted inputs = refl

moved_role : (gap : Gap) (k : Kind) (i : ℕ) (inputs : List Source) (s : Signal) (r : Role) → at_role r k i (map (moved_source (moved gap)) inputs) (moved_signal gap s) ≡ map (moved_driven (moved gap)) (at_role r k i inputs s)
moved_role gap k i inputs (signal.Net net) role.Output = ap (λ d. (moved gap net.0, d) ∷ []) (moved_kind (moved gap) k i false inputs)
moved_role gap k i inputs (signal.Net net) role.Inverted = ap (λ d. (moved gap net.0, d) ∷ []) (moved_kind (moved gap) k i true inputs)
moved_role gap k i inputs (signal.Constant bit) role.Output = refl
moved_role gap k i inputs (signal.Constant bit) role.Inverted = refl
moved_role gap k i inputs signal.Unconnected role.Output = refl
moved_role gap k i inputs signal.Unconnected role.Inverted = refl
moved_role gap k i inputs s role.Input = refl
moved_role gap k i inputs s role.Clock = refl
moved_role gap k i inputs s role.Din = refl
moved_role gap k i inputs s role.Reset = refl
moved_role gap k i inputs s role.Preset = refl
moved_role gap k i inputs s role.ScanIn = refl
moved_role gap k i inputs s role.ScanEnable = refl

pub moved_pins : (gap : Gap) (k : Kind) (i : ℕ) (inputs : List Source) (cs : List Connection) →
    driven_by_pins k i (map (moved_source (moved gap)) inputs) (map (moved_connection gap) cs) ≡ map (moved_driven (moved gap)) (driven_by_pins k i inputs cs)
moved_pins gap k i inputs [] = refl
moved_pins gap k i inputs (c ∷ cs) =
    ap (λ ds. ds ++ driven_by_pins k i (map (moved_source (moved gap)) inputs) (map (moved_connection gap) cs)) (moved_role gap k i inputs c.to c.role)
    ∙ ap (λ ds. map (moved_driven (moved gap)) (at_role c.role k i inputs c.to) ++ ds) (moved_pins gap k i inputs cs)
    ∙ sym (map-append (moved_driven (moved gap)) (at_role c.role k i inputs c.to) (driven_by_pins k i inputs cs))

-- a moved instance drives what it drove, moved
pub moved_instance_drives : (library : List Cell) (gap : Gap) (i : ℕ) (instance : Instance) → driven_by library i (moved_instance gap instance) ≡ map (moved_driven (moved gap)) (driven_by library i instance)
moved_instance_drives library gap i instance =
    let k : Kind = (shape_of library instance.cell).kind in
    let cs : List Connection = connections_of library instance in
    ap (λ (pins : List Connection). driven_by_pins k i (inputs_of i pins) pins) (moved_connections gap 0 (shape_of library instance.cell).roles instance.pins)
    ∙ ap (λ (inputs : List Source). driven_by_pins k i inputs (map (moved_connection gap) cs)) (moved_inputs gap i cs)
    ∙ moved_pins gap k i (inputs_of i cs) cs

-- so does a join
pub moved_joins_drive : (gap : Gap) (joins : List Join) → driven_by_joins (map (moved_join gap) joins) ≡ map (moved_driven (moved gap)) (driven_by_joins joins)
moved_joins_drive gap [] = refl
moved_joins_drive gap (join ∷ joins) = λ j. (moved gap join.target.0, Joined (moved_source_of gap 0 0 join.source j)) ∷ moved_joins_drive gap joins j

append_again : (xs ys zs : List Driven) → xs ++ (ys ++ zs) ≡ (xs ++ ys) ++ zs
append_again [] ys zs = refl
append_again (x ∷ xs) ys zs = ap (λ ds. x ∷ ds) (append_again xs ys zs)

-- ports and instances that come after others
pub ports_append : (ports more : List Port) → driven_by_ports (ports ++ more) ≡ driven_by_ports ports ++ driven_by_ports more
ports_append [] more = refl
ports_append (port ∷ ports) more = ap (λ ds. driven_by_bits port.dir port.bits ++ ds) (ports_append ports more) ∙ append_again (driven_by_bits port.dir port.bits) (driven_by_ports ports) (driven_by_ports more)
