-- The drives of a netlist are its drivers, and what is noted of them is what drives each net.
use Rattle.std.proofs.Common.{◌≡◌, ℕ, zero, suc, Bool, true, false, cond, List, [], ◌∷◌, ◌++◌, length, Option, None, Some, refl, sym, ◌∙◌, ap, slice_get, slice_set, ◌==◌, append_assoc}
use Rattle.std.proofs.lemmas.Bool.{eqb-true, eqb-false}
use Rattle.dft_cells.specs.declared.kind.Role.{Role}
use Rattle.dft_cells.specs.declared.kind.Role.TheVariants as role
use Rattle.dft_netlist.specs.declared.ids.NetId.{NetId}
use Rattle.dft_netlist.specs.declared.port.Port.{Port}
use Rattle.dft_base.specs.declared.dir.Dir.{Dir}
use Rattle.dft_base.specs.declared.dir.Dir.TheVariants as dir
use Rattle.dft_base.proofs.ListLemmas.{length_push}
use Rattle.dft_netlist.specs.declared.instance.Signal.{Signal}
use Rattle.dft_netlist.specs.declared.instance.Signal.TheVariants as signal
use Rattle.dft_netlist.specs.declared.instance.Instance.{Instance}
use Rattle.dft_netlist.specs.declared.instance.Join.{Join as AJoin}
use Rattle.dft_netlist.specs.declared.net_driver.NetDriver.{NetDriver}
use Rattle.dft_netlist.specs.declared.net_driver.NetDriver.TheVariants.{Input, Pin, Join, Nothing}
use Rattle.dft_netlist.specs.Netlist.{Netlist}
use Rattle.dft_netlist.specs.Drivers.{Driven, all_driven, driven_by_ports, driven_by_bits, driven_by_instances, driven_by_pins, driven_by_joins, connections_from, connections_of, inputs_of, shape_of, driver_of_kind, at_role, at_signal}
use Rattle.dft_netlist.specs.NetDrivers.{driver_at, is_inverted, Drives}
use Rattle.dft_netlist.specs.Notes.{Drive, Notes, noted, noted_at, all_noted, bit_drives, drives_of_dir, ports_drives, net_drives, pin_drives, pins_drives, instances_drives, joins_drives, all_drives}
use Rattle.dft_netlist.specs.Sound.{is_output}

-- an entry of one list is the entry of the other: the same net, whose place has this driver and drives it
pub record IsEntry (n : Netlist) (d : Drive) (e : Driven) : Type 0 where
  pub net : d.0.0 ≡ e.0
  pub by : driver_at n d.1 ≡ e.1
  pub drives : Drives n d.1 d.0.0
  pub some : d.1 ≡ Nothing → ⊥

abbrev pub AreEntries : Netlist → List Drive → List Driven → Type 0
AreEntries n [] [] = Unit {0}
AreEntries n [] (e ∷ es) = ⊥
AreEntries n (d ∷ ds) [] = ⊥
AreEntries n (d ∷ ds) (e ∷ es) = IsEntry n d e × AreEntries n ds es

pub entries-append : (n : Netlist) (ds ds' : List Drive) (es es' : List Driven) → AreEntries n ds es → AreEntries n ds' es' → AreEntries n (ds ++ ds') (es ++ es')
entries-append n [] ds' [] es' h h' = h'
entries-append n [] ds' (e ∷ es) es' h h' = absurd h
entries-append n (d ∷ ds) ds' [] es' h h' = absurd h
entries-append n (d ∷ ds) ds' (e ∷ es) es' h h' = (h.0, entries-append n ds ds' es es' h.1 h')

-- ---- a list behind another

-- what stands at the place of the first element behind a front
pub get_middle : {X : Type 0} (front : List X) (x : X) (back : List X) → slice_get (front ++ x ∷ back) (length front) ≡ Some x
get_middle [] x back = refl
get_middle (y ∷ front) x back = get_middle front x back

move_front : {X : Type 0} (front : List X) (x : X) (back : List X) → front ++ x ∷ back ≡ (front ++ x ∷ []) ++ back
move_front [] x back = refl
move_front (y ∷ front) x back = ap (λ zs. y ∷ zs) (move_front front x back)

-- ---- ports

bits_entries : (n : Netlist) (place : ℕ) (port : Port) → slice_get n.ports place ≡ Some port → port.dir ≡ dir.Input → (front bits : List NetId) → port.bits ≡ front ++ bits → AreEntries n (bit_drives bits) (driven_by_bits dir.Input bits)
bits_entries n place port at input front [] same = tt
bits_entries n place port at input front (net ∷ bits) same = (
  record {
    net = refl;
    by = refl;
    drives = record { place = place; port = port; at = at; input = input; bit = length front; joined = ap (λ (xs : List NetId). slice_get xs (length front)) same ∙ get_middle front net bits };
    some = λ h. cc;
  },
  bits_entries n place port at input (front ++ net ∷ []) bits (same ∙ move_front front net bits),
)

port_entries : (n : Netlist) (place : ℕ) (port : Port) (d : Dir) → slice_get n.ports place ≡ Some port → port.dir ≡ d → AreEntries n (drives_of_dir d port.bits) (driven_by_bits d port.bits)
port_entries n place port dir.Input at is = bits_entries n place port at is [] port.bits refl
port_entries n place port dir.Output at is = tt

ports_entries : (n : Netlist) (front ports : List Port) → n.ports ≡ front ++ ports → AreEntries n (ports_drives ports) (driven_by_ports ports)
ports_entries n front [] same = tt
ports_entries n front (port ∷ ports) same =
    entries-append n _ _ _ _
    (port_entries n (length front) port port.dir (ap (λ (xs : List Port). slice_get xs (length front)) same ∙ get_middle front port ports) refl)
    (ports_entries n (front ++ port ∷ []) ports (same ∙ move_front front port ports))

-- ---- joins

joins_entries : (n : Netlist) (j : ℕ) (front joins : List AJoin) → n.joins ≡ front ++ joins → j ≡ length front → AreEntries n (joins_drives j joins) (driven_by_joins joins)
joins_entries n j front [] same is = tt
joins_entries n j front (join ∷ joins) same is =
    let at : slice_get n.joins j ≡ Some join = ap (λ i. slice_get n.joins i) is ∙ ap (λ (xs : List AJoin). slice_get xs (length front)) same ∙ get_middle front join joins in (
      record { net = refl; by = rw at refl; drives = record { join = join; at = at; target = refl }; some = λ h. cc },
      joins_entries n (suc j) (front ++ join ∷ []) joins (same ∙ move_front front join joins) (ap suc is ∙ sym (length_push front join)),
    )

-- ---- instances

by_pin : (n : Netlist) (i p : ℕ) (x : Instance) (r : Role) → slice_get n.instances i ≡ Some x → slice_get (shape_of n.library x.cell).roles p ≡ Some r → driver_at n (Pin (record { 0 = i }) p) ≡ driver_of_kind (shape_of n.library x.cell).kind i (is_inverted (Some r)) (inputs_of i (connections_of n.library x))
by_pin n i p x r at role = rw (at, role) refl

pin_entry : (n : Netlist) (i p : ℕ) (x : Instance) (r : Role) (inverted : Bool) (to : Signal) → slice_get n.instances i ≡ Some x → slice_get (shape_of n.library x.cell).roles p ≡ Some r → is_output r ≡ true → is_inverted (Some r) ≡ inverted → slice_get x.pins p ≡ Some to
    → AreEntries n (net_drives to (Pin (record { 0 = i }) p)) (at_signal to (driver_of_kind (shape_of n.library x.cell).kind i inverted (inputs_of i (connections_of n.library x))))
pin_entry n i p x r inverted (signal.Net net) at role out inv joined = (
  record {
    net = refl;
    by = by_pin n i p x r at role ∙ ap (λ v. driver_of_kind (shape_of n.library x.cell).kind i v (inputs_of i (connections_of n.library x))) inv;
    drives = record { instance = x; at = at; role = r; role_at = role; output = out; joined = joined };
    some = λ h. cc;
  },
  tt,
)
pin_entry n i p x r inverted (signal.Constant bit) at role out inv joined = tt
pin_entry n i p x r inverted signal.Unconnected at role out inv joined = tt

role_entry : (n : Netlist) (i p : ℕ) (x : Instance) (r : Role) (to : Signal) → slice_get n.instances i ≡ Some x → slice_get (shape_of n.library x.cell).roles p ≡ Some r → slice_get x.pins p ≡ Some to
    → AreEntries n (pin_drives i p r to) (at_role r (shape_of n.library x.cell).kind i (inputs_of i (connections_of n.library x)) to)
role_entry n i p x role.Output to at is joined = pin_entry n i p x role.Output false to at is refl refl joined
role_entry n i p x role.Inverted to at is joined = pin_entry n i p x role.Inverted true to at is refl refl joined
role_entry n i p x role.Input to at is joined = tt
role_entry n i p x role.Clock to at is joined = tt
role_entry n i p x role.Din to at is joined = tt
role_entry n i p x role.Reset to at is joined = tt
role_entry n i p x role.Preset to at is joined = tt
role_entry n i p x role.ScanIn to at is joined = tt
role_entry n i p x role.ScanEnable to at is joined = tt

pins_entries : (n : Netlist) (i : ℕ) (x : Instance) → slice_get n.instances i ≡ Some x → (p : ℕ) (fr roles : List Role) (fp pins : List Signal) → (shape_of n.library x.cell).roles ≡ fr ++ roles → x.pins ≡ fp ++ pins → p ≡ length fr → p ≡ length fp
    → AreEntries n (pins_drives i p roles pins) (driven_by_pins (shape_of n.library x.cell).kind i (inputs_of i (connections_of n.library x)) (connections_from p roles pins))
pins_entries n i x at p fr [] fp pins sr sp lr lp = tt
pins_entries n i x at p fr (r ∷ roles) fp [] sr sp lr lp = tt
pins_entries n i x at p fr (r ∷ roles) fp (to ∷ pins) sr sp lr lp =
    let is : slice_get (shape_of n.library x.cell).roles p ≡ Some r = ap (slice_get (shape_of n.library x.cell).roles) lr ∙ ap (λ (xs : List Role). slice_get xs (length fr)) sr ∙ get_middle fr r roles in
    let joined : slice_get x.pins p ≡ Some to = ap (slice_get x.pins) lp ∙ ap (λ (xs : List Signal). slice_get xs (length fp)) sp ∙ get_middle fp to pins in
    entries-append n _ _ _ _
    (role_entry n i p x r to at is joined)
    (pins_entries n i x at (suc p) (fr ++ r ∷ []) roles (fp ++ to ∷ []) pins (sr ∙ move_front fr r roles) (sp ∙ move_front fp to pins) (ap suc lr ∙ sym (length_push fr r)) (ap suc lp ∙ sym (length_push fp to)))

instances_entries : (n : Netlist) (i : ℕ) (front instances : List Instance) → n.instances ≡ front ++ instances → i ≡ length front → AreEntries n (instances_drives n.library i instances) (driven_by_instances n.library i instances)
instances_entries n i front [] same is = tt
instances_entries n i front (x ∷ instances) same is =
    let at : slice_get n.instances i ≡ Some x = ap (slice_get n.instances) is ∙ ap (λ (xs : List Instance). slice_get xs (length front)) same ∙ get_middle front x instances in
    entries-append n _ _ _ _
    (pins_entries n i x at 0 [] (shape_of n.library x.cell).roles [] x.pins refl refl refl refl)
    (instances_entries n (suc i) (front ++ x ∷ []) instances (same ∙ move_front front x instances) (ap suc is ∙ sym (length_push front x)))

-- all drives of a netlist are its drivers, in order
pub all_entries : (n : Netlist) → AreEntries n (all_drives n) (all_driven n)
all_entries n =
    rw (append_assoc (driven_by_ports n.ports) (driven_by_instances n.library 0 n.instances) (driven_by_joins n.joins))
    (entries-append n (ports_drives n.ports) _ (driven_by_ports n.ports) _ (ports_entries n [] n.ports refl)
    (entries-append n (instances_drives n.library 0 n.instances) _ (driven_by_instances n.library 0 n.instances) _ (instances_entries n 0 [] n.instances refl refl) (joins_entries n 0 [] n.joins refl refl)))

-- ---- the first drive of a net

abbrev pub merged : NetDriver → NetDriver → NetDriver
merged Nothing b = b
merged Input b = Input
merged (Pin i p) b = Pin i p
merged (Join j) b = Join j

abbrev pub of_net : Drive → (net : ℕ) → NetDriver
of_net d net = cond (d.0.0 == net) d.1 Nothing

abbrev pub first_by : List Drive → (net : ℕ) → NetDriver
first_by [] net = Nothing
first_by (d ∷ ds) net = merged (of_net d net) (first_by ds net)

merged-assoc : (a b c : NetDriver) → merged (merged a b) c ≡ merged a (merged b c)
merged-assoc Nothing b c = refl
merged-assoc Input b c = refl
merged-assoc (Pin i p) b c = refl
merged-assoc (Join j) b c = refl

pub merged_some : (a b : NetDriver) → (a ≡ Nothing → ⊥) → merged a b ≡ a
merged_some Nothing b some = absurd (some refl)
merged_some Input b some = refl
merged_some (Pin i p) b some = refl
merged_some (Join j) b some = refl

merged_none : (a : NetDriver) → merged a Nothing ≡ a
merged_none Nothing = refl
merged_none Input = refl
merged_none (Pin i p) = refl
merged_none (Join j) = refl

-- ---- what is found

pub get_set_same : {X : Type 0} (xs : List X) (i : ℕ) (a y : X) → slice_get xs i ≡ Some a → slice_get (slice_set xs i y) i ≡ Some y
get_set_same [] i a y h = absurd (let f : ⊥ = cc in f)
get_set_same (x ∷ xs) zero a y h = refl
get_set_same (x ∷ xs) (suc i) a y h = get_set_same xs i a y h

pub get_set_other : {X : Type 0} (xs : List X) (i k : ℕ) (y : X) → (i ≡ k → ⊥) → slice_get (slice_set xs i y) k ≡ slice_get xs k
get_set_other [] i k y ne = refl
get_set_other (x ∷ xs) zero zero y ne = absurd (ne refl)
get_set_other (x ∷ xs) zero (suc k) y ne = refl
get_set_other (x ∷ xs) (suc i) zero y ne = refl
get_set_other (x ∷ xs) (suc i) (suc k) y ne = get_set_other xs i k y (λ e. ne (ap suc e))

taken : (x b c : NetDriver) (u : Bool) → (u ≡ true → x ≡ b) → (b ≡ Nothing → ⊥) → x ≡ merged x (cond u c Nothing)
taken x b c true same some = sym (merged_some x c (λ h. some (sym (same refl) ∙ h)))
taken x b c false same some = sym (merged_none x)

-- one drive: what is found at a net
found_at : (s : Notes) (d : Drive) (net : ℕ) (a : NetDriver) (o : Option NetDriver) (t : Bool) → slice_get s.found net ≡ Some a → slice_get s.found d.0.0 ≡ o → (d.0.0 == net) ≡ t → slice_get (noted_at o s d).found net ≡ Some (merged a (cond t d.1 Nothing))
found_at s d net a None t at is test = at ∙ absent t test
  where
    absent : (u : Bool) → (d.0.0 == net) ≡ u → Some a ≡ Some (merged a (cond u d.1 Nothing))
    absent true h = (let e : Some a ≡ None = sym at ∙ ap (slice_get s.found) (sym (eqb-true d.0.0 net h)) ∙ is in absurd (let f : ⊥ = cc in f))
    absent false h = ap Some (sym (merged_none a))
found_at s d net a (Some Nothing) true at is test =
    let e = eqb-true d.0.0 net test in
    let was : Some a ≡ Some Nothing = sym at ∙ ap (slice_get s.found) (sym e) ∙ is in
    let nothing : a ≡ Nothing = cc in
    ap (λ k. slice_get (slice_set s.found d.0.0 d.1) k) (sym e) ∙ get_set_same s.found d.0.0 Nothing d.1 is ∙ ap (λ x. Some (merged x d.1)) (sym nothing)
found_at s d net a (Some Nothing) false at is test = get_set_other s.found d.0.0 net d.1 (eqb-false d.0.0 net test) ∙ at ∙ ap Some (sym (merged_none a))
found_at s d net a (Some Input) t at is test = at ∙ ap Some (taken a Input d.1 t (λ h. let e : Some a ≡ Some Input = sym at ∙ ap (slice_get s.found) (sym (eqb-true d.0.0 net (test ∙ h))) ∙ is in cc) (λ h. cc))
found_at s d net a (Some (Pin i p)) t at is test = at ∙ ap Some (taken a (Pin i p) d.1 t (λ h. let e : Some a ≡ Some (Pin i p) = sym at ∙ ap (slice_get s.found) (sym (eqb-true d.0.0 net (test ∙ h))) ∙ is in cc) (λ h. cc))
found_at s d net a (Some (Join j)) t at is test = at ∙ ap Some (taken a (Join j) d.1 t (λ h. let e : Some a ≡ Some (Join j) = sym at ∙ ap (slice_get s.found) (sym (eqb-true d.0.0 net (test ∙ h))) ∙ is in cc) (λ h. cc))

pub noted_found : (s : Notes) (d : Drive) (net : ℕ) (a : NetDriver) → slice_get s.found net ≡ Some a → slice_get (noted s d).found net ≡ Some (merged a (of_net d net))
noted_found s d net a at = found_at s d net a (slice_get s.found d.0.0) (d.0.0 == net) at refl refl

pub all_found : (s : Notes) (ds : List Drive) (net : ℕ) (a : NetDriver) → slice_get s.found net ≡ Some a → slice_get (all_noted s ds).found net ≡ Some (merged a (first_by ds net))
all_found s [] net a at = at ∙ ap Some (sym (merged_none a))
all_found s (d ∷ ds) net a at = all_found (noted s d) ds net (merged a (of_net d net)) (noted_found s d net a at) ∙ ap Some (merged-assoc a (of_net d net) (first_by ds net))
