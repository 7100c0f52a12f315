-- What drives a net is counted, and an output pin or a join makes no bit of an input port.
use Rattle.std.proofs.Common.{ℕ, zero, suc, ◌+◌, ◌≡◌, ◌≤◌, ◌==◌, Bool, true, false, not, ◌&&◌, List, [], ◌∷◌, ◌++◌, cond, Some, slice_get, refl, sym, subst, ap, arith, ◌∙◌}
use Rattle.std.proofs.lemmas.Bool.{eq-eqb, lt-ltb}
use Rattle.std.proofs.lemmas.Option.{same_Some}
use Rattle.dft_cells.specs.declared.cell.Cell.{Cell}
use Rattle.dft_cells.specs.declared.kind.Kind.{Kind}
use Rattle.dft_cells.specs.declared.kind.Role.{Role}
use Rattle.dft_cells.specs.declared.kind.Role.TheVariants as role
use Rattle.dft_netlist.specs.declared.instance.Instance.{Instance}
use Rattle.dft_netlist.specs.declared.instance.Join.{Join}
use Rattle.dft_netlist.specs.declared.instance.Signal.{Signal}
use Rattle.dft_netlist.specs.declared.instance.Signal.TheVariants.{Net}
use Rattle.dft_netlist.specs.declared.net_driver.NetDriver.{NetDriver}
use Rattle.dft_netlist.specs.declared.net_driver.NetDriver.TheVariants as driven_at
use Rattle.dft_netlist.specs.Netlist.{Netlist}
use Rattle.dft_netlist.specs.Connections.{is_input}
use Rattle.dft_netlist.specs.Drivers.{Source, Driven, Joined, source_of, driver, driver_of_kind, at_role, connections_from, connections_of, inputs_of, shape_of, driven_by_pins, driven_by, driven_by_instances, driven_by_ports, driven_by_joins}
use Rattle.dft_netlist.specs.NetDrivers.{times_driven, driver_at, Drives, IsOutputPin, IsTarget}
use Rattle.dft_netlist.specs.Sound.{is_output}
use Rattle.dft_netlist.proofs.LookUpLemmas.{kind_is_no_input, join_is_no_input}
use Rattle.dft_scan_frame.proofs.Mergings.{times, times-cons}
use Rattle.dft_faults.specs.Faults.{is_driven, shows_clock, has_faults}

-- ---- counts

some_front : (net : ℕ) (xs ys : List Driven) → 1 ≤ times net xs → 1 ≤ times net (xs ++ ys)
some_front net [] ys some = absurd (omega (arith, some))
some_front net (x ∷ xs) ys some = front (x.0 == net) refl (some_front net xs ys)
  where
    front : (b : Bool) → (x.0 == net) ≡ b → (1 ≤ times net xs → 1 ≤ times net (xs ++ ys)) → 1 ≤ times net (x ∷ (xs ++ ys))
    front true is rest = omega (arith, times-cons net x (xs ++ ys), ap (λ b. cond {A = ℕ} b 1 0) is)
    front false is rest = omega (arith, times-cons net x (xs ++ ys), ap (λ b. cond {A = ℕ} b 1 0) is, rest (omega (arith, some, times-cons net x xs, ap (λ b. cond {A = ℕ} b 1 0) is)))

some_back : (net : ℕ) (xs ys : List Driven) → 1 ≤ times net ys → 1 ≤ times net (xs ++ ys)
some_back net [] ys some = some
some_back net (x ∷ xs) ys some = omega (arith, times-cons net x (xs ++ ys), some_back net xs ys some)

first_counts : (net : ℕ) (d : Driven) (ds : List Driven) → d.0 ≡ net → 1 ≤ times net (d ∷ ds)
first_counts net d ds is = omega (arith, times-cons net d ds, ap (λ b. cond {A = ℕ} b 1 0) (eq-eqb d.0 net is))

-- ---- pins

role_counts : (net : ℕ) (r : Role) (k : Kind) (i : ℕ) (inputs : List Source) (to : Signal) → is_output r ≡ true → to ≡ Net (record { 0 = net }) → 1 ≤ times net (at_role r k i inputs to)
role_counts net role.Output k i inputs to out is = subst (λ (s : Signal). 1 ≤ times net (at_role role.Output k i inputs s)) (sym is) (first_counts net (net, driver_of_kind k i false inputs) [] refl)
role_counts net role.Inverted k i inputs to out is = subst (λ (s : Signal). 1 ≤ times net (at_role role.Inverted k i inputs s)) (sym is) (first_counts net (net, driver_of_kind k i true inputs) [] refl)
role_counts net role.Input k i inputs to out is = absurd (let f : ⊥ = cc in f)
role_counts net role.Clock k i inputs to out is = absurd (let f : ⊥ = cc in f)
role_counts net role.Din k i inputs to out is = absurd (let f : ⊥ = cc in f)
role_counts net role.Reset k i inputs to out is = absurd (let f : ⊥ = cc in f)
role_counts net role.Preset k i inputs to out is = absurd (let f : ⊥ = cc in f)
role_counts net role.ScanIn k i inputs to out is = absurd (let f : ⊥ = cc in f)
role_counts net role.ScanEnable k i inputs to out is = absurd (let f : ⊥ = cc in f)

pin_counts : (net : ℕ) (k : Kind) (i : ℕ) (inputs : List Source) (from : ℕ) (roles : List Role) (pins : List Signal) (pin : ℕ) (r : Role) →
    slice_get roles pin ≡ Some r → is_output r ≡ true → slice_get pins pin ≡ Some (Net (record { 0 = net })) → 1 ≤ times net (driven_by_pins k i inputs (connections_from from roles pins))
pin_counts net k i inputs from [] pins pin r at out joined = absurd (let f : ⊥ = cc in f)
pin_counts net k i inputs from (s ∷ roles) [] pin r at out joined = absurd (let f : ⊥ = cc in f)
pin_counts net k i inputs from (s ∷ roles) (to ∷ pins) zero r at out joined =
    some_front net (at_role s k i inputs to) (driven_by_pins k i inputs (connections_from (suc from) roles pins))
    (role_counts net s k i inputs to (ap is_output (same_Some s r at) ∙ out) (same_Some to (Net (record { 0 = net })) joined))
pin_counts net k i inputs from (s ∷ roles) (to ∷ pins) (suc pin) r at out joined =
    some_back net (at_role s k i inputs to) (driven_by_pins k i inputs (connections_from (suc from) roles pins)) (pin_counts net k i inputs (suc from) roles pins pin r at out joined)

instance_counts : (net : ℕ) (library : List Cell) (from : ℕ) (xs : List Instance) (place : ℕ) (x : Instance) → slice_get xs place ≡ Some x → ((i : ℕ) → 1 ≤ times net (driven_by library i x)) → 1 ≤ times net (driven_by_instances library from xs)
instance_counts net library from [] place x at some = absurd (let f : ⊥ = cc in f)
instance_counts net library from (y ∷ xs) zero x at some =
    some_front net (driven_by library from y) (driven_by_instances library (suc from) xs) (subst (λ (z : Instance). 1 ≤ times net (driven_by library from z)) (sym (same_Some y x at)) (some from))
instance_counts net library from (y ∷ xs) (suc place) x at some =
    some_back net (driven_by library from y) (driven_by_instances library (suc from) xs) (instance_counts net library (suc from) xs place x at some)

join_counts : (net : ℕ) (xs : List Join) (place : ℕ) (x : Join) → slice_get xs place ≡ Some x → x.target.0 ≡ net → 1 ≤ times net (driven_by_joins xs)
join_counts net [] place x at is = absurd (let f : ⊥ = cc in f)
join_counts net (y ∷ xs) zero x at is = first_counts net (y.target.0, Joined (source_of 0 0 y.source)) (driven_by_joins xs) (ap (λ (j : Join). j.target.0) (same_Some y x at) ∙ is)
join_counts net (y ∷ xs) (suc place) x at is = some_back net ((y.target.0, Joined (source_of 0 0 y.source)) ∷ []) (driven_by_joins xs) (join_counts net xs place x at is)

-- ---- a pin or a join

pub pin_driven : (n : Netlist) (number pin net : ℕ) → IsOutputPin n number pin net → 1 ≤ times_driven n net
pin_driven n number pin net is =
    some_front net (driven_by_ports n.ports ++ driven_by_instances n.library 0 n.instances) (driven_by_joins n.joins)
    (some_back net (driven_by_ports n.ports) (driven_by_instances n.library 0 n.instances)
    (instance_counts net n.library 0 n.instances number is.instance is.at
    (λ i. pin_counts net (shape_of n.library is.instance.cell).kind i (inputs_of i (connections_of n.library is.instance)) 0 (shape_of n.library is.instance.cell).roles is.instance.pins pin is.role is.role_at is.output is.joined)))

pub join_driven : (n : Netlist) (number net : ℕ) → IsTarget n number net → 1 ≤ times_driven n net
join_driven n number net is =
    some_back net (driven_by_ports n.ports ++ driven_by_instances n.library 0 n.instances) (driven_by_joins n.joins) (join_counts net n.joins number is.join is.at is.target)

-- a net with a driver that is no input has faults where it shows no clock
has_them : (n : Netlist) (is_clock : ℕ → Bool) (net : ℕ) (shows : Bool) → 1 ≤ times_driven n net → is_input (driver n net) ≡ false → shows ≡ shows_clock n is_clock net → not shows ≡ has_faults n is_clock net
has_them n is_clock net shows some inner is = λ t. sym (lt-ltb 0 (times_driven n net) some) t && (not (sym inner t) && not (is t))

-- what a driver that is a pin or a join makes of it
pub pin_has_faults : (n : Netlist) (is_clock : ℕ → Bool) (net i pin : ℕ) (shows : Bool) → driver n net ≡ driver_at n (driven_at.Pin (record { 0 = i }) pin) → IsOutputPin n i pin net → shows ≡ shows_clock n is_clock net → not shows ≡ has_faults n is_clock net
pin_has_faults n is_clock net i pin shows driven is same = has_them n is_clock net shows (pin_driven n i pin net is) (ap is_input driven ∙ kind_is_no_input _ i _ _) same

pub join_has_faults : (n : Netlist) (is_clock : ℕ → Bool) (net number : ℕ) (shows : Bool) → driver n net ≡ driver_at n (driven_at.Join number) → IsTarget n number net → shows ≡ shows_clock n is_clock net → not shows ≡ has_faults n is_clock net
join_has_faults n is_clock net number shows driven is same = has_them n is_clock net shows (join_driven n number net is) (ap is_input driven ∙ join_is_no_input (slice_get n.joins number)) same
