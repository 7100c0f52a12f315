-- What look-ups by name give.
use Rattle.std.proofs.Common.{◌≡◌, ℕ, suc, ◌+◌, ◌<◌, ◌≤◌, Bool, true, false, cond, List, [], ◌∷◌, length, Option, None, Some, slice_get, refl, ap, arith}
use Rattle.std.specs.Prelude.{if◌then◌else◌}
use Rattle.std.specs.Str.{bytes_eq}
use Rattle.dft_base.specs.Lexing.{Text}
use Rattle.dft_cells.specs.declared.kind.Kind.{Kind}
use Rattle.dft_cells.specs.declared.kind.Kind.TheVariants as kind
use Rattle.dft_netlist.specs.declared.ids.NetId.{NetId}
use Rattle.dft_netlist.specs.declared.ids.InstanceId.{InstanceId}
use Rattle.dft_netlist.specs.declared.instance.Instance.{Instance}
use Rattle.dft_netlist.specs.declared.instance.Join.{Join}
use Rattle.dft_netlist.specs.declared.net_driver.NetDriver.{NetDriver}
use Rattle.dft_netlist.specs.declared.net_driver.NetDriver.TheVariants as by
use Rattle.dft_netlist.specs.Netlist.{Netlist}
use Rattle.dft_netlist.specs.Drivers.{Source, driver, driver_of_kind}
use Rattle.dft_netlist.specs.NetDrivers.{driver_at, joined_by}
use Rattle.dft_netlist.specs.Names.{find_net, find_net_from, find_instance, find_instance_from, has_this_name}
use Rattle.dft_netlist.specs.Connections.{input_net, is_input}

-- ---- what is found is there

pub record Between (from count k : ℕ) : Type 0 where
  pub low : from ≤ k
  pub high : k < from + count

net_or : (t : Bool) (from count : ℕ) (k : NetId) (r : Option NetId) → (r ≡ Some k → Between (suc from) count k.0) → cond t (Some (record { 0 = from })) r ≡ Some k → Between from (suc count) k.0
net_or true from count k r rest h = let e : record { 0 = from } ≡ k = cc in let i : from ≡ k.0 = ap (λ (x : NetId). x.0) e in record { low = omega arith; high = omega arith }
net_or false from count k r rest h = let b = rest h in let l = b.low in let u = b.high in record { low = omega arith; high = omega arith }

net_between : (from : ℕ) (nets : List Text) (name : Text) (k : NetId) → find_net_from from nets name ≡ Some k → Between from (length nets) k.0
net_between from [] name k h = absurd (let f : ⊥ = cc in f)
net_between from (x ∷ nets) name k h = net_or (bytes_eq x name) from (length nets) k (find_net_from (suc from) nets name) (net_between (suc from) nets name k) h

pub net_there : (n : Netlist) (name : Text) (k : NetId) → find_net n name ≡ Some k → k.0 < length n.nets
net_there n name k h = let b = net_between 0 n.nets name k h in let u = b.high in omega arith

instance_or : (t : Bool) (from count : ℕ) (k : InstanceId) (r : Option InstanceId) → (r ≡ Some k → Between (suc from) count k.0) → cond t (Some (record { 0 = from })) r ≡ Some k → Between from (suc count) k.0
instance_or true from count k r rest h = let e : record { 0 = from } ≡ k = cc in let i : from ≡ k.0 = ap (λ (x : InstanceId). x.0) e in record { low = omega arith; high = omega arith }
instance_or false from count k r rest h = let b = rest h in let l = b.low in let u = b.high in record { low = omega arith; high = omega arith }

instance_between : (from : ℕ) (instances : List Instance) (name : Text) (k : InstanceId) → find_instance_from from instances name ≡ Some k → Between from (length instances) k.0
instance_between from [] name k h = absurd (let f : ⊥ = cc in f)
instance_between from (x ∷ instances) name k h = instance_or (has_this_name x.name name) from (length instances) k (find_instance_from (suc from) instances name) (instance_between (suc from) instances name k) h

pub instance_there : (n : Netlist) (name : Text) (k : InstanceId) → find_instance n name ≡ Some k → k.0 < length n.instances
instance_there n name k h = let b = instance_between 0 n.instances name k h in let u = b.high in omega arith

-- ---- bits of input ports

abbrev pub is_input_driver : NetDriver → Bool
is_input_driver by.Input = true
is_input_driver (by.Pin instance pin) = false
is_input_driver (by.Join number) = false
is_input_driver by.Nothing = false

pub kind_is_no_input : (kind : Kind) (i : ℕ) (inverted : Bool) (inputs : List Source) → is_input (driver_of_kind kind i inverted inputs) ≡ false
kind_is_no_input (kind.Gate gate) i inverted inputs = refl
kind_is_no_input (kind.Flop flop) i inverted inputs = refl
kind_is_no_input kind.Lockup i inverted inputs = refl
kind_is_no_input kind.Opaque i inverted inputs = refl

pub join_is_no_input : (join : Option Join) → is_input (joined_by join) ≡ false
join_is_no_input None = refl
join_is_no_input (Some join) = refl

pub same_input : (n : Netlist) (d : NetDriver) → is_input (driver_at n d) ≡ is_input_driver d
same_input n by.Input = refl
same_input n (by.Pin instance pin) = kind_is_no_input _ _ _ _
same_input n (by.Join number) = join_is_no_input (slice_get n.joins number)
same_input n by.Nothing = refl

pub found_net : (n : Netlist) (name : Text) (k : NetId) (d : NetDriver) (t : Bool) → find_net n name ≡ Some k → driver n k.0 ≡ driver_at n d → is_input_driver d ≡ t → input_net n name ≡ (if t then Some k else None)
found_net n name k d t found is input = rw (found, is, same_input n d, input) refl

pub missed_net : (n : Netlist) (name : Text) → find_net n name ≡ None → input_net n name ≡ None
missed_net n name missed = rw missed refl
