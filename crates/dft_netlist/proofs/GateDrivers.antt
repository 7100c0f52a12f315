-- A gate that drives a net is an instance, of the gate's kind and with its inputs.
use Rattle.std.proofs.Common.{ℕ, ◌≡◌, ◌<◌, ◌⊎◌, inl, inr, Bool, List, length, Option, None, Some, slice_get, refl, sym, ap, ◌∙◌}
use Rattle.dft_cells.specs.declared.kind.Kind.{Kind}
use Rattle.dft_cells.specs.declared.kind.Kind.TheVariants as kind
use Rattle.dft_cells.specs.declared.kind.Gate.{Gate as GateKind}
use Rattle.dft_netlist.specs.declared.ids.InstanceId.{InstanceId}
use Rattle.dft_netlist.specs.declared.instance.Instance.{Instance}
use Rattle.dft_netlist.specs.declared.instance.Join.{Join}
use Rattle.dft_netlist.specs.declared.net_driver.NetDriver.{NetDriver}
use Rattle.dft_netlist.specs.declared.net_driver.NetDriver.TheVariants.{Input, Pin, Join as AJoin, Nothing}
use Rattle.dft_netlist.specs.Netlist.{Netlist}
use Rattle.dft_netlist.specs.Drivers.{Source, Gate, Free, driver_of_kind, driver, all_driven, inputs_of, connections_of, shape_of}
use Rattle.dft_netlist.specs.NetDrivers.{driver_at, is_inverted, roles_at, joined_by, Drives}
use Rattle.dft_netlist.specs.Notes.{all_drives}
use Rattle.dft_netlist.specs.Sound.{IsNetlist}
use Rattle.dft_netlist.proofs.ClashLemmas.{driver_same, first_drives}
use Rattle.dft_netlist.proofs.DriveLemmas.{all_entries, first_by}
use Rattle.dft_netlist.proofs.LiveLemmas.{drive_live}

-- ---- the place that drives a net

pub record IsDriven (n : Netlist) (net : ℕ) : Type 0 where
  pub by : NetDriver
  pub driver : driver n net ≡ driver_at n by
  pub drives : (by ≡ Nothing) ⊎ Drives n by net

pub driven : (n : Netlist) (net : ℕ) → IsDriven n net
driven n net = record {
  by = first_by (all_drives n) net;
  driver = driver_same n (all_drives n) (all_driven n) net (all_entries n);
  drives = elim (first_drives n (all_drives n) (all_driven n) net (all_entries n)) [
    | inl none ↦ inl none.0
    | inr d ↦ inr d
  ];
}

-- a net that something drives is one of the netlist's
pub driven_live : (n : Netlist) (net : ℕ) → IsNetlist n → (driver n net ≡ Free → ⊥) → net < length n.nets
driven_live n net sound some = by (driven n net).by (driven n net).driver (driven n net).drives
  where
    by : (b : NetDriver) → driver n net ≡ driver_at n b → (b ≡ Nothing) ⊎ Drives n b net → net < length n.nets
    by b is (inl none) = absurd (some (is ∙ ap (driver_at n) none))
    by Nothing is (inr d) = absurd (some is)
    by Input is (inr d) = drive_live n sound Input net (λ e. cc) d
    by (Pin i p) is (inr d) = drive_live n sound (Pin i p) net (λ e. cc) d
    by (AJoin j) is (inr d) = drive_live n sound (AJoin j) net (λ e. cc) d

-- what an output pin drives its net with
pub pin_driver : (n : Netlist) (id : InstanceId) (p : ℕ) (x : Instance) → slice_get n.instances id.0 ≡ Some x → driver_at n (Pin id p) ≡ driver_of_kind (shape_of n.library x.cell).kind id.0 (is_inverted (slice_get (roles_at n id.0) p)) (inputs_of id.0 (connections_of n.library x))
pin_driver n id p x at = rw at refl

-- ---- gates

pub record IsGate (n : Netlist) (k : GateKind) (inputs : List Source) : Type 0 where
  pub number : ℕ
  pub instance : Instance
  pub at : slice_get n.instances number ≡ Some instance
  pub kind : (shape_of n.library instance.cell).kind ≡ kind.Gate k
  pub reads : inputs_of number (connections_of n.library instance) ≡ inputs

gate_same : (a k : GateKind) (own inputs : List Source) → Gate a own ≡ Gate k inputs → (kind.Gate a ≡ kind.Gate k) × (own ≡ inputs)
gate_same a k own inputs h = ((cc), (cc))

kind_same : (a : Kind) (i : ℕ) (inverted : Bool) (own : List Source) (k : GateKind) (inputs : List Source) → driver_of_kind a i inverted own ≡ Gate k inputs → (a ≡ kind.Gate k) × (own ≡ inputs)
kind_same (kind.Flop flop) i inverted own k inputs h = absurd cc
kind_same kind.Opaque i inverted own k inputs h = absurd cc
kind_same kind.Lockup i inverted own k inputs h = absurd cc
kind_same (kind.Gate gate) i inverted own k inputs h = gate_same gate k own inputs h

no_join : (o : Option Join) (k : GateKind) (inputs : List Source) → joined_by o ≡ Gate k inputs → ⊥
no_join None k inputs h = cc
no_join (Some join) k inputs h = cc

pub gate_drives : (n : Netlist) (net : ℕ) (k : GateKind) (inputs : List Source) → driver n net ≡ Gate k inputs → IsGate n k inputs
gate_drives n net k inputs is = by (driven n net).by (sym (driven n net).driver ∙ is) (driven n net).drives
  where
    by : (b : NetDriver) → driver_at n b ≡ Gate k inputs → (b ≡ Nothing) ⊎ Drives n b net → IsGate n k inputs
    by Nothing e d = absurd cc
    by Input e d = absurd cc
    by (AJoin j) e d = absurd (no_join (slice_get n.joins j) k inputs e)
    by (Pin i p) e (inl none) = absurd cc
    by (Pin i p) e (inr d) =
        let x : Instance = d.instance in
        let same = kind_same (shape_of n.library x.cell).kind i.0 (is_inverted (slice_get (roles_at n i.0) p)) (inputs_of i.0 (connections_of n.library x)) k inputs (sym (pin_driver n i p x d.at) ∙ e) in
        record { number = i.0; instance = x; at = d.at; kind = same.0; reads = same.1 }
