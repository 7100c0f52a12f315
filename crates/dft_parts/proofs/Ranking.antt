-- Where each instance drives nets that stand above those that it reads, every net can be ordered.
use Rattle.std.proofs.Common.{ℕ, zero, suc, ◌+◌, ◌≡◌, ◌==◌, ◌<◌, ◌⊎◌, inl, inr, Bool, true, false, List, [], ◌∷◌, ◌++◌, length, Option, Some, slice_get, refl, sym, subst, ap, arith, ◌∙◌}
use Rattle.std.specs.Prelude.{if◌then◌else◌}
use Rattle.std.proofs.lemmas.Option.{none-some, same_Some}
use Rattle.std.proofs.lemmas.Bool.{eqb-true}
use Rattle.dft_base.specs.declared.dir.Dir.{Dir}
use Rattle.dft_base.specs.declared.dir.Dir.TheVariants as dir
use Rattle.dft_base.proofs.ListLemmas.{get_right}
use Rattle.dft_cells.specs.declared.kind.Kind.{Kind}
use Rattle.dft_cells.specs.declared.kind.Kind.TheVariants as kind
use Rattle.dft_cells.specs.declared.kind.Role.{Role}
use Rattle.dft_cells.specs.declared.kind.Role.TheVariants as role
use Rattle.dft_netlist.specs.declared.ids.NetId.{NetId}
use Rattle.dft_netlist.specs.declared.instance.Signal.{Signal}
use Rattle.dft_netlist.specs.declared.instance.Signal.TheVariants as signal
use Rattle.dft_netlist.specs.declared.instance.Instance.{Instance}
use Rattle.dft_netlist.specs.declared.instance.Join.{Join}
use Rattle.dft_netlist.specs.declared.port.Port.{Port}
use Rattle.dft_netlist.specs.Netlist.{Netlist}
use Rattle.dft_netlist.specs.NetDrivers.{IsSingle}
use Rattle.dft_netlist.specs.Orders.{Has, IsOrderable, Follows, reads_of}
use Rattle.dft_netlist.specs.Drivers.{Source, Driver, Driven, Connection, Joined, driver_of_kind, at_role, inputs_of, lockup_inputs, connections_from, connections_of, driven_by_pins, driven_by, driven_by_instances, driven_by_bits, driven_by_ports, driven_by_joins, driver_in, driver, nets_read, nets_of, pins_at, pins_of, shape_of, source_of, AreBelow, IsOrdered}
use Rattle.dft_netlist.proofs.DriverLaws.{listed_drives}
use Rattle.dft_netlist.proofs.StandLemmas.{has_left, has_right, has_either}
use Rattle.dft_parts.specs.Parts.{Part, ANet, AnInstance, APin, Making, next_instance, pin_joined, instance_joined, with_part}
use Rattle.dft_parts.specs.Single.{net_driven, nets_driven}
use Rattle.dft_parts.specs.Ranks.{reads_by, read_by, IsRanked, IsJoinRanked, AreRanked, RanksOrder, OrderRanks, IsPinRanked, IsPartRanked, PartsRank}
use Rattle.dft_parts.proofs.Standing.{instance_drives}

-- ---- lists of nets

-- ---- what a driver reads

-- a driver of an instance reads what the instance reads
same_reads : (n : Netlist) (k : Kind) (i : ℕ) (inverted : Bool) (inputs : List Source) (pins : List Connection) → pins_of n i ≡ pins → nets_read n (driver_of_kind k i inverted inputs) ≡ reads_by (driver_of_kind k i false inputs) (lockup_inputs i pins)
same_reads n (kind.Gate gate) i b ins pins at = refl
same_reads n (kind.Flop flop) i b ins pins at = refl
same_reads n kind.Opaque i b ins pins at = refl
same_reads n kind.Lockup i b ins pins at = ap (λ (cs : List Connection). nets_of (lockup_inputs i cs)) at

own_reads : (n : Netlist) (i : ℕ) (x : Instance) (inverted : Bool) → slice_get n.instances i ≡ Some x →
    nets_read n (driver_of_kind (shape_of n.library x.cell).kind i inverted (inputs_of i (connections_of n.library x))) ≡ read_by n.library i x
own_reads n i x inverted at = same_reads n (shape_of n.library x.cell).kind i inverted (inputs_of i (connections_of n.library x)) (connections_of n.library x) (ap (pins_at n.library) at)

-- ---- every net can be ordered

-- each of these drivers reads nets below the one that it drives
abbrev AreAbove : Netlist → (rank : ℕ → ℕ) → List Driven → Type 0
AreAbove n rank [] = Unit {0}
AreAbove n rank (d ∷ ds) = ((read : ℕ) → Has (nets_read n d.1) read → rank read < rank d.0) × AreAbove n rank ds

above_append : (n : Netlist) (rank : ℕ → ℕ) (xs ys : List Driven) → AreAbove n rank xs → AreAbove n rank ys → AreAbove n rank (xs ++ ys)
above_append n rank [] ys h k = k
above_append n rank (x ∷ xs) ys h k = (h.0, above_append n rank xs ys h.1 k)

above_by : (n : Netlist) (rank : ℕ → ℕ) (net : ℕ) (d : Driven) (rest : Driver) (b : Bool) → (d.0 == net) ≡ b → ((read : ℕ) → Has (nets_read n d.1) read → rank read < rank d.0) → ((read : ℕ) → Has (nets_read n rest) read → rank read < rank net) →
    (read : ℕ) → Has (nets_read n (if b then d.1 else rest)) read → rank read < rank net
above_by n rank net d rest true is here more = λ read has. subst (λ k. rank read < rank k) (eqb-true d.0 net is) (here read has)
above_by n rank net d rest false is here more = more

above_in : (n : Netlist) (rank : ℕ → ℕ) (ds : List Driven) (net : ℕ) → AreAbove n rank ds → (read : ℕ) → Has (nets_read n (driver_in ds net)) read → rank read < rank net
above_in n rank [] net h = λ read has. absurd has
above_in n rank (d ∷ ds) net h = above_by n rank net d (driver_in ds net) (d.0 == net) refl h.0 (above_in n rank ds net h.1)

-- what drives a net of these pins reads below it
abbrev Reads : Netlist → (rank : ℕ → ℕ) → Kind → (i : ℕ) → List Source → List ℕ → Type 0
Reads n rank k i ins nets = (inverted : Bool) (read net : ℕ) → Has (nets_read n (driver_of_kind k i inverted ins)) read → Has nets net → rank read < rank net

role_above : (n : Netlist) (rank : ℕ → ℕ) (r : Role) (k : Kind) (i : ℕ) (ins : List Source) (s : Signal) → Reads n rank k i ins (net_driven r s) → AreAbove n rank (at_role r k i ins s)
role_above n rank role.Output k i ins (signal.Net net) h = (λ read has. h false read net.0 has (inl refl), tt)
role_above n rank role.Output k i ins (signal.Constant bit) h = tt
role_above n rank role.Output k i ins signal.Unconnected h = tt
role_above n rank role.Inverted k i ins (signal.Net net) h = (λ read has. h true read net.0 has (inl refl), tt)
role_above n rank role.Inverted k i ins (signal.Constant bit) h = tt
role_above n rank role.Inverted k i ins signal.Unconnected h = tt
role_above n rank role.Input k i ins s h = tt
role_above n rank role.Clock k i ins s h = tt
role_above n rank role.Din k i ins s h = tt
role_above n rank role.Reset k i ins s h = tt
role_above n rank role.Preset k i ins s h = tt
role_above n rank role.ScanIn k i ins s h = tt
role_above n rank role.ScanEnable k i ins s h = tt

pins_above : (n : Netlist) (rank : ℕ → ℕ) (k : Kind) (i pin : ℕ) (ins : List Source) (roles : List Role) (signals : List Signal) → Reads n rank k i ins (nets_driven roles signals) → AreAbove n rank (driven_by_pins k i ins (connections_from pin roles signals))
pins_above n rank k i pin ins [] signals h = tt
pins_above n rank k i pin ins (r ∷ roles) [] h = tt
pins_above n rank k i pin ins (r ∷ roles) (s ∷ signals) h =
    above_append n rank (at_role r k i ins s) (driven_by_pins k i ins (connections_from (suc pin) roles signals))
    (role_above n rank r k i ins s (λ inverted read net has there. h inverted read net has (has_left (net_driven r s) (nets_driven roles signals) net there)))
    (pins_above n rank k i (suc pin) ins roles signals (λ inverted read net has there. h inverted read net has (has_right (net_driven r s) (nets_driven roles signals) net there)))

instance_above : (n : Netlist) (rank : ℕ → ℕ) (i : ℕ) (x : Instance) → slice_get n.instances i ≡ Some x → IsRanked n.library rank i x → AreAbove n rank (driven_by n.library i x)
instance_above n rank i x at h =
    pins_above n rank (shape_of n.library x.cell).kind i 0 (inputs_of i (connections_of n.library x)) (shape_of n.library x.cell).roles x.pins
    (λ inverted read net has there. h read net (subst (λ (nets : List ℕ). Has nets read) (own_reads n i x inverted at) has) there)

instances_above : (n : Netlist) (rank : ℕ → ℕ) (i : ℕ) (xs : List Instance) → ((k : ℕ) (x : Instance) → slice_get xs k ≡ Some x → slice_get n.instances (i + k) ≡ Some x) → AreRanked n rank → AreAbove n rank (driven_by_instances n.library i xs)
instances_above n rank i [] at h = tt
instances_above n rank i (x ∷ xs) at h =
    let here : slice_get n.instances i ≡ Some x = ap (slice_get n.instances) (let e : i ≡ i + 0 = omega arith in e) ∙ at zero x refl in
    above_append n rank (driven_by n.library i x) (driven_by_instances n.library (suc i) xs) (instance_above n rank i x here (h.instances i x here))
    (instances_above n rank (suc i) xs (λ k z there. ap (slice_get n.instances) (let e : suc i + k ≡ i + suc k = omega arith in e) ∙ at (suc k) z there) h)

joins_above : (n : Netlist) (rank : ℕ → ℕ) (joins : List Join) → ((k : ℕ) (join : Join) → slice_get joins k ≡ Some join → IsJoinRanked rank join) → AreAbove n rank (driven_by_joins joins)
joins_above n rank [] h = tt
joins_above n rank (join ∷ joins) h = (h zero join refl, joins_above n rank joins (λ k j at. h (suc k) j at))

bits_above : (n : Netlist) (rank : ℕ → ℕ) (d : Dir) (bits : List NetId) → AreAbove n rank (driven_by_bits d bits)
bits_above n rank dir.Output bits = tt
bits_above n rank dir.Input [] = tt
bits_above n rank dir.Input (net ∷ bits) = (λ read has. absurd has, bits_above n rank dir.Input bits)

ports_above : (n : Netlist) (rank : ℕ → ℕ) (ports : List Port) → AreAbove n rank (driven_by_ports ports)
ports_above n rank [] = tt
ports_above n rank (port ∷ ports) = above_append n rank (driven_by_bits port.dir port.bits) (driven_by_ports ports) (bits_above n rank port.dir port.bits) (ports_above n rank ports)

-- what the driver of a net reads stands below the net
pub reads_below : (n : Netlist) (rank : ℕ → ℕ) → AreRanked n rank → (net read : ℕ) → Has (reads_of n net) read → rank read < rank net
reads_below n rank h net read has =
    let ports = driven_by_ports n.ports in
    let instances = driven_by_instances n.library 0 n.instances in
    let joins = driven_by_joins n.joins in
    above_in n rank ((ports ++ instances) ++ joins) net
    (above_append n rank (ports ++ instances) joins (above_append n rank ports instances (ports_above n rank n.ports) (instances_above n rank 0 n.instances (λ k x at. ap (slice_get n.instances) (let e : 0 + k ≡ k = omega arith in e) ∙ at) h)) (joins_above n rank n.joins h.joins))
    read has

ordered_below : (n : Netlist) (rank : ℕ → ℕ) (bound : ℕ) → AreRanked n rank → (net : ℕ) → rank net < bound → IsOrderable n net
ordered_below n rank zero h net less = absurd (omega (arith, less))
ordered_below n rank (suc bound) h net less = Follows (λ read has. ordered_below n rank bound h read (omega (arith, less, reads_below n rank h net read has)))

pub ranks_order : RanksOrder
ranks_order n rank h net = ordered_below n rank (suc (rank net)) h net (omega arith)

-- ---- an order ranks all

-- a net that an instance drives is listed, with a driver of its kind
record IsListed (k : Kind) (i : ℕ) (ins : List Source) (ds : List Driven) (net : ℕ) : Type 0 where
  pub inverted : Bool
  pub place : ℕ
  pub at : slice_get ds place ≡ Some (net, driver_of_kind k i inverted ins)

listed_left : (k : Kind) (i : ℕ) (ins : List Source) (ds es : List Driven) (net : ℕ) → IsListed k i ins ds net → IsListed k i ins (ds ++ es) net
listed_left k i ins ds es net h = record { inverted = h.inverted; place = h.place; at = left ds h.place h.at }
  where
    left : (ds : List Driven) (place : ℕ) → slice_get ds place ≡ Some (net, driver_of_kind k i h.inverted ins) → slice_get (ds ++ es) place ≡ Some (net, driver_of_kind k i h.inverted ins)
    left [] place e = absurd (none-some (net, driver_of_kind k i h.inverted ins) e)
    left (d ∷ ds) zero e = e
    left (d ∷ ds) (suc place) e = left ds place e

listed_right : (k : Kind) (i : ℕ) (ins : List Source) (ds es : List Driven) (net : ℕ) → IsListed k i ins es net → IsListed k i ins (ds ++ es) net
listed_right k i ins ds es net h = record { inverted = h.inverted; place = length ds + h.place; at = get_right ds es h.place (net, driver_of_kind k i h.inverted ins) h.at }

listed_role : (r : Role) (k : Kind) (i : ℕ) (ins : List Source) (s : Signal) (net : ℕ) → Has (net_driven r s) net → IsListed k i ins (at_role r k i ins s) net
listed_role role.Output k i ins (signal.Net own) net (inl e) = record { inverted = false; place = zero; at = ap (λ m. Some (m, driver_of_kind k i false ins)) (sym e) }
listed_role role.Output k i ins (signal.Net own) net (inr h) = absurd h
listed_role role.Output k i ins (signal.Constant bit) net h = absurd h
listed_role role.Output k i ins signal.Unconnected net h = absurd h
listed_role role.Inverted k i ins (signal.Net own) net (inl e) = record { inverted = true; place = zero; at = ap (λ m. Some (m, driver_of_kind k i true ins)) (sym e) }
listed_role role.Inverted k i ins (signal.Net own) net (inr h) = absurd h
listed_role role.Inverted k i ins (signal.Constant bit) net h = absurd h
listed_role role.Inverted k i ins signal.Unconnected net h = absurd h
listed_role role.Input k i ins (signal.Net own) net h = absurd h
listed_role role.Input k i ins (signal.Constant bit) net h = absurd h
listed_role role.Input k i ins signal.Unconnected net h = absurd h
listed_role role.Clock k i ins (signal.Net own) net h = absurd h
listed_role role.Clock k i ins (signal.Constant bit) net h = absurd h
listed_role role.Clock k i ins signal.Unconnected net h = absurd h
listed_role role.Din k i ins (signal.Net own) net h = absurd h
listed_role role.Din k i ins (signal.Constant bit) net h = absurd h
listed_role role.Din k i ins signal.Unconnected net h = absurd h
listed_role role.Reset k i ins (signal.Net own) net h = absurd h
listed_role role.Reset k i ins (signal.Constant bit) net h = absurd h
listed_role role.Reset k i ins signal.Unconnected net h = absurd h
listed_role role.Preset k i ins (signal.Net own) net h = absurd h
listed_role role.Preset k i ins (signal.Constant bit) net h = absurd h
listed_role role.Preset k i ins signal.Unconnected net h = absurd h
listed_role role.ScanIn k i ins (signal.Net own) net h = absurd h
listed_role role.ScanIn k i ins (signal.Constant bit) net h = absurd h
listed_role role.ScanIn k i ins signal.Unconnected net h = absurd h
listed_role role.ScanEnable k i ins (signal.Net own) net h = absurd h
listed_role role.ScanEnable k i ins (signal.Constant bit) net h = absurd h
listed_role role.ScanEnable k i ins signal.Unconnected net h = absurd h

listed_pins : (k : Kind) (i pin : ℕ) (ins : List Source) (roles : List Role) (signals : List Signal) (net : ℕ) → Has (nets_driven roles signals) net → IsListed k i ins (driven_by_pins k i ins (connections_from pin roles signals)) net
listed_pins k i pin ins [] signals net h = absurd h
listed_pins k i pin ins (r ∷ roles) [] net h = absurd h
listed_pins k i pin ins (r ∷ roles) (s ∷ signals) net h =
    let first = at_role r k i ins s in
    let rest = driven_by_pins k i ins (connections_from (suc pin) roles signals) in
    elim (has_either (net_driven r s) (nets_driven roles signals) net h) [
      | inl here ↦ listed_left k i ins first rest net (listed_role r k i ins s net here)
      | inr there ↦ listed_right k i ins first rest net (listed_pins k i (suc pin) ins roles signals net there)
    ]

below_has : (rank : ℕ → ℕ) (bound : ℕ) (nets : List ℕ) (read : ℕ) → AreBelow rank bound nets → Has nets read → rank read < bound
below_has rank bound [] read h has = absurd has
below_has rank bound (net ∷ nets) read h (inl e) = subst (λ k. rank k < bound) (sym e) h.0
below_has rank bound (net ∷ nets) read h (inr has) = below_has rank bound nets read h.1 has

ranked_instance : (n : Netlist) (rank : ℕ → ℕ) (i : ℕ) (x : Instance) → IsSingle n → IsOrdered n rank → slice_get n.instances i ≡ Some x → IsRanked n.library rank i x
ranked_instance n rank i x single ordered at read net has there =
    let k = (shape_of n.library x.cell).kind in
    let ins = inputs_of i (connections_of n.library x) in
    let it : IsListed k i ins (driven_by n.library i x) net = listed_pins k i 0 ins (shape_of n.library x.cell).roles x.pins net there in
    let drives : driver n net ≡ driver_of_kind k i it.inverted ins = instance_drives n i it.place x (net, driver_of_kind k i it.inverted ins) single at it.at in
    below_has rank (rank net) (reads_of n net) read (ordered.after net)
    (subst (λ (nets : List ℕ). Has nets read) (sym (ap (nets_read n) drives ∙ own_reads n i x it.inverted at)) has)

join_at : (joins : List Join) (k : ℕ) (join : Join) → slice_get joins k ≡ Some join → slice_get (driven_by_joins joins) k ≡ Some (join.target.0, Joined (source_of 0 0 join.source))
join_at [] k join at = absurd (none-some join at)
join_at (z ∷ joins) zero join at = ap (λ (j : Join). Some (j.target.0, Joined (source_of 0 0 j.source))) (same_Some z join at)
join_at (z ∷ joins) (suc k) join at = join_at joins k join at

ranked_join : (n : Netlist) (rank : ℕ → ℕ) (k : ℕ) (join : Join) → IsSingle n → IsOrdered n rank → slice_get n.joins k ≡ Some join → IsJoinRanked rank join
ranked_join n rank k join single ordered at read has =
    let front = driven_by_ports n.ports ++ driven_by_instances n.library 0 n.instances in
    let d : Driven = (join.target.0, Joined (source_of 0 0 join.source)) in
    let drives : driver n join.target.0 ≡ Joined (source_of 0 0 join.source) = listed_drives n (length front + k) d single (get_right front (driven_by_joins n.joins) k d (join_at n.joins k join at)) in
    below_has rank (rank join.target.0) (reads_of n join.target.0) read (ordered.after join.target.0) (subst (λ (nets : List ℕ). Has nets read) (sym (ap (nets_read n) drives)) has)

pub order_ranks : OrderRanks
order_ranks n rank single ordered = record {
  instances = λ i x at. ranked_instance n rank i x single ordered at;
  joins = λ k join at. ranked_join n rank k join single ordered at;
}

-- ---- parts

-- an instance of a list to which one was added at its end
at_end : (xs : List Instance) (y : Instance) (i : ℕ) (x : Instance) → slice_get (xs ++ y ∷ []) i ≡ Some x → (slice_get xs i ≡ Some x) ⊎ ((i ≡ length xs) × (y ≡ x))
at_end [] y zero x at = inr (refl, same_Some y x at)
at_end [] y (suc i) x at = absurd (none-some x at)
at_end (z ∷ xs) y zero x at = inl at
at_end (z ∷ xs) y (suc i) x at = elim (at_end xs y i x at) [ inl h ↦ inl h | inr h ↦ inr (ap suc h.0, h.1) ]

-- an instance of a list in which a pin was joined
record IsJoined (pin : ℕ) (net : NetId) (x : Instance) (o : Option Instance) : Type 0 where
  pub own : Instance
  pub at : o ≡ Some own
  pub is : record own { pins = pin_joined pin net own.pins } ≡ x

at_joined : (j pin : ℕ) (net : NetId) (xs : List Instance) (i : ℕ) (x : Instance) → slice_get (instance_joined j pin net xs) i ≡ Some x → (slice_get xs i ≡ Some x) ⊎ ((i ≡ j) × IsJoined pin net x (slice_get xs j))
at_joined j pin net [] i x at = absurd (none-some x at)
at_joined zero pin net (z ∷ xs) zero x at = inr (refl, record { own = z; at = refl; is = same_Some (record z { pins = pin_joined pin net z.pins }) x at })
at_joined zero pin net (z ∷ xs) (suc i) x at = inl at
at_joined (suc j) pin net (z ∷ xs) zero x at = inl at
at_joined (suc j) pin net (z ∷ xs) (suc i) x at = elim (at_joined j pin net xs i x at) [ inl h ↦ inl h | inr h ↦ inr (ap suc h.0, h.1) ]

part_ranks : (s : Making) (rank : ℕ → ℕ) (part : Part) → AreRanked s.netlist rank → IsPartRanked s rank part → AreRanked (with_part s part).netlist rank
part_ranks s rank ANet h is = record { instances = h.instances; joins = h.joins }
part_ranks s rank (AnInstance cell pins) h is = record {
  instances = λ i x at. elim (at_end s.netlist.instances (next_instance s.made cell pins) i x at) [
    | inl old ↦ h.instances i x old
    | inr new ↦ subst (IsRanked s.netlist.library rank i) new.1 (subst (λ k. IsRanked s.netlist.library rank k (next_instance s.made cell pins)) (sym new.0) is)
  ];
  joins = h.joins;
}
part_ranks s rank (APin instance pin net) h is = record {
  instances = λ i x at. elim (at_joined instance.0 pin net s.netlist.instances i x at) [
    | inl old ↦ h.instances i x old
    | inr new ↦ subst (IsRanked s.netlist.library rank i) new.1.is
        (subst (λ k. IsRanked s.netlist.library rank k (record new.1.own { pins = pin_joined pin net new.1.own.pins })) (sym new.0) (subst (IsPinRanked s.netlist.library rank instance.0 pin net) new.1.at is))
  ];
  joins = h.joins;
}

pub parts_rank : PartsRank
parts_rank s rank [] h is = h
parts_rank s rank (part ∷ parts) h is = parts_rank (with_part s part) rank parts (part_ranks s rank part h is.0) is.1
