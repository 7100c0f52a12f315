-- How often nets are driven adds up.
use Rattle.std.proofs.Common.{ℕ, zero, suc, ◌+◌, ◌≡◌, ◌≤◌, ◌==◌, ◌⊎◌, inl, inr, Bool, true, false, List, [], ◌∷◌, ◌++◌, slice_get, cond, refl, sym, subst, ap, arith, ◌∙◌}
use Rattle.std.proofs.lemmas.List.Sums.{sum_by-cons}
use Rattle.std.proofs.lemmas.Bool.{eqb-true, eq-eqb}
use Rattle.dft_cells.specs.declared.kind.Kind.{Kind}
use Rattle.dft_cells.specs.declared.kind.Role.{Role}
use Rattle.dft_cells.specs.declared.kind.Role.TheVariants as role
use Rattle.dft_cells.specs.declared.cell.Cell.{Cell}
use Rattle.dft_netlist.specs.declared.ids.NetId.{NetId}
use Rattle.dft_netlist.specs.declared.instance.Signal.{Signal}
use Rattle.dft_netlist.specs.declared.instance.Signal.TheVariants.{Net as AtNet, Constant, Unconnected}
use Rattle.dft_netlist.specs.declared.instance.Instance.{Instance}
use Rattle.dft_netlist.specs.Netlist.{Netlist}
use Rattle.dft_netlist.specs.NetDrivers.{times_driven}
use Rattle.dft_netlist.specs.Orders.{AreOnce, Has}
use Rattle.dft_netlist.specs.Drivers.{Source, Driven, connections_from, connections_of, inputs_of, at_role, driven_by_pins, driven_by, driven_by_instances, driven_by_ports, driven_by_joins, shape_of}
use Rattle.dft_netlist.proofs.DriverLaws.{times}
use Rattle.dft_parts.specs.Parts.{Part, ANet, AnInstance, APin, Making, next_instance, joined_to, pin_joined, instance_joined, with_part}
use Rattle.dft_parts.specs.Single.{net_driven, nets_driven, opened, opened_in, opened_at, driven_by_part, driven_by_parts, times_in, TimesAddUp, StaysSingle}

pub times_at-append : (xs ys : List Driven) (net : ℕ) → times (xs ++ ys) net ≡ times xs net + times ys net
times_at-append [] ys net = (let e : times ys net ≡ 0 + times ys net = omega arith in e)
times_at-append (x ∷ xs) ys net =
    omega (arith, sum_by-cons (λ (d : Driven). cond (d.0 == net) 1 0) x (xs ++ ys), sum_by-cons (λ (d : Driven). cond (d.0 == net) 1 0) x xs, times_at-append xs ys net)

pub times_in-append : (xs ys : List ℕ) (net : ℕ) → times_in (xs ++ ys) net ≡ times_in xs net + times_in ys net
times_in-append [] ys net = (let e : times_in ys net ≡ 0 + times_in ys net = omega arith in e)
times_in-append (x ∷ xs) ys net =
    omega (arith, sum_by-cons (λ (k : ℕ). cond (k == net) 1 0) x (xs ++ ys), sum_by-cons (λ (k : ℕ). cond (k == net) 1 0) x xs, times_in-append xs ys net)

-- ---- pins

role_times : (r : Role) (k : Kind) (i : ℕ) (ins : List Source) (s : Signal) (net : ℕ) → times (at_role r k i ins s) net ≡ times_in (net_driven r s) net
role_times role.Output k i ins (AtNet n) net = refl
role_times role.Output k i ins (Constant bit) net = refl
role_times role.Output k i ins Unconnected net = refl
role_times role.Inverted k i ins (AtNet n) net = refl
role_times role.Inverted k i ins (Constant bit) net = refl
role_times role.Inverted k i ins Unconnected net = refl
role_times role.Input k i ins (AtNet n) net = refl
role_times role.Input k i ins (Constant bit) net = refl
role_times role.Input k i ins Unconnected net = refl
role_times role.Clock k i ins (AtNet n) net = refl
role_times role.Clock k i ins (Constant bit) net = refl
role_times role.Clock k i ins Unconnected net = refl
role_times role.Din k i ins (AtNet n) net = refl
role_times role.Din k i ins (Constant bit) net = refl
role_times role.Din k i ins Unconnected net = refl
role_times role.Reset k i ins (AtNet n) net = refl
role_times role.Reset k i ins (Constant bit) net = refl
role_times role.Reset k i ins Unconnected net = refl
role_times role.Preset k i ins (AtNet n) net = refl
role_times role.Preset k i ins (Constant bit) net = refl
role_times role.Preset k i ins Unconnected net = refl
role_times role.ScanIn k i ins (AtNet n) net = refl
role_times role.ScanIn k i ins (Constant bit) net = refl
role_times role.ScanIn k i ins Unconnected net = refl
role_times role.ScanEnable k i ins (AtNet n) net = refl
role_times role.ScanEnable k i ins (Constant bit) net = refl
role_times role.ScanEnable k i ins Unconnected net = refl

pins_times : (k : Kind) (i pin : ℕ) (ins : List Source) (roles : List Role) (signals : List Signal) (net : ℕ) → times (driven_by_pins k i ins (connections_from pin roles signals)) net ≡ times_in (nets_driven roles signals) net
pins_times k i pin ins [] signals net = refl
pins_times k i pin ins (r ∷ roles) [] net = refl
pins_times k i pin ins (r ∷ roles) (s ∷ signals) net =
    let rest = connections_from (suc pin) roles signals in
    omega (arith, times_at-append (at_role r k i ins s) (driven_by_pins k i ins rest) net, role_times r k i ins s net, pins_times k i (suc pin) ins roles signals net, times_in-append (net_driven r s) (nets_driven roles signals) net)

-- ---- instances

-- how often instances drive a net
instance_times : List Cell → List Instance → ℕ → ℕ
instance_times library [] net = 0
instance_times library (x ∷ xs) net = times_in (nets_driven (shape_of library x.cell).roles x.pins) net + instance_times library xs net

counted : (library : List Cell) (i : ℕ) (xs : List Instance) (net : ℕ) → times (driven_by_instances library i xs) net ≡ instance_times library xs net
unfolding instance_times
counted library i [] net = refl
counted library i (x ∷ xs) net =
    let own = inputs_of i (connections_of library x) in
    omega (arith, times_at-append (driven_by library i x) (driven_by_instances library (suc i) xs) net, pins_times (shape_of library x.cell).kind i 0 own (shape_of library x.cell).roles x.pins net, counted library (suc i) xs net)

-- how often a net is driven by all that is there
all_times : (n : Netlist) (net : ℕ) → times_driven n net ≡ times (driven_by_ports n.ports) net + instance_times n.library n.instances net + times (driven_by_joins n.joins) net
all_times n net =
    let ports = driven_by_ports n.ports in
    let instances = driven_by_instances n.library 0 n.instances in
    omega (arith, times_at-append (ports ++ instances) (driven_by_joins n.joins) net, times_at-append ports instances net, counted n.library 0 n.instances net)

more_times : (library : List Cell) (xs : List Instance) (x : Instance) (net : ℕ) → instance_times library (xs ++ x ∷ []) net ≡ instance_times library xs net + times_in (nets_driven (shape_of library x.cell).roles x.pins) net
unfolding instance_times
more_times library [] x net = omega arith
more_times library (y ∷ xs) x net = omega (arith, more_times library xs x net)

-- ---- a pin that is joined

signal_times : (r : Role) (s : Signal) (to : NetId) (net : ℕ) → times_in (net_driven r (joined_to to s)) net ≡ times_in (net_driven r s) net + times_in (opened r s to) net
signal_times r Unconnected to net = omega arith
signal_times r (AtNet n) to net = omega arith
signal_times r (Constant bit) to net = refl

joined_times : (roles : List Role) (signals : List Signal) (pin : ℕ) (to : NetId) (net : ℕ) → times_in (nets_driven roles (pin_joined pin to signals)) net ≡ times_in (nets_driven roles signals) net + times_in (opened_in roles signals pin to) net
joined_times [] signals pin to net = refl
joined_times (r ∷ roles) [] pin to net = refl
joined_times (r ∷ roles) (s ∷ signals) zero to net =
    omega (arith, times_in-append (net_driven r (joined_to to s)) (nets_driven roles signals) net, times_in-append (net_driven r s) (nets_driven roles signals) net, signal_times r s to net)
joined_times (r ∷ roles) (s ∷ signals) (suc pin) to net =
    omega (arith, times_in-append (net_driven r s) (nets_driven roles (pin_joined pin to signals)) net, times_in-append (net_driven r s) (nets_driven roles signals) net, joined_times roles signals pin to net)

opened_times : (library : List Cell) (xs : List Instance) (i pin : ℕ) (to : NetId) (net : ℕ) → instance_times library (instance_joined i pin to xs) net ≡ instance_times library xs net + times_in (opened_at library (slice_get xs i) pin to) net
unfolding instance_times
opened_times library [] i pin to net = refl
opened_times library (x ∷ xs) zero pin to net = omega (arith, joined_times (shape_of library x.cell).roles x.pins pin to net)
opened_times library (x ∷ xs) (suc i) pin to net = omega (arith, opened_times library xs i pin to net)

-- ---- parts

part_times : (s : Making) (part : Part) (net : ℕ) → times_driven (with_part s part).netlist net ≡ times_driven s.netlist net + times_in (driven_by_part s.netlist part) net
part_times s ANet net = (let e : times_driven s.netlist net ≡ times_driven s.netlist net + 0 = omega arith in e)
part_times s (AnInstance cell pins) net =
    omega (arith, all_times (with_part s (AnInstance cell pins)).netlist net, all_times s.netlist net, more_times s.netlist.library s.netlist.instances (next_instance s.made cell pins) net)
part_times s (APin instance pin to) net =
    omega (arith, all_times (with_part s (APin instance pin to)).netlist net, all_times s.netlist net, opened_times s.netlist.library s.netlist.instances instance.0 pin to net)

pub times_add_up : TimesAddUp
times_add_up s [] net = (let e : times_driven s.netlist net ≡ times_driven s.netlist net + 0 = omega arith in e)
times_add_up s (part ∷ parts) net =
    omega (arith, times_add_up (with_part s part) parts net, part_times s part net, times_in-append (driven_by_part s.netlist part) (driven_by_parts (with_part s part) parts) net)

-- ---- no net gets two drivers

same_or : (a b : ℕ) (t : Bool) → (a == b) ≡ t → (a ≡ b) ⊎ ((a == b) ≡ false)
same_or a b true h = inl (eqb-true a b h)
same_or a b false h = inr h

pub counted_first : (x net : ℕ) (xs : List ℕ) (b : Bool) → (x == net) ≡ b → times_in (x ∷ xs) net ≡ cond b 1 0 + times_in xs net
counted_first x net xs b h = sum_by-cons (λ (k : ℕ). cond (k == net) 1 0) x xs ∙ ap (λ (t : Bool). cond t 1 0 + times_in xs net) h

not_has : (nets : List ℕ) (net : ℕ) → (Has nets net → ⊥) → times_in nets net ≡ 0
not_has [] net h = refl
not_has (x ∷ nets) net h = elim (same_or x net (x == net) refl) [
  | inl e ↦ absurd (h (inl (sym e)))
  | inr differs ↦ (let first = counted_first x net nets false differs in let rest = not_has nets net (λ k. h (inr k)) in omega (arith, first, rest))
]

once : (nets : List ℕ) (net : ℕ) → AreOnce nets → times_in nets net ≤ 1
once [] net h = omega arith
once (x ∷ nets) net h = elim (same_or x net (x == net) refl) [
  | inl e ↦ (let first = counted_first x net nets true (eq-eqb x net e) in let rest = not_has nets net (λ k. h.0 (subst (Has nets) (sym e) k)) in omega (arith, first, rest))
  | inr differs ↦ (let first = counted_first x net nets false differs in let rest = once nets net h.1 in omega (arith, first, rest))
]

has_or : (nets : List ℕ) (net : ℕ) → Has nets net ⊎ (times_in nets net ≡ 0)
has_or [] net = inr refl
has_or (x ∷ nets) net = elim (same_or x net (x == net) refl) [
  | inl e ↦ inl (inl (sym e))
  | inr differs ↦ elim (has_or nets net) [
    | inl k ↦ inl (inr k)
    | inr none ↦ inr (let first = counted_first x net nets false differs in omega (arith, first, none))
  ]
]

pub stays_single : StaysSingle
stays_single s parts single differ free net =
    let add = times_add_up s parts net in
    let d = driven_by_parts s parts in
    elim (has_or d net) [
      | inl h ↦ (let old = free net h in let new = once d net differ in omega (arith, add, old, new))
      | inr none ↦ (let old = single net in omega (arith, add, none, old))
    ]
