-- A design with a stuck net has one driver for each net at most, and its nets have the order that they had.
use Rattle.std.proofs.Common.{ℕ, ◌≡◌, ◌≢◌, ◌==◌, ◌≤◌, ◌<◌, Bool, true, false, List, [], ◌∷◌, ◌++◌, length, map, Option, None, Some, option_map, slice_get, inl, inr, refl, sym, subst, ap, arith, ◌∙◌}
use Rattle.std.specs.Prelude.{if◌then◌else◌}
use Rattle.std.proofs.lemmas.Bool.{eq-eqb}
use Rattle.std.proofs.lemmas.Bool.Decides.{eqb_tells}
use Rattle.std.proofs.lemmas.Option.{slice_get-map}
use Rattle.dft_cells.specs.declared.cell.Cell.{Cell}
use Rattle.dft_netlist.specs.declared.instance.Instance.{Instance}
use Rattle.dft_netlist.specs.Netlist.{Netlist}
use Rattle.dft_netlist.specs.Drivers.{Driver, Joined, Tied, Input, Gate, Flop, Free, driver, nets_of, nets_read, lockup_inputs, pins_at, shape_of, AreBelow, IsOrdered, all_driven, driver_in, Driven}
use Rattle.dft_netlist.specs.Drivers as drivers
use Rattle.dft_netlist.specs.NetDrivers.{IsSingle}
use Rattle.dft_netlist.specs.Orders.{Has, reads_of, IsOrderable, Follows}
use Rattle.dft_scan_frame.proofs.Mergings.{times}
use Rattle.dft_faults.specs.declared.fault.Fault.{Fault}
use Rattle.dft_faults.specs.Faulty.{loosened, faulty, IsFault}
use Rattle.dft_faults.specs.Laws.{DriversStay, FaultyCanFinish, OrderStays}
use Rattle.dft_faults.proofs.Others.{lockups_stay, all_faulty, others, stuck_driver, other_driver, stuck_once, others_driven}

-- ---- drivers

at_stuck : (n : Netlist) (f : Fault) → IsFault n f → driver (faulty n f) f.net.0 ≡ Joined (Tied f.value)
at_stuck n f fault = ap (λ (ds : List Driven). driver_in ds f.net.0) (all_faulty n f fault) ∙ stuck_driver f.net.0 (Joined (Tied f.value)) (all_driven n)

at_other : (n : Netlist) (f : Fault) (k : ℕ) → IsFault n f → k ≢ f.net.0 → driver (faulty n f) k ≡ driver n k
at_other n f k fault apart = ap (λ (ds : List Driven). driver_in ds k) (all_faulty n f fault) ∙ other_driver f.net.0 k (Joined (Tied f.value)) (all_driven n) apart

pub drivers_stay : DriversStay
drivers_stay n f net fault = elim (eqb_tells net f.net.0) [
  | inl is ↦ ap (driver (faulty n f)) is.1 ∙ at_stuck n f fault ∙ sym (ap (λ b. if b then Joined (Tied f.value) else driver n net) is.0)
  | inr other ↦ at_other n f net fault other.1 ∙ sym (ap (λ b. if b then Joined (Tied f.value) else driver n net) other.0)
]

faulty_single : (n : Netlist) (f : Fault) → IsFault n f → IsSingle n → IsSingle (faulty n f)
faulty_single n f fault single = λ net. subst (λ m. m ≤ 1) (sym (ap (times net) (all_faulty n f fault))) (elim (eqb_tells net f.net.0) [
  | inl is ↦ subst (λ k. times k (others f.net.0 (all_driven n) ++ (f.net.0, Joined (Tied f.value)) ∷ []) ≤ 1) (sym is.1) (omega (arith, stuck_once f.net.0 (Joined (Tied f.value)) (all_driven n)))
  | inr other ↦ omega (arith, others_driven f.net.0 net (Joined (Tied f.value)) (all_driven n) other.1, single net)
])

-- ---- what drivers read

lockup_reads : (library : List Cell) (net i : ℕ) (o : Option Instance) → lockup_inputs i (pins_at library (option_map (loosened library net) o)) ≡ lockup_inputs i (pins_at library o)
lockup_reads library net i None = refl
lockup_reads library net i (Some x) = lockups_stay net i 0 (shape_of library x.cell).roles x.pins

reads_stay : (n : Netlist) (f : Fault) (d : Driver) → nets_read (faulty n f) d ≡ nets_read n d
reads_stay n f Input = refl
reads_stay n f (Gate kind inputs) = refl
reads_stay n f (Joined source) = refl
reads_stay n f (Flop i inverted) = refl
reads_stay n f (drivers.Lockup i) =
    ap (λ (o : Option Instance). nets_of (lockup_inputs i (pins_at n.library o))) (slice_get-map (loosened n.library f.net.0) n.instances i)
    ∙ ap nets_of (lockup_reads n.library f.net.0 i (slice_get n.instances i))
reads_stay n f Free = refl

-- the stuck net reads nothing, and any other what it read
stuck_reads : (n : Netlist) (f : Fault) → IsFault n f → reads_of (faulty n f) f.net.0 ≡ []
stuck_reads n f fault = ap (nets_read (faulty n f)) (at_stuck n f fault)

other_reads : (n : Netlist) (f : Fault) (k : ℕ) → IsFault n f → k ≢ f.net.0 → reads_of (faulty n f) k ≡ reads_of n k
other_reads n f k fault apart = ap (nets_read (faulty n f)) (at_other n f k fault apart) ∙ reads_stay n f (driver n k)

-- ---- the order

reads_less : (n : Netlist) (f : Fault) (k read : ℕ) → IsFault n f → Has (reads_of (faulty n f) k) read → Has (reads_of n k) read
reads_less n f k read fault has = elim (eqb_tells k f.net.0) [
  | inl is ↦ absurd (subst (λ (nets : List ℕ). Has nets read) (ap (reads_of (faulty n f)) is.1 ∙ stuck_reads n f fault) has)
  | inr other ↦ subst (λ (nets : List ℕ). Has nets read) (other_reads n f k fault other.1) has
]

orderable_stays : (n : Netlist) (f : Fault) (k : ℕ) → IsFault n f → IsOrderable n k → IsOrderable (faulty n f) k
orderable_stays n f _ fault (Follows {net = k} follows) = Follows {net = k} (λ read has. orderable_stays n f read fault (follows read (reads_less n f k read fault has)))

pub can_finish : FaultyCanFinish
can_finish n f fault single orderable = record { single = faulty_single n f fault single; orderable = λ net less. orderable_stays n f net fault (orderable net less) }

pub order_stays : OrderStays
order_stays n f rank fault order = record {
  after = λ net. elim (eqb_tells net f.net.0) [
    | inl is ↦ subst (AreBelow rank (rank net)) (sym (ap (reads_of (faulty n f)) is.1 ∙ stuck_reads n f fault)) tt
    | inr other ↦ subst (AreBelow rank (rank net)) (sym (other_reads n f net fault other.1)) (order.after net)
  ];
  within = order.within;
}
