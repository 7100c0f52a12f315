-- What the output of a cell reads, and the first net that is not placed.
use Rattle.std.proofs.Common.{◌≡◌, ℕ, suc, ◌+◌, ◌<◌, ◌≤◌, Bool, true, false, cond, List, [], ◌∷◌, ◌++◌, length, get_or, drop, Option, None, Some, refl, sym, ◌∙◌, ap, slice_get}
use Rattle.std.proofs.lemmas.List.{drop_more, drop_all}
use Rattle.dft_cells.specs.declared.kind.Kind.{Kind}
use Rattle.dft_cells.specs.declared.kind.Kind.TheVariants as cell_kind
use Rattle.dft_cells.specs.declared.kind.Role.{Role}
use Rattle.dft_netlist.specs.declared.ids.InstanceId.{InstanceId}
use Rattle.dft_netlist.specs.declared.instance.Instance.{Instance}
use Rattle.dft_netlist.specs.declared.instance.Signal.{Signal}
use Rattle.dft_netlist.specs.declared.instance.Signal.TheVariants as signal
use Rattle.dft_netlist.specs.declared.net_driver.NetDriver.TheVariants.{Pin}
use Rattle.dft_netlist.specs.declared.progress.State.{State}
use Rattle.dft_netlist.specs.Netlist.{Netlist}
use Rattle.dft_netlist.specs.Drivers.{Source, is_input, is_lockup_input, inputs_of, lockup_inputs, nets_of, nets_read, source_of, connections_from, driver_of_kind, shape_of, pins_of}
use Rattle.dft_netlist.specs.NetDrivers.{driver_at, is_inverted, roles_at}
use Rattle.dft_netlist.specs.Progress.{first_open, is_placed}
use Rattle.dft_netlist.specs.Reading.{reads_role, net_of_signal, read_at, pins_read}
use Rattle.dft_netlist.proofs.NotesLemmas.{drop_role}

-- ---- the first net that is not placed

open_or : (t : Bool) (k x : ℕ) (r r' : Option ℕ) → (r ≡ Some k → r' ≡ Some k) → cond t r (Some x) ≡ Some k → cond t r' (Some x) ≡ Some k
open_or true k x r r' f h = f h
open_or false k x r r' f h = h

pub open_some : (states : List State) (xs ys : List ℕ) (k : ℕ) → first_open states xs ≡ Some k → first_open states (xs ++ ys) ≡ Some k
open_some states [] ys k h = absurd (let f : ⊥ = cc in f)
open_some states (x ∷ xs) ys k h = open_or (is_placed (slice_get states x)) k x (first_open states xs) (first_open states (xs ++ ys)) (open_some states xs ys k) h

open_no : (t : Bool) (x : ℕ) (r r' z : Option ℕ) → (r ≡ None → r' ≡ z) → cond t r (Some x) ≡ None → cond t r' (Some x) ≡ z
open_no true x r r' z f h = f h
open_no false x r r' z f h = absurd (let g : ⊥ = cc in g)

pub open_none : (states : List State) (xs ys : List ℕ) → first_open states xs ≡ None → first_open states (xs ++ ys) ≡ first_open states ys
open_none states [] ys h = refl
open_none states (x ∷ xs) ys h = open_no (is_placed (slice_get states x)) x (first_open states xs) (first_open states (xs ++ ys)) (first_open states ys) (open_none states xs ys) h

-- ---- pins, one by one

pub read_more : (kind : Kind) (roles : List Role) (pins : List Signal) (p : ℕ) (role : Role) (d : Signal) → p < length pins → slice_get roles p ≡ Some role → pins_read kind (drop p roles) (drop p pins) ≡ read_at kind role (get_or pins p d) ++ pins_read kind (drop (p + 1) roles) (drop (p + 1) pins)
read_more kind roles pins p role d lt at = rw (drop_role roles p role at, drop_more pins p d lt) refl

pub read_done : (kind : Kind) (roles : List Role) (pins : List Signal) (p : ℕ) → length pins ≤ p → pins_read kind (drop p roles) (drop p pins) ≡ []
read_done kind roles pins p le = rw (drop_all p pins le) (no_pins (drop p roles))
  where
    no_pins : (rs : List Role) → pins_read kind rs [] ≡ []
    no_pins [] = refl
    no_pins (r ∷ rs) = refl

-- ---- the nets that a driver reads are those of the pins that are read

nets_cons : (i p : ℕ) (to : Signal) (sources : List Source) → nets_of (source_of i p to ∷ sources) ≡ net_of_signal to ++ nets_of sources
nets_cons i p (signal.Net net) sources = refl
nets_cons i p (signal.Constant bit) sources = refl
nets_cons i p signal.Unconnected sources = refl

gate_step : (i p : ℕ) (to : Signal) (sources : List Source) (t : Bool) (nets : List ℕ) → nets ≡ nets_of sources → cond t (net_of_signal to) [] ++ nets ≡ nets_of (cond t (source_of i p to ∷ sources) sources)
gate_step i p to sources true nets e = ap (λ xs. net_of_signal to ++ xs) e ∙ sym (nets_cons i p to sources)
gate_step i p to sources false nets e = e

gate_reads : (kind : Kind) → ((role : Role) → reads_role kind role ≡ is_input role) → (i p : ℕ) (roles : List Role) (pins : List Signal) → pins_read kind roles pins ≡ nets_of (inputs_of i (connections_from p roles pins))
gate_reads kind same i p [] pins = refl
gate_reads kind same i p (r ∷ roles) [] = refl
gate_reads kind same i p (r ∷ roles) (to ∷ pins) = ap (λ t. cond t (net_of_signal to) [] ++ pins_read kind roles pins) (same r) ∙ gate_step i p to (inputs_of i (connections_from (suc p) roles pins)) (is_input r) (pins_read kind roles pins) (gate_reads kind same i (suc p) roles pins)

lockup_reads : (kind : Kind) → ((role : Role) → reads_role kind role ≡ is_lockup_input role) → (i p : ℕ) (roles : List Role) (pins : List Signal) → pins_read kind roles pins ≡ nets_of (lockup_inputs i (connections_from p roles pins))
lockup_reads kind same i p [] pins = refl
lockup_reads kind same i p (r ∷ roles) [] = refl
lockup_reads kind same i p (r ∷ roles) (to ∷ pins) = ap (λ t. cond t (net_of_signal to) [] ++ pins_read kind roles pins) (same r) ∙ gate_step i p to (lockup_inputs i (connections_from (suc p) roles pins)) (is_lockup_input r) (pins_read kind roles pins) (lockup_reads kind same i (suc p) roles pins)

no_reads : (kind : Kind) → ((role : Role) → reads_role kind role ≡ false) → (roles : List Role) (pins : List Signal) → pins_read kind roles pins ≡ []
no_reads kind same [] pins = refl
no_reads kind same (r ∷ roles) [] = refl
no_reads kind same (r ∷ roles) (to ∷ pins) = ap (λ t. cond t (net_of_signal to) [] ++ pins_read kind roles pins) (same r) ∙ no_reads kind same roles pins

by_kind : (n : Netlist) (i : ℕ) (inverted : Bool) (roles : List Role) (pins : List Signal) → pins_of n i ≡ connections_from 0 roles pins → (kind : Kind) → pins_read kind roles pins ≡ nets_read n (driver_of_kind kind i inverted (inputs_of i (connections_from 0 roles pins)))
by_kind n i inverted roles pins same (cell_kind.Gate gate) = gate_reads (cell_kind.Gate gate) (λ r. refl) i 0 roles pins
by_kind n i inverted roles pins same (cell_kind.Flop flop) = no_reads (cell_kind.Flop flop) (λ r. refl) roles pins
by_kind n i inverted roles pins same cell_kind.Opaque = no_reads cell_kind.Opaque (λ r. refl) roles pins
by_kind n i inverted roles pins same cell_kind.Lockup = rw same (lockup_reads cell_kind.Lockup (λ r. refl) i 0 roles pins)

pub pin_reads : (n : Netlist) (id : InstanceId) (p : ℕ) (x : Instance) → slice_get n.instances id.0 ≡ Some x → pins_read (shape_of n.library x.cell).kind (shape_of n.library x.cell).roles x.pins ≡ nets_read n (driver_at n (Pin id p))
pin_reads n id p x at =
    let roles = (shape_of n.library x.cell).roles in
    let same : pins_of n id.0 ≡ connections_from 0 roles x.pins = rw at refl in
    by_kind n id.0 (is_inverted (slice_get (roles_at n id.0) p)) roles x.pins same (shape_of n.library x.cell).kind ∙ rw at refl
