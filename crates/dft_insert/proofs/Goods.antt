-- Parts of a recipe that are fine, and drive made nets and a few others, each once; facts that compose.
use Rattle.std.proofs.Common.{ℕ, zero, suc, ◌+◌, ◌≡◌, ◌<◌, ◌≤◌, ◌⊎◌, inl, inr, List, [], ◌∷◌, ◌++◌, length, map, Option, None, Some, slice_get, refl, sym, subst, ap, arith, ◌∙◌}
use Rattle.std.specs.Prelude.{IsTrue}
use Rattle.std.specs.List.{AllByRecursion, range_with_len}
use Rattle.dft_base.proofs.ListLemmas.{range_split}
use Rattle.dft_edt.proofs.PartLists.{nets_in-append}
use Rattle.dft_cells.specs.declared.kind.TheConstants.{DFF}
use Rattle.dft_cells.specs.declared.kind.Gate.{Gate}
use Rattle.dft_cells.specs.declared.kind.Role.{Role}
use Rattle.dft_cells.specs.declared.kind.Role.TheVariants.{Clock, Din, Output, Inverted}
use Rattle.dft_cells.specs.declared.cell.Cell.{Cell}
use Rattle.dft_cells.specs.FlipFlops.{is_flip_flop}
use Rattle.dft_cells.specs.WellFormed.{IsWellFormed}
use Rattle.dft_netlist.specs.declared.ids.NetId.{NetId}
use Rattle.dft_netlist.specs.declared.ids.InstanceId.{InstanceId}
use Rattle.dft_netlist.specs.declared.instance.CellRef.TheVariants as cell_ref
use Rattle.dft_netlist.specs.declared.instance.Signal.TheVariants.{Net}
use Rattle.dft_netlist.specs.Drivers.{Shape, shape_of}
use Rattle.dft_netlist.specs.Netlist.{Netlist}
use Rattle.dft_netlist.specs.NetDrivers.{roles_at}
use Rattle.dft_parts.specs.Cells.{is_dff, is_lockup, first_cell, pin_between, pins_between}
use Rattle.dft_parts.specs.Parts.{Part, AnInstance}
use Rattle.dft_parts.specs.Recipes.{Start, nets_in, behind, net_at, a_net, a_gate, a_flop, a_lockup, a_pin, at_nets}
use Rattle.dft_parts.specs.Single.{nets_driven, times_in}
use Rattle.dft_parts.proofs.RankedParts.{flip_flop_ranked, gate_ranked, lockup_ranked, gate_drives}
use Rattle.dft_parts.proofs.Stores.{shape_as, lockup_shape, dff_shape}
use Rattle.dft_parts.proofs.Singles.{times_in-append}
use Rattle.dft_insert.proofs.Claims.{claim, claims, claimed, IsFlopIn, IsFine, AreFine, fine_append, claims-append}

-- ---- ranks

-- where made nets begin, and their ranks: they rise with the numbers of the nets, and the first net of all stands below them
pub record Setting (library : List Cell) (rank : ℕ → ℕ) (base : ℕ) : Type 0 where
  pub well : IsWellFormed library
  pub rising : (j k : ℕ) → base ≤ j → j < k → rank j < rank k
  pub first : (k : ℕ) → base ≤ k → rank 0 < rank k

-- a net stands below all nets from a number on
abbrev pub IsBelow : (rank : ℕ → ℕ) → (next : ℕ) → NetId → Type 0
IsBelow rank next net = (k : ℕ) → next ≤ k → rank net.0 < rank k

abbrev pub AreBelow : (rank : ℕ → ℕ) → (next : ℕ) → List NetId → Type 0
AreBelow rank next nets = AllByRecursion (IsBelow rank next) nets

pub made_below : (library : List Cell) (rank : ℕ → ℕ) (base net next : ℕ) → Setting library rank base → base ≤ net → net < next → IsBelow rank next (record { 0 = net })
made_below library rank base net next s from less k past = s.rising net k from (omega (arith, less, past))

pub none_below : (library : List Cell) (rank : ℕ → ℕ) (base next : ℕ) → Setting library rank base → base ≤ next → IsBelow rank next (record { 0 = 0 })
none_below library rank base next s from k past = s.first k (omega (arith, from, past))

pub below_more : (rank : ℕ → ℕ) (next later : ℕ) (nets : List NetId) → next ≤ later → AreBelow rank next nets → AreBelow rank later nets
below_more rank next later [] le h = tt
below_more rank next later (net ∷ nets) le h = (λ k past. h.0 k (omega (arith, le, past)), below_more rank next later nets le h.1)

pub below_at : (rank : ℕ → ℕ) (next : ℕ) (nets : List NetId) (place : ℕ) → IsBelow rank next (record { 0 = 0 }) → AreBelow rank next nets → IsBelow rank next (net_at nets place)
below_at rank next [] place none h = none
below_at rank next (net ∷ nets) zero none h = h.0
below_at rank next (net ∷ nets) (suc place) none h = below_at rank next nets place none h.1

-- nets below a number stand below what is ranked as it
pub ranks_less : (rank : ℕ → ℕ) (next : ℕ) (nets : List NetId) (top : ℕ) → (rank next ≤ top) → AreBelow rank next nets → AllByRecursion (λ (net : NetId). rank net.0 < top) nets
ranks_less rank next [] top le h = tt
ranks_less rank next (net ∷ nets) top le h = ((let less = h.0 next (omega arith) in omega (arith, le, less)), ranks_less rank next nets top le h.1)

-- ---- parts

-- no net
abbrev pub none : ℕ → ℕ
none k = 0

-- one net, and some
abbrev pub one : ℕ → ℕ → ℕ
one net k = times_in (net ∷ []) k

-- Parts are fine. With the nets that are still to be driven they drive made nets and some others, each as often as it is counted at most.
pub record IsGood (n : Netlist) (rank : ℕ → ℕ) (at : Start) (parts : List Part) (owed others : ℕ → ℕ) : Type 0 where
  pub fine : AreFine n rank parts
  pub few : (k : ℕ) → times_in (claims n parts) k + owed k ≤ times_in (range_with_len at.next (nets_in parts)) k + others k

pub good_nil : (n : Netlist) (rank : ℕ → ℕ) (at : Start) → IsGood n rank at [] none none
good_nil n rank at = record { fine = tt; few = λ k. omega arith }

pub good_both : (n : Netlist) (rank : ℕ → ℕ) (at : Start) (xs ys : List Part) (o p e f : ℕ → ℕ) → IsGood n rank at xs o e → IsGood n rank (behind at xs) ys p f → IsGood n rank at (xs ++ ys) (λ k. o k + p k) (λ k. e k + f k)
good_both n rank at xs ys o p e f h g = record {
  fine = fine_append n rank xs ys h.fine g.fine;
  few = λ k. (
      let split = times_in-append (range_with_len at.next (nets_in xs)) (range_with_len (at.next + nets_in xs) (nets_in ys)) k in
      let ranges : times_in (range_with_len at.next (nets_in (xs ++ ys))) k ≡ times_in (range_with_len at.next (nets_in xs)) k + times_in (range_with_len (at.next + nets_in xs) (nets_in ys)) k =
      ap (λ (m : ℕ). times_in (range_with_len at.next m) k) (nets_in-append xs ys) ∙ ap (λ (r : List ℕ). times_in r k) (range_split at.next (nets_in xs) (nets_in ys)) ∙ split in
      let first = h.few k in
      let second = g.few k in
      omega (arith, claims-append n xs ys k, ranges, first, second)
      );
}

-- counted otherwise
pub good_as : (n : Netlist) (rank : ℕ → ℕ) (at : Start) (parts : List Part) (o p e f : ℕ → ℕ) → ((k : ℕ) → p k + e k ≤ o k + f k) → IsGood n rank at parts o e → IsGood n rank at parts p f
good_as n rank at parts o p e f le h = record { fine = h.fine; few = λ k. (let less = le k in let few = h.few k in omega (arith, less, few)) }

-- ---- single parts

pub good_net : (n : Netlist) (rank : ℕ → ℕ) (at : Start) → IsGood n rank at (a_net at).parts (one at.next) none
good_net n rank at = record { fine = (tt, tt); few = λ k. omega arith }

-- parts that claim one net at most and make none
good_one : (n : Netlist) (rank : ℕ → ℕ) (at : Start) (part : Part) (net : ℕ) → nets_in (part ∷ []) ≡ 0 → IsFine n rank part → claim n part ≡ net ∷ [] → IsGood n rank at (part ∷ []) none (one net)
good_one n rank at part net no_nets fine drives = record {
  fine = (fine, tt);
  few = λ k. (
      let is : times_in (claim n part) k ≡ times_in (net ∷ []) k = ap (λ (nets : List ℕ). times_in nets k) drives in
      let whole = times_in-append (claim n part) [] k in
      omega (arith, is, whole)
      );
}

pub good_gate : (n : Netlist) (rank : ℕ → ℕ) (at : Start) (k : Gate) (inputs : List NetId) (output : NetId) → AllByRecursion (λ (net : NetId). rank net.0 < rank output.0) inputs → IsGood n rank at (a_gate k inputs output at).parts none (one output.0)
good_gate n rank at k inputs output less =
    good_one n rank at (AnInstance (cell_ref.Gate k (length inputs)) (at_nets inputs ++ Net output ∷ [])) output.0 refl
    (λ i x cell pins. gate_ranked n.library rank i x k inputs output cell pins less) (gate_drives inputs output)

-- what a store's instance drives, by its shape
store_drives : (library : List Cell) (clock input output : NetId) (s : Shape) (more : List Role) → s.roles ≡ Clock ∷ Din ∷ Output ∷ more → nets_driven more (map (pin_between clock input output) more) ≡ [] →
    nets_driven s.roles (map (pin_between clock input output) s.roles) ≡ output.0 ∷ []
store_drives library clock input output s more roles rest =
    ap (λ (r : List Role). nets_driven r (map (pin_between clock input output) r)) roles ∙ ap (λ (nets : List ℕ). output.0 ∷ nets) rest

abbrev IsDff : Shape → Type 0
IsDff s = (s ≡ shape_as DFF (Clock ∷ Din ∷ Output ∷ [])) ⊎ (s ≡ shape_as DFF (Clock ∷ Din ∷ Output ∷ Inverted ∷ []))

dff_drives : (library : List Cell) (clock input output : NetId) (s : Shape) → IsDff s → nets_driven s.roles (map (pin_between clock input output) s.roles) ≡ output.0 ∷ []
dff_drives library clock input output s (inl e) = store_drives library clock input output s [] (ap (λ (v : Shape). v.roles) e) refl
dff_drives library clock input output s (inr e) = store_drives library clock input output s (Inverted ∷ []) (ap (λ (v : Shape). v.roles) e) refl

dff_kind : (s : Shape) → IsDff s → IsTrue (is_flip_flop s.kind)
dff_kind s (inl e) = subst (λ (v : Shape). IsTrue (is_flip_flop v.kind)) (sym e) refl
dff_kind s (inr e) = subst (λ (v : Shape). IsTrue (is_flip_flop v.kind)) (sym e) refl

pub good_flop : (n : Netlist) (rank : ℕ → ℕ) (at : Start) (clock input output : NetId) → IsWellFormed n.library → at.library ≡ n.library → IsGood n rank at (a_flop clock input output at).parts none (one output.0)
good_flop n rank at clock input output well same =
    subst (λ (library : List Cell). IsGood n rank at (AnInstance (cell_ref.Library (first_cell is_dff library)) (pins_between library (first_cell is_dff library) clock input output) ∷ []) none (one output.0)) (sym same)
    (let id = first_cell is_dff n.library in
    let shape = dff_shape n.library well in
    good_one n rank at (AnInstance (cell_ref.Library id) (pins_between n.library id clock input output)) output.0 refl
    (λ i x cell pins. flip_flop_ranked n.library rank i x (subst (λ c. IsTrue (is_flip_flop (shape_of n.library c).kind)) (sym cell) (dff_kind (shape_of n.library (cell_ref.Library id)) shape)))
    (dff_drives n.library clock input output (shape_of n.library (cell_ref.Library id)) shape))

pub good_lockup : (n : Netlist) (rank : ℕ → ℕ) (at : Start) (clock input output : NetId) → IsWellFormed n.library → at.library ≡ n.library → rank clock.0 < rank output.0 → rank input.0 < rank output.0 →
    IsGood n rank at (a_lockup clock input output at).parts none (one output.0)
good_lockup n rank at clock input output well same c d =
    subst (λ (library : List Cell). IsGood n rank at (AnInstance (cell_ref.Library (first_cell is_lockup library)) (pins_between library (first_cell is_lockup library) clock input output) ∷ []) none (one output.0)) (sym same)
    (let id = first_cell is_lockup n.library in
    let shape = lockup_shape n.library well in
    good_one n rank at (AnInstance (cell_ref.Library id) (pins_between n.library id clock input output)) output.0 refl
    (λ i x cell pins. lockup_ranked n.library rank i x clock input output well cell pins c d)
    (store_drives n.library clock input output (shape_of n.library (cell_ref.Library id)) [] (ap (λ (v : Shape). v.roles) shape) refl))

claimed_one : (o : Option Role) (net : NetId) (k : ℕ) → times_in (claimed o net) k ≤ one net.0 k
claimed_one None net k = omega arith
claimed_one (Some r) net k = role_one r
  where
    role_one : (r : Role) → times_in (claimed (Some r) net) k ≤ one net.0 k
    role_one Output = omega arith
    role_one Inverted = omega arith
    role_one _ = omega arith

-- a pin of a flip-flop that is there drives its net at most
pub good_pin : (n : Netlist) (rank : ℕ → ℕ) (at : Start) (cell : InstanceId) (pin : ℕ) (net : NetId) → IsFlopIn n.library (slice_get n.instances cell.0) → IsGood n rank at (a_pin cell pin net at).parts none (one net.0)
good_pin n rank at cell pin net flop = record {
  fine = (flop, tt);
  few = λ k. (
      let whole = times_in-append (claimed (slice_get (roles_at n cell.0) pin) net) [] k in
      let less = claimed_one (slice_get (roles_at n cell.0) pin) net k in
      omega (arith, whole, less)
      );
}

-- and none if it is no output pin
pub good_input : (n : Netlist) (rank : ℕ → ℕ) (at : Start) (cell : InstanceId) (pin : ℕ) (net : NetId) → IsFlopIn n.library (slice_get n.instances cell.0) → claimed (slice_get (roles_at n cell.0) pin) net ≡ [] →
    IsGood n rank at (a_pin cell pin net at).parts none none
good_input n rank at cell pin net flop drives = record {
  fine = (flop, tt);
  few = λ k. (
      let whole = times_in-append (claimed (slice_get (roles_at n cell.0) pin) net) [] k in
      let is : times_in (claimed (slice_get (roles_at n cell.0) pin) net) k ≡ times_in [] k = ap (λ (nets : List ℕ). times_in nets k) drives in
      omega (arith, whole, is)
      );
}

-- ---- behind parts that drive what they make

pub good_after : (n : Netlist) (rank : ℕ → ℕ) (at : Start) (xs ys : List Part) (o e : ℕ → ℕ) → IsGood n rank at xs none none → IsGood n rank (behind at xs) ys o e → IsGood n rank at (xs ++ ys) o e
good_after n rank at xs ys o e h g = good_as n rank at (xs ++ ys) (λ k. none k + o k) o (λ k. none k + e k) e (λ k. omega arith) (good_both n rank at xs ys none o none e h g)

-- and before nothing
pub good_end : (n : Netlist) (rank : ℕ → ℕ) (at : Start) (xs : List Part) (o e : ℕ → ℕ) → IsGood n rank at xs o e → IsGood n rank at (xs ++ []) o e
good_end n rank at xs o e h = good_as n rank at (xs ++ []) (λ k. o k + none k) o (λ k. e k + none k) e (λ k. omega arith) (good_both n rank at xs [] o none e none h (good_nil n rank (behind at xs)))
