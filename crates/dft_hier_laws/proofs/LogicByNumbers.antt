-- What a flat design does is what its modules do side by side, by the numbers of their nets and instances.
use Rattle.std.proofs.Common.{ℕ, ◌≤◌, ◌≡◌, inl, inr, cond, List, [], ◌∷◌, length, map, Option, None, Some, slice_get, refl, sym, ap, ap₂, subst, arith, ◌∙◌, option_map}
use Rattle.std.proofs.lemmas.Bool.{cases_lt}
use Rattle.dft_base.proofs.ListLemmas.{get_there}
use Rattle.dft_cells.specs.declared.cell.Cell.{Cell}
use Rattle.dft_cells.specs.declared.kind.Kind.{Kind}
use Rattle.dft_cells.specs.declared.kind.Role.TheVariants as role
use Rattle.dft_cells.specs.FlipFlops.{is_flip_flop, Scan}
use Rattle.dft_netlist.specs.Drivers.{Source, Net, pins_of, kind_of, Loose}
use Rattle.dft_behavior.specs.Logic as logic
use Rattle.dft_netlist.specs.Connections.{pin_of}
use Rattle.dft_behavior.specs.Logic.{Ports, or_loose, domain_at, modelled_of, meaning_of, logic_of, Logic, Meaning, is_lockup, locked, no_cell, cell_or_none}
use Rattle.dft_netlist.specs.Netlist.{Netlist}
use Rattle.dft_modules.specs.Modules.{Module}
use Rattle.dft_hier.specs.Hierarchy.{cells_of}
use Rattle.dft_hier_laws.specs.Joined.{alone, cell_by}
use Rattle.dft_hier.specs.Paths.{Path, Spot, net_spots, instance_spots}
use Rattle.dft_hier_laws.proofs.DriverImages.{IsFlatOf, cell_at, instance_count}
use Rattle.dft_hier_laws.proofs.Images.{Image, OfNet, OfBit, OfPin, Images}
use Rattle.dft_hier_laws.proofs.JoinedRoots.{flat_roots, Numbered, numbered}
use Rattle.dft_hier_laws.proofs.Positions.{IsAt}
use Rattle.dft_hier.proofs.SpotLemmas.{spot, AreOnce, once, nets_once}
use Rattle.std.specs.Option.{option_or}
use Rattle.std.proofs.lemmas.Option.{slice_get_within, slice_get_past}
use Rattle.dft_behavior.specs.Runs.{IsRun}
use Rattle.dft_hier_laws.specs.JoinedLogic.{Numbers, AreNumbers, numbered_source, numbered_scan, numbered_cell, numbered_meaning, IsJoinedLogic}
use Rattle.dft_hier_laws.specs.Laws.{FlatLogicIsJoined, FlatRunsAreJoined}
use Rattle.dft_hier.proofs.InstanceSpotLemmas.{instances_all, instances_once}
use Rattle.dft_hier_laws.proofs.FlatDesigns.{flat_of}
use Rattle.dft_hier_laws.proofs.MeaningImages.{ImageMeaning, OfPort, OfClock, OfGateBit, OfJoined, OfFlopBit, OfLockupBit, OfFree, ImageScan, ImageCell, flat_are_roots, cell_image, joined_means, joined_stands, some_meaning, past_free}

-- ---- by numbers

module _ (ms : List Module) (top : Module) (numbers : Numbers) (are : AreNumbers ms top numbers) where
  source_numbered : (path : Path) (x y : Source) → Image ms top path x y → numbered_source numbers path x ≡ y
  source_numbered path x y (OfNet {net = net} {number = k} at) = ap Net (are.nets k (spot path net) at)
  source_numbered path x y OfBit = refl
  source_numbered path x y (OfPin {i = i} {number = k} {pin = pin} at) = ap (λ (n : ℕ). Loose n pin) (are.instances k (spot path i) at)

  sources_numbered : (path : Path) (xs ys : List Source) → Images ms top path xs ys → map (numbered_source numbers path) xs ≡ ys
  sources_numbered path [] [] h = refl
  sources_numbered path (x ∷ xs) (y ∷ ys) h = ap₂ (λ (z : Source) (zs : List Source). z ∷ zs) (source_numbered path x y h.0) (sources_numbered path xs ys h.1)
  sources_numbered path [] (y ∷ ys) h = absurd h
  sources_numbered path (x ∷ xs) [] h = absurd h

  scan_numbered : (path : Path) (a b : Option (Scan Source)) → ImageScan ms top path a b → option_map (numbered_scan numbers path) a ≡ b
  scan_numbered path None None h = refl
  scan_numbered path (Some a) (Some b) h = λ t. Some (record { enable = source_numbered path a.enable b.enable h.0 t; input = source_numbered path a.input b.input h.1 t })
  scan_numbered path None (Some b) h = absurd h
  scan_numbered path (Some a) None h = absurd h

  cell_numbered : (path : Path) (a b : logic.Cell) → ImageCell ms top path a b → numbered_cell numbers path a ≡ b
  cell_numbered path a b h = λ t. record {
    domain = h.domain t;
    falling = h.falling t;
    takes = record { input = source_numbered path a.takes.input b.takes.input h.input t; scan = scan_numbered path a.takes.scan b.takes.scan h.scan t };
    forces = h.forces t;
  }

  meaning_numbered : (over : Path) (net k : ℕ) (a b : Meaning) → ImageMeaning ms top over net k a b → numbered_meaning numbers over a ≡ b
  meaning_numbered over net k a b (OfPort is) = refl
  meaning_numbered over net k a b (OfClock is) = refl
  meaning_numbered over net k a b (OfGateBit {kind = kind} {ss = xs} {ts = ys} images) = ap (logic.Gate kind) (sources_numbered over xs ys images)
  meaning_numbered over net k a b (OfJoined {s = x} {t = y} image) = ap logic.Joined (source_numbered over x y image)
  meaning_numbered over net k a b (OfFlopBit {i = i} {number = number} {inverted = inverted} cell) = ap (λ (n : ℕ). logic.Flop n inverted) (are.instances number (spot over i) cell)
  meaning_numbered over net k a b (OfLockupBit {i = i} {number = number} {domain = domain} {high = high} {s = x} {t = y} cell image) =
      ap₂ (λ (n : ℕ) (source : Source). logic.Lockup n domain high source) (are.instances number (spot over i) cell) (source_numbered over x y image)
  meaning_numbered over net k a b (OfFree at) = refl

-- ---- there are such numbers

number_by : (spots : List Spot) (path : Path) (at : ℕ) → Numbered spots path at → ℕ
number_by spots path at (inl known) = known.0
number_by spots path at (inr none) = 0

number_is : (spots : List Spot) (path : Path) (at k : ℕ) (n : Numbered spots path at) → AreOnce spots → IsAt spots path at k → number_by spots path at n ≡ k
unfolding number_by
number_is spots path at k (inl known) all here = once spots known.0 k (spot path at) all known.1 here
number_is spots path at k (inr none) all here = absurd (none k here)

abbrev some_numbers : List Module → (top : Module) → Numbers
some_numbers ms top = record {
  net = λ path net. number_by (net_spots ms top) path net (numbered (net_spots ms top) path net);
  instance = λ path i. number_by (instance_spots ms top) path i (numbered (instance_spots ms top) path i);
}

are_some : (ms : List Module) (top : Module) → AreNumbers ms top (some_numbers ms top)
are_some ms top = record {
  nets = λ number s at. number_is (net_spots ms top) s.path s.at number (numbered (net_spots ms top) s.path s.at) (nets_once ms (length ms) [] top) at;
  instances = λ number s at. number_is (instance_spots ms top) s.path s.at number (numbered (instance_spots ms top) s.path s.at) (instances_once ms (length ms) [] top) at;
}

-- ---- the flat design's logic

module _ (ms : List Module) (library : List Cell) (top : Module) (design : Netlist) (f : IsFlatOf ms library top design) (ports : Ports) where
  -- nets and instances past the last
  past_net : (k : ℕ) → length (net_spots ms top) ≤ k → (logic_of design ports).net k ≡ logic.Free
  past_net k past = ap (meaning_of design ports k) (past_free ms library top design f ports (flat_roots ms library top design f) (flat_are_roots ms library top design f) k past)

  past_cell : (i : ℕ) → length (instance_spots ms top) ≤ i → (logic_of design ports).cell i ≡ no_cell i
  past_cell i past =
      let count = instance_count ms library top design f in
      let none : slice_get design.instances i ≡ None = slice_get_past design.instances i (omega arith) in
      let pins = pins_of design i in
      ap (λ (k : Kind). cell_or_none i (option_or (cond (is_flip_flop k) (modelled_of design ports i pins) None) (cond (is_lockup k) (locked (domain_at design ports (pin_of role.Clock i pins)) (or_loose i (pin_of role.Din i pins))) None)))
      (ap (kind_of design.library) none)

  -- it is that of the joined modules
  is_joined : IsJoinedLogic ms library top ports (logic_of design ports)
  is_joined =
      let roots = flat_roots ms library top design f in
      let are = flat_are_roots ms library top design f in
      let numbers = some_numbers ms top in
      let numbered = are_some ms top in
      record {
        roots = roots;
        are_roots = are;
        numbers = numbers;
        are_numbers = numbered;
        nets = λ path net over meaning means. (
            let k = joined_stands ms library top design f ports roots are path net over meaning means in
            let image = joined_means ms library top design f ports roots are path net over meaning k.0 means k.1 in
            ap (logic_of design ports).net (numbered.nets k.0 (spot path net) k.1) ∙ sym (meaning_numbered ms top numbers numbered over net k.0 meaning ((logic_of design ports).net k.0) image));
        cells = λ path m i here less. (
            let k = instances_all ms (length ms) top f.tall [] path m i here less in
            let image = cell_image ms library top design f ports roots are path m i k.number here k.at in
            ap (logic_of design ports).cell (numbered.instances k.number (spot path i) k.at)
            ∙ sym (cell_numbered ms top numbers numbered path (cell_by (roots path) (alone library path m) ports i) ((logic_of design ports).cell k.number) image));
        no_nets = past_net;
        no_cells = past_cell;
      }

  -- and they have no other
  module _ (l : Logic) (h : IsJoinedLogic ms library top ports l) where
    net_same : (k : ℕ) → l.net k ≡ (logic_of design ports).net k
    net_same k = elim (cases_lt k (length (net_spots ms top))) [
      | inl less ↦ (
          let m = some_meaning ms library top design f ports h.roots h.are_roots k less in
          let image = joined_means ms library top design f ports h.roots h.are_roots m.path m.net m.over m.meaning k m.means m.at in
          ap l.net (sym (h.are_numbers.nets k (spot m.path m.net) m.at)) ∙ h.nets m.path m.net m.over m.meaning m.means
          ∙ meaning_numbered ms top h.numbers h.are_numbers m.over m.net k m.meaning ((logic_of design ports).net k) image)
      | inr past ↦ h.no_nets k past ∙ sym (past_net k past)
    ]

    cell_same : (k : ℕ) → l.cell k ≡ (logic_of design ports).cell k
    cell_same k = elim (cases_lt k (length (instance_spots ms top))) [
      | inl less ↦ (
          let x = get_there (instance_spots ms top) k less in
          let path = x.0.path in
          let i = x.0.at in
          let at : IsAt (instance_spots ms top) path i k = x.1 in
          let c = cell_at ms library top design f path i k at in
          let image = cell_image ms library top design f ports h.roots h.are_roots path c.m i k c.is.at at in
          ap l.cell (sym (h.are_numbers.instances k x.0 x.1)) ∙ h.cells path c.m i c.is.at (slice_get_within (cells_of c.m.items) i c.there c.is.there_at)
          ∙ cell_numbered ms top h.numbers h.are_numbers path (cell_by (h.roots path) (alone library path c.m) ports i) ((logic_of design ports).cell k) image)
      | inr past ↦ h.no_cells k past ∙ sym (past_cell k past)
    ]

    is_flat : l ≡ logic_of design ports
    is_flat = λ t. record { net = λ k. net_same k t; cell = λ k. cell_same k t }

-- ---- the laws

pub flat_logic_is_joined : FlatLogicIsJoined
flat_logic_is_joined ms library design sound flat ports l =
    let f = flat_of ms library design sound flat in
    ((λ same. subst (IsJoinedLogic ms library flat.top ports) (sym same) (is_joined ms library flat.top design f ports)), (λ h. is_flat ms library flat.top design f ports l h))

pub flat_runs_are_joined : FlatRunsAreJoined
flat_runs_are_joined ms library design sound flat ports xs start ts =
    let f = flat_of ms library design sound flat in (
      (λ run. record { logic = logic_of design ports; is = is_joined ms library flat.top design f ports; run = run }),
      (λ r. subst (λ (l : Logic). IsRun l xs start ts) (is_flat ms library flat.top design f ports r.logic r.is) r.run),
    )
