-- What the cubes of nodes give: each scanned cell and each drivable port once at most.
use Rattle.std.proofs.Common.{ℕ, zero, suc, ◌+◌, ◌≡◌, ◌∙◌, ◌<◌, ◌≤◌, ◌⊎◌, inl, inr, Bool, true, false, List, [], ◌∷◌, ◌++◌, length, filter, map, Option, None, Some, slice_get, refl, sym, ap, subst, arith}
use Rattle.std.specs.Prelude.{IsSome, not}
use Rattle.std.specs.Option.{option_and_then}
use Rattle.std.proofs.lemmas.Bool.{and_parts}
use Rattle.std.proofs.lemmas.Option.{none-some, same_Some, slice_get_within}
use Rattle.dft_base.specs.Lexing.{Text}
use Rattle.dft_base.specs.Name.{IsName}
use Rattle.dft_base.specs.declared.dir.Dir.{Dir}
use Rattle.dft_base.specs.declared.dir.Dir.TheVariants as dir
use Rattle.dft_base.proofs.BitLemmas.{not_true}
use Rattle.dft_cells.specs.declared.cell.Cell.{Cell as ACell}
use Rattle.dft_netlist.specs.declared.ids.NetId.{NetId}
use Rattle.dft_netlist.specs.declared.ids.InstanceId.{InstanceId}
use Rattle.dft_netlist.specs.declared.instance.CellRef.{CellRef}
use Rattle.dft_netlist.specs.declared.instance.CellRef.TheVariants.{Library, Gate}
use Rattle.dft_netlist.specs.declared.instance.Instance.{Instance}
use Rattle.dft_netlist.specs.declared.port.Port.{Port as APort}
use Rattle.dft_netlist.specs.Netlist.{Netlist}
use Rattle.dft_netlist.specs.Drivers.{driver, kind_at, kind_of, shape_of}
use Rattle.dft_netlist.specs.Connections.{is_input}
use Rattle.dft_netlist.specs.Names.{IsNameIfAny, instance_name}
use Rattle.dft_netlist.specs.NetNumbers.{nets_from}
use Rattle.dft_netlist.specs.Sound.{IsCellOf, IsNetlist, bits_of}
use Rattle.dft_netlist.proofs.LiveDriven.{ports_fit}
use Rattle.dft_config.specs.Config.{Config}
use Rattle.dft_config.specs.Range.{IsInRange}
use Rattle.dft_rules.specs.ConfigPorts.{config_ports}
use Rattle.dft_rules.specs.Rules.{may_be_scanned}
use Rattle.dft_rules.proofs.ClockedFlops.{verdict_passes}
use Rattle.dft_rules.proofs.ReadingLemmas.{no_gate}
use Rattle.dft_stitch.specs.Chains.{plan_of}
use Rattle.dft_stitch.specs.Laws.{IsScanned, StandsOnce}
use Rattle.dft_stitch.proofs.OnceLemmas.{cells_once, cells_scanned}
use Rattle.dft_expect.specs.Loaded.{all_cells}
use Rattle.dft_expect.proofs.CellNumbers.{IsPlace, place_of}
use Rattle.dft_expect.proofs.UnloadLemmas.{before}
use Rattle.dft_cubes.specs.Laws.{AreCells, ArePorts}
use Rattle.dft_seek.specs.Searches.{Search, bits_in, cells_in, drivable_ports, input_bits, is_drivable}
use Rattle.dft_seek.specs.Walks.{Cell, Port, Variable, candidates}
use Rattle.dft_seek.specs.Sought.{cells_given, ports_given}
use Rattle.dft_seeking.proofs.ApartLemmas.{AreApart, StandsIn, across, apart_append, apart_back, apart_by, apart_filter, apart_front, apart_map, in_back, in_front, made_of, none_stands, one_of, passes}

-- ---- the scanned cells

module _ (n : Netlist) (config : Config) (range : IsInRange config) where
  abbrev chained : List InstanceId
  chained = all_cells (plan_of n config).chains

  pub scanned_there : (cell : InstanceId) → StandsIn chained cell → IsScanned n config cell.0
  scanned_there cell s = let p = place_of (plan_of n config).chains s.0 cell s.1 in cells_scanned n config p.chain p.place cell range p.at

  pub kind_there : (cell : InstanceId) → StandsIn chained cell → may_be_scanned (kind_at n cell.0) ≡ true
  kind_there cell s = let it = scanned_there cell s in (verdict_passes n config cell.0 it.domain it.falling it.is).kind

  at_once : (a b : ℕ) (cell : InstanceId) → slice_get chained a ≡ Some cell → slice_get chained b ≡ Some cell → a ≡ b
  at_once a b cell at also =
      let chains = (plan_of n config).chains in
      let p : IsPlace chains a cell = place_of chains a cell at in
      let q : IsPlace chains b cell = place_of chains b cell also in
      let it : IsScanned n config cell.0 = scanned_there cell (a, at) in
      let once : StandsOnce chains cell = cells_once n config cell.0 it.domain it.falling range it.is in
      let one = once.only p.chain p.place p.at in
      let other = once.only q.chain q.place q.at in
      let chain : p.chain ≡ q.chain = one.0 ∙ sym other.0 in
      omega (arith, p.far, q.far, ap (before chains) chain, one.1, other.1)

  pub cells_apart : AreApart chained
  cells_apart = apart_by chained at_once

-- ---- their names

-- a text is there, and it is a name
pub record IsNamed (o : Option Text) : Type 0 where
  pub name : Text
  pub there : o ≡ Some name
  pub is : IsName name

cell_named : (library : List ACell) (o : Option Text) (cell : CellRef) → IsCellOf library o cell → IsNameIfAny o → may_be_scanned (shape_of library cell).kind ≡ true → IsNamed o
cell_named library None (Library id) fits is may = absurd (let some = fits.1 in let f : ⊥ = cc in f)
cell_named library (Some name) (Library id) fits is may = record { name = name; there = refl; is = is }
cell_named library o (Gate k inputs) fits is may = absurd (no_gate k may fits.0)

-- it is there, and has a name
pub record IsThere (n : Netlist) (c : ℕ) (o : Option Instance) : Type 0 where
  pub live : c < length n.instances
  pub named : IsNamed (option_and_then instance_name o)

there_by : (n : Netlist) (c : ℕ) (o : Option Instance) → IsNetlist n → slice_get n.instances c ≡ o → may_be_scanned (kind_of n.library o) ≡ true → IsThere n c o
there_by n c None sound at may = absurd (let f : ⊥ = cc in f)
there_by n c (Some x) sound at may =
    record { live = slice_get_within n.instances c x at; named = cell_named n.library x.name x.cell (sound.instances c x at).fits (sound.named.instances c x at) may }

pub flop_there : (n : Netlist) (c : ℕ) → IsNetlist n → may_be_scanned (kind_at n c) ≡ true → IsThere n c (slice_get n.instances c)
flop_there n c sound may = there_by n c (slice_get n.instances c) sound refl may

-- ---- the drivable ports

going_low : (from count k net : ℕ) → slice_get (nets_from from count) k ≡ Some (record { 0 = net }) → (from ≤ net) × (net < from + count)
going_low from zero k net at = absurd (none-some _ at)
going_low from (suc count) zero net at = let e : from ≡ net = ap (λ (x : NetId). x.0) (same_Some _ _ at) in (omega (arith, e), omega (arith, e))
going_low from (suc count) (suc k) net at = let r = going_low (suc from) count k net at in (omega (arith, r.0), omega (arith, r.1))

going_apart : (from count : ℕ) → AreApart (nets_from from count)
going_apart from zero = tt
going_apart from (suc count) = (λ s. absurd (let low = going_low (suc from) count s.0 from s.1 in omega (arith, low.0)), going_apart (suc from) count)

bits_apart : (n : Netlist) → IsNetlist n → AreApart (bits_of n.ports)
bits_apart n sound = subst AreApart (sym sound.numbered) (going_apart 0 (length (bits_of n.ports)))

pub bit_low : (n : Netlist) (bit : NetId) → IsNetlist n → StandsIn (bits_of n.ports) bit → bit.0 < length n.nets
bit_low n bit sound s =
    let at : slice_get (nets_from 0 (length (bits_of n.ports))) s.0 ≡ Some bit = ap (λ (bits : List NetId). slice_get bits s.0) (sym sound.numbered) ∙ s.1 in
    omega (arith, (going_low 0 (length (bits_of n.ports)) s.0 bit.0 at).1, ports_fit n sound)

-- a port's bits, if it is an input
port_in : (d : Dir) (bits : List NetId) (bit : NetId) → StandsIn (bits_in d bits) bit → StandsIn bits bit
port_in dir.Input bits bit s = s
port_in dir.Output bits bit s = absurd (none_stands bit s)

port_apart : (d : Dir) (bits : List NetId) → AreApart bits → AreApart (bits_in d bits)
port_apart dir.Input bits all = all
port_apart dir.Output bits all = tt

-- a bit that stands in one of two lists stands in the two of which these are parts
either : (xs ys us vs : List NetId) (bit : NetId) → (StandsIn xs bit → StandsIn us bit) → (StandsIn ys bit → StandsIn vs bit) → StandsIn xs bit ⊎ StandsIn ys bit → StandsIn (us ++ vs) bit
either xs ys us vs bit one other (inl s) = in_front us vs bit (one s)
either xs ys us vs bit one other (inr s) = in_back us vs bit (other s)

pub input_stands : (ports : List APort) (bit : NetId) → StandsIn (input_bits ports) bit → StandsIn (bits_of ports) bit
input_stands [] bit s = s
input_stands (port ∷ ports) bit s =
    either (bits_in port.dir port.bits) (input_bits ports) port.bits (bits_of ports) bit (port_in port.dir port.bits bit) (input_stands ports bit) (one_of (bits_in port.dir port.bits) (input_bits ports) bit s)

inputs_apart : (ports : List APort) → AreApart (bits_of ports) → AreApart (input_bits ports)
inputs_apart [] all = tt
inputs_apart (port ∷ ports) all =
    apart_append (bits_in port.dir port.bits) (input_bits ports) (port_apart port.dir port.bits (apart_front port.bits (bits_of ports) all)) (inputs_apart ports (apart_back port.bits (bits_of ports) all))
    (λ bit here there. across port.bits (bits_of ports) bit all (port_in port.dir port.bits bit here) (input_stands ports bit there))

pub drivable_apart : (s : Search) → IsNetlist s.design → AreApart (drivable_ports s)
drivable_apart s sound = apart_filter (λ net. is_drivable s net.0) (input_bits s.design.ports) (inputs_apart s.design.ports (bits_apart s.design sound))

-- ---- the variables

abbrev cell_or : ℕ → Variable → ℕ
cell_or other (Cell c) = c
cell_or other (Port net) = other

abbrev port_or : ℕ → Variable → ℕ
port_or other (Cell c) = other
port_or other (Port net) = net

no_both : (cell net : ℕ) → Cell cell ≡ Port net → ⊥
no_both cell net is = let f : ⊥ = cc in f

abbrev cell_of : InstanceId → Variable
cell_of cell = Cell cell.0

abbrev port_of : NetId → Variable
port_of net = Port net.0

pub candidates_apart : (s : Search) → IsNetlist s.design → IsInRange s.config → AreApart (candidates s)
candidates_apart s sound range =
    apart_append (map cell_of (cells_in s)) (map port_of (drivable_ports s))
    (apart_map cell_of (λ a b same. ap (λ (k : ℕ). record { 0 = k }) (ap (cell_or a.0) same)) (cells_in s) (cells_apart s.design s.config range))
    (apart_map port_of (λ a b same. ap (λ (k : ℕ). record { 0 = k }) (ap (port_or a.0) same)) (drivable_ports s) (drivable_apart s sound))
    (λ v here there. (let a = made_of cell_of (cells_in s) v here in let b = made_of port_of (drivable_ports s) v there in no_both a.from.0 b.from.0 (a.is ∙ sym b.is)))

-- a variable of the kind of cells is a scanned cell
cell_by : (s : Search) (c : ℕ) → StandsIn (map cell_of (cells_in s)) (Cell c) ⊎ StandsIn (map port_of (drivable_ports s)) (Cell c) → StandsIn (cells_in s) (record { 0 = c })
cell_by s c (inl there) = let m = made_of cell_of (cells_in s) (Cell c) there in subst (StandsIn (cells_in s)) (ap (λ (k : ℕ). record { 0 = k }) (ap (cell_or c) m.is)) m.stands
cell_by s c (inr there) = let m = made_of port_of (drivable_ports s) (Cell c) there in absurd (no_both c m.from.0 (sym m.is))

pub port_by : (s : Search) (net : ℕ) → StandsIn (map cell_of (cells_in s)) (Port net) ⊎ StandsIn (map port_of (drivable_ports s)) (Port net) → StandsIn (drivable_ports s) (record { 0 = net })
port_by s net (inl there) = let m = made_of cell_of (cells_in s) (Port net) there in absurd (no_both m.from.0 net m.is)
port_by s net (inr there) = let m = made_of port_of (drivable_ports s) (Port net) there in subst (StandsIn (drivable_ports s)) (ap (λ (k : ℕ). record { 0 = k }) (ap (port_or net) m.is)) m.stands

-- ---- what a node gives

cell_given : (vs : List Variable) (bits : List Bool) (given : InstanceId × Bool) (k : ℕ) → slice_get (cells_given vs bits) k ≡ Some given → StandsIn vs (Cell given.0.0)
cell_given [] bits given k at = absurd (none-some given at)
cell_given (v ∷ vs) [] given k at = absurd (none-some given at)
cell_given (Cell c ∷ vs) (bit ∷ bits) given zero at = (0, ap (λ (g : InstanceId × Bool). Some (Cell g.0.0)) (same_Some (record { 0 = c }, bit) given at))
cell_given (Cell c ∷ vs) (bit ∷ bits) given (suc k) at = let s = cell_given vs bits given k at in (suc s.0, s.1)
cell_given (Port net ∷ vs) (bit ∷ bits) given k at = let s = cell_given vs bits given k at in (suc s.0, s.1)

port_given : (vs : List Variable) (bits : List Bool) (given : NetId × Bool) (k : ℕ) → slice_get (ports_given vs bits) k ≡ Some given → StandsIn vs (Port given.0.0)
port_given [] bits given k at = absurd (none-some given at)
port_given (v ∷ vs) [] given k at = absurd (none-some given at)
port_given (Cell c ∷ vs) (bit ∷ bits) given k at = let s = port_given vs bits given k at in (suc s.0, s.1)
port_given (Port net ∷ vs) (bit ∷ bits) given zero at = (0, ap (λ (g : NetId × Bool). Some (Port g.0.0)) (same_Some (record { 0 = net }, bit) given at))
port_given (Port net ∷ vs) (bit ∷ bits) given (suc k) at = let s = port_given vs bits given k at in (suc s.0, s.1)

-- of the first variable nothing more is given
cell_again : (c : ℕ) (bit : Bool) (vs : List Variable) (bits : List Bool) (a b : InstanceId × Bool) (k : ℕ) → (StandsIn vs (Cell c) → ⊥) → Some (record { 0 = c }, bit) ≡ Some a → slice_get (cells_given vs bits) k ≡ Some b → a.0.0 ≡ b.0.0 → ⊥
cell_again c bit vs bits a b k none first at same =
    let first_is : c ≡ a.0.0 = ap (λ (g : InstanceId × Bool). g.0.0) (same_Some (record { 0 = c }, bit) a first) in
    none (subst (λ (x : ℕ). StandsIn vs (Cell x)) (sym (first_is ∙ same)) (cell_given vs bits b k at))

cells_given_once : (vs : List Variable) (bits : List Bool) → AreApart vs → (j k : ℕ) (a b : InstanceId × Bool) → slice_get (cells_given vs bits) j ≡ Some a → slice_get (cells_given vs bits) k ≡ Some b → a.0.0 ≡ b.0.0 → j ≡ k
cells_given_once [] bits all j k a b at also same = absurd (none-some a at)
cells_given_once (v ∷ vs) [] all j k a b at also same = absurd (none-some a at)
cells_given_once (Cell c ∷ vs) (bit ∷ bits) all zero zero a b at also same = refl
cells_given_once (Cell c ∷ vs) (bit ∷ bits) all zero (suc k) a b at also same = absurd (cell_again c bit vs bits a b k all.0 at also same)
cells_given_once (Cell c ∷ vs) (bit ∷ bits) all (suc j) zero a b at also same = absurd (cell_again c bit vs bits b a j all.0 also at (sym same))
cells_given_once (Cell c ∷ vs) (bit ∷ bits) all (suc j) (suc k) a b at also same = ap suc (cells_given_once vs bits all.1 j k a b at also same)
cells_given_once (Port net ∷ vs) (bit ∷ bits) all j k a b at also same = cells_given_once vs bits all.1 j k a b at also same

port_again : (net : ℕ) (bit : Bool) (vs : List Variable) (bits : List Bool) (a b : NetId × Bool) (k : ℕ) → (StandsIn vs (Port net) → ⊥) → Some (record { 0 = net }, bit) ≡ Some a → slice_get (ports_given vs bits) k ≡ Some b → a.0.0 ≡ b.0.0 → ⊥
port_again net bit vs bits a b k none first at same =
    let first_is : net ≡ a.0.0 = ap (λ (g : NetId × Bool). g.0.0) (same_Some (record { 0 = net }, bit) a first) in
    none (subst (λ (x : ℕ). StandsIn vs (Port x)) (sym (first_is ∙ same)) (port_given vs bits b k at))

ports_given_once : (vs : List Variable) (bits : List Bool) → AreApart vs → (j k : ℕ) (a b : NetId × Bool) → slice_get (ports_given vs bits) j ≡ Some a → slice_get (ports_given vs bits) k ≡ Some b → a.0.0 ≡ b.0.0 → j ≡ k
ports_given_once [] bits all j k a b at also same = absurd (none-some a at)
ports_given_once (v ∷ vs) [] all j k a b at also same = absurd (none-some a at)
ports_given_once (Port net ∷ vs) (bit ∷ bits) all zero zero a b at also same = refl
ports_given_once (Port net ∷ vs) (bit ∷ bits) all zero (suc k) a b at also same = absurd (port_again net bit vs bits a b k all.0 at also same)
ports_given_once (Port net ∷ vs) (bit ∷ bits) all (suc j) zero a b at also same = absurd (port_again net bit vs bits b a j all.0 also at (sym same))
ports_given_once (Port net ∷ vs) (bit ∷ bits) all (suc j) (suc k) a b at also same = ap suc (ports_given_once vs bits all.1 j k a b at also same)
ports_given_once (Cell c ∷ vs) (bit ∷ bits) all j k a b at also same = ports_given_once vs bits all.1 j k a b at also same

-- ---- of some of the candidates

module _ (s : Search) (sound : IsNetlist s.design) (range : IsInRange s.config) (chosen : Variable → Bool) (bits : List Bool) where
  abbrev variables : List Variable
  variables = filter chosen (candidates s)

  cell_stands : (k : ℕ) (given : InstanceId × Bool) → slice_get (cells_given variables bits) k ≡ Some given → StandsIn (cells_in s) given.0
  cell_stands k given at =
      cell_by s given.0.0 (one_of (map cell_of (cells_in s)) (map port_of (drivable_ports s)) (Cell given.0.0) (passes chosen (candidates s) (Cell given.0.0) (cell_given variables bits given k at)).0)

  port_stands : (k : ℕ) (given : NetId × Bool) → slice_get (ports_given variables bits) k ≡ Some given → StandsIn (input_bits s.design.ports) given.0 × (is_drivable s given.0.0 ≡ true)
  port_stands k given at =
      passes (λ net. is_drivable s net.0) (input_bits s.design.ports) given.0
      (port_by s given.0.0 (one_of (map cell_of (cells_in s)) (map port_of (drivable_ports s)) (Port given.0.0) (passes chosen (candidates s) (Port given.0.0) (port_given variables bits given k at)).0))

  pub given_kind : (k : ℕ) (given : InstanceId × Bool) → slice_get (cells_given variables bits) k ≡ Some given → may_be_scanned (kind_at s.design given.0.0) ≡ true
  given_kind k given at = kind_there s.design s.config range given.0 (cell_stands k given at)

  pub given_cell : (k : ℕ) (given : InstanceId × Bool) → slice_get (cells_given variables bits) k ≡ Some given → IsThere s.design given.0.0 (slice_get s.design.instances given.0.0)
  given_cell k given at = flop_there s.design given.0.0 sound (given_kind k given at)

  pub given_port : (k : ℕ) (given : NetId × Bool) → slice_get (ports_given variables bits) k ≡ Some given → given.0.0 < length s.design.nets
  given_port k given at = bit_low s.design given.0 sound (input_stands s.design.ports given.0 (port_stands k given at).0)

  given_free : (k : ℕ) (given : NetId × Bool) → slice_get (ports_given variables bits) k ≡ Some given →
      (is_input (driver s.design given.0.0) ≡ true) × (((config_ports s.design s.config).is_clock given.0.0 ≡ false) × ((config_ports s.design s.config).is_reset given.0.0 ≡ false))
  given_free k given at =
      let first = and_parts (is_input (driver s.design given.0.0)) _ (port_stands k given at).1 in
      let second = and_parts (not ((config_ports s.design s.config).is_clock given.0.0)) _ first.1 in
      (first.0, (not_true _ second.0, not_true _ second.1))

  variables_apart : AreApart variables
  variables_apart = apart_filter chosen (candidates s) (candidates_apart s sound range)

  pub cells_sound : AreCells s.design (cells_given variables bits)
  cells_sound = record {
    once = cells_given_once variables bits variables_apart;
    live = λ k given at. (given_cell k given at).live;
    named = λ k given at. subst (λ (o : Option Text). IsSome o) (sym (given_cell k given at).named.there) refl;
  }

  pub ports_sound : ArePorts s.design s.config (ports_given variables bits)
  ports_sound = record {
    once = ports_given_once variables bits variables_apart;
    live = given_port;
    input = λ k given at. (given_free k given at).0;
    no_clock = λ k given at. (given_free k given at).1.0;
    no_reset = λ k given at. (given_free k given at).1.1;
  }
