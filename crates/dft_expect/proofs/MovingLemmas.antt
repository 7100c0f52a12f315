-- The nets of cells once the rising cells have moved: what is set at the sources is what the capture has there.
use Rattle.std.proofs.Common.{ℕ, ◌+◌, Bool, true, false, ◌≡◌, ◌≢◌, ◌<◌, ◌≤◌, ◌⊎◌, inl, inr, List, length, slice_get, Option, None, Some, refl, sym, subst, ap, arith, ◌∙◌}
use Rattle.std.specs.Prelude.{if◌then◌else◌, ◌==◌, slice_index_or}
use Rattle.std.proofs.lemmas.Bool.{cases_eq, cases_lt}
use Rattle.std.proofs.lemmas.Bool.Decides.{nat_tests}
use Rattle.std.proofs.lemmas.List.{get_or_past}
use Rattle.std.proofs.lemmas.Option.{same_Some}
use Rattle.dft_base.specs.declared.tri.Tri.{Tri}
use Rattle.dft_base.specs.declared.tri.Tri.TheVariants.{Unknown}
use Rattle.dft_cells.specs.declared.kind.Kind.{Kind}
use Rattle.dft_cells.specs.declared.kind.Kind.TheVariants as kind
use Rattle.dft_lanes.specs.declared.wide.Wide.{Wide}
use Rattle.dft_netlist.proofs.LiveLemmas.{past_free}
use Rattle.dft_netlist.specs.declared.ids.InstanceId.{InstanceId}
use Rattle.dft_netlist.specs.declared.instance.Join.{Join}
use Rattle.dft_netlist.specs.declared.net_driver.NetDriver.{NetDriver}
use Rattle.dft_netlist.specs.declared.net_driver.NetDriver.TheVariants as by
use Rattle.dft_netlist.specs.Netlist.{Netlist}
use Rattle.dft_netlist.specs.Drivers.{Source, Driver, Flop, driver_of_kind, inputs_of, kind_at, pins_of}
use Rattle.dft_netlist.specs.NetDrivers.{driver_at, is_inverted, joined_by, roles_at}
use Rattle.dft_behavior.specs.Logic.{Logic, Meaning, Cell, Input, Clock, Gate, Joined, Lockup, Free, flip_flop, flop_meaning, meaning_of}
use Rattle.dft_behavior.specs.Logic as logic
use Rattle.dft_behavior.specs.Runs.{Vector}
use Rattle.dft_behavior.specs.Settled.{TriSources, inverse, value_given}
use Rattle.dft_cells.specs.FlipFlops.{tri_forced_by}
use Rattle.dft_abstract.specs.Cycle.{strobe_sources}
use Rattle.dft_config.specs.Config.{Config}
use Rattle.dft_rules.specs.Rules.{may_be_scanned}
use Rattle.dft_stitch.specs.Chains.{plan_of}
use Rattle.dft_evaluator.specs.Wides.{IsWide, value_in}
use Rattle.dft_evaluator.specs.Evaluations.{Evaluation, IsGiven, AreGiven, IsSetWide, value_at}
use Rattle.dft_expect.specs.declared.pattern.Pattern.{Pattern}
use Rattle.dft_expect.specs.declared.response.Response.{Response}
use Rattle.dft_expect.specs.declared.settings.Setting.{Setting}
use Rattle.dft_expect.specs.declared.settings.Setting.TheVariants as setting
use Rattle.dft_expect.specs.Captures.{capture_vector, config_ports, original}
use Rattle.dft_expect.specs.Capturing.{CanCapture, HasMoved, IsPrepared, Settles, cells_in}
use Rattle.dft_expect.specs.Settings.{IsCellSetting, IsSetBy, moved_by, port_setting, setting_at, turned}
use Rattle.dft_expect.specs.Sources.{IsCellSet, IsSame}
use Rattle.dft_expect.proofs.GivenLemmas.{number_modelled, stays}
use Rattle.dft_expect.proofs.ScannedCells.{IsModelled, no_lockup}
use Rattle.dft_expect.proofs.VectorLemmas.{there, unchained}

-- ---- a cell in the responses

-- the first so many responses have the cell's values
pub record AreRisenIn (risen : List Response) (number : ℕ) (inverted : Bool) (done : ℕ) (wide : Wide) : Type 0 where
  pub whole : IsWide wide (value_in wide)
  pub each : (p : ℕ) (r : Response) → p < done → slice_get risen p ≡ Some r → value_in wide p ≡ turned inverted (slice_index_or r.cells number Unknown)

pub risen_on : (risen : List Response) (number : ℕ) (inverted : Bool) (done : ℕ) (old new : Wide) (here : Response) (value : Tri) → AreRisenIn risen number inverted done old → slice_get risen done ≡ Some here
    → value ≡ turned inverted (slice_index_or here.cells number Unknown) → ((p : ℕ) → value_in new p ≡ (if p == done then value else value_in old p)) → (IsWide old (value_in old) → IsWide new (value_in new)) → AreRisenIn risen number inverted (done + 1) new
risen_on risen number inverted done old new here value before at is each wide = record {
  whole = wide before.whole;
  each = λ p r less there. one p r less there (cases_eq p done);
}
  where
    one : (p : ℕ) (r : Response) → p < done + 1 → slice_get risen p ≡ Some r → (p ≡ done) ⊎ (p ≢ done) → value_in new p ≡ turned inverted (slice_index_or r.cells number Unknown)
    one p r less there (inl e) =
        let yes : (p == done) ≡ true = grind (arith, nat_tests) in
        let same : here ≡ r = same_Some here r (sym at ∙ ap (slice_get risen) (sym e) ∙ there) in
        each p ∙ ap (λ (b : Bool). if b then value else value_in old p) yes ∙ is ∙ ap (λ (x : Response). turned inverted (slice_index_or x.cells number Unknown)) same
    one p r less there (inr ne) =
        let no : (p == done) ≡ false = grind (arith, nat_tests) in
        each p ∙ ap (λ (b : Bool). if b then value else value_in old p) no ∙ before.each p r (omega (arith, less, ne)) there

-- ---- a net

rests_by : (b : Bool) (t u : Tri) → u ≡ t → t ≡ (if b then u else t)
rests_by true t u is = sym is
rests_by false t u is = refl

-- a net that shows no cell stays
pub cell_left : (s : Setting) (net : ℕ) (risen : List Response) (old : Evaluation) → ((cells : List Tri) (before : Tri) → moved_by s cells before ≡ before) → IsCellSet s net risen old old
cell_left s net risen old rests = record { each = λ p r at k. rests_by (k == net) (value_at old p k) (moved_by s r.cells (value_at old p k)) (rests r.cells (value_at old p k)) }

pub cell_set : (number net : ℕ) (inverted : Bool) (risen : List Response) (old new : Evaluation) (wide : Wide) → ((p : ℕ) (r : Response) → slice_get risen p ≡ Some r → value_in wide p ≡ turned inverted (slice_index_or r.cells number Unknown)) → IsSetWide old net wide new
    → IsCellSet (setting.Cell number inverted) net risen old new
cell_set number net inverted risen old new wide each set = record { each = λ p r at k. set.each p k ∙ ap (λ (t : Tri). if k == net then t else value_at old p k) (each p r at) }

-- ---- all nets

-- the first so many nets are set, and the others are as before
pub record AreCellsSet (settings : List Setting) (risen : List Response) (done : ℕ) (old new : Evaluation) : Type 0 where
  pub same : IsSame old new
  pub each : (p : ℕ) (r : Response) → slice_get risen p ≡ Some r → (net : ℕ) → net < done → value_at new p net ≡ moved_by (setting_at settings net) r.cells (value_at old p net)
  pub left : (p : ℕ) (r : Response) → slice_get risen p ≡ Some r → (net : ℕ) → done ≤ net → value_at new p net ≡ value_at old p net

pub cells_set_on : (settings : List Setting) (risen : List Response) (done : ℕ) (s : Setting) (old cur new : Evaluation) → AreCellsSet settings risen done old cur → s ≡ setting_at settings done → IsSame old new → IsCellSet s done risen cur new → AreCellsSet settings risen (done + 1) old new
cells_set_on settings risen done s old cur new before is same set = record {
  same = same;
  each = λ p r at net less. one p r at net less (cases_eq net done);
  left = λ p r at net past. (
      let no : (net == done) ≡ false = grind (arith, nat_tests, past) in
      set.each p r at net ∙ ap (λ (b : Bool). if b then moved_by s r.cells (value_at cur p net) else value_at cur p net) no ∙ before.left p r at net (omega (arith, past)));
}
  where
    one : (p : ℕ) (r : Response) → slice_get risen p ≡ Some r → (net : ℕ) → net < done + 1 → (net ≡ done) ⊎ (net ≢ done) → value_at new p net ≡ moved_by (setting_at settings net) r.cells (value_at old p net)
    one p r at net less (inl e) =
        let yes : (net == done) ≡ true = grind (arith, nat_tests) in
        set.each p r at net ∙ ap (λ (b : Bool). if b then moved_by s r.cells (value_at cur p net) else value_at cur p net) yes ∙ ap (moved_by s r.cells) (before.left p r at net (omega (arith, e)))
        ∙ ap (λ (t : Setting). moved_by t r.cells (value_at old p net)) (is ∙ ap (setting_at settings) (sym e))
    one p r at net less (inr ne) =
        let no : (net == done) ≡ false = grind (arith, nat_tests) in
        set.each p r at net ∙ ap (λ (b : Bool). if b then moved_by s r.cells (value_at cur p net) else value_at cur p net) no ∙ before.each p r at net (omega (arith, less, ne))

all_case : (settings : List Setting) (risen : List Response) (done : ℕ) (old new : Evaluation) → AreCellsSet settings risen done old new → length settings ≤ done → (p : ℕ) (r : Response) → slice_get risen p ≡ Some r → (net : ℕ) → (net < done) ⊎ (done ≤ net) → value_at new p net ≡ moved_by (setting_at settings net) r.cells (value_at old p net)
all_case settings risen done old new set whole p r at net (inl less) = set.each p r at net less
all_case settings risen done old new set whole p r at net (inr past) =
    set.left p r at net past ∙ sym (ap (λ (t : Setting). moved_by t r.cells (value_at old p net)) (get_or_past settings net setting.Unknown (omega (arith, whole, past))))

pub cells_all : (settings : List Setting) (risen : List Response) (done : ℕ) (old new : Evaluation) → AreCellsSet settings risen done old new → length settings ≤ done → (p : ℕ) (r : Response) → slice_get risen p ≡ Some r → (net : ℕ) → value_at new p net ≡ moved_by (setting_at settings net) r.cells (value_at old p net)
cells_all settings risen done old new set whole p r at net = all_case settings risen done old new set whole p r at net (cases_lt net done)

-- ---- what stays at a source

given_as : (s : TriSources) (a b : ℕ → Tri) (net : ℕ) (m : Meaning) → a net ≡ b net → IsGiven s b net m → IsGiven s a net m
given_as s a b net Input e h = e ∙ h
given_as s a b net Clock e h = e ∙ h
given_as s a b net (Gate kind inputs) e h = tt
given_as s a b net (Joined source) e h = tt
given_as s a b net (logic.Flop cell inverted) e h = e ∙ h
given_as s a b net (Lockup cell domain high source) e h = e ∙ h
given_as s a b net Free e h = e ∙ h

-- an input port has the same value in both settlings
port_again : (l : Logic) (x : Vector) (one two before values : ℕ → Tri) (net : ℕ) (b : Bool) → before net ≡ value_given (strobe_sources l x one before) before net (if b then Clock else Input) → IsGiven (strobe_sources l x two values) before net (if b then Clock else Input)
port_again l x one two before values net true is = is
port_again l x one two before values net false is = is

port_rests : (c r : Bool) (cells : List Tri) (before : Tri) → moved_by (port_setting c r) cells before ≡ before
port_rests true r cells before = refl
port_rests false true cells before = refl
port_rests false false cells before = refl

join_again : (n : Netlist) (config : Config) (s t : TriSources) (before : ℕ → Tri) (net : ℕ) (o : Option Join) → before net ≡ value_given s before net (meaning_of n (config_ports n config) net (joined_by o)) → IsGiven t before net (meaning_of n (config_ports n config) net (joined_by o))
join_again n config s t before net None is = is
join_again n config s t before net (Some join) is = tt

-- so has a flip-flop that is no cell of the chains
flop_again : (l : Logic) (x : Vector) (one two before values : ℕ → Tri) (net i : ℕ) (inverted : Bool) (o : Option Cell) → one i ≡ two i → before net ≡ value_given (strobe_sources l x one before) before net (flop_meaning i inverted o)
    → IsGiven (strobe_sources l x two values) before net (flop_meaning i inverted o)
flop_again l x one two before values net i inverted None same is = is
flop_again l x one two before values net i inverted (Some cell) same is =
    is ∙ ap (λ (t : Tri). if inverted then inverse (tri_forced_by (l.cell i).forces x.ports t) else tri_forced_by (l.cell i).forces x.ports t) same

-- ---- nets by what drives them

module _ (n : Netlist) (config : Config) (pattern : Pattern) (r : Response) (can : CanCapture n config) (one two : ℕ → Tri) (is : HasMoved n config one two r) (before values : ℕ → Tri) (settled : Settles n config pattern one before) where
  abbrev l : Logic
  l = original n config

  abbrev chains : List (List InstanceId)
  chains = (plan_of n config).chains

  abbrev x : Vector
  x = capture_vector n config pattern.merged.now

  abbrev first : TriSources
  first = strobe_sources l x one before

  abbrev second : TriSources
  second = strobe_sources l x two values

  abbrev meaning : (net : ℕ) → Driver → Meaning
  meaning net d = meaning_of n (config_ports n config) net d

  -- a flip-flop that is no cell of the chains does not move
  unmoved : (i : ℕ) → ((number : ℕ) → slice_get (cells_in n config) number ≡ Some (record { 0 = i }) → ⊥) → one i ≡ two i
  unmoved i none = sym (is.others i (unchained (cells_in n config) i none))

  pin_again : (net i : ℕ) (inverted : Bool) (k : Kind) (inputs : List Source) → kind_at n i ≡ k → ((number : ℕ) → slice_get (cells_in n config) number ≡ Some (record { 0 = i }) → ⊥)
      → before net ≡ value_given first before net (meaning net (driver_of_kind k i inverted inputs)) → IsGiven second before net (meaning net (driver_of_kind k i inverted inputs))
  pin_again net i inverted kind.Opaque inputs kinds none here = here
  pin_again net i inverted kind.Lockup inputs kinds none here = absurd (no_lockup n config i can kinds)
  pin_again net i inverted (kind.Flop flop) inputs kinds none here = flop_again l x one two before values net i inverted (flip_flop n (config_ports n config) i) (unmoved i none) here
  pin_again net i inverted (kind.Gate gate) inputs kinds none here = tt

  -- a cell of the chains has its value of the state
  chain_driver : (k : Kind) (i : ℕ) (inverted : Bool) (inputs : List Source) → may_be_scanned k ≡ true → driver_of_kind k i inverted inputs ≡ Flop i inverted
  chain_driver (kind.Flop flop) i inverted inputs may = refl
  chain_driver _ i inverted inputs may = absurd cc

  turned_is : (inverted : Bool) (t u : Tri) → t ≡ u → turned inverted t ≡ (if inverted then inverse u else u)
  turned_is true t u e = ap inverse e
  turned_is false t u e = e

  cell_again : (given : ℕ → Tri) (net i number : ℕ) (inverted : Bool) (inputs : List Source) → slice_get (cells_in n config) number ≡ Some (record { 0 = i })
      → given net ≡ moved_by (setting.Cell number inverted) r.cells (before net) → IsGiven second given net (meaning net (driver_of_kind (kind_at n i) i inverted inputs))
  cell_again given net i number inverted inputs at value =
      let m : IsModelled n config i = number_modelled n config number i can at in
      let drives : meaning net (driver_of_kind (kind_at n i) i inverted inputs) ≡ logic.Flop i inverted = ap (meaning net) (chain_driver (kind_at n i) i inverted inputs m.kind) ∙ ap (flop_meaning i inverted) m.flop in
      subst (λ (t : Meaning). IsGiven second given net t) (sym drives)
      (value ∙ turned_is inverted (slice_index_or r.cells number Unknown) (tri_forced_by (l.cell i).forces x.ports (two i))
      (there (λ (cell : InstanceId). two cell.0) r.cells (cells_in n config) number (record { 0 = i }) is.cells at ∙ sym (stays n config pattern.merged.now i (two i))))

  set_again : (given : ℕ → Tri) (net i : ℕ) (inverted : Bool) (s : Setting) (inputs : List Source) → IsCellSetting (cells_in n config) i inverted s → given net ≡ moved_by s r.cells (before net)
      → before net ≡ value_given first before net (meaning net (driver_of_kind (kind_at n i) i inverted inputs)) → IsGiven second given net (meaning net (driver_of_kind (kind_at n i) i inverted inputs))
  set_again given net i inverted s inputs (inl at) value here = cell_again given net i at.0 inverted inputs at.2 (value ∙ ap (λ (t : Setting). moved_by t r.cells (before net)) at.1)
  set_again given net i inverted s inputs (inr none) value here =
      given_as second given before net (meaning net (driver_of_kind (kind_at n i) i inverted inputs)) (value ∙ ap (λ (t : Setting). moved_by t r.cells (before net)) none.0) (pin_again net i inverted (kind_at n i) inputs refl none.1 here)

  driven_again : (given : ℕ → Tri) (net : ℕ) (clocks resets : List Bool) (s : Setting) (d : NetDriver) → IsSetBy n clocks resets (cells_in n config) net d s → given net ≡ moved_by s r.cells (before net)
      → before net ≡ value_given first before net (meaning net (driver_at n d)) → IsGiven second given net (meaning net (driver_at n d))
  driven_again given net clocks resets s by.Input set value here =
      given_as second given before net (meaning net (driver_at n by.Input)) (value ∙ ap (λ (t : Setting). moved_by t r.cells (before net)) set ∙ port_rests _ _ r.cells (before net))
      (port_again l x one two before values net ((config_ports n config).is_clock net) here)
  driven_again given net clocks resets s (by.Pin instance pin) set value here =
      set_again given net instance.0 (is_inverted (slice_get (roles_at n instance.0) pin)) s (inputs_of instance.0 (pins_of n instance.0)) set value here
  driven_again given net clocks resets s (by.Join number) set value here =
      given_as second given before net (meaning net (driver_at n (by.Join number))) (value ∙ ap (λ (t : Setting). moved_by t r.cells (before net)) set) (join_again n config first second before net (slice_get n.joins number) here)
  driven_again given net clocks resets s by.Nothing set value here = value ∙ ap (λ (t : Setting). moved_by t r.cells (before net)) set ∙ here

  net_again : (given : ℕ → Tri) (net : ℕ) (settings : List Setting) → IsPrepared n config settings → given net ≡ moved_by (setting_at settings net) r.cells (before net) → (net < length n.nets) ⊎ (length n.nets ≤ net) → IsGiven second given net (l.net net)
  net_again given net settings prepared value (inl less) =
      let it = prepared.set.each net less in
      subst (λ (d : Driver). IsGiven second given net (meaning net d)) (sym it.is)
      (driven_again given net prepared.clocks prepared.resets (setting_at settings net) it.drives it.set value (settled net ∙ ap (λ (d : Driver). value_given first before net (meaning net d)) it.is))
  net_again given net settings prepared value (inr past) =
      let free = past_free n can.netlist net past in
      subst (λ (d : Driver). IsGiven second given net (meaning net d)) (sym free)
      (value ∙ ap (λ (t : Setting). moved_by t r.cells (before net)) (get_or_past settings net setting.Unknown (omega (arith, prepared.set.nets, past))) ∙ settled net ∙ ap (λ (d : Driver). value_given first before net (meaning net d)) free)

  pub are_again : (given : ℕ → Tri) (settings : List Setting) → IsPrepared n config settings → ((net : ℕ) → given net ≡ moved_by (setting_at settings net) r.cells (before net)) → AreGiven l.net second given
  are_again given settings prepared set net = net_again given net settings prepared (set net) (cases_lt net (length n.nets))
