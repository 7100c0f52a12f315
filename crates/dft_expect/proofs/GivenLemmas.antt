-- What is set at the sources is what a pattern's capture has there.
use Rattle.std.proofs.Common.{ℕ, Bool, true, false, ◌≡◌, ◌<◌, ◌≤◌, ◌⊎◌, inl, inr, List, length, slice_get, Option, None, Some, refl, sym, subst, ap, arith, ◌∙◌}
use Rattle.std.specs.Prelude.{if◌then◌else◌}
use Rattle.std.proofs.lemmas.Bool.{cases_lt}
use Rattle.std.proofs.lemmas.List.{get_or_past}
use Rattle.std.proofs.lemmas.Option.{none-some, same_Some}
use Rattle.dft_base.specs.declared.tri.Tri.{Tri}
use Rattle.dft_base.specs.declared.tri.Tri.TheVariants.{One, Unknown}
use Rattle.dft_base.specs.Solutions.{bit_at}
use Rattle.dft_cells.specs.declared.kind.Kind.{Kind}
use Rattle.dft_cells.specs.declared.kind.Kind.TheVariants as kind
use Rattle.dft_cells.specs.declared.kind.Role.TheVariants as role
use Rattle.dft_cells.specs.FlipFlops.{is_flip_flop, Takes, Forces, IsForceOf, tri_forced_by}
use Rattle.dft_cells.proofs.TakesLemmas.{left_rests}
use Rattle.dft_cells.proofs.TriLemmas.{forced_one}
use Rattle.dft_netlist.proofs.LiveLemmas.{past_free}
use Rattle.dft_netlist.specs.declared.instance.Join.{Join}
use Rattle.dft_netlist.specs.declared.net_driver.NetDriver.{NetDriver}
use Rattle.dft_netlist.specs.declared.net_driver.NetDriver.TheVariants as by
use Rattle.dft_netlist.specs.Netlist.{Netlist}
use Rattle.dft_netlist.specs.Drivers.{Source, Driver, driver_of_kind, inputs_of, kind_at, pins_of}
use Rattle.dft_netlist.specs.NetDrivers.{driver_at, is_inverted, joined_by, roles_at}
use Rattle.dft_behavior.specs.Traces.{Root, Port, Constant, Other, root_of}
use Rattle.dft_behavior.specs.ClockRoots.{ClockRoot}
use Rattle.dft_netlist.specs.Connections.{pin_of}
use Rattle.dft_behavior.specs.Logic.{Cell, Ports, Input, Clock, cell_or_none, domain_at, flip_flop, flop_meaning, force_of, force_at, both_forces, takes_of, meaning_of, modelled, modelled_of}
use Rattle.dft_behavior.specs.Settled.{TriSources, inverse}
use Rattle.dft_behavior.proofs.StoredLemmas.{stored_force}
use Rattle.dft_abstract.specs.Cycle.{strobe_sources}
use Rattle.dft_config.specs.Config.{Config}
use Rattle.dft_rules.specs.Rules.{may_be_scanned}
use Rattle.dft_expect.specs.Captures.{config_ports}
use Rattle.dft_stitch.specs.Chains.{plan_of}
use Rattle.dft_cubes.specs.declared.cube.Merged.{Merged}
use Rattle.dft_evaluator.specs.Evaluations.{IsGiven, AreGiven}
use Rattle.dft_expect.specs.declared.settings.Setting.{Setting}
use Rattle.dft_expect.specs.declared.settings.Setting.TheVariants as setting
use Rattle.dft_expect.specs.Loaded.{loaded_values, or_unknown}
use Rattle.dft_expect.specs.Captures.{bit_of_port, capture_vector, original, port_value}
use Rattle.dft_expect.specs.Capturing.{CanCapture, IsPrepared, cells_in}
use Rattle.dft_expect.specs.Settings.{IsCellSetting, IsSetBy, cell_value, is_input, port_or, port_setting, setting_at, value_by}
use Rattle.dft_expect.proofs.CellNumbers.{IsPlace, bit_is, bit_none, place_of, stands_once}
use Rattle.dft_expect.proofs.ScannedCells.{IsModelled, cell_modelled, no_lockup}

-- ---- resets do not act

-- resets and sets are by reset ports
abbrev pub ByResets : (ℕ → Bool) → Forces ℕ → Type 0
ByResets is_reset forces = (port : ℕ) → IsForceOf forces port → is_reset port ≡ true

port_by : (is_reset : ℕ → Bool) (net port : ℕ) (b : Bool) → is_reset net ≡ b → ◌≡◌ {A = Option (Option ℕ)} (if b then Some (Some net) else None) (Some (Some port)) → is_reset port ≡ true
port_by is_reset net port true is e = subst (λ (k : ℕ). is_reset k ≡ true) (same_Some net port (same_Some (Some net) (Some port) e)) is
port_by is_reset net port false is e = absurd (none-some (Some port) e)

root_by : (ports : Ports) (r : Root) (port : ℕ) → force_of ports r ≡ Some (Some port) → ports.is_reset port ≡ true
root_by ports (Port net) port e = port_by ports.is_reset net port (ports.is_reset net) refl e
root_by ports (Constant true) port e = absurd (none-some port (same_Some None (Some port) e))
root_by ports (Constant false) port e = absurd (none-some (Some port) e)
root_by ports Other port e = absurd (none-some (Some port) e)

pin_by : (n : Netlist) (ports : Ports) (pin : Option Source) (port : ℕ) → force_at n ports pin ≡ Some (Some port) → ports.is_reset port ≡ true
pin_by n ports None port e = absurd (none-some port (same_Some None (Some port) e))
pin_by n ports (Some source) port e = root_by ports (root_of n source) port e

modelled_by : (is_reset : ℕ → Bool) (i : ℕ) (domain : Option ClockRoot) (clear preset : Option (Option ℕ)) (takes : Takes Source) → ((port : ℕ) → clear ≡ Some (Some port) → is_reset port ≡ true) → ((port : ℕ) → preset ≡ Some (Some port) → is_reset port ≡ true) →
    ByResets is_reset (cell_or_none i (modelled domain (both_forces clear preset) takes)).forces
modelled_by is_reset i None clear preset takes a b port (inl is) = absurd (none-some port is)
modelled_by is_reset i None clear preset takes a b port (inr is) = absurd (none-some port is)
modelled_by is_reset i (Some d) None preset takes a b port (inl is) = absurd (none-some port is)
modelled_by is_reset i (Some d) None preset takes a b port (inr is) = absurd (none-some port is)
modelled_by is_reset i (Some d) (Some c) None takes a b port (inl is) = absurd (none-some port is)
modelled_by is_reset i (Some d) (Some c) None takes a b port (inr is) = absurd (none-some port is)
modelled_by is_reset i (Some d) (Some c) (Some p) takes a b port (inl is) = a port (ap Some is)
modelled_by is_reset i (Some d) (Some c) (Some p) takes a b port (inr is) = b port (ap Some is)

pub flop_by : (n : Netlist) (ports : Ports) (i : ℕ) (b : Bool) → ByResets ports.is_reset (cell_or_none i (if b then modelled_of n ports i (pins_of n i) else None)).forces
flop_by n ports i true port has = modelled_by ports.is_reset i (domain_at n ports (pin_of role.Clock i (pins_of n i))) (force_at n ports (pin_of role.Reset i (pins_of n i))) (force_at n ports (pin_of role.Preset i (pins_of n i))) (takes_of i (pins_of n i))
    (pin_by n ports (pin_of role.Reset i (pins_of n i))) (pin_by n ports (pin_of role.Preset i (pins_of n i))) port has
flop_by n ports i false port (inl is) = absurd (none-some port is)
flop_by n ports i false port (inr is) = absurd (none-some port is)

-- in a capture no reset or set acts
pub stays : (n : Netlist) (config : Config) (merged : Merged) (i : ℕ) (t : Tri) → tri_forced_by ((original n config).cell i).forces (capture_vector n config merged).ports t ≡ t
stays n config merged i t =
    let by : ByResets (config_ports n config).is_reset ((original n config).cell i).forces =
    subst (ByResets (config_ports n config).is_reset) (sym (stored_force n (config_ports n config) i)) (flop_by n (config_ports n config) i (is_flip_flop (kind_at n i))) in
    left_rests ((original n config).cell i).forces (capture_vector n config merged).ports t (λ port has. ap (λ (b : Bool). port_value b (bit_of_port merged.ports port)) (by port has))

-- ---- a port

-- what the sources of a capture are
abbrev pub sources_of : Netlist → Config → Merged → (loaded : List Bool) → (values : ℕ → Tri) → TriSources
sources_of n config merged loaded values = strobe_sources (original n config) (capture_vector n config merged) (loaded_values (plan_of n config).chains loaded) values

pub port_or_value : (s : Setting) (given : Option Bool) (loaded : List Bool) → port_or (is_input s) given (value_by s None loaded) ≡ value_by s given loaded
port_or_value setting.Input None loaded = refl
port_or_value setting.Input (Some bit) loaded = refl
port_or_value setting.Reset given loaded = refl
port_or_value setting.Clock given loaded = refl
port_or_value (setting.Cell number inverted) given loaded = refl
port_or_value setting.Unknown given loaded = refl

port_given : (n : Netlist) (config : Config) (merged : Merged) (loaded : List Bool) (values given : ℕ → Tri) (net : ℕ) (s : Setting) (c r : Bool) → (config_ports n config).is_reset net ≡ r → s ≡ port_setting c r
    → given net ≡ value_by s (bit_of_port merged.ports net) loaded → IsGiven (sources_of n config merged loaded values) given net (if c then Clock else Input)
port_given n config merged loaded values given net s true r is set value = value ∙ ap (λ (k : Setting). value_by k (bit_of_port merged.ports net) loaded) set
port_given n config merged loaded values given net s false true is set value =
    value ∙ ap (λ (k : Setting). value_by k (bit_of_port merged.ports net) loaded) set ∙ sym (ap (λ (b : Bool). port_value b (bit_of_port merged.ports net)) is)
port_given n config merged loaded values given net s false false is set value =
    value ∙ ap (λ (k : Setting). value_by k (bit_of_port merged.ports net) loaded) set ∙ sym (ap (λ (b : Bool). port_value b (bit_of_port merged.ports net)) is)

-- ---- a flip-flop

cell_bit : (inverted : Bool) (bit : Option Bool) (t : Tri) → t ≡ or_unknown bit → cell_value inverted bit ≡ (if inverted then inverse t else t)
cell_bit true bit t is = ap inverse (sym is)
cell_bit false bit t is = sym is

none_bit : (inverted : Bool) (t : Tri) → t ≡ Unknown → Unknown ≡ (if inverted then inverse t else t)
none_bit true t is = ap inverse (sym is)
none_bit false t is = sym is

-- a cell of the chains is modelled
pub number_modelled : (n : Netlist) (config : Config) (number i : ℕ) → CanCapture n config → slice_get (cells_in n config) number ≡ Some (record { 0 = i }) → IsModelled n config i
number_modelled n config number i can at =
    let p : IsPlace (plan_of n config).chains number (record { 0 = i }) = place_of (plan_of n config).chains number (record { 0 = i }) at in
    cell_modelled n config p.chain p.place (record { 0 = i }) can p.at

flop_given : (n : Netlist) (config : Config) (merged : Merged) (loaded : List Bool) (values given : ℕ → Tri) (net i : ℕ) (inverted : Bool) (s : Setting) (o : Option Cell) → CanCapture n config → flip_flop n (config_ports n config) i ≡ o
    → IsCellSetting (cells_in n config) i inverted s → given net ≡ value_by s (bit_of_port merged.ports net) loaded → IsGiven (sources_of n config merged loaded values) given net (flop_meaning i inverted o)
flop_given n config merged loaded values given net i inverted s None can flop (inl at) value =
    absurd (none-some _ (sym flop ∙ (number_modelled n config at.0 i can at.2).flop))
flop_given n config merged loaded values given net i inverted s (Some cell) can flop (inl at) value =
    value ∙ ap (λ (k : Setting). value_by k (bit_of_port merged.ports net) loaded) at.1
    ∙ cell_bit inverted (slice_get loaded at.0) _
    (stays n config merged i (loaded_values (plan_of n config).chains loaded i)
    ∙ ap or_unknown (bit_is (cells_in n config) loaded at.0 i (λ j k one two. stands_once n config j k (record { 0 = i }) can one two) at.2))
flop_given n config merged loaded values given net i inverted s None can flop (inr none) value = value ∙ ap (λ (k : Setting). value_by k (bit_of_port merged.ports net) loaded) none.0
flop_given n config merged loaded values given net i inverted s (Some cell) can flop (inr none) value =
    value ∙ ap (λ (k : Setting). value_by k (bit_of_port merged.ports net) loaded) none.0
    ∙ none_bit inverted _ (stays n config merged i (loaded_values (plan_of n config).chains loaded i) ∙ ap or_unknown (bit_none (cells_in n config) loaded i none.1))

-- ---- the output of an instance

opaque_given : (n : Netlist) (config : Config) (merged : Merged) (loaded : List Bool) (given : ℕ → Tri) (net i : ℕ) (inverted : Bool) (s : Setting) → CanCapture n config → kind_at n i ≡ kind.Opaque
    → IsCellSetting (cells_in n config) i inverted s → given net ≡ value_by s (bit_of_port merged.ports net) loaded → given net ≡ Unknown
opaque_given n config merged loaded given net i inverted s can is (inl at) value =
    let may : may_be_scanned kind.Opaque ≡ true = ap may_be_scanned (sym is) ∙ (number_modelled n config at.0 i can at.2).kind in absurd cc
opaque_given n config merged loaded given net i inverted s can is (inr none) value = value ∙ ap (λ (k : Setting). value_by k (bit_of_port merged.ports net) loaded) none.0

pin_given : (n : Netlist) (config : Config) (merged : Merged) (loaded : List Bool) (values given : ℕ → Tri) (net i : ℕ) (inverted : Bool) (s : Setting) (k : Kind) (inputs : List Source) → CanCapture n config → kind_at n i ≡ k
    → IsCellSetting (cells_in n config) i inverted s → given net ≡ value_by s (bit_of_port merged.ports net) loaded
    → IsGiven (sources_of n config merged loaded values) given net (meaning_of n (config_ports n config) net (driver_of_kind k i inverted inputs))
pin_given n config merged loaded values given net i inverted s kind.Opaque inputs can is set value = opaque_given n config merged loaded given net i inverted s can is set value
pin_given n config merged loaded values given net i inverted s kind.Lockup inputs can is set value = absurd (no_lockup n config i can is)
pin_given n config merged loaded values given net i inverted s (kind.Flop flop) inputs can is set value = flop_given n config merged loaded values given net i inverted s (flip_flop n (config_ports n config) i) can refl set value
pin_given n config merged loaded values given net i inverted s (kind.Gate gate) inputs can is set value = tt

-- ---- a net

join_given : (n : Netlist) (config : Config) (merged : Merged) (loaded : List Bool) (values given : ℕ → Tri) (net : ℕ) (o : Option Join) → given net ≡ Unknown → IsGiven (sources_of n config merged loaded values) given net (meaning_of n (config_ports n config) net (joined_by o))
join_given n config merged loaded values given net None value = value
join_given n config merged loaded values given net (Some join) value = tt

driven_given : (n : Netlist) (config : Config) (merged : Merged) (loaded : List Bool) (values given : ℕ → Tri) (net : ℕ) (clocks resets : List Bool) (s : Setting) (d : NetDriver) → CanCapture n config
    → bit_at clocks net ≡ (config_ports n config).is_clock net → bit_at resets net ≡ (config_ports n config).is_reset net
    → IsSetBy n clocks resets (cells_in n config) net d s → given net ≡ value_by s (bit_of_port merged.ports net) loaded
    → IsGiven (sources_of n config merged loaded values) given net (meaning_of n (config_ports n config) net (driver_at n d))
driven_given n config merged loaded values given net clocks resets s by.Input can clock reset set value =
    port_given n config merged loaded values given net s ((config_ports n config).is_clock net) ((config_ports n config).is_reset net) refl (set ∙ (λ i. port_setting (clock i) (reset i))) value
driven_given n config merged loaded values given net clocks resets s (by.Pin instance pin) can clock reset set value =
    pin_given n config merged loaded values given net instance.0 (is_inverted (slice_get (roles_at n instance.0) pin)) s (kind_at n instance.0) (inputs_of instance.0 (pins_of n instance.0)) can refl set value
driven_given n config merged loaded values given net clocks resets s (by.Join number) can clock reset set value =
    join_given n config merged loaded values given net (slice_get n.joins number) (value ∙ ap (λ (k : Setting). value_by k (bit_of_port merged.ports net) loaded) set)
driven_given n config merged loaded values given net clocks resets s by.Nothing can clock reset set value = value ∙ ap (λ (k : Setting). value_by k (bit_of_port merged.ports net) loaded) set

net_given : (n : Netlist) (config : Config) (merged : Merged) (loaded : List Bool) (values given : ℕ → Tri) (net : ℕ) (settings : List Setting) → CanCapture n config → IsPrepared n config settings
    → given net ≡ value_by (setting_at settings net) (bit_of_port merged.ports net) loaded → (net < length n.nets) ⊎ (length n.nets ≤ net)
    → IsGiven (sources_of n config merged loaded values) given net ((original n config).net net)
net_given n config merged loaded values given net settings can prepared value (inl less) =
    let it = prepared.set.each net less in
    subst (λ (d : Driver). IsGiven (sources_of n config merged loaded values) given net (meaning_of n (config_ports n config) net d)) (sym it.is)
    (driven_given n config merged loaded values given net prepared.clocks prepared.resets (setting_at settings net) it.drives can (prepared.domains.each net) (prepared.held.each net) it.set value)
net_given n config merged loaded values given net settings can prepared value (inr past) =
    subst (λ (d : Driver). IsGiven (sources_of n config merged loaded values) given net (meaning_of n (config_ports n config) net d)) (sym (past_free n can.netlist net past))
    (value ∙ ap (λ (k : Setting). value_by k (bit_of_port merged.ports net) loaded) (get_or_past settings net setting.Unknown (omega (arith, prepared.set.nets, past))))

pub are_given : (n : Netlist) (config : Config) (merged : Merged) (loaded : List Bool) (values given : ℕ → Tri) (settings : List Setting) → CanCapture n config → IsPrepared n config settings
    → ((net : ℕ) → given net ≡ value_by (setting_at settings net) (bit_of_port merged.ports net) loaded) → AreGiven (original n config).net (sources_of n config merged loaded values) given
are_given n config merged loaded values given settings can prepared set net = net_given n config merged loaded values given net settings can prepared (set net) (cases_lt net (length n.nets))
