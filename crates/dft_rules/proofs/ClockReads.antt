-- Where the scan rules pass, only buffers, inverters and clock pins read a net that shows the clock of a domain or its inverse.
use Rattle.std.proofs.Common.{ℕ, ◌+◌, ◌≡◌, ◌<◌, ◌≤◌, ◌⊎◌, inl, inr, zero, suc, Bool, true, false, ◌&&◌, ◌||◌, cond, List, [], ◌∷◌, length, find, Option, None, Some, is_some, slice_get, slice_index_or, refl, sym, subst, ap, arith, ◌∙◌}
use Rattle.std.specs.Prelude.{if◌then◌else◌, option_map}
use Rattle.std.specs.List.{list_any, range_with_len}
use Rattle.std.proofs.lemmas.Bool.{eq-eqb, false_from_ne_true}
use Rattle.std.proofs.lemmas.Map.Keys.{any_passes_from_place}
use Rattle.std.proofs.lemmas.Option.{none-some}
use Rattle.dft_cells.specs.declared.kind.Kind.{Kind}
use Rattle.dft_cells.specs.declared.kind.Gate.{Gate as GateKind}
use Rattle.dft_cells.specs.declared.kind.Role.{Role}
use Rattle.dft_cells.specs.declared.kind.Role.TheVariants as role
use Rattle.dft_netlist.specs.declared.instance.Instance.{Instance}
use Rattle.dft_netlist.specs.declared.instance.Signal.{Signal}
use Rattle.dft_netlist.specs.declared.instance.Signal.TheVariants as signal
use Rattle.dft_netlist.specs.Netlist.{Netlist}
use Rattle.dft_netlist.specs.Drivers.{Source, Net, Gate, Free, Connection, driver, source_of, inputs_of, is_input, connections_of, nets_of}
use Rattle.dft_netlist.specs.Orders.{Has}
use Rattle.dft_netlist.specs.Sound.{IsNetlist}
use Rattle.dft_behavior.specs.ClockRoots.{ClockRoot, clock_root_of}
use Rattle.dft_behavior.specs.NetRoots.{NetRoot, Rooted, AtPort, AtConstant, AtTie, ThroughGate, ThroughJoin}
use Rattle.dft_behavior.proofs.ClockWalks.{clock_found}
use Rattle.dft_netlist.proofs.GateDrivers.{IsGate, gate_drives, driven_live}
use Rattle.dft_netlist.proofs.LiveLemmas.{le_or_lt}
use Rattle.dft_config.specs.Config.{Config}
use Rattle.dft_rules.specs.Refusals.{refusal, unknown_port, unknown_cell, first_present, clock_as_data, takes_data, uses_data, uses_inputs, takes, is_joined_to, is_data_of, is_clock_as_data}
use Rattle.dft_rules.specs.declared.error.RuleError.TheVariants.{ClockAsData}
use Rattle.dft_rules.specs.Rules.{place_of_clock, clock_of_source}
use Rattle.dft_rules.proofs.CheckLemmas.{none_first, from_resets, from_keep, from_present, from_clocks, from_ports}

-- ---- what a gate reads, its instance takes

any_first : {X : Type 0} (test : X → Bool) (x : X) (xs : List X) → test x ≡ true → list_any test (x ∷ xs) ≡ true
any_first test x xs is = ap (λ (b : Bool). b || list_any test xs) is

any_later : {X : Type 0} (test : X → Bool) (x : X) (xs : List X) → list_any test xs ≡ true → list_any test (x ∷ xs) ≡ true
any_later test x xs is = by (test x) where
  by : (b : Bool) → (b || list_any test xs) ≡ true
  by true = refl
  by false = is

input_data : (r : Role) → is_input r ≡ true → takes_data r ≡ true
input_data role.Input is = refl
input_data role.Clock is = absurd cc
input_data role.Din is = refl
input_data role.Reset is = refl
input_data role.Preset is = refl
input_data role.ScanIn is = refl
input_data role.ScanEnable is = refl
input_data role.Output is = absurd cc
input_data role.Inverted is = absurd cc

-- a pin that reads a net is joined to it
joined_net : (i pin k : ℕ) (s : Signal) (rest : List Source) → Has (nets_of (source_of i pin s ∷ rest)) k → (is_joined_to k s ≡ true) ⊎ Has (nets_of rest) k
joined_net i pin k (signal.Net net) rest has = elim has [ inl e ↦ inl (eq-eqb net.0 k (sym e)) | inr later ↦ inr later ]
joined_net i pin k (signal.Constant bit) rest has = inr has
joined_net i pin k signal.Unconnected rest has = inr has

takes_by : (k : ℕ) (c : Connection) → takes_data c.role ≡ true → is_joined_to k c.to ≡ true → takes k c ≡ true
takes_by k c is joined = ap (λ (b : Bool). b && is_joined_to k c.to) is ∙ joined

input_taken : (i k : ℕ) (c : Connection) (cs : List Connection) (b : Bool) (more : List Source) → is_input c.role ≡ b → (Has (nets_of more) k → list_any (takes k) cs ≡ true) →
    Has (nets_of (if b then source_of i c.pin c.to ∷ more else more)) k → list_any (takes k) (c ∷ cs) ≡ true
input_taken i k c cs true more is ih has = elim (joined_net i c.pin k c.to more has) [
  | inl joined ↦ any_first (takes k) c cs (takes_by k c (input_data c.role is) joined)
  | inr later ↦ any_later (takes k) c cs (ih later)
]
input_taken i k c cs false more is ih has = any_later (takes k) c cs (ih has)

pub inputs_taken : (i k : ℕ) (cs : List Connection) → Has (nets_of (inputs_of i cs)) k → list_any (takes k) cs ≡ true
inputs_taken i k [] has = absurd has
inputs_taken i k (c ∷ cs) has = input_taken i k c cs (is_input c.role) (inputs_of i cs) refl (inputs_taken i k cs) has

-- ---- no clock of a domain is data

none_step : {X : Type 0} (f : ℕ → X) (b : Bool) (from : ℕ) (rest : Option ℕ) → option_map f (cond b (Some from) rest) ≡ None → (b ≡ false) × (option_map f rest ≡ None)
none_step f true from rest none = absurd (none-some (f from) (sym none))
none_step f false from rest none = (refl, none)

here_or_later : (test : ℕ → Bool) (from k : ℕ) → test from ≡ false → (from + 1 ≤ k → test k ≡ false) → from ≤ k → test k ≡ false
here_or_later test from k here later low = elim (le_or_lt (from + 1) k) [
  | inl above ↦ later above
  | inr less ↦ (let e : from ≡ k = omega (arith, less, low) in sym (ap test e) ∙ here)
]

none_found : {X : Type 0} (test : ℕ → Bool) (f : ℕ → X) (count from k : ℕ) → option_map f (find test (range_with_len from count)) ≡ None → from ≤ k → k < from + count → test k ≡ false
none_found test f zero from k none low high = absurd (omega arith)
none_found test f (suc count) from k none low high =
    let step = none_step f (test from) from (find test (range_with_len (from + 1) count)) none in
    here_or_later test from k step.0 (λ above. none_found test f count (from + 1) k step.1 above (omega arith)) low

clocks_pass : (n : Netlist) (config : Config) → refusal n config ≡ None → clock_as_data n config.domains ≡ None
unfolding refusal
clocks_pass n config e =
    let resets = (none_first (unknown_port n config.domains) (from_resets n config) e).1 in
    let keep = (none_first (unknown_port n config.resets) (from_keep n config) resets).1 in
    let there = (none_first (unknown_cell n config.keep) (from_present n config) keep).1 in
    let clocks = (none_first (first_present n.library n.instances) (from_clocks n config) there).1 in
    (none_first (clock_as_data n config.domains) (from_ports n config) clocks).0

-- ---- a net that shows one

-- something drives it
rooted_driven : (n : Netlist) (k : ℕ) {source : Source} {root : NetRoot} → Rooted n source root → source ≡ Net k → driver n k ≡ Free → ⊥
rooted_driven n k (AtPort {net = net} is) e free = let at : net ≡ k = cc in let same = sym is ∙ ap (driver n) at ∙ free in cc
rooted_driven n k AtConstant e free = cc
rooted_driven n k (AtTie {net = net} is passes) e free = let at : net ≡ k = cc in let same = sym is ∙ ap (driver n) at ∙ free in cc
rooted_driven n k (ThroughGate {net = net} is passes rest) e free = let at : net ≡ k = cc in let same = sym is ∙ ap (driver n) at ∙ free in cc
rooted_driven n k (ThroughJoin {net = net} is rest) e free = let at : net ≡ k = cc in let same = sym is ∙ ap (driver n) at ∙ free in cc

shown_driven : (n : Netlist) (config : Config) (k : ℕ) (o : Option ClockRoot) → clock_root_of n (Net k) ≡ o → is_some (place_of_clock n config.domains o) ≡ true → driver n k ≡ Free → ⊥
shown_driven n config k None at shows free = absurd cc
shown_driven n config k (Some clock) at shows free = rooted_driven n k (clock_found n (Net k) clock at).rooted refl free

-- the net shows the clock of a domain, or its inverse
abbrev pub ShowsClock : Netlist → Config → (net : ℕ) → Type 0
ShowsClock n config net = is_some (clock_of_source n config.domains (Net net)) ≡ true

pub shown_live : (n : Netlist) (config : Config) (k : ℕ) → IsNetlist n → ShowsClock n config k → k < length n.nets
shown_live n config k sound shows = driven_live n k sound (shown_driven n config k (clock_root_of n (Net k)) refl shows)

-- no instance takes it as data
pub no_data : (n : Netlist) (config : Config) (k : ℕ) → IsNetlist n → refusal n config ≡ None → ShowsClock n config k → list_any (is_data_of n.library k) n.instances ≡ false
no_data n config k sound passed shows =
    let live : k < length n.nets = shown_live n config k sound shows in
    sym (ap (λ (b : Bool). b && list_any (is_data_of n.library k) n.instances) shows)
    ∙ none_found (is_clock_as_data n config.domains) (λ (j : ℕ). ClockAsData (slice_index_or n.nets j [])) (length n.nets) 0 k (clocks_pass n config passed) (omega arith) (omega (arith, live))

-- what an instance takes as data shows none
pub data_apart : (n : Netlist) (config : Config) (i : ℕ) (x : Instance) (k : ℕ) → IsNetlist n → refusal n config ≡ None → slice_get n.instances i ≡ Some x → is_data_of n.library k x ≡ true →
    is_some (clock_of_source n config.domains (Net k)) ≡ false
data_apart n config i x k sound passed at takes =
    false_from_ne_true (is_some (clock_of_source n config.domains (Net k))) (λ shows. (
    let never : true ≡ false = sym (any_passes_from_place (is_data_of n.library k) n.instances i x at takes) ∙ no_data n config k sound passed shows in
    cc
    ))

-- a gate that is no buffer and no inverter reads none
pub gate_apart : (n : Netlist) (config : Config) (net k : ℕ) (kind : GateKind) (inputs : List Source) → IsNetlist n → refusal n config ≡ None → driver n net ≡ Gate kind inputs → uses_inputs kind ≡ true → Has (nets_of inputs) k →
    is_some (clock_of_source n config.domains (Net k)) ≡ false
gate_apart n config net k kind inputs sound passed is uses has =
    let gate : IsGate n kind inputs = gate_drives n net kind inputs is in
    let x : Instance = gate.instance in
    let taken : list_any (takes k) (connections_of n.library x) ≡ true = inputs_taken gate.number k (connections_of n.library x) (subst (λ (s : List Source). Has (nets_of s) k) (sym gate.reads) has) in
    data_apart n config gate.number x k sound passed gate.at (ap (λ (c : Kind). uses_data c && list_any (takes k) (connections_of n.library x)) gate.kind ∙ ap (λ (b : Bool). b && list_any (takes k) (connections_of n.library x)) uses ∙ taken)
