-- The added input ports of style Edt drive their nets in the scanned netlist, and edt_clock is a clock.
use Rattle.std.proofs.Common.{ℕ, zero, suc, ◌+◌, ◌≡◌, ◌<◌, ◌≤◌, ◌==◌, Bool, true, false, List, [], ◌∷◌, ◌++◌, length, map, Option, None, Some, option_and_then, refl, sym, ap, arith, ◌∙◌, append_assoc}
use Rattle.std.specs.Prelude.{if◌then◌else◌}
use Rattle.std.specs.List.{AllByRecursion, list_any, range_with_len}
use Rattle.std.proofs.lemmas.Bool.{eq-eqb, eqb-true, or_from, or_right}
use Rattle.std.proofs.lemmas.List.{length-append}
use Rattle.dft_base.specs.Lexing.{Text}
use Rattle.dft_base.specs.declared.dir.Dir.{Dir}
use Rattle.dft_base.specs.declared.dir.Dir.TheVariants as dir
use Rattle.dft_base.proofs.NumberLemmas.{less_apart}
use Rattle.dft_netlist.specs.declared.ids.NetId.{NetId}
use Rattle.dft_netlist.specs.Drivers as drivers
use Rattle.dft_netlist.specs.Drivers.{Driven, driven_by_bits, driven_by_ports, driven_by_instances, driven_by_joins, driver_in, driver}
use Rattle.dft_netlist.specs.Connections.{is_input, input_net}
use Rattle.dft_behavior.specs.Logic as logic
use Rattle.dft_behavior.specs.Logic.{meaning_of, logic_of}
use Rattle.dft_netlist.specs.Names.{find_net}
use Rattle.dft_netlist.specs.Netlist.{Netlist}
use Rattle.dft_netlist.specs.Sound.{bits_of}
use Rattle.dft_netlist.proofs.LiveDriven.{AreBefore}
use Rattle.dft_config.specs.Config.{Config}
use Rattle.dft_rules.specs.Rules.{is_net}
use Rattle.dft_parts.specs.Standing.{IsClockNet}
use Rattle.dft_scan_frame.specs.AddedPorts.{NewPort, new_port, numbered, numbered_ports, ports_from}
use Rattle.dft_scan_frame.specs.Moves.{moved_join}
use Rattle.dft_scan_frame.specs.Statements.{IsReady}
use Rattle.dft_scan_frame.specs.ConfigPorts.{config_ports}
use Rattle.dft_scan_frame.specs.Moves.{map_from}
use Rattle.dft_scan_frame.proofs.Kept.{numbered_count}
use Rattle.dft_scan_frame.proofs.Containing.{input_less}
use Rattle.dft_scan_frame.proofs.Fine.{driver_fine}
use Rattle.dft_insert.specs.declared.style.Style.TheVariants.{Plain, Edt}
use Rattle.dft_insert.specs.Ports.{added_ports, gap_in}
use Rattle.dft_insert.specs.Statements.{scanned, made_in}
use Rattle.dft_insert.specs.Agreeing.{ports_in, edt_clock_net}
use Rattle.dft_insert.proofs.Driving.{now_at, all_is, skips, ports_below, ports_before}
use Rattle.dft_insert.proofs.Merging.{news}

abbrev AreInputs : List NewPort → Type 0
AreInputs ports = AllByRecursion (λ (port : NewPort). port.dir ≡ dir.Input) ports

numbered_inputs : (name : Text) (xs : List ℕ) → AreInputs (map (λ number. new_port dir.Input (numbered name number)) xs)
numbered_inputs name [] = tt
numbered_inputs name (x ∷ xs) = (refl, numbered_inputs name xs)

inputs_append : (xs ys : List NewPort) → AreInputs xs → AreInputs ys → AreInputs (xs ++ ys)
inputs_append [] ys h k = k
inputs_append (x ∷ xs) ys h k = (h.0, inputs_append xs ys h.1 k)

differ : (a j : ℕ) → (a == a + suc j) ≡ false
differ = grind arith

inputs_drive : (ports more : List NewPort) (first j : ℕ) (rest : List Driven) → AreInputs ports → j < length ports → driver_in (driven_by_ports (ports_from first (ports ++ more)) ++ rest) (first + j) ≡ drivers.Input
inputs_drive [] more first j rest h less = absurd (omega (arith, less))
inputs_drive (port ∷ ports) more first zero rest h less =
    let tail = driven_by_ports (ports_from (suc first) (ports ++ more)) in
    let e : first + zero ≡ first = omega arith in
    ap (λ (d : Dir). driver_in ((driven_by_bits d (record { 0 = first } ∷ []) ++ tail) ++ rest) (first + zero)) h.0
    ∙ ap (λ b. if b then drivers.Input else driver_in (tail ++ rest) (first + zero)) (eq-eqb first (first + zero) (sym e))
inputs_drive (port ∷ ports) more first (suc j) rest h less =
    let tail = driven_by_ports (ports_from (suc first) (ports ++ more)) in
    let e : suc first + j ≡ first + suc j = omega arith in
    ap (λ (d : Dir). driver_in ((driven_by_bits d (record { 0 = first } ∷ []) ++ tail) ++ rest) (first + suc j)) h.0
    ∙ ap (λ b. if b then drivers.Input else driver_in (tail ++ rest) (first + suc j)) (differ first j)
    ∙ ap (driver_in (tail ++ rest)) (sym e)
    ∙ inputs_drive ports more (suc first) j rest h.1 (omega (arith, less))

before_more : (a b : ℕ) (nets : List NetId) → a ≤ b → AreBefore a nets → AreBefore b nets
before_more a b [] le h = tt
before_more a b (net ∷ nets) le h = (omega (arith, le, h.0), before_more a b nets le h.1)

-- scan_enable, edt_clock, edt_update, channels and mask ports
pub edt_input : (n : Netlist) (config : Config) (j : ℕ) → IsReady n config → j < 3 + config.ring.channels + config.compactor.mask_inputs → driver (scanned Edt n config) ((gap_in Edt n config).before + j) ≡ drivers.Input
edt_input n config j ready less =
    let before : ℕ = (gap_in Edt n config).before in
    let old : List Driven = driven_by_ports n.ports in
    let added : List Driven = driven_by_ports (ports_from before (added_ports Edt config)) in
    let its : List Driven = driven_by_instances n.library 0 (map_from (now_at Edt n config) 0 n.instances) ++ driven_by_instances n.library (length n.instances) (news 0 (made_in Edt n config)) in
    let joins : List Driven = driven_by_joins (map (moved_join (gap_in Edt n config)) n.joins) in
    let channels : List NewPort = numbered_ports dir.Input config.names.channel config.ring.channels in
    let masks : List NewPort = numbered_ports dir.Input config.names.mask config.compactor.mask_inputs in
    let outputs : List NewPort = numbered_ports dir.Output config.names.output (length config.compactor.groups) in
    let a : NewPort = new_port dir.Input config.names.scan_enable in
    let b : NewPort = new_port dir.Input config.names.edt_clock in
    let c : NewPort = new_port dir.Input config.names.edt_update in
    let inputs : List NewPort = a ∷ b ∷ c ∷ (channels ++ masks) in
    let are : AreInputs inputs = (refl, (refl, (refl, inputs_append channels masks (numbered_inputs config.names.channel (range_with_len 0 config.ring.channels)) (numbered_inputs config.names.mask (range_with_len 0 config.compactor.mask_inputs))))) in
    let few : j < length inputs = omega (arith, less, length-append channels masks, numbered_count dir.Input config.names.channel config.ring.channels, numbered_count dir.Input config.names.mask config.compactor.mask_inputs) in
    ap (λ (ds : List Driven). driver_in ds (before + j)) (all_is Edt n config ready ∙ append_assoc (old ++ added) its joins ∙ append_assoc old added (its ++ joins))
    ∙ skips (before + j) old (added ++ (its ++ joins)) (ports_below (before + j) n.ports (before_more before (before + j) (bits_of n.ports) (omega arith) (ports_before n config ready)))
    ∙ ap (λ (ports : List NewPort). driver_in (driven_by_ports (ports_from before (a ∷ b ∷ c ∷ ports)) ++ (its ++ joins)) (before + j)) (sym (append_assoc channels masks outputs))
    ∙ inputs_drive inputs outputs before j (its ++ joins) are few

pub edt_clock_is : (n : Netlist) (config : Config) → IsReady n config → IsClockNet (scanned Edt n config) (ports_in Edt n config) (edt_clock_net n config)
edt_clock_is n config ready = record {
  input = edt_input n config 1 ready (omega arith);
  clock = or_right ((config_ports n config).is_clock (edt_clock_net n config)) (edt_clock_net n config == edt_clock_net n config) (eq-eqb (edt_clock_net n config) (edt_clock_net n config) refl);
}

-- ---- style Plain

-- scan_enable and the scan inputs
pub plain_input : (n : Netlist) (config : Config) (j : ℕ) → IsReady n config → j < 1 + config.chains → driver (scanned Plain n config) ((gap_in Plain n config).before + j) ≡ drivers.Input
plain_input n config j ready less =
    let before : ℕ = (gap_in Plain n config).before in
    let old : List Driven = driven_by_ports n.ports in
    let added : List Driven = driven_by_ports (ports_from before (added_ports Plain config)) in
    let its : List Driven = driven_by_instances n.library 0 (map_from (now_at Plain n config) 0 n.instances) ++ driven_by_instances n.library (length n.instances) (news 0 (made_in Plain n config)) in
    let joins : List Driven = driven_by_joins (map (moved_join (gap_in Plain n config)) n.joins) in
    let ins : List NewPort = numbered_ports dir.Input config.names.scan_in config.chains in
    let outs : List NewPort = numbered_ports dir.Output config.names.scan_out config.chains in
    let inputs : List NewPort = new_port dir.Input config.names.scan_enable ∷ ins in
    let are : AreInputs inputs = (refl, numbered_inputs config.names.scan_in (range_with_len 0 config.chains)) in
    let few : j < length inputs = omega (arith, less, numbered_count dir.Input config.names.scan_in config.chains) in
    ap (λ (ds : List Driven). driver_in ds (before + j)) (all_is Plain n config ready ∙ append_assoc (old ++ added) its joins ∙ append_assoc old added (its ++ joins))
    ∙ skips (before + j) old (added ++ (its ++ joins)) (ports_below (before + j) n.ports (before_more before (before + j) (bits_of n.ports) (omega arith) (ports_before n config ready)))
    ∙ inputs_drive inputs outs before j (its ++ joins) are few

-- ---- nets past the design's ports are no clocks of its configuration

pub not_this : (n : Netlist) (at : ℕ) (net : NetId) (b : Bool) → length (bits_of n.ports) ≤ at → (b ≡ true → net.0 < length (bits_of n.ports)) → is_net at (if b then Some net else None) ≡ false
not_this n at net true past h = less_apart net.0 at (omega (arith, h refl, past))
not_this n at net false past h = refl

pub not_found : (n : Netlist) (config : Config) (at : ℕ) (o : Option NetId) → IsReady n config → length (bits_of n.ports) ≤ at → is_net at (option_and_then (λ (net : NetId). if is_input (driver n net.0) then Some net else None) o) ≡ false
not_found n config at None ready past = refl
not_found n config at (Some net) ready past = not_this n at net (is_input (driver n net.0)) past (λ is. input_less n net.0 (driver n net.0) is (driver_fine n config net.0 ready))

pub no_clock : (n : Netlist) (config : Config) (at : ℕ) (names : List Text) → IsReady n config → length (bits_of n.ports) ≤ at → list_any (λ name. is_net at (input_net n name)) names ≡ false
no_clock n config at [] ready past = refl
no_clock n config at (name ∷ names) ready past = or_from (is_net at (input_net n name)) (list_any (λ other. is_net at (input_net n other)) names) (not_found n config at (find_net n name) ready past) (no_clock n config at names ready past)

-- what an added input port is
pub plain_means : (n : Netlist) (config : Config) (j : ℕ) → IsReady n config → j < 1 + config.chains → (logic_of (scanned Plain n config) (ports_in Plain n config)).net ((gap_in Plain n config).before + j) ≡ logic.Input
plain_means n config j ready less =
    ap (meaning_of (scanned Plain n config) (ports_in Plain n config) ((gap_in Plain n config).before + j)) (plain_input n config j ready less)
    ∙ ap (λ b. if b then logic.Clock else logic.Input) (no_clock n config ((gap_in Plain n config).before + j) config.domains ready (omega arith))

not_one : (before j : ℕ) → (j ≡ 1 → ⊥) → (before + j == before + 1) ≡ false
not_one before j apart = by (before + j == before + 1) refl
  where
    by : (b : Bool) → (before + j == before + 1) ≡ b → b ≡ false
    by false is = refl
    by true is = absurd (let e = eqb-true (before + j) (before + 1) is in apart (omega (arith, e)))

pub edt_means : (n : Netlist) (config : Config) (j : ℕ) → IsReady n config → (j ≡ 1 → ⊥) → j < 3 + config.ring.channels + config.compactor.mask_inputs → (logic_of (scanned Edt n config) (ports_in Edt n config)).net ((gap_in Edt n config).before + j) ≡ logic.Input
edt_means n config j ready apart less =
    ap (meaning_of (scanned Edt n config) (ports_in Edt n config) ((gap_in Edt n config).before + j)) (edt_input n config j ready less)
    ∙ ap (λ b. if b then logic.Clock else logic.Input)
    (or_from ((config_ports n config).is_clock ((gap_in Edt n config).before + j)) ((gap_in Edt n config).before + j == edt_clock_net n config) (no_clock n config ((gap_in Edt n config).before + j) config.domains ready (omega arith)) (not_one (gap_in Edt n config).before j apart))
