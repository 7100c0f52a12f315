-- What holds of a design and a configuration that the scan rules pass.
use Rattle.std.proofs.Common.{ℕ, zero, suc, ◌≡◌, Bool, true, false, cond, List, [], ◌∷◌, Option, None, Some, slice_get, option_and_then, refl, sym, ap, ◌∙◌}
use Rattle.std.specs.Prelude.{if◌then◌else◌, is_none, option_map}
use Rattle.std.specs.List.{find}
use Rattle.std.proofs.lemmas.Option.{none-some, same_Some}
use Rattle.dft_base.specs.Lexing.{Text}
use Rattle.dft_base.specs.Name.{IsName}
use Rattle.dft_netlist.specs.declared.ids.NetId.{NetId}
use Rattle.dft_netlist.specs.Connections.{input_net, is_input}
use Rattle.dft_netlist.specs.Drivers.{driver}
use Rattle.dft_netlist.specs.Names.{find_net}
use Rattle.dft_netlist.specs.Netlist.{Netlist}
use Rattle.dft_netlist.specs.Sound.{IsNetlist}
use Rattle.dft_config.specs.Config.{Config}
use Rattle.dft_rules.specs.declared.error.RuleError.TheVariants.{UnknownName}
use Rattle.dft_rules.specs.Refusals.{refusal, unknown_port}
use Rattle.dft_rules.proofs.CheckLemmas.{from_resets, none_first}
use Rattle.dft_rules.proofs.NamedPorts.{name_at}

known_domains : (n : Netlist) (config : Config) → refusal n config ≡ None → unknown_port n config.domains ≡ None
unfolding refusal
known_domains n config passed = (none_first (unknown_port n config.domains) (from_resets n config) passed).0

found_by : (t : Bool) (name : Text) (rest : Option Text) → option_map UnknownName (cond t (Some name) rest) ≡ None → (t ≡ false) × (option_map UnknownName rest ≡ None)
found_by true name rest h = absurd (none-some (UnknownName name) (sym h))
found_by false name rest h = (refl, h)

each_known : (n : Netlist) (names : List Text) → unknown_port n names ≡ None → (k : ℕ) (name : Text) → slice_get names k ≡ Some name → is_none (input_net n name) ≡ false
each_known n [] h k name at = absurd (none-some name at)
each_known n (x ∷ names) h zero name at = ap (λ (q : Text). is_none (input_net n q)) (sym (same_Some x name at)) ∙ (found_by (is_none (input_net n x)) x (find (λ q. is_none (input_net n q)) names) h).0
each_known n (x ∷ names) h (suc k) name at = each_known n names (found_by (is_none (input_net n x)) x (find (λ q. is_none (input_net n q)) names) h).1 k name at

some_of : (o : Option NetId) → is_none o ≡ false → (net : NetId) × (o ≡ Some net)
some_of None h = absurd cc
some_of (Some net) h = (net, refl)

-- the clock of a domain is the bit of an input port
pub clock_of_domain : (n : Netlist) (config : Config) → refusal n config ≡ None → (k : ℕ) (name : Text) → slice_get config.domains k ≡ Some name → (net : NetId) × (input_net n name ≡ Some net)
clock_of_domain n config passed k name at = some_of (input_net n name) (each_known n config.domains (known_domains n config passed) k name at)

found_first : (n : Netlist) (o : Option NetId) (net : NetId) → option_and_then (λ (net : NetId). if is_input (driver n net.0) then Some net else None) o ≡ Some net → (k : NetId) × (o ≡ Some k)
found_first n None net h = absurd (none-some net h)
found_first n (Some k) net h = (k, refl)

-- so its name is a name
pub domain_is_named : (n : Netlist) (config : Config) → IsNetlist n → refusal n config ≡ None → (k : ℕ) (name : Text) → slice_get config.domains k ≡ Some name → IsName name
domain_is_named n config sound passed k name at =
    let clock = clock_of_domain n config passed k name at in
    let found = found_first n (find_net n name) clock.0 clock.1 in
    sound.named.nets found.0.0 name (name_at n name found.0.0 found.1)
