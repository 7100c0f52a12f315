-- In a ready design each domain has a clock.
use Rattle.std.proofs.Common.{ℕ, suc, ◌<◌, ◌≡◌, List, [], ◌∷◌, length, Option, None, Some, slice_get, option_and_then, refl, ap, ◌∙◌}
use Rattle.std.specs.Prelude.{get_or}
use Rattle.std.specs.List.{AllByRecursion}
use Rattle.std.proofs.lemmas.Option.{slice_get-get_or}
use Rattle.dft_base.specs.Lexing.{Text}
use Rattle.dft_netlist.specs.Connections.{input_net}
use Rattle.dft_netlist.specs.Netlist.{Netlist}
use Rattle.dft_config.specs.Config.{Config}
use Rattle.dft_expect.specs.Captures.{captured_domains}
use Rattle.dft_rules.specs.Refusals.{refusal}
use Rattle.dft_rules.proofs.Passed.{clock_of_domain}
use Rattle.dft_pattern_behavior.specs.Given.{HasClock}
use Rattle.dft_compile_laws.specs.Standing.{Captures, PatternsStand}

clock_there : (n : Netlist) (config : Config) (domain : ℕ) → refusal n config ≡ None → domain < length config.domains → HasClock n config domain
clock_there n config domain passed less =
    let name : Text = get_or config.domains domain [] in
    let at : slice_get config.domains domain ≡ Some name = slice_get-get_or config.domains domain [] less in
    let clock = clock_of_domain n config passed domain name at in
    record { clock = clock.0; is = ap (λ (o : Option Text). option_and_then (input_net n) o) at ∙ clock.1 }

clocks_there : (n : Netlist) (config : Config) (domains : List ℕ) → refusal n config ≡ None → AllByRecursion (λ domain. domain < length config.domains) domains → AllByRecursion (HasClock n config) domains
clocks_there n config [] passed all = tt
clocks_there n config (domain ∷ domains) passed all = (clock_there n config domain passed all.0, clocks_there n config domains passed all.1)

pub patterns_stand : PatternsStand
patterns_stand n config [] ready each = tt
patterns_stand n config (p ∷ ps) ready each =
    let its : Captures n config p = each 0 p refl in (
      record { captured = its.captured; masked = its.masks; clocked = clocks_there n config (captured_domains p.merged) ready.passed its.domains },
      patterns_stand n config ps ready (λ number q at. each (suc number) q at),
    )
