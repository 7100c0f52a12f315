-- Checks one after another: the first that fails.
use Rattle.std.proofs.Common.{◌≡◌, ℕ, ◌+◌, ◌<◌, List, [], ◌∷◌, length, get_or, drop, Option, None, sym, ◌∙◌, ap, subst, Some, refl}
use Rattle.std.proofs.lemmas.List.{at_drop_more}
use Rattle.std.proofs.lemmas.Option.{none-some}
use Rattle.dft_cells.specs.declared.cell.Cell.{Cell}
use Rattle.dft_netlist.specs.declared.instance.Instance.{Instance}
use Rattle.dft_rules.specs.declared.error.RuleError.{RuleError}
use Rattle.dft_rules.specs.declared.error.RuleError.TheVariants.{ClockAsData, ScanCellPresent, TooFewCells, UnknownName, LockupPresent, PortName, Memory}
use Rattle.dft_netlist.specs.Netlist.{Netlist}
use Rattle.dft_config.specs.Config.{Config}
use Rattle.dft_rules.specs.Refusals.{first_failing, first_present, present, clock_as_data, quoted_port, too_few, unknown_cell, unknown_port, refusal, IsRefusal}
use Rattle.dft_rules.specs.Rules.{judgements}

pub passes : (check : Option RuleError) (checks : List (Option RuleError)) → check ≡ None → first_failing (check ∷ checks) ≡ first_failing checks
passes check checks e = ap (λ (o : Option RuleError). first_failing (o ∷ checks)) e

pub refused : (check : Option RuleError) (checks : List (Option RuleError)) (error : RuleError) → IsRefusal check error → IsRefusal (first_failing (check ∷ checks)) error
refused check checks (ClockAsData net) h = ap (λ (o : Option RuleError). first_failing (o ∷ checks)) h
refused check checks (ScanCellPresent instance) h = ap (λ (o : Option RuleError). first_failing (o ∷ checks)) h
refused check checks (TooFewCells found wanted) h = ap (λ (o : Option RuleError). first_failing (o ∷ checks)) h
refused check checks (UnknownName name) h = ap (λ (o : Option RuleError). first_failing (o ∷ checks)) h
refused check checks (LockupPresent instance) h = ap (λ (o : Option RuleError). first_failing (o ∷ checks)) h
refused check checks (PortName name) h = ap (λ (o : Option RuleError). first_failing (o ∷ checks)) h
refused check checks (Memory e) h = tt

-- a refusal of the same check
pub same_refusal : (a b : Option RuleError) (error : RuleError) → a ≡ b → IsRefusal b error → IsRefusal a error
same_refusal a b error e h = let P : Option RuleError → Type 0 = λ o. IsRefusal o error in subst P (sym e) h

-- ---- instances, one after another

pub present_on : (cells : List Cell) (instances : List Instance) (k : ℕ) (d : Instance) → k < length instances → present cells (get_or instances k d) ≡ None →
    first_present cells (drop k instances) ≡ first_present cells (drop (k + 1) instances)
present_on cells instances k d less e = at_drop_more (first_present cells) instances k d less ∙ passes (present cells (get_or instances k d)) _ e

pub present_here : (cells : List Cell) (instances : List Instance) (k : ℕ) (d : Instance) (error : RuleError) → k < length instances → IsRefusal (present cells (get_or instances k d)) error →
    IsRefusal (first_present cells (drop k instances)) error
present_here cells instances k d error less h = same_refusal _ _ error (at_drop_more (first_present cells) instances k d less) (refused (present cells (get_or instances k d)) _ error h)

-- ---- the checks of a judgement, in their order

abbrev pub from_count : Netlist → Config → List (Option RuleError)
from_count n config = too_few (judgements n config) config.chains ∷ []

abbrev pub from_ports : Netlist → Config → List (Option RuleError)
from_ports n config = quoted_port n.ports ∷ from_count n config

abbrev pub from_clocks : Netlist → Config → List (Option RuleError)
from_clocks n config = clock_as_data n config.domains ∷ from_ports n config

abbrev pub from_present : Netlist → Config → List (Option RuleError)
from_present n config = first_present n.library n.instances ∷ from_clocks n config

abbrev pub from_keep : Netlist → Config → List (Option RuleError)
from_keep n config = unknown_cell n config.keep ∷ from_present n config

abbrev pub from_resets : Netlist → Config → List (Option RuleError)
from_resets n config = unknown_port n config.resets ∷ from_keep n config

-- the checks before some of them pass, or all do
abbrev pub Begins : Netlist → Config → List (Option RuleError) → Type 0
Begins n config rest = refusal n config ≡ first_failing rest

pub at_resets : (n : Netlist) (config : Config) → unknown_port n config.domains ≡ None → Begins n config (from_resets n config)
unfolding refusal
at_resets n config e = passes (unknown_port n config.domains) (from_resets n config) e

pub at_keep : (n : Netlist) (config : Config) → Begins n config (from_resets n config) → unknown_port n config.resets ≡ None → Begins n config (from_keep n config)
at_keep n config b e = b ∙ passes (unknown_port n config.resets) (from_keep n config) e

pub at_present : (n : Netlist) (config : Config) → Begins n config (from_keep n config) → unknown_cell n config.keep ≡ None → Begins n config (from_present n config)
at_present n config b e = b ∙ passes (unknown_cell n config.keep) (from_present n config) e

pub at_clocks : (n : Netlist) (config : Config) → Begins n config (from_present n config) → first_present n.library n.instances ≡ None → Begins n config (from_clocks n config)
at_clocks n config b e = b ∙ passes (first_present n.library n.instances) (from_clocks n config) e

pub at_ports : (n : Netlist) (config : Config) → Begins n config (from_clocks n config) → clock_as_data n config.domains ≡ None → Begins n config (from_ports n config)
at_ports n config b e = b ∙ passes (clock_as_data n config.domains) (from_ports n config) e

pub at_count : (n : Netlist) (config : Config) → Begins n config (from_ports n config) → quoted_port n.ports ≡ None → Begins n config (from_count n config)
at_count n config b e = b ∙ passes (quoted_port n.ports) (from_count n config) e

pub at_end : (n : Netlist) (config : Config) → Begins n config (from_count n config) → too_few (judgements n config) config.chains ≡ None → refusal n config ≡ None
at_end n config b e = b ∙ passes (too_few (judgements n config) config.chains) [] e

-- a refusal of the first check, or of a later one
pub refused_first : (n : Netlist) (config : Config) (error : RuleError) → IsRefusal (unknown_port n config.domains) error → IsRefusal (refusal n config) error
unfolding refusal
refused_first n config error h = refused (unknown_port n config.domains) (from_resets n config) error h

pub refused_by : (n : Netlist) (config : Config) (check : Option RuleError) (rest : List (Option RuleError)) (error : RuleError) → Begins n config (check ∷ rest) → IsRefusal check error → IsRefusal (refusal n config) error
refused_by n config check rest error b h = same_refusal (refusal n config) (first_failing (check ∷ rest)) error b (refused check rest error h)

pub none_first : (check : Option RuleError) (checks : List (Option RuleError)) → first_failing (check ∷ checks) ≡ None → (check ≡ None) × (first_failing checks ≡ None)
none_first None checks e = (refl, e)
none_first (Some error) checks e = absurd (none-some error (sym e))

pub none_present : (n : Netlist) (config : Config) → refusal n config ≡ None → first_present n.library n.instances ≡ None
unfolding refusal
none_present n config e =
    let resets = (none_first (unknown_port n config.domains) (from_resets n config) e).1 in
    let keep = (none_first (unknown_port n config.resets) (from_keep n config) resets).1 in
    let there = (none_first (unknown_cell n config.keep) (from_present n config) keep).1 in
    (none_first (first_present n.library n.instances) (from_clocks n config) there).0
