-- Errors of a plan and of an insertion, and what the test of load equations tells.
use Rattle.std.proofs.Common.{◌≡◌, ℕ, ◌*◌, ◌<◌, ◌≤◌, Bool, true, false, List, [], ◌∷◌, length, Option, None, Some, option_map, refl, sym, ◌∙◌, ap, subst}
use Rattle.std.proofs.lemmas.List.FromFn.{length-map-range_with_len}
use Rattle.dft_base.specs.Lexing.{Text}
use Rattle.dft_netlist.specs.Netlist.{Netlist}
use Rattle.dft_config.specs.Config.{Config}
use Rattle.dft_config.specs.declared.config.RingConfig.{RingConfig}
use Rattle.dft_config.specs.Loads.{load_equation}
use Rattle.dft_equations.specs.LoadRows.{AreLoadEquations, AreWide, LoadRows}
use Rattle.dft_rules.specs.Refusals as rules
use Rattle.dft_rules.specs.declared.error.RuleError.{RuleError}
use Rattle.dft_rules.specs.declared.error.RuleError.TheVariants as rule
use Rattle.dft_scan_frame.specs.Refusals as frame
use Rattle.dft_scan_frame.specs.declared.error.InsertError.{InsertError}
use Rattle.dft_scan_frame.specs.declared.error.InsertError.TheVariants as scan
use Rattle.dft_stitch.specs.Planning as planning
use Rattle.dft_stitch.specs.declared.error.StitchError.{StitchError}
use Rattle.dft_stitch.specs.declared.planned.PrepareError.{PrepareError}
use Rattle.dft_stitch.specs.declared.planned.PrepareError.TheVariants.{Rules, Stitch, Memory}
use Rattle.dft_configure.specs.Good.{HaveLengths, TestedAreGood, is_good}
use Rattle.dft_configuring.specs.declared.error.ConfigureError.{ConfigureError}
use Rattle.dft_configuring.specs.declared.error.ConfigureError.TheVariants as errors
use Rattle.dft_configuring.specs.Causes.{IsCheck, IsInsertion, IsLimit, IsLong}
use Rattle.dft_configuring.specs.Long.{long_text, or_else}
use Rattle.dft_configuring.specs.Searching.{AreRows}
use Rattle.dft_configuring.specs.Steps.{IsGoodWhere}
use Rattle.dft_configuring.specs.Told.{of_insertion, of_planning, of_rules}
use Rattle.dft_configuring.proofs.CheckLemmas.{text_long, text_short}

-- ---- errors

pub rule_refused : (refused : Option RuleError) (error : RuleError) → rules.IsRefusal refused error → IsCheck (option_map errors.Rules refused) (of_rules error)
rule_refused refused (rule.ClockAsData net) is = ap (option_map errors.Rules) is
rule_refused refused (rule.ScanCellPresent instance) is = ap (option_map errors.Rules) is
rule_refused refused (rule.TooFewCells found wanted) is = ap (option_map errors.Rules) is
rule_refused refused (rule.UnknownName name) is = ap (option_map errors.Rules) is
rule_refused refused (rule.LockupPresent instance) is = ap (option_map errors.Rules) is
rule_refused refused (rule.PortName name) is = ap (option_map errors.Rules) is
rule_refused refused (rule.Memory error) is = tt

abbrev stitch_in : Option PrepareError → Option StitchError
stitch_in (Some (Stitch error)) = Some error
stitch_in _ = None

pub only_stitch : (r : Option RuleError) (l : Option StitchError) (e : PrepareError) → r ≡ None → planning.IsRefusal (planning.first_failing (option_map Rules r ∷ option_map Stitch l ∷ [])) e → IsLimit (λ error. option_map errors.Stitch l ≡ Some error) (of_planning e)
only_stitch (Some r) l e none is = absurd cc
only_stitch None None (Rules error) none is = absurd cc
only_stitch None (Some s) (Rules error) none is = absurd cc
only_stitch None None (Stitch error) none is = absurd cc
only_stitch None (Some s) (Stitch error) none is = ap (λ (o : Option PrepareError). option_map errors.Stitch (stitch_in o)) is
only_stitch None l (Memory error) none is = tt

pub none_planned : (x : Option InsertError) (r : Option RuleError) (l : Option StitchError) (e : PrepareError) → r ≡ None → l ≡ None → planning.IsRefusal (planning.first_failing (option_map Rules r ∷ option_map Stitch l ∷ [])) e → IsInsertion x (of_planning e)
none_planned x (Some r) l e none fits is = absurd cc
none_planned x None (Some s) e none fits is = absurd cc
none_planned x None None (Rules error) none fits is = absurd cc
none_planned x None None (Stitch error) none fits is = absurd cc
none_planned x None None (Memory error) none fits is = tt

pub insertion_error : (refused : Option InsertError) (error : InsertError) → frame.IsRefusal refused error → IsInsertion refused (of_insertion error)
insertion_error refused (scan.NameClash name) is = is
insertion_error refused (scan.TooMany what limit) is = is
insertion_error refused (scan.Memory error) is = tt

pub limit_map : (P Q : ConfigureError → Type 0) → ((error : ConfigureError) → P error → Q error) → (e : ConfigureError) → IsLimit P e → IsLimit Q e
limit_map P Q f errors.NoClock is = is
limit_map P Q f (errors.TooMany what most) is = is
limit_map P Q f (errors.Rules error) is = is
limit_map P Q f errors.NoRing is = is
limit_map P Q f (errors.LongText bytes) is = f (errors.LongText bytes) is
limit_map P Q f (errors.Stitch error) is = f (errors.Stitch error) is
limit_map P Q f (errors.Insert error) is = is
limit_map P Q f (errors.Memory error) is = is

-- what is tried is no longer than a configuration file may be, and its plan passes no limit
pub tried_fits : (a : Option ConfigureError) (limit : Option StitchError) → or_else a (option_map errors.Stitch limit) ≡ None → limit ≡ None
tried_fits None None none = refl
tried_fits None (Some error) none = absurd cc
tried_fits (Some error) limit none = absurd cc

pub tried_none : (text : Text) (limit : Option StitchError) → length text ≤ 67108864 → limit ≡ None → or_else (long_text text) (option_map errors.Stitch limit) ≡ None
tried_none text limit short fits = let first = text_short text short in λ i. or_else (first i) (option_map errors.Stitch (fits i))

pub tried_long : (text : Text) (limit : Option StitchError) (e : ConfigureError) → IsLong text e → IsLimit (λ error. or_else (long_text text) (option_map errors.Stitch limit) ≡ Some error) e
tried_long text limit errors.NoClock is = is
tried_long text limit (errors.TooMany what most) is = is
tried_long text limit (errors.Rules error) is = is
tried_long text limit errors.NoRing is = is
tried_long text limit (errors.LongText bytes) is = ap (λ (o : Option ConfigureError). or_else o (option_map errors.Stitch limit)) (text_long text bytes is.0 is.1)
tried_long text limit (errors.Stitch error) is = absurd is
tried_long text limit (errors.Insert error) is = is
tried_long text limit (errors.Memory error) is = is

pub tried_limit : (text : Text) (limit : Option StitchError) (e : ConfigureError) → length text ≤ 67108864 → IsLimit (λ error. option_map errors.Stitch limit ≡ Some error) e → IsLimit (λ error. or_else (long_text text) (option_map errors.Stitch limit) ≡ Some error) e
tried_limit text limit e short is = subst (λ (o : Option ConfigureError). IsLimit (λ error. or_else o (option_map errors.Stitch limit) ≡ Some error) e) (sym (text_short text short)) is

-- ---- load equations

pub have_lengths : (ring : RingConfig) (lengths : List ℕ) (late : ℕ → Bool) (cycles : ℕ) (rows : LoadRows) → AreLoadEquations ring lengths late cycles rows → HaveLengths rows lengths
have_lengths ring lengths late cycles rows are = record { chains = are.chains; cells = λ chain less. (are.each chain less).count }

pub rows_wide : (ring : RingConfig) (lengths : List ℕ) (late : ℕ → Bool) (cycles : ℕ) (rows : LoadRows) → AreLoadEquations ring lengths late cycles rows → AreWide rows.columns rows.chains
rows_wide ring lengths late cycles rows are chain place in_chain in_place =
    let less : chain < length lengths = rw are.chains at in_chain in
    let row = are.each chain less in
    ap length (row.each place (rw row.count at in_place)) ∙ length-map-range_with_len (load_equation ring cycles (late chain) chain place) 0 (cycles * ring.channels) ∙ sym are.columns

pub good_where : (n : Netlist) (config : Config) (rows : LoadRows) (good : Bool) → TestedAreGood → AreRows n config rows → AreWide rows.columns rows.chains → good ≡ is_good rows → IsGoodWhere n config good
good_where n config rows true tested are wide is = record { rows = rows; are = are; good = (tested rows wide).0 (sym is) }
good_where n config rows false tested are wide is = record { rows = rows; are = are; bad = λ good. let never : true ≡ false = sym ((tested rows wide).1 good) ∙ sym is in absurd cc }
