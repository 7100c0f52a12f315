-- A file gives one value or one refusal at most.
use Rattle.std.proofs.Common.{ℕ, ◌≡◌, ◌⊎◌, inl, inr, List, length, codes, refl, sym, ap, ◌∙◌, arith, Option, None, Some, Result, Ok, Err, subst}
use Rattle.dft_config_out_laws.proofs.TextRead.{config_one, table_one}
use Rattle.dft_files.specs.Outside.{Held, file_at}
use Rattle.dft_library_text.specs.Data.{Members}
use Rattle.dft_library_text.specs.Text.{IsTable, IsNoTable}
use Rattle.dft_cells.specs.declared.cell.Cell.{Cell}
use Rattle.dft_library_text.specs.declared.refusal.LibraryError.{LibraryError}
use Rattle.dft_library_text.specs.declared.refusal.LibraryError.TheVariants as library
use Rattle.dft_library_text.specs.Reading.{library_of, IsLibraryOf, FirstFails, IsRefusedAs}
use Rattle.dft_config.specs.Config.{Config}
use Rattle.dft_config_text.specs.declared.error.ConfigError.{ConfigError}
use Rattle.dft_config_text.specs.declared.error.ConfigError.TheVariants as config
use Rattle.dft_config_text.specs.Reading.{reading}
use Rattle.dft_config_text.specs.Refusals.{IsConfig, TellsFault, told}
use Rattle.dft_config_text.specs.Refusals as refusals
use Rattle.dft_netlist.specs.declared.error.NetlistError.TheVariants as netlist
use Rattle.dft_netlist.specs.Netlist.{Netlist}
use Rattle.dft_verilog.specs.declared.error.VerilogError.TheVariants as verilog
use Rattle.dft_verilog.specs.declared.error.ModulesError.TheVariants as modules
use Rattle.dft_hier.specs.declared.error.HierError.TheVariants as hier
use Rattle.dft_hier.specs.Laws.{Gives}
use Rattle.dft_hier.proofs.OneDesign.{gives_one}
use Rattle.dft_netlist_reader.specs.declared.error.DesignError.{DesignError}
use Rattle.dft_netlist_reader.specs.declared.error.DesignError.TheVariants as design
use Rattle.dft_netlist_reader.specs.Refusals.{IsReason}
use Rattle.dft_netlist_reader.proofs.Refused.{refusals_one, design_or_refusal}
use Rattle.dft_stil_text.specs.declared.error.StilError.{StilError}
use Rattle.dft_stil_text.specs.declared.error.StilError.TheVariants as stil
use Rattle.dft_patterns.specs.Patterns.{Patterns}
use Rattle.dft_cubes.specs.declared.cube.Cube.{Cube}
use Rattle.dft_cubes.specs.declared.error.CubeError.{CubeError}
use Rattle.dft_cubes.specs.declared.error.CubeError.TheVariants as cube
use Rattle.dft_cubes.specs.Cubes as cubes
use Rattle.dft_compile.specs.declared.error.CompileError.{CompileError}
use Rattle.dft_stitch.specs.Planning.{Planned}
use Rattle.dft_compile.specs.Prepared.{IsPrepared}
use Rattle.dft_compile.specs.Refusals.{first_refusal as prepared_refusal}
use Rattle.dft_stil_text.specs.PatternText.{patterns_in}
use Rattle.dft_stil_text.specs.PatternText as PatternText
use Rattle.dft_stil_text.proofs.LimitLemmas.{kept_within, one_set}
use Rattle.dft_stil.specs.Refusals as StilRefusals
use Rattle.dft_stil.specs.Refusals.{IsFirstRefusal}
use Rattle.dft_stil_text.specs.declared.limits.TheConstants.{MAX_VECTORS}
use Rattle.dft_stitch.specs.Plans.{Plan}
use Rattle.dft_report.specs.declared.report.Report.{Report}
use Rattle.dft_report_reader.specs.declared.error.ReadError.{ReadError}
use Rattle.dft_report_reader.specs.declared.error.ReadError.TheVariants as read
use Rattle.dft_report_reader.specs.Reading.{report_of}
use Rattle.dft_report_reader.specs.Reading as reports
use Rattle.dft_answers.specs.declared.answer.Refusal.{Refusal}
use Rattle.dft_answers.specs.declared.outcome.Outcome.{Outcome}
use Rattle.dft_answers.specs.declared.outcome.Outcome.TheVariants.{Refused}
use Rattle.dft_top.specs.declared.limits.TheConstants.{MAX_LIBRARY_BYTES}
use Rattle.dft_answers.specs.Refusals.{compile_refusal, config_refusal, cube_refusal, design_refusal, library_refusal, read_refusal, stil_refusal}
use Rattle.dft_answers.specs.Texts.{FileGives}
use Rattle.dft_top.specs.Checks.{ArePatternsOf, ConfigText, CubeText, DesignGives, IsPlanned, LibraryGives, LibraryText, NetlistText, PatternText, PlanGives, ReportText, plan_refusal}
use Rattle.dft_top.specs.Courses.{Then}

pub err_same : {A E : Type 0} (r : Result A E) (a b : E) → r ≡ Err a → r ≡ Err b → a ≡ b
err_same r a b p q = let e = sym p ∙ q in cc

-- what one error is told as
told_one : (r s : Option Refusal) (a b : Refusal) → r ≡ s → r ≡ Some a → s ≡ Some b → a ≡ b
told_one r s a b same x y = let e : Some a ≡ Some b = sym x ∙ same ∙ y in cc

-- ---- one file, and what comes behind it

pub file_one : {A : Type 0} (limit : ℕ) (option : List ℕ) (text_gives : List ℕ → Result A Refusal → Type 0) → ((text : List ℕ) (r s : Result A Refusal) → text_gives text r → text_gives text s → r ≡ s) →
    (file : Option (List ℕ)) (r s : Result A Refusal) → FileGives limit option text_gives file r → FileGives limit option text_gives file s → r ≡ s
file_one limit option text_gives one None r s x y = absurd x
file_one limit option text_gives one (Some text) (Ok a) (Ok b) x y = one text (Ok a) (Ok b) x.1 y.1
file_one limit option text_gives one (Some text) (Ok a) (Err b) x (inl y) = absurd (omega (arith, x.0, y.0))
file_one limit option text_gives one (Some text) (Ok a) (Err b) x (inr y) = one text (Ok a) (Err b) x.1 y.1
file_one limit option text_gives one (Some text) (Err a) (Ok b) (inl x) y = absurd (omega (arith, x.0, y.0))
file_one limit option text_gives one (Some text) (Err a) (Ok b) (inr x) y = one text (Err a) (Ok b) x.1 y.1
file_one limit option text_gives one (Some text) (Err a) (Err b) (inl x) (inl y) = ap Err (x.1 ∙ sym y.1)
file_one limit option text_gives one (Some text) (Err a) (Err b) (inl x) (inr y) = absurd (omega (arith, x.0, y.0))
file_one limit option text_gives one (Some text) (Err a) (Err b) (inr x) (inl y) = absurd (omega (arith, x.0, y.0))
file_one limit option text_gives one (Some text) (Err a) (Err b) (inr x) (inr y) = one text (Err a) (Err b) x.1 y.1

pub ok_same : {A E : Type 0} (r : Result A E) (a b : A) → r ≡ Ok a → r ≡ Ok b → a ≡ b
ok_same r a b p q = let e = sym p ∙ q in cc

pub then_one : {A : Type 0} (gives : Result A Refusal → Type 0) (next : A → Outcome → Type 0) (a b : Outcome) → ((r s : Result A Refusal) → gives r → gives s → r ≡ s) →
    ((value : A) → gives (Ok value) → next value a → next value b → a ≡ b) → Then gives next a → Then gives next b → a ≡ b
then_one gives next a b one behind (inl x) (inl y) = behind x.0 x.1.0 x.1.1 (subst (λ value. next value b) (ok_same (Ok x.0) y.0 x.0 (one (Ok x.0) (Ok y.0) x.1.0 y.1.0) refl) y.1.1)
then_one gives next a b one behind (inl x) (inr y) = absurd (let e = one (Ok x.0) (Err y.0) x.1.0 y.1.0 in cc)
then_one gives next a b one behind (inr x) (inl y) = absurd (let e = one (Err x.0) (Ok y.0) x.1.0 y.1.0 in cc)
then_one gives next a b one behind (inr x) (inr y) = x.1.1 ∙ (let e = one (Err x.0) (Err y.0) x.1.0 y.1.0 in let f : x.0 ≡ y.0 = cc in ap Refused f) ∙ sym y.1.1

-- where a step gives this value, what comes behind the value gives the outcome
pub given_next : {A : Type 0} (gives : Result A Refusal → Type 0) (next : A → Outcome → Type 0) (o : Outcome) (value : A) → ((r s : Result A Refusal) → gives r → gives s → r ≡ s) → gives (Ok value) → Then gives next o → next value o
given_next gives next o value one given (inl x) = subst (λ value. next value o) (ok_same (Ok value) x.0 value (one (Ok value) (Ok x.0) given x.1.0) refl) x.1.1
given_next gives next o value one given (inr x) = absurd (let e = one (Ok value) (Err x.0) given x.1.0 in cc)

-- a file that gives a value is held, and its text gives the value
pub text_of : {A : Type 0} (limit : ℕ) (option : List ℕ) (text_gives : List ℕ → Result A Refusal → Type 0) (file : Option (List ℕ)) (value : A) → FileGives limit option text_gives file (Ok value) → (text : List ℕ) × text_gives text (Ok value)
text_of limit option text_gives None value x = absurd x
text_of limit option text_gives (Some text) value x = (text, x.1)

-- ---- the library

library_one : (text : List ℕ) (a b : List Cell) → IsLibraryOf text a → IsLibraryOf text b → a ≡ b
library_one text a b x y = let e : Ok a ≡ Ok b = sym x.2 ∙ ap library_of (table_one text x.0 y.0 x.1 y.1) ∙ y.2 in cc

-- a refusal is that of no table, or the first check that fails
abbrev Why : List ℕ → LibraryError → Type 0
Why text error = ((error ≡ library.NotToml) × IsNoTable text) ⊎ FirstFails text error

why : (text : List ℕ) (error : LibraryError) (refusal : Refusal) → IsRefusedAs text error → library_refusal error ≡ Some refusal → Why text error
why text library.NotToml refusal refused is = inl (refl, refused)
why text (library.L1 name) refusal refused is = inr refused
why text (library.L2 name) refusal refused is = inr refused
why text (library.L3 name) refusal refused is = inr refused
why text (library.L4 name) refusal refused is = inr refused
why text (library.L5 name) refusal refused is = inr refused
why text (library.L7 name) refusal refused is = inr refused
why text (library.Memory error) refusal refused is = absurd cc

why_one : (text : List ℕ) (a b : LibraryError) → Why text a → Why text b → a ≡ b
why_one text a b (inl x) (inl y) = x.0 ∙ sym y.0
why_one text a b (inl x) (inr y) = absurd (x.1 y.0 y.1)
why_one text a b (inr x) (inl y) = absurd (y.1 x.0 x.1)
why_one text a b (inr x) (inr y) = err_same (library_of x.0) a b x.2 (ap library_of (table_one text x.0 y.0 x.1 y.1) ∙ y.2)

library_or_refused : (text : List ℕ) (cells : List Cell) (error : LibraryError) → IsLibraryOf text cells → Why text error → ⊥
library_or_refused text cells error x (inl none) = none.1 x.0 x.1
library_or_refused text cells error x (inr fails) = let e : Ok cells ≡ Err error = sym x.2 ∙ ap library_of (table_one text x.0 fails.0 x.1 fails.1) ∙ fails.2 in cc

library_text_one : (text : List ℕ) (r s : Result (List Cell) Refusal) → LibraryText text r → LibraryText text s → r ≡ s
library_text_one text (Ok a) (Ok b) x y = ap Ok (library_one text a b x y)
library_text_one text (Ok cells) (Err refusal) x y = absurd (library_or_refused text cells y.0 x (why text y.0 refusal y.1.0 y.1.1))
library_text_one text (Err refusal) (Ok cells) x y = absurd (library_or_refused text cells x.0 y (why text x.0 refusal x.1.0 x.1.1))
library_text_one text (Err a) (Err b) x y = ap Err (told_one _ _ a b (ap library_refusal (why_one text x.0 y.0 (why text x.0 a x.1.0 x.1.1) (why text y.0 b y.1.0 y.1.1))) x.1.1 y.1.1)

pub library_gives_one : (name : Option (List ℕ)) (held : Held) (r s : Result (List Cell) Refusal) → LibraryGives name held r → LibraryGives name held s → r ≡ s
library_gives_one None held (Ok a) (Ok b) x y = ap Ok (x ∙ sym y)
library_gives_one None held (Ok a) (Err refusal) x y = absurd y
library_gives_one None held (Err refusal) s x y = absurd x
library_gives_one (Some name) held r s x y = file_one MAX_LIBRARY_BYTES (codes "library") LibraryText library_text_one (file_at name held) r s x y

-- ---- the configuration

-- a refusal is that of no table, or tells the first fault
abbrev Tells : List ℕ → ConfigError → Type 0
Tells text error = ((error ≡ config.C1) × IsNoTable text) ⊎ TellsFault text error

tells : (text : List ℕ) (error : ConfigError) (refusal : Refusal) → refusals.IsRefused text error → config_refusal error ≡ Some refusal → Tells text error
tells text config.C1 refusal refused is = inl (refl, refused)
tells text (config.C2 key) refusal refused is = inr refused
tells text (config.C3 key number) refusal refused is = inr refused
tells text (config.C4 key) refusal refused is = inr refused
tells text (config.C5 chain) refusal refused is = inr refused
tells text (config.C6 key) refusal refused is = inr refused
tells text (config.Memory error) refusal refused is = absurd cc

fault_told_one : (text : List ℕ) (a b : ConfigError) → TellsFault text a → TellsFault text b → a ≡ b
fault_told_one text a b x y = x.4 ∙ ap told (err_same (reading x.0) x.1 y.1 x.3 (ap reading (table_one text x.0 y.0 x.2 y.2) ∙ y.3)) ∙ sym y.4

tells_one : (text : List ℕ) (a b : ConfigError) → Tells text a → Tells text b → a ≡ b
tells_one text a b (inl x) (inl y) = x.0 ∙ sym y.0
tells_one text a b (inl x) (inr y) = absurd (x.1 y.0 y.2)
tells_one text a b (inr x) (inl y) = absurd (y.1 x.0 x.2)
tells_one text a b (inr x) (inr y) = fault_told_one text a b x y

config_or_refused : (text : List ℕ) (c : Config) (error : ConfigError) → IsConfig text c → Tells text error → ⊥
config_or_refused text c error x (inl none) = none.1 x.0 x.1
config_or_refused text c error x (inr fails) = let e : Ok c ≡ Err fails.1 = sym x.2 ∙ ap reading (table_one text x.0 fails.0 x.1 fails.2) ∙ fails.3 in cc

-- a text that stands for a configuration is not refused
pub config_refused : (text : List ℕ) (c : Config) (refusal : Refusal) → IsConfig text c → ConfigText text (Err refusal) → ⊥
config_refused text c refusal is x = config_or_refused text c x.0 is (tells text x.0 refusal x.1.0 x.1.1)

pub config_text_one : (text : List ℕ) (r s : Result Config Refusal) → ConfigText text r → ConfigText text s → r ≡ s
config_text_one text (Ok a) (Ok b) x y = ap Ok (config_one text a b x.stands y.stands)
config_text_one text (Ok c) (Err refusal) x y = absurd (config_refused text c refusal x.stands y)
config_text_one text (Err refusal) (Ok c) x y = absurd (config_refused text c refusal y.stands x)
config_text_one text (Err a) (Err b) x y = ap Err (told_one _ _ a b (ap config_refusal (tells_one text x.0 y.0 (tells text x.0 a x.1.0 x.1.1) (tells text y.0 b y.1.0 y.1.1))) x.1.1 y.1.1)

-- ---- the netlist

-- a refusal is no want of memory
is_reason : (error : DesignError) (refusal : Refusal) → design_refusal error ≡ Some refusal → IsReason error
is_reason (design.Text (modules.Module (verilog.V1 place))) refusal is = tt
is_reason (design.Text (modules.Module (verilog.V2 place))) refusal is = tt
is_reason (design.Text (modules.Module (verilog.V3 place word))) refusal is = tt
is_reason (design.Text (modules.Module (verilog.V5 place word))) refusal is = tt
is_reason (design.Text (modules.Module (verilog.V6 place))) refusal is = tt
is_reason (design.Text (modules.Module (verilog.V7 place))) refusal is = tt
is_reason (design.Text (modules.Module (verilog.V9 place))) refusal is = tt
is_reason (design.Text (modules.Module (verilog.V10 place))) refusal is = tt
is_reason (design.Text (modules.Module (verilog.V11 place word))) refusal is = tt
is_reason (design.Text (modules.Module (verilog.V12 place word))) refusal is = tt
is_reason (design.Text (modules.Module (verilog.Netlist error))) refusal is = tt
is_reason (design.Text (modules.Module (verilog.Memory error))) refusal is = absurd cc
is_reason (design.Text (modules.Repeated name)) refusal is = tt
is_reason (design.Modules (hier.H2 name)) refusal is = tt
is_reason (design.Modules (hier.H3 name)) refusal is = tt
is_reason (design.Modules (hier.H4 count)) refusal is = tt
is_reason (design.Modules (hier.H5 place name)) refusal is = tt
is_reason (design.Modules (hier.Netlist (netlist.MultipleDrivers net))) refusal is = tt
is_reason (design.Modules (hier.Netlist (netlist.Loop net))) refusal is = tt
is_reason (design.Modules (hier.Netlist (netlist.DuplicateName name))) refusal is = tt
is_reason (design.Modules (hier.Netlist (netlist.TooMany what limit))) refusal is = tt
is_reason (design.Modules (hier.Netlist (netlist.Memory error))) refusal is = absurd cc
is_reason (design.Modules (hier.Memory error)) refusal is = absurd cc

-- a text that stands for a design is not refused
pub netlist_refused : (cells : List Cell) (text : List ℕ) (n : Netlist) (refusal : Refusal) → Gives cells text n → NetlistText cells text (Err refusal) → ⊥
netlist_refused cells text n refusal stands x = design_or_refusal cells text n x.0 (is_reason x.0 refusal x.1.1) stands x.1.0

pub netlist_text_one : (cells : List Cell) (text : List ℕ) (r s : Result Netlist Refusal) → NetlistText cells text r → NetlistText cells text s → r ≡ s
netlist_text_one cells text (Ok a) (Ok b) x y = ap Ok (gives_one cells text a b x.stands y.stands)
netlist_text_one cells text (Ok n) (Err refusal) x y = absurd (netlist_refused cells text n refusal x.stands y)
netlist_text_one cells text (Err refusal) (Ok n) x y = absurd (netlist_refused cells text n refusal y.stands x)
netlist_text_one cells text (Err a) (Err b) x y =
    ap Err (told_one _ _ a b (ap design_refusal (refusals_one cells text x.0 y.0 (is_reason x.0 a x.1.1) (is_reason y.0 b y.1.1) x.1.0 y.1.0)) x.1.1 y.1.1)

-- ---- the patterns

pub patterns_one : (text : List ℕ) (p q : Patterns) → PatternText.StandsFor text p → PatternText.StandsFor text q → p ≡ q
patterns_one text p q x y = one_set text p q x y

patterns_or_refused : (text : List ℕ) (p : Patterns) (error : StilError) → ArePatternsOf text p → IsFirstRefusal text error → ⊥
patterns_or_refused text p error x y = let e : Ok p ≡ Err y.refusal = sym (kept_within (length p.vectors) MAX_VECTORS text p x.stands x.few) ∙ y.first in cc

stil_one : (text : List ℕ) (a b : StilError) → IsFirstRefusal text a → IsFirstRefusal text b → a ≡ b
stil_one text a b x y = x.told ∙ ap (StilRefusals.told_of text) (err_same (patterns_in MAX_VECTORS text) x.refusal y.refusal x.first y.first) ∙ sym y.told

pub first_refusal : (text : List ℕ) (error : StilError) (refusal : Refusal) → StilRefusals.IsRefused text error → stil_refusal error ≡ Some refusal → IsFirstRefusal text error
first_refusal text (stil.P1 place) refusal refused is = refused
first_refusal text (stil.P2 place name) refusal refused is = refused
first_refusal text (stil.P3 place name) refusal refused is = refused
first_refusal text (stil.P4 place) refusal refused is = refused
first_refusal text (stil.P5 place) refusal refused is = refused
first_refusal text (stil.P6 bytes) refusal refused is = refused
first_refusal text (stil.P8 place) refusal refused is = refused
first_refusal text (stil.P9 place name) refusal refused is = refused
first_refusal text (stil.P10 vector name) refusal refused is = refused
first_refusal text (stil.Memory error) refusal refused is = absurd cc

pub pattern_text_one : (text : List ℕ) (r s : Result Patterns Refusal) → PatternText text r → PatternText text s → r ≡ s
pattern_text_one text (Ok a) (Ok b) x y = ap Ok (patterns_one text a b x.stands y.stands)
pattern_text_one text (Ok p) (Err refusal) x y = absurd (patterns_or_refused text p y.0 x (first_refusal text y.0 refusal y.1.0 y.1.1))
pattern_text_one text (Err refusal) (Ok p) x y = absurd (patterns_or_refused text p x.0 y (first_refusal text x.0 refusal x.1.0 x.1.1))
pattern_text_one text (Err a) (Err b) x y = ap Err (told_one _ _ a b (ap stil_refusal (stil_one text x.0 y.0 (first_refusal text x.0 a x.1.0 x.1.1) (first_refusal text y.0 b y.1.0 y.1.1))) x.1.1 y.1.1)

-- ---- the design of a compilation

prepared_one : (n : Netlist) (c : Config) (p q : Planned) → IsPrepared n c p → IsPrepared n c q → p ≡ q
prepared_one n c p q x y = x ∙ sym y

pub accepted_or_refused : (refused : Option CompileError) (error : CompileError) → refused ≡ None → refused ≡ Some error → ⊥
accepted_or_refused refused error x y = let e : None ≡ Some error = sym x ∙ y in cc

compile_error_one : (refused : Option CompileError) (a b : CompileError) → refused ≡ Some a → refused ≡ Some b → a ≡ b
compile_error_one refused a b x y = let e : Some a ≡ Some b = sym x ∙ y in cc

pub design_gives_one : (n : Netlist) (c : Config) (r s : Result Planned Refusal) → DesignGives n c r → DesignGives n c s → r ≡ s
design_gives_one n c (Ok p) (Ok q) x y = ap Ok (prepared_one n c p q x.is y.is)
design_gives_one n c (Ok p) (Err refusal) x y = absurd (accepted_or_refused (prepared_refusal n c) y.0 x.accepted y.1.0)
design_gives_one n c (Err refusal) (Ok p) x y = absurd (accepted_or_refused (prepared_refusal n c) x.0 y.accepted x.1.0)
design_gives_one n c (Err a) (Err b) x y = ap Err (told_one _ _ a b (ap compile_refusal (compile_error_one (prepared_refusal n c) x.0 y.0 x.1.0 y.1.0)) x.1.1 y.1.1)

-- ---- the cubes

cube_told : (told : Result (List Cube) CubeError) (error : CubeError) (refusal : Refusal) → cubes.IsRefused told error → cube_refusal error ≡ Some refusal → told ≡ Err error
cube_told told (cube.Q1 place) refusal refused is = refused
cube_told told (cube.Q2 place name) refusal refused is = refused
cube_told told (cube.Q3 place name) refusal refused is = refused
cube_told told (cube.Q4 place name) refusal refused is = refused
cube_told told (cube.Q5 place name) refusal refused is = refused
cube_told told (cube.Q6 place name) refusal refused is = refused
cube_told told (cube.Q7 place) refusal refused is = refused
cube_told told (cube.Q8 place name) refusal refused is = refused
cube_told told (cube.Q9 place) refusal refused is = refused
cube_told told (cube.Memory error) refusal refused is = absurd cc

cubes_or_refused : (told : Result (List Cube) CubeError) (given : List Cube) (error : CubeError) → told ≡ Ok given → told ≡ Err error → ⊥
cubes_or_refused told given error x y = let e : Ok given ≡ Err error = sym x ∙ y in cc

-- a text that is read as cubes is not refused
pub cubes_refused : (n : Netlist) (c : Config) (text : List ℕ) (given : List Cube) (refusal : Refusal) → cubes.cubes_of n c text ≡ Ok given → CubeText n c text (Err refusal) → ⊥
cubes_refused n c text given refusal read x = cubes_or_refused (cubes.cubes_of n c text) given x.0 read (cube_told (cubes.cubes_of n c text) x.0 refusal x.1.0 x.1.1)

pub cube_text_one : (n : Netlist) (c : Config) (text : List ℕ) (r s : Result (List Cube) Refusal) → CubeText n c text r → CubeText n c text s → r ≡ s
cube_text_one n c text (Ok a) (Ok b) x y = ap Ok (ok_same (cubes.cubes_of n c text) a b x y)
cube_text_one n c text (Ok given) (Err refusal) x y = absurd (cubes_refused n c text given refusal x y)
cube_text_one n c text (Err refusal) (Ok given) x y = absurd (cubes_refused n c text given refusal y x)
cube_text_one n c text (Err a) (Err b) x y =
    ap Err (told_one _ _ a b (ap cube_refusal (err_same (cubes.cubes_of n c text) x.0 y.0 (cube_told (cubes.cubes_of n c text) x.0 a x.1.0 x.1.1) (cube_told (cubes.cubes_of n c text) y.0 b y.1.0 y.1.1))) x.1.1 y.1.1)

-- ---- the plan of a test of certificates

plan_same : (n : Netlist) (c : Config) (p q : Plan) → IsPlanned n c p → IsPlanned n c q → p ≡ q
plan_same n c p q x y = x.is ∙ sym y.is

pub plan_gives_one : (n : Netlist) (c : Config) (r s : Result Plan Refusal) → PlanGives n c r → PlanGives n c s → r ≡ s
plan_gives_one n c (Ok p) (Ok q) x y = ap Ok (plan_same n c p q x y)
plan_gives_one n c (Ok p) (Err refusal) x y = absurd (accepted_or_refused (plan_refusal n c) y.0 x.accepted y.1.0)
plan_gives_one n c (Err refusal) (Ok p) x y = absurd (accepted_or_refused (plan_refusal n c) x.0 y.accepted x.1.0)
plan_gives_one n c (Err a) (Err b) x y = ap Err (told_one _ _ a b (ap compile_refusal (compile_error_one (plan_refusal n c) x.0 y.0 x.1.0 y.1.0)) x.1.1 y.1.1)

-- ---- the report

report_told : (told : Result Report ReadError) (error : ReadError) (refusal : Refusal) → reports.IsRefused told error → read_refusal error ≡ Some refusal → told ≡ Err error
report_told told (read.K1 place) refusal refused is = refused
report_told told (read.Memory error) refusal refused is = absurd cc

report_or_refused : (told : Result Report ReadError) (report : Report) (error : ReadError) → told ≡ Ok report → told ≡ Err error → ⊥
report_or_refused told report error x y = let e : Ok report ≡ Err error = sym x ∙ y in cc

pub report_text_one : (text : List ℕ) (r s : Result Report Refusal) → ReportText text r → ReportText text s → r ≡ s
report_text_one text (Ok a) (Ok b) x y = ap Ok (ok_same (report_of text) a b x y)
report_text_one text (Ok report) (Err refusal) x y = absurd (report_or_refused (report_of text) report y.0 x (report_told (report_of text) y.0 refusal y.1.0 y.1.1))
report_text_one text (Err refusal) (Ok report) x y = absurd (report_or_refused (report_of text) report x.0 y (report_told (report_of text) x.0 refusal x.1.0 x.1.1))
report_text_one text (Err a) (Err b) x y =
    ap Err (told_one _ _ a b (ap read_refusal (err_same (report_of text) x.0 y.0 (report_told (report_of text) x.0 a x.1.0 x.1.1) (report_told (report_of text) y.0 b y.1.0 y.1.1))) x.1.1 y.1.1)
