-- The modules of a text, one after another, and why a text of several is refused.
use Rattle.std.proofs.Common.{◌≡◌, ℕ, suc, Bool, true, false, cond, List, [], ◌∷◌, ◌++◌, Result, Ok, Err, IsErrAnd, alloc_error, refl, sym, ap, subst, ◌∙◌}
use Rattle.dft_base.specs.Lexing.{Text, place_of}
use Rattle.dft_base.specs.Parser as parser
use Rattle.dft_base.specs.Parser.{and_then}
use Rattle.dft_base.specs.declared.place.Place.{Place}
use Rattle.dft_cells.specs.declared.cell.Cell.{Cell}
use Rattle.dft_netlist_text.specs.declared.text.Cause.{Cause}
use Rattle.dft_netlist_text.specs.declared.text.Cause.TheVariants as cause
use Rattle.dft_netlist_text.specs.declared.text.Fault.{Fault}
use Rattle.dft_netlist_text.specs.declared.text.TokenKind.TheVariants as kind
use Rattle.dft_netlist_text.specs.Lexemes.{Token}
use Rattle.dft_netlist_text.specs.Steps.{sees}
use Rattle.dft_modules.specs.declared.fault.ModulesFault.{ModulesFault}
use Rattle.dft_modules.specs.declared.fault.ModulesFault.TheVariants as fault
use Rattle.dft_modules.specs.Modules.{Module}
use Rattle.dft_modules.specs.SubInstances.{Said}
use Rattle.dft_modules.specs.ModuleTexts.{module_said, name_ahead, next_module, and_more, modules_from, modules_of}
use Rattle.dft_verilog.specs.Refusals as one
use Rattle.dft_lexing.specs.Reading.{Reads, Checks, Faults}
use Rattle.dft_verilog_tokens.specs.Reading.{ReadError}
use Rattle.dft_verilog_module.specs.SaidModules.{in_module_error}
use Rattle.dft_lexing.specs.declared.read_error.ReadError as reading
use Rattle.dft_lexing.specs.declared.read_error.ReadError.TheVariants as errors
use Rattle.dft_verilog.specs.ModuleRefusals.{told_of, told_of_error, IsFirstOfModules, IsModulesRefused}
use Rattle.dft_verilog.specs.declared.error.ModulesError.TheVariants as told

-- what comes of a text's tokens
abbrev Outcome : Type 0
Outcome = parser.Outcome Token ModulesFault (List Module)

-- ---- one module more

-- the module that was read stands behind those before it
one_behind : (n : ℕ) (text : Text) (library : List Cell) (names : List Text) (before all : List Module) (m : Said) (made : Module) (ts us : List Token) → next_module library names ts ≡ Ok (m, us)
    → made ≡ module_said text m → all ≡ before ++ made ∷ [] → modules_from (suc n) text library names before ts ≡ and_more all (modules_from n text library (names ++ name_ahead ts ∷ []) all) us
unfolding modules_from
one_behind n text library names before all m made ts us read is pushed =
    let rest : List Module → Outcome = λ ms. and_more ms (modules_from n text library (names ++ name_ahead ts ∷ []) ms) us in
    let same : before ++ module_said text m ∷ [] ≡ all = ap (λ (x : Module). before ++ x ∷ []) (sym is) ∙ sym pushed in
    ap (λ o. and_then o (λ (x : Said) vs. and_more (before ++ module_said text x ∷ []) (modules_from n text library (names ++ name_ahead ts ∷ []) (before ++ module_said text x ∷ [])) vs)) read
    ∙ ap rest same

-- where the text ends behind it, the modules are these
pub modules_end : (n : ℕ) (text : Text) (library : List Cell) (names : List Text) (before all : List Module) (m : Said) (made : Module) (ts us : List Token) → next_module library names ts ≡ Ok (m, us)
    → made ≡ module_said text m → all ≡ before ++ made ∷ [] → sees kind.End us ≡ true → modules_from (suc n) text library names before ts ≡ Ok (all, us)
modules_end n text library names before all m made ts us read is pushed end =
    one_behind n text library names before all m made ts us read is pushed
    ∙ ap (λ (b : Bool). cond b (Ok (all, us)) (modules_from n text library (names ++ name_ahead ts ∷ []) all us)) end

-- else there are more
pub modules_more : (n : ℕ) (text : Text) (library : List Cell) (names words : List Text) (before all : List Module) (m : Said) (made : Module) (ts us : List Token) → next_module library names ts ≡ Ok (m, us)
    → made ≡ module_said text m → all ≡ before ++ made ∷ [] → words ≡ names ++ name_ahead ts ∷ [] → sees kind.End us ≡ false → modules_from (suc n) text library names before ts ≡ modules_from n text library words all us
modules_more n text library names words before all m made ts us read is pushed named goes =
    one_behind n text library names before all m made ts us read is pushed
    ∙ ap (λ (b : Bool). cond b (Ok (all, us)) (modules_from n text library (names ++ name_ahead ts ∷ []) all us)) goes
    ∙ ap (λ ws. modules_from n text library ws all us) (sym named)

-- nothing is said where memory runs out
pub reads_none : {X : Type 0} (view : X → List Module) (o : Outcome) (r : Result X (reading.ReadError ModulesFault)) (ts : List Token) → IsErrAnd r (λ e. e ≡ errors.Memory alloc_error) → Reads view o r ts
reads_none view o (Ok x) ts h = absurd h
reads_none view o (Err e) ts h = subst (λ (f : reading.ReadError ModulesFault). Reads view o (Err f) ts) (sym h) tt

-- a fault of a module, told of a text of several
pub refused_in : (f : Fault) (e : ReadError) → Faults f e → Faults (fault.Module f) (in_module_error e)
refused_in f (errors.Fault g) h = ap (λ (x : Fault). fault.Module x) h
refused_in f (errors.Memory e) h = tt

-- ---- the whole text

by_cause : (library : List Cell) (text : Text) (why : Cause) (at : Place) → IsFirstOfModules library text (told.Module (one.told_of why at)) → IsModulesRefused library text (told.Module (one.told_of why at))
by_cause library text cause.Byte at h = h
by_cause library text cause.Token at h = h
by_cause library text (cause.Unsupported word) at h = h
by_cause library text (cause.NoPin word) at h = h
by_cause library text cause.Misfit at h = h
by_cause library text cause.Inout at h = h
by_cause library text cause.Ended at h = h
by_cause library text cause.TooLarge at h = h
by_cause library text (cause.Undeclared word) at h = h
by_cause library text (cause.JoinedTwice word) at h = h
by_cause library text (cause.Taken word) at h = h
by_cause library text (cause.Full what) at h = h

first_told : (library : List Cell) (text : Text) (f : ModulesFault) → modules_of library text ≡ Err f → IsModulesRefused library text (told_of text f)
first_told library text (fault.Module f) first = by_cause library text f.cause (place_of text f.left) (record { fault = fault.Module f; first = first; told = refl })
first_told library text (fault.Repeated name) first = record { fault = fault.Repeated name; first = first; told = refl }

-- the first fault is told
pub modules_refused : {X : Type 0} (view : X → List Module) (library : List Cell) (text : Text) (error : reading.ReadError ModulesFault) → Checks view (modules_of library text) (Err error) → IsModulesRefused library text (told_of_error text error)
modules_refused view library text (errors.Fault f) h = first_told library text f h
modules_refused view library text (errors.Memory e) h = tt
