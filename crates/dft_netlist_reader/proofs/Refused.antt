-- A netlist text stands for a design or is refused, and is refused for one reason.
use Rattle.std.proofs.Common.{ℕ, zero, suc, ◌<◌, ◌≡◌, ◌≢◌, inl, inr, List, [], ◌∷◌, ◌++◌, length, Option, Some, None, option_map, Ok, Err, slice_get, refl, sym, ap, ◌∙◌, subst, arith}
use Rattle.std.specs.List.{All}
use Rattle.std.proofs.lemmas.Bool.{cases_lt}
use Rattle.std.proofs.lemmas.Option.{slice_get_within, get_or_from_slice_get}
use Rattle.dft_base.specs.Lexing.{Text}
use Rattle.dft_base.specs.declared.place.Place.{Place}
use Rattle.dft_cells.specs.declared.cell.Cell.{Cell}
use Rattle.dft_netlist.specs.declared.error.NetlistError.{NetlistError}
use Rattle.dft_netlist.specs.declared.error.NetlistError.TheVariants as netlist
use Rattle.dft_netlist.specs.Finishing.{CannotFinish}
use Rattle.dft_netlist.specs.Netlist.{Netlist}
use Rattle.dft_modules.specs.declared.connections.Connection.{Connection}
use Rattle.dft_modules.specs.declared.module.SubInstance.{SubInstance}
use Rattle.dft_modules.specs.Modules.{Module}
use Rattle.dft_modules.specs.ModuleTexts.{modules_of}
use Rattle.dft_verilog.specs.declared.error.ModulesError.{ModulesError}
use Rattle.dft_verilog.specs.declared.error.ModulesError.TheVariants as modules
use Rattle.dft_verilog.specs.declared.error.VerilogError.TheVariants as verilog
use Rattle.dft_verilog.specs.ModuleRefusals.{IsFirstOfModules, IsModulesRefused, told_of}
use Rattle.dft_hier.specs.declared.error.HierError.{HierError}
use Rattle.dft_hier.specs.declared.error.HierError.TheVariants as hier
use Rattle.dft_hier.specs.Hierarchy.{all_subs, tops}
use Rattle.dft_hier.specs.Flat.{flat_netlist}
use Rattle.dft_hier.specs.Refusals.{first_unknown, first_misfit, IsBelow, NoneInItself, IsFirstInItself, IsJoinable, IsFlat, IsFlatRefused, Part, Whole, AreTops, IsMisfit, CannotFlatten}
use Rattle.dft_netlist_reader.specs.declared.error.DesignError.TheVariants as told
use Rattle.dft_netlist_reader.specs.Refusals.{HasNoFlat, IsReason}
use Rattle.dft_netlist_reader.specs.Laws.{RefusalsAreOne, DesignOrRefusal}
use Rattle.dft_netlist_reader.proofs.NetlistRefusals.{reason_one, finished_or_refused, IsReason as IsNetlistReason}

-- ---- the reader

-- an error that is no want of memory tells the first fault
first_of : (library : List Cell) (text : Text) (error : ModulesError) → IsReason (told.Text error) → IsModulesRefused library text error → IsFirstOfModules library text error
first_of library text (modules.Module (verilog.V1 place)) reason h = h
first_of library text (modules.Module (verilog.V2 place)) reason h = h
first_of library text (modules.Module (verilog.V3 place word)) reason h = h
first_of library text (modules.Module (verilog.V5 place word)) reason h = h
first_of library text (modules.Module (verilog.V6 place)) reason h = h
first_of library text (modules.Module (verilog.V7 place)) reason h = h
first_of library text (modules.Module (verilog.V9 place)) reason h = h
first_of library text (modules.Module (verilog.V10 place)) reason h = h
first_of library text (modules.Module (verilog.V11 place word)) reason h = h
first_of library text (modules.Module (verilog.V12 place word)) reason h = h
first_of library text (modules.Module (verilog.Netlist error)) reason h = h
first_of library text (modules.Module (verilog.Memory error)) reason h = absurd reason
first_of library text (modules.Repeated name) reason h = h

first_one : (library : List Cell) (text : Text) (a b : ModulesError) → IsFirstOfModules library text a → IsFirstOfModules library text b → a ≡ b
first_one library text a b x y =
    let both : Err x.fault ≡ Err y.fault = sym x.first ∙ y.first in
    let same : x.fault ≡ y.fault = cc in
    x.told ∙ ap (told_of text) same ∙ sym y.told

said_or_refused : (library : List Cell) (text : Text) (ms : List Module) (error : ModulesError) → modules_of library text ≡ Ok ms → IsFirstOfModules library text error → ⊥
said_or_refused library text ms error said x = let e : Ok ms ≡ Err x.fault = sym said ∙ x.first in cc

-- ---- the first module in itself

at_split : (front : List Module) (m : Module) (back : List Module) → slice_get (front ++ m ∷ back) (length front) ≡ Some m
at_split [] m back = refl
at_split (x ∷ front) m back = at_split front m back

in_front : (front : List Module) (m : Module) (back : List Module) (k : ℕ) → k < length front → slice_get (front ++ m ∷ back) k ≡ slice_get front k
in_front [] m back k less = absurd (let f : ⊥ = omega arith in f)
in_front (x ∷ front) m back zero less = refl
in_front (x ∷ front) m back (suc k) less = in_front front m back k (omega arith)

in_all : (P : Module → Type 0) (ms : List Module) (k : ℕ) (m : Module) → All P ms → slice_get ms k ≡ Some m → P m
in_all P ms k m all at = subst P (get_or_from_slice_get ms k m m at) (all k m (slice_get_within ms k m at))

module_one : (m n : Module) → Some m ≡ Some n → m ≡ n
module_one m n e = cc

-- no module in itself stands before the first
not_before : (ms : List Module) (a b : Text) → (x : IsFirstInItself ms a) → (y : IsFirstInItself ms b) → length x.front < length y.front → ⊥
not_before ms a b x y less =
    let at : slice_get ms (length x.front) ≡ Some x.m = ap (λ (l : List Module). slice_get l (length x.front)) x.split ∙ at_split x.front x.m x.back in
    let there : slice_get y.front (length x.front) ≡ Some x.m = sym (in_front y.front y.m y.back (length x.front) less) ∙ sym (ap (λ (l : List Module). slice_get l (length x.front)) y.split) ∙ at in
    in_all (λ (m : Module). IsBelow ms m.name m.name → ⊥) y.front (length x.front) x.m y.first there x.below

first_in_one : (ms : List Module) (a b : Text) → IsFirstInItself ms a → IsFirstInItself ms b → a ≡ b
first_in_one ms a b x y = elim (cases_lt (length x.front) (length y.front)) [
  | inl less ↦ absurd (not_before ms a b x y less)
  | inr le ↦ elim (cases_lt (length y.front) (length x.front)) [
    | inl more ↦ absurd (not_before ms b a y x more)
    | inr ge ↦ (
        let count : length x.front ≡ length y.front = omega (arith, le, ge) in
        let same : x.m ≡ y.m = module_one x.m y.m (sym (at_split x.front x.m x.back) ∙ ap (λ (l : List Module). slice_get l (length x.front)) (sym x.split ∙ y.split) ∙ ap (slice_get (y.front ++ y.m ∷ y.back)) count ∙ at_split y.front y.m y.back) in
        sym x.named ∙ ap (λ (m : Module). m.name) same ∙ y.named)
  ]
]

not_in_itself : (ms : List Module) (name : Text) → NoneInItself ms ms → IsFirstInItself ms name → ⊥
not_in_itself ms name none x =
    in_all (λ (m : Module). IsBelow ms m.name m.name → ⊥) ms (length x.front) x.m none (ap (λ (l : List Module). slice_get l (length x.front)) x.split ∙ at_split x.front x.m x.back) x.below

-- ---- the checks of modules

-- the checks, one after another: which failed first
data Failed (ms : List Module) (library : List Cell) : HierError → Type 0 where
  Unknown : {name : Text} → option_map (λ (s : SubInstance). s.of) (first_unknown ms) ≡ Some name → Failed ms library (hier.H2 name)
  Circle : {name : Text} → first_unknown ms ≡ None → IsFirstInItself ms name → Failed ms library (hier.H3 name)
  Tops : {count : ℕ} → AreTops ms count → Failed ms library (hier.H4 count)
  Misfit : {place : Place} {name : Text} → IsMisfit ms place name → Failed ms library (hier.H5 place name)
  Grows : {why : NetlistError} → IsNetlistReason why → IsFlatRefused ms library why → Failed ms library (hier.Netlist why)

failed : (ms : List Module) (library : List Cell) (error : HierError) → IsReason (told.Modules error) → CannotFlatten ms library error → Failed ms library error
failed ms library (hier.H2 name) reason h = Unknown h
failed ms library (hier.H3 name) reason h = Circle h.0 h.1
failed ms library (hier.H4 count) reason h = Tops h
failed ms library (hier.H5 place name) reason h = Misfit h
failed ms library (hier.Netlist (netlist.MultipleDrivers net)) reason h = Grows tt h
failed ms library (hier.Netlist (netlist.Loop net)) reason h = Grows tt h
failed ms library (hier.Netlist (netlist.DuplicateName name)) reason h = Grows tt h
failed ms library (hier.Netlist (netlist.TooMany what limit)) reason h = Grows tt h
failed ms library (hier.Netlist (netlist.Memory error)) reason h = absurd reason
failed ms library (hier.Memory error) reason h = absurd reason

not_known : (ms : List Module) (name : Text) → first_unknown ms ≡ None → option_map (λ (s : SubInstance). s.of) (first_unknown ms) ≡ Some name → ⊥
not_known ms name none some = let e : option_map (λ (s : SubInstance). s.of) None ≡ Some name = ap (option_map (λ (s : SubInstance). s.of)) (sym none) ∙ some in cc

unknown_one : (o : Option Text) (a b : Text) → o ≡ Some a → o ≡ Some b → a ≡ b
unknown_one o a b x y = let e : Some a ≡ Some b = sym x ∙ y in cc

one_top : (ms : List Module) (x y : Module) → tops ms ≡ x ∷ [] → tops ms ≡ y ∷ [] → x ≡ y
one_top ms x y p q = let e : x ∷ [] ≡ y ∷ [] = sym p ∙ q in cc

not_other : (ms : List Module) (top : Module) (count : ℕ) → tops ms ≡ top ∷ [] → count ≡ length (tops ms) → count ≢ 1 → ⊥
not_other ms top count one is other = other (is ∙ ap (λ (l : List Module). length l) one)

misfit_one : (ms : List Module) (p q : Place) (a b : Text) → (x : IsMisfit ms p a) → (y : IsMisfit ms q b) → hier.H5 p a ≡ hier.H5 q b
misfit_one ms p q a b x y =
    let e : Some x.connection ≡ Some y.connection = sym x.first ∙ y.first in
    let same : x.connection ≡ y.connection = cc in
    let places : p ≡ q = x.at ∙ ap (λ (c : Connection). c.place) same ∙ sym y.at in
    let names : a ≡ b = x.named ∙ ap (λ (c : Connection). c.port) same ∙ sym y.named in
    ap (λ (place : Place). hier.H5 place a) places ∙ ap (hier.H5 q) names

not_misfit : (ms : List Module) (place : Place) (name : Text) → IsMisfit ms place name → first_misfit ms (all_subs ms) ≡ None → ⊥
not_misfit ms place name x none = let e : None ≡ Some x.connection = sym none ∙ x.first in cc

-- the top of a flat netlist that is refused
refused_joinable : (ms : List Module) (library : List Cell) (why : NetlistError) → IsFlatRefused ms library why → (top : Module) × IsJoinable ms top
refused_joinable ms library why (Part {top = top} joinable parts) = (top, joinable)
refused_joinable ms library why (Whole {top = top} joinable parts refused) = (top, joinable)

built_of : (ms : List Module) (library : List Cell) (s t : Module) → IsJoinable ms s → IsJoinable ms t → flat_netlist ms library s ≡ flat_netlist ms library t
built_of ms library s t x y = ap (flat_netlist ms library) (one_top ms s t x.hierarchy.one y.hierarchy.one)

grows_one : (ms : List Module) (library : List Cell) (a b : NetlistError) → IsNetlistReason a → IsNetlistReason b → IsFlatRefused ms library a → IsFlatRefused ms library b → a ≡ b
grows_one ms library a b ra rb (Part {top = s} x p) (Part {top = t} y q) = let e : Err a ≡ Err b = sym p ∙ built_of ms library s t x y ∙ q in cc
grows_one ms library a b ra rb (Part {top = s} x p) (Whole {top = t} {grown = n} y q c) = absurd (let e : Err a ≡ Ok n = sym p ∙ built_of ms library s t x y ∙ q in let f : ⊥ = cc in f)
grows_one ms library a b ra rb (Whole {top = s} {grown = m} x p c) (Part {top = t} y q) = absurd (let e : Ok m ≡ Err b = sym p ∙ built_of ms library s t x y ∙ q in let f : ⊥ = cc in f)
grows_one ms library a b ra rb (Whole {top = s} {grown = m} x p c) (Whole {top = t} {grown = n} y q d) =
    let e : Ok m ≡ Ok n = sym p ∙ built_of ms library s t x y ∙ q in
    let same : m ≡ n = cc in
    reason_one n a b ra rb (subst (λ (l : Netlist). CannotFinish l a) same c) d

-- what has passed all checks before a check has failed none of them
hier_one : (ms : List Module) (library : List Cell) (a b : HierError) → Failed ms library a → Failed ms library b → a ≡ b
hier_one ms library a b (Unknown {name = p} x) (Unknown {name = q} y) = ap hier.H2 (unknown_one (option_map (λ (s : SubInstance). s.of) (first_unknown ms)) p q x y)
hier_one ms library a b (Unknown {name = p} x) (Circle none y) = absurd (not_known ms p none x)
hier_one ms library a b (Unknown {name = p} x) (Tops y) = absurd (not_known ms p y.known x)
hier_one ms library a b (Unknown {name = p} x) (Misfit y) = absurd (not_known ms p y.hierarchy.known x)
hier_one ms library a b (Unknown {name = p} x) (Grows {why = why} r y) = absurd (not_known ms p (refused_joinable ms library why y).1.hierarchy.known x)
hier_one ms library a b (Circle none x) (Unknown {name = q} y) = absurd (not_known ms q none y)
hier_one ms library a b (Circle {name = p} none x) (Circle {name = q} also y) = ap hier.H3 (first_in_one ms p q x y)
hier_one ms library a b (Circle {name = p} none x) (Tops y) = absurd (not_in_itself ms p y.apart x)
hier_one ms library a b (Circle {name = p} none x) (Misfit y) = absurd (not_in_itself ms p y.hierarchy.apart x)
hier_one ms library a b (Circle {name = p} none x) (Grows {why = why} r y) = absurd (not_in_itself ms p (refused_joinable ms library why y).1.hierarchy.apart x)
hier_one ms library a b (Tops x) (Unknown {name = q} y) = absurd (not_known ms q x.known y)
hier_one ms library a b (Tops x) (Circle {name = q} none y) = absurd (not_in_itself ms q x.apart y)
hier_one ms library a b (Tops x) (Tops y) = ap hier.H4 (x.is ∙ sym y.is)
hier_one ms library a b (Tops {count = p} x) (Misfit y) = absurd (not_other ms y.top p y.hierarchy.one x.is x.other)
hier_one ms library a b (Tops {count = p} x) (Grows {why = why} r y) = let j = refused_joinable ms library why y in absurd (not_other ms j.0 p j.1.hierarchy.one x.is x.other)
hier_one ms library a b (Misfit x) (Unknown {name = q} y) = absurd (not_known ms q x.hierarchy.known y)
hier_one ms library a b (Misfit x) (Circle {name = q} none y) = absurd (not_in_itself ms q x.hierarchy.apart y)
hier_one ms library a b (Misfit x) (Tops {count = q} y) = absurd (not_other ms x.top q x.hierarchy.one y.is y.other)
hier_one ms library a b (Misfit {place = p} {name = s} x) (Misfit {place = q} {name = t} y) = misfit_one ms p q s t x y
hier_one ms library a b (Misfit {place = p} {name = s} x) (Grows {why = why} r y) = absurd (not_misfit ms p s x (refused_joinable ms library why y).1.fitting)
hier_one ms library a b (Grows {why = why} r x) (Unknown {name = q} y) = absurd (not_known ms q (refused_joinable ms library why x).1.hierarchy.known y)
hier_one ms library a b (Grows {why = why} r x) (Circle {name = q} none y) = absurd (not_in_itself ms q (refused_joinable ms library why x).1.hierarchy.apart y)
hier_one ms library a b (Grows {why = why} r x) (Tops {count = q} y) = let j = refused_joinable ms library why x in absurd (not_other ms j.0 q j.1.hierarchy.one y.is y.other)
hier_one ms library a b (Grows {why = why} r x) (Misfit {place = q} {name = t} y) = absurd (not_misfit ms q t y (refused_joinable ms library why x).1.fitting)
hier_one ms library a b (Grows {why = v} r x) (Grows {why = w} s y) = ap hier.Netlist (grows_one ms library v w r s x y)

-- a flat design is not refused
grows_not : (ms : List Module) (library : List Cell) (n : Netlist) (why : NetlistError) → IsNetlistReason why → IsFlat ms library n → IsFlatRefused ms library why → ⊥
grows_not ms library n why r x (Part {top = t} y q) = let e : Ok x.grown ≡ Err why = sym x.parts ∙ built_of ms library x.top t x.joinable y ∙ q in cc
grows_not ms library n why r x (Whole {top = t} {grown = m} y q c) =
    let e : Ok m ≡ Ok x.grown = sym q ∙ built_of ms library t x.top y x.joinable ∙ x.parts in
    let same : m ≡ x.grown = cc in
    finished_or_refused x.grown n why r x.finished (subst (λ (l : Netlist). CannotFinish l why) same c)

flat_or_failed : (ms : List Module) (library : List Cell) (n : Netlist) (error : HierError) → IsFlat ms library n → Failed ms library error → ⊥
flat_or_failed ms library n error x (Unknown {name = q} y) = not_known ms q x.joinable.hierarchy.known y
flat_or_failed ms library n error x (Circle {name = q} none y) = not_in_itself ms q x.joinable.hierarchy.apart y
flat_or_failed ms library n error x (Tops {count = q} y) = not_other ms x.top q x.joinable.hierarchy.one y.is y.other
flat_or_failed ms library n error x (Misfit {place = q} {name = t} y) = not_misfit ms q t y x.joinable.fitting
flat_or_failed ms library n error x (Grows {why = why} r y) = grows_not ms library n why r x y

-- ---- texts

said_one : (library : List Cell) (text : Text) (xs ys : List Module) → modules_of library text ≡ Ok xs → modules_of library text ≡ Ok ys → xs ≡ ys
said_one library text xs ys p q = let e : Ok xs ≡ Ok ys = sym p ∙ q in cc

unflat_one : (library : List Cell) (text : Text) (a b : HierError) → IsReason (told.Modules a) → IsReason (told.Modules b) → HasNoFlat library text a → HasNoFlat library text b → a ≡ b
unflat_one library text a b ra rb x y =
    let same = said_one library text x.modules y.modules x.said y.said in
    hier_one y.modules library a b (failed y.modules library a ra (subst (λ (ms : List Module). CannotFlatten ms library a) same x.refused)) (failed y.modules library b rb y.refused)

pub refusals_one : RefusalsAreOne
refusals_one library text (told.Text a) (told.Text b) ra rb x y = ap told.Text (first_one library text a b (first_of library text a ra x) (first_of library text b rb y))
refusals_one library text (told.Text a) (told.Modules b) ra rb x y = absurd (said_or_refused library text y.modules a y.said (first_of library text a ra x))
refusals_one library text (told.Modules a) (told.Text b) ra rb x y = absurd (said_or_refused library text x.modules b x.said (first_of library text b rb y))
refusals_one library text (told.Modules a) (told.Modules b) ra rb x y = ap told.Modules (unflat_one library text a b ra rb x y)

pub design_or_refusal : DesignOrRefusal
design_or_refusal library text n (told.Text error) r g x = said_or_refused library text g.modules error g.said (first_of library text error r x)
design_or_refusal library text n (told.Modules error) r g x =
    let same = said_one library text x.modules g.modules x.said g.said in
    flat_or_failed g.modules library n error g.flat (failed g.modules library error r (subst (λ (ms : List Module). CannotFlatten ms library error) same x.refused))
