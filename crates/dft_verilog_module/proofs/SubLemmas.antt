-- Rules of several modules, by the steps in which they are read.
use Rattle.std.proofs.Common.{◌≡◌, ℕ, Bool, true, false, not, ◌&&◌, cond, List, [], ◌∷◌, ◌++◌, Option, Some, None, is_some, slice_get, Result, Ok, Err, refl, sym, ap, subst, ◌∙◌}
use Rattle.dft_base.specs.Lexing.{Text}
use Rattle.dft_base.specs.Parser as parser
use Rattle.dft_base.specs.Parser.{and_then}
use Rattle.dft_cells.specs.declared.cell.Cell.{Cell}
use Rattle.dft_cells.specs.declared.cell.CellId.{CellId}
use Rattle.dft_cells.specs.Cells.{find_cell}
use Rattle.dft_netlist_text.specs.declared.text.TokenKind.TheVariants as kind
use Rattle.dft_netlist_text.specs.declared.text.Cause.TheVariants as cause
use Rattle.dft_netlist_text.specs.declared.text.Fault.{Fault}
use Rattle.dft_netlist_text.specs.declared.text.Meaning.TheVariants as meaning
use Rattle.dft_netlist_text.specs.Lexemes.{Token}
use Rattle.dft_netlist_text.specs.Steps.{Outcome, Rule, bytes, left, next, sees, expect, fault, refusal}
use Rattle.dft_netlist_text.specs.Modules.{Draft, empty_draft, is_taken, with_name}
use Rattle.dft_netlist_text.specs.Items.{instances_of, instances, instances_named, cell_item, item_of, item}
use Rattle.dft_netlist_text.specs.NetlistText.{header, heading, module_end}
use Rattle.dft_modules.specs.declared.fault.ModulesFault.{ModulesFault}
use Rattle.dft_modules.specs.declared.fault.ModulesFault.TheVariants as told
use Rattle.dft_modules.specs.SubInstances.{DraftSub, Said, name_sub, sub_instances, sub_item, names_module, module_item, module_items, one_module}
use Rattle.dft_modules.specs.ModuleTexts.{in_module, is_repeated, repeats, name_ahead, next_module}
use Rattle.dft_lexing.specs.declared.read_error.ReadError as reading
use Rattle.dft_lexing.specs.declared.read_error.ReadError.TheVariants as errors
use Rattle.dft_netlist_text.proofs.KindLemmas.{kind_is}
use Rattle.dft_verilog_tokens.specs.Reading.{Reads, ReadError}
use Rattle.dft_verilog_module.specs.SaidModules.{in_module_error, next_named, said, named_as, behind_item_name, module_name, headed, behind_name}

-- ---- the name of an instance

named_by : (t : Bool) (place : ℕ) (word : Text) (d e : Draft) → cond t (Err (fault (cause.Taken word) place)) (Ok (with_name word meaning.Instance d)) ≡ Ok e → e.library ≡ d.library
named_by true place word d e h = absurd (cc)
named_by false place word d e h = let same : with_name word meaning.Instance d ≡ e = cc in sym (ap (λ (x : Draft). x.library) same)

-- the cells are the same behind the name of a module instance
pub sub_library : (place : ℕ) (word : Text) (d e : Draft) → name_sub place word d ≡ Ok e → e.library ≡ d.library
sub_library place word d e h = named_by (is_taken d word) place word d e h

pub ruleset sub_rules = (sub_library)

-- ---- items that begin with a name

-- an item that begins with the name of a cell
named_cell : (m : Said) (ts : List Token) (id : CellId) → find_cell m.draft.library (bytes ts) ≡ Some id → sees kind.Name ts ≡ true → module_item m ts ≡ named_as (bytes ts) m (Some id) (next ts)
unfolding module_item item cell_item expect
named_cell m ts id some h =
    let put : Draft → List Token → Outcome Said = λ e vs. Ok (said e m.subs, vs) in
    ap (λ b. cond (b && not (is_some (find_cell m.draft.library (bytes ts)))) (sub_item m ts) (and_then (item m.draft ts) put)) h
    ∙ ap (λ o. cond (true && not (is_some o)) (sub_item m ts) (and_then (item m.draft ts) put)) some
    ∙ ap (λ k. and_then (item_of k m.draft ts) put) (kind_is kind.Name ts h)
    ∙ ap (λ b. and_then (and_then (cond {A = Outcome Text} b (Ok (bytes ts, next ts)) (Err (refusal ts))) (λ w vs. instances_named (left ts) (find_cell m.draft.library w) m.draft vs)) put) h
    ∙ ap (λ o. and_then (instances_named (left ts) o m.draft (next ts)) put) some

-- an item that begins with another name
named_sub : (m : Said) (ts : List Token) → find_cell m.draft.library (bytes ts) ≡ None → sees kind.Name ts ≡ true → module_item m ts ≡ named_as (bytes ts) m None (next ts)
unfolding module_item sub_item expect
named_sub m ts none h =
    let other : Outcome Said = and_then (item m.draft ts) (λ e vs. Ok (said e m.subs, vs)) in
    ap (λ b. cond (b && not (is_some (find_cell m.draft.library (bytes ts)))) (sub_item m ts) other) h
    ∙ ap (λ o. cond (true && not (is_some o)) (sub_item m ts) other) none
    ∙ ap (λ b. and_then (cond {A = Outcome Text} b (Ok (bytes ts, next ts)) (Err (refusal ts))) (λ of vs. sub_instances of m vs)) h

-- an item that begins with a name is what comes behind the name
named_by_find : (m : Said) (ts : List Token) (id : Option CellId) → find_cell m.draft.library (bytes ts) ≡ id → sees kind.Name ts ≡ true → module_item m ts ≡ named_as (bytes ts) m id (next ts)
named_by_find m ts None none h = named_sub m ts none h
named_by_find m ts (Some id) some h = named_cell m ts id some h

-- any other item
other_item : (d : Draft) (subs : List DraftSub) (ts : List Token) → sees kind.Name ts ≡ false → module_item (said d subs) ts ≡ and_then (item d ts) (λ e vs. Ok (said e subs, vs))
unfolding module_item
other_item d subs ts h =
    ap (λ b. cond (b && not (is_some (find_cell d.library (bytes ts)))) (sub_item (said d subs) ts) (and_then (item d ts) (λ e vs. Ok (said e subs, vs)))) h

-- ---- what is read of an item

-- what a rule of a lone module reads, beside the module instances
reads_beside : (o : Outcome Draft) (d : Draft) (subs : List DraftSub) (result : Result (Unit {0}) ReadError) (ts : List Token) → Reads (λ _. d) o result ts → Reads (λ _. said d subs) (and_then o (λ e us. Ok (said e subs, us))) result ts
reads_beside o d subs (Ok u) ts h = ap (λ (r : Outcome Draft). and_then r (λ e us. Ok (said e subs, us))) h
reads_beside o d subs (Err (errors.Fault f)) ts h = ap (λ (r : Outcome Draft). and_then r (λ e us. Ok (said e subs, us))) h
reads_beside o d subs (Err (errors.Memory e)) ts h = tt

reads_same : (a b : Outcome Said) (m : Said) (result : Result (Unit {0}) ReadError) (ts : List Token) → b ≡ a → Reads (λ _. m) a result ts → Reads (λ _. m) b result ts
reads_same a b m result ts e h = subst (λ (o : Outcome Said). Reads (λ _. m) o result ts) (sym e) h

pub reads_other : (d new : Draft) (subs : List DraftSub) (ts us : List Token) (result : Result (Unit {0}) ReadError) → sees kind.Name ts ≡ false → Reads (λ _. new) (item d ts) result us → Reads (λ _. said new subs) (module_item (said d subs) ts) result us
reads_other d new subs ts us result h r = reads_same _ _ (said new subs) result us (other_item d subs ts h) (reads_beside (item d ts) new subs result us r)

pub reads_named : (m new : Said) (ts us : List Token) (result : Result (Unit {0}) ReadError) → sees kind.Name ts ≡ true → Reads (λ _. new) (behind_item_name (bytes ts) m (next ts)) result us → Reads (λ _. new) (module_item m ts) result us
reads_named m new ts us result h r = reads_same _ _ new result us (named_by_find m ts (find_cell m.draft.library (bytes ts)) refl h) r

pub reads_cell : (word : Text) (d new : Draft) (subs : List DraftSub) (ts us : List Token) (id : CellId) (cell : Cell) (result : Result (Unit {0}) ReadError) → find_cell d.library word ≡ Some id → slice_get d.library id.0 ≡ Some cell →
    Reads (λ _. new) (instances id cell d ts) result us → Reads (λ _. said new subs) (behind_item_name word (said d subs) ts) result us
reads_cell word d new subs ts us id cell result some at r =
    let put : Draft → List Token → Outcome Said = λ e vs. Ok (said e subs, vs) in
    reads_same _ _ (said new subs) result us (ap (λ o. named_as word (said d subs) o ts) some ∙ ap (λ o. and_then (instances_of id o d ts) put) at) (reads_beside (instances id cell d ts) new subs result us r)

pub reads_sub : (word : Text) (m new : Said) (ts us : List Token) (result : Result (Unit {0}) ReadError) → find_cell m.draft.library word ≡ None → Reads (λ _. new) (sub_instances word m ts) result us → Reads (λ _. new) (behind_item_name word m ts) result us
reads_sub word m new ts us result none r = reads_same _ _ new result us (ap (λ o. named_as word m o ts) none) r

pub ruleset named_items = (reads_cell, reads_sub)

pub ruleset module_items_read = (reads_named, reads_other)

-- ---- a module behind its name

then_then : {A B C : Type 0} (o : Outcome A) (f : A → Rule B) (g : B → Rule C) → and_then (and_then o f) g ≡ and_then o (λ a us. and_then (f a us) g)
then_then (Ok p) f g = refl
then_then (Err e) f g = refl

two_then : {A B C D : Type 0} (o : Outcome A) (n : Rule B) (h : B → Rule C) (rest : C → Rule D) →
    and_then (and_then o (λ _ us. and_then (n us) h)) rest ≡ and_then (and_then o (λ _ us. n us)) (λ b vs. and_then (h b vs) rest)
two_then (Ok p) n h rest = then_then (n p.1) h rest
two_then (Err e) n h rest = refl

-- a module is its name, and what comes behind it
one_by : (library : List Cell) (ts : List Token) → one_module library ts ≡ and_then (module_name ts) (λ word us. behind_name word library us)
unfolding one_module heading headed behind_name
one_by library ts =
    two_then (expect kind.Module ts) (expect kind.Name) (λ word us. headed word library us) (λ start us. and_then (module_items (said start []) us) (λ m vs. and_then (module_end m.draft vs) (λ whole ws. Ok (record m { draft = whole }, ws))))

-- what comes of a module with this name
abbrev next_by : List Cell → List Text → Outcome Text → parser.Outcome Token ModulesFault Said
next_by library names (Err f) = Err (told.Module f)
next_by library names (Ok p) = cond (is_repeated library names p.0) (Err (told.Repeated p.0)) (in_module (behind_name p.0 library p.1))

second_by : (b : Bool) (library : List Cell) (names : List Text) (ts : List Token) →
    cond ((true && b) && is_repeated library names (bytes ts)) (Err (told.Repeated (bytes ts))) (in_module (and_then (cond b (Ok (bytes ts, next ts)) (Err (refusal ts))) (λ word us. behind_name word library us)))
    ≡ next_by library names (cond b (Ok (bytes ts, next ts)) (Err (refusal ts)))
second_by true library names ts = refl
second_by false library names ts = refl

first_by : (a : Bool) (library : List Cell) (names : List Text) (ts : List Token) →
    cond ((a && sees kind.Name (next ts)) && is_repeated library names (bytes (next ts))) (Err (told.Repeated (bytes (next ts))))
    (in_module (and_then (and_then (cond a (Ok (bytes ts, next ts)) (Err (refusal ts))) (λ _ us. expect kind.Name us)) (λ word us. behind_name word library us)))
    ≡ next_by library names (and_then (cond a (Ok (bytes ts, next ts)) (Err (refusal ts))) (λ _ us. expect kind.Name us))
unfolding expect
first_by true library names ts = second_by (sees kind.Name (next ts)) library names (next ts)
first_by false library names ts = refl

-- the next module, by its name
pub next_module_is : (library : List Cell) (names : List Text) (ts : List Token) → next_module library names ts ≡ next_by library names (module_name ts)
unfolding next_module expect
next_module_is library names ts =
    ap (λ o. cond (repeats library names ts) (Err (told.Repeated (name_ahead ts))) (in_module o)) (one_by library ts) ∙ first_by (sees kind.Module ts) library names ts

ahead_by : (a b : Bool) (ts us : List Token) (word : Text) →
    and_then (cond a (Ok (bytes ts, next ts)) (Err (refusal ts))) (λ _ vs. cond b (Ok (bytes (next ts), next (next ts))) (Err (refusal (next ts)))) ≡ Ok (word, us) → bytes (next ts) ≡ word
ahead_by true true ts us word h = let same : (bytes (next ts), next (next ts)) ≡ (word, us) = cc in ap (λ (p : Text × List Token). p.0) same
ahead_by true false ts us word h = absurd (cc)
ahead_by false b ts us word h = absurd (cc)

name_by : (a : Bool) (ts us : List Token) (word : Text) → and_then (cond a (Ok (bytes ts, next ts)) (Err (refusal ts))) (λ _ vs. expect kind.Name vs) ≡ Ok (word, us) → bytes (next ts) ≡ word
unfolding expect
name_by true ts us word h = ahead_by true (sees kind.Name (next ts)) ts us word h
name_by false ts us word h = absurd (cc)

-- the name that is read is the one ahead
pub name_ahead_is : (ts us : List Token) (word : Text) → module_name ts ≡ Ok (word, us) → name_ahead ts ≡ word
unfolding expect
name_ahead_is ts us word h = name_by (sees kind.Module ts) ts us word h

-- ---- the next module, step by step

pub next_unnamed : (library : List Cell) (names : List Text) (ts : List Token) (f : Fault) → module_name ts ≡ Err f → next_module library names ts ≡ Err (told.Module f)
next_unnamed library names ts f h = next_module_is library names ts ∙ ap (next_by library names) h

-- a module whose name was read
pub reads_next : {X : Type 0} (view : X → Said) (library : List Cell) (names : List Text) (ts us vs : List Token) (word : Text) (result : Result X (reading.ReadError ModulesFault)) → module_name ts ≡ Ok (word, us) →
    Reads view (next_named library names word us) result vs → Reads view (next_module library names ts) result vs
reads_next view library names ts us vs word result h r =
    subst (λ (o : parser.Outcome Token ModulesFault Said). Reads view o result vs) (sym (next_module_is library names ts ∙ ap (next_by library names) h)) r

-- and one whose name was not
pub reads_unnamed : {X : Type 0} (view : X → Said) (library : List Cell) (names : List Text) (ts us : List Token) (e : ReadError) → Reads {X = Text} {Y = Text} (λ w. w) (module_name ts) (Err e) us →
    Reads view (next_module library names ts) (Err (in_module_error e)) us
reads_unnamed view library names ts us (errors.Fault f) h = next_unnamed library names ts f h
reads_unnamed view library names ts us (errors.Memory e) h = tt

pub ok_in_module : (o : Outcome Said) (m : Said) (ts : List Token) → o ≡ Ok (m, ts) → in_module o ≡ Ok (m, ts)
ok_in_module o m ts h = ap in_module h

pub err_in_module : {X : Type 0} (view : X → Said) (o : Outcome Said) (e : ReadError) (ts : List Token) → Reads view o (Err e) ts → Reads view (in_module o) (Err (in_module_error e)) ts
err_in_module view o (errors.Fault f) ts h = ap in_module h
err_in_module view o (errors.Memory e) ts h = tt

pub ruleset next_modules = (reads_next, next_unnamed, name_ahead_is)

pub ruleset named_modules = (ok_in_module, err_in_module)
