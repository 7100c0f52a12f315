-- Names that are found by their bytes.
use Rattle.std.proofs.Common.{◌≡◌, ℕ, Bool, true, false, cond, ◌||◌, List, [], ◌∷◌, ◌++◌, map, find, Option, Some, None, option_map, is_some, refl, sym, ap, ◌∙◌}
use Rattle.std.specs.List.{list_any}
use Rattle.std.specs.Str.{bytes_eq}
use Rattle.std.proofs.lemmas.List.{map-append}
use Rattle.dft_base.specs.Lexing.{Text}
use Rattle.dft_netlist_text.specs.declared.text.Meaning.{Meaning}
use Rattle.dft_netlist_text.specs.Modules.{TakenName}
use Rattle.dft_modules.specs.SubInstances.{SubConnection, was_named}
use Rattle.dft_verilog_draft.specs.NameSets.{has_word}
use Rattle.dft_verilog_draft.specs.TakenNames.{meaning_in}

name_of : TakenName → Text
name_of e = e.name

some_or : (here : Bool) (e : TakenName) (more : Option TakenName) (rest : Bool) → is_some (option_map (λ (o : TakenName). o.meaning) more) ≡ rest → is_some (option_map (λ (o : TakenName). o.meaning) (cond here (Some e) more)) ≡ (here || rest)
some_or true e more rest same = refl
some_or false e more rest same = same

-- a name that stands for something is one of the names
pub has_word_names : (names : List TakenName) (word : Text) → is_some (meaning_in names word) ≡ has_word (map (λ (e : TakenName). e.name) names) word
has_word_names [] word = refl
has_word_names (e ∷ es) word = some_or (bytes_eq e.name word) e (find (λ (o : TakenName). bytes_eq o.name word) es) (has_word (map (λ (o : TakenName). o.name) es) word) (has_word_names es word)

none_by : (o : Option Meaning) → is_some o ≡ false → o ≡ None
none_by None e = refl
none_by (Some m) e = absurd (cc)

-- a name that is none of them stands for nothing
pub meaning-new : (names : List TakenName) (word : Text) → has_word (map (λ (e : TakenName). e.name) names) word ≡ false → meaning_in names word ≡ None
meaning-new names word e = none_by (meaning_in names word) (has_word_names names word ∙ e)

pub names-added : (names : List TakenName) (e : TakenName) → map (λ (o : TakenName). o.name) (names ++ e ∷ []) ≡ map (λ (o : TakenName). o.name) names ++ e.name ∷ []
names-added names e = map-append (λ (o : TakenName). o.name) names (e ∷ [])

pub ruleset name_sets = (meaning-new, names-added)

or_same : (here a b : Bool) → a ≡ b → (here || a) ≡ (here || b)
or_same here a b e = ap (λ x. here || x) e

-- a port was named where its name is one of the ports'
pub was_named_ports : (connections : List SubConnection) (word : Text) → has_word (map (λ (c : SubConnection). c.port) connections) word ≡ was_named connections word
was_named_ports [] word = refl
was_named_ports (c ∷ cs) word = or_same (bytes_eq c.port word) _ _ (was_named_ports cs word)

pub ports-added : (connections : List SubConnection) (c : SubConnection) → map (λ (o : SubConnection). o.port) (connections ++ c ∷ []) ≡ map (λ (o : SubConnection). o.port) connections ++ c.port ∷ []
ports-added connections c = map-append (λ (o : SubConnection). o.port) connections (c ∷ [])

pub ruleset port_sets = (was_named_ports, ports-added)
