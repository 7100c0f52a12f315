-- Names that are taken, and what each stands for.
use Rattle.std.specs.Prelude.{List, [], ◌∷◌, ◌++◌, find, Option, Some, None, option_map}
use Rattle.std.specs.Str.{bytes_eq}
use Rattle.dft_base.specs.Lexing.{Text}
use Rattle.dft_netlist_text.specs.declared.text.Meaning.{Meaning}
use Rattle.dft_netlist_text.specs.declared.text.Meaning.TheVariants as meaning
use Rattle.dft_netlist_text.specs.Modules.{Draft, TakenName, next_shape}

-- what a name stands for, if it is one of these
abbrev pub meaning_in : List TakenName → Text → Option Meaning
meaning_in names word = option_map (λ (e : TakenName). e.meaning) (find (λ e. bytes_eq e.name word) names)

-- a name that stood for nothing is taken, and stands for this
abbrev pub and_put : Text → Meaning → Option Meaning → List TakenName → List TakenName
and_put word meant None names = names ++ record { name = word; meaning = meant } ∷ []
and_put word meant (Some before) names = names

-- a name that stood for nothing stands for the next net, which has this name
abbrev pub and_net : Text → Option Meaning → Draft → Draft
and_net word None d = record d { names = d.names ++ record { name = word; meaning = meaning.Nets (next_shape d None) } ∷ []; nets = d.nets ++ word ∷ [] }
and_net word (Some before) d = d
