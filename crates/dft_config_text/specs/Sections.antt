-- The keys of a configuration's tables.
use Rattle.std.specs.Prelude.{codes, ℕ, Bool, List, [], ◌∷◌}
use Rattle.dft_toml.specs.Values.{has_word}
use Rattle.dft_config_text.specs.declared.section.Section.{Section}
use Rattle.dft_config_text.specs.declared.section.Section.TheVariants.{Ring, Compactor, Names}

-- the key of a table
abbrev pub key_of : Section → List ℕ
key_of Ring = codes "ring"
key_of Compactor = codes "compactor"
key_of Names = codes "names"

-- what stands before its keys in a dotted name
abbrev pub prefix_of : Section → List ℕ
prefix_of Ring = codes "ring."
prefix_of Compactor = codes "compactor."
prefix_of Names = codes "names."

-- its keys
abbrev pub keys_in : Section → List (List ℕ)
keys_in Ring = codes "stages" ∷ codes "channels" ∷ codes "taps" ∷ codes "injectors" ∷ codes "phase" ∷ []
keys_in Compactor = codes "groups" ∷ codes "mask_inputs" ∷ []
keys_in Names =
    codes "scan_enable" ∷ codes "edt_clock" ∷ codes "edt_update" ∷ codes "channel" ∷ codes "mask" ∷ codes "output" ∷
    codes "scan_in" ∷ codes "scan_out" ∷ []

-- whether a word is one of its keys
unfoldable pub has_key : Section → List ℕ → Bool
has_key section word = has_word (keys_in section) word

-- the keys outside of the tables that each configuration may have, and the two tables that it must have
abbrev pub top_keys : List (List ℕ)
top_keys =
    codes "version" ∷ codes "domains" ∷ codes "resets" ∷ codes "keep" ∷ codes "chains" ∷ codes "warm" ∷ codes "window" ∷
    codes "fill" ∷ codes "always_masked" ∷ codes "ring" ∷ codes "compactor" ∷ []

-- whether a word is one of these
unfoldable pub is_always_key : List ℕ → Bool
is_always_key word = has_word top_keys word
