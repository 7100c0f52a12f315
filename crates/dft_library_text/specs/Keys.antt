-- The table of a cell in a library file: the word for its kind, and the keys that the table of each kind has.
use Rattle.std.specs.Prelude.{codes, ℕ, Bool, true, false, List, [], ◌∷◌, ◌++◌, map, Option, Some, None, if◌then◌else◌}
use Rattle.std.specs.Str.{bytes_eq}
use Rattle.dft_cells.specs.declared.kind.Kind.{Kind}
use Rattle.dft_cells.specs.declared.kind.Kind.TheVariants as kind
use Rattle.dft_cells.specs.declared.kind.Gate.{Gate}
use Rattle.dft_cells.specs.declared.kind.Gate.TheVariants as gate
use Rattle.dft_cells.specs.declared.kind.Flop.{Flop}
use Rattle.dft_cells.specs.declared.kind.Forcing.{Forcing}
use Rattle.dft_cells.specs.declared.kind.Forcing.TheVariants as force
use Rattle.dft_cells.specs.declared.kind.Role.{Role}
use Rattle.dft_cells.specs.declared.kind.Role.TheVariants as role
use Rattle.dft_library_text.specs.declared.keys.PinKey.{PinKey}
use Rattle.dft_library_text.specs.declared.keys.PinKey.TheVariants as key
use Rattle.dft_cells.specs.Pins.{is_tie}

-- the word for a gate, a table or a tie
abbrev pub word_of_gate : Gate → List ℕ
word_of_gate gate.Buf = codes "buf"
word_of_gate gate.Inv = codes "inv"
word_of_gate gate.And = codes "and"
word_of_gate gate.Nand = codes "nand"
word_of_gate gate.Or = codes "or"
word_of_gate gate.Nor = codes "nor"
word_of_gate gate.Xor = codes "xor"
word_of_gate gate.Xnor = codes "xnor"
word_of_gate gate.Mux2 = codes "mux2"
word_of_gate (gate.Table number) = codes "table"
word_of_gate gate.Tie0 = codes "tie0"
word_of_gate gate.Tie1 = codes "tie1"

-- the letter of a reset or a set
abbrev pub force_letter : Forcing → List ℕ
force_letter force.Nothing = []
force_letter force.Reset = codes "r"
force_letter force.Set = codes "s"

-- the word for a flip-flop
abbrev pub word_of_flop : Flop → List ℕ
word_of_flop flop = (if flop.scan then codes "s" else []) ++ codes "dff" ++ force_letter flop.force

-- the word for a kind
abbrev pub word_of : Kind → List ℕ
word_of (kind.Gate gate) = word_of_gate gate
word_of (kind.Flop flop) = word_of_flop flop
word_of kind.Lockup = codes "lockup"
word_of kind.Opaque = codes "opaque"

-- each gate and tie once; a table stands with the number 0
abbrev pub gates : List Gate
gates =
    gate.Buf ∷ gate.Inv ∷ gate.And ∷ gate.Nand ∷ gate.Or ∷ gate.Nor ∷ gate.Xor ∷ gate.Xnor ∷ gate.Mux2 ∷ gate.Table 0 ∷ gate.Tie0 ∷ gate.Tie1 ∷ []

-- flip-flops with nothing, a reset or a set that acts on them
abbrev pub flops : (scan : Bool) → List Flop
flops scan = map (λ force. record { force = force; scan = scan }) (force.Nothing ∷ force.Reset ∷ force.Set ∷ [])

-- each kind once
abbrev pub kinds : List Kind
kinds = map kind.Gate gates ++ map kind.Flop (flops false ++ flops true) ++ kind.Lockup ∷ kind.Opaque ∷ []

-- the first of these kinds whose word this is
abbrev pub kind_among : List Kind → List ℕ → Option Kind
kind_among [] word = None
kind_among (kind ∷ others) word = if bytes_eq (word_of kind) word then Some kind else kind_among others word

-- the kind that a word names; the number of a table stands at another key, and is 0 here
unfoldable pub kind_named : List ℕ → Option Kind
kind_named word = kind_among kinds word

-- a key that names pins, as it is written
abbrev pub text_of : PinKey → List ℕ
text_of key.Inputs = codes "inputs"
text_of key.Outputs = codes "outputs"
text_of key.Output = codes "output"
text_of key.Clock = codes "clock"
text_of key.Din = codes "din"
text_of key.Reset = codes "reset"
text_of key.Set = codes "set"
text_of key.ScanIn = codes "scan_in"
text_of key.ScanEnable = codes "scan_enable"
text_of key.Inverted = codes "inverted"

-- what the pins of a key are for
abbrev pub role_of_key : PinKey → Role
role_of_key key.Inputs = role.Input
role_of_key key.Outputs = role.Output
role_of_key key.Output = role.Output
role_of_key key.Clock = role.Clock
role_of_key key.Din = role.Din
role_of_key key.Reset = role.Reset
role_of_key key.Set = role.Preset
role_of_key key.ScanIn = role.ScanIn
role_of_key key.ScanEnable = role.ScanEnable
role_of_key key.Inverted = role.Inverted

-- the key of the pin of a reset or a set
abbrev pub force_keys : Forcing → List PinKey
force_keys force.Nothing = []
force_keys force.Reset = key.Reset ∷ []
force_keys force.Set = key.Set ∷ []

-- the keys of the scan pins
abbrev pub scan_keys : (scan : Bool) → List PinKey
scan_keys true = key.ScanIn ∷ key.ScanEnable ∷ []
scan_keys false = []

-- the keys of a flip-flop
abbrev pub flop_keys : Flop → List PinKey
flop_keys flop = key.Clock ∷ key.Din ∷ force_keys flop.force ++ (scan_keys flop.scan ++ key.Output ∷ key.Inverted ∷ [])

-- the keys of a kind that name its pins, in the order of the pins: inputs before outputs
abbrev pub pin_keys : Kind → List PinKey
pin_keys (kind.Gate gate) = if is_tie gate then key.Output ∷ [] else key.Inputs ∷ key.Output ∷ []
pin_keys (kind.Flop flop) = flop_keys flop
pin_keys kind.Lockup = key.Clock ∷ key.Din ∷ key.Output ∷ []
pin_keys kind.Opaque = key.Inputs ∷ key.Outputs ∷ []

-- the key of a kind that names no pin, beside `kind`: the output bits of a table, the scan cell of a flip-flop
abbrev pub other_key : Kind → Option (List ℕ)
other_key (kind.Gate (gate.Table number)) = Some (codes "table")
other_key (kind.Flop flop) = if flop.scan then None else Some (codes "scan")
other_key _ = None

-- a word that may be there, as a list
abbrev pub perhaps : Option (List ℕ) → List (List ℕ)
perhaps None = []
perhaps (Some word) = word ∷ []

-- all keys that the table of a kind may have
abbrev pub keys_of : Kind → List (List ℕ)
keys_of kind = map text_of (pin_keys kind) ++ codes "kind" ∷ [] ++ perhaps (other_key kind)
