-- The names of Verilog (IEEE 1364): their shape and the reserved words.
use Rattle.std.specs.Prelude.{ℕ, Bool, false, ◌==◌, ◌&&◌, ◌||◌, not, List, [], ◌∷◌, codes}
use Rattle.std.specs.List.{list_all, list_any}
use Rattle.std.specs.Char.{is_ascii_alphabetic, is_ascii_alphanumeric}
use Rattle.std.specs.Str.{bytes_eq}

-- the words that IEEE 1364 reserves and that a netlist may not have for a name
unfoldable pub reserved_words : List (List ℕ)
reserved_words =
    codes "always" ∷ codes "and" ∷ codes "assign" ∷ codes "automatic" ∷ codes "begin" ∷ codes "buf" ∷
    codes "bufif0" ∷ codes "bufif1" ∷ codes "case" ∷ codes "casex" ∷ codes "casez" ∷ codes "cmos" ∷
    codes "deassign" ∷ codes "default" ∷ codes "defparam" ∷ codes "disable" ∷ codes "edge" ∷ codes "else" ∷
    codes "end" ∷ codes "endcase" ∷ codes "endfunction" ∷ codes "endgenerate" ∷ codes "endmodule" ∷
    codes "endprimitive" ∷ codes "endspecify" ∷ codes "endtable" ∷ codes "endtask" ∷ codes "event" ∷ codes "for" ∷
    codes "force" ∷ codes "forever" ∷ codes "fork" ∷ codes "function" ∷ codes "generate" ∷ codes "genvar" ∷
    codes "highz0" ∷ codes "highz1" ∷ codes "if" ∷ codes "ifnone" ∷ codes "initial" ∷ codes "inout" ∷ codes "input" ∷
    codes "integer" ∷ codes "join" ∷ codes "large" ∷ codes "localparam" ∷ codes "macromodule" ∷ codes "medium" ∷
    codes "module" ∷ codes "nand" ∷ codes "negedge" ∷ codes "nmos" ∷ codes "nor" ∷ codes "not" ∷ codes "notif0" ∷
    codes "notif1" ∷ codes "or" ∷ codes "output" ∷ codes "parameter" ∷ codes "pmos" ∷ codes "posedge" ∷
    codes "primitive" ∷ codes "pull0" ∷ codes "pull1" ∷ codes "pulldown" ∷ codes "pullup" ∷ codes "rcmos" ∷
    codes "real" ∷ codes "realtime" ∷ codes "reg" ∷ codes "release" ∷ codes "repeat" ∷ codes "rnmos" ∷
    codes "rpmos" ∷ codes "rtran" ∷ codes "rtranif0" ∷ codes "rtranif1" ∷ codes "scalared" ∷ codes "signed" ∷
    codes "small" ∷ codes "specify" ∷ codes "specparam" ∷ codes "strong0" ∷ codes "strong1" ∷ codes "supply0" ∷
    codes "supply1" ∷ codes "table" ∷ codes "task" ∷ codes "time" ∷ codes "tran" ∷ codes "tranif0" ∷
    codes "tranif1" ∷ codes "tri" ∷ codes "tri0" ∷ codes "tri1" ∷ codes "triand" ∷ codes "trior" ∷ codes "trireg" ∷
    codes "unsigned" ∷ codes "uwire" ∷ codes "vectored" ∷ codes "wait" ∷ codes "wand" ∷ codes "weak0" ∷
    codes "weak1" ∷ codes "while" ∷ codes "wire" ∷ codes "wor" ∷ codes "xnor" ∷ codes "xor" ∷ []

-- the words that IEEE 1364-2001 and later standards reserve for libraries, configurations and pulses:
-- they are names where a netlist is read, and are written escaped
unfoldable pub later_reserved_words : List (List ℕ)
later_reserved_words =
    codes "cell" ∷ codes "config" ∷ codes "design" ∷ codes "endconfig" ∷ codes "incdir" ∷ codes "include" ∷
    codes "instance" ∷ codes "liblist" ∷ codes "library" ∷ codes "noshowcancelled" ∷ codes "pulsestyle_ondetect" ∷
    codes "pulsestyle_onevent" ∷ codes "showcancelled" ∷ codes "use" ∷ []

-- some reserved word has these bytes
abbrev pub is_reserved : List ℕ → Bool
is_reserved bytes = list_any (λ word. bytes_eq word bytes) reserved_words

-- some word that is reserved later has these bytes
abbrev pub is_later_reserved : List ℕ → Bool
is_later_reserved bytes = list_any (λ word. bytes_eq word bytes) later_reserved_words

-- a letter or `_`
abbrev pub begins_word : ℕ → Bool
begins_word byte = is_ascii_alphabetic byte || byte == 95

-- a letter, a digit, `_` or `$`
abbrev pub continues_word : ℕ → Bool
continues_word byte = is_ascii_alphanumeric byte || byte == 95 || byte == 36

-- the shape of a word: a letter or `_`, then letters, digits, `_` and `$`
abbrev pub is_word : List ℕ → Bool
is_word [] = false
is_word (first ∷ rest) = begins_word first && list_all continues_word rest

-- a name that is written as it is read: a word that is not reserved
abbrev pub is_simple_name : List ℕ → Bool
is_simple_name bytes = is_word bytes && not (is_reserved bytes)

-- a name that is written behind a backslash: no simple name, or reserved later
abbrev pub needs_escape : List ℕ → Bool
needs_escape bytes = not (is_simple_name bytes) || is_later_reserved bytes
