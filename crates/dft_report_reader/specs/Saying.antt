-- What a line of a report says, by its words.
use Rattle.std.specs.Prelude.{ℕ, ◌==◌, ◌&&◌, Bool, true, false, List, [], ◌∷◌, Option, None, Some, option_map, codes, if◌then◌else◌}
use Rattle.std.specs.List.{slice_split}
use Rattle.std.specs.Str.{bytes_eq}
use Rattle.dft_base.specs.Lexing.{Text}
use Rattle.dft_base.specs.declared.rule.Rule.{Rule}
use Rattle.dft_base.specs.declared.rule.Rule.TheVariants.{S1, S2, S3, S4}
use Rattle.dft_report.specs.declared.report.Load.{Load}
use Rattle.dft_report.specs.declared.report.Header.{Header}
use Rattle.dft_report.specs.declared.report.Variable.{Variable}
use Rattle.dft_report_reader.specs.Words.{is_name, number_of}

pub data Said : Type 0 where
  Title : Said
  Counts : (header : Header) → Said
  Chain : (chain length : ℕ) → Said
  Scanned : (name domain : Text) → (chain place : ℕ) → (falling : Bool) → Said
  Unscanned : (name : Text) → (rule : Rule) → Said
  Encoded : (name : Text) → (pattern : ℕ) → Said
  Unsolvable : (name : Text) → (sums : ℕ) → Said
  Skipped : (name cell : Text) → Said
  Sum : (name : Text) → (bit : Bool) → (variables : List Text) → Said

-- ---- numbers that must be there

abbrev pub with_two : (ℕ → ℕ → Said) → Option ℕ → Option ℕ → Option Said
with_two say None b = None
with_two say (Some a) None = None
with_two say (Some a) (Some b) = Some (say a b)

-- ---- the words behind the first

-- report 1
abbrev pub title_of : List Text → Option Said
title_of (report ∷ version ∷ []) = if bytes_eq report (codes "report") && bytes_eq version (codes "1") then Some Title else None
title_of _ = None

abbrev pub plain_counts : (cells chains : ℕ) → Said
plain_counts cells chains = Counts (record { cells = cells; chains = chains; load = None })

abbrev pub load_of : Option ℕ → Option ℕ → Option Load
load_of None b = None
load_of (Some a) None = None
load_of (Some a) (Some b) = Some (record { cycles = a; variables = b })

abbrev pub counts_with : Option ℕ → Option ℕ → Option Load → Option Said
counts_with None chains load = None
counts_with (Some cells) None load = None
counts_with (Some cells) (Some chains) None = None
counts_with (Some cells) (Some chains) (Some load) = Some (Counts (record { cells = cells; chains = chains; load = Some load }))

-- variables V, behind the cells, the chains and the cycles
abbrev pub variables_by : (cells chains cycles : Text) → List Text → Option Said
variables_by cells chains cycles (word ∷ variables ∷ []) =
    if bytes_eq word (codes "variables") then counts_with (number_of cells) (number_of chains) (load_of (number_of cycles) (number_of variables)) else None
variables_by cells chains cycles _ = None

-- nothing more, or cycles L
abbrev pub load_by : (cells chains : Text) → List Text → Option Said
load_by cells chains [] = with_two plain_counts (number_of cells) (number_of chains)
load_by cells chains (word ∷ []) = None
load_by cells chains (word ∷ cycles ∷ rest) = if bytes_eq word (codes "cycles") then variables_by cells chains cycles rest else None

-- N chains C, or N chains C cycles L variables V
abbrev pub counts_of : List Text → Option Said
counts_of (cells ∷ word ∷ chains ∷ rest) = if bytes_eq word (codes "chains") then load_by cells chains rest else None
counts_of _ = None

-- c length n
abbrev pub chain_of : List Text → Option Said
chain_of (chain ∷ word ∷ length ∷ []) = if bytes_eq word (codes "length") then with_two Chain (number_of chain) (number_of length) else None
chain_of _ = None

-- nothing more, or the word for a flip-flop that takes its bits at falls
abbrev pub edge_of : List Text → Option Bool
edge_of [] = Some false
edge_of (word ∷ []) = if bytes_eq word (codes "falling") then Some true else None
edge_of _ = None

abbrev pub scanned_with : (name domain : Text) → (falling : Option Bool) → (chain place : Option ℕ) → Option Said
scanned_with name domain None chain place = None
scanned_with name domain (Some falling) chain place = with_two (λ c k. Scanned name domain c k falling) chain place

-- place k, and the edge
abbrev pub at_place : (name domain chain : Text) → List Text → Option Said
at_place name domain chain (word ∷ place ∷ rest) = if bytes_eq word (codes "place") then scanned_with name domain (edge_of rest) (number_of chain) (number_of place) else None
at_place name domain chain _ = None

-- chain c place k, and the edge
abbrev pub in_chain : (name domain : Text) → List Text → Option Said
in_chain name domain (word ∷ chain ∷ rest) = if bytes_eq word (codes "chain") then at_place name domain chain rest else None
in_chain name domain _ = None

-- NAME DOMAIN chain c place k, and the edge
abbrev pub scanned_of : List Text → Option Said
scanned_of (name ∷ domain ∷ rest) = if is_name name && is_name domain then in_chain name domain rest else None
scanned_of _ = None

abbrev pub rule_of : Text → Option Rule
rule_of word = if bytes_eq word (codes "S1") then Some S1 else if bytes_eq word (codes "S2") then Some S2 else if bytes_eq word (codes "S3") then Some S3 else if bytes_eq word (codes "S4") then Some S4 else None

-- NAME RULE
abbrev pub unscanned_of : List Text → Option Said
unscanned_of (name ∷ rule ∷ []) = if is_name name then option_map (Unscanned name) (rule_of rule) else None
unscanned_of _ = None

-- what became of a cube
abbrev pub outcome_of : (name word last : Text) → Option Said
outcome_of name word last =
    if bytes_eq word (codes "encoded") then option_map (Encoded name) (number_of last) else if bytes_eq word (codes "unsolvable") then option_map (Unsolvable name) (number_of last) else if bytes_eq word (codes "skipped") && is_name last then Some (Skipped name last) else None

-- NAME encoded P, NAME unsolvable M, or NAME skipped NAME
abbrev pub cube_of : List Text → Option Said
cube_of (name ∷ word ∷ last ∷ []) = if is_name name then outcome_of name word last else None
cube_of _ = None

abbrev pub bit_of : Text → Option Bool
bit_of word = if bytes_eq word (codes "0") then Some false else if bytes_eq word (codes "1") then Some true else None

abbrev pub sum_with : (name : Text) → (variables : List Text) → Option Bool → Option Said
sum_with name variables None = None
sum_with name variables (Some bit) = Some (Sum name bit variables)

-- NAME BIT VARS
abbrev pub sum_of : List Text → Option Said
sum_of [] = None
sum_of (name ∷ []) = None
sum_of (name ∷ bit ∷ variables) = if is_name name then sum_with name variables (bit_of bit) else None

-- ---- the line

abbrev pub said_of : List Text → Option Said
said_of [] = None
said_of (word ∷ words) =
    if bytes_eq word (codes "edt") then title_of words
    else if bytes_eq word (codes "cells") then counts_of words
    else if bytes_eq word (codes "chain") then chain_of words
    else if bytes_eq word (codes "scanned") then scanned_of words
    else if bytes_eq word (codes "unscanned") then unscanned_of words
    else if bytes_eq word (codes "cube") then cube_of words
    else if bytes_eq word (codes "sum") then sum_of words
    else None

-- ---- variables

abbrev pub variable_with : Option ℕ → Option ℕ → Option Variable
variable_with None b = None
variable_with (Some channel) None = None
variable_with (Some channel) (Some cycle) = Some (record { channel = channel; cycle = cycle })

abbrev pub variable_by : List Text → Option Variable
variable_by (channel ∷ cycle ∷ []) = variable_with (number_of channel) (number_of cycle)
variable_by _ = None

-- a channel and a cycle with a point between them
abbrev pub variable_of : Text → Option Variable
variable_of word = variable_by (slice_split (λ b. b == 46) word)

abbrev pub and_variable : Option Variable → Option (List Variable) → Option (List Variable)
and_variable None rest = None
and_variable (Some v) None = None
and_variable (Some v) (Some vs) = Some (v ∷ vs)

abbrev pub all_variables : List Text → Option (List Variable)
all_variables [] = Some []
all_variables (word ∷ words) = and_variable (variable_of word) (all_variables words)

-- a stroke for none, or one at least
abbrev pub variables_of : List Text → Option (List Variable)
variables_of [] = None
variables_of (word ∷ []) = if bytes_eq word (codes "-") then Some [] else all_variables (word ∷ [])
variables_of (word ∷ next ∷ words) = all_variables (word ∷ next ∷ words)
