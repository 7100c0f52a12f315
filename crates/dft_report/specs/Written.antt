-- The written form of a report: one text for each.
use Rattle.std.specs.Prelude.{ℕ, ◌+◌, Bool, true, false, List, [], ◌∷◌, ◌++◌, length, flat_map, Option, Some, None, codes, decimal}
use Rattle.dft_base.specs.Lexing.{Text}
use Rattle.dft_base.specs.declared.rule.Rule.{Rule}
use Rattle.dft_base.specs.declared.rule.Rule.TheVariants.{S1, S2, S3, S4}
use Rattle.dft_report.specs.declared.report.Load.{Load}
use Rattle.dft_report.specs.declared.report.Header.{Header}
use Rattle.dft_report.specs.declared.report.ScannedLine.{ScannedLine}
use Rattle.dft_report.specs.declared.report.UnscannedLine.{UnscannedLine}
use Rattle.dft_report.specs.declared.report.Variable.{Variable}
use Rattle.dft_report.specs.declared.report.SumLine.{SumLine}
use Rattle.dft_report.specs.declared.report.CubeLine.{CubeLine}
use Rattle.dft_report.specs.declared.report.CubeLine.TheVariants.{Encoded, Unsolvable, Skipped}
use Rattle.dft_report.specs.declared.report.CubeReport.{CubeReport}
use Rattle.dft_report.specs.declared.report.Report.{Report}

-- ---- the header

-- the cycles and the variables of a load
unfoldable pub counts_text : Load → Text
counts_text load = codes " cycles " ++ (decimal load.cycles ++ (codes " variables " ++ decimal load.variables))

-- the same, where patterns are made
abbrev pub load_text : Option Load → Text
load_text None = []
load_text (Some load) = counts_text load

unfoldable pub header_line : Header → Text
header_line header = codes "cells " ++ (decimal header.cells ++ (codes " chains " ++ (decimal header.chains ++ (load_text header.load ++ codes "\n"))))

-- ---- chains and flip-flops

unfoldable pub chain_line : (chain length : ℕ) → Text
chain_line chain length = codes "chain " ++ (decimal chain ++ (codes " length " ++ (decimal length ++ codes "\n")))

-- the lengths of chains, numbered from this one on
abbrev pub chain_lines : (chain : ℕ) → (lengths : List ℕ) → Text
chain_lines chain [] = []
chain_lines chain (length ∷ lengths) = chain_line chain length ++ chain_lines (chain + 1) lengths

-- behind a place: a word for a flip-flop that takes its bits at falls
abbrev pub edge_text : (falling : Bool) → Text
edge_text false = []
edge_text true = codes " falling"

-- a place of a chain, and the edge
unfoldable pub place_text : (chain place : ℕ) → (falling : Bool) → Text
place_text chain place falling = codes " chain " ++ (decimal chain ++ (codes " place " ++ (decimal place ++ (edge_text falling ++ codes "\n"))))

unfoldable pub scanned_line : ScannedLine → Text
scanned_line line = codes "scanned " ++ (line.name ++ (codes " " ++ (line.domain ++ place_text line.chain line.place line.falling)))

abbrev pub rule_text : Rule → Text
rule_text S1 = codes "S1"
rule_text S2 = codes "S2"
rule_text S3 = codes "S3"
rule_text S4 = codes "S4"

unfoldable pub unscanned_line : UnscannedLine → Text
unscanned_line line = codes "unscanned " ++ (line.name ++ (codes " " ++ (rule_text line.rule ++ codes "\n")))

-- ---- cubes

abbrev pub bit_text : Bool → Text
bit_text false = codes " 0"
bit_text true = codes " 1"

-- a variable, by its channel and its cycle
abbrev pub variable_text : Variable → Text
variable_text variable = codes " " ++ (decimal variable.channel ++ (codes "." ++ decimal variable.cycle))

-- variables with a blank before each, or a stroke for none
abbrev pub variables_text : List Variable → Text
variables_text [] = codes " -"
variables_text (variable ∷ variables) = flat_map variable_text (variable ∷ variables)

unfoldable pub sum_line : SumLine → Text
sum_line line = codes "sum " ++ (line.name ++ (bit_text line.bit ++ (variables_text line.variables ++ codes "\n")))

-- how many sums there are, and their lines
unfoldable pub unsolvable_text : List SumLine → Text
unsolvable_text sums = codes " unsolvable " ++ (decimal (length sums) ++ (codes "\n" ++ flat_map sum_line sums))

-- what became of a cube
abbrev pub outcome_text : CubeLine → Text
outcome_text (Encoded pattern) = codes " encoded " ++ (decimal pattern ++ codes "\n")
outcome_text (Unsolvable sums) = unsolvable_text sums
outcome_text (Skipped cell) = codes " skipped " ++ (cell ++ codes "\n")

unfoldable pub cube_lines : CubeReport → Text
cube_lines cube = codes "cube " ++ (cube.name ++ outcome_text cube.outcome)

-- ---- the report

-- all but the lines of cubes
unfoldable pub lines_before_cubes : Report → Text
lines_before_cubes report =
    codes "edt report 1\n" ++ (header_line report.header ++ (chain_lines 0 report.chains ++ (flat_map scanned_line report.scanned ++ flat_map unscanned_line report.unscanned)))

unfoldable pub written : Report → Text
written report = lines_before_cubes report ++ flat_map cube_lines report.cubes
