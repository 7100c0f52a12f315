-- The netlist of a generated job: each flip-flop takes a gate of two of them.
use Rattle.std.specs.Prelude.{ℕ, ◌+◌, ◌*◌, ◌%◌, ◌==◌, List, ◌++◌, codes, decimal, flat_map, if◌then◌else◌}
use Rattle.std.specs.List.{range_with_len}
use Rattle.dft_base.specs.Lexing.{Text}
use Rattle.dft_generate.specs.Words.{word_at}

-- the kind of a gate, by a word
abbrev pub kind_of : (word : ℕ) → Text
kind_of word = if word % 4 == 0 then codes "NAND2" else (if word % 4 == 1 then codes "NOR2" else (if word % 4 == 2 then codes "XOR2" else codes "AND2"))

-- a gate of a cell, as `NAND2 g5 (.A(q1), .B(q2), .Y(d5));`
unfoldable pub gate_line : (size cell kind first second : ℕ) → Text
gate_line size cell kind first second =
    kind_of kind
    ++ (codes " g" ++ (decimal cell ++ (codes " (.A(q" ++ (decimal (first % size) ++ (codes "), .B(q" ++ (decimal (second % size) ++ (codes "), .Y(d" ++ (decimal cell ++ codes "));\n"))))))))

-- its flip-flop, as `DFF f5 (.CK(clk1), .D(d5), .Q(q5));`
unfoldable pub flop_line : (cell : ℕ) → Text
flop_line cell = codes "DFF f" ++ (decimal cell ++ (codes " (.CK(clk" ++ (decimal (cell % 2) ++ (codes "), .D(d" ++ (decimal cell ++ (codes "), .Q(q" ++ (decimal cell ++ codes "));\n")))))))

-- both, by the words of the cell
unfoldable pub cell_lines : (size : ℕ) → (words : List ℕ) → (cell : ℕ) → Text
cell_lines size words cell = gate_line size cell (word_at words (cell * 3)) (word_at words (cell * 3 + 1)) (word_at words (cell * 3 + 2)) ++ flop_line cell

-- those of all cells, numbered from 0
abbrev pub all_cells : (size : ℕ) → (words : List ℕ) → Text
all_cells size words = flat_map (cell_lines size words) (range_with_len 0 size)

unfoldable pub netlist_text : (size : ℕ) → (words : List ℕ) → Text
netlist_text size words = codes "module gen (clk0, clk1, y);\ninput clk0, clk1;\noutput y;\n" ++ (all_cells size words ++ codes "assign y = q0;\nendmodule\n")
