-- A job of four cells and one cube, worked by hand, and the first words of a seed.
use Rattle.std.proofs.Common.{◌≡◌, ℕ, List, [], ◌∷◌, codes, refl}
use Rattle.std.specs.Fmt as fmt
use Rattle.rand_core.specs.Steps.{first_words}
use Rattle.rand_pcg.specs.Pcg.{pcg32}
use Rattle.dft_generate.specs.Cubes.{bit_line, bit_lines, cube_line, cube_lines, cubes_text}
use Rattle.dft_generate.specs.Netlists.{cell_lines, flop_line, gate_line, netlist_text}
use Rattle.dft_random.specs.Words.{generator}

-- three words for each cell, and four for the cube: the highest bit of the first and of the last is 1
abbrev pub words : List ℕ
words = 0 ∷ 5 ∷ 6 ∷ 5 ∷ 7 ∷ 0 ∷ 10 ∷ 1 ∷ 1 ∷ 7 ∷ 2 ∷ 3 ∷ 2147483649 ∷ 5 ∷ 2 ∷ 2147483650 ∷ []

pub example_netlist : netlist_text 4 words
    ≡ codes "module gen (clk0, clk1, y);\ninput clk0, clk1;\noutput y;\nNAND2 g0 (.A(q1), .B(q2), .Y(d0));\nDFF f0 (.CK(clk0), .D(d0), .Q(q0));\nNOR2 g1 (.A(q3), .B(q0), .Y(d1));\nDFF f1 (.CK(clk1), .D(d1), .Q(q1));\nXOR2 g2 (.A(q1), .B(q1), .Y(d2));\nDFF f2 (.CK(clk0), .D(d2), .Q(q2));\nAND2 g3 (.A(q2), .B(q3), .Y(d3));\nDFF f3 (.CK(clk1), .D(d3), .Q(q3));\nassign y = q0;\nendmodule\n"
unfolding netlist_text cell_lines gate_line flop_line fmt.digits
example_netlist = refl

-- the second and the fourth word give cells that were given before
pub example_cubes : cubes_text 4 words ≡ codes "cube k0 clk0\ncell f1 1\ncell f2 0\nend\n"
unfolding cube_lines cube_line bit_lines bit_line fmt.digits
example_cubes = refl

pub example_words : first_words pcg32 3 (generator 1 0) ≡ 3795398737 ∷ 17903413 ∷ 3545275701 ∷ []
unfolding first_words
example_words = refl
