-- The written form of a report of a search.
use Rattle.std.specs.Prelude.{Bool, true, false, List, ◌++◌, flat_map, codes, decimal}
use Rattle.dft_base.specs.Lexing.{Text}
use Rattle.dft_netlist.specs.Netlist.{Netlist}
use Rattle.dft_cubes_out.specs.Written.{port_name}
use Rattle.dft_seek.specs.declared.found.Found.{Found}
use Rattle.dft_seek.specs.declared.found.Found.TheVariants as found
use Rattle.dft_seeking.specs.declared.counting.SeekCounts.{SeekCounts}
use Rattle.dft_seeking.specs.Told.{Told, counts_of}

abbrev pub bit_text : Bool → Text
bit_text false = codes " 0"
bit_text true = codes " 1"

abbrev pub found_text : Found → Text
found_text (found.Cube cube) = codes " cube " ++ (cube.name ++ codes "\n")
found_text found.NotTestable = codes " not-testable\n"
found_text found.Aborted = codes " aborted\n"

-- a fault by the name of its net and its bit, and what is told of it
unfoldable pub fault_line : Netlist → Told → Text
fault_line n t = codes "fault " ++ (port_name n t.fault.net.0 ++ (bit_text t.fault.value ++ found_text t.found))

abbrev pub fault_lines : Netlist → List Told → Text
fault_lines n told = flat_map (fault_line n) told

-- the first line, and the counts
unfoldable pub head_text : SeekCounts → Text
head_text counts =
    codes "seek report 1\nfaults " ++ (decimal counts.faults ++ (codes " cubes " ++ (decimal counts.cubes
    ++ (codes " not-testable " ++ (decimal counts.not_testable ++ (codes " aborted " ++ (decimal counts.aborted ++ codes "\n")))))))

abbrev pub report_text : Netlist → List Told → Text
report_text n told = head_text (counts_of told) ++ fault_lines n told
