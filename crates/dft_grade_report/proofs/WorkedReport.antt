-- A fault report, worked by hand.
use Rattle.std.proofs.Common.{◌≡◌, true, false, [], ◌∷◌, codes, None, refl}
use Rattle.std.specs.Fmt as fmt
use Rattle.dft_base.specs.declared.dir.Dir.TheVariants.{Input, Output}
use Rattle.dft_netlist.specs.Netlist.{Netlist}
use Rattle.dft_patterns.specs.Patterns.{Patterns}
use Rattle.dft_grade.specs.declared.found.Grade.TheVariants.{Detected, Undetected}
use Rattle.dft_grade.specs.declared.found.Graded.{Graded}
use Rattle.dft_grade_report.specs.Written.{fault_line, head_text, report_text}

-- a netlist with the nets a and q, and patterns of these signals
abbrev named : Netlist
named = record { name = codes "m"; library = []; ports = []; nets = codes "a" ∷ codes "q" ∷ []; instances = []; joins = [] }

abbrev signals : Patterns
signals = record { signals = record { name = codes "a"; dir = Input } ∷ record { name = codes "q"; dir = Output } ∷ []; vectors = []; notes = [] }

-- q stuck at 0 is found in vector 1, and q stuck at 1 is not
pub example_written : report_text named signals (record { fault = record { net = record { 0 = 1 }; value = false }; grade = Detected 1 1 } ∷ record { fault = record { net = record { 0 = 1 }; value = true }; grade = Undetected } ∷ []) ≡
    codes "fault report 1\nfaults 2 detected 1 undetected 1\nfault q 0 detected vector 1 signal q\nfault q 1 undetected\n"
unfolding fault_line head_text fmt.digits
example_written = refl
