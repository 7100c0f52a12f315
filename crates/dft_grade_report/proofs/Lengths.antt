-- The bytes of a fault report, by those before its lines and those of the lines.
use Rattle.std.proofs.Common.{◌≡◌, ◌+◌, ◌≤◌, ◌++◌, ℕ, List, length, flat_map, length-append, ap, ◌∙◌, subst, sym}
use Rattle.std.proofs.lemmas.List.Concat.{length-flat_map}
use Rattle.dft_base.specs.Lexing.{Text}
use Rattle.dft_netlist.specs.Netlist.{Netlist}
use Rattle.dft_patterns.specs.Patterns.{Patterns}
use Rattle.dft_patterns.specs.declared.signal.StilSignal.{StilSignal}
use Rattle.dft_report.specs.declared.error.ReportError.{ReportError}
use Rattle.dft_report.specs.declared.error.ReportError.TheVariants.{K6, Memory}
use Rattle.dft_report.specs.declared.limits.TheConstants.{MAX_BYTES}
use Rattle.dft_report.specs.Refusals.{IsTooLong}
use Rattle.dft_grade.specs.declared.found.Graded.{Graded}
use Rattle.dft_grade_report.specs.Counted.{counts_of}
use Rattle.dft_grade_report.specs.Lengths.{IsLonger}
use Rattle.dft_grade_report.specs.Written.{fault_line, head_text, lines_length, report_text}

-- the bytes that are told are those of the text
pub bytes_are : (n : Netlist) (p : Patterns) (graded : List Graded) → length (report_text n p graded) ≡ length (head_text (counts_of graded)) + lines_length n p.signals graded
bytes_are n p graded =
    length-append (head_text (counts_of graded)) (flat_map (fault_line n p.signals) graded)
    ∙ ap (λ k. length (head_text (counts_of graded)) + k) (length-flat_map (fault_line n p.signals) graded)

-- behind this head, with these signals
told : (n : Netlist) (p : Patterns) (graded : List Graded) (head : Text) (signals : List StilSignal) → head ≡ head_text (counts_of graded) → signals ≡ p.signals → length head + lines_length n signals graded ≡ length (report_text n p graded)
told n p graded head signals is same = (λ i. length (is i) + lines_length n (same i) graded) ∙ sym (bytes_are n p graded)

pub report_fits : (n : Netlist) (p : Patterns) (graded : List Graded) (head : Text) (signals : List StilSignal) → head ≡ head_text (counts_of graded) → signals ≡ p.signals → length head + lines_length n signals graded ≤ MAX_BYTES →
    length (report_text n p graded) ≤ MAX_BYTES
report_fits n p graded head signals is same few = subst (λ (k : ℕ). k ≤ MAX_BYTES) (told n p graded head signals is same) few

longer_text : (text : Text) (error : ReportError) → IsLonger (length text) error → IsTooLong text error
longer_text text (K6 bytes) longer = longer
longer_text text (Memory error) longer = tt

pub report_longer : (n : Netlist) (p : Patterns) (graded : List Graded) (head : Text) (signals : List StilSignal) (error : ReportError) → head ≡ head_text (counts_of graded) → signals ≡ p.signals → IsLonger (length head + lines_length n signals graded) error →
    IsTooLong (report_text n p graded) error
report_longer n p graded head signals error is same longer = longer_text (report_text n p graded) error (subst (λ (k : ℕ). IsLonger k error) (told n p graded head signals is same) longer)
