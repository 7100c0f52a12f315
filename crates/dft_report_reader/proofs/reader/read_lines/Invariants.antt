use Rattle.std.proofs.Common.{◌≡◌, map, drop}
use Rattle.dft_report_reader.specs.Reading.{nothing_read, read_lines}
use Rattle.dft_report_reader.specs.Shown.{reading_of}
use Rattle.dft_report_reader.proofs.reader.read_lines.Given as goal

abbrev pub invariant-loop-number : goal.invariant-loop-number
invariant-loop-number l = read_lines (reading_of l.draft) l.number (map (λ line. line.now) (drop l.number l.lines)) ≡ read_lines nothing_read 0 (map (λ line. line.now) l.lines)
