use Rattle.std.proofs.Common.{◌≡◌, ◌++◌, true, drop}
use Rattle.dft_explain.specs.Told.{is_told, shown}
use Rattle.dft_explain.proofs.page.push_shown.Given as goal

abbrev pub invariant-loop-byte : goal.invariant-loop-byte
invariant-loop-byte l = (l.bytes.items ++ shown (drop l.byte-index l.text) ≡ l.fn.bytes.items ++ shown l.text) × (is_told l.fn.bytes.items ≡ true → is_told l.bytes.items ≡ true)
