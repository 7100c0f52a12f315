-- What holds of every capture from given values.
use Rattle.std.specs.Prelude.{ℕ, ◌≡◌}
use Rattle.dft_base.specs.declared.tri.Tri.{Tri}
use Rattle.dft_base.specs.Tri.{AboveTri}
use Rattle.dft_netlist.specs.Netlist.{Netlist}
use Rattle.dft_netlist.specs.Drivers.{IsOrdered}
use Rattle.dft_behavior.specs.Logic.{IsRanked}
use Rattle.dft_capture.specs.Captures.{Moving, Settled, AreSettled, capture_logic, captured}

-- An order of the design's nets is one of what they mean in a capture.
abbrev pub OrderIsRank : Type 0
OrderIsRank = (n : Netlist) (m : Moving) (rank : ℕ → ℕ) → IsOrdered n rank → IsRanked (capture_logic n m) rank

-- A capture is there,
abbrev pub CaptureExists : Type 0
CaptureExists = (n : Netlist) (m : Moving) (rank : ℕ → ℕ) (ports state : ℕ → Tri) → IsOrdered n rank → (s : Settled) × AreSettled n m ports state s

-- and it is one.
abbrev pub CaptureIsOne : Type 0
CaptureIsOne =
    (n : Netlist) (m : Moving) (rank : ℕ → ℕ) (ports state : ℕ → Tri) (s q : Settled) → IsOrdered n rank → AreSettled n m ports state s → AreSettled n m ports state q → s ≡ q

-- the first settled values stand above the second ones, before the rise and before the fall
pub record AreOver (s q : Settled) : Type 0 where
  pub first : (net : ℕ) → AboveTri (s.first net) (q.first net)
  pub second : (net : ℕ) → AboveTri (s.second net) (q.second net)

-- Where more ports and flip-flops are known, what was known stays: all settled values and what is captured stand above those from below.
abbrev pub CaptureIsAbove : Type 0
CaptureIsAbove =
    (n : Netlist) (m : Moving) (rank : ℕ → ℕ) (ports state given held : ℕ → Tri) (s q : Settled) → IsOrdered n rank →
    ((net : ℕ) → AboveTri (ports net) (given net)) → ((cell : ℕ) → AboveTri (state cell) (held cell)) → AreSettled n m ports state s → AreSettled n m given held q →
    AreOver s q × ((cell : ℕ) → AboveTri (captured n m state s cell) (captured n m held q cell))
