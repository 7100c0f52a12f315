-- The names of clocks and resets are names of the design's ports.
use Rattle.std.proofs.Common.{ℕ, ◌<◌, ◌≡◌, inl, inr, true, List, length, arith}
use Rattle.std.specs.List.{list_any}
use Rattle.std.proofs.lemmas.Bool.{cases_lt}
use Rattle.dft_base.specs.Lexing.{Text}
use Rattle.dft_base.proofs.BitLemmas.{true_false}
use Rattle.dft_netlist.specs.Connections.{input_net}
use Rattle.dft_netlist.specs.Netlist.{Netlist}
use Rattle.dft_netlist.specs.Sound.{bits_of}
use Rattle.dft_config.specs.Config.{Config}
use Rattle.dft_rules.specs.Rules.{is_net}
use Rattle.dft_scan_frame.specs.Statements.{IsReady}
use Rattle.dft_scan_behavior.proofs.PortsDriven.{no_clock}

-- a net of this sort is one of the design's ports' nets
pub named_less : (n : Netlist) (config : Config) (at : ℕ) (names : List Text) → IsReady n config → list_any (λ name. is_net at (input_net n name)) names ≡ true → at < length (bits_of n.ports)
named_less n config at names ready is = elim (cases_lt at (length (bits_of n.ports))) [
  | inl less ↦ less
  | inr past ↦ absurd (true_false (list_any (λ name. is_net at (input_net n name)) names) is (no_clock n config at names ready (omega (arith, past))))
]
