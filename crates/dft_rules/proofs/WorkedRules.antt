-- A netlist with two clocks and how it is judged, worked by hand.
use Rattle.std.proofs.Common.{◌≡◌, ℕ, List, [], ◌∷◌, codes, pos, false, Some, None, refl, true}
use Rattle.dft_base.specs.Lexing.{Text}
use Rattle.dft_cells.specs.declared.cell.Cell.{Cell}
use Rattle.dft_cells.specs.declared.kind.TheConstants.{DFF}
use Rattle.dft_cells.specs.declared.kind.Kind.TheVariants as kind
use Rattle.dft_cells.specs.declared.kind.Forcing.TheVariants as force
use Rattle.dft_cells.specs.declared.kind.Role.TheVariants as role
use Rattle.dft_netlist.specs.declared.instance.CellRef.TheVariants as cell_ref
use Rattle.dft_netlist.specs.declared.instance.Instance.{Instance}
use Rattle.dft_netlist.specs.declared.instance.Signal.TheVariants as signal
use Rattle.dft_base.specs.declared.dir.Dir.TheVariants as dir
use Rattle.dft_netlist.specs.Netlist.{Netlist}
use Rattle.dft_config.specs.Config.{Config}
use Rattle.dft_config.specs.declared.config.FillRule.TheVariants.{Zeros}
use Rattle.dft_rules.specs.declared.error.RuleError.TheVariants.{ClockAsData, LockupPresent, PortName, ScanCellPresent, TooFewCells, UnknownName}
use Rattle.dft_rules.specs.declared.judged.Judged.TheVariants.{Scanned, Unscanned}
use Rattle.dft_base.specs.declared.rule.Rule.TheVariants.{S1, S4}
use Rattle.dft_rules.specs.Refusals.{refusal}
use Rattle.dft_rules.specs.Rules.{judgements}

-- a flip-flop, its scan cell, a clock gate and a lock-up
abbrev pub library : List Cell
library =
    record { name = codes "DFF"; kind = DFF; pins = record { name = codes "CK"; role = role.Clock } ∷ record { name = codes "D"; role = role.Din } ∷ record { name = codes "Q"; role = role.Output } ∷ []; scan = Some (record { 0 = 1 }) }
    ∷ record { name = codes "SDFF"; kind = kind.Flop (record { force = force.Nothing; scan = true }); pins = record { name = codes "CK"; role = role.Clock } ∷ record { name = codes "D"; role = role.Din } ∷ record { name = codes "SI"; role = role.ScanIn } ∷ record { name = codes "SE"; role = role.ScanEnable } ∷ record { name = codes "Q"; role = role.Output } ∷ []; scan = None }
    ∷ record { name = codes "CKGATE"; kind = kind.Opaque; pins = record { name = codes "CK"; role = role.Input } ∷ record { name = codes "EN"; role = role.Input } ∷ record { name = codes "GCK"; role = role.Output } ∷ []; scan = None }
    ∷ record { name = codes "LOCKUP"; kind = kind.Lockup; pins = record { name = codes "CK"; role = role.Clock } ∷ record { name = codes "D"; role = role.Din } ∷ record { name = codes "Q"; role = role.Output } ∷ []; scan = None }
    ∷ []

abbrev pub joined : (name : Text) → (cell a b c : ℕ) → Instance
joined name cell a b c = record { name = Some name; cell = cell_ref.Library (record { 0 = cell }); pins = signal.Net (record { 0 = a }) ∷ signal.Net (record { 0 = b }) ∷ signal.Net (record { 0 = c }) ∷ [] }

-- four flip-flops in a row, by turns on `ca` and `cb`, and a clock gate on `cb`; the last flip-flop has this net for its clock
abbrev pub example : (clock : ℕ) → Netlist
example clock = record {
  name = codes "s";
  library = library;
  ports = record { name = codes "ca"; dir = dir.Input; range = None; bits = record { 0 = 0 } ∷ [] }
      ∷ record { name = codes "cb"; dir = dir.Input; range = None; bits = record { 0 = 1 } ∷ [] }
      ∷ record { name = codes "d"; dir = dir.Input; range = None; bits = record { 0 = 2 } ∷ [] }
      ∷ record { name = codes "q"; dir = dir.Output; range = None; bits = record { 0 = 3 } ∷ [] } ∷ [];
  nets = codes "ca" ∷ codes "cb" ∷ codes "d" ∷ codes "q" ∷ codes "n0" ∷ codes "n1" ∷ codes "n2" ∷ codes "gated" ∷ [];
  joins = [];
  instances = joined (codes "f0") 0 0 2 4 ∷ joined (codes "f1") 0 1 4 5 ∷ joined (codes "f2") 0 0 5 6 ∷ joined (codes "f3") 0 clock 6 3 ∷ joined (codes "g") 2 1 2 7 ∷ [];
}

-- these domains, kept names and chains
abbrev pub example_config : (domains keep : List Text) → (chains : ℕ) → Config
example_config domains keep chains = record {
  domains = domains;
  resets = [];
  keep = keep;
  chains = chains;
  warm = 0;
  window = 1;
  fill = Zeros;
  always_masked = [];
  ring = record { stages = 2; channels = 1; taps = []; injectors = []; phase = [] };
  compactor = record { groups = []; mask_inputs = 1 };
  names = record {
    scan_enable = codes "scan_enable";
    edt_clock = codes "edt_clock";
    edt_update = codes "edt_update";
    channel = codes "edt_in";
    mask = codes "edt_mask";
    output = codes "edt_out";
    scan_in = codes "scan_in";
    scan_out = codes "scan_out";
  };
}

abbrev pub two_clocks : List Text
two_clocks = codes "ca" ∷ codes "cb" ∷ []

all_scanned : judgements (example 1) (example_config two_clocks [] 1) ≡ Some (Scanned 0 false) ∷ Some (Scanned 1 false) ∷ Some (Scanned 0 false) ∷ Some (Scanned 1 false) ∷ None ∷ []
all_scanned = refl

behind_a_gate : judgements (example 7) (example_config two_clocks [] 1) ≡ Some (Scanned 0 false) ∷ Some (Scanned 1 false) ∷ Some (Scanned 0 false) ∷ Some (Unscanned S1) ∷ None ∷ []
behind_a_gate = refl

kept : judgements (example 1) (example_config two_clocks (codes "f3" ∷ []) 1) ≡ Some (Scanned 0 false) ∷ Some (Scanned 1 false) ∷ Some (Scanned 0 false) ∷ Some (Unscanned S4) ∷ None ∷ []
kept = refl

-- the same with another instance before all others
abbrev with_instance : Instance → Netlist
with_instance instance = record (example 1) { instances = instance ∷ (example 1).instances }

abbrev scan_cell : Instance
scan_cell = record { name = Some (codes "s0"); cell = cell_ref.Library (record { 0 = 1 }); pins = signal.Unconnected ∷ signal.Unconnected ∷ signal.Unconnected ∷ signal.Unconnected ∷ signal.Unconnected ∷ [] }

-- the same with a port that no pattern text can name
abbrev with_quoted_port : Netlist
with_quoted_port = record (example 1) { ports = record { name = codes "a\"b"; dir = dir.Output; range = None; bits = [] } ∷ (example 1).ports }

accepted : refusal (example 1) (example_config two_clocks [] 4) ≡ None
unfolding refusal
accepted = refl

too_few_cells : refusal (example 7) (example_config two_clocks [] 4) ≡ Some (TooFewCells (pos 3) (pos 4))
unfolding refusal
too_few_cells = refl

no_flip_flop : refusal (example 1) (example_config two_clocks (codes "g" ∷ []) 1) ≡ Some (UnknownName (codes "g"))
unfolding refusal
no_flip_flop = refl

used_as_data : refusal (example 1) (example_config (codes "d" ∷ two_clocks) [] 1) ≡ Some (ClockAsData (codes "d"))
unfolding refusal
used_as_data = refl

scan_cell_there : refusal (with_instance scan_cell) (example_config two_clocks [] 1) ≡ Some (ScanCellPresent (codes "s0"))
unfolding refusal
scan_cell_there = refl

lockup_there : refusal (with_instance (joined (codes "l0") 3 0 2 7)) (example_config two_clocks [] 1) ≡ Some (LockupPresent (codes "l0"))
unfolding refusal
lockup_there = refl

quoted_port : refusal with_quoted_port (example_config two_clocks [] 1) ≡ Some (PortName (codes "a\"b"))
unfolding refusal
quoted_port = refl
