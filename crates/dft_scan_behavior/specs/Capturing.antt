-- What one capture vector does to a scanned netlist of style Edt, beside its design. Where it is a clearing vector too, `Acts` says
-- besides that the ring is 0 then, and that each hold bit is its chain's mask bit of before.
use Rattle.std.specs.Prelude.{ℕ, ◌<◌, ◌≡◌, true, false}
use Rattle.dft_base.specs.declared.tri.Tri.{Tri}
use Rattle.dft_base.specs.Tri.{AboveTri}
use Rattle.dft_behavior.specs.Logic.{Logic, Ports, logic_of}
use Rattle.dft_netlist.specs.Netlist.{Netlist}
use Rattle.dft_behavior.specs.Runs.{Vector}
use Rattle.dft_behavior.specs.Settled.{IsTriSettled}
use Rattle.dft_abstract.specs.Cycle.{rise_of, strobe_sources, Halves, AreHalves, after_halves}
use Rattle.dft_config.specs.Config.{Config}
use Rattle.dft_edt.specs.Captures.{StandsOver, IsCapture, IsCaptured, after_edge}
use Rattle.dft_scan_frame.specs.ConfigPorts.{config_ports}
use Rattle.dft_scan_frame.specs.Statements.{IsReady}
use Rattle.dft_insert.specs.declared.style.Style.TheVariants.{Edt}
use Rattle.dft_insert.specs.Agreeing.{places_in}
use Rattle.dft_scan_behavior.specs.EdtVectors.{SuitsEdt, edt_logic}

-- the design alone, under the configuration's ports
abbrev pub design_logic : Netlist → Config → Logic
design_logic n config = logic_of n (config_ports n config)

-- At the strobe of any vector what the design alone knows of its nets, from no less at ports and flip-flops, stands above the values of
-- the scanned netlist.
abbrev pub StrobesStand : Netlist → Config → Ports → Type 0
StrobesStand n config ports =
    (y x : Vector) (its old values shows : ℕ → Tri) → StandsOver (places_in Edt n config) y x its old →
    IsTriSettled (design_logic n config) (strobe_sources (design_logic n config) y its values) values →
    IsTriSettled (edt_logic n config ports) (strobe_sources (edt_logic n config ports) x old shows) shows →
    (net : ℕ) → net < (places_in Edt n config).size → AboveTri (values net) (shows ((places_in Edt n config).moved net))

-- What a capture vector leaves, in which one domain pulses while scan_enable is 0, for any halves. A rising flip-flop of that domain has no
-- more than its next value in the design alone from the values before the rise, a falling one no more than its next value from those before the
-- fall, and each other no more than what it had.
abbrev pub CapturesStand : Netlist → Config → Ports → Type 0
CapturesStand n config ports =
    (d : ℕ) (y x : Vector) (its risen old : ℕ → Tri) (h : Halves) (values later : ℕ → Tri) →
    let l = edt_logic n config ports in
    IsCapture (places_in Edt n config) d x → StandsOver (places_in Edt n config) y x its old → IsCaptured (design_logic n config) d y its risen values later →
    AreHalves l x old h → (cell : ℕ) → (places_in Edt n config).is_flop cell ≡ true →
    AboveTri (after_edge (design_logic n config) y d false later (after_edge (design_logic n config) y d true values (rise_of (design_logic n config) y its).old) cell) (after_halves l x old h cell)

-- ---- for every ready design, under all ports that suit

abbrev pub StrobesFollow : Type 0
StrobesFollow = (n : Netlist) (config : Config) (ports : Ports) → IsReady n config → SuitsEdt n config ports → StrobesStand n config ports

abbrev pub CapturesFollow : Type 0
CapturesFollow = (n : Netlist) (config : Config) (ports : Ports) → IsReady n config → SuitsEdt n config ports → CapturesStand n config ports
