-- Loads and unloads of a scanned netlist of style Edt (Rajski and others, 2004).
use Rattle.std.specs.Prelude.{ℕ, ◌<◌, ◌≤◌, ◌≡◌, ◌&&◌, Bool, false, not, List, length, Some}
use Rattle.dft_base.specs.declared.tri.Tri.{Tri}
use Rattle.dft_base.specs.Tri.{known}
use Rattle.dft_netlist.specs.declared.ids.InstanceId.{InstanceId}
use Rattle.dft_behavior.specs.Logic.{Ports}
use Rattle.dft_netlist.specs.Netlist.{Netlist}
use Rattle.dft_behavior.specs.Runs.{Now, Vector, Turn, IsTurn, after_turn, AreTurns, IsRun}
use Rattle.dft_abstract.specs.Cycle.{Round, IsRound, after_round}
use Rattle.dft_abstract.specs.Laws.{shown}
use Rattle.dft_config.specs.Config.{Config}
use Rattle.dft_config.specs.Cycles.{longest_segment}
use Rattle.dft_config.specs.Ring.{Table, sum_of}
use Rattle.dft_runs.specs.Passes.{AreRounds, after_rounds, after_turns}
use Rattle.dft_stitch.specs.Chains.{plan_of}
use Rattle.dft_stitch.specs.Plans.{cell_at, falling_head}
use Rattle.dft_edt.specs.Hardware.{group_of}
use Rattle.dft_edt.specs.Loads.{CarryTable, load_sum}
use Rattle.dft_edt.specs.Unloads.{SendMasks, Rest, AreMasked, end_bit, end_value}
use Rattle.dft_edt.specs.Vectors.{IsClearing, Clears}
use Rattle.dft_scan_frame.specs.Statements.{IsReady}
use Rattle.dft_insert.specs.declared.style.Style.TheVariants.{Edt}
use Rattle.dft_insert.specs.Agreeing.{ports_in}
use Rattle.dft_scan_behavior.specs.Facts.{chain_nets, edt_hardware}
use Rattle.dft_scan_behavior.specs.EdtVectors.{SuitsEdt, edt_logic, IsShift}

-- shift vectors whose channels carry a table
abbrev pub Carry : Netlist → Config → Table → List Vector → Type 0
Carry n config table xs = CarryTable (ports_in Edt n config) config (chain_nets Edt n config) (edt_hardware n config) table 0 xs

-- vectors that send these masks
abbrev pub Send : Netlist → Config → (masks : ℕ → Bool) → List Vector → Type 0
Send n config masks xs = SendMasks config (edt_hardware n config) masks (length xs) 0 xs

-- ---- loads

-- In every run: after any vectors, a clearing vector and shift vectors whose channels carry a table, each cell that the load reaches
-- holds the sum of the table over its load equation.
abbrev pub LoadsInRuns : Netlist → Config → Ports → Type 0
LoadsInRuns n config ports =
    (table : Table) (before : List Vector) (clear : Vector) (load : List Vector) (start : Now) (ts : List Turn) (a : Turn) (us : List Turn) →
    let l = edt_logic n config ports in
    let now = after_turns l start before ts in
    IsClearing (edt_hardware n config) clear → Carry n config table load → IsRun l before start ts → IsTurn l clear now a → AreTurns l (after_turn l clear now a) load us →
    (chain place : ℕ) (cell : InstanceId) → cell_at (plan_of n config).chains chain place ≡ Some cell → place < length load →
    (after_turns l (after_turn l clear now a) load us).state.flops cell.0 ≡ load_sum config table (length load) (falling_head (plan_of n config) chain) chain place

-- So it is on the abstract cycle, from any values.
abbrev pub LoadsInRounds : Netlist → Config → Ports → Type 0
LoadsInRounds n config ports =
    (table : Table) (clear : Vector) (load : List Vector) (old : ℕ → Tri) (r : Round) (rs : List Round) →
    let l = edt_logic n config ports in
    IsClearing (edt_hardware n config) clear → Carry n config table load → IsRound l clear old r → AreRounds l (after_round l clear old r) load rs →
    (chain place : ℕ) (cell : InstanceId) → cell_at (plan_of n config).chains chain place ≡ Some cell → place < length load →
    after_rounds l (after_round l clear old r) load rs cell.0 ≡ known (load_sum config table (length load) (falling_head (plan_of n config) chain) chain place)

-- A load puts into each cell exactly the sum over its load equation.
abbrev pub LoadsReach : Type 0
LoadsReach = (n : Netlist) (config : Config) (ports : Ports) → IsReady n config → SuitsEdt n config ports → LoadsInRuns n config ports × LoadsInRounds n config ports

-- ---- unloads

-- In every run: after any vectors, a load with masks and any vectors in which edt_clock does not pulse, a clearing vector and shift
-- vectors with a table, at the strobe of the next shift vector each output is the sum, over the chains of its group that are not
-- masked, of the bit that stood so many places from the end of the chain after the clearing vector; past the chain's length that bit
-- is the phase sum from the table, a cycle later where the chain begins with a falling cell.
abbrev pub UnloadsInRuns : Netlist → Config → Ports → Type 0
UnloadsInRuns n config ports =
    (table : Table) (masks : ℕ → Bool) (before load between : List Vector) (clear : Vector) (unload : List Vector) (x : Vector) (start : Now) (ts us ms : List Turn) (a : Turn) (vs : List Turn) (b : Turn) →
    let l = edt_logic n config ports in
    let loaded = after_turns l (after_turns l start before ts) load us in
    let rested = after_turns l loaded between ms in
    let cleared = after_turn l clear rested a in
    Send n config masks load → longest_segment config ≤ length load → Rest (edt_hardware n config) between → IsClearing (edt_hardware n config) clear → Carry n config table unload → IsShift n config x →
    IsRun l before start ts → AreTurns l (after_turns l start before ts) load us → AreTurns l loaded between ms → IsTurn l clear rested a → AreTurns l cleared unload vs → IsTurn l x (after_turns l cleared unload vs) b →
    (j : ℕ) → j < length config.compactor.groups →
    shown b ((edt_hardware n config).output j) ≡ sum_of (λ chain. not (masks chain) && end_bit config.ring (plan_of n config).chains (falling_head (plan_of n config)) table cleared.state.flops (length unload) chain) (group_of config j)

-- On the abstract cycle, from a clear ring and known hold bits: each output is known where the ends of its chains that are not masked
-- are, and is their sum. Cells of masked chains may be Unknown.
abbrev pub UnloadsInRounds : Netlist → Config → Ports → Type 0
UnloadsInRounds n config ports =
    (table : Table) (masks : ℕ → Bool) (unload : List Vector) (x : Vector) (old : ℕ → Tri) (rs : List Round) (r : Round) (ends : ℕ → Bool) →
    let l = edt_logic n config ports in
    Carry n config table unload → IsShift n config x → AreRounds l old unload rs → IsRound l x (after_rounds l old unload rs) r →
    Clears config (edt_hardware n config) old → AreMasked config (edt_hardware n config) masks old →
    ((chain : ℕ) → chain < config.chains → masks chain ≡ false → end_value config.ring (plan_of n config).chains (falling_head (plan_of n config)) table old (length unload) chain ≡ known (ends chain)) →
    (j : ℕ) → j < length config.compactor.groups → r.strobe ((edt_hardware n config).output j) ≡ known (sum_of (λ chain. not (masks chain) && ends chain) (group_of config j))

-- After a load with masks, and any vectors in which edt_clock does not pulse, a clearing vector leaves the masks in the hold bits,
-- and the ring clear.
abbrev pub MasksArrive : Netlist → Config → Ports → Type 0
MasksArrive n config ports =
    (masks : ℕ → Bool) (load between : List Vector) (clear : Vector) (old : ℕ → Tri) (rs qs : List Round) (r : Round) →
    let l = edt_logic n config ports in
    let rested = after_rounds l (after_rounds l old load rs) between qs in
    Send n config masks load → longest_segment config ≤ length load → Rest (edt_hardware n config) between → IsClearing (edt_hardware n config) clear →
    AreRounds l old load rs → AreRounds l (after_rounds l old load rs) between qs → IsRound l clear rested r →
    let new = after_round l clear rested r in
    AreMasked config (edt_hardware n config) masks new × Clears config (edt_hardware n config) new

-- An unload shows at each output exactly the sum of the chains that are not masked.
abbrev pub UnloadsShow : Type 0
UnloadsShow =
    (n : Netlist) (config : Config) (ports : Ports) → IsReady n config → SuitsEdt n config ports → UnloadsInRuns n config ports × UnloadsInRounds n config ports × MasksArrive n config ports
