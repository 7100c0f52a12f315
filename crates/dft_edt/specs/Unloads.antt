-- Masks that are sent during a load, and what the outputs show in an unload.
use Rattle.std.specs.Prelude.{ℕ, suc, ◌+◌, ◌-◌, ◌<◌, ◌≤◌, ◌≡◌, ◌&&◌, Bool, true, false, not, nat_lt, List, [], ◌∷◌, length, get_or, if◌then◌else◌}
use Rattle.dft_base.specs.declared.tri.Tri.{Tri}
use Rattle.dft_base.specs.Tri.{known}
use Rattle.dft_netlist.specs.declared.ids.InstanceId.{InstanceId}
use Rattle.dft_behavior.specs.Logic.{Logic, Ports, IsRanked}
use Rattle.dft_behavior.specs.Runs.{Now, Vector, Turn, IsTurn, after_turn, AreTurns, IsRun}
use Rattle.dft_abstract.specs.Cycle.{Round, IsRound}
use Rattle.dft_abstract.specs.Laws.{shown}
use Rattle.dft_config.specs.Config.{Config}
use Rattle.dft_config.specs.declared.config.RingConfig.{RingConfig}
use Rattle.dft_config.specs.Cycles.{longest_segment}
use Rattle.dft_config.specs.Segments.{sent_mask}
use Rattle.dft_config.specs.Range.{IsInRange}
use Rattle.dft_config.specs.Loads.{delay}
use Rattle.dft_config.specs.Ring.{Table, sum_of, state_after, phase_sum}
use Rattle.dft_chains.specs.Hardware.{ChainNets}
use Rattle.dft_runs.specs.Passes.{Pass, Passes, ArePasses, end_of, AreRounds, after_rounds, after_turns}
use Rattle.dft_edt.specs.Hardware.{EdtNets, IsEdt, HeadsAre, group_of}
use Rattle.dft_edt.specs.Vectors.{IsEdtShift, IsClearing, Sends, Clears}
use Rattle.dft_edt.specs.Loads.{CarryTable}

-- ---- masks

-- vectors that send the masks, from a cycle on; edt_clock pulses, and all else is anything
abbrev pub SendMasks : Config → EdtNets → (masks : ℕ → Bool) → (cycles cycle : ℕ) → List Vector → Type 0
SendMasks config hw masks cycles cycle [] = Unit {0}
SendMasks config hw masks cycles cycle (x ∷ xs) =
    ((x.pulsed hw.clock ≡ true) × Sends config hw (λ segment. sent_mask config masks cycles segment cycle) x) × SendMasks config hw masks cycles (suc cycle) xs

-- vectors in which edt_clock does not pulse; all else in them is anything
abbrev pub Rest : EdtNets → List Vector → Type 0
Rest hw [] = Unit {0}
Rest hw (x ∷ xs) = (x.pulsed hw.clock ≡ false) × Rest hw xs

-- the hold bits are these masks
abbrev pub AreMasked : Config → EdtNets → (masks : ℕ → Bool) → (values : ℕ → Tri) → Type 0
AreMasked config hw masks values = (chain : ℕ) → chain < config.chains → values (hw.hold chain) ≡ known (masks chain)

-- After a load with masks, and any vectors in which edt_clock does not pulse, a clearing vector leaves the masks in the hold bits,
-- and the ring clear.
abbrev pub MasksPass : Type 0
MasksPass =
    (l : Logic) (ports : Ports) (config : Config) (chains : List (List InstanceId)) (w : ChainNets) (hw : EdtNets) (masks : ℕ → Bool)
    (load between : List Vector) (clear : Vector) (old : ℕ → Tri) (ps qs : List Pass) (p : Pass) →
    IsEdt l ports config chains w hw → IsInRange config → SendMasks config hw masks (length load) 0 load → longest_segment config ≤ length load → Rest hw between → IsClearing hw clear →
    ArePasses l old load ps → ArePasses l (end_of old ps) between qs → Passes l clear (end_of (end_of old ps) qs) p → AreMasked config hw masks p.new × Clears config hw p.new

-- ---- what comes out of a chain

-- the value at the end of a chain so many shift vectors after a clearing one: that of the cell so many places before, and past the
-- chain's length what came from the ring, a cycle later where the chain begins with a falling cell
abbrev pub end_value : RingConfig → List (List InstanceId) → (falling : ℕ → Bool) → Table → (values : ℕ → Tri) → (shifts chain : ℕ) → Tri
end_value ring chains falling table values shifts chain =
    let cells = get_or chains chain [] in
    if nat_lt shifts (length cells) then values (get_or cells (length cells - suc shifts) (record { 0 = 0 })).0 else known (phase_sum ring chain (state_after ring table (shifts - length cells + delay (falling chain))))

-- From a clear ring and hold bits that are known, at the strobe of the shift vector after so many: each output is known where the
-- ends of its chains that are not masked are, and is their sum. Cells of masked chains may be Unknown.
abbrev pub UnloadPasses : Type 0
UnloadPasses =
    (l : Logic) (ports : Ports) (config : Config) (chains : List (List InstanceId)) (w : ChainNets) (hw : EdtNets) (falling : ℕ → Bool) (table : Table) (masks : ℕ → Bool)
    (unload : List Vector) (x : Vector) (old : ℕ → Tri) (ps : List Pass) (p : Pass) (ends : ℕ → Bool) →
    IsEdt l ports config chains w hw → HeadsAre l chains falling → IsInRange config → CarryTable ports config w hw table 0 unload → IsEdtShift ports w hw x →
    ArePasses l old unload ps → Passes l x (end_of old ps) p → Clears config hw old → AreMasked config hw masks old →
    ((chain : ℕ) → chain < config.chains → masks chain ≡ false → end_value config.ring chains falling table old (length unload) chain ≡ known (ends chain)) →
    (j : ℕ) → j < length config.compactor.groups → p.seen (hw.output j) ≡ known (sum_of (λ chain. not (masks chain) && ends chain) (group_of config j))

-- so it is on the abstract cycle
abbrev pub UnloadInRounds : Type 0
UnloadInRounds =
    (l : Logic) (ports : Ports) (config : Config) (chains : List (List InstanceId)) (w : ChainNets) (hw : EdtNets) (falling : ℕ → Bool) (table : Table) (masks : ℕ → Bool)
    (unload : List Vector) (x : Vector) (old : ℕ → Tri) (rs : List Round) (r : Round) (ends : ℕ → Bool) →
    IsEdt l ports config chains w hw → HeadsAre l chains falling → IsInRange config → CarryTable ports config w hw table 0 unload → IsEdtShift ports w hw x →
    AreRounds l old unload rs → IsRound l x (after_rounds l old unload rs) r → Clears config hw old → AreMasked config hw masks old →
    ((chain : ℕ) → chain < config.chains → masks chain ≡ false → end_value config.ring chains falling table old (length unload) chain ≡ known (ends chain)) →
    (j : ℕ) → j < length config.compactor.groups → r.strobe (hw.output j) ≡ known (sum_of (λ chain. not (masks chain) && ends chain) (group_of config j))

-- the same bit of a run
abbrev pub end_bit : RingConfig → List (List InstanceId) → (falling : ℕ → Bool) → Table → (flops : ℕ → Bool) → (shifts chain : ℕ) → Bool
end_bit ring chains falling table flops shifts chain =
    let cells = get_or chains chain [] in
    if nat_lt shifts (length cells) then flops (get_or cells (length cells - suc shifts) (record { 0 = 0 })).0 else phase_sum ring chain (state_after ring table (shifts - length cells + delay (falling chain)))

-- In every run: after any vectors, a load with masks and any vectors in which edt_clock does not pulse, a clearing vector and shift
-- vectors with a table, at the strobe of the next one each output is the sum, over the chains of its group that are not masked, of the
-- bit that stood so many places from the end of the chain after the clearing vector; past the chain's length that bit is the phase sum
-- from the table, a cycle later where the chain begins with a falling cell.
abbrev pub UnloadInRuns : Type 0
UnloadInRuns =
    (l : Logic) (rank : ℕ → ℕ) (ports : Ports) (config : Config) (chains : List (List InstanceId)) (w : ChainNets) (hw : EdtNets) (falling : ℕ → Bool) (table : Table) (masks : ℕ → Bool)
    (before load between : List Vector) (clear : Vector) (unload : List Vector) (x : Vector) (start : Now) (ts us ms : List Turn) (a : Turn) (vs : List Turn) (b : Turn) →
    IsRanked l rank → IsEdt l ports config chains w hw → HeadsAre l chains falling → IsInRange config →
    SendMasks config hw masks (length load) 0 load → longest_segment config ≤ length load → Rest hw between → IsClearing hw clear → CarryTable ports config w hw table 0 unload → IsEdtShift ports w hw x →
    IsRun l before start ts →
    let loaded = after_turns l (after_turns l start before ts) load us in
    let rested = after_turns l loaded between ms in
    let cleared = after_turn l clear rested a in
    AreTurns l (after_turns l start before ts) load us → AreTurns l loaded between ms → IsTurn l clear rested a → AreTurns l cleared unload vs → IsTurn l x (after_turns l cleared unload vs) b →
    (j : ℕ) → j < length config.compactor.groups →
    shown b (hw.output j) ≡ sum_of (λ chain. not (masks chain) && end_bit config.ring chains falling table cleared.state.flops (length unload) chain) (group_of config j)
