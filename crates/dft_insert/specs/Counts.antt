-- How many flip-flops and lock-ups insertion adds.
use Rattle.std.specs.Prelude.{ℕ, ◌+◌, ◌*◌, ◌≡◌, Bool, not, length, drop, count_by}
use Rattle.dft_cells.specs.declared.kind.Kind.{Kind}
use Rattle.dft_cells.specs.FlipFlops.{is_flip_flop}
use Rattle.dft_netlist.specs.Drivers.{shape_of}
use Rattle.dft_netlist.specs.Netlist.{Netlist}
use Rattle.dft_config.specs.Config.{Config}
use Rattle.dft_stitch.specs.Chains.{plan_of}
use Rattle.dft_parts.specs.Cells.{is_lockup}
use Rattle.dft_scan_frame.specs.Statements.{IsReady}
use Rattle.dft_insert.specs.declared.style.Style.{Style}
use Rattle.dft_insert.specs.declared.style.Style.TheVariants.{Plain, Edt}
use Rattle.dft_insert.specs.Statements.{scanned}

-- how many instances behind the first so many are of a kind that passes a test
abbrev pub count_behind : (Kind → Bool) → (first : ℕ) → Netlist → ℕ
count_behind test first n = count_by (λ x. test (shape_of n.library x.cell).kind) (drop first n.instances)

-- style Edt adds a flip-flop for each stage of the ring, and for each chain the flip-flops of its mask bit and of its hold bit
abbrev pub flip_flops_in : Style → Config → ℕ
flip_flops_in Plain config = 0
flip_flops_in Edt config = config.ring.stages + 2 * config.chains

-- each style adds the planned lock-ups between domains; style Edt adds one on edt_clock for each chain whose first cell is rising
abbrev pub lockups_in : Style → Netlist → Config → ℕ
lockups_in Plain n config = length (plan_of n config).lockups
lockups_in Edt n config = length (plan_of n config).lockups + count_by not (plan_of n config).heads

-- so many flip-flops and lock-ups stand behind the design's instances
pub record HasCounts (style : Style) (n : Netlist) (config : Config) : Type 0 where
  pub flip_flops : count_behind is_flip_flop (length n.instances) (scanned style n config) ≡ flip_flops_in style config
  pub lockups : count_behind is_lockup (length n.instances) (scanned style n config) ≡ lockups_in style n config

-- It adds so many.
abbrev pub CountsAdded : Type 0
CountsAdded = (style : Style) (n : Netlist) (config : Config) → IsReady n config → HasCounts style n config
