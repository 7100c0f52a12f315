-- The bits of ports, set pattern by pattern.
use Rattle.std.specs.Prelude.{ℕ, Bool, ◌≡◌, ◌==◌, ◌&&◌, List, length, Some, slice_get, if◌then◌else◌}
use Rattle.dft_base.specs.Tri.{known}
use Rattle.dft_netlist.specs.declared.ids.NetId.{NetId}
use Rattle.dft_evaluator.specs.Evaluations.{Evaluation, value_at}
use Rattle.dft_expect.specs.declared.response.Response.{Response}
use Rattle.dft_expect.specs.declared.settings.Setting.{Setting}
use Rattle.dft_expect.specs.Captures.{bit_of_port}
use Rattle.dft_expect.specs.Settings.{setting_at, is_input, moved_by, port_or}

-- the evaluator is for the same nets, and they mean the same
pub record IsSame (old new : Evaluation) : Type 0 where
  pub meanings : new.meanings ≡ old.meanings
  pub nets : length new.wides ≡ length old.wides

-- a bit for a port is set in a pattern, if the port may have it
pub record IsPortSet (settings : List Setting) (pattern : ℕ) (given : NetId × Bool) (old new : Evaluation) : Type 0 where
  pub each : (q k : ℕ) → value_at new q k ≡ (if (q == pattern) && ((given.0.0 == k) && is_input (setting_at settings k)) then known given.1 else value_at old q k)

-- the bits for ports are set in a pattern
pub record ArePortsSet (settings : List Setting) (pattern : ℕ) (ports : List (NetId × Bool)) (old new : Evaluation) : Type 0 where
  pub each : (q k : ℕ) → value_at new q k ≡ (if q == pattern then port_or (is_input (setting_at settings k)) (bit_of_port ports k) (value_at old q k) else value_at old q k)

-- a net has what these responses' cells have, if it shows a cell
pub record IsCellSet (setting : Setting) (net : ℕ) (risen : List Response) (old new : Evaluation) : Type 0 where
  pub each : (p : ℕ) (r : Response) → slice_get risen p ≡ Some r → (k : ℕ) → value_at new p k ≡ (if k == net then moved_by setting r.cells (value_at old p k) else value_at old p k)
