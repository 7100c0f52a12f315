-- What is at hand while a pattern is unloaded.
use Rattle.std.specs.Prelude.{ℕ, ◌≡◌, ◌<◌, List, length, take, slice_index_or}
use Rattle.dft_netlist.specs.declared.ids.InstanceId.{InstanceId}
use Rattle.dft_expect.specs.Loaded.{all_cells}

-- where the values of each chain begin, in a list of the values of all
pub record AreStarts (chains : List (List InstanceId)) (starts : List ℕ) : Type 0 where
  pub count : length starts ≡ length chains
  pub each : (k : ℕ) → k < length chains → slice_index_or starts k 0 ≡ length (all_cells (take k chains))
