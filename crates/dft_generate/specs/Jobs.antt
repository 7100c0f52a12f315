-- Generated jobs.
use Rattle.std.specs.Prelude.{ℕ, ◌≡◌, ◌≤◌, ◌&&◌, Bool, List, nat_le}
use Rattle.dft_generate.specs.declared.job.Job.{Job}
use Rattle.dft_generate.specs.Configurations.{configuration_text}
use Rattle.dft_generate.specs.Cubes.{cubes_text}
use Rattle.dft_generate.specs.Netlists.{netlist_text}

-- a job has 16 to 20,000 cells
pub record IsSize (size : ℕ) : Type 0 where
  pub low : 16 ≤ size
  pub high : size ≤ 20000

abbrev pub is_size : (size : ℕ) → Bool
is_size size = nat_le 16 size && nat_le size 20000

-- the texts are those that these words give
pub record IsJob (size : ℕ) (words : List ℕ) (job : Job) : Type 0 where
  pub netlist : job.netlist.items ≡ netlist_text size words
  pub configuration : job.configuration.items ≡ configuration_text
  pub cubes : job.cubes.items ≡ cubes_text size words
