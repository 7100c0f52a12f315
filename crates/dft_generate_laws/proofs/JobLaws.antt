-- The texts of every generated job are read.
use Rattle.std.proofs.Common.{ℕ, List, sym, ap, subst, ◌∙◌}
use Rattle.dft_base.specs.Lexing.{Text}
use Rattle.dft_cells.specs.Standard.{standard_cells}
use Rattle.dft_config_text.specs.Refusals.{IsConfig}
use Rattle.dft_netlist_text.specs.NetlistText.{StandsFor}
use Rattle.dft_cubes.specs.Cubes.{cubes_of}
use Rattle.dft_generate.specs.Configurations.{configuration}
use Rattle.dft_generate.specs.Words.{words_of}
use Rattle.dft_generate_laws.proofs.ReadConfiguration.{configuration_read}
use Rattle.dft_generate_laws.specs.Designs.{design}
use Rattle.dft_generate_laws.specs.Laws.{JobsAreRead}
use Rattle.dft_generate_laws.proofs.CubeTexts.{cubes_are_read}
use Rattle.dft_generate_laws.proofs.NetlistLaws.{netlists_are_read}
use Rattle.dft_generate_laws.proofs.Seeds.{seeds_give_words}

pub jobs_are_read : JobsAreRead
jobs_are_read seed size job is of_job =
    let words : List ℕ = words_of seed size in
    record {
      netlist = subst (λ (t : Text). StandsFor standard_cells t (design size words)) (sym of_job.netlist) (netlists_are_read size words is);
      configuration = subst (λ (t : Text). IsConfig t configuration) (sym of_job.configuration) configuration_read;
      cubes = ap (cubes_of (design size words) configuration) of_job.cubes ∙ cubes_are_read size words is (seeds_give_words seed size);
    }
