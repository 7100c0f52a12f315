-- Where no check of a design fails, a compilation ends as its cubes do.
use Rattle.std.proofs.Common.{ℕ, ◌≡◌, inl, inr, List, codes, Option, None, Some, Ok, subst}
use Rattle.dft_files.specs.Outside.{Held, file_at}
use Rattle.dft_cells.specs.declared.cell.Cell.{Cell}
use Rattle.dft_config.specs.Config.{Config}
use Rattle.dft_netlist.specs.Netlist.{Netlist}
use Rattle.dft_stitch.specs.Planning.{Planned}
use Rattle.dft_compile.specs.Refusals.{first_refusal}
use Rattle.dft_command_line.specs.Words.{Command, Compile, CompileFiles}
use Rattle.dft_command_line.proofs.Understood.{for_once}
use Rattle.dft_answers.specs.declared.outcome.Outcome.{Outcome}
use Rattle.dft_top.specs.declared.limits.TheConstants.{MAX_CONFIG_BYTES, MAX_NETLIST_BYTES}
use Rattle.dft_top.specs.Checks.{ConfigGives, ConfigText, DesignGives, LibraryGives, NetlistGives, NetlistText}
use Rattle.dft_top.specs.Courses.{Reaches, Then}
use Rattle.dft_top.specs.Outcomes.{IsOutcomeFor, course_of_compile, course_of_cubes}
use Rattle.dft_top.specs.Promises.{EndsByCubes}
use Rattle.dft_top.proofs.Readings.{config_text_one, file_one, given_next, library_gives_one, netlist_text_one, accepted_or_refused}
use Rattle.dft_top.proofs.Steps.{CompileOf, CompileOn, CompileOver, CompileWith}

-- where no check of the design fails, what comes behind gives the outcome
design_next : (n : Netlist) (c : Config) (next : Planned → Outcome → Type 0) (o : Outcome) → first_refusal n c ≡ None → Then (DesignGives n c) next o → (prepared : Planned) × next prepared o
design_next n c next o none (inl x) = (x.0, x.1.1)
design_next n c next o none (inr x) = absurd (accepted_or_refused (first_refusal n c) x.1.0.0 none x.1.0.1.0)

pub cubes_next : (files : CompileFiles) (held : Held) (cells : List Cell) (c : Config) (n : Netlist) (o : Outcome) → LibraryGives files.library held (Ok cells) → ConfigGives files.config held (Ok c) →
    NetlistGives cells files.netlist held (Ok n) → first_refusal n c ≡ None → Reaches (course_of_compile files) held o → Reaches (course_of_cubes n c files.cubes) held o
cubes_next files held cells c n o library config netlist first is =
    let over = given_next (LibraryGives files.library held) (CompileOver files held) o cells (library_gives_one files.library held) library is in
    let on = given_next (ConfigGives files.config held) (CompileOn files cells held) o c (file_one MAX_CONFIG_BYTES (codes "config") ConfigText config_text_one (file_at files.config held)) config over in
    let of = given_next (NetlistGives cells files.netlist held) (CompileOf files c held) o n (file_one MAX_NETLIST_BYTES (codes "netlist") (NetlistText cells) (netlist_text_one cells) (file_at files.netlist held)) netlist on in
    (design_next n c (CompileWith n c files.cubes held) o first of).1

pub ends_by_cubes : (cells : List Cell) (n : Netlist) (c : Config) → first_refusal n c ≡ None → EndsByCubes cells n c
ends_by_cubes cells n c first words files held o is library config netlist x =
    cubes_next files held cells c n o library config netlist first
    (subst (λ (command : Option Command). IsOutcomeFor command held o) (for_once words x.0 (Some (Compile files)) x.1.0 is) x.1.1)
