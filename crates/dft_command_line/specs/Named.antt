-- The commands that words are, as the code has them.
use Rattle.std.specs.Prelude.{option_map}
use Rattle.dft_command_line.specs.declared.commands.Command.{Command}
use Rattle.dft_command_line.specs.declared.commands.Command.TheVariants as command
use Rattle.dft_command_line.specs.declared.commands.ReplayFiles.{ReplayFiles}
use Rattle.dft_command_line.specs.declared.commands.ScanFiles.{ScanFiles}
use Rattle.dft_command_line.specs.declared.commands.CompileFiles.{CompileFiles}
use Rattle.dft_command_line.specs.declared.commands.CertifyFiles.{CertifyFiles}
use Rattle.dft_command_line.specs.declared.commands.JobNumbers.{JobNumbers}
use Rattle.dft_command_line.specs.declared.commands.GradeFiles.{GradeFiles}
use Rattle.dft_command_line.specs.declared.commands.HardwareNumbers.{HardwareNumbers}
use Rattle.dft_command_line.specs.declared.commands.ConfigureFiles.{ConfigureFiles}
use Rattle.dft_command_line.specs.declared.commands.SeekFiles.{SeekFiles}
use Rattle.dft_command_line.specs.Words as words

abbrev pub replay_files_of : ReplayFiles → words.ReplayFiles
replay_files_of files = record { library = option_map (λ name. name.now) files.library; netlist = files.netlist.now; patterns = files.patterns.now }

abbrev pub scan_files_of : ScanFiles → words.ScanFiles
scan_files_of files = record {
  library = option_map (λ name. name.now) files.library;
  netlist = files.netlist.now;
  config = files.config.now;
  out = files.out.now;
  report = files.report.now;
}

abbrev pub compile_files_of : CompileFiles → words.CompileFiles
compile_files_of files = record {
  library = option_map (λ name. name.now) files.library;
  netlist = files.netlist.now;
  config = files.config.now;
  cubes = files.cubes.now;
  out_netlist = files.out_netlist.now;
  out_patterns = files.out_patterns.now;
  out_report = files.out_report.now;
}

abbrev pub certify_files_of : CertifyFiles → words.CertifyFiles
certify_files_of files = record {
  library = option_map (λ name. name.now) files.library;
  netlist = files.netlist.now;
  config = files.config.now;
  cubes = files.cubes.now;
  report = files.report.now;
}

abbrev pub numbers_of : JobNumbers → words.JobNumbers
numbers_of job = record { seed = job.seed; size = job.size }

abbrev pub grade_files_of : GradeFiles → words.GradeFiles
grade_files_of files = record { library = option_map (λ name. name.now) files.library; netlist = files.netlist.now; patterns = files.patterns.now; out = files.out.now }

abbrev pub hardware_of : HardwareNumbers → words.HardwareNumbers
hardware_of numbers = record { channels = numbers.channels; chains = numbers.chains; longest = numbers.longest; outputs = numbers.outputs; masks = numbers.masks }

abbrev pub configure_files_of : ConfigureFiles → words.ConfigureFiles
configure_files_of files = record { library = option_map (λ name. name.now) files.library; netlist = files.netlist.now; out = files.out.now; numbers = hardware_of files.numbers }

abbrev pub seek_files_of : SeekFiles → words.SeekFiles
seek_files_of files = record {
  library = option_map (λ name. name.now) files.library;
  netlist = files.netlist.now;
  config = files.config.now;
  clock = files.clock.now;
  limit = files.limit;
  out_cubes = files.out_cubes.now;
  out_report = files.out_report.now;
}

abbrev pub command_of : Command → words.Command
command_of (command.Replay files) = words.Replay (replay_files_of files)
command_of (command.Scan files) = words.Scan (scan_files_of files)
command_of (command.Compile files) = words.Compile (compile_files_of files)
command_of (command.Certify files) = words.Certify (certify_files_of files)
command_of (command.Generate job) = words.Generate (numbers_of job)
command_of (command.Grade files) = words.Grade (grade_files_of files)
command_of (command.Configure files) = words.Configure (configure_files_of files)
command_of (command.Seek files) = words.Seek (seek_files_of files)
