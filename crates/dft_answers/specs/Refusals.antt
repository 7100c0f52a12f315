-- Refusals, and what the errors of readers, of a scan, of a compilation and of a test of certificates come to.
use Rattle.std.specs.Prelude.{ℕ, ℤ, pos, List, codes, Option, None, Some}
use Rattle.dft_base.specs.declared.place.Place.{Place}
use Rattle.dft_library_text.specs.declared.refusal.LibraryError.{LibraryError}
use Rattle.dft_library_text.specs.declared.refusal.LibraryError.TheVariants as library
use Rattle.dft_netlist.specs.declared.error.Counted.{Counted}
use Rattle.dft_netlist.specs.declared.error.Counted.TheVariants as counted
use Rattle.dft_netlist.specs.declared.error.NetlistError.{NetlistError}
use Rattle.dft_netlist.specs.declared.error.NetlistError.TheVariants as netlist
use Rattle.dft_verilog.specs.declared.error.VerilogError.{VerilogError}
use Rattle.dft_verilog.specs.declared.error.VerilogError.TheVariants as verilog
use Rattle.dft_verilog.specs.declared.error.ModulesError.{ModulesError}
use Rattle.dft_verilog.specs.declared.error.ModulesError.TheVariants as modules
use Rattle.dft_hier.specs.declared.error.HierError.{HierError}
use Rattle.dft_hier.specs.declared.error.HierError.TheVariants as hier
use Rattle.dft_netlist_reader.specs.declared.error.DesignError.{DesignError}
use Rattle.dft_netlist_reader.specs.declared.error.DesignError.TheVariants as design
use Rattle.dft_stil_text.specs.declared.error.StilError.{StilError}
use Rattle.dft_stil_text.specs.declared.error.StilError.TheVariants as stil
use Rattle.dft_config_text.specs.declared.error.ConfigError.{ConfigError}
use Rattle.dft_config_text.specs.declared.error.ConfigError.TheVariants as config
use Rattle.dft_rules.specs.declared.error.RuleError.{RuleError}
use Rattle.dft_rules.specs.declared.error.RuleError.TheVariants as rule
use Rattle.dft_stitch.specs.declared.error.Counted.{Counted as Planned}
use Rattle.dft_stitch.specs.declared.error.Counted.TheVariants as planned
use Rattle.dft_stitch.specs.declared.error.StitchError.{StitchError}
use Rattle.dft_stitch.specs.declared.error.StitchError.TheVariants as stitch
use Rattle.dft_scan_frame.specs.declared.error.InsertError.{InsertError}
use Rattle.dft_scan_frame.specs.declared.error.InsertError.TheVariants as insert
use Rattle.dft_report.specs.declared.error.ReportError.{ReportError}
use Rattle.dft_report.specs.declared.error.ReportError.TheVariants as report
use Rattle.dft_scan.specs.declared.error.ScanError.{ScanError}
use Rattle.dft_scan.specs.declared.error.ScanError.TheVariants as scan
use Rattle.dft_cubes.specs.declared.error.CubeError.{CubeError}
use Rattle.dft_cubes.specs.declared.error.CubeError.TheVariants as cube
use Rattle.dft_compile.specs.declared.error.CompileError.{CompileError}
use Rattle.dft_compile.specs.declared.error.CompileError.TheVariants as compile
use Rattle.dft_configuring.specs.declared.error.ConfigureError.{ConfigureError}
use Rattle.dft_configuring.specs.declared.error.ConfigureError.TheVariants as configure
use Rattle.dft_configuring.specs.declared.error.Limited.{Limited}
use Rattle.dft_configuring.specs.declared.error.Limited.TheVariants as limited
use Rattle.dft_cubes.specs.declared.limits.TheConstants.{MAX_CUBES}
use Rattle.dft_seeking.specs.declared.error.SeekError.{SeekError}
use Rattle.dft_seeking.specs.declared.error.SeekError.TheVariants as seek
use Rattle.dft_report_reader.specs.declared.error.ReadError.{ReadError}
use Rattle.dft_report_reader.specs.declared.error.ReadError.TheVariants as read
use Rattle.dft_certify.specs.declared.error.CertifyError.{CertifyError}
use Rattle.dft_certify.specs.declared.error.CertifyError.TheVariants as certify
use Rattle.dft_answers.specs.declared.answer.Code.{Code}
use Rattle.dft_answers.specs.declared.answer.Code.TheVariants.{L1, L2, L3, L4, L5, L6, L7, C1, C2, C3, C4, C5, C6, V1, V2, V3, V5, V6, V7, V9, V10, V11, V12, H1, H2, H3, H4, H5, N1, N2, N3, N4, G1, G2, G3, G4, G5, G6, G7, P1, P2, P3, P4, P5, P6, P8, P9, P10, Q1, Q2, Q3, Q4, Q5, Q6, Q7, Q8, Q9, K1, K2, K3, K4, K5, K6, X2, X3, X4}
use Rattle.dft_answers.specs.declared.answer.Refusal.{Refusal}

-- ---- refusals by their parts

abbrev pub plain : Code → Refusal
plain code = record { code = code; place = None; name = None; first = None; second = None }

abbrev pub named : Code → (name : List ℕ) → Refusal
named code name = record (plain code) { name = Some name }

abbrev pub placed : Code → Place → Refusal
placed code place = record (plain code) { place = Some place }

abbrev pub worded : Code → Place → (word : List ℕ) → Refusal
worded code place word = record (placed code place) { name = Some word }

abbrev pub numbered : Code → (name : List ℕ) → (number : ℤ) → Refusal
numbered code name number = record (named code name) { first = Some number }

abbrev pub measured : Code → (number : ℤ) → Refusal
measured code number = record (plain code) { first = Some number }

abbrev pub paired : Code → (first second : ℤ) → Refusal
paired code first second = record (measured code first) { second = Some second }

-- ---- the refusal that an error comes to; none where memory ran out

abbrev pub library_refusal : LibraryError → Option Refusal
library_refusal library.NotToml = Some (plain L6)
library_refusal (library.L1 name) = Some (named L1 name)
library_refusal (library.L2 name) = Some (named L2 name)
library_refusal (library.L3 name) = Some (named L3 name)
library_refusal (library.L4 name) = Some (named L4 name)
library_refusal (library.L5 name) = Some (named L5 name)
library_refusal (library.L7 name) = Some (named L7 name)
library_refusal (library.Memory error) = None

abbrev pub counted_text : Counted → List ℕ
counted_text counted.Ports = codes "ports"
counted_text counted.Nets = codes "nets"
counted_text counted.Instances = codes "instances"

abbrev pub netlist_refusal : NetlistError → Option Refusal
netlist_refusal (netlist.MultipleDrivers net) = Some (named N1 net)
netlist_refusal (netlist.Loop net) = Some (named N2 net)
netlist_refusal (netlist.DuplicateName name) = Some (named N3 name)
netlist_refusal (netlist.TooMany what limit) = Some (numbered N4 (counted_text what) limit)
netlist_refusal (netlist.Memory error) = None

abbrev pub verilog_refusal : VerilogError → Option Refusal
verilog_refusal (verilog.V1 place) = Some (placed V1 place)
verilog_refusal (verilog.V2 place) = Some (placed V2 place)
verilog_refusal (verilog.V3 place name) = Some (worded V3 place name)
verilog_refusal (verilog.V5 place name) = Some (worded V5 place name)
verilog_refusal (verilog.V6 place) = Some (placed V6 place)
verilog_refusal (verilog.V7 place) = Some (placed V7 place)
verilog_refusal (verilog.V9 place) = Some (placed V9 place)
verilog_refusal (verilog.V10 place) = Some (placed V10 place)
verilog_refusal (verilog.V11 place name) = Some (worded V11 place name)
verilog_refusal (verilog.V12 place name) = Some (worded V12 place name)
verilog_refusal (verilog.Netlist error) = netlist_refusal error
verilog_refusal (verilog.Memory error) = None

-- a text of several modules
abbrev pub modules_refusal : ModulesError → Option Refusal
modules_refusal (modules.Module error) = verilog_refusal error
modules_refusal (modules.Repeated name) = Some (named H1 name)

-- modules that have no flat design
abbrev pub hier_refusal : HierError → Option Refusal
hier_refusal (hier.H2 name) = Some (named H2 name)
hier_refusal (hier.H3 name) = Some (named H3 name)
hier_refusal (hier.H4 count) = Some (measured H4 (pos count))
hier_refusal (hier.H5 place name) = Some (worded H5 place name)
hier_refusal (hier.Netlist error) = netlist_refusal error
hier_refusal (hier.Memory error) = None

-- a netlist text without a design
abbrev pub design_refusal : DesignError → Option Refusal
design_refusal (design.Text error) = modules_refusal error
design_refusal (design.Modules error) = hier_refusal error

abbrev pub stil_refusal : StilError → Option Refusal
stil_refusal (stil.P1 place) = Some (placed P1 place)
stil_refusal (stil.P2 place name) = Some (worded P2 place name)
stil_refusal (stil.P3 place name) = Some (worded P3 place name)
stil_refusal (stil.P4 place) = Some (placed P4 place)
stil_refusal (stil.P5 place) = Some (placed P5 place)
stil_refusal (stil.P6 bytes) = Some (measured P6 bytes)
stil_refusal (stil.P8 place) = Some (placed P8 place)
stil_refusal (stil.P9 place name) = Some (worded P9 place name)
stil_refusal (stil.P10 vector name) = Some (numbered P10 name vector)
stil_refusal (stil.Memory error) = None

abbrev pub config_refusal : ConfigError → Option Refusal
config_refusal config.C1 = Some (plain C1)
config_refusal (config.C2 key) = Some (named C2 key)
config_refusal (config.C3 key number) = Some (numbered C3 key number)
config_refusal (config.C4 key) = Some (named C4 key)
config_refusal (config.C5 chain) = Some (measured C5 chain)
config_refusal (config.C6 key) = Some (named C6 key)
config_refusal (config.Memory error) = None

-- ---- the refusal of a scan

abbrev pub rule_refusal : RuleError → Option Refusal
rule_refusal (rule.ClockAsData net) = Some (named G1 net)
rule_refusal (rule.ScanCellPresent instance) = Some (named G2 instance)
rule_refusal (rule.TooFewCells found wanted) = Some (paired G3 found wanted)
rule_refusal (rule.UnknownName name) = Some (named G4 name)
rule_refusal (rule.LockupPresent instance) = Some (named G5 instance)
rule_refusal (rule.PortName name) = Some (named G7 name)
rule_refusal (rule.Memory error) = None

abbrev pub planned_text : Planned → List ℕ
planned_text planned.Cells = codes "cells"
planned_text planned.Cycles = codes "cycles"
planned_text planned.Variables = codes "variables"

abbrev pub stitch_refusal : StitchError → Option Refusal
stitch_refusal (stitch.TooMany what limit) = Some (numbered N4 (planned_text what) limit)
stitch_refusal (stitch.Memory error) = None

abbrev pub insert_refusal : InsertError → Option Refusal
insert_refusal (insert.NameClash name) = Some (named G6 name)
insert_refusal (insert.TooMany what limit) = Some (numbered N4 (counted_text what) limit)
insert_refusal (insert.Memory error) = None

abbrev pub report_refusal : ReportError → Option Refusal
report_refusal (report.K6 bytes) = Some (measured K6 bytes)
report_refusal (report.Memory error) = None

abbrev pub scan_refusal : ScanError → Option Refusal
scan_refusal (scan.Rules error) = rule_refusal error
scan_refusal (scan.Stitch error) = stitch_refusal error
scan_refusal (scan.Insert error) = insert_refusal error
scan_refusal (scan.Report error) = report_refusal error
scan_refusal (scan.Memory error) = None

-- ---- the refusal of a compilation

abbrev pub cube_refusal : CubeError → Option Refusal
cube_refusal (cube.Q1 place) = Some (placed Q1 place)
cube_refusal (cube.Q2 place name) = Some (worded Q2 place name)
cube_refusal (cube.Q3 place name) = Some (worded Q3 place name)
cube_refusal (cube.Q4 place name) = Some (worded Q4 place name)
cube_refusal (cube.Q5 place name) = Some (worded Q5 place name)
cube_refusal (cube.Q6 place name) = Some (worded Q6 place name)
cube_refusal (cube.Q7 place) = Some (placed Q7 place)
cube_refusal (cube.Q8 place name) = Some (worded Q8 place name)
cube_refusal (cube.Q9 place) = Some (placed Q9 place)
cube_refusal (cube.Memory error) = None

abbrev pub compile_refusal : CompileError → Option Refusal
compile_refusal (compile.Rules error) = rule_refusal error
compile_refusal (compile.Stitch error) = stitch_refusal error
compile_refusal (compile.Insert error) = insert_refusal error
compile_refusal (compile.Patterns error) = stil_refusal error
compile_refusal (compile.Report error) = report_refusal error
compile_refusal (compile.Memory error) = None

-- ---- the refusal of a made configuration

abbrev pub limited_text : Limited → List ℕ
limited_text limited.Chains = codes "chains"
limited_text limited.Outputs = codes "outputs"
limited_text limited.Masks = codes "masks"

abbrev pub configure_refusal : ConfigureError → Option Refusal
configure_refusal configure.NoClock = Some (plain X2)
configure_refusal (configure.TooMany what most) = Some (numbered X3 (limited_text what) most)
configure_refusal (configure.Rules error) = rule_refusal error
configure_refusal configure.NoRing = Some (plain X4)
configure_refusal (configure.LongText bytes) = Some (measured K6 bytes)
configure_refusal (configure.Stitch error) = stitch_refusal error
configure_refusal (configure.Insert error) = insert_refusal error
configure_refusal (configure.Memory error) = None

-- ---- the refusal of a search

abbrev pub seek_refusal : SeekError → Option Refusal
seek_refusal seek.TooManyCubes = Some (numbered N4 (codes "cubes") (pos MAX_CUBES))
seek_refusal (seek.LongCubes bytes) = Some (measured K6 bytes)
seek_refusal (seek.LongReport bytes) = Some (measured K6 bytes)
seek_refusal (seek.Memory error) = None

-- ---- the refusal of a test of certificates

abbrev pub read_refusal : ReadError → Option Refusal
read_refusal (read.K1 place) = Some (placed K1 place)
read_refusal (read.Memory error) = None

abbrev pub certify_refusal : CertifyError → Option Refusal
certify_refusal (certify.K2 place name) = Some (worded K2 place name)
certify_refusal (certify.K3 name) = Some (named K3 name)
certify_refusal (certify.K4 place name) = Some (worded K4 place name)
certify_refusal (certify.K5 name) = Some (named K5 name)
certify_refusal (certify.Memory error) = None
