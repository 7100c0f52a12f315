use Rattle.std.proofs.Common.{◌≡◌, Err, Ok, codes, refl, rules}
use Rattle.dft_files.specs.Outside.{Held}
use Rattle.dft_top.specs.declared.limits.TheConstants.{MAX_CONFIG_BYTES, MAX_NETLIST_BYTES}
use Rattle.dft_top.specs.Checks.{ConfigText, NetlistText}
use Rattle.dft_top.specs.Outcomes.{texts_held}
use Rattle.dft_top.proofs.Following.{file_takes, library_takes, short_follows, step_follows, stop_follows}
use Rattle.dft_top.proofs.generating.compiled.Goals as goal

pub returns-in_err-library : goal.returns-in_err-library
returns-in_err-library c = short_follows _ _ _ (search rules)

pub returns-in_err-config : goal.returns-in_err-config
returns-in_err-config c =
    let held : Held = texts_held c.args.netlist.now c.args.config.now c.args.cubes.now in
    let stops : c.from_residual-in_err-config.result ≡ Err c.in_err-config.field-0.0 = search rules in
    step_follows _ _ _ _ _ _ c.in_ok-library.library _ (library_takes held c.in_ok-library.library c.in_ok-library.ensures)
    (stop_follows _ _ _ _ _ c.in_err-config.field-0.0 _ stops (file_takes MAX_CONFIG_BYTES (codes "config") ConfigText (codes "config") c.args.config.now held (Err c.in_err-config.field-0.0) refl c.in_err-config.ensures.given))

pub returns-in_err-design : goal.returns-in_err-design
returns-in_err-design c =
    let held : Held = texts_held c.args.netlist.now c.args.config.now c.args.cubes.now in
    let cells = c.in_ok-library.library in
    let stops : c.from_residual-in_err-design.result ≡ Err c.in_err-design.field-0.0 = search rules in
    step_follows _ _ _ _ _ _ cells _ (library_takes held cells c.in_ok-library.ensures)
    (step_follows _ _ _ _ _ _ c.in_ok-config.config _ (file_takes MAX_CONFIG_BYTES (codes "config") ConfigText (codes "config") c.args.config.now held (Ok c.in_ok-config.config) refl c.in_ok-config.ensures.given)
    (stop_follows _ _ _ _ _ c.in_err-design.field-0.0 _ stops (file_takes MAX_NETLIST_BYTES (codes "netlist") (NetlistText cells) (codes "netlist") c.args.netlist.now held (Err c.in_err-design.field-0.0) refl c.in_err-design.ensures.given)))

pub returns : goal.returns
returns c =
    let held : Held = texts_held c.args.netlist.now c.args.config.now c.args.cubes.now in
    let cells = c.in_ok-library.library in
    step_follows _ _ _ _ _ _ cells _ (library_takes held cells c.in_ok-library.ensures)
    (step_follows _ _ _ _ _ _ c.in_ok-config.config _ (file_takes MAX_CONFIG_BYTES (codes "config") ConfigText (codes "config") c.args.config.now held (Ok c.in_ok-config.config) refl c.in_ok-config.ensures.given)
    (step_follows _ _ _ _ _ _ c.in_ok-design.design _ (file_takes MAX_NETLIST_BYTES (codes "netlist") (NetlistText cells) (codes "netlist") c.args.netlist.now held (Ok c.in_ok-design.design) refl c.in_ok-design.ensures.given)
    (c.compiled_design.ensures c.args.netlist.now c.args.config.now)))
