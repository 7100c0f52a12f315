use Rattle.std.proofs.Common.{◌≡◌, Err, Ok, codes, refl, rules}
use Rattle.dft_files.specs.Outside.{Held}
use Rattle.dft_top.specs.declared.limits.TheConstants.{MAX_NETLIST_BYTES, MAX_PATTERN_BYTES}
use Rattle.dft_top.specs.Checks.{NetlistText, PatternText}
use Rattle.dft_top.specs.Outcomes.{made_held}
use Rattle.dft_top.proofs.Following.{end_follows, file_takes, library_takes, short_follows, step_follows, stop_follows}
use Rattle.dft_top.proofs.generating.replay_of.Goals as goal

pub returns-in_err-library : goal.returns-in_err-library
returns-in_err-library c = short_follows _ _ _ (search rules)

pub returns-in_err-design : goal.returns-in_err-design
returns-in_err-design c =
    let held : Held = made_held c.args.netlist.now c.args.patterns.now in
    let cells = c.in_ok-library.library in
    let stops : c.from_residual-in_err-design.result ≡ Err c.in_err-design.field-0.0 = search rules in
    step_follows _ _ _ _ _ _ cells _ (library_takes held cells c.in_ok-library.ensures)
    (stop_follows _ _ _ _ _ c.in_err-design.field-0.0 _ stops (file_takes MAX_NETLIST_BYTES (codes "netlist") (NetlistText cells) (codes "netlist") c.args.netlist.now held (Err c.in_err-design.field-0.0) refl c.in_err-design.ensures.given))

pub returns-in_err-patterns : goal.returns-in_err-patterns
returns-in_err-patterns c =
    let held : Held = made_held c.args.netlist.now c.args.patterns.now in
    let cells = c.in_ok-library.library in
    let stops : c.from_residual-in_err-patterns.result ≡ Err c.in_err-patterns.field-0.0 = search rules in
    step_follows _ _ _ _ _ _ cells _ (library_takes held cells c.in_ok-library.ensures)
    (step_follows _ _ _ _ _ _ c.in_ok-design.design _ (file_takes MAX_NETLIST_BYTES (codes "netlist") (NetlistText cells) (codes "netlist") c.args.netlist.now held (Ok c.in_ok-design.design) refl c.in_ok-design.ensures.given)
    (stop_follows _ _ _ _ _ c.in_err-patterns.field-0.0 _ stops (file_takes MAX_PATTERN_BYTES (codes "patterns") PatternText (codes "patterns") c.args.patterns.now held (Err c.in_err-patterns.field-0.0) refl c.in_err-patterns.ensures.given)))

pub returns : goal.returns
returns c =
    let held : Held = made_held c.args.netlist.now c.args.patterns.now in
    let cells = c.in_ok-library.library in
    step_follows _ _ _ _ _ _ cells _ (library_takes held cells c.in_ok-library.ensures)
    (step_follows _ _ _ _ _ _ c.in_ok-design.design _ (file_takes MAX_NETLIST_BYTES (codes "netlist") (NetlistText cells) (codes "netlist") c.args.netlist.now held (Ok c.in_ok-design.design) refl c.in_ok-design.ensures.given)
    (step_follows _ _ _ _ _ _ c.in_ok-patterns.patterns _ (file_takes MAX_PATTERN_BYTES (codes "patterns") PatternText (codes "patterns") c.args.patterns.now held (Ok c.in_ok-patterns.patterns) refl c.in_ok-patterns.ensures.given)
    (end_follows _ _ _ c.outcome_on.ensures.quiet c.outcome_on.ensures.outcome)))
