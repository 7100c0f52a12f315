use Rattle.std.proofs.Common.{◌≡◌, length, sym, subst, ap, arith, ◌∙◌}
use Rattle.dft_netlist.specs.Netlist.{Netlist}
use Rattle.dft_scan_frame.specs.Moves.{gap_of}
use Rattle.dft_parts.specs.Parts.{Making}
use Rattle.dft_parts.specs.Recipes.{outcome}
use Rattle.dft_parts.specs.Recipes as recipes
use Rattle.dft_parts.proofs.Outcomes.{made_parts}
use Rattle.dft_insert.specs.Scanned.{recipe, framed}
use Rattle.dft_insert.proofs.Filling.{made_passes, told_refused}
use Rattle.dft_insert.proofs.Frames.{frame_ports}
use Rattle.dft_insert.proofs.building.fill.Goals as goal

pub make-requires-clause-gap : goal.make-requires-clause-gap
make-requires-clause-gap c =
    let n = c.args.design.now in
    let config = c.args.config.now in
    c.new-gap.ensures
    ∙ ap (gap_of n) (omega (arith, ap length c.ports.ensures.ports, ap length c.ports-2.ensures.ports, ap (λ (w : Netlist). length w.ports) c.requires.frame, frame_ports c.args.style n config))

pub returns-in-Ok-clause-netlist : goal.returns-in-Ok-clause-netlist
returns-in-Ok-clause-netlist c =
    let n = c.args.design.now in
    let config = c.args.config.now in
    let r = recipe c.args.style n config c.args.chains.now in
    let start : c.new-parts.result ≡ framed c.args.style n config = c.new-parts.ensures ∙ ap (λ (w : Netlist). record { netlist = w; made = record { nets = 0; instances = 0 } }) c.requires.frame in
    c.into_builder.ensures ∙ ap (λ (s : Making). s.netlist) (made_parts r (framed c.args.style n config) c.make.new.parts tt (ap (outcome r) (sym start) ∙ c.in-Ok.ensures.makes))

pub returns-in-Ok-clause-accepted : goal.returns-in-Ok-clause-accepted
returns-in-Ok-clause-accepted c =
    let n = c.args.design.now in
    let config = c.args.config.now in
    let r = recipe c.args.style n config c.args.chains.now in
    let start : c.new-parts.result ≡ framed c.args.style n config = c.new-parts.ensures ∙ ap (λ (w : Netlist). record { netlist = w; made = record { nets = 0; instances = 0 } }) c.requires.frame in
    made_passes r (framed c.args.style n config) c.make.new.parts tt (ap (outcome r) (sym start) ∙ c.in-Ok.ensures.makes)

pub returns-in-Err-clause-refused : goal.returns-in-Err-clause-refused
returns-in-Err-clause-refused c =
    let n = c.args.design.now in
    let config = c.args.config.now in
    let r = recipe c.args.style n config c.args.chains.now in
    let start : c.new-parts.result ≡ framed c.args.style n config = c.new-parts.ensures ∙ ap (λ (w : Netlist). record { netlist = w; made = record { nets = 0; instances = 0 } }) c.requires.frame in
    rw c.told.ensures (told_refused r (framed c.args.style n config) c.in-Err.error (subst (λ (s : Making). recipes.IsRefusal (outcome r s) c.in-Err.error) start c.in-Err.ensures.makes))
