use Rattle.std.proofs.Common.{◌-◌, length, map, ap, arith, ◌∙◌}
use Rattle.std.specs.Prelude.{option_map}
use Rattle.std.specs.List.{range_with_len}
use Rattle.std.proofs.lemmas.Result.{err_from_is_err_and}
use Rattle.dft_netlist.specs.Netlist.{Netlist}
use Rattle.dft_parts.specs.Parts.{parts_refusal}
use Rattle.dft_scan_frame.specs.Refusals.{or_else}
use Rattle.dft_insert.specs.Refusals.{as_told, frame_refusal, refusal}
use Rattle.dft_insert.specs.Scanned.{framed, parts_of}
use Rattle.dft_insert.proofs.AddedPorts.{first_refused, later_refused}
use Rattle.dft_insert.proofs.Frames.{frame_ports}
use Rattle.dft_insert.proofs.building.make_scanned.Goals as goal

pub returns-in_err-builder-clause-refused : goal.returns-in_err-builder-clause-refused
unfolding refusal
returns-in_err-builder-clause-refused c =
    let p = err_from_is_err_and c.from_residual.result c.from_residual.ensures.1 in
    let n = c.args.design.now in
    let config = c.args.config.now in
    rw (p.1, p.2) (first_refused (frame_refusal c.args.style n config) (option_map as_told (parts_refusal (framed c.args.style n config) (parts_of c.args.style n config c.args.chains.now))) c.in_err-builder.field-0.0 c.in_err-builder.ensures.refused)

pub returns-in_err-builder-2-clause-refused : goal.returns-in_err-builder-2-clause-refused
unfolding refusal
returns-in_err-builder-2-clause-refused c =
    let p = err_from_is_err_and c.from_residual-in_err-builder-2.result c.from_residual-in_err-builder-2.ensures.1 in
    let n = c.args.design.now in
    let config = c.args.config.now in
    rw (p.1, p.2)
    (later_refused (frame_refusal c.args.style n config) (option_map as_told (parts_refusal (framed c.args.style n config) (parts_of c.args.style n config c.args.chains.now))) c.in_err-builder-2.field-0.0 c.in_ok-builder.ensures.accepted
    c.in_err-builder-2.ensures.refused)

pub returns-clause-added : goal.returns-clause-added
returns-clause-added c =
    let n = c.args.design.now in
    let config = c.args.config.now in
    let first = ap length c.ports-first.ensures.ports in
    let all = ap length c.ports.ensures.ports in
    let built = ap (λ (w : Netlist). length w.ports) c.in_ok-builder.ensures.frame in
    c.in_ok-added.ensures
    ∙ ap (λ k. map (λ number. record { 0 = number }) (range_with_len k (length c.ports.result.now - k))) first
    ∙ ap (λ k. map (λ number. record { 0 = number }) (range_with_len (length n.ports) k)) (omega (arith, all, built, frame_ports c.args.style n config))

pub returns-clause-accepted : goal.returns-clause-accepted
unfolding refusal
returns-clause-accepted c =
    let n = c.args.design.now in
    let config = c.args.config.now in
    let later = option_map as_told (parts_refusal (framed c.args.style n config) (parts_of c.args.style n config c.args.chains.now)) in
    ap (λ o. or_else o later) c.in_ok-builder.ensures.accepted ∙ ap (option_map as_told) c.in_ok-builder-2.ensures.accepted
