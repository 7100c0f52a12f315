use Rattle.std.proofs.Common.{ℕ, ◌++◌, ◌∷◌, [], ap, ◌∙◌}
use Rattle.dft_base.specs.Lexing.{Text}
use Rattle.dft_scan_frame.specs.AddedPorts.{NewPort, new_port, numbered, numbered_ports}
use Rattle.dft_insert.proofs.AddedPorts.{mapped_on}
use Rattle.dft_insert.proofs.ports.push_numbered.Goals as goal

pub loop-number-preserved : goal.loop-number-preserved
loop-number-preserved c =
    let f : ℕ → NewPort = λ number. new_port c.args.dir (numbered c.args.name.now number) in
    let k = c.loop-number.number in
    let so_far = c.loop-number.ports.items in
    mapped_on f k c.args.count so_far c.push_port.new.ports.items (c.args.ports.now.items ++ numbered_ports c.args.dir c.args.name.now c.args.count) c.loop-number-test.true
    (c.in_ok-push_port.ensures ∙ ap (λ (x : Text). so_far ++ new_port c.args.dir x ∷ []) (c.in_ok-numbered.ensures ∙ ap (λ (x : Text). numbered x k) c.as_slice.ensures.bytes)) c.loop-number.invariant
