-- It is a cell, a port, or past the end.
use Rattle.std.proofs.Common.{ℕ, get_or, ◌<◌, ◌≤◌, ◌-◌, length, arith, ap, ◌∙◌}
use Rattle.dft_seek.proofs.GivenLemmas.{given_cell, given_none, given_port}
use Rattle.dft_seek.proofs.rig.Rig.give.Goals as goal

pub returns-then-place-len-clause-given : goal.returns-then-place-len-clause-given
returns-then-place-len-clause-given c =
    let cone = c.args.cone.now in
    let less : c.args.place < length cone.cells.items = omega (arith, c.if-place-len.true, c.len.ensures, cone.cells.ok.0) in
    given_cell cone c.args.place c.args.value c.index.result.now _ c.args.v.now c.give_cell.new.v less c.index.ensures c.give_cell.ensures.cells c.give_cell.ensures.ports

pub returns-then-place-len-2-clause-given : goal.returns-then-place-len-2-clause-given
returns-then-place-len-2-clause-given c =
    let cone = c.args.cone.now in
    let past : length cone.cells.items ≤ c.args.place = omega (arith, c.if-place-len.false, c.len.ensures, cone.cells.ok.0) in
    let less : c.args.place - length cone.cells.items < length cone.ports.items = omega (arith, c.if-place-len-2.true, c.len-else-place-len.ensures, c.len-else-place-len-2.ensures, cone.cells.ok.0, cone.ports.ok.0) in
    given_port cone c.args.place c.args.value c.index-then-place-len-2.result.now c.index-then-place-len-2.result.now c.args.v.now c.give_port.new.v past less (c.index-then-place-len-2.ensures ∙ ap (λ (n : ℕ). get_or cone.ports.items (c.args.place - n) c.index-then-place-len-2.result.now) (c.len-then-place-len-2.ensures ∙ cone.cells.ok.0)) c.give_port.ensures.ports c.give_port.ensures.cells

pub returns-else-place-len-2-clause-given : goal.returns-else-place-len-2-clause-given
returns-else-place-len-2-clause-given c =
    let cone = c.args.cone.now in
    let past : length cone.cells.items ≤ c.args.place = omega (arith, c.if-place-len.false, c.len.ensures, cone.cells.ok.0) in
    let out : length cone.ports.items ≤ c.args.place - length cone.cells.items = omega (arith, c.if-place-len-2.false, c.len-else-place-len.ensures, c.len-else-place-len-2.ensures, cone.cells.ok.0, cone.ports.ok.0) in
    given_none cone c.args.place c.args.value c.args.v.now past out
