-- One register more is found.
use Rattle.std.proofs.Common.{◌<◌, length, arith}
use Rattle.dft_takings.specs.EntryTables.{entry_at}
use Rattle.dft_takings.proofs.TakingLemmas.{IsFoundMove, moves_more, moves_all, stays_found, found_can}
use Rattle.dft_takings.proofs.takings.find_moves.Goals as goal

pub loop-register-preserved : goal.loop-register-preserved
loop-register-preserved c =
    let less : c.loop-register.register < length c.loop-register.moves = omega (arith, c.loop-register.auto.moves, c.loop-register-test.true) in
    moves_more c.loop-register.moves c.loop-register.register c.find_move.result (IsFoundMove (entry_at c.args.entries.now) c.args.cells.now.layout.registers) less (c.find_move.ensures.rest, c.find_move.ensures.is)
    c.loop-register.invariant

pub returns-clause-can : goal.returns-clause-can
returns-clause-can c =
    found_can (entry_at c.args.entries.now) c.args.cells.now.layout c.loop-register.moves
    (moves_all c.loop-register.moves c.loop-register.register (IsFoundMove (entry_at c.args.entries.now) c.args.cells.now.layout.registers) (stays_found (entry_at c.args.entries.now) c.args.cells.now.layout.registers)
    (omega (arith, c.loop-register.auto.moves, c.loop-register-test.false)) c.loop-register.invariant)

pub returns-clause-each : goal.returns-clause-each
returns-clause-each c = λ r.
    (moves_all c.loop-register.moves c.loop-register.register (IsFoundMove (entry_at c.args.entries.now) c.args.cells.now.layout.registers) (stays_found (entry_at c.args.entries.now) c.args.cells.now.layout.registers)
    (omega (arith, c.loop-register.auto.moves, c.loop-register-test.false)) c.loop-register.invariant r).1.each
