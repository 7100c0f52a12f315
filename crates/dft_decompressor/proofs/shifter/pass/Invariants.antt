-- What the rest of the pass leads to, the whole pass does.
use Rattle.std.proofs.Common.{◌≡◌, ◌≤◌, ◌-◌, length}
use Rattle.dft_decompressor.proofs.PassLemmas.{LeadsOn}
use Rattle.dft_decompressor.proofs.shifter.pass.Given as goal

abbrev pub invariant-loop-turn : goal.invariant-loop-turn
invariant-loop-turn l = record {
  leads : LeadsOn (record { stages = l.stages; chains = l.chains; bound = l.bound }) 65536 l.initial.random (65536 - l._turn) l.random l.taken.sets;
  stages : l.taken.stages ≡ l.stages;
  few : length l.taken.sets ≤ l.chains;
}
