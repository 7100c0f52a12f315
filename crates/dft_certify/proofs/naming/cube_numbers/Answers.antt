use Rattle.dft_cubes.specs.declared.cube.Cube.{Cube}
use Rattle.dft_numbered.proofs.NamedLemmas.{named_next, named_all}
use Rattle.dft_certify.proofs.naming.cube_numbers.Goals as goal

pub loop-number-preserved : goal.loop-number-preserved
loop-number-preserved c =
    named_next (λ (x : Cube). x.name) c.args.cubes.now c.index-cubes-number.result c.as_slice.result.now c.loop-number.number c.loop-number.numbers c.put.new.self c.loop-number-test.true c.index-cubes-number.is c.as_slice.ensures.bytes c.in_ok-put.ensures c.loop-number.invariant

pub returns : goal.returns
returns c = named_all (λ (x : Cube). x.name) c.args.cubes.now c.loop-number.numbers c.loop-number.number c.loop-number-test.false c.loop-number.invariant
