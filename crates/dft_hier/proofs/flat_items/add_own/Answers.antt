use Rattle.dft_hier.proofs.ItemLemmas.{own_target, own_source, own_cell, own_pins}
use Rattle.dft_hier.proofs.flat_items.add_own.Goals as goal

pub add_join-requires-clause-target : goal.add_join-requires-clause-target
add_join-requires-clause-target c = own_target c.args.builder.now c.args.first c.args.item.now c.in-Join.join c.in-Join.is c.requires.fits

pub add_join-requires-clause-source : goal.add_join-requires-clause-source
add_join-requires-clause-source c = own_source c.args.builder.now c.args.first c.args.item.now c.in-Join.join c.in-Join.is c.requires.fits

pub add_cell-requires-clause-fits : goal.add_cell-requires-clause-fits
add_cell-requires-clause-fits c = own_cell c.args.builder.now c.args.first _ c.args.item.now c.in-Cell.instance c.in-Cell.is c.requires.fits

pub add_cell-requires-clause-writable : goal.add_cell-requires-clause-writable
add_cell-requires-clause-writable c = own_pins c.args.builder.now c.args.first c.args.item.now c.in-Cell.instance c.in-Cell.is c.requires.fits
