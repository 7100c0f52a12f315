use Rattle.std.proofs.Common.{Option, subst}
use Rattle.dft_decompressor.specs.declared.fits.Fitting.{Fitting}
use Rattle.dft_decompressor.specs.Fits.{IsFitting}
use Rattle.dft_configuring.proofs.FitSizes.{fit_stages}
use Rattle.dft_configuring.proofs.rings.ring_for.Goals as goal

pub ring_of-requires-clause-stages : goal.ring_of-requires-clause-stages
ring_of-requires-clause-stages c =
    let fits = subst (λ (o : Option Fitting). IsFitting c.args.chains c.args.channels o) c.in-Some.is c.in_ok-found.ensures in
    (fit_stages c.args.chains c.args.channels c.in-Some.fitting c.requires.channels.1 fits).1

pub ring_of-requires-clause-channels : goal.ring_of-requires-clause-channels
ring_of-requires-clause-channels c =
    let fits = subst (λ (o : Option Fitting). IsFitting c.args.chains c.args.channels o) c.in-Some.is c.in_ok-found.ensures in
    (c.requires.channels.0, (fit_stages c.args.chains c.args.channels c.in-Some.fitting c.requires.channels.1 fits).0)

pub returns-in_ok-ring-in-Some-clause-ring : goal.returns-in_ok-ring-in-Some-clause-ring
returns-in_ok-ring-in-Some-clause-ring c = c.in_ok-ring-in-Some.ensures c.args.chains (subst (λ (o : Option Fitting). IsFitting c.args.chains c.args.channels o) c.in-Some.is c.in_ok-found.ensures)

pub returns-in-None-clause-refused : goal.returns-in-None-clause-refused
returns-in-None-clause-refused c = subst (λ (o : Option Fitting). IsFitting c.args.chains c.args.channels o) c.in-None.is c.in_ok-found.ensures
