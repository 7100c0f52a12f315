use Rattle.std.proofs.Common.{◌≡◌, List, [], get_or, to_z, w64, pos, arith, ap₂, ◌∙◌, sym, ap}
use Rattle.std.proofs.Math.Facts.{to_z_pos}
use Rattle.std.proofs.lemmas.List.{get_or-map}
use Rattle.dft_stil_text.specs.declared.error.StilError.TheVariants as told
use Rattle.dft_patterns.specs.declared.signal.StilSignal.{StilSignal}
use Rattle.dft_stil_text.specs.PatternText.{name_of_signal}
use Rattle.dft_stil.proofs.ReaderLemmas.{found_vector, found_signal}
use Rattle.dft_stil.proofs.reader.unsteady.Goals as goal

pub returns-in-Ok : goal.returns-in-Ok
returns-in-Ok c =
    let set = c.args.set.now in
    let u = c.args.found in
    let few = found_vector set u c.requires.lengths c.requires.first in
    let first : to_z w64 u.vector ≡ pos u.vector = to_z_pos w64 (omega (arith, few, c.requires.few)) in
    let name : c.in-Ok.name ≡ name_of_signal set u.signal =
    c.in-Ok.ensures ∙ c.as_slice-name.ensures.bytes ∙ ap (λ (ss : List StilSignal). (get_or ss u.signal c.index-signals-found.result).name) c.signals.ensures
    ∙ sym (get_or-map (λ (s : StilSignal). s.name) set.signals u.signal c.index-signals-found.result [] (found_signal set u c.requires.lengths c.requires.first)) in
    record { found = u; first = c.requires.first; told = ap₂ told.P10 first name }
