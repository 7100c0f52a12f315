-- Faults of words, forms and ranges of numbers as the code has them.
use Rattle.std.specs.Prelude.{map, option_map}
use Rattle.dft_explain.specs.declared.fault.Fault.{Fault}
use Rattle.dft_explain.specs.declared.fault.Fault.TheVariants as fault
use Rattle.dft_explain.specs.declared.fault.Range.{Range}
use Rattle.dft_explain.specs.declared.fault.Pair.{Pair}
use Rattle.dft_explain.specs.declared.forms.Form.{Form}
use Rattle.dft_explain.specs.Faults as spec

abbrev pub range_seen : Range → spec.Range
range_seen range = record { option = range.option.now; digits = range.digits; least = range.least; most = range.most; text = range.text.now }

abbrev pub pair_seen : Pair → spec.Pair
pair_seen pair = record { first = pair.first.now; second = pair.second.now }

abbrev pub form_seen : Form → spec.Form
form_seen form = record {
  name = form.name.now;
  needed = map (λ option. option.now) form.needed.now;
  optional = map (λ option. option.now) form.optional.now;
  pair = option_map pair_seen form.pair;
  numbers = map range_seen form.numbers.now;
  saved = map (λ option. option.now) form.saved.now;
}

abbrev pub fault_seen : Fault → spec.Fault
fault_seen fault.NoCommand = spec.NoCommand
fault_seen (fault.NoSuchCommand word) = spec.NoSuchCommand word.now
fault_seen (fault.Unexpected word) = spec.Unexpected word.now
fault_seen (fault.NoOption option) = spec.NoOption option.now
fault_seen (fault.Twice option) = spec.Twice option.now
fault_seen (fault.NoValue option) = spec.NoValue option.now
fault_seen (fault.EmptyValue option) = spec.EmptyValue option.now
fault_seen (fault.Missing option) = spec.Missing option.now
fault_seen (fault.NotOne pair) = spec.NotOne pair.first.now pair.second.now
fault_seen (fault.NoNumber option range value) = spec.NoNumber option.now range.now value.now
fault_seen (fault.OneFile first second file) = spec.OneFile first.now second.now file.now
