-- What names with numbers show.
use Rattle.std.specs.Prelude.{List, map}
use Rattle.std.specs.Cow.{cow_slice_items}
use Rattle.dft_numbered.specs.Numbers.{Entry}
use Rattle.dft_numbered.specs.declared.numbered.Numbered.TheInside.{Inside}

abbrev pub entries_in : Inside → List Entry
entries_in n = map (λ e. (cow_slice_items e.0, e.1)) n.numbers.entries
