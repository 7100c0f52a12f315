-- The numbers of `_` from here on give what all of them give.
use Rattle.std.proofs.Common.{◌≡◌}
use Rattle.dft_base.specs.Name.{IsName}
use Rattle.dft_configuring.specs.Names.{barred}
use Rattle.dft_configuring.proofs.NameLemmas.{LeadsFrom}
use Rattle.dft_configuring.proofs.naming.free_bytes.Given as goal

abbrev pub invariant-loop-bars : goal.invariant-loop-bars
invariant-loop-bars l = record {
  bytes : l.bytes.items ≡ barred l.name l._bars;
  name : IsName l.bytes.items;
  leads : LeadsFrom l.design l.count l.name l._bars;
}
