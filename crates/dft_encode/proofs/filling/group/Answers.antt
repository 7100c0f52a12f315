-- The loads, as they are lent.
use Rattle.std.proofs.Common.{◌≡◌, List, Some, slice_get, subst}
use Rattle.dft_encode.specs.declared.loads.Load.{Load}
use Rattle.dft_encode.proofs.filling.group.Goals as goal

pub steps-requires-clause-loads : goal.steps-requires-clause-loads
steps-requires-clause-loads c = λ k l at. c.in_ok-loads.ensures.each k l (subst (λ (ls : List Load). slice_get ls k ≡ Some l) c.deref-2.ensures.value at)
