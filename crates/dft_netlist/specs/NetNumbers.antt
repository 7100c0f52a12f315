-- Nets by their numbers, one after another.
use Rattle.std.specs.Prelude.{ℕ, List, map}
use Rattle.dft_base.specs.Ranges.{going_up}
use Rattle.dft_netlist.specs.declared.ids.NetId.{NetId}

-- so many nets, whose numbers go up from this one
abbrev pub nets_from : (from count : ℕ) → List NetId
nets_from from count = map (λ number. record { 0 = number }) (going_up from count)
