-- What is found of a netlist, net by net and instance by instance.
use Rattle.std.specs.Prelude.{ℕ, ◌≡◌, Bool, false, List, length, map, Option, None, Some, option_map, option_and_then, slice_index_or, if◌then◌else◌}
use Rattle.dft_netlist.specs.declared.ids.NetId.{NetId}
use Rattle.dft_netlist.specs.declared.instance.Signal.{Signal}
use Rattle.dft_behavior.specs.declared.root.NetRoot.{NetRoot}
use Rattle.dft_behavior.specs.declared.root.Root.{Root}
use Rattle.dft_netlist.specs.Netlist.{Netlist}
use Rattle.dft_behavior.specs.Roots.{shown_root, shown_clock}
use Rattle.dft_behavior.specs.RootTables.{AreRoots, root_in, clock_in}
use Rattle.dft_behavior.specs.Traces as traces
use Rattle.dft_configure.specs.declared.opening.Tables.{Tables}
use Rattle.dft_configure.specs.declared.roots.Roots.{Roots}
use Rattle.dft_configure.specs.Roots.{domains_of, is_clean, port_of_clock, resets_of}

-- the number of a net that may not be there
abbrev pub number : Option NetId → Option ℕ
number net = option_map (λ net. net.0) net

-- the numbers of nets
abbrev pub numbers : List NetId → List ℕ
numbers nets = map (λ net. net.0) nets

-- the same for nets that may not be there
abbrev pub numbers_of : List (Option NetId) → List (Option ℕ)
numbers_of nets = map number nets

-- what a list of counts has at a net
abbrev pub count_at : List ℕ → (net : ℕ) → ℕ
count_at counts net = slice_index_or counts net 0

-- there is a mark for each net, and the clean ones are marked
pub record AreClean (n : Netlist) (marks : List Bool) : Type 0 where
  pub count : length marks ≡ length n.nets
  pub each : (port : ℕ) → slice_index_or marks port false ≡ is_clean n port

-- the tables hold what they should
pub record AreTables (n : Netlist) (tables : Tables) : Type 0 where
  pub roots : AreRoots n tables.roots.items
  pub clean : AreClean n tables.clean.items

-- the port whose clock a pin shows, where these are the roots of the nets
abbrev pub port_at : List NetRoot → Option Signal → Option ℕ
port_at roots pin = option_and_then (λ s. port_of_clock (shown_clock (clock_in roots s))) pin

-- a port, where it is marked
abbrev pub marked_only : List Bool → Option ℕ → Option ℕ
marked_only marks None = None
marked_only marks (Some port) = if slice_index_or marks port false then Some port else None

-- the root of a pin, if there is one, where these are the roots of the nets
abbrev pub hold_at : List NetRoot → (pin : Option Signal) → Option Root
hold_at roots pin = option_map (root_in roots) pin

abbrev pub shown_hold : Option Root → Option traces.Root
shown_hold root = option_map shown_root root

-- these are the domains and the resets of the netlist
pub record AreChosen (n : Netlist) (roots : Roots) : Type 0 where
  pub domains : numbers roots.domains.items ≡ domains_of n
  pub resets : numbers roots.resets.items ≡ resets_of n (domains_of n)
