-- The chains of a netlist with two clocks, worked by hand.
use Rattle.std.proofs.Common.{◌≡◌, ℕ, Bool, true, false, List, [], ◌∷◌, Option, Some, None, refl}
use Rattle.dft_cells.specs.declared.kind.Gate.TheVariants.{Inv}
use Rattle.dft_netlist.specs.declared.ids.InstanceId.{InstanceId}
use Rattle.dft_rules.specs.declared.judged.Judged.{Judged}
use Rattle.dft_rules.specs.declared.judged.Judged.TheVariants.{Scanned}
use Rattle.dft_rules.proofs.WorkedEdges.{turned}
use Rattle.dft_rules.proofs.WorkedRules.{example, example_config, two_clocks}
use Rattle.dft_stitch.specs.declared.places.LockupPlace.{LockupPlace}
use Rattle.dft_stitch.specs.Chains.{plan_for, plan_of, scanned_cells}
use Rattle.dft_stitch.specs.Limits.{refusal}
use Rattle.dft_stitch.specs.Plans.{Plan}

abbrev cell : (number : ℕ) → InstanceId
cell number = record { 0 = number }

-- a lock-up between rising cells, and one between falling ones
abbrev low : (chain after domain : ℕ) → LockupPlace
low chain after domain = record { chain = chain; after = after; domain = domain; high = false }

abbrev high : (chain after domain : ℕ) → LockupPlace
high chain after domain = record { chain = chain; after = after; domain = domain; high = true }

-- one chain: first the cells of `ca`, then those of `cb`, and a lock-up on `ca` between them
abbrev one_chain : Plan
one_chain = record { chains = (cell 0 ∷ cell 2 ∷ cell 1 ∷ cell 3 ∷ []) ∷ []; heads = false ∷ []; lockups = low 0 1 0 ∷ []; cycles = 4 }

in_one_chain : plan_of (example 1) (example_config two_clocks [] 1) ≡ one_chain
in_one_chain = refl

-- the first chains are one longer
abbrev three_chains : Plan
three_chains = record { chains = (cell 0 ∷ cell 2 ∷ []) ∷ (cell 1 ∷ []) ∷ (cell 3 ∷ []) ∷ []; heads = false ∷ false ∷ false ∷ []; lockups = []; cycles = 3 }

in_three_chains : plan_of (example 1) (example_config two_clocks [] 3) ≡ three_chains
in_three_chains = refl

-- a flip-flop behind a clock gate stands in no chain
abbrev without_one : Plan
without_one = record { chains = (cell 0 ∷ cell 2 ∷ cell 1 ∷ []) ∷ []; heads = false ∷ []; lockups = low 0 1 0 ∷ []; cycles = 3 }

behind_a_gate : plan_of (example 7) (example_config two_clocks [] 1) ≡ without_one
behind_a_gate = refl

within_limits : refusal (example 1) (example_config two_clocks [] 1) ≡ None
within_limits = refl

-- ---- both edges

-- each clock through an inverter: the order is that of the domains, and the lock-up on `ca` is high
inverted_chain : plan_of (turned Inv 8 9 8 9) (example_config two_clocks [] 1) ≡ record { chains = (cell 0 ∷ cell 2 ∷ cell 1 ∷ cell 3 ∷ []) ∷ []; heads = true ∷ []; lockups = high 0 1 0 ∷ []; cycles = 4 }
inverted_chain = refl

-- one flip-flop on the inverse of `ca`: it is the first, and between it and the rising cell behind it stands no lock-up
one_inverted : plan_of (turned Inv 0 1 8 1) (example_config two_clocks [] 1) ≡ record { chains = (cell 2 ∷ cell 0 ∷ cell 1 ∷ cell 3 ∷ []) ∷ []; heads = true ∷ []; lockups = low 0 1 0 ∷ []; cycles = 4 }
one_inverted = refl

-- ---- both edges, over verdicts written by hand

-- the clocks of four cells: the domains are 0, 1, 0, 1
abbrev clocked : (zeroth first second third : Bool) → List (Option Judged)
clocked zeroth first second third = Some (Scanned 0 zeroth) ∷ Some (Scanned 1 first) ∷ Some (Scanned 0 second) ∷ Some (Scanned 1 third) ∷ []

-- the plan of so many chains for cells that are judged so
abbrev planned : List (Option Judged) → (chains : ℕ) → Plan
planned verdicts chains = plan_for (example_config two_clocks [] chains) verdicts (scanned_cells verdicts 2)

-- all cells fall: the order is that of the domains, and the lock-up on `ca` is high
all_fall : planned (clocked true true true true) 1 ≡ record { chains = (cell 0 ∷ cell 2 ∷ cell 1 ∷ cell 3 ∷ []) ∷ []; heads = true ∷ []; lockups = high 0 1 0 ∷ []; cycles = 4 }
all_fall = refl

-- one cell of `ca` falls: it is the first, and between it and the rising cell behind it stands no lock-up
one_falls : planned (clocked false false true false) 1 ≡ record { chains = (cell 2 ∷ cell 0 ∷ cell 1 ∷ cell 3 ∷ []) ∷ []; heads = true ∷ []; lockups = low 0 1 0 ∷ []; cycles = 4 }
one_falls = refl

-- the cells of `cb` fall: between them and those of `ca` stands no lock-up, though the domains differ
across_edges : planned (clocked false true false true) 1 ≡ record { chains = (cell 1 ∷ cell 3 ∷ cell 0 ∷ cell 2 ∷ []) ∷ []; heads = true ∷ []; lockups = []; cycles = 4 }
across_edges = refl

-- one cell of each domain falls: there are two groups of one edge, and a lock-up in each
both_in_each : planned (clocked true true false false) 1 ≡ record { chains = (cell 0 ∷ cell 1 ∷ cell 2 ∷ cell 3 ∷ []) ∷ []; heads = true ∷ []; lockups = high 0 0 0 ∷ low 0 2 0 ∷ []; cycles = 4 }
both_in_each = refl

-- two chains: the first begins with a falling cell, the second with a rising one
two_heads : planned (clocked false true false true) 2 ≡ record { chains = (cell 1 ∷ cell 3 ∷ []) ∷ (cell 0 ∷ cell 2 ∷ []) ∷ []; heads = true ∷ false ∷ []; lockups = []; cycles = 2 }
two_heads = refl
