-- The row of a refusal.
use Rattle.std.specs.Prelude.{ℕ, Bool, true, false, List, codes, Option, None, Some, if◌then◌else◌}
use Rattle.std.specs.Str.{bytes_eq}

-- whether a netlist has a limit on this
abbrev pub is_of_netlist : (name : Option (List ℕ)) → Bool
is_of_netlist None = false
is_of_netlist (Some name) =
    if bytes_eq name (codes "ports") then true else (if bytes_eq name (codes "nets") then true else bytes_eq name (codes "instances"))

-- the row of a code: N4 has one for what a netlist counts, and one for what a plan counts
abbrev pub row_of : (code : List ℕ) → (name : Option (List ℕ)) → List ℕ
row_of code name = if bytes_eq code (codes "N4") then (if is_of_netlist name then code else codes "N4 of a plan") else code
