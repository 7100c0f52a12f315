-- How many bits listed vectors compare.
use Rattle.std.proofs.Common.{ℕ, zero, suc, ◌+◌, ◌*◌, ◌≡◌, Bool, true, false, List, [], ◌∷◌, ◌++◌, length, map, take, drop, Option, None, Some, ap, arith, ◌∙◌}
use Rattle.std.specs.Prelude.{count_by}
use Rattle.std.specs.List.{range_with_len}
use Rattle.std.proofs.lemmas.List.{append_assoc}
use Rattle.std.proofs.lemmas.List.{length-drop, length-take-le}
use Rattle.std.proofs.lemmas.List.Sums.{sum_by-cons}
use Rattle.dft_netlist.specs.Netlist.{Netlist}
use Rattle.dft_base.specs.declared.tri.Tri.{Tri}
use Rattle.dft_base.specs.Tri.{is_known}
use Rattle.dft_cubes.specs.declared.cube.Merged.{Merged}
use Rattle.dft_cubes.specs.Domains.{later_of}
use Rattle.dft_expect.specs.Captures.{output_bits}
use Rattle.dft_config.specs.Config.{Config}
use Rattle.dft_config.specs.Ring.{Table}
use Rattle.dft_stitch.specs.Chains.{plan_of}
use Rattle.dft_patterns.specs.declared.act.Act.{Act}
use Rattle.dft_vectors.specs.PatternData.{PatternData, load_of}
use Rattle.dft_vectors.specs.VectorList.{capture_acts, captures_with, load_vectors, no_table, last_of, pattern_vectors, shift_acts, vectors_of}
use Rattle.dft_pattern_behavior.specs.Listed.{ArePatterns}
use Rattle.dft_compile_laws.specs.Written.{all_compared, compared_of}
use Rattle.dft_compile_laws.proofs.Agreements.{all_compared_in, compared_in}
use Rattle.dft_encode.proofs.WidthLemmas.{last_left, one_left}
use Rattle.dft_compile_laws.proofs.Outs.{capture_count, known_split, set_up_count, shift_count, signal_nets, unload_width}
use Rattle.dft_compile_laws.proofs.Shown.{outputs_width}

count_append : (nets : List ℕ) (a b : List (List Act)) → all_compared_in nets (a ++ b) ≡ all_compared_in nets a + all_compared_in nets b
count_append nets [] b = omega arith
count_append nets (acts ∷ a) b = let rest = count_append nets a b in omega (arith, rest)

next_times : (c here rest count : ℕ) → here ≡ c → rest ≡ count * c → here + rest ≡ suc count * c
next_times c here rest count e f = grind (arith, e, f)

count_each : (nets : List ℕ) (f : ℕ → List Act) (c from count : ℕ) → ((t : ℕ) → compared_in nets (f t) ≡ c) → all_compared_in nets (map f (range_with_len from count)) ≡ count * c
count_each nets f c from zero h = omega arith
count_each nets f c from (suc count) h = next_times c (compared_in nets (f from)) (all_compared_in nets (map f (range_with_len (from + 1) count))) count (h from) (count_each nets f c (from + 1) count h)

module _ (n : Netlist) (config : Config) where
  abbrev nets : List ℕ
  nets = signal_nets n config

  -- how many bits a load compares
  abbrev load_width : Option PatternData → ℕ
  load_width before = (plan_of n config).cycles * unload_width config before

  load_count : (table : Table) (masks : List Bool) (before : Option PatternData) → all_compared_in nets (load_vectors n config (plan_of n config) table masks before) ≡ load_width before
  load_count table masks before = count_each nets (shift_acts n config (plan_of n config) table masks before) (unload_width config before) 0 (plan_of n config).cycles (λ t. shift_count n config table masks before t)

  captures_count : (merged : Merged) (domain : ℕ) (later : List ℕ) (outputs : List Tri) → length outputs ≡ suc (length later) * length (output_bits n.ports) → all_compared_in nets (captures_with n config merged domain later outputs) ≡ count_by is_known outputs
  captures_count merged domain [] outputs width = let one = capture_count n config merged domain true true outputs (last_left (length outputs) (length (output_bits n.ports)) width) in omega (arith, one)
  captures_count merged domain (next ∷ later) outputs width =
      let own : ℕ = length (output_bits n.ports) in
      let left = one_left (length outputs) own (length later) width in
      let one = capture_count n config merged domain false false (take own outputs) (length-take-le own outputs left.0) in
      let more = captures_count merged next later (drop own outputs) (length-drop own outputs ∙ left.1) in
      let all = known_split own outputs in
      omega (arith, one, more, all)

  abbrev rest_of : (before : Option PatternData) → List PatternData → List (List Act)
  rest_of before ps = pattern_vectors n config (plan_of n config) before ps ++ load_vectors n config (plan_of n config) no_table [] (last_of before ps)

  sums : (a b c all load capture rest sum more : ℕ) → a ≡ load + (capture + rest) → load ≡ all → capture ≡ b → rest ≡ c + sum → more ≡ (b + c) + sum → a ≡ all + more
  sums a b c all load capture rest sum more e f g h k = omega (arith, e, f, g, h, k)

  patterns_count : (before : Option PatternData) (ps : List PatternData) → ArePatterns n config ps → all_compared_in nets (rest_of before ps) ≡ load_width before + all_compared config (plan_of n config) ps
  patterns_count before [] are = let load = load_count no_table [] before in omega (arith, load)
  patterns_count before (p ∷ ps) are =
      let load : List (List Act) = load_vectors n config (plan_of n config) (load_of config p) p.masks before in
      let more : List (List Act) = pattern_vectors n config (plan_of n config) (Some p) ps in
      let final : List (List Act) = load_vectors n config (plan_of n config) no_table [] (last_of (Some p) ps) in
      let caught : List (List Act) = capture_acts n config p in
      let split : all_compared_in nets ((load ++ (caught ++ more)) ++ final) ≡ all_compared_in nets load + (all_compared_in nets caught + all_compared_in nets (more ++ final)) =
      ap (all_compared_in nets) (append_assoc load (caught ++ more) final ∙ ap (λ (vs : List (List Act)). load ++ vs) (append_assoc caught more final))
      ∙ count_append nets load (caught ++ (more ++ final)) ∙ ap (λ (k : ℕ). all_compared_in nets load + k) (count_append nets caught (more ++ final)) in
      sums (all_compared_in nets ((load ++ (caught ++ more)) ++ final)) (count_by is_known p.response.outputs) (load_width (Some p)) (load_width before) (all_compared_in nets load) (all_compared_in nets caught)
      (all_compared_in nets (more ++ final)) (all_compared config (plan_of n config) ps) (all_compared config (plan_of n config) (p ∷ ps)) split (load_count (load_of config p) p.masks before)
      (captures_count p.merged p.merged.domains.first (later_of p.merged.domains) p.response.outputs (outputs_width n config p are.0)) (patterns_count (Some p) ps are.1) (sum_by-cons (compared_of config (plan_of n config)) p ps)

  pub listed_count : (p : PatternData) (ps : List PatternData) → ArePatterns n config (p ∷ ps) → all_compared_in nets (vectors_of n config (plan_of n config) (p ∷ ps)) ≡ all_compared config (plan_of n config) (p ∷ ps)
  listed_count p ps are =
      let set_up = set_up_count n config in
      let rest = patterns_count None (p ∷ ps) are in
      none_first (plan_of n config).cycles _ _ _ set_up rest
    where
      none_first : (cycles here rest all : ℕ) → here ≡ 0 → rest ≡ cycles * 0 + all → here + rest ≡ all
      none_first cycles here rest all e f = omega (arith, e, f)
