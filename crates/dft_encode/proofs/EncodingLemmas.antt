-- What patterns are found by, and the set of all patterns.
use Rattle.std.proofs.Common.{◌≡◌, ◌≤◌, List, length, None, sym, subst, ap, ◌∙◌, arith}
use Rattle.std.specs.List.{All}
use Rattle.std.proofs.lemmas.List.{take_all}
use Rattle.dft_netlist.specs.declared.ids.InstanceId.{InstanceId}
use Rattle.dft_netlist.specs.Netlist.{Netlist}
use Rattle.dft_config.specs.Config.{Config}
use Rattle.dft_config.specs.Range.{IsInRange}
use Rattle.dft_rules.specs.Refusals as rules
use Rattle.dft_stitch.specs.Chains.{plan_of}
use Rattle.dft_stitch.specs.Limits as stitch
use Rattle.dft_stitch.specs.Plans.{Plan}
use Rattle.dft_cubes.specs.declared.cube.Merged.{Merged}
use Rattle.dft_expect.specs.Masks.{always_of}
use Rattle.dft_vectors.specs.Listing.{Listing, Lists}
use Rattle.dft_vectors.specs.PatternData.{PatternData, columns_of}
use Rattle.dft_vectors.specs.VectorList.{last_of, patterns_of}
use Rattle.dft_encode.specs.declared.encoding.Encoded.{Encoded}
use Rattle.dft_encode.specs.declared.filling.Filled.{Filled}
use Rattle.dft_encode.specs.declared.finder.Finder.{Finder}
use Rattle.dft_encode.specs.Compiled.{ArePatterns}
use Rattle.dft_encode.specs.Encoding.{IsEncoded}
use Rattle.dft_encode.specs.Finding.{HasPatterns, IsFinder, last_found}
use Rattle.dft_stitch.proofs.ChainLimits.{chains_count, chains_short, limits}

pub is_finder : (f : Finder) → IsInRange f.loads.now.config → rules.refusal f.loads.now.design f.loads.now.config ≡ None → stitch.refusal f.loads.now.design f.loads.now.config ≡ None → f.loads.now.plan ≡ plan_of f.loads.now.design f.loads.now.config → f.always.now ≡ always_of f.loads.now.config →
    f.merger.now.loads ≡ f.loads.now → f.merger.now.loads.rows.columns ≡ columns_of f.loads.now.config f.loads.now.plan → length f.merger.now.patterns ≤ 65536 → IsFinder f
is_finder f range passed fits planned always merger columns few =
    let n = f.loads.now.design in
    let config = f.loads.now.config in
    let most = limits n config fits in record {
      range = range;
      passed = passed;
      chains = planned;
      count = ap (λ (p : Plan). length p.chains) planned ∙ chains_count n config;
      cells = subst (λ (p : Plan). All (λ (cells : List InstanceId). length cells ≤ p.cycles) p.chains) (sym planned) (chains_short n config);
      cycles = subst (λ (p : Plan). p.cycles ≤ 4096) (sym planned) most.0;
      small = subst (λ (p : Plan). columns_of config p ≤ 16384) (sym planned) most.1;
      always = always;
      merger = merger;
      columns = columns;
      few = few;
    }

-- a list that has all patterns gives their set
pub is_encoded : (f : Finder) (written : Netlist) (g : Filled) (l : Listing) (e : Encoded) → HasPatterns f (length f.merger.now.patterns) g l →
    ((patterns : List PatternData) → Lists l patterns → last_found l.config l.plan g.last ≡ last_of None patterns → e.set ≡ patterns_of written l.design l.config l.plan patterns) → e.masked ≡ g.masked →
    IsEncoded written f.loads.now.design f.loads.now.config f.loads.now.plan f.merger.now.loads.rows f.merger.now.patterns e
is_encoded f written g l e has set masked =
    let merged = f.merger.now.patterns in
    let list = has.patterns in
    let last : last_found l.config l.plan g.last ≡ last_of None list = ap (λ (c : Config). last_found c l.plan g.last) has.config ∙ ap (λ (p : Plan). last_found f.loads.now.config p g.last) has.plan ∙ has.last in record {
      list = list;
      are = subst (λ (ms : List Merged). ArePatterns f.loads.now.design f.loads.now.config f.loads.now.plan f.merger.now.loads.rows ms list) (take_all (length merged) merged (omega arith)) has.are;
      set = set list has.lists last
          ∙ ap (λ (n : Netlist). patterns_of written n l.config l.plan list) has.design
          ∙ ap (λ (c : Config). patterns_of written f.loads.now.design c l.plan list) has.config
          ∙ ap (λ (p : Plan). patterns_of written f.loads.now.design f.loads.now.config p list) has.plan;
      masked = masked ∙ has.masked;
    }
