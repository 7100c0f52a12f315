-- Listed vectors play each pattern.
use Rattle.std.proofs.Common.{ℕ, zero, suc, ◌+◌, ◌≡◌, List, [], ◌∷◌, ◌++◌, length, map, take, drop, Option, None, Some, slice_get, refl, sym, ap, subst, arith, ◌∙◌}
use Rattle.std.proofs.lemmas.List.{append_assoc, length-append}
use Rattle.std.proofs.lemmas.List.Sums.{sum_by-cons}
use Rattle.std.proofs.lemmas.Option.{none-some, same_Some}
use Rattle.dft_netlist.specs.Netlist.{Netlist}
use Rattle.dft_behavior.specs.Runs.{Vector}
use Rattle.dft_config.specs.Config.{Config}
use Rattle.dft_cubes.specs.Domains.{captures_of, later_of}
use Rattle.dft_stitch.specs.Chains.{plan_of}
use Rattle.dft_edt.specs.Vectors.{IsClearing}
use Rattle.dft_patterns.specs.declared.act.Act.{Act}
use Rattle.dft_scan_frame.specs.Statements.{IsReady}
use Rattle.dft_insert.specs.declared.style.Style.TheVariants.{Edt}
use Rattle.dft_insert.specs.Statements.{scanned}
use Rattle.dft_scan_behavior.specs.Facts.{edt_hardware}
use Rattle.dft_pattern_behavior.specs.Given.{AreCapturesFrom, AreCapturesOf, Pattern, IsLoadOf}
use Rattle.dft_vectors.specs.PatternData.{PatternData, load_of, merged_of}
use Rattle.dft_vectors.specs.VectorList.{capture_acts, captures_in, last_of, load_vectors, no_table, pattern_vectors, set_up_acts, vectors_for}
use Rattle.dft_pattern_behavior.specs.Doing.{AllDo}
use Rattle.dft_pattern_behavior.specs.Listed.{pattern_of}
use Rattle.dft_pattern_behavior.proofs.Ends.{captures_end}
use Rattle.dft_pattern_behavior.proofs.Playing.{captures_capture, loads_load, set_up_clears}
use Rattle.dft_pattern_behavior.proofs.Splitting.{first_do, split_do}
use Rattle.dft_compile_laws.specs.Playing.{IsPlayedAt, PatternsPlay, capture_number}

take_front : {X : Type 0} (xs ys : List X) → take (length xs) (xs ++ ys) ≡ xs
take_front [] ys = refl
take_front {X = X} (x ∷ xs) ys = ap (λ (rest : List X). x ∷ rest) (take_front xs ys)

drop_front : {X : Type 0} (xs ys : List X) → drop (length xs) (xs ++ ys) ≡ ys
drop_front [] ys = refl
drop_front (x ∷ xs) ys = drop_front xs ys

pub captures_count : (n : Netlist) (config : Config) (p : Pattern) (domain : ℕ) (later : List ℕ) (xs : List Vector) → AreCapturesFrom n config p domain later xs → length xs ≡ suc (length later)
captures_count n config p domain [] [] are = absurd are
captures_count n config p domain [] (x ∷ y ∷ xs) are = absurd are
captures_count n config p domain [] (x ∷ []) are = refl
captures_count n config p domain (next ∷ later) [] are = absurd are
captures_count n config p domain (next ∷ later) (x ∷ xs) are = ap suc (captures_count n config p next later xs are.2)

-- what stands behind a clearing vector: the load and the captures of a pattern, and the vectors after them
record Cut (n : Netlist) (config : Config) (before : Option PatternData) (q : PatternData) (rest : List (List Act)) (front : List Vector) (clear : Vector) (xs : List Vector) : Type 0 where
  load : List Vector
  captures : List Vector
  more : List Vector
  is : front ++ (clear ∷ xs) ≡ (front ++ (clear ∷ load)) ++ (captures ++ more)
  size : length (front ++ (clear ∷ load)) ≡ length front + suc (plan_of n config).cycles
  loaded : IsLoadOf n config (pattern_of config q) load
  captured : AreCapturesOf n config (pattern_of config q) captures
  does : AllDo (scanned Edt n config) rest more

cut : (n : Netlist) (config : Config) (before : Option PatternData) (q : PatternData) (rest : List (List Act)) (front : List Vector) (clear : Vector) (xs : List Vector) → IsReady n config →
    AllDo (scanned Edt n config) (load_vectors n config (plan_of n config) (load_of config q) q.masks before ++ (capture_acts n config q ++ rest)) xs → Cut n config before q rest front clear xs
cut n config before q rest front clear xs ready does =
    let w : Netlist = scanned Edt n config in
    let its : Pattern = pattern_of config q in
    let s = split_do w (load_vectors n config (plan_of n config) (load_of config q) q.masks before) (capture_acts n config q ++ rest) xs does in
    let c = split_do w (capture_acts n config q) rest s.1 s.4 in
    let loaded : IsLoadOf n config its s.0 = loads_load n config its before s.0 ready s.3 in
    record {
      load = s.0;
      captures = c.0;
      more = c.1;
      is = ap (λ (v : List Vector). front ++ (clear ∷ v)) (s.2 ∙ ap (λ (v : List Vector). s.0 ++ v) c.2) ∙ sym (append_assoc front (clear ∷ s.0) (c.0 ++ c.1));
      size = length-append front (clear ∷ s.0) ∙ ap (λ (k : ℕ). length front + suc k) loaded.count;
      loaded = loaded;
      captured = captures_capture n config its q.merged.domains.first (later_of q.merged.domains) q.response.outputs c.0 ready c.3;
      does = c.4;
    }

-- the number of the first capture vector of a pattern, where so many vectors stand before the clearing one that is before these patterns
abbrev number_behind : Netlist → Config → (before : ℕ) → List PatternData → (pattern : ℕ) → ℕ
number_behind n config before ps p = before + 1 + (vectors_for (plan_of n config).cycles (take p (captures_in (map merged_of ps))) + (plan_of n config).cycles)

play_from : (n : Netlist) (config : Config) (before : Option PatternData) (final : List (List Act)) (ps : List PatternData) (p : ℕ) (d : PatternData) (front : List Vector) (clear : Vector) (xs : List Vector) →
    IsReady n config → IsClearing (edt_hardware n config) clear → AllDo (scanned Edt n config) (pattern_vectors n config (plan_of n config) before ps ++ final) xs → slice_get ps p ≡ Some d →
    IsPlayedAt n config (pattern_of config d) (front ++ (clear ∷ xs)) (number_behind n config (length front) ps p)
play_from n config before final [] p d front clear xs ready clearing does at = absurd (none-some d at)
play_from n config before final (q ∷ ps) zero d front clear xs ready clearing does at =
    let more : List (List Act) = pattern_vectors n config (plan_of n config) (Some q) ps in
    let load : List (List Act) = load_vectors n config (plan_of n config) (load_of config q) q.masks before in
    let caught : List (List Act) = capture_acts n config q in
    let listed = subst (λ (vs : List (List Act)). AllDo (scanned Edt n config) vs xs) (append_assoc load (caught ++ more) final ∙ ap (λ (vs : List (List Act)). load ++ vs) (append_assoc caught more final)) does in
    let c = cut n config before q (more ++ final) front clear xs ready listed in
    let v : ℕ = number_behind n config (length front) (q ∷ ps) zero in
    let number : v ≡ length (front ++ (clear ∷ c.load)) = (let size = c.size in omega (arith, size)) in
    subst (λ (x : PatternData). IsPlayedAt n config (pattern_of config x) (front ++ (clear ∷ xs)) v) (same_Some q d at) (record {
      before = front;
      clear = clear;
      load = c.load;
      front = (λ i. take (number i) (c.is i)) ∙ take_front (front ++ (clear ∷ c.load)) (c.captures ++ c.more);
      clearing = clearing;
      loads = c.loaded;
      captures = c.captures;
      at = record { rest = c.more; is = (λ i. drop (number i) (c.is i)) ∙ drop_front (front ++ (clear ∷ c.load)) (c.captures ++ c.more) };
      captured = c.captured;
    })
play_from n config before final (q ∷ ps) (suc p) d front clear xs ready clearing does at =
    let cycles : ℕ = (plan_of n config).cycles in
    let its : Pattern = pattern_of config q in
    let later : List ℕ = later_of q.merged.domains in
    let more : List (List Act) = pattern_vectors n config (plan_of n config) (Some q) ps in
    let load : List (List Act) = load_vectors n config (plan_of n config) (load_of config q) q.masks before in
    let caught : List (List Act) = capture_acts n config q in
    let listed = subst (λ (vs : List (List Act)). AllDo (scanned Edt n config) vs xs) (append_assoc load (caught ++ more) final ∙ ap (λ (vs : List (List Act)). load ++ vs) (append_assoc caught more final)) does in
    let c = cut n config before q (more ++ final) front clear xs ready listed in
    let ends = captures_end n config its q.merged.domains.first later c.captures c.captured in
    let count : length c.captures ≡ suc (length later) = captures_count n config its q.merged.domains.first later c.captures c.captured in
    let shorter : length c.captures ≡ length ends.front + 1 = ap length ends.is ∙ length-append ends.front (ends.last ∷ []) in
    let next : List Vector = (front ++ (clear ∷ c.load)) ++ ends.front in
    let wide : length next ≡ length (front ++ (clear ∷ c.load)) + length ends.front = length-append (front ++ (clear ∷ c.load)) ends.front in
    let same : front ++ (clear ∷ xs) ≡ next ++ (ends.last ∷ c.more) =
    c.is
    ∙ ap (λ (v : List Vector). (front ++ (clear ∷ c.load)) ++ v) (ap (λ (v : List Vector). v ++ c.more) ends.is ∙ append_assoc ends.front (ends.last ∷ []) c.more)
    ∙ sym (append_assoc (front ++ (clear ∷ c.load)) ends.front (ends.last ∷ c.more)) in
    let rest = play_from n config (Some q) final ps p d next ends.last c.more ready ends.clearing c.does at in
    let sum = sum_by-cons (λ (k : ℕ). cycles + k) (captures_of q.merged) (take p (captures_in (map merged_of ps))) in
    let number : number_behind n config (length next) ps p ≡ number_behind n config (length front) (q ∷ ps) (suc p) = (let size = c.size in omega (arith, size, wide, shorter, count, sum)) in
    subst (λ (v : ℕ). IsPlayedAt n config (pattern_of config d) (front ++ (clear ∷ xs)) v) number (subst (λ (l : List Vector). IsPlayedAt n config (pattern_of config d) l (number_behind n config (length next) ps p)) (sym same) rest)

pub patterns_play : PatternsPlay
patterns_play n config [] xs ready does p d at = absurd (none-some d at)
patterns_play n config (q ∷ ps) xs ready does p d at =
    let final : List (List Act) = load_vectors n config (plan_of n config) no_table [] (last_of None (q ∷ ps)) in
    let c = first_do (scanned Edt n config) (set_up_acts n config) (pattern_vectors n config (plan_of n config) None (q ∷ ps) ++ final) xs does in
    let played = play_from n config None final (q ∷ ps) p d [] c.0 c.1 ready (set_up_clears n config c.0 ready c.3) c.4 at in
    let number : number_behind n config 0 (q ∷ ps) p ≡ capture_number n config (q ∷ ps) p = omega arith in
    subst (λ (v : ℕ). IsPlayedAt n config (pattern_of config d) xs v) number (subst (λ (l : List Vector). IsPlayedAt n config (pattern_of config d) l (number_behind n config 0 (q ∷ ps) p)) (sym c.2) played)
