-- Listed vectors are those of patterns that are played one after another.
use Rattle.std.proofs.Common.{ℕ, ◌≡◌, List, [], ◌∷◌, ◌++◌, map, Option, None, Some, refl, ap, subst, ◌∙◌}
use Rattle.std.proofs.lemmas.List.{append_assoc}
use Rattle.dft_base.specs.declared.tri.Tri.{Tri}
use Rattle.dft_behavior.specs.Logic.{Logic, Ports}
use Rattle.dft_netlist.specs.Netlist.{Netlist}
use Rattle.dft_behavior.specs.Runs.{Vector}
use Rattle.dft_abstract.specs.Cycle.{Round, IsRound, after_round}
use Rattle.dft_cubes.specs.Domains.{later_of}
use Rattle.dft_config.specs.Config.{Config}
use Rattle.dft_runs.specs.Passes.{AreRounds, after_rounds}
use Rattle.dft_stitch.specs.Chains.{plan_of}
use Rattle.dft_patterns.specs.declared.act.Act.{Act}
use Rattle.dft_scan_frame.specs.Statements.{IsReady}
use Rattle.dft_insert.specs.declared.style.Style.TheVariants.{Edt}
use Rattle.dft_insert.specs.Statements.{scanned}
use Rattle.dft_scan_behavior.specs.EdtVectors.{edt_logic}
use Rattle.dft_pattern_behavior.specs.Given.{Pattern}
use Rattle.dft_pattern_behavior.specs.Rounds.{ArePlayed, LastLoad, Played}
use Rattle.dft_pattern_behavior.proofs.Patterns.{patterns_show}
use Rattle.dft_vectors.specs.PatternData.{PatternData, load_of}
use Rattle.dft_vectors.specs.VectorList.{capture_acts, load_vectors, no_table, last_of, pattern_vectors}
use Rattle.dft_pattern_behavior.specs.Doing.{Does, AllDo}
use Rattle.dft_pattern_behavior.specs.Listed.{ArePatterns, ListedShow, pattern_of, rounds_in, vectors_in}
use Rattle.dft_pattern_behavior.proofs.Playing.{captures_capture, loads_from, loads_load, set_up_clears}

pub split_do : (w : Netlist) (a b : List (List Act)) (xs : List Vector) → AllDo w (a ++ b) xs → (ys : List Vector) × (zs : List Vector) × (xs ≡ ys ++ zs) × AllDo w a ys × AllDo w b zs
split_do w [] b xs h = ([], xs, refl, tt, h)
split_do w (acts ∷ a) b [] h = absurd h
split_do w (acts ∷ a) b (x ∷ xs) h = let r = split_do w a b xs h.1 in (x ∷ r.0, r.1, ap (λ (v : List Vector). x ∷ v) r.2, (h.0, r.3), r.4)

pub first_do : (w : Netlist) (acts : List Act) (a : List (List Act)) (xs : List Vector) → AllDo w (acts ∷ a) xs → (z : Vector) × (zs : List Vector) × (xs ≡ z ∷ zs) × Does w acts z × AllDo w a zs
first_do w acts a [] h = absurd h
first_do w acts a (z ∷ zs) h = (z, zs, refl, h.0, h.1)

pub split_rounds : (l : Logic) (old : ℕ → Tri) (ys zs : List Vector) (rs : List Round) → AreRounds l old (ys ++ zs) rs → (us : List Round) × (vs : List Round) × (rs ≡ us ++ vs) × AreRounds l old ys us × AreRounds l (after_rounds l old ys us) zs vs
split_rounds l old [] zs rs h = ([], rs, refl, tt, h)
split_rounds l old (y ∷ ys) zs [] h = absurd h
split_rounds l old (y ∷ ys) zs (r ∷ rs) h = let more = split_rounds l (after_round l y old r) ys zs rs h.1 in (r ∷ more.0, more.1, ap (λ (v : List Round). r ∷ v) more.2, (h.0, more.3), more.4)

pub first_round : (l : Logic) (old : ℕ → Tri) (z : Vector) (zs : List Vector) (rs : List Round) → AreRounds l old (z ∷ zs) rs → (r : Round) × (vs : List Round) × (rs ≡ r ∷ vs) × IsRound l z old r × AreRounds l (after_round l z old r) zs vs
first_round l old z zs [] h = absurd h
first_round l old z zs (r ∷ vs) h = (r, vs, refl, h.0, h.1)

record Split (n : Netlist) (config : Config) (ports : Ports) (ps : List PatternData) (old : ℕ → Tri) (xs : List Vector) (rs : List Round) : Type 0 where
  pub played : List Played
  pub last : LastLoad
  pub patterns : map (λ q. q.pattern) played ≡ map (pattern_of config) ps
  pub vectors : xs ≡ vectors_in played last
  pub rounds : rs ≡ rounds_in played last
  pub are : ArePlayed n config ports old played last

split_patterns : (n : Netlist) (config : Config) (ports : Ports) (before end : Option PatternData) (ps : List PatternData) (old : ℕ → Tri) (xs : List Vector) (rs : List Round) → IsReady n config → ArePatterns n config ps →
    AllDo (scanned Edt n config) (pattern_vectors n config (plan_of n config) before ps ++ load_vectors n config (plan_of n config) no_table [] end) xs → AreRounds (edt_logic n config ports) old xs rs → Split n config ports ps old xs rs
split_patterns n config ports before end [] old xs rs ready are h rounds = record {
  played = [];
  last = record { table = no_table; load = xs; rounds = rs };
  patterns = refl;
  vectors = refl;
  rounds = refl;
  are = ((loads_from n config no_table [] end 0 (plan_of n config).cycles xs ready h).carries, rounds);
}
split_patterns n config ports before end (p ∷ ps) old xs rs ready are h rounds =
    let w : Netlist = scanned Edt n config in
    let l : Logic = edt_logic n config ports in
    let its : Pattern = pattern_of config p in
    let load : List (List Act) = load_vectors n config (plan_of n config) (load_of config p) p.masks before in
    let more : List (List Act) = pattern_vectors n config (plan_of n config) (Some p) ps in
    let final : List (List Act) = load_vectors n config (plan_of n config) no_table [] end in
    let caught : List (List Act) = capture_acts n config p in
    let s = split_do w load ((caught ++ more) ++ final) xs (subst (λ (vs : List (List Act)). AllDo w vs xs) (append_assoc load (caught ++ more) final) h) in
    let c = split_do w caught (more ++ final) s.1 (subst (λ (vs : List (List Act)). AllDo w vs s.1) (append_assoc caught more final) s.4) in
    let joined : xs ≡ s.0 ++ (c.0 ++ c.1) = s.2 ∙ ap (λ (v : List Vector). s.0 ++ v) c.2 in
    let q = split_rounds l old s.0 (c.0 ++ c.1) rs (subst (λ (v : List Vector). AreRounds l old v rs) joined rounds) in
    let r = split_rounds l (after_rounds l old s.0 q.0) c.0 c.1 q.1 q.4 in
    let rest = split_patterns n config ports (Some p) end ps (after_rounds l (after_rounds l old s.0 q.0) c.0 r.0) c.1 r.1 ready are.1 c.4 r.4 in
    record {
      played = record { pattern = its; load = s.0; captures = c.0; rounds = q.0; capturing = r.0 } ∷ rest.played;
      last = rest.last;
      patterns = ap (λ (v : List Pattern). its ∷ v) rest.patterns;
      vectors = joined ∙ ap (λ (v : List Vector). s.0 ++ (c.0 ++ v)) rest.vectors;
      rounds = q.2 ∙ ap (λ (v : List Round). q.0 ++ v) r.2 ∙ ap (λ (v : List Round). q.0 ++ (r.0 ++ v)) rest.rounds;
      are = (are.0, loads_load n config its before s.0 ready s.3, captures_capture n config its p.merged.domains.first (later_of p.merged.domains) p.response.outputs c.0 ready c.3, q.3, r.3, rest.are);
    }

pub listed_show : ListedShow
listed_show n config ports p ps old xs rs ready suits are h rounds =
    let w : Netlist = scanned Edt n config in
    let l : Logic = edt_logic n config ports in
    let final : List (List Act) = load_vectors n config (plan_of n config) no_table [] (last_of None (p ∷ ps)) in
    let c = first_do w _ (pattern_vectors n config (plan_of n config) None (p ∷ ps) ++ final) xs h in
    let r = first_round l old c.0 c.1 rs (subst (λ (v : List Vector). AreRounds l old v rs) c.2 rounds) in
    let rest = split_patterns n config ports None (last_of None (p ∷ ps)) (p ∷ ps) (after_round l c.0 old r.0) c.1 r.1 ready are c.4 r.4 in
    record {
      clear = c.0;
      first = r.0;
      played = rest.played;
      last = rest.last;
      patterns = rest.patterns;
      vectors = c.2 ∙ ap (λ (v : List Vector). c.0 ∷ v) rest.vectors;
      rounds = r.2 ∙ ap (λ (v : List Round). r.0 ∷ v) rest.rounds;
      shown = patterns_show n config ports c.0 old r.0 rest.played rest.last ready suits (set_up_clears n config c.0 ready c.3) r.3 rest.are;
    }
