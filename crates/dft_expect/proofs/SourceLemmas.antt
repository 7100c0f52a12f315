-- The sources, net by net, pattern by pattern and port by port.
use Rattle.std.proofs.Common.{ℕ, ◌+◌, ◌-◌, Bool, true, false, ◌&&◌, ◌≡◌, ◌≢◌, ◌<◌, ◌≤◌, ◌⊎◌, inl, inr, List, [], drop, length, slice_get, Option, None, Some, refl, sym, subst, ap, arith, ◌∙◌}
use Rattle.std.specs.Prelude.{if◌then◌else◌, ◌==◌}
use Rattle.std.proofs.lemmas.Bool.{cases_eq, cases_lt, eqb-true}
use Rattle.std.proofs.lemmas.Bool.Decides.{nat_tests}
use Rattle.std.proofs.lemmas.List.{get_or_past}
use Rattle.std.proofs.lemmas.Option.{same_Some}
use Rattle.dft_base.specs.declared.tri.Tri.{Tri}
use Rattle.dft_base.specs.declared.tri.Tri.TheVariants.{Unknown}
use Rattle.dft_base.specs.Tri.{known}
use Rattle.dft_base.proofs.NumberLemmas.{eqb_turned}
use Rattle.dft_base.proofs.ListLemmas.{drop_at}
use Rattle.dft_lanes.specs.declared.wide.Wide.{Wide}
use Rattle.dft_netlist.specs.declared.ids.NetId.{NetId}
use Rattle.dft_netlist.specs.Netlist.{Netlist}
use Rattle.dft_behavior.specs.Logic.{Meaning}
use Rattle.dft_evaluator.specs.Wides.{IsWide, unknown_wide, value_in}
use Rattle.dft_evaluator.specs.Evaluations.{Evaluation, IsFor, IsSet, IsSetWide, meaning_at, value_at}
use Rattle.dft_evaluator.proofs.BitLemmas.{all_unknown}
use Rattle.dft_evaluator.proofs.WideLemmas.{value_is}
use Rattle.dft_expect.specs.declared.pattern.Pattern.{Pattern}
use Rattle.dft_expect.specs.declared.settings.Setting.{Setting}
use Rattle.dft_expect.specs.declared.settings.Setting.TheVariants as setting
use Rattle.dft_expect.specs.Captures.{bit_of_port}
use Rattle.dft_expect.specs.Settings.{cell_value, is_input, port_or, setting_at, value_by}
use Rattle.dft_expect.specs.Sources.{IsSame, IsPortSet, ArePortsSet}
use Rattle.dft_expect.proofs.GivenLemmas.{port_or_value}

pub same_more : (a b c : Evaluation) → IsSame a b → IsSame b c → IsSame a c
same_more a b c one two = record { meanings = two.meanings ∙ one.meanings; nets = two.nets ∙ one.nets }

pub same_self : (a : Evaluation) → IsSame a a
same_self a = record { meanings = refl; nets = refl }

-- ---- a cell in the patterns

-- the first so many patterns have the cell's values
pub record AreCells (patterns : List Pattern) (number : ℕ) (inverted : Bool) (done : ℕ) (wide : Wide) : Type 0 where
  pub whole : IsWide wide (value_in wide)
  pub each : (p : ℕ) (pattern : Pattern) → p < done → slice_get patterns p ≡ Some pattern → value_in wide p ≡ cell_value inverted (slice_get pattern.loaded.now number)

pub cells_more : (patterns : List Pattern) (number : ℕ) (inverted : Bool) (done : ℕ) (old new : Wide) (here : Pattern) (value : Tri) → AreCells patterns number inverted done old → slice_get patterns done ≡ Some here
    → value ≡ cell_value inverted (slice_get here.loaded.now number) → ((p : ℕ) → value_in new p ≡ (if p == done then value else value_in old p)) → (IsWide old (value_in old) → IsWide new (value_in new)) → AreCells patterns number inverted (done + 1) new
cells_more patterns number inverted done old new here value before at is each wide = record {
  whole = wide before.whole;
  each = λ p pattern less there. by p pattern less there (cases_eq p done);
}
  where
    by : (p : ℕ) (pattern : Pattern) → p < done + 1 → slice_get patterns p ≡ Some pattern → (p ≡ done) ⊎ (p ≢ done) → value_in new p ≡ cell_value inverted (slice_get pattern.loaded.now number)
    by p pattern less there (inl e) =
        let yes : (p == done) ≡ true = grind (arith, nat_tests) in
        let same : here ≡ pattern = same_Some here pattern (sym at ∙ ap (slice_get patterns) (sym e) ∙ there) in
        each p ∙ ap (λ (b : Bool). if b then value else value_in old p) yes ∙ is ∙ ap (λ (x : Pattern). cell_value inverted (slice_get x.loaded.now number)) same
    by p pattern less there (inr ne) =
        let no : (p == done) ≡ false = grind (arith, nat_tests) in
        each p ∙ ap (λ (b : Bool). if b then value else value_in old p) no ∙ before.each p pattern (omega (arith, less, ne)) there

-- ---- all nets

-- the first so many nets are set
pub record AreSet (settings : List Setting) (patterns : List Pattern) (done : ℕ) (new : Evaluation) : Type 0 where
  pub each : (p : ℕ) (pattern : Pattern) → slice_get patterns p ≡ Some pattern → (net : ℕ) → net < done → value_at new p net ≡ value_by (setting_at settings net) None pattern.loaded.now

pub nets_more : (settings : List Setting) (patterns : List Pattern) (done : ℕ) (old new : Evaluation) (wide : Wide) → AreSet settings patterns done old → IsSetWide old done wide new
    → ((p : ℕ) (pattern : Pattern) → slice_get patterns p ≡ Some pattern → value_in wide p ≡ value_by (setting_at settings done) None pattern.loaded.now) → AreSet settings patterns (done + 1) new
nets_more settings patterns done old new wide before set is = record { each = λ p pattern at net less. by p pattern at net less (cases_eq net done) }
  where
    by : (p : ℕ) (pattern : Pattern) → slice_get patterns p ≡ Some pattern → (net : ℕ) → net < done + 1 → (net ≡ done) ⊎ (net ≢ done) → value_at new p net ≡ value_by (setting_at settings net) None pattern.loaded.now
    by p pattern at net less (inl e) =
        let yes : (net == done) ≡ true = grind (arith, nat_tests) in
        set.each p net ∙ ap (λ (b : Bool). if b then value_in wide p else value_at old p net) yes ∙ is p pattern at ∙ ap (λ (k : ℕ). value_by (setting_at settings k) None pattern.loaded.now) (sym e)
    by p pattern at net less (inr ne) =
        let no : (net == done) ≡ false = grind (arith, nat_tests) in
        set.each p net ∙ ap (λ (b : Bool). if b then value_in wide p else value_at old p net) no ∙ before.each p pattern at net (omega (arith, less, ne))

-- ---- a port

port_step : (b g bit : Bool) (rest : Option Bool) (before : Tri) → (if g && b then known bit else port_or b rest before) ≡ port_or b (if g then Some bit else rest) before
port_step true true bit rest before = refl
port_step true false bit rest before = refl
port_step false true bit rest before = refl
port_step false false bit rest before = refl

port_by : (t g b bit : Bool) (rest : Option Bool) (old cur new : Tri) → new ≡ (if t && (g && b) then known bit else cur) → cur ≡ (if t then port_or b rest old else old) → new ≡ (if t then port_or b (if g then Some bit else rest) old else old)
port_by true g b bit rest old cur new one two = one ∙ ap (λ (v : Tri). if g && b then known bit else v) two ∙ port_step b g bit rest old
port_by false g b bit rest old cur new one two = one ∙ two

pub ports_none : (settings : List Setting) (pattern : ℕ) (old : Evaluation) → ArePortsSet settings pattern [] old old
ports_none settings pattern old = record { each = λ q k. by (q == pattern) (is_input (setting_at settings k)) (value_at old q k) }
  where
    by : (t b : Bool) (v : Tri) → v ≡ (if t then port_or b None v else v)
    by true true v = refl
    by true false v = refl
    by false b v = refl

pub ports_more : (settings : List Setting) (pattern j : ℕ) (ports : List (NetId × Bool)) (given : NetId × Bool) (old cur new : Evaluation) → ArePortsSet settings pattern (drop (j + 1) ports) old cur → slice_get ports j ≡ Some given
    → IsPortSet settings pattern given cur new → ArePortsSet settings pattern (drop j ports) old new
ports_more settings pattern j ports given old cur new before at set =
    subst (λ (l : List (NetId × Bool)). ArePortsSet settings pattern l old new) (sym (drop_at ports j given at))
    (record {
      each = λ q k. port_by (q == pattern) (given.0.0 == k) (is_input (setting_at settings k)) given.1 (bit_of_port (drop (j + 1) ports) k) (value_at old q k) (value_at cur q k) (value_at new q k) (set.each q k) (before.each q k);
    })

pub ports_back : (settings : List Setting) (pattern done : ℕ) (ports : List (NetId × Bool)) (given : NetId × Bool) (old cur new : Evaluation) → done < length ports → ArePortsSet settings pattern (drop (length ports - done) ports) old cur
    → slice_get ports (length ports - 1 - done) ≡ Some given → IsPortSet settings pattern given cur new → ArePortsSet settings pattern (drop (length ports - (done + 1)) ports) old new
ports_back settings pattern done ports given old cur new less before at set =
    let j : ℕ = length ports - (done + 1) in
    let back : length ports - 1 - done ≡ j = omega (arith, less) in
    let next : length ports - done ≡ j + 1 = omega (arith, less) in
    ports_more settings pattern j ports given old cur new (subst (λ (k : ℕ). ArePortsSet settings pattern (drop k ports) old cur) next before) (subst (λ (k : ℕ). slice_get ports k ≡ Some given) back at) set

-- a net that may have the bit is set
here_by : (t e b : Bool) → (e ≡ true → b ≡ true) → (t && (e && b)) ≡ (t && e)
here_by t true b may = ap (λ (c : Bool). t && c) (may refl)
here_by t false b may = refl

pub port_set : (settings : List Setting) (pattern : ℕ) (given : NetId × Bool) (old new : Evaluation) (value : Tri) → setting_at settings given.0.0 ≡ setting.Input → value ≡ known given.1 → IsSet old pattern given.0.0 value new → IsPortSet settings pattern given old new
port_set settings pattern given old new value is v set = record {
  each = λ q k.
      set.each q k
      ∙ ap (λ (b : Bool). if (q == pattern) && b then value else value_at old q k) (eqb_turned k given.0.0)
      ∙ ap (λ (b : Bool). if b then value else value_at old q k)
      (sym (here_by (q == pattern) (given.0.0 == k) (is_input (setting_at settings k)) (λ e. ap (λ (j : ℕ). is_input (setting_at settings j)) (sym (eqb-true given.0.0 k e)) ∙ ap is_input is)))
      ∙ ap (λ (w : Tri). if (q == pattern) && ((given.0.0 == k) && is_input (setting_at settings k)) then w else value_at old q k) v;
}

away_by : (t e b : Bool) (v w : Tri) → (e ≡ true → b ≡ false) → v ≡ (if t && (e && b) then w else v)
away_by true true b v w not = ap (λ (c : Bool). if c then w else v) (sym (not refl))
away_by true false b v w not = refl
away_by false e b v w not = refl

-- and else nothing changes
pub port_left : (settings : List Setting) (pattern : ℕ) (given : NetId × Bool) (old : Evaluation) → is_input (setting_at settings given.0.0) ≡ false → IsPortSet settings pattern given old old
port_left settings pattern given old not = record {
  each = λ q k. away_by (q == pattern) (given.0.0 == k) (is_input (setting_at settings k)) (value_at old q k) (known given.1) (λ e. ap (λ (j : ℕ). is_input (setting_at settings j)) (sym (eqb-true given.0.0 k e)) ∙ not);
}

-- ---- all patterns

-- the ports of the first so many patterns are set, and those of the others are as before
pub record AreGivenTo (settings : List Setting) (patterns : List Pattern) (done : ℕ) (old new : Evaluation) : Type 0 where
  pub same : IsSame old new
  pub each : (p : ℕ) (pattern : Pattern) → p < done → slice_get patterns p ≡ Some pattern → (net : ℕ) → value_at new p net ≡ port_or (is_input (setting_at settings net)) (bit_of_port pattern.merged.now.ports net) (value_at old p net)
  pub left : (p : ℕ) → done ≤ p → (net : ℕ) → value_at new p net ≡ value_at old p net

pub given_more : (settings : List Setting) (patterns : List Pattern) (done : ℕ) (here : Pattern) (old cur new : Evaluation) → AreGivenTo settings patterns done old cur → slice_get patterns done ≡ Some here
    → IsSame cur new → ArePortsSet settings done here.merged.now.ports cur new → AreGivenTo settings patterns (done + 1) old new
given_more settings patterns done here old cur new before at same set = record {
  same = same_more old cur new before.same same;
  each = λ p pattern less there net. by p pattern less there net (cases_eq p done);
  left = λ p past net. (
      let no : (p == done) ≡ false = grind (arith, nat_tests, past) in
      set.each p net ∙ ap (λ (b : Bool). if b then port_or (is_input (setting_at settings net)) (bit_of_port here.merged.now.ports net) (value_at cur p net) else value_at cur p net) no ∙ before.left p (omega (arith, past)) net);
}
  where
    by : (p : ℕ) (pattern : Pattern) → p < done + 1 → slice_get patterns p ≡ Some pattern → (net : ℕ) → (p ≡ done) ⊎ (p ≢ done) → value_at new p net ≡ port_or (is_input (setting_at settings net)) (bit_of_port pattern.merged.now.ports net) (value_at old p net)
    by p pattern less there net (inl e) =
        let yes : (p == done) ≡ true = grind (arith, nat_tests) in
        let it : here ≡ pattern = same_Some here pattern (sym at ∙ ap (slice_get patterns) (sym e) ∙ there) in
        set.each p net ∙ ap (λ (b : Bool). if b then port_or (is_input (setting_at settings net)) (bit_of_port here.merged.now.ports net) (value_at cur p net) else value_at cur p net) yes
        ∙ ap (λ (x : Pattern). port_or (is_input (setting_at settings net)) (bit_of_port x.merged.now.ports net) (value_at cur p net)) it
        ∙ ap (port_or (is_input (setting_at settings net)) (bit_of_port pattern.merged.now.ports net)) (before.left p (omega (arith, e)) net)
    by p pattern less there net (inr ne) =
        let no : (p == done) ≡ false = grind (arith, nat_tests) in
        set.each p net ∙ ap (λ (b : Bool). if b then port_or (is_input (setting_at settings net)) (bit_of_port here.merged.now.ports net) (value_at cur p net) else value_at cur p net) no
        ∙ before.each p pattern (omega (arith, less, ne)) there net

-- both together
pub set_whole : (settings : List Setting) (pattern : Pattern) (p net : ℕ) (old cur new : Tri) → cur ≡ value_by (setting_at settings net) None pattern.loaded.now → new ≡ port_or (is_input (setting_at settings net)) (bit_of_port pattern.merged.now.ports net) cur
    → new ≡ value_by (setting_at settings net) (bit_of_port pattern.merged.now.ports net) pattern.loaded.now
set_whole settings pattern p net old cur new one two =
    two ∙ ap (port_or (is_input (setting_at settings net)) (bit_of_port pattern.merged.now.ports net)) one ∙ port_or_value (setting_at settings net) (bit_of_port pattern.merged.now.ports net) pattern.loaded.now

-- past the end nothing is known
pub past_set : (settings : List Setting) (e : Evaluation) (p net : ℕ) (given : Option Bool) (loaded : List Bool) → length settings ≡ length e.wides → p < 512 → length settings ≤ net → value_at e p net ≡ value_by (setting_at settings net) given loaded
past_set settings e p net given loaded same less past =
    ap (λ (w : Wide). value_in w p) (get_or_past e.wides net unknown_wide (omega (arith, same, past))) ∙ value_is unknown_wide (λ q. Unknown) all_unknown p less
    ∙ sym (ap (λ (s : Setting). value_by s given loaded) (get_or_past settings net setting.Unknown past))

set_case : (settings : List Setting) (e : Evaluation) (p net : ℕ) (given : Option Bool) (loaded : List Bool) → length settings ≡ length e.wides → p < 512 → (net < length settings → value_at e p net ≡ value_by (setting_at settings net) given loaded)
    → (net < length settings) ⊎ (length settings ≤ net) → value_at e p net ≡ value_by (setting_at settings net) given loaded
set_case settings e p net given loaded same less set (inl live) = set live
set_case settings e p net given loaded same less set (inr past) = past_set settings e p net given loaded same less past

pub set_all_nets : (settings : List Setting) (e : Evaluation) (p net : ℕ) (given : Option Bool) (loaded : List Bool) → length settings ≡ length e.wides → p < 512 → (net < length settings → value_at e p net ≡ value_by (setting_at settings net) given loaded) → value_at e p net ≡ value_by (setting_at settings net) given loaded
set_all_nets settings e p net given loaded same less set = set_case settings e p net given loaded same less set (cases_lt net (length settings))

pub same_for : (n : Netlist) (a b : Evaluation) → IsSame a b → IsFor n a → IsFor n b
same_for n a b same is = record { nets = same.nets ∙ is.nets; means = λ net. ap (λ (ms : List Meaning). meaning_at ms net) same.meanings ∙ is.means net }
