-- Loops that make a recipe for each number below a bound, or for each item of a list.
use Rattle.std.proofs.Common.{ℕ, suc, ◌+◌, ◌-◌, ◌<◌, ◌≤◌, ◌≡◌, List, [], ◌∷◌, ◌++◌, length, Ok, sym, subst, ap, arith, ◌∙◌, length-append}
use Rattle.std.specs.List.{range_with_len}
use Rattle.dft_netlist.specs.declared.ids.NetId.{NetId}
use Rattle.dft_netlist.specs.declared.error.NetlistError.{NetlistError}
use Rattle.dft_parts.specs.Parts.{Making}
use Rattle.dft_parts.specs.Recipes.{Recipe, AreThere, each, collect, outcome, IsRefusal}
use Rattle.dft_parts.proofs.Fitting.{there_on}
use Rattle.dft_parts.proofs.Levels.{there_more}
use Rattle.dft_parts.proofs.Loops.{goes_on, goes_start, each_step, each_refused, each_end, collect_step, collect_refused, collect_end}

-- ---- numbers

pub range_on : (k n : ℕ) → k < n → range_with_len k (n - k) ≡ k ∷ range_with_len (k + 1) (n - (k + 1))
range_on k n less = let e : n - k ≡ suc (n - (k + 1)) = omega (arith, less) in ap (range_with_len k) e

pub range_start : (n : ℕ) → range_with_len 0 (n - 0) ≡ range_with_len 0 n
range_start n = let e : n - 0 ≡ n = omega arith in ap (range_with_len 0) e

-- ---- for each of a list

-- what is left of the list gives what the whole gives
pub record Goes {X : Type 0} (f : X → Recipe (Unit {0})) (whole rest : List X) (start now : Making) : Type 0 where
  pub goes : outcome (each f whole) start ≡ outcome (each f rest) now
  pub more : length start.netlist.nets ≤ length now.netlist.nets

pub each_starts : {X : Type 0} (f : X → Recipe (Unit {0})) (whole rest : List X) (s : Making) → rest ≡ whole → Goes f whole rest s s
each_starts {X = X} f whole rest s same = record { goes = ap (λ (xs : List X). outcome (each f xs) s) (sym same); more = omega arith }

pub each_goes : {X : Type 0} (f : X → Recipe (Unit {0})) (whole rest after : List X) (x : X) (start now t : Making) → Goes f whole rest start now → rest ≡ x ∷ after → outcome (f x) now ≡ Ok (tt, t) → length now.netlist.nets ≤ length t.netlist.nets →
    Goes f whole after start t
each_goes {X = X} f whole rest after x start now t g is made more =
    let before = g.more in
    record { goes = g.goes ∙ ap (λ (xs : List X). outcome (each f xs) now) is ∙ each_step f x after now t made; more = omega (arith, before, more) }

pub each_stops : {X : Type 0} (f : X → Recipe (Unit {0})) (whole rest after : List X) (x : X) (start now : Making) (e : NetlistError) → Goes f whole rest start now → rest ≡ x ∷ after → IsRefusal (outcome (f x) now) e → IsRefusal (outcome (each f whole) start) e
each_stops {X = X} f whole rest after x start now e g is refused =
    subst (λ o. IsRefusal o e) (sym (g.goes ∙ ap (λ (xs : List X). outcome (each f xs) now) is)) (each_refused f x after now e refused)

pub each_ends : {X : Type 0} (f : X → Recipe (Unit {0})) (whole rest : List X) (start now : Making) → Goes f whole rest start now → rest ≡ [] → outcome (each f whole) start ≡ Ok (tt, now)
each_ends {X = X} f whole rest start now g none = g.goes ∙ ap (λ (xs : List X). outcome (each f xs) now) none ∙ each_end f now

-- ---- nets that are collected

pub record Collects {X : Type 0} (f : X → Recipe NetId) (whole rest : List X) (start now : Making) (so_far : List NetId) : Type 0 where
  pub goes : outcome (collect f whole) start ≡ goes_on so_far (collect f rest) now
  pub there : AreThere now.netlist so_far
  pub count : length so_far + length rest ≡ length whole
  pub more : length start.netlist.nets ≤ length now.netlist.nets

pub collect_starts : {X : Type 0} (f : X → Recipe NetId) (whole rest : List X) (s : Making) (so_far : List NetId) → so_far ≡ [] → rest ≡ whole → Collects f whole rest s s so_far
collect_starts {X = X} f whole rest s so_far none same = record {
  goes = goes_start (collect f whole) s ∙ (λ i. goes_on (sym none i) (collect f (sym same i)) s);
  there = subst (AreThere s.netlist) (sym none) (λ k d less. absurd (omega (arith, less)));
  count = omega (arith, ap length none, ap length same);
  more = omega arith;
}

pub collect_goes : {X : Type 0} (f : X → Recipe NetId) (whole rest after : List X) (x : X) (start now t : Making) (so_far longer : List NetId) (net : NetId) → Collects f whole rest start now so_far → rest ≡ x ∷ after →
    outcome (f x) now ≡ Ok (net, t) → net.0 < length t.netlist.nets → length now.netlist.nets ≤ length t.netlist.nets → longer ≡ so_far ++ net ∷ [] → Collects f whole after start t longer
collect_goes {X = X} f whole rest after x start now t so_far longer net g is made live more grown =
    let before = g.more in
    let count = g.count in
    record {
      goes = g.goes ∙ ap (λ (xs : List X). goes_on so_far (collect f xs) now) is ∙ collect_step so_far f x after now t net made ∙ ap (λ (ns : List NetId). goes_on ns (collect f after) t) (sym grown);
      there = subst (AreThere t.netlist) (sym grown) (there_more t.netlist so_far net (there_on now.netlist t.netlist so_far more g.there) live);
      count = omega (arith, count, ap length grown, length-append so_far (net ∷ []), ap length is);
      more = omega (arith, before, more);
    }

pub collect_stops : {X : Type 0} (f : X → Recipe NetId) (whole rest after : List X) (x : X) (start now : Making) (so_far : List NetId) (e : NetlistError) → Collects f whole rest start now so_far → rest ≡ x ∷ after → IsRefusal (outcome (f x) now) e →
    IsRefusal (outcome (collect f whole) start) e
collect_stops {X = X} f whole rest after x start now so_far e g is refused =
    subst (λ o. IsRefusal o e) (sym (g.goes ∙ ap (λ (xs : List X). goes_on so_far (collect f xs) now) is)) (collect_refused so_far f x after now e refused)

pub collect_ends : {X : Type 0} (f : X → Recipe NetId) (whole rest : List X) (start now : Making) (so_far : List NetId) → Collects f whole rest start now so_far → rest ≡ [] → outcome (collect f whole) start ≡ Ok (so_far, now)
collect_ends {X = X} f whole rest start now so_far g none = g.goes ∙ ap (λ (xs : List X). goes_on so_far (collect f xs) now) none ∙ collect_end so_far f now

-- as many nets as items
pub collect_count : {X : Type 0} (f : X → Recipe NetId) (whole rest : List X) (start now : Making) (so_far : List NetId) → Collects f whole rest start now so_far → rest ≡ [] → length so_far ≡ length whole
collect_count f whole rest start now so_far g none = let count = g.count in omega (arith, count, ap length none)
