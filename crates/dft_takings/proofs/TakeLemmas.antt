-- What a next value at a strobe takes.
use Rattle.std.proofs.Common.{ℕ, Bool, true, false, [], ◌∷◌, inl, inr, ◌≡◌, ◌<◌, zero, suc, refl, sym, ap, arith, ◌∙◌, Option, None, Some}
use Rattle.std.specs.Prelude.{if◌then◌else◌}
use Rattle.dft_base.specs.declared.tri.Tri.{Tri}
use Rattle.dft_base.specs.declared.tri.Tri.TheVariants.{Zero, One, Unknown}
use Rattle.dft_base.specs.Tri.{known}
use Rattle.dft_cells.specs.FlipFlops.{tri_forced, tri_chosen, Scan, Forces, tri_taken_by, tri_forced_by, tri_scanned, tri_forced_where}
use Rattle.dft_cells.proofs.TriLemmas.{forced_one, chosen_one, chosen_zero}
use Rattle.dft_cells.proofs.TakesLemmas.{left_rests}
use Rattle.dft_netlist.specs.Drivers.{Source, Net, Tied, Loose, nets_of, AreBelow}
use Rattle.dft_behavior.specs.Logic.{Logic, Meaning, Input, Clock, Gate, Joined, Flop, Lockup, Free, reads, IsRanked}
use Rattle.dft_behavior.specs.Settled.{is_wire, value_from, value_given}
use Rattle.dft_takings.specs.Needs.{still_from, IsStillFrom, next_reads}
use Rattle.dft_takings.specs.Takes.{chosen_source, taken_source, source_at, source_where, forced_source, origin_of, origin_given, AreOrigins}
use Rattle.dft_takings.specs.Laws.{NextOfStrobe, NextOfSource, NextOfForce, OriginIsShown}
use Rattle.dft_takings.proofs.ReadLemmas.{next_agrees, set_agrees}
use Rattle.dft_takings.proofs.NeededLemmas.{needed_before}

pub next_of_strobe : NextOfStrobe
next_of_strobe l rank p needs values settled ranked closed given strobe c has =
    next_agrees l p c (λ d. values) (λ d. settled)
    (set_agrees needs values settled (nets_of (next_reads (l.cell c) p.ports (value_from values))) has (needed_before l rank p needs values settled ranked closed given strobe))

-- ---- one source

same_source : (v : ℕ → Tri) (found source : Source) → Some found ≡ Some source → value_from v found ≡ value_from v source
same_source v found source is = let e : found ≡ source = cc in ap (value_from v) e

chosen_is : (enable : Tri) (v : ℕ → Tri) (scan_in data_in source : Source) → chosen_source enable scan_in data_in ≡ Some source → tri_chosen enable (value_from v scan_in) (value_from v data_in) ≡ value_from v source
chosen_is Zero v si d source is = chosen_zero (value_from v si) (value_from v d) ∙ same_source v d source is
chosen_is One v si d source is = chosen_one (value_from v si) (value_from v d) ∙ same_source v si source is
chosen_is Unknown v si d source is = absurd cc

taken_is : (scan : Option (Scan Source)) (v : ℕ → Tri) (data_in source : Source) → taken_source scan (value_from v) data_in ≡ Some source → tri_scanned scan (value_from v) (value_from v data_in) ≡ value_from v source
taken_is None v d source is = same_source v d source is
taken_is (Some scan) v d source is = chosen_is (value_from v scan.enable) v scan.input d source is

pub forced_known : (value : Bool) (t : Tri) → tri_forced value Zero t ≡ known value
forced_known false Zero = refl
forced_known false One = refl
forced_known false Unknown = refl
forced_known true Zero = refl
forced_known true One = refl
forced_known true Unknown = refl

pressed_is : (value : Bool) (port t u : Tri) (found : Option Source) (source : Source) → source_at port found ≡ Some source → (found ≡ Some source → t ≡ u) → tri_forced value port t ≡ u
pressed_is value Zero t u found source is taken = absurd cc
pressed_is value One t u found source is taken = forced_one value t ∙ taken is
pressed_is value Unknown t u found source is taken = absurd cc

where_is : (value : Bool) (pin : Option ℕ) (ports : ℕ → Tri) (t u : Tri) (found : Option Source) (source : Source) → source_where pin ports found ≡ Some source → (found ≡ Some source → t ≡ u) → tri_forced_where value pin ports t ≡ u
where_is value None ports t u found source is taken = taken is
where_is value (Some port) ports t u found source is taken = pressed_is value (ports port) t u found source is taken

forced_is : (forces : Forces ℕ) (ports : ℕ → Tri) (t u : Tri) (found : Option Source) (source : Source) → forced_source forces ports found ≡ Some source → (found ≡ Some source → t ≡ u) → tri_forced_by forces ports t ≡ u
forced_is forces ports t u found source is taken =
    where_is false forces.clear ports _ u (source_where forces.preset ports found) source is (λ was. where_is true forces.preset ports t u found source was taken)

pub next_of_source : NextOfSource
next_of_source l p view c source is =
    let v : ℕ → Tri = view (l.cell c).domain in
    forced_is (l.cell c).forces p.ports _ (value_from v source) (taken_source (l.cell c).takes.scan (value_from v) (l.cell c).takes.input) source is (taken_is (l.cell c).takes.scan v (l.cell c).takes.input source)

-- a reset or a set that acts leaves its value
where_acts : (value : Bool) (pin : Option ℕ) (ports : ℕ → Tri) (t : Tri) (port : ℕ) → pin ≡ Some port → ports port ≡ Zero → tri_forced_where value pin ports t ≡ known value
where_acts value pin ports t port is acts = ap (λ (a : Option ℕ). tri_forced_where value a ports t) is ∙ ap (λ (v : Tri). tri_forced value v t) acts ∙ forced_known value t

pub next_of_force : NextOfForce
next_of_force l p view c port acts =
    let forces : Forces ℕ = (l.cell c).forces in
    let t : Tri = tri_taken_by (l.cell c).takes (p.old c) (value_from (view (l.cell c).domain)) in (
      λ is. where_acts false forces.clear p.ports _ port is acts,
      λ is rests. left_rests (record { clear = forces.clear; preset = None }) p.ports _ (λ pin at. elim at [ inl has ↦ rests pin has | inr none ↦ absurd cc ])
          ∙ where_acts true forces.preset p.ports t port is acts,
    )

-- ---- one flip-flop

source_origin : (rank : ℕ → ℕ) (r : ℕ) (origin : ℕ → Option ℕ) (flops settled : ℕ → Tri) (c : ℕ) (source : Source) → AreBelow rank r (nets_of (source ∷ [])) → ((k : ℕ) → rank k < r → origin k ≡ Some c → settled k ≡ flops c) →
    origin_of origin source ≡ Some c → value_from settled source ≡ flops c
source_origin rank r origin flops settled c (Net net) below same is = same net below.0 is
source_origin rank r origin flops settled c (Tied bit) below same is = absurd cc
source_origin rank r origin flops settled c (Loose i pin) below same is = absurd cc

lock_origin : (wire : Bool) (found : Option ℕ) (cell c : ℕ) (value : Tri) (flops : ℕ → Tri) → (if wire then found else Some cell) ≡ Some c → (found ≡ Some c → value ≡ flops c) → (if wire then value else flops cell) ≡ flops c
lock_origin true found cell c value flops is same = same is
lock_origin false found cell c value flops is same = (let e : cell ≡ c = cc in ap flops e)

origin_step : (rank : ℕ → ℕ) (r : ℕ) (origin : ℕ → Option ℕ) (level : ℕ → Bool) (ports flops settled : ℕ → Tri) (net c : ℕ) (m : Meaning) → AreBelow rank r (reads m) → ((k : ℕ) → rank k < r → origin k ≡ Some c → settled k ≡ flops c) →
    origin_given level origin m ≡ Some c → value_given (still_from level ports flops settled) settled net m ≡ flops c
origin_step rank r origin level ports flops settled net c Input below same is = absurd cc
origin_step rank r origin level ports flops settled net c Clock below same is = absurd cc
origin_step rank r origin level ports flops settled net c (Gate kind inputs) below same is = absurd cc
origin_step rank r origin level ports flops settled net c (Joined source) below same is = source_origin rank r origin flops settled c source below same is
origin_step rank r origin level ports flops settled net c (Flop cell true) below same is = absurd cc
origin_step rank r origin level ports flops settled net c (Flop cell false) below same is = let e : cell ≡ c = cc in ap flops e
origin_step rank r origin level ports flops settled net c (Lockup cell e high source) below same is = lock_origin (is_wire high (level e)) (origin_of origin source) cell c (value_from settled source) flops is (λ at. source_origin rank r origin flops settled c source below same at)
origin_step rank r origin level ports flops settled net c Free below same is = absurd cc

origin_within : (l : Logic) (rank : ℕ → ℕ) (origin : ℕ → Option ℕ) (level : ℕ → Bool) (ports flops settled : ℕ → Tri) → IsRanked l rank → AreOrigins l level origin → IsStillFrom l level ports flops settled →
    (fuel net c : ℕ) → rank net < fuel → origin net ≡ Some c → settled net ≡ flops c
origin_within l rank origin level ports flops settled ranked origins strobe zero net c less is = absurd (omega arith)
origin_within l rank origin level ports flops settled ranked origins strobe (suc fuel) net c less is =
    strobe net
    ∙ origin_step rank (rank net) origin level ports flops settled net c (l.net net) (ranked.order net)
    (λ k below has. origin_within l rank origin level ports flops settled ranked origins strobe fuel k c (omega arith) has) (sym (origins net) ∙ is)

pub origin_is_shown : OriginIsShown
origin_is_shown l rank origin level ports flops settled ranked origins strobe net c is = origin_within l rank origin level ports flops settled ranked origins strobe (suc (rank net)) net c (omega arith) is
