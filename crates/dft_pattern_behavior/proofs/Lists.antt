-- Lists cut into chains, and rounds up to a place.
use Rattle.std.proofs.Common.{ℕ, zero, suc, ◌≡◌, Bool, false, List, [], ◌∷◌, ◌++◌, length, map, take, drop, Some, slice_get, refl, sym, ap, subst, arith, ◌∙◌}
use Rattle.std.specs.List.{list_any}
use Rattle.std.proofs.lemmas.List.{length-take, map-append}
use Rattle.std.proofs.lemmas.Option.{none-some, same_Some, slice_get_within}
use Rattle.std.proofs.lemmas.Bool.{or_parts}
use Rattle.dft_base.specs.declared.tri.Tri.{Tri}
use Rattle.dft_netlist.specs.declared.ids.InstanceId.{InstanceId}
use Rattle.dft_behavior.specs.Logic.{Logic, Ports}
use Rattle.dft_behavior.specs.Runs.{Vector}
use Rattle.dft_abstract.specs.Cycle.{Round, IsRound, after_round}
use Rattle.dft_config.specs.Config.{Config}
use Rattle.dft_config.specs.Ring.{Table}
use Rattle.dft_runs.specs.Passes.{AreRounds, after_rounds}
use Rattle.dft_chains.specs.Hardware.{ChainNets}
use Rattle.dft_edt.specs.Hardware.{EdtNets}
use Rattle.dft_edt.specs.Loads.{CarryTable}
use Rattle.dft_edt.specs.Vectors.{IsEdtShift}
use Rattle.dft_expect.specs.Loaded.{all_cells}
use Rattle.dft_expect.specs.Masks.{by_chain}

-- ---- by chain

take_front : {X Y : Type 0} (f : X → Y) (x : List X) (ys : List Y) → take (length x) (map f x ++ ys) ≡ map f x
take_front f [] ys = refl
take_front f (c ∷ x) ys = ap (λ zs. f c ∷ zs) (take_front f x ys)

drop_front : {X Y : Type 0} (f : X → Y) (x : List X) (ys : List Y) → drop (length x) (map f x ++ ys) ≡ ys
drop_front f [] ys = refl
drop_front f (c ∷ x) ys = drop_front f x ys

-- values that stand cell by cell, cut into chains
pub cut_back : (f : InstanceId → Tri) (chains : List (List InstanceId)) → by_chain chains (map f (all_cells chains)) ≡ map (map f) chains
cut_back f [] = refl
cut_back f (x ∷ chains) =
    let rest : List Tri = map f (all_cells chains) in
    ap (λ (vs : List Tri). take (length x) vs ∷ by_chain chains (drop (length x) vs)) (map-append f x (all_cells chains))
    ∙ ap (λ (vs : List Tri). vs ∷ by_chain chains (drop (length x) (map f x ++ rest))) (take_front f x rest)
    ∙ ap (λ (vs : List Tri). map f x ∷ by_chain chains vs) (drop_front f x rest)
    ∙ ap (λ (vs : List (List Tri)). map f x ∷ vs) (cut_back f chains)

pub any_none : {X : Type 0} (q : X → Bool) (xs : List X) (k : ℕ) (x : X) → list_any q xs ≡ false → slice_get xs k ≡ Some x → q x ≡ false
any_none q [] k x none at = absurd (none-some x at)
any_none q (y ∷ xs) zero x none at = ap q (sym (same_Some y x at)) ∙ (or_parts (q y) (list_any q xs) none).0
any_none q (y ∷ xs) (suc k) x none at = any_none q xs k x (or_parts (q y) (list_any q xs) none).1 at

-- ---- rounds

-- there is a vector for each round
pub rounds_there : (l : Logic) (old : ℕ → Tri) (xs : List Vector) (rs : List Round) (t : ℕ) (r : Round) → AreRounds l old xs rs → slice_get rs t ≡ Some r → (x : Vector) × (slice_get xs t ≡ Some x)
rounds_there l old [] [] t r h at = absurd (none-some r at)
rounds_there l old [] (q ∷ rs) t r h at = absurd h
rounds_there l old (x ∷ xs) [] t r h at = absurd h
rounds_there l old (x ∷ xs) (q ∷ rs) zero r h at = (x, refl)
rounds_there l old (x ∷ xs) (q ∷ rs) (suc t) r h at = rounds_there l (after_round l x old q) xs rs t r h.1 at

-- those before a place, and the one there
pub rounds_at : (l : Logic) (old : ℕ → Tri) (xs : List Vector) (rs : List Round) (t : ℕ) (x : Vector) (r : Round) → AreRounds l old xs rs → slice_get xs t ≡ Some x → slice_get rs t ≡ Some r →
    AreRounds l old (take t xs) (take t rs) × IsRound l x (after_rounds l old (take t xs) (take t rs)) r
rounds_at l old [] rs t x r h at here = absurd (none-some x at)
rounds_at l old (y ∷ xs) [] t x r h at here = absurd h
rounds_at l old (y ∷ xs) (q ∷ rs) zero x r h at here = (tt, subst (λ (v : Vector). IsRound l v old r) (same_Some y x at) (subst (λ (p : Round). IsRound l y old p) (same_Some q r here) h.0))
rounds_at l old (y ∷ xs) (q ∷ rs) (suc t) x r h at here = let more = rounds_at l (after_round l y old q) xs rs t x r h.1 at here in ((h.0, more.0), more.1)

pub carry_take : (ports : Ports) (config : Config) (w : ChainNets) (hw : EdtNets) (table : Table) (cycle : ℕ) (xs : List Vector) (t : ℕ) → CarryTable ports config w hw table cycle xs → CarryTable ports config w hw table cycle (take t xs)
carry_take ports config w hw table cycle xs zero h = tt
carry_take ports config w hw table cycle [] (suc t) h = tt
carry_take ports config w hw table cycle (x ∷ xs) (suc t) h = (h.0, carry_take ports config w hw table (suc cycle) xs t h.1)

pub carry_at : (ports : Ports) (config : Config) (w : ChainNets) (hw : EdtNets) (table : Table) (cycle : ℕ) (xs : List Vector) (t : ℕ) (x : Vector) → CarryTable ports config w hw table cycle xs → slice_get xs t ≡ Some x → IsEdtShift ports w hw x
carry_at ports config w hw table cycle [] t x h at = absurd (none-some x at)
carry_at ports config w hw table cycle (y ∷ xs) zero x h at = subst (λ (v : Vector). IsEdtShift ports w hw v) (same_Some y x at) h.0.0
carry_at ports config w hw table cycle (y ∷ xs) (suc t) x h at = carry_at ports config w hw table (suc cycle) xs t x h.1 at

pub take_length : (xs : List Vector) (t : ℕ) (x : Vector) → slice_get xs t ≡ Some x → length (take t xs) ≡ t
take_length xs t x at = let less = slice_get_within xs t x at in let long = length-take t xs in omega (arith, less, long)
