-- Steps of nets are listed and settled in their order.
use Rattle.std.proofs.Common.{ℕ, zero, suc, List, [], ◌∷◌, ◌++◌, All, ◌≡◌, ◌<◌, ◌+◌, length, take, refl, sym, ap, ◌∙◌, subst, get_or, slice_set, add-one, arith}
use Rattle.std.proofs.lemmas.List.{map-append, get_or-map, length-map}
use Rattle.dft_base.specs.declared.tri.Tri.{Tri}
use Rattle.dft_netlist.specs.declared.ids.NetId.{NetId}
use Rattle.dft_behavior.specs.Settled.{value_given}
use Rattle.dft_logic.specs.Values.{value_at}
use Rattle.dft_logic.specs.Circuit.{Circuit, meaning, op_at, Supply, leaves_from}
use Rattle.dft_takings.proofs.Listings.{Listed, net_live, one_more}
use Rattle.dft_cycle.specs.declared.steps.Step.{Step}
use Rattle.dft_cycle.specs.Steps.{told_by, step_nets, IsWithin, IsStep}

take_one : {X : Type 0} (xs : List X) (i : ℕ) (d : X) → i < length xs → take i xs ++ get_or xs i d ∷ [] ≡ take (suc i) xs
take_one [] i d less = absurd (omega arith)
take_one (x ∷ xs) zero d less = refl
take_one (x ∷ xs) (suc i) d less = ap (λ (l : List _). x ∷ l) (take_one xs i d (omega arith))

-- the step of the next net
pub step_more : (nets : List NetId) (steps : List Step) (i : ℕ) (d : NetId) (step : Step) → i < length nets → step_nets steps ≡ take i nets → step.net ≡ get_or nets i d →
    step_nets (steps ++ step ∷ []) ≡ take (i + 1) nets
step_more nets steps i d step less so is = rw (add-one) (
    map-append (λ (s : Step). s.net) steps (step ∷ []) ∙ ap (λ (l : List NetId). l ++ step.net ∷ []) so
    ∙ ap (λ (n : NetId). take i nets ++ n ∷ []) is ∙ take_one nets i d less
    )

here : (steps : List Step) (j : ℕ) (d : Step) → j < length steps → j < length (step_nets steps)
here steps j d less = omega (arith, length-map steps (λ (s : Step). s.net))

net_here : (steps : List Step) (j : ℕ) (d : Step) → j < length steps → (get_or steps j d).net ≡ get_or (step_nets steps) j (get_or steps j d).net
net_here steps j d less = sym (get_or-map (λ (s : Step). s.net) steps j d (get_or steps j d).net less)

pub step_live : (x : Circuit) (base : Supply) (steps : List Step) (values : List Tri) (j : ℕ) (d : Step) → j < length steps → length values ≡ length x.ops →
    Listed x.ops base (step_nets steps) values j → (get_or steps j d).net.0 < length values
step_live x base steps values j d less len s =
    let live = net_live x.ops base (step_nets steps) values j (get_or steps j d).net (here steps j d less) (net_here steps j d less) s in
    omega (arith, live, len)

-- a step more has its driver's value
pub step_settled : (x : Circuit) (base : Supply) (steps : List Step) (values : List Tri) (j : ℕ) (d : Step) (t : Tri) → j < length steps → length values ≡ length x.ops →
    All (IsStep x) steps → Listed x.ops base (step_nets steps) values j →
    t ≡ value_given (leaves_from base (value_at values)) (value_at values) (get_or steps j d).net.0 (told_by (get_or steps j d) (meaning (op_at x.ops (get_or steps j d).net.0))) →
    Listed x.ops base (step_nets steps) (slice_set values (get_or steps j d).net.0 t) (j + 1)
step_settled x base steps values j d t less len all s given =
    one_more x.ops base (step_nets steps) values j (get_or steps j d).net t (here steps j d less) (net_here steps j d less) len s
    (given ∙ ap (value_given (leaves_from base (value_at values)) (value_at values) (get_or steps j d).net.0) (sym (all j d less).told))

pub step_within : (x : Circuit) (steps : List Step) (values : List Tri) (j : ℕ) (d : Step) → j < length steps → length values ≡ length x.ops → All (IsStep x) steps →
    IsWithin (get_or steps j d).what (get_or steps j d).first (get_or steps j d).second (get_or steps j d).third (length values)
step_within x steps values j d less len all =
    let step : Step = get_or steps j d in
    subst (λ (n : ℕ). IsWithin step.what step.first step.second step.third n) (sym len) (all j d less).within
