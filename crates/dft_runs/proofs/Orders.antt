-- There is an order: the pulsed clocks by their numbers.
use Rattle.std.proofs.Common.{ℕ, zero, suc, Bool, true, false, ◌+◌, ◌<◌, ◌==◌, List, [], ◌∷◌, ◌≡◌, inl, inr, refl, sym, ap, arith, ◌∙◌}
use Rattle.std.specs.Prelude.{◌≤◌, if◌then◌else◌}
use Rattle.dft_base.proofs.NumberLemmas.{less_apart, more_apart, same_number}
use Rattle.dft_netlist.proofs.LiveLemmas.{le_or_lt}
use Rattle.dft_behavior.specs.Runs.{Moment, Vector, Edge, Turn, times, AreOfSome, IsOrder}
use Rattle.dft_runs.specs.Choices.{OrdersExist, RunsExist}
use Rattle.dft_runs.proofs.Existence.{choices_run}

-- a moment whose free bits are 0
abbrev still : Moment
still = record { free = λ net. false; loose = λ i pin. false; seen = λ net. false }

abbrev edge_of : ℕ → Edge
edge_of d = record { domains = λ e. e == d; moment = still }

-- an edge of each pulsed clock below a number
abbrev edges_below : (pulsed : ℕ → Bool) → ℕ → List Edge
edges_below pulsed zero = []
edges_below pulsed (suc n) = if pulsed n then edge_of n ∷ edges_below pulsed n else edges_below pulsed n

other_times : (t : Bool) (d n : ℕ) (es : List Edge) → (d == n) ≡ false → times d (if t then edge_of n ∷ es else es) ≡ times d es
other_times true d n es apart = ap (λ (s : Bool). (if s then 1 else 0) + times d es) apart ∙ omega arith
other_times false d n es apart = refl

here_times : (t : Bool) (n : ℕ) (es : List Edge) → times n es ≡ 0 → times n (if t then edge_of n ∷ es else es) ≡ (if t then 1 else 0)
here_times true n es none = ap (λ (s : Bool). (if s then 1 else 0) + times n es) (same_number n) ∙ omega (arith, none)
here_times false n es none = none

none_past : (pulsed : ℕ → Bool) (n d : ℕ) → n ≤ d → times d (edges_below pulsed n) ≡ 0
none_past pulsed zero d past = refl
none_past pulsed (suc n) d past = other_times (pulsed n) d n (edges_below pulsed n) (more_apart n d past) ∙ none_past pulsed n d (omega arith)

one_below : (pulsed : ℕ → Bool) (n d : ℕ) → d < n → times d (edges_below pulsed n) ≡ (if pulsed d then 1 else 0)
one_below pulsed zero d less = absurd (omega arith)
one_below pulsed (suc n) d less = elim (le_or_lt n d) [
  | inr below ↦ other_times (pulsed n) d n (edges_below pulsed n) (less_apart d n below) ∙ one_below pulsed n d below
  | inl past ↦ let same : d ≡ n = omega arith in ap (λ (k : ℕ). times k (edges_below pulsed (suc n))) same ∙ here_times (pulsed n) n (edges_below pulsed n) (none_past pulsed n n (omega arith)) ∙ ap (λ (k : ℕ). if pulsed k then 1 else 0) (sym same)
]

not_past : (t : Bool) (bound d : ℕ) → bound ≤ d → (t ≡ true → d < bound) → ◌≡◌ {A = ℕ} (if t then 1 else 0) 0
not_past true bound d past below = absurd (let less = below refl in omega (arith, less))
not_past false bound d past below = refl

or_some : (t : Bool) (n : ℕ) (es : List Edge) → AreOfSome es → AreOfSome (if t then edge_of n ∷ es else es)
or_some true n es some = ((n, same_number n), some)
or_some false n es some = some

some_below : (pulsed : ℕ → Bool) (n : ℕ) → AreOfSome (edges_below pulsed n)
some_below pulsed zero = tt
some_below pulsed (suc n) = or_some (pulsed n) n (edges_below pulsed n) (some_below pulsed n)

is_order : (pulsed : ℕ → Bool) (bound : ℕ) → ((d : ℕ) → pulsed d ≡ true → d < bound) → IsOrder pulsed (edges_below pulsed bound)
is_order pulsed bound below = record {
  once = λ d. elim (le_or_lt bound d) [
    | inr less ↦ one_below pulsed bound d less
    | inl past ↦ none_past pulsed bound d past ∙ sym (not_past (pulsed d) bound d past (below d))
  ];
  some = some_below pulsed bound;
}

abbrev turn_of : (bound : ℕ) → Vector → Turn
turn_of bound x = record { strobe = still; rises = edges_below x.pulsed bound; falls = edges_below x.pulsed bound }

pub orders_exist : OrdersExist
orders_exist bound [] below = ([], tt)
orders_exist bound (x ∷ xs) below =
    let order = is_order x.pulsed bound below.0 in
    let rest = orders_exist bound xs below.1 in
    (turn_of bound x ∷ rest.0, ((order, order), rest.1))

pub runs_exist : RunsExist
runs_exist l rank bound xs start ranked low below =
    let orders = orders_exist bound xs below in
    let run = choices_run l rank xs start orders.0 ranked low orders.1 in
    (run.0, run.1.0)
