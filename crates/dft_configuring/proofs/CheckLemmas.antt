-- The first check that fails, among those that need no ring; and what the errors of the later steps mean.
use Rattle.std.proofs.Common.{◌≡◌, ℕ, ℤ, inl, inr, ◌<◌, ◌≤◌, ◌==◌, true, false, List, [], ◌∷◌, length, Option, None, Some, option_map, pos, refl, sym, ap, arith, subst}
use Rattle.std.proofs.lemmas.Bool.{eqb-true, le-ltb, lt-ltb}
use Rattle.dft_netlist.specs.declared.ids.NetId.{NetId}
use Rattle.dft_netlist.specs.Netlist.{Netlist}
use Rattle.dft_config_out.specs.declared.made.Made.{Made}
use Rattle.dft_config_out.specs.Written.{config_of}
use Rattle.dft_rules.specs.Refusals as rules
use Rattle.dft_stitch.specs.Chains.{plan_of}
use Rattle.dft_insert.specs.declared.style.Style.TheVariants.{Edt}
use Rattle.dft_insert.specs.Refusals as insert
use Rattle.dft_configure.specs.Found.{numbers}
use Rattle.dft_configure.specs.Roots.{domains_of}
use Rattle.dft_configuring.specs.declared.error.ConfigureError.{ConfigureError}
use Rattle.dft_configuring.specs.declared.error.ConfigureError.TheVariants.{NoClock, TooMany, Rules, NoRing, LongText, Stitch, Insert, Memory}
use Rattle.dft_configuring.specs.declared.error.Limited.TheVariants.{Chains, Masks, Outputs}
use Rattle.dft_configuring.specs.declared.wanted.Wanted.{Wanted}
use Rattle.dft_base.specs.Lexing.{Text}
use Rattle.dft_configuring.specs.Causes.{IsCheck, IsInsertion, IsLimit, IsLong, IsNoRing}
use Rattle.dft_configuring.specs.Long.{long_text, or_else}
use Rattle.dft_configuring.specs.Made.{output_count}
use Rattle.dft_configuring.specs.Refusals.{HasNoRing, IsPassed, IsRefused, asked, early, many_chains, many_masks, many_outputs, no_clock}
use Rattle.dft_configuring.specs.Rooted.{chain_count, rooted, rooted_text}
use Rattle.dft_configuring.specs.Searching.{IsChosen}

-- ---- each check

pub no_nets : (nets : List NetId) → (length nets == 0) ≡ true → no_clock (numbers nets) ≡ Some NoClock
no_nets [] none = refl
no_nets (net ∷ nets) none = let e = eqb-true (length (net ∷ nets)) 0 none in absurd (omega (arith, e))

pub some_nets : (nets : List NetId) → (length nets == 0) ≡ false → no_clock (numbers nets) ≡ None
some_nets [] some = absurd cc
some_nets (net ∷ nets) some = refl

pub more_nets : (nets : List NetId) → (length nets == 0) ≡ false → 0 < length (numbers nets)
more_nets [] some = absurd cc
more_nets (net ∷ nets) some = omega arith

pub chains_past : (chains : ℕ) → 1024 < chains → many_chains chains ≡ Some (TooMany Chains (pos 1024))
chains_past chains past = rw (lt-ltb 1024 chains past) refl

pub chains_within : (chains : ℕ) → chains ≤ 1024 → many_chains chains ≡ None
chains_within chains within = rw (le-ltb 1024 chains within) refl

pub outputs_past : (chains outputs : ℕ) → chains < outputs → many_outputs chains outputs ≡ Some (TooMany Outputs (pos chains))
outputs_past chains outputs past = rw (lt-ltb chains outputs past) refl

pub outputs_within : (chains outputs : ℕ) → outputs ≤ chains → many_outputs chains outputs ≡ None
outputs_within chains outputs within = rw (le-ltb chains outputs within) refl

pub masks_past : (chains masks : ℕ) → chains < masks → many_masks chains (Some masks) ≡ Some (TooMany Masks (pos chains))
masks_past chains masks past = rw (lt-ltb chains masks past) refl

pub masks_within : (chains masks : ℕ) → masks ≤ chains → many_masks chains (Some masks) ≡ None
masks_within chains masks within = rw (le-ltb chains masks within) refl

pub text_long : (text : Text) (bytes : ℤ) → 67108864 < length text → bytes ≡ pos (length text) → long_text text ≡ Some (LongText bytes)
text_long text bytes long is = rw (lt-ltb 67108864 (length text) long) (ap (λ (b : ℤ). Some (LongText b)) (sym is))

pub text_short : (text : Text) → length text ≤ 67108864 → long_text text ≡ None
text_short text short = rw (le-ltb 67108864 (length text) short) refl

-- ---- the checks one after the other

first_check : (a b : Option ConfigureError) (e : ConfigureError) → IsCheck a e → IsCheck (or_else a b) e
first_check a b NoClock is = ap (λ (o : Option ConfigureError). or_else o b) is
first_check a b (TooMany what most) is = ap (λ (o : Option ConfigureError). or_else o b) is
first_check a b (Rules error) is = ap (λ (o : Option ConfigureError). or_else o b) is
first_check a b NoRing is = is
first_check a b (LongText bytes) is = ap (λ (o : Option ConfigureError). or_else o b) is
first_check a b (Stitch error) is = is
first_check a b (Insert error) is = is
first_check a b (Memory error) is = is

later_check : (a b : Option ConfigureError) (e : ConfigureError) → a ≡ None → IsCheck b e → IsCheck (or_else a b) e
later_check a b e none is = subst (λ (o : Option ConfigureError). IsCheck (or_else o b) e) (sym none) is

-- a text that is too long, before another check
pub long_check : (text : Text) (b : Option ConfigureError) (e : ConfigureError) → IsLong text e → IsCheck (or_else (long_text text) b) e
long_check text b NoClock is = absurd is
long_check text b (TooMany what most) is = absurd is
long_check text b (Rules error) is = absurd is
long_check text b NoRing is = absurd is
long_check text b (LongText bytes) is = ap (λ (o : Option ConfigureError). or_else o b) (text_long text bytes is.0 is.1)
long_check text b (Stitch error) is = absurd is
long_check text b (Insert error) is = absurd is
long_check text b (Memory error) is = is

pub asked_none : (n : Netlist) (chains : ℕ) → length (rooted_text n chains) ≤ 67108864 → rules.refusal n (rooted n chains) ≡ None → asked n chains ≡ None
asked_none n chains short passed = let fits = text_short (rooted_text n chains) short in λ i. or_else (fits i) (option_map Rules (passed i))

pub asked_refused : (n : Netlist) (chains : ℕ) (e : ConfigureError) → length (rooted_text n chains) ≤ 67108864 → IsCheck (option_map Rules (rules.refusal n (rooted n chains))) e → IsCheck (asked n chains) e
asked_refused n chains e short is = later_check (long_text (rooted_text n chains)) _ e (text_short (rooted_text n chains) short) is

-- the checks
abbrev pub clock_check : Netlist → Option ConfigureError
clock_check n = no_clock (domains_of n)

abbrev pub chain_check : Netlist → Wanted → Option ConfigureError
chain_check n wanted = many_chains (chain_count n wanted)

abbrev pub rule_check : Netlist → Wanted → Option ConfigureError
rule_check n wanted = asked n (chain_count n wanted)

abbrev pub output_check : Netlist → Wanted → Option ConfigureError
output_check n wanted = many_outputs (chain_count n wanted) (output_count n wanted)

abbrev pub mask_check : Netlist → Wanted → Option ConfigureError
mask_check n wanted = many_masks (chain_count n wanted) wanted.masks

pub at_clocks : (n : Netlist) (wanted : Wanted) (e : ConfigureError) → IsCheck (clock_check n) e → IsCheck (early n wanted) e
unfolding early
at_clocks n wanted e is = first_check (clock_check n) _ e is

pub at_chains : (n : Netlist) (wanted : Wanted) (e : ConfigureError) → clock_check n ≡ None → IsCheck (chain_check n wanted) e → IsCheck (early n wanted) e
unfolding early
at_chains n wanted e clocks is = later_check (clock_check n) _ e clocks (first_check (chain_check n wanted) _ e is)

pub at_rules : (n : Netlist) (wanted : Wanted) (e : ConfigureError) → clock_check n ≡ None → chain_check n wanted ≡ None → IsCheck (rule_check n wanted) e → IsCheck (early n wanted) e
unfolding early
at_rules n wanted e clocks chains is = later_check (clock_check n) _ e clocks (later_check (chain_check n wanted) _ e chains (first_check (rule_check n wanted) _ e is))

pub at_outputs : (n : Netlist) (wanted : Wanted) (e : ConfigureError) → clock_check n ≡ None → chain_check n wanted ≡ None → rule_check n wanted ≡ None → IsCheck (output_check n wanted) e → IsCheck (early n wanted) e
unfolding early
at_outputs n wanted e clocks chains rules is =
    later_check (clock_check n) _ e clocks (later_check (chain_check n wanted) _ e chains (later_check (rule_check n wanted) _ e rules (first_check (output_check n wanted) _ e is)))

pub at_masks : (n : Netlist) (wanted : Wanted) (e : ConfigureError) → clock_check n ≡ None → chain_check n wanted ≡ None → rule_check n wanted ≡ None → output_check n wanted ≡ None → IsCheck (mask_check n wanted) e → IsCheck (early n wanted) e
unfolding early
at_masks n wanted e clocks chains rules outputs is =
    later_check (clock_check n) _ e clocks (later_check (chain_check n wanted) _ e chains (later_check (rule_check n wanted) _ e rules (later_check (output_check n wanted) (mask_check n wanted) e outputs is)))

pub none_fails : (n : Netlist) (wanted : Wanted) → clock_check n ≡ None → chain_check n wanted ≡ None → rule_check n wanted ≡ None → output_check n wanted ≡ None → mask_check n wanted ≡ None → early n wanted ≡ None
unfolding early
none_fails n wanted clocks chains rules outputs masks = (λ i. or_else (clocks i) (or_else (chains i) (or_else (rules i) (or_else (outputs i) (masks i)))))

-- ---- the refusals

pub check_refused : (n : Netlist) (wanted : Wanted) (e : ConfigureError) → IsCheck (early n wanted) e → IsRefused n wanted e
check_refused n wanted NoClock is = is
check_refused n wanted (TooMany what most) is = is
check_refused n wanted (Rules error) is = is
check_refused n wanted NoRing is = absurd is
check_refused n wanted (LongText bytes) is = inl is
check_refused n wanted (Stitch error) is = absurd is
check_refused n wanted (Insert error) is = absurd is
check_refused n wanted (Memory error) is = is

pub ring_refused : (n : Netlist) (wanted : Wanted) (e : ConfigureError) → early n wanted ≡ None → IsNoRing (HasNoRing n wanted) e → IsRefused n wanted e
ring_refused n wanted NoClock none is = absurd is
ring_refused n wanted (TooMany what most) none is = absurd is
ring_refused n wanted (Rules error) none is = absurd is
ring_refused n wanted NoRing none is = (none, is)
ring_refused n wanted (LongText bytes) none is = absurd is
ring_refused n wanted (Stitch error) none is = absurd is
ring_refused n wanted (Insert error) none is = absurd is
ring_refused n wanted (Memory error) none is = is

pub limit_refused : (n : Netlist) (wanted : Wanted) (e : ConfigureError) → early n wanted ≡ None → IsLimit (IsPassed n wanted) e → IsRefused n wanted e
limit_refused n wanted NoClock none is = absurd is
limit_refused n wanted (TooMany what most) none is = absurd is
limit_refused n wanted (Rules error) none is = absurd is
limit_refused n wanted NoRing none is = absurd is
limit_refused n wanted (LongText bytes) none is = inr (none, is)
limit_refused n wanted (Stitch error) none is = (none, is)
limit_refused n wanted (Insert error) none is = absurd is
limit_refused n wanted (Memory error) none is = is

pub insertion_refused : (n : Netlist) (wanted : Wanted) (made : Made) (e : ConfigureError) → early n wanted ≡ None → IsChosen n wanted made → IsInsertion (insert.refusal Edt n (config_of made) (plan_of n (config_of made))) e → IsRefused n wanted e
insertion_refused n wanted made NoClock none chosen is = absurd is
insertion_refused n wanted made (TooMany what most) none chosen is = absurd is
insertion_refused n wanted made (Rules error) none chosen is = absurd is
insertion_refused n wanted made NoRing none chosen is = absurd is
insertion_refused n wanted made (LongText bytes) none chosen is = absurd is
insertion_refused n wanted made (Stitch error) none chosen is = absurd is
insertion_refused n wanted made (Insert error) none chosen is = (none, record { made = made; chosen = chosen; refused = is })
insertion_refused n wanted made (Memory error) none chosen is = is
