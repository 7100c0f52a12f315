-- A netlist and a wish have one configuration, or one refusal.
use Rattle.std.proofs.Common.{ℕ, suc, inl, inr, ◌+◌, ◌≡◌, ◌<◌, ◌≤◌, List, [], ◌∷◌, length, Option, None, Some, Result, Ok, Err, refl, sym, ap, ap₂, arith, ◌∙◌, subst}
use Rattle.std.proofs.lemmas.Option.{none-some, same_Some}
use Rattle.dft_netlist.specs.Netlist.{Netlist}
use Rattle.dft_config.specs.Config.{Config}
use Rattle.dft_config.specs.declared.config.CompactorConfig.{CompactorConfig}
use Rattle.dft_config.specs.declared.config.PortNames.{PortNames}
use Rattle.dft_config.specs.declared.config.RingConfig.{RingConfig}
use Rattle.dft_config.specs.declared.config.Injector.{Injector}
use Rattle.dft_config_out.specs.declared.made.Made.{Made}
use Rattle.dft_config_out.specs.Written.{config_of, made_text}
use Rattle.dft_decompressor.specs.declared.fits.Fitting.{Fitting}
use Rattle.dft_decompressor.specs.Fits.{IsFitting}
use Rattle.dft_decompressor.specs.Rings.{AreInjectors, injector_count, taps_of}
use Rattle.dft_decompressor.specs.Sizes.{need, sizes}
use Rattle.dft_decompressor.proofs.OneLemmas.{fit_one, injectors_one}
use Rattle.dft_encode.proofs.OneLemmas.{equations_one}
use Rattle.dft_stitch.specs.Chains.{plan_of}
use Rattle.dft_stitch.specs.Plans.{falling_head, lengths_of}
use Rattle.dft_scan_frame.specs.declared.error.InsertError.{InsertError}
use Rattle.dft_insert.specs.declared.style.Style.TheVariants.{Edt}
use Rattle.dft_insert.specs.Refusals as insert
use Rattle.dft_configure.specs.Compacting.{groups_of, masks_of}
use Rattle.dft_configure.specs.Good.{AreGood}
use Rattle.dft_configuring.specs.declared.configuring.Configured.{Configured}
use Rattle.dft_configuring.specs.declared.counting.MadeCounts.{MadeCounts}
use Rattle.dft_configuring.specs.declared.error.ConfigureError.{ConfigureError}
use Rattle.dft_configuring.specs.declared.error.ConfigureError.TheVariants.{NoClock, TooMany, Rules, NoRing, LongText, Stitch, Insert, Memory}
use Rattle.dft_configuring.specs.declared.wanted.Wanted.{Wanted}
use Rattle.dft_configuring.specs.Configured.{IsConfigured}
use Rattle.dft_configuring.specs.Counted.{counts_of}
use Rattle.dft_configuring.specs.Made.{IsMade, IsRing, output_count}
use Rattle.dft_configuring.specs.Names.{names_for}
use Rattle.dft_configuring.specs.Refusals.{HasNoRing, IsPassed, IsRefused, IsUnfit, early}
use Rattle.dft_configuring.specs.Rooted.{cell_count, chain_count, longest}
use Rattle.dft_configuring.specs.Searching.{AreRows, IsBad, IsChosen, IsGood, Search, Ends, Finds, GoesOn, Passes, first_warm, tried}

-- ---- one ring

pub ring_one : (chains inputs : ℕ) (a b : RingConfig) → IsRing chains inputs a → IsRing chains inputs b → a ≡ b
ring_one chains inputs a b x y =
    let fits = same_Some _ _ (fit_one (need chains inputs) chains sizes (Some (record { stages = a.stages; phase = a.phase })) (Some (record { stages = b.stages; phase = b.phase })) x.fits y.fits) in
    let stages : a.stages ≡ b.stages = ap (λ (f : Fitting). f.stages) fits in
    let phase : a.phase ≡ b.phase = ap (λ (f : Fitting). f.phase) fits in
    let channels : a.channels ≡ b.channels = x.channels ∙ sym y.channels in
    let taps : a.taps ≡ b.taps = x.taps ∙ ap taps_of stages ∙ sym y.taps in
    let other : AreInjectors a.stages inputs b.injectors = subst (λ (n : ℕ). AreInjectors n inputs b.injectors) (sym stages) y.injectors in
    let injectors : a.injectors ≡ b.injectors = injectors_one a.stages inputs (injector_count a.stages inputs) a.injectors b.injectors x.injectors other in
    λ i. record { stages = stages i; channels = channels i; taps = taps i; injectors = injectors i; phase = phase i }

no_ring : (chains inputs : ℕ) (ring : RingConfig) → IsRing chains inputs ring → IsFitting chains inputs None → ⊥
no_ring chains inputs ring x none = none-some _ (fit_one (need chains inputs) chains sizes None (Some (record { stages = ring.stages; phase = ring.phase })) none x.fits)

-- ---- what is made is one for each number of warm cycles

pub made_one : (n : Netlist) (wanted : Wanted) (a b : Made) → IsMade n wanted a → IsMade n wanted b → a.warm ≡ b.warm → a ≡ b
made_one n wanted a b x y warm =
    let domains = x.frame.domains ∙ sym y.frame.domains in
    let resets = x.frame.resets ∙ sym y.frame.resets in
    let chains = x.frame.chains ∙ sym y.frame.chains in
    let ring = ring_one (chain_count n wanted) wanted.channels a.ring b.ring x.frame.ring y.frame.ring in
    let groups = x.frame.groups ∙ sym y.frame.groups in
    let masks = x.masks ∙ ap (λ (w : ℕ). masks_of (chain_count n wanted) (w + longest n wanted) wanted.masks) warm ∙ sym y.masks in
    let names = x.names ∙ ap (λ (m : ℕ). names_for n wanted.channels m (output_count n wanted) (chain_count n wanted)) masks ∙ sym y.names in
    λ i. record {
      domains = domains i;
      resets = resets i;
      chains = chains i;
      warm = warm i;
      ring = ring i;
      compactor = record { groups = groups i; mask_inputs = masks i };
      names = names i;
    }

-- ---- the search finds one

good_or_bad : (n : Netlist) (config : Config) → IsGood n config → IsBad n config → ⊥
good_or_bad n config good bad =
    let plan = plan_of n config in
    bad.bad (subst AreGood (equations_one config.ring (lengths_of plan.chains) (falling_head plan) plan.cycles good.rows bad.rows good.are bad.are) good.good)

fits_or_passes : (n : Netlist) (a b : Made) (error : ConfigureError) → a ≡ b → tried n a ≡ None → tried n b ≡ Some error → ⊥
fits_or_passes n a b error same fits passes = none-some error (sym fits ∙ ap (tried n) same ∙ passes)

at_end : (warm : ℕ) → warm ≤ 4095 → 4095 < warm → ⊥
at_end warm few over = omega (arith, few, over)

pub search_one : (n : Netlist) (wanted : Wanted) (warm : ℕ) (x y : Result Made ConfigureError) → Search n wanted warm x → Search n wanted warm y → x ≡ y
search_one n wanted warm x y (Finds {made = a} u p e f g) (Finds {made = b} v q h j k) = ap Ok (made_one n wanted a b p q (e ∙ sym h))
search_one n wanted warm x y (Finds {made = a} u p e f g) (GoesOn {made = b} v q h j k more) =
    absurd (good_or_bad n (config_of a) g (subst (λ (m : Made). IsBad n (config_of m)) (sym (made_one n wanted a b p q (e ∙ sym h))) k))
search_one n wanted warm x y (Finds {made = a} u p e f g) (Passes {made = b} {error = r} v q h j) = absurd (fits_or_passes n a b r (made_one n wanted a b p q (e ∙ sym h)) f j)
search_one n wanted warm x y (Finds {made = a} u p e f g) (Ends over) = absurd (at_end warm u over)
search_one n wanted warm x y (GoesOn {made = a} u p e f g more) (Finds {made = b} v q h j k) =
    absurd (good_or_bad n (config_of b) k (subst (λ (m : Made). IsBad n (config_of m)) (made_one n wanted a b p q (e ∙ sym h)) g))
search_one n wanted warm x y (GoesOn u p e f g more) (GoesOn v q h j k other) = search_one n wanted (suc warm) x y more other
search_one n wanted warm x y (GoesOn {made = a} u p e f g more) (Passes {made = b} {error = r} v q h j) = absurd (fits_or_passes n a b r (made_one n wanted a b p q (e ∙ sym h)) f j)
search_one n wanted warm x y (GoesOn {made = a} u p e f g more) (Ends over) = absurd (at_end warm u over)
search_one n wanted warm x y (Passes {made = a} {error = r} u p e f) (Finds {made = b} v q h j k) = absurd (fits_or_passes n b a r (made_one n wanted b a q p (h ∙ sym e)) j f)
search_one n wanted warm x y (Passes {made = a} {error = r} u p e f) (GoesOn {made = b} v q h j k more) = absurd (fits_or_passes n b a r (made_one n wanted b a q p (h ∙ sym e)) j f)
search_one n wanted warm x y (Passes {made = a} {error = r} u p e f) (Passes {made = b} {error = s} v q h j) =
    ap Err (same_Some r s (sym f ∙ ap (tried n) (made_one n wanted a b p q (e ∙ sym h)) ∙ j))
search_one n wanted warm x y (Passes {made = a} u p e f) (Ends over) = absurd (at_end warm u over)
search_one n wanted warm x y (Ends over) (Finds {made = a} u p e f g) = absurd (at_end warm u over)
search_one n wanted warm x y (Ends over) (GoesOn {made = a} u p e f g more) = absurd (at_end warm u over)
search_one n wanted warm x y (Ends over) (Passes {made = a} u p e f) = absurd (at_end warm u over)
search_one n wanted warm x y (Ends over) (Ends more) = refl

-- ---- one configuration

abbrev made_or : Made → Result Made ConfigureError → Made
made_or made (Ok found) = found
made_or made (Err error) = made

ok_same : (a b : Made) → ◌≡◌ {A = Result Made ConfigureError} (Ok a) (Ok b) → a ≡ b
ok_same a b e = ap (made_or a) e

pub chosen_one : (n : Netlist) (wanted : Wanted) (a b : Made) → IsChosen n wanted a → IsChosen n wanted b → a ≡ b
chosen_one n wanted a b x y =
    let ring = ring_one (chain_count n wanted) wanted.channels a.ring b.ring x.is.frame.ring y.is.frame.ring in
    let other = subst (λ (r : RingConfig). Search n wanted (first_warm r.stages wanted.channels) (Ok b)) (sym ring) y.first in
    ok_same a b (search_one n wanted (first_warm a.ring.stages wanted.channels) (Ok a) (Ok b) x.first other)

-- two configurations of a netlist and a wish have one text, one meaning and one count
pub record SameConfigured (a b : Configured) : Type 0 where
  pub config : a.config ≡ b.config
  pub text : a.text.items ≡ b.text.items
  pub counts : a.counts ≡ b.counts

pub configured_one : (n : Netlist) (wanted : Wanted) (a b : Configured) → IsConfigured n wanted a → IsConfigured n wanted b → SameConfigured a b
configured_one n wanted a b x y =
    let made = chosen_one n wanted x.made y.made x.chosen y.chosen in
    let config : a.config ≡ b.config = x.config ∙ ap config_of made ∙ sym y.config in
    record {
      config = config;
      text = x.text ∙ ap (made_text (cell_count n)) made ∙ sym y.text;
      counts = x.counts ∙ ap (counts_of n) config ∙ sym y.counts;
    }

-- ---- one refusal

-- want of memory is no refusal
abbrev pub IsCause : ConfigureError → Type 0
IsCause NoClock = Unit {0}
IsCause (TooMany what most) = Unit {0}
IsCause (Rules error) = Unit {0}
IsCause NoRing = Unit {0}
IsCause (LongText bytes) = Unit {0}
IsCause (Stitch error) = Unit {0}
IsCause (Insert error) = Unit {0}
IsCause (Memory error) = ⊥

-- a cause behind the checks before a ring is sought
data Late (n : Netlist) (wanted : Wanted) : ConfigureError → Type 0 where
  Ring : HasNoRing n wanted → Late n wanted NoRing
  Plan : {error : ConfigureError} → IsPassed n wanted error → Late n wanted error
  Hardware : {error : InsertError} → IsUnfit n wanted error → Late n wanted (Insert error)

early_is : (n : Netlist) (wanted : Wanted) (first error : ConfigureError) → early n wanted ≡ Some first → IsCause error → IsRefused n wanted error → first ≡ error
early_is n wanted first NoClock is cause refused = same_Some first NoClock (sym is ∙ refused)
early_is n wanted first (TooMany what most) is cause refused = same_Some first (TooMany what most) (sym is ∙ refused)
early_is n wanted first (Rules error) is cause refused = same_Some first (Rules error) (sym is ∙ refused)
early_is n wanted first NoRing is cause refused = absurd (none-some first (sym refused.0 ∙ is))
early_is n wanted first (LongText bytes) is cause (inl refused) = same_Some first (LongText bytes) (sym is ∙ refused)
early_is n wanted first (LongText bytes) is cause (inr refused) = absurd (none-some first (sym refused.0 ∙ is))
early_is n wanted first (Stitch error) is cause refused = absurd (none-some first (sym refused.0 ∙ is))
early_is n wanted first (Insert error) is cause refused = absurd (none-some first (sym refused.0 ∙ is))
early_is n wanted first (Memory error) is cause refused = absurd cause

late_is : (n : Netlist) (wanted : Wanted) (error : ConfigureError) → early n wanted ≡ None → IsCause error → IsRefused n wanted error → Late n wanted error
late_is n wanted NoClock is cause refused = absurd (none-some NoClock (sym is ∙ refused))
late_is n wanted (TooMany what most) is cause refused = absurd (none-some (TooMany what most) (sym is ∙ refused))
late_is n wanted (Rules error) is cause refused = absurd (none-some (Rules error) (sym is ∙ refused))
late_is n wanted NoRing is cause refused = Ring refused.1
late_is n wanted (LongText bytes) is cause (inl refused) = absurd (none-some (LongText bytes) (sym is ∙ refused))
late_is n wanted (LongText bytes) is cause (inr refused) = Plan refused.1
late_is n wanted (Stitch error) is cause refused = Plan refused.1
late_is n wanted (Insert error) is cause refused = Hardware refused.1
late_is n wanted (Memory error) is cause refused = absurd cause

ok_or_err : (made : Made) (error : ConfigureError) → Ok made ≡ Err error → ⊥
ok_or_err made error e = absurd cc

abbrev error_or : ConfigureError → Result Made ConfigureError → ConfigureError
error_or error (Ok made) = error
error_or error (Err found) = found

err_same : (a b : ConfigureError) → ◌≡◌ {A = Result Made ConfigureError} (Err a) (Err b) → a ≡ b
err_same a b e = ap (error_or a) e

-- a plan that passes a limit, and a chosen configuration
passed_or_chosen : (n : Netlist) (wanted : Wanted) (error : ConfigureError) (made : Made) → IsPassed n wanted error → IsChosen n wanted made → ⊥
passed_or_chosen n wanted error made x y =
    let ring = ring_one (chain_count n wanted) wanted.channels x.ring made.ring x.is y.is.frame.ring in
    let other = subst (λ (r : RingConfig). Search n wanted (first_warm r.stages wanted.channels) (Ok made)) (sym ring) y.first in
    ok_or_err made error (search_one n wanted (first_warm x.ring.stages wanted.channels) (Ok made) (Err error) other x.search)

late_one : (n : Netlist) (wanted : Wanted) (a b : ConfigureError) → Late n wanted a → Late n wanted b → a ≡ b
late_one n wanted a b (Ring x) (Ring y) = refl
late_one n wanted a b (Ring x) (Plan y) = absurd (no_ring (chain_count n wanted) wanted.channels y.ring y.is x)
late_one n wanted a b (Ring x) (Hardware y) = absurd (no_ring (chain_count n wanted) wanted.channels y.made.ring y.chosen.is.frame.ring x)
late_one n wanted a b (Plan x) (Ring y) = absurd (no_ring (chain_count n wanted) wanted.channels x.ring x.is y)
late_one n wanted a b (Plan {error = r} x) (Plan {error = s} y) =
    let ring = ring_one (chain_count n wanted) wanted.channels x.ring y.ring x.is y.is in
    let other = subst (λ (k : RingConfig). Search n wanted (first_warm k.stages wanted.channels) (Err s)) (sym ring) y.search in
    err_same r s (search_one n wanted (first_warm x.ring.stages wanted.channels) (Err r) (Err s) x.search other)
late_one n wanted a b (Plan {error = r} x) (Hardware y) = absurd (passed_or_chosen n wanted r y.made x y.chosen)
late_one n wanted a b (Hardware x) (Ring y) = absurd (no_ring (chain_count n wanted) wanted.channels x.made.ring x.chosen.is.frame.ring y)
late_one n wanted a b (Hardware x) (Plan {error = s} y) = absurd (passed_or_chosen n wanted s x.made y x.chosen)
late_one n wanted a b (Hardware {error = r} x) (Hardware {error = s} y) =
    let made = chosen_one n wanted x.made y.made x.chosen y.chosen in
    ap Insert (same_Some r s (sym x.refused ∙ ap (λ (m : Made). insert.refusal Edt n (config_of m) (plan_of n (config_of m))) made ∙ y.refused))

-- two refusals of a netlist and a wish are one
pub refused_one : (n : Netlist) (wanted : Wanted) (a b : ConfigureError) → IsCause a → IsCause b → IsRefused n wanted a → IsRefused n wanted b → a ≡ b
refused_one n wanted a b cause other x y = go (early n wanted) refl
  where
    go : (q : Option ConfigureError) → early n wanted ≡ q → a ≡ b
    go None is = late_one n wanted a b (late_is n wanted a is cause x) (late_is n wanted b is other y)
    go (Some first) is = sym (early_is n wanted first a is cause x) ∙ early_is n wanted first b is other y

-- what is configured is not refused
late_not : (n : Netlist) (wanted : Wanted) (configured : Configured) (error : ConfigureError) → IsConfigured n wanted configured → Late n wanted error → ⊥
late_not n wanted configured error x (Ring y) = no_ring (chain_count n wanted) wanted.channels x.made.ring x.chosen.is.frame.ring y
late_not n wanted configured error x (Plan {error = s} y) = passed_or_chosen n wanted s x.made y x.chosen
late_not n wanted configured error x (Hardware {error = s} y) =
    let made = chosen_one n wanted x.made y.made x.chosen y.chosen in
    let same : configured.config ≡ config_of y.made = x.config ∙ ap config_of made in
    none-some s (sym x.passes.inserted ∙ ap (λ (c : Config). insert.refusal Edt n c (plan_of n c)) same ∙ y.refused)

pub not_refused : (n : Netlist) (wanted : Wanted) (configured : Configured) (error : ConfigureError) → IsCause error → IsConfigured n wanted configured → IsRefused n wanted error → ⊥
not_refused n wanted configured error cause x y = late_not n wanted configured error x (late_is n wanted error x.passed cause y)
