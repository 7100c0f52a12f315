-- The load equations of chains are one.
use Rattle.std.proofs.Common.{ℕ, ◌≡◌, ◌<◌, Bool, List, [], length, sym, ◌∙◌, subst}
use Rattle.std.specs.List.{slice_index}
use Rattle.std.proofs.lemmas.List.{ext_get_or}
use Rattle.dft_config.specs.declared.config.RingConfig.{RingConfig}
use Rattle.dft_equations.specs.LoadRows.{AreLoadEquations, AreRowsOf, LoadRows, rows_of}

rows_same : (ring : RingConfig) (cycles : ℕ) (late : Bool) (chain places : ℕ) (a b : List (List Bool)) → AreRowsOf ring cycles late chain places a → AreRowsOf ring cycles late chain places b → a ≡ b
rows_same ring cycles late chain places a b x y =
    ext_get_or [] a b (x.count ∙ sym y.count) (λ k less. let within : k < places = subst (λ (m : ℕ). k < m) x.count less in x.each k within ∙ sym (y.each k within))

pub equations_one : (ring : RingConfig) (lengths : List ℕ) (late : ℕ → Bool) (cycles : ℕ) (a b : LoadRows) → AreLoadEquations ring lengths late cycles a → AreLoadEquations ring lengths late cycles b → a ≡ b
equations_one ring lengths late cycles a b x y =
    let columns : a.columns ≡ b.columns = x.columns ∙ sym y.columns in
    let chains : a.chains ≡ b.chains = ext_get_or [] a.chains b.chains (x.chains ∙ sym y.chains) (λ k less.
    let within : k < length lengths = subst (λ (m : ℕ). k < m) x.chains less in rows_same ring cycles (late k) k (slice_index lengths k) (rows_of a k) (rows_of b k) (x.each k within) (y.each k within)) in
    λ i. record { columns = columns i; chains = chains i }
