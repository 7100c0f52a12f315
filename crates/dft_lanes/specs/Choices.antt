-- What a gate's output can be, where each input can be 0, 1, or either.
use Rattle.std.specs.Prelude.{ℕ, Bool, true, false, ◌&&◌, ◌||◌}
use Rattle.dft_base.specs.Packed.{packed_bit}
use Rattle.dft_lanes.specs.declared.wide.Wide.{Wide}

-- whether this pattern can have this value
abbrev pub can : Wide → ℕ → Bool → Bool
can wide pattern true = packed_bit wide.can_one pattern
can wide pattern false = packed_bit wide.can_zero pattern

-- whether two bits are the same
abbrev pub is_same : Bool → Bool → Bool
is_same true true = true
is_same true false = false
is_same false true = false
is_same false false = true

-- whether a bit passes
abbrev pub some_bit : (Bool → Bool) → Bool
some_bit p = p false || p true

-- whether the gate gives the value at some choice of what its input can be
abbrev pub some_choice : (Bool → Bool) → (Bool → Bool) → Bool → Bool
some_choice gate a value = some_bit (λ x. a x && is_same (gate x) value)

-- the same of two inputs
abbrev pub some_choice_of_two : (Bool → Bool → Bool) → (Bool → Bool) → (Bool → Bool) → Bool → Bool
some_choice_of_two gate a b value = some_bit (λ x. a x && some_choice (gate x) b value)

-- the same of three inputs
abbrev pub some_choice_of_three : (Bool → Bool → Bool → Bool) → (Bool → Bool) → (Bool → Bool) → (Bool → Bool) → Bool → Bool
some_choice_of_three gate a b c value = some_bit (λ x. a x && some_choice_of_two (gate x) b c value)
