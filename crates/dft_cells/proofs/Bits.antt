-- Gates over bits, one input after the other.
use Rattle.std.proofs.Common.{ℕ, Bool, true, false, not, List, ◌≡◌, ◌+◌, ◌*◌, ◌<◌, ◌&&◌, ◌||◌, cond, length, refl, drop, get_or, arith}
use Rattle.std.proofs.lemmas.List.{drop_more}
use Rattle.dft_cells.specs.Gates.{all_one, any_one, odd_ones, number_of}

pub all_step : (bs : List Bool) (i : ℕ) (d : Bool) → i < length bs → all_one (drop i bs) ≡ (get_or bs i d && all_one (drop (i + 1) bs))
all_step bs i d less = rw (drop_more bs i d less) refl

pub any_step : (bs : List Bool) (i : ℕ) (d : Bool) → i < length bs → any_one (drop i bs) ≡ (get_or bs i d || any_one (drop (i + 1) bs))
any_step bs i d less = rw (drop_more bs i d less) refl

pub odd_step : (bs : List Bool) (i : ℕ) (d : Bool) → i < length bs → odd_ones (drop i bs) ≡ cond (get_or bs i d) (not (odd_ones (drop (i + 1) bs))) (odd_ones (drop (i + 1) bs))
odd_step bs i d less = rw (drop_more bs i d less) refl

pub number_step : (bs : List Bool) (i : ℕ) (d : Bool) → i < length bs → number_of (drop i bs) ≡ cond (get_or bs i d) 1 0 + 2 * number_of (drop (i + 1) bs)
number_step bs i d less = rw (drop_more bs i d less) refl

-- one bit more of a number
pub weigh : (b : Bool) (number weight rest : ℕ) → number + weight * (cond b 1 0 + 2 * rest) ≡ (number + cond b weight 0) + (weight * 2) * rest
weigh true number weight rest = omega arith
weigh false number weight rest = omega arith

pub weigh_small : (b : Bool) (number weight : ℕ) → number < weight → number + cond b weight 0 < weight * 2
weigh_small true number weight less = omega arith
weigh_small false number weight less = omega arith
