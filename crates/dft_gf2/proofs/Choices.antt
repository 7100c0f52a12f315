-- The bits that a fill chooses, column by column.
use Rattle.std.proofs.Common.{ℕ, Bool, true, false, List, ◌≡◌, ◌≢◌, ◌+◌, ◌<◌, ◌≤◌, length, get_or, refl, sym, ap, arith, ◌∙◌, ◌⊎◌, inl, inr, Option, Some, None, replicate, length-set, get_or-set_same, get_or-set_other}
use Rattle.std.specs.Prelude.{not, ◌&&◌, if◌then◌else◌, slice_set}
use Rattle.std.proofs.lemmas.Bool.{cases_lt}
use Rattle.std.proofs.lemmas.List.{length-replicate, get_or_read}
use Rattle.dft_base.specs.Solutions.{xor, bit_at, sum_over, Solves, IsChosen}
use Rattle.dft_base.proofs.SumLemmas.{and_false}
use Rattle.dft_base.proofs.ListLemmas.{zero_bit}
use Rattle.dft_gf2.specs.Rows.{row_at, place_at, IsLedBy, kept_to, IsEchelon}
use Rattle.dft_gf2.specs.declared.row.Row.{Row}
use Rattle.dft_lanes.proofs.RowLemmas.{sum_short}
use Rattle.dft_gf2.proofs.Sums.{xor_cancel}
use Rattle.dft_gf2.proofs.Echelons.{IsMet, AreSolvedTo, sum_led, sums_agree, solved_more, leads_of, all_met}
use Rattle.dft_gf2.proofs.Restorations.{kept_solved, rows_met}

-- the bit of column k: the one that its row forces, and the fill bit where it leads none
pub record IsNext (rows : List Row) (places : List (Option ℕ)) (fill bits : List Bool) (k : ℕ) (bit : Bool) : Type 0 where
  pub forced : (i : ℕ) → place_at places k ≡ Some i → bit ≡ xor (row_at rows i).bit (sum_over k (row_at rows i).set (bit_at bits))
  pub filled : place_at places k ≡ None → bit ≡ bit_at fill k

-- the bits before column k solve the rows that lead there and are fill bits elsewhere, and the other bits are 0
pub record Fills (n : ℕ) (rows : List Row) (places : List (Option ℕ)) (fill bits : List Bool) (k : ℕ) : Type 0 where
  pub size : length bits ≡ n
  pub rest : (c : ℕ) → k ≤ c → bit_at bits c ≡ false
  pub solved : AreSolvedTo n rows places (bit_at bits) k
  pub filled : (c : ℕ) → c < k → place_at places c ≡ None → bit_at bits c ≡ bit_at fill c

-- the bits, and a bit more
abbrev pub with_bit : List Bool → ℕ → Bool → List Bool
with_bit bits k bit = if bit then slice_set bits k true else bits

with_other : (bits : List Bool) (k d : ℕ) (bit : Bool) → d ≢ k → bit_at (with_bit bits k bit) d ≡ bit_at bits d
with_other bits k d true apart = get_or-set_other bits k d true false apart
with_other bits k d false apart = refl

with_here : (bits : List Bool) (k : ℕ) (bit : Bool) → k < length bits → bit_at bits k ≡ false → bit_at (with_bit bits k bit) k ≡ bit
with_here bits k true less none = get_or-set_same bits k true false less
with_here bits k false less none = none

length-with : (bits : List Bool) (k : ℕ) (bit : Bool) → length (with_bit bits k bit) ≡ length bits
length-with bits k true = length-set bits k true
length-with bits k false = refl

pub fills_start : (n : ℕ) (rows : List Row) (places : List (Option ℕ)) (fill bits : List Bool) → bits ≡ replicate n false → Fills n rows places fill bits 0
fills_start n rows places fill bits zeros = record {
  size = ap length zeros ∙ length-replicate {A = Bool} n false;
  rest = λ c any. ap (λ (b : List Bool). bit_at b c) zeros ∙ zero_bit n c (cases_lt c n);
  solved = λ c i less is. absurd (omega arith);
  filled = λ c less free. absurd (omega arith);
}

pub fills_more : (n : ℕ) (rows : List Row) (places : List (Option ℕ)) (kept : ℕ) (fill bits : List Bool) (k : ℕ) (bit : Bool) → IsEchelon n rows places kept → k < n →
    Fills n rows places fill bits k → IsNext rows places fill bits k bit → Fills n rows places fill (with_bit bits k bit) (k + 1)
fills_more n rows places kept fill bits k bit e inside before next = record {
  size = length-with bits k bit ∙ before.size;
  rest = λ c past. with_other bits k c bit (λ equal. omega (arith, past)) ∙ before.rest c (omega arith);
  solved = solved_more n rows places (bit_at bits) (bit_at (with_bit bits k bit)) k (leads_of n rows places kept e) same (λ i is. last ∙ next.forced i is) before.solved;
  filled = λ c less free. filled c free (cases_lt c k) less;
} where
  same : (d : ℕ) → d < k → bit_at (with_bit bits k bit) d ≡ bit_at bits d
  same d less = with_other bits k d bit (λ equal. omega (arith, less))

  last : bit_at (with_bit bits k bit) k ≡ bit
  last = with_here bits k bit (let size = before.size in omega arith) (before.rest k (omega arith))

  filled : (c : ℕ) → place_at places c ≡ None → (c < k) ⊎ (k ≤ c) → c < k + 1 → bit_at (with_bit bits k bit) c ≡ bit_at fill c
  filled c free (inl under) less = same c under ∙ before.filled c under free
  filled c free (inr past) less =
      let here : k ≡ c = omega arith in
      ap (bit_at (with_bit bits k bit)) (sym here) ∙ last ∙ next.filled (ap (place_at places) here ∙ free) ∙ ap (bit_at fill) here

-- two tables that meet a row and agree before its last column agree there
forced_same : (n c : ℕ) (row : Row) (x y : ℕ → Bool) → c < n → IsLedBy row c → IsMet n x row → IsMet n y row → ((d : ℕ) → d < c → x d ≡ y d) → x c ≡ y c
forced_same n c row x y less led met other agree =
    xor_cancel (x c) (sum_over c row.set x) (y c)
    (sym (sum_led n c row x less led) ∙ met ∙ sym other ∙ sum_led n c row y less led ∙ ap (xor (y c)) (sym (sums_agree c row.set y x agree)))

pub other_of : (a b : Bool) → (a ≡ b → ⊥) → a ≡ not b
other_of true true apart = absurd (apart refl)
other_of true false apart = refl
other_of false true apart = refl
other_of false false apart = absurd (apart refl)

pub cases_option : (o : Option ℕ) → ((i : ℕ) × (o ≡ Some i)) ⊎ (o ≡ None)
cases_option (Some i) = inl (i, refl)
cases_option None = inr refl

pub fills_solve : (n : ℕ) (rows : List Row) (places : List (Option ℕ)) (kept : ℕ) (fill bits : List Bool) → IsEchelon n rows places kept → Fills n rows places fill bits n → Solves n (bit_at bits) (kept_to n rows kept)
fills_solve n rows places kept fill bits e all = kept_solved n rows kept (bit_at bits) (all_met n rows places kept (bit_at bits) e all.solved)

pub fills_choose : (n : ℕ) (rows : List Row) (places : List (Option ℕ)) (kept : ℕ) (fill bits : List Bool) → IsEchelon n rows places kept → Fills n rows places fill bits n → IsChosen n (kept_to n rows kept) fill bits
fills_choose n rows places kept fill bits e all = record {
  size = all.size;
  met = λ c less can. elim (cases_option (place_at places c)) [
    | inl led ↦ sym (forced_same n c (row_at rows led.0) can.0 (bit_at bits) less (e.led c led.0 led.1).1
        (rows_met n rows kept can.0 can.1.0 led.0 (e.led c led.0 led.1).0) (all.solved c led.0 less led.1) can.1.1) ∙ can.1.2
    | inr free ↦ all.filled c less free
  ];
  turned = λ c less never. other_of (bit_at bits c) (bit_at fill c) (λ same. never (bit_at bits, (fills_solve n rows places kept fill bits e all, (λ d under. refl), same)));
}

-- what a read of the places and of the rows gives
pub place_read : (n : ℕ) (rows : List Row) (places : List (Option ℕ)) (kept k : ℕ) (found : Option ℕ) → IsEchelon n rows places kept → k < n → found ≡ get_or places k found → found ≡ place_at places k
place_read n rows places kept k found e less is = get_or_read places k found (rw e.columns less) is None

-- the bits from column k on add nothing
sum_before : (n k : ℕ) (set bits : List Bool) → k ≤ n → ((c : ℕ) → k ≤ c → bit_at bits c ≡ false) → sum_over n set (bit_at bits) ≡ sum_over k set (bit_at bits)
sum_before n k set bits fits rest =
    sum_short k n (λ c. bit_at set c && bit_at bits c) fits (λ c past. ap (λ (b : Bool). bit_at set c && b) (rest c past) ∙ and_false (bit_at set c))

pub next_forced : (n : ℕ) (rows : List Row) (places : List (Option ℕ)) (kept : ℕ) (fill bits : List Bool) (k i : ℕ) (bit : Bool) → IsEchelon n rows places kept → k < n →
    place_at places k ≡ Some i → Fills n rows places fill bits k → bit ≡ xor (row_at rows i).bit (sum_over (length bits) (row_at rows i).set (bit_at bits)) → IsNext rows places fill bits k bit
next_forced n rows places kept fill bits k i bit e inside leads before is = record {
  forced = λ j other.
      let same : i ≡ j = cc in
      let row_is : row_at rows i ≡ row_at rows j = ap (row_at rows) same in
      is ∙ (λ t. xor (row_is t).bit (sum_over (before.size t) (row_is t).set (bit_at bits)))
      ∙ ap (xor (row_at rows j).bit) (sum_before n k (row_at rows j).set bits (omega arith) before.rest);
  filled = λ free. absurd cc;
}

pub next_filled : (rows : List Row) (places : List (Option ℕ)) (fill bits : List Bool) (k : ℕ) (bit : Bool) → place_at places k ≡ None → bit ≡ bit_at fill k → IsNext rows places fill bits k bit
next_filled rows places fill bits k bit free is = record { forced = λ i other. absurd cc; filled = λ none. is }
