-- Names of bits that are free and are taken.
use Rattle.std.proofs.Common.{◌≡◌, ℕ, List, [], ◌∷◌, ◌++◌, Option, Some, Result, Ok, Err, OnOk, refl, sym, ap, ◌∙◌, subst}
use Rattle.std.proofs.lemmas.List.Elements.{All-push}
use Rattle.dft_base.specs.declared.place.Range.{Range}
use Rattle.dft_netlist_text.specs.Modules.{Draft, TakenName, with_bits}
use Rattle.dft_verilog_draft.specs.Drafts.{AreNamesWithin, IsMeaningWithin}
use Rattle.dft_verilog_draft.specs.Free.{AreFree, and_bits, taken_bit, with_bits_of}

-- the bits ahead are free, and are taken as all bits are; each net named is still there
pub record TakesBits (start names : List TakenName) (ahead bits : List (List ℕ)) : Type 0 where
  pub done : and_bits names ahead ≡ and_bits start bits
  pub free : AreFree names ahead
  pub within : (count : ℕ) → AreNamesWithin count start → AreNamesWithin count names

-- one bit more
pub TakesBits-more : (start names after : List TakenName) (word : List ℕ) (ahead bits : List (List ℕ)) → after ≡ names ++ taken_bit word ∷ [] → TakesBits start names (word ∷ ahead) bits → TakesBits start after ahead bits
TakesBits-more start names after word ahead bits grown h = record {
  done = ap (λ es. and_bits es ahead) grown ∙ h.done;
  free = subst (λ es. AreFree es ahead) (sym grown) h.free.1;
  within = λ count w. subst (AreNamesWithin count) (sym grown) (All-push (λ (e : TakenName). IsMeaningWithin count e.meaning) names (taken_bit word) (h.within count w) tt);
}

-- the names of bits are taken in the draft as in its names
pub with_bits-and_bits : (words : List (List ℕ)) (d : Draft) → with_bits words d ≡ record d { names = and_bits d.names words }
with_bits-and_bits [] d = refl
with_bits-and_bits (word ∷ words) d = with_bits-and_bits words (record d { names = d.names ++ taken_bit word ∷ [] })

-- the names of a vector's bits, taken in the names, are taken in the draft
pub and_bits-with_bits_of : (range : Option Range) (some : Range) (bits : List (List ℕ)) (d : Draft) (names : List TakenName) → range ≡ Some some → names ≡ and_bits d.names bits → record d { names = names } ≡ with_bits_of range bits d
and_bits-with_bits_of range some bits d names is e =
    ap (λ (n : List TakenName). record d { names = n }) e ∙ sym (with_bits-and_bits bits d) ∙ ap (λ (r : Option Range). with_bits_of r bits d) (sym is)

pub OnOk-then : {T E : Type 0} (r : Result T E) (P Q : Type 0) → (P → Q) → OnOk r P → OnOk r Q
OnOk-then (Ok x) P Q then h = then h
OnOk-then (Err e) P Q then h = tt
