-- What a draft holds after each declaration.
use Rattle.std.proofs.Common.{◌≡◌, ℕ, ◌+◌, ◌<◌, ◌≤◌, Bool, true, false, cond, leb, ltb, List, [], ◌∷◌, ◌++◌, length, map, Option, Some, None, is_some, option_map, Ok, refl, sym, ap, ◌∙◌, arith, slice_set, append_assoc, append-nil}
use Rattle.std.specs.Str.{bytes_eq}
use Rattle.std.proofs.lemmas.Bool.Decides.{nat_tests}
use Rattle.dft_base.specs.declared.place.Range.{Range}
use Rattle.dft_base.specs.Lexing.{Text}
use Rattle.dft_base.specs.declared.dir.Dir.{Dir}
use Rattle.dft_base.proofs.OptionLemmas.{none_by}
use Rattle.dft_netlist.specs.declared.limits.TheConstants.{MAX_PORTS, MAX_NETS, MAX_INSTANCES}
use Rattle.dft_netlist_text.specs.declared.text.Meaning.{Meaning}
use Rattle.dft_netlist_text.specs.declared.text.Meaning.TheVariants as meaning
use Rattle.dft_netlist.specs.Names.{bit_names}
use Rattle.dft_netlist_text.specs.Modules.{TakenName, Draft, meaning_of, is_taken, with_name, net_count, names_of_bits, first_taken, with_bits, next_shape, declared_at, announce, declare_port, declare_wire, room_for_instance, name_instance}
use Rattle.dft_verilog_out.proofs.CountLemmas.{times, Once, times-append, times-head, look, words, look-none}

-- a name, and what it stands for
abbrev pub entry : Text → Meaning → TakenName
entry word meant = record { name = word; meaning = meant }

-- ---- names that are free

-- a word of these is none before them
abbrev pub Fresh : List TakenName → List Text → Type 0
Fresh es xs = (word : Text) → 1 ≤ times word xs → times word (words es) ≡ 0

pub fresh_of : (es : List TakenName) (xs rest : List Text) → Once (words es ++ (xs ++ rest)) → Fresh es xs
fresh_of es xs rest once word some =
    let o = once word in
    omega (arith, times-append word (words es) (xs ++ rest), times-append word xs rest)

-- the first of new names is free
pub free_at : (es : List TakenName) (word : Text) (rest : List Text) → Once (words es ++ word ∷ rest) → look es word ≡ None
free_at es word rest once =
    let o = once word in
    look-none es word (omega (arith, times-append word (words es) (word ∷ rest), times-head word rest))

pub meaning_none : (d : Draft) (word : Text) → look d.names word ≡ None → meaning_of d word ≡ None
meaning_none d word h = ap (λ o. option_map (λ (e : TakenName). e.meaning) o) h

pub meaning_some : (d : Draft) (word : Text) (e : TakenName) → look d.names word ≡ Some e → meaning_of d word ≡ Some e.meaning
meaning_some d word e h = ap (λ o. option_map (λ (e : TakenName). e.meaning) o) h

later_some : (b : Bool) (n : ℕ) → 1 ≤ n → 1 ≤ cond b 1 0 + n
later_some true n h = omega arith
later_some false n h = omega arith

pub first_taken-none : (d : Draft) (xs : List Text) → Fresh d.names xs → first_taken d xs ≡ None
first_taken-none d [] fresh = refl
first_taken-none d (x ∷ xs) fresh =
    let here : times x (words d.names) ≡ 0 = fresh x (omega (arith, times-head x xs)) in
    none_by (is_taken d x) x (first_taken d xs) (ap is_some (meaning_none d x (look-none d.names x here)))
    (first_taken-none d xs (λ word some. fresh word (later_some (bytes_eq x word) (times word xs) some)))

-- ---- names of bits

abbrev pub bit_entries : List Text → List TakenName
bit_entries xs = map (λ (x : Text). entry x meaning.Bit) xs

pub with_bits-is : (xs : List Text) (d : Draft) → with_bits xs d ≡ record d { names = d.names ++ bit_entries xs }
with_bits-is [] d = ap (λ (names : List TakenName). record d { names = names }) (sym (append-nil d.names))
with_bits-is (x ∷ xs) d =
    with_bits-is xs (with_name x meaning.Bit d) ∙ ap (λ (names : List TakenName). record d { names = names }) (append_assoc d.names (entry x meaning.Bit ∷ []) (bit_entries xs))

pub words-bits : (xs : List Text) → words (bit_entries xs) ≡ xs
words-bits [] = refl
words-bits (x ∷ xs) = ap (λ ws. x ∷ ws) (words-bits xs)

pub words-append : (xs ys : List TakenName) → words (xs ++ ys) ≡ words xs ++ words ys
words-append [] ys = refl
words-append (x ∷ xs) ys = ap (λ ws. x.name ∷ ws) (words-append xs ys)

-- ---- the steps

room_is : (n more : ℕ) → n + more ≤ MAX_NETS → ltb MAX_NETS (n + more) ≡ false
room_is n more h = grind (arith, nat_tests)

-- the names of a header
pub announce-is : (place : ℕ) (word : Text) (d : Draft) → look d.names word ≡ None → length d.ports < MAX_PORTS
    → announce place word d ≡ Ok (with_name word (meaning.Port (length d.ports)) (record d { ports = d.ports ++ record { name = word; declared = None } ∷ [] }))
announce-is place word d free room =
    let full : leb MAX_PORTS (length d.ports) ≡ false = grind (arith, nat_tests) in
    rw (meaning_none d word free, full) refl

-- an instance's name
pub name_instance-is : (place : ℕ) (word : Text) (d : Draft) → look d.names word ≡ None → length d.instances < MAX_INSTANCES → name_instance place word d ≡ Ok (with_name word meaning.Instance d)
name_instance-is place word d free room =
    let full : leb MAX_INSTANCES (length d.instances) ≡ false = grind (arith, nat_tests) in
    rw (meaning_none d word free, full) refl

pub room_for_instance-is : (place : ℕ) (d : Draft) → length d.instances < MAX_INSTANCES → room_for_instance place d ≡ Ok d
room_for_instance-is place d room =
    let full : leb MAX_INSTANCES (length d.instances) ≡ false = grind (arith, nat_tests) in
    rw full refl

-- another net
pub declare_wire-is : (place : ℕ) (word : Text) (d : Draft) → look d.names word ≡ None → length d.nets + 1 ≤ MAX_NETS
    → declare_wire place word None d ≡ Ok (record d { names = d.names ++ entry word (meaning.Nets (next_shape d None)) ∷ []; nets = d.nets ++ word ∷ [] })
declare_wire-is place word d free room =
    let none = meaning_none d word free in
    rw (none, none, room_is (length d.nets) 1 room) refl

-- a port
pub declare_port-is : (place port : ℕ) (word : Text) (dir : Dir) (range : Option Range) (d : Draft) (e : TakenName) → look d.names word ≡ Some e → e.meaning ≡ meaning.Port port
    → declared_at d port ≡ None → Fresh d.names (names_of_bits word range) → length d.nets + net_count range ≤ MAX_NETS
    → declare_port place word dir range d ≡ Ok (record d {
      names = d.names ++ bit_entries (names_of_bits word range);
      ports = slice_set d.ports port (record { name = word; declared = Some (record { dir = dir; shape = next_shape d range; repeated = false }) });
      nets = d.nets ++ bit_names word range;
    })
declare_port-is place port word dir range d e found is undeclared fresh room =
    let known : meaning_of d word ≡ Some (meaning.Port port) = meaning_some d word e found ∙ ap Some is in
    rw (known, undeclared, first_taken-none d (names_of_bits word range) fresh, room_is (length d.nets) (net_count range) room)
    (ap Ok (with_bits-is (names_of_bits word range) (record d {
      ports = slice_set d.ports port (record { name = word; declared = Some (record { dir = dir; shape = next_shape d range; repeated = false }) });
      nets = d.nets ++ bit_names word range;
    })))
