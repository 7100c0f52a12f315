-- What the names of a draft stand for, once ports and other nets are declared.
use Rattle.std.proofs.Common.{◌≡◌, ℕ, zero, suc, ◌+◌, ◌-◌, ◌<◌, ◌≤◌, Bool, true, false, List, [], ◌∷◌, ◌++◌, length, map, flat_map, get_or, Option, Some, None, refl, sym, ap, ◌∙◌, subst, arith, append_assoc, length-append, slice_get}
use Rattle.std.specs.Prelude.{nat_le}
use Rattle.std.specs.List.{filter_map, cons_option}
use Rattle.std.specs.Option.{option_and_then}
use Rattle.std.specs.Str.{bytes_eq}
use Rattle.std.proofs.lemmas.Bool.Decides.{nat_tests}
use Rattle.dft_base.specs.declared.place.Range.{Range}
use Rattle.dft_base.specs.Lexing.{Text}
use Rattle.dft_base.specs.Name.{IsName}
use Rattle.dft_base.specs.Ranges.{has_index, place_in}
use Rattle.dft_netlist.specs.declared.port.Port.{Port}
use Rattle.dft_netlist_text.specs.declared.text.Meaning.TheVariants as meaning
use Rattle.dft_netlist_text.specs.declared.text.Declared.{Declared}
use Rattle.dft_netlist.specs.Netlist.{Netlist}
use Rattle.dft_netlist.specs.Names.{IsShortRange, bit_names, indices_of, going_up, going_down, names_taken, vector_name, vector_name_in, instance_name}
use Rattle.dft_netlist.specs.Sound.{bit_names_of}
use Rattle.dft_netlist_text.specs.Modules.{HeaderPort, TakenName, names_of_bits}
use Rattle.dft_netlist.proofs.BitLemmas.{rising, falling}
use Rattle.dft_verilog_out.specs.Written.{name_text, bit_select_text, bit_texts, port_texts}
use Rattle.dft_verilog_out.proofs.FormLemmas.{length-bit_texts}
use Rattle.dft_verilog_out.proofs.CutLemmas.{IsSmall}
use Rattle.dft_verilog_out.proofs.CountLemmas.{times, times-append, times-head, one_if, Once, look-new, words}
use Rattle.dft_verilog_out.proofs.DraftLemmas.{entry, words-append}
use Rattle.dft_verilog_out.proofs.OperandLemmas.{Known, AsNets, AsPort, NetAt, Whole, BitOf, NetsAt}
use Rattle.dft_verilog_out.proofs.PhaseLemmas.{AreAnnounced, GoodPorts, AllNames, declared_port, declared_ports, bit_words, wire_entries, get_at}
use Rattle.dft_verilog_out.proofs.HeaderLemmas.{header_entries, header_words}

-- ---- texts as nets, one after another

abbrev pub TextsAt : List TakenName → List HeaderPort → (from : ℕ) → List Text → Type 0
TextsAt names ports from [] = Unit {0}
TextsAt names ports from (t ∷ ts) = NetAt names ports t from × TextsAt names ports (suc from) ts

texts_append : (names : List TakenName) (ports : List HeaderPort) (from : ℕ) (xs ys : List Text) → TextsAt names ports from xs → TextsAt names ports (from + length xs) ys → TextsAt names ports from (xs ++ ys)
texts_append names ports from [] ys a b = let e : from + 0 ≡ from = omega arith in subst (λ k. TextsAt names ports k ys) e b
texts_append names ports from (x ∷ xs) ys a b =
    let e : from + suc (length xs) ≡ suc from + length xs = omega arith in (a.0, texts_append names ports (suc from) xs ys a.1 (subst (λ k. TextsAt names ports k ys) e b))

nets_from_texts : (names : List TakenName) (ports : List HeaderPort) (from : ℕ) (xs : List Text) → TextsAt names ports from xs → (k : ℕ) → k < length xs → NetAt names ports (get_or xs k []) (from + k)
nets_from_texts names ports from [] a k lt = absurd (omega arith)
nets_from_texts names ports from (x ∷ xs) a zero lt = let e : from ≡ from + 0 = omega arith in subst (NetAt names ports x) e a.0
nets_from_texts names ports from (x ∷ xs) a (suc k) lt = let e : suc from + k ≡ from + suc k = omega arith in subst (NetAt names ports (get_or xs k [])) e (nets_from_texts names ports (suc from) xs a.1 k (omega arith))

-- ---- bits of vectors

index_up : (t : Bool) (r : Range) (j : ℕ) → nat_le r.right r.left ≡ t → r.left + j ≤ r.right → (has_index r (r.left + j) ≡ true) × (place_in r (r.left + j) ≡ j)
index_up true r j is le =
    let down : r.right ≤ r.left = grind (arith, nat_tests) in
    let a : nat_le r.right (r.left + j) ≡ true = grind (arith, nat_tests) in
    let b : nat_le (r.left + j) r.left ≡ true = grind (arith, nat_tests) in
    (rw (is, a, b) refl, rw is (omega arith))
index_up false r j is le =
    let a : nat_le r.left (r.left + j) ≡ true = grind (arith, nat_tests) in
    let b : nat_le (r.left + j) r.right ≡ true = grind (arith, nat_tests) in
    (rw (is, a, b) refl, rw is (omega arith))

index_down : (r : Range) (j : ℕ) → r.right < r.left → j + r.right ≤ r.left → (has_index r (r.left - j) ≡ true) × (place_in r (r.left - j) ≡ j)
index_down r j lt le =
    let is : nat_le r.right r.left ≡ true = grind (arith, nat_tests) in
    let a : nat_le r.right (r.left - j) ≡ true = grind (arith, nat_tests) in
    let b : nat_le (r.left - j) r.left ≡ true = grind (arith, nat_tests) in
    (rw (is, a, b) refl, rw is (omega arith))

module _ (names : List TakenName) (ports : List HeaderPort) (word : Text) (r : Range) (first : ℕ) (name : IsName word) (small : IsShortRange (Some r)) (known : Known names ports word (record { range = Some r; first = record { 0 = first } })) where
  bit_at : (index j net : ℕ) → IsSmall index → has_index r index ≡ true → place_in r index ≡ j → net ≡ first + j → NetAt names ports (bit_select_text word index) net
  bit_at index j net fits inside place e = BitOf word index r (record { 0 = first }) refl name fits known inside (let f : first + place_in r index ≡ net = omega arith in f)

  bits_up : (count j from : ℕ) → from ≡ r.left + j → r.left + j + count ≤ suc r.right → TextsAt names ports (first + j) (map (bit_select_text word) (going_up from count))
  bits_up zero j from e le = tt
  bits_up (suc count) j from e le =
      let i = index_up (nat_le r.right r.left) r j refl (omega arith) in
      let next : first + suc j ≡ suc (first + j) = omega arith in (
        bit_at from j (first + j) (let s = small.1 in omega arith) (ap (has_index r) e ∙ i.0) (ap (place_in r) e ∙ i.1) refl,
        subst (λ k. TextsAt names ports k (map (bit_select_text word) (going_up (suc from) count))) next (bits_up count (suc j) (suc from) (omega arith) (omega arith)),
      )

  bits_down : (count j from : ℕ) → r.right < r.left → from ≡ r.left - j → j + count + r.right ≤ suc r.left → TextsAt names ports (first + j) (map (bit_select_text word) (going_down from count))
  bits_down zero j from lt e le = tt
  bits_down (suc count) j from lt e le =
      let i = index_down r j lt (omega arith) in
      let next : first + suc j ≡ suc (first + j) = omega arith in (
        bit_at from j (first + j) (let s = small.0 in omega arith) (ap (has_index r) e ∙ i.0) (ap (place_in r) e ∙ i.1) refl,
        subst (λ k. TextsAt names ports k (map (bit_select_text word) (going_down (from - 1) count))) next (bits_down count (suc j) (from - 1) lt (omega arith) (omega arith)),
      )

  vector_by : (t : Bool) → nat_le r.left r.right ≡ t → TextsAt names ports first (map (bit_select_text word) (indices_of r))
  vector_by true is =
      let le : r.left ≤ r.right = grind (arith, nat_tests) in
      let zeroth : first + 0 ≡ first = omega arith in
      subst (λ k. TextsAt names ports k (map (bit_select_text word) (indices_of r))) zeroth
      (subst (λ (xs : List ℕ). TextsAt names ports (first + 0) (map (bit_select_text word) xs)) (sym (rising r le)) (bits_up (suc (r.right - r.left)) 0 r.left (omega arith) (omega arith)))
  vector_by false is =
      let lt : r.right < r.left = grind (arith, nat_tests) in
      let zeroth : first + 0 ≡ first = omega arith in
      subst (λ k. TextsAt names ports k (map (bit_select_text word) (indices_of r))) zeroth
      (subst (λ (xs : List ℕ). TextsAt names ports (first + 0) (map (bit_select_text word) xs)) (sym (falling r lt)) (bits_down (suc (r.left - r.right)) 0 r.left lt (omega arith) (omega arith)))

  pub vector_at : TextsAt names ports first (map (bit_select_text word) (indices_of r))
  vector_at = vector_by (nat_le r.left r.right) refl

port_texts_at : (names : List TakenName) (ports : List HeaderPort) (word : Text) (range : Option Range) (first : ℕ) → IsName word → IsShortRange range → Known names ports word (record { range = range; first = record { 0 = first } })
    → TextsAt names ports first (bit_texts word range)
port_texts_at names ports word None first name small known = (Whole word refl name known, tt)
port_texts_at names ports word (Some r) first name small known = vector_at names ports word r first name small known

-- ---- ports

-- these ports stand declared, from this place and this net on
abbrev PortsFrom : List HeaderPort → (place first : ℕ) → List Port → Type 0
PortsFrom ports place first [] = Unit {0}
PortsFrom ports place first (p ∷ ps) = (option_and_then (λ (h : HeaderPort). h.declared) (slice_get ports place) ≡ (declared_port first p).declared) × PortsFrom ports (suc place) (first + length (bit_names p.name p.range)) ps

ports_from : (done : List HeaderPort) (first : ℕ) (ps : List Port) (place : ℕ) → place ≡ length done → PortsFrom (done ++ declared_ports first ps) place first ps
ports_from done first [] place e = tt
ports_from done first (p ∷ ps) place e = (
  get_at done (declared_ports (first + length (bit_names p.name p.range)) ps) (declared_port first p) place e,
  subst (λ (xs : List HeaderPort). PortsFrom xs (suc place) (first + length (bit_names p.name p.range)) ps) (append_assoc done (declared_port first p ∷ []) (declared_ports (first + length (bit_names p.name p.range)) ps))
      (ports_from (done ++ declared_port first p ∷ []) (first + length (bit_names p.name p.range)) ps (suc place) (omega (arith, length-append done (declared_port first p ∷ [])))),
)

ports_at : (names : List TakenName) (ports : List HeaderPort) (ps : List Port) (place first : ℕ) → GoodPorts ps → AreAnnounced names place ps → PortsFrom ports place first ps → TextsAt names ports first (flat_map port_texts ps)
ports_at names ports [] place first good known there = tt
ports_at names ports (p ∷ ps) place first good known there =
    let size = length-bit_texts p.name p.range in
    let d : Declared = record { dir = p.dir; shape = record { range = p.range; first = record { 0 = first } }; repeated = false } in
    texts_append names ports first (port_texts p) (flat_map port_texts ps)
    (port_texts_at names ports p.name p.range first good.0.0 good.0.1 (AsPort known.0.name place d known.0.at there.0 refl))
    (subst (λ k. TextsAt names ports (first + k) (flat_map port_texts ps)) (sym size) (ports_at names ports ps (suc place) (first + length (bit_names p.name p.range)) good.1 known.1 there.1))

-- ---- names

-- a name of a list that stands once is found where its entry stands
new_here : (es : List TakenName) (word : Text) (rest : List Text) → Once (words es ++ word ∷ rest) → times word (words es) ≡ 0
new_here es word rest once = let o = once word in omega (arith, times-append word (words es) (word ∷ rest), times-head word rest)

pub announced_at : (es : List TakenName) (place : ℕ) (ps : List Port) (rest : List Text) → Once (words es ++ (header_words ps ++ rest)) → AreAnnounced (es ++ header_entries place ps) place ps
announced_at es place [] rest once = tt
announced_at es place (p ∷ ps) rest once =
    let e : TakenName = entry p.name (meaning.Port place) in
    let later : Once (words (es ++ e ∷ []) ++ (header_words ps ++ rest)) =
    subst Once (sym (append_assoc (words es) (p.name ∷ []) (header_words ps ++ rest)) ∙ ap (λ ws. ws ++ (header_words ps ++ rest)) (sym (words-append es (e ∷ [])))) once in (
      record { name = p.name; at = look-new es (header_entries (suc place) ps) e (new_here es p.name (header_words ps ++ rest) once) },
      subst (λ (xs : List TakenName). AreAnnounced xs (suc place) ps) (append_assoc es (e ∷ []) (header_entries (suc place) ps)) (announced_at (es ++ e ∷ []) (suc place) ps rest later),
    )

wires_at : (es : List TakenName) (ports : List HeaderPort) (first : ℕ) (ws rest : List Text) → AllNames ws → Once (words es ++ (ws ++ rest)) → TextsAt (es ++ wire_entries first ws) ports first (map name_text ws)
wires_at es ports first [] rest good once = tt
wires_at es ports first (w ∷ ws) rest good once =
    let e : TakenName = entry w (meaning.Nets (record { range = None; first = record { 0 = first } })) in
    let later : Once (words (es ++ e ∷ []) ++ (ws ++ rest)) = subst Once (sym (append_assoc (words es) (w ∷ []) (ws ++ rest)) ∙ ap (λ xs. xs ++ (ws ++ rest)) (sym (words-append es (e ∷ [])))) once in (
      Whole w refl good.0 (AsNets w (look-new es (wire_entries (suc first) ws) e (new_here es w (ws ++ rest) once))),
      subst (λ (xs : List TakenName). TextsAt xs ports (suc first) (map name_text ws)) (append_assoc es (e ∷ []) (wire_entries (suc first) ws)) (wires_at (es ++ e ∷ []) ports (suc first) ws rest good.1 later),
    )

-- all nets of a draft are read where they are written
pub all_nets_at : (es : List TakenName) (ports : List HeaderPort) (ps : List Port) (ws rest : List Text) (bits : ℕ) → bits ≡ length (flat_map port_texts ps) → GoodPorts ps → AllNames ws → AreAnnounced (es ++ wire_entries bits ws) 0 ps → ports ≡ declared_ports 0 ps
    → Once (words es ++ (ws ++ rest)) → NetsAt (es ++ wire_entries bits ws) ports (flat_map port_texts ps ++ map name_text ws)
all_nets_at es ports ps ws rest bits size good names known declared once =
    let all = es ++ wire_entries bits ws in
    let there : PortsFrom ports 0 0 ps = subst (λ (xs : List HeaderPort). PortsFrom xs 0 0 ps) (sym declared) (ports_from [] 0 ps 0 refl) in
    let place : bits ≡ 0 + length (flat_map port_texts ps) = omega arith in
    let texts : TextsAt all ports 0 (flat_map port_texts ps ++ map name_text ws) =
    texts_append all ports 0 (flat_map port_texts ps) (map name_text ws) (ports_at all ports ps 0 0 good known there) (subst (λ k. TextsAt all ports k (map name_text ws)) place (wires_at es ports bits ws rest names once)) in
    λ k lt. let e : 0 + k ≡ k = omega arith in subst (NetAt all ports (get_or (flat_map port_texts ps ++ map name_text ws) k [])) e (nets_from_texts all ports 0 (flat_map port_texts ps ++ map name_text ws) texts k lt)

-- ---- the names of a text stand once

times-ports : (word : Text) (ps : List Port) → times word (header_words ps) + times word (bit_words ps) ≡ times word (bit_names_of ps) + times word (filter_map vector_name ps)
times-ports word [] = refl
times-ports word (p ∷ ps) = by p.range (times-ports word ps)
  where
    by : (range : Option Range) → times word (header_words ps) + times word (bit_words ps) ≡ times word (bit_names_of ps) + times word (filter_map vector_name ps)
        → one_if (bytes_eq p.name word) + times word (header_words ps) + times word (names_of_bits p.name range ++ bit_words ps)
        ≡ times word (bit_names p.name range ++ bit_names_of ps) + times word (cons_option (vector_name_in p.name range) (filter_map vector_name ps))
    by None ih = omega arith
    by (Some r) ih = omega (arith, times-append word (bit_names p.name (Some r)) (bit_words ps), times-append word (bit_names p.name (Some r)) (bit_names_of ps))

pub text_names_once : (n : Netlist) (ws : List Text) → n.nets ≡ bit_names_of n.ports ++ ws → Once (names_taken n) → Once (header_words n.ports ++ (bit_words n.ports ++ (ws ++ filter_map instance_name n.instances)))
text_names_once n ws nets once word =
    let o = once word in
    let owns : List Text = filter_map instance_name n.instances in
    omega (
      arith,
      times-ports word n.ports,
      ap (times word) nets,
      times-append word (bit_names_of n.ports) ws,
      times-append word n.nets (filter_map vector_name n.ports ++ owns),
      times-append word (filter_map vector_name n.ports) owns,
      times-append word (header_words n.ports) (bit_words n.ports ++ (ws ++ owns)),
      times-append word (bit_words n.ports) (ws ++ owns),
      times-append word ws owns,
    )
