-- The lines of ports, other nets and joins, one kind after another, and what the draft holds behind each.
use Rattle.std.proofs.Common.{◌≡◌, ℕ, zero, suc, ◌+◌, ◌-◌, ◌<◌, ◌≤◌, Bool, true, false, cond, List, [], ◌∷◌, ◌++◌, length, map, flat_map, Option, Some, None, Ok, refl, sym, ap, ◌∙◌, subst, arith, append_assoc, append-nil, length-append, slice_get, slice_set}
use Rattle.std.specs.Prelude.{nat_le}
use Rattle.std.specs.Option.{option_and_then}
use Rattle.std.proofs.lemmas.Bool.Decides.{nat_tests}
use Rattle.std.proofs.lemmas.List.{length-map}
use Rattle.dft_base.specs.declared.place.Range.{Range}
use Rattle.dft_base.specs.Lexing.{Text}
use Rattle.dft_base.specs.Name.{IsName}
use Rattle.dft_netlist.specs.declared.port.Port.{Port}
use Rattle.dft_netlist.specs.declared.instance.Instance.{Instance}
use Rattle.dft_netlist.specs.declared.instance.Join.{Join}
use Rattle.dft_netlist.specs.declared.limits.TheConstants.{MAX_NETS}
use Rattle.dft_netlist_text.specs.declared.text.Meaning.TheVariants as meaning
use Rattle.dft_netlist.specs.Netlist.{Netlist}
use Rattle.dft_netlist.specs.Names.{IsShortRange, bit_name, bit_names, indices_of}
use Rattle.dft_netlist.specs.Sound.{bit_names_of}
use Rattle.dft_netlist_text.specs.Modules.{HeaderPort, TakenName, Draft, net_count, names_of_bits, declare_port}
use Rattle.dft_netlist.proofs.BitLemmas.{indices_length}
use Rattle.dft_verilog_out.specs.Written.{name_text, port_line, wire_line}
use Rattle.dft_verilog_out.proofs.CountLemmas.{Once, look, look-kept, words}
use Rattle.dft_verilog_out.proofs.DraftLemmas.{entry, fresh_of, free_at, bit_entries, words-bits, words-append, declare_port-is, declare_wire-is}
use Rattle.dft_verilog_out.proofs.LineLemmas.{Lines, no_lines, lines_cons, port_read, wire_read}

-- ---- what a draft holds

-- a draft of this netlist's module with these parts
abbrev pub stage : Netlist → List TakenName → List HeaderPort → List Text → List Instance → List Join → Draft
stage n names ports nets instances joins = record { name = n.name; library = n.library; names = names; ports = ports; nets = nets; instances = instances; joins = joins }

-- the ports of a header, before they are declared
abbrev pub undeclared : List Port → List HeaderPort
undeclared ports = map (λ (p : Port). record { name = p.name; declared = None }) ports

-- a port whose nets begin with this number
abbrev pub declared_port : (first : ℕ) → Port → HeaderPort
declared_port first p = record { name = p.name; declared = Some (record { dir = p.dir; shape = record { range = p.range; first = record { 0 = first } }; repeated = false }) }

abbrev pub declared_ports : (first : ℕ) → List Port → List HeaderPort
declared_ports first [] = []
declared_ports first (p ∷ ps) = declared_port first p ∷ declared_ports (first + length (bit_names p.name p.range)) ps

-- the names of the vectors' bits
abbrev pub bit_words : List Port → List Text
bit_words [] = []
bit_words (p ∷ ps) = names_of_bits p.name p.range ++ bit_words ps

abbrev pub bits_entries : List Port → List TakenName
bits_entries [] = []
bits_entries (p ∷ ps) = bit_entries (names_of_bits p.name p.range) ++ bits_entries ps

-- the entries of other nets, whose numbers go up from this one
abbrev pub wire_entries : (first : ℕ) → List Text → List TakenName
wire_entries first [] = []
wire_entries first (w ∷ ws) = entry w (meaning.Nets (record { range = None; first = record { 0 = first } })) ∷ wire_entries (suc first) ws

-- ---- ports

width_by : (t : Bool) (l r n : ℕ) → nat_le r l ≡ t → n ≡ (l - r) + (r - l) + 1 → suc (cond t (l - r) (r - l)) ≡ n
width_by true l r n is e = let le : r ≤ l = grind (arith, nat_tests) in omega arith
width_by false l r n is e = let lt : l < r = grind (arith, nat_tests) in omega arith

pub net_count-is : (word : Text) (range : Option Range) → net_count range ≡ length (bit_names word range)
net_count-is word None = refl
net_count-is word (Some r) = width_by (nat_le r.right r.left) r.left r.right (length (indices_of r)) refl (indices_length r) ∙ sym (length-map (indices_of r) (bit_name word))

abbrev pub GoodPorts : List Port → Type 0
GoodPorts [] = Unit {0}
GoodPorts (p ∷ ps) = (IsName p.name × IsShortRange p.range) × GoodPorts ps

pub good_ports : (ps : List Port) → ((k : ℕ) (p : Port) → slice_get ps k ≡ Some p → IsName p.name × IsShortRange p.range) → GoodPorts ps
good_ports [] h = tt
good_ports (p ∷ ps) h = (h 0 p refl, good_ports ps (λ k q at. h (suc k) q at))

-- these ports stand in the header, from this place on
pub record IsAnnounced (names : List TakenName) (place : ℕ) (p : Port) : Type 0 where
  pub name : Text
  pub at : look names p.name ≡ Some (entry name (meaning.Port place))

abbrev pub AreAnnounced : List TakenName → (place : ℕ) → List Port → Type 0
AreAnnounced names place [] = Unit {0}
AreAnnounced names place (p ∷ ps) = IsAnnounced names place p × AreAnnounced names (suc place) ps

pub announced-kept : (names more : List TakenName) (place : ℕ) (ps : List Port) → AreAnnounced names place ps → AreAnnounced (names ++ more) place ps
announced-kept names more place [] h = tt
announced-kept names more place (p ∷ ps) h =
    (record { name = h.0.name; at = look-kept names more p.name (entry h.0.name (meaning.Port place)) h.0.at }, announced-kept names more (suc place) ps h.1)

set_at : (done rest : List HeaderPort) (x y : HeaderPort) (place : ℕ) → place ≡ length done → slice_set (done ++ x ∷ rest) place y ≡ (done ++ y ∷ []) ++ rest
set_at [] rest x y zero e = refl
set_at [] rest x y (suc place) e = absurd (omega arith)
set_at (z ∷ done) rest x y zero e = absurd (omega arith)
set_at (z ∷ done) rest x y (suc place) e = ap (λ (zs : List HeaderPort). z ∷ zs) (set_at done rest x y place (omega arith))

pub get_at : (done rest : List HeaderPort) (x : HeaderPort) (place : ℕ) → place ≡ length done → option_and_then (λ (p : HeaderPort). p.declared) (slice_get (done ++ x ∷ rest) place) ≡ x.declared
get_at [] rest x zero e = refl
get_at [] rest x (suc place) e = absurd (omega arith)
get_at (z ∷ done) rest x zero e = absurd (omega arith)
get_at (z ∷ done) rest x (suc place) e = get_at done rest x place (omega arith)

port_step : (n : Netlist) (p : Port) (todo : List Port) (names : List TakenName) (done : List HeaderPort) (nets rest : List Text) → IsAnnounced names (length done) p
    → Once (words names ++ (names_of_bits p.name p.range ++ rest)) → length nets + length (bit_names p.name p.range) ≤ MAX_NETS → (place : ℕ)
    → declare_port place p.name p.dir p.range (stage n names (done ++ undeclared (p ∷ todo)) nets [] [])
    ≡ Ok (stage n (names ++ bit_entries (names_of_bits p.name p.range)) ((done ++ declared_port (length nets) p ∷ []) ++ undeclared todo) (nets ++ bit_names p.name p.range) [] [])
port_step n p todo names done nets rest known once room place =
    let d = stage n names (done ++ undeclared (p ∷ todo)) nets [] [] in
    let x : HeaderPort = record { name = p.name; declared = None } in
    declare_port-is place (length done) p.name p.dir p.range d (entry known.name (meaning.Port (length done))) known.at refl
    (get_at done (undeclared todo) x (length done) refl) (fresh_of names (names_of_bits p.name p.range) rest once) (omega (arith, net_count-is p.name p.range))
    ∙ ap (λ (ports : List HeaderPort). Ok (stage n (names ++ bit_entries (names_of_bits p.name p.range)) ports (nets ++ bit_names p.name p.range) [] []))
    (set_at done (undeclared todo) x (declared_port (length nets) p) (length done) refl)

pub ports_read : (n : Netlist) (todo : List Port) (names : List TakenName) (done : List HeaderPort) (nets rest : List Text) → GoodPorts todo → AreAnnounced names (length done) todo
    → Once (words names ++ (bit_words todo ++ rest)) → length nets + length (bit_names_of todo) ≤ MAX_NETS
    → Lines (length todo) (flat_map port_line todo) (stage n names (done ++ undeclared todo) nets [] []) (stage n (names ++ bits_entries todo) (done ++ declared_ports (length nets) todo) (nets ++ bit_names_of todo) [] [])
ports_read n [] names done nets rest good known once room =
    subst (λ (x : List TakenName). Lines 0 [] (stage n names (done ++ []) nets [] []) (stage n x (done ++ []) (nets ++ []) [] [])) (sym (append-nil names))
    (subst (λ (x : List Text). Lines 0 [] (stage n names (done ++ []) nets [] []) (stage n names (done ++ []) x [] [])) (sym (append-nil nets)) (no_lines (stage n names (done ++ []) nets [] [])))
ports_read n (p ∷ todo) names done nets rest good known once room =
    let bits : List TakenName = bit_entries (names_of_bits p.name p.range) in
    let here : List HeaderPort = done ++ declared_port (length nets) p ∷ [] in
    let mid = stage n (names ++ bits) (here ++ undeclared todo) (nets ++ bit_names p.name p.range) [] [] in
    let size : length (nets ++ bit_names p.name p.range) ≡ length nets + length (bit_names p.name p.range) = length-append nets (bit_names p.name p.range) in
    let place : length here ≡ suc (length done) = omega (arith, length-append done (declared_port (length nets) p ∷ [])) in
    let room_here = length-append (bit_names p.name p.range) (bit_names_of todo) in
    let taken : words (names ++ bits) ≡ words names ++ names_of_bits p.name p.range = words-append names bits ∙ ap (λ ws. words names ++ ws) (words-bits (names_of_bits p.name p.range)) in
    let once_here : Once (words names ++ (names_of_bits p.name p.range ++ (bit_words todo ++ rest))) =
    subst (λ ws. Once (words names ++ ws)) (append_assoc (names_of_bits p.name p.range) (bit_words todo) rest) once in
    let once_later : Once (words (names ++ bits) ++ (bit_words todo ++ rest)) =
    subst Once (sym (append_assoc (words names) (names_of_bits p.name p.range) (bit_words todo ++ rest)) ∙ ap (λ ws. ws ++ (bit_words todo ++ rest)) (sym taken)) once_here in
    let first = port_read p (stage n names (done ++ undeclared (p ∷ todo)) nets [] []) mid good.0.0 good.0.1
    (port_step n p todo names done nets (bit_words todo ++ rest) known.0 once_here (omega arith)) in
    let more = ports_read n todo (names ++ bits) here (nets ++ bit_names p.name p.range) rest good.1
    (subst (λ k. AreAnnounced (names ++ bits) k todo) (sym place) (announced-kept names bits (suc (length done)) todo known.1)) once_later (omega arith) in
    let ends : stage n ((names ++ bits) ++ bits_entries todo) (here ++ declared_ports (length (nets ++ bit_names p.name p.range)) todo) ((nets ++ bit_names p.name p.range) ++ bit_names_of todo) [] []
    ≡ stage n (names ++ bits_entries (p ∷ todo)) (done ++ declared_ports (length nets) (p ∷ todo)) (nets ++ bit_names_of (p ∷ todo)) [] [] =
    rw (size, append_assoc names bits (bits_entries todo), append_assoc done (declared_port (length nets) p ∷ []) (declared_ports (length nets + length (bit_names p.name p.range)) todo), append_assoc nets (bit_names p.name p.range) (bit_names_of todo)) refl in
    lines_cons (length todo) (port_line p) (flat_map port_line todo) (stage n names (done ++ undeclared (p ∷ todo)) nets [] []) mid
    (stage n ((names ++ bits) ++ bits_entries todo) (here ++ declared_ports (length (nets ++ bit_names p.name p.range)) todo) ((nets ++ bit_names p.name p.range) ++ bit_names_of todo) [] [])
    (stage n (names ++ bits_entries (p ∷ todo)) (done ++ declared_ports (length nets) (p ∷ todo)) (nets ++ bit_names_of (p ∷ todo)) [] []) first more ends

-- ---- other nets

abbrev pub AllNames : List Text → Type 0
AllNames [] = Unit {0}
AllNames (w ∷ ws) = IsName w × AllNames ws

pub all_names : (ws : List Text) → ((k : ℕ) (w : Text) → slice_get ws k ≡ Some w → IsName w) → AllNames ws
all_names [] h = tt
all_names (w ∷ ws) h = (h 0 w refl, all_names ws (λ k v at. h (suc k) v at))

pub wires_read : (n : Netlist) (ws : List Text) (names : List TakenName) (ports : List HeaderPort) (nets rest : List Text) → AllNames ws → Once (words names ++ (ws ++ rest)) → length nets + length ws ≤ MAX_NETS
    → Lines (length ws) (flat_map wire_line (map name_text ws)) (stage n names ports nets [] []) (stage n (names ++ wire_entries (length nets) ws) ports (nets ++ ws) [] [])
wires_read n [] names ports nets rest good once room =
    subst (λ (x : List TakenName). Lines 0 [] (stage n names ports nets [] []) (stage n x ports (nets ++ []) [] [])) (sym (append-nil names))
    (subst (λ (x : List Text). Lines 0 [] (stage n names ports nets [] []) (stage n names ports x [] [])) (sym (append-nil nets)) (no_lines (stage n names ports nets [] [])))
wires_read n (w ∷ ws) names ports nets rest good once room =
    let e : TakenName = entry w (meaning.Nets (record { range = None; first = record { 0 = length nets } })) in
    let start = stage n names ports nets [] [] in
    let mid = stage n (names ++ e ∷ []) ports (nets ++ w ∷ []) [] [] in
    let size : length (nets ++ w ∷ []) ≡ suc (length nets) = omega (arith, length-append nets (w ∷ [])) in
    let once_later : Once (words (names ++ e ∷ []) ++ (ws ++ rest)) =
    subst Once (sym (append_assoc (words names) (w ∷ []) (ws ++ rest)) ∙ ap (λ xs. xs ++ (ws ++ rest)) (sym (words-append names (e ∷ [])))) once in
    let first = wire_read w start mid good.0 (λ place. declare_wire-is place w start (free_at names w (ws ++ rest) once) (omega arith)) in
    let more = wires_read n ws (names ++ e ∷ []) ports (nets ++ w ∷ []) rest good.1 once_later (omega arith) in
    let ends : stage n ((names ++ e ∷ []) ++ wire_entries (length (nets ++ w ∷ [])) ws) ports ((nets ++ w ∷ []) ++ ws) [] [] ≡ stage n (names ++ wire_entries (length nets) (w ∷ ws)) ports (nets ++ w ∷ ws) [] [] =
    rw (size, append_assoc names (e ∷ []) (wire_entries (suc (length nets)) ws), append_assoc nets (w ∷ []) ws) refl in
    lines_cons (length ws) (wire_line (name_text w)) (flat_map wire_line (map name_text ws)) start mid
    (stage n ((names ++ e ∷ []) ++ wire_entries (length (nets ++ w ∷ [])) ws) ports ((nets ++ w ∷ []) ++ ws) [] []) (stage n (names ++ wire_entries (length nets) (w ∷ ws)) ports (nets ++ w ∷ ws) [] []) first more ends
