-- The written heading is read.
use Rattle.std.proofs.Common.{◌≡◌, ℕ, zero, suc, ◌+◌, ◌≤◌, List, [], ◌∷◌, ◌++◌, length, map, codes, None, Ok, refl, sym, ap, ◌∙◌, subst, arith, append_assoc, length-append}
use Rattle.std.proofs.lemmas.List.{length-map}
use Rattle.dft_base.specs.Lexing.{Text}
use Rattle.dft_base.specs.Name.{IsName}
use Rattle.dft_netlist.specs.declared.port.Port.{Port}
use Rattle.dft_netlist.specs.declared.limits.TheConstants.{MAX_PORTS}
use Rattle.dft_netlist_text.specs.declared.text.TokenKind.TheVariants as kind
use Rattle.dft_netlist_text.specs.declared.text.Meaning.TheVariants as meaning
use Rattle.dft_netlist.specs.Netlist.{Netlist}
use Rattle.dft_netlist_text.specs.Lexemes.{Token}
use Rattle.dft_netlist_text.specs.Modules.{HeaderPort, TakenName, Draft, empty_draft}
use Rattle.dft_netlist_text.specs.NetlistText.{announced_names_from, header_names}
use Rattle.dft_netlist_text.specs.NetlistText as text
use Rattle.dft_verilog_out.specs.Written.{name_text, list_text, list_text_behind, module_line}
use Rattle.dft_verilog_out.proofs.CutLemmas.{cut_up, token, cut_up-module, cut_up-comma, cut_up-close, cut_up-semicolon, cut_up-space, cut_up-line, cut_up-opened, name_at, Opens}
use Rattle.dft_verilog_out.proofs.ItemLemmas.{names_from-more, names_from-end, header_names-none, header_names-some, heading-at}
use Rattle.dft_verilog_out.proofs.CountLemmas.{Once, words}
use Rattle.dft_verilog_out.proofs.DraftLemmas.{entry, free_at, words-append, announce-is}
use Rattle.dft_verilog_out.proofs.OperandLemmas.{name_opens}
use Rattle.dft_verilog_out.proofs.InstanceLemmas.{listed_long}
use Rattle.dft_verilog_out.proofs.PhaseLemmas.{stage, undeclared, GoodPorts}

-- the entries of the header's names, from this place on
abbrev pub header_entries : (place : ℕ) → List Port → List TakenName
header_entries place [] = []
header_entries place (p ∷ ps) = entry p.name (meaning.Port place) ∷ header_entries (suc place) ps

abbrev pub header_words : List Port → List Text
header_words ports = map (λ (p : Port). p.name) ports

abbrev header_texts : List Port → List Text
header_texts ports = map (λ (p : Port). name_text p.name) ports

step_ends : (n : Netlist) (names : List TakenName) (done : List HeaderPort) (p : Port) (ps : List Port) → length (done ++ record { name = p.name; declared = None } ∷ []) ≡ suc (length done)
    → stage n ((names ++ entry p.name (meaning.Port (length done)) ∷ []) ++ header_entries (length (done ++ record { name = p.name; declared = None } ∷ [])) ps) ((done ++ record { name = p.name; declared = None } ∷ []) ++ undeclared ps) [] [] []
    ≡ stage n (names ++ header_entries (length done) (p ∷ ps)) (done ++ undeclared (p ∷ ps)) [] [] []
step_ends n names done p ps size =
    rw (size, append_assoc names (entry p.name (meaning.Port (length done)) ∷ []) (header_entries (suc (length done)) ps), append_assoc done (record { name = p.name; declared = None } ∷ []) (undeclared ps)) refl

names_read : (m : ℕ) (n : Netlist) (p : Port) (ps : List Port) (names : List TakenName) (done : List HeaderPort) (others : List Text) (rest : Text) → GoodPorts (p ∷ ps) → length (p ∷ ps) ≤ m
    → Once (words names ++ (header_words (p ∷ ps) ++ others)) → length done + length (p ∷ ps) ≤ MAX_PORTS
    → announced_names_from m (stage n names done [] [] []) (cut_up (name_text p.name ++ (list_text_behind (codes ", ") (header_texts ps) ++ 41 ∷ rest)))
    ≡ Ok (stage n (names ++ header_entries (length done) (p ∷ ps)) (done ++ undeclared (p ∷ ps)) [] [] [], cut_up (41 ∷ rest))
names_read zero n p ps names done others rest good few once room = absurd (omega arith)
names_read (suc m) n p [] names done others rest good few once room =
    let d = stage n names done [] [] [] in
    let w = name_at p.name 41 rest good.0.0 refl in
    let new = stage n (names ++ entry p.name (meaning.Port (length done)) ∷ []) (done ++ record { name = p.name; declared = None } ∷ []) [] [] [] in
    ap (announced_names_from (suc m) d) (w.at ∙ ap (λ ts. token kind.Name p.name (suc w.left) ∷ ts) (cut_up-close rest))
    ∙ names_from-end m d new p.name (suc w.left) (suc (length rest)) (cut_up rest) (announce-is (suc w.left) p.name d (free_at names p.name others once) (omega arith))
    ∙ ap (λ ts. Ok (new, ts)) (sym (cut_up-close rest))
names_read (suc m) n p (q ∷ qs) names done others rest good few once room =
    let d = stage n names done [] [] [] in
    let later : Text = name_text q.name ++ (list_text_behind (codes ", ") (header_texts qs) ++ 41 ∷ rest) in
    let w = name_at p.name 44 (32 ∷ later) good.0.0 refl in
    let x : HeaderPort = record { name = p.name; declared = None } in
    let e : TakenName = entry p.name (meaning.Port (length done)) in
    let new = stage n (names ++ e ∷ []) (done ++ x ∷ []) [] [] [] in
    let size : length (done ++ x ∷ []) ≡ suc (length done) = omega (arith, length-append done (x ∷ [])) in
    let once_later : Once (words (names ++ e ∷ []) ++ (header_words (q ∷ qs) ++ others)) =
    subst Once (sym (append_assoc (words names) (p.name ∷ []) (header_words (q ∷ qs) ++ others)) ∙ ap (λ ws. ws ++ (header_words (q ∷ qs) ++ others)) (sym (words-append names (e ∷ [])))) once in
    let tail : list_text_behind (codes ", ") (header_texts (q ∷ qs)) ++ 41 ∷ rest ≡ 44 ∷ 32 ∷ later = ap (λ t. 44 ∷ 32 ∷ t) (append_assoc (name_text q.name) (list_text_behind (codes ", ") (header_texts qs)) (41 ∷ rest)) in
    ap (λ t. announced_names_from (suc m) d (cut_up (name_text p.name ++ t))) tail
    ∙ ap (announced_names_from (suc m) d) (w.at ∙ ap (λ ts. token kind.Name p.name (suc w.left) ∷ ts) (cut_up-comma (32 ∷ later) ∙ ap (λ ts. token kind.Comma (44 ∷ []) (suc (suc (length later))) ∷ ts) (cut_up-space later)))
    ∙ names_from-more m d new p.name (suc w.left) (suc (suc (length later))) (cut_up later) (announce-is (suc w.left) p.name d (free_at names p.name (header_words (q ∷ qs) ++ others) once) (omega arith))
    ∙ names_read m n q qs (names ++ e ∷ []) (done ++ x ∷ []) others rest good.1 (omega arith) once_later (omega arith)
    ∙ ap (λ (y : Draft). Ok (y, cut_up (41 ∷ rest))) (step_ends n names done p (q ∷ qs) size)

header_read : (n : Netlist) (ports : List Port) (others : List Text) (rest : Text) → GoodPorts ports → Once (header_words ports ++ others) → length ports ≤ MAX_PORTS
    → header_names (empty_draft n.name n.library) (cut_up (list_text (header_texts ports) ++ 41 ∷ rest)) ≡ Ok (stage n (header_entries 0 ports) (undeclared ports) [] [] [], cut_up (41 ∷ rest))
header_read n [] others rest good once room =
    ap (header_names (empty_draft n.name n.library)) (cut_up-close rest) ∙ header_names-none (empty_draft n.name n.library) (suc (length rest)) (cut_up rest) ∙ ap (λ ts. Ok (empty_draft n.name n.library, ts)) (sym (cut_up-close rest))
header_read n (p ∷ ps) others rest good once room =
    let d = stage n [] [] [] [] [] in
    let behind : Text = list_text_behind (codes ", ") (header_texts ps) ++ 41 ∷ rest in
    let is : list_text (header_texts (p ∷ ps)) ++ 41 ∷ rest ≡ name_text p.name ++ behind = append_assoc (name_text p.name) (list_text_behind (codes ", ") (header_texts ps)) (41 ∷ rest) in
    first_token d p ps behind refl good.0.0 (λ l ts at size.
    ap (λ t. header_names d (cut_up t)) is ∙ ap (header_names d) at ∙ header_names-some d p.name (suc l) ts ∙ ap (announced_names_from (suc l) d) (sym at)
    ∙ names_read (suc l) n p ps [] [] others rest good (omega (arith, size, listed_long (header_texts ps) rest, length-map ps (λ (q : Port). name_text q.name), length-append (name_text p.name) behind)) once (omega arith))
  where
    first_token : {P : Type 0} (d : Draft) (p : Port) (ps : List Port) (behind : Text) → behind ≡ list_text_behind (codes ", ") (header_texts ps) ++ 41 ∷ rest → IsName p.name
        → ((l : ℕ) (ts : List Token) → cut_up (name_text p.name ++ behind) ≡ token kind.Name p.name (suc l) ∷ ts → length (name_text p.name ++ behind) ≡ suc l → P) → P
    first_token d p [] behind e name k =
        let w = name_at p.name 41 rest name refl in
        k w.left (cut_up (41 ∷ rest)) (ap (λ b. cut_up (name_text p.name ++ b)) e ∙ w.at) (ap (λ b. length (name_text p.name ++ b)) e ∙ w.size)
    first_token d p (q ∷ qs) behind e name k =
        let more : Text = 32 ∷ ((name_text q.name ++ list_text_behind (codes ", ") (header_texts qs)) ++ 41 ∷ rest) in
        let w = name_at p.name 44 more name refl in
        k w.left (cut_up (44 ∷ more)) (ap (λ b. cut_up (name_text p.name ++ b)) e ∙ w.at) (ap (λ b. length (name_text p.name ++ b)) e ∙ w.size)

header_opens : (ports : List Port) (rest : Text) → Opens (list_text (header_texts ports) ++ 41 ∷ rest)
header_opens [] rest = record { first = 41; others = rest; is = refl; other = λ h. absurd (omega arith) }
header_opens (p ∷ ps) rest =
    subst Opens (sym (append_assoc (name_text p.name) (list_text_behind (codes ", ") (header_texts ps)) (41 ∷ rest))) (name_opens p.name (list_text_behind (codes ", ") (header_texts ps) ++ 41 ∷ rest))

heading_parts : (n : Netlist) (rest : Text) → module_line n.name n.ports ++ rest ≡ codes "module " ++ (name_text n.name ++ 32 ∷ 40 ∷ (list_text (header_texts n.ports) ++ 41 ∷ 59 ∷ 10 ∷ rest))
unfolding module_line
heading_parts n rest =
    ap (λ t. codes "module " ++ t) (append_assoc (name_text n.name) (codes " (" ++ (list_text (header_texts n.ports) ++ codes ");\n")) rest
    ∙ ap (λ t. name_text n.name ++ (32 ∷ 40 ∷ t)) (append_assoc (list_text (header_texts n.ports)) (codes ");\n") rest))

pub heading_read : (n : Netlist) (others : List Text) (rest : Text) → IsName n.name → GoodPorts n.ports → Once (header_words n.ports ++ others) → length n.ports ≤ MAX_PORTS
    → text.heading n.library (cut_up (module_line n.name n.ports ++ rest)) ≡ Ok (stage n (header_entries 0 n.ports) (undeclared n.ports) [] [] [], cut_up rest)
heading_read n others rest name good once room =
    let inside : Text = list_text (header_texts n.ports) ++ 41 ∷ 59 ∷ 10 ∷ rest in
    let w = name_at n.name 32 (40 ∷ inside) name refl in
    let d = stage n (header_entries 0 n.ports) (undeclared n.ports) [] [] [] in
    ap (λ t. text.heading n.library (cut_up t)) (heading_parts n rest)
    ∙ ap (text.heading n.library) (cut_up-module (name_text n.name ++ 32 ∷ 40 ∷ inside) ∙ ap (λ ts. token kind.Module (codes "module") (length (codes "module " ++ (name_text n.name ++ 32 ∷ 40 ∷ inside))) ∷ ts)
    (w.at ∙ ap (λ ts. token kind.Name n.name (suc w.left) ∷ ts) (cut_up-space (40 ∷ inside) ∙ cut_up-opened inside (header_opens n.ports (59 ∷ 10 ∷ rest)))))
    ∙ heading-at n.library n.name (codes "module") d (length (codes "module " ++ (name_text n.name ++ 32 ∷ 40 ∷ inside))) (suc w.left) (suc (length inside)) (suc (suc (suc (length rest)))) (suc (suc (length rest))) (cut_up inside) (cut_up rest)
    (header_read n n.ports others (59 ∷ 10 ∷ rest) good once room
    ∙ ap (λ ts. Ok (d, ts)) (cut_up-close (59 ∷ 10 ∷ rest) ∙ ap (λ ts. token kind.CloseParen (41 ∷ []) (suc (suc (suc (length rest)))) ∷ ts) (cut_up-semicolon (10 ∷ rest) ∙ ap (λ ts. token kind.Semicolon (59 ∷ []) (suc (suc (length rest))) ∷ ts) (cut_up-line rest))))
