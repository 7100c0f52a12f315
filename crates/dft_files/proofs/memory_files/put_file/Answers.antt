use Rattle.std.proofs.Common.{rules, ◌≡◌, List, ◌∷◌, [], Some, None, set, ap, ◌∙◌, string_bytes}
use Rattle.std.proofs.lemmas.List.{map-append}
use Rattle.std.specs.List.{position}
use Rattle.dft_files.proofs.StoreLemmas.{Entry, has_name, held_of-set, held_of-push}
use Rattle.dft_files.specs.Entries.{held_of}
use Rattle.dft_files.proofs.memory_files.put_file.Goals as goal

pub returns-in-Some-clause-ok : goal.returns-in-Some-clause-ok
returns-in-Some-clause-ok c =
    let found : position (has_name (string_bytes c.args.name)) c.args.entries.now.items ≡ Some c.in-Some.at = search rules in
    ap (λ (e : Entry). held_of (set c.args.entries.now.items c.in-Some.at (e.0, c.args.bytes))) c.index_mut.ensures.value
    ∙ held_of-set (string_bytes c.args.name) c.args.bytes c.args.entries.now.items c.in-Some.at c.index_mut.result.now found

pub returns-in_ok-push-in-None-clause-ok : goal.returns-in_ok-push-in-None-clause-ok
returns-in_ok-push-in-None-clause-ok c =
    let none : position (has_name (string_bytes c.args.name)) c.args.entries.now.items ≡ None = search rules in
    ap (λ (es : List Entry). held_of es) c.in_ok-push-in-None.ensures.items
    ∙ map-append _ c.args.entries.now.items ((c.args.name, c.args.bytes) ∷ [])
    ∙ held_of-push (string_bytes c.args.name) c.args.bytes.items c.args.entries.now.items none
