use Rattle.std.proofs.Common.{◌≡◌, ◌∙◌, ◌++◌, ◌∷◌, [], List, Ok, true, false, refl, sym, ap, rules, arith}
use Rattle.std.proofs.lemmas.Grind.{common_steps}
use Rattle.dft_base.proofs.Turns.{one_more, no_more}
use Rattle.dft_cells.specs.declared.cell.Cell.{Cell}
use Rattle.dft_netlist_text.specs.declared.text.TokenKind.TheVariants as kind
use Rattle.dft_netlist_text.specs.Lexemes.{Token}
use Rattle.dft_netlist_text.specs.Steps.{left, sees}
use Rattle.dft_modules.specs.Modules.{Module}
use Rattle.dft_modules.specs.SubInstances.{Said}
use Rattle.dft_modules.specs.ModuleTexts.{next_module, modules_from}
use Rattle.dft_verilog_module.specs.SaidModules.{said}
use Rattle.dft_verilog.specs.TextsSaid.{modules_in}
use Rattle.dft_verilog.proofs.AloneLemmas.{alone_end, first_read, none_of, pushed_some}
use Rattle.dft_verilog.proofs.PassingLemmas.{passed_none}
use Rattle.dft_verilog.proofs.ModulesLemmas.{modules_end, modules_more, reads_none}
use Rattle.dft_verilog.proofs.texts.said_ahead.Goals as goal

pub turns-init : goal.turns-init
turns-init c = record {
  same = first_of (search rules, grind (arith, common_steps));
  library = first_of (search rules, grind (arith, common_steps));
  passed = passed_none c.args.text.now c.unpassed-passed.result c.unpassed-passed.ensures.bytes c.unpassed-passed.ensures.place;
  first = λ none. (first_of (search rules, grind (arith, common_steps)), refl);
}

pub returns-then-ended-2-clause-read : goal.returns-then-ended-2-clause-read
returns-then-ended-2-clause-read c =
    let text = c.args.text.now in
    let library : List Cell = c.args.cells.now in
    let ts : List Token = c.turns.tokens in
    let us : List Token = c.next_module.new.tokens in
    let m : Said = said c.in_ok-said.said.draft c.in_ok-said.said.subs.items in
    let made : Module = c.in_ok-made.made in
    let before : List Module = c.turns.modules.items in
    let read : next_module library c.turns.names ts ≡ Ok (m, us) = ap (λ (cells : List Cell). next_module cells c.turns.names ts) (sym c.turns.invariant.library) ∙ c.in_ok-said.ensures.read in
    let pushed : c.push.new.self.items ≡ before ++ made ∷ [] = c.in_ok-push.ensures.items in
    let end : sees kind.End us ≡ true = sym c.sees-ended.ensures.value ∙ c.if-ended-2.true in
    one_more (λ n. modules_from n text library c.turns.names before ts) _ c.turns._turn c.turns-test.true c.turns.invariant.same
    ∙ modules_end _ text library c.turns.names before c.push.new.self.items m made ts us read c.in_ok-made.ensures.said pushed end

pub returns-then-is_empty-2-clause-read : goal.returns-then-is_empty-2-clause-read
returns-then-is_empty-2-clause-read c =
    let text = c.args.text.now in
    let library : List Cell = c.args.cells.now in
    let ts : List Token = c.turns.tokens in
    let us : List Token = c.next_module.new.tokens in
    let m = c.in_ok-said.said in
    let before : List Module = c.turns.modules.items in
    let first : before ≡ [] = none_of before (first_of (search rules, grind (arith, common_steps))) in
    let none : m.subs.items ≡ [] = none_of m.subs.items (first_of (search rules, grind (arith, common_steps))) in
    let read : next_module library c.turns.names ts ≡ Ok (said m.draft m.subs.items, us) = ap (λ (cells : List Cell). next_module cells c.turns.names ts) (sym c.turns.invariant.library) ∙ c.in_ok-said.ensures.read in
    let end : sees kind.End us ≡ true = sym c.sees-ended.ensures.value ∙ c.if-ended.true in
    one_more (λ n. modules_from n text library c.turns.names before ts) _ c.turns._turn c.turns-test.true c.turns.invariant.same
    ∙ alone_end _ text library c.turns.names before m.draft m.subs.items ts us first none read end

pub returns-then-is_empty-2-clause-alone : goal.returns-then-is_empty-2-clause-alone
returns-then-is_empty-2-clause-alone c =
    let library : List Cell = c.args.cells.now in
    let ts : List Token = c.turns.tokens in
    let us : List Token = c.next_module.new.tokens in
    let m = c.in_ok-said.said in
    let first : c.turns.modules.items ≡ [] = none_of c.turns.modules.items (first_of (search rules, grind (arith, common_steps))) in
    let none : m.subs.items ≡ [] = none_of m.subs.items (first_of (search rules, grind (arith, common_steps))) in
    let read : next_module library c.turns.names ts ≡ Ok (said m.draft m.subs.items, us) = ap (λ (cells : List Cell). next_module cells c.turns.names ts) (sym c.turns.invariant.library) ∙ c.in_ok-said.ensures.read in
    let end : sees kind.End us ≡ true = sym c.sees-ended.ensures.value ∙ c.if-ended.true in
    first_read library c.turns.names m.draft m.subs.items c.args.tokens.now ts us (c.turns.invariant.first first) none read end

pub returns-in_err-said : goal.returns-in_err-said
unfolding modules_from
returns-in_err-said c =
    let e = one_more (λ n. modules_from n c.args.text.now c.args.cells.now c.turns.names c.turns.modules.items c.turns.tokens) _ c.turns._turn c.turns-test.true c.turns.invariant.same in
    first_of (search rules, grind (arith, common_steps))

pub returns-in_err-push-clause-read : goal.returns-in_err-push-clause-read
returns-in_err-push-clause-read c =
    reads_none (modules_in c.args.text.now) (modules_from (left c.args.tokens.now) c.args.text.now c.args.cells.now [] [] c.args.tokens.now) c.from_residual-in_err-push.result c.next_module.new.tokens
    c.from_residual-in_err-push.ensures.1

pub turns-preserved : goal.turns-preserved
turns-preserved c =
    let text = c.args.text.now in
    let library : List Cell = c.args.cells.now in
    let ts : List Token = c.turns.tokens in
    let us : List Token = c.next_module.new.tokens in
    let m : Said = said c.in_ok-said.said.draft c.in_ok-said.said.subs.items in
    let made : Module = c.in_ok-made.made in
    let before : List Module = c.turns.modules.items in
    let read : next_module library c.turns.names ts ≡ Ok (m, us) = ap (λ (cells : List Cell). next_module cells c.turns.names ts) (sym c.turns.invariant.library) ∙ c.in_ok-said.ensures.read in
    let pushed : c.push.new.self.items ≡ before ++ made ∷ [] = c.in_ok-push.ensures.items in
    let goes : sees kind.End us ≡ false = sym c.sees-ended.ensures.value ∙ c.if-ended-2.false in
    record {
      same = one_more (λ n. modules_from n text library c.turns.names before ts) _ c.turns._turn c.turns-test.true c.turns.invariant.same
          ∙ modules_more _ text library c.turns.names c.next_module.new.names before c.push.new.self.items m made ts us read c.in_ok-made.ensures.said pushed c.in_ok-said.ensures.names goes;
      library = c.into_library-library.ensures ∙ c.in_ok-said.ensures.library ∙ c.turns.invariant.library;
      passed = c.in_ok-made.ensures.passed;
      first = λ none. absurd (pushed_some before made (sym pushed ∙ none));
    }

pub returns : goal.returns
unfolding modules_from
returns c =
    let e = no_more (λ n. modules_from n c.args.text.now c.args.cells.now c.turns.names c.turns.modules.items c.turns.tokens) _ c.turns._turn c.turns-test.false c.turns.invariant.same in
    first_of (search rules, grind (arith, common_steps))
