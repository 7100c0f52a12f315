use Rattle.std.proofs.Common.{◌≡◌, ◌∙◌, ◌≤◌, ℕ, List, ap, length, subst}
use Rattle.std.specs.Prelude.{IfErr}
use Rattle.std.proofs.lemmas.Result.{IfOk-weaker}
use Rattle.dft_config_out.specs.Written.{config_of, made_text}
use Rattle.dft_configuring.specs.declared.reading.Written.{Written}
use Rattle.dft_configuring.specs.Causes.{IsLong}
use Rattle.dft_configuring.specs.Rooted.{rooted, rooted_text}
use Rattle.dft_configuring.specs.Steps.{IsWritten}
use Rattle.dft_configuring.proofs.Writable.{rooted_writable}
use Rattle.dft_configuring.proofs.checking.write_rooted.Goals as goal

pub write_made-requires : goal.write_made-requires
write_made-requires c = rw c.in_ok-made.ensures (rooted_writable c.args.design.now c.args.chains c.soundness.ensures.netlist c.requires.some c.requires.chains)

pub returns-clause-config : goal.returns-clause-config
returns-clause-config c =
    IfOk-weaker c.write_made.result (IsWritten c.args.cells c.in_ok-made.made) (λ (written : Written). written.config ≡ rooted c.args.design.now c.args.chains)
    (λ written is. is.config ∙ ap config_of c.in_ok-made.ensures) c.write_made.ensures.written

pub returns-clause-short : goal.returns-clause-short
returns-clause-short c =
    let same : made_text c.args.cells c.in_ok-made.made ≡ rooted_text c.args.design.now c.args.chains = (λ i. made_text (c.requires.cells i) (c.in_ok-made.ensures i)) in
    IfOk-weaker c.write_made.result (IsWritten c.args.cells c.in_ok-made.made) (λ (written : Written). length (rooted_text c.args.design.now c.args.chains) ≤ 67108864)
    (λ written is. subst (λ (l : List ℕ). length l ≤ 67108864) (is.text ∙ same) is.short) c.write_made.ensures.written

pub returns-clause-refused : goal.returns-clause-refused
returns-clause-refused c =
    let same : made_text c.args.cells c.in_ok-made.made ≡ rooted_text c.args.design.now c.args.chains = (λ i. made_text (c.requires.cells i) (c.in_ok-made.ensures i)) in
    subst (λ (l : List ℕ). IfErr c.write_made.result (IsLong l)) same c.write_made.ensures.refused
