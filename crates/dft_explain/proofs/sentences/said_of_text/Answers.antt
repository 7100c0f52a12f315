use Rattle.dft_explain.proofs.sentences.said_of_text.Goals as goal

pub returns : goal.returns
returns c = c.said_in.ensures
