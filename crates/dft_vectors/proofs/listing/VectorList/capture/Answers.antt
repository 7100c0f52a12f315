-- Two capture vectors, or one.
use Rattle.dft_vectors.proofs.listing.VectorList.capture.Goals as goal

pub returns-in-Some : goal.returns-in-Some
returns-in-Some c = rw c.in-Some.is (rw c.as_slice-outputs.ensures at c.two_captures.ensures)

pub returns-in-None : goal.returns-in-None
returns-in-None c = rw c.in-None.is (rw c.as_slice-outputs.ensures at c.one_capture.ensures)
