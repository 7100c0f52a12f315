use Rattle.dft_scan_frame.proofs.EmptyFrames.{memory_alone}
use Rattle.dft_insert.proofs.insertion.finish.Goals as goal

pub memory-requires : goal.memory-requires
memory-requires c = memory_alone c.args.builder c.in-Err.error c.requires c.in-Err.ensures.refused
