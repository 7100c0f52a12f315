-- The search by the tables.
use Rattle.std.proofs.Common.{sym, subst}
use Rattle.std.specs.Result.{IfOk}
use Rattle.dft_faults.specs.Faulty.{IsFault}
use Rattle.dft_seek.specs.Seeking.{Seeking, sought_by}
use Rattle.dft_seek.specs.Sought.{IsSought}
use Rattle.dft_seek.proofs.seeker.Seeker.seek.Goals as goal

pub seek-requires-clause-rig : goal.seek-requires-clause-rig
seek-requires-clause-rig c = c.self.invariant

pub seek-requires-clause-fault : goal.seek-requires-clause-fault
seek-requires-clause-fault c = subst (λ (s : Seeking). IsFault s.design c.args.fault) (sym c.self.view_is) c.requires

pub returns : goal.returns
returns c = subst (λ (s : Seeking). IfOk c.seek.result (IsSought (sought_by s c.args.fault) c.args.limit c.args.name)) c.self.view_is c.seek.ensures
