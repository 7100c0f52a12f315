-- The net of scan enables is asked, or nothing is known of it.
use Rattle.std.proofs.Common.{inl}
use Rattle.dft_fault_lanes.proofs.grouping.settle_by.Goals as goal

pub returns-clause-unknown : goal.returns-clause-unknown
returns-clause-unknown c = λ none lane within. inl none

pub settle_plan-requires-clause-room : goal.settle_plan-requires-clause-room
settle_plan-requires-clause-room c = c.requires.plan.room

pub settle_plan-requires-clause-ordered : goal.settle_plan-requires-clause-ordered
settle_plan-requires-clause-ordered c = c.requires.plan.ordered

pub settle_plan-requires-clause-listed : goal.settle_plan-requires-clause-listed
settle_plan-requires-clause-listed c = c.requires.plan.listed
