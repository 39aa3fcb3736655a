-- `start` keeps what stands, as its lanes decide.
use Rattle.desk.specs.Lent.{lent_table}
use Rattle.desk.proofs.Tested.{lanes_long}
use Rattle.desk.proofs.Starts.{starts_standing, starts_stood}
use Rattle.desk.proofs.table.Standing.start.Goals as goal

pub start_lane-requires : goal.start_lane-requires
start_lane-requires c = lanes_long _ (lent_table c.args.self.now) c.args.self.now.stood

pub invariant_of-self : goal.invariant_of-self
invariant_of-self c = record { stood = starts_stood _ (lent_table c.args.self.now) _ _ _ _ c.args.self.now.stood (c.start_lane.ensures _ _ _) }

pub returns-clause-call : goal.returns-clause-call
returns-clause-call c = starts_standing _ (lent_table c.args.self.now) _ _ _ _ c.args.self.now.stood (c.start_lane.ensures _ _ _)
