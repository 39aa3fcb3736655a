-- `step` is its definition, one law of `Steps` for each way through it; what stands gives what the step of a lane asks.
use Rattle.desk.specs.Lent.{lent_table}
use Rattle.desk.proofs.Steps.{lane_long, step_fits, steps_stood, steps_nowhere, steps_idle, steps_lane}
use Rattle.desk.proofs.table.Standing.step.Goals as goal

pub returns-then-self-j-clause-call : goal.returns-then-self-j-clause-call
returns-then-self-j-clause-call c = search steps_nowhere

pub lane_at-requires : goal.lane_at-requires
lane_at-requires c = lane_long _ (lent_table c.args.self.now) _ c.args.byte c.args.self.now.stood c.if-self-j.false

pub returns-in-Idle-clause-call : goal.returns-in-Idle-clause-call
returns-in-Idle-clause-call c = search steps_idle

pub move_lane-moved-requires : goal.move_lane-moved-requires
move_lane-moved-requires c = search step_fits

pub set_lane-requires : goal.set_lane-requires
set_lane-requires c = lane_long _ (lent_table c.args.self.now) _ c.args.byte c.args.self.now.stood c.if-self-j.false

pub invariant_of-self-in-Busy : goal.invariant_of-self-in-Busy
invariant_of-self-in-Busy c =
    record {
      stood =
          steps_stood _ (lent_table c.args.self.now) c.args.j c.args.byte _ _ c.args.self.now.stood
          (steps_lane _ (lent_table c.args.self.now) c.args.j c.args.byte c.args.self.now.stood c.if-self-j.false _ c.lane_at.ensures _ c.in-Busy.is _ _ _ _ _ c.move_lane-moved.ensures c.set_lane.ensures);
    }

pub returns-in-Busy-clause-call : goal.returns-in-Busy-clause-call
returns-in-Busy-clause-call c = search steps_lane
