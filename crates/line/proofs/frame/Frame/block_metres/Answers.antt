use Rattle.std.proofs.Common.{◌≡◌, ◌+◌, ◌-◌, drop, vec_items, sym, ◌∙◌, arith}
use Rattle.line.specs.Frames.{trackless}
use Rattle.line.specs.Keeping.{entry_kept}
use Rattle.line.proofs.Kept.{each_part, plan_parts}
use Rattle.line.proofs.Metres.{metres_of_part}
use Rattle.line.proofs.frame.Frame.block_metres.Goals as goal

pub sum_metres-requires-clause-kept : goal.sum_metres-requires-clause-kept
sum_metres-requires-clause-kept c =
    let start = c.part_start-start.result in
    let plan = vec_items c.args.self.now.plan in
    let all = (plan_parts (trackless c.args.self.now) c.args.self.now.planned).1 in
    rw c.as_slice-plan.ensures.value
    (each_part entry_kept (drop start plan) (each_part entry_kept plan all start).1 _).0

pub returns : goal.returns
returns c =
    let line = trackless c.args.self.now in
    let start = c.part_start-start.result in
    let count : (start + c.args.count) - start ≡ c.args.count = omega arith in
    let long = (plan_parts line c.args.self.now.planned).0 in
    c.sum_metres.ensures
    ∙ rw (count, c.as_slice-plan.ensures.value, c.part_start-start.ensures)
    (sym (metres_of_part line c.args.at.station c.args.at.distance c.args.count c.args.at.ahead c.requires
    (omega (arith, long))))
