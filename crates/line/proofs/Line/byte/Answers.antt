use Rattle.std.proofs.Common.{◌≡◌, arith}
use Rattle.line.proofs.Line.byte.Goals as goal

pub returns-in_default : goal.returns-in_default
returns-in_default g c =
    let last : c.args.at ≡ 65 = omega arith in
    rw last c.lock_lamp-in_default.ensures
