use Rattle.std.proofs.Common.{ap}
use Rattle.std.proofs.lemmas.Result.{err_from_is_err_and}
use Rattle.line.proofs.Exits.{passed, not_answered, answered}
use Rattle.line.proofs.Line.signal.Goals as goal

pub returns-in_err-at : goal.returns-in_err-at
returns-in_err-at g c =
    let p = err_from_is_err_and c.from_residual.result c.from_residual.ensures.1 in
    rw (p.1, p.2) (not_answered _ _ _ _ c.in_err-at.ensures)

pub returns : goal.returns
returns g c =
    let met = passed _ _ _ c.in_ok-at.ensures in
    let station = ap (λ s. s.0) met.1 in
    let distance = ap (λ s. s.1) met.1 in
    rw (c.aspect_at.ensures, c.count_at.ensures, station, distance) (answered _ _ met.0)
