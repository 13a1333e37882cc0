use Rattle.std.proofs.Common.{is_err, refl, ap, ◌∙◌}
use Rattle.rules.specs.Panels.{flag}
use Rattle.line.proofs.Exits.{error_where_a_row}
use Rattle.line.proofs.PaintedBytes.{lit_by}
use Rattle.line.proofs.Line.lock_lamp.Goals as goal

pub returns : goal.returns
returns g c =
    c.from-2.ensures
    ∙ lit_by _
    ∙ ap flag (c.is_err.ensures.value ∙ ap is_err c.check_direction.ensures ∙ error_where_a_row _ _)
    ∙ rw (c.from.ensures, c.number.ensures, c.levers-over.ensures.is) refl
