use Rattle.std.proofs.Common.{rules, sym, refl}
use Rattle.std.proofs.lemmas.Bool.{ne_eqb}
use Rattle.line.specs.Worlds.{world}
use Rattle.line.proofs.Running.{not_running, is_running}
use Rattle.line.proofs.Line.check_advance.Goals as goal

pub returns-in_err-index-clause-row : goal.returns-in_err-index-clause-row
returns-in_err-index-clause-row g c =
    not_running (world g.T.Track.cells c.args.self.now) c.args.number _ _ c.from_residual.ensures.1
    c.in_err-index.ensures.row

pub returns-then-train-blocks-clause-row : goal.returns-then-train-blocks-clause-row
returns-then-train-blocks-clause-row g c =
    let met = is_running (world g.T.Track.cells c.args.self.now) c.args.number _ _ c.in_ok-index.ensures.row in
    search rules

pub returns-then-at_stop-clause-row : goal.returns-then-at_stop-clause-row
returns-then-at_stop-clause-row g c =
    let met = is_running (world g.T.Track.cells c.args.self.now) c.args.number _ _ c.in_ok-index.ensures.row in
    let going = ne_eqb _ _ (rw c.blocks-2.ensures.is at c.if-train-blocks.false) in
    rw (met.0, met.1, sym met.3, going, sym c.if-at_stop.ensures) refl

pub returns-clause-row : goal.returns-clause-row
returns-clause-row g c =
    let met = is_running (world g.T.Track.cells c.args.self.now) c.args.number _ _ c.in_ok-index.ensures.row in
    let going = ne_eqb _ _ (rw c.blocks-2.ensures.is at c.if-train-blocks.false) in
    rw (met.0, met.1, sym met.3, going, sym c.if-at_stop.ensures) (search rules)
