use Rattle.std.proofs.Common.{ℕ, ◌+◌, ◌-◌, rules, arith, ◌∙◌}
use Rattle.std.proofs.lemmas.Iterator.{YieldsList-from_range}
use Rattle.std.proofs.lemmas.Iterator.Consumers.{count_from_yields_List}
use Rattle.std.proofs.lemmas.Iterator.Search.{YieldsList-from_take_while}
use Rattle.std.proofs.lemmas.List.Folds.{length-prefix_len}
use Rattle.rules.specs.Lines.{blocks, clear}
use Rattle.rules.specs.Stations.{place_from}
use Rattle.line.specs.Worlds.{world}
use Rattle.line.proofs.Clear.{run_counted}
use Rattle.line.proofs.Line.run_ahead.Goals as goal

pub returns : goal.returns
returns g c =
    let at = c.args.at in
    let line = world g.T.Track.cells c.args.self.now in
    let is_clear = λ (k : ℕ). clear line (place_from (blocks line) at.station k) in
    let n = (blocks line + 1) - at.distance in
    let asked = c.take_while.ensures in
    count_from_yields_List _ c.count.result c.count.ensures.ran
    (YieldsList-from_take_while _ is_clear
    (YieldsList-from_range at.distance _ n asked.source (omega arith))
    asked.closure asked.done (λ x b q k. search rules))
    ∙ length-prefix_len is_clear _
    ∙ run_counted line at.station at.distance n
