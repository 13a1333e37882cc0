use Rattle.std.proofs.Common.{rules, ◌∙◌, refl, arith}
use Rattle.std.proofs.lemmas.Iterator.Search.{all_from_yields_List}
use Rattle.std.proofs.lemmas.Iterator.{YieldsList-from_range}
use Rattle.rules.specs.Calls.{all_clear}
use Rattle.rules.specs.Lines.{blocks, clear}
use Rattle.line.specs.Worlds.{world}
use Rattle.line.proofs.Ranges.{all_down}
use Rattle.line.proofs.Line.line_clear.Goals as goal

pub returns : goal.returns
returns g c =
    let line = world g.T.Track.cells c.args.self.now in
    all_from_yields_List (clear line) _ _ c.all.result c.all.ensures.ran
    (YieldsList-from_range 1 _ (blocks line) refl (omega arith))
    (λ x b q k. search rules)
    ∙ all_down (clear line) (all_clear line) refl (λ n. refl) (blocks line)
