use Rattle.std.proofs.Common.{ℕ, eqb, rules, refl, ◌∙◌}
use Rattle.std.proofs.lemmas.Iterator.Search.{all_from_yields_List}
use Rattle.rules.specs.Calls.{all_vacant}
use Rattle.rules.specs.Lines.{state_at}
use Rattle.track.specs.Cells.{reads_vacant}
use Rattle.line.specs.Worlds.{world}
use Rattle.line.proofs.Ranges.{YieldsList-from_inclusive, all_down}
use Rattle.line.proofs.Line.all_vacant.Goals as goal

pub returns : goal.returns
returns g c =
    let line = world g.T.Track.cells c.args.self.now in
    let vacant = λ (section : ℕ). eqb (state_at line section) 0 in
    let cells = g.T.Track.cells c.args.self.now.track in
    let range = c.new.ensures in
    all_from_yields_List (reads_vacant cells) _ _ c.all.result c.all.ensures.ran
    (YieldsList-from_inclusive 1 24 24 range.start range.end range.exhausted refl) (λ x b q k. search rules)
    ∙ all_down vacant (all_vacant line) refl (λ n. refl) 24
