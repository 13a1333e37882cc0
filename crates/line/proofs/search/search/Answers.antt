use Rattle.std.proofs.Common.{◌∙◌}
use Rattle.std.proofs.lemmas.Bool.{ne_eqb}
use Rattle.line.proofs.Searching.{first_place}
use Rattle.line.proofs.search.search.Goals as goal

pub returns-clause-found : goal.returns-clause-found
returns-clause-found g c =
    rw (ne_eqb c.args.number 0 c.if-number-eq0.false)
    (c.place_of.ensures.is ∙ first_place g.R.Numbered.borne c.args.number c.args.records.now)
