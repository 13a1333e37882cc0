-- A plan, entry by entry.
use Rattle.std.proofs.Common.{◌≡◌, true, List, [], ◌∷◌, refl, arith}
use Rattle.std.specs.List.{list_all}
use Rattle.std.proofs.lemmas.Bool.{and_parts, and_from, le-leb, lt-ltb}
use Rattle.rules.specs.Calls.{legal_entry, legal_entries}
use Rattle.rules.specs.Table.{within}
use Rattle.rules.specs.declared.line.PlanEntry.{PlanEntry}
use Rattle.line.specs.Keeping.{entry_kept}
use Rattle.promises.proofs.LayingCall.{within_limits}

-- a legal entry keeps to its limits
pub legal_kept : (plan : List PlanEntry) → legal_entries plan ≡ true → list_all entry_kept plan ≡ true
legal_kept [] all = refl
legal_kept (entry ∷ plan) all =
    let both = and_parts (legal_entry entry) (legal_entries plan) all in
    let limits = and_parts (within 1 9999 entry.name) (within 100 9999 entry.metres) both.0 in
    let name = within_limits 1 9999 entry.name limits.0 in
    let metres = within_limits 100 9999 entry.metres limits.1 in
    and_from _ _ (and_from _ _ (lt-ltb 0 entry.name (omega (arith, name.0))) (le-leb _ _ metres.1))
    (legal_kept plan both.1)
