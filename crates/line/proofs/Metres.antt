-- The metres of blocks one after the other are those of a part of the plan, whichever way they are counted.
use Rattle.std.proofs.Common.{◌≡◌, ℕ, zero, suc, ◌+◌, ◌-◌, ◌≤◌, List, length, get_or, take, drop}
use Rattle.std.proofs.Common.{sum_by, sym, refl, ap, ◌∙◌, add-one, arith, length-drop}
use Rattle.std.proofs.lemmas.List.{get_or-drop, at_drop_more}
use Rattle.std.proofs.lemmas.List.Sums.{sum_by-cons, sum_by_more}
use Rattle.std.proofs.lemmas.Bool.{le-leb, cond-true}
use Rattle.rules.specs.Lines.{Line, blocks}
use Rattle.rules.specs.Signals.{metres_from, metres_of_entry, metres_at, count_at}
use Rattle.rules.specs.declared.line.PlanEntry.{PlanEntry}
use Rattle.rules.specs.declared.line.Station.{Station}
use Rattle.rules.specs.declared.line.Station.TheVariants.{EndA, EndB}
use Rattle.line.specs.Parts.{part_start}

abbrev pub metres_sum : List PlanEntry → ℕ
metres_sum plan = sum_by (λ entry. entry.metres) plan

abbrev pub no_entry : PlanEntry
no_entry = record { name = 0; metres = 0 }

metres_from_a : (line : Line) (d i c : ℕ) → i + 1 ≡ d → i + c ≤ length line.plan
    → metres_from line EndA d c ≡ metres_sum (take c (drop i line.plan))
metres_from_a line d i zero at within = refl
metres_from_a line d i (suc c) at within =
    let plan = line.plan in
    let here : d - 1 ≡ i = omega arith in
    let next : d + 1 ≡ i + 1 + 1 = omega arith in
    let rest = metres_from_a line (d + 1) (i + 1) c (sym next) (omega arith) in
    let front : metres_sum (take (suc c) (drop i plan))
    ≡ metres_of_entry line i + metres_sum (take c (drop (i + 1) plan)) =
    at_drop_more (λ part. metres_sum (take (suc c) part)) plan i no_entry (omega arith)
    ∙ sum_by-cons (λ entry. entry.metres) (get_or plan i no_entry) (take c (drop (i + 1) plan)) in
    rw here (omega (arith, rest, front))

metres_from_b : (line : Line) (d i c : ℕ) → i + c + d ≡ blocks line + 1 → i + c ≤ length line.plan
    → metres_from line EndB d c ≡ metres_sum (take c (drop i line.plan))
metres_from_b line d i zero at within = refl
metres_from_b line d i (suc c) at within =
    let plan = line.plan in
    let last : ((blocks line + 1) - d) - 1 ≡ i + c = omega arith in
    let rest = metres_from_b line (d + 1) i c (omega arith) (omega arith) in
    let back : metres_sum (take (c + 1) (drop i plan))
    ≡ metres_sum (take c (drop i plan)) + metres_of_entry line (i + c) =
    sum_by_more (λ entry. entry.metres) (drop i plan) c no_entry (omega (arith, length-drop i plan))
    ∙ ap (λ entry. metres_sum (take c (drop i plan)) + entry.metres) (get_or-drop i plan c no_entry) in
    rw last (omega (arith, rest, rw add-one at back))

pub metres_of_part : (line : Line) (station : Station) (d c : ℕ) → 1 ≤ d → c + d ≤ blocks line + 1
    → blocks line ≤ length line.plan
    → metres_from line station d c ≡ metres_sum (take c (drop (part_start (blocks line) station d c) line.plan))
metres_of_part line EndA d c low high long = metres_from_a line d (d - 1) c (omega arith) (omega arith)
metres_of_part line EndB d c low high long =
    metres_from_b line d (((blocks line + 1) - d) - c) c (omega arith) (omega arith)

-- the metres of a signal before a block, and of a home that is cleared
pub metres_before_block : (line : Line) (station : Station) (d : ℕ) → d ≤ blocks line
    → metres_at line station d ≡ metres_from line station d (count_at line station d)
metres_before_block line station d short = cond-true _ _ _ (le-leb d (blocks line) short)
