-- What a line keeps to is kept as its trains change.
use Rattle.std.proofs.Common.{◌≡◌, ℕ, ◌+◌, ◌<◌, Bool, true, ◌||◌, eqb, List}
use Rattle.std.proofs.Common.{◌++◌, length, take, drop, set, is_some, Some, Option}
use Rattle.std.proofs.Common.{refl, ◌∙◌, inl, inr, arith}
use Rattle.std.specs.List.{All, list_all}
use Rattle.std.proofs.lemmas.List.{length-set}
use Rattle.std.proofs.lemmas.List.Elements.{All-set, All-take, All-drop}
use Rattle.std.proofs.lemmas.List.Folds.{list_all-append}
use Rattle.std.proofs.lemmas.List.Sums.{AllPass-from_list_all, list_all-from_AllPass}
use Rattle.std.proofs.lemmas.Bool.{and_parts, and_from, or_cases, or_left, eqb-true}
use Rattle.rules.specs.Calls.{legal_plan, legal_entries, names_differ}
use Rattle.rules.specs.Lines.{Line, blocks, roads, roads_of}
use Rattle.rules.specs.Table.{within}
use Rattle.rules.specs.declared.line.Laying.{Laying}
use Rattle.rules.specs.declared.line.PlanEntry.{PlanEntry}
use Rattle.rules.specs.declared.line.Station.TheVariants.{EndA, EndB}
use Rattle.rules.specs.declared.line.Train.{Train}
use Rattle.line.specs.Keeping.{blocks_laid, train_kept, trains_kept, entry_kept, plan_kept}
use Rattle.line.proofs.Planned.{legal_kept}

-- what holds of each of a list holds of the list with one of them another, of two lists joined, and of either part
module _ {X : Type 0} (p : X → Bool) (xs : List X) (all : list_all p xs ≡ true) where
  abbrev passes : X → Type 0
  passes x = p x ≡ true

  abbrev each : All passes xs
  each = AllPass-from_list_all p xs all

  each_set : (i : ℕ) (y : X) → p y ≡ true → list_all p (set xs i y) ≡ true
  each_set i y new = list_all-from_AllPass p _ (All-set passes xs i y new each)

  each_join : (ys : List X) → list_all p ys ≡ true → list_all p (xs ++ ys) ≡ true
  each_join ys more = list_all-append p xs ys ∙ rw (all, more) refl

  pub each_part : (n : ℕ) → (list_all p (take n xs) ≡ true) × (list_all p (drop n xs) ≡ true)
  each_part n =
      (list_all-from_AllPass p _ (All-take passes n xs each), list_all-from_AllPass p _ (All-drop passes n xs each))

-- trains of a line, one of them another, one less
module _ (laying : Option Laying) (trains : List Train) (kept : trains_kept laying trains ≡ true) where
  abbrev n : ℕ
  n = blocks_laid laying

  parts : ((is_some laying || eqb (length trains) 0) ≡ true) × (list_all (train_kept n) trains ≡ true)
  parts = and_parts (is_some laying || eqb (length trains) 0) (list_all (train_kept n) trains) kept

  pub kept_put : (i : ℕ) (train : Train) → train_kept n train ≡ true → trains_kept laying (set trains i train) ≡ true
  kept_put i train new =
      and_from _ _ (rw (length-set trains i train) parts.0) (each_set (train_kept n) trains parts.1 i train new)

  pub kept_removed : (i : ℕ) → i < length trains → trains_kept laying (take i trains ++ drop (i + 1) trains) ≡ true
  kept_removed i within =
      and_from _ _ (elim (or_cases (is_some laying) (eqb (length trains) 0) parts.0) [
        | inl laid ↦ or_left _ _ laid
        | inr none ↦ absurd (omega (arith, eqb-true (length trains) 0 none))
      ])
      (each_join (train_kept n) (take i trains) (each_part (train_kept n) trains parts.1 i).0 (drop (i + 1) trains)
      (each_part (train_kept n) trains parts.1 (i + 1)).1)

-- the plan has an entry for each block, and every entry keeps to its limits
pub plan_parts : (line : Line) → plan_kept line.laying line.plan ≡ true
    → (length line.plan ≡ blocks line + roads line EndA + roads line EndB) × (list_all entry_kept line.plan ≡ true)
plan_parts line kept =
    let both = and_parts (eqb (length line.plan) (blocks line + roads line EndA + roads line EndB))
    (list_all entry_kept line.plan) kept in
    (eqb-true _ _ both.0, both.1)

-- a legal plan is one that a line keeps
pub plan_of_laying : (laying : Laying) (plan : List PlanEntry) → legal_plan laying plan ≡ true
    → plan_kept (Some laying) plan ≡ true
plan_of_laying laying plan entries =
    let names = and_parts _ (names_differ plan) entries in
    let parts = and_parts (eqb (length plan) (laying.blocks + roads_of laying EndA + roads_of laying EndB))
    (legal_entries plan) names.0 in
    and_from _ _ parts.0 (legal_kept plan parts.1)
