-- No two trains bear one number, so that the search by number finds each where it stands.
use Rattle.std.proofs.Common.{◌≡◌, ℕ, zero, suc, ◌+◌, ◌<◌, ◌≤◌, true, false, eqb, List, [], ◌∷◌, ◌++◌, length, get_or}
use Rattle.std.proofs.Common.{take, drop, set, is_some, Some, sym, refl, ap, ◌∙◌, inl, inr, add-zero, add-one, arith}
use Rattle.std.proofs.ByRecursion.{All-append, All-take, All-drop, All-get_or}
use Rattle.std.proofs.lemmas.Bool.{cases_Bool, eq-eqb, ne_eqb, eqb-false, both_ways}
use Rattle.std.specs.List.{AllByRecursion}
use Rattle.rules.specs.Calls.{no_train, train_index}
use Rattle.rules.specs.Lines.{Line}
use Rattle.rules.specs.Searches.{first_index, search_by}
use Rattle.rules.specs.declared.line.Train.{Train}

abbrev number_of : Train → ℕ
number_of train = train.number

-- a train's number is none of those in a list
abbrev pub Unlike : ℕ → Train → Type 0
Unlike number train = train.number ≡ number → ⊥

abbrev pub Distinct : List Train → Type 0
Distinct [] = Unit {0}
Distinct (train ∷ trains) = (1 ≤ train.number) × AllByRecursion (Unlike train.number) trains × Distinct trains

-- none of that number is found
not_found : (number index : ℕ) (trains : List Train) → is_some (first_index number_of number index trains) ≡ false
    → AllByRecursion (Unlike number) trains
not_found number index [] h = tt
not_found number index (train ∷ trains) h =
    elim (cases_Bool (eqb train.number number)) [
      | inl e ↦ absurd (both_ways true (rw e at h) refl)
      | inr e ↦ (eqb-false _ _ e, not_found number (index + 1) trains (rw e at h))
    ]

pub put_on_distinct : (trains : List Train) (new : Train) → 1 ≤ new.number
    → is_some (search_by number_of new.number trains) ≡ false → Distinct trains → Distinct (trains ++ new ∷ [])
put_on_distinct trains new low absent distinct = push trains (not_found new.number 0 trains found) distinct where
  found : is_some (first_index number_of new.number 0 trains) ≡ false
  found = rw (ne_eqb new.number 0 (λ e. omega arith)) at absent

  push : (rest : List Train) → AllByRecursion (Unlike new.number) rest → Distinct rest → Distinct (rest ++ new ∷ [])
  push [] unlike d = (low, tt, tt)
  push (train ∷ rest) unlike d = (
    d.0,
    All-append (Unlike train.number) rest (new
        ∷ []) d.1 ((λ e. unlike.0 (sym e)), tt),
    push rest unlike.1 d.2,
  )

removed_at : (trains : List Train) (i : ℕ) → Distinct trains → Distinct (take i trains ++ drop (suc i) trains)
removed_at [] zero d = tt
removed_at [] (suc i) d = tt
removed_at (train ∷ trains) zero d = d.2
removed_at (train ∷ trains) (suc i) d = (
  d.0,
  All-append (Unlike train.number) (take i trains) (drop (suc i) trains)
      (All-take (Unlike train.number) i trains d.1) (All-drop (Unlike train.number) (suc i) trains d.1),
  removed_at trains i d.2,
)

pub removed_distinct : (trains : List Train) (i : ℕ) → Distinct trains
    → Distinct (take i trains ++ drop (i + 1) trains)
removed_distinct trains i d = rw (add-one i) (removed_at trains i d)

unlike_set : (number : ℕ) (trains : List Train) (i : ℕ) (new : Train) → new.number ≡ (get_or trains i no_train).number
    → AllByRecursion (Unlike number) trains → AllByRecursion (Unlike number) (set trains i new)
unlike_set number [] zero new same unlike = tt
unlike_set number [] (suc i) new same unlike = tt
unlike_set number (train ∷ trains) zero new same unlike = ((λ e. unlike.0 (sym same ∙ e)), unlike.1)
unlike_set number (train ∷ trains) (suc i) new same unlike =
    (unlike.0, unlike_set number trains i new same unlike.1)

-- a train that keeps its number in the place of itself
pub set_distinct : (trains : List Train) (i : ℕ) (new : Train) → new.number ≡ (get_or trains i no_train).number
    → Distinct trains → Distinct (set trains i new)
set_distinct [] zero new same d = tt
set_distinct [] (suc i) new same d = tt
set_distinct (train ∷ trains) zero new same d = rw same (d.0, d.1, d.2)
set_distinct (train ∷ trains) (suc i) new same d =
    (d.0, unlike_set train.number trains i new same d.1, set_distinct trains i new same d.2)

-- each is found where it stands
found_from : (trains : List Train) (i index : ℕ) → i < length trains → Distinct trains
    → first_index number_of (get_or trains i no_train).number index trains ≡ Some (index + i)
found_from [] i index h d = absurd (omega arith)
found_from (train ∷ trains) zero index h d =
    rw (eq-eqb train.number train.number refl) (ap Some (sym (add-zero index)))
found_from (train ∷ trains) (suc i) index h d =
    let below : i < length trains = omega arith in
    let other = All-get_or (Unlike train.number) trains i no_train below d.1 in
    let shift : index + 1 + i ≡ index + suc i = omega arith in
    rw (ne_eqb train.number (get_or trains i no_train).number (λ e. other (sym e)))
    (found_from trains i (index + 1) below d.2 ∙ ap Some shift)

above_0 : (trains : List Train) (i : ℕ) → i < length trains → Distinct trains → 1 ≤ (get_or trains i no_train).number
above_0 [] i h d = absurd (omega arith)
above_0 (train ∷ trains) zero h d = d.0
above_0 (train ∷ trains) (suc i) h d = above_0 trains i (omega arith) d.2

pub found_there : (line : Line) (i : ℕ) → i < length line.trains → Distinct line.trains
    → train_index line (get_or line.trains i no_train).number ≡ Some i
found_there line i h d =
    let low = above_0 line.trains i h d in
    rw (ne_eqb (get_or line.trains i no_train).number 0 (λ e. omega arith))
    (found_from line.trains i 0 h d ∙ ap Some (omega arith))
