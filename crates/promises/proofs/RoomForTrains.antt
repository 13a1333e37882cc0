-- Never more trains than sections in use: each stands in one of them, and none in another's.
use Rattle.std.proofs.Common.{◌≡◌, ℕ, ◌+◌, ◌-◌, ◌<◌, ◌≤◌, true, List, [], ◌∷◌, ◌++◌, length, get_or, sum_by, sym}
use Rattle.std.proofs.Common.{refl, ap, ◌∙◌, inl, inr, arith}
use Rattle.std.proofs.lemmas.List.FromFn.{length-range_with_len, get_or-range_with_len}
use Rattle.std.proofs.ByRecursion.{All-from_get_or, All-weaker, sum_by_le}
use Rattle.std.proofs.lemmas.List.{length-append, get_or_append_left, get_or-append_right}
use Rattle.std.proofs.lemmas.List.Sums.{sum_by-cons, get_or-le-sum_by}
use Rattle.std.proofs.lemmas.Bool.{cases_lt}
use Rattle.std.specs.List.{range_with_len, AllByRecursion}
use Rattle.rules.specs.Detection.{legal_section}
use Rattle.rules.specs.LineRuns.{after_all}
use Rattle.rules.specs.Lines.{Line, new_line, blocks, roads, section_of}
use Rattle.rules.specs.Stations.{road_section}
use Rattle.rules.specs.declared.line.Station.{Station}
use Rattle.rules.specs.declared.line.Station.TheVariants.{EndA, EndB}
use Rattle.rules.specs.declared.line.Train.{Train}
use Rattle.promises.specs.Promises.{Room}
use Rattle.promises.proofs.Always.{always}
use Rattle.promises.specs.Sound.{Fits, Limits, Sound, times, total}
use Rattle.promises.proofs.Fits.{in_block, block_bounds, is_legal}
use Rattle.promises.proofs.Sound.{stands_between}

-- sums over trains and over sections, in either order
sum_same : {X : Type 0} (f g : X → ℕ) → ((x : X) → f x ≡ g x) → (xs : List X) → sum_by f xs ≡ sum_by g xs
sum_same f g same [] = refl
sum_same f g same (x ∷ xs) = omega (arith, sum_by-cons f x xs, sum_by-cons g x xs, same x, sum_same f g same xs)

sum_none : {X : Type 0} (xs : List X) → sum_by (λ x. 0) xs ≡ 0
sum_none [] = refl
sum_none (x ∷ xs) = omega (arith, sum_by-cons (λ y. 0) x xs, sum_none xs)

sum_both : {X : Type 0} (f g : X → ℕ) (xs : List X) → sum_by (λ x. f x + g x) xs ≡ sum_by f xs + sum_by g xs
sum_both f g [] = refl
sum_both f g (x ∷ xs) =
    omega (arith, sum_by-cons (λ y. f y + g y) x xs, sum_by-cons f x xs, sum_by-cons g x xs, sum_both f g xs)

either_order : (n : ℕ) (sections : List ℕ) (trains : List Train)
    → sum_by (λ s. total n s trains) sections ≡ sum_by (λ t. sum_by (λ s. times n s t) sections) trains
either_order n [] trains = sym (sum_none trains)
either_order n (s ∷ sections) trains =
    sum_by-cons (λ r. total n r trains) s sections
    ∙ ap (λ x. total n s trains + x) (either_order n sections trains)
    ∙ sym (sum_both (times n s) (λ t. sum_by (λ r. times n r t) sections) trains)
    ∙ sum_same _ _ (λ t. sym (sum_by-cons (λ r. times n r t) s sections)) trains

at_least_one_each : (g : Train → ℕ) (trains : List Train) → AllByRecursion (λ t. 1 ≤ g t) trains
    → length trains ≤ sum_by g trains
at_least_one_each g [] all = omega arith
at_least_one_each g (t ∷ trains) all =
    omega (arith, sum_by-cons g t trains, all.0, at_least_one_each g trains all.1)

-- the sections in use
abbrev used : ℕ → ℕ → ℕ → List ℕ
used n a b = range_with_len 1 n ++ (range_with_len 17 a ++ range_with_len 21 b)

used_length : (n a b : ℕ) → length (used n a b) ≡ n + a + b
used_length n a b =
    simp (length-append, length-range_with_len) (omega arith)

used_block : (n a b k : ℕ) → k < n → get_or (used n a b) k 0 ≡ 1 + k
used_block n a b k h =
    get_or_append_left (range_with_len 1 n) (range_with_len 17 a ++ range_with_len 21 b) 0 k
    (omega (arith, length-range_with_len 1 n))
    ∙ get_or-range_with_len 1 n k 0 h

used_road_a : (n a b k : ℕ) → k < a → get_or (used n a b) (n + k) 0 ≡ 17 + k
used_road_a n a b k h =
    let back : (n + k) - n ≡ k = omega arith in
    get_or-append_right (range_with_len 1 n) (range_with_len 17 a ++ range_with_len 21 b) n (n + k) 0
    (length-range_with_len 1 n) (omega arith)
    ∙ ap (λ i. get_or (range_with_len 17 a ++ range_with_len 21 b) i 0) back
    ∙ get_or_append_left (range_with_len 17 a) (range_with_len 21 b) 0 k (omega (arith, length-range_with_len 17 a))
    ∙ get_or-range_with_len 17 a k 0 h

used_road_b : (n a b k : ℕ) → k < b → get_or (used n a b) (n + a + k) 0 ≡ 21 + k
used_road_b n a b k h =
    let back : (n + a + k) - n ≡ a + k = omega arith in
    let again : (a + k) - a ≡ k = omega arith in
    get_or-append_right (range_with_len 1 n) (range_with_len 17 a ++ range_with_len 21 b) n (n + a + k) 0
    (length-range_with_len 1 n)
    (omega arith)
    ∙ ap (λ i. get_or (range_with_len 17 a ++ range_with_len 21 b) i 0) back
    ∙ get_or-append_right (range_with_len 17 a) (range_with_len 21 b) a (a + k) 0 (length-range_with_len 17 a)
    (omega arith)
    ∙ ap (λ i. get_or (range_with_len 21 b) i 0) again
    ∙ get_or-range_with_len 21 b k 0 h

-- an index of the list of sections in use
abbrev At : ℕ → ℕ → ℕ → ℕ → Type 0
At n a b s = (k : ℕ) × (k < n + a + b) × (get_or (used n a b) k 0 ≡ s)

block_used : (n a b s : ℕ) → 1 ≤ s → s ≤ n → At n a b s
block_used n a b s low high =
    let back : 1 + (s - 1) ≡ s = omega arith in
    (s - 1, omega arith, used_block n a b (s - 1) (omega arith) ∙ back)

road_used : (n : ℕ) (roads : Station → ℕ) (station : Station) (road : ℕ) → 1 ≤ road → road ≤ roads station
    → At n (roads EndA) (roads EndB) (road_section station road)
road_used n roads EndA road low high =
    let back : 17 + (road - 1) ≡ 16 + road = omega arith in
    (n + (road - 1), omega arith, used_road_a n (roads EndA) (roads EndB) (road - 1) (omega arith) ∙ back)
road_used n roads EndB road low high =
    let back : 21 + (road - 1) ≡ 20 + road = omega arith in
    (n + roads EndA + (road - 1), omega arith, used_road_b n (roads EndA) (roads EndB) (road - 1) (omega arith) ∙ back)

-- a train's rear stands in a section in use
rear_used : (n : ℕ) (roads : Station → ℕ) (train : Train) → Fits n roads train
    → At n (roads EndA) (roads EndB) (section_of n train train.rear)
rear_used n roads train fit =
    elim (cases_lt train.rear 1) [
      | inl road ↦
          let here : train.rear ≡ 0 = omega arith in
          rw here (road_used n roads train.from train.road fit.road_low fit.road_high)
      | inr on ↦
          let bounds = block_bounds n train.rear train.from on fit.rear_out in
          rw (in_block n train train.rear on fit.rear_out)
          (block_used n (roads EndA) (roads EndB) _ bounds.0 bounds.1)
    ]

stands_somewhere : (n : ℕ) (roads : Station → ℕ) (train : Train) → Fits n roads train
    → 1 ≤ sum_by (λ s. times n s train) (used n (roads EndA) (roads EndB))
stands_somewhere n roads train fit =
    let sections = used n (roads EndA) (roads EndB) in
    let at = rear_used n roads train fit in
    let within : at.0 < length sections = omega (arith, used_length n (roads EndA) (roads EndB), at.1) in
    let here = stands_between n train train.rear (omega arith) fit.behind in
    omega (arith, here, rw at.2 at (get_or-le-sum_by (λ s. times n s train) sections at.0 0 within))

used_legal : (n : ℕ) (roads : Station → ℕ) → Limits n roads → (k : ℕ) → k < length (used n (roads EndA) (roads EndB))
    → legal_section (get_or (used n (roads EndA) (roads EndB)) k 0) ≡ true
used_legal n roads limits k in_list =
    let a = roads EndA in
    let b = roads EndB in
    let few_a = limits.few EndA in
    let few_b = limits.few EndB in
    let long = used_length n a b in
    elim (cases_lt k n) [
      | inl block ↦ rw (used_block n a b k block) (is_legal (1 + k) (omega arith) (omega (arith, limits.most)))
      | inr past ↦ elim (cases_lt k (n + a)) [
        | inl road_a ↦
            let back : n + (k - n) ≡ k = omega arith in
            rw (sym back)
            (rw (used_road_a n a b (k - n) (omega arith)) (is_legal (17 + (k - n)) (omega arith) (omega arith)))
        | inr road_b ↦
            let back : n + a + (k - (n + a)) ≡ k = omega arith in
            rw (sym back)
            (rw (used_road_b n a b (k - (n + a)) (omega arith))
            (is_legal (21 + (k - (n + a))) (omega arith) (omega arith)))
      ]
    ]

pub no_more_than_sections : (mark : ℕ → ℕ) (line : Line) → Sound mark line
    → length line.trains ≤ blocks line + roads line EndA + roads line EndB
no_more_than_sections mark line sound =
    let n = blocks line in
    let sections = used n (roads line EndA) (roads line EndB) in
    let each = at_least_one_each (λ t. sum_by (λ s. times n s t) sections) line.trains
    (All-weaker (Fits n (roads line)) (λ t. 1 ≤ sum_by (λ s. times n s t) sections)
    (stands_somewhere n (roads line)) line.trains sound.fits) in
    let most = sum_by_le (λ s. total n s line.trains) 1 sections
    (All-from_get_or (λ s. total n s line.trains ≤ 1) sections 0
    (λ k in_list. sound.agree.one _ (used_legal n (roads line) sound.limits k in_list))) in
    omega (
      arith,
      each,
      most,
      either_order n sections line.trains,
      used_length n (roads line EndA)
          (roads line EndB),
    )

pub room : Room
room shows lamps mark lawful cells sized calls =
    let line = after_all shows mark (new_line cells) calls in
    elim (always shows lamps mark lawful cells sized calls) [
      | inl blank ↦ rw blank.no_trains (omega arith, omega arith)
      | inr sound ↦
          let most = no_more_than_sections mark line sound in
          let limits = sound.limits in
          (most, omega (arith, limits.most, limits.few EndA, limits.few EndB))
    ]
