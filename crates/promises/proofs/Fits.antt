-- How each train fits the line, and what its sections are.
use Rattle.std.proofs.Common.{◌≡◌, ℕ, ◌+◌, ◌<◌, ◌≤◌, true, inl, inr, arith}
use Rattle.std.proofs.lemmas.Bool.{ne_eqb, le-leb, lt-leb, and_from, cases_lt}
use Rattle.rules.specs.Detection.{legal_section}
use Rattle.rules.specs.Lines.{section_of}
use Rattle.rules.specs.Stations.{place_from, road_section, other_end}
use Rattle.rules.specs.declared.line.Station.{Station}
use Rattle.rules.specs.declared.line.Station.TheVariants.{EndA, EndB}
use Rattle.rules.specs.declared.line.Train.{Train}
use Rattle.promises.specs.Sound.{Fits, Limits}

-- the three kinds of section that a train can hold
pub in_block : (n : ℕ) (train : Train) (d : ℕ) → 1 ≤ d → d ≤ n → section_of n train d ≡ place_from n train.from d
in_block n train d low high = rw (ne_eqb d 0 (λ e. omega arith), le-leb d n high)

pub in_far_road : (n : ℕ) (train : Train) (d : ℕ) → n < d
    → section_of n train d ≡ road_section (other_end train.from) train.into
in_far_road n train d past = rw (ne_eqb d 0 (λ e. omega arith), lt-leb d n past)

pub block_bounds : (n d : ℕ) (station : Station) → 1 ≤ d → d ≤ n
    → (1 ≤ place_from n station d) × (place_from n station d ≤ n)
block_bounds n d EndA low high = (low, high)
block_bounds n d EndB low high = (omega arith, omega arith)

pub above_16 : (station : Station) (road : ℕ) → 1 ≤ road → 16 < road_section station road
above_16 EndA road low = omega arith
above_16 EndB road low = omega arith

pub road_bounds : (station : Station) (road : ℕ) → 1 ≤ road → road ≤ 4
    → (17 ≤ road_section station road) × (road_section station road ≤ 24)
road_bounds EndA road low high = (omega arith, omega arith)
road_bounds EndB road low high = (omega arith, omega arith)

pub is_legal : (s : ℕ) → 1 ≤ s → s ≤ 24 → legal_section s ≡ true
is_legal s low high = and_from _ _ (le-leb 1 s low) (le-leb s 24 high)

-- every section that a train holds is one of the track's
pub sections_legal : (n : ℕ) (roads : Station → ℕ) (train : Train) → Limits n roads → Fits n roads train
    → (d : ℕ) → d ≤ train.front → legal_section (section_of n train d) ≡ true
sections_legal n roads train limits fits d to_front =
    elim (cases_lt d 1) [
      | inl road ↦
          let here : d ≡ 0 = omega arith in
          let high : train.road ≤ 4 = omega (arith, fits.road_high, limits.few train.from) in
          let bounds = road_bounds train.from train.road fits.road_low high in
          rw here (is_legal _ (omega (arith, bounds.0)) bounds.1)
      | inr on ↦ elim (cases_lt n d) [
        | inl far ↦
            let there : train.front ≡ n + 1 = omega (arith, fits.within) in
            let high : train.into ≤ 4 = omega (arith, fits.into_high, limits.few (other_end train.from)) in
            let bounds = road_bounds (other_end train.from) train.into (fits.into_low there) high in
            rw (in_far_road n train d far) (is_legal _ (omega (arith, bounds.0)) bounds.1)
        | inr block ↦
            let bounds = block_bounds n d train.from on block in
            rw (in_block n train d on block) (is_legal _ bounds.0 (omega (arith, bounds.1, limits.most)))
      ]
    ]
