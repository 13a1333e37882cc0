-- What a lever call leaves as it was, and what it puts.
use Rattle.std.proofs.Common.{◌≡◌, ℕ, refl}
use Rattle.rules.specs.Calls.{with_levers, home_put}
use Rattle.rules.specs.Lines.{Line, blocks, roads, clear, levers_at}
use Rattle.rules.specs.declared.line.Levers.{Levers}
use Rattle.rules.specs.declared.line.Station.{Station}
use Rattle.rules.specs.declared.line.Station.TheVariants.{EndA, EndB}

pub trains_kept : (line : Line) (station : Station) (levers : Levers)
    → (with_levers line station levers).trains ≡ line.trains
trains_kept line EndA levers = refl
trains_kept line EndB levers = refl

pub closed_kept : (line : Line) (station : Station) (levers : Levers)
    → (with_levers line station levers).closed ≡ line.closed
closed_kept line EndA levers = refl
closed_kept line EndB levers = refl

pub blocks_kept : (line : Line) (station : Station) (levers : Levers)
    → blocks (with_levers line station levers) ≡ blocks line
blocks_kept line EndA levers = refl
blocks_kept line EndB levers = refl

pub clear_kept : (line : Line) (station : Station) (levers : Levers) (s : ℕ)
    → clear (with_levers line station levers) s ≡ clear line s
clear_kept line EndA levers s = refl
clear_kept line EndB levers s = refl

pub roads_kept : (line : Line) (station end : Station) (levers : Levers)
    → roads (with_levers line station levers) end ≡ roads line end
roads_kept line EndA EndA levers = refl
roads_kept line EndA EndB levers = refl
roads_kept line EndB EndA levers = refl
roads_kept line EndB EndB levers = refl

pub home_is_set : (line : Line) (station : Station) (road : ℕ)
    → (levers_at (with_levers line station (home_put (levers_at line station) road)) station).home ≡ road
home_is_set line EndA road = refl
home_is_set line EndB road = refl
