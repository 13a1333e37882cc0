-- The 66 bytes of the panel.
use Rattle.std.specs.Prelude.{ℕ, ◌+◌, ◌-◌, Bool, cond, not, ◌&&◌, List, map, is_some, ◌==◌, nat_lt}
use Rattle.std.specs.List.{range_with_len}
use Rattle.rules.specs.Aspects.{aspect_number}
use Rattle.rules.specs.Calls.{direction, verdict}
use Rattle.rules.specs.Lines.{Line, in_use, closed_at, state_at, levers_at, sends}
use Rattle.rules.specs.Signals.{Shows, has_signal, distance_to, aspect_at}
use Rattle.rules.specs.Stations.{station_number}
use Rattle.rules.specs.declared.line.Station.{Station}
use Rattle.rules.specs.declared.line.Station.TheVariants.{EndA, EndB}

abbrev pub missing : ℕ
missing = 255

-- the track's state, 3 where the section is closed and vacant
abbrev pub section_byte : Line → ℕ → ℕ
section_byte line section =
    cond (in_use line section) (cond (closed_at line section
    && state_at line section == 0) 3 (state_at line section)) missing

abbrev pub signal_byte : Shows → Line → Station → ℕ → ℕ
signal_byte shows line station place =
    cond (has_signal line station place)
    (aspect_number (aspect_at shows line station (distance_to line station place))) missing

abbrev pub flag : Bool → ℕ
flag b = cond b 1 0

-- lit where turning the direction lever over would be turned down
abbrev pub lock_lamp : Shows → Line → Station → ℕ
lock_lamp shows line station =
    flag (is_some (verdict shows line (direction (station_number station) (not (sends line station)))))

-- one of two, for A and for B
abbrev pub by_end : (Station → ℕ) → ℕ → ℕ
by_end f k = cond (k == 0) (f EndA) (f EndB)

abbrev pub panel_byte : Shows → Line → ℕ → ℕ
panel_byte shows line k =
    cond (nat_lt k 24) (section_byte line (k + 1))
    (cond (nat_lt k 41) (signal_byte shows line EndA (k - 23))
    (cond (nat_lt k 58) (signal_byte shows line EndB (k - 41))
    (cond (nat_lt k 60) (by_end (λ station. flag (sends line station)) (k - 58))
    (cond (nat_lt k 62) (by_end (λ station. (levers_at line station).starter) (k - 60))
    (cond (nat_lt k 64) (by_end (λ station. (levers_at line station).home) (k - 62))
    (by_end (lock_lamp shows line) (k - 64)))))))

unfoldable pub panel : Shows → Line → List ℕ
panel shows line = map (panel_byte shows line) (range_with_len 0 66)
