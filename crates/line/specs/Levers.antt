-- A starter and a home as one lever: the call that puts it, and in what the two differ.
use Rattle.std.specs.Prelude.{ℕ, Bool, not, Ok, Err, Result}
use Rattle.rules.specs.Calls.{Call, starter, home, starter_put, home_put, starter_held, home_held}
use Rattle.rules.specs.Lines.{Line}
use Rattle.rules.specs.declared.line.Levers.{Levers}
use Rattle.rules.specs.declared.line.Station.{Station}
use Rattle.rules.specs.declared.refusal.Refusal.{Refusal}
use Rattle.line.specs.declared.frame.levers.Lever.{Lever}
use Rattle.line.specs.declared.frame.levers.Lever.TheVariants.{Starter, Home}
use Rattle.line.specs.declared.places.Road.{Road}

-- the road that it may be put for, by station and number
abbrev pub station_and_road : Result Road Refusal → Result (Station × ℕ) Refusal
station_and_road (Ok road) = Ok (road.station, road.number)
station_and_road (Err refusal) = Err refusal

-- the call that puts it for a road, at the station of a number
abbrev pub lever_call : Lever → ℕ → ℕ → Call
lever_call Starter n road = starter n road
lever_call Home n road = home n road

-- the levers of a station with it put for a road
abbrev pub lever_put : Lever → Levers → ℕ → Levers
lever_put Starter levers road = starter_put levers road
lever_put Home levers road = home_put levers road

-- the road that it is reversed for, 0 where it is normal
abbrev pub lever_road : Lever → Levers → ℕ
lever_road Starter levers = levers.starter
lever_road Home levers = levers.home

-- A starter may be reversed where its station sends, a home where it receives.
abbrev pub may_reverse : Lever → Levers → Bool
may_reverse Starter levers = levers.sends
may_reverse Home levers = not levers.sends

-- whether a train holds it
abbrev pub lever_held : Lever → Line → Station → Bool
lever_held Starter line station = starter_held line station
lever_held Home line station = home_held line station
