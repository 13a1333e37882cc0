use Rattle.promises.proofs.RoomForTrains.{room}
use Rattle.promises.proofs.room.Goals as goal

pub returns : goal.returns
returns c = room
