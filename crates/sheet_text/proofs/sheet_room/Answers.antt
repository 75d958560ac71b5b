-- `sheet_text::sheet_room` meets its contract. Assumes nothing.
use Prim.Native.Nat.{ℕ}
use mathlib.Core.Path.{refl}
use lib.ListN.{length-replicate}
use Rattle.rooms.specs.Rooms.{zeros}
use Rattle.sheet_text.specs.Room.{sheet_room}
use Rattle.sheet_text.proofs.sheet_room.Goals as goal

pub returns : goal.returns
unfolding zeros
returns c = (refl, length-replicate {A = ℕ} sheet_room 0)
