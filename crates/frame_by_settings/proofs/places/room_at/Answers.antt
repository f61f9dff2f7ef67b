-- `room_at` is luma's place where luma lacks room, else chroma's. Assumes nothing.
use Rattle.frame_by_settings.proofs.Zeroed.{rooms}
use borrow.Author.Rules.{rules}
use Rattle.frame_by_settings.proofs.places.room_at.Goals as goal

pub returns-in-Err : goal.returns-in-Err
returns-in-Err c = search rooms

pub returns : goal.returns
returns c = search rooms
