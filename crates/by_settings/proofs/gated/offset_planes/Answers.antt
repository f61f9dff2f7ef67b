-- `offset_planes` offsets one plane after the other, up to the first that is refused. Assumes nothing.
use Rattle.by_settings.proofs.Gating.{planewise}
use borrow.Author.Rules.{rules}
use Rattle.by_settings.proofs.gated.offset_planes.Goals as goal

pub returns-in-Err : goal.returns-in-Err
returns-in-Err c = search planewise

pub returns-in-Err-b : goal.returns-in-Err-b
returns-in-Err-b c = search planewise

pub returns : goal.returns
returns c = search planewise
