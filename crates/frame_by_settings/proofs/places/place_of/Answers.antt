-- `place_of` goes by the kind of a refusal. Assumes nothing.
use Rattle.frame_by_settings.proofs.Refusing.{refusing, at_sample, at_room, at_leaf, at_step, of_depth, of_size, of_length, of_setting}
use borrow.Author.Rules.{rules}
use Rattle.frame_by_settings.proofs.places.place_of.Goals as goal

pub returns-in-Sample : goal.returns-in-Sample
returns-in-Sample c = λ s v. at_sample _ _ _ _ _ c.in-Sample.is c.sample_place.ensures

pub returns-in-Room : goal.returns-in-Room
returns-in-Room c = λ s v. at_room _ _ _ _ _ c.in-Room.is c.room_at.ensures

pub returns-in-Leaf : goal.returns-in-Leaf
returns-in-Leaf c = λ s v. at_leaf _ _ _ _ _ c.in-Leaf.is c.leaves_place.ensures

pub returns-in-Steps : goal.returns-in-Steps
returns-in-Steps c = λ s v. at_step _ _ _ _ _ c.in-Steps.is c.at.ensures

pub returns-in-Depth : goal.returns-in-Depth
returns-in-Depth c = λ s v. of_depth _ _ _ _ _ c.in-Depth.is c.at-in-Depth.ensures

pub returns-in-Size : goal.returns-in-Size
returns-in-Size c = λ s v. of_size _ _ _ _ _ c.in-Size.is c.at-in-Size.ensures

pub returns-in-Length : goal.returns-in-Length
returns-in-Length c = λ s v. of_length _ _ _ _ _ c.in-Length.is c.at-in-Length.ensures

pub returns-in-Setting : goal.returns-in-Setting
returns-in-Setting c = λ s v. of_setting _ _ _ _ _ c.in-Setting.is c.at-in-Setting.ensures

pub returns-in-Cell : goal.returns-in-Cell
returns-in-Cell c = λ s v. search refusing

pub returns-in-Buffer : goal.returns-in-Buffer
returns-in-Buffer c = λ s v. search refusing

pub returns-in-Header : goal.returns-in-Header
returns-in-Header c = λ s v. search refusing

pub returns-in-Cut : goal.returns-in-Cut
returns-in-Cut c = λ s v. search refusing

pub returns-in-Entry : goal.returns-in-Entry
returns-in-Entry c = λ s v. search refusing

pub returns-in-Filled : goal.returns-in-Filled
returns-in-Filled c = λ s v. search refusing

pub returns-in-Spent : goal.returns-in-Spent
returns-in-Spent c = λ s v. search refusing
