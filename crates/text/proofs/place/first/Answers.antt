-- `first` is where the library finds the first byte. Assumes nothing.
use Rattle.std.proofs.Common.{rules}
use Rattle.std.proofs.lemmas.Iterator.{YieldsList-from_slice}
use Rattle.std.proofs.lemmas.Iterator.Search.{position_from_yields_List}
use Rattle.text.proofs.Seeking.{seek_found, seek_none}
use Rattle.text.proofs.place.first.Goals as goal

pub returns-in-Some-clause-value : goal.returns-in-Some-clause-value
returns-in-Some-clause-value g c = λ q told.
    let p = position_from_yields_List q _ _ _ c.position.ensures.ran (YieldsList-from_slice _ c.iter.ensures.rest) (λ x b f k. search (rules, told)) in
    seek_found q _ _ _ _ p c.requires.within _ c.in-Some.is

pub returns-clause-value : goal.returns-clause-value
returns-clause-value g c = λ q told.
    let p = position_from_yields_List q _ _ _ c.position.ensures.ran (YieldsList-from_slice _ c.iter.ensures.rest) (λ x b f k. search (rules, told)) in
    seek_none q _ _ _ _ p c.requires.within c.in-None.is
