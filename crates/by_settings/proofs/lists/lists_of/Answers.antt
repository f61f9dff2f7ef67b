-- `lists_of` limits each end. Assumes nothing.
use Rattle.by_settings.proofs.Listing.{listing, within_shared}
use borrow.Author.Rules.{rules}
use Rattle.by_settings.proofs.lists.lists_of.Goals as goal

pub returns-then-c-chroma : goal.returns-then-c-chroma
returns-then-c-chroma c =
    let t = c in
    let s = t in
    let l = s in
    let r = l in
    (search listing, within_shared _ _ _ _ _ _ _ _ _ _ _ _ r.requires.1 r.leaf_room-room.ensures.2 l.limit-l.ensures s.limit-s.ensures t.limit-t.ensures c.limit-u.ensures c.limit-k.ensures)

pub returns : goal.returns
returns c = (search listing, search listing)
