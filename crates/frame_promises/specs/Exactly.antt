-- Document 01's tests of a frame, each under its number, luma before chroma within each; ticket 5's lists of tile starts under 5, ticket 7's keep marks under 6.
-- Assumes nothing.
use Rattle.std.specs.Prelude.{true, false, List, [], ◌∷◌, ◌*◌}
use Rattle.laws.specs.Choose.{all}
use Rattle.rules.specs.declared.settings.Frame.{Frame}
use Rattle.rules.specs.Numbers.{depth_ok, in_range, subsampling_ok, delta_ok}
use Rattle.rules.specs.Thresholds.{bad_step}
use Rattle.rules.specs.TuGrid.{cap_ok, bad_leaf}
use Rattle.rules.specs.Plane.{bad_start, bad_keep, no_room, over_plane}
use Rattle.rules.specs.Frame.{Given, Lent, lengths_of, luma_plane, chroma_plane, chroma_on, stride_ok, luma_long, chroma_long, given_long, built_grids}
use Rattle.checks.specs.Exactly.{Check, check, ask, seek, seek_any, and_then, asked_if}

-- 6 is given for a keep mark alone: what is built is good
abbrev pub frame_tests : Frame → Given → Lent → List Check
frame_tests f n l =
    check 1 (ask (depth_ok f.depth))
    ∷ check 2 (and_then (ask (all (in_range 1 4096 f.width ∷ in_range 1 4096 f.height ∷ subsampling_ok f.ssx f.ssy ∷ stride_ok (luma_plane f) ∷ []))) (asked_if (chroma_on f) (ask (stride_ok (chroma_plane f)))))
    ∷ check 3 (and_then (ask (luma_long f (lengths_of n l))) (and_then (asked_if (chroma_on f) (ask (chroma_long f (lengths_of n l)))) (ask (given_long f (lengths_of n l)))))
    ∷ check 4 (seek (bad_step n.steps))
    -- ticket 5: "5 also for a bad list"
    ∷ check 5
    (and_then (ask (all (delta_ok f.deltay ∷ cap_ok f.capw ∷ cap_ok f.caph ∷ delta_ok f.deltauv ∷ cap_ok f.ccapw ∷ cap_ok f.ccaph ∷ [])))
    (and_then (seek_any (bad_start (luma_plane f).cols l.grids.luma.tiles)) (asked_if (chroma_on f) (seek_any (bad_start (chroma_plane f).cols l.grids.chroma.tiles)))))
    ∷ check 9 (and_then (seek (bad_leaf false n.leaves)) (and_then (seek (bad_leaf false n.chroma_leaves)) (seek (bad_leaf true n.skips))))
    -- ticket 7: "a frame tests its lent marks before it builds"
    ∷ check 6
    (and_then (seek (bad_keep ((luma_plane f).rows * (luma_plane f).cols) l.grids.luma.keep))
    (asked_if (chroma_on f) (seek (bad_keep ((chroma_plane f).rows * (chroma_plane f).cols) l.grids.chroma.keep))))
    ∷ check 7 (and_then (seek (no_room (luma_plane f) (built_grids f n l.grids).luma)) (asked_if (chroma_on f) (seek (no_room (chroma_plane f) (built_grids f n l.grids).chroma))))
    ∷ check 8 (and_then (seek (over_plane (luma_plane f) l.planes.y)) (asked_if (chroma_on f) (and_then (seek (over_plane (chroma_plane f) l.planes.u)) (seek (over_plane (chroma_plane f) l.planes.v)))))
    ∷ []
