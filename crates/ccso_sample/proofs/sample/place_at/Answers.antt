-- `place_at` reads centre and taps within luma. Assumes nothing.
use Rattle.ccso_sample.proofs.Places.{reads as needs, column, centre_below, tap0_below, tap1_below, bytes_fit, place_there, centre_is, tap0_is, tap1_is, place_is}
use Rattle.ccso_sample.proofs.Offsets.{place_below}
use Rattle.ccso_sample.proofs.Classes.{class_most}
use Rattle.ccso_sample.proofs.sample.place_at.Goals as goal

pub overflow_mul-at : goal.overflow_mul-at
overflow_mul-at c = search needs

pub overflow_add-centre : goal.overflow_add-centre
overflow_add-centre c = search needs

pub limited-requires : goal.limited-requires
limited-requires c = search needs

pub overflow_add-tap0 : goal.overflow_add-tap0
overflow_add-tap0 c = search needs

pub limited-requires-2 : goal.limited-requires-2
limited-requires-2 c = search needs

pub overflow_add-tap1 : goal.overflow_add-tap1
overflow_add-tap1 c = search needs

pub offset_bounds-luma-centre : goal.offset_bounds-luma-centre
offset_bounds-luma-centre c =
    bytes_fit
    c.requires.raised.ranges
    _
    (centre_below c.requires.raised.ranges c.requires.row_of _ (column c.requires.raised _ c.requires.x_bound))

pub bounds-luma-centre : goal.bounds-luma-centre
bounds-luma-centre c =
    place_there
    c.requires.raised.ranges
    _
    (centre_below
    c.requires.raised.ranges
    c.requires.row_of
    _
    (column c.requires.raised _ c.requires.x_bound))
    _
    c.requires.lit

pub offset_bounds-luma-tap0 : goal.offset_bounds-luma-tap0
offset_bounds-luma-tap0 c = bytes_fit c.requires.raised.ranges _ (tap0_below c.requires.raised.ranges c.requires.row_of _ c.limited.ensures.0)

pub bounds-luma-tap0 : goal.bounds-luma-tap0
bounds-luma-tap0 c =
    place_there
    c.requires.raised.ranges
    _
    (tap0_below c.requires.raised.ranges c.requires.row_of _ c.limited.ensures.0)
    _
    c.requires.lit

pub offset_bounds-luma-tap1 : goal.offset_bounds-luma-tap1
offset_bounds-luma-tap1 c = bytes_fit c.requires.raised.ranges _ (tap1_below c.requires.raised.ranges c.requires.row_of _ c.limited-2.ensures.0)

pub bounds-luma-tap1 : goal.bounds-luma-tap1
bounds-luma-tap1 c =
    place_there
    c.requires.raised.ranges
    _
    (tap1_below c.requires.raised.ranges c.requires.row_of _ c.limited-2.ensures.0)
    _
    c.requires.lit

pub offset_place-requires : goal.offset_place-requires
offset_place-requires c = record {
  ranges = c.requires.raised.ranges;
  class0_bound = (
    rw c.classify-class0.ensures (class_most c.requires.raised.ranges _ _),
    rw c.classify-class1.ensures (class_most c.requires.raised.ranges _ _),
  );
}

pub returns : goal.returns
returns c = (
  place_is _ _ _ _ _ _ _ _ _ _
      (centre_is c.requires.raised c.requires.row_of _ _)
      (tap0_is
      c.requires.raised
      c.requires.row_of
      _
      _
      _
      (c.limited.ensures.1 _ c.requires.raised.dx0))
      (tap1_is
      c.requires.raised
      c.requires.row_of
      _
      _
      _
      (c.limited-2.ensures.1 _ c.requires.raised.dx1))
      c.classify-class0.ensures
      c.classify-class1.ensures
      c.offset_place.ensures,
  rw
      c.offset_place.ensures
      (place_below
      c.requires.raised.ranges
      _
      _
      _
      (c.requires.lit.top _
      (centre_below
      c.requires.raised.ranges
      c.requires.row_of
      _
      (column c.requires.raised _ c.requires.x_bound)))
      (rw c.classify-class0.ensures (class_most c.requires.raised.ranges _ _))
      (rw c.classify-class1.ensures (class_most c.requires.raised.ranges _ _))),
)
