-- `visit` meets its contract. Assumes nothing.
use mathlib.Core.Path.{refl}
use native.Mathlib.Omega.{arith}
use borrow.Author.Rules.{rules}
use Rattle.plane_checks.proofs.Accepted.{rows_fit}
use Rattle.plane.proofs.Runs.{visits, visit_none, visit_edge, few_none, few_edge, edge_stored, edge_changed}
use Rattle.plane.proofs.Edges.{asked, in_plane, in_bytes}
use Rattle.plane.proofs.order.visit.Goals as goal

pub returns-then-not-is_edge : goal.returns-then-not-is_edge
returns-then-not-is_edge c = record { ran = visit_none _ _ _ _ _ _ _ c.is_edge.ensures c.if-not-is_edge.true-raw _; few = few_none 1 _ }

pub edge_at-e-requires : goal.edge_at-e-requires
edge_at-e-requires c = search asked

pub note-requires : goal.note-requires
note-requires c =
    let given = c.requires in
    (in_bytes given.0.ready.sizes_ok given.1 given.2 c.edge_at-e.ensures, given.3.bytes_most)

pub filter_marked-o-requires : goal.filter_marked-o-requires
filter_marked-o-requires c =
    let given = c.requires in
    let there = c.is_edge.ensures in
    let left = c.if-not-is_edge.false-raw in
    (in_plane _ _ _ _ _ _ given.0 given.1 c.edge_at-e.ensures there left, omega (arith, given.0.ready.sizes_ok.wide))

pub overflow_add-result-2 : goal.overflow_add-result-2
overflow_add-result-2 c =
    let given = c.requires in
    let is = c.edge_at-e.ensures in
    let there = c.is_edge.ensures in
    let done = c.filter_marked-o.ensures in
    let k = in_plane _ _ _ _ _ _ given.0 given.1 is there c.if-not-is_edge.false-raw in
    record { fits = omega (arith, given.3.stored_most, edge_stored k done) }

pub overflow_add-result-3 : goal.overflow_add-result-3
overflow_add-result-3 c =
    let given = c.requires in
    let is = c.edge_at-e.ensures in
    let there = c.is_edge.ensures in
    let done = c.filter_marked-o.ensures in
    let k = in_plane _ _ _ _ _ _ given.0 given.1 is there c.if-not-is_edge.false-raw in
    record { fits = omega (arith, given.3.changed_most, edge_changed k done) }

pub returns : goal.returns
returns c =
    let given = c.requires in
    let is = c.edge_at-e.ensures in
    let there = c.is_edge.ensures in
    let left = c.if-not-is_edge.false-raw in
    let k = in_plane _ _ _ _ _ _ given.0 given.1 is there left in
    let done = c.filter_marked-o.ensures in
    record {
      ran = visit_edge _ _ _ _ _ _ _ there left is c.top.ensures c.note.ensures done refl;
      few = few_edge (edge_stored k done) (edge_changed k done);
    }
