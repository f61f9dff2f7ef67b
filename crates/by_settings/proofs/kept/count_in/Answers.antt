-- `count_in` is the count, or half of it rounded out. Assumes nothing.
use mathlib.Core.Path.{sym}
use native.Mathlib.Omega.{arith}
use Rattle.by_settings.proofs.Keeping.{keeping, count_none, count_halved}
use borrow.Author.Rules.{rules}
use Rattle.by_settings.proofs.kept.count_in.Goals as goal

pub returns-then-ss-eq0 : goal.returns-then-ss-eq0
returns-then-ss-eq0 c = search keeping

pub returns-then-count-eq0 : goal.returns-then-count-eq0
returns-then-count-eq0 c = count_none _ _ _ c.if-ss-eq0.false c.if-count-eq0.true (sym c.if-count-eq0.true)

pub returns : goal.returns
returns c = count_halved _ _ _ c.if-ss-eq0.false c.if-count-eq0.false (omega (arith, c.wide-from.ensures, c.wide-2.ensures))
