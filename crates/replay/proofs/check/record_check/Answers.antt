-- `record_check` meets its contract: 11, 12 and 13 in their order. Assumes nothing.
use Rattle.replay.proofs.Checking.{header_refused, cut_refused, entry_refused, record_passed}
use Rattle.replay.proofs.Entries.{header_there, cut_at, cut_none}
use Rattle.laws.specs.Choose.{told_yes, told_no}
use Rattle.std.proofs.Common.{arith}
use Rattle.replay.proofs.check.record_check.Goals as goal

pub returns-then-not-header_ok : goal.returns-then-not-header_ok
returns-then-not-header_ok c = header_refused _ (told_no _ _ c.header_ok.ensures c.if-not-header_ok.true)

pub count-n-requires : goal.count-n-requires
count-n-requires c = header_there _ (told_yes _ _ c.header_ok.ensures c.if-not-header_ok.false)

pub overflow_sub-bytes : goal.overflow_sub-bytes
overflow_sub-bytes c = omega (arith, header_there _ (told_yes _ _ c.header_ok.ensures c.if-not-header_ok.false))

pub returns-then-bytes-ne0 : goal.returns-then-bytes-ne0
returns-then-bytes-ne0 c = cut_refused _ (told_yes _ _ c.header_ok.ensures c.if-not-header_ok.false) (cut_at _ _ c.count-n.ensures c.if-bytes-ne0.true)

pub returns-in-Some : goal.returns-in-Some
returns-in-Some c = entry_refused _ (told_yes _ _ c.header_ok.ensures c.if-not-header_ok.false) (cut_none _ c.if-bytes-ne0.false) c.bad_entry.ensures c.in-Some.is

pub returns-in-None : goal.returns-in-None
returns-in-None c = record_passed _ (told_yes _ _ c.header_ok.ensures c.if-not-header_ok.false) (cut_none _ c.if-bytes-ne0.false) c.bad_entry.ensures c.in-None.is
