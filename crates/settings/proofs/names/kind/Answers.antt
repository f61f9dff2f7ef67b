-- `kind` tells the names from all other words. Assumes nothing.
use borrow.Author.Rules.{rules}
use borrow.Author.Tests.{ne_eqb}
use Rattle.laws.specs.Choose.{pick}
use Rattle.settings.specs.Names.{kind_of}
use Rattle.settings.proofs.names.kind.Goals as goal

pub returns-in-8315180330343360371 : goal.returns-in-8315180330343360371
unfolding kind_of pick
returns-in-8315180330343360371 c = (rw c.in-8315180330343360371.is, search rules)

pub returns-in-124697637578104 : goal.returns-in-124697637578104
unfolding kind_of pick
returns-in-124697637578104 c = (rw c.in-124697637578104.is, search rules)

pub returns-in-495874044019 : goal.returns-in-495874044019
unfolding kind_of pick
returns-in-495874044019 c = (rw c.in-495874044019.is, search rules)

pub returns-in-1818583398 : goal.returns-in-1818583398
unfolding kind_of pick
returns-in-1818583398 c = (rw c.in-1818583398.is, search rules)

pub returns-in-30510766488515958 : goal.returns-in-30510766488515958
unfolding kind_of pick
returns-in-30510766488515958 c = (rw c.in-30510766488515958.is, search rules)

pub returns-in-1936419184 : goal.returns-in-1936419184
unfolding kind_of pick
returns-in-1936419184 c = (rw c.in-1936419184.is, search rules)

pub returns-in-28259014154477433 : goal.returns-in-28259014154477433
unfolding kind_of pick
returns-in-28259014154477433 c = (rw c.in-28259014154477433.is, search rules)

pub returns-in-7234307623546221942 : goal.returns-in-7234307623546221942
unfolding kind_of pick
returns-in-7234307623546221942 c = (rw c.in-7234307623546221942.is, search rules)

pub returns-in-426836516729 : goal.returns-in-426836516729
unfolding kind_of pick
returns-in-426836516729 c = (rw c.in-426836516729.is, search rules)

pub returns-in-109270148281718 : goal.returns-in-109270148281718
unfolding kind_of pick
returns-in-109270148281718 c = (rw c.in-109270148281718.is, search rules)

pub returns-in-109300247653729 : goal.returns-in-109300247653729
unfolding kind_of pick
returns-in-109300247653729 c = (rw c.in-109300247653729.is, search rules)

pub returns-in-109278789590905 : goal.returns-in-109278789590905
unfolding kind_of pick
returns-in-109278789590905 c = (rw c.in-109278789590905.is, search rules)

pub returns-in-109278789590901 : goal.returns-in-109278789590901
unfolding kind_of pick
returns-in-109278789590901 c = (rw c.in-109278789590901.is, search rules)

pub returns-in-109278789590902 : goal.returns-in-109278789590902
unfolding kind_of pick
returns-in-109278789590902 c = (rw c.in-109278789590902.is, search rules)

pub returns-in-28829613227728761 : goal.returns-in-28829613227728761
unfolding kind_of pick
returns-in-28829613227728761 c = (rw c.in-28829613227728761.is, search rules)

pub returns-in-28829613227728757 : goal.returns-in-28829613227728757
unfolding kind_of pick
returns-in-28829613227728757 c = (rw c.in-28829613227728757.is, search rules)

pub returns-in-28829613227728758 : goal.returns-in-28829613227728758
unfolding kind_of pick
returns-in-28829613227728758 c = (rw c.in-28829613227728758.is, search rules)

pub returns-in-8027216031643885433 : goal.returns-in-8027216031643885433
unfolding kind_of pick
returns-in-8027216031643885433 c = (rw c.in-8027216031643885433.is, search rules)

pub returns-in-8027216031643885429 : goal.returns-in-8027216031643885429
unfolding kind_of pick
returns-in-8027216031643885429 c = (rw c.in-8027216031643885429.is, search rules)

pub returns-in-8027216031643885430 : goal.returns-in-8027216031643885430
unfolding kind_of pick
returns-in-8027216031643885430 c = (rw c.in-8027216031643885430.is, search rules)

pub returns-in-32767011577880441 : goal.returns-in-32767011577880441
unfolding kind_of pick
returns-in-32767011577880441 c = (rw c.in-32767011577880441.is, search rules)

pub returns-in-8388354963937391990 : goal.returns-in-8388354963937391990
unfolding kind_of pick
returns-in-8388354963937391990 c = (rw c.in-8388354963937391990.is, search rules)

pub returns-in-1801807216 : goal.returns-in-1801807216
unfolding kind_of pick
returns-in-1801807216 c = (rw c.in-1801807216.is, search rules)

pub returns-in_default : goal.returns-in_default
unfolding kind_of pick
returns-in_default c = (
  rw (
    ne_eqb _ _ c.in_default.in_default-own.rest.0.0.0.0.0.0.0.0.0.0.0.0.0.0.0.0.0.0.0.0.0.0.1,
    ne_eqb _ _ c.in_default.in_default-own.rest.0.0.0.0.0.0.0.0.0.0.0.0.0.0.0.0.0.0.0.0.0.1,
    ne_eqb _ _ c.in_default.in_default-own.rest.0.0.0.0.0.0.0.0.0.0.0.0.0.0.0.0.0.0.0.0.1,
    ne_eqb _ _ c.in_default.in_default-own.rest.0.0.0.0.0.0.0.0.0.0.0.0.0.0.0.0.0.0.0.1,
    ne_eqb _ _ c.in_default.in_default-own.rest.0.0.0.0.0.0.0.0.0.0.0.0.0.0.0.0.0.0.1,
    ne_eqb _ _ c.in_default.in_default-own.rest.0.0.0.0.0.0.0.0.0.0.0.0.0.0.0.0.0.1,
    ne_eqb _ _ c.in_default.in_default-own.rest.0.0.0.0.0.0.0.0.0.0.0.0.0.0.0.0.1,
    ne_eqb _ _ c.in_default.in_default-own.rest.0.0.0.0.0.0.0.0.0.0.0.0.0.0.0.1,
    ne_eqb _ _ c.in_default.in_default-own.rest.0.0.0.0.0.0.0.0.0.0.0.0.0.0.1,
    ne_eqb _ _ c.in_default.in_default-own.rest.0.0.0.0.0.0.0.0.0.0.0.0.0.1,
    ne_eqb _ _ c.in_default.in_default-own.rest.0.0.0.0.0.0.0.0.0.0.0.0.1,
    ne_eqb _ _ c.in_default.in_default-own.rest.0.0.0.0.0.0.0.0.0.0.0.1,
    ne_eqb _ _ c.in_default.in_default-own.rest.0.0.0.0.0.0.0.0.0.0.1,
    ne_eqb _ _ c.in_default.in_default-own.rest.0.0.0.0.0.0.0.0.0.1,
    ne_eqb _ _ c.in_default.in_default-own.rest.0.0.0.0.0.0.0.0.1,
    ne_eqb _ _ c.in_default.in_default-own.rest.0.0.0.0.0.0.0.1,
    ne_eqb _ _ c.in_default.in_default-own.rest.0.0.0.0.0.0.1,
    ne_eqb _ _ c.in_default.in_default-own.rest.0.0.0.0.0.1,
    ne_eqb _ _ c.in_default.in_default-own.rest.0.0.0.0.1,
    ne_eqb _ _ c.in_default.in_default-own.rest.0.0.0.1,
    ne_eqb _ _ c.in_default.in_default-own.rest.0.0.1,
    ne_eqb _ _ c.in_default.in_default-own.rest.0.1,
    ne_eqb _ _ c.in_default.in_default-own.rest.1,
  ),
  search rules,
)
