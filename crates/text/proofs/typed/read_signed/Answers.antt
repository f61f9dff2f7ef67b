-- `read_signed` is `signed_of` of the number, where it is an i32. Assumes nothing.
use Rattle.text.proofs.Signs.{signed_some, signed_none}
use Rattle.text.proofs.typed.read_signed.Goals as goal

pub returns-in-Some : goal.returns-in-Some
returns-in-Some c = rw (← c.next_number-n.ensures) (signed_some _ _ c.in-Some.ensures)

pub returns-in-None : goal.returns-in-None
returns-in-None c = rw (← c.next_number-n.ensures, c.give_up.ensures) (signed_none _ c.in-None.ensures)
