-- The eight digits are the text.
use Rattle.text.specs.Write.{pattern}
use Rattle.text.proofs.write.Writer.pattern.Goals as goal

pub returns : goal.returns
unfolding pattern
returns c = let first = rw (c.digit.ensures, c.digit-2.ensures, c.digit-3.ensures) at c.bytes.ensures in
    let next = rw (c.digit-4.ensures, c.digit-5.ensures, c.digit-6.ensures) at first in
    rw (c.digit-7.ensures, c.digit-8.ensures) at next
