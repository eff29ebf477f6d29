-- `text::print::put_number` calls itself with a tenth of the number, which is the measure, and then puts the last digit.
use Rattle.text.proofs.print.+put_number.Given as goal

abbrev pub decreases-put_number : goal.decreases-put_number
decreases-put_number l = l.n
