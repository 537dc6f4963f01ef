use Rattle.std.proofs.Common.{arith}
use Rattle.std.proofs.lemmas.Int.{ints}
use Rattle.matching.proofs.quotes.gap_for.Goals as goal

pub returns-in-Bid : goal.returns-in-Bid
returns-in-Bid c = rw c.in-Bid.is (omega (arith, ints))

pub returns-in-Ask : goal.returns-in-Ask
returns-in-Ask c = rw c.in-Ask.is (omega (arith, ints))
