use Rattle.std.proofs.Common.{rules}
use Rattle.books.proofs.Bounds.{cash-fits, reserve-fits}
use Rattle.books.proofs.ledger.Books.book_clearing.Goals as goal

pub overflow_add-self : goal.overflow_add-self
overflow_add-self g c = let fits = cash-fits c.requires.sound c.args.cash c.requires.cash in search rules

pub overflow_add-self-2 : goal.overflow_add-self-2
overflow_add-self-2 g c = let fits = reserve-fits c.requires.sound c.args.cleared.reserve c.requires.reserve in search rules

pub returns-clause-value : goal.returns-clause-value
returns-clause-value g c =
    let cash = cash-fits c.requires.sound c.args.cash c.requires.cash in
    let reserve = reserve-fits c.requires.sound c.args.cleared.reserve c.requires.reserve in
    search rules
