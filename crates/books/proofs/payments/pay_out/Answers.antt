use Rattle.std.proofs.Common.{◌^◌, rules}
use Rattle.matching.specs.Figures.{row_owed, filled_lots}
use Rattle.books.proofs.payments.pay_out.Goals as goal

pub credit_members-requires-clause-small : goal.credit_members-requires-clause-small
credit_members-requires-clause-small g c = (row_owed g.C.Contract.meaning c.args.book.now.ceiling.value filled_lots c.args.price, λ row z call. search rules)

pub returns : goal.returns
returns g c =
    let flow = row_owed g.C.Contract.meaning c.args.book.now.ceiling.value filled_lots c.args.price in
    record {
      value = c.credit_members.ensures.value flow (2 ^ 48) (λ row z call. search rules);
      low = λ b e. c.credit_members.ensures.low flow (2 ^ 48) b (λ row z call. search rules) e;
    }
