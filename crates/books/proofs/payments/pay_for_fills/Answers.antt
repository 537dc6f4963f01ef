use Rattle.std.proofs.Common.{◌^◌, neg_ℤ, ◌∙◌, rules}
use Rattle.matching.specs.Figures.{row_cash}
use Rattle.matching.specs.Fills.{given}
use Rattle.books.specs.Money.{cash_in}
use Rattle.books.proofs.Balances.{moved-negative}
use Rattle.books.proofs.payments.pay_for_fills.Goals as goal

pub credit_members-requires-clause-small : goal.credit_members-requires-clause-small
credit_members-requires-clause-small g c = (λ r. neg_ℤ (row_cash (given c.args.fills.now) r), λ row z call. search rules)

pub returns : goal.returns
returns g c =
    c.credit_members.ensures.value (λ r. neg_ℤ (row_cash (given c.args.fills.now) r)) (2 ^ 96) (λ row z call. search rules) ∙
    moved-negative (row_cash (given c.args.fills.now)) c.args.book.now.rows.now (cash_in c.args.accounts.now.list)
