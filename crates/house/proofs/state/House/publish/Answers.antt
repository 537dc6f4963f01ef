use Rattle.std.proofs.Common.{◌≡◌, true, refl, ◌∙◌}
use Rattle.books.specs.Publishing.{is_owed}
use Rattle.books.specs.State.{shape}
use Rattle.house.proofs.Publishes.{page-short, page-written}
use Rattle.house.proofs.state.House.publish.Goals as goal

pub returns-in_default : goal.returns-in_default
returns-in_default g c =
    let s = shape c.args.self.now.books in
    let owed : is_owed s c.args.token.house c.args.token.clearing ≡ true = cc in
    let e = page-short s c.args.token.house c.args.token.clearing c.args.page.now _ owed c.in_default.ensures.page c.in_default.ensures.answer in
    record { answer = e.answer; back = refl; page = e.page; after = e.after; named = refl }

pub returns : goal.returns
returns g c =
    let s = shape c.args.self.now.books in
    let owed : is_owed s c.args.token.house c.args.token.clearing ≡ true = cc in
    let e = page-written s c.args.token.house c.args.token.clearing c.args.page.now _ owed c.in-Some.ensures.page c.in-Some.length c.in-Some.ensures.answer in
    record { answer = e.answer; back = tt; page = e.page; after = c.published.ensures.value ∙ e.after; named = c.published.ensures.named }
