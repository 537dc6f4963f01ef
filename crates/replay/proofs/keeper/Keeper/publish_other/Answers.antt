use Rattle.std.proofs.Common.{◌≡◌, set, Some, None, sym, ap, ◌∙◌, set-set}
use lib.Seq.{set-get_or}
use Rattle.replay.specs.Desk.{token_at}
use Rattle.replay.specs.Seen.{state_of}
use Rattle.replay.proofs.Hands.{desk-same, state-some, page-some, spent_some, kept-some}
use Rattle.replay.proofs.keeper.Keeper.publish_other.Goals as goal

pub returns-in-Ok-clause-after : goal.returns-in-Ok-clause-after
returns-in-Ok-clause-after g c =
    let s = state_of c.args.self.now in
    let own = c.args.self.now.own in
    let page = c.args.page.now in
    let others = c.args.others.now in
    let b = token_at others c.args.place in
    let e : b ≡ Some c.in-Some.token = sym c.replace.ensures.value ∙ c.in-Some.is in
    let p = c.in-Ok.ensures in
    desk-same
    (state-some s page b c.in-Some.token e _ p.after)
    (c.replace-in-Ok.ensures.after ∙ spent_some s page b c.in-Some.token e c.in-Ok.length None own p.answer)
    (set-set others c.args.place c.replace.new.dest c.replace-in-Ok.result ∙ ap (set others c.args.place) c.replace-in-Ok.ensures.value ∙ spent_some s page b c.in-Some.token e c.in-Ok.length (set others c.args.place own) others p.answer)
    (page-some s page b c.in-Some.token e _ p.page)

pub returns-in-Err-clause-after : goal.returns-in-Err-clause-after
returns-in-Err-clause-after g c =
    let s = state_of c.args.self.now in
    let own = c.args.self.now.own in
    let page = c.args.page.now in
    let others = c.args.others.now in
    let b = token_at others c.args.place in
    let e : b ≡ Some c.in-Some.token = sym c.replace.ensures.value ∙ c.in-Some.is in
    let p = c.in-Err.ensures in
    desk-same
    (state-some s page b c.in-Some.token e _ p.after)
    (kept-some s page b c.in-Some.token e c.in-Err.refusal None own p.answer)
    (set-set others c.args.place c.replace.new.dest (Some c.in-Err.token) ∙ ap (set others c.args.place) (ap Some p.back ∙ sym e) ∙ set-get_or others c.args.place None ∙ kept-some s page b c.in-Some.token e c.in-Err.refusal (set others c.args.place own) others p.answer)
    (page-some s page b c.in-Some.token e _ p.page)
