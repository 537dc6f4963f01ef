use Rattle.std.proofs.Common.{List, [], ◌∷◌, ◌++◌, take, None, vec_items, sym, refl, ap, ◌∙◌, subst, arith}
use Rattle.std.proofs.lemmas.List.{take_more, take_all}
use Rattle.books.specs.State.{State}
use Rattle.house.specs.View.{view}
use Rattle.replay.specs.declared.calls.Call.{Call}
use Rattle.replay.specs.Desk.{desk}
use Rattle.replay.specs.Seen.{state_of, seen}
use Rattle.replay.proofs.Handling.{keeps-hand}
use Rattle.replay.proofs.Running.{SoFar, so-far-none, so-far-next, all_made}
use Rattle.replay.proofs.replaying.replay.Goals as goal

pub loop-call-init : goal.loop-call-init
loop-call-init g c =
    let made = c.in_ok-answers.ensures in
    (so-far-none _ _ _ made.items, ap (λ (s : State _). s.report) c.open.ensures.state, made.len, made.capacity)

pub loop-call-preserved : goal.loop-call-preserved
loop-call-preserved g c =
    let m = g.C.Contract.meaning in
    let l = c.loop-call in
    let inv = l.invariant in
    let e = c.make-answer.ensures in
    let d = seen l.keeper l.others l.page in
    let calls = c.args.calls.now in
    let more = take_more calls l.call-index c.call-item.result c.loop-call-test.true ∙ ap (λ (x : Call _). take l.call-index calls ++ (x ∷ [])) (sym c.call-item.is) in (
      so-far-next m _ d _ (take l.call-index c.args.calls.now) _ (vec_items l.answers) _ c.call-item.result c.make-answer.result inv.0 e.answer e.leaves more c.push_reserved.ensures.items,
      keeps-hand m c.call-item.result d _ e.leaves inv.1,
      omega arith,
      omega arith,
    )

pub returns : goal.returns
returns g c =
    let m = g.C.Contract.meaning in
    let l = c.loop-call in
    let calls = c.args.calls.now in
    let t = c.args.terms in
    let far = subst (λ (made : List (Call _)). SoFar m (desk (view c.open.result) None c.args.others.now c.args.page.now) made (vec_items l.answers) (seen l.keeper l.others l.page)) (take_all l.call-index calls c.loop-call-test.false) l.invariant.0 in
    record {
      replayed = all_made m g.met.C.Contract.rules t.house t.ceiling.value t.gap (t.ceiling.from, t.ceiling.to) calls (vec_items l.answers) c.args.rows.now c.args.others.now l.others c.args.page.now l.page (view c.open.result) (state_of l.keeper) None l.keeper.own c.open.ensures.state refl far;
      untouched = tt;
    }
