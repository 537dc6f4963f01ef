use Rattle.std.proofs.Common.{replicate, Option, subst, lit≤}
use Rattle.house.specs.declared.token.ReportToken.{ReportToken}
use Rattle.house.specs.View.{view}
use Rattle.house.proofs.Owed.{owed-taken}
use Rattle.replay.specs.Desk.{InHand}
use Rattle.replay.proofs.replaying.finish.Goals as goal

pub unreachable-requires : goal.unreachable-requires
unreachable-requires g c =
    let s = view c.args.house.now in
    owed-taken s c.in-Some.token.house c.in-Some.token.clearing (replicate 285 0) _ (subst (λ (t : Option ReportToken). InHand s t) c.in-Some.is c.requires) (lit≤ tt) c.in-Err.ensures.answer
