use Rattle.replay.specs.Seen.{state_of}
use Rattle.replay.proofs.Hands.{token-comes}
use Rattle.replay.proofs.keeper.Keeper.clear.Goals as goal

pub returns-in-Ok-clause-own : goal.returns-in-Ok-clause-own
returns-in-Ok-clause-own g c =
    token-comes g.C.Contract.meaning (state_of c.args.self.now) c.args.fills.now c.args.weights.now c.in-Ok.cleared c.in-Ok.token c.args.self.now.own c.in-Ok.ensures.answer c.in-Ok.ensures.token
