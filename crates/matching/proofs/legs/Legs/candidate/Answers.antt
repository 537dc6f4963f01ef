use Rattle.matching.specs.Legs.{legs_owed, listed}
use Rattle.matching.proofs.Tries.{candidate-at, candidate-here}
use Rattle.matching.proofs.legs.Legs.candidate.Goals as goal

pub returns : goal.returns
returns g c =
    let f = legs_owed g.C.Contract.meaning c.args.self.now.ceiling.value (listed c.args.self.now) in
    record {
      stands = candidate-at f c.args.self.now.ceiling.value c.reached.result c.owe.result c.from.result c.args.price c.owe.type_inv c.owe.ensures.value c.from.ensures c.reached.ensures c.owe.ensures.bound c.requires;
      here = candidate-here f c.args.self.now.ceiling.value c.reached.result c.owe.result c.from.result c.args.price c.owe.type_inv c.owe.ensures.value c.from.ensures c.reached.ensures;
    }
