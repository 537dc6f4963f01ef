use Rattle.std.proofs.Common.{ap, ◌∙◌}
use Rattle.matching.proofs.Tries.{trying-none, trying-more, breakpoint-within, leg-tried}
use Rattle.matching.proofs.legs.Legs.tried_leg.Goals as goal

pub loop-i-init : goal.loop-i-init
loop-i-init g c = trying-none _ _ _ c.args.best c.requires.stands

pub tried-best-requires : goal.tried-best-requires
tried-best-requires g c = record {
  within = breakpoint-within g.C.Contract.meaning c.args.self.now.ceiling.value c.args.leg c.in-Some.l c.in-Some.is g.met.C.Contract.rules (c.args.self.now.ceiling.from, c.args.self.now.ceiling.to) c.requires.valid c.breakpoints-i-end.result c.loop-i.i c.from.result c.breakpoint.result c.breakpoints-i-end.ensures c.loop-i-test.true c.from.ensures c.breakpoint.ensures;
  stands = c.loop-i.invariant.improves.stands;
}

pub loop-i-preserved : goal.loop-i-preserved
loop-i-preserved g c =
    trying-more _ _ _ c.args.best c.loop-i.i c.loop-i.best c.tried-best.result c.breakpoint.result c.loop-i.invariant c.tried-best.ensures.improves c.tried-best.ensures.tries
    (c.breakpoint.ensures ∙ ap (g.C.Contract.meaning.breakpoint c.args.self.now.ceiling.value c.in-Some.l.contract) c.from.ensures)

pub returns : goal.returns
returns g c = record {
  improves = c.loop-i.invariant.improves;
  tries = leg-tried g.C.Contract.meaning c.args.self.now.ceiling.value c.args.leg c.in-Some.l c.in-Some.is _ _ c.loop-i.i c.loop-i.best c.breakpoints-i-end.result c.loop-i.invariant c.breakpoints-i-end.ensures c.loop-i-test.false;
}
