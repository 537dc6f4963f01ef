use Rattle.std.proofs.Common.{◌≡◌, refl, rules}
use Rattle.std.proofs.lemmas.Slice.Zip.{either_empty_from_Zip}
use Rattle.matching.specs.Legs.{listed}
use Rattle.matching.proofs.Places.{row_legs-next, row_legs-done}
use Rattle.matching.proofs.Tries.{trying-legs-none, trying-legs-more, next-valid, legs-tried}
use Rattle.matching.proofs.legs.Legs.at_breakpoints.Goals as goal

pub tried_leg-best-requires : goal.tried_leg-best-requires
tried_leg-best-requires g c = record {
  valid = c.requires.0;
  stands = (trying-legs-none g.C.Contract.meaning c.args.self.now.ceiling.value (listed c.args.self.now) c.at_ends.result c.at_ends.ensures.value c.at_ends.ensures.bound c.requires).stands;
}

pub loop-row-init : goal.loop-row-init
loop-row-init g c =
    let rows : c.into_iter-row-iterator.result.a.rest.now ≡ c.args.self.now.rows.now = search rules in
    let lots : c.into_iter-row-iterator.result.b.rest.now ≡ c.args.self.now.lots.now = search rules in
    let ends = trying-legs-none g.C.Contract.meaning c.args.self.now.ceiling.value (listed c.args.self.now) c.at_ends.result c.at_ends.ensures.value c.at_ends.ensures.bound c.requires in
    ((tt, tt), tt, rw (rows, lots) (trying-legs-more g.C.Contract.meaning c.args.self.now.ceiling.value _ _ _ c.args.self.now.beside c.at_ends.result ends refl c.tried_leg-best.result c.tried_leg-best.ensures.improves c.tried_leg-best.ensures.tries))

pub tried_leg-best-requires-in-loop-row : goal.tried_leg-best-requires-in-loop-row
tried_leg-best-requires-in-loop-row g c =
    let s = c.in-Some.ensures.steps in
    record {
      valid = next-valid g.C.Contract.meaning c.args.self.now.ceiling.value _ _ _ c.with_lots.result c.loop-row.best c.loop-row.invariant.2 (row_legs-next _ _ _ _ _ _ c.with_lots.result s.0 s.1 c.with_lots.ensures);
      stands = c.loop-row.invariant.2.stands;
    }

pub loop-row-preserved : goal.loop-row-preserved
loop-row-preserved g c =
    let s = c.in-Some.ensures.steps in
    let next = row_legs-next _ _ _ _ _ _ c.with_lots.result s.0 s.1 c.with_lots.ensures in
    ((tt, tt), tt, trying-legs-more g.C.Contract.meaning c.args.self.now.ceiling.value _ _ _ c.with_lots.result c.loop-row.best c.loop-row.invariant.2 next c.tried_leg-best-in-loop-row.result c.tried_leg-best-in-loop-row.ensures.improves c.tried_leg-best-in-loop-row.ensures.tries)

pub returns : goal.returns
returns g c =
    legs-tried g.C.Contract.meaning c.args.self.now.ceiling.value (listed c.args.self.now) g.met.C.Contract.rules (c.args.self.now.ceiling.from, c.args.self.now.ceiling.to) c.requires _ c.loop-row.best c.loop-row.invariant.2 (row_legs-done _ _ (either_empty_from_Zip c.loop-row.row-iterator c.next.new.self c.next.result c.in-None.is c.next.ensures.steps))
