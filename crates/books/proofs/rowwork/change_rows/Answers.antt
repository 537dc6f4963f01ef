use Rattle.std.proofs.Common.{◌≡◌, ◌<◌, length, min, set, refl, sym, ap, ◌∙◌, arith, length-take}
use Rattle.std.proofs.lemmas.Fn.{says_at}
use Rattle.std.proofs.lemmas.List.{get_or-take, get_or-set_other}
use Rattle.books.proofs.RowWalk.{walked, walked_set, walked_all}
use Rattle.books.proofs.rowwork.change_rows.Goals as goal

pub bounds-rows-i : goal.bounds-rows-i
bounds-rows-i g c = omega (arith, ap length c.house_rows-n.ensures.value, length-take 256 c.args.rows.now)

pub change-requires : goal.change-requires
change-requires g c =
    let row = c.index-rows-i.result in
    let low : c.loop-i.i < 256 = omega arith in
    c.requires c.loop-i.i row (omega (arith, ap length c.house_rows-n.ensures.value)) _
    (c.index-rows-i.is ∙ c.loop-i.invariant.1 c.loop-i.i row (omega arith) ∙ sym (get_or-take 256 c.args.rows.now c.loop-i.i row low))

pub bounds-rows-i-in-loop-i : goal.bounds-rows-i-in-loop-i
bounds-rows-i-in-loop-i g c = omega (arith, ap length c.house_rows-n.ensures.value, length-take 256 c.args.rows.now)

pub loop-i-preserved : goal.loop-i-preserved
loop-i-preserved g c =
    let row = c.index-rows-i.result in
    let made = c.change.result in
    let within : c.loop-i.i < length c.args.rows.now = omega (arith, ap length c.house_rows-n.ensures.value, length-take 256 c.args.rows.now) in
    let read = c.index-rows-i.is ∙ c.loop-i.invariant.1 c.loop-i.i row (omega arith) in (
      λ becomes makes.
          ap (λ rows. set rows c.loop-i.i made) (c.loop-i.invariant.0 becomes makes) ∙
          ap (set (walked becomes c.loop-i.i c.args.rows.now) c.loop-i.i) (makes row made (says_at g.F.Fn c.change.ensures refl)) ∙
          walked_set becomes c.loop-i.i c.args.rows.now row within read,
      λ k d far. get_or-set_other c.loop-i.rows c.loop-i.i k made d (λ e. omega arith) ∙ c.loop-i.invariant.1 k d (omega arith),
    )

pub returns : goal.returns
returns g c = λ becomes makes.
    let all : c.loop-i.i ≡ min (length c.args.rows.now) 256 = omega (arith, ap length c.house_rows-n.ensures.value, length-take 256 c.args.rows.now) in
    c.loop-i.invariant.0 becomes makes ∙ walked_all becomes c.loop-i.i 256 c.args.rows.now all
