use Rattle.std.proofs.Common.{◌+◌, ◌<◌, length, drop, sym, ap, ◌∙◌, arith}
use Rattle.books.specs.Questions.{standing_numbers}
use Rattle.house.proofs.Listed.{written, written-more, written_none, written-first, numbers_more, numbers-same, numbers-end}
use Rattle.house.proofs.state.listing.write_standing.Goals as goal
use Rattle.house.proofs.state.listing.write_standing.Goals.{then-is_standing, else-is_standing}

pub bounds-list-n : goal.bounds-list-n
bounds-list-n g c = omega (arith, ap length (numbers_more c.args.rows.now c.loop-row.row-index c.row-item.result c.loop-row-test.true c.row-item.is (sym c.is_standing.ensures ∙ c.if-is_standing.true)))

pub loop-row-preserved : goal.loop-row-preserved
loop-row-preserved g c =
    let n = c.loop-row.n in
    let list = c.loop-row.list in
    let row = c.row-item.result in
    let rest = standing_numbers (drop (c.loop-row.row-index + 1) c.args.rows.now) in
    elim c.if-is_standing.branch [
      | then-is_standing w ↦
          let more = numbers_more c.args.rows.now c.loop-row.row-index row c.loop-row-test.true c.row-item.is (sym c.is_standing.ensures ∙ w.if-is_standing.true) in
          let counted = ap length more in
          let within : n < length list = omega (arith, counted) in
          (omega (arith, w.n-is, counted), rw (w.n-is, w.list-is) (written-more n row.order rest list within ∙ ap (λ ns. written n ns list) (sym more) ∙ c.loop-row.invariant.1))
      | else-is_standing w ↦
          let same = numbers-same c.args.rows.now c.loop-row.row-index row c.loop-row-test.true c.row-item.is (sym c.is_standing.ensures ∙ w.if-is_standing.false) in
          (omega (arith, w.n-is, ap length same), rw (w.n-is, w.list-is) (ap (λ ns. written n ns list) (sym same) ∙ c.loop-row.invariant.1))
    ]

pub returns : goal.returns
returns g c =
    sym (ap (λ ns. written c.loop-row.n ns c.loop-row.list) (numbers-end c.args.rows.now c.loop-row.row-index c.loop-row-test.false) ∙ written_none c.loop-row.n c.loop-row.list) ∙ c.loop-row.invariant.1 ∙ written-first (standing_numbers c.args.rows.now) c.args.list.now
