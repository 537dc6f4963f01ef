use Rattle.std.proofs.Common.{◌≡◌, ◌*◌, ◌^◌, false, Ok, Err, sym, refl, ap, ◌∙◌, subst, lit≤, rules, to_z, of_z}
use mir.Syntax.{w128}
use Rattle.matching.proofs.Running.{small-more}
use Rattle.books.specs.State.{State, shape}
use Rattle.books.specs.Statement.{Statement}
use Rattle.books.proofs.SoundClearing.{bookable-from, sound-booked}
use Rattle.books.proofs.Stated.{stated}
use Rattle.house.specs.View.{told_clearing}
use Rattle.house.proofs.Clears.{passed, turned, booked-same, cleared-same}
use Rattle.house.proofs.Kept.{house-sound, sealed}
use Rattle.house.proofs.state.House.clear.Goals as goal

pub returns-in_err-figures-clause-answer : goal.returns-in_err-figures-clause-answer
returns-in_err-figures-clause-answer g c =
    let same : c.from_residual.result ≡ Err c.in_err-figures.field-0.0 = search rules in
    ap told_clearing same ∙ sym (turned g.C.Contract.meaning (shape c.args.self.now.books) c.args.fills.now c.args.weights.now c.in_err-figures.field-0.0 (sym c.judge.ensures.value ∙ c.in_err-figures.was)).answer

pub returns-in_err-figures-clause-after : goal.returns-in_err-figures-clause-after
returns-in_err-figures-clause-after g c = sym (turned g.C.Contract.meaning (shape c.args.self.now.books) c.args.fills.now c.args.weights.now c.in_err-figures.field-0.0 (sym c.judge.ensures.value ∙ c.in_err-figures.was)).after

pub book_clearing-requires : goal.book_clearing-requires
book_clearing-requires g c =
    let p = passed g.C.Contract.meaning (shape c.args.self.now.books) c.args.fills.now c.args.weights.now c.in_ok-figures.figures (sym c.in_ok-figures.ensures.value) in
    record {
      sound = house-sound c.args.self.now;
      fits = bookable-from (house-sound c.args.self.now) c.args.fills.now p.orders;
      cash = search rules;
      reserve = rw c.cleared_as-cleared.ensures (small-more (257 * 2 ^ 96) (2 ^ 106) c.in_ok-figures.figures.reserve (lit≤ tt) c.in_ok-figures.ensures.bound.reserve);
    }

pub invariant_of-self : goal.invariant_of-self
invariant_of-self g c =
    let p = passed g.C.Contract.meaning (shape c.args.self.now.books) c.args.fills.now c.args.weights.now c.in_ok-figures.figures (sym c.in_ok-figures.ensures.value) in
    let cash : to_z w128 (of_z w128 c.in_ok-figures.figures.cash) ≡ c.in_ok-figures.figures.cash = search rules in
    let cleared = c.cleared_as-cleared.ensures in
    record { sound = sealed _ _ c.book_clearing.ensures.value (sound-booked (house-sound c.args.self.now) c.args.fills.now p.orders _ _ (cash ∙ ap (λ a. a.cash) p.same) (rw cash p.enough) (rw cleared c.in_ok-figures.ensures.bound.reserve) (rw cleared refl) (rw cleared p.number)) }

pub returns : goal.returns
returns g c =
    let m = g.C.Contract.meaning in
    let s = shape c.args.self.now.books in
    let fills = c.args.fills.now in
    let ws = c.args.weights.now in
    let p = passed m s fills ws c.in_ok-figures.figures (sym c.in_ok-figures.ensures.value) in
    let cash : to_z w128 (of_z w128 c.in_ok-figures.figures.cash) ≡ c.in_ok-figures.figures.cash = search rules in
    let same = c.book_clearing.ensures.value ∙ booked-same m s fills ws c.in_ok-figures.figures _ _ p.same cash c.cleared_as-cleared.ensures in
    record {
      answer = ap Ok (cleared-same m s fills ws c.in_ok-figures.figures _ p.same c.cleared_as-cleared.ensures) ∙ sym p.answer;
      token = c.new-token.ensures ∙ ap (λ n. record { house = n; clearing = c.cleared_as-cleared.result.clearing; spent = false }) (ap (λ t. t.number) c.book_clearing.ensures.value);
      after = same ∙ sym p.after;
      statement = subst (λ (t : State _). Statement fills s t) (sym same) (stated (house-sound c.args.self.now) m fills ws p.orders);
      named = c.book_clearing.ensures.named;
    }
