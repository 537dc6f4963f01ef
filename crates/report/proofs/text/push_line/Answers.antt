use Rattle.std.proofs.Common.{◌∷◌, [], ◌++◌, ap, ◌∙◌}
use mir.Syntax.{w128}
use Rattle.std.proofs.lemmas.Int.{to_z-of_z}
use Rattle.report.specs.Adding.{with_figure}
use Rattle.report.proofs.Lines.{line-behind}
use Rattle.report.proofs.text.push_line.Goals as goal

pub returns-clause-bytes : goal.returns-clause-bytes
returns-clause-bytes c =
    let named = c.push_str-2.ensures.bytes ∙ ap (λ t. t ++ (61 ∷ [])) c.push_str.ensures.bytes in
    let figure = ap (λ z. with_figure c.push_str-2.new.self.bytes z) (to_z-of_z w128 c.args.figure c.ranges.figure) in
    c.push_str-3.ensures.bytes ∙
    ap (λ t. t ++ (10 ∷ [])) (c.push_figure.ensures.bytes ∙ figure ∙ ap (λ t. with_figure t c.args.figure) named) ∙
    line-behind c.args.text.now.bytes c.args.name.now c.args.figure
