use Rattle.std.proofs.Common.{ap, ◌∙◌}
use Rattle.report.specs.Writing.{put_answer, put_page, written, page_after}
use Rattle.report.proofs.Lines.{lines_are}
use Rattle.report.proofs.writing.write_report.Goals as goal

pub returns : goal.returns
unfolding written page_after
returns c =
    let same = c.as_bytes.ensures.value ∙ c.as_str.ensures.value ∙ c.text_of-text.ensures ∙ lines_are c.args.cleared in
    record {
      answer = c.put.ensures.answer ∙ ap (λ bs. put_answer bs c.args.page.now) same;
      page = c.put.ensures.after ∙ ap (λ bs. put_page bs c.args.page.now) same;
    }
