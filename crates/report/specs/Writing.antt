-- What the writing of a report answers, and what it leaves on the page. Assumes nothing.
use Rattle.std.specs.Prelude.{ℕ, cond, List, ◌++◌, length, drop, Some, None, Option, nat_lt}
use Rattle.books.specs.declared.answers.Cleared.{Cleared}
use Rattle.books.specs.Publishing.{report_text}

-- the length of the text, unless the page is shorter
abbrev pub put_answer : List ℕ → List ℕ → Option ℕ
put_answer text page = cond (nat_lt (length page) (length text)) None (Some (length text))

-- the text stands at the front and the rest is unchanged; a page that is shorter is unchanged
abbrev pub put_page : List ℕ → List ℕ → List ℕ
put_page text page = cond (nat_lt (length page) (length text)) page (text ++ drop (length text) page)

-- the same of the report. These stay shut until a proof opens them, since the report is a long term.
unfoldable pub written : Cleared → List ℕ → Option ℕ
written a page = put_answer (report_text a) page

unfoldable pub page_after : Cleared → List ℕ → List ℕ
page_after a page = put_page (report_text a) page
