-- A page as text (this project's profile; the elements are those of HTML).
use Rattle.std.specs.Prelude.{ℕ, List, [], ◌++◌, ◌==◌, codes, length, decimal, nat_lt, if◌then◌else◌}
use Rattle.std.specs.List.{flat_map}
use Rattle.texts.specs.Pieces.Pieces.{escaped}
use Rattle.cmd_page.specs.declared.text.fixed.TheConstants.{STYLE, CONTROLS, SCRIPT}
use Rattle.cmd_page.specs.declared.text.page.Page.{Page}
use Rattle.cmd_page.specs.declared.text.word.Word.{Word}
use Rattle.cmd_page.specs.declared.text.word.Word.TheVariants as words
use Rattle.cmd_page.specs.Text.RaceText.{race_text}
use Rattle.cmd_page.specs.Text.Words.{word_text}

-- the page's policy: it may show itself, and run the script with this digest (a policy of CSP)
unfoldable pub policy : List ℕ
policy = codes "<meta http-equiv=\"Content-Security-Policy\" content=\"default-src 'none'; script-src 'sha256-qxULv+J3AeQH3Ac92H2uYW8+ih093279s+SgqYKcClA='; style-src 'unsafe-inline'; base-uri 'none'; form-action 'none'\">\n<meta name=\"viewport\" content=\"width=device-width,initial-scale=1\">\n<title>"

unfoldable pub style : List ℕ
style = STYLE.now

unfoldable pub controls : List ℕ
controls = CONTROLS.now

unfoldable pub script : List ℕ
script = SCRIPT.now

-- the text before the body
unfoldable pub head_text : List ℕ → List ℕ
head_text title = word_text words.PageStart ++ (policy ++ (escaped title ++ (word_text words.StyleStart ++ style)))

-- the word for this number of races
abbrev pub race_word : ℕ → Word
race_word n = if n == 1 then words.OneRace else words.Races

-- the number of races that are described in full
unfoldable pub some_explained : ℕ → List ℕ
some_explained explained = word_text words.ExplainedStart ++ (decimal explained ++ word_text words.ExplainedEnd)

-- this number, if not all races are
abbrev pub explained_text : ℕ → ℕ → List ℕ
explained_text races explained = if nat_lt explained races then some_explained explained else []

-- the number of races, and the number of those that are described in full if not all are
unfoldable pub counts_text : ℕ → ℕ → List ℕ
counts_text races explained = word_text words.CountStart ++ (decimal races ++ (word_text (race_word races)
    ++ (explained_text races explained ++ controls)))

-- the title, and the picture
unfoldable pub top_text : Page → List ℕ
top_text page = word_text words.HeadStart ++ (escaped page.title.now ++ (counts_text (length page.races.now) page.explained
    ++ (word_text words.PictureStart ++ (page.picture.now ++ word_text words.RacesStart))))

-- the whole text
unfoldable pub page_text : Page → List ℕ
page_text page = head_text page.title.now ++ (top_text page ++ (flat_map race_text page.races.now
    ++ (word_text words.ScriptStart ++ (script ++ word_text words.PageEnd))))
