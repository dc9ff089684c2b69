-- The lines of a text that a page shows, and their markup (this project's own).
use Rattle.std.specs.Prelude.{ℕ, ◌-◌, ◌==◌, ◌&&◌, ◌||◌, nat_le, not, Bool, false, List, [], ◌∷◌, ◌++◌, if◌then◌else◌}
use Rattle.texts.specs.Lines.{lines_of}
use Rattle.texts.specs.Outs.{one_more}
use Rattle.texts.specs.Pieces.Pieces.{escaped}
use Rattle.cmd_page.specs.declared.text.excerpt.Excerpt.{Excerpt}
use Rattle.cmd_page.specs.declared.text.word.Word.{Word}
use Rattle.cmd_page.specs.declared.text.word.Word.TheVariants as words
use Rattle.cmd_page.specs.Text.Words.{word_text}

-- a line is one of the twelve round another one: it, five above and six below
abbrev pub is_near : ℕ → ℕ → Bool
is_near line other = nat_le (line - 6) other && nat_le (other - 5) line

-- a line is shown
abbrev pub is_shown : Excerpt → ℕ → Bool
is_shown x line = nat_le line x.head || is_near line x.earlier || is_near line x.receive

-- the markup before a line, and after it
abbrev pub start_of : Excerpt → ℕ → Word
start_of x line = if line == x.receive then words.ReceiveStart else (if line == x.earlier then words.EarlierStart else words.LineStart)

abbrev pub end_of : Excerpt → ℕ → Word
end_of x line = if line == x.receive || line == x.earlier then words.EventEnd else words.LineEnd

-- a line that is shown
unfoldable pub line_text : Excerpt → ℕ → List ℕ → List ℕ
line_text x number line = word_text (start_of x number) ++ (escaped line ++ word_text (end_of x number))

-- the mark of lines that aren't shown, once for neighbours
abbrev pub gap_text : Bool → List ℕ
gap_text follows_gap = if follows_gap then [] else word_text words.Gap

-- a line, or the mark of lines that aren't shown
abbrev pub next_text : Excerpt → ℕ → Bool → List ℕ → List ℕ
next_text x number follows_gap line = if is_shown x number then line_text x number line else gap_text follows_gap

-- the lines from this number on; numbers stop at u64::MAX
abbrev pub lines_text : Excerpt → ℕ → Bool → List (List ℕ) → List ℕ
lines_text x number follows_gap [] = []
lines_text x number follows_gap (line ∷ lines) =
    next_text x number follows_gap line ++ lines_text x (one_more number) (not (is_shown x number)) lines

-- the lines that are shown
abbrev pub excerpt_text : Excerpt → List ℕ
excerpt_text x = lines_text x 1 false (lines_of x.text.items)
