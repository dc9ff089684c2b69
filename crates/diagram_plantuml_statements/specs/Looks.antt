-- Statements that only concern how a diagram looks, and blocks of lines (PlantUML's documentation of sequence diagrams:
-- "Page Title, Header and Footer", "Splitting diagrams", "Adding a title", "Skinparam", "Foot Box", "Space", "Anchors
-- and Duration"; and of sprites and styles).
use Rattle.std.specs.Prelude.{ℕ, suc, ◌+◌, ◌-◌, Bool, true, false, not, ◌&&◌, ◌||◌, ◌==◌, nat_lt, List, [], ◌∷◌, codes, length, drop, Option, None, Some, is_some, bytes_eq, nat_eq, slice_get, if◌then◌else◌}
use Rattle.std.specs.List.{list_all, starts_with}
use Rattle.texts.specs.Words.{behind_blanks, behind_keyword, behind_keyword_of, behind_word, blank_length, place_of, skip_word, or_else, begins_blank}
use Rattle.texts.specs.Bytes.Classes.{is_blank}
use Rattle.texts.specs.Bytes.Words.{is_spelled}
use Rattle.diagram_statements.specs.Options.{◌>>=◌}
use Rattle.diagram_plantuml_arrows.specs.Arrows.{behind_brace}
use Rattle.diagram_plantuml_arrows.specs.Names.{behind_gap}
use Rattle.diagram_plantuml_arrows.specs.Runs.{behind_run}
use Rattle.diagram_plantuml_arrows.specs.Tails.{colon_tail}
use Rattle.diagram_plantuml_arrows.specs.declared.runs.Class.TheVariants.{Style, Digit}
use Rattle.diagram_plantuml_statements.specs.declared.look.Block.{Block}
use Rattle.diagram_plantuml_statements.specs.declared.look.Block.TheVariants as blocks

-- a blank or a colon comes next
abbrev pub begins_text : List ℕ → Bool
begins_text [] = false
begins_text (b ∷ bs) = is_blank b || b == 58

abbrev pub brace_by : Option ℕ → Bool
brace_by None = false
brace_by (Some b) = b == 123

abbrev pub ends_with_brace : List ℕ → Bool
ends_with_brace bytes = brace_by (slice_get bytes (length bytes - 1))

abbrev pub side_by : List ℕ → Option (List ℕ) → List ℕ
side_by words None = words
side_by words (Some rest) = behind_blanks rest

-- a side may come before a header or a footer
unfoldable pub behind_side : List ℕ → List ℕ
behind_side words =
    side_by words (or_else (behind_word (codes "left") words) (or_else (behind_word (codes "right") words) (behind_word (codes "center") words)))

abbrev pub as_block : Block → Option (List ℕ) → Option (Block × List ℕ)
as_block block None = None
as_block block (Some rest) = Some (block, rest)

-- a header or a footer
unfoldable pub header_at : List ℕ → Option (Block × List ℕ)
header_at words =
    or_else (as_block blocks.Header (behind_word (codes "header") (behind_side words)))
    (as_block blocks.Footer (behind_word (codes "footer") (behind_side words)))

abbrev pub text_by : Option (List ℕ) → Bool
text_by None = false
text_by (Some rest) = begins_text rest

-- a text follows this word
unfoldable pub has_text : List ℕ → List ℕ → Bool
has_text word words = text_by (behind_word word words)

abbrev pub header_text : Option (Block × List ℕ) → Bool
header_text None = false
header_text (Some header) = begins_text header.1

-- a title, or another text around the diagram
unfoldable pub is_titled : List ℕ → Bool
is_titled words =
    if has_text (codes "title") words || has_text (codes "mainframe") words || has_text (codes "caption") words
    then true else header_text (header_at words)

abbrev pub has_no_brace : List ℕ → Bool
has_no_brace bytes = list_all (λ b. not (b == 123) && not (b == 125)) bytes

-- a value follows the name of a setting
unfoldable pub is_set : List ℕ → Bool
is_set bytes = begins_blank bytes && has_no_brace bytes

abbrev pub set_by : List ℕ → Option ℕ → Bool
set_by bytes None = false
set_by bytes (Some place) = is_set (behind_run Style (drop (place + 4) bytes))

-- a stereotype follows the name of a setting, and a value follows the stereotype
unfoldable pub is_set_for : List ℕ → Bool
is_set_for bytes = if starts_with nat_eq bytes (codes "<<") then set_by bytes (place_of (codes ">>") (drop 2 bytes)) else false

abbrev pub locked_by : Option (List ℕ) → Option (List ℕ)
locked_by None = None
locked_by (Some rest) = Some (skip_word (codes "locked") rest)

-- the text after the word for settings
unfoldable pub setting_rest : List ℕ → Option (List ℕ)
setting_rest words = locked_by (behind_word (codes "skinparam") words)

-- a name, which may be empty, and a value follow the word for settings
unfoldable pub is_named_set : List ℕ → Bool
is_named_set rest =
    begins_blank rest
    && (is_set (behind_run Style (behind_blanks rest)) || is_set_for (behind_run Style (behind_blanks rest))
    || (nat_lt 1 (blank_length rest) && has_no_brace (behind_blanks rest)))

abbrev pub setting_by : Option (List ℕ) → Bool
setting_by None = false
setting_by (Some rest) = is_named_set rest

unfoldable pub is_setting : List ℕ → Bool
is_setting words = setting_by (setting_rest words)

-- a statement about how the diagram looks, in a form that is tried before arrows
unfoldable pub is_early_look : List ℕ → Bool
is_early_look words = is_titled words || is_setting words

abbrev pub braces_by : Option (List ℕ) → Bool
braces_by None = false
braces_by (Some rest) = bytes_eq rest (codes "{") || (begins_blank rest && ends_with_brace rest)

-- settings in braces
unfoldable pub opens_braces : List ℕ → Bool
opens_braces words = braces_by (setting_rest words)

abbrev pub sprite_by : Option (List ℕ) → Bool
sprite_by None = false
sprite_by (Some rest) = begins_blank rest && ends_with_brace rest

-- a picture in braces
unfoldable pub opens_sprite : List ℕ → Bool
opens_sprite words = sprite_by (behind_word (codes "sprite") words)

abbrev pub whole_header : Option (Block × List ℕ) → Option Block
whole_header None = None
whole_header (Some header) = if length header.1 == 0 then Some header.0 else None

-- a header or a footer that extends over several lines
unfoldable pub header_block : List ℕ → Option Block
header_block words = whole_header (header_at words)

abbrev pub last_block : List ℕ → Option Block
last_block words =
    if is_spelled (codes "<style>") words then Some blocks.Style else (
    if opens_sprite words then Some blocks.Sprite else (
    if opens_braces words then Some (blocks.Braces 1) else None))

-- the block that begins with a statement about looks
unfoldable pub block_of : List ℕ → Option Block
block_of words =
    if is_spelled (codes "title") words then Some blocks.Title else (
    if is_some (behind_keyword (codes "legend") words) then Some blocks.Legend else
    or_else (header_block words) (last_block words))

abbrev pub page_by : Option (List ℕ) → Bool
page_by None = false
page_by (Some rest) = length rest == 0 || begins_text rest

abbrev pub ignored_by : List ℕ → Option (List ℕ) → Bool
ignored_by words None = page_by (behind_word (codes "newpage") (skip_word (codes "@") words))
ignored_by words (Some rest) = is_spelled (codes "newpage") (behind_blanks rest)

-- a page begins, or none does
unfoldable pub is_page : List ℕ → Bool
is_page words = ignored_by words (behind_word (codes "ignore") words)

abbrev pub switch_by : List ℕ → Option (List ℕ) → Bool
switch_by rest None = length rest == 0
switch_by rest (Some word) = is_spelled (codes "on") word || is_spelled (codes "off") word

abbrev pub footbox_by : Option (List ℕ) → Bool
footbox_by None = false
footbox_by (Some rest) = switch_by rest (behind_gap rest)

-- the participants below are shown or hidden
unfoldable pub is_footbox : List ℕ → Bool
is_footbox words =
    footbox_by (behind_word (codes "footbox") (behind_blanks (skip_word (codes "show") (skip_word (codes "hide") words))))

abbrev pub are_bars : List ℕ → Bool
are_bars bytes = not (length bytes == 0) && list_all (λ b. b == 124) bytes

abbrev pub space_by : Option (List ℕ) → Bool
space_by None = false
space_by (Some rest) = are_bars (behind_run Digit rest)

-- space is left
unfoldable pub is_space : List ℕ → Bool
is_space words = space_by (behind_word (codes "||") words)

abbrev pub duration_by : Option (List ℕ) → Bool
duration_by None = false
duration_by (Some behind) = is_some (colon_tail behind)

abbrev pub duration_to : Option (List ℕ) → Bool
duration_to None = false
duration_to (Some to) = duration_by (behind_brace (behind_blanks to))

abbrev pub duration_from : Option (List ℕ) → Bool
duration_from None = false
duration_from (Some rest) = duration_to (behind_word (codes "<->") (behind_blanks rest))

-- the duration between two anchors
unfoldable pub is_duration : List ℕ → Bool
is_duration words = duration_from (behind_brace words)

abbrev pub look_words : List (List ℕ)
look_words =
    codes "skin" ∷ codes "allowmixing" ∷ codes "allow_mixing" ∷ codes "scale" ∷ codes "rotate" ∷ codes "minwidth" ∷ []

abbrev pub other_look_words : List (List ℕ)
other_look_words =
    codes "sprite" ∷ codes "url" ∷ codes "autonumber" ∷ codes "autonewpage" ∷ codes "hide" ∷ codes "show" ∷ []

-- the text after a word about how the diagram looks
unfoldable pub behind_look_word : List ℕ → Option (List ℕ)
behind_look_word words = behind_keyword_of look_words words

unfoldable pub behind_other_look_word : List ℕ → Option (List ℕ)
behind_other_look_word words = behind_keyword_of other_look_words words

unfoldable pub is_look_word : List ℕ → Bool
is_look_word words = is_some (behind_look_word words) || is_some (behind_other_look_word words)

-- a statement about how the diagram looks, in a form that is tried after all others
unfoldable pub is_late_look : List ℕ → Bool
is_late_look words =
    is_look_word words || is_page words || is_footbox words || is_space words || is_duration words
