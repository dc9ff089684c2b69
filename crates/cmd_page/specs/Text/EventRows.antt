-- The line of an event among the commands of a schedule's text. Lanes are first in, first out, so the events of one
-- lane have the same order in each run. The n-th of them is determined by its number.
use Rattle.std.specs.Prelude.{ℕ, ◌-◌, ◌==◌, ◌&&◌, bytes_eq, Bool, false, List, [], ◌∷◌, if◌then◌else◌}
use Rattle.texts.specs.Lines.{words_of, lines_of}
use Rattle.texts.specs.Outs.{one_more}
use Rattle.cmd_page.specs.declared.text.event_rows.Deed.{Deed}

-- the action of a command: its instance, whether it sends or receives, and its partner
pub record Done : Type 0 where
  pub instance : List ℕ
  pub verb : List ℕ
  pub partner : List ℕ

abbrev pub done_by : Deed → Done
done_by deed = record { instance = deed.instance.now; verb = deed.verb.now; partner = deed.partner.now }

-- three words state this action
abbrev pub is_so : Done → List ℕ → List ℕ → List ℕ → Bool
is_so deed instance verb partner =
    bytes_eq instance deed.instance && bytes_eq verb deed.verb && bytes_eq partner deed.partner

-- the words of a line state it: NAME receive NAME, or NAME send NAME MESSAGE
abbrev pub says : Done → List (List ℕ) → Bool
says deed [] = false
says deed (a ∷ []) = false
says deed (a ∷ b ∷ []) = false
says deed (a ∷ b ∷ c ∷ []) = is_so deed a b c
says deed (a ∷ b ∷ c ∷ d ∷ []) = is_so deed a b c
says deed (a ∷ b ∷ c ∷ d ∷ e ∷ others) = false

-- a line states it, and is the last one to be found
abbrev pub is_turn : Done → ℕ → List ℕ → Bool
is_turn deed left line = says deed (words_of line) && left == 1

-- the number of lines to be found after a line
abbrev pub left_behind : Done → ℕ → List ℕ → ℕ
left_behind deed left line = if says deed (words_of line) then left - 1 else left

-- the number of the first line after which none is to be found, with lines numbered from a given number; numbers stop
-- at u64::MAX
abbrev pub row_from : Done → ℕ → ℕ → List (List ℕ) → ℕ
row_from deed left number [] = 0
row_from deed left number (line ∷ lines) =
    if is_turn deed left line then number else row_from deed (left_behind deed left line) (one_more number) lines

-- the number, from 1, of the line that states the action for the turn-th time, or 0 if none does
abbrev pub row_of : Done → ℕ → List ℕ → ℕ
row_of deed turn text = row_from deed turn 1 (lines_of text)
