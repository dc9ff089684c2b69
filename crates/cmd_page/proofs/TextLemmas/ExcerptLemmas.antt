-- The lines of a text that are shown, with one more at a time.
use Rattle.std.proofs.Common.{◌≡◌, ℕ, Bool, List, ◌∷◌, ◌++◌, ap}
use Rattle.std.specs.Prelude.{not}
use Rattle.texts.specs.Outs.{one_more}
use Rattle.cmd_page.specs.declared.text.excerpt.Excerpt.{Excerpt}
use Rattle.cmd_page.specs.Text.Excerpts.{is_shown, next_text, lines_text}

-- a line, and those after it
pub lines_step : (x : Excerpt) (number next : ℕ) (explained shown : Bool) (line : List ℕ) (lines others : List (List ℕ)) → lines ≡ line ∷ others → shown ≡ is_shown x number → next ≡ one_more number
    → lines_text x number explained lines ≡ next_text x number explained line ++ lines_text x next (not shown) others
lines_step x number next explained shown line lines others is s n = rw (n, s) (ap (lines_text x number explained) is)
