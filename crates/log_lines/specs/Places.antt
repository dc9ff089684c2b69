-- The order of lines in several texts.
use Rattle.std.specs.Prelude.{Bool, ◌==◌, ◌&&◌, ◌||◌, nat_lt, if◌then◌else◌}
use Rattle.log_lines.specs.declared.event.Place.{Place}

abbrev pub is_before : Place → Place → Bool
is_before a b = nat_lt a.text b.text || (a.text == b.text && nat_lt a.line b.line)

-- the earlier one of two
abbrev pub earlier : Place → Place → Place
earlier a b = if is_before b a then b else a
