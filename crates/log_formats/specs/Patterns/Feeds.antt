-- The number of line feeds of an expression: each `\n`, and each byte that is a line feed. Those in classes that begin
-- with `[^` don't count, since these match other bytes (the syntax of Rust's regex crate: a bracket within a class
-- opens a class, and a closing bracket as the first byte of a class is itself).
use Rattle.std.specs.Prelude.{ℕ, Bool, ◌+◌, ◌-◌, max, ◌==◌, ◌&&◌, ◌||◌, List, [], ◌∷◌, if◌then◌else◌}
use Rattle.log_formats.specs.declared.patterns.feeds.Behind.{Behind}
use Rattle.log_formats.specs.declared.patterns.feeds.Behind.TheVariants.{Backslash, Bracket, Caret, Other}

-- the byte is a line feed, or after a backslash the letter of one, with this number of open classes
abbrev pub is_feed : Behind → ℕ → ℕ → Bool
is_feed Backslash depth b = depth == 0 && (b == 10 || b == 110)
is_feed Bracket depth b = depth == 0 && b == 10
is_feed Caret depth b = depth == 0 && b == 10
is_feed Other depth b = depth == 0 && b == 10

-- what comes before the next byte, if this byte isn't taken by what comes before it
abbrev pub behind_plain : ℕ → Behind
behind_plain b = if b == 92 then Backslash else (if b == 91 then Bracket else Other)

-- what comes before the next byte
abbrev pub behind_next : Behind → ℕ → Behind
behind_next Backslash b = Other
behind_next Bracket b = if b == 94 then Caret else behind_plain b
behind_next Caret b = behind_plain b
behind_next Other b = behind_plain b

-- the number of open classes after a bracket that opens one, counted from the outermost class that begins with `[^`,
-- and 0 if there is no such class
abbrev pub opened : ℕ → ℕ
opened depth = if depth == 0 then 0 else depth + 1

-- the same after a byte that closes no class
abbrev pub depth_plain : ℕ → ℕ → ℕ
depth_plain depth b = if b == 91 then opened depth else depth

-- the same after any byte
abbrev pub depth_next : Behind → ℕ → ℕ → ℕ
depth_next Backslash depth b = depth
depth_next Bracket depth b = if b == 94 then max depth 1 else depth_plain depth b
depth_next Caret depth b = depth_plain depth b
depth_next Other depth b = if b == 93 then depth - 1 else depth_plain depth b

-- the number of line feeds in these bytes, if this comes before the first of them, with this number of open classes
unfoldable pub feeds_from : Behind → ℕ → List ℕ → ℕ
feeds_from behind depth [] = 0
feeds_from behind depth (b ∷ bytes) =
    (if is_feed behind depth b then 1 else 0) + feeds_from (behind_next behind b) (depth_next behind depth b) bytes
