-- A name's bytes as they are held, in a field of a fixed size (this project's profile).
use Rattle.std.specs.Prelude.{ℕ, ◌-◌, ◌==◌, List, ◌++◌, length, take, replicate, nat_le, slice_index, slice_set, if◌then◌else◌}
use Rattle.chart.specs.declared.name.TheConstants.{MAX_NAME}

-- the name's bytes; if there are fewer than the most, zeros follow, and the last byte is the number of missing bytes
abbrev pub padded : List ℕ → List ℕ
padded w =
    if length w == MAX_NAME then w
    else slice_set (w ++ replicate (MAX_NAME - length w) 0) (MAX_NAME - 1) (MAX_NAME - length w)

-- how many of the held bytes are the name's; a last byte that is the name's own is greater than any number of missing
-- bytes
abbrev pub held_len : List ℕ → ℕ
held_len held =
    if nat_le MAX_NAME (slice_index held (MAX_NAME - 1)) then MAX_NAME
    else MAX_NAME - slice_index held (MAX_NAME - 1)

-- the name's bytes among the held ones
abbrev pub unpadded : List ℕ → List ℕ
unpadded held = take (held_len held) held
