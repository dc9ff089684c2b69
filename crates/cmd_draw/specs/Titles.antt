-- The name of a file (this project's own).
use Rattle.std.specs.Prelude.{◌≡◌, ℕ, ◌+◌, List, drop, Option, None, Some}
use Rattle.memchr.specs.Find.{IsLastByte, is_byte}

-- the part of a path after a place, or all of it without a place
abbrev pub behind : Option ℕ → List ℕ → List ℕ
behind None path = path
behind (Some place) path = drop (place + 1) path

-- the name of the file without its folders: the part of its path after the last / (byte 47)
pub record IsFileName (path name : List ℕ) : Type 0 where
  pub slash : Option ℕ
  pub last : IsLastByte (is_byte 47) path slash
  pub is : name ≡ behind slash path
