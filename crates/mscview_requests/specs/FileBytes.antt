-- The bytes of a file.
use Rattle.std.specs.Prelude.{ℕ, List}
use Rattle.mscview_requests.specs.declared.file_bytes.FileBytes.{FileBytes}
use Rattle.mscview_requests.specs.declared.file_bytes.FileBytes.TheVariants.{Read, Lent}

-- the bytes, read or lent
abbrev pub bytes_of : FileBytes → List ℕ
bytes_of (Read bytes) = bytes.items
bytes_of (Lent bytes) = bytes.now
