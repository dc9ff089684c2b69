-- The version of the C library (include/msc.h, and the file VERSION).
use Rattle.std.specs.Prelude.{ℕ}

-- version 1.0: major × 10,000 + minor × 100 + patch
abbrev pub library_version : ℕ
library_version = 10000
