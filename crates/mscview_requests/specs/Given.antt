-- The bytes of the files that a command line names (this project's profile).
use Rattle.std.specs.Prelude.{◌≡◌, ℕ, ◌+◌, List, [], ◌∷◌, map, bytes_eq, codes, ◌⊎◌, Option, None, Some, Result, Ok, Err, if◌then◌else◌}
use Rattle.std.specs.Global.{Vec}
use Rattle.cmd_base.specs.declared.error.ProgramError.{ProgramError}
use Rattle.cmd_base.specs.declared.error.ProgramError.TheVariants.{Memory}
use Rattle.mscview_requests.specs.declared.file_bytes.FileBytes.{FileBytes}
use Rattle.mscview_requests.specs.FileBytes.{bytes_of}

-- the bytes, or the cause of the refusal
abbrev pub given_in : Result FileBytes ProgramError → Result (List ℕ) ProgramError
given_in (Ok bytes) = Ok (bytes_of bytes)
given_in (Err error) = Err error

-- the name of the file that a word names; `-` is standard input, which has no name
abbrev pub named_so : List ℕ → Option (List ℕ)
named_so word = if bytes_eq word (codes "-") then None else Some word

-- the same for a word that may be missing; without a word, standard input is read
abbrev pub file_named : Option (List ℕ) → Option (List ℕ)
file_named None = None
file_named (Some word) = named_so word

-- the files of a command that reads any number of them: standard input without a word or for a single `-`; among
-- several words `-` is a file's name
abbrev pub files_named : List (List ℕ) → List (Option (List ℕ))
files_named [] = None ∷ []
files_named (word ∷ []) = named_so word ∷ []
files_named (first ∷ second ∷ words) = map Some (first ∷ second ∷ words)

-- the names that diagnostics print with the lines of several files; for one file the list is empty
abbrev pub diagnostic_files : List (List ℕ) → List (List ℕ)
diagnostic_files [] = []
diagnostic_files (word ∷ []) = []
diagnostic_files (first ∷ second ∷ words) = first ∷ second ∷ words

-- the files from this index on were read, with these bytes
abbrev pub AreGiven : (ℕ → Option (List ℕ) → Result (List ℕ) ProgramError → Type 0) → ℕ → List (Option (List ℕ)) → List (List ℕ) → Type 0
AreGiven gives place [] [] = Unit {0}
AreGiven gives place (file ∷ files) (text ∷ texts) = gives place file (Ok text) × AreGiven gives (place + 1) files texts
AreGiven gives place [] (text ∷ texts) = ⊥
AreGiven gives place (file ∷ files) [] = ⊥

-- one of the files from this index on wasn't read, for this cause, and those before it were
abbrev pub IsNotGiven : (ℕ → Option (List ℕ) → Result (List ℕ) ProgramError → Type 0) → ℕ → List (Option (List ℕ)) → ProgramError → Type 0
IsNotGiven gives place [] error = ⊥
IsNotGiven gives place (file ∷ files) error = gives place file (Err error)
    ⊎ ((text : List ℕ) × gives place file (Ok text) × IsNotGiven gives (place + 1) files error)

-- the files were read; or one of them wasn't, or memory ran out
abbrev pub AreAnswered : (ℕ → Option (List ℕ) → Result (List ℕ) ProgramError → Type 0) → List (Option (List ℕ)) → Result (Vec FileBytes) ProgramError → Type 0
AreAnswered gives files (Ok texts) = AreGiven gives 0 files (map bytes_of texts.items)
AreAnswered gives files (Err error) = (error ≡ Memory) ⊎ IsNotGiven gives 0 files error
