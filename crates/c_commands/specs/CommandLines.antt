-- What the program does for a command line whose files are texts in memory, if its output goes into a caller's buffers
-- (this project's profile). They get as much as there is room for.
use Rattle.std.specs.Prelude.{◌≡◌, ◌⊎◌, ℕ, List, [], length, slice_get, Result, Ok, Err}
use Rattle.cmd_base.specs.declared.error.ProgramError.{ProgramError}
use Rattle.c_board.specs.Copying.{put_over}
use Rattle.c_board.specs.declared.misuse.Misuse.{Misuse}
use Rattle.c_board.specs.declared.misuse.Misuse.TheVariants.{WrongNumber}
use Rattle.texts.specs.Outs.{Stored}
use Rattle.cli.specs.declared.view.request.Request.{Request}
use Rattle.mscview_requests.specs.FileCounts.{files_read}
use Rattle.mscview_requests.specs.Lines as lines
use Rattle.mscview_requests.specs.Effects as views
use Rattle.c_commands.specs.Performing.{in_memory, nothing}
use Rattle.c_commands.specs.Texts.{given_at}
use Rattle.c_commands.specs.declared.performing.Performed.{Performed}
use Rattle.c_commands.specs.declared.given.Bytes.{Bytes}

-- the program writes these texts, and exits with the status. The buffers have as much of them as there is room for, and
-- the result has their whole lengths
pub record AreCopied (written diagnostics room_out room_err : List ℕ) (performed : Performed) (out err : List ℕ) : Type 0 where
  pub out_is : out ≡ put_over written room_out
  pub err_is : err ≡ put_over diagnostics room_err
  pub out_length : performed.out ≡ length written
  pub err_length : performed.err ≡ length diagnostics

-- the request was done with the texts
abbrev pub IsViewed : List Bytes → Request → List ℕ → List ℕ → Performed → List ℕ → List ℕ → Type 0
IsViewed texts request room_out room_err performed out err = (written : Stored) × (diagnostics : Stored)
    × views.Views (λ place file answer. answer ≡ given_at (slice_get texts place)) (views.stream in_memory nothing written) (views.stream in_memory nothing diagnostics)
    request performed.status
    × AreCopied written.bytes diagnostics.bytes room_out room_err performed out err

-- the words were refused: only the refusal's line is written
abbrev pub IsRefused : ProgramError → List ℕ → List ℕ → Performed → List ℕ → List ℕ → Type 0
IsRefused error room_out room_err performed out err = (diagnostics : Stored)
    × views.IsRefusedBy error in_memory nothing diagnostics performed.status × AreCopied [] diagnostics.bytes room_out room_err performed out err

-- the request reads as many files as there are texts, and was done; or it reads another number of files, and the
-- buffers stay as they were
abbrev pub Views : List Bytes → Request → List ℕ → List ℕ → Result Performed Misuse → List ℕ → List ℕ → Type 0
Views texts request room_out room_err (Ok performed) out err = (files_read request ≡ length texts)
    × IsViewed texts request room_out room_err performed out err
Views texts request room_out room_err (Err how) out err = (how ≡ WrongNumber) × (files_read request ≡ length texts → ⊥)
    × (out ≡ room_out) × (err ≡ room_err)

-- some words are no request
abbrev pub RefusesWords : List ℕ → List ℕ → Result Performed Misuse → List ℕ → List ℕ → Type 0
RefusesWords room_out room_err (Ok performed) out err = (error : ProgramError) × lines.RefusesWords error
    × IsRefused error room_out room_err performed out err
RefusesWords room_out room_err (Err refusal) out err = ⊥

-- the request of some words was done, or the words are no request
abbrev pub ViewsSome : List Bytes → List ℕ → List ℕ → Result Performed Misuse → List ℕ → List ℕ → Type 0
ViewsSome texts room_out room_err result out err =
    ((request : Request) × Views texts request room_out room_err result out err) ⊎ RefusesWords room_out room_err result out err
