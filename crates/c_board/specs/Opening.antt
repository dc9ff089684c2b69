-- What opening a board over handles answers (this project's profile).
use Rattle.std.specs.Prelude.{◌≡◌, ℕ, suc, List, [], length, map, slice_get, Option, None, Some, Result, Ok, Err}
use Rattle.atomic_table.specs.Seated.{TableId}
use Rattle.board.specs.Known.{IsSized}
use Rattle.board.specs.Views.{BoardView, PostView}
use Rattle.board.specs.Boards.{IsUnmade, new_post, AreNewPosts}
use Rattle.std.specs.Global.{Vec}
use Rattle.std.specs.declared.alloc.Global.{Global}
use Rattle.std_alloc.specs.declared.boxed.Box.{Box}
use Rattle.c_board.specs.declared.handle.Handle.{Handle}
use Rattle.c_board.specs.declared.kept.Kept.{Kept}
use Rattle.c_board.specs.declared.kept.Kept.TheVariants.{Post}
use Rattle.board.specs.declared.error.BoardError.{BoardError}
use Rattle.c_board.specs.declared.board_number.BoardNumber.{BoardNumber}
use Rattle.c_board.specs.declared.misuse.Misuse.TheVariants as misuse
use Rattle.c_board.specs.declared.misuse.Numbering.{Numbering}
use Rattle.c_board.specs.declared.opening.OpenRefusal.{OpenRefusal}
use Rattle.c_board.specs.declared.opening.OpenRefusal.TheVariants.{InUse, NotMade}
use Rattle.c_board.specs.Refusals.{of_board, of_misuse}
use Rattle.c_board.specs.PostStates.{PostStateView}

-- what each of these handles keeps
abbrev pub kept_by : List Handle → List (Option Kept)
kept_by handles = map (λ (handle : Handle). handle.slot.value) handles

-- none of these handles keeps anything
abbrev pub AreEmpty : List (Option Kept) → Type 0
AreEmpty all = (i : ℕ) (kept : Option Kept) → slice_get all i ≡ Some kept → kept ≡ None

-- one of these handles keeps something
abbrev pub IsOneFull : List (Option Kept) → Type 0
IsOneFull all = (i : ℕ) × (kept : Kept) × (slice_get all i ≡ Some (Some kept))

-- a seated post before its first call, of a board with this number
abbrev pub seated : BoardNumber → PostView → PostStateView
seated number post = record { post = post; last = 0; came = []; board_number = number }

-- the handles keep the posts of a new board with this number, in order of their instances
abbrev pub AreSeated : BoardNumber → BoardView → List (Option Kept) → Type 0
AreSeated number board all = (i : ℕ) (kept : Option Kept) → slice_get all i ≡ Some kept
    → kept ≡ Some (Post (seated number (new_post board (suc i))))

-- The first of these that applies refuses to open a board (docs/reference/refusals.md): that a handle is in use, which
-- is a misuse; that no board has so many instances, F8, or lanes of so many slots, F9; and memory, F6.
abbrev pub IsFirstOfOpening : ℕ → List (Option Kept) → OpenRefusal → Type 0
IsFirstOfOpening k old InUse = IsOneFull old
IsFirstOfOpening k old (NotMade error) = AreEmpty old × IsUnmade (length old) k error

-- what opening a board answers: its lanes have k slots, it has this number, and it has an instance for each of the
-- handles, which kept nothing
abbrev pub Opens : ℕ → BoardNumber → List (Option Kept) → Result (Unit {0}) OpenRefusal → List (Option Kept) → Type 0
Opens k number old (Ok done) new = AreEmpty old × IsSized (length old) k × (length new ≡ length old)
    × (table : TableId) × AreSeated number (record { table = table; size = length old; capacity = k }) new
Opens k number old (Err refusal) new = (new ≡ old) × IsFirstOfOpening k old refusal

-- the number of each refusal
abbrev pub of_opening : Numbering → OpenRefusal → ℕ
of_opening misuses InUse = of_misuse misuses misuse.InUse
of_opening misuses (NotMade error) = of_board error

-- what boxes with these posts keep, in their order
abbrev pub seats_of : BoardNumber → List PostView → List Kept
seats_of number posts = map (λ (post : PostView). Post (seated number post)) posts

-- what boxes keep
abbrev pub values_of : List (Box Kept Global) → List Kept
values_of boxes = map (λ (box : Box Kept Global). box.value) boxes

abbrev pub all_of : List Kept → List (Option Kept)
all_of all = map (λ (kept : Kept). Some kept) all

-- the posts of a new board with this number, in order of their instances, or why there are none
abbrev pub MakesPosts : ℕ → ℕ → BoardNumber → Result (Vec (Box Kept Global)) BoardError → Type 0
MakesPosts n k number (Ok boxes) = IsSized n k × (board : BoardView) × (board.size ≡ n) × (board.capacity ≡ k)
    × (posts : List PostView) × AreNewPosts board posts × (values_of boxes.items ≡ seats_of number posts)
MakesPosts n k number (Err error) = IsUnmade n k error
