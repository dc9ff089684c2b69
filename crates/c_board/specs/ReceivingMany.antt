-- What a receive of several messages over a handle answers, and how they are described (this project's profile).
use Rattle.std.specs.Prelude.{◌≡◌, ◌≤◌, ℕ, List, length, map, Option, Result, Ok, Err}
use Rattle.std.specs.Global.{Vec}
use Rattle.board.specs.declared.answer.Arrival.{Arrival}
use Rattle.board.specs.declared.answer.TakenMany.TheVariants as taken
use Rattle.board.specs.Views.{Sound}
use Rattle.board.specs.TakingMany.{TakesMany}
use Rattle.c_board.specs.declared.found.Arrived.{Arrived}
use Rattle.c_board.specs.declared.found.FoundMany.{FoundMany}
use Rattle.c_board.specs.declared.found.FoundMany.TheVariants.{Messages, Nothing, Ended}
use Rattle.c_board.specs.declared.kept.Kept.{Kept}
use Rattle.c_board.specs.declared.misuse.Misuse.TheVariants.{NoPost, WrongNumber}
use Rattle.c_board.specs.declared.receiving.TakeRefusal.{TakeRefusal}
use Rattle.c_board.specs.declared.receiving.TakeRefusal.TheVariants as why
use Rattle.c_board.specs.Contents.{post_in, OverPost}
use Rattle.c_board.specs.Copying.{put_over}
use Rattle.c_board.specs.Receiving.{arrived_of}
use Rattle.c_board.specs.PostStates.{PostStateView, Keeps}
use Rattle.c_board.specs.Sending.{IsNoInstance, MayBeInstance}

-- the messages stay in the handle; each is described, in their order, and they are counted; the post is of the same
-- board
pub record AreOutput (arrivals : List Arrival) (from : ℕ) (room : List Arrived) (count : ℕ) (old new : PostStateView)
    (output : List Arrived) : Type 0 where
  pub each : output ≡ put_over (map arrived_of arrivals) room
  pub many : count ≡ length arrivals
  pub stay : new.came ≡ arrivals
  pub last : new.last ≡ from
  pub board : new.board_number ≡ old.board_number

-- The first of these that applies refuses a receive of several messages over a seated post (docs/reference/refusals.md):
-- that no instance has the number, F14; that there is no room for one, which is a misuse; and the first of what the
-- post's own call refuses.
abbrev pub IsFirstOfTakeMany : PostStateView → ℕ → ℕ → TakeRefusal → PostStateView → Type 0
IsFirstOfTakeMany old from most why.NoInstance new = (new ≡ old) × IsNoInstance from
IsFirstOfTakeMany old from most (why.Misuse how) new = (new ≡ old) × MayBeInstance from × (most ≡ 0)
    × (how ≡ WrongNumber)
IsFirstOfTakeMany old from most (why.Post refused) new = MayBeInstance from × (1 ≤ most) × Keeps old new
    × Sound old.post new.post × TakesMany old.post from most (Err refused) new.post

-- what a receive of several messages answers for a seated post: the same as the post's own call, for at most as many as
-- there are places for descriptions
abbrev pub PostTakesMany : PostStateView → ℕ → List Arrived → Result FoundMany TakeRefusal → PostStateView → List Arrived → Type 0
PostTakesMany old from room (Ok (Messages count stop)) new output = (arrivals : Vec Arrival)
    × AreOutput arrivals.items from room count old new output × Sound old.post new.post
    × TakesMany old.post from (length room) (Ok (taken.Got arrivals stop)) new.post
PostTakesMany old from room (Ok Nothing) new output = Keeps old new × (output ≡ room) × Sound old.post new.post
    × TakesMany old.post from (length room) (Ok taken.Nothing) new.post
PostTakesMany old from room (Ok Ended) new output = Keeps old new × (output ≡ room) × Sound old.post new.post
    × TakesMany old.post from (length room) (Ok taken.Ended) new.post
PostTakesMany old from room (Err refusal) new output = (output ≡ room)
    × IsFirstOfTakeMany old from (length room) refusal new

-- the same for a handle
abbrev pub HandleTakesMany : Option Kept → ℕ → List Arrived → Result FoundMany TakeRefusal → Option Kept → List Arrived
    → Type 0
HandleTakesMany old from room result new output = OverPost (post_in old) old new
    ((output ≡ room) × (result ≡ Err (why.Misuse NoPost)))
    (λ state after. PostTakesMany state from room result after output)
