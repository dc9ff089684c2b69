-- What closing a lane over a handle answers (this project's profile).
use Rattle.std.specs.Prelude.{◌≡◌, ℕ, Option, Result, Ok, Err}
use Rattle.board.specs.Views.{Sound}
use Rattle.board.specs.Closing.{IsClosed, IsUnclosed}
use Rattle.c_board.specs.declared.closing.CloseRefusal.{CloseRefusal}
use Rattle.c_board.specs.declared.closing.CloseRefusal.TheVariants as why
use Rattle.c_board.specs.declared.kept.Kept.{Kept}
use Rattle.c_board.specs.declared.misuse.Misuse.TheVariants.{NoPost}
use Rattle.c_board.specs.declared.misuse.Numbering.{Numbering}
use Rattle.c_board.specs.Contents.{post_in, OverPost}
use Rattle.c_board.specs.PostStates.{PostStateView, Keeps}
use Rattle.c_board.specs.Refusals.{of_misuse, of_close}
use Rattle.c_board.specs.Sending.{IsNoInstance}

-- what closing a lane answers for a seated post: the same as the post's own call
abbrev pub PostCloses : PostStateView → ℕ → Result (Unit {0}) CloseRefusal → PostStateView → Type 0
PostCloses old to (Ok done) new = Keeps old new × Sound old.post new.post × IsClosed old.post to new.post
PostCloses old to (Err (why.Misuse _)) new = ⊥
PostCloses old to (Err why.NoInstance) new = (new ≡ old) × IsNoInstance to
PostCloses old to (Err (why.Post refused)) new = (new ≡ old) × IsUnclosed old.post to refused

abbrev pub HandleCloses : Option Kept → ℕ → Result (Unit {0}) CloseRefusal → Option Kept → Type 0
HandleCloses old to result new = OverPost (post_in old) old new (result ≡ Err (why.Misuse NoPost))
    (λ state after. PostCloses state to result after)

-- the numbers of these refusals
abbrev pub of_unclosed : Numbering → CloseRefusal → ℕ
of_unclosed misuses (why.Misuse how) = of_misuse misuses how
of_unclosed misuses why.NoInstance = 14
of_unclosed misuses (why.Post refused) = of_close refused
