-- What making room over a handle answers (this project's profile).
use Rattle.std.specs.Prelude.{◌≡◌, ℕ, min, max, Option, Result, Ok, Err}
use Rattle.chart.specs.declared.line.TheConstants.{MAX_EVENTS}
use Rattle.c_board.specs.declared.kept.Kept.{Kept}
use Rattle.c_board.specs.declared.misuse.Misuse.TheVariants.{NoPost}
use Rattle.c_board.specs.declared.misuse.Numbering.{Numbering}
use Rattle.c_board.specs.declared.reserving.ReserveRefusal.{ReserveRefusal}
use Rattle.c_board.specs.declared.reserving.ReserveRefusal.TheVariants as why
use Rattle.c_board.specs.Contents.{post_in, OverPost}
use Rattle.c_board.specs.PostStates.{PostStateView}
use Rattle.c_board.specs.Refusals.{of_misuse}

-- there is room for as many events, but for no more than a line has; or nothing has changed for lack of memory. What the
-- room is good for, `Sending.IsReserved` says
abbrev pub PostReserves : PostStateView → ℕ → Result (Unit {0}) ReserveRefusal → PostStateView → Type 0
PostReserves old events (Ok done) new = new ≡ record old {
  post = record old.post { room = max old.post.room (min events MAX_EVENTS) };
}
PostReserves old events (Err refusal) new = (refusal ≡ why.Memory) × (new ≡ old)

abbrev pub HandleReserves : Option Kept → ℕ → Result (Unit {0}) ReserveRefusal → Option Kept → Type 0
HandleReserves old events result new = OverPost (post_in old) old new (result ≡ Err (why.Misuse NoPost))
    (λ state after. PostReserves state events result after)

-- the numbers of these refusals
abbrev pub of_unreserved : Numbering → ReserveRefusal → ℕ
of_unreserved misuses (why.Misuse how) = of_misuse misuses how
of_unreserved misuses why.Memory = 6
