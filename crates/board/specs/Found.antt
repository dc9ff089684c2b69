-- What a receiver finds on a lane (this project's profile).
use Rattle.std.specs.Prelude.{◌≡◌, ℕ, ◌+◌, ◌<◌, ◌≤◌, ◌⊎◌, Bool, true, false, [], length}
use Rattle.chart.specs.Histories.{sent, waiting, is_closed}
use Rattle.board_table.specs.Layout.{LaneView}
use Rattle.board_table.specs.Knowing.{Mine, held, packets_out, vacant_out, Rests, IsEmptying}
use Rattle.board.specs.declared.ends.Incoming.{Incoming}
use Rattle.board.specs.declared.receiving.Found.{Found}
use Rattle.board.specs.declared.receiving.Found.TheVariants.{Messages, Nothing, Ended}

-- the slots of all messages that wait are out with the receiver, and there are some
pub record HasMessages (l : LaneView) (me : Mine) : Type 0 where
  pub emptying : IsEmptying l me
  pub untaken : vacant_out me ≡ 0
  pub some : 0 < length (packets_out me)

-- the lane's end knows of one waiting message, and of `many` messages or of all
pub record KnowsOf (l : LaneView) (many : ℕ) (me : Mine) (end : Incoming) : Type 0 where
  pub waits : end.taken < end.known_put
  pub enough : (end.taken + many ≤ end.known_put) ⊎ (end.known_put ≡ length (sent (held me).seen l.sender l.receiver))

-- a look found that no message waits on the lane, which is closed or not; none waited in what was seen before
pub record HasNone (l : LaneView) (its_end : Bool) (old new : Mine) : Type 0 where
  pub rests : Rests l.instances l.capacity l.receiver new
  pub waits : waiting (held new).seen l.sender l.receiver ≡ []
  pub closed : is_closed (held new).seen l.sender l.receiver ≡ its_end
  pub before : waiting (held old).seen l.sender l.receiver ≡ []
  pub looked : (held old).looks < (held new).looks

abbrev pub IsFound : LaneView → Mine → Mine → Found → Type 0
IsFound l old new Messages = HasMessages l new
IsFound l old new Nothing = HasNone l false old new
IsFound l old new Ended = HasNone l true old new
