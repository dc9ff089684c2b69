-- A behaviour that receives from one instance until the lane ends, and keeps the length of the last body.
use Rattle.std.specs.Prelude.{ℕ, length}
use Rattle.behaviour.specs.declared.act.Act.{Act}
use Rattle.behaviour.specs.declared.act.Act.TheVariants.{Receive, Stop}
use Rattle.behaviour.specs.declared.answer.Answer.{Answer}
use Rattle.behaviour.specs.declared.answer.Answer.TheVariants.{Got, Ended}

abbrev pub reader_act : ℕ → Answer → Act
reader_act from Ended = Stop
reader_act from _ = Receive from

abbrev pub bytes_after : ℕ → Answer → ℕ
bytes_after bytes (Got arrival) = length arrival.message.body
bytes_after bytes _ = bytes

-- the act of a behaviour that receives from one instance until a message comes
abbrev pub waiter_act : ℕ → Answer → Act
waiter_act from (Got arrival) = Stop
waiter_act from _ = Receive from
