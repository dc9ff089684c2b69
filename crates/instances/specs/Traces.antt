-- What a trace keeps of a run of an instance (this project's profile).
use Rattle.std.specs.Prelude.{List, [], ◌∷◌, ◌++◌, replicate, Option, Some, None}
use Rattle.chart.specs.declared.history.Occurrence.{Occurrence}
use Rattle.chart.specs.declared.history.Occurrence.TheVariants as occurrence
use Rattle.behaviour.specs.declared.act.Act.{Act}
use Rattle.behaviour.specs.declared.answer.Answer.{Answer}
use Rattle.behaviour.specs.declared.bare_act.BareAct.{BareAct}
use Rattle.behaviour.specs.declared.bare_act.BareAct.TheVariants.{Send, Receive, Close, Stop}
use Rattle.behaviour.specs.declared.bare_answer.BareAnswer.{BareAnswer}
use Rattle.behaviour.specs.declared.bare_answer.BareAnswer.TheVariants.{Sent, Got, NowClosed}
use Rattle.behaviour.specs.Bare.{bare_act, bare_answer}
use Rattle.instances.specs.declared.trace.Stretch.{Stretch}
use Rattle.instances.specs.declared.turn.Turn.{Turn}

-- the turns of stretches of equal neighbours
abbrev pub turns_of : List Stretch → List Turn
turns_of [] = []
turns_of (stretch ∷ stretches) = replicate stretch.count stretch.turn ++ turns_of stretches

-- the turn of an act and its answer
abbrev pub turn_of : Act → Answer → Turn
turn_of act answer = record { act = bare_act act; answer = Some (bare_answer answer) }

-- the turn of a stop, which has no answer
abbrev pub last_turn : Turn
last_turn = record { act = Stop; answer = None }

-- The act that made an occurrence, as a trace keeps it. A send has its receiver and its message's name. A receive has
-- its sender, whichever act received it. A close has its receiver.
abbrev pub made_by : Occurrence → BareAct
made_by (occurrence.Send from to message) = Send to message.name
made_by (occurrence.Receive at from region) = Receive from
made_by (occurrence.Close from to) = Close to

-- the act that was made, according to this answer
abbrev pub accepted : BareAct → Option BareAnswer → List BareAct
accepted act (Some (Sent event)) = act ∷ []
accepted act (Some (Got from event)) = Receive from ∷ []
accepted act (Some NowClosed) = act ∷ []
accepted act _ = []

-- the acts of these turns that were accepted
abbrev pub all_accepted : List Turn → List BareAct
all_accepted [] = []
all_accepted (turn ∷ turns) = accepted turn.act turn.answer ++ all_accepted turns
