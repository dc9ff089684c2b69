-- Acts and answers without the bodies of their messages and without reports (this project's profile).
use Rattle.std.specs.Prelude.{[]}
use Rattle.behaviour.specs.declared.act.Act.{Act}
use Rattle.behaviour.specs.declared.act.Act.TheVariants as act
use Rattle.behaviour.specs.declared.answer.Answer.{Answer}
use Rattle.behaviour.specs.declared.answer.Answer.TheVariants as answer
use Rattle.behaviour.specs.declared.bare_act.BareAct.{BareAct}
use Rattle.behaviour.specs.declared.bare_act.BareAct.TheVariants.{Send, Receive, Any, Close, Open, Shut, Stop}
use Rattle.behaviour.specs.declared.bare_answer.BareAnswer.{BareAnswer}
use Rattle.behaviour.specs.declared.bare_answer.BareAnswer.TheVariants.{Start, Sent, Unsent, Got, Nothing, Ended, Unreceived, NowClosed, Unclosed, Marked, Unmarked}

-- an act by its kind, its partner and its message's name
abbrev pub bare_act : Act → BareAct
bare_act (act.Send to message) = Send to message.name
bare_act (act.Receive from) = Receive from
bare_act act.Any = Any
bare_act (act.Close to) = Close to
bare_act act.Open = Open
bare_act act.Shut = Shut
bare_act act.Stop = Stop

-- the act with this kind, partner and message's name, and with no bytes in its message's body
abbrev pub with_empty_body : BareAct → Act
with_empty_body (Send to name) = act.Send to (record { name = name; body = [] })
with_empty_body (Receive from) = act.Receive from
with_empty_body Any = act.Any
with_empty_body (Close to) = act.Close to
with_empty_body Open = act.Open
with_empty_body Shut = act.Shut
with_empty_body Stop = act.Stop

-- an answer by its kind and its event or refusal; for a received message, also by its sender
abbrev pub bare_answer : Answer → BareAnswer
bare_answer answer.Start = Start
bare_answer (answer.Sent event) = Sent event
bare_answer (answer.Unsent message error) = Unsent error
bare_answer (answer.Got arrival) = Got arrival.from arrival.report.receive
bare_answer answer.Nothing = Nothing
bare_answer answer.Ended = Ended
bare_answer (answer.Unreceived error) = Unreceived error
bare_answer answer.NowClosed = NowClosed
bare_answer (answer.Unclosed error) = Unclosed error
bare_answer answer.Marked = Marked
bare_answer (answer.Unmarked error) = Unmarked error
