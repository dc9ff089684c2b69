-- The acts of the client.
use Rattle.std.specs.Prelude.{ℕ, List, drop}
use Rattle.behaviour.specs.declared.act.Act.{Act}
use Rattle.behaviour.specs.declared.act.Act.TheVariants as act
use Rattle.behaviour.specs.declared.answer.Answer.{Answer}
use Rattle.behaviour.specs.declared.answer.Answer.TheVariants.{Start, Sent, Got, Nothing}
use Rattle.example_timed_requests.specs.declared.client.ClientStep.{ClientStep}
use Rattle.example_timed_requests.specs.declared.client.ClientStep.TheVariants.{Tell, Ask, Wait, Leave, Stop}
use Rattle.example_timed_requests.specs.declared.letters.Letter.{Letter}
use Rattle.example_timed_requests.specs.Letters.{act_of_first}

-- the next step, by the answer to the step before
abbrev pub client_step : ClientStep → Answer → ClientStep
client_step Tell Start = Tell
client_step Tell (Sent event) = Ask
client_step Tell _ = Leave
client_step Ask (Sent event) = Wait
client_step Ask _ = Leave
client_step Wait Nothing = Wait
client_step Wait (Got arrival) = Tell
client_step Wait _ = Leave
client_step Leave _ = Stop
client_step Stop _ = Stop

-- the act of a step, with these letters, to this server and this logger
abbrev pub client_act : ClientStep → List Letter → ℕ → ℕ → Act
client_act Tell letters server logger = act_of_first letters server
client_act Ask letters server logger = act_of_first letters server
client_act Wait letters server logger = act.Receive server
client_act Leave letters server logger = act.Close logger
client_act Stop letters server logger = act.Stop

-- the letters that are left after a step
abbrev pub client_left : ClientStep → List Letter → List Letter
client_left Tell letters = drop 1 letters
client_left Ask letters = drop 1 letters
client_left _ letters = letters
