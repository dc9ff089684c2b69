-- The acts of the server.
use Rattle.std.specs.Prelude.{ℕ, ◌-◌, ◌==◌, Bool, true, false, List, drop}
use Rattle.behaviour.specs.declared.act.Act.{Act}
use Rattle.behaviour.specs.declared.act.Act.TheVariants as act
use Rattle.behaviour.specs.declared.answer.Answer.{Answer}
use Rattle.behaviour.specs.declared.answer.Answer.TheVariants.{Start, Sent, Got, Nothing}
use Rattle.example_timed_requests.specs.declared.letters.Letter.{Letter}
use Rattle.example_timed_requests.specs.declared.server.ServerStep.{ServerStep}
use Rattle.example_timed_requests.specs.declared.server.ServerStep.TheVariants.{Wait, Tell, Reply, LeaveClient, LeaveLogger, Stop}
use Rattle.example_timed_requests.specs.Letters.{act_of_first}

-- the number of turns that it still waits after this answer: one less if nothing came, and otherwise all of its
-- patience
abbrev pub turns_left : ℕ → ℕ → Answer → ℕ
turns_left patience left Nothing = left - 1
turns_left patience left _ = patience

-- the next step, by the answer to the step before and by whether it is too late to wait
abbrev pub server_step : ServerStep → Answer → Bool → ServerStep
server_step Wait Start late = Wait
server_step Wait Nothing true = LeaveClient
server_step Wait Nothing false = Wait
server_step Wait (Got arrival) late = Tell
server_step Wait _ late = LeaveClient
server_step Tell (Sent event) late = Reply
server_step Tell _ late = LeaveClient
server_step Reply (Sent event) late = Wait
server_step Reply _ late = LeaveClient
server_step LeaveClient _ late = LeaveLogger
server_step LeaveLogger _ late = Stop
server_step Stop _ late = Stop

-- the same, by its patience and the number of turns that it still waited
abbrev pub step_after : ServerStep → Answer → ℕ → ℕ → ServerStep
step_after step last patience left = server_step step last (turns_left patience left last == 0)

-- the act of a step, with these letters, to this client and this logger
abbrev pub server_act : ServerStep → List Letter → ℕ → ℕ → Act
server_act Wait letters client logger = act.Receive client
server_act Tell letters client logger = act_of_first letters client
server_act Reply letters client logger = act_of_first letters client
server_act LeaveClient letters client logger = act.Close client
server_act LeaveLogger letters client logger = act.Close logger
server_act Stop letters client logger = act.Stop

-- the letters that are left after a step
abbrev pub server_left : ServerStep → List Letter → List Letter
server_left Tell letters = drop 1 letters
server_left Reply letters = drop 1 letters
server_left _ letters = letters
