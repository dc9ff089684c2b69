-- A behaviour that fills its line with a number of sends and a number of receives.
use Rattle.std.specs.Prelude.{ℕ, ◌-◌, Bool, true, false, List, []}
use Rattle.behaviour.specs.declared.act.Act.{Act}
use Rattle.behaviour.specs.declared.act.Act.TheVariants as act
use Rattle.behaviour.specs.declared.answer.Answer.{Answer}
use Rattle.behaviour.specs.declared.answer.Answer.TheVariants.{Sent, Unsent, Got, Nothing, Unreceived}
use Rattle.fuzz_boards.specs.declared.fillers.Deed.{Deed}
use Rattle.fuzz_boards.specs.declared.fillers.Deed.TheVariants.{Send, Take, Stop}

-- the number of sends, and the number of receives, that are left after this answer
abbrev pub sends_left : ℕ → Answer → ℕ
sends_left sends (Sent event) = sends - 1
sends_left sends _ = sends

abbrev pub receives_left : ℕ → Answer → ℕ
receives_left receives (Got arrival) = receives - 1
receives_left receives _ = receives

-- The next deed after this answer, depending on whether all is sent and all is received. If a message isn't sent, or
-- none comes, the other kind of deed is next. If nothing is left to do, a send and a receive are tried, and the refused
-- receive ends the run.
abbrev pub next_deed : Answer → Bool → Bool → Deed
next_deed (Unreceived error) all_sent all_got = Stop
next_deed (Unsent message error) false true = Send
next_deed (Unsent message error) _ _ = Take
next_deed Nothing true all_got = Take
next_deed Nothing false all_got = Send
next_deed _ true false = Take
next_deed _ _ _ = Send

-- the instance to which it sends: alternately one of two
abbrev pub either_of : Bool → ℕ → ℕ → ℕ
either_of true near far = near
either_of false near far = far

-- the act of a deed; a send goes to this instance
abbrev pub act_of : Deed → ℕ → List ℕ → Act
act_of Send to name = act.Send to (record { name = name; body = [] })
act_of Take to name = act.Any
act_of Stop to name = act.Stop
