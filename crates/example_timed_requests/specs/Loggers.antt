-- The acts of the logger.
use Rattle.behaviour.specs.declared.act.Act.{Act}
use Rattle.behaviour.specs.declared.act.Act.TheVariants.{Any, Stop}
use Rattle.behaviour.specs.declared.answer.Answer.{Answer}
use Rattle.behaviour.specs.declared.answer.Answer.TheVariants.{Start, Got, Nothing}

-- it receives any message, until a receive finds the end or is refused
abbrev pub logger_act : Answer → Act
logger_act Start = Any
logger_act Nothing = Any
logger_act (Got arrival) = Any
logger_act _ = Stop
