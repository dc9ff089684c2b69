-- The names of the rules of direct steps.
use Rattle.std.specs.Prelude.{ℕ, List, codes}
use Rattle.closure.specs.declared.chain.link.Rule.{Rule}
use Rattle.closure.specs.declared.chain.link.Rule.TheVariants.{Message, BeforeSend, SameSender}

-- a rule's name
unfoldable pub rule_text : Rule → List ℕ
rule_text Message = codes "message"
rule_text BeforeSend = codes "earlier event of a line, before a send"
rule_text SameSender = codes "same sender"
