use Rattle.std.proofs.Common.{refl, ◌∙◌}
use Rattle.repair.proofs.AckLemmas.{ack_is}
use Rattle.repair.proofs.naming.ack.Goals as goal

pub unwrap-requires : goal.unwrap-requires
unwrap-requires c = rw (c.new.ensures ∙ ack_is) refl

pub returns : goal.returns
returns c = let is = c.new.ensures ∙ ack_is in cc
