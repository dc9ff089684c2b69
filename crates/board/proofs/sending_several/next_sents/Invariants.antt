use Rattle.std.proofs.Common.{◌≡◌, ◌≤◌, ◌+◌, vec_len, length, map, take}
use Rattle.std.specs.Vec.{vec_capacity}
use Rattle.board.specs.declared.answer.Sent.{Sent}
use Rattle.board.specs.Sending.{numbered}
use Rattle.board.proofs.sending_several.next_sents.Given as goal

abbrev pub invariant-loop-place : goal.invariant-loop-place
invariant-loop-place l = (map (λ (sent : Sent). sent.event) l.sents.items ≡ numbered l.line.line.instance (length l.line.line.events + 1) (take l.place l.messages)) × (vec_len l.sents ≡ l.place) × (length l.messages ≤ vec_capacity l.sents)
