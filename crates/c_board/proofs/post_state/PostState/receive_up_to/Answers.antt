use Rattle.std.proofs.Common.{◌≡◌, ◌≤◌, ◌∙◌, List, length, map, refl, ap, rules}
use Rattle.board.specs.declared.answer.Arrival.{Arrival}
use Rattle.board.specs.TakingMany.{AreGot, Stops}
use Rattle.board.specs.Views.{Sound}
use Rattle.c_board.specs.Copying.{put_over}
use Rattle.c_board.specs.Receiving.{arrived_of}
use Rattle.c_board.proofs.post_state.PostState.receive_up_to.Goals as goal

each_of : (c : goal.Joined-self) → c.copy_each.new.output ≡ put_over (map arrived_of c.in-Ok-Got.arrivals.items) c.args.output.now
each_of c = c.copy_each.ensures ∙ ap (λ (xs : List Arrival). put_over (map arrived_of xs) c.args.output.now) c.as_slice.ensures.value

many_of : (c : goal.Joined-self) → c.len-count.result ≡ length c.in-Ok-Got.arrivals.items
many_of c = search rules

from_of : (c : goal.Joined-self) → c.in-Some.from ≡ c.args.from
from_of c = search rules

board_of : (c : goal.Joined-self) → c.self.inside.board_number ≡ c.args.self.now.board_number
board_of c = search rules

sound_of : (c : goal.Joined-self) → Sound c.args.self.now.post c.receive_up_to.new.self
sound_of c = search rules

got_of : (c : goal.Joined-self) → AreGot c.args.self.now.post c.args.from c.in-Ok-Got.arrivals.items c.receive_up_to.new.self
got_of c = search rules

most_of : (c : goal.Joined-self) → length c.in-Ok-Got.arrivals.items ≤ length c.args.output.now
most_of c = search rules

stops_of : (c : goal.Joined-self) → Stops c.args.self.now.post c.args.from (length c.args.output.now) c.in-Ok-Got.arrivals.items c.in-Ok-Got.stop c.receive_up_to.new.self
stops_of c = search rules

pub returns-in-Ok-Got : goal.returns-in-Ok-Got
returns-in-Ok-Got c = (c.in-Ok-Got.arrivals, record { each = each_of c; many = many_of c; stay = refl; last = from_of c; board = board_of c }, sound_of c, (got_of c, most_of c, stops_of c))
