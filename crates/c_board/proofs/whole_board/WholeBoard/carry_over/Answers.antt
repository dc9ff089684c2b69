use Rattle.c_board.specs.Opening.{kept_by}
use Rattle.c_board.proofs.CarryLemmas.{still_left}
use Rattle.c_board.proofs.whole_board.WholeBoard.carry_over.Goals as goal

pub invariant_of-self : goal.invariant_of-self
invariant_of-self c = still_left (record { gathered = c.self.inside.gathered; capacity = c.self.inside.capacity }) (record { gathered = c.carry_gathered.new.it; capacity = c.self.inside.capacity })
    (kept_by c.args.handles.now) c.args.sends.now c.carry_gathered.result (kept_by c.carry_gathered.new.handles) c.carry_gathered.new.sends c.self.invariant c.carry_gathered.ensures
