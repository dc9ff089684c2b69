use Rattle.std.proofs.Common.{◌≢◌, sym, arith}
use Rattle.std.proofs.lemmas.Bool.{eqb-false}
use Rattle.board.proofs.parked.Parked.lane_from.Goals as goal

pub returns-clause-ok : goal.returns-clause-ok
returns-clause-ok c =
    let post = c.self.invariant in
    let ne : c.args.from ≢ c.self.inside.number = eqb-false _ _ (sym c.if-eq.ensures) in
    rw (← c.self.view_is) (record { two = (post.least, post.most, omega arith, omega arith, λ e. ne (sym e)); is = c.new.ensures })
