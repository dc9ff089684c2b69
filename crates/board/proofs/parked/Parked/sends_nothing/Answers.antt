use Rattle.std.proofs.Common.{◌≢◌, ◌∙◌, length, sym, ap, arith}
use Rattle.std.proofs.lemmas.Bool.{eqb-false}
use Rattle.board.proofs.SendAnswers.{outgoing_at, closed_made, may_send, line_is}
use Rattle.board.proofs.parked.Parked.sends_nothing.Goals as goal

pub returns-then-index-clause-some : goal.returns-then-index-clause-some
returns-then-index-clause-some c =
    let post = c.self.invariant in
    let ne : c.args.to ≢ c.self.inside.number = eqb-false _ _ (sym c.if-eq.ensures) in
    let end = outgoing_at _ _ _ _ _ _ _ _ post c.args.to c.place.result c.index.result.now c.place.ensures.value ne (omega arith) c.index.ensures in
    rw (← c.self.view_is) ((post.least, post.most, omega arith, omega arith, λ e. ne (sym e)), omega arith, closed_made _ _ _ _ _ _ _ _ post c.args.to c.index.result.now end ∙ c.if-index.true)

pub returns-then-many-self-clause-some : goal.returns-then-many-self-clause-some
returns-then-many-self-clause-some c =
    let post = c.self.invariant in
    let ne : c.args.to ≢ c.self.inside.number = eqb-false _ _ (sym c.if-eq.ensures) in
    let may = may_send _ _ _ _ _ _ _ _ post c.self.inside.seat.table_id c.args.to c.place.result c.index.result.now c.place.ensures.value ne (omega arith) c.index.ensures (omega arith) c.if-index.false in
    rw (← c.self.view_is) (may, omega arith)

pub returns-then-len-many-gt-MAX_EVENTS-clause-some : goal.returns-then-len-many-gt-MAX_EVENTS-clause-some
returns-then-len-many-gt-MAX_EVENTS-clause-some c =
    let post = c.self.invariant in
    let ne : c.args.to ≢ c.self.inside.number = eqb-false _ _ (sym c.if-eq.ensures) in
    let may = may_send _ _ _ _ _ _ _ _ post c.self.inside.seat.table_id c.args.to c.place.result c.index.result.now c.place.ensures.value ne (omega arith) c.index.ensures (omega arith) c.if-index.false in
    let line = line_is _ _ _ _ _ _ _ _ post in
    rw (← c.self.view_is) (may, omega arith, omega (arith, ap length line, ap (λ l. length l.events) c.line.ensures))

pub returns-clause-none : goal.returns-clause-none
returns-clause-none c =
    let post = c.self.invariant in
    let ne : c.args.to ≢ c.self.inside.number = eqb-false _ _ (sym c.if-eq.ensures) in
    let may = may_send _ _ _ _ _ _ _ _ post c.self.inside.seat.table_id c.args.to c.place.result c.index.result.now c.place.ensures.value ne (omega arith) c.index.ensures (omega arith) c.if-index.false in
    let line = line_is _ _ _ _ _ _ _ _ post in
    rw (← c.self.view_is) (record { allowed = may; within_capacity = omega arith; short = omega (arith, ap length line, ap (λ l. length l.events) c.line.ensures) })
