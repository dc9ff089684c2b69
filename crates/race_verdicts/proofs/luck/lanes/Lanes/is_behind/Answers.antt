use Rattle.std.proofs.Common.{◌<◌, ◌∙◌, sym, subst, get_or, None, Some}
use Rattle.std.proofs.lemmas.Bool.{false≢true}
use Rattle.race_verdicts.specs.Luck.Behind.{WouldHaveTaken}
use Rattle.race_verdicts.specs.Luck.LaneTables.{AreLaneTables}
use Rattle.race_verdicts.proofs.LuckLemmas.BehindLemmas.{IsWalking, left_before, walk_begins, walk_within, walk_goes, own_lane, walk_finds, walk_over, walk_ends, above_less}
use Rattle.race_verdicts.specs.Recordings.{RecordingView}
use Rattle.race_verdicts.proofs.luck.lanes.Lanes.is_behind.Goals as goal

pub sends-init : goal.sends-init
sends-init c =
    let rec = c.args.self.now in
    let takers = c.self.inside.takers in
    let above = c.self.inside.above in
    let over = c.self.inside.over in
    let are = subst (λ (r : RecordingView). AreLaneTables r.lines takers above over) c.self.view_is c.self.invariant in
    λ q p its. subst (IsWalking rec c.args.line c.args.own c.args.send q p) (sym c.at-next.ensures) (walk_begins rec takers above over are c.args.line c.args.own c.args.send q p its)

pub is_over-requires : goal.is_over-requires
is_over-requires c =
    let rec = c.args.self.now in
    let takers = c.self.inside.takers in
    let above = c.self.inside.above in
    let over = c.self.inside.over in
    let are = subst (λ (r : RecordingView). AreLaneTables r.lines takers above over) c.self.view_is c.self.invariant in
    let send = c.requires.send in
    let lane = own_lane rec takers above over are c.args.line c.args.own c.args.send send in
    let walking : IsWalking rec c.args.line c.args.own c.args.send send.line.entry.host send.line.entry.peer (Some c.in-Some.other) =
    subst (IsWalking rec c.args.line c.args.own c.args.send send.line.entry.host send.line.entry.peer) c.in-Some.is (c.sends.invariant send.line.entry.host send.line.entry.peer lane) in
    walk_within rec takers above over are c.args.line c.args.own c.args.send send.line.entry.host send.line.entry.peer c.in-Some.other walking

pub returns-then-is_over : goal.returns-then-is_over
returns-then-is_over c =
    let rec = c.args.self.now in
    let takers = c.self.inside.takers in
    let above = c.self.inside.above in
    let over = c.self.inside.over in
    let are = subst (λ (r : RecordingView). AreLaneTables r.lines takers above over) c.self.view_is c.self.invariant in
    let send = c.requires.send in
    let lane = own_lane rec takers above over are c.args.line c.args.own c.args.send send in
    let walking : IsWalking rec c.args.line c.args.own c.args.send send.line.entry.host send.line.entry.peer (Some c.in-Some.other) =
    subst (IsWalking rec c.args.line c.args.own c.args.send send.line.entry.host send.line.entry.peer) c.in-Some.is (c.sends.invariant send.line.entry.host send.line.entry.peer lane) in
    walk_over rec takers above over are c.args.line c.args.own c.args.send send c.in-Some.other walking (c.is_over.ensures c.if-is_over.true)

pub would_have_taken-requires-clause-send : goal.would_have_taken-requires-clause-send
would_have_taken-requires-clause-send c =
    let rec = c.args.self.now in
    let takers = c.self.inside.takers in
    let above = c.self.inside.above in
    let over = c.self.inside.over in
    let are = subst (λ (r : RecordingView). AreLaneTables r.lines takers above over) c.self.view_is c.self.invariant in
    let send = c.requires.send in
    let lane = own_lane rec takers above over are c.args.line c.args.own c.args.send send in
    let walking : IsWalking rec c.args.line c.args.own c.args.send send.line.entry.host send.line.entry.peer (Some c.in-Some.other) =
    subst (IsWalking rec c.args.line c.args.own c.args.send send.line.entry.host send.line.entry.peer) c.in-Some.is (c.sends.invariant send.line.entry.host send.line.entry.peer lane) in
    walk_within rec takers above over are c.args.line c.args.own c.args.send send.line.entry.host send.line.entry.peer c.in-Some.other walking

pub returns-then-would_have_taken : goal.returns-then-would_have_taken
returns-then-would_have_taken c =
    let rec = c.args.self.now in
    let takers = c.self.inside.takers in
    let above = c.self.inside.above in
    let over = c.self.inside.over in
    let are = subst (λ (r : RecordingView). AreLaneTables r.lines takers above over) c.self.view_is c.self.invariant in
    let send = c.requires.send in
    let lane = own_lane rec takers above over are c.args.line c.args.own c.args.send send in
    let walking : IsWalking rec c.args.line c.args.own c.args.send send.line.entry.host send.line.entry.peer (Some c.in-Some.other) =
    subst (IsWalking rec c.args.line c.args.own c.args.send send.line.entry.host send.line.entry.peer) c.in-Some.is (c.sends.invariant send.line.entry.host send.line.entry.peer lane) in
    walk_finds rec takers above over are c.args.line c.args.own c.args.send send c.in-Some.other walking (c.would_have_taken.ensures.0 c.if-would_have_taken.true)

pub sends-smaller : goal.sends-smaller
sends-smaller c =
    let rec = c.args.self.now in
    let takers = c.self.inside.takers in
    let above = c.self.inside.above in
    let over = c.self.inside.over in
    let are = subst (λ (r : RecordingView). AreLaneTables r.lines takers above over) c.self.view_is c.self.invariant in
    let send = c.requires.send in
    let lane = own_lane rec takers above over are c.args.line c.args.own c.args.send send in
    let walking : IsWalking rec c.args.line c.args.own c.args.send send.line.entry.host send.line.entry.peer (Some c.in-Some.other) =
    subst (IsWalking rec c.args.line c.args.own c.args.send send.line.entry.host send.line.entry.peer) c.in-Some.is (c.sends.invariant send.line.entry.host send.line.entry.peer lane) in
    subst (λ n. left_before n < left_before c.sends.next) (sym c.at-next-in-Some.ensures)
    (subst (λ n. left_before (get_or above c.in-Some.other None) < left_before n) (sym c.in-Some.is)
    (above_less rec.lines above are.sends send.line.entry.host send.line.entry.peer c.in-Some.other (let its = walking.last.1 in its.on)))

pub sends-preserved : goal.sends-preserved
sends-preserved c =
    let rec = c.args.self.now in
    let takers = c.self.inside.takers in
    let above = c.self.inside.above in
    let over = c.self.inside.over in
    let are = subst (λ (r : RecordingView). AreLaneTables r.lines takers above over) c.self.view_is c.self.invariant in
    λ q p its. subst (IsWalking rec c.args.line c.args.own c.args.send q p) (sym c.at-next-in-Some.ensures)
    (walk_goes rec takers above over are c.args.line c.args.own c.args.send q p c.in-Some.other (subst (IsWalking rec c.args.line c.args.own c.args.send q p) c.in-Some.is (c.sends.invariant q p its))
    (λ (would : WouldHaveTaken rec c.args.line c.args.own c.in-Some.other). false≢true (sym c.if-would_have_taken.false ∙ c.would_have_taken.ensures.1 would)))

pub returns : goal.returns
returns c =
    let rec = c.args.self.now in
    let takers = c.self.inside.takers in
    let above = c.self.inside.above in
    let over = c.self.inside.over in
    let are = subst (λ (r : RecordingView). AreLaneTables r.lines takers above over) c.self.view_is c.self.invariant in
    let send = c.requires.send in
    let lane = own_lane rec takers above over are c.args.line c.args.own c.args.send send in
    walk_ends rec takers above over are c.args.line c.args.own c.args.send send
    (subst (IsWalking rec c.args.line c.args.own c.args.send send.line.entry.host send.line.entry.peer) c.in_default.is (c.sends.invariant send.line.entry.host send.line.entry.peer lane))
