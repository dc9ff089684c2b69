use Rattle.std.proofs.Common.{◌≡◌, ◌+◌, ◌++◌, ◌∷◌, [], ℕ, List, length, length-append, sym, ap, subst, arith}
use Rattle.chart.specs.Charts.{LineView}
use Rattle.board.specs.declared.parting.Leaver.{Leaver}
use Rattle.board.specs.Parting.{IsForLine, AreForLinesBehind, HaveParted}
use Rattle.board.proofs.Leavers.{seen_next, line_fits, parted_next}
use Rattle.board.proofs.parting.part_all.Goals as goal

pub unreachable-requires : goal.unreachable-requires
unreachable-requires c =
    omega (arith, c.in_default.ensures.cases.0, c.loop-place.invariant.events_many, c.loop-place-test.true)

pub part-line-requires-clause-empty : goal.part-line-requires-clause-empty
part-line-requires-clause-empty c =
    let its = c.requires.seen in
    let place = c.loop-place.place in
    let all = subst (AreForLinesBehind its.2 0) (sym c.into_iter-own_events.ensures.rest) its.4.each in
    (subst (AreForLinesBehind its.2 place) c.in-Some.ensures.cases.0 (c.loop-place.invariant.events its.2 all)).0.empty

pub part-line-requires-clause-room : goal.part-line-requires-clause-room
part-line-requires-clause-room c =
    let n = c.args.instances in
    let its = c.requires.seen in
    let place = c.loop-place.place in
    let among = c.take_post.ensures.among in
    let met = (c.loop-place.invariant.seen its.0 its.1 its.2 its.3).each among.0 c.take_post.result among.1 in
    let all = subst (AreForLinesBehind its.2 0) (sym c.into_iter-own_events.ensures.rest) its.4.each in
    let list : IsForLine its.2 (place + 1) c.in-Some.events = (subst (AreForLinesBehind its.2 place) c.in-Some.ensures.cases.0 (c.loop-place.invariant.events its.2 all)).0 in
    line_fits n its.0 its.1 its.2 place c.take_post.result met c.take_post.ensures.number c.in-Some.events list

pub loop-place-preserved : goal.loop-place-preserved
loop-place-preserved c =
    let n = c.args.instances in
    let place = c.loop-place.place in
    let inv = c.loop-place.invariant in
    let post = c.take_post.result in
    let taken = c.take_post.ensures in
    let part = c.part-line.ensures in
    let line = c.part-line.result.0 in
    let leaver = c.part-line.result.1 in
    let lines : c.push_reserved.new.self.items ≡ c.loop-place.lines.items ++ line ∷ [] = c.push_reserved.ensures.items in
    let leavers : c.push_reserved-in-loop-place.new.self.items ≡ c.loop-place.leavers.items ++ leaver ∷ [] = c.push_reserved-in-loop-place.ensures.items in
    record {
      lines = omega (arith, inv.lines, c.push_reserved.ensures.capacity);
      leavers = omega (arith, inv.leavers, c.push_reserved-in-loop-place.ensures.capacity);
      events_many = omega (arith, c.in-Some.ensures.cases.1, inv.events_many);
      events = λ h all. (subst (AreForLinesBehind h place) c.in-Some.ensures.cases.0 (inv.events h all)).1;
      lines_many = omega (arith, ap length lines, length-append c.loop-place.lines.items (line ∷ []), inv.lines_many);
      leavers_many = omega (arith, ap length leavers, length-append c.loop-place.leavers.items (leaver ∷ []), inv.leavers_many);
      seen = λ k table h first. seen_next n k table h place c.loop-place.posts.items c.take_post.new.posts.items (inv.seen k table h first) taken.kept taken.others;
      parted = λ k table h first.
          let met = (inv.seen k table h first).each taken.among.0 post taken.among.1 in
          subst (λ (xs : List LineView). HaveParted (record { table = table; size = n; capacity = k }) h (place + 1) xs c.push_reserved-in-loop-place.new.self.items) (sym lines)
          (subst (λ (xs : List Leaver). HaveParted (record { table = table; size = n; capacity = k }) h (place + 1) (c.loop-place.lines.items ++ line ∷ []) xs) (sym leavers)
          (parted_next n k table h place post met taken.number c.loop-place.lines.items c.loop-place.leavers.items line leaver (inv.parted k table h first) part.line part.table part.left));
    }

pub returns : goal.returns
returns c = λ k table h first.
    let all : c.loop-place.place ≡ c.args.instances = omega arith in
    subst (λ (many : ℕ). HaveParted (record { table = table; size = c.args.instances; capacity = k }) h many c.loop-place.lines.items c.loop-place.leavers.items) all (c.loop-place.invariant.parted k table h first)
