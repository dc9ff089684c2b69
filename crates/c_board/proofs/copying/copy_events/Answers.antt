use Rattle.std.proofs.Common.{◌≡◌, ℕ, ◌<◌, ◌≤◌, ◌∷◌, List, length, drop, set, sym, ap, ◌∙◌, arith, inl, inr}
use Rattle.std.proofs.lemmas.List.{drop-map}
use Rattle.chart.specs.declared.instance.EventNo.{EventNo}
use Rattle.c_board.specs.Copying.{indices, put_over}
use Rattle.c_board.proofs.Lists.{put_next, put_all, drop_next, drop_less}
use Rattle.c_board.proofs.KeptLists.{length-indices}
use Rattle.c_board.proofs.copying.copy_events.Goals as goal
use Rattle.c_board.proofs.copying.copy_events.Goals.{in-None, in-Some+then-place-out}

pub loop-event-preserved : goal.loop-event-preserved
loop-event-preserved c =
    let its = c.loop-event.invariant in
    let place = c.loop-event.place in
    let events = c.into_iter-event-iterator.result in
    let left : drop place events ≡ c.in-Some.event ∷ c.next.new.self = sym its.left ∙ c.in-Some.ensures.steps in
    let few : place < length events = drop_less events place _ _ left in
    let less : place < length c.args.out.now = omega (arith, its.within, c.if-place-out.false, c.loop-event.auto.out) in
    record {
      within = omega (arith, less);
      few = omega (arith, few);
      put = ap (λ (xs : List ℕ). set xs place c.in-Some.event.index) its.put
          ∙ put_next (indices events) c.args.out.now place c.in-Some.event.index (indices c.next.new.self) less (drop-map (λ (event : EventNo). event.index) place events ∙ ap indices left);
      left = sym (drop_next events place _ _ left);
    }

pub returns-clause-copied : goal.returns-clause-copied
returns-clause-copied c =
    let its = c.loop-event.invariant in
    let place = c.loop-event.place in
    let events = c.into_iter-event-iterator.result in
    let few : place ≤ length (indices events) = omega (arith, its.few, length-indices events) in
    let whole : put_over (indices events) c.args.out.now ≡ put_over (indices c.args.events.now) c.args.out.now = ap (λ (xs : List EventNo). put_over (indices xs) c.args.out.now) (c.into_iter-event-iterator.ensures.into_iter_gives ∙ c.iter-event-items.ensures) in
    its.put ∙ elim c.match-next.branch [
      | in-None w ↦ put_all (indices events) c.args.out.now place its.within few (inl (drop-map (λ (event : EventNo). event.index) place events ∙ ap indices (sym its.left ∙ w.in-None.ensures.steps.0)))
      | in-Some+then-place-out w ↦ put_all (indices events) c.args.out.now place its.within few (inr (w.if-place-out.true ∙ c.loop-event.auto.out))
    ] ∙ whole
