use Rattle.std.proofs.Common.{◌≡◌, ◌+◌, ◌<◌, ◌≤◌, [], ◌∷◌, ◌++◌, length, map, take, sym, ap, ◌∙◌, subst, arith, rules, tests}
use Rattle.std.specs.Prelude.{filter}
use Rattle.std.specs.List.{range_with_len}
use Rattle.std.proofs.lemmas.List.{take_more, take_all}
use Rattle.std.proofs.lemmas.List.Elements.{All-more, filter_from_retain}
use Rattle.std.proofs.lemmas.List.FromFn.{length-map-range_with_len}
use Rattle.schedule.specs.declared.command.Command.{Command}
use Rattle.schedule.specs.Interleaver.Interleavings.{own, are_some}
use Rattle.schedule.proofs.InterleaverLemmas.Queued.{queued-more, kept-map}
use Rattle.schedule.proofs.interleaver.drawing.queues_of.Goals as goal

pub index_mut-requires : goal.index_mut-requires
index_mut-requires c =
    let i = c.loop-command.command-index in
    let among = c.requires i c.command-item.result (omega arith) in
    let actor = ap (λ (x : Command). x.actor) c.command-item.is in
    let size = ap length c.loop-command.invariant.queues ∙ length-map-range_with_len (own (take i c.args.commands.now)) 1 c.args.instances in
    omega (arith, among.0, actor, size, c.loop-command.queues.ok.0)

pub loop-command-preserved : goal.loop-command-preserved
loop-command-preserved c =
    let xs = c.args.commands.now in
    let i = c.loop-command.command-index in
    let command = c.command-item.result in
    let inv = c.loop-command.invariant in
    let within : i < length xs = omega arith in
    let more : take (i + 1) xs ≡ take i xs ++ command ∷ [] = take_more xs i command within ∙ ap (λ (x : Command). take i xs ++ x ∷ []) (sym c.command-item.is) in
    let place : c.place.result < c.args.instances = omega (arith, (c.requires i command within).0, ap (λ (x : Command). x.actor) c.command-item.is) in
    record {
      queues = rw more (queued-more c.args.instances c.place.result (take i xs) command c.loop-command.queues.items c.index_mut.result.now c.push.new.self c.place.ensures.value place inv.queues c.index_mut.ensures.value c.in_ok-push.ensures);
      numbers = All-more (λ x. 1 ≤ x.actor) xs i command within inv.numbers (subst (λ x. 1 ≤ x.actor) c.command-item.is (omega (arith, c.place.ensures.value)));
    }

pub returns-clause-queues : goal.returns-clause-queues
returns-clause-queues c =
    let xs = c.args.commands.now in
    let all : take c.loop-command.command-index xs ≡ xs = take_all c.loop-command.command-index xs (omega arith) in
    let kept = filter_from_retain _ are_some (λ p x b q k. search (rules, tests)) _ _ _ c.retain.ensures.filtered in
    kept ∙ ap (λ qs. filter are_some qs) (c.loop-command.invariant.queues ∙ ap (λ ys. map (own ys) (range_with_len 1 c.args.instances)) all) ∙ kept-map (own xs) (range_with_len 1 c.args.instances)
