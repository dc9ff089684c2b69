use Rattle.std.proofs.Common.{◌≡◌, ◌<◌, ◌++◌, ◌∷◌, [], map, ap, sym, ◌∙◌, subst}
use Rattle.log_chart.specs.Chains.{IsChain}
use Rattle.log_chart.specs.Cursors.{left_from}
use Rattle.log_chart.specs.Items.{invented}
use Rattle.log_chart.proofs.BegunLemmas.{one_chain, next_chain, left_less}
use Rattle.log_chart.proofs.host_line.push_behind.Goals as goal

pub numbers-init : goal.numbers-init
numbers-init c =
    let lists = c.requires.rising.0 in
    let n = c.args.line.now.number in
    let chain = c.requires.rising.1 n c.requires.within in (
      lists n,
      subst (λ k. IsChain c.args.behind.now.next.items k (lists n)) (sym c.first_of-next.ensures) chain,
      c.requires.rising.2 n,
      λ xs other. ap (λ l. c.args.items.now.items ++ map (invented c.args.line.now.entry.peer) l) (one_chain _ _ _ _ chain other),
    )

pub numbers-preserved : goal.numbers-preserved
numbers-preserved c =
    let inv = c.numbers.invariant in
    let p = c.args.line.now.entry.peer in
    let grown : c.push.new.self.items ≡ c.numbers.items.items ++ invented p c.in-Some.number ∷ [] = c.in_ok-push.ensures.items ∙ ap (λ i. c.numbers.items.items ++ i ∷ []) c.invented.ensures in
    let more = next_chain c.args.behind.now.next.items c.in-Some.number c.numbers.next inv.0 c.numbers.items.items c.push.new.self.items p c.in-Some.is inv.1 inv.2 grown in
    (more.0, subst (λ k. IsChain c.args.behind.now.next.items k more.0) (sym c.next_of-next.ensures) more.1, more.2, λ xs chain. more.3 ∙ inv.3 xs chain)

pub numbers-smaller : goal.numbers-smaller
numbers-smaller c =
    let inv = c.numbers.invariant in
    let next = c.args.behind.now.next.items in
    let less = left_less next c.in-Some.number c.numbers.next inv.0 c.in-Some.is inv.1 inv.2 in
    subst (λ k. left_from next k < left_from next c.numbers.next) (sym c.next_of-next.ensures) less
