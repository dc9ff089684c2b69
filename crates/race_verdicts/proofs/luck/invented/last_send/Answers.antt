use Rattle.std.proofs.Common.{zero, suc, ◌≡◌, ◌+◌, ◌-◌, ◌<◌, ◌∙◌, ℕ, sym, subst, arith, length, true}
use Rattle.std.proofs.lemmas.Bool.{false≢true}
use Rattle.chart.specs.Events.{is_send_to}
use Rattle.race_verdicts.specs.Luck.Invention.{IsSendAt}
use Rattle.race_verdicts.proofs.LuckLemmas.InventionLemmas.{no_send_more}
use Rattle.race_verdicts.proofs.luck.invented.last_send.Goals as goal

pub events-preserved : goal.events-preserved
events-preserved c =
    let events = c.args.events.now in
    let index = c.events.index - 1 in
    let within : index < length events = omega arith in
    let back : c.events.index ≡ index + 1 = omega arith in
    record {
      low = omega arith;
      none =
          no_send_more events index c.args.count c.index-events-index.result within c.index-events-index.is
          (λ (send : (q : ℕ) × (is_send_to q c.index-events-index.result ≡ true)). false≢true (sym c.if-is_send.false ∙ c.is_send.ensures.1 send))
          (subst (λ n. (k : ℕ) → n < k → k < c.args.count + 1 → IsSendAt events k → ⊥) back c.events.invariant.none);
    }

pub returns : goal.returns
returns c = λ k less send. c.events.invariant.none k (above k send) less send
  where
    above : (k : ℕ) → IsSendAt c.args.events.now k → c.events.index < k
    above zero send = absurd (cc send.1.1)
    above (suc k) send = omega arith
