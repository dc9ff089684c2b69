-- The sender of a pair's receive, and that the lines that explain a race are unique.
use Rattle.std.proofs.Common.{◌≡◌, ℕ, true, List, Some, sym, ap₂, ◌∙◌, subst, eqb-true}
use Rattle.std.proofs.lemmas.Bool.{false≢true}
use Rattle.std.proofs.lemmas.Option.{same_Some}
use Rattle.chart.specs.declared.event.Event.{Event}
use Rattle.chart.specs.declared.event.Event.TheVariants.{Send, Receive}
use Rattle.chart.specs.Events.{partner_of, is_receive_from}
use Rattle.chart.specs.Charts.{Chart, chart_event, IsReceiveFrom}
use Rattle.chart.proofs.Belongs.{one_sender}
use Rattle.closure.specs.Chain.Pasts.{IsPast}
use Rattle.closure.proofs.ChainLemmas.PastLemmas.{one_past}
use Rattle.closure.specs.Faults.{place_of}
use Rattle.cmd_base.specs.declared.pairs.pair.Pair.{Pair}
use Rattle.cmd_base.specs.declared.pairs.saying.Saying.{Saying}
use Rattle.cmd_explain_race.specs.Explaining.{AreRaceSayings, OneExplanationLaw}
use Rattle.cmd_base.specs.Pairs.Sayings.{race_sayings}

-- the partner of a receive is its sender
sender_of : (q : ℕ) (m : Event) → is_receive_from q m ≡ true → partner_of m ≡ q
sender_of q (Send to name) fails = absurd (false≢true fails)
sender_of q (Receive from name region) passes = eqb-true from q passes

-- lines that are built from the receive's partner explain the race
pub explained_by : (n : ℕ) (c : Chart) (pair : Pair) (m : Event) (counts : List ℕ) (sayings : List Saying) (sender : ℕ) → (q : ℕ) × IsReceiveFrom c q (place_of pair.receive) → chart_event c (place_of pair.receive) ≡ Some m → sender ≡ partner_of m → IsPast n c (place_of pair.receive) counts
    → sayings ≡ race_sayings (c pair.receive.instance) pair.receive.instance pair.receive.index sender counts → AreRaceSayings n c pair sayings
explained_by n c pair m counts sayings sender (q, (k, at_k, from)) at_m is past made =
    let same : sender ≡ q = is ∙ sender_of q m (subst (λ x. is_receive_from q x ≡ true) (same_Some k m (sym at_k ∙ at_m)) from) in
    (q, counts, (k, at_k, from), past, subst (λ x. sayings ≡ race_sayings (c pair.receive.instance) pair.receive.instance pair.receive.index x counts) same made)

-- the lines that explain a race are unique
pub one_explanation : OneExplanationLaw
one_explanation n c pair a b (q, counts, from, past, made) (t, others, also, is, done) =
    made ∙ ap₂ (λ x xs. race_sayings (c pair.receive.instance) pair.receive.instance pair.receive.index x xs) (one_sender c q t (place_of pair.receive) from also) (one_past n c (place_of pair.receive) counts others past is) ∙ sym done
