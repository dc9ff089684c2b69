-- Chains of direct steps: joining them, having them, and what they show.
use Rattle.std.proofs.Common.{◌≡◌, ◌≤◌, List, [], ◌∷◌, ◌++◌, length, refl, sym, subst, arith}
use Rattle.std.proofs.lemmas.List.{length-append}
use Rattle.chart.specs.Charts.{Chart, Place}
use Rattle.chart.specs.Order.{Direct, Before}
use Rattle.chart.specs.Order.Direct.{message, to_send, same_sender}
use Rattle.chart.specs.Order.Before.{direct, through}
use Rattle.closure.specs.Faults.{place_of}
use Rattle.closure.specs.declared.chain.link.Rule.{Rule}
use Rattle.closure.specs.declared.chain.link.Rule.TheVariants.{Message, BeforeSend, SameSender}
use Rattle.closure.specs.declared.chain.link.Link.{Link}
use Rattle.closure.specs.Chain.Chains.{IsStepBy, Lead}

-- links, and then others
pub lead_then : (c : Chart) (e d r : Place) (xs ys : List Link) → Lead c e d xs → Lead c d r ys → Lead c e r (xs ++ ys)
lead_then c e d r [] ys same lead = subst (λ x. Lead c x r ys) (sym same) lead
lead_then c e d r (link ∷ xs) ys (is, step, rest) lead = (is, step, lead_then c (place_of link.later) d r xs ys rest lead)

-- links, and one more
pub lead_more : (c : Chart) (e d f : Place) (xs : List Link) (link : Link) → Lead c e d xs → place_of link.earlier ≡ d → IsStepBy c link.rule (place_of link.earlier) (place_of link.later) → place_of link.later ≡ f → Lead c e f (xs ++ link ∷ [])
lead_more c e d f xs link lead is step there = lead_then c e d f xs (link ∷ []) lead (is, step, there)

-- a rule's step is direct
pub step_direct : (c : Chart) (rule : Rule) (e f : Place) → IsStepBy c rule e f → Direct c e f
step_direct c Message e f belongs = message belongs
step_direct c BeforeSend e f (earlier, (q, sends)) = to_send q earlier sends
step_direct c SameSender e f (earlier, (q, from, to)) = same_sender q earlier from to

-- the event from which some links lead is before the event to which they lead
pub before_from_lead : (c : Chart) (e r : Place) (links : List Link) → Lead c e r links → 1 ≤ length links → Before c e r
before_from_lead c e r [] same some = absurd (omega arith)
before_from_lead c e r (link ∷ []) (is, step, same) some =
    let one = direct (step_direct c link.rule (place_of link.earlier) (place_of link.later) step) in
    subst (λ x. Before c x r) is (subst (Before c (place_of link.earlier)) same one)
before_from_lead c e r (link ∷ next ∷ links) (is, step, rest) some =
    let one = direct (step_direct c link.rule (place_of link.earlier) (place_of link.later) step) in
    subst (λ x. Before c x r) is (through one (before_from_lead c (place_of link.later) r (next ∷ links) rest (omega arith)))

-- some links that lead from e to r
abbrev HasLinks : Chart → Place → Place → Type 0
HasLinks c e r = (links : List Link) × Lead c e r links × (1 ≤ length links)

-- a direct step is a link
link_of : (c : Chart) (e f : Place) → Direct c e f → HasLinks c e f
link_of c e f (message belongs) = (record { earlier = record { instance = e.instance; index = e.index }; later = record { instance = f.instance; index = f.index }; rule = Message } ∷ [], (refl, belongs, refl), omega arith)
link_of c e f (to_send q earlier sends) = (record { earlier = record { instance = e.instance; index = e.index }; later = record { instance = f.instance; index = f.index }; rule = BeforeSend } ∷ [], (refl, (earlier, (q, sends)), refl), omega arith)
link_of c e f (same_sender q earlier from to) = (record { earlier = record { instance = e.instance; index = e.index }; later = record { instance = f.instance; index = f.index }; rule = SameSender } ∷ [], (refl, (earlier, (q, from, to)), refl), omega arith)

-- an event that is before another one has links to it
pub links_of : {c : Chart} {e r : Place} → Before c e r → HasLinks c e r
links_of {c = c} {e = e} {r = r} (direct step) = link_of c e r step
links_of {c = c} {e = e} {r = r} (through {d = d} x y) =
    let a = links_of x in
    let b = links_of y in
    (a.0 ++ b.0, lead_then c e d r a.0 b.0 a.1 b.1, omega (arith, length-append a.0 b.0, a.2))
