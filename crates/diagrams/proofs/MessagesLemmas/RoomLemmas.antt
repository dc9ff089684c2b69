-- Lines have room for the ends of messages that have a chart.
use Rattle.std.proofs.Common.{◌≡◌, ◌≢◌, ℕ, ◌+◌, ◌<◌, ◌==◌, Bool, true, false, cond, List, [], ◌∷◌, ◌++◌, length, drop, get_or, refl, sym, ap, ◌∙◌, subst, arith, eqb-true}
use Rattle.std.proofs.lemmas.List.{length-append}
use Rattle.chart.specs.declared.event.Event.{Event}
use Rattle.chart.specs.declared.event.Event.TheVariants.{Send, Receive}
use Rattle.chart.specs.Events.{partner_of}
use Rattle.chart.specs.Histories.{AreTwo}
use Rattle.diagrams.specs.Messages.Each.{Each}
use Rattle.diagrams.specs.Messages.Following.{AreBuildable}
use Rattle.diagrams.specs.Messages.Opening.{HasRoom}
use Rattle.diagrams.specs.Messages.Regions.{event_of}
use Rattle.diagrams.specs.Messages.Turns.{all_ends, own_ends, in_turn}
use Rattle.diagrams.specs.declared.messages.end.End.{End}
use Rattle.diagrams.specs.declared.messages.message.Named.{Named}
use Rattle.diagrams.proofs.MessagesLemmas.EachLemmas.{each_weaker, each_passing}
use Rattle.diagrams.proofs.MessagesLemmas.FifoLemmas.{turn_each}
use Rattle.diagrams.proofs.MessagesLemmas.ListLemmas.{from_here}
use Rattle.diagrams.proofs.MessagesLemmas.PossibleLemmas.{ends_two}
use Rattle.chart.proofs.StableOrderLemmas.OrderLemmas.{order_length}

-- none of an instance's ends has it as its partner
own_apart : (n p : ℕ) (ends : List End) → Each (λ e. AreTwo n e.instance e.partner) ends → Each (λ e. e.partner ≢ p) (own_ends p ends)
own_apart n p ends all =
    each_passing (λ (e : End). e.partner ≢ p) (λ (e : End). e.instance == p) ends
    (each_weaker (λ (e : End). AreTwo n e.instance e.partner) (λ (e : End). (e.instance == p) ≡ true → e.partner ≢ p) (λ e two own same. two.4 (eqb-true e.instance p own ∙ sym same)) ends all)

-- an empty line has room for its instance's ends
pub room_for : (n p : ℕ) (messages : List Named) → AreBuildable n messages → HasRoom p [] (own_ends p (all_ends messages))
room_for n p messages are = record { apart = own_apart n p (all_ends messages) (ends_two n messages are.each); room = omega (arith, are.room p) }

-- whatever their order
pub room_in_turn : (p : ℕ) (ends : List End) → HasRoom p [] ends → HasRoom p [] (in_turn ends)
room_in_turn p ends has = record { apart = turn_each (λ (e : End). e.partner ≢ p) ends has.apart; room = omega (arith, has.room, order_length (λ (e : End). e.turn) ends) }

-- the ends from one on
pub room_here : (p : ℕ) (line : List Event) (ends : List End) (n : ℕ) (e : End) → n < length ends → e ≡ get_or ends n e → HasRoom p line (drop n ends) → HasRoom p line (e ∷ drop (n + 1) ends)
room_here p line ends n e within is has = subst (HasRoom p line) (from_here ends n e within is) has

-- one more event, for the first of them
pub room_more : (p : ℕ) (line more : List Event) (m : Event) (e : End) (ends : List End) → HasRoom p line (e ∷ ends) → more ≡ line ++ m ∷ [] → HasRoom p more ends
room_more p line more m e ends has is = record { apart = has.apart.1; room = omega (arith, has.room, ap length is, length-append line (m ∷ [])) }

-- the partner in an end's event
pub partner_is : (e : End) (region : ℕ) → partner_of (event_of e region) ≡ e.partner
partner_is e region = go e.sends
  where
    go : (sends : Bool) → partner_of (cond sends (Send e.partner e.name) (Receive e.partner e.name region)) ≡ e.partner
    go true = refl
    go false = refl
