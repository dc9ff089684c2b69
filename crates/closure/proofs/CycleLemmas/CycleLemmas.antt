-- Cycles: rotated to begin elsewhere, and the links of a round.
use Rattle.std.proofs.Common.{◌≡◌, ℕ, zero, suc, ◌+◌, ◌*◌, ◌<◌, ◌≤◌, inl, inr, List, [], ◌∷◌, ◌++◌, length, take, drop, length-take, refl, sym, ap, ◌∙◌, subst, arith}
use Rattle.std.proofs.lemmas.List.{length-append, take-append-drop}
use Rattle.std.proofs.lemmas.List.Elements.{All-append, All-drop, All-take}
use Rattle.std.specs.Prelude.{All, slice_get, Some}
use Rattle.chart.proofs.Tally.{ith_at_drop}
use Rattle.chart.specs.Charts.{Chart, Place, at, LineView, chart_lines, BelongsTo}
use Rattle.chart.specs.Order.{IsEarlier}
use Rattle.chart.specs.declared.instance.EventNo.{EventNo}
use Rattle.closure.specs.Faults.{place_of, IsSooner}
use Rattle.closure.specs.Searches.{IsSend}
use Rattle.closure.specs.Rows.{entry}
use Rattle.closure.specs.Chain.Chains.{Lead}
use Rattle.closure.specs.declared.chain.link.Link.{Link}
use Rattle.closure.specs.declared.chain.link.Rule.TheVariants.{Message, BeforeSend}
use Rattle.closure.proofs.ChainLemmas.ChainLemmas.{lead_then, lead_more}
use Rattle.chart.proofs.Belongs.{same_receive}
use Rattle.closure.specs.Cycle.Cycles.{IsCycle, BeginsWithLeast, IsShortestCycle}
use Rattle.closure.specs.Cycle.Fronts.{IsLead}
use Rattle.closure.specs.Cycle.Rounds.{Leads, IsShortestRound, AreLinksOf, IsOnRound}
use Rattle.closure.specs.declared.cycle.round.Round.{Round}
use Rattle.closure.proofs.CycleLemmas.LeadLemmas.{leads_send}
use Rattle.closure.proofs.CycleLemmas.UnderLemmas.{round_in}

-- links, split into two parts
lead_cut : (c : Chart) (e f : Place) (xs ys : List Link) → Lead c e f (xs ++ ys) → (d : Place) × Lead c e d xs × Lead c d f ys
lead_cut c e f [] ys lead = (e, refl, lead)
lead_cut c e f (link ∷ xs) ys (is, step, rest) = let w = lead_cut c (place_of link.later) f xs ys rest in (w.0, (is, step, w.1), w.2)

-- a cycle that begins elsewhere
rotated : (c : Chart) (place : ℕ) (links : List Link) → IsCycle c links → IsCycle c (drop place links ++ take place links)
rotated c place links cycle =
    let e = cycle.lead.0 in
    let whole = subst (Lead c e e) (sym (take-append-drop place links)) cycle.lead.1 in
    let w = lead_cut c e e (take place links) (drop place links) whole in
    record {
      lead = (w.0, lead_then c w.0 e w.0 (drop place links) (take place links) w.2 w.1);
      some = omega (arith, cycle.some, rotated_length place links);
    }
  where
    rotated_length : (n : ℕ) (xs : List Link) → length (drop n xs ++ take n xs) ≡ length xs
    rotated_length n xs = let a = length-append (drop n xs) (take n xs) in let b = length-append (take n xs) (drop n xs) in let d = ap (λ (l : List Link). length l) (take-append-drop n xs) in omega (arith, a, b, d)

-- the links of a shortest round, beginning with the least event, are a shortest cycle
pub shortest_rotated : (c : Chart) (round : Round) (place : ℕ) (links around : List Link) → IsShortestRound c round → AreLinksOf c round links → around ≡ drop place links ++ take place links → BeginsWithLeast around → IsShortestCycle c around
shortest_rotated c round place links around shortest are is least =
    let some : 1 ≤ length links = omega (arith, shortest.0.0, are.1) in
    let cycle : IsCycle c links = record { lead = (place_of round.send, are.0); some = some } in
    let many : length around ≡ 2 * round.messages = ap (λ (l : List Link). length l) is ∙ length-append (drop place links) (take place links) ∙ same_length in
    record {
      cycle = subst (IsCycle c) (sym is) (rotated c place links cycle);
      shortest = λ others their. let w = round_in c others their in let fewest = shortest.1 w.0 w.1 w.2 in omega (arith, many, fewest, w.3);
      least = least;
    }
  where
    same_length : length (drop place links) + length (take place links) ≡ 2 * round.messages
    same_length = let b = length-append (take place links) (drop place links) in let d = ap (λ (l : List Link). length l) (take-append-drop place links) in omega (arith, b, d, are.1)

-- a message and the way to the next send, the line's last one that leads on
pub on_round-next : (lines : List LineView) (root : Place) (messages : ℕ) (send receive : EventNo) (left : ℕ) (links after : List Link) (front : List ℕ) (next : EventNo) → IsSend (chart_lines lines) root → IsOnRound (chart_lines lines) root messages (place_of send) (suc left) links
    → BelongsTo (chart_lines lines) (place_of send) (place_of receive) → IsLead lines root left front → place_of next ≡ at receive.instance (entry front receive.instance)
    → after ≡ (links ++ record { earlier = send; later = receive; rule = Message } ∷ []) ++ record { earlier = receive; later = next; rule = BeforeSend } ∷ []
    → IsOnRound (chart_lines lines) root messages (place_of next) left after
on_round-next lines root messages send receive left links after front next sends on belongs lead is made = go on.leads
  where
    go : Leads (chart_lines lines) root (suc left) (place_of send) → IsOnRound (chart_lines lines) root messages (place_of next) left after
    go (t, leads, (r, its, above)) =
        let same : r ≡ place_of receive = same_receive (chart_lines lines) (place_of send) r (place_of receive) its belongs in
        let line : t.instance ≡ receive.instance = sym above.line ∙ ap (λ (x : Place). x.instance) same in
        let index : r.index ≡ receive.index = ap (λ (x : Place). x.index) same in
        let most = lead.most t leads in
        let there = ap (entry front) line in
        let low : t.index ≤ entry front receive.instance = omega (arith, most, there) in
        let found : Leads (chart_lines lines) root left (at receive.instance (entry front receive.instance)) = elim (lead.sound receive.instance) [ inl none ↦ absurd (omega (arith, none, low, above.less)) | inr has ↦ has ] in
        let leads_next : Leads (chart_lines lines) root left (place_of next) = subst (Leads (chart_lines lines) root left) (sym is) found in
        let instance : receive.instance ≡ next.instance = sym (ap (λ (x : Place). x.instance) is) in
        let number : next.index ≡ entry front receive.instance = ap (λ (x : Place). x.index) is in
        let message : Link = record { earlier = send; later = receive; rule = Message } in
        let onward : Link = record { earlier = receive; later = next; rule = BeforeSend } in
        let first = lead_more (chart_lines lines) root (place_of send) (place_of receive) links message on.lead refl belongs refl in
        let earlier : IsEarlier (place_of receive) (place_of next) = record { line = instance; begun = omega (arith, above.begun, index); less = omega (arith, above.less, index, low, number) } in
        record {
          lead = subst (Lead (chart_lines lines) root (place_of next)) (sym made) (lead_more (chart_lines lines) root (place_of receive) (place_of next) (links ++ message ∷ []) onward first refl (earlier, is_send left leads_next) refl);
          count = let l = ap (λ (l : List Link). length l) made in omega (arith, l, length-append (links ++ message ∷ []) (onward ∷ []), length-append links (message ∷ []), on.count);
          leads = leads_next;
        }
      where
        is_send : (k : ℕ) → Leads (chart_lines lines) root k (place_of next) → IsSend (chart_lines lines) (place_of next)
        is_send zero same = subst (IsSend (chart_lines lines)) (sym same) sends
        is_send (suc k) more = leads_send (chart_lines lines) root (place_of next) k more

-- the event of the link isn't sooner than this one
abbrev IsNotSooner : Link → Link → Type 0
IsNotSooner first link = IsSooner (place_of link.earlier) (place_of first.earlier) → ⊥

-- links, beginning with the one whose event is the least
pub begins_with_least : (links : List Link) (place : ℕ) → place < length links → ((first : Link) → slice_get links place ≡ Some first → All (IsNotSooner first) links) → BeginsWithLeast (drop place links ++ take place links)
begins_with_least links place within least = go (drop place links) refl
  where
    go : (ys : List Link) → drop place links ≡ ys → BeginsWithLeast (ys ++ take place links)
    go [] is =
        let none = ap (λ (l : List Link). length l) (take-append-drop place links) in
        let rest = ap (λ (l : List Link). length l) is in
        let sum = length-append (take place links) (drop place links) in
        absurd (omega (arith, none, rest, sum, length-take place links, within))
    go (first ∷ rest) is =
        let all = least first (ith_at_drop place links first rest is) in
        let behind = subst (λ (l : List Link). All (IsNotSooner first) l) is (All-drop (IsNotSooner first) place links all) in
        All-append (IsNotSooner first) rest (take place links) (λ k d less. behind (suc k) d (omega arith)) (All-take (IsNotSooner first) place links all)
