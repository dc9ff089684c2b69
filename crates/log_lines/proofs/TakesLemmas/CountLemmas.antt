-- The number of a log's lines with names: one for each event of a message from one host to another.
use Rattle.std.proofs.Common.{◌≡◌, ℕ, ◌+◌, Bool, true, false, cond, List, [], ◌∷◌, ◌++◌, Some, length, refl, sym, ap, ◌∙◌, arith, length-append}
use Rattle.std.specs.Prelude.{not, bytes_eq}
use Rattle.std.proofs.lemmas.List.{length-map}
use Rattle.std.proofs.lemmas.List.Elements.{filter-append}
use Rattle.log_lines.specs.Events.{LoggedEventView}
use Rattle.log_lines.specs.Reading.{with_other}
use Rattle.log_lines.specs.Names.Hosts.{PeerView, host_of}
use Rattle.log_lines.specs.Names.Naming.{NamedView, with_event, with_logged, with_all, named}
use Rattle.log_lines.specs.Takes.Messages.{is_between, between, words_in}

-- an event is skipped in both lists, or is one more line in both
one_line : (own : Bool) (same more : NamedView) (s : LoggedEventView) (rest : List LoggedEventView) → length more.lines ≡ length same.lines + 1
    → length (cond own same more).lines + length rest ≡ length same.lines + length (cond (not own) (s ∷ rest) rest)
one_line true same more s rest longer = refl
one_line false same more s rest longer = omega (arith, longer)

lines_all : (peers : List PeerView) (logged : List LoggedEventView) (n : NamedView) → length (with_all peers logged n).lines ≡ length n.lines + length (between peers logged)
lines_all peers [] n = omega arith
lines_all peers (s ∷ logged) n =
    let host = host_of peers s.event.host in
    let peer = host_of peers s.event.peer in
    lines_all peers logged (with_logged peers s n)
    ∙ one_line (bytes_eq host peer) (record n { own = Some (with_other s.place n.own) }) (with_event host peer s n) s (between peers logged) (length-append n.lines _)

lines_begun : (peers : List PeerView) (logged : List LoggedEventView) (n : NamedView) → length n.lines ≡ 0 → length (with_all peers logged n).lines ≡ length (between peers logged)
lines_begun peers logged n none = let all = lines_all peers logged n in omega (arith, all, none)

pub lines_named : (hosts : List (List ℕ)) (peers : List PeerView) (logged : List LoggedEventView) → length (named hosts peers logged).lines ≡ length (between peers logged)
unfolding named
lines_named hosts peers logged = lines_begun peers logged _ refl

pub words_whole : (hosts : List (List ℕ)) (peers : List PeerView) (logged : List LoggedEventView) → length (words_in peers logged) ≡ length (named hosts peers logged).lines
unfolding words_in
words_whole hosts peers logged = length-map (between peers logged) _ ∙ sym (lines_named hosts peers logged)

-- one more event
pub between_one : (own : Bool) (peers : List PeerView) (logged : List LoggedEventView) (s : LoggedEventView) → bytes_eq (host_of peers s.event.host) (host_of peers s.event.peer) ≡ own
    → length (between peers (logged ++ s ∷ [])) ≡ length (between peers logged) + cond own 0 1
between_one own peers logged s is = ap length (filter-append (is_between peers) logged (s ∷ [])) ∙ length-append (between peers logged) (between peers (s ∷ [])) ∙ ap (λ n. length (between peers logged) + n) (go own is)
  where
    go : (own : Bool) → bytes_eq (host_of peers s.event.host) (host_of peers s.event.peer) ≡ own → length (between peers (s ∷ [])) ≡ cond own 0 1
    go true is = rw is refl
    go false is = rw is refl
