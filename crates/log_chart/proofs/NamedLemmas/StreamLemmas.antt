-- Each stream is on one lane: that of the stream with its number, in the table of all streams.
use Rattle.std.proofs.Common.{◌≡◌, ℕ, ◌==◌, ◌&&◌, Bool, true, false, cond, List, [], ◌∷◌, Option, None, Some, refl, sym, ap, ◌∙◌, subst, eqb-true, eq-eqb}
use Rattle.std.specs.Bool.{beq}
use Rattle.std.specs.List.{position_or_len}
use Rattle.std.specs.Prelude.{All, slice_get}
use Rattle.std.proofs.lemmas.Bool.{and_parts}
use Rattle.std.proofs.lemmas.List.Elements.{All-nil, All-cons}
use Rattle.log_chart.specs.Entries.{is_send}
use Rattle.log_chart.specs.Fates.{sender_of, receiver_of}
use Rattle.log_chart.specs.declared.entry.Entry.{Entry}
use Rattle.log_chart.specs.declared.entry.Kind.TheVariants.{Send, Receive}
use Rattle.log_chart.specs.Cycles.Freeing.{HaveLanes}
use Rattle.log_chart.specs.Named.Entering.{Before, same_stream, host_in, peer_in, stream_in, entry_in, with_line, entries_from}
use Rattle.log_chart.specs.Named.Logs.{begun}
use Rattle.log_chart.specs.declared.named.host_event.HostEvent.{HostEvent}
use Rattle.log_chart.specs.declared.named.stream.Stream.{Stream}
use Rattle.log_chart.proofs.NamedLemmas.WordLemmas.{put_passes, put_keeps}

-- the streams, with those of these lines
abbrev AllStreams : Before → List HostEvent → List Stream
AllStreams b [] = b.streams
AllStreams b (s ∷ event) = AllStreams (with_line b s) event

streams_keep : (b : Before) (event : List HostEvent) (i : ℕ) (y : Stream) → slice_get b.streams i ≡ Some y → slice_get (AllStreams b event) i ≡ Some y
streams_keep b [] i y is = is
streams_keep b (s ∷ event) i y is = streams_keep (with_line b s) event i y (put_keeps (same_stream (stream_in b s)) b.streams (stream_in b s) i y is)

-- the lane of a stream
abbrev sender_in : Option Stream → ℕ
sender_in None = 0
sender_in (Some x) = x.sender

abbrev receiver_in : Option Stream → ℕ
receiver_in None = 0
receiver_in (Some x) = x.receiver

itself : (x : Stream) → same_stream x x ≡ true
itself x = rw (eq-eqb x.sender x.sender refl, eq-eqb x.receiver x.receiver refl, both x.has_id, eq-eqb x.number x.number refl) refl
  where
    both : (b : Bool) → beq b b ≡ true
    both true = refl
    both false = refl

one_lane : (x y : Stream) → same_stream x y ≡ true → (x.sender ≡ y.sender) × (x.receiver ≡ y.receiver)
one_lane x y same =
    let first = and_parts (x.sender == y.sender) (x.receiver == y.receiver && (beq x.has_id y.has_id && x.number == y.number)) same in
    let second = and_parts (x.receiver == y.receiver) (beq x.has_id y.has_id && x.number == y.number) first.1 in
    (eqb-true x.sender y.sender first.0, eqb-true x.receiver y.receiver second.0)

-- an entry is on the lane of its stream
entry_lane : (b : Before) (s : HostEvent) → (sender_of (entry_in b s) ≡ (stream_in b s).sender) × (receiver_of (entry_in b s) ≡ (stream_in b s).receiver)
entry_lane b s = go s.sends
  where
    go : (sends : Bool) → (cond (is_send (cond sends Send Receive)) (host_in b.hosts s) (peer_in b.hosts s) ≡ cond sends (host_in b.hosts s) (peer_in b.hosts s))
        × (cond (is_send (cond sends Send Receive)) (peer_in b.hosts s) (host_in b.hosts s) ≡ cond sends (peer_in b.hosts s) (host_in b.hosts s))
    go true = (refl, refl)
    go false = (refl, refl)

lanes_from : (all : List Stream) (b : Before) (event : List HostEvent) → AllStreams b event ≡ all
    → All (λ e. (sender_of e ≡ sender_in (slice_get all e.stream)) × (receiver_of e ≡ receiver_in (slice_get all e.stream))) (entries_from b event)
unfolding entries_from
lanes_from all b [] is = All-nil (λ (e : Entry). (sender_of e ≡ sender_in (slice_get all e.stream)) × (receiver_of e ≡ receiver_in (slice_get all e.stream)))
lanes_from all b (s ∷ event) is =
    All-cons (λ (e : Entry). (sender_of e ≡ sender_in (slice_get all e.stream)) × (receiver_of e ≡ receiver_in (slice_get all e.stream))) (entry_in b s) (entries_from (with_line b s) event) here
    (lanes_from all (with_line b s) event is)
  where
    here : (sender_of (entry_in b s) ≡ sender_in (slice_get all (position_or_len (same_stream (stream_in b s)) b.streams)))
        × (receiver_of (entry_in b s) ≡ receiver_in (slice_get all (position_or_len (same_stream (stream_in b s)) b.streams)))
    here =
        let found = put_passes (same_stream (stream_in b s)) b.streams (stream_in b s) (itself (stream_in b s)) in
        let kept = streams_keep (with_line b s) event (position_or_len (same_stream (stream_in b s)) b.streams) found.0 found.1 in
        let at_it : slice_get all (position_or_len (same_stream (stream_in b s)) b.streams) ≡ Some found.0 = subst (λ l. slice_get l (position_or_len (same_stream (stream_in b s)) b.streams) ≡ Some found.0) is kept in
        let lane = one_lane (stream_in b s) found.0 found.2 in
        let own = entry_lane b s in
        (own.0 ∙ lane.0 ∙ sym (ap sender_in at_it), own.1 ∙ lane.1 ∙ sym (ap receiver_in at_it))

pub have_lanes : (hosts : List (List ℕ)) (event : List HostEvent) → HaveLanes (entries_from (begun hosts) event)
have_lanes hosts event =
    ((λ c. sender_in (slice_get (AllStreams (begun hosts) event) c)), (λ c. receiver_in (slice_get (AllStreams (begun hosts) event) c)), lanes_from (AllStreams (begun hosts) event) (begun hosts) event refl)
