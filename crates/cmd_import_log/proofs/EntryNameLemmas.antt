-- The entries of a log's lines: each is that of the event of a host at its place. Its instances have the names of the
-- event's hosts, and its stream the number of the event's id.
use Rattle.std.proofs.Common.{◌≡◌, ℕ, zero, suc, ◌&&◌, ◌==◌, Bool, true, false, cond, List, [], ◌∷◌, Option, None, Some, get_or, refl, sym, ap, ◌∙◌, subst, eqb-true, eq-eqb}
use Rattle.std.specs.Prelude.{bytes_eq, slice_get, is_some, option_and_then}
use Rattle.std.specs.Bool.{beq}
use Rattle.std.specs.List.{position_or_len}
use Rattle.std.proofs.lemmas.Bool.{false≢true, and_parts}
use Rattle.std.proofs.lemmas.Option.{none-some, same_Some, get_or_from_slice_get}
use Rattle.std.proofs.lemmas.Slice.Eq.{bytes_eq-Decides}
use Rattle.log_chart.specs.Entries.{is_send}
use Rattle.log_chart.specs.Named.Entering.{Before, with_word, place_in, same_stream, number_in, kind_of, stream_in, entry_in, with_line, entries_from, hosts_from}
use Rattle.log_chart.specs.declared.entry.Entry.{Entry}
use Rattle.log_chart.specs.declared.entry.Kind.TheVariants.{Send, Receive}
use Rattle.log_chart.specs.declared.named.host_event.HostEvent.{HostEvent}
use Rattle.log_chart.proofs.NamedLemmas.WordLemmas.{put_passes, put_keeps}

pub same_bytes : (w : List ℕ) → bytes_eq w w ≡ true
same_bytes w = (bytes_eq-Decides w w).1 refl

-- Entries and events of hosts.

-- the name of an instance
abbrev pub name_in : List (List ℕ) → ℕ → List ℕ
name_in hosts zero = []
name_in hosts (suc p) = get_or hosts p []

abbrev pub key_if : Bool → ℕ → Option ℕ
key_if true n = Some n
key_if false n = None

-- the number of the id of a stream, if its messages have one
abbrev pub key_of : Before → ℕ → Option ℕ
key_of b stream = option_and_then (λ x. key_if x.has_id x.number) (slice_get b.streams stream)

-- what is known after these events
abbrev pub after_all : Before → List HostEvent → Before
after_all b [] = b
after_all b (s ∷ event) = after_all (with_line b s) event

pub record IsNamedEntry (hosts : List (List ℕ)) (b : Before) (e : Entry) (x : HostEvent) : Type 0 where
  pub host : x.host ≡ name_in hosts e.host
  pub peer : x.peer ≡ name_in hosts e.peer
  pub sends_so : is_send e.kind ≡ x.sends
  pub id : x.id ≡ key_of b e.stream
  pub place : e.place ≡ x.place
  pub host_name : e.host_name ≡ x.host

hosts_keep : (b : Before) (event : List HostEvent) (i : ℕ) (y : List ℕ) → slice_get b.hosts i ≡ Some y → slice_get (hosts_from b event) i ≡ Some y
unfolding hosts_from
hosts_keep b [] i y is = is
hosts_keep b (s ∷ event) i y is =
    hosts_keep (with_line b s) event i y (put_keeps (bytes_eq s.peer) (with_word b.hosts s.host) s.peer i y (put_keeps (bytes_eq s.host) b.hosts s.host i y is))

streams_keep : (b : Before) (event : List HostEvent) (i : ℕ) (y : _) → slice_get b.streams i ≡ Some y → slice_get (after_all b event).streams i ≡ Some y
streams_keep b [] i y is = is
streams_keep b (s ∷ event) i y is = streams_keep (with_line b s) event i y (put_keeps (same_stream (stream_in b s)) b.streams (stream_in b s) i y is)

itself : (x : _) → same_stream x x ≡ true
itself x = rw (eq-eqb x.sender x.sender refl, eq-eqb x.receiver x.receiver refl, both x.has_id, eq-eqb x.number x.number refl) refl
  where
    both : (b : Bool) → beq b b ≡ true
    both true = refl
    both false = refl

one_key : (x y : _) → same_stream x y ≡ true → (beq x.has_id y.has_id ≡ true) × (x.number ≡ y.number)
one_key x y same =
    let first = and_parts (x.sender == y.sender) (x.receiver == y.receiver && (beq x.has_id y.has_id && x.number == y.number)) same in
    let second = and_parts (x.receiver == y.receiver) (beq x.has_id y.has_id && x.number == y.number) first.1 in
    let third = and_parts (beq x.has_id y.has_id) (x.number == y.number) second.1 in
    (third.0, eqb-true x.number y.number third.1)

of_id : (names : List (List ℕ)) (name : List ℕ) (id : Option ℕ) (has : Bool) (n : ℕ) → beq (is_some id) has ≡ true → number_in names id name ≡ n → id ≡ key_if has n
of_id names name None true n same number = absurd (false≢true same)
of_id names name None false n same number = refl
of_id names name (Some i) true n same number = ap Some number
of_id names name (Some i) false n same number = absurd (false≢true same)

module _ (b : Before) (s : HostEvent) (event : List HostEvent) where
  host_at : slice_get (hosts_from (with_line b s) event) (place_in b.hosts s.host) ≡ Some s.host
  host_at =
      let found = put_passes (bytes_eq s.host) b.hosts s.host (same_bytes s.host) in
      let is : s.host ≡ found.0 = (bytes_eq-Decides s.host found.0).0 found.2 in
      hosts_keep (with_line b s) event (place_in b.hosts s.host) s.host
      (put_keeps (bytes_eq s.peer) (with_word b.hosts s.host) s.peer (place_in b.hosts s.host) s.host (found.1 ∙ ap Some (sym is)))

  peer_at : slice_get (hosts_from (with_line b s) event) (place_in (with_word b.hosts s.host) s.peer) ≡ Some s.peer
  peer_at =
      let hosts = with_word b.hosts s.host in
      let found = put_passes (bytes_eq s.peer) hosts s.peer (same_bytes s.peer) in
      let is : s.peer ≡ found.0 = (bytes_eq-Decides s.peer found.0).0 found.2 in
      hosts_keep (with_line b s) event (place_in hosts s.peer) s.peer (found.1 ∙ ap Some (sym is))

  kind_is : is_send (kind_of s) ≡ s.sends
  kind_is = go s.sends
    where
      go : (its : Bool) → is_send (cond its Send Receive) ≡ its
      go true = refl
      go false = refl

  id_is : s.id ≡ key_of (after_all (with_line b s) event) (position_or_len (same_stream (stream_in b s)) b.streams)
  id_is =
      let x = stream_in b s in
      let place = position_or_len (same_stream x) b.streams in
      let found = put_passes (same_stream x) b.streams x (itself x) in
      let kept = streams_keep (with_line b s) event place found.0 found.1 in
      let key = one_key x found.0 found.2 in
      of_id b.names s.name s.id found.0.has_id found.0.number key.0 key.1 ∙ sym (ap (option_and_then (λ y. key_if y.has_id y.number)) kept)

  named_entry : IsNamedEntry (hosts_from (with_line b s) event) (after_all (with_line b s) event) (entry_in b s) s
  named_entry = record {
    host = sym (get_or_from_slice_get (hosts_from (with_line b s) event) (place_in b.hosts s.host) s.host [] host_at);
    peer = sym (get_or_from_slice_get (hosts_from (with_line b s) event) (place_in (with_word b.hosts s.host) s.peer) s.peer [] peer_at);
    sends_so = kind_is;
    id = id_is;
    place = refl;
    host_name = refl;
  }

-- each entry is that of the event at its place
pub named_entries : (b : Before) (event : List HostEvent) (k : ℕ) (e : Entry) → slice_get (entries_from b event) k ≡ Some e
    → (x : HostEvent) × (slice_get event k ≡ Some x) × IsNamedEntry (hosts_from b event) (after_all b event) e x
unfolding entries_from hosts_from
named_entries b [] k e is = absurd (none-some e is)
named_entries b (x ∷ event) zero e is =
    (x, refl, subst (λ (y : Entry). IsNamedEntry (hosts_from (with_line b x) event) (after_all (with_line b x) event) y x) (same_Some (entry_in b x) e is) (named_entry b x event))
named_entries b (x ∷ event) (suc k) e is = named_entries (with_line b x) event k e is
