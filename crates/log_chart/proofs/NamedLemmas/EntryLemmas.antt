-- Entries of logs: there are at most as many streams as lines, and each entry is of two hosts with names.
use Rattle.std.proofs.Common.{◌≡◌, ℕ, suc, ◌+◌, ◌<◌, ◌≤◌, List, [], ◌∷◌, ◌++◌, None, length, take, take_all, drop, get_or, refl, sym, ap, ◌∙◌, arith, append_assoc}
use Rattle.std.specs.Prelude.{bytes_eq, fold, All}
use Rattle.chart.specs.Histories.{AreTwo}
use Rattle.std.proofs.lemmas.List.{drop_all, append-nil}
use Rattle.std.proofs.lemmas.List.Elements.{All-nil, All-cons}
use Rattle.std.proofs.lemmas.List.Sums.{fold_more}
use Rattle.log_chart.proofs.MatchingLemmas.{from_here}
use Rattle.log_chart.specs.Entries.{HaveStreams}
use Rattle.log_chart.specs.declared.entry.Entry.{Entry}
use Rattle.log_chart.specs.Named.Entering.{Before, with_word, same_stream, stream_in, entry_in, with_line, entries_from, hosts_from}
use Rattle.log_chart.specs.Cycles.Freeing.{AreAmong}
use Rattle.log_chart.specs.Named.Logs.{begun}
use Rattle.log_chart.specs.declared.named.host_event.HostEvent.{HostEvent}
use Rattle.log_chart.specs.declared.named.stream.Stream.{Stream}
use Rattle.log_chart.specs.Named.Faults.{fault_in, first_fault}
use Rattle.log_chart.proofs.NamedLemmas.FaultLemmas.{hosts_up, sooner_none, two_hosts}
use Rattle.log_chart.proofs.NamedLemmas.WordLemmas.{position_up, put_within, put_longer, put_by_one}

-- one more line, and the last
module _ (lines : List HostEvent) (n : ℕ) (x : HostEvent) (within : n < length lines) (is : x ≡ get_or lines n x) (b after : Before) (next : after ≡ with_line b x) where
  pub entries_more : (entries more : List Entry) → more ≡ entries ++ entry_in b x ∷ [] → more ++ entries_from after (drop (n + 1) lines) ≡ entries ++ entries_from b (drop n lines)
  unfolding entries_from
  entries_more entries more grown = rw (grown, from_here lines n x within is, next) (append_assoc entries _ _)

  pub hosts_more : hosts_from after (drop (n + 1) lines) ≡ hosts_from b (drop n lines)
  unfolding hosts_from
  hosts_more = rw (from_here lines n x within is, next) refl

pub entries_end : (b : Before) (entries : List Entry) (lines : List HostEvent) (n : ℕ) → length lines ≤ n → entries ++ entries_from b (drop n lines) ≡ entries
unfolding entries_from
entries_end b entries lines n past = rw (drop_all n lines past) (append-nil entries)

pub hosts_end : (b : Before) (lines : List HostEvent) (n : ℕ) → length lines ≤ n → hosts_from b (drop n lines) ≡ b.hosts
unfolding hosts_from
hosts_end b lines n past = rw (drop_all n lines past) refl

-- there are at most as many streams as lines
pub entries_whole : (b : Before) (event : List HostEvent) → length (entries_from b event) ≡ length event
unfolding entries_from
entries_whole b [] = refl
entries_whole b (s ∷ event) = ap suc (entries_whole (with_line b s) event)

streams_from : (b : Before) (event : List HostEvent) (k n : ℕ) → length b.streams ≤ k → k + length event ≤ n → All (λ e. e.stream < n) (entries_from b event)
unfolding entries_from
streams_from b [] k n few all = All-nil (λ (e : Entry). e.stream < n)
streams_from b (s ∷ event) k n few all =
    let up = position_up (same_stream (stream_in b s)) b.streams in
    let one = put_by_one (same_stream (stream_in b s)) b.streams (stream_in b s) in
    All-cons (λ (e : Entry). e.stream < n) (entry_in b s) (entries_from (with_line b s) event) (omega (arith, up, few, all)) (streams_from (with_line b s) event (k + 1) n (omega (arith, one, few)) (omega (arith, all)))

pub have_streams : (hosts : List (List ℕ)) (event : List HostEvent) → HaveStreams (entries_from (begun hosts) event)
have_streams hosts event =
    let whole = entries_whole (begun hosts) event in
    streams_from (begun hosts) event 0 (length (entries_from (begun hosts) event)) (omega arith) (omega (arith, whole))

-- each line is of two hosts with names
among_from : (b : Before) (event : List HostEvent) (n : ℕ) → first_fault b event ≡ None → length (hosts_from b event) ≤ n → AreAmong n (entries_from b event)
unfolding first_fault entries_from hosts_from
among_from b [] n none all = All-nil (λ (e : Entry). AreTwo n e.host e.peer)
among_from b (s ∷ event) n none all =
    let inside = put_within (bytes_eq s.host) b.hosts s.host in
    let two = put_longer (bytes_eq s.peer) (with_word b.hosts s.host) s.peer in
    let peer = put_within (bytes_eq s.peer) (with_word b.hosts s.host) s.peer in
    let rest = hosts_up (with_line b s) event in
    let first = sooner_none (fault_in b s) (first_fault (with_line b s) event) none in
    All-cons (λ (e : Entry). AreTwo n e.host e.peer) (entry_in b s) (entries_from (with_line b s) event)
    (omega arith, omega (arith, inside, two, rest, all), omega arith, omega (arith, peer, rest, all), two_hosts b s first.0) (among_from (with_line b s) event n first.1 all)

pub are_among : (hosts : List (List ℕ)) (event : List HostEvent) → first_fault (begun hosts) event ≡ None → AreAmong (length (hosts_from (begun hosts) event)) (entries_from (begun hosts) event)
are_among hosts event none = among_from (begun hosts) event (length (hosts_from (begun hosts) event)) none (omega arith)

-- hosts that come first, one by one
abbrev before : List (List ℕ) → List (List ℕ) → List Stream → Before
before hosts names streams = record { hosts = hosts; names = names; streams = streams }

pub words_more : (hosts : List (List ℕ)) (n : ℕ) (w : List ℕ) → n < length hosts → w ≡ get_or hosts n w
    → with_word (fold with_word [] (take n hosts)) w ≡ fold with_word [] (take (n + 1) hosts)
words_more hosts n w within is = ap (with_word (fold with_word [] (take n hosts))) is ∙ sym (fold_more with_word [] hosts n w within)

pub begun_is : (given hosts : List (List ℕ)) (n : ℕ) (names : List (List ℕ)) (streams : List Stream) → given ≡ fold with_word [] (take n hosts) → length hosts ≤ n → names ≡ [] → streams ≡ []
    → before given names streams ≡ begun hosts
begun_is given hosts n names streams is past none empty = rw (is, take_all n hosts past, none, empty) refl
