-- The entries of a log's lines where the log has other words for hosts, and where receives are freed.
use Rattle.std.proofs.Common.{◌≡◌, ℕ, zero, suc, true, List, [], ◌∷◌, ◌++◌, Some, map, get_or, refl, sym, ap, ◌∙◌, subst, arith, Contains}
use Rattle.std.specs.Prelude.{Bool, Option, bytes_eq, slice_get}
use Rattle.std.specs.List.{position_or_len}
use Rattle.std.proofs.lemmas.List.Folds.{list_any_at}
use Rattle.std.proofs.lemmas.List.Sums.{passes_at_first}
use Rattle.std.proofs.lemmas.Option.{none-some, same_Some, slice_get-get_or, get_or_from_slice_get}
use Rattle.std.proofs.lemmas.Slice.Eq.{bytes_eq-Decides}
use Rattle.diagram_labels.specs.Labels.{name_of, labelled}
use Rattle.log_chart.specs.Cycles.Freeing.{IsFirst, freed, Settles}
use Rattle.log_chart.specs.Cycles.Freeing.Settles.{done, turn}
use Rattle.log_chart.specs.Entries.{takes}
use Rattle.log_chart.specs.HostLines.{kept}
use Rattle.log_chart.specs.Named.Entering.{Before, entries_from}
use Rattle.log_chart.specs.declared.entry.Entry.{Entry}
use Rattle.log_chart.specs.declared.entry.Kind.TheVariants.{Freed}
use Rattle.log_chart.specs.declared.named.host_event.HostEvent.{HostEvent}
use Rattle.log_chart.proofs.CyclesLemmas.SettleLemmas.{takes_no_send, first_takes}
use Rattle.log_chart.proofs.NamedLemmas.WordLemmas.{found_within}
use Rattle.log_lines.specs.Events.{LoggedEventView}
use Rattle.log_lines.specs.Names.Hosts.{PeerView, host_of}
use Rattle.log_lines.specs.Names.Naming.{NamedView, sends, with_logged, with_all}
use Rattle.log_lines.specs.declared.names.line.NamedLine.{NamedLine}
use Rattle.cmd_import_log.specs.Entries.{entry_place}
use Rattle.cmd_import_log.specs.RecordedClocks.{host_words, AreApart}
use Rattle.cmd_import_log.proofs.HostNameLemmas.{NamesDiffer}
use Rattle.cmd_import_log.proofs.ReadEntryLemmas.{named_words, of_map, IsAs, IsEntryWith, AreRead, start, entries_of_read}

-- Other words for hosts.

module _ (peers : List PeerView) where
  -- the event with the hosts for its words
  abbrev pub renamed : LoggedEventView → LoggedEventView
  renamed s = record s { event = record s.event { host = host_of peers s.event.host; peer = host_of peers s.event.peer } }

  pub all_renamed : (read : List LoggedEventView) (n : NamedView) → with_all peers read n ≡ with_all [] (map renamed read) n
  all_renamed [] n = refl
  all_renamed (s ∷ read) n = all_renamed read (with_logged peers s n)

  abbrev is_for : List ℕ → List ℕ → Bool
  is_for host w = bytes_eq (host_of peers w) host

  -- the first of these words that is for a host
  abbrev word_for : List (List ℕ) → List ℕ → List ℕ
  word_for words host = get_or words (position_or_len (is_for host) words) []

  word_is : (words : List (List ℕ)) → AreApart peers words → (host w : List ℕ) → Contains words w → host_of peers w ≡ host → word_for words host ≡ w
  word_is words apart host w (k, within, at_k) is =
      let passes : is_for host (get_or words k w) ≡ true = ap (is_for host) at_k ∙ (bytes_eq-Decides (host_of peers w) host).1 is in
      let i = position_or_len (is_for host) words in
      let found = found_within (is_for host) words (list_any_at (is_for host) words k w within passes) in
      let first = (bytes_eq-Decides (host_of peers (word_for words host)) host).0 (passes_at_first (is_for host) words [] found) in
      let there = get_or_from_slice_get words i (word_for words host) (word_for words host) (slice_get-get_or words i [] found) in
      apart (word_for words host) w (i, found, there) (k, within, at_k) (first ∙ sym is)

  later : (v w : List ℕ) (words : List (List ℕ)) (u : List ℕ) → Contains words u → Contains (v ∷ w ∷ words) u
  later v w words u (k, within, at_k) = (suc (suc k), omega (arith, within), at_k)

  -- the log has the words of each event that is read
  has_words : (read : List LoggedEventView) (i : ℕ) (x : LoggedEventView) → slice_get read i ≡ Some x → Contains (host_words read) x.event.host × Contains (host_words read) x.event.peer
  has_words [] i x is = absurd (none-some x is)
  has_words (y ∷ read) zero x is =
      subst (λ (z : LoggedEventView). Contains (host_words (y ∷ read)) z.event.host × Contains (host_words (y ∷ read)) z.event.peer) (same_Some y x is) ((0, omega arith, refl), (1, omega arith, refl))
  has_words (y ∷ read) (suc i) x is =
      let rest = has_words read i x is in
      (later y.event.host y.event.peer (host_words read) x.event.host rest.0, later y.event.host y.event.peer (host_words read) x.event.peer rest.1)

  -- the words of hosts that get names
  abbrev pub words_with : List (List ℕ) → List LoggedEventView → List (List ℕ)
  words_with hosts read = hosts ++ named_words (map renamed read)

  module _ (hosts : List (List ℕ)) (read : List LoggedEventView) (apart : AreApart peers (host_words read)) where
    abbrev NameFor : List ℕ → List ℕ
    NameFor w = name_of (labelled (words_with hosts read)) (host_of peers w)

    of_words : (log : List Entry) → AreRead (name_of (labelled (words_with hosts read))) (map renamed read) log → AreRead NameFor read log
    of_words log are = record {
      origin = are.origin;
      word = λ p. word_for (host_words read) (are.word p);
      id = are.id;
      order = are.order;
      each = λ k e is.
          let y = are.each k e is in
          let x = of_map renamed read (are.origin k) y.0 y.1 in
          let has = has_words read (are.origin k) x.0 x.1 in
          let with_y = y.2 in
          let entry = with_y.entry in (
            x.0,
            x.1,
            record {
              entry = record {
                host = sym (word_is (host_words read) apart (are.word e.host) x.0.event.host has.0 (ap (λ (z : LoggedEventView). z.event.host) (sym x.2) ∙ entry.host));
                peer = sym (word_is (host_words read) apart (are.word e.peer) x.0.event.peer has.1 (ap (λ (z : LoggedEventView). z.event.peer) (sym x.2) ∙ entry.peer));
                sends = entry.sends ∙ ap (λ (z : LoggedEventView). sends z.event.act) x.2;
                id_is = ap (λ (z : LoggedEventView). z.event.id) (sym x.2) ∙ entry.id_is;
              };
              place = with_y.place ∙ ap (λ (z : LoggedEventView). entry_place z.place) x.2;
              name = with_y.name ∙ ap (λ (z : LoggedEventView). name_of (labelled (words_with hosts read)) z.event.host) x.2;
            },
          );
    }

    pub entries_read : NamesDiffer (words_with hosts read) → (b : Before) (f : NamedLine → HostEvent) → ((l : NamedLine) → IsAs (f l) l)
        → AreRead NameFor read (entries_from b (map f (with_all peers read (start hosts)).lines))
    entries_read differ b f keeps =
        subst (λ (n : NamedView). AreRead NameFor read (entries_from b (map f n.lines))) (sym (all_renamed read (start hosts)))
        (of_words (entries_from b (map f (with_all [] (map renamed read) (start hosts)).lines)) (entries_of_read hosts (map renamed read) differ b f keeps))

-- Freed receives.

-- what holds of each entry, and of a receive that is freed, holds of each one of the log with it
freed_each : (P : ℕ → Entry → Type 0) → ((i : ℕ) (e : Entry) → takes e.kind ≡ true → P i e → P i (record e { kind = Freed })) → (k : ℕ) (log : List Entry) (d : Entry) → get_or log k d ≡ d → takes d.kind ≡ true
    → ((i : ℕ) (e : Entry) → slice_get log i ≡ Some e → P i e) → (i : ℕ) (e : Entry) → slice_get (freed k log) i ≡ Some e → P i e
freed_each P keeps k [] d at_k one all i e is = absurd (none-some e is)
freed_each P keeps zero (x ∷ log) d at_k one all zero e is =
    subst (P zero) (same_Some (record x { kind = Freed }) e is) (keeps zero x (ap (λ (y : Entry). takes y.kind) at_k ∙ one) (all zero x refl))
freed_each P keeps zero (x ∷ log) d at_k one all (suc i) e is = all (suc i) e is
freed_each P keeps (suc k) (x ∷ log) d at_k one all zero e is = all zero e is
freed_each P keeps (suc k) (x ∷ log) d at_k one all (suc i) e is =
    freed_each (λ i e. P (suc i) e) (λ i e its. keeps (suc i) e its) k log d at_k one (λ i e here. all (suc i) e here) i e is

module _ (name_for : List ℕ → List ℕ) (read : List LoggedEventView) where
  -- an entry is that of a read event
  abbrev ReadAt : (ℕ → ℕ) → (ℕ → List ℕ) → (ℕ → Option (List ℕ)) → ℕ → Entry → Type 0
  ReadAt origin word id i e = (x : LoggedEventView) × (slice_get read (origin i) ≡ Some x) × IsEntryWith word id name_for e x

  keeps : (origin : ℕ → ℕ) (word : ℕ → List ℕ) (id : ℕ → Option (List ℕ)) (i : ℕ) (e : Entry) → takes e.kind ≡ true → ReadAt origin word id i e → ReadAt origin word id i (record e { kind = Freed })
  keeps origin word id i e one (x, here, its) =
      let entry = its.entry in (
        x,
        here,
        record {
          entry = record { host = entry.host; peer = entry.peer; sends = sym (takes_no_send e.kind one) ∙ entry.sends; id_is = entry.id_is };
          place = its.place;
          name = its.name;
        },
      )

  freed_read : (log : List Entry) (k : ℕ) → IsFirst (kept log) k → AreRead name_for read log → AreRead name_for read (freed k log)
  freed_read log k first are =
      let its = first_takes log k first in
      record {
        origin = are.origin;
        word = are.word;
        id = are.id;
        order = are.order;
        each = freed_each (ReadAt are.origin are.word are.id) (keeps are.origin are.word are.id) k log its.0 its.2 its.3 are.each;
      }

  pub settled_read : (log out : List Entry) → Settles log out → AreRead name_for read log → AreRead name_for read out
  settled_read log out (done none) are = are
  settled_read log out (turn k first rest) are = settled_read _ out rest (freed_read log k first are)
