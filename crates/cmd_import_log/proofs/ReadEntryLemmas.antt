-- The entries of a log's lines: each is that of an event that was read, in their order. Its instances have the words of
-- the event's hosts, and its stream the event's id.
use Rattle.std.proofs.Common.{◌≡◌, ℕ, zero, suc, ◌<◌, Bool, true, false, cond, List, [], ◌∷◌, ◌++◌, Option, None, Some, map, get_or, refl, sym, ap, ◌∙◌, subst, arith, append_assoc, append-nil}
use Rattle.std.specs.Prelude.{bytes_eq, slice_get, fold}
use Rattle.std.specs.List.{position_or_len}
use Rattle.std.proofs.lemmas.List.Folds.{list_any_at}
use Rattle.std.proofs.lemmas.List.Sums.{fold-append, passes_at_first}
use Rattle.std.proofs.lemmas.Option.{none-some, same_Some, slice_get-get_or, slice_get_within, get_or_from_slice_get}
use Rattle.std.proofs.lemmas.Slice.Eq.{bytes_eq-Decides}
use Rattle.diagram_labels.specs.Labels.{Labelling, has_label, with_label, none, name_of, labelled}
use Rattle.diagram_labels.proofs.Labelled.{labels_keep}
use Rattle.log_chart.specs.Named.Entering.{Before, entries_from, hosts_from}
use Rattle.log_chart.specs.declared.entry.Entry.{Entry}
use Rattle.log_chart.specs.declared.named.host_event.HostEvent.{HostEvent}
use Rattle.log_chart.proofs.NamedLemmas.WordLemmas.{found_within, put_passes, put_keeps}
use Rattle.log_lines.specs.Events.{LoggedEventView}
use Rattle.log_lines.specs.Names.Ids.{with_id}
use Rattle.log_lines.specs.Names.Naming.{NamedView, sends, ids_with, id_number, with_hosts, with_event, with_all}
use Rattle.log_lines.specs.Reading.{with_other}
use Rattle.log_lines.specs.declared.names.line.NamedLine.{NamedLine}
use Rattle.log_formats.specs.Clocks.ChartOrder.{IsEntryOf}
use Rattle.cmd_import_log.specs.Entries.{entry_place}
use Rattle.cmd_import_log.proofs.EntryNameLemmas.{same_bytes, name_in, key_of, after_all, named_entries}
use Rattle.cmd_import_log.proofs.HostNameLemmas.{NamesDiffer, has_own}

-- Lines with names, and events that were read.

abbrev pub is_own : LoggedEventView → Bool
is_own s = bytes_eq s.event.host s.event.peer

-- the words of the hosts that get names, as they come
abbrev pub named_words : List LoggedEventView → List (List ℕ)
named_words [] = []
named_words (s ∷ read) = cond (is_own s) (named_words read) (s.event.host ∷ s.event.peer ∷ named_words read)

-- the place of the event of each line; events of messages of a host to itself have none
abbrev pub after : Bool → (ℕ → ℕ) → ℕ → ℕ
after true f k = suc (f k)
after false f zero = zero
after false f (suc k) = suc (f k)

abbrev pub origin_of : List LoggedEventView → ℕ → ℕ
origin_of [] k = k
origin_of (s ∷ read) k = after (is_own s) (origin_of read) k

pub origins_rise : (read : List LoggedEventView) (j k : ℕ) → j < k → origin_of read j < origin_of read k
origins_rise [] j k less = less
origins_rise (s ∷ read) j k less = go (is_own s) j k less (λ (i l : ℕ) (low : i < l). origins_rise read i l low)
  where
    go : (own : Bool) (j k : ℕ) → j < k → ((i l : ℕ) → i < l → origin_of read i < origin_of read l) → after own (origin_of read) j < after own (origin_of read) k
    go true j k less rises = let rest = rises j k less in omega (arith, rest)
    go false zero zero less rises = absurd (omega (arith, less))
    go false zero (suc k) less rises = omega arith
    go false (suc j) zero less rises = absurd (omega (arith, less))
    go false (suc j) (suc k) less rises = let rest = rises j k (omega (arith, less)) in omega (arith, rest)

abbrev pub id_in : List (List ℕ) → Option ℕ → Option (List ℕ)
id_in ids None = None
id_in ids (Some n) = Some (get_or ids n [])

pub record IsLineOf (hosts : Labelling) (ids : List (List ℕ)) (s : LoggedEventView) (l : NamedLine) : Type 0 where
  pub host : l.host ≡ name_of hosts s.event.host
  pub peer : l.peer ≡ name_of hosts s.event.peer
  pub sends_so : l.sends ≡ sends s.event.act
  pub id : s.event.id ≡ id_in ids l.id
  pub place : l.place ≡ s.place

-- the line of an event, and what is known after it
abbrev pub line_of : LoggedEventView → NamedView → NamedLine
line_of s n = record {
  host = name_of (with_label n.hosts s.event.host) s.event.host;
  sends = sends s.event.act;
  peer = name_of (with_hosts n.hosts s.event.host s.event.peer) s.event.peer;
  name = name_of (with_label n.messages s.event.name) s.event.name;
  id = id_number (ids_with n.ids s.event.id) s.event.id;
  place = s.place;
}

abbrev pub without : LoggedEventView → NamedView → NamedView
without s n = record { hosts = n.hosts; messages = n.messages; ids = n.ids; lines = n.lines; own = Some (with_other s.place n.own) }

abbrev pub step : Bool → LoggedEventView → NamedView → NamedView
step own s n = cond own (without s n) (with_event s.event.host s.event.peer s n)

abbrev pub made_if : Bool → NamedLine → List NamedLine → List NamedLine
made_if true l rest = rest
made_if false l rest = l ∷ rest

-- the lines that these events add
abbrev pub made : List LoggedEventView → NamedView → List NamedLine
made [] n = []
made (s ∷ read) n = made_if (is_own s) (line_of s n) (made read (step (is_own s) s n))

made_all : (read : List LoggedEventView) (n : NamedView) → (with_all [] read n).lines ≡ n.lines ++ made read n
made_all [] n = sym (append-nil n.lines)
made_all (s ∷ read) n = go (is_own s) (λ (m : NamedView). made_all read m)
  where
    go : (own : Bool) → ((m : NamedView) → (with_all [] read m).lines ≡ m.lines ++ made read m) → (with_all [] read (step own s n)).lines ≡ n.lines ++ made_if own (line_of s n) (made read (step own s n))
    go true all = all (without s n)
    go false all = all (with_event s.event.host s.event.peer s n) ∙ append_assoc n.lines (line_of s n ∷ []) (made read (with_event s.event.host s.event.peer s n))

id_keeps : (ids : List (List ℕ)) (id : Option (List ℕ)) (i : ℕ) (y : List ℕ) → slice_get ids i ≡ Some y → slice_get (ids_with ids id) i ≡ Some y
unfolding with_id
id_keeps ids None i y is = is
id_keeps ids (Some w) i y is = put_keeps (bytes_eq w) ids w i y is

ids_keep : (read : List LoggedEventView) (n : NamedView) (i : ℕ) (y : List ℕ) → slice_get n.ids i ≡ Some y → slice_get (with_all [] read n).ids i ≡ Some y
ids_keep [] n i y is = is
ids_keep (s ∷ read) n i y is = go (is_own s) (λ (m : NamedView) (has : slice_get m.ids i ≡ Some y). ids_keep read m i y has)
  where
    go : (own : Bool) → ((m : NamedView) → slice_get m.ids i ≡ Some y → slice_get (with_all [] read m).ids i ≡ Some y) → slice_get (with_all [] read (step own s n)).ids i ≡ Some y
    go true keeps = keeps (without s n) is
    go false keeps = keeps (with_event s.event.host s.event.peer s n) (id_keeps n.ids s.event.id i y is)

id_there : (ids : List (List ℕ)) (w : List ℕ) → slice_get (with_id ids w) (position_or_len (bytes_eq w) (with_id ids w)) ≡ Some w
unfolding with_id
id_there ids w =
    let all = with_id ids w in
    let found = put_passes (bytes_eq w) ids w (same_bytes w) in
    let place = position_or_len (bytes_eq w) ids in
    let there = slice_get_within all place found.0 found.1 in
    let any = list_any_at (bytes_eq w) all place [] there (ap (bytes_eq w) (get_or_from_slice_get all place found.0 [] found.1) ∙ found.2) in
    let within = found_within (bytes_eq w) all any in
    let is : w ≡ get_or all (position_or_len (bytes_eq w) all) [] = (bytes_eq-Decides w _).0 (passes_at_first (bytes_eq w) all [] within) in
    slice_get-get_or all (position_or_len (bytes_eq w) all) [] within ∙ ap Some (sym is)

id_kept : (all ids : List (List ℕ)) (id : Option (List ℕ)) → ((i : ℕ) (y : List ℕ) → slice_get (ids_with ids id) i ≡ Some y → slice_get all i ≡ Some y) → id ≡ id_in all (id_number (ids_with ids id) id)
id_kept all ids None keeps = refl
id_kept all ids (Some w) keeps =
    let place = position_or_len (bytes_eq w) (with_id ids w) in
    ap Some (sym (get_or_from_slice_get all place w [] (keeps place w (id_there ids w))))

-- what a line with names has of its event
pub record IsOfEvent (words : List (List ℕ)) (ids : List (List ℕ)) (s : LoggedEventView) (l : NamedLine) : Type 0 where
  pub has_host : has_label words s.event.host ≡ true
  pub has_peer : has_label words s.event.peer ≡ true
  pub line : IsLineOf (labelled words) ids s l

-- each line that these events add is that of the event at its place
abbrev pub AreLinesOf : List LoggedEventView → Type 0
AreLinesOf read = (words : List (List ℕ)) (n : NamedView) → n.hosts ≡ labelled words → (k : ℕ) (l : NamedLine) → slice_get (made read n) k ≡ Some l
    → (s : LoggedEventView) × (slice_get read (origin_of read k) ≡ Some s) × IsOfEvent (words ++ named_words read) (with_all [] read n).ids s l

pub lines_of_all : (read : List LoggedEventView) → AreLinesOf read
lines_of_all [] words n hosts k l is = absurd (none-some l is)
lines_of_all (s ∷ read) words n hosts k l is = go (is_own s) k is (lines_of_all read)
  where
    h : List ℕ
    h = s.event.host

    p : List ℕ
    p = s.event.peer

    here : List (List ℕ)
    here = words ++ (h ∷ p ∷ named_words read)

    next : NamedView
    next = with_event h p s n

    one : with_label n.hosts h ≡ labelled (words ++ h ∷ [])
    one = ap (λ l. with_label l h) hosts ∙ sym (fold-append with_label none words (h ∷ []))

    two : with_hosts n.hosts h p ≡ labelled (words ++ h ∷ p ∷ [])
    two = ap (λ l. with_label (with_label l h) p) hosts ∙ sym (fold-append with_label none words (h ∷ p ∷ []))

    whole : (words ++ h ∷ p ∷ []) ++ named_words read ≡ here
    whole = append_assoc words (h ∷ p ∷ []) (named_words read)

    of_host : name_of (with_label n.hosts h) h ≡ name_of (labelled here) h
    of_host =
        ap (λ l. name_of l h) one ∙ sym (labels_keep (words ++ h ∷ []) (p ∷ named_words read) h (has_own words [] h))
        ∙ ap (λ ws. name_of (labelled ws) h) (append_assoc words (h ∷ []) (p ∷ named_words read))

    has_second : has_label (words ++ h ∷ p ∷ []) p ≡ true
    has_second = ap (λ ws. has_label ws p) (sym (append_assoc words (h ∷ []) (p ∷ []))) ∙ has_own (words ++ h ∷ []) [] p

    of_peer : name_of (with_hosts n.hosts h p) p ≡ name_of (labelled here) p
    of_peer = ap (λ l. name_of l p) two ∙ sym (labels_keep (words ++ h ∷ p ∷ []) (named_words read) p has_second) ∙ ap (λ ws. name_of (labelled ws) p) whole

    has_peer : has_label here p ≡ true
    has_peer = ap (λ ws. has_label ws p) (sym (append_assoc words (h ∷ []) (p ∷ named_words read))) ∙ has_own (words ++ h ∷ []) (named_words read) p

    own_line : IsOfEvent here (with_all [] read next).ids s (line_of s n)
    own_line = record {
      has_host = has_own words (p ∷ named_words read) h;
      has_peer = has_peer;
      line = record {
        host = of_host;
        peer = of_peer;
        sends_so = refl;
        id = id_kept (with_all [] read next).ids n.ids s.event.id (λ i y is. ids_keep read next i y is);
        place = refl;
      };
    }

    go : (own : Bool) (k : ℕ) → slice_get (made_if own (line_of s n) (made read (step own s n))) k ≡ Some l → AreLinesOf read
        → (x : LoggedEventView) × (slice_get (s ∷ read) (after own (origin_of read) k) ≡ Some x)
        × IsOfEvent (words ++ cond own (named_words read) (h ∷ p ∷ named_words read)) (with_all [] read (step own s n)).ids x l
    go true k is all = all words (without s n) hosts k l is
    go false zero is all = (s, refl, subst (IsOfEvent here (with_all [] read next).ids s) (same_Some (line_of s n) l is) own_line)
    go false (suc k) is all =
        let rest = all (words ++ h ∷ p ∷ []) next two k l is in
        (rest.0, rest.1, subst (λ ws. IsOfEvent ws (with_all [] read next).ids rest.0 l) whole rest.2)

-- Both together.

-- the word whose name this is
abbrev pub has_name : Labelling → List ℕ → List ℕ → Bool
has_name hosts name w = bytes_eq (name_of hosts w) name

abbrev pub word_in : List (List ℕ) → List ℕ → List ℕ
word_in words name = get_or words (position_or_len (has_name (labelled words) name) words) []

word_is : (words : List (List ℕ)) → NamesDiffer words → (name w : List ℕ) → has_label words w ≡ true → name_of (labelled words) w ≡ name → word_in words name ≡ w
word_is words differ name w has named =
    let all = labelled words in
    let at_w = found_within (bytes_eq w) words has in
    let i = position_or_len (bytes_eq w) words in
    let is : w ≡ get_or words i [] = (bytes_eq-Decides w (get_or words i [])).0 (passes_at_first (bytes_eq w) words [] at_w) in
    let passes : has_name all name (get_or words i []) ≡ true = ap (has_name all name) (sym is) ∙ (bytes_eq-Decides (name_of all w) name).1 named in
    let within = found_within (has_name all name) words (list_any_at (has_name all name) words i [] at_w passes) in
    let found = (bytes_eq-Decides (name_of all (word_in words name)) name).0 (passes_at_first (has_name all name) words [] within) in
    let there = list_any_at (bytes_eq (word_in words name)) words (position_or_len (has_name all name) words) [] within (same_bytes (word_in words name)) in
    differ (word_in words name) w there has (found ∙ sym named)

pub of_map : {A B : Type 0} (f : A → B) (xs : List A) (k : ℕ) (y : B) → slice_get (map f xs) k ≡ Some y → (x : A) × (slice_get xs k ≡ Some x) × (y ≡ f x)
of_map f [] k y is = absurd (none-some y is)
of_map f (x ∷ xs) zero y is = (x, refl, sym (same_Some (f x) y is))
of_map f (x ∷ xs) (suc k) y is = of_map f xs k y is

-- the event has the host, the direction, the peer, the id and the place of the line
pub record IsAs (x : HostEvent) (l : NamedLine) : Type 0 where
  pub host : x.host ≡ l.host
  pub peer : x.peer ≡ l.peer
  pub sends_so : x.sends ≡ l.sends
  pub id : x.id ≡ l.id
  pub place : x.place ≡ entry_place l.place

-- an entry is that of a read event, with its line and the name of its host
pub record IsEntryWith (word : ℕ → List ℕ) (id : ℕ → Option (List ℕ)) (name_for : List ℕ → List ℕ) (e : Entry) (x : LoggedEventView) : Type 0 where
  pub entry : IsEntryOf word id e x
  pub place : e.place ≡ entry_place x.place
  pub name : e.host_name ≡ name_for x.event.host

-- entries are those of read events, in their order
pub record AreRead (name_for : List ℕ → List ℕ) (read : List LoggedEventView) (log : List Entry) : Type 0 where
  pub origin : ℕ → ℕ
  pub word : ℕ → List ℕ
  pub id : ℕ → Option (List ℕ)
  pub order : (j k : ℕ) → j < k → origin j < origin k
  pub each : (k : ℕ) (e : Entry) → slice_get log k ≡ Some e → (x : LoggedEventView) × (slice_get read (origin k) ≡ Some x) × IsEntryWith word id name_for e x

abbrev pub start : List (List ℕ) → NamedView
start hosts = record { hosts = fold with_label none hosts; messages = none; ids = []; lines = []; own = None }

-- the labels of hosts, as they came
hosts_from_read : (read : List LoggedEventView) (n : NamedView) → (with_all [] read n).hosts ≡ fold with_label n.hosts (named_words read)
hosts_from_read [] n = refl
hosts_from_read (s ∷ read) n = go (is_own s) (λ (m : NamedView). hosts_from_read read m)
  where
    go : (own : Bool) → ((m : NamedView) → (with_all [] read m).hosts ≡ fold with_label m.hosts (named_words read))
        → (with_all [] read (step own s n)).hosts ≡ fold with_label n.hosts (cond own (named_words read) (s.event.host ∷ s.event.peer ∷ named_words read))
    go true all = all (without s n)
    go false all = all (with_event s.event.host s.event.peer s n)

pub hosts_of_read : (hosts : List (List ℕ)) (read : List LoggedEventView) → (with_all [] read (start hosts)).hosts ≡ labelled (hosts ++ named_words read)
hosts_of_read hosts read = hosts_from_read read (start hosts) ∙ sym (fold-append with_label none hosts (named_words read))

pub entries_of_read : (hosts : List (List ℕ)) (read : List LoggedEventView) → NamesDiffer (hosts ++ named_words read) → (b : Before) (f : NamedLine → HostEvent)
    → ((l : NamedLine) → IsAs (f l) l) → AreRead (name_of (labelled (hosts ++ named_words read))) read (entries_from b (map f (with_all [] read (start hosts)).lines))
entries_of_read hosts read differ b f keeps =
    let n = with_all [] read (start hosts) in
    let words = hosts ++ named_words read in
    let events = map f n.lines in
    let names = hosts_from b events in
    let last = after_all b events in
    record {
      origin = origin_of read;
      word = λ p. word_in words (name_in names p);
      id = λ c. id_in n.ids (key_of last c);
      order = λ j k less. origins_rise read j k less;
      each = λ k e is.
          let x = named_entries b events k e is in
          let l = of_map f n.lines k x.0 x.1 in
          let s = lines_of_all read hosts (start hosts) refl k l.0 (subst (λ ls. slice_get ls k ≡ Some l.0) (made_all read (start hosts)) l.1) in
          let entry = x.2 in
          let of_event = s.2 in
          let line = of_event.line in
          let same = keeps l.0 in
          let host : x.0.host ≡ name_of (labelled words) s.0.event.host = ap (λ (y : HostEvent). y.host) l.2 ∙ same.host ∙ line.host in
          let peer : x.0.peer ≡ name_of (labelled words) s.0.event.peer = ap (λ (y : HostEvent). y.peer) l.2 ∙ same.peer ∙ line.peer in (
            s.0,
            s.1,
            record {
              entry = record {
                host = sym (word_is words differ (name_in names e.host) s.0.event.host of_event.has_host (sym host ∙ entry.host));
                peer = sym (word_is words differ (name_in names e.peer) s.0.event.peer of_event.has_peer (sym peer ∙ entry.peer));
                sends = entry.sends_so ∙ ap (λ (y : HostEvent). y.sends) l.2 ∙ same.sends_so ∙ line.sends_so;
                id_is = line.id ∙ ap (id_in n.ids) (sym same.id ∙ ap (λ (y : HostEvent). y.id) (sym l.2) ∙ entry.id);
              };
              place = entry.place ∙ ap (λ (y : HostEvent). y.place) l.2 ∙ same.place ∙ ap entry_place line.place;
              name = entry.host_name ∙ host;
            },
          );
    }
