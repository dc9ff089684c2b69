-- Each event of the hosts' lines is of a message that a line of the log names.
use Rattle.std.proofs.Common.{◌≡◌, ℕ, zero, suc, ◌<◌, ◌==◌, ◌&&◌, Bool, true, false, cond, List, [], ◌∷◌, Option, None, Some, length, map, refl, arith}
use Rattle.std.specs.Prelude.{All, is_none}
use Rattle.std.specs.List.{flat_map}
use Rattle.std.proofs.lemmas.List.Elements.{All-nil, All-cons, All-append}
use Rattle.log_chart.specs.Begun.{begun, behind, heads, heads_to}
use Rattle.log_chart.specs.BegunTables.{AreGiven}
use Rattle.log_chart.specs.Entries.{is_send}
use Rattle.log_chart.specs.Fates.{is_sent_at}
use Rattle.log_chart.specs.FateTables.{IsWithin}
use Rattle.log_chart.specs.HostLines.{lines_from, kept, host_lines}
use Rattle.log_chart.specs.Items.{received_message, message_of, item_of, invented, invented_behind, items_by, heads_in, items_of, naming_line}
use Rattle.log_chart.specs.NameOrder.{by_name}
use Rattle.log_chart.specs.declared.begun.Begun.{Begun}
use Rattle.log_chart.specs.declared.entry.Entry.{Entry}
use Rattle.log_chart.specs.declared.item.Item.{Item}
use Rattle.log_chart.specs.declared.item.MessageNo.TheVariants.{Sent}
use Rattle.log_chart.specs.declared.matching.LogLine.{LogLine}
use Rattle.log_chart.specs.declared.name_order.HostName.{HostName}
use Rattle.log_chart.proofs.OrderLemmas.{Within, kept_within, are_given}
use Rattle.log_chart.specs.Charts.ChartLines.{AreNamed}

abbrev pub AllBelow : ℕ → List ℕ → Type 0
AllBelow n [] = Unit {0}
AllBelow n (x ∷ xs) = (x < n) × AllBelow n xs

-- the receives of invented sends are among n lines
abbrev pub AreBelow : ℕ → List Begun → Type 0
AreBelow n [] = Unit {0}
AreBelow n (b ∷ given) = (b.receive < n) × AreBelow n given

abbrev Named : ℕ → Item → Type 0
Named n i = naming_line i.message < n

module _ (n : ℕ) where
  pub given_below : (given : List Begun) → AreGiven n given → AreBelow n given
  given_below [] are = tt
  given_below (b ∷ given) are = (are.0, given_below given are.3)

  pub heads_below : (q : ℕ) (given : List Begun) → AreBelow n given → AreBelow n (heads given q)
  heads_below q [] are = tt
  heads_below q (b ∷ given) are = go (is_none b.behind && b.sender == q) (heads_below q given are.1)
    where
      go : (its : Bool) → AreBelow n (heads given q) → AreBelow n (cond its (b ∷ heads given q) (heads given q))
      go true rest = (are.0, rest)
      go false rest = rest

  pub heads_to_below : (p : ℕ) (given : List Begun) → AreBelow n given → AllBelow n (heads_to given p)
  unfolding heads_to
  heads_to_below p [] are = tt
  heads_to_below p (b ∷ given) are = go (b.receiver == p) (heads_to_below p given are.1)
    where
      go : (its : Bool) → AllBelow n (heads_to given p) → AllBelow n (cond its (b.receive ∷ heads_to given p) (heads_to given p))
      go true rest = (are.0, rest)
      go false rest = rest

  pub behind_below : (s : ℕ) (given : List Begun) → AreBelow n given → AllBelow n (behind given s)
  unfolding behind
  behind_below s [] are = tt
  behind_below s (b ∷ given) are = go (is_sent_at s b.behind) (behind_below s given are.1)
    where
      go : (its : Bool) → AllBelow n (behind given s) → AllBelow n (cond its (b.receive ∷ behind given s) (behind given s))
      go true rest = (are.0, rest)
      go false rest = rest

  invented_named : (p : ℕ) (numbers : List ℕ) → AllBelow n numbers → AreNamed n (map (invented p) numbers)
  invented_named p [] below = All-nil (Named n)
  invented_named p (r ∷ numbers) below = All-cons (Named n) (invented p r) (map (invented p) numbers) below.0 (invented_named p numbers below.1)

  heads_named : (given : List Begun) (hosts : List HostName) → AreBelow n given → AreNamed n (heads_in given hosts)
  unfolding heads_in
  heads_named given [] below = All-nil (Named n)
  heads_named given (x ∷ hosts) below =
      All-append (Named n) (map (invented x.host) (heads_to given x.host)) (heads_in given hosts) (invented_named x.host (heads_to given x.host) (heads_to_below x.host given below)) (heads_named given hosts below)

  message_named : (x : LogLine) → x.number < n → IsWithin n x.send → naming_line (message_of x) < n
  message_named x within sends = go (is_send x.entry.kind) x.send sends
    where
      go : (sending : Bool) (send : Option ℕ) → IsWithin n send → naming_line (cond sending (Sent x.number) (received_message x.number send)) < n
      go true send inside = within
      go false None inside = within
      go false (Some s) inside = inside

  line_named : (given : List Begun) (q : ℕ) (x : LogLine) → AreBelow n given → x.number < n → IsWithin n x.send → AreNamed n (items_by given q x)
  line_named given q x below within sends = go (x.entry.host == q)
    where
      behind_it : (its : Bool) → AreNamed n (cond its (map (invented x.entry.peer) (behind given x.number)) [])
      behind_it true = invented_named x.entry.peer (behind given x.number) (behind_below x.number given below)
      behind_it false = All-nil (Named n)

      go : (its : Bool) → AreNamed n (cond its (item_of x ∷ invented_behind given x) [])
      go true = All-cons (Named n) (item_of x) (invented_behind given x) (message_named x within sends) (behind_it (is_send x.entry.kind))
      go false = All-nil (Named n)

  lines_named : (given : List Begun) (q : ℕ) (lines : List LogLine) → AreBelow n given → Within n lines → AreNamed n (flat_map (items_by given q) lines)
  lines_named given q [] below within = All-nil (Named n)
  lines_named given q (x ∷ lines) below within =
      All-append (Named n) (items_by given q x) (flat_map (items_by given q) lines) (line_named given q x below within.0 within.1) (lines_named given q lines below within.2)

  items_named : (hosts : List HostName) (lines : List LogLine) (given : List Begun) (q : ℕ) → AreBelow n given → Within n lines → AreNamed n (items_of hosts lines given q)
  unfolding items_of
  items_named hosts lines given q below within =
      All-append (Named n) (heads_in (heads given q) hosts) (flat_map (items_by given q) lines) (heads_named (heads given q) hosts (heads_below q given below)) (lines_named given q lines below within)

  all_named : (hosts : List HostName) (lines : List LogLine) (given : List Begun) (p m : ℕ) → AreBelow n given → Within n lines → All (AreNamed n) (lines_from hosts lines given p m)
  unfolding lines_from
  all_named hosts lines given p zero below within = All-nil (AreNamed n)
  all_named hosts lines given p (suc m) below within =
      All-cons (AreNamed n) (items_of hosts lines given p) (lines_from hosts lines given (suc p) m) (items_named hosts lines given p below within) (all_named hosts lines given (suc p) m below within)

pub hosts_named : (hosts : ℕ) (log : List Entry) → All (AreNamed (length log)) (host_lines hosts log)
hosts_named hosts log = all_named (length log) (by_name hosts log) (kept log) (begun (kept log)) 1 hosts (given_below (length log) (begun (kept log)) (are_given log)) (kept_within log)

lines_count : (hosts : List HostName) (lines : List LogLine) (given : List Begun) (p m : ℕ) → length (lines_from hosts lines given p m) ≡ m
unfolding lines_from
lines_count hosts lines given p zero = refl
lines_count hosts lines given p (suc m) = let rest = lines_count hosts lines given (suc p) m in omega (arith, rest)

pub hosts_count : (hosts : ℕ) (log : List Entry) → length (host_lines hosts log) ≡ hosts
hosts_count hosts log = lines_count (by_name hosts log) (kept log) (begun (kept log)) 1 hosts
