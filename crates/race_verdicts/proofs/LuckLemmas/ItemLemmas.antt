-- The events of a recording's hosts by their places.
use Rattle.std.proofs.Common.{◌≡◌, ℕ, zero, suc, ◌<◌, ◌≤◌, inl, inr, List, [], Some, length, get_or, refl, sym, ap, ◌∙◌, subst, arith}
use Rattle.std.specs.Prelude.{All, Contains}
use Rattle.std.proofs.lemmas.Bool.{cases_lt}
use Rattle.std.proofs.lemmas.List.{get_or_past, get_or_default}
use Rattle.std.proofs.lemmas.List.Elements.{All-contains}
use Rattle.std.proofs.lemmas.Option.{slice_get_within}
use Rattle.chart.specs.Charts.{Place, LineView}
use Rattle.chart.specs.Events.{ith}
use Rattle.log_chart.specs.declared.item.Item.{Item}
use Rattle.race_verdicts.specs.Luck.Places.{host_items, items_of, item_at}
use Rattle.race_verdicts.specs.Luck.Recorded.{IsOfLog, IsRecording}
use Rattle.race_verdicts.proofs.LuckLemmas.LogLemmas.{contained_get}
use Rattle.race_verdicts.specs.Recordings.{RecordingView}

pub ith_none : (i : ℕ) (x : Item) → ith {X = Item} [] i ≡ Some x → ⊥
ith_none zero x is = absurd (cc is)
ith_none (suc i) x is = let within = slice_get_within {A = Item} [] i x is in absurd (omega arith)

pub ith_contained : (items : List Item) (i : ℕ) (x : Item) → ith items i ≡ Some x → Contains items x
ith_contained items zero x is = absurd (cc is)
ith_contained items (suc i) x is = contained_get items i x is

-- the host has the event at the place
pub record IsOnHost (rec : RecordingView) (e : Place) (i : Item) : Type 0 where
  pub host : ℕ
  pub instance : e.instance ≡ suc host
  pub within : host < length rec.hosts
  pub is : ith (get_or rec.hosts host []) e.index ≡ Some i

pub on_host : (rec : RecordingView) (e : Place) (i : Item) → item_at rec e ≡ Some i → IsOnHost rec e i
on_host rec e i = go e.instance refl
  where
    go : (q : ℕ) → e.instance ≡ q → ith (items_of rec q) e.index ≡ Some i → IsOnHost rec e i
    go zero same is = absurd (ith_none e.index i is)
    go (suc p) same is = record { host = p; instance = same; within = within; is = is }
      where
        within : p < length rec.hosts
        within =
            elim (cases_lt p (length rec.hosts)) [
              | inl less ↦ less
              | inr past ↦ absurd (ith_none e.index i (subst (λ l. ith l e.index ≡ Some i) (get_or_past rec.hosts p [] past) is))
            ]

pub of_log : (lines : List LineView) (rec : RecordingView) → IsRecording lines rec → (e : Place) (i : Item) → item_at rec e ≡ Some i → IsOfLog rec.lines i
of_log lines rec are e i is =
    let on = on_host rec e i is in
    let items = get_or rec.hosts on.host [] in
    let all : All (IsOfLog rec.lines) items = All-contains (All (IsOfLog rec.lines)) rec.hosts items are.items (on.host, on.within, get_or_default rec.hosts on.host items [] on.within) in
    All-contains (IsOfLog rec.lines) items i all (ith_contained items e.index i on.is)

-- the host whose events were read
pub hosts_read : (hosts : List (List Item)) (q p : ℕ) (items : List Item) → q ≡ suc p → (i : ℕ) → 1 ≤ i → i ≤ length (host_items hosts q) → items ≡ get_or hosts p items → items ≡ host_items hosts q
hosts_read hosts q p items is i low high read =
    let there : i ≤ length (get_or hosts p []) = subst (λ k. i ≤ length (host_items hosts k)) is high in
    elim (cases_lt p (length hosts)) [
      | inl less ↦ read ∙ get_or_default hosts p items [] less ∙ sym (ap (host_items hosts) is)
      | inr past ↦ absurd (let empty = ap length (get_or_past hosts p [] past) in omega (arith, empty, there))
    ]
