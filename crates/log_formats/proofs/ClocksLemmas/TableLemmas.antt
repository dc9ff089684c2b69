-- Tables of places: with one more event of a host, and the first event with an entry.
use Rattle.std.proofs.Common.{◌≡◌, ℕ, ◌+◌, ◌<◌, Bool, true, false, List, [], ◌∷◌, ◌++◌, Some, length, map, get_or, take, drop, refl, sym, ap, ◌∙◌, arith, if◌then◌else◌}
use Rattle.std.specs.Prelude.{slice_get}
use Rattle.std.specs.Map.{lookup}
use Rattle.std.proofs.lemmas.List.{take_more, drop_more, get_or-map, length-map}
use Rattle.std.proofs.lemmas.Option.{slice_get_within, get_or_from_slice_get, slice_get-get_or}
use Rattle.log_formats.specs.Clocks.Hearing.{HeardView, with_heard, with_all_heard}
use Rattle.log_formats.specs.Clocks.Moments.{MomentView, is_by_clock, is_of, last_stamps}
use Rattle.log_formats.specs.Clocks.Stamps.{StampView}
use Rattle.log_formats.specs.Clocks.Tables.{same_host, stamps_of, stamps_at, AreLasts}
use Rattle.log_formats.specs.declared.clocks.tables.Host.{Host}

-- what the last of some events knows, after one more event
pub last_more : (so_far : List StampView) (host : List ℕ) (moments : List MomentView) (m : MomentView)
    → last_stamps so_far host (moments ++ m ∷ []) ≡ (if is_of host m then m.stamps else last_stamps so_far host moments)
last_more so_far host [] m = refl
last_more so_far host (x ∷ moments) m = last_more (if is_of host x then x.stamps else so_far) host moments m

module _ (moments : List MomentView) (at : ℕ) (m : MomentView) (here : slice_get moments at ≡ Some m) where
  front : take (at + 1) moments ≡ take at moments ++ m ∷ []
  front = take_more moments at m (slice_get_within moments at m here) ∙ ap (λ x. take at moments ++ x ∷ []) (get_or_from_slice_get moments at m m here)

  -- the table of last events, after this event is noted
  pub lasts_more : (old new : List (Host × ℕ)) → AreLasts moments at old
      → ((h : Host) → lookup (same_host h) new ≡ (if is_of h.name.now m then Some at else lookup (same_host h) old)) → AreLasts moments (at + 1) new
  lasts_more old new are step = record { last = λ h. by h (is_of h.name.now m) refl }
    where
      by : (h : Host) (b : Bool) → is_of h.name.now m ≡ b → stamps_at moments (lookup (same_host h) new) ≡ last_stamps [] h.name.now (take (at + 1) moments)
      by h true its =
          ap (stamps_at moments) (step h ∙ ap (λ b. if b then Some at else lookup (same_host h) old) its) ∙ ap stamps_of here
          ∙ sym (ap (last_stamps [] h.name.now) front ∙ last_more [] h.name.now (take at moments) m ∙ ap (λ b. if b then m.stamps else last_stamps [] h.name.now (take at moments)) its)
      by h false its =
          ap (stamps_at moments) (step h ∙ ap (λ b. if b then Some at else lookup (same_host h) old) its) ∙ are.last h
          ∙ sym (ap (last_stamps [] h.name.now) front ∙ last_more [] h.name.now (take at moments) m ∙ ap (λ b. if b then m.stamps else last_stamps [] h.name.now (take at moments)) its)

-- no event is noted yet
pub lasts_none : (moments : List MomentView) (entries : List (Host × ℕ)) → entries ≡ [] → AreLasts moments 0 entries
lasts_none moments entries none = record { last = λ h. ap (λ e. stamps_at moments (lookup (same_host h) e)) none }

-- the next event is noted
pub lasts_next : {A : Type 0} (view : A → MomentView) (xs : List A) (at : ℕ) (x : A) → at < length xs → x ≡ get_or xs at x → (old new : List (Host × ℕ)) → AreLasts (map view xs) at old
    → ((h : Host) → lookup (same_host h) new ≡ (if is_of h.name.now (view x) then Some at else lookup (same_host h) old)) → AreLasts (map view xs) (at + 1) new
lasts_next view xs at x within read old new are step =
    let here : slice_get (map view xs) at ≡ Some (view x) =
    slice_get-get_or (map view xs) at (view x) (omega (arith, within, length-map xs view)) ∙ ap (λ m. Some m) (get_or-map view xs at x (view x) within ∙ ap view (sym read)) in
    lasts_more (map view xs) at (view x) here old new are step

-- what the next event has heard of is added
pub heard_next : {A : Type 0} (view : A → MomentView) (xs : List A) (at : ℕ) (x : A) → at < length xs → x ≡ get_or xs at x → (old new : List HeardView)
    → new ≡ (if is_by_clock (view x) then with_heard (map view xs) at old (view x) else old)
    → with_all_heard (map view xs) (at + 1) new (map view (drop (at + 1) xs)) ≡ with_all_heard (map view xs) at old (map view (drop at xs))
heard_next view xs at x within read old new new_is =
    let whole : drop at xs ≡ x ∷ drop (at + 1) xs = drop_more xs at x within ∙ ap (λ y. y ∷ drop (at + 1) xs) (sym read) in
    ap (λ l. with_all_heard (map view xs) (at + 1) l (map view (drop (at + 1) xs))) new_is ∙ sym (ap (λ l. with_all_heard (map view xs) at old (map view l)) whole)
