-- The rule of a shelf, after each kind of step.
use Rattle.std.proofs.Common.{◌≡◌, ◌≢◌, ℕ, zero, suc, ◌+◌, ◌<◌, ◌==◌, ⊎_elim, inl, inr, cond, List, [], ◌∷◌, length, map, set, get_or-set_same, get_or-set_other, refl, sym, ap, ◌∙◌, subst, arith, length-set}
use Rattle.std.specs.Prelude.{Option, Some, None, replicate, slice_index}
use Rattle.std.proofs.lemmas.List.{set-get_or, length-map, length-replicate, get_or-replicate}
use Rattle.std.proofs.lemmas.Bool.{eq-eqb, ne_eqb}
use mathlib.Core.Option.{none, some, some-injective, some-ne-none}
use native.Mathlib.Decide.{ℕ_discrete as dec_eq}
use lib.ListN.{get_elem?}
use Rattle.atomic_table.specs.Table.{State, Act, Valid, Allows, Splits, keeps, takes, gives, stepped, carried_after, opening}
use Rattle.atomic_table.specs.Seated.{TableId}
use Rattle.atomic_table.proofs.Lists.{at_index, at_map, set_here, set_else}
use Rattle.board_table.specs.declared.shape.Shape.{Shape}
use Rattle.board.specs.Views.{PostView}
use Rattle.board.specs.Parked.{IsAtBoard}
use Rattle.freed_posts.specs.declared.change.Change.{Change}
use Rattle.freed_posts.specs.declared.change.Change.TheVariants.{Kept, Taken}
use Rattle.freed_posts.specs.declared.knowledge.Right.{Right}
use Rattle.freed_posts.specs.declared.knowledge.Right.TheVariants.{Nothing, Unissued, Issued, Taking, Handing}
use Rattle.freed_posts.specs.declared.knowledge.Knowledge.{Knowledge}
use Rattle.freed_posts.specs.Shelves.{lying, AreOthers}
use Rattle.freed_posts.specs.Knowing.{knowledge, unissued, issued, next_place, other_places, IsNext}
use Rattle.freed_posts.specs.Rule.{Homes, IsPlace, Lies, HasPlace, AreVacant, IsOwned, Fits, IsShelf}
use Rattle.freed_posts.specs.Plays.{Issues, Hands, KeepsAt, TakesAt, taken_with}
use Rattle.freed_posts.proofs.Changes.{go_on_same, go_on_one, kept_here, kept_other, taken_here, taken_other, made_other, not_both}
use Rattle.freed_posts.proofs.Places.{place_left, seat_left, witness_fits, after_step, after_split}

pub next_is : (right : Right) (place : ℕ) → IsNext right place → next_place right ≡ Unissued place (place + 1)
next_is Nothing place next = absurd next
next_is (Unissued first end) place next = ap (λ i. Unissued i (i + 1)) (sym next.0)
next_is (Issued mine) place next = absurd next
next_is (Taking mine other) place next = absurd next
next_is (Handing mine other) place next = ap (λ i. Unissued i (i + 1)) (sym next.0)

module _ (key : Shape) (board : TableId) where
  abbrev n : ℕ
  n = key.instances

  -- the rule of a new shelf
  pub opens : IsShelf key board (opening (replicate n 0) (replicate n None) (unissued 0 n []))
  opens = record {
    log = [];
    owner = λ place. 0;
    words_are = length-replicate n 0;
    slots_are = length-map homes some ∙ length-replicate {A = Option PostView} n None;
    places = λ place within. get_or-replicate n place 0 0 within;
    entries = entries;
  }
    where
      homes : List (Option PostView)
      homes = replicate n None

      first : Fits n [] (λ place. 0) (map some homes) 0 (unissued 0 n [])
      first = record {
        seen = go_on_same [];
        owns = λ place has. record { within = has.1; owner_is = refl; away = refl; made = refl };
        vacant = λ place low high. at_map some homes place None (at_index homes place None (let long = length-replicate {A = Option PostView} n None in omega (arith, long, high)) (sym (get_or-replicate n place None None high)));
      }

      entries : (id : ℕ) (v : Knowledge) → get_elem? (unissued 0 n [] ∷ []) id ≡ some v → Fits n [] (λ place. 0) (map some homes) id v
      entries zero v at = subst (Fits n [] (λ place. 0) (map some homes) 0) (some-injective (unissued 0 n []) v at) first
      entries (suc id) v at = absurd (some-ne-none v (sym at))

  -- another owner of one place
  abbrev given : ℕ → ℕ → (ℕ → ℕ) → ℕ → ℕ
  given id place owner i = cond (i == place) id (owner i)

  given_here : (id place : ℕ) (owner : ℕ → ℕ) (i : ℕ) → i ≡ place → given id place owner i ≡ id
  given_here id place owner i same = ap (λ b. cond b id (owner i)) (eq-eqb i place same)

  given_other : (id place : ℕ) (owner : ℕ → ℕ) (i : ℕ) → i ≢ place → given id place owner i ≡ owner i
  given_other id place owner i other = ap (λ b. cond b id (owner i)) (ne_eqb i place other)

  -- a place isn't that of two seats
  one_owner : (log : List Change) (owner : ℕ → ℕ) (id j place i : ℕ) (seen theirs : List Change) → IsOwned n log owner id seen place → IsOwned n log owner j theirs i → j ≢ id → i ≢ place
  one_owner log owner id j place i seen theirs mine its ne same = ne (sym its.owner_is ∙ ap owner same ∙ mine.owner_is)

  other_number : (i place : ℕ) → i ≢ place → suc place ≡ suc i → ⊥
  other_number i place ne same = ne (omega (arith, same))

  -- one of a seat's places, which is at home and empty, goes to a seat of its own
  split_off : (id place : ℕ) (right rest : Right) (seen : List Change) → HasPlace right place → ((homes : Homes) → AreVacant right homes → get_elem? homes place ≡ some (some None))
      → ((i : ℕ) → HasPlace rest i → HasPlace right i × (i ≢ place)) → ((homes : Homes) → AreVacant right homes → AreVacant rest homes)
      → Splits (IsShelf key board) id (knowledge right seen) (knowledge rest seen) (unissued place (place + 1) seen)
  split_off id place right rest seen has vacant others_of vacant_of s r at = record {
    log = r.log;
    owner = owner;
    words_are = r.words_are;
    slots_are = r.slots_are;
    places = r.places;
    entries = after_split (Fits n r.log owner s.homes) s.views id (knowledge rest seen) (unissued place (place + 1) seen) left new others;
  }
    where
      owner : ℕ → ℕ
      owner = given (length s.views) place r.owner

      mine : Fits n r.log r.owner s.homes id (knowledge right seen)
      mine = r.entries id (knowledge right seen) at

      its_own : IsOwned n r.log r.owner id seen place
      its_own = mine.owns place has

      left : Fits n r.log owner s.homes id (knowledge rest seen)
      left = record {
        seen = mine.seen;
        owns = λ i keeps_it. let still = others_of i keeps_it in let its = mine.owns i still.0 in record { within = its.within; owner_is = given_other (length s.views) place r.owner i still.1 ∙ its.owner_is; away = its.away; made = its.made };
        vacant = vacant_of s.homes mine.vacant;
      }

      only : (i : ℕ) → i ≡ place → IsOwned n r.log owner (length s.views) seen i
      only i same = subst (IsOwned n r.log owner (length s.views) seen) (sym same) (record { within = its_own.within; owner_is = given_here (length s.views) place r.owner place refl; away = its_own.away; made = its_own.made })

      new : Fits n r.log owner s.homes (length s.views) (unissued place (place + 1) seen)
      new = record {
        seen = mine.seen;
        owns = λ i its. only i (omega (arith, its.0, its.1));
        vacant = λ i low high. subst (λ x. get_elem? s.homes x ≡ some (some None)) (let same : place ≡ i = omega (arith, low, high) in same) (vacant s.homes mine.vacant);
      }

      others : (j : ℕ) (v : Knowledge) → j ≢ id → get_elem? s.views j ≡ some v → Fits n r.log owner s.homes j v
      others j v ne is = seat_left n r.log r.log r.owner owner s.homes s.homes j v (go_on_same r.log)
          (λ i its. (given_other (length s.views) place r.owner i (one_owner r.log r.owner id j place i seen v.seen its_own its ne), refl, refl, refl))
          (r.entries j v is)

  -- the next place to be issued goes to a seat of its own
  pub splits : (id : ℕ) (right : Right) (seen : List Change) (place : ℕ) → IsNext right place → Splits (IsShelf key board) id (knowledge right seen) (knowledge (other_places right) seen) (knowledge (next_place right) seen)
  splits id Nothing seen place next = absurd next
  splits id (Unissued first end) seen place next =
      split_off id first (Unissued first end) (Unissued (first + 1) end) seen (omega arith, next.1)
      (λ homes are. are first (omega arith) next.1)
      (λ i has. ((omega (arith, has.0), has.1), λ same. omega (arith, has.0, same)))
      (λ homes are i low high. are i (omega (arith, low)) high)
  splits id (Issued mine) seen place next = absurd next
  splits id (Taking mine other) seen place next = absurd next
  splits id (Handing mine other) seen place next =
      split_off id other (Handing mine other) (Issued mine) seen (inr refl)
      (λ homes are. are)
      (λ i has. (inl has, λ same. next.1 (sym has ∙ same)))
      (λ homes are. tt)

  -- a ticket's place goes out with its seat
  pub issues : (slots id place : ℕ) (seen : List Change) → Allows (IsShelf key board) slots id (unissued place (place + 1) seen, []) place (λ x. x) (λ found w. Issues place (unissued place (place + 1) seen, []) w)
  issues slots id place seen s r size at bound = (
    issued place seen,
    takes place None,
    mine.vacant place (omega arith) (omega arith),
    subst (λ ws. IsShelf key board record { words = ws; homes = homes; views = set s.views id (issued place seen) }) (sym (set-get_or s.words place 0)) kept,
    refl,
  )
    where
      homes : Homes
      homes = set s.homes place none

      mine : Fits n r.log r.owner s.homes id (unissued place (place + 1) seen)
      mine = r.entries id (unissued place (place + 1) seen) at

      its_own : IsOwned n r.log r.owner id seen place
      its_own = mine.owns place (omega arith, omega arith)

      kept : IsShelf key board record { words = s.words; homes = homes; views = set s.views id (issued place seen) }
      kept = record {
        log = r.log;
        owner = r.owner;
        words_are = r.words_are;
        slots_are = length-set s.homes place none ∙ r.slots_are;
        places = λ i low. place_left key board i s.words s.words s.homes homes (lying r.log (suc i)) refl
            (λ post is. set_else s.homes place i none (λ same. not_both r.log (suc i) (suc place) post is its_own.away (ap suc same)))
            (r.places i low);
        entries = after_step (Fits n r.log r.owner homes) s.views id (issued place seen)
            (record { seen = mine.seen; owns = λ i same. subst (IsOwned n r.log r.owner id seen) (sym same) its_own; vacant = tt })
            (λ j v ne is. seat_left n r.log r.log r.owner r.owner s.homes homes j v (go_on_same r.log)
            (λ i its. (refl, refl, refl, set_else s.homes place i none (one_owner r.log r.owner id j place i seen v.seen its_own its ne)))
            (r.entries j v is));
      }

  -- the empty place of a taken post comes home
  pub hands : (slots id mine place : ℕ) (seen : List Change) (out : List (ℕ × Option PostView)) → Allows (IsShelf key board) slots id (knowledge (Taking mine place) seen, (place, None) ∷ out) place (λ x. x) (λ found w. Hands place (knowledge (Taking mine place) seen, (place, None) ∷ out) w)
  hands slots id mine place seen out s r size at bound = (
    knowledge (Handing mine place) seen,
    gives,
    tt,
    subst (λ ws. IsShelf key board record { words = ws; homes = homes; views = set s.views id (knowledge (Handing mine place) seen) }) (sym (set-get_or s.words place 0)) kept,
    refl,
  )
    where
      homes : Homes
      homes = set s.homes place (some None)

      fits : Fits n r.log r.owner s.homes id (knowledge (Taking mine place) seen)
      fits = r.entries id (knowledge (Taking mine place) seen) at

      its_own : IsOwned n r.log r.owner id seen place
      its_own = fits.owns place (inr refl)

      kept : IsShelf key board record { words = s.words; homes = homes; views = set s.views id (knowledge (Handing mine place) seen) }
      kept = record {
        log = r.log;
        owner = r.owner;
        words_are = r.words_are;
        slots_are = length-set s.homes place (some None) ∙ r.slots_are;
        places = λ i low. place_left key board i s.words s.words s.homes homes (lying r.log (suc i)) refl
            (λ post is. set_else s.homes place i (some None) (λ same. not_both r.log (suc i) (suc place) post is its_own.away (ap suc same)))
            (r.places i low);
        entries = after_step (Fits n r.log r.owner homes) s.views id (knowledge (Handing mine place) seen)
            (record { seen = fits.seen; owns = fits.owns; vacant = set_here s.homes place (some None) (let within = its_own.within in omega (arith, within, r.slots_are)) })
            (λ j v ne is. seat_left n r.log r.log r.owner r.owner s.homes homes j v (go_on_same r.log)
            (λ i its. (refl, refl, refl, set_else s.homes place i (some None) (one_owner r.log r.owner id j place i seen v.seen its_own its ne)))
            (r.entries j v is));
      }

  -- a post is kept
  pub keeps_post : (slots id place : ℕ) (seen : List Change) (post : PostView) → IsAtBoard key board post → post.number ≡ suc place → Allows (IsShelf key board) slots id (issued place seen, (place, Some post) ∷ []) place (λ x. 1) (λ found w. KeepsAt place (issued place seen, (place, Some post) ∷ []) w)
  keeps_post slots id place seen post at_board number s r size at bound = (
    knowledge Nothing log,
    gives,
    tt,
    kept,
    record { before = r.log; others = record { later = mine.seen; made = its_own.made }; vacant = its_own.away; is = refl },
  )
    where
      log : List Change
      log = Kept post ∷ r.log

      words : List ℕ
      words = set s.words place 1

      homes : Homes
      homes = set s.homes place (some (Some post))

      mine : Fits n r.log r.owner s.homes id (issued place seen)
      mine = r.entries id (issued place seen) at

      its_own : IsOwned n r.log r.owner id seen place
      its_own = mine.owns place refl

      others_number : (i : ℕ) → i ≢ place → post.number ≡ suc i → ⊥
      others_number i ne same = other_number i place ne (sym number ∙ same)

      places : (i : ℕ) → i < n → Dec (i ≡ place) → IsPlace key board i words homes (lying log (suc i))
      places i low (yes same) = subst (λ x. IsPlace key board x words homes (lying log (suc x))) (sym same)
          (subst (IsPlace key board place words homes) (sym (kept_here post r.log (suc place) number))
          (record {
            word = get_or-set_same s.words place 1 0 (let within = its_own.within in omega (arith, within, r.words_are));
            home = set_here s.homes place (some (Some post)) (let within = its_own.within in omega (arith, within, r.slots_are));
            at = at_board;
            number = number;
          }))
      places i low (no ne) = subst (IsPlace key board i words homes) (sym (kept_other post r.log (suc i) (others_number i ne)))
          (place_left key board i s.words words s.homes homes (lying r.log (suc i)) (get_or-set_other s.words place i 1 0 ne)
          (λ other is. set_else s.homes place i (some (Some post)) ne) (r.places i low))

      kept : IsShelf key board record { words = words; homes = homes; views = set s.views id (knowledge Nothing log) }
      kept = record {
        log = log;
        owner = r.owner;
        words_are = length-set s.words place 1 ∙ r.words_are;
        slots_are = length-set s.homes place (some (Some post)) ∙ r.slots_are;
        places = λ i low. places i low (dec_eq i place);
        entries = after_step (Fits n log r.owner homes) s.views id (knowledge Nothing log) (witness_fits n log r.owner homes id log (go_on_same log))
            (λ j v ne is. seat_left n r.log log r.owner r.owner s.homes homes j v (go_on_one (Kept post) r.log)
            (λ i its. let away = one_owner r.log r.owner id j place i seen v.seen its_own its ne in (
              refl,
              kept_other post r.log (suc i) (others_number i away),
              made_other (Kept post) r.log (suc i) (others_number i away),
              set_else s.homes place i (some (Some post)) away,
            ))
            (r.entries j v is));
      }

  -- what the step of a take has to show, if the ticket's place is `mine`
  abbrev Takings : State (Option PostView) Knowledge → ℕ → ℕ → ℕ → List Change → Type 0
  Takings s id mine place seen = (w : Knowledge) × (a : Act (Option PostView)) × Valid s.homes ((mine, None) ∷ []) a × IsShelf key board (stepped s place 0 id ((mine, None) ∷ []) w a)
      × TakesAt key board place (issued mine seen, (mine, None) ∷ []) (slice_index s.words place == 1) (w, carried_after ((mine, None) ∷ []) a)

  -- a post is taken, or isn't there
  pub takes_post : (slots id mine place : ℕ) (seen : List Change) → place < n → Allows (IsShelf key board) slots id (issued mine seen, (mine, None) ∷ []) place (λ x. 0) (λ found w. TakesAt key board place (issued mine seen, (mine, None) ∷ []) (found == 1) w)
  takes_post slots id mine place seen within s r size at bound = go (lying r.log (suc place)) refl
    where
      fits : Fits n r.log r.owner s.homes id (issued mine seen)
      fits = r.entries id (issued mine seen) at

      its_own : IsOwned n r.log r.owner id seen mine
      its_own = fits.owns mine refl

      others : AreOthers (suc mine) seen r.log
      others = record { later = fits.seen; made = its_own.made }

      absent : lying r.log (suc place) ≡ None → Takings s id mine place seen
      absent is = (
        issued mine r.log,
        keeps,
        tt,
        subst (λ ws. IsShelf key board record { words = ws; homes = s.homes; views = set s.views id (issued mine r.log) }) (sym words_same) kept,
        subst (λ x. TakesAt key board place (issued mine seen, (mine, None) ∷ []) (x == 1) (issued mine r.log, (mine, None) ∷ [])) (sym word) (record { others = others; none = is; is = refl }),
      )
        where
          word : slice_index s.words place ≡ 0
          word = subst (IsPlace key board place s.words s.homes) is (r.places place within)

          words_same : set s.words place 0 ≡ s.words
          words_same = ap (λ x. set s.words place x) (sym word) ∙ set-get_or s.words place 0

          still : IsOwned n r.log r.owner id r.log mine
          still = record { within = its_own.within; owner_is = its_own.owner_is; away = its_own.away; made = refl }

          kept : IsShelf key board record { words = s.words; homes = s.homes; views = set s.views id (issued mine r.log) }
          kept = record {
            log = r.log;
            owner = r.owner;
            words_are = r.words_are;
            slots_are = r.slots_are;
            places = r.places;
            entries = after_step (Fits n r.log r.owner s.homes) s.views id (issued mine r.log)
                (record { seen = go_on_same r.log; owns = λ i same. subst (IsOwned n r.log r.owner id r.log) (sym same) still; vacant = tt })
                (λ j v ne its. r.entries j v its);
          }

      present : (post : PostView) → lying r.log (suc place) ≡ Some post → Takings s id mine place seen
      present post is = (
        knowledge (Taking mine place) log,
        takes place (Some post),
        there.home,
        kept,
        subst (λ x. TakesAt key board place (issued mine seen, (mine, None) ∷ []) (x == 1) (taken_with (Some post) place mine r.log)) (sym there.word)
            (post, (r.log, record { others = others; lay = is; at = there.at; number = there.number; apart = apart }, refl)),
      )
        where
          there : Lies key board place s.words s.homes post
          there = subst (IsPlace key board place s.words s.homes) is (r.places place within)

          change : Change
          change = Taken (suc place) (suc mine)

          log : List Change
          log = change ∷ r.log

          owner : ℕ → ℕ
          owner = given id place r.owner

          words : List ℕ
          words = set s.words place 0

          homes : Homes
          homes = set s.homes place none

          -- what isn't on the shelf isn't this post
          elsewhere : (i : ℕ) → lying r.log (suc i) ≡ None → i ≢ place
          elsewhere i away same = not_both r.log (suc place) (suc i) post is away (ap suc (sym same))

          apart : mine ≢ place
          apart = elsewhere mine its_own.away

          places : (i : ℕ) → i < n → Dec (i ≡ place) → IsPlace key board i words homes (lying log (suc i))
          places i low (yes same) = subst (λ x. IsPlace key board x words homes (lying log (suc x))) (sym same)
              (subst (IsPlace key board place words homes) (sym (taken_here r.log (suc place) (suc mine)))
              (get_or-set_same s.words place 0 0 (omega (arith, within, r.words_are))))
          places i low (no ne) = subst (IsPlace key board i words homes) (sym (taken_other (suc place) (suc mine) r.log (suc i) (other_number i place ne)))
              (place_left key board i s.words words s.homes homes (lying r.log (suc i)) (get_or-set_other s.words place i 0 0 ne)
              (λ other its. set_else s.homes place i none ne) (r.places i low))

          still : IsOwned n log owner id log mine
          still = record {
            within = its_own.within;
            owner_is = given_other id place r.owner mine apart ∙ its_own.owner_is;
            away = taken_other (suc place) (suc mine) r.log (suc mine) (other_number mine place apart) ∙ its_own.away;
            made = refl;
          }

          new : IsOwned n log owner id log place
          new = record { within = within; owner_is = given_here id place r.owner place refl; away = taken_here r.log (suc place) (suc mine); made = refl }

          kept : IsShelf key board record { words = words; homes = homes; views = set s.views id (knowledge (Taking mine place) log) }
          kept = record {
            log = log;
            owner = owner;
            words_are = length-set s.words place 0 ∙ r.words_are;
            slots_are = length-set s.homes place none ∙ r.slots_are;
            places = λ i low. places i low (dec_eq i place);
            entries = after_step (Fits n log owner homes) s.views id (knowledge (Taking mine place) log)
                (record {
                  seen = go_on_same log;
                  owns = λ i has. ⊎_elim (λ same. subst (IsOwned n log owner id log) (sym same) still) (λ same. subst (IsOwned n log owner id log) (sym same) new) has;
                  vacant = tt;
                })
                (λ j v ne its. seat_left n r.log log r.owner owner s.homes homes j v (go_on_one change r.log)
                (λ i owned. let away = elsewhere i owned.away in (
                  given_other id place r.owner i away,
                  taken_other (suc place) (suc mine) r.log (suc i) (other_number i place away),
                  made_other change r.log (suc i) (other_number i mine (one_owner r.log r.owner id j mine i seen v.seen its_own owned ne)),
                  set_else s.homes place i none away,
                ))
                (r.entries j v its));
          }

      go : (o : Option PostView) → lying r.log (suc place) ≡ o → Takings s id mine place seen
      go None is = absent is
      go (Some post) is = present post is
