-- Commands whose names were found are those of their lines: laws only about lists.
use Rattle.std.proofs.Common.{◌≡◌, ◌≢◌, ℕ, true, false, cond, eqb, List, [], ◌∷◌, length, Result, Ok, Err, refl, sym, ap, ◌∙◌, ◌||◌, not}
use Rattle.std.proofs.lemmas.Bool.{ne_eqb, cond-false}
use Rattle.chart.specs.Names.{IsName}
use Rattle.texts.specs.Faults.{◌>>=◌}
use Rattle.texts.specs.Instances.{known_of}
use Rattle.texts.specs.Lines.{words_of, name_or_cause}
use Rattle.texts.specs.declared.fault.Cause.{Cause}
use Rattle.texts.specs.declared.fault.Cause.TheVariants.{Syntax, ToItself}
use Rattle.texts.specs.Reading.NamedWords.{IsNamed}
use Rattle.texts.proofs.Results.{bind_at, name_is, name_some}
use Rattle.texts.proofs.Spacing.{plain_name, spaced_again}
use Rattle.schedule.specs.ActionLines.{pair_of, partners_of, send_of, receive_of, by_three, action_by, action_of}
use Rattle.schedule.specs.Keywords.{written, is_written}
use Rattle.schedule.specs.KnownLines.{IsInstance}
use Rattle.schedule.specs.declared.keyword.ScheduleWord.TheVariants as keywords
use Rattle.schedule.specs.declared.command.Action.TheVariants.{Send, Receive}
use Rattle.schedule.proofs.CommandsAgain.{not_empty_three, not_empty_four}

-- a word whose instance was found
pub is_instance : (names : List (List ℕ)) (word : List ℕ) (found : Result (Result ℕ Cause) Cause) (p : ℕ) → IsNamed names word found → found ≡ Ok (Ok p) → IsInstance names word p
is_instance names word (Ok (Ok q)) p h e =
    let named = name_is word h.0 h.1 in
    let same : q ≡ p = cc in
    record { named = h.1 ∙ ap Ok named.0; known = ap (known_of names) (sym named.0) ∙ h.2 ∙ ap Ok same }
is_instance names word (Ok (Err cause)) p h e = cc
is_instance names word (Err cause) p h e = cc

-- the text after a word and its space has the other words
pub behind_send : (rest : List ℕ) → words_of (115 ∷ 101 ∷ 110 ∷ 100 ∷ 32 ∷ rest) ≡ written keywords.Send ∷ words_of rest
unfolding words_of written
behind_send rest = refl

pub behind_receive : (rest : List ℕ) → words_of (114 ∷ 101 ∷ 99 ∷ 101 ∷ 105 ∷ 118 ∷ 101 ∷ 32 ∷ rest) ≡ written keywords.Receive ∷ words_of rest
unfolding words_of written
behind_receive rest = refl

-- what a line means, from its first word and the others
pub action_is : (names : List (List ℕ)) (line actor rest : List ℕ) → words_of line ≡ actor ∷ words_of rest → action_of names line ≡ action_by names (actor ∷ words_of rest)
unfolding action_of
action_is names line actor rest e = ap (action_by names) e

-- a name is one word
one_word : (word name : List ℕ) → name_or_cause word ≡ Ok name → words_of word ≡ word ∷ []
one_word word name e = spaced_again word [] (plain_name word (name_is word name e).1, tt)

some_bytes : (word name : List ℕ) → name_or_cause word ≡ Ok name → eqb (length word) 0 ≡ false
some_bytes word name e = name_some word (name_is word name e).1

module _ (names : List (List ℕ)) where
  pair_known : (a b : List ℕ) (p q : ℕ) → IsInstance names a p → IsInstance names b q → p ≢ q → pair_of names a b ≡ Ok (p, q)
  unfolding pair_of
  pair_known a b p q i j other =
      bind_at (known_of names a) (λ by. known_of names b >>= λ to. cond (eqb by to) (Err ToItself) (Ok (by, to))) p i.known
      ∙ bind_at (known_of names b) (λ to. cond (eqb p to) (Err ToItself) (Ok (p, to))) q j.known
      ∙ cond-false (eqb p q) (Err ToItself) (Ok (p, q)) (ne_eqb p q other)

  send_words_known : (a b m name : List ℕ) (p q : ℕ) → IsInstance names a p → IsInstance names b q → name_or_cause m ≡ Ok name → p ≢ q → send_of names a b m ≡ Ok (p, Send q name)
  unfolding send_of
  send_words_known a b m name p q i j named other =
      bind_at (name_or_cause a) (λ actor. name_or_cause b >>= λ partner. name_or_cause m >>= λ name. pair_of names actor partner >>= λ pair. Ok (pair.0, Send pair.1 name)) a i.named
      ∙ bind_at (name_or_cause b) (λ partner. name_or_cause m >>= λ name. pair_of names a partner >>= λ pair. Ok (pair.0, Send pair.1 name)) b j.named
      ∙ bind_at (name_or_cause m) (λ name. pair_of names a b >>= λ pair. Ok (pair.0, Send pair.1 name)) name named
      ∙ bind_at (pair_of names a b) (λ pair. Ok (pair.0, Send pair.1 name)) (p, q) (pair_known a b p q i j other)

  receive_words_known : (a b : List ℕ) (p q : ℕ) → IsInstance names a p → IsInstance names b q → p ≢ q → receive_of names a b ≡ Ok (p, Receive q)
  unfolding receive_of partners_of
  receive_words_known a b p q i j other =
      bind_at (partners_of names a b) (λ pair. Ok (pair.0, Receive pair.1)) (p, q)
      (bind_at (name_or_cause a) (λ actor. name_or_cause b >>= λ partner. pair_of names actor partner) a i.named
      ∙ bind_at (name_or_cause b) (λ partner. pair_of names a partner) b j.named ∙ pair_known a b p q i j other)

  sends : is_written keywords.Send (written keywords.Send) ≡ true
  unfolding is_written written
  sends = refl

  receives : (a b : List ℕ) → by_three names a (written keywords.Receive) b ≡ receive_of names a b
  unfolding by_three is_written written
  receives a b = refl

  pub send_known : (a b m name : List ℕ) (p q : ℕ) → IsInstance names a p → IsInstance names b q → name_or_cause m ≡ Ok name → p ≢ q → action_by names (a ∷ written keywords.Send ∷ b ∷ words_of m) ≡ Ok (p, Send q name)
  send_known a b m name p q i j named other =
      ap (λ l. action_by names (a ∷ written keywords.Send ∷ b ∷ l)) (one_word m name named)
      ∙ cond-false (eqb (length a) 0 || eqb (length b) 0 || eqb (length m) 0 || not (is_written keywords.Send (written keywords.Send))) (Err Syntax) (send_of names a b m)
      (not_empty_four (eqb (length a) 0) (eqb (length b) 0) (eqb (length m) 0) (is_written keywords.Send (written keywords.Send)) (some_bytes a a i.named) (some_bytes b b j.named) (some_bytes m name named) sends)
      ∙ send_words_known a b m name p q i j named other

  pub receive_known : (a b : List ℕ) (p q : ℕ) → IsInstance names a p → IsInstance names b q → p ≢ q → action_by names (a ∷ written keywords.Receive ∷ words_of b) ≡ Ok (p, Receive q)
  receive_known a b p q i j other =
      ap (λ l. action_by names (a ∷ written keywords.Receive ∷ l)) (one_word b b j.named)
      ∙ cond-false (eqb (length a) 0 || eqb (length b) 0) (Err Syntax) (by_three names a (written keywords.Receive) b)
      (not_empty_three (eqb (length a) 0) (eqb (length b) 0) (some_bytes a a i.named) (some_bytes b b j.named))
      ∙ receives a b ∙ receive_words_known a b p q i j other
