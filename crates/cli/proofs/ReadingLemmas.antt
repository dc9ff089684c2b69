-- What `clap` answers, by its faults.
use Rattle.std.proofs.Common.{◌≡◌, ◌∙◌, ◌∷◌, ◌&&◌, [], List, Bool, cond, true, false, refl, sym, ap, ap₂, subst, arith, inl, inr, Option, Some, None, Ok, Err, option_map, ne_eqb}
use Rattle.std.specs.Borrow.{Bor}
use Rattle.clap.specs.Kinds.{HasKind, IsAmong, Kinds}
use Rattle.clap.specs.Walk.{is_empty}
use Rattle.clap.specs.Words.{App, HasMatchesOf, Row, Text, app_of, fault_of, found_of, is_simple_and_free, kind_of, rows_of, subcommand_name_of, subcommand_of, subcommand_rows_of}
use Rattle.clap.specs.declared.builder.command.Command.{Command}
use Rattle.clap.specs.declared.error.Error.{Error}
use Rattle.clap.specs.declared.parser.matches.ArgMatches.{ArgMatches}
use Rattle.cli.specs.declared.error.CommandLineError.{CommandLineError}
use Rattle.cli.specs.declared.error.CommandLineError.TheVariants.{Usage, Memory}
use Rattle.clap.specs.declared.error.kind.ErrorKind.{ErrorKind}
use Rattle.cli.specs.Reading.{IsFault, IsProgram, ReadsWords, command_in}

pub read_found : (program : App) (words : List Text) (found : Option (Text × List Row)) → fault_of program words ≡ [] → found ≡ subcommand_of program words
    → found ≡ command_in program words
unfolding command_in
read_found program words found none is = is ∙ sym (ap (λ (kinds : Kinds). cond (is_empty kinds) (subcommand_of program words) None) none)

refused : (kinds : Kinds) (kind : ErrorKind) (found : Option (Text × List Row)) → IsAmong kind kinds → cond (is_empty kinds) found None ≡ None
refused [] kind found among = absurd among
refused (k ∷ ks) kind found among =
    let some : is_empty (k ∷ ks) ≡ false = ne_eqb _ _ (λ e. omega arith) in
    ap (λ b. cond b found None) some

pub read_fault : (program : App) (words : List Text) (kind : ErrorKind) → IsAmong kind (fault_of program words) → command_in program words ≡ None
unfolding command_in
read_fault program words kind among = refused (fault_of program words) kind (subcommand_of program words) among

left_of : (a b : Bool) → a && b ≡ true → a ≡ true
left_of true b e = refl
left_of false b e = e

-- what `clap` found is what the words name
pub reads : (made : Command) (program : App) (words : List Text) (matches : ArgMatches) → IsProgram made program → is_simple_and_free program ≡ true
    → (is_simple_and_free (app_of made) ≡ true → fault_of (app_of made) words ≡ []) → HasMatchesOf (app_of made) words matches
    → ReadsWords program words (Ok matches)
reads made program words matches is simple sound has =
    let same : is_simple_and_free (app_of made) ≡ true = ap is_simple_and_free is.app ∙ simple in
    let found = (has (left_of _ _ same)).1 in
    read_found program words (subcommand_rows_of matches) (ap (λ app. fault_of app words) (sym is.app) ∙ sound same) (found ∙ ap (λ app. subcommand_of app words) is.app)

-- words that `clap` refuses name nothing, unless memory ran out
pub refuses : (made : Command) (program : App) (words : List Text) (error : Error) (fault : CommandLineError) → IsProgram made program → is_simple_and_free program ≡ true
    → (is_simple_and_free (app_of made) ≡ true → HasKind (fault_of (app_of made) words) error) → IsFault error fault
    → ReadsWords program words (Err fault)
refuses made program words error Memory is simple kinds of = tt
refuses made program words error Usage is simple kinds of = elim (kinds (ap is_simple_and_free is.app ∙ simple)) [
  | inl memory ↦ absurd (of memory)
  | inr among ↦ read_fault program words (kind_of error) (subst (λ app. IsAmong (kind_of error) (fault_of app words)) is.app among)
]

-- what is found of a command by its name and by its rows
pub found_both : {X Y A B : Type 0} (f : X → A × B) (g : Y → A) (h : Y → B) (o : Option X) (r : Option Y) → option_map g r ≡ option_map (λ x. (f x).0) o
    → option_map h r ≡ option_map (λ p. p.1) (option_map f o) → option_map (λ y. (g y, h y)) r ≡ option_map f o
found_both f g h None None a b = refl
found_both f g h None (Some y) a b = absurd (cc)
found_both f g h (Some x) None a b = absurd (cc)
found_both f g h (Some x) (Some y) a b =
    let first : g y ≡ (f x).0 = cc in
    let second : h y ≡ (f x).1 = cc in
    ap₂ (λ p q. Some (p, q)) first second

-- the name and the rows of a command that was found
abbrev pub named_of : Option (Bor Text × Bor ArgMatches) → Option (Text × List Row)
named_of = option_map (λ p. (p.0.now, rows_of (found_of p.1.now)))

pub named : (matches : ArgMatches) (found : Option (Bor Text × Bor ArgMatches)) → option_map (λ p. p.0.now) found ≡ subcommand_name_of matches
    → option_map (λ p. rows_of (found_of p.1.now)) found ≡ option_map (λ p. p.1) (subcommand_rows_of matches) → named_of found ≡ subcommand_rows_of matches
named matches found name rows = found_both _ _ _ _ found name rows
