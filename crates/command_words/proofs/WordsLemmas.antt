-- Lines of the table, and what their words ask.
use Rattle.std.proofs.Common.{◌≡◌, ◌≤◌, arith, length, map, slice_index_or, Bool, true, false, cond, List, [], ◌∷◌, Option, None, Some, ap, sym, ◌∙◌, refl, subst}
use Rattle.std.proofs.lemmas.Bool.{and_parts}
use Rattle.std.specs.Borrow.{Bor}
use Rattle.std.specs.List.{list_all}
use Rattle.std.specs.Prelude.{option_and_then, option_map}
use Rattle.std.specs.Str.{bytes_eq}
use Rattle.clap.specs.Words.{App, IsAmong, Kinds, Row, Text, fault_of, is_simple_and_free, matches_of}
use Rattle.clap.specs.declared.error.kind.ErrorKind.{ErrorKind}
use Rattle.command_words.specs.Arguments.{asked_of}
use Rattle.command_words.specs.Lines.{app_of_line}
use Rattle.command_words.specs.Table.{CommandLine, lines, plain_line}
use Rattle.command_words.specs.Words.{asked_by, asked_if, asked_in, invocation_of, line_in, table_line}
use Rattle.command_words.specs.declared.argument.Argument.{Argument}
use Rattle.command_words.specs.declared.invocation.Invocation.{Invocation}
use Rattle.command_words.specs.declared.line.CommandKind.{CommandKind}

-- what `clap`'s definition is exact of
abbrev pub is_exact : CommandLine → Bool
is_exact line = is_simple_and_free (app_of_line line.0 line.2)

lines_exact : list_all is_exact lines ≡ true
unfolding lines app_of_line
lines_exact = refl

found_here : (b : Bool) (l line : CommandLine) (rest : Option CommandLine) → is_exact l ≡ true → (rest ≡ Some line → is_exact line ≡ true)
    → cond b (Some l) rest ≡ Some line → is_exact line ≡ true
found_here true l line rest here below e = let same : l ≡ line = cc in subst (λ x. is_exact x ≡ true) same here
found_here false l line rest here below e = below e

found_exact : (ls : List CommandLine) (name : Text) (line : CommandLine) → list_all is_exact ls ≡ true → line_in ls name ≡ Some line → is_exact line ≡ true
found_exact [] name line all e = absurd (cc)
found_exact (l ∷ ls) name line all e =
    let both = and_parts (is_exact l) (list_all is_exact ls) all in
    found_here (bytes_eq l.0 name) l line (line_in ls name) both.0 (found_exact ls name line both.1) e

-- it is so for each line of the table
pub line_exact : (name : Text) (line : CommandLine) → table_line name ≡ Some line → is_exact line ≡ true
unfolding table_line
line_exact name line e = found_exact lines name line lines_exact e

-- words that `clap` takes ask what their arguments do
pub asked_when_taken : (app : App) (kind : CommandKind) (words : List Text) (rows : List Row) (asked : Option Invocation)
    → fault_of app words ≡ [] → rows ≡ matches_of app words → asked ≡ asked_of kind rows → asked ≡ asked_in app kind words
unfolding asked_in
asked_when_taken app kind words rows asked none is e =
    e ∙ ap (asked_of kind) is ∙ ap (λ kinds. asked_if kinds kind (matches_of app words)) (sym none)

some_fault : (kinds : Kinds) (k : ErrorKind) (kind : CommandKind) (rows : List Row) → IsAmong k kinds → None ≡ asked_if kinds kind rows
some_fault [] k kind rows among = absurd among
some_fault (fault ∷ more) k kind rows among = refl

-- words that it doesn't take ask nothing
pub asked_when_refused : (app : App) (kind : CommandKind) (words : List Text) (k : ErrorKind) → IsAmong k (fault_of app words) → None ≡ asked_in app kind words
unfolding asked_in
asked_when_refused app kind words k among = some_fault (fault_of app words) k kind (matches_of app words) among

-- a line that the code found
abbrev pub LineFound : Type 0
LineFound = Bor Text × CommandKind × Bor (List Argument)

line_is : (name : Text) (found : Option LineFound) (line : LineFound) → option_map plain_line found ≡ table_line name → found ≡ Some line → table_line name ≡ Some (plain_line line)
line_is name found line e is = sym e ∙ ap (option_map plain_line) is

-- the parser of a line is one of those that `clap`'s definition is exact of
pub exact_parser : (name : Text) (found : Option LineFound) (line : LineFound) (app : App) → option_map plain_line found ≡ table_line name → found ≡ Some line
    → app ≡ app_of_line line.0.now line.2.now → is_simple_and_free app ≡ true
exact_parser name found line app e is made = ap is_simple_and_free made ∙ line_exact name (plain_line line) (line_is name found line e is)

-- what words ask whose first names a line
pub asked_for_line : (name : Text) (words : List Text) (found : Option LineFound) (line : LineFound) (app : App) (asked : Option Invocation)
    → option_map plain_line found ≡ table_line name → found ≡ Some line → app ≡ app_of_line line.0.now line.2.now → asked ≡ asked_in app line.1 (name ∷ words)
    → asked ≡ invocation_of (name ∷ words)
unfolding invocation_of
asked_for_line name words found line app asked e is made by_line =
    by_line ∙ ap (λ a. asked_in a line.1 (name ∷ words)) made
    ∙ ap (option_and_then (asked_by (name ∷ words))) (sym (line_is name found line e is))

-- the same of words as the code has them
pub asked_for_words : (texts : List Text) (name : Text) (rest : List Text) (found : Option LineFound) (line : LineFound) (app : App) (asked : Option Invocation)
    → texts ≡ name ∷ rest → option_map plain_line found ≡ table_line name → found ≡ Some line → app ≡ app_of_line line.0.now line.2.now
    → asked ≡ asked_in app line.1 texts → asked ≡ invocation_of texts
asked_for_words texts name rest found line app asked same e is made by_line =
    asked_for_line name rest found line app asked e is made (by_line ∙ ap (asked_in app line.1) same) ∙ ap invocation_of (sym same)

-- the texts begin with that of the first word
pub first_word : {S : Type 0} (text : S → Text) (words : List S) (item : S) → 1 ≤ length words → item ≡ slice_index_or words 0 item
    → (rest : List Text) × (map text words ≡ text item ∷ rest)
first_word text [] item some is = absurd (omega arith)
first_word text (w ∷ ws) item some is = (map text ws, ap (λ x. text x ∷ map text ws) (sym is))
