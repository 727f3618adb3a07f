-- The parts of the commonest lines.
use Rattle.std.specs.Prelude.{◌≡◌, ℕ, Bool, cond, List, [], ◌∷◌, ◌++◌, codes, map}
use Rattle.std.specs.List.{AllByRecursion}
use Rattle.std.specs.Fmt.{decimal}
use Rattle.tx_events.specs.declared.event.By.{By}
use Rattle.report_text.specs.Words.{more, name_at, numbers_or_dash}
use Rattle.report_text.specs.CommandText.{command_words}
use Rattle.report_text.specs.ReplyText.{reply_words}
use Rattle.tx_model.specs.declared.command.Command.{Command}
use Rattle.tx_model.specs.declared.reply.Reply.{Reply}
use Rattle.report_words.specs.Fits.{FitsId, FitsReply, FitsCommand}
use Rattle.report_words.specs.Replies.{kind_of}

-- a session's name and the number of its command, and what is behind them
abbrev pub by_front : List (List ℕ) → By → List ℕ → List ℕ
by_front names by rest = name_at names by.session ++ 32 ∷ (decimal by.command ++ rest)

-- what is behind a command's number: the command with its reply
pub record IsExchange (rest : List ℕ) (c : Command) (r : Reply) : Type 0 where
  pub text : (names : List (List ℕ)) → rest ≡ more (command_words c ++ codes "->" ∷ reply_words names r) ++ 10 ∷ []
  pub command : FitsCommand c
  pub reply : FitsReply (kind_of c) r

-- the end of a line that tells whether an id is visible
abbrev pub seen_end : Bool → List ℕ
seen_end visible = cond visible (codes " -> visible") (codes " -> hidden") ++ 10 ∷ []

-- items that fit are in front, each as a word behind a space, and then the rest
pub record AreInFront {X : Type 0} (word_of : X → List ℕ) (fits : X → Type 0) (bytes : List ℕ) (xs : List X) (rest : List ℕ) : Type 0 where
  pub text : bytes ≡ more (map word_of xs) ++ rest
  pub each : AllByRecursion fits xs

-- ids, or a dash for none
pub record AreListed (bytes : List ℕ) (ids : List ℕ) (rest : List ℕ) : Type 0 where
  pub text : bytes ≡ more (numbers_or_dash ids) ++ rest
  pub each : AllByRecursion FitsId ids

-- a snapshot's name and its limits, and what is behind them
abbrev pub snap_front : List ℕ → ℕ → ℕ → List ℕ → List ℕ
snap_front name xmin xmax rest =
    name ++ 32 ∷ (codes "-> ok xmin " ++ (decimal xmin ++ (codes " xmax " ++ (decimal xmax ++ (codes " xip" ++ rest)))))

-- a snapshot's name and a multixact's number, and what is behind `ok`
abbrev pub look_front : List ℕ → ℕ → List ℕ → List ℕ
look_front name number rest = name ++ 32 ∷ (decimal number ++ (codes " -> ok" ++ rest))
