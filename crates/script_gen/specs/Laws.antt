-- What holds of every generated script.
use Rattle.std.specs.Prelude.{◌≡◌, ℕ, ◌<◌, ◌≤◌, ◌*◌, ◌%◌, ◌^◌, List, Ok, length, map}
use Rattle.std.specs.List.{All, AllByRecursion, flat_map}
use Rattle.report_text.specs.Words.{line_text}
use Rattle.session_lang.specs.Plain.{IsItem, item_words}
use Rattle.session_lang.specs.Reading.{IsSound}
use Rattle.session_lang.specs.Script.{read_script}
use Rattle.run_law.specs.Turns.{HasFewTakers, IsRunnable, MayRun}
use Rattle.script_gen.specs.Draws.{state_behind}
use Rattle.script_gen.specs.Generated.{generated}

-- the draws are the seed times the powers of the multiplier
abbrev pub DrawsArePowers : Type 0
DrawsArePowers = (n seed : ℕ) → seed < 2147483647 → state_behind n seed ≡ seed * 48271 ^ n % 2147483647

-- the most transactions that are asked for
abbrev pub most_transactions : ℕ
most_transactions = 100000

-- It is what any script is that was read: sessions in the order in which they first appear, and no limit is passed.
abbrev pub GeneratedScriptsAreSound : Type 0
GeneratedScriptsAreSound =
    (seed size : ℕ) → size ≤ most_transactions
    → IsSound (generated seed size) × AllByRecursion IsItem (generated seed size).items

-- Sessions can run it, in one life: it has no command and no directive that the run hasn't, no crash, and few enough
-- commands that take a number.
pub record MayRunWhole (seed size : ℕ) : Type 0 where
  pub runnable : IsRunnable (generated seed size)
  pub items : All (MayRun (length (generated seed size).names)) (generated seed size).items
  pub banks : (generated seed size).banks ≡ 4
  pub few : HasFewTakers (generated seed size).items

abbrev pub GeneratedScriptsRun : Type 0
GeneratedScriptsRun = (seed size : ℕ) → size ≤ most_transactions → MayRunWhole seed size

-- its text, where a script may be so long
abbrev pub generated_text : ℕ → ℕ → List ℕ
generated_text seed size =
    flat_map line_text (map (item_words (generated seed size).names) (generated seed size).items)

abbrev pub GeneratedTextsAreRead : Type 0
GeneratedTextsAreRead =
    (seed size : ℕ) → size ≤ most_transactions → length (generated_text seed size) ≤ 16777216
    → read_script (generated_text seed size) ≡ Ok (generated seed size)
