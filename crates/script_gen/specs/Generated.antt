-- The script of a seed and a size.
use Rattle.std.specs.Prelude.{ℕ, ◌+◌, ◌%◌, ◌&&◌, ◌==◌, nat_lt, Bool, List, [], ◌∷◌, ◌++◌, codes, cond, map, take}
use Rattle.std.specs.List.{flat_map}
use Rattle.tx_model.specs.declared.command.Command.{Command}
use Rattle.tx_model.specs.declared.command.Command.TheVariants as commands
use Rattle.script_lines.specs.Header.{banks_of, base_of, no_header}
use Rattle.session_lang.specs.declared.script.Item.{Item}
use Rattle.session_lang.specs.declared.script.Item.TheVariants as items
use Rattle.session_lang.specs.declared.script.Script.{Script}
use Rattle.script_gen.specs.Choices.{Choices, drawn_from}

-- ---- what a transaction does

abbrev pub savepoint_commands : Bool → List Command
savepoint_commands undone =
    commands.Save ∷ commands.Write ∷ cond undone commands.Undo commands.Release ∷ []

-- its snapshot's name
abbrev pub snapshot : List ℕ
snapshot = codes "s"

abbrev pub look_commands : ℕ → List Command
look_commands x =
    commands.Snap snapshot ∷ commands.See snapshot (record { number = x }) ∷ commands.DropSnap snapshot ∷ []

abbrev pub end_command : Bool → Command
end_command aborted = cond aborted commands.Abort commands.Commit

abbrev pub transaction : Choices → List Command
transaction c =
    commands.Begin ∷ commands.Write
    ∷ (flat_map savepoint_commands c.undone ++ (look_commands c.seen ++ end_command c.aborted ∷ []))

-- ---- whose it is, and in which round

-- of session a, b, c or d in turn
abbrev pub session_of : ℕ → ℕ
session_of i = i % 4

-- a round ends before each 64th transaction but the first
abbrev pub is_round_first : ℕ → Bool
is_round_first i = nat_lt 0 i && (i % 64 == 0)

abbrev pub run_by : ℕ → List Command → List Item
run_by session all = map (items.Run session) all

abbrev pub transaction_items : ℕ → Choices → List Item
transaction_items i c = cond (is_round_first i) (items.Round ∷ []) [] ++ run_by (session_of i) (transaction c)

-- transactions from number i on
abbrev pub items_from : ℕ → List Choices → List Item
items_from i [] = []
items_from i (c ∷ drawn) = transaction_items i c ++ items_from (i + 1) drawn

-- ---- the script

-- as many of the four sessions as have a transaction
abbrev pub session_names : ℕ → List (List ℕ)
session_names size = map (λ letter. letter ∷ []) (take size (codes "abcd"))

-- without a header
unfoldable pub generated : ℕ → ℕ → Script
generated seed size = record {
  base = base_of no_header;
  banks = banks_of no_header;
  names = session_names size;
  items = items_from 0 (drawn_from 0 size seed);
}
