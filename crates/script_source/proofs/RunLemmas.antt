-- What is read of a script's bytes.
use Rattle.std.proofs.lemmas.Bool.{or_right}
use Rattle.tx_events.proofs.ListSteps.{eqb-refl}
use Rattle.std.proofs.Common.{◌≡◌, ℕ, ◌<◌, ◌==◌, ◌||◌, List, [], ◌∷◌, Some, Err, true, refl, ap, length}
use Rattle.std.specs.List.{AllByRecursion}
use Rattle.std.proofs.lemmas.List.Elements.{All-from_recursion}
use Rattle.session_lang.specs.declared.script.Item.{Item}
use Rattle.session_lang.specs.declared.script.Item.TheVariants as items
use Rattle.session_lang.specs.declared.script.Script.{Script}
use Rattle.script_lines.specs.declared.kind.Kind.{Kind}
use Rattle.session_lang.specs.Plain.{IsItem}
use Rattle.session_lang.specs.Reading.{IsSound}
use Rattle.session_lang.specs.Rounds.{sessions_in}
use Rattle.session_lang.specs.Script.{read_script}
use Rattle.session_lang.proofs.SeenLemmas.{is_in, old_number}
use Rattle.run_law.specs.Refusals.{refusal_of}
use Rattle.run_law.specs.Turns.{IsRunnable, MayStand, has_command, has_dump, has_item}
use Rattle.tx_model.specs.declared.command.Command.{Command}
use Rattle.tx_model.specs.declared.command.Command.TheVariants as commands
use Rattle.tx_model.specs.declared.report.DumpOf.{DumpOf}
use Rattle.tx_model.specs.declared.report.DumpOf.TheVariants as dumps

-- the run has each command, each dump and each item
has_each_command : (c : Command) → has_command c ≡ true
has_each_command commands.Begin = refl
has_each_command commands.Save = refl
has_each_command commands.Write = refl
has_each_command commands.Release = refl
has_each_command commands.Undo = refl
has_each_command commands.Commit = refl
has_each_command commands.Abort = refl
has_each_command commands.Horizon = refl
has_each_command (commands.Snap name) = refl
has_each_command (commands.DropSnap name) = refl
has_each_command (commands.See name x) = refl
has_each_command (commands.Status x) = refl
has_each_command (commands.Did x) = refl
has_each_command (commands.Freeze oldest) = refl
has_each_command commands.Trim = refl
has_each_command (commands.Multi members) = refl
has_each_command (commands.SeeMulti name multi) = refl
has_each_command (commands.MultiFreeze multi) = refl

has_each_dump : (what : DumpOf) → has_dump what ≡ true
has_each_dump dumps.Log = refl
has_each_dump (dumps.Xact page) = refl
has_each_dump (dumps.Subtrans page) = refl
has_each_dump (dumps.Offsets page) = refl
has_each_dump (dumps.Members page) = refl

has_each_item : (item : Item) → has_item item ≡ true
has_each_item (items.Run session command) = has_each_command command
has_each_item items.Round = refl
has_each_item items.Checkpoint = refl
has_each_item (items.Crash how) = refl
has_each_item (items.Dump what at size) = has_each_dump what

all_pass : (script : List Item) → AllByRecursion (λ item. has_item item ≡ true) script
all_pass [] = tt
all_pass (x ∷ script) = (has_each_item x, all_pass script)

-- each command's session is one of them
may_stand : (n : ℕ) (script : List Item) → ((k : ℕ) → is_in k (sessions_in script) ≡ true → k < n) → AllByRecursion IsItem script → AllByRecursion (λ item. has_item item ≡ true) script → AllByRecursion (MayStand n) script
may_stand n [] f i r = tt
may_stand n (items.Run s c ∷ script) f i r = (
  ((r.0, i.0), f s (ap (λ b. b || is_in s (sessions_in script)) (eqb-refl s))),
  may_stand n script (λ k e. f k (or_right (k == s) (is_in k (sessions_in script)) e)) i.1 r.1,
)
may_stand n (items.Round ∷ script) f i r = (tt, may_stand n script f i.1 r.1)
may_stand n (items.Checkpoint ∷ script) f i r = (tt, may_stand n script f i.1 r.1)
may_stand n (items.Crash how ∷ script) f i r = (tt, may_stand n script f i.1 r.1)
may_stand n (items.Dump what at size ∷ script) f i r = ((r.0, i.0.0, i.0.1, i.0.2), may_stand n script f i.1 r.1)

-- a script can be run
pub script_runs : (s : Script) → IsSound s → AllByRecursion IsItem s.items → IsRunnable s
script_runs s i ranges = record {
  base = i.base;
  items = All-from_recursion (MayStand (length s.names)) s.items (may_stand (length s.names) s.items (λ k e. old_number k (length s.names) (sessions_in s.items) i.numbered e) ranges (all_pass s.items));
  sessions = i.sessions;
  few = i.few;
}

-- what is told of bytes
pub fault_told : (bytes : List ℕ) (line : ℕ) (kind : Kind) → read_script bytes ≡ Err (line, kind) → refusal_of bytes ≡ Some (line, kind)
unfolding refusal_of
fault_told bytes line kind e = rw e refl
