-- A script's commands fit a report, and are those of the rounds that it asks for.
use Rattle.std.proofs.Common.{◌≡◌, ℕ, ◌<◌, ◌≤◌, ◌==◌, ◌||◌, List, [], ◌∷◌, ◌++◌, true, refl, sym, ap, ◌∙◌, arith, length, append-nil, append_assoc}
use Rattle.std.proofs.lemmas.Bool.{or_right}
use Rattle.std.proofs.lemmas.Grind.{flat_map-append}
use Rattle.std.proofs.lemmas.List.{map-append}
use Rattle.std.specs.List.{AllByRecursion, flat_map}
use Rattle.tx_events.proofs.ListSteps.{all_push, both_all, eqb-refl}
use Rattle.tx_model.specs.declared.command.Command.{Command}
use Rattle.tx_model.specs.declared.command.Command.TheVariants as commands
use Rattle.tx_model.specs.declared.report.DumpOf.{DumpOf}
use Rattle.tx_model.specs.declared.report.DumpOf.TheVariants as dumps
use Rattle.tx_model.specs.Asked as asked
use Rattle.session_lang.specs.declared.script.Item.{Item}
use Rattle.session_lang.specs.declared.script.Item.TheVariants as items
use Rattle.session_lang.specs.Plain.{IsDump, IsInRange, IsItem}
use Rattle.session_lang.specs.Rounds.{asked_from, asked_of, asked_round, round_of, rounds_from, sessions_in}
use Rattle.session_lang.proofs.Asking.{rounds_asked}
use Rattle.session_lang.proofs.SeenLemmas.{is_in}
use Rattle.report_words.specs.Fits.{FitsCommand}
use Rattle.report_lines.specs.Fits.{FitsDump}
use Rattle.run_report.proofs.Turns.{sessions_of}
use Rattle.run_report.proofs.Sizes.{AskedFits, TurnFits, sessions_asked}

command_fits : (c : Command) → IsInRange c → FitsCommand c
command_fits (commands.Snap name) i = i
command_fits (commands.DropSnap name) i = i
command_fits (commands.See name x) i = (i.0, i.1)
command_fits (commands.Status x) i = i
command_fits (commands.Did x) i = i
command_fits (commands.Multi members) i = i
command_fits (commands.SeeMulti name m) i = (i.0, i.1, i.2)
command_fits (commands.Freeze x) i = i
command_fits (commands.MultiFreeze m) i = i
command_fits c i = tt

dump_fits : (what : DumpOf) (at size : ℕ) → IsDump what at size → 1 ≤ size → size ≤ 64 → FitsDump what at size
dump_fits dumps.Log at size i low high = (i, low, high)
dump_fits (dumps.Xact page) at size i low high = (i.0, low, high, i.1)
dump_fits (dumps.Subtrans page) at size i low high = (i.0, low, high, i.1)
dump_fits (dumps.Offsets page) at size i low high = (i.0, low, high, i.1)
dump_fits (dumps.Members page) at size i low high = (i.0, low, high, i.1)

abbrev pub ItemFits : List (List ℕ) → Item → Type 0
ItemFits names (items.Run s c) = TurnFits names (s, c)
ItemFits names (items.Dump what at size) = FitsDump what at size
ItemFits names _ = Unit {0}

pub items_fit : (names : List (List ℕ)) (script : List Item) → ((k : ℕ) → is_in k (sessions_in script) ≡ true → k < length names) → AllByRecursion IsItem script → AllByRecursion (ItemFits names) script
items_fit names [] f r = tt
items_fit names (items.Run s c ∷ script) f r = (
  record { session = f s (ap (λ b. b || is_in s (sessions_in script)) (eqb-refl s)); command = command_fits c r.0 },
  items_fit names script (λ k e. f k (or_right (k == s) (is_in k (sessions_in script)) e)) r.1,
)
items_fit names (items.Round ∷ script) f r = (tt, items_fit names script f r.1)
items_fit names (items.Checkpoint ∷ script) f r = (tt, items_fit names script f r.1)
items_fit names (items.Crash how ∷ script) f r = (tt, items_fit names script f r.1)
items_fit names (items.Dump what at size ∷ script) f r = (dump_fits what at size r.0.0 r.0.1 r.0.2, items_fit names script f r.1)

round_fits : (names : List (List ℕ)) (turns : List (ℕ × Command)) → AllByRecursion (TurnFits names) turns → AllByRecursion (AskedFits names) (asked_round turns)
round_fits names [] a = tt
round_fits names (t ∷ turns) a = (record { some = λ n. cc; each = a }, tt)

pub asked_fit : (names : List (List ℕ)) (turns : List (ℕ × Command)) (script : List Item) → AllByRecursion (TurnFits names) turns → AllByRecursion (ItemFits names) script → AllByRecursion (AskedFits names) (asked_from turns script)
asked_fit names turns [] a f = round_fits names turns a
asked_fit names turns (items.Run s c ∷ script) a f = asked_fit names (turns ++ (s, c) ∷ []) script (all_push (TurnFits names) turns (s, c) a f.0) f.1
asked_fit names turns (items.Dump what at size ∷ script) a f = both_all (AskedFits names) (asked_round turns) (asked.dump what at size ∷ asked_from [] script) (round_fits names turns a) (f.0, asked_fit names [] script tt f.1)
asked_fit names turns (items.Checkpoint ∷ script) a f = both_all (AskedFits names) (asked_round turns) (asked.checkpoint ∷ asked_from [] script) (round_fits names turns a) (tt, asked_fit names [] script tt f.1)
asked_fit names turns (x ∷ script) a f = both_all (AskedFits names) (asked_round turns) (asked_from [] script) (round_fits names turns a) (asked_fit names [] script tt f.1)

one_round : (turns : List (ℕ × Command)) → flat_map sessions_of (round_of turns) ≡ sessions_of turns
one_round [] = refl
one_round (t ∷ turns) = append-nil (sessions_of (t ∷ turns))

next_round : (turns : List (ℕ × Command)) (script : List Item) → flat_map sessions_of (rounds_from [] script) ≡ sessions_in script → flat_map sessions_of (round_of turns ++ rounds_from [] script) ≡ sessions_of turns ++ sessions_in script
next_round turns script e =
    flat_map-append sessions_of (round_of turns) (rounds_from [] script)
    ∙ ap (λ t. t ++ flat_map sessions_of (rounds_from [] script)) (one_round turns)
    ∙ ap (λ t. sessions_of turns ++ t) e

rounds_sessions : (turns : List (ℕ × Command)) (script : List Item) → flat_map sessions_of (rounds_from turns script) ≡ sessions_of turns ++ sessions_in script
rounds_sessions turns [] = one_round turns ∙ sym (append-nil (sessions_of turns))
rounds_sessions turns (items.Run s c ∷ script) =
    rounds_sessions (turns ++ (s, c) ∷ []) script
    ∙ ap (λ t. t ++ sessions_in script) (map-append (λ (t : ℕ × Command). t.0) turns ((s, c) ∷ []))
    ∙ append_assoc (sessions_of turns) (s ∷ []) (sessions_in script)
rounds_sessions turns (items.Round ∷ script) = next_round turns script (rounds_sessions [] script)
rounds_sessions turns (items.Checkpoint ∷ script) = next_round turns script (rounds_sessions [] script)
rounds_sessions turns (items.Crash how ∷ script) = next_round turns script (rounds_sessions [] script)
rounds_sessions turns (items.Dump what at size ∷ script) = next_round turns script (rounds_sessions [] script)

pub asked_sessions : (script : List Item) → sessions_asked (asked_of script) ≡ sessions_in script
asked_sessions script = ap (flat_map sessions_of) (rounds_asked script) ∙ rounds_sessions [] script

pub sessions_short : (script : List Item) → length (sessions_in script) ≤ length script
sessions_short [] = omega arith
sessions_short (items.Run s c ∷ script) = let i = sessions_short script in omega arith
sessions_short (items.Round ∷ script) = let i = sessions_short script in omega arith
sessions_short (items.Checkpoint ∷ script) = let i = sessions_short script in omega arith
sessions_short (items.Crash how ∷ script) = let i = sessions_short script in omega arith
sessions_short (items.Dump what at size ∷ script) = let i = sessions_short script in omega arith
