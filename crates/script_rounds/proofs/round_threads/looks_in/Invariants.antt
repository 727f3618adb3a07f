use Rattle.std.proofs.Common.{◌≡◌, ◌≤◌, count_by, take}
use Rattle.session_lang.specs.Rounds.{is_look}
use Rattle.script_rounds.proofs.round_threads.looks_in.Given as goal

abbrev pub invariant-loop-place : goal.invariant-loop-place
invariant-loop-place l = (l.looks ≡ count_by is_look (take l.place l.round)) × (l.looks ≤ l.place)
