-- What reading answers.
use Rattle.std.specs.Prelude.{◌≡◌, ℕ, Result, Ok, Err}
use Rattle.script_lines.specs.declared.kind.Kind.{Kind}
use Rattle.session_lang.specs.declared.script.ParseRefusal.{ParseRefusal}
use Rattle.session_lang.specs.declared.script.ParseRefusal.TheVariants as refusals

-- what was read, or the line and kind of the first fault; memory may be wanting at any time
abbrev pub ReadsAs : {X Y : Type 0} → (X → Y) → Result X ParseRefusal → Result Y (ℕ × Kind) → Type 0
ReadsAs view (Ok x) read = read ≡ Ok (view x)
ReadsAs view (Err (refusals.Fault line kind)) read = read ≡ Err (line, kind)
ReadsAs view (Err refusals.Memory) read = Unit {0}
