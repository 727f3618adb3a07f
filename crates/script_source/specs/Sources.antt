-- What is read of a source.
use Rattle.std.specs.Prelude.{◌≡◌, ◌⊎◌, ◌++◌, ◌<◌, ℕ, List, Option, Some, Ok, length}
use Rattle.std.specs.Io.KnownBytes.{Consumes, IsAtEnd}
use Rattle.tx_io.specs.Causes.{Rose}
use Rattle.script_lines.specs.declared.kind.Kind.{Kind}
use Rattle.session_lang.specs.declared.script.Script.{Script}
use Rattle.session_lang.specs.Script.{read_script}
use Rattle.run_law.specs.Refusals.{refusal_of, refusal_text}
use Rattle.run_law.specs.Tool.{IsNoScript}
use Rattle.run_law.specs.Turns.{IsRunnable}
use Rattle.script_source.specs.declared.script.NoScript.{NoScript}
use Rattle.script_source.specs.declared.script.NoScript.TheVariants as no_scripts

-- The source was read to its end, and its bytes are this script, which sessions can run.
pub record HasScript (left left' : Option (List ℕ)) (s : Script) : Type 0 where
  pub bytes : List ℕ
  pub read : Consumes left left' bytes
  pub ended : IsAtEnd left'
  pub spelled : read_script bytes ≡ Ok s
  pub runnable : IsRunnable s

-- the line tells this fault
abbrev pub TellsFault : ℕ × Kind → NoScript → Type 0
TellsFault fault (no_scripts.Refused text) = text.items ≡ refusal_text fault
TellsFault fault no_scripts.ReadFault = ⊥
TellsFault fault no_scripts.Memory = Unit {0}

-- why these bytes are no script that sessions can run
abbrev pub Refuses : List ℕ → NoScript → Type 0
Refuses bytes (no_scripts.Refused text) = (fault : ℕ × Kind) × (refusal_of bytes ≡ Some fault) × (text.items ≡ refusal_text fault)
Refuses bytes no_scripts.ReadFault = ⊥
Refuses bytes no_scripts.Memory = Unit {0}

-- why the source gave none, with its counts of faults
abbrev pub IsNoScriptOf : Option (List ℕ) → Option (List ℕ) → ℕ → ℕ → NoScript → Type 0
IsNoScriptOf left left' faults faults' (no_scripts.Refused text) = IsNoScript left left' text.items
IsNoScriptOf left left' faults faults' no_scripts.ReadFault = Rose faults faults'
IsNoScriptOf left left' faults faults' no_scripts.Memory = Unit {0}

-- The source was read to its end or past the limit, of a text that begins with these bytes, which is refused, and the text
-- tells where and why.
pub record IsNoScriptBehind (front : List ℕ) (left left' : Option (List ℕ)) (text : List ℕ) : Type 0 where
  pub rest : List ℕ
  pub read : Consumes left left' rest
  pub ended : IsAtEnd left' ⊎ (16777216 < length (front ++ rest))
  pub fault : ℕ × Kind
  pub refused : refusal_of (front ++ rest) ≡ Some fault
  pub exact : text ≡ refusal_text fault

-- the same of a source that gave these bytes before
abbrev pub IsRefusedSo : List ℕ → Option (List ℕ) → Option (List ℕ) → ℕ → ℕ → NoScript → Type 0
IsRefusedSo front left left' faults faults' (no_scripts.Refused text) = IsNoScriptBehind front left left' text.items
IsRefusedSo front left left' faults faults' no_scripts.ReadFault = Rose faults faults'
IsRefusedSo front left left' faults faults' no_scripts.Memory = Unit {0}
