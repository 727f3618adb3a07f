use Rattle.std.proofs.Common.{◌≡◌, ℕ, List, Option, Some, ap, inl, inr, length, ◌<◌, Ok, Err, Result, IfOk, IfErr}
use Rattle.std.specs.Io.KnownBytes.{Consumes, IsAtEnd}
use Rattle.script_lines.specs.declared.kind.Kind.{Kind}
use Rattle.script_lines.specs.declared.kind.Kind.TheVariants as kinds
use Rattle.session_lang.proofs.WholeLemmas.{too_long}
use Rattle.run_law.specs.Refusals.{refusal_by, refusal_of}
use Rattle.session_lang.specs.declared.script.Script.{Script}
use Rattle.session_lang.specs.Script.{read_script}
use Rattle.run_law.specs.Turns.{IsRunnable}
use Rattle.script_source.specs.declared.script.NoScript.{NoScript}
use Rattle.script_source.specs.declared.script.NoScript.TheVariants as no_scripts
use Rattle.script_source.specs.Sources.{HasScript, IsNoScriptOf, Refuses, TellsFault}

-- bytes of a script that isn't refused
pub has_script : (left left' : Option (List ℕ)) (bytes : List ℕ) (r : Result Script NoScript) → Consumes left left' bytes → IsAtEnd left'
    → IfOk r (λ s. (read_script bytes ≡ Ok s) × IsRunnable s) → IfOk r (HasScript left left')
has_script left left' bytes (Ok s) read ended k = record { bytes = bytes; read = read; ended = ended; spelled = k.0; runnable = k.1 }
has_script left left' bytes (Err e) read ended k = tt

-- bytes that are refused
pub no_script : (left left' : Option (List ℕ)) (faults faults' : ℕ) (bytes : List ℕ) (e : NoScript) → Consumes left left' bytes → IsAtEnd left'
    → Refuses bytes e → IsNoScriptOf left left' faults faults' e
no_script left left' faults faults' bytes (no_scripts.Refused text) read ended k = record { bytes = bytes; read = read; ended = inl ended; fault = k.0; refused = k.1; exact = k.2 }
no_script left left' faults faults' bytes no_scripts.ReadFault read ended k = absurd k
no_script left left' faults faults' bytes no_scripts.Memory read ended k = tt

pub none_of : (left left' : Option (List ℕ)) (faults faults' : ℕ) (bytes : List ℕ) (r : Result Script NoScript) → Consumes left left' bytes → IsAtEnd left'
    → IfErr r (Refuses bytes) → IfErr r (IsNoScriptOf left left' faults faults')
none_of left left' faults faults' bytes (Ok s) read ended k = tt
none_of left left' faults faults' bytes (Err e) read ended k = no_script left left' faults faults' bytes e read ended k

-- the line of a fault of these bytes
pub refused_so : (bytes : List ℕ) (fault : ℕ × Kind) (e : NoScript) → refusal_of bytes ≡ Some fault → TellsFault fault e → Refuses bytes e
refused_so bytes fault (no_scripts.Refused text) r k = (fault, r, k)
refused_so bytes fault no_scripts.ReadFault r k = absurd k
refused_so bytes fault no_scripts.Memory r k = tt

-- where the source wasn't read to its end
pub too_long_told : (left left' : Option (List ℕ)) (faults faults' : ℕ) (e : NoScript) → ((bytes : List ℕ) × Consumes left left' bytes × (16777216 < length bytes)) → TellsFault (0, kinds.Size) e → IsNoScriptOf left left' faults faults' e
unfolding refusal_of
too_long_told left left' faults faults' (no_scripts.Refused text) long k =
    record { bytes = long.0; read = long.1; ended = inr long.2; fault = (0, kinds.Size); refused = ap (refusal_by long.0) (too_long long.0 long.2); exact = k }
too_long_told left left' faults faults' no_scripts.ReadFault long k = absurd k
too_long_told left left' faults faults' no_scripts.Memory long k = tt
