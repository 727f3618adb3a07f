-- What came of a script so far.
use Rattle.std.proofs.Common.{◌≡◌, ◌∙◌, ◌⊎◌, ℕ, ◌+◌, ◌-◌, ◌<◌, ◌≤◌, ◌++◌, List, [], Option, ap, append-nil, append_assoc, arith, inl, inr, length, length-append, subst, sym, Result, Ok, Err}
use Rattle.std.proofs.KnownBytes.{Consumes-nil, Consumes-trans}
use Rattle.std.specs.Io.KnownBytes.{Consumes, IsAtEnd}
use Rattle.tx_io.specs.Amounts.{ReadsUpTo, most_read}
use Rattle.tx_io.specs.Causes.{Rose}
use Rattle.script_lines.specs.declared.kind.Kind.{Kind}
use Rattle.script_lines.specs.declared.kind.Kind.TheVariants as kinds
use Rattle.session_lang.specs.declared.parser.reading.Front.{Front}
use Rattle.session_lang.specs.declared.script.ParseRefusal.{ParseRefusal}
use Rattle.session_lang.specs.declared.script.ParseRefusal.TheVariants as refusals
use Rattle.session_lang.specs.Answers.{ReadsAs}
use Rattle.session_lang.specs.Lines.{lines_of}
use Rattle.session_lang.specs.Pieces.{IsReading, read_behind}
use Rattle.session_lang.specs.Script.{no_front, read_lines, read_script}
use Rattle.session_lang.proofs.WholeLemmas.{no_lines, too_long}
use Rattle.run_law.specs.Refusals.{refusal_by, refusal_of}
use Rattle.script_source.specs.declared.reader.ScriptReader.{ScriptReader}
use Rattle.script_source.specs.declared.script.NoScript.{NoScript}
use Rattle.script_source.specs.declared.script.NoScript.TheVariants as no_scripts
use Rattle.script_source.specs.Sources.{IsNoScriptOf, IsRefusedSo, TellsFault}
use Rattle.script_source.proofs.RunLemmas.{fault_told}

-- the lines that ended are read, and what stands behind them is kept
pub record Comes (left left' : Option (List ℕ)) (r : ScriptReader) (kept : List ℕ) (came : ℕ) : Type 0 where
  pub bytes : List ℕ
  pub read : Consumes left left' bytes
  pub count : came ≡ length bytes
  pub on : (more : List ℕ) → read_lines no_front 1 (lines_of (bytes ++ more)) ≡ read_behind r.reading r.number (kept ++ more)
  pub so_far : IsReading r.reading
  pub numbers : r.number + length kept ≤ came + 1
  pub few : length r.reading.front.items + length kept ≤ came

pub comes_none : (left : Option (List ℕ)) (r : ScriptReader) (kept : List ℕ) → kept ≡ [] → ((bytes : List ℕ) → read_behind r.reading r.number bytes ≡ read_lines no_front 1 (lines_of bytes)) → IsReading r.reading → r.number ≡ 1 → length r.reading.front.items ≡ 0 → Comes left left r kept 0
comes_none left r kept empty on so_far number none = let short = ap length empty in record {
  bytes = [];
  read = Consumes-nil left;
  count = omega arith;
  on = λ more. sym (on more) ∙ ap (λ xs. read_behind r.reading r.number (xs ++ more)) (sym empty);
  so_far = so_far;
  numbers = omega (arith, short);
  few = omega (arith, short);
}

pub comes_more : (left mid left' : Option (List ℕ)) (r : ScriptReader) (kept kept' piece : List ℕ) (came n : ℕ) → Comes left mid r kept came → Consumes mid left' piece → kept' ≡ kept ++ piece → length piece ≡ n → Comes left left' r kept' (came + n)
comes_more left mid left' r kept kept' piece came n c read grown size =
    let long = length-append c.bytes piece in let kept_long : length kept' ≡ length kept + length piece = ap length grown ∙ length-append kept piece in
    let count = c.count in let numbers = c.numbers in let few = c.few in record {
      bytes = c.bytes ++ piece;
      read = Consumes-trans left mid left' c.bytes piece c.read read;
      count = omega (arith, long, count, size);
      on = λ more. ap (λ xs. read_lines no_front 1 (lines_of xs)) (append_assoc c.bytes piece more) ∙ c.on (piece ++ more) ∙ ap (λ xs. read_behind r.reading r.number xs) (sym (append_assoc kept piece more)) ∙ ap (λ xs. read_behind r.reading r.number (xs ++ more)) (sym grown);
      so_far = c.so_far;
      numbers = omega (arith, kept_long, numbers, size);
      few = omega (arith, kept_long, few, size);
    }

pub comes_read : (left left' : Option (List ℕ)) (r s : ScriptReader) (kept rest : List ℕ) (came : ℕ) → Comes left left' r kept came → IsReading s.reading → s.number + length rest ≤ r.number + length kept → length s.reading.front.items + length rest ≤ length r.reading.front.items + length kept
    → ((more : List ℕ) → read_behind r.reading r.number (kept ++ more) ≡ read_behind s.reading s.number (rest ++ more)) → Comes left left' s rest came
comes_read left left' r s kept rest came c so_far numbers few on = let n = c.numbers in let f = c.few in record {
  bytes = c.bytes;
  read = c.read;
  count = c.count;
  on = λ more. c.on more ∙ on more;
  so_far = so_far;
  numbers = omega (arith, n, numbers);
  few = omega (arith, f, few);
}

-- where all came
pub whole_came : (left left' : Option (List ℕ)) (r : ScriptReader) (kept : List ℕ) (came : ℕ) (c : Comes left left' r kept came) → read_lines no_front 1 (lines_of c.bytes) ≡ read_behind r.reading r.number kept
whole_came left left' r kept came c = ap (λ xs. read_lines no_front 1 (lines_of xs)) (sym (append-nil c.bytes)) ∙ c.on [] ∙ ap (λ xs. read_behind r.reading r.number xs) (append-nil kept)

-- a fault of what came is one of the whole text
pub fault_came : (left left' : Option (List ℕ)) (r : ScriptReader) (kept : List ℕ) (came line : ℕ) (kind : Kind) (c : Comes left left' r kept came)
    → ((more : List ℕ) → ReadsAs {X = Unit {0}} {Y = Front} (λ _. no_front) (Err (refusals.Fault line kind)) (read_behind r.reading r.number (kept ++ more)))
    → (more : List ℕ) → read_lines no_front 1 (lines_of (c.bytes ++ more)) ≡ Err (line, kind)
fault_came left left' r kept came line kind c told more = c.on more ∙ told more

pub rose_from : (a b c : ℕ) → a ≤ b → Rose b c → Rose a c
rose_from a b c low rose = grind arith

-- the refusal of what came is the whole source's
pub refused_whole : (left mid left' : Option (List ℕ)) (before faults faults' : ℕ) (front : List ℕ) (e : NoScript) → Consumes left mid front → before ≤ faults → IsRefusedSo front mid left' faults faults' e → IsNoScriptOf left left' before faults' e
refused_whole left mid left' before faults faults' front (no_scripts.Refused text) read low k =
    record { bytes = front ++ k.rest; read = Consumes-trans left mid left' front k.rest read k.read; ended = k.ended; fault = k.fault; refused = k.refused; exact = k.exact }
refused_whole left mid left' before faults faults' front no_scripts.ReadFault read low k = rose_from before faults faults' low k
refused_whole left mid left' before faults faults' front no_scripts.Memory read low k = tt

-- the whole text was read, and has this fault
pub refused_read : (front : List ℕ) (left left' : Option (List ℕ)) (faults faults' line : ℕ) (kind : Kind) (e : NoScript)
    → ((more : List ℕ) → read_lines no_front 1 (lines_of (front ++ more)) ≡ Err (line, kind))
    → ((rest : List ℕ) × Consumes left left' rest × IsAtEnd left' × (length front + length rest ≤ 16777216)) → TellsFault (line, kind) e → IsRefusedSo front left left' faults faults' e
refused_read front left left' faults faults' line kind (no_scripts.Refused text) fault passed told =
    let few = passed.3 in let long = length-append front passed.0 in
    let reads : read_script (front ++ passed.0) ≡ Err (line, kind) = no_lines {X = Unit {0}} (λ _. no_front) (front ++ passed.0) (refusals.Fault line kind) (omega (arith, few, long)) (fault passed.0) in
    record { rest = passed.0; read = passed.1; ended = inl passed.2; fault = (line, kind); refused = fault_told (front ++ passed.0) line kind reads; exact = told }
refused_read front left left' faults faults' line kind no_scripts.ReadFault fault passed told = absurd told
refused_read front left left' faults faults' line kind no_scripts.Memory fault passed told = tt

-- it is too long
pub refused_long : (front : List ℕ) (left left' : Option (List ℕ)) (faults faults' : ℕ) (e : NoScript)
    → ((rest : List ℕ) × Consumes left left' rest × (16777216 < length front + length rest)) → TellsFault (0, kinds.Size) e → IsRefusedSo front left left' faults faults' e
unfolding refusal_of
refused_long front left left' faults faults' (no_scripts.Refused text) passed told =
    let many = passed.2 in let same = length-append front passed.0 in
    let long : 16777216 < length (front ++ passed.0) = omega (arith, many, same) in
    record { rest = passed.0; read = passed.1; ended = inr long; fault = (0, kinds.Size); refused = ap (refusal_by (front ++ passed.0)) (too_long (front ++ passed.0) long); exact = told }
refused_long front left left' faults faults' no_scripts.ReadFault passed told = absurd told
refused_long front left left' faults faults' no_scripts.Memory passed told = tt

-- how much was read in all
pub read_after : (left mid left' : Option (List ℕ)) (r : ScriptReader) (kept : List ℕ) (came : ℕ) → Comes left mid r kept came → came ≤ 16777217 → ReadsUpTo (most_read - came) mid left' → ReadsUpTo most_read left left'
read_after left mid left' r kept came c bound more = let few = more.few in let count = c.count in record {
  bytes = c.bytes ++ more.bytes;
  read = Consumes-trans left mid left' c.bytes more.bytes c.read more.read;
  few = omega (arith, few, count, bound, length-append c.bytes more.bytes);
}
