-- A script as a whole.
use Rattle.std.proofs.Common.{◌≡◌, subst, ℕ, ◌<◌, ◌≤◌, nat_lt, List, Bool, true, false, refl, sym, ◌∙◌, length, arith, Result, Ok, Err}
use Rattle.std.specs.Result.{IsErrAnd}
use Rattle.std.proofs.lemmas.Bool.Decides.{nat_tests}
use Rattle.script_lines.specs.declared.kind.Kind.TheVariants as kinds
use Rattle.script_lines.specs.Header.{base_of, is_base}
use Rattle.script_lines.proofs.Bases.{passes_base}
use Rattle.session_lang.specs.declared.parser.reading.Front.{Front}
use Rattle.session_lang.specs.declared.script.ParseRefusal.{ParseRefusal}
use Rattle.session_lang.specs.declared.script.ParseRefusal.TheVariants as refusals
use Rattle.session_lang.specs.declared.script.Script.{Script}
use Rattle.session_lang.specs.Answers.{ReadsAs}
use Rattle.session_lang.specs.Lines.{lines_of}
use Rattle.session_lang.specs.Reading.{HasRead, IsSound}
use Rattle.session_lang.specs.Script.{no_front, read_lines, read_script, script_of}

pub too_long : (bytes : List ℕ) → 16777216 < length bytes → read_script bytes ≡ Err (0, kinds.Size)
unfolding read_script
too_long bytes l = rw (long) refl
  where
    long : nat_lt 16777216 (length bytes) ≡ true
    long = grind (arith, nat_tests)

not_long : (n : ℕ) → n ≤ 16777216 → nat_lt 16777216 n ≡ false
not_long n l = grind (arith, nat_tests)

pub no_lines : {X : Type 0} (view : X → Front) (bytes : List ℕ) (e : ParseRefusal) → length bytes ≤ 16777216 → ReadsAs view (Err e) (read_lines no_front 1 (lines_of bytes)) → ReadsAs {X = Script} (λ s. s) (Err e) (read_script bytes)
unfolding read_script
no_lines view bytes (refusals.Fault line kind) l h = rw (not_long (length bytes) l, h) refl
no_lines view bytes refusals.Memory l h = tt

pub no_base : (bytes : List ℕ) (f : Front) (b : Bool) → length bytes ≤ 16777216 → read_lines no_front 1 (lines_of bytes) ≡ Ok f → b ≡ is_base (base_of f.header) → b ≡ false → read_script bytes ≡ Err (f.header_end, kinds.Base)
unfolding read_script
no_base bytes f b l h e n = rw (not_long (length bytes) l, h, sym e ∙ n) refl

pub whole_read : (bytes : List ℕ) (f : Front) (b : Bool) → length bytes ≤ 16777216 → read_lines no_front 1 (lines_of bytes) ≡ Ok f → b ≡ is_base (base_of f.header) → b ≡ true → read_script bytes ≡ Ok (script_of f)
unfolding read_script
whole_read bytes f b l h e n = rw (not_long (length bytes) l, h, sym e ∙ n) refl

pub is_sound : (f : Front) (counts : List ℕ) (b : Bool) → HasRead f.names counts f.items → length f.items ≤ 16777216 → b ≡ is_base (base_of f.header) → b ≡ true → IsSound (script_of f)
is_sound f counts b h few e n = record {
  base = passes_base (base_of f.header) (sym e ∙ n);
  names = h.names;
  distinct = h.distinct;
  numbered = h.numbered;
  sessions = h.sessions;
  commands = h.short;
  few = few;
}

pub lines_refused : {X : Type 0} (view : X → Front) (bytes : List ℕ) (r : Result Script ParseRefusal) (e : ParseRefusal) → IsErrAnd r (λ x. x ≡ e) → length bytes ≤ 16777216 → ReadsAs view (Err e) (read_lines no_front 1 (lines_of bytes)) → ReadsAs (λ s. s) r (read_script bytes)
lines_refused view bytes (Ok s) e i l h = absurd i
lines_refused {X} view bytes (Err x) e i l h = subst (λ y. ReadsAs {X = Script} (λ s. s) (Err y) (read_script bytes)) (sym i) (no_lines view bytes e l h)
