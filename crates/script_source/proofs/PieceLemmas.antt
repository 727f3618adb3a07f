-- A script that comes piece by piece.
use Rattle.std.proofs.Common.{◌≡◌, ◌∙◌, ℕ, ◌++◌, List, [], ◌∷◌, ap, append-nil, sym, refl, Result, Ok, Err}
use Rattle.script_lines.specs.declared.kind.Kind.{Kind}
use Rattle.session_lang.specs.declared.parser.reading.Front.{Front}
use Rattle.session_lang.specs.declared.script.ParseRefusal.{ParseRefusal}
use Rattle.session_lang.specs.declared.script.ParseRefusal.TheVariants as refusals
use Rattle.session_lang.specs.Answers.{ReadsAs}
use Rattle.session_lang.specs.Lines.{lines_of}
use Rattle.session_lang.specs.Script.{read_line, read_lines}

-- where nothing comes behind
pub to_end : (f g : Front) (n m : ℕ) (bytes last : List ℕ) → read_lines f n (lines_of (bytes ++ [])) ≡ read_lines g m (lines_of (last ++ [])) → read_lines f n (lines_of bytes) ≡ read_lines g m (lines_of last)
to_end f g n m bytes last e = ap (λ xs. read_lines f n (lines_of xs)) (sym (append-nil bytes)) ∙ e ∙ ap (λ xs. read_lines g m (lines_of xs)) (append-nil last)

abbrev behind : List (List ℕ) → List (List ℕ)
behind [] = []
behind (line ∷ lines) = lines

only_line : (last line : List ℕ) (more : List (List ℕ)) → lines_of last ≡ last ∷ [] → lines_of last ≡ line ∷ more → lines_of last ≡ line ∷ []
only_line last line more a b = b ∙ ap (λ lines. line ∷ lines) (sym (ap behind b) ∙ ap behind a)

pub last_read : (f g : Front) (n : ℕ) (last line : List ℕ) (more : List (List ℕ)) → lines_of last ≡ last ∷ [] → lines_of last ≡ line ∷ more → read_line f n line ≡ Ok g → read_lines f n (lines_of last) ≡ Ok g
last_read f g n last line more a b e = rw (only_line last line more a b, e) refl

pub last_refused : {X : Type 0} (view : X → Front) (e : ParseRefusal) (f : Front) (n : ℕ) (last line : List ℕ) (more : List (List ℕ)) → lines_of last ≡ last ∷ [] → lines_of last ≡ line ∷ more → ReadsAs view (Err e) (read_line f n line) → ReadsAs view (Err e) (read_lines f n (lines_of last))
last_refused view (refusals.Fault number kind) f n last line more a b e = rw (only_line last line more a b, e) refl
last_refused view refusals.Memory f n last line more a b e = tt

-- a refusal doesn't depend on what would have been read
pub refused_alike : {X Z : Type 0} (view : X → Front) (other : Z → Front) (e : ParseRefusal) (read : Result Front (ℕ × Kind)) → ReadsAs view (Err e) read → ReadsAs other (Err e) read
refused_alike view other (refusals.Fault number kind) read e = e
refused_alike view other refusals.Memory read e = tt
