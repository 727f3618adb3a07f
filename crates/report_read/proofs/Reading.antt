-- The whole text.
use Rattle.std.proofs.Common.{◌≡◌, ℕ, ◌+◌, ◌-◌, ◌≤◌, ◌<◌, ◌^◌, ◌==◌, take, suc, List, [], ◌∷◌, ◌++◌, Bool, true, false, refl, sym, ap, ◌∙◌, append_assoc, append-nil, subst, arith, length, length-append, drop, drop-drop, length-drop, take-append-drop}
use Rattle.std.specs.List.{IsDistinct}
use Rattle.std.proofs.lemmas.Bool.{false≢true}
use Rattle.tx_model.specs.declared.report.Report.{Report}
use Rattle.report_text.specs.Words.{line_text, more}
use Rattle.report_text.specs.ReportText.{report_text, title_text}
use Rattle.report_lines.specs.Front.{IsCut, IsLine, behind_line, first_line, front}
use Rattle.report_read.specs.Item.{Item}
use Rattle.report_read.specs.Item as items
use Rattle.report_read.specs.Grammar.{Follows, after, is_opening, item_line, may_stand, no_counts}
use Rattle.report_read.specs.Reports.{IsFirstWrong, IsReport, IsRun, nothing_told, report_told, run_text}
use Rattle.report_read.specs.Taking.{IsTaken}
use Rattle.report_read.specs.declared.told.Stage.TheVariants as stages
use Rattle.report_read.specs.declared.told.Told.{Told}
use Rattle.report_read.proofs.Endings.{Ends, IsSound, ends}
use Rattle.report_read.proofs.Printed.{told_text}
use Rattle.report_read.proofs.Runs.{IsWrongAt, first_some, is_line, run_push, run_text_push, same_run, wrong_behind, wrong_here}
use Rattle.report_read.proofs.Sound.{follow_sound}
use Rattle.report_read.proofs.Standing.{NoneStands, none_opening}

-- what is read so far, line by line
pub record ReadSoFar (bytes : List ℕ) (told : Told) (rest : List ℕ) (count : ℕ) : Type 0 where
  pub run : List (Item × Told)
  pub goes : IsRun nothing_told run told
  pub text : bytes ≡ run_text run ++ rest
  pub lines : count ≡ length run
  pub sound : IsSound told count
  pub begun : is_opening told.stage ≡ false

opening : nothing_told.stage ≡ stages.Opening
unfolding nothing_told
opening = refl

nothing_sound : IsSound nothing_told 0
unfolding nothing_told no_counts IsDistinct
nothing_sound = record { names = record { are = record { each = tt; distinct = tt }; few = omega arith }; counts = omega arith; lives = omega arith; silent = λ e. absurd cc }

pub report_run : (r : Report) (i : IsReport r) → report_text r ≡ run_text i.run
report_run r i = ap report_text i.told ∙ told_text nothing_told i.run i.last opening i.goes i.closed

pub one_report : (r s : Report) → IsReport r → IsReport s → report_text r ≡ report_text s → r ≡ s
one_report r s a b e =
    let same : a.last ≡ b.last = same_run nothing_told a.run b.run a.last b.last a.goes b.goes a.closed b.closed (sym (report_run r a) ∙ e ∙ report_run s b) in
    a.told ∙ ap report_told same ∙ sym b.told

-- a wrong line behind n right ones
pub first_wrong : (bytes : List ℕ) (n k : ℕ) → k ≡ n + 1 → IsWrongAt nothing_told bytes n → IsFirstWrong bytes k
first_wrong bytes n k e w =
    let m : k - 1 ≡ n = omega arith in
    let s : k ≡ suc n = omega arith in
    let i : IsReport (report_told w.rest.last) = record { run = w.rest.run; last = w.rest.last; goes = w.rest.goes; closed = w.rest.closed; told = refl } in
    record {
      counted = omega arith;
      report = report_told w.rest.last;
      is = i;
      before = ap (λ j. front j (report_text (report_told w.rest.last))) m ∙ ap (front n) (report_run (report_told w.rest.last) i ∙ sym w.rest.is) ∙ w.before ∙ ap (λ j. front j bytes) (sym m);
      wrong = λ r q f. w.wrong (report_text r) (record { run = q.run; last = q.last; goes = q.goes; closed = q.closed; is = report_run r q }) (subst (λ j. front j (report_text r) ≡ front j bytes) s f);
    }

-- the first line isn't the title
pub no_title : (bytes : List ℕ) → (first_line bytes ≡ title_text → ⊥) → IsFirstWrong bytes 1
no_title bytes d =
    let z : 0 + 1 < 2 ^ 64 = omega arith in
    let e : Ends nothing_told = ends nothing_told 0 nothing_sound z in
    first_wrong bytes 0 1 (omega arith) (wrong_here nothing_told bytes e.text e.rest (λ c f. absurd (opening_closed (sym opening ∙ c))) (none_opening nothing_told (first_line bytes) opening d))
  where
    opening_closed : stages.Opening ≡ stages.Closed → ⊥
    opening_closed e = false≢true (ap is_opening (sym e))

titled : Follows nothing_told items.title (after nothing_told items.title)
unfolding nothing_told
titled = record { stands = refl; rule = refl; told = refl }

pub title_read : (bytes rest : List ℕ) (told : Told) → told ≡ after nothing_told items.title → bytes ≡ title_text ++ rest → ReadSoFar bytes told rest 1
title_read bytes rest told e t =
    let m : Told = after nothing_told items.title in
    let one : ReadSoFar bytes m rest 1 = record {
      run = (items.title, m) ∷ [];
      goes = (titled, refl);
      text = t ∙ ap (λ u. u ++ rest) (sym (append-nil title_text));
      lines = refl;
      sound = subst (λ n. IsSound m n) (plus 0) (follow_sound nothing_told items.title m 0 nothing_sound titled);
      begun = refl;
    } in
    subst (λ (q : Told). ReadSoFar bytes q rest 1) (sym e) one
  where
    plus : (n : ℕ) → 0 + 1 ≡ 1
    plus n = omega arith

still_begun : (t : Told) (x : Item) → may_stand x t.stage ≡ true → is_opening t.stage ≡ false → is_opening (after t x).stage ≡ false
still_begun t items.title a b = refl
still_begun t (items.life number s) a b = refl
still_begun t (items.round k) a b = refl
still_begun t (items.command l) a b = refl
still_begun t (items.step s) a b = refl
still_begun t items.history a b = refl
still_begun t (items.event e) a b = b
still_begun t items.multis a b = refl
still_begun t (items.multi e) a b = b
still_begun t (items.log l) a b = refl
still_begun t (items.logged k q) a b = b
still_begun t (items.crash how) a b = refl
still_begun t items.last a b = refl

pub one_more : (bytes : List ℕ) (t m : Told) (rest line after_it : List ℕ) (n : ℕ) → ReadSoFar bytes t rest n → IsTaken t m line → rest ≡ line ++ after_it → ReadSoFar bytes m after_it (n + 1)
one_more bytes t m rest line after_it n r k e = record {
  run = r.run ++ (k.item, m) ∷ [];
  goes = run_push nothing_told r.run t k.item m r.goes k.follows;
  text = r.text ∙ ap (λ u. run_text r.run ++ u) (e ∙ ap (λ u. u ++ after_it) k.text) ∙ sym (append_assoc (run_text r.run) (item_line m.names k.item) after_it) ∙ ap (λ u. u ++ after_it) (sym (run_text_push r.run k.item m));
  lines = ap (λ i. i + 1) r.lines ∙ sym (length-append r.run ((k.item, m) ∷ []));
  sound = follow_sound t k.item m n r.sound k.follows;
  begun = ap (λ (q : Told). is_opening q.stage) k.follows.told ∙ still_begun t k.item k.follows.stands r.begun;
}

-- the next line is wrong
pub wrong_next : (bytes : List ℕ) (t : Told) (rest : List ℕ) (n k : ℕ) → ReadSoFar bytes t rest n → n + 1 < 2 ^ 64 → k ≡ n + 1 → (t.stage ≡ stages.Closed → first_line rest ≡ [] → ⊥) → NoneStands t (first_line rest) → IsFirstWrong bytes k
wrong_next bytes t rest n k r l e closed none =
    let f : Ends t = ends t n r.sound l in
    let w : IsWrongAt nothing_told (run_text r.run ++ rest) (length r.run + 0) = wrong_behind nothing_told r.run t rest 0 r.goes (wrong_here t rest f.text f.rest closed none) in
    let c = r.lines in
    let z : length r.run + 0 ≡ n = omega arith in
    first_wrong bytes n k e (subst (λ i. IsWrongAt nothing_told bytes i) z (subst (λ u. IsWrongAt nothing_told u (length r.run + 0)) (sym r.text) w))

-- a line that can't be taken
pub wrong_line : (bytes : List ℕ) (t : Told) (rest line after_it : List ℕ) (n k : ℕ) → ReadSoFar bytes t (drop 1 rest) n → n + 1 < 2 ^ 64 → k ≡ n + 1 → IsCut rest line after_it → NoneStands t (drop 1 line) → IsFirstWrong bytes k
wrong_line bytes t rest line after_it n k r l e c none =
    wrong_next bytes t (drop 1 rest) n k r l e (λ s f. first_some (drop 1 line) c.is (sym f ∙ c.first)) (λ x m f g. none x m f (sym c.first ∙ g))

-- nothing that ends as a line does follows
pub wrong_end : (bytes : List ℕ) (t : Told) (rest : List ℕ) (n k : ℕ) → ReadSoFar bytes t (drop 1 rest) n → n + 1 < 2 ^ 64 → k ≡ n + 1 → ((l : List ℕ) → IsLine l → first_line (drop 1 rest) ≡ l → ⊥) → (t.stage ≡ stages.Closed → 1 < length rest) → IsFirstWrong bytes k
wrong_end bytes t rest n k r l e none more =
    wrong_next bytes t (drop 1 rest) n k r l e (λ s f. some_left rest (more s) f) (λ x m f g. none (item_line m.names x) (is_line t x m f) g)
  where
    some_first : (b : ℕ) (u : List ℕ) (q : Bool) → (b == 10) ≡ q → first_line (b ∷ u) ≡ [] → ⊥
    some_first b u true f e = let g : b ∷ [] ≡ [] = rw f at e in absurd cc
    some_first b u false f e = let g : b ∷ first_line u ≡ [] = rw f at e in absurd cc

    some_left : (rest : List ℕ) → 1 < length rest → first_line (drop 1 rest) ≡ [] → ⊥
    some_left [] l e = absurd (omega arith)
    some_left (x ∷ []) l e = absurd (omega arith)
    some_left (x ∷ b ∷ u) l e = some_first b u (b == 10) refl e

none_left : (rest : List ℕ) → length rest ≤ 1 → drop 1 rest ≡ []
none_left [] l = refl
none_left (x ∷ []) l = refl
none_left (x ∷ y ∷ rest) l = absurd (omega arith)

pub record WholeReport (bytes : List ℕ) (t : Told) : Type 0 where
  pub is : IsReport (report_told t)
  pub text : bytes ≡ report_text (report_told t)

pub all_read : (bytes : List ℕ) (t : Told) (rest : List ℕ) (n : ℕ) → ReadSoFar bytes t (drop 1 rest) n → length rest ≤ 1 → t.stage ≡ stages.Closed → WholeReport bytes t
all_read bytes t rest n r l c =
    let i : IsReport (report_told t) = record { run = r.run; last = t; goes = r.goes; closed = c; told = refl } in
    record { is = i; text = r.text ∙ ap (λ u. run_text r.run ++ u) (none_left rest l) ∙ append-nil (run_text r.run) ∙ sym (report_run (report_told t) i) }

-- ---- the title

by_end : (b : ℕ) (t : List ℕ) (q : Bool) → (b == 10) ≡ q → t ≡ first_line t ++ behind_line t → b ∷ t ≡ first_line (b ∷ t) ++ behind_line (b ∷ t)
by_end b t true e h = rw e refl
by_end b t false e h = rw e (ap (λ u. b ∷ u) h)

line_split : (t : List ℕ) → t ≡ first_line t ++ behind_line t
line_split [] = refl
line_split (b ∷ t) = by_end b t (b == 10) refl (line_split t)

title_length : (u : List ℕ) → length (title_text ++ u) ≡ 14 + length u
unfolding line_text more
title_length u = omega arith

title_taken : (u : List ℕ) → take 14 (title_text ++ u) ≡ title_text
unfolding line_text more
title_taken u = refl

pub title_short : (bytes : List ℕ) → length bytes < 14 → first_line bytes ≡ title_text → ⊥
title_short bytes l e =
    let s : length bytes ≡ 14 + length (behind_line bytes) = ap length (line_split bytes ∙ ap (λ u. u ++ behind_line bytes) e) ∙ title_length (behind_line bytes) in
    omega arith

pub title_front : (bytes : List ℕ) → first_line bytes ≡ title_text → take 14 bytes ≡ title_text
title_front bytes e = ap (take 14) (line_split bytes ∙ ap (λ u. u ++ behind_line bytes) e) ∙ title_taken (behind_line bytes)

pub title_behind : (bytes rest : List ℕ) → 14 ≤ length bytes → take 14 bytes ≡ title_text → rest ≡ drop 13 bytes → (bytes ≡ title_text ++ drop 1 rest) × (1 ≤ length rest)
title_behind bytes rest l e f =
    let d : drop 1 rest ≡ drop 14 bytes = ap (drop 1) f ∙ drop-drop 1 13 bytes in
    let k = ap length f ∙ length-drop 13 bytes in
    (sym (take-append-drop 14 bytes) ∙ ap (λ u. u ++ drop 14 bytes) e ∙ ap (λ u. title_text ++ u) (sym d), omega arith)

pub title_room : (bytes rest : List ℕ) → bytes ≡ title_text ++ drop 1 rest → 1 ≤ length rest → 1 + length rest ≤ length bytes
title_room bytes rest e l =
    let k = ap length e ∙ title_length (drop 1 rest) in
    let d = length-drop 1 rest in
    omega arith

-- no report has a text with a wrong line
pub not_a_report : (bytes : List ℕ) (k : ℕ) → IsFirstWrong bytes k → (r : Report) → IsReport r → bytes ≡ report_text r → ⊥
not_a_report bytes k w r i e = w.wrong r i (ap (front k) (sym e))

pub longer : (rest : List ℕ) → (length rest ≤ 1 → ⊥) → 1 < length rest
longer [] d = absurd (d (omega arith))
longer (x ∷ []) d = absurd (d (omega arith))
longer (x ∷ y ∷ rest) d = omega arith
