-- A life's lines by their commands, and what their replies tell.
use Rattle.std.proofs.Common.{◌≡◌, ℕ, zero, suc, ◌<◌, ◌≤◌, Bool, true, false, ◌||◌, ◌&&◌, Option, Some, None, List, [], ◌∷◌, length, get_or, map, take, refl, sym, ap, subst, ◌∙◌, ⊎_elim, arith, Result, Ok, Err, IfOk}
use Rattle.std.specs.List.{All, AllByRecursion, list_any, slice_get}
use Rattle.std.proofs.lemmas.Bool.{cases_Bool, cases_lt}
use Rattle.std.proofs.lemmas.List.{length-map}
use Rattle.std.proofs.lemmas.List.Elements.{All-from_recursion}
use Rattle.tx_events.specs.declared.event.By.{By}
use Rattle.tx_events.specs.declared.event.Event.{Event}
use Rattle.tx_events.specs.declared.multi.MultiEvent.{MultiEvent}
use Rattle.tx_events.specs.declared.snapshot.SnapData.{SnapData}
use Rattle.tx_events.specs.Events.{by_of, same_by}
use Rattle.tx_events.specs.Multis.{multi_by}
use Rattle.tx_model.specs.declared.report.Line.{Line}
use Rattle.life_tables.specs.Numbered.{IsFew}
use Rattle.life_tables.specs.Numbered as numbered
use Rattle.event_rules.specs.Fronts.{AreTold, list_at}
use Rattle.place_columns.specs.declared.lines.LineAt.{LineAt}
use Rattle.place_columns.specs.Lined.{AreInOrder, bys_of, line_by, lines_from, number_of}
use Rattle.place_columns.proofs.LineSteps.{bys_are}
use Rattle.place_columns.proofs.Numbering.{by_at_number, number_is, same_is, same_self}
use Rattle.multi_rules.proofs.GenPlaces.{bound_at}
use Rattle.report_law.specs.Steps.{Judged, gave_multi, lines_of}
use Rattle.event_rules.specs.SnapsTold.{told_by, told_lists}
use Rattle.life_tables.specs.Lives.{is_multi_reply}
use Rattle.life_tables.specs.Told.{AreToldLists}

-- ---- results, fronts and lives under other names

pub if_ok : {T E : Type 0} (P Q : T → Type 0) (r : Result T E) → ((x : T) → P x → Q x) → IfOk r P → IfOk r Q
if_ok P Q (Ok x) f p = f x p
if_ok P Q (Err e) f p = tt

pub take_self : {X : Type 0} (n : ℕ) (xs : List X) → take n xs ≡ take (length (take n xs)) xs
take_self zero xs = refl
take_self (suc n) [] = refl
take_self (suc n) (x ∷ xs) = ap (λ t. x ∷ t) (take_self n xs)

-- ---- few sessions, and commands in order

module _ {X : Type 0} (f : X → By) where
  pub few_map : (xs : List X) → All (λ x. (f x).session < 64) xs → All (λ (b : By). b.session < 64) (map f xs)
  few_map [] a k d l = absurd (omega arith)
  few_map (x ∷ xs) a zero d l = a 0 x (omega arith)
  few_map (x ∷ xs) a (suc k) d l = few_map xs (λ j e m. a (suc j) e (omega arith)) k d (omega arith)

  pub few_from : (xs : List X) → AllByRecursion (λ x. IsFew (f x)) xs → All (λ x. (f x).session < 64) xs
  few_from xs a = All-from_recursion (λ x. (f x).session < 64) xs a

  pub few_front : (n : ℕ) (xs : List X) → All (λ x. (f x).session < 64) xs → All (λ x. (f x).session < 64) (take n xs)
  few_front zero xs a k d l = absurd (omega arith)
  few_front (suc n) [] a k d l = absurd (omega arith)
  few_front (suc n) (x ∷ xs) a zero d l = a 0 d (omega arith)
  few_front (suc n) (x ∷ xs) a (suc k) d l = few_front n xs (λ j e m. a (suc j) e (omega arith)) k d (omega arith)

line_of : (ls : List Line) (p : ℕ) (b : By) → slice_get (map line_by ls) p ≡ Some b → (l : Line) × (slice_get ls p ≡ Some l) × (l.by ≡ b)
line_of [] p b e = absurd cc
line_of (x ∷ ls) zero b e = let same : x.by ≡ b = cc in (x, refl, same)
line_of (x ∷ ls) (suc p) b e = line_of ls p b e

pub lines_order : (ls : List Line) → numbered.AreInOrder ls → AreInOrder (map line_by ls)
lines_order ls order p q a b l e f s =
    let x = line_of ls p a e in
    let y = line_of ls q b f in
    let same : x.0.by.session ≡ y.0.by.session = ap (λ (c : By). c.session) x.2 ∙ s ∙ sym (ap (λ (c : By). c.session) y.2) in
    let less = order p q x.0 y.0 l x.1 y.1 same in
    subst (λ (c : By). c.command < b.command) x.2 (subst (λ (c : By). x.0.by.command < c.command) y.2 less)

-- ---- what is told of snapshots

abbrev told_at : Option Line → Option SnapData
told_at (Some l) = told_lists l.reply
told_at None = None

list_of : (ls : List Line) (n : ℕ) → list_at (map (λ (l : Line). told_lists l.reply) ls) n ≡ told_at (slice_get ls n)
list_of [] n = refl
list_of (l ∷ ls) zero = refl
list_of (l ∷ ls) (suc n) = list_of ls n

number_at : (lines : List LineAt) (h : List Event) (p : ℕ) (e : Event) → slice_get h p ≡ Some e → get_or (map (number_of lines) (map by_of h)) p 0 ≡ number_of lines (by_of e)
number_at lines [] p e s = absurd cc
number_at lines (x ∷ h) zero e s = let same : x ≡ e = cc in ap (λ (y : Event). number_of lines (by_of y)) same
number_at lines (x ∷ h) (suc p) e s = number_at lines h p e s

told_is : (j : Judged) (by : By) → told_at (slice_get (lines_of j) (number_of (lines_from 0 j.steps) by)) ≡ told_by j by
told_is j by = refl

pub are_told : (j : Judged) (h : List Event) (numbers : List ℕ) (lists : List (Option SnapData)) → numbers ≡ map (number_of (lines_from 0 j.steps)) (map by_of h) → AreToldLists (lines_of j) lists → AreTold (told_by j) h numbers lists
are_told j h numbers lists numbers_are lists_are p e s =
    let n : get_or numbers p 0 ≡ number_of (lines_from 0 j.steps) (by_of e) = ap (λ (ks : List ℕ). get_or ks p 0) numbers_are ∙ number_at (lines_from 0 j.steps) h p e s in
    lists_are (get_or numbers p 0)
    ∙ list_of (lines_of j) (get_or numbers p 0)
    ∙ ap (λ k. told_at (slice_get (lines_of j) k)) n
    ∙ told_is j (by_of e)

-- ---- what is told of multixacts

abbrev gave_in : List Line → By → Bool
gave_in ls by = list_any (λ l. same_by l.by by && is_multi_reply l.reply) ls

gave_is : (ls : List Line) (by : By) → gave_in ls by ≡ gave_multi ls by
gave_is [] by = refl
gave_is (l ∷ ls) by = ap (λ b. (same_by l.by by && is_multi_reply l.reply) || b) (gave_is ls by)

none_gave : (ls : List Line) (by : By) → ((p : ℕ) → slice_get (map line_by ls) p ≡ Some by → ⊥) → gave_in ls by ≡ false
none_gave [] by never = refl
none_gave (l ∷ ls) by never = ⊎_elim
    (λ (t : same_by l.by by ≡ true). absurd (never 0 (ap (λ (b : By). Some b) (same_is l.by by t))))
    (λ (f : same_by l.by by ≡ false). ap (λ b. (b && is_multi_reply l.reply) || gave_in ls by) f ∙ none_gave ls by (λ p e. never (suc p) e))
    (cases_Bool (same_by l.by by))

-- by its number among the lines
numbered_gave : (ls : List Line) (by : By) (n : ℕ) → AreInOrder (map line_by ls) → slice_get (map line_by ls) n ≡ Some by → get_or (map (λ (l : Line). is_multi_reply l.reply) ls) n false ≡ gave_in ls by
numbered_gave [] by n order e = absurd cc
numbered_gave (l ∷ ls) by zero order e =
    let same : l.by ≡ by = cc in
    let own : same_by l.by by ≡ true = subst (λ (b : By). same_by l.by b ≡ true) same (same_self l.by) in
    let none = none_gave ls by (λ p f. let m = order 0 (suc p) l.by by (omega arith) refl f (ap (λ (b : By). b.session) same) in let k : l.by.command ≡ by.command = ap (λ (b : By). b.command) same in omega arith) in
    sym (ap (λ b. (b && is_multi_reply l.reply) || gave_in ls by) own ∙ ap (λ b. is_multi_reply l.reply || b) none ∙ or_false (is_multi_reply l.reply))
  where
    or_false : (b : Bool) → (b || false) ≡ b
    or_false true = refl
    or_false false = refl
numbered_gave (l ∷ ls) by (suc n) order e =
    let other : same_by l.by by ≡ false = ⊎_elim
    (λ (t : same_by l.by by ≡ true).
    let same : l.by ≡ by = same_is l.by by t in
    let m = order 0 (suc n) l.by by (omega arith) refl e (ap (λ (b : By). b.session) same) in
    let k : l.by.command ≡ by.command = ap (λ (b : By). b.command) same in absurd (omega arith))
    (λ (f : same_by l.by by ≡ false). f)
    (cases_Bool (same_by l.by by)) in
    numbered_gave ls by n (λ p q x y m f g s. order (suc p) (suc q) x y (omega arith) f g s) e ∙ sym (ap (λ b. (b && is_multi_reply l.reply) || gave_in ls by) other)

past_end : (ls : List Line) (n : ℕ) → length ls ≤ n → get_or (map (λ (l : Line). is_multi_reply l.reply) ls) n false ≡ false
past_end [] n l = refl
past_end (x ∷ ls) zero l = absurd (omega arith)
past_end (x ∷ ls) (suc n) l = past_end ls n (omega arith)

module _ (j : Judged) (order : AreInOrder (map line_by (lines_of j))) where
  gave_at : (by : By) → get_or (map (λ (l : Line). is_multi_reply l.reply) (lines_of j)) (number_of (lines_from 0 j.steps) by) false ≡ gave_multi (lines_of j) by
  gave_at by =
      let ls = lines_of j in
      let table = lines_from 0 j.steps in
      let n = number_of table by in
      let bys : bys_of table ≡ map line_by ls = bys_are 0 j.steps in
      let table_order : AreInOrder (bys_of table) = subst AreInOrder (sym bys) order in
      let size : length table ≡ length ls = sym (length-map table (λ (l : LineAt). l.by)) ∙ ap (λ (bs : List By). length bs) bys ∙ length-map ls line_by in
      ⊎_elim
      (λ (u : n < length table). numbered_gave ls by n order (subst (λ (bs : List By). slice_get bs n ≡ Some by) bys (by_at_number table by u)) ∙ gave_is ls by)
      (λ (u : length table ≤ n).
      let none = none_gave ls by (λ p e.
      let there : slice_get (bys_of table) p ≡ Some by = subst (λ (bs : List By). slice_get bs p ≡ Some by) (sym bys) e in
      let at : n ≡ p = number_is table p by table_order there in
      let b = bound_at (map line_by ls) p by e in
      let m : length (map line_by ls) ≡ length ls = length-map ls line_by in
      omega arith) in
      past_end ls n (omega arith) ∙ sym none ∙ gave_is ls by)
      (cases_lt n (length table))

  pub oks_are : (ms : List MultiEvent) (numbers : List ℕ) (gave : List Bool) → numbers ≡ map (number_of (lines_from 0 j.steps)) (map multi_by ms) → gave ≡ map (λ (l : Line). is_multi_reply l.reply) (lines_of j)
      → map (λ n. get_or gave n false) numbers ≡ map (λ (e : MultiEvent). gave_multi (lines_of j) (multi_by e)) ms
  oks_are ms numbers gave numbers_are gave_are =
      ap (λ (ns : List ℕ). map (λ n. get_or gave n false) ns) numbers_are
      ∙ ap (λ (g : List Bool). map (λ n. get_or g n false) (map (number_of (lines_from 0 j.steps)) (map multi_by ms))) gave_are
      ∙ each ms
    where
      each : (ms : List MultiEvent) → map (λ n. get_or (map (λ (l : Line). is_multi_reply l.reply) (lines_of j)) n false) (map (number_of (lines_from 0 j.steps)) (map multi_by ms)) ≡ map (λ (e : MultiEvent). gave_multi (lines_of j) (multi_by e)) ms
      each [] = refl
      each (e ∷ ms) =
          ap (λ (b : Bool). b ∷ map (λ n. get_or (map (λ (l : Line). is_multi_reply l.reply) (lines_of j)) n false) (map (number_of (lines_from 0 j.steps)) (map multi_by ms))) (gave_at (multi_by e))
          ∙ ap (λ (bs : List Bool). gave_multi (lines_of j) (multi_by e) ∷ bs) (each ms)
