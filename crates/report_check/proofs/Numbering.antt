-- The lives of a report have few sessions, and each session's commands are numbered on: so the grammar has it.
use Rattle.std.proofs.Common.{◌≡◌, ◌≢◌, ℕ, zero, suc, ◌+◌, ◌<◌, ◌≤◌, true, false, List, [], ◌∷◌, ◌++◌, Option, Some, None, length, get_or, set, refl, sym, ap, subst, ◌∙◌, append_assoc, arith, ⊎_elim, eqb-true, ◌==◌}
use Rattle.std.specs.List.{AllByRecursion, flat_map, slice_get}
use Rattle.std.proofs.lemmas.Bool.{cases_Bool, cases_lt, false≢true}
use Rattle.std.proofs.lemmas.List.{append-nil, get_or-set_other, get_or-set_same, length-set}
use Rattle.tx_events.specs.declared.event.Event.{Event}
use Rattle.tx_events.specs.declared.multi.MultiEvent.{MultiEvent}
use Rattle.tx_events.specs.Events.{by_of}
use Rattle.tx_events.specs.Multis.{multi_by}
use Rattle.tx_events.proofs.ListSteps.{eqb-refl}
use Rattle.tx_model.specs.declared.report.Line.{Line}
use Rattle.tx_model.specs.declared.report.Report.{Report}
use Rattle.tx_model.specs.declared.report.Step.{Step}
use Rattle.tx_model.specs.declared.report.Step.TheVariants as steps
use Rattle.tx_model.specs.declared.report.How.{How}
use Rattle.tx_model.specs.Rounds.{lines_in}
use Rattle.report_lines.specs.Fits.{FitsStep}
use Rattle.report_read.specs.Item.{Item}
use Rattle.report_read.specs.Item as items
use Rattle.report_read.specs.Grammar.{Follows, IsNamed, after, begins_step, is_between, is_history, is_log, is_multis, is_opening, is_round, life_told, no_counts, steps_told}
use Rattle.report_read.specs.Reports.{IsReport, IsRun, nothing_told}
use Rattle.report_read.specs.declared.told.Stage.{Stage}
use Rattle.report_read.specs.declared.told.Stage.TheVariants as stages
use Rattle.report_read.specs.declared.told.Told.{Told}
use Rattle.life_tables.specs.Numbered.{AreInOrder, IsFew, IsNumbered}

-- ---- lists

all_append : {X : Type 0} (P : X → Type 0) (xs ys : List X) → AllByRecursion P xs → AllByRecursion P ys → AllByRecursion P (xs ++ ys)
all_append P [] ys a b = b
all_append P (x ∷ xs) ys a b = (a.0, all_append P xs ys a.1 b)

all_got : {X : Type 0} (P : X → Type 0) (xs : List X) (p : ℕ) (x : X) → AllByRecursion P xs → slice_get xs p ≡ Some x → P x
all_got P [] p x a e = absurd cc
all_got P (y ∷ xs) zero x a e = let same : y ≡ x = cc in subst P same a.0
all_got P (y ∷ xs) (suc p) x a e = all_got P xs p x a.1 e

all_to : {X : Type 0} (P Q : X → Type 0) → ((x : X) → P x → Q x) → (xs : List X) → AllByRecursion P xs → AllByRecursion Q xs
all_to P Q to [] a = tt
all_to P Q to (x ∷ xs) a = (to x a.0, all_to P Q to xs a.1)

got_left : {X : Type 0} (xs ys : List X) (p : ℕ) → p < length xs → slice_get (xs ++ ys) p ≡ slice_get xs p
got_left [] ys p l = absurd (omega arith)
got_left (x ∷ xs) ys zero l = refl
got_left (x ∷ xs) ys (suc p) l = got_left xs ys p (omega arith)

got_last : {X : Type 0} (xs : List X) (x y : X) (p : ℕ) → length xs ≤ p → slice_get (xs ++ x ∷ []) p ≡ Some y → (p ≡ length xs) × (y ≡ x)
got_last [] x y zero l e = let same : y ≡ x = cc in (refl, same)
got_last [] x y (suc p) l e = absurd cc
got_last (z ∷ xs) x y zero l e = absurd (omega arith)
got_last (z ∷ xs) x y (suc p) l e = let r = got_last xs x y p (omega arith) e in (ap suc r.0, r.1)

-- ---- lines in order

abbrev IsBelow : Line → Line → Type 0
IsBelow x l = l.by.session ≡ x.by.session → l.by.command < x.by.command

order_push : (lines : List Line) (x : Line) → AreInOrder lines → AllByRecursion (IsBelow x) lines → AreInOrder (lines ++ x ∷ [])
order_push lines x o below p q a b l at_p at_q same =
    ⊎_elim
    (λ (u : q < length lines). o p q a b l (sym (got_left lines (x ∷ []) p (omega arith)) ∙ at_p) (sym (got_left lines (x ∷ []) q u) ∙ at_q) same)
    (λ (u : length lines ≤ q).
    let last = got_last lines x b q u at_q in
    let at_end : q ≡ length lines = last.0 in
    let b_is : b ≡ x = last.1 in
    let here : slice_get lines p ≡ Some a = sym (got_left lines (x ∷ []) p (omega arith)) ∙ at_p in
    let less : a.by.command < x.by.command = all_got (IsBelow x) lines p a below here (same ∙ ap (λ (l : Line). l.by.session) b_is) in
    subst (λ (l : Line). a.by.command < l.by.command) (sym b_is) less)
    (cases_lt q (length lines))

-- ---- what is told of the present life

abbrev open_lines : Stage → List Line → List Line
open_lines stages.Silent lines = lines
open_lines stages.Spoken lines = lines
open_lines stage lines = []

abbrev lines_told : Told → List Line
lines_told t = flat_map lines_in t.steps ++ open_lines t.stage t.lines

flat_append : (xs ys : List Step) → flat_map lines_in (xs ++ ys) ≡ flat_map lines_in xs ++ flat_map lines_in ys
flat_append [] ys = refl
flat_append (x ∷ xs) ys = ap (λ (l : List Line). lines_in x ++ l) (flat_append xs ys) ∙ sym (append_assoc (lines_in x) (flat_map lines_in xs) (flat_map lines_in ys))

-- between steps they are those of the steps
closed_lines : (stage : Stage) (t : Told) → begins_step stage ≡ true → flat_map lines_in (steps_told stage t) ≡ flat_map lines_in t.steps ++ open_lines stage t.lines
closed_lines stages.Steps t b = sym (append-nil (flat_map lines_in t.steps))
closed_lines stages.Spoken t b =
    flat_append t.steps (steps.Round t.round t.lines ∷ []) ∙ ap (λ (l : List Line). flat_map lines_in t.steps ++ l) (append-nil t.lines)
closed_lines stage t b = absurd cc

spoken_lines : (stage : Stage) (lines : List Line) → is_round stage ≡ true → open_lines stage lines ≡ lines
spoken_lines stages.Silent lines b = refl
spoken_lines stages.Spoken lines b = refl
spoken_lines stage lines b = absurd cc

no_lines : (stage : Stage) (lines : List Line) → (is_round stage ≡ true → ⊥) → open_lines stage lines ≡ []
no_lines stages.Silent lines b = absurd (b refl)
no_lines stages.Spoken lines b = absurd (b refl)
no_lines stage lines b = refl

not_opening : (stage : Stage) → is_opening stage ≡ true → is_round stage ≡ true → ⊥
not_opening stages.Opening a b = absurd cc
not_opening stage a b = absurd cc

not_between : (stage : Stage) → is_between stage ≡ true → is_round stage ≡ true → ⊥
not_between stages.Between a b = absurd cc
not_between stage a b = absurd cc

not_history : (stage : Stage) → is_history stage ≡ true → is_round stage ≡ true → ⊥
not_history stages.History a b = absurd cc
not_history stage a b = absurd cc

not_multis : (stage : Stage) → is_multis stage ≡ true → is_round stage ≡ true → ⊥
not_multis stages.Multis a b = absurd cc
not_multis stage a b = absurd cc

not_log : (stage : Stage) → is_log stage ≡ true → is_round stage ≡ true → ⊥
not_log stages.Log a b = absurd cc
not_log stage a b = absurd cc

abbrev IsCounted : List ℕ → Line → Type 0
IsCounted counts l = l.by.command ≤ get_or counts l.by.session 0

-- lines of the present life, with how many commands each session had
record AreSound (counts : List ℕ) (lines : List Line) : Type 0 where
  size : length counts ≡ 64
  order : AreInOrder lines
  counted : AllByRecursion (IsCounted counts) lines
  few : AllByRecursion (λ (l : Line). IsFew l.by) lines

record IsSound (t : Told) : Type 0 where
  lives : AllByRecursion IsNumbered t.lives
  present : AreSound t.counts (lines_told t)
  events : AllByRecursion (λ (e : Event). IsFew (by_of e)) t.events
  multis : AllByRecursion (λ (e : MultiEvent). IsFew (multi_by e)) t.multis

none_sound : AreSound no_counts []
unfolding no_counts
none_sound = record { size = refl; order = λ p q a b l at_p at_q same. absurd cc; counted = tt; few = tt }

-- a command more
sound_push : (counts : List ℕ) (lines : List Line) (x : Line) → AreSound counts lines → x.by.session < 64 → x.by.command ≡ get_or counts x.by.session 0 + 1 → AreSound (set counts x.by.session x.by.command) (lines ++ x ∷ [])
sound_push counts lines x s few next =
    let within : x.by.session < length counts = let z = s.size in omega arith in
    let now : get_or (set counts x.by.session x.by.command) x.by.session 0 ≡ x.by.command = get_or-set_same counts x.by.session x.by.command 0 within in
    let below : AllByRecursion (IsBelow x) lines =
    all_to (IsCounted counts) (IsBelow x)
    (λ (l : Line) (c : IsCounted counts l) (same : l.by.session ≡ x.by.session). let at = ap (λ k. get_or counts k 0) same in omega arith) lines s.counted in
    let counted : AllByRecursion (IsCounted (set counts x.by.session x.by.command)) lines =
    all_to (IsCounted counts) (IsCounted (set counts x.by.session x.by.command))
    (λ (l : Line) (c : IsCounted counts l).
    ⊎_elim
    (λ (own : (x.by.session == l.by.session) ≡ true).
    let same : x.by.session ≡ l.by.session = eqb-true x.by.session l.by.session own in
    let old : get_or counts l.by.session 0 ≡ get_or counts x.by.session 0 = ap (λ k. get_or counts k 0) (sym same) in
    let new : get_or (set counts x.by.session x.by.command) l.by.session 0 ≡ x.by.command = ap (λ k. get_or (set counts x.by.session x.by.command) k 0) (sym same) ∙ now in
    let m : l.by.command ≤ get_or (set counts x.by.session x.by.command) l.by.session 0 = omega arith in m)
    (λ (other : (x.by.session == l.by.session) ≡ false).
    let apart : l.by.session ≢ x.by.session = λ q. false≢true (sym other ∙ ap (λ y. y == l.by.session) (sym q) ∙ eqb-refl l.by.session) in
    let kept : get_or (set counts x.by.session x.by.command) l.by.session 0 ≡ get_or counts l.by.session 0 = get_or-set_other counts x.by.session l.by.session x.by.command 0 apart in
    let m : l.by.command ≤ get_or (set counts x.by.session x.by.command) l.by.session 0 = omega arith in m)
    (cases_Bool (x.by.session == l.by.session)))
    lines s.counted in
    let mine : IsCounted (set counts x.by.session x.by.command) x = omega arith in
    record {
      size = length-set counts x.by.session x.by.command ∙ s.size;
      order = order_push lines x s.order below;
      counted = all_append (IsCounted (set counts x.by.session x.by.command)) lines (x ∷ []) counted (mine, tt);
      few = all_append (λ (l : Line). IsFew l.by) lines (x ∷ []) s.few (few, tt);
    }

-- ---- line by line

named_few : (before names : List (List ℕ)) (session : ℕ) → IsNamed before session names → session < 64
named_few before names session n = let a = n.within in let b = n.few in omega arith

-- what is told otherwise of the lines so far is the same
still_sound : (counts : List ℕ) (a b : List Line) → b ≡ a → AreSound counts a → AreSound counts b
still_sound counts a b e s = subst (AreSound counts) (sym e) s

-- the life that ends
life_numbered : (t : Told) (crash : Option How) → IsSound t → (is_round t.stage ≡ true → ⊥) → IsNumbered (life_told t crash)
life_numbered t crash s closed =
    let lines : flat_map lines_in t.steps ≡ lines_told t = sym (append-nil (flat_map lines_in t.steps)) ∙ ap (λ (l : List Line). flat_map lines_in t.steps ++ l) (sym (no_lines t.stage t.lines closed)) in
    let present = still_sound t.counts (lines_told t) (flat_map lines_in t.steps) lines s.present in
    record { order = present.order; lines = present.few; events = s.events; multis = s.multis }

-- where no round is open, before and behind
kept_lines : (t : Told) → (is_round t.stage ≡ true → ⊥) → flat_map lines_in t.steps ++ [] ≡ lines_told t
kept_lines t closed = ap (λ (l : List Line). flat_map lines_in t.steps ++ l) (sym (no_lines t.stage t.lines closed))

no_round : (names : List (List ℕ)) (x : Step) → FitsStep names x → lines_in x ≡ []
no_round names (steps.Round number lines) f = absurd f
no_round names (steps.Checkpoint reply) f = refl
no_round names (steps.Dump what at length reply) f = refl

sound_none : (t : Told) → IsSound t → AreSound t.counts []
sound_none t s = record { size = s.present.size; order = λ p q a b l at_p at_q same. absurd cc; counted = tt; few = tt }

sound_after : (t : Told) (item : Item) (m : Told) → IsSound t → Follows t item m → IsSound (after t item)
sound_after t items.title m s f = record {
  lives = tt;
  present = still_sound t.counts (lines_told t) (flat_map lines_in t.steps ++ []) (kept_lines t (not_opening t.stage f.stands)) s.present;
  events = s.events;
  multis = s.multis;
}
sound_after t (items.life number start) m s f = record { lives = s.lives; present = none_sound; events = s.events; multis = s.multis }
sound_after t (items.round number) m s f = record {
  lives = s.lives;
  present = still_sound t.counts (lines_told t) (flat_map lines_in (steps_told t.stage t) ++ []) (append-nil (flat_map lines_in (steps_told t.stage t)) ∙ closed_lines t.stage t f.stands) s.present;
  events = s.events;
  multis = s.multis;
}
sound_after t (items.command l) m s f =
    let named = f.rule.0 in
    let few : l.by.session < 64 = named_few t.names m.names l.by.session named in
    let lines : flat_map lines_in t.steps ++ (t.lines ++ l ∷ []) ≡ lines_told t ++ l ∷ [] =
    sym (append_assoc (flat_map lines_in t.steps) t.lines (l ∷ []))
    ∙ ap (λ (x : List Line). (flat_map lines_in t.steps ++ x) ++ l ∷ []) (sym (spoken_lines t.stage t.lines f.stands)) in
    record {
      lives = s.lives;
      present = still_sound (set t.counts l.by.session l.by.command) (lines_told t ++ l ∷ []) (flat_map lines_in t.steps ++ (t.lines ++ l ∷ [])) lines (sound_push t.counts (lines_told t) l s.present few f.rule.2);
      events = s.events;
      multis = s.multis;
    }
sound_after t (items.step x) m s f =
    let lines : flat_map lines_in (steps_told t.stage t ++ x ∷ []) ++ [] ≡ lines_told t =
    append-nil (flat_map lines_in (steps_told t.stage t ++ x ∷ [])) ∙ flat_append (steps_told t.stage t) (x ∷ [])
    ∙ ap (λ (l : List Line). flat_map lines_in (steps_told t.stage t) ++ l) (append-nil (lines_in x) ∙ no_round m.names x f.rule.2)
    ∙ append-nil (flat_map lines_in (steps_told t.stage t)) ∙ closed_lines t.stage t f.stands in
    record {
      lives = s.lives;
      present = still_sound t.counts (lines_told t) (flat_map lines_in (steps_told t.stage t ++ x ∷ []) ++ []) lines s.present;
      events = s.events;
      multis = s.multis;
    }
sound_after t items.history m s f = record {
  lives = s.lives;
  present = still_sound t.counts (lines_told t) (flat_map lines_in (steps_told t.stage t) ++ []) (append-nil (flat_map lines_in (steps_told t.stage t)) ∙ closed_lines t.stage t f.stands) s.present;
  events = tt;
  multis = s.multis;
}
sound_after t (items.event e) m s f = record {
  lives = s.lives;
  present = s.present;
  events = all_append (λ (e : Event). IsFew (by_of e)) t.events (e ∷ []) s.events (named_few t.names m.names (by_of e).session f.rule.0, tt);
  multis = s.multis;
}
sound_after t items.multis m s f = record {
  lives = s.lives;
  present = still_sound t.counts (lines_told t) (flat_map lines_in t.steps ++ []) (kept_lines t (not_history t.stage f.stands)) s.present;
  events = s.events;
  multis = tt;
}
sound_after t (items.multi e) m s f = record {
  lives = s.lives;
  present = s.present;
  events = s.events;
  multis = all_append (λ (e : MultiEvent). IsFew (multi_by e)) t.multis (e ∷ []) s.multis
      (named_few t.names m.names (multi_by e).session f.rule.0, tt);
}
sound_after t (items.log l) m s f = record {
  lives = s.lives;
  present = still_sound t.counts (lines_told t) (flat_map lines_in t.steps ++ []) (kept_lines t (not_multis t.stage f.stands)) s.present;
  events = s.events;
  multis = s.multis;
}
sound_after t (items.logged number r) m s f = record { lives = s.lives; present = s.present; events = s.events; multis = s.multis }
sound_after t (items.crash how) m s f = record {
  lives = all_append IsNumbered t.lives (life_told t (Some how) ∷ []) s.lives (life_numbered t (Some how) s (not_log t.stage f.stands), tt);
  present = sound_none t s;
  events = tt;
  multis = tt;
}
sound_after t items.last m s f = record {
  lives = all_append IsNumbered t.lives (life_told t None ∷ []) s.lives (life_numbered t None s (not_log t.stage f.stands), tt);
  present = sound_none t s;
  events = tt;
  multis = tt;
}

-- its names don't matter
sound_next : (t : Told) (item : Item) (m : Told) → IsSound t → Follows t item m → IsSound m
sound_next t item m s f =
    let a = sound_after t item m s f in
    subst IsSound (sym f.told) (record { lives = a.lives; present = a.present; events = a.events; multis = a.multis })

sound_run : (t : Told) (ps : List (Item × Told)) (last : Told) → IsSound t → IsRun t ps last → IsSound last
sound_run t [] last s r = subst IsSound r s
sound_run t (p ∷ ps) last s r = sound_run p.1 ps last (sound_next t p.0 p.1 s r.0) r.1

sound_start : IsSound nothing_told
unfolding nothing_told
sound_start = record { lives = tt; present = none_sound; events = tt; multis = tt }

pub lives_numbered : (r : Report) → IsReport r → AllByRecursion IsNumbered r.lives
lives_numbered r i = subst (λ (x : Report). AllByRecursion IsNumbered x.lives) (sym i.told) (sound_run nothing_told i.run i.last sound_start i.goes).lives
