-- One command alone is told that the log's volume failed: the log goes down once, and stays down.
use Rattle.std.proofs.Common.{Bool, List, Some, [], ap, arith, cond, false, length, refl, subst, suc, sym, take, true, zero, ℕ, ⊎_elim, ◌&&◌, ◌+◌, ◌-◌, ◌<◌, ◌==◌, ◌∷◌, ◌≡◌, ◌≤◌, ◌∙◌}
use Rattle.std.specs.List.{count_by, filter, list_any, slice_get}
use Rattle.std.proofs.lemmas.Bool.{false_from_ne_true, false≢true}
use Rattle.std.proofs.lemmas.List.Sums.{length-filter, sum_by-cons}
use Rattle.std.proofs.lemmas.Option.{same_Some}
use Rattle.notes.specs.Lists.{at}
use Rattle.tx_events.specs.declared.event.By.{By}
use Rattle.tx_events.specs.declared.refusal.Refusal.TheVariants as refusals
use Rattle.tx_events.proofs.ListSteps.{eqb-refl, filter_in_turn, le_or_over}
use Rattle.tx_events.proofs.Membership.{Has, all_at, any_has, contains_has, filter_agree_on, filter_has, filter_none_on, has_any, has_filter, has_map, has_place, place_has}
use Rattle.tx_model.specs.declared.reply.Reply.{Reply}
use Rattle.tx_model.specs.declared.reply.Reply.TheVariants as replies
use Rattle.tx_model.specs.declared.report.Line.{Line}
use Rattle.tx_model.specs.Lines.{is_line_of, stance}
use Rattle.life_law.specs.Facts.{is_log_fault, log_faults}
use Rattle.tx_core.specs.declared.entry.Entry.{Entry}
use Rattle.tx_core.specs.declared.entry.Kind.{Kind}
use Rattle.tx_core.specs.declared.entry.Kind.TheVariants as kinds
use Rattle.tx_core.specs.declared.entry.Start.{Start}
use Rattle.tx_core.specs.EngineInvariant.{EngineInvariant}
use Rattle.tx_core.specs.Entries.{history}
use Rattle.tx_core.specs.Locks.{log_lock}
use Rattle.tx_core.specs.StaysDown.{IsUp, UpOf, is_put_down}
use Rattle.tx_core.proofs.Taking.{get_in_take}
use Rattle.engine_parts.specs.Answers.{MetLogFault}
use Rattle.tx_model.specs.Stance.{Stance}
use Rattle.engine_parts.specs.Faults.{flush_fault_by}
use Rattle.session_promise.specs.Closing.{IsOver}
use Rattle.session_promise.specs.Promise.{IsToldWell, MayAnswerIn}
use Rattle.session_promise.proofs.Devices.{log_fault_met}
use Rattle.session_promise.specs.Told.{Told, ToldRound, all_lines, lines_by, lines_of, told_by}
use Rattle.session_promise.proofs.Telling.{lines_told}

-- ---- lists

pub none_counts : {X : Type 0} (p : X → Bool) (xs : List X) → ((x : X) → Has xs x → p x ≡ true → ⊥) → count_by p xs ≡ 0
none_counts p xs none = sym (length-filter p xs) ∙ ap length (filter_none_on p xs (λ x h. false_from_ne_true (p x) (none x h)))

abbrev pub one_if : Bool → ℕ
one_if b = cond b 1 0

-- where all that pass stand at one place
pub once_counts : {X : Type 0} (p : X → Bool) (xs : List X) (place : ℕ) → ((i : ℕ) (x : X) → slice_get xs i ≡ Some x → p x ≡ true → i ≡ place) → count_by p xs ≤ 1
once_counts p [] place only = omega arith
once_counts {X = X} p (x ∷ xs) place only = step (p x) refl (once_counts p xs (place - 1))
  where
    counts : count_by p (x ∷ xs) ≡ one_if (p x) + count_by p xs
    counts = sum_by-cons (λ (y : X). one_if (p y)) x xs

    step : (b : Bool) → p x ≡ b → (((i : ℕ) (y : X) → slice_get xs i ≡ Some y → p y ≡ true → i ≡ place - 1) → count_by p xs ≤ 1) → count_by p (x ∷ xs) ≤ 1
    step true q others =
        let first = only 0 x refl q in
        let rest = none_counts p xs (λ y h t. let there = has_place xs y h in let later = only (suc there.0) y there.1 t in omega (arith, first, later)) in
        let one : one_if (p x) ≡ 1 = ap one_if q in
        let c = counts in
        omega (arith, rest, one, c)
    step false q others =
        let rest = others (λ i y e t. let later = only (suc i) y e t in omega (arith, later)) in
        let none : one_if (p x) ≡ 0 = ap one_if q in
        let c = counts in
        omega (arith, rest, none, c)

-- where all that pass this test pass another
counts_within : {X : Type 0} (p q : X → Bool) (xs : List X) → ((x : X) → Has xs x → p x ≡ true → q x ≡ true) → count_by p xs ≡ count_by p (filter q xs)
counts_within {X = X} p q xs within =
    sym (length-filter p xs)
    ∙ (ap length (filter_agree_on p (λ x. q x && p x) xs (λ x h. both (q x) (p x) (within x h)) ∙ filter_in_turn q p xs)
    ∙ length-filter p (filter q xs))
  where
    both : (a b : Bool) → (b ≡ true → a ≡ true) → b ≡ (a && b)
    both true b f = refl
    both false true f = absurd (false≢true (f refl))
    both false false f = refl

-- ---- the log goes down once

module _ (start : Start) (lists : List (List Entry)) (k : EngineInvariant start lists) where
  abbrev es : List Entry
  es = at lists log_lock

  up_of : (before : List Entry) (kind : Kind) → is_put_down kind ≡ true → UpOf before kind → IsUp before
  up_of before (kinds.LogFault asked count) t u = u t
  up_of before kind t u = absurd (false≢true t)

  -- a fault that puts the log down stands behind no other
  not_behind : (p q : ℕ) (a b : Entry) → slice_get es p ≡ Some a → slice_get es q ≡ Some b → is_put_down a.kind ≡ true → is_put_down b.kind ≡ true → p < q → ⊥
  not_behind p q a b at_p at_q down_a down_b low =
      let before : Has (take q es) a = place_has (take q es) p a (get_in_take q p es a low at_p) in
      let up = up_of (take q es) b.kind down_b (k.down.each.each log_lock q b at_q) in
      false≢true (sym up ∙ any_has (λ (e : Entry). is_put_down e.kind) (take q es) a before down_a)

  pub down_place : (p q : ℕ) (a b : Entry) → slice_get es p ≡ Some a → slice_get es q ≡ Some b → is_put_down a.kind ≡ true → is_put_down b.kind ≡ true → p ≡ q
  down_place p q a b at_p at_q down_a down_b = ⊎_elim
      (λ (upto : p ≤ q). ⊎_elim
      (λ (back : q ≤ p). omega (arith, upto, back))
      (λ (below : p < q). absurd (not_behind p q a b at_p at_q down_a down_b below))
      (le_or_over q p))
      (λ (above : q < p). absurd (not_behind q p b a at_q at_p down_b down_a above))
      (le_or_over p q)

  -- so there is one at most
  pub down_entry : (a b : Entry) → Has es a → Has es b → is_put_down a.kind ≡ true → is_put_down b.kind ≡ true → a ≡ b
  down_entry a b there here down_a down_b =
      let p = has_place es a there in
      let q = has_place es b here in
      same_Some a b (sym p.1 ∙ (ap (λ z. slice_get es z) (down_place p.0 q.0 a b p.1 q.1 down_a down_b) ∙ q.1))

-- ---- the lines of a session

-- the line stands at this place of what was told, behind so many
record IsToldAt (told : List Told) (place : ℕ) (l : Line) : Type 0 where
  was : Told
  at : slice_get told place ≡ Some was
  line : was.line ≡ l
  behind : length (lines_of (take place told)) ≡ place

told_at : (told : List Told) (place : ℕ) (l : Line) → slice_get (lines_of told) place ≡ Some l → IsToldAt told place l
told_at [] place l e = absurd cc
told_at (t ∷ told) zero l e = record { was = t; at = refl; line = same_Some t.line l e; behind = refl }
told_at (t ∷ told) (suc place) l e = let r = told_at told place l e in record { was = r.was; at = r.at; line = r.line; behind = ap suc r.behind }

fault_is : (reply : Reply) → is_log_fault reply ≡ true → reply ≡ replies.Refused refusals.LogFault
fault_is (replies.Refused refusals.LogFault) t = refl
fault_is reply t = absurd (false≢true t)

-- the line was told by its session, behind these of its lines
pub record IsTold (tells : Bool) (start : Start) (lists : List (List Entry)) (l : Line) : Type 0 where
  pub before : List Line
  pub told : Told
  pub line : told.line ≡ l
  pub well : IsToldWell tells start lists l.by.session before told

module _ (tells : Bool) (start : Start) (lists : List (List Entry)) (rounds : List ToldRound) (over : IsOver tells start lists rounds) where
  abbrev all : List Line
  all = all_lines rounds

  pub known : (l : Line) → Has all l → l.by.session < start.sessions
  known l h = all_at (λ (l : Line). l.by.session < start.sessions) all l over.lines h

  pub told_line : (l : Line) → Has all l → IsTold tells start lists l
  told_line l h =
      let n : ℕ = l.by.session in
      let mine : Has (lines_by n all) l = filter_has (is_line_of n) all l h (eqb-refl n) in
      let t = has_map (λ (t : Told). t.line) (told_by n rounds) l (subst (λ ls. Has ls l) (sym (lines_told n rounds)) mine) in
      let p = has_place (told_by n rounds) t.0 t.1 in
      record { before = lines_of (take p.0 (told_by n rounds)); told = t.0; line = t.2; well = (over.each n (known l h)).1.each p.0 t.0 p.1 }

  -- the session's lines are numbered from 1
  pub numbered : (n place : ℕ) (l : Line) → n < start.sessions → slice_get (lines_by n all) place ≡ Some l → l.by.command ≡ place + 1
  numbered n place l low e =
      let t = told_at (told_by n rounds) place l (subst (λ ls. slice_get ls place ≡ Some l) (sym (lines_told n rounds)) e) in
      let well = (over.each n low).1.each place t.was t.at in
      ap (λ (x : Line). x.by.command) (sym t.line) ∙ (well.number ∙ ap (λ z. z + 1) t.behind)

  pub met : (l : Line) → Has all l → is_log_fault l.reply ≡ true → MetLogFault lists l.by
  met l h fault =
      let t = told_line l h in
      let how : Stance = stance (history lists) t.before l.by.session in
      let answer : MayAnswerIn tells start t.well.begun lists t.told.span t.told.line.by how t.well.stage t.told.line.command (replies.Refused refusals.LogFault)
      = subst (λ (reply : Reply). MayAnswerIn tells start t.well.begun lists t.told.span t.told.line.by how t.well.stage t.told.line.command reply) (ap (λ (x : Line). x.reply) t.line ∙ fault_is l.reply fault) t.well.answer in
      subst (MetLogFault lists) (ap (λ (x : Line). x.by) t.line) (log_fault_met tells start t.well.begun lists t.told.span t.told.line.by how t.well.stage t.told.line.command answer)

  one_line : (l m : Line) → Has all l → Has all m → is_log_fault l.reply ≡ true → is_log_fault m.reply ≡ true → l.by ≡ m.by
  one_line l m here there said told =
      let a = met l here said in
      let b = met m there told in
      ap (λ (e : Entry). e.by) (down_entry start lists over.kept (flush_fault_by l.by a.count) (flush_fault_by m.by b.count)
      (contains_has (at lists log_lock) (flush_fault_by l.by a.count) a.stands) (contains_has (at lists log_lock) (flush_fault_by m.by b.count) b.stands) refl refl)

  pub faults_once : log_faults all ≤ 1
  faults_once = step (list_any (λ (l : Line). is_log_fault l.reply) all) refl
    where
      step : (b : Bool) → list_any (λ (l : Line). is_log_fault l.reply) all ≡ b → log_faults all ≤ 1
      step false q =
          let none = none_counts (λ (l : Line). is_log_fault l.reply) all (λ l h t. false≢true (sym q ∙ any_has (λ (l : Line). is_log_fault l.reply) all l h t)) in
          omega (arith, none)
      step true q =
          let f = has_any (λ (l : Line). is_log_fault l.reply) all q in
          let n : ℕ = f.0.by.session in
          let mine = counts_within (λ (l : Line). is_log_fault l.reply) (is_line_of n) all (λ l h t. ap (λ (b : By). b.session == n) (one_line l f.0 h f.1 t f.2) ∙ eqb-refl n) in
          let one = once_counts (λ (l : Line). is_log_fault l.reply) (lines_by n all) (f.0.by.command - 1) (λ place l e t.
          let h = (has_filter (is_line_of n) all l (place_has (lines_by n all) place l e)).0 in
          let number = numbered n place l (known f.0 f.1) e in
          let same = ap (λ (b : By). b.command) (one_line l f.0 h f.1 t f.2) in
          omega (arith, number, same)) in
          omega (arith, mine, one)
