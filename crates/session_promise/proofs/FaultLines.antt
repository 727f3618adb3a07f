-- A session was told of no more faults of a volume than its lock's list has: an entry names the session once, and each
-- of its lines is of a command of its own.
use Rattle.std.proofs.Common.{Bool, List, None, Option, Some, [], ap, arith, cond, eqb-true, false, inl, inr, length, map, min, not, refl, subst, suc, sym, true, ℕ, ⊎_elim, ◌+◌, ◌-◌, ◌<◌, ◌==◌, ◌^◌, ◌||◌, ◌∙◌, ◌∷◌, ◌≡◌, ◌≤◌, ◌⊎◌}
use Rattle.std.specs.List.{cons_option, count_by, filter, list_any, slice_get}
use Rattle.std.proofs.lemmas.Bool.{false≢true}
use Rattle.std.proofs.lemmas.List.Sums.{sum_by-cons}
use Rattle.notes.specs.Lists.{at}
use Rattle.tx_events.specs.declared.event.By.{By}
use Rattle.tx_events.specs.declared.refusal.Lock.{Lock}
use Rattle.tx_events.specs.declared.refusal.Refusal.TheVariants as refusals
use Rattle.tx_events.specs.Events.{same_by}
use Rattle.tx_events.specs.Places.{first_seen}
use Rattle.tx_events.proofs.ListSteps.{eqb-refl}
use Rattle.tx_events.proofs.Membership.{Has, any_has, contains_has, has_any, has_filter, map_has, place_has}
use Rattle.tx_events.proofs.OwnEvents.{same_by_refl}
use Rattle.tx_model.specs.declared.reply.Reply.{Reply}
use Rattle.tx_model.specs.declared.reply.Reply.TheVariants as replies
use Rattle.tx_model.specs.declared.report.Line.{Line}
use Rattle.tx_model.specs.Lines.{is_line_of, stance}
use Rattle.tx_core.specs.declared.entry.Entry.{Entry}
use Rattle.tx_core.specs.declared.entry.Kind.{Kind}
use Rattle.tx_core.specs.declared.entry.Kind.TheVariants as kinds
use Rattle.tx_core.specs.declared.entry.LogCall.TheVariants as calls
use Rattle.tx_core.specs.declared.entry.Start.{Start}
use Rattle.tx_core.specs.Entries.{history}
use Rattle.tx_core.specs.FaultsRise.{count_in, counts_in, faults_at, faults_told}
use Rattle.tx_core.specs.Locks.{log_lock, number_of}
use Rattle.tx_core.specs.ProgramOrder.{MayStand}
use Rattle.tx_core.proofs.FaultCounts.{faults_counted}
use Rattle.engine_parts.specs.Answers.{MetFault, MetLogFault}
use Rattle.tx_model.specs.Stance.{Stance}
use Rattle.session_promise.specs.Promise.{MayAnswerIn}
use Rattle.session_promise.proofs.Devices.{fault_met, log_fault_met}
use Rattle.session_promise.specs.Causes.{FaultsAreTold, failed_volume, faults_in, is_behind}
use Rattle.session_promise.specs.Closing.{IsOver}
use Rattle.session_promise.specs.Told.{Span, ToldRound, all_lines, lines_by}
use Rattle.session_promise.proofs.OneFault.{known, none_counts, numbered, once_counts, one_if, told_line}
use Rattle.session_promise.proofs.Sides.{same_is}

-- ---- counts

fewer_one : (a b : Bool) → (a ≡ true → b ≡ true) → one_if a ≤ one_if b
fewer_one true b f = let e : one_if b ≡ 1 = ap one_if (f refl) in omega (arith, e)
fewer_one false b f = omega arith

-- where all that pass the first test pass the second
fewer_counts : {X : Type 0} (p q : X → Bool) (xs : List X) → ((x : X) → Has xs x → p x ≡ true → q x ≡ true) → count_by p xs ≤ count_by q xs
fewer_counts p q [] f = omega arith
fewer_counts {X = X} p q (x ∷ xs) f =
    let one : count_by p (x ∷ xs) ≡ one_if (p x) + count_by p xs = sum_by-cons (λ (y : X). one_if (p y)) x xs in
    let two : count_by q (x ∷ xs) ≡ one_if (q x) + count_by q xs = sum_by-cons (λ (y : X). one_if (q y)) x xs in
    let rest = fewer_counts p q xs (λ y h. f y (inr h)) in
    let here = fewer_one (p x) (q x) (f x (inl refl)) in
    omega (arith, one, two, rest, here)

either_one : (a b : Bool) → one_if (a || b) ≤ one_if a + one_if b
either_one true b = omega arith
either_one false b = omega arith

-- of those that pass one of two tests
either_counts : {X : Type 0} (p q r : X → Bool) (xs : List X) → ((x : X) → r x ≡ (p x || q x)) → count_by r xs ≤ count_by p xs + count_by q xs
either_counts p q r [] is = omega arith
either_counts {X = X} p q r (x ∷ xs) is =
    let all : count_by r (x ∷ xs) ≡ one_if (r x) + count_by r xs = sum_by-cons (λ (y : X). one_if (r y)) x xs in
    let one : count_by p (x ∷ xs) ≡ one_if (p x) + count_by p xs = sum_by-cons (λ (y : X). one_if (p y)) x xs in
    let two : count_by q (x ∷ xs) ≡ one_if (q x) + count_by q xs = sum_by-cons (λ (y : X). one_if (q y)) x xs in
    let rest = either_counts p q r xs is in
    let same : one_if (r x) ≡ one_if (p x || q x) = ap one_if (is x) in
    let here = either_one (p x) (q x) in
    omega (arith, all, one, two, rest, same, here)

-- ---- the callers of a fault are of different sessions

-- no number stands twice
abbrev Apart : List ℕ → Type 0
Apart [] = Unit {0}
Apart (x ∷ xs) = (Has xs x → ⊥) × Apart xs

apart_filter : (p : ℕ → Bool) (xs : List ℕ) → Apart xs → Apart (filter p xs)
apart_filter p [] a = tt
apart_filter p (x ∷ xs) a = step (p x) (apart_filter p xs a.1)
  where
    step : (b : Bool) → Apart (filter p xs) → Apart (cond b (x ∷ filter p xs) (filter p xs))
    step true rest = ((λ h. a.0 (has_filter p xs x h).0), rest)
    step false rest = rest

apart_seen : (xs : List ℕ) → Apart (first_seen xs)
apart_seen [] = tt
apart_seen (x ∷ xs) = (
  (λ h. false≢true (sym (ap not (eqb-refl x)) ∙ (has_filter (λ y. not (y == x)) (first_seen xs) x h).1)),
  apart_filter (λ y. not (y == x)) (first_seen xs) (apart_seen xs),
)

abbrev sessions : List By → List ℕ
sessions callers = map (λ (c : By). c.session) callers

one_caller : (callers : List By) → Apart (sessions callers) → (a b : By) → Has callers a → Has callers b → a.session ≡ b.session → a ≡ b
one_caller [] apart a b first second same = absurd first
one_caller (c ∷ callers) apart a b first second same =
    ⊎_elim
    (λ (q : c ≡ a). ⊎_elim
    (λ (r : c ≡ b). sym q ∙ r)
    (λ (k : Has callers b). absurd (apart.0 (subst (λ n. Has (sessions callers) n) (sym same ∙ ap (λ (d : By). d.session) (sym q)) (map_has (λ (d : By). d.session) callers b k)))) second)
    (λ (h : Has callers a). ⊎_elim
    (λ (r : c ≡ b). absurd (apart.0 (subst (λ n. Has (sessions callers) n) (same ∙ ap (λ (d : By). d.session) (sym r)) (map_has (λ (d : By). d.session) callers a h))))
    (λ (k : Has callers b). one_caller callers apart.1 a b h k same) second)
    first

-- ---- the commands that an entry hits

abbrev hits : By → Kind → By → Bool
hits by (kinds.Fault callers changes cut count) met = list_any (same_by met) callers
hits by (kinds.LogFault asked count) met = same_by met by
hits by kind met = false

-- one of the entries hits the line's command
abbrev hit_in : List Entry → Line → Bool
hit_in es l = list_any (λ (e : Entry). hits e.by e.kind l.by) es

met_hit : (lists : List (List Entry)) (lock : ℕ) (l : Line) → MetFault lists lock l.by → hit_in (at lists lock) l ≡ true
met_hit lists lock l m =
    let e : Entry = record { by = m.adder; kind = kinds.Fault m.callers m.changes m.cut m.count } in
    any_has (λ (d : Entry). hits d.by d.kind l.by) (at lists lock) e (contains_has (at lists lock) e m.stands)
    (any_has (same_by l.by) m.callers l.by (contains_has m.callers l.by m.hit) (same_by_refl l.by))

met_log_hit : (lists : List (List Entry)) (l : Line) → MetLogFault lists l.by → hit_in (at lists log_lock) l ≡ true
met_log_hit lists l m =
    let e : Entry = record { by = l.by; kind = kinds.LogFault calls.Flush m.count } in
    any_has (λ (d : Entry). hits d.by d.kind l.by) (at lists log_lock) e (contains_has (at lists log_lock) e m.stands) (same_by_refl l.by)

none_hit : (lines : List Line) → count_by (λ (l : Line). false) lines ≤ 0
none_hit lines = let none = none_counts (λ (l : Line). false) lines (λ l h t. false≢true t) in omega (arith, none)

-- with the count of one entry more
cons_length : (o : Option ℕ) (xs : List ℕ) → length (cons_option o xs) ≡ length (cons_option o []) + length xs
cons_length None xs = omega arith
cons_length (Some x) xs = omega arith

-- lines of one session, numbered from 1
module _ (n : ℕ) (lines : List Line) (own : (l : Line) → Has lines l → l.by.session ≡ n) (in_turn : (place : ℕ) (l : Line) → slice_get lines place ≡ Some l → l.by.command ≡ place + 1) where
  -- where all commands of the session that pass are one
  one_line : (p : By → Bool) → ((a b : By) → a.session ≡ b.session → p a ≡ true → p b ≡ true → a ≡ b) → count_by (λ (l : Line). p l.by) lines ≤ 1
  one_line p same = step (list_any (λ (l : Line). p l.by) lines) refl
    where
      step : (b : Bool) → list_any (λ (l : Line). p l.by) lines ≡ b → count_by (λ (l : Line). p l.by) lines ≤ 1
      step false q =
          let none = none_counts (λ (l : Line). p l.by) lines (λ l h t. false≢true (sym q ∙ any_has (λ (l : Line). p l.by) lines l h t)) in
          omega (arith, none)
      step true q =
          let f = has_any (λ (l : Line). p l.by) lines q in
          once_counts (λ (l : Line). p l.by) lines (f.0.by.command - 1) (λ place l e t.
          let number = in_turn place l e in
          let both = ap (λ (b : By). b.command) (same l.by f.0.by (own l (place_has lines place l e) ∙ sym (own f.0 f.1)) t f.2) in
          omega (arith, number, both))

  -- an entry hits at most as many of them as it tells counts
  by_kind : (start : Start) (lock : ℕ) (by : By) (kind : Kind) → MayStand start lock by kind → count_by (λ (l : Line). hits by kind l.by) lines ≤ length (cons_option (count_in kind) [])
  by_kind start lock by (kinds.Fault callers changes cut count) stands =
      one_line (λ (met : By). list_any (same_by met) callers) (λ a b same t u.
      let c = has_any (same_by a) callers t in
      let d = has_any (same_by b) callers u in
      let a_is = same_is a c.0 c.2 in
      let b_is = same_is b d.0 d.2 in
      a_is
      ∙ (one_caller callers (subst Apart stands.1.once (apart_seen (sessions callers))) c.0 d.0 c.1 d.1 (ap (λ (x : By). x.session) (sym a_is) ∙ (same ∙ ap (λ (x : By). x.session) b_is))
      ∙ sym b_is))
  by_kind start lock by (kinds.LogFault asked count) stands =
      one_line (λ (met : By). same_by met by) (λ a b same t u. same_is a by t ∙ sym (same_is b by u))
  by_kind start lock by kind stands = none_hit lines

  -- and so do all entries of a list
  hit_few : (start : Start) (lock : ℕ) (es : List Entry) → ((p : ℕ) (e : Entry) → slice_get es p ≡ Some e → MayStand start lock e.by e.kind) → count_by (hit_in es) lines ≤ length (counts_in es)
  hit_few start lock [] stand = none_hit lines
  hit_few start lock (e ∷ es) stand =
      let here = by_kind start lock e.by e.kind (stand 0 e refl) in
      let rest = hit_few start lock es (λ p d there. stand (suc p) d there) in
      let all : count_by (hit_in (e ∷ es)) lines ≤ count_by (λ (l : Line). hits e.by e.kind l.by) lines + count_by (hit_in es) lines = either_counts (λ (l : Line). hits e.by e.kind l.by) (hit_in es) (hit_in (e ∷ es)) lines (λ l. refl) in
      let more : length (counts_in (e ∷ es)) ≡ length (cons_option (count_in e.kind) []) + length (counts_in es) = cons_length (count_in e.kind) (counts_in es) in
      omega (arith, here, rest, all, more)

-- ---- what a reply says

-- the reply says that the volume behind the lock failed: a bank's, or the log's
abbrev SaysFault : ℕ → Reply → Type 0
SaysFault lock reply =
    ((met : Lock) × (number_of met ≡ lock) × (reply ≡ replies.Refused (refusals.DiskFault met)))
    ⊎ ((log_lock ≡ lock) × (reply ≡ replies.Refused refusals.LogFault))

fault_said : (lock : ℕ) (reply : Reply) → is_behind lock (failed_volume reply) ≡ true → SaysFault lock reply
fault_said lock (replies.Refused (refusals.DiskFault met)) t = inl (met, eqb-true (number_of met) lock t, refl)
fault_said lock (replies.Refused refusals.LogFault) t = inr (eqb-true log_lock lock t, refl)
fault_said lock reply t = absurd (false≢true t)

-- ---- the lines of a life

module _ (tells : Bool) (start : Start) (lists : List (List Entry)) (rounds : List ToldRound) (over : IsOver tells start lists rounds) where
  abbrev all : List Line
  all = all_lines rounds

  -- the list of the lock has the fault that the line tells
  line_hit : (lock : ℕ) (l : Line) → Has all l → is_behind lock (failed_volume l.reply) ≡ true → hit_in (at lists lock) l ≡ true
  line_hit lock l h t =
      let told = told_line tells start lists rounds over l h in
      let how : Stance = stance (history lists) told.before l.by.session in
      let begun = told.well.begun in
      let span : Span = told.told.span in
      let stage = told.well.stage in
      let answer : MayAnswerIn tells start begun lists span l.by how stage l.command l.reply
      = subst (λ (x : Line). MayAnswerIn tells start begun lists span x.by how stage x.command x.reply) told.line told.well.answer in
      ⊎_elim
      (λ (k : (met : Lock) × (number_of met ≡ lock) × (l.reply ≡ replies.Refused (refusals.DiskFault met))).
      let met = fault_met tells start begun lists span l.by how stage l.command k.0 (subst (λ (reply : Reply). MayAnswerIn tells start begun lists span l.by how stage l.command reply) k.2 answer) in
      met_hit lists lock l (subst (λ n. MetFault lists n l.by) k.1 met))
      (λ (k : (log_lock ≡ lock) × (l.reply ≡ replies.Refused refusals.LogFault)).
      let met = log_fault_met tells start begun lists span l.by how stage l.command (subst (λ (reply : Reply). MayAnswerIn tells start begun lists span l.by how stage l.command reply) k.1 answer) in
      subst (λ n. hit_in (at lists n) l ≡ true) k.0 (met_log_hit lists l met))
      (fault_said lock l.reply t)

  told_few : (n lock : ℕ) → faults_in lock (lines_by n all) ≤ length (counts_in (at lists lock))
  told_few n lock =
      let lines = lines_by n all in
      let mine : (l : Line) → Has lines l → Has all l × (is_line_of n l ≡ true) = λ l h. has_filter (is_line_of n) all l h in
      let own : (l : Line) → Has lines l → l.by.session ≡ n = λ l h. eqb-true l.by.session n (mine l h).1 in
      let in_turn : (place : ℕ) (l : Line) → slice_get lines place ≡ Some l → l.by.command ≡ place + 1
      = λ place l e. let h = place_has lines place l e in
      numbered tells start lists rounds over n place l (subst (λ k. k < start.sessions) (own l h) (told_known l (mine l h).0)) e in
      let fewer = fewer_counts (λ (l : Line). is_behind lock (failed_volume l.reply)) (hit_in (at lists lock)) lines (λ l h t. line_hit lock l (mine l h).0 t) in
      let few = hit_few n lines own in_turn start lock (at lists lock) (λ p e there. over.kept.order.stand.each lock p e there) in
      omega (arith, fewer, few)
    where
      told_known : (l : Line) → Has all l → l.by.session < start.sessions
      told_known l h = known tells start lists rounds over l h

fewer_rise : (first told now few : ℕ) → few ≤ told → min (first + told) (2 ^ 64 - 1) ≤ now → min (first + few) (2 ^ 64 - 1) ≤ now
fewer_rise first told now few less up = grind arith

pub faults_are_told : FaultsAreTold
faults_are_told tells start lists rounds session lock over =
    fewer_rise (faults_at start lock) (length (counts_in (at lists lock))) (faults_told start lock (at lists lock)) (faults_in lock (lines_by session (all_lines rounds)))
    (told_few tells start lists rounds over session lock) (faults_counted start lists lock over.kept)
