-- The faults at which the host put the log down are told by checkpoints, and one at most is told by any step.
use Rattle.std.proofs.Common.{Bool, inl, List, [], ap, arith, cond, eq-eqb, eqb-true, false, refl, subst, sym, true, ℕ, ⊎_elim, ◌<◌, ◌==◌, ◌||◌, ◌∷◌, ◌≡◌, ◌≤◌, ◌∙◌, IsTrue}
use Rattle.std.specs.List.{count_by, filter, flat_map, list_any}
use Rattle.std.proofs.lemmas.Bool.{false≢true, or_left}
use Rattle.std.proofs.Math.Bool.{or-true}
use Rattle.std.proofs.lemmas.List.Sums.{length-filter, sum_by-cons}
use Rattle.std.proofs.lemmas.Option.{slice_get_within}
use Rattle.notes.specs.Lists.{at}
use Rattle.tx_events.proofs.ListSteps.{le_or_over}
use Rattle.tx_events.proofs.Membership.{Has, any_has, contains_has, filter_has, has_any, has_contains, has_filter, has_place, has_right}
use Rattle.tx_model.specs.declared.report.Line.{Line}
use Rattle.tx_model.specs.declared.report.Step.{Step}
use Rattle.tx_model.specs.Lines.{is_line_of}
use Rattle.tx_model.specs.Rounds.{lines_in}
use Rattle.life_law.specs.Facts.{has_failed_log, has_log_fault, is_checkpoint_fault, is_log_fault, log_faults, log_faults_in}
use Rattle.tx_core.specs.declared.entry.Entry.{Entry}
use Rattle.tx_core.specs.declared.entry.Kind.TheVariants as kinds
use Rattle.tx_core.specs.declared.entry.Start.{Start}
use Rattle.tx_core.specs.Consequences.{IsHosts}
use Rattle.tx_core.specs.Entries.{session_of}
use Rattle.tx_core.specs.Locks.{log_lock}
use Rattle.tx_core.proofs.Opening.{sessions_known}
use Rattle.engine_parts.specs.Faults.{flush_fault_by}
use Rattle.engine_parts.specs.Stand.{IsDownAt}
use Rattle.session_promise.specs.Checkpoints.{AreCheckpointsTold, hosts_entries, is_down_fault}
use Rattle.session_promise.specs.Closing.{IsOver}
use Rattle.session_promise.specs.Told.{ToldRound, all_lines, lines_by}
use Rattle.session_promise.proofs.OneFault.{down_entry, down_place, faults_once, known, met, none_counts, once_counts, one_if}
use Rattle.session_promise.proofs.Telling.{lines_told}

-- ---- lists

counts_has : {X : Type 0} (p : X → Bool) (xs : List X) (x : X) → Has xs x → p x ≡ true → 1 ≤ count_by p xs
counts_has p xs x h t =
    let f = has_place (filter p xs) x (filter_has p xs x h t) in
    let inside = slice_get_within (filter p xs) f.0 x f.1 in
    let n = length-filter p xs in
    omega (arith, inside, n)

any_counts : {X : Type 0} (p : X → Bool) (xs : List X) → 1 ≤ count_by p xs → list_any p xs ≡ true
any_counts p xs some = step (list_any p xs) refl
  where
    step : (b : Bool) → list_any p xs ≡ b → b ≡ true
    step true q = refl
    step false q =
        let none = none_counts p xs (λ x h t. false≢true (sym q ∙ any_has p xs x h t)) in
        absurd (omega (arith, some, none))

fewer : {X : Type 0} (p q : X → Bool) (xs : List X) → count_by p (filter q xs) ≤ count_by p xs
fewer p q [] = omega arith
fewer {X} p q (x ∷ xs) = step (q x) (fewer p q xs)
  where
    step : (b : Bool) → count_by p (filter q xs) ≤ count_by p xs → count_by p (cond b (x ∷ filter q xs) (filter q xs)) ≤ count_by p (x ∷ xs)
    step true less =
        let a = sum_by-cons (λ (y : X). one_if (p y)) x (filter q xs) in
        let b = sum_by-cons (λ (y : X). one_if (p y)) x xs in
        omega (arith, less, a, b)
    step false less =
        let b = sum_by-cons (λ (y : X). one_if (p y)) x xs in
        omega (arith, less, b)

-- ---- a life that is over

module _ (tells : Bool) (start : Start) (lists : List (List Entry)) (rounds : List ToldRound) (over : IsOver tells start lists rounds) (told : List Step) (c : AreCheckpointsTold start lists rounds told) (lines : flat_map lines_in told ≡ all_lines rounds) where
  abbrev es : List Entry
  es = at lists log_lock

  hosts_has : (e : Entry) → Has es e → e.by.session ≡ start.sessions → Has (hosts_entries start lists) e
  hosts_has e h own = filter_has (λ (e : Entry). session_of e == start.sessions) es e h (eq-eqb e.by.session start.sessions own)

  -- some line or some checkpoint says that the log's volume failed
  pub failed : (down : ℕ) → IsDownAt start es down → IsTrue (has_failed_log told)
  failed down d =
      let e : Entry = record { by = d.by; kind = kinds.LogFault d.asked d.count } in
      let there : Has es e = subst (λ (t : List Entry). Has t e) (sym d.split) (has_right d.before (e ∷ d.rest) e (inl refl)) in
      ⊎_elim
      (λ (low : e.by.session < start.sessions).
      let n : ℕ = d.by.session in
      let said = (over.each n low).1.faults d.by d.asked d.count refl (has_contains es e there) in
      let mine : Has (lines_by n (all_lines rounds)) said.0 = subst (λ ls. Has ls said.0) (lines_told n rounds) (contains_has _ said.0 said.1) in
      let any : has_log_fault (all_lines rounds) ≡ true = any_has (λ (l : Line). is_log_fault l.reply) (all_lines rounds) said.0 (has_filter (is_line_of n) (all_lines rounds) said.0 mine).0 (ap is_log_fault said.3) in
      or_left (has_log_fault (flat_map lines_in told)) (list_any is_checkpoint_fault told) (subst (λ ls. has_log_fault ls ≡ true) (sym lines) any))
      (λ (his : IsHosts start e).
      let some = counts_has is_down_fault (hosts_entries start lists) e (hosts_has e there his.0) d.down in
      let same = c.faults in
      let any = any_counts is_checkpoint_fault told (omega (arith, some, same)) in
      ap (λ b. has_log_fault (flat_map lines_in told) || b) any ∙ or-true (has_log_fault (flat_map lines_in told)))
      (sessions_known start lists over.kept log_lock e (has_contains es e there))

  hosts_once : count_by is_down_fault (hosts_entries start lists) ≤ 1
  hosts_once =
      let less = fewer is_down_fault (λ (e : Entry). session_of e == start.sessions) es in
      let one = step (list_any is_down_fault es) refl in
      omega (arith, less, one)
    where
      step : (b : Bool) → list_any is_down_fault es ≡ b → count_by is_down_fault es ≤ 1
      step false q =
          let none = none_counts is_down_fault es (λ e h t. false≢true (sym q ∙ any_has is_down_fault es e h t)) in
          omega (arith, none)
      step true q =
          let f = has_any is_down_fault es q in
          let p = has_place es f.0 f.1 in
          once_counts is_down_fault es p.0 (λ i e there t. down_place start lists over.kept i p.0 e f.0 there p.1 t f.2)

  -- a line and the host don't both tell one
  not_both_tell : 1 ≤ log_faults (all_lines rounds) → 1 ≤ count_by is_down_fault (hosts_entries start lists) → ⊥
  not_both_tell a b =
      let f = has_any (λ (l : Line). is_log_fault l.reply) (all_lines rounds) (any_counts (λ (l : Line). is_log_fault l.reply) (all_lines rounds) a) in
      let m = met tells start lists rounds over f.0 f.1 f.2 in
      let g = has_any is_down_fault (hosts_entries start lists) (any_counts is_down_fault (hosts_entries start lists) b) in
      let own = has_filter (λ (e : Entry). session_of e == start.sessions) es g.0 g.1 in
      let same = down_entry start lists over.kept (flush_fault_by f.0.by m.count) g.0 (contains_has es (flush_fault_by f.0.by m.count) m.stands) own.0 refl g.2 in
      let low = known tells start lists rounds over f.0 f.1 in
      let host : g.0.by.session ≡ start.sessions = eqb-true g.0.by.session start.sessions own.1 in
      let both : f.0.by.session ≡ g.0.by.session = ap (λ (e : Entry). e.by.session) same in
      absurd (omega (arith, low, host, both))

  pub all_once : log_faults_in told ≤ 1
  all_once =
      let said : log_faults (flat_map lines_in told) ≡ log_faults (all_lines rounds) = ap log_faults lines in
      let a = faults_once tells start lists rounds over in
      let b = hosts_once in
      let same = c.faults in
      ⊎_elim
      (λ (none : log_faults (all_lines rounds) ≤ 0). omega (arith, said, none, b, same))
      (λ (some : 0 < log_faults (all_lines rounds)). ⊎_elim
      (λ (quiet : count_by is_down_fault (hosts_entries start lists) ≤ 0). omega (arith, said, a, quiet, same))
      (λ (loud : 0 < count_by is_down_fault (hosts_entries start lists)). absurd (not_both_tell (omega (arith, some)) (omega (arith, loud))))
      (le_or_over (count_by is_down_fault (hosts_entries start lists)) 0))
      (le_or_over (log_faults (all_lines rounds)) 0)
