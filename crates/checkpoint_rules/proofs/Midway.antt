-- From the sessions of a life to the least that is in the midst of something.
use Rattle.std.proofs.Common.{◌≡◌, ℕ, ◌<◌, ◌≤◌, List, [], ◌∷◌, Option, Some, None, length, get_or, ap, sym, ◌∙◌, ⊎_elim, arith}
use Rattle.std.proofs.lemmas.Bool.{cases_lt}
use Rattle.std.specs.List.{HoldsAt, filter, flat_map}
use Rattle.tx_events.specs.declared.refusal.Refusal.TheVariants as refusals
use Rattle.tx_events.proofs.ListSteps.{below_not, filter_none}
use Rattle.tx_model.specs.declared.report.Line.{Line}
use Rattle.tx_model.specs.Lines.{is_line_of}
use Rattle.tx_model.specs.Rounds.{lines_in}
use Rattle.tx_model.specs.Stance.{nothing_yet}
use Rattle.life_law.specs.Pending.{pending_from}
use Rattle.report_law.specs.Checkpoints.{IsCommitPending}
use Rattle.report_law.specs.Standing.{none, sure, unfinished, unfinished_from}
use Rattle.standing_rules.specs.declared.sessions.Session.{Session}
use Rattle.standing_rules.specs.Sessions.{AreBehind, IsBehind}
use Rattle.checkpoint_rules.specs.Asked.{IsLeast}
use Rattle.checkpoint_rules.specs.Behind.{Walked}
use Rattle.checkpoint_rules.specs.Midst.{AreFew, IsInCommit, IsInMulti, IsLeastIn, lived_behind}

-- a session past the last one has no line
no_lines : (lines : List Line) (s : ℕ) → AreFew lines → 64 ≤ s → filter (is_line_of s) lines ≡ []
no_lines lines s few past = filter_none (λ (l : Line). l.by.session < 64) (is_line_of s) lines (λ l f. let lt : l.by.session < s = omega arith in below_not l.by.session s lt) few

module _ (at : Walked) (all : List Session) (behind : AreBehind (lived_behind at) 64 all) (few : AreFew (flat_map lines_in at.before)) where
  no_commit : (s : ℕ) → 64 ≤ s → IsCommitPending at.j (flat_map lines_in at.before) s → ⊥
  no_commit s past p =
      let is = ap (pending_from at.j.life.recs at.j.life.events nothing_yet None) (no_lines (flat_map lines_in at.before) s few past) in
      let bad : None ≡ Some refusals.CommitPending = sym is ∙ p in
      absurd cc

  pub nothing_left : (s : ℕ) → 64 ≤ s → unfinished at.j.life.multis (flat_map lines_in at.before) s ≡ none
  nothing_left s past = ap (unfinished_from at.j.life.multis none) (no_lines (flat_map lines_in at.before) s few past)

  no_multi : (s : ℕ) → 64 ≤ s → unfinished at.j.life.multis (flat_map lines_in at.before) s ≡ sure → ⊥
  no_multi s past p = let bad : none ≡ sure = sym (nothing_left s past) ∙ p in absurd cc

  -- some session stands there
  one_of : (xs : List Session) (s : ℕ) → s < length xs → Session
  one_of [] s l = absurd (omega arith)
  one_of (x ∷ xs) s l = x

  -- what holds of a session where it stands
  module _ (P : Session → Type 0) (Q : ℕ → Type 0) (to : (s : ℕ) (x : Session) → IsBehind (lived_behind at) s x → P x → Q s) (from : (s : ℕ) (x : Session) → IsBehind (lived_behind at) s x → Q s → P x) (past : (s : ℕ) → 64 ≤ s → Q s → ⊥) where
    not_there : (s : ℕ) → s < 64 → HoldsAt (λ (x : Session). P x → ⊥) all s → Q s → ⊥
    not_there s l f q =
        let size = behind.size in
        let under : s < length all = omega arith in
        let d = one_of all s under in
        f d (from s (get_or all s d) (behind.each s l d) q)

    pub least_of : (o : Option ℕ) → IsLeastIn P all o → IsLeast Q o
    least_of None i =
        let size = behind.size in
        record {
          some = tt;
          below = tt;
          none = λ s q. ⊎_elim (λ (l : s < 64). let under : s < length all = omega arith in not_there s l (i.none s under) q) (λ (m : 64 ≤ s). past s m q) (cases_lt s 64);
        }
    least_of (Some n) i =
        let size = behind.size in
        let l : n < length all = i.some.0 in
        let under : n < 64 = omega arith in
        let d = one_of all n l in
        record {
          some = to n (get_or all n d) (behind.each n under d) (i.some.1 d);
          below = λ s m q. let less : s < 64 = omega arith in not_there s less (i.below s m) q;
          none = tt;
        }

  pub least_commit : (o : Option ℕ) → IsLeastIn IsInCommit all o → IsLeast (IsCommitPending at.j (flat_map lines_in at.before)) o
  least_commit o i = least_of IsInCommit (IsCommitPending at.j (flat_map lines_in at.before)) (λ s x b p. sym b.held ∙ p) (λ s x b q. b.held ∙ q) no_commit o i

  pub least_multi : (o : Option ℕ) → IsLeastIn IsInMulti all o → IsLeast (λ s. unfinished at.j.life.multis (flat_map lines_in at.before) s ≡ sure) o
  least_multi o i = least_of IsInMulti (λ s. unfinished at.j.life.multis (flat_map lines_in at.before) s ≡ sure) (λ s x b p. sym b.left ∙ p) (λ s x b q. b.left ∙ q) no_multi o i
