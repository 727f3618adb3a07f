-- A step of an image, at every moment of a call.
use Rattle.std.proofs.Common.{List, [], ap, append_assoc, ℕ, ◌++◌, ◌∙◌, ◌∷◌, ◌≡◌}
use Rattle.disk_core.specs.Moments.{leaves_weaker, run_then, started}
use Rattle.disk_core.specs.Pages.{Pages}
use Rattle.slru_bank.specs.Crash.{CrashLeaves, IsMixture, IsStepOf}
use Rattle.tx_core.specs.declared.entry.Entry.{Entry}
use Rattle.bank_follows.specs.Cells.{Cells, ImageShows, IsGoneOr, KeepsCalls}
use Rattle.bank_follows.specs.Moments.{BeginningsShown, KeepsMoments, MemberMoments, OffsetMoments, ParentMoments, ShowsBeginning, Throughout, XactMoments}
use Rattle.bank_follows.specs.Stores.{IsMemberAt, IsOffsetAt, IsParentAt, IsXactAt, member_cells, offset_cells, parent_cells, xact_cells}
use Rattle.bank_follows.proofs.Stores.{members_keep, offsets_keep, parents_keep, xact_keeps}

module _ {D : Type 0} (images : D → Pages → Type 0) (moment : D → ℕ) (left_at : D → ℕ → Pages → Type 0) where
  -- no call yet
  pub at_first : (P : Pages → Type 0) (d : D) → ((c : Pages) → left_at d (moment d) c → images d c) → ((c : Pages) → images d c → P c) → Throughout images moment left_at P d d
  at_first P d only_now has = record { now = has; each = started moment left_at d P (λ c left. has c (only_now c left)) }

  -- a call more, each step of which keeps P
  pub then_call : (P : Pages → Type 0) (step : Pages → Pages → Type 0) (d0 d1 d2 : D) → ((c d : Pages) → step c d → P c → P d)
      → Throughout images moment left_at P d0 d1 → CrashLeaves step images moment left_at d1 d2 → Throughout images moment left_at P d0 d2
  then_call P step d0 d1 d2 keeps so_far call =
      let of : (c : Pages) → IsStepOf step (images d1) c → P c = λ c is. keeps is.0 c is.2 (so_far.now is.0 is.1) in
      record {
        now = λ c left. of c (call.now c left);
        each = run_then moment left_at d0 d1 d2 P (IsStepOf step (images d1)) so_far.each call.each of;
      }

  module _ {I V : Type 0} (s : Cells I V) (Asked : ℕ → Type 0) (keeps : KeepsCalls s Asked) where
    goes_on : (es more before rest : List Entry) (d0 d1 d2 : D) → BeginningsShown images moment left_at s Asked es d0 d1 → es ++ more ≡ before ++ rest
        → Throughout images moment left_at (ImageShows s Asked before) d1 d2 → BeginningsShown images moment left_at s Asked (es ++ more) d0 d2
    goes_on es more before rest d0 d1 d2 so_far split section =
        let longer : (c : Pages) → ShowsBeginning s Asked es c → ShowsBeginning s Asked (es ++ more) c = λ c is. (is.0, is.1 ++ more, ap (λ (l : List Entry). l ++ more) is.2 ∙ append_assoc is.0 is.1 more, is.3) in
        run_then moment left_at d0 d1 d2 (ShowsBeginning s Asked (es ++ more)) (ImageShows s Asked before)
        (leaves_weaker moment left_at d0 d1 (ShowsBeginning s Asked es) (ShowsBeginning s Asked (es ++ more)) so_far longer) section.each
        (λ c shows. (before, rest, split, shows))

    pub keeps_moments : KeepsMoments images moment left_at s Asked
    keeps_moments = record {
      begins = λ es e d other only_now shows. at_first (ImageShows s Asked (es ++ e ∷ [])) d only_now (λ c left. keeps.begins es e c other (shows c left));
      calls = λ es e m d0 d1 d2 other between so_far call. then_call (ImageShows s Asked (es ++ e ∷ [])) (IsMixture m m) d0 d1 d2 (λ c d step. keeps.calls es e m c d other between step) so_far call;
      removes = λ es e m cutoff d0 d1 d2 other stands between so_far call.
          then_call (ImageShows s Asked (es ++ e ∷ [])) (IsGoneOr s cutoff m) d0 d1 d2 (λ c d step. keeps.removes es e m cutoff c d other stands between step) so_far call;
      flushes = λ es m d0 d1 map only_now shows call.
          then_call (ImageShows s Asked es) (IsMixture m m) d0 d0 d1 (λ c d step. keeps.flushes es m c d map step) (at_first (ImageShows s Asked es) d0 only_now shows) call;
      syncs = λ es e m d quiet map durable c left. keeps.syncs es e m c quiet map (durable c left);
      goes_on = goes_on;
    }

  pub xact_moments : XactMoments images moment left_at
  xact_moments start shown bank = keeps_moments (xact_cells start shown) (IsXactAt start bank) (xact_keeps start shown bank)

  pub parent_moments : ParentMoments images moment left_at
  parent_moments start bank = keeps_moments (parent_cells start) (IsParentAt start bank) (parents_keep start bank)

  pub offset_moments : OffsetMoments images moment left_at
  offset_moments start shown bank = keeps_moments (offset_cells start shown) (IsOffsetAt start bank) (offsets_keep start shown bank)

  pub member_moments : MemberMoments images moment left_at
  member_moments start shown bank = keeps_moments (member_cells start shown) (IsMemberAt start bank) (members_keep start shown bank)
